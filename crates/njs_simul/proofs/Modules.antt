-- The code of the body of a module runs as it means.
use Rattle.std.proofs.Common.{◌≡◌, ℕ, ◌+◌, List, [], ◌∷◌, None, refl, sym, subst}
use Rattle.njs_code.specs.declared.op.Kind.TheVariants as kind
use Rattle.njs_code.specs.declared.op.Op.{Op}
use Rattle.njs_meaning.specs.Primitives.{Undefined}
use Rattle.njs_meaning.specs.Values.{PlainValue, Simple}
use Rattle.njs_meaning.specs.State.{State, Gives}
use Rattle.njs_meaning.specs.Places.{Around}
use Rattle.njs_meaning.specs.References.{Expression}
use Rattle.njs_meaning.specs.Completions.{Completion, Normal, Returned, Broken, Continued, Statement, returned}
use Rattle.njs_meaning.specs.Parts.{Declared}
use Rattle.njs_meaning.specs.Functions.{with_declared}
use Rattle.njs_meaning.specs.Meaning.{Ending, Done, Exported, Ended, Item_means, ending_of, statement_item, export_item, after_item, run_items}
use Rattle.njs_simul.specs.Stacks.{Thrown, Stacks, Frame, context, with_operands, push, inner}
use Rattle.njs_simul.specs.Stacks as stacks
use Rattle.njs_simul.specs.Runs.{LeadsOut, over}
use Rattle.njs_simul.specs.Emission.{Here, op, deeper, Coded, value, value_size}
use Rattle.njs_simul.specs.EmissionOfStatements.{CodedStatement, CodedPart, at_start}
use Rattle.njs_simul.specs.Compiled.{items_in_turn, body_of}
use Rattle.njs_simul.specs.Fits.{Names, Good, Scoped}
use Rattle.njs_simul.specs.Laws.{Stands, EndsWith, Comes, Writes, Fine, Running, GoesOn, GoesOut, Follows, ExpressionTied, StatementTied}
use Rattle.njs_simul.proofs.FineFunctions.{EachStandsIn, fine_statement_item, fine_export_item}
use Rattle.njs_simul.proofs.Pairs.{Each}
use Rattle.njs_simul.proofs.Runs.{next, comes_then}
use Rattle.njs_simul.proofs.Steps.{front_op, front_then, front_none, behind_front, stands_kept, stands_push, over_some, step}
use Rattle.njs_simul.proofs.Sequences.{comes_over, value_writes, value_then}
use Rattle.njs_simul.specs.Program.{starting}
use Rattle.njs_simul.proofs.Bodies.{declares, comes_final, Final}

-- what follows an item, behind which the exported value stands
abbrev pub Goes_on : (env : Names) (unit : ℕ) → Running env unit → List Op → Stacks → PlainValue → Ending → State → Type 0
Goes_on env unit run rest st v Done t = GoesOn env unit run rest (push v st) t
Goes_on env unit run rest st v (Exported w) t = GoesOn env unit run rest (push w st) t
Goes_on env unit run rest st v (Ended w) t = Gives w t ≡ run.outcome

-- an item and its code
pub record ItemTied (env : Names) (unit : ℕ) (names : Around) (m : Item_means) (c : CodedPart) : Type 0 where
  pub writes : Writes c.size c.emit
  pub fine : Fine env unit names m
  pub runs : (run : Running env unit) (here : Here) (rest : List Op) (st : Stacks) (s : State) (v : PlainValue)
      → here.names ≡ names → here.around ≡ None → EndsWith run.code (c.emit (deeper 1 here) rest) → Stands env here st s
      → Comes run.outcome (Goes_on env unit run rest st v) (λ e t. GoesOut env unit run here (Thrown e) st t) (m (context run.frame st) s)
      → GoesOn env unit run (c.emit (deeper 1 here) rest) (push v st) s

module _ (env : Names) (unit : ℕ) (names : Around) where
  out_so : (run : Running env unit) (here : Here) (c : Completion) (st : Stacks) (t : State) → here.around ≡ None → Gives (returned c) t ≡ run.outcome → GoesOut env unit run here (stacks.Ended c) st t
  out_so run here c st t none is = subst (λ around. LeadsOut (Good env) run.frame run.code run.outcome around (stacks.Ended c) st t) (sym none) (over (stacks.Ended c) st t is)

  item_follows : (run : Running env unit) (here : Here) (rest : List Op) (st : Stacks) (v : PlainValue) (c : Completion) (t : State) → here.around ≡ None
      → Goes_on env unit run rest st v (ending_of c) t → Follows env unit run (deeper 1 here) rest (push v st) c t
  item_follows run here rest st v Normal t none g = g
  item_follows run here rest st v (Returned w) t none g = out_so run (deeper 1 here) (Returned w) (push v st) t none g
  item_follows run here rest st v (Broken label) t none g = out_so run (deeper 1 here) (Broken label) (push v st) t none g
  item_follows run here rest st v (Continued label) t none g = out_so run (deeper 1 here) (Continued label) (push v st) t none g

  pub statement_item_tied : (a : Statement) (c : CodedStatement) → StatementTied env unit names a c → ItemTied env unit names (statement_item a) (record { size = c.size; emit = c.emit [] })
  statement_item_tied a c t = record {
    writes = (t.with_labels []).writes;
    fine = fine_statement_item env unit names a (λ labels. (t.with_labels labels).fine);
    runs = λ run here rest st s v same none ends stands g.
        let x = context run.frame st in
        (t.with_labels []).runs run (deeper 1 here) rest (push v st) s same ends (stands_push env here st s v stands)
        (comes_over env unit run (deeper 1 here) st (push v st) (over_some (v ∷ []) st) (a [] x s) _
        (comes_then env run.outcome s (a [] x s) (λ c s. Gives (ending_of c) s) (Goes_on env unit run rest st v) (Follows env unit run (deeper 1 here) rest (push v st)) _
        ((t.with_labels []).fine x s run.fare run.unit_is (subst (λ n. Scoped n s.scopes (inner st.scopes)) same stands.scoped) stands.good)
        (λ d t fares g. item_follows run here rest st v d t none g) g));
  }

  pub export_item_tied : (a : Expression) (c : Coded) → ExpressionTied env unit names a c
      → ItemTied env unit names (export_item a) (record { size = value_size c + 1; emit = λ here rest. value c here (op kind.Nip (deeper 1 here) rest) })
  export_item_tied a c t = record {
    writes = λ here rest. front_then (value_size c) 1 (value c here (op kind.Nip (deeper 1 here) rest)) (op kind.Nip (deeper 1 here) rest) rest
        (value_writes c t.writes here (op kind.Nip (deeper 1 here) rest)) (front_op 0 _ rest rest (front_none rest));
    fine = fine_export_item env unit names a t.fine;
    runs = λ run here rest st s v same none ends stands g.
        let x = context run.frame st in let nip = op kind.Nip (deeper 1 (deeper 1 here)) rest in
        value_then env unit names a c t run (deeper 1 here) nip (push v st) s same (stands_push env here st s v stands) st (over_some (v ∷ []) st) (Goes_on env unit run rest st v)
        (λ w s. Gives (Exported w) s) ends
        (λ w t ends fares g. step env unit run kind.Nip (deeper 1 (deeper 1 here)) rest (push w (push v st)) t fares.good g) g;
  }

  after : (run : Running env unit) (here : Here) (st : Stacks) (v : PlainValue) (ms : List Item_means) (others : List Op) (e : Ending) (u : State)
      → ((w : PlainValue) → Comes run.outcome (Final env unit run) (λ e t. GoesOut env unit run here (Thrown e) st t) (run_items w ms (context run.frame st) u) → GoesOn env unit run others (push w st) u)
      → Comes run.outcome (Final env unit run) (λ e t. GoesOut env unit run here (Thrown e) st t) (after_item v e (λ w. run_items w ms (context run.frame st)) u) → Goes_on env unit run others st v e u
  after run here st v ms others Done u k g = k v g
  after run here st v ms others (Exported w) u k g = k w g
  after run here st v ms others (Ended w) u k g = g

  -- items one after the other, and the end
  pub items_run : (ms : List Item_means) (cs : List CodedPart) → Each (ItemTied env unit names) ms cs
      → (run : Running env unit) (here : Here) (st : Stacks) (s : State) (v : PlainValue) → here.names ≡ names → here.around ≡ None
      → EndsWith run.code (items_in_turn cs (deeper 1 here) (op kind.Return (deeper 1 here) [])) → Stands env here st s
      → Comes run.outcome (Final env unit run) (λ e t. GoesOut env unit run here (Thrown e) st t) (run_items v ms (context run.frame st) s)
      → GoesOn env unit run (items_in_turn cs (deeper 1 here) (op kind.Return (deeper 1 here) [])) (push v st) s
  items_run [] [] t run here st s v same none ends stands g =
      step env unit run kind.Return (deeper 1 here) [] (push v st) s stands.good (out_so run (deeper 1 here) (Returned v) st s none g)
  items_run (m ∷ ms) (c ∷ cs) t run here st s v same none ends stands g =
      let x = context run.frame st in let others = items_in_turn cs (deeper 1 here) (op kind.Return (deeper 1 here) []) in
      t.0.runs run here others st s v same none ends stands
      (comes_then env run.outcome s (m x s) (λ e. after_item v e (λ w. run_items w ms x)) (Final env unit run) (Goes_on env unit run others st v) _
      (t.0.fine x s run.fare run.unit_is (subst (λ n. Scoped n s.scopes (inner st.scopes)) same stands.scoped) stands.good)
      (λ e u fares g. after run here st v ms others e u (λ w g.
      items_run ms cs t.1 run here st u w same none (behind_front c.size run.code (c.emit (deeper 1 here) others) others (t.0.writes (deeper 1 here) others) ends) (stands_kept env here st s u stands fares) g) g) g)
  items_run [] (c ∷ cs) t run here st s v same none ends stands g = absurd t
  items_run (m ∷ ms) [] t run here st s v same none ends stands g = absurd t

-- the code of a module's body, from its first operation
pub module_runs : (env : Names) (unit : ℕ) (names : Around) (ds : List Declared) (ms : List Item_means) (cs : List CodedPart) → EachStandsIn env unit names ds → Each (ItemTied env unit names) ms cs
    → (run : Running env unit) (scope : ℕ) (s : State) → run.code ≡ body_of ds cs (at_start names) [] → Scoped names s.scopes scope → Good env s
    → with_declared ds (run_items (Simple Undefined) ms) (context run.frame (starting scope)) s ≡ run.outcome → GoesOn env unit run (body_of ds cs (at_start names) []) (starting scope) s
module_runs env unit names ds ms cs all tied run scope s code scoped good is =
    let here = at_start names in let st = starting scope in let x = context run.frame st in
    let last = items_in_turn cs (deeper 1 here) (op kind.Return (deeper 1 here) []) in
    let stands : Stands env here st s = record { operands = refl; scopes = refl; lists = refl; endings = refl; scoped = scoped; good = good } in
    declares env unit names run here st refl (Final env unit run) ds (op kind.Undefined here last) s (run_items (Simple Undefined) ms) all stands ([], code)
    (λ t ends fares c. step env unit run kind.Undefined here last st t fares.good
    (items_run env unit names ms cs tied run here st t (Simple Undefined) refl refl (next run.code _ last ends) (stands_kept env here st s t stands fares) c))
    (comes_final env unit run here st (with_declared ds (run_items (Simple Undefined) ms) x s) refl is)
