-- `for in` in a run.
use Rattle.std.proofs.Common.{◌≡◌, ℕ, suc, ◌+◌, List, [], ◌∷◌, ◌++◌, length, Bool, true, false, Option, Some, None, refl, ap, sym, subst, if◌then◌else◌, arith, nat_lt}
use Rattle.njs_code.specs.declared.op.Address.{Address}
use Rattle.njs_code.specs.declared.op.Kind.TheVariants as kind
use Rattle.njs_code.specs.declared.op.Op.{Op}
use Rattle.njs_meaning.specs.Primitives.{Characters}
use Rattle.njs_meaning.specs.Values.{PlainValue, Simple}
use Rattle.njs_meaning.specs.State.{State, Outcome, Gives, Spent, and_then}
use Rattle.njs_meaning.specs.Running.{Context, charge}
use Rattle.njs_meaning.specs.Places.{Around}
use Rattle.njs_meaning.specs.Members.{names_in, has_member}
use Rattle.njs_meaning.specs.References.{Expression, assigned}
use Rattle.njs_meaning.specs.Completions.{Completion, Normal, Returned, Broken, Continued, Statement, is_one_of, after_body}
use Rattle.njs_meaning.specs.Meaning as means
use Rattle.njs_simul.specs.Stacks.{Ending, Ended, Thrown, Stacks, context, with_operands, push}
use Rattle.njs_simul.specs.Step.{Action, Goes, from, on, act, operands_of, still_there, unless_empty}
use Rattle.njs_simul.specs.Emission.{Here, Emits, op, address, deeper, inside, width, assign_to, Coded, value, value_size}
use Rattle.njs_simul.specs.EmissionOfStatements.{CodedStatement, head_of, listing, next_name, turn_in, each_name}
use Rattle.njs_simul.specs.Fits.{Names, Good}
use Rattle.njs_simul.specs.Laws.{Stands, EndsWith, Comes, Writes, Running, GoesOn, GoesOut, ExpressionTied, Follows, RunsOn, PartTied, StatementTied}
use Rattle.njs_simul.proofs.FineSteps.{fared_assigned}
use Rattle.njs_simul.proofs.FineLoops.{fine_for_in}
use Rattle.njs_simul.proofs.Runs.{found, next, one_on, on_it, Over, comes_then}
use Rattle.njs_simul.proofs.Steps.{front_none, front_op, front_then, front_count, front_length, behind_front, stands_kept, stands_paid, paid, over_it, out_over, Acts, step, charges}
use Rattle.njs_simul.proofs.References.{assigns}
use Rattle.njs_simul.proofs.Sequences.{comes_over, assign_writes, value_writes, value_then, target_then}
use Rattle.njs_simul.proofs.Statements.{comes_in, ComesOn, statement_fine}
use Rattle.njs_simul.proofs.Regions.{takes, passes, part_in}

-- ---- a list of names

-- with the names that are left of a value
abbrev pub listed : PlainValue → List (List ℕ) → Stacks → Stacks
listed v left st = record st { lists = record { value = v; names = left } ∷ st.lists }

over_listed : (v : PlainValue) (left : List (List ℕ)) (st : Stacks) → Over st (listed v left st)
over_listed v left st = record { operands = on_it st.operands; scopes = on_it st.scopes; lists = one_on _ st.lists; endings = on_it st.endings }

stands_listed : (env : Names) (here : Here) (st : Stacks) (s : State) (v : PlainValue) (left : List (List ℕ)) → Stands env here st s → Stands env (listing here) (listed v left st) s
stands_listed env here st s v left h = record {
  operands = h.operands;
  scopes = h.scopes;
  lists = ap suc h.lists;
  endings = h.endings;
  scoped = h.scoped;
  good = h.good;
}

module _ (env : Names) (unit : ℕ) (names : Around) (labels : List (List ℕ)) (m : Expression) (ch : Coded) (th : ExpressionTied env unit names m ch)
    (body : Statement) (cs : CodedStatement) (ts : StatementTied env unit names body cs) where
  -- ---- what is written

  next_writes : Writes (ch.size + 3) (next_name ch)
  next_writes here rest =
      let drops = op kind.Drop (deeper 1 here) rest in
      let puts = assign_to ch.form here drops in
      let takes_it = op kind.NextName (deeper (width ch.form) here) puts in
      front_then ch.size 3 (ch.target here takes_it) takes_it rest (th.writes here takes_it)
      (front_op 2 _ puts rest
      (front_then 1 1 puts drops rest (assign_writes ch.form here drops) (front_op 0 _ rest rest (front_none rest))))

  turn_writes : (top past : Address) → Writes (suc (ch.size + 3 + (cs.size + 3))) (turn_in labels ch cs top past)
  turn_writes top past here rest =
      let end = op (kind.EndBody labels past) here (op (kind.MoreNames past) here (op (kind.Jump top) here rest)) in
      let within = cs.emit [] (inside end here) end in
      let names_it = next_name ch here within in
      front_op (ch.size + 3 + (cs.size + 3)) _ names_it rest
      (front_then (ch.size + 3) (cs.size + 3) names_it within rest (next_writes here within)
      (front_then cs.size 3 within end rest ((ts.with_labels []).writes (inside end here) end)
      (front_op 2 _ _ rest (front_op 1 _ _ rest (front_op 0 _ rest rest (front_none rest))))))

  each_writes : Writes (suc (suc (ch.size + (3 + (cs.size + 4))))) (each_name labels ch cs)
  each_writes here rest =
      let last = op kind.DropList here rest in
      let turn = turn_in labels ch cs (head_of (ch.size + (3 + (cs.size + 2))) last) (address last) here last in
      front_count (suc (suc (ch.size + 3 + (cs.size + 3)) + 1)) (suc (suc (ch.size + (3 + (cs.size + 4))))) (each_name labels ch cs here rest) rest (omega arith)
      (front_op (suc (ch.size + 3 + (cs.size + 3)) + 1) _ turn rest
      (front_then (suc (ch.size + 3 + (cs.size + 3))) 1 turn last rest (turn_writes (head_of (ch.size + (3 + (cs.size + 2))) last) (address last) here last)
      (front_op 0 _ rest rest (front_none rest))))

  -- ---- turns

  module _ (run : Running env unit) (out : Here) (rest : List Op) (st : Stacks) (same : out.names ≡ names) (ends : EndsWith run.code (each_name labels ch cs (listing out) rest)) (v : PlainValue) where
    abbrev x : Context
    x = context run.frame st

    abbrev here : Here
    here = listing out

    abbrev last : List Op
    last = op kind.DropList here rest

    abbrev past : Address
    past = address last

    abbrev top : Address
    top = head_of (ch.size + (3 + (cs.size + 2))) last

    abbrev jump : List Op
    jump = op (kind.Jump top) here last

    abbrev more : List Op
    more = op (kind.MoreNames past) here jump

    abbrev end : List Op
    end = op (kind.EndBody labels past) here more

    abbrev within : List Op
    within = cs.emit [] (inside end here) end

    abbrev drops : List Op
    drops = op kind.Drop (deeper 1 here) within

    abbrev puts : List Op
    puts = assign_to ch.form here drops

    abbrev takes_it : List Op
    takes_it = op kind.NextName (deeper (width ch.form) here) puts

    abbrev named : List Op
    named = ch.target here takes_it

    abbrev whole : List Op
    whole = op kind.Charge here named

    ends_whole : EndsWith run.code whole
    ends_whole = next run.code _ whole ends

    ends_named : EndsWith run.code named
    ends_named = next run.code _ named ends_whole

    ends_within : EndsWith run.code within
    ends_within = behind_front (ch.size + 3) run.code named within (next_writes here within) ends_named

    ends_end : EndsWith run.code end
    ends_end = behind_front cs.size run.code within end ((ts.with_labels []).writes (inside end here) end) ends_within

    ends_last : EndsWith run.code last
    ends_last = next run.code _ last (next run.code _ jump (next run.code _ more ends_end))

    last_at : from run.frame run.code past.0 ≡ last
    last_at = found run.frame run.code last ends_last

    top_at : from run.frame run.code top.0 ≡ whole
    top_at =
        let long : length whole ≡ suc (ch.size + 3 + (cs.size + 3)) + length last = front_length (suc (ch.size + 3 + (cs.size + 3))) whole last (turn_writes top past here last) in
        let same_place : length whole ≡ top.0 = omega (arith, long) in
        subst (λ n. from run.frame run.code n ≡ whole) same_place (found run.frame run.code whole ends_whole)

    -- what comes of the whole, and of what is left
    abbrev On : Outcome Completion → Type 0
    On o = ComesOn env unit run out st rest o

    abbrev left_to : List (List ℕ) → State → Outcome Completion
    left_to left s = means.each_name labels v m body left x s

    leaves : (left : List (List ℕ)) (s : State) → Good env s → GoesOn env unit run rest st s → GoesOn env unit run last (listed v left st) s
    leaves left s good d = step env unit run kind.DropList here rest (listed v left st) s good d

    lead : (e : Ending) (left : List (List ℕ)) (s : State) → GoesOut env unit run out e st s → GoesOut env unit run here e (listed v left st) s
    lead e left s d = out_over env unit run out e st (listed v left st) s (over_listed v left st) d

    -- an operation that goes on with the names that are left
    abbrev Goes_over : List (List ℕ) → List Op → Type 0
    Goes_over left after_code = (s : State) → Stands env out st s → On (left_to left s) → Acts env unit run here (act run.frame run.code (kind.MoreNames past) after_code (listed v left st) s)

    module _ (name : List ℕ) (left : List (List ℕ)) (again : Goes_over left jump) where
      abbrev with_left : Stacks
      with_left = listed v left st

      more_runs : (s : State) → Stands env out st s → On (left_to left s) → GoesOn env unit run more with_left s
      more_runs s stands d = step env unit run (kind.MoreNames past) here jump with_left s stands.good (again s stands d)

      broken_follows : (b : Bool) (label : Option (List ℕ)) (t : State) → Stands env out st t → is_one_of label labels ≡ b → On (Gives (if b then Normal else Broken label) t)
          → GoesOut env unit run (inside end here) (Ended (Broken label)) with_left t
      broken_follows true label t stands is d =
          takes env unit run here (kind.EndBody labels past) more with_left t (stands_listed env out st t v left stands) ends_end (Ended (Broken label)) (from run.frame run.code past.0) with_left
          (ap (λ b. if b then Some (from run.frame run.code past.0, with_left) else None) is) (subst (λ code. GoesOn env unit run code with_left t) (sym last_at) (leaves left t stands.good d))
      broken_follows false label t stands is d =
          passes env unit run here (kind.EndBody labels past) more with_left t (stands_listed env out st t v left stands) ends_end (Ended (Broken label))
          (ap (λ b. if b then Some (from run.frame run.code past.0, with_left) else None) is) (lead (Ended (Broken label)) left t d)

      continued_follows : (b : Bool) (label : Option (List ℕ)) (t : State) → Stands env out st t → is_one_of label labels ≡ b
          → On (if b then left_to left t else Gives (Continued label) t) → GoesOut env unit run (inside end here) (Ended (Continued label)) with_left t
      continued_follows true label t stands is d =
          takes env unit run here (kind.EndBody labels past) more with_left t (stands_listed env out st t v left stands) ends_end (Ended (Continued label)) more with_left
          (ap (λ b. if b then Some (more, with_left) else None) is) (more_runs t stands d)
      continued_follows false label t stands is d =
          passes env unit run here (kind.EndBody labels past) more with_left t (stands_listed env out st t v left stands) ends_end (Ended (Continued label))
          (ap (λ b. if b then Some (more, with_left) else None) is) (lead (Ended (Continued label)) left t d)

      body_follows : (d : Completion) (t : State) → Stands env out st t → On (after_body labels d (left_to left) t) → Follows env unit run (inside end here) end with_left d t
      body_follows Normal t stands d = step env unit run (kind.EndBody labels past) here more with_left t stands.good (more_runs t stands d)
      body_follows (Returned w) t stands d =
          passes env unit run here (kind.EndBody labels past) more with_left t (stands_listed env out st t v left stands) ends_end (Ended (Returned w)) refl (lead (Ended (Returned w)) left t d)
      body_follows (Broken label) t stands d = broken_follows (is_one_of label labels) label t stands refl d
      body_follows (Continued label) t stands d = continued_follows (is_one_of label labels) label t stands refl d

      abbrev inner_turn : State → Outcome Completion
      inner_turn t = and_then (body [] x t) (λ d. after_body labels d (left_to left))

      body_runs : (t : State) → Stands env out st t → On (inner_turn t) → GoesOn env unit run within with_left t
      body_runs t stands d =
          part_in env unit names (body []) (record { size = cs.size; emit = cs.emit [] }) (ts.with_labels []) run here end end with_left t same (stands_listed env out st t v left stands) ends_within
          (λ d u. On (after_body labels d (left_to left) u)) (λ w u. GoesOut env unit run out (Thrown w) st u)
          (λ d u ends fares g. body_follows d u (stands_kept env out st t u stands fares) g)
          (λ w u ends fares g. let stands_u = stands_kept env out st t u stands fares in
          passes env unit run here (kind.EndBody labels past) more with_left u (stands_listed env out st u v left stands_u) ends_end (Thrown w) refl (lead (Thrown w) left u g))
          (comes_in run.outcome (body [] x t) (λ d. after_body labels d (left_to left)) (Follows env unit run out rest st) _ d)

      abbrev before_it : Stacks
      before_it = listed v (name ∷ left) st

      abbrev outer_turn : State → Outcome Completion
      outer_turn t = and_then (m x t) (λ r t. and_then (assigned r (Simple (Characters name)) x t) (λ w. inner_turn))

      turn_runs : (s : State) → Stands env out st s → On (charge 1 outer_turn s) → GoesOn env unit run whole before_it s
      turn_runs s stands d =
          charges env unit run here named before_it s (Follows env unit run out rest st) (λ w u. GoesOut env unit run out (Thrown w) st u) outer_turn stands.good
          (λ d. let t = paid 1 s in let stands_t = stands_paid env 1 out st s stands in
          target_then env unit names m ch th run here takes_it before_it t same (stands_listed env out st t v (name ∷ left) stands_t) st (over_listed v (name ∷ left) st) (Follows env unit run out rest st)
          (λ r t. and_then (assigned r (Simple (Characters name)) x t) (λ w. inner_turn)) ends_named
          (λ r u has ends fares d. let stands_u = stands_kept env out st t u stands_t fares in
          step env unit run kind.NextName (deeper (width ch.form) here) puts (with_operands before_it (operands_of r ++ st.operands)) u fares.good
          (assigns env unit run here drops with_left u (stands_listed env out st u v left stands_u) ch.form r (Simple (Characters name)) has
          (comes_over env unit run here st with_left (over_listed v left st) (assigned r (Simple (Characters name)) x u) _
          (comes_then env run.outcome u (assigned r (Simple (Characters name)) x u) (λ w. inner_turn) (Follows env unit run out rest st) _ _ (fared_assigned env r (Simple (Characters name)) x u fares.good)
          (λ w y fares d. step env unit run kind.Drop (deeper 1 here) within (push w with_left) y fares.good (body_runs y (stands_kept env out st u y stands_u fares) d)) d)))) d) d

    -- names that aren't there any more are skipped
    more_by : (b : Bool) (name : List ℕ) (left : List (List ℕ)) (after_code : List Op) → ((s : State) (now : Stacks) → Good env s → GoesOn env unit run whole now s → GoesOn env unit run after_code now s)
        → (again : Goes_over left jump) → Goes_over left after_code → (s : State) → Stands env out st s → On (if b then charge 1 (outer_turn name left again) s else left_to left s)
        → Acts env unit run here (unless_empty (if b then name ∷ left else still_there v s.objects left)
        (λ now. Goes after_code (listed v now st) s) (Goes (from run.frame run.code past.0) (listed v [] st) s))
    more_by true name left after_code enter again go s stands d = enter s (listed v (name ∷ left) st) stands.good (turn_runs name left again s stands d)
    more_by false name left after_code enter again go s stands d = go s stands d

    goes_over : (left : List (List ℕ)) (after_code : List Op) → ((s : State) (now : Stacks) → Good env s → GoesOn env unit run whole now s → GoesOn env unit run after_code now s) → Goes_over left after_code
    goes_over [] after_code enter s stands d = subst (λ code. GoesOn env unit run code (listed v [] st) s) (sym last_at) (leaves [] s stands.good d)
    goes_over (name ∷ left) after_code enter s stands d =
        more_by (has_member name v s.objects) name left after_code enter (goes_over left jump jumps) (goes_over left after_code enter) s stands d
      where
        jumps : (s : State) (now : Stacks) → Good env s → GoesOn env unit run whole now s → GoesOn env unit run jump now s
        jumps s now good d = step env unit run (kind.Jump top) here last now s good (subst (λ code. GoesOn env unit run code now s) (sym top_at) d)

    pub each_runs : (left : List (List ℕ)) (s : State) → Stands env out st s → On (left_to left s) → GoesOn env unit run (each_name labels ch cs here rest) (listed v left st) s
    each_runs left s stands d =
        step env unit run (kind.MoreNames past) here whole (listed v left st) s stands.good (goes_over left whole (λ s now good d. d) s stands d)

-- ---- the whole

module _ (env : Names) (unit : ℕ) (names : Around) where
  -- ticks for what is then at hand
  charged_for : {A B : Type 0} (b : Bool) (run : Running env unit) (here : Here) (st : Stacks) (s t : State) (a : A) (go : A → State → Action) (goal : B → State → Type 0) (thrown : PlainValue → State → Type 0) (r : Outcome B)
      → (Comes run.outcome goal thrown r → Acts env unit run here (go a t))
      → Comes run.outcome goal thrown (if b then Spent s else r) → Acts env unit run here (on (if b then Spent s else Gives a t) st go)
  charged_for true run _ st s t a go goal thrown r next c = c
  charged_for false run _ st s t a go goal thrown r next c = next c

  abbrev pub for_in_emit : List (List ℕ) → Coded → Coded → CodedStatement → Emits
  for_in_emit labels ch cv cs here rest = value cv here (op kind.ListNames (deeper 1 here) (each_name labels ch cs (listing here) rest))

  abbrev pub for_in_size : Coded → Coded → CodedStatement → ℕ
  for_in_size ch cv cs = value_size cv + suc (suc (suc (ch.size + (3 + (cs.size + 4)))))

  module _ (m v : Expression) (body : Statement) (ch cv : Coded) (cs : CodedStatement) (th : ExpressionTied env unit names m ch) (tv : ExpressionTied env unit names v cv)
      (ts : StatementTied env unit names body cs) (labels : List (List ℕ)) where
    pub for_in_writes : Writes (for_in_size ch cv cs) (for_in_emit labels ch cv cs)
    for_in_writes here rest =
        let each = each_name labels ch cs (listing here) rest in let lists = op kind.ListNames (deeper 1 here) each in
        front_then (value_size cv) (suc (suc (suc (ch.size + (3 + (cs.size + 4)))))) (value cv here lists) lists rest (value_writes cv tv.writes here lists)
        (front_op (suc (suc (ch.size + (3 + (cs.size + 4))))) _ each rest (each_writes env unit names labels m ch th body cs ts (listing here) rest))

    pub for_in_runs : RunsOn env unit names (means.for_in m v body labels) (for_in_emit labels ch cv cs)
    for_in_runs run here rest st s same ends stands d =
        let x = context run.frame st in let each = each_name labels ch cs (listing here) rest in
        value_then env unit names v cv tv run here (op kind.ListNames (deeper 1 here) each) st s same stands st (over_it st) (Follows env unit run here rest st)
        (λ w. means.list_names labels w m body x) ends
        (λ w t ends fares d. let stands_t = stands_kept env here st s t stands fares in let found_names = names_in w t.objects in let count = length found_names in
        step env unit run kind.ListNames (deeper 1 here) each (push w st) t fares.good
        (charged_for (nat_lt t.ticks count) run (deeper 1 here) (push w st) t (paid count t) found_names (λ left s. Goes each (listed w left st) s) (Follows env unit run here rest st) _
        (means.each_name labels w m body found_names x (paid count t))
        (λ d. each_runs env unit names labels m ch th body cs ts run here rest st same (next run.code _ each ends) w found_names (paid count t) (stands_paid env count here st t stands_t) d) d)) d

    pub for_in_part : PartTied env unit names (means.for_in m v body labels) (record { size = for_in_size ch cv cs; emit = for_in_emit labels ch cv cs })
    for_in_part = record {
      writes = for_in_writes;
      fine = fine_for_in env unit names m v body th.fine tv.fine (statement_fine env unit names body cs ts) labels;
      runs = for_in_runs;
    }
