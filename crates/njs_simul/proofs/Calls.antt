-- The code of calls runs as they mean.
use Rattle.std.proofs.Common.{◌≡◌, ℕ, suc, List, [], ◌∷◌, ◌++◌, length, drop, reverse, map, refl, ap, sym, subst, ◌∙◌}
use Rattle.std.proofs.lemmas.List.{reverse-append, reverse-reverse, length-reverse, append_assoc}
use Rattle.std.proofs.Math.Seq.{drop-append_seam, take-append_seam}
use Rattle.njs_code.specs.declared.op.Kind.TheVariants as kind
use Rattle.njs_code.specs.declared.op.Op.{Op}
use Rattle.njs_meaning.specs.Values.{PlainValue}
use Rattle.njs_meaning.specs.State.{State, Outcome, Gives, and_then}
use Rattle.njs_meaning.specs.Running.{after, all_in_turn}
use Rattle.njs_meaning.specs.Places.{Around}
use Rattle.njs_meaning.specs.References.{Expression, value_of, this_of, evaluated}
use Rattle.njs_meaning.specs.Meaning.{call_with, construct_with}
use Rattle.njs_simul.specs.Stacks.{Thrown, Stacks, context, with_operands, push}
use Rattle.njs_simul.specs.Step.{Goes, act, finish, on_top, on_two}
use Rattle.njs_simul.specs.Emission.{Here, op, deeper, on as further, method, Coded, value, value_size, values, values_size}
use Rattle.njs_simul.specs.Fits.{Names, Fares}
use Rattle.njs_simul.specs.Laws.{Stands, EndsWith, Comes, Writes, Running, GoesOn, GoesOut, ExpressionTied}
use Rattle.njs_simul.proofs.Pairs.{Each}
use Rattle.njs_simul.proofs.FineExpressions.{EachFine}
use Rattle.njs_simul.proofs.FineSteps.{fared_value_of}
use Rattle.njs_simul.proofs.Kept.{fares_refl, fares_trans}
use Rattle.njs_simul.proofs.Runs.{Over, comes_then, joined, over_push}
use Rattle.njs_simul.proofs.Steps.{front_none, front_then, behind_front, stands_kept, stands_push, over_it, over_some, step, asks, Acts}
use Rattle.njs_simul.proofs.References.{methods}
use Rattle.njs_simul.proofs.Sequences.{ValueRuns, method_writes, value_writes, value_then, target_then}

-- each expression of a list and its code
abbrev pub EachTied : Names → ℕ → Around → List Expression → List Coded → Type 0
EachTied env unit names = Each (ExpressionTied env unit names)

pub each_fine : (env : Names) (unit : ℕ) (names : Around) (ms : List Expression) (cs : List Coded) → EachTied env unit names ms cs → EachFine env unit names ms
each_fine env unit names [] [] t = tt
each_fine env unit names (m ∷ ms) (c ∷ cs) t = (t.0.fine, each_fine env unit names ms cs t.1)
each_fine env unit names [] (c ∷ cs) t = absurd t
each_fine env unit names (m ∷ ms) [] t = absurd t

pub values_writes : (env : Names) (unit : ℕ) (names : Around) (ms : List Expression) (cs : List Coded) → EachTied env unit names ms cs → Writes (values_size cs) (values cs)
values_writes env unit names [] [] t here rest = front_none rest
values_writes env unit names (m ∷ ms) (c ∷ cs) t here rest =
    front_then (value_size c) (values_size cs) (value c here (values cs (deeper 1 here) rest)) (values cs (deeper 1 here) rest) rest
    (value_writes c t.0.writes here (values cs (deeper 1 here) rest)) (values_writes env unit names ms cs t.1 (deeper 1 here) rest)
values_writes env unit names [] (c ∷ cs) t here rest = absurd t
values_writes env unit names (m ∷ ms) [] t here rest = absurd t

turned : {A : Type 0} (v : A) (vs rest : List A) → reverse vs ++ (v ∷ rest) ≡ reverse (v ∷ vs) ++ rest
turned v vs rest =
    sym (append_assoc (reverse vs) (v ∷ []) rest) ∙ ap (λ xs. xs ++ rest) (sym (reverse-append (v ∷ []) vs))

-- values one after the other: the last is on top
pub values_run : (env : Names) (unit : ℕ) (names : Around) (ms : List Expression) (cs : List Coded) → EachTied env unit names ms cs
    → (run : Running env unit) (here : Here) (rest : List Op) (st : Stacks) (s : State) → here.names ≡ names → EndsWith run.code (values cs here rest) → Stands env here st s
    → (low : Stacks) → Over low st → {B : Type 0} (goal : B → State → Type 0) (f : List PlainValue → State → Outcome B)
    → ((vs : List PlainValue) (t : State) → length vs ≡ length cs → EndsWith run.code rest → Fares env s t → Comes run.outcome goal (λ e t. GoesOut env unit run here (Thrown e) low t) (f vs t)
    → GoesOn env unit run rest (with_operands st (reverse vs ++ st.operands)) t)
    → Comes run.outcome goal (λ e t. GoesOut env unit run here (Thrown e) low t) (and_then (all_in_turn (map evaluated ms) (context run.frame st) s) f)
    → GoesOn env unit run (values cs here rest) st s
values_run env unit names [] [] t run here rest st s same ends stands low more goal f go c = go [] s refl ends (fares_refl env s stands.good) c
values_run env unit names (m ∷ ms) (d ∷ cs) t run here rest st s same ends stands low more goal f go c =
    let x = context run.frame st in
    value_then env unit names m d t.0 run here (values cs (deeper 1 here) rest) st s same stands low more goal
    (λ v s. and_then (and_then (all_in_turn (map evaluated ms) x s) (λ vs s. Gives (v ∷ vs) s)) f) ends
    (λ v u ends fares c.
    values_run env unit names ms cs t.1 run (deeper 1 here) rest (push v st) u same ends (stands_push env here st u v (stands_kept env here st s u stands fares)) low (over_push v low st more) goal
    (λ vs s. f (v ∷ vs) s)
    (λ vs y count ends fares' c. subst (λ xs. GoesOn env unit run rest (with_operands st xs) y) (sym (turned v vs st.operands))
    (go (v ∷ vs) y (ap suc count) ends (fares_trans env fares fares') c))
    (joined run.outcome (all_in_turn (map evaluated ms) x u) (λ vs s. Gives (v ∷ vs) s) f goal _ c)) (joined run.outcome (evaluated m x s) (λ v s. and_then (all_in_turn (map evaluated ms) x s) (λ vs s. Gives (v ∷ vs) s)) f goal _ c)
values_run env unit names [] (c ∷ cs) t run here rest st s same ends stands low more goal f go d = absurd t
values_run env unit names (m ∷ ms) [] t run here rest st s same ends stands low more goal f go d = absurd t

module _ (env : Names) (unit : ℕ) (names : Around) where
  -- the arguments on the operands
  called : (run : Running env unit) (here : Here) (rest : List Op) (st : Stacks) (s : State) (f this : PlainValue) (vs : List PlainValue) (count : ℕ) → length vs ≡ count
      → Acts env unit run here (finish rest st (run.frame.calls.call f this vs s))
      → Acts env unit run here (act run.frame run.code (kind.Call count) rest (with_operands st (reverse vs ++ f ∷ this ∷ st.operands)) s)
  called run here rest st s f this vs count same go =
      let n : length (reverse vs) ≡ count = length-reverse vs ∙ same in
      let deep = f ∷ this ∷ st.operands in
      subst (λ k. Acts env unit run here (act run.frame run.code (kind.Call k) rest (with_operands st (reverse vs ++ deep)) s)) n
      (subst (λ xs. Acts env unit run here (on_two (drop (length (reverse vs)) (reverse vs ++ deep)) (λ this f ops. finish rest (with_operands st ops) (run.frame.calls.call f this (reverse xs) s)))) (sym (take-append_seam (reverse vs) deep))
      (subst (λ ys. Acts env unit run here (on_two ys (λ this f ops. finish rest (with_operands st ops) (run.frame.calls.call f this (reverse (reverse vs)) s)))) (sym (drop-append_seam (reverse vs) deep))
      (subst (λ args. Acts env unit run here (finish rest st (run.frame.calls.call f this args s))) (sym (reverse-reverse vs)) go)))

  made : (run : Running env unit) (here : Here) (rest : List Op) (st : Stacks) (s : State) (f : PlainValue) (vs : List PlainValue) (count : ℕ) → length vs ≡ count
      → Acts env unit run here (finish rest st (run.frame.calls.construct f vs s))
      → Acts env unit run here (act run.frame run.code (kind.New count) rest (with_operands st (reverse vs ++ f ∷ st.operands)) s)
  made run here rest st s f vs count same go =
      let n : length (reverse vs) ≡ count = length-reverse vs ∙ same in
      let deep = f ∷ st.operands in
      subst (λ k. Acts env unit run here (act run.frame run.code (kind.New k) rest (with_operands st (reverse vs ++ deep)) s)) n
      (subst (λ xs. Acts env unit run here (on_top (drop (length (reverse vs)) (reverse vs ++ deep)) (λ f ops. finish rest (with_operands st ops) (run.frame.calls.construct f (reverse xs) s)))) (sym (take-append_seam (reverse vs) deep))
      (subst (λ ys. Acts env unit run here (on_top ys (λ f ops. finish rest (with_operands st ops) (run.frame.calls.construct f (reverse (reverse vs)) s)))) (sym (drop-append_seam (reverse vs) deep))
      (subst (λ args. Acts env unit run here (finish rest st (run.frame.calls.construct f args s))) (sym (reverse-reverse vs)) go)))

  pub calling_runs : (a : Expression) (ms : List Expression) (ca : Coded) (cs : List Coded) → ExpressionTied env unit names a ca → EachTied env unit names ms cs
      → ValueRuns env unit names (after a (λ r. after (value_of r) (λ v. after (all_in_turn (map evaluated ms)) (call_with v (this_of r)))))
      (λ here rest. ca.target here (method ca.form here (values cs (deeper 2 here) (op (kind.Call (length cs)) (deeper (further (length cs) 2) here) rest))))
  calling_runs a ms ca cs ta ts run here rest st s same ends stands c =
      let x = context run.frame st in let last = op (kind.Call (length cs)) (deeper (further (length cs) 2) here) rest in
      let given = values cs (deeper 2 here) last in
      target_then env unit names a ca ta run here (method ca.form here given) st s same stands st (over_it st) _
      (λ r. after (value_of r) (λ v. after (all_in_turn (map evaluated ms)) (call_with v (this_of r))) x) ends
      (λ r t has ends fares c. let stands' = stands_kept env here st s t stands fares in
      methods env unit run here given st t stands' ca.form r has
      (comes_then env run.outcome t (value_of r x t) (λ v. after (all_in_turn (map evaluated ms)) (call_with v (this_of r)) x) _ _ _ (fared_value_of env r x t fares.good)
      (λ v u fares c. let stands2 = stands_kept env here st t u stands' fares in
      values_run env unit names ms cs ts run (deeper 2 here) last (push v (push (this_of r) st)) u same (behind_front _ run.code (method ca.form here given) given (method_writes ca.form here given) ends)
      (stands_push env (deeper 1 here) (push (this_of r) st) u v (stands_push env here st u (this_of r) stands2)) st (over_some (v ∷ this_of r ∷ []) st) _ (λ vs. call_with v (this_of r) vs x)
      (λ vs y count ends fares c. step env unit run (kind.Call (length cs)) (deeper (further (length cs) 2) here) rest (with_operands st (reverse vs ++ v ∷ this_of r ∷ st.operands)) y fares.good
      (called run here rest st y v (this_of r) vs (length cs) count
      (asks env unit run here (call_with v (this_of r) vs x y) st st (λ v t. Goes rest (push v st) t) (over_it st) c))) c) c)) c

  pub making_runs : (a : Expression) (ms : List Expression) (ca : Coded) (cs : List Coded) → ExpressionTied env unit names a ca → EachTied env unit names ms cs
      → ValueRuns env unit names (after (evaluated a) (λ v. after (all_in_turn (map evaluated ms)) (construct_with v)))
      (λ here rest. value ca here (values cs (deeper 1 here) (op (kind.New (length cs)) (deeper (further (length cs) 1) here) rest)))
  making_runs a ms ca cs ta ts run here rest st s same ends stands c =
      let x = context run.frame st in let last = op (kind.New (length cs)) (deeper (further (length cs) 1) here) rest in
      value_then env unit names a ca ta run here (values cs (deeper 1 here) last) st s same stands st (over_it st) _ (λ v. after (all_in_turn (map evaluated ms)) (construct_with v) x) ends
      (λ v t ends fares c.
      values_run env unit names ms cs ts run (deeper 1 here) last (push v st) t same ends (stands_push env here st t v (stands_kept env here st s t stands fares)) st (over_some (v ∷ []) st) _ (λ vs. construct_with v vs x)
      (λ vs y count ends fares c. step env unit run (kind.New (length cs)) (deeper (further (length cs) 1) here) rest (with_operands st (reverse vs ++ v ∷ st.operands)) y fares.good
      (made run here rest st y v vs (length cs) count
      (asks env unit run here (construct_with v vs x y) st st (λ v t. Goes rest (push v st) t) (over_it st) c))) c) c
