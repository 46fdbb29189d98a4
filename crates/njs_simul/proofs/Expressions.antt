-- The code of each expression runs as the expression means.
use Rattle.std.proofs.Common.{◌≡◌, ℕ, suc, List, [], ◌∷◌, ◌++◌, length, Bool, true, false, sym, subst, if◌then◌else◌}
use Rattle.njs_tree.specs.declared.tree.BinaryOp.{BinaryOp}
use Rattle.njs_tree.specs.declared.tree.LogicalOp.{LogicalOp}
use Rattle.njs_tree.specs.declared.tree.UnaryOp.{UnaryOp}
use Rattle.njs_tree.specs.declared.tree.UpdateOp.{UpdateOp}
use Rattle.njs_code.specs.declared.op.Kind.{Kind}
use Rattle.njs_code.specs.declared.op.Kind.TheVariants as kind
use Rattle.njs_code.specs.declared.op.Op.{Op}
use Rattle.njs_meaning.specs.Primitives.{Number}
use Rattle.njs_meaning.specs.Values.{PlainValue, Simple}
use Rattle.njs_meaning.specs.State.{State, Outcome, Gives, and_then}
use Rattle.njs_meaning.specs.Running.{choose, after, Runs as Meaning}
use Rattle.njs_meaning.specs.Conversions.{to_boolean}
use Rattle.njs_meaning.specs.Operations.{answered, stepped, leaves_out}
use Rattle.njs_meaning.specs.Places.{Around}
use Rattle.njs_meaning.specs.References.{Reference, Expression, value_of, assigned, deleted, evaluated}
use Rattle.njs_meaning.specs.Meaning.{operate, operate_one, type_of_reference, number_in, step_to}
use Rattle.njs_simul.specs.Stacks.{Thrown, Stacks, context, with_operands, push}
use Rattle.njs_simul.specs.Step.{Goes, act, operands_of, from}
use Rattle.njs_simul.specs.Emission as emit
use Rattle.njs_simul.specs.Emission.{Here, Emits, op, address, deeper, Form, IsValue, IsName, IsMember, width, fetch_kept, assign_to, delete_at, Coded, coded, value, value_size}
use Rattle.njs_simul.specs.Fits.{Names, Good}
use Rattle.njs_simul.specs.Laws.{Comes, HasForm, Running, GoesOn, GoesOut, ExpressionTied}
use Rattle.njs_simul.proofs.Runs.{found, next, comes_then, comes_handed}
use Rattle.njs_simul.proofs.Steps.{behind_front, stands_kept, stands_push, over_it, over_some, step, asks, Acts}
use Rattle.njs_simul.proofs.References.{assigns, fetches_kept, deletes, types_of}
use Rattle.njs_simul.proofs.FineSteps.{fared_value_of, fared_operate, fared_assigned, fared_answered, fared_number_in}
use Rattle.njs_simul.proofs.Sequences.{comes_over, ValueRuns, kept_writes, value_writes, value_then, target_then, value_last, stands_form}

module _ (env : Names) (unit : ℕ) (names : Around) where
  abbrev Tied : Expression → Coded → Type 0
  Tied m c = ExpressionTied env unit names m c

  -- ---- one operation

  constant_runs : (k : Kind) (m : Meaning PlainValue)
      → ((run : Running env unit) (here : Here) (rest : List Op) (st : Stacks) (s : State) → Good env s
      → Comes run.outcome (λ v t. GoesOn env unit run rest (push v st) t) (λ e t. GoesOut env unit run here (Thrown e) st t) (m (context run.frame st) s)
      → GoesOn env unit run (op k here rest) st s)
      → ValueRuns env unit names m (op k)
  constant_runs k m go run here rest st s same ends stands c = go run here rest st s stands.good c

  -- ---- two values

  pub comma_runs : (a b : Expression) (ca cb : Coded) → Tied a ca → Tied b cb
      → ValueRuns env unit names (after (evaluated a) (λ v. evaluated b)) (λ here rest. value ca here (op kind.Drop (deeper 1 here) (value cb here rest)))
  comma_runs a b ca cb ta tb run here rest st s same ends stands c =
      let x = context run.frame st in
      value_then env unit names a ca ta run here (op kind.Drop (deeper 1 here) (value cb here rest)) st s same stands st (over_it st) _ (λ v. evaluated b x) ends
      (λ v t ends fares c. step env unit run kind.Drop (deeper 1 here) (value cb here rest) (push v st) t fares.good
      (value_last env unit names b cb tb run here rest st t same (next run.code _ (value cb here rest) ends) (stands_kept env here st s t stands fares) c)) c

  pub both_runs : (f : BinaryOp) (a b : Expression) (ca cb : Coded) → Tied a ca → Tied b cb
      → ValueRuns env unit names (after (evaluated a) (λ v. after (evaluated b) (operate f v)))
      (λ here rest. value ca here (value cb (deeper 1 here) (op (kind.Binary f) (deeper 2 here) rest)))
  both_runs f a b ca cb ta tb run here rest st s same ends stands c =
      let x = context run.frame st in let last = op (kind.Binary f) (deeper 2 here) rest in
      value_then env unit names a ca ta run here (value cb (deeper 1 here) last) st s same stands st (over_it st) _ (λ v. after (evaluated b) (operate f v) x) ends
      (λ v t ends fares c.
      value_then env unit names b cb tb run (deeper 1 here) last (push v st) t same (stands_push env here st t v (stands_kept env here st s t stands fares)) st (over_some (v ∷ []) st) _
      (λ w. operate f v w x) ends
      (λ w u ends fares c. step env unit run (kind.Binary f) (deeper 2 here) rest (push w (push v st)) u fares.good
      (asks env unit run here (operate f v w x u) st st (λ v t. Goes rest (push v st) t) (over_it st) c)) c) c

  -- ---- assignments

  pub assign_runs : (a b : Expression) (ca cb : Coded) → Tied a ca → Tied b cb
      → ValueRuns env unit names (after a (λ r. after (evaluated b) (assigned r)))
      (λ here rest. ca.target here (value cb (deeper (width ca.form) here) (assign_to ca.form here rest)))
  assign_runs a b ca cb ta tb run here rest st s same ends stands c =
      let x = context run.frame st in let last = assign_to ca.form here rest in
      target_then env unit names a ca ta run here (value cb (deeper (width ca.form) here) last) st s same stands st (over_it st) _ (λ r. after (evaluated b) (assigned r) x) ends
      (λ r t has ends fares c. let stands' = stands_kept env here st s t stands fares in
      value_then env unit names b cb tb run (deeper (width ca.form) here) last (with_operands st (operands_of r ++ st.operands)) t same (stands_form env here st t ca.form r has stands') st
      (over_some (operands_of r) st) _ (λ v. assigned r v x) ends
      (λ v u ends fares c. assigns env unit run here rest st u (stands_kept env here st t u stands' fares) ca.form r v has c) c) c

  pub assign_by_runs : (f : BinaryOp) (a b : Expression) (ca cb : Coded) → Tied a ca → Tied b cb
      → ValueRuns env unit names (after a (λ r. after (value_of r) (λ v. after (evaluated b) (λ w. after (operate f v w) (assigned r)))))
      (λ here rest. ca.target here (fetch_kept ca.form here (value cb (deeper (suc (width ca.form)) here)
      (op (kind.Binary f) (deeper (suc (suc (width ca.form))) here) (assign_to ca.form here rest)))))
  assign_by_runs f a b ca cb ta tb run here rest st s same ends stands c =
      let x = context run.frame st in let last = assign_to ca.form here rest in
      let operation = op (kind.Binary f) (deeper (suc (suc (width ca.form))) here) last in
      let right = value cb (deeper (suc (width ca.form)) here) operation in
      target_then env unit names a ca ta run here (fetch_kept ca.form here right) st s same stands st (over_it st) _
      (λ r. after (value_of r) (λ v. after (evaluated b) (λ w. after (operate f v w) (assigned r))) x) ends
      (λ r t has ends fares c. let stands' = stands_kept env here st s t stands fares in let low = with_operands st (operands_of r ++ st.operands) in
      fetches_kept env unit run here right st t stands' ca.form r has
      (comes_then env run.outcome t (value_of r x t) (λ v. after (evaluated b) (λ w. after (operate f v w) (assigned r)) x) _ _ _ (fared_value_of env r x t fares.good)
      (λ v u fares c. let stands'' = stands_kept env here st t u stands' fares in
      value_then env unit names b cb tb run (deeper (suc (width ca.form)) here) operation (push v low) u same
      (stands_push env (deeper (width ca.form) here) low u v (stands_form env here st u ca.form r has stands'')) st (over_some (v ∷ operands_of r) st) _
      (λ w. after (operate f v w) (assigned r) x) (behind_front 1 run.code (fetch_kept ca.form here right) right (kept_writes ca.form here right) ends)
      (λ w y ends fares c. let stands3 = stands_kept env here st u y stands'' fares in
      step env unit run (kind.Binary f) (deeper (suc (suc (width ca.form))) here) last (push w (push v low)) y fares.good
      (asks env unit run here (operate f v w x y) low st (λ v t. Goes last (push v low) t) (over_some (operands_of r) st)
      (comes_then env run.outcome y (operate f v w x y) (λ z. assigned r z x) _ _ _ (fared_operate env x run.fare f v w y fares.good)
      (λ z y' fares c. assigns env unit run here rest st y' (stands_kept env here st y y' stands3 fares) ca.form r z has c) c))) c) c)) c

  -- ---- choices

  chosen : (b : Bool) (run : Running env unit) (here : Here) (next other whole : List Op) (st : Stacks) (s : State) (f g : State → Outcome PlainValue) (goal : PlainValue → State → Type 0) (thrown : PlainValue → State → Type 0)
      → whole ≡ other
      → (Comes run.outcome goal thrown (f s) → GoesOn env unit run next st s) → (Comes run.outcome goal thrown (g s) → GoesOn env unit run other st s)
      → Comes run.outcome goal thrown (choose b f g s) → Acts env unit run here (if b then Goes next st s else Goes whole st s)
  chosen true run here next other whole st s f g goal thrown is one two c = one c
  chosen false run here next other whole st s f g goal thrown is one two c = subst (λ code. GoesOn env unit run code st s) (sym is) (two c)

  pub conditional_runs : (a b d : Expression) (ca cb cd : Coded) → Tied a ca → Tied b cb → Tied d cd
      → ValueRuns env unit names (after (evaluated a) (λ v x. choose (to_boolean v) (evaluated b x) (evaluated d x)))
      (λ here rest. value ca here (op (kind.JumpFalse (address (value cd here rest))) (deeper 1 here) (value cb here (op (kind.Jump (address rest)) (deeper 1 here) (value cd here rest)))))
  conditional_runs a b d ca cb cd ta tb td run here rest st s same ends stands c =
      let x = context run.frame st in let other = value cd here rest in
      let jump = op (kind.Jump (address rest)) (deeper 1 here) other in let first = value cb here jump in
      value_then env unit names a ca ta run here (op (kind.JumpFalse (address other)) (deeper 1 here) first) st s same stands st (over_it st) _ (λ v. choose (to_boolean v) (evaluated b x) (evaluated d x)) ends
      (λ v t ends fares c.
      let stands' = stands_kept env here st s t stands fares in
      let ends_first = next run.code _ first ends in
      let ends_jump = behind_front (value_size cb) run.code first jump (value_writes cb tb.writes here jump) ends_first in
      let ends_other = next run.code _ other ends_jump in
      let ends_rest = behind_front (value_size cd) run.code other rest (value_writes cd td.writes here rest) ends_other in
      step env unit run (kind.JumpFalse (address other)) (deeper 1 here) first (push v st) t fares.good
      (chosen (to_boolean v) run here first other (from run.frame run.code (length other)) st t (evaluated b x) (evaluated d x) _ _ (found run.frame run.code other ends_other)
      (λ c. value_then env unit names b cb tb run here jump st t same stands' st (over_it st) _ Gives ends_first
      (λ w u ends fares c. step env unit run (kind.Jump (address rest)) (deeper 1 here) other (push w st) u fares.good
      (subst (λ code. GoesOn env unit run code (push w st) u) (sym (found run.frame run.code rest ends_rest)) c))
      (comes_handed run.outcome (evaluated b x t) _ _ c))
      (λ c. value_last env unit names d cd td run here rest st t same ends_other stands' c) c)) c

  left_out : (b : Bool) (run : Running env unit) (here : Here) (next other whole : List Op) (st : Stacks) (v : PlainValue) (s : State) (f : State → Outcome PlainValue) (goal : PlainValue → State → Type 0) (thrown : PlainValue → State → Type 0)
      → whole ≡ other
      → (goal v s → GoesOn env unit run other (push v st) s) → (Comes run.outcome goal thrown (f s) → GoesOn env unit run next st s)
      → Comes run.outcome goal thrown (choose b (Gives v) f s) → Acts env unit run here (if b then Goes whole (push v st) s else Goes next st s)
  left_out true run here next other whole st v s f goal thrown is one two c = subst (λ code. GoesOn env unit run code (push v st) s) (sym is) (one c)
  left_out false run here next other whole st v s f goal thrown is one two c = two c

  pub either_runs : (f : LogicalOp) (a b : Expression) (ca cb : Coded) → Tied a ca → Tied b cb
      → ValueRuns env unit names (after (evaluated a) (λ v x. choose (leaves_out f v) (Gives v) (evaluated b x)))
      (λ here rest. value ca here (op (kind.JumpLogical f (address rest)) (deeper 1 here) (value cb here rest)))
  either_runs f a b ca cb ta tb run here rest st s same ends stands c =
      let x = context run.frame st in let second = value cb here rest in
      value_then env unit names a ca ta run here (op (kind.JumpLogical f (address rest)) (deeper 1 here) second) st s same stands st (over_it st) _ (λ v. choose (leaves_out f v) (Gives v) (evaluated b x)) ends
      (λ v t ends fares c. let ends_second = next run.code _ second ends in
      let ends_rest = behind_front (value_size cb) run.code second rest (value_writes cb tb.writes here rest) ends_second in
      step env unit run (kind.JumpLogical f (address rest)) (deeper 1 here) second (push v st) t fares.good
      (left_out (leaves_out f v) run here second rest (from run.frame run.code (length rest)) st v t (evaluated b x) _ _ (found run.frame run.code rest ends_rest)
      (λ c. c) (λ c. value_last env unit names b cb tb run here rest st t same ends_second (stands_kept env here st s t stands fares) c) c)) c

  -- ---- operators of one value

  pub unary_runs : (f : UnaryOp) (a : Expression) (ca : Coded) → Tied a ca
      → ValueRuns env unit names (after (evaluated a) (operate_one f)) (λ here rest. value ca here (op (kind.Unary f) (deeper 1 here) rest))
  unary_runs f a ca ta run here rest st s same ends stands c =
      let x = context run.frame st in
      value_then env unit names a ca ta run here (op (kind.Unary f) (deeper 1 here) rest) st s same stands st (over_it st) _ (λ v. operate_one f v x) ends
      (λ v t ends fares c. step env unit run (kind.Unary f) (deeper 1 here) rest (push v st) t fares.good
      (asks env unit run here (operate_one f v x t) st st (λ v t. Goes rest (push v st) t) (over_it st) c)) c

  pub delete_runs : (a : Expression) (ca : Coded) → Tied a ca → ValueRuns env unit names (after a deleted) (λ here rest. ca.target here (delete_at ca.form here rest))
  delete_runs a ca ta run here rest st s same ends stands c =
      target_then env unit names a ca ta run here (delete_at ca.form here rest) st s same stands st (over_it st) _ (λ r. deleted r (context run.frame st)) ends
      (λ r t has ends fares c. deletes env unit run here rest st t (stands_kept env here st s t stands fares) ca.form r has c) c

  pub type_runs : (a : Expression) (ca : Coded) → Tied a ca → ValueRuns env unit names (after a type_of_reference) (λ here rest. ca.target here (emit.type_of ca.form here rest))
  type_runs a ca ta run here rest st s same ends stands c =
      target_then env unit names a ca ta run here (emit.type_of ca.form here rest) st s same stands st (over_it st) _ (λ r. type_of_reference r (context run.frame st)) ends
      (λ r t has ends fares c. types_of env unit run here rest st t (stands_kept env here st s t stands fares) ca.form r has c) c

  -- ---- `++` and `--`

  pub prefix_runs : (f : UpdateOp) (a : Expression) (ca : Coded) → Tied a ca
      → ValueRuns env unit names (after a (λ r. after (value_of r) (λ v. after (number_in v) (step_to true f r))))
      (λ here rest. ca.target here (fetch_kept ca.form here (op kind.ToNumber (deeper (suc (width ca.form)) here)
      (op (kind.Step f) (deeper (suc (width ca.form)) here) (assign_to ca.form here rest)))))
  prefix_runs f a ca ta run here rest st s same ends stands c =
      let x = context run.frame st in let last = assign_to ca.form here rest in let deep = deeper (suc (width ca.form)) here in
      let stepped_on = op (kind.Step f) deep last in let number = op kind.ToNumber deep stepped_on in
      target_then env unit names a ca ta run here (fetch_kept ca.form here number) st s same stands st (over_it st) _
      (λ r. after (value_of r) (λ v. after (number_in v) (step_to true f r)) x) ends
      (λ r t has ends fares c. let stands' = stands_kept env here st s t stands fares in let low = with_operands st (operands_of r ++ st.operands) in
      fetches_kept env unit run here number st t stands' ca.form r has
      (comes_then env run.outcome t (value_of r x t) (λ v. after (number_in v) (step_to true f r) x) _ _ _ (fared_value_of env r x t fares.good)
      (λ v u fares c. let stands2 = stands_kept env here st t u stands' fares in
      step env unit run kind.ToNumber deep stepped_on (push v low) u fares.good
      (asks env unit run here (number_in v x u) (push v low) st (λ n t. Goes stepped_on (push (Simple (Number n)) low) t) (over_some (v ∷ operands_of r) st)
      (comes_then env run.outcome u (number_in v x u) (λ n. step_to true f r n x) _ _ _ (fared_number_in env x run.fare v u fares.good)
      (λ n y fares c. let stands3 = stands_kept env here st u y stands2 fares in
      step env unit run (kind.Step f) deep last (push (Simple (Number n)) low) y fares.good
      (asks env unit run here (answered (stepped f n) y) low st (λ v t. Goes last (push v low) t) (over_some (operands_of r) st)
      (comes_then env run.outcome y (answered (stepped f n) y) (λ v s. and_then (assigned r v x s) (λ w s. Gives w s)) _ _ _ (fared_answered env (stepped f n) y fares.good)
      (λ v z fares c. let stands4 = stands_kept env here st y z stands3 fares in
      assigns env unit run here rest st z stands4 ca.form r v has
      (comes_then env run.outcome z (assigned r v x z) (λ w s. Gives w s) _ _ _ (fared_assigned env r v x z fares.good) (λ w z fares c. c) c)) c))) c))) c)) c

  -- the number also under the operands of a reference
  tucked : (run : Running env unit) (here : Here) (rest : List Op) (st : Stacks) (s : State) (form : Form) (r : Reference) (n : PlainValue) → HasForm form r
      → GoesOn env unit run rest (push n (with_operands st (operands_of r ++ n ∷ st.operands))) s
      → Acts env unit run here (act run.frame run.code (kind.Tuck (width form)) rest (push n (with_operands st (operands_of r ++ st.operands))) s)
  tucked run here rest st s IsValue r n (v, is) go =
      subst (λ r. GoesOn env unit run rest (push n (with_operands st (operands_of r ++ n ∷ st.operands))) s
      → Acts env unit run here (act run.frame run.code (kind.Tuck 1) rest (push n (with_operands st (operands_of r ++ st.operands))) s)) (sym is) (λ go. go) go
  tucked run here rest st s (IsName name) r n is go =
      subst (λ r. GoesOn env unit run rest (push n (with_operands st (operands_of r ++ n ∷ st.operands))) s
      → Acts env unit run here (act run.frame run.code (kind.Tuck 0) rest (push n (with_operands st (operands_of r ++ st.operands))) s)) (sym is) (λ go. go) go
  tucked run here rest st s IsMember r n (base, name, is) go =
      subst (λ r. GoesOn env unit run rest (push n (with_operands st (operands_of r ++ n ∷ st.operands))) s
      → Acts env unit run here (act run.frame run.code (kind.Tuck 2) rest (push n (with_operands st (operands_of r ++ st.operands))) s)) (sym is) (λ go. go) go

  pub postfix_runs : (f : UpdateOp) (a : Expression) (ca : Coded) → Tied a ca
      → ValueRuns env unit names (after a (λ r. after (value_of r) (λ v. after (number_in v) (step_to false f r))))
      (λ here rest. ca.target here (fetch_kept ca.form here (op kind.ToNumber (deeper (suc (width ca.form)) here)
      (op (kind.Tuck (width ca.form)) (deeper (suc (width ca.form)) here) (op (kind.Step f) (deeper (suc (suc (width ca.form))) here)
      (assign_to ca.form (deeper 1 here) (op kind.Drop (deeper 2 here) rest)))))))
  postfix_runs f a ca ta run here rest st s same ends stands c =
      let x = context run.frame st in let drops = op kind.Drop (deeper 2 here) rest in let last = assign_to ca.form (deeper 1 here) drops in
      let deep = deeper (suc (width ca.form)) here in let deepest = deeper (suc (suc (width ca.form))) here in
      let stepped_on = op (kind.Step f) deepest last in let tuck = op (kind.Tuck (width ca.form)) deep stepped_on in let number = op kind.ToNumber deep tuck in
      target_then env unit names a ca ta run here (fetch_kept ca.form here number) st s same stands st (over_it st) _
      (λ r. after (value_of r) (λ v. after (number_in v) (step_to false f r)) x) ends
      (λ r t has ends fares c. let stands' = stands_kept env here st s t stands fares in let low = with_operands st (operands_of r ++ st.operands) in
      fetches_kept env unit run here number st t stands' ca.form r has
      (comes_then env run.outcome t (value_of r x t) (λ v. after (number_in v) (step_to false f r) x) _ _ _ (fared_value_of env r x t fares.good)
      (λ v u fares c. let stands2 = stands_kept env here st t u stands' fares in
      step env unit run kind.ToNumber deep tuck (push v low) u fares.good
      (asks env unit run here (number_in v x u) (push v low) st (λ n t. Goes tuck (push (Simple (Number n)) low) t) (over_some (v ∷ operands_of r) st)
      (comes_then env run.outcome u (number_in v x u) (λ n. step_to false f r n x) _ _ _ (fared_number_in env x run.fare v u fares.good)
      (λ n y fares c. let stands3 = stands_kept env here st u y stands2 fares in let old = Simple (Number n) in
      let base = push old st in let higher = with_operands st (operands_of r ++ old ∷ st.operands) in
      step env unit run (kind.Tuck (width ca.form)) deep stepped_on (push old low) y fares.good
      (tucked run here stepped_on st y ca.form r old has
      (step env unit run (kind.Step f) deepest last (push old higher) y fares.good
      (asks env unit run here (answered (stepped f n) y) higher base (λ v t. Goes last (push v higher) t) (over_some (operands_of r) base)
      (comes_over env unit run here st base (over_some (old ∷ []) st) (answered (stepped f n) y) _
      (comes_then env run.outcome y (answered (stepped f n) y) (λ v s. and_then (assigned r v x s) (λ w s. Gives old s)) _ _ _ (fared_answered env (stepped f n) y fares.good)
      (λ v z fares c. let stands4 = stands_kept env here st y z stands3 fares in
      assigns env unit run (deeper 1 here) drops base z (stands_push env here st z old stands4) ca.form r v has
      (comes_over env unit run here st base (over_some (old ∷ []) st) (assigned r v x z) _
      (comes_then env run.outcome z (assigned r v x z) (λ w s. Gives old s) _ _ _ (fared_assigned env r v x z fares.good)
      (λ w z fares c. step env unit run kind.Drop (deeper 2 here) rest (push w base) z fares.good c) c))) c)))))) c))) c)) c
