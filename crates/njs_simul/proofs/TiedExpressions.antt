-- Each expression and its code, by those of its parts.
use Rattle.std.proofs.Common.{◌≡◌, ℕ, suc, ◌+◌, List, [], ◌∷◌, ◌++◌, Bool, true, false, Option, Some, None, refl, sym, subst, ℤ, arith}
use Rattle.std.specs.Option.{option_map_or}
use Rattle.njs_tree.specs.declared.tree.BinaryOp.{BinaryOp}
use Rattle.njs_tree.specs.declared.tree.LogicalOp.{LogicalOp}
use Rattle.njs_tree.specs.declared.tree.UnaryOp.{UnaryOp}
use Rattle.njs_tree.specs.declared.tree.UnaryOp.TheVariants as sign
use Rattle.njs_tree.specs.declared.tree.UpdateOp.{UpdateOp}
use Rattle.njs_code.specs.declared.op.Kind.{Kind}
use Rattle.njs_code.specs.declared.op.Kind.TheVariants as kind
use Rattle.njs_code.specs.declared.op.Op.{Op}
use Rattle.njs_meaning.specs.Primitives.{Undefined, Null, Truth, Number, Characters}
use Rattle.njs_meaning.specs.Values.{PlainValue, Simple}
use Rattle.njs_meaning.specs.State.{State, Outcome, Gives, Throws, Spent, Asks, and_then}
use Rattle.njs_meaning.specs.Running.{Context, after, charge, Runs as Meaning}
use Rattle.njs_meaning.specs.Places.{Around}
use Rattle.njs_meaning.specs.References.{Of, Named, Expression, evaluated}
use Rattle.njs_meaning.specs.Scopes.{fixed, next_scope, with_scope}
use Rattle.njs_meaning.specs.Functions.{made_in}
use Rattle.njs_meaning.specs.Meaning as means
use Rattle.njs_meaning.specs.Meaning.{Made, is_value, this_value}
use Rattle.njs_simul.specs.Stacks.{Thrown, Stacks, Frame, context, with_operands, push}
use Rattle.njs_simul.specs.Step.{Goes, act, operands_of}
use Rattle.njs_simul.specs.Emission as emit
use Rattle.njs_simul.specs.Emission.{Here, Emits, op, deeper, Form, IsValue, IsName, IsMember, width, Coded, coded, value, value_size, values_size, elements, elements_size, fields, fields_size, with_length, begun}
use Rattle.njs_simul.specs.Compiled.{in_own_name}
use Rattle.njs_simul.specs.Fits.{Names}
use Rattle.njs_simul.specs.Laws.{Comes, Given, HasForm, Front, Fine, GoesOn, GoesOut, RunsAs, ExpressionTied}
use Rattle.njs_simul.proofs.FineExpressions as fine
use Rattle.njs_simul.proofs.FineExpressions.{EachFine, EachHeldFine, EachNamedFine}
use Rattle.njs_simul.proofs.Kept.{fares_refl}
use Rattle.njs_simul.proofs.Steps.{front_none, front_op, front_then, front_count, over_it, step, asks, begun_runs, begun_writes, Acts}
use Rattle.njs_simul.proofs.Sequences.{coded_tied, kept_front, assign_front, assign_writes, method_writes, delete_writes, type_writes, value_writes, given_begun}
use Rattle.njs_simul.proofs.Expressions as runs
use Rattle.njs_simul.proofs.Calls.{EachTied, each_fine, values_writes, calling_runs, making_runs}
use Rattle.njs_simul.proofs.Objects.{HeldTied, EachHeldTied, EachNamedTied, member_forms, index_forms, member_runs, index_runs, array_runs, object_runs, comes_formed, given_then}

sums : (a b n : ℕ) → a + suc (b + n) ≡ a + suc b + n
sums a b n = omega arith

module _ (env : Names) (unit : ℕ) (names : Around) where
  abbrev Tied : Expression → Coded → Type 0
  Tied m c = ExpressionTied env unit names m c

  -- ---- what is written

  then_value : (c : Coded) (m : Expression) (here : Here) (n : ℕ) (middle rest : List Op) → Tied m c → Front n middle rest → Front (value_size c + n) (value c here middle) rest
  then_value c m here n middle rest t f = front_then (value_size c) n (value c here middle) middle rest (value_writes c t.writes here middle) f

  then_target : (c : Coded) (m : Expression) (here : Here) (n : ℕ) (middle rest : List Op) → Tied m c → Front n middle rest → Front (c.size + n) (c.target here middle) rest
  then_target c m here n middle rest t f = front_then c.size n (c.target here middle) middle rest (t.writes here middle) f

  one : (o : Op) (rest : List Op) → Front 1 (o ∷ rest) rest
  one o rest = front_op 0 o rest rest (front_none rest)

  -- ---- one operation

  constant_tied : (k : Kind) (v : Frame → PlainValue) (m : Meaning PlainValue) → Fine env unit names m
      → ((frame : Frame) (st : Stacks) (s : State) → m (context frame st) s ≡ Gives (v frame) s)
      → ((frame : Frame) (code rest : List Op) (st : Stacks) (s : State) → act frame code k rest st s ≡ Goes rest (push (v frame) st) s)
      → ExpressionTied env unit names (λ x s. charge 1 (means.given m x) s) (emit.constant k)
  constant_tied k v m f gives acts = coded_tied env unit names m 1 (op k) (λ here rest. one _ rest) (fine.fine_given env unit names m f) (λ run here rest st s same ends stands c.
      step env unit run k here rest st s stands.good
      (subst (λ a. Acts env unit run here a) (sym (acts run.frame run.code rest st s))
      (subst (λ o. Comes run.outcome (λ v t. GoesOn env unit run rest (push v st) t) (λ e t. GoesOut env unit run here (Thrown e) st t) o) (gives run.frame st s) c)))

  abbrev given_value : PlainValue → Meaning PlainValue
  given_value v x s = Gives v s

  fine_given_value : (v : PlainValue) → Fine env unit names (given_value v)
  fine_given_value v x s fare same scoped good = fares_refl env s good

  pub value_tied : (k : Kind) (v : PlainValue) → ((frame : Frame) (code rest : List Op) (st : Stacks) (s : State) → act frame code k rest st s ≡ Goes rest (push v st) s)
      → Tied (means.begun (is_value v)) (emit.constant k)
  value_tied k v acts = constant_tied k (λ frame. v) (given_value v) (fine_given_value v) (λ frame st s. refl) acts

  pub number_tied : (n : ℤ) → Tied (means.begun (is_value (Simple (Number n)))) (emit.constant (kind.Num n))
  number_tied n = value_tied (kind.Num n) (Simple (Number n)) (λ frame code rest st s. refl)

  pub text_tied : (text : List ℕ) → Tied (means.begun (is_value (Simple (Characters text)))) (emit.constant (kind.Str text))
  text_tied text = value_tied (kind.Str text) (Simple (Characters text)) (λ frame code rest st s. refl)

  pub null_tied : Tied (means.begun (is_value (Simple Null))) (emit.constant kind.Null)
  null_tied = value_tied kind.Null (Simple Null) (λ frame code rest st s. refl)

  pub truth_tied : (b : Bool) → Tied (means.begun (is_value (Simple (Truth b)))) (emit.constant (kind.Bool b))
  truth_tied b = value_tied (kind.Bool b) (Simple (Truth b)) (λ frame code rest st s. refl)

  pub this_tied : Tied (means.begun this_value) (emit.constant kind.This)
  this_tied = constant_tied kind.This (λ frame. frame.this) (λ x s. Gives x.this s) (λ x s fare same scoped good. fares_refl env s good) (λ frame st s. refl) (λ frame code rest st s. refl)

  -- ---- names

  name_runs : (text : List ℕ) → RunsAs env unit names (HasForm (IsName text)) operands_of (λ x s. Gives (Named text) s) (λ here rest. rest)
  name_runs text run here rest st s same ends stands c = c refl

  pub name_tied : (text : List ℕ) → Tied (means.begun (λ x s. Gives (Named text) s)) (emit.name text)
  name_tied text = record {
    writes = λ here rest. one _ rest;
    fine = fine.fine_begun env unit names (λ x s. Gives (Named text) s) (fine.fine_name env unit names text);
    forms = λ x. given_begun (HasForm (IsName text)) (λ s. Gives (Named text) s) (λ s. refl);
    runs = begun_runs env unit names (HasForm (IsName text)) operands_of (λ x s. Gives (Named text) s) (λ here rest. rest) (name_runs text);
  }

  -- ---- operators

  pub comma_tied : (a b : Expression) (ca cb : Coded) → Tied a ca → Tied b cb → Tied (means.begun (means.comma a b)) (emit.comma ca cb)
  comma_tied a b ca cb ta tb = coded_tied env unit names _ _ _
      (λ here rest. then_value ca a here _ _ rest ta (front_op (value_size cb) _ _ rest (value_writes cb tb.writes here rest)))
      (fine.fine_comma env unit names a b ta.fine tb.fine) (runs.comma_runs env unit names a b ca cb ta tb)

  assign_tied : (a b : Expression) (ca cb : Coded) → Tied a ca → Tied b cb → Tied (means.begun (means.assign a b)) (emit.assign ca cb)
  assign_tied a b ca cb ta tb = coded_tied env unit names _ _ _
      (λ here rest. then_target ca a here _ _ rest ta (then_value cb b (deeper (width ca.form) here) 1 _ rest tb (assign_writes ca.form here rest)))
      (fine.fine_assign env unit names a b ta.fine tb.fine) (runs.assign_runs env unit names a b ca cb ta tb)

  assign_by_tied : (f : BinaryOp) (a b : Expression) (ca cb : Coded) → Tied a ca → Tied b cb → Tied (means.begun (means.assign_by f a b)) (emit.assign_by f ca cb)
  assign_by_tied f a b ca cb ta tb = coded_tied env unit names _ _ _
      (λ here rest. then_target ca a here _ _ rest ta (kept_front ca.form here _ _ rest
      (then_value cb b (deeper (suc (width ca.form)) here) 2 _ rest tb (front_op 1 _ _ rest (assign_writes ca.form here rest)))))
      (fine.fine_assign_by env unit names f a b ta.fine tb.fine) (runs.assign_by_runs env unit names f a b ca cb ta tb)

  pub assignment_tied : (f : Option BinaryOp) (a b : Expression) (ca cb : Coded) → Tied a ca → Tied b cb → Tied (means.begun (means.assignment f a b)) (emit.assignment f ca cb)
  assignment_tied None a b ca cb ta tb = assign_tied a b ca cb ta tb
  assignment_tied (Some f) a b ca cb ta tb = assign_by_tied f a b ca cb ta tb

  pub conditional_tied : (a b d : Expression) (ca cb cd : Coded) → Tied a ca → Tied b cb → Tied d cd → Tied (means.begun (means.conditional a b d)) (emit.conditional ca cb cd)
  conditional_tied a b d ca cb cd ta tb td = coded_tied env unit names _ _ _
      (λ here rest. then_value ca a here _ _ rest ta (front_op _ _ _ rest (then_value cb b here _ _ rest tb (front_op _ _ _ rest (value_writes cd td.writes here rest)))))
      (fine.fine_conditional env unit names a b d ta.fine tb.fine td.fine) (runs.conditional_runs env unit names a b d ca cb cd ta tb td)

  pub either_tied : (f : LogicalOp) (a b : Expression) (ca cb : Coded) → Tied a ca → Tied b cb → Tied (means.begun (means.either f a b)) (emit.either f ca cb)
  either_tied f a b ca cb ta tb = coded_tied env unit names _ _ _
      (λ here rest. then_value ca a here _ _ rest ta (front_op _ _ _ rest (value_writes cb tb.writes here rest)))
      (fine.fine_either env unit names f a b ta.fine tb.fine) (runs.either_runs env unit names f a b ca cb ta tb)

  pub both_tied : (f : BinaryOp) (a b : Expression) (ca cb : Coded) → Tied a ca → Tied b cb → Tied (means.begun (means.both f a b)) (emit.both f ca cb)
  both_tied f a b ca cb ta tb = coded_tied env unit names _ _ _
      (λ here rest. then_value ca a here _ _ rest ta (then_value cb b (deeper 1 here) 1 _ rest tb (one _ rest)))
      (fine.fine_both env unit names f a b ta.fine tb.fine) (runs.both_runs env unit names f a b ca cb ta tb)

  unary_tied : (f : UnaryOp) (a : Expression) (ca : Coded) → Tied a ca → Fine env unit names (means.given (after (evaluated a) (means.operate_one f)))
      → Tied (means.begun (means.given (after (evaluated a) (means.operate_one f)))) (coded (value_size ca + 1) (λ here rest. value ca here (op (kind.Unary f) (deeper 1 here) rest)))
  unary_tied f a ca ta fine = coded_tied env unit names _ _ _ (λ here rest. then_value ca a here 1 _ rest ta (one _ rest)) fine (runs.unary_runs env unit names f a ca ta)

  pub sole_tied : (f : UnaryOp) (a : Expression) (ca : Coded) → Tied a ca → Tied (means.begun (means.sole f a)) (emit.sole f ca)
  sole_tied sign.Delete a ca ta = coded_tied env unit names _ _ _ (λ here rest. then_target ca a here _ _ rest ta (delete_writes ca.form here rest)) (fine.fine_sole env unit names sign.Delete a ta.fine) (runs.delete_runs env unit names a ca ta)
  sole_tied sign.TypeOf a ca ta = coded_tied env unit names _ _ _ (λ here rest. then_target ca a here _ _ rest ta (type_writes ca.form here rest)) (fine.fine_sole env unit names sign.TypeOf a ta.fine) (runs.type_runs env unit names a ca ta)
  sole_tied sign.Void a ca ta = unary_tied sign.Void a ca ta (fine.fine_sole env unit names sign.Void a ta.fine)
  sole_tied sign.Plus a ca ta = unary_tied sign.Plus a ca ta (fine.fine_sole env unit names sign.Plus a ta.fine)
  sole_tied sign.Minus a ca ta = unary_tied sign.Minus a ca ta (fine.fine_sole env unit names sign.Minus a ta.fine)
  sole_tied sign.BitNot a ca ta = unary_tied sign.BitNot a ca ta (fine.fine_sole env unit names sign.BitNot a ta.fine)
  sole_tied sign.Not a ca ta = unary_tied sign.Not a ca ta (fine.fine_sole env unit names sign.Not a ta.fine)

  pub stepping_tied : (f : UpdateOp) (prefix : Bool) (a : Expression) (ca : Coded) → Tied a ca → Tied (means.begun (means.stepping f prefix a)) (emit.stepping f prefix ca)
  stepping_tied f true a ca ta = coded_tied env unit names _ _ _
      (λ here rest. then_target ca a here 4 _ rest ta (kept_front ca.form here 3 _ rest (front_op 2 _ _ rest (front_op 1 _ _ rest (assign_writes ca.form here rest)))))
      (fine.fine_stepping env unit names f true a ta.fine) (runs.prefix_runs env unit names f a ca ta)
  stepping_tied f false a ca ta = coded_tied env unit names _ _ _
      (λ here rest. then_target ca a here 6 _ rest ta (kept_front ca.form here 5 _ rest (front_op 4 _ _ rest (front_op 3 _ _ rest (front_op 2 _ _ rest
      (assign_front ca.form (deeper 1 here) 1 _ rest (one _ rest)))))))
      (fine.fine_stepping env unit names f false a ta.fine) (runs.postfix_runs env unit names f a ca ta)

  -- ---- calls

  pub calling_tied : (a : Expression) (ms : List Expression) (ca : Coded) (cs : List Coded) → Tied a ca → EachTied env unit names ms cs → Tied (means.begun (means.calling a ms)) (emit.calling ca cs)
  calling_tied a ms ca cs ta ts = coded_tied env unit names _ _ _
      (λ here rest. then_target ca a here _ _ rest ta (front_then _ _ _ _ rest (method_writes ca.form here _) (front_then _ 1 _ _ rest (values_writes env unit names ms cs ts (deeper 2 here) _) (one _ rest))))
      (fine.fine_calling env unit names a ms ta.fine (each_fine env unit names ms cs ts)) (calling_runs env unit names a ms ca cs ta ts)

  pub making_tied : (a : Expression) (ms : List Expression) (ca : Coded) (cs : List Coded) → Tied a ca → EachTied env unit names ms cs → Tied (means.begun (means.making a ms)) (emit.making ca cs)
  making_tied a ms ca cs ta ts = coded_tied env unit names _ _ _
      (λ here rest. then_value ca a here _ _ rest ta (front_then _ 1 _ _ rest (values_writes env unit names ms cs ts (deeper 1 here) _) (one _ rest)))
      (fine.fine_making env unit names a ms ta.fine (each_fine env unit names ms cs ts)) (making_runs env unit names a ms ca cs ta ts)

  -- ---- members

  pub member_tied : (a : Expression) (ca : Coded) (name : List ℕ) → Tied a ca → Tied (means.begun (means.member a name)) (emit.member ca name)
  member_tied a ca name ta = record {
    writes = begun_writes _ _ (λ here rest. then_value ca a here 2 _ rest ta (front_op 1 _ _ rest (one _ rest)));
    fine = fine.fine_begun env unit names (means.member a name) (fine.fine_member env unit names a name ta.fine);
    forms = λ x. given_begun (HasForm IsMember) (means.member a name x) (member_forms env unit names a name x);
    runs = begun_runs env unit names (HasForm IsMember) operands_of (means.member a name) _ (member_runs env unit names a ca name ta);
  }

  pub index_tied : (a b : Expression) (ca cb : Coded) → Tied a ca → Tied b cb → Tied (means.begun (means.index a b)) (emit.index ca cb)
  index_tied a b ca cb ta tb = record {
    writes = begun_writes _ _ (λ here rest. then_value ca a here _ _ rest ta (then_value cb b (deeper 1 here) 1 _ rest tb (one _ rest)));
    fine = fine.fine_begun env unit names (means.index a b) (fine.fine_index env unit names a b ta.fine tb.fine);
    forms = λ x. given_begun (HasForm IsMember) (means.index a b x) (index_forms env unit names a b x);
    runs = begun_runs env unit names (HasForm IsMember) operands_of (means.index a b) _ (index_runs env unit names a b ca cb ta tb);
  }

  -- ---- arrays and objects

  elements_writes : (ms : List (Option Expression)) (cs : List (Option Coded)) → EachHeldTied env unit names ms cs → (i : ℕ) (here : Here) (n : ℕ) (middle rest : List Op) → Front n middle rest
      → Front (elements_size cs + n) (elements i cs here middle) rest
  elements_writes [] [] t i here n middle rest f = front_count n (0 + n) middle rest (omega arith) f
  elements_writes (None ∷ ms) (None ∷ cs) t i here n middle rest f = elements_writes ms cs t.1 (i + 1) here n middle rest f
  elements_writes (Some a ∷ ms) (Some c ∷ cs) t i here n middle rest f =
      front_count _ _ _ rest (sums (value_size c) (elements_size cs) n)
      (then_value c a (deeper 1 here) _ _ rest t.0 (front_op _ _ _ rest (elements_writes ms cs t.1 (i + 1) here n middle rest f)))
  elements_writes [] (c ∷ cs) t i here n middle rest f = absurd t
  elements_writes (m ∷ ms) [] t i here n middle rest f = absurd t
  elements_writes (None ∷ ms) (Some c ∷ cs) t i here n middle rest f = absurd t.0
  elements_writes (Some a ∷ ms) (None ∷ cs) t i here n middle rest f = absurd t.0

  held_fine : (m : Option Expression) (c : Option Coded) → HeldTied env unit names m c → fine.HeldFine env unit names m
  held_fine None None t = tt
  held_fine (Some m) (Some c) t = t.fine
  held_fine None (Some c) t = absurd t
  held_fine (Some m) None t = absurd t

  each_held_fine : (ms : List (Option Expression)) (cs : List (Option Coded)) → EachHeldTied env unit names ms cs → EachHeldFine env unit names ms
  each_held_fine [] [] t = tt
  each_held_fine (m ∷ ms) (c ∷ cs) t = (held_fine m c t.0, each_held_fine ms cs t.1)
  each_held_fine [] (c ∷ cs) t = absurd t
  each_held_fine (m ∷ ms) [] t = absurd t

  pub array_tied : (ms : List (Option Expression)) (cs : List (Option Coded)) → EachHeldTied env unit names ms cs → Tied (means.begun (means.array ms)) (emit.array cs)
  array_tied ms cs ts = coded_tied env unit names _ _ _
      (λ here rest. front_op _ _ _ rest (elements_writes ms cs ts 0 here 5 _ rest (front_op 4 _ _ rest (front_op 3 _ _ rest (front_op 2 _ _ rest (front_op 1 _ _ rest (one _ rest)))))))
      (fine.fine_array env unit names ms (each_held_fine ms cs ts)) (array_runs env unit names ms cs ts)

  fields_writes : (ms : List (List ℕ × Expression)) (cs : List (List ℕ × Coded)) → EachNamedTied env unit names ms cs → (here : Here) (rest : List Op) → Front (fields_size cs) (fields cs here rest) rest
  fields_writes [] [] t here rest = front_none rest
  fields_writes (m ∷ ms) (c ∷ cs) t here rest = then_value c.1 m.1 (deeper 1 here) _ _ rest t.0.1 (front_op _ _ _ rest (fields_writes ms cs t.1 here rest))
  fields_writes [] (c ∷ cs) t here rest = absurd t
  fields_writes (m ∷ ms) [] t here rest = absurd t

  each_named_fine : (ms : List (List ℕ × Expression)) (cs : List (List ℕ × Coded)) → EachNamedTied env unit names ms cs → EachNamedFine env unit names ms
  each_named_fine [] [] t = tt
  each_named_fine (m ∷ ms) (c ∷ cs) t = (t.0.1.fine, each_named_fine ms cs t.1)
  each_named_fine [] (c ∷ cs) t = absurd t
  each_named_fine (m ∷ ms) [] t = absurd t

  pub object_tied : (ms : List (List ℕ × Expression)) (cs : List (List ℕ × Coded)) → EachNamedTied env unit names ms cs → Tied (means.begun (means.object ms)) (emit.object cs)
  object_tied ms cs ts = coded_tied env unit names _ _ _
      (λ here rest. front_op _ _ _ rest (fields_writes ms cs ts here rest))
      (fine.fine_object env unit names ms (each_named_fine ms cs ts)) (object_runs env unit names ms cs ts)

  -- ---- functions

  given_function : (name : List ℕ) (made : Made) (x : Context) (s : State) → Given (HasForm IsValue) (means.function_named name made x s)
  given_function name made x s = given_then (HasForm IsValue) (made_in (next_scope s) made.number made.params x (with_scope x.scope (fixed name (Simple Undefined) ∷ []) s)) _ (λ f t. (f, refl))

  given_of : (f : State → State) (o : Outcome PlainValue) → Given (HasForm IsValue) (and_then o (λ v s. Gives (Of v) (f s)))
  given_of f (Gives v s) = (v, refl)
  given_of f (Throws v s) = tt
  given_of f (Spent s) = tt
  given_of f (Asks zone q s) = tt

  forms_by : (name : Option (List ℕ)) (made : Made) (x : Context) (s : State) → Given (HasForm IsValue) (option_map_or (λ name. means.function_named name made) name (means.function_without_name made) x s)
  forms_by None made x s = given_of (λ s. s) _
  forms_by (Some name) made x s = given_function name made x s

  function_forms : (made : Made) (x : Context) (s : State) → Given (HasForm IsValue) (means.function made x s)
  function_forms made x s = forms_by made.name made x s

  pub function_tied : (made : Made) → env unit made.number ≡ in_own_name made.name names → Tied (means.begun (means.function made)) (emit.function made)
  function_tied made stands_in = record {
    writes = begun_writes 1 _ (λ here rest. one _ rest);
    fine = fine.fine_begun env unit names (means.function made) (fine.fine_function env unit names made stands_in);
    forms = λ x. given_begun (HasForm IsValue) (means.function made x) (function_forms made x);
    runs = begun_runs env unit names (HasForm IsValue) operands_of (means.function made) _ (λ run here rest st s same ends stands c.
        step env unit run (kind.Closure made.number made.params made.name) here rest st s stands.good
        (asks env unit run here (means.function made (context run.frame st) s) st st (λ r t. Goes rest (with_operands st (operands_of r ++ st.operands)) t) (over_it st)
        (comes_formed run.outcome (HasForm IsValue) (means.function made (context run.frame st) s) _ _ (function_forms made (context run.frame st) s) c)));
  }
