-- What expressions mean leads from good states to good ones, where what their parts mean does.
use Rattle.std.proofs.Common.{◌≡◌, ℕ, ◌+◌, List, [], ◌∷◌, length, map, Option, Some, None, Bool, false, refl, sym, subst}
use Rattle.std.specs.Option.{option_map_or}
use Rattle.std.specs.Fmt.{decimal}
use Rattle.njs_tree.specs.declared.tree.BinaryOp.{BinaryOp}
use Rattle.njs_tree.specs.declared.tree.LogicalOp.{LogicalOp}
use Rattle.njs_tree.specs.declared.tree.UnaryOp.{UnaryOp}
use Rattle.njs_tree.specs.declared.tree.UnaryOp.TheVariants as sign
use Rattle.njs_tree.specs.declared.tree.UpdateOp.{UpdateOp}
use Rattle.njs_value.specs.declared.Class.TheVariants as class
use Rattle.njs_value.specs.declared.ScopeId.{ScopeId}
use Rattle.njs_meaning.specs.declared.prototypes.Prototype.TheVariants as prototype
use Rattle.njs_meaning.specs.Primitives.{Undefined}
use Rattle.njs_meaning.specs.Values.{PlainValue, Simple, ObjectAt, length_value}
use Rattle.njs_meaning.specs.PlainHeap.{Plain}
use Rattle.njs_meaning.specs.Places.{Around}
use Rattle.njs_meaning.specs.Objects.{with_new_object}
use Rattle.njs_meaning.specs.State.{State, Gives, and_then}
use Rattle.njs_meaning.specs.Errors.{place_of}
use Rattle.njs_meaning.specs.Conversions.{to_boolean}
use Rattle.njs_meaning.specs.Running.{Context, Runs, choose, after, all_in_turn}
use Rattle.njs_meaning.specs.Scopes.{fixed, next_scope, with_scope, with_variable}
use Rattle.njs_meaning.specs.References.{Reference, Of, Named, Expression, value_of, assigned, deleted, this_of, evaluated}
use Rattle.njs_meaning.specs.Operations.{leaves_out}
use Rattle.njs_meaning.specs.Functions.{made_in}
use Rattle.njs_meaning.specs.Meaning.{Made, given, is_value, comma, operate, assign, assign_by, assignment, conditional, either, both, operate_one, type_of_reference, sole, step_to, number_in, stepping, call_with, calling, construct_with, making, member_of, member_by, member, index, with_element, with_elements, finished_array, array, with_fields, object, function_named, function_without_name, function, begun, this_value}
use Rattle.njs_simul.specs.Fits.{Scoped, Names, Good, Fares, Fared}
use Rattle.njs_simul.specs.Laws.{Fine}
use Rattle.njs_simul.specs.Compiled.{in_own_name}
use Rattle.njs_simul.proofs.Kept.{scoped_keeps, scoped_inner, fares_refl, fared_from, fared_then, fared_choose, fared_charge, fares_scope, fares_variable, fares_object}
use Rattle.njs_simul.proofs.FineSteps.{fared_with_element, fared_finished_array, fared_made_in, fared_value_of, fared_assigned, fared_deleted, fared_type_of_reference, fared_member_of, fared_member_by, fared_operate, fared_operate_one, fared_number_in, fared_step_to}

-- each of a list is fine
abbrev pub EachFine : Names → ℕ → Around → {A : Type 0} → List (Runs A) → Type 0
EachFine env unit names [] = Unit {0}
EachFine env unit names (m ∷ ms) = Fine env unit names m × EachFine env unit names ms

-- one that may be missing
abbrev pub HeldFine : Names → ℕ → Around → {A : Type 0} → Option (Runs A) → Type 0
HeldFine env unit names None = Unit {0}
HeldFine env unit names (Some m) = Fine env unit names m

abbrev pub EachHeldFine : Names → ℕ → Around → {A : Type 0} → List (Option (Runs A)) → Type 0
EachHeldFine env unit names [] = Unit {0}
EachHeldFine env unit names (m ∷ ms) = HeldFine env unit names m × EachHeldFine env unit names ms

-- those with names
abbrev pub EachNamedFine : Names → ℕ → Around → {A N : Type 0} → List (N × Runs A) → Type 0
EachNamedFine env unit names [] = Unit {0}
EachNamedFine env unit names (m ∷ ms) = Fine env unit names m.1 × EachNamedFine env unit names ms

abbrev pub EachNamedHeldFine : Names → ℕ → Around → {A N : Type 0} → List (N × Option (Runs A)) → Type 0
EachNamedHeldFine env unit names [] = Unit {0}
EachNamedHeldFine env unit names (m ∷ ms) = HeldFine env unit names m.1 × EachNamedHeldFine env unit names ms

module _ (env : Names) (unit : ℕ) (names : Around) where
  -- ---- what follows what

  pub fine_after : {A B : Type 0} (first : Runs A) (next : A → Runs B) → Fine env unit names first → ((a : A) → Fine env unit names (next a)) → Fine env unit names (after first next)
  fine_after first next h k = λ x s calls same scoped g.
      fared_then env (first x s) (λ a. next a x) (h x s calls same scoped g)
      (λ a t f. k a x t calls same (scoped_keeps names x.scope.0 scoped f.keeps) f.good)

  pub fine_given : (run : Runs PlainValue) → Fine env unit names run → Fine env unit names (given run)
  fine_given run h = λ x s calls same scoped g. fared_then env (run x s) (λ v s. Gives (Of v) s) (h x s calls same scoped g) (λ v t f. fares_refl env t f.good)

  pub fine_value_of : (r : Reference) → Fine env unit names (value_of r)
  fine_value_of r = λ x s calls same scoped g. fared_value_of env r x s g

  pub fine_assigned : (r : Reference) (v : PlainValue) → Fine env unit names (assigned r v)
  fine_assigned r v = λ x s calls same scoped g. fared_assigned env r v x s g

  pub fine_operate : (op : BinaryOp) (v w : PlainValue) → Fine env unit names (operate op v w)
  fine_operate op v w = λ x s calls same scoped g. fared_operate env x calls op v w s g

  pub fine_evaluated : (e : Expression) → Fine env unit names e → Fine env unit names (evaluated e)
  fine_evaluated e h = fine_after e value_of h fine_value_of

  pub fine_begun : (e : Expression) → Fine env unit names e → Fine env unit names (begun e)
  fine_begun e h = λ x s calls same scoped g.
      fared_charge env 1 (e x) s g (λ t f. h x t calls same (scoped_keeps names x.scope.0 scoped f.keeps) f.good)

  -- ---- values and names

  pub fine_is_value : (v : PlainValue) → Fine env unit names (is_value v)
  fine_is_value v = λ x s calls same scoped g. fares_refl env s g

  pub fine_name : (name : List ℕ) → Fine env unit names (λ x s. Gives (Named name) s)
  fine_name name = λ x s calls same scoped g. fares_refl env s g

  pub fine_this_value : Fine env unit names this_value
  fine_this_value = λ x s calls same scoped g. fares_refl env s g

  -- ---- operators

  pub fine_comma : (a b : Expression) → Fine env unit names a → Fine env unit names b → Fine env unit names (comma a b)
  fine_comma a b h k =
      fine_given (after (evaluated a) (λ v. evaluated b)) (fine_after (evaluated a) (λ v. evaluated b) (fine_evaluated a h) (λ v. fine_evaluated b k))

  pub fine_assign : (a b : Expression) → Fine env unit names a → Fine env unit names b → Fine env unit names (assign a b)
  fine_assign a b h k =
      fine_given (after a (λ r. after (evaluated b) (assigned r)))
      (fine_after a (λ r. after (evaluated b) (assigned r)) h (λ r. fine_after (evaluated b) (assigned r) (fine_evaluated b k) (fine_assigned r)))

  pub fine_assign_by : (op : BinaryOp) (a b : Expression) → Fine env unit names a → Fine env unit names b → Fine env unit names (assign_by op a b)
  fine_assign_by op a b h k =
      fine_given (after a (λ r. after (value_of r) (λ v. after (evaluated b) (λ w. after (operate op v w) (assigned r)))))
      (fine_after a (λ r. after (value_of r) (λ v. after (evaluated b) (λ w. after (operate op v w) (assigned r)))) h
      (λ r. fine_after (value_of r) (λ v. after (evaluated b) (λ w. after (operate op v w) (assigned r))) (fine_value_of r)
      (λ v. fine_after (evaluated b) (λ w. after (operate op v w) (assigned r)) (fine_evaluated b k)
      (λ w. fine_after (operate op v w) (assigned r) (fine_operate op v w) (fine_assigned r)))))

  pub fine_assignment : (op : Option BinaryOp) (a b : Expression) → Fine env unit names a → Fine env unit names b → Fine env unit names (assignment op a b)
  fine_assignment None a b h k = fine_assign a b h k
  fine_assignment (Some op) a b h k = fine_assign_by op a b h k

  fine_choose : {A : Type 0} (b : Bool) (first second : Runs A) → Fine env unit names first → Fine env unit names second
      → Fine env unit names (λ x. choose b (first x) (second x))
  fine_choose b first second h k = λ x s calls same scoped g.
      fared_choose env s b (first x) (second x) (h x s calls same scoped g) (k x s calls same scoped g)

  pub fine_conditional : (a b c : Expression) → Fine env unit names a → Fine env unit names b → Fine env unit names c → Fine env unit names (conditional a b c)
  fine_conditional a b c h k l =
      fine_given (after (evaluated a) (λ v x. choose (to_boolean v) (evaluated b x) (evaluated c x)))
      (fine_after (evaluated a) (λ v x. choose (to_boolean v) (evaluated b x) (evaluated c x)) (fine_evaluated a h)
      (λ v. fine_choose (to_boolean v) (evaluated b) (evaluated c) (fine_evaluated b k) (fine_evaluated c l)))

  pub fine_either : (op : LogicalOp) (a b : Expression) → Fine env unit names a → Fine env unit names b → Fine env unit names (either op a b)
  fine_either op a b h k =
      fine_given (after (evaluated a) (λ v x. choose (leaves_out op v) (Gives v) (evaluated b x)))
      (fine_after (evaluated a) (λ v x. choose (leaves_out op v) (Gives v) (evaluated b x)) (fine_evaluated a h)
      (λ v. fine_choose (leaves_out op v) (λ x. Gives v) (evaluated b) (λ x s calls same scoped g. fares_refl env s g) (fine_evaluated b k)))

  pub fine_both : (op : BinaryOp) (a b : Expression) → Fine env unit names a → Fine env unit names b → Fine env unit names (both op a b)
  fine_both op a b h k =
      fine_given (after (evaluated a) (λ v. after (evaluated b) (operate op v)))
      (fine_after (evaluated a) (λ v. after (evaluated b) (operate op v)) (fine_evaluated a h)
      (λ v. fine_after (evaluated b) (operate op v) (fine_evaluated b k) (fine_operate op v)))

  fine_sole_value : (op : UnaryOp) (a : Expression) → Fine env unit names a → Fine env unit names (given (after (evaluated a) (operate_one op)))
  fine_sole_value op a h =
      fine_given (after (evaluated a) (operate_one op))
      (fine_after (evaluated a) (operate_one op) (fine_evaluated a h) (λ v x s calls same scoped g. fared_operate_one env x calls op v s g))

  pub fine_sole : (op : UnaryOp) (a : Expression) → Fine env unit names a → Fine env unit names (sole op a)
  fine_sole sign.Delete a h = fine_given (after a deleted) (fine_after a deleted h (λ r x s calls same scoped g. fared_deleted env r x s g))
  fine_sole sign.TypeOf a h =
      fine_given (after a type_of_reference) (fine_after a type_of_reference h (λ r x s calls same scoped g. fared_type_of_reference env r x s g))
  fine_sole sign.Void a h = fine_sole_value sign.Void a h
  fine_sole sign.Plus a h = fine_sole_value sign.Plus a h
  fine_sole sign.Minus a h = fine_sole_value sign.Minus a h
  fine_sole sign.BitNot a h = fine_sole_value sign.BitNot a h
  fine_sole sign.Not a h = fine_sole_value sign.Not a h

  pub fine_stepping : (op : UpdateOp) (prefix : Bool) (a : Expression) → Fine env unit names a → Fine env unit names (stepping op prefix a)
  fine_stepping op prefix a h =
      fine_given (after a (λ r. after (value_of r) (λ v. after (number_in v) (step_to prefix op r))))
      (fine_after a (λ r. after (value_of r) (λ v. after (number_in v) (step_to prefix op r))) h
      (λ r. fine_after (value_of r) (λ v. after (number_in v) (step_to prefix op r)) (fine_value_of r)
      (λ v. fine_after (number_in v) (step_to prefix op r) (λ x s calls same scoped g. fared_number_in env x calls v s g)
      (λ n x s calls same scoped g. fared_step_to env prefix op r n x s g))))

  -- ---- calls

  pub fine_each : (args : List Expression) → EachFine env unit names args → Fine env unit names (all_in_turn (map evaluated args))
  fine_each [] all = λ x s calls same scoped g. fares_refl env s g
  fine_each (a ∷ args) all = λ x s calls same scoped g.
      fared_then env (evaluated a x s) (λ v s. and_then (all_in_turn (map evaluated args) x s) (λ vs s. Gives (v ∷ vs) s)) (fine_evaluated a all.0 x s calls same scoped g)
      (λ v t f. fared_then env (all_in_turn (map evaluated args) x t) (λ vs s. Gives (v ∷ vs) s)
      (fine_each args all.1 x t calls same (scoped_keeps names x.scope.0 scoped f.keeps) f.good) (λ vs u k. fares_refl env u k.good))

  pub fine_calling : (callee : Expression) (args : List Expression) → Fine env unit names callee → EachFine env unit names args → Fine env unit names (calling callee args)
  fine_calling callee args h all =
      fine_given (after callee (λ r. after (value_of r) (λ v. after (all_in_turn (map evaluated args)) (call_with v (this_of r)))))
      (fine_after callee (λ r. after (value_of r) (λ v. after (all_in_turn (map evaluated args)) (call_with v (this_of r)))) h
      (λ r. fine_after (value_of r) (λ v. after (all_in_turn (map evaluated args)) (call_with v (this_of r))) (fine_value_of r)
      (λ v. fine_after (all_in_turn (map evaluated args)) (call_with v (this_of r)) (fine_each args all)
      (λ vs x s calls same scoped g. calls.call v (this_of r) vs s g))))

  pub fine_making : (callee : Expression) (args : List Expression) → Fine env unit names callee → EachFine env unit names args → Fine env unit names (making callee args)
  fine_making callee args h all =
      fine_given (after (evaluated callee) (λ v. after (all_in_turn (map evaluated args)) (construct_with v)))
      (fine_after (evaluated callee) (λ v. after (all_in_turn (map evaluated args)) (construct_with v)) (fine_evaluated callee h)
      (λ v. fine_after (all_in_turn (map evaluated args)) (construct_with v) (fine_each args all)
      (λ vs x s calls same scoped g. calls.construct v vs s g)))

  -- ---- members

  pub fine_member : (a : Expression) (name : List ℕ) → Fine env unit names a → Fine env unit names (member a name)
  fine_member a name h = fine_after (evaluated a) (λ v. member_of v name) (fine_evaluated a h) (λ v x s calls same scoped g. fared_member_of env v name x s g)

  pub fine_index : (a b : Expression) → Fine env unit names a → Fine env unit names b → Fine env unit names (index a b)
  fine_index a b h k =
      fine_after (evaluated a) (λ v. after (evaluated b) (member_by v)) (fine_evaluated a h)
      (λ v. fine_after (evaluated b) (member_by v) (fine_evaluated b k) (λ w x s calls same scoped g. fared_member_by env x calls v w s g))

  -- ---- arrays and objects

  pub fine_with_elements : (made i : ℕ) (elements : List (Option Expression)) (go : Runs PlainValue) → EachHeldFine env unit names elements → Fine env unit names go
      → Fine env unit names (with_elements made i elements go)
  fine_with_elements made i [] go all h = h
  fine_with_elements made i (None ∷ rest) go all h = fine_with_elements made (i + 1) rest go all.1 h
  fine_with_elements made i (Some a ∷ rest) go all h = λ x s calls same scoped g.
      fared_then env (evaluated a x s) (λ v. with_element made (decimal i) v (with_elements made (i + 1) rest go x)) (fine_evaluated a all.0 x s calls same scoped g)
      (λ v t f. let inside = scoped_keeps names x.scope.0 scoped f.keeps in
      fared_with_element env made (decimal i) v (with_elements made (i + 1) rest go x) t f.good
      (λ u k. fine_with_elements made (i + 1) rest go all.1 h x u calls same (scoped_keeps names x.scope.0 inside k.keeps) k.good))

  pub fine_array : (elements : List (Option Expression)) → EachHeldFine env unit names elements → Fine env unit names (array elements)
  fine_array elements all = λ x s calls same scoped g.
      let made = length s.objects in
      let t : State = record s { objects = with_new_object length_value class.Array (Some (record { 0 = place_of prototype.Array })) Plain s.objects } in
      let f : Fares env s t = fares_object env _ s tt g in
      let run = with_elements made 0 elements (finished_array made (length elements)) in
      fared_from env (given run x t)
      (fine_given run (fine_with_elements made 0 elements (finished_array made (length elements)) all (λ x s calls same scoped g. fared_finished_array env made (length elements) x s g))
      x t calls same (scoped_keeps names x.scope.0 scoped f.keeps) f.good) f

  pub fine_with_fields : (made : ℕ) (ps : List (List ℕ × Expression)) (go : Runs PlainValue) → EachNamedFine env unit names ps → Fine env unit names go
      → Fine env unit names (with_fields made ps go)
  fine_with_fields made [] go all h = h
  fine_with_fields made (p ∷ ps) go all h = λ x s calls same scoped g.
      fared_then env (evaluated p.1 x s) (λ v. with_element made p.0 v (with_fields made ps go x)) (fine_evaluated p.1 all.0 x s calls same scoped g)
      (λ v t f. let inside = scoped_keeps names x.scope.0 scoped f.keeps in
      fared_with_element env made p.0 v (with_fields made ps go x) t f.good
      (λ u k. fine_with_fields made ps go all.1 h x u calls same (scoped_keeps names x.scope.0 inside k.keeps) k.good))

  pub fine_object : (ps : List (List ℕ × Expression)) → EachNamedFine env unit names ps → Fine env unit names (object ps)
  fine_object ps all = λ x s calls same scoped g.
      let made = length s.objects in
      let t : State = record s { objects = with_new_object length_value class.Object (Some (record { 0 = place_of prototype.Object })) Plain s.objects } in
      let f : Fares env s t = fares_object env _ s tt g in
      let run = with_fields made ps (λ x. Gives (ObjectAt made)) in
      fared_from env (given run x t)
      (fine_given run (fine_with_fields made ps (λ x. Gives (ObjectAt made)) all (λ x s calls same scoped g. fares_refl env s g))
      x t calls same (scoped_keeps names x.scope.0 scoped f.keeps) f.good) f

  -- ---- functions: one with a name of its own stands in a scope with it

  pub made_so : (scope : ScopeId) (number params : ℕ) (around : Around) (x : Context) (s : State) → x.unit ≡ unit → env unit number ≡ around → Scoped around s.scopes scope.0 → Good env s
      → Fared env s (made_in scope number params x s)
  made_so scope number params around x s same is scoped g =
      fared_made_in env scope number params x s
      (subst (λ u. Scoped (env u number) s.scopes scope.0) (sym same) (subst (λ around. Scoped around s.scopes scope.0) (sym is) scoped)) g

  pub fine_function_without_name : (made : Made) → env unit made.number ≡ names → Fine env unit names (function_without_name made)
  fine_function_without_name made is = λ x s calls same scoped g.
      fared_then env (made_in x.scope made.number made.params x s) (λ v s. Gives (Of v) s) (made_so x.scope made.number made.params names x s same is scoped g)
      (λ v t f. fares_refl env t f.good)

  pub fine_function_named : (name : List ℕ) (made : Made) → env unit made.number ≡ ((name, false) ∷ []) ∷ names → Fine env unit names (function_named name made)
  fine_function_named name made is = λ x s calls same scoped g.
      let scope = next_scope s in
      let variables = fixed name (Simple Undefined) ∷ [] in
      let t = with_scope x.scope variables s in
      let f : Fares env s t = fares_scope env x.scope variables s g in
      fared_from env (function_named name made x s)
      (fared_then env (made_in scope made.number made.params x t) (λ f s. Gives (Of f) (record s { scopes = with_variable name f s.scopes scope.0 }))
      (made_so scope made.number made.params (((name, false) ∷ []) ∷ names) x t same is (scoped_inner names ((name, false) ∷ []) x.scope variables s refl scoped) f.good)
      (λ v u k. fares_variable env name v u scope.0 k.good)) f

  function_by : (name : Option (List ℕ)) (made : Made) → env unit made.number ≡ in_own_name name names
      → Fine env unit names (option_map_or (λ name. function_named name made) name (function_without_name made))
  function_by None made is = fine_function_without_name made is
  function_by (Some name) made is = fine_function_named name made is

  pub fine_function : (made : Made) → env unit made.number ≡ in_own_name made.name names → Fine env unit names (function made)
  fine_function made is = function_by made.name made is
