-- What expressions mean ends, from every state, as the calls in it do.
use Rattle.std.proofs.Common.{ℕ, ℤ, ◌+◌, List, [], ◌∷◌, length, map, Option, Some, None, Bool, if◌then◌else◌, refl}
use Rattle.std.specs.Fmt.{decimal}
use Rattle.njs_tree.specs.declared.tree.BinaryOp.{BinaryOp}
use Rattle.njs_tree.specs.declared.tree.LogicalOp.{LogicalOp}
use Rattle.njs_tree.specs.declared.tree.UnaryOp.{UnaryOp}
use Rattle.njs_tree.specs.declared.tree.UnaryOp.TheVariants as sign
use Rattle.njs_tree.specs.declared.tree.UpdateOp.{UpdateOp}
use Rattle.njs_props.specs.Names.{length_name}
use Rattle.njs_value.specs.declared.Cause.TheVariants.{ReadOnly}
use Rattle.njs_value.specs.declared.Class.TheVariants as class
use Rattle.njs_meaning.specs.declared.prototypes.Prototype.TheVariants as prototype
use Rattle.njs_meaning.specs.Primitives.{Undefined, Number}
use Rattle.njs_meaning.specs.Values.{PlainValue, Simple, ObjectAt, length_value}
use Rattle.njs_meaning.specs.PlainHeap.{Plain}
use Rattle.njs_meaning.specs.Properties.{Change}
use Rattle.njs_meaning.specs.Objects.{with_new_object, with_props}
use Rattle.njs_meaning.specs.State.{State, Outcome, Gives, Throws, Spent, Asks, and_then}
use Rattle.njs_meaning.specs.Errors.{place_of, throw}
use Rattle.njs_meaning.specs.Conversions.{to_boolean}
use Rattle.njs_meaning.specs.Running.{Context, Runs, choose, changed, after, all_in_turn, throw_not_defined}
use Rattle.njs_meaning.specs.Scopes.{Found, find, assign_found, assign_name, with_variable}
use Rattle.njs_meaning.specs.Members.{with_members, put_member}
use Rattle.njs_meaning.specs.References.{Reference, Of, Named, Member, Expression, value_of, assigned, deleted, this_of, is_unbound, evaluated}
use Rattle.njs_meaning.specs.Operations.{answered, leaves_out, stepped, type_of}
use Rattle.njs_meaning.specs.Meaning.{Made, given, is_value, comma, operate, assign, assign_by, assignment, conditional, either, both, operate_one, type_of_reference, sole, step_to, number_in, stepping, call_with, calling, construct_with, making, member_of, member_by, member, index, with_element, with_elements, finished_array, array, with_fields, object, function, begun, this_value}
use Rattle.njs_meaning.specs.Replies.{state_of}
use Rattle.njs_simul.specs.Asking.{CallsAlwaysEnd}
use Rattle.njs_simul.proofs.AskingSteps.{IsThrough, To, Lands, stays, to_then, to_if, to_option, to_charge, to_throw, to_answered, to_type_of, to_with_members, to_put_member, to_delete_member, to_function, to_number_ends, to_binary, to_unary, to_member_by}

-- each of a list is so
abbrev pub Every : {A : Type 0} → (A → Type 0) → List A → Type 0
Every is [] = Unit {0}
Every is (a ∷ rest) = is a × Every is rest

-- one that may be missing
abbrev pub IfAny : {A : Type 0} → (A → Type 0) → Option A → Type 0
IfAny is None = Unit {0}
IfAny is (Some a) = is a

module _ (R : State → State → Type 0) where
  -- what something means ends so, from every state
  abbrev pub Always : {A : Type 0} → Runs A → Type 0
  Always m = (x : Context) (s : State) → CallsAlwaysEnd R x.calls → R s (state_of (m x s))

  abbrev pub EachAlways : {A : Type 0} → List (Runs A) → Type 0
  EachAlways ms = Every Always ms

  abbrev pub HeldAlways : {A : Type 0} → Option (Runs A) → Type 0
  HeldAlways m = IfAny Always m

  abbrev pub EachHeldAlways : {A : Type 0} → List (Option (Runs A)) → Type 0
  EachHeldAlways ms = Every HeldAlways ms

  -- those with names
  abbrev pub EachNamedAlways : {A : Type 0} → List (List ℕ × Runs A) → Type 0
  EachNamedAlways ms = Every (λ m. Always m.1) ms

  abbrev pub EachNamedHeldAlways : {A : Type 0} → List (List ℕ × Option (Runs A)) → Type 0
  EachNamedHeldAlways ms = Every (λ m. HeldAlways m.1) ms

module _ (R : State → State → Type 0) (through : IsThrough R) where
  -- ---- every state is good

  abbrev any : State → Type 0
  any s = Unit {0}

  lands_any : {A : Type 0} (o : Outcome A) → Lands R through any o
  lands_any (Gives a t) = tt
  lands_any (Throws v t) = tt
  lands_any (Spent t) = tt
  lands_any (Asks zone q t) = tt

  -- ---- names and members

  to_not_defined : (name : List ℕ) (s : State) → To R through s (throw_not_defined {A = PlainValue} name s)
  to_not_defined name s = through.same s _ refl refl

  to_assign_found : (name : List ℕ) (value : PlainValue) (found : Found) (s : State) → To R through s (assign_found name value found s)
  to_assign_found name value found s =
      to_if R through s found.variable.assignable (Gives value (record s { scopes = with_variable name value s.scopes found.scope })) (throw ReadOnly s)
      (through.same s _ refl refl) (to_throw R through ReadOnly s)

  pub to_assign_name : (name : List ℕ) (value : PlainValue) (x : Context) (s : State) → To R through s (assign_name name value x s)
  to_assign_name name value x s =
      to_option R through s (λ found. assign_found name value found s) (find name s.scopes x.scope) (throw_not_defined name s) (λ found. to_assign_found name value found s) (to_not_defined name s)

  to_value_of : (r : Reference) (x : Context) (s : State) → To R through s (value_of r x s)
  to_value_of (Of v) x s = stays R through s
  to_value_of (Named name) x s =
      to_option R through s (λ found. Gives found.variable.value s) (find name s.scopes x.scope) (throw_not_defined name s) (λ found. stays R through s) (to_not_defined name s)
  to_value_of (Member base name) x s = stays R through s

  pub to_assigned : (r : Reference) (v : PlainValue) (x : Context) (s : State) → To R through s (assigned r v x s)
  to_assigned (Of w) v x s = stays R through s
  to_assigned (Named name) v x s = to_assign_name name v x s
  to_assigned (Member base name) v x s = to_put_member R through name base v s

  to_deleted : (r : Reference) (x : Context) (s : State) → To R through s (deleted r x s)
  to_deleted (Of v) x s = stays R through s
  to_deleted (Named name) x s = stays R through s
  to_deleted (Member base name) x s = to_delete_member R through name base s

  to_type_of_reference : (r : Reference) (x : Context) (s : State) → To R through s (type_of_reference r x s)
  to_type_of_reference r x s =
      to_if R through s (is_unbound r x s) (type_of (Simple Undefined) s) (and_then (value_of r x s) type_of) (to_type_of R through (Simple Undefined) s)
      (to_then R through s (value_of r x s) type_of (to_value_of r x s) (λ v t. to_type_of R through v t))

  to_step_to : (prefix : Bool) (o : UpdateOp) (r : Reference) (n : ℤ) (x : Context) (s : State) → To R through s (step_to prefix o r n x s)
  to_step_to prefix o r n x s =
      to_then R through s (answered (stepped o n) s) (λ v s. and_then (assigned r v x s) (λ w s. Gives (if prefix then w else Simple (Number n)) s)) (to_answered R through (stepped o n) s)
      (λ v t. to_then R through t (assigned r v x t) (λ w s. Gives (if prefix then w else Simple (Number n)) s) (to_assigned r v x t) (λ w u. stays R through u))

  -- the properties of an object change, and on
  to_changed_on : (object : ℕ) (change : Change PlainValue) (go : State → Outcome PlainValue) (s : State) → ((t : State) → To R through t (go t)) → To R through s (changed object change go s)
  to_changed_on object change go s next =
      let t : State = record s { objects = with_props s.objects object change.props } in
      to_option R through s (λ cause. throw cause t) change.thrown (go t) (λ cause. through.same s _ refl refl) (through.join s t (state_of (go t)) (through.same s t refl refl) (next t))

  -- ---- what follows what

  pub always_after : {A B : Type 0} (first : Runs A) (next : A → Runs B) → Always R first → ((a : A) → Always R (next a)) → Always R (after first next)
  always_after first next h k = λ x s calls. to_then R through s (first x s) (λ a. next a x) (h x s calls) (λ a t. k a x t calls)

  pub always_given : (run : Runs PlainValue) → Always R run → Always R (given run)
  always_given run h = λ x s calls. to_then R through s (run x s) (λ v s. Gives (Of v) s) (h x s calls) (λ v t. stays R through t)

  pub always_evaluated : (e : Expression) → Always R e → Always R (evaluated e)
  always_evaluated e h = always_after e value_of h (λ r x s calls. to_value_of r x s)

  pub always_begun : (e : Expression) → Always R e → Always R (begun e)
  always_begun e h = λ x s calls. to_charge R through 1 (e x) s (λ t is. h x t calls)

  pub always_choose : {A : Type 0} (b : Bool) (first second : Runs A) → Always R first → Always R second → Always R (λ x. choose b (first x) (second x))
  always_choose b first second h k = λ x s calls. to_if R through s b (first x s) (second x s) (h x s calls) (k x s calls)

  -- ---- values and names

  pub always_is_value : (v : PlainValue) → Always R (is_value v)
  always_is_value v = λ x s calls. stays R through s

  pub always_name : (name : List ℕ) → Always R (λ x s. Gives (Named name) s)
  always_name name = λ x s calls. stays R through s

  pub always_this_value : Always R this_value
  always_this_value = λ x s calls. stays R through s

  -- ---- operators

  always_assigned : (r : Reference) (v : PlainValue) → Always R (assigned r v)
  always_assigned r v = λ x s calls. to_assigned r v x s

  always_value_of : (r : Reference) → Always R (value_of r)
  always_value_of r = λ x s calls. to_value_of r x s

  always_operate : (op : BinaryOp) (v w : PlainValue) → Always R (operate op v w)
  always_operate op v w = λ x s calls.
      to_binary R through any x.calls.call (λ f this args s g. lands_any (x.calls.call f this args s)) (λ f this args s g. calls.call f this args s) op v w s tt

  always_operate_one : (op : UnaryOp) (v : PlainValue) → Always R (operate_one op v)
  always_operate_one op v = λ x s calls.
      to_unary R through any x.calls.call (λ f this args s g. lands_any (x.calls.call f this args s)) (λ f this args s g. calls.call f this args s) op v s tt

  always_number_in : (v : PlainValue) → Always R (number_in v)
  always_number_in v = λ x s calls.
      to_number_ends R through any x.calls.call (λ f this args s g. lands_any (x.calls.call f this args s)) (λ f this args s g. calls.call f this args s) v s tt

  pub always_comma : (a b : Expression) → Always R a → Always R b → Always R (comma a b)
  always_comma a b h k =
      always_given (after (evaluated a) (λ v. evaluated b)) (always_after (evaluated a) (λ v. evaluated b) (always_evaluated a h) (λ v. always_evaluated b k))

  always_assign : (a b : Expression) → Always R a → Always R b → Always R (assign a b)
  always_assign a b h k =
      always_given (after a (λ r. after (evaluated b) (assigned r)))
      (always_after a (λ r. after (evaluated b) (assigned r)) h (λ r. always_after (evaluated b) (assigned r) (always_evaluated b k) (always_assigned r)))

  always_assign_by : (op : BinaryOp) (a b : Expression) → Always R a → Always R b → Always R (assign_by op a b)
  always_assign_by op a b h k =
      always_given (after a (λ r. after (value_of r) (λ v. after (evaluated b) (λ w. after (operate op v w) (assigned r)))))
      (always_after a (λ r. after (value_of r) (λ v. after (evaluated b) (λ w. after (operate op v w) (assigned r)))) h
      (λ r. always_after (value_of r) (λ v. after (evaluated b) (λ w. after (operate op v w) (assigned r))) (always_value_of r)
      (λ v. always_after (evaluated b) (λ w. after (operate op v w) (assigned r)) (always_evaluated b k)
      (λ w. always_after (operate op v w) (assigned r) (always_operate op v w) (always_assigned r)))))

  pub always_assignment : (op : Option BinaryOp) (a b : Expression) → Always R a → Always R b → Always R (assignment op a b)
  always_assignment None a b h k = always_assign a b h k
  always_assignment (Some op) a b h k = always_assign_by op a b h k

  pub always_conditional : (a b c : Expression) → Always R a → Always R b → Always R c → Always R (conditional a b c)
  always_conditional a b c h k l =
      always_given (after (evaluated a) (λ v x. choose (to_boolean v) (evaluated b x) (evaluated c x)))
      (always_after (evaluated a) (λ v x. choose (to_boolean v) (evaluated b x) (evaluated c x)) (always_evaluated a h)
      (λ v. always_choose (to_boolean v) (evaluated b) (evaluated c) (always_evaluated b k) (always_evaluated c l)))

  pub always_either : (op : LogicalOp) (a b : Expression) → Always R a → Always R b → Always R (either op a b)
  always_either op a b h k =
      always_given (after (evaluated a) (λ v x. choose (leaves_out op v) (Gives v) (evaluated b x)))
      (always_after (evaluated a) (λ v x. choose (leaves_out op v) (Gives v) (evaluated b x)) (always_evaluated a h)
      (λ v. always_choose (leaves_out op v) (λ x. Gives v) (evaluated b) (λ x s calls. stays R through s) (always_evaluated b k)))

  pub always_both : (op : BinaryOp) (a b : Expression) → Always R a → Always R b → Always R (both op a b)
  always_both op a b h k =
      always_given (after (evaluated a) (λ v. after (evaluated b) (operate op v)))
      (always_after (evaluated a) (λ v. after (evaluated b) (operate op v)) (always_evaluated a h)
      (λ v. always_after (evaluated b) (operate op v) (always_evaluated b k) (always_operate op v)))

  sole_value : (op : UnaryOp) (a : Expression) → Always R a → Always R (given (after (evaluated a) (operate_one op)))
  sole_value op a h = always_given (after (evaluated a) (operate_one op)) (always_after (evaluated a) (operate_one op) (always_evaluated a h) (always_operate_one op))

  pub always_sole : (op : UnaryOp) (a : Expression) → Always R a → Always R (sole op a)
  always_sole sign.Delete a h = always_given (after a deleted) (always_after a deleted h (λ r x s calls. to_deleted r x s))
  always_sole sign.TypeOf a h = always_given (after a type_of_reference) (always_after a type_of_reference h (λ r x s calls. to_type_of_reference r x s))
  always_sole sign.Void a h = sole_value sign.Void a h
  always_sole sign.Plus a h = sole_value sign.Plus a h
  always_sole sign.Minus a h = sole_value sign.Minus a h
  always_sole sign.BitNot a h = sole_value sign.BitNot a h
  always_sole sign.Not a h = sole_value sign.Not a h

  pub always_stepping : (op : UpdateOp) (prefix : Bool) (a : Expression) → Always R a → Always R (stepping op prefix a)
  always_stepping op prefix a h =
      always_given (after a (λ r. after (value_of r) (λ v. after (number_in v) (step_to prefix op r))))
      (always_after a (λ r. after (value_of r) (λ v. after (number_in v) (step_to prefix op r))) h
      (λ r. always_after (value_of r) (λ v. after (number_in v) (step_to prefix op r)) (always_value_of r)
      (λ v. always_after (number_in v) (step_to prefix op r) (always_number_in v) (λ n x s calls. to_step_to prefix op r n x s))))

  -- ---- calls

  always_each : (args : List Expression) → EachAlways R args → Always R (all_in_turn (map evaluated args))
  always_each [] all = λ x s calls. stays R through s
  always_each (a ∷ args) all = λ x s calls.
      to_then R through s (evaluated a x s) (λ v s. and_then (all_in_turn (map evaluated args) x s) (λ vs s. Gives (v ∷ vs) s)) (always_evaluated a all.0 x s calls)
      (λ v t. to_then R through t (all_in_turn (map evaluated args) x t) (λ vs s. Gives (v ∷ vs) s) (always_each args all.1 x t calls) (λ vs u. stays R through u))

  pub always_calling : (callee : Expression) (args : List Expression) → Always R callee → EachAlways R args → Always R (calling callee args)
  always_calling callee args h all =
      always_given (after callee (λ r. after (value_of r) (λ v. after (all_in_turn (map evaluated args)) (call_with v (this_of r)))))
      (always_after callee (λ r. after (value_of r) (λ v. after (all_in_turn (map evaluated args)) (call_with v (this_of r)))) h
      (λ r. always_after (value_of r) (λ v. after (all_in_turn (map evaluated args)) (call_with v (this_of r))) (always_value_of r)
      (λ v. always_after (all_in_turn (map evaluated args)) (call_with v (this_of r)) (always_each args all) (λ vs x s calls. calls.call v (this_of r) vs s))))

  pub always_making : (callee : Expression) (args : List Expression) → Always R callee → EachAlways R args → Always R (making callee args)
  always_making callee args h all =
      always_given (after (evaluated callee) (λ v. after (all_in_turn (map evaluated args)) (construct_with v)))
      (always_after (evaluated callee) (λ v. after (all_in_turn (map evaluated args)) (construct_with v)) (always_evaluated callee h)
      (λ v. always_after (all_in_turn (map evaluated args)) (construct_with v) (always_each args all) (λ vs x s calls. calls.construct v vs s)))

  -- ---- members

  to_member_of : (base : PlainValue) (name : List ℕ) (x : Context) (s : State) → To R through s (member_of base name x s)
  to_member_of base name x s =
      to_then R through s (with_members base (Gives base) s) (λ v s. Gives (Member v name) s) (to_with_members R through base (Gives base) s (stays R through s)) (λ v t. stays R through t)

  pub always_member : (a : Expression) (name : List ℕ) → Always R a → Always R (member a name)
  always_member a name h = always_after (evaluated a) (λ v. member_of v name) (always_evaluated a h) (λ v x s calls. to_member_of v name x s)

  always_member_by : (v w : PlainValue) → Always R (member_by v w)
  always_member_by v w = λ x s calls.
      to_member_by R through any x (λ f this args s g. lands_any (x.calls.call f this args s)) (λ f this args s g. calls.call f this args s) v w s tt

  pub always_index : (a b : Expression) → Always R a → Always R b → Always R (index a b)
  always_index a b h k =
      always_after (evaluated a) (λ v. after (evaluated b) (member_by v)) (always_evaluated a h) (λ v. always_after (evaluated b) (member_by v) (always_evaluated b k) (always_member_by v))

  -- ---- arrays and objects

  always_with_elements : (made i : ℕ) (elements : List (Option Expression)) (go : Runs PlainValue) → EachHeldAlways R elements → Always R go → Always R (with_elements made i elements go)
  always_with_elements made i [] go all h = h
  always_with_elements made i (None ∷ rest) go all h = always_with_elements made (i + 1) rest go all.1 h
  always_with_elements made i (Some a ∷ rest) go all h = λ x s calls.
      to_then R through s (evaluated a x s) (λ v. with_element made (decimal i) v (with_elements made (i + 1) rest go x)) (always_evaluated a all.0 x s calls)
      (λ v t. to_changed_on made _ (with_elements made (i + 1) rest go x) t (λ u. always_with_elements made (i + 1) rest go all.1 h x u calls))

  to_finished_array : (made n : ℕ) (x : Context) (s : State) → To R through s (finished_array made n x s)
  to_finished_array made n x s =
      to_then R through s (put_member length_name (ObjectAt made) (length_value n) s) (λ v s. Gives (ObjectAt made) s) (to_put_member R through length_name (ObjectAt made) (length_value n) s) (λ v t. stays R through t)

  pub always_array : (elements : List (Option Expression)) → EachHeldAlways R elements → Always R (array elements)
  always_array elements all = λ x s calls.
      let made = length s.objects in
      let t : State = record s { objects = with_new_object length_value class.Array (Some (record { 0 = place_of prototype.Array })) Plain s.objects } in
      let run = with_elements made 0 elements (finished_array made (length elements)) in
      through.join s t (state_of (given run x t)) (through.same s t refl refl)
      (always_given run (always_with_elements made 0 elements (finished_array made (length elements)) all (λ x s calls. to_finished_array made (length elements) x s)) x t calls)

  always_with_fields : (made : ℕ) (ps : List (List ℕ × Expression)) (go : Runs PlainValue) → EachNamedAlways R ps → Always R go → Always R (with_fields made ps go)
  always_with_fields made [] go all h = h
  always_with_fields made (p ∷ ps) go all h = λ x s calls.
      to_then R through s (evaluated p.1 x s) (λ v. with_element made p.0 v (with_fields made ps go x)) (always_evaluated p.1 all.0 x s calls)
      (λ v t. to_changed_on made _ (with_fields made ps go x) t (λ u. always_with_fields made ps go all.1 h x u calls))

  pub always_object : (ps : List (List ℕ × Expression)) → EachNamedAlways R ps → Always R (object ps)
  always_object ps all = λ x s calls.
      let made = length s.objects in
      let t : State = record s { objects = with_new_object length_value class.Object (Some (record { 0 = place_of prototype.Object })) Plain s.objects } in
      let run = with_fields made ps (λ x. Gives (ObjectAt made)) in
      through.join s t (state_of (given run x t)) (through.same s t refl refl)
      (always_given run (always_with_fields made ps (λ x. Gives (ObjectAt made)) all (λ x s calls. stays R through s)) x t calls)

  -- ---- functions

  pub always_function : (made : Made) → Always R (function made)
  always_function made = λ x s calls. to_function R through made x s
