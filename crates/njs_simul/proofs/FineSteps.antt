-- What conversions, operators, names and members ask leads from good states to good ones.
use Rattle.std.proofs.Common.{ℕ, ◌+◌, List, [], length, Bool, true, false, not, if◌then◌else◌, codes, is_some, ℤ, refl, arith, slice_get, slice_set, ◌++◌, ◌∷◌, Some}
use Rattle.std.specs.Prelude.{Ok, Err}
use Rattle.njs_tree.specs.declared.tree.BinaryOp.{BinaryOp}
use Rattle.njs_tree.specs.declared.tree.BinaryOp.TheVariants as op
use Rattle.njs_tree.specs.declared.tree.UnaryOp.{UnaryOp}
use Rattle.njs_tree.specs.declared.tree.UnaryOp.TheVariants as sign
use Rattle.njs_tree.specs.declared.tree.UpdateOp.{UpdateOp}
use Rattle.njs_value.specs.declared.Cause.TheVariants.{NullBase, NotObject, NotConfigurable, NoPrimitive, NotNumber, NotFunction, ReadOnly}
use Rattle.njs_value.specs.declared.Class.{Class}
use Rattle.njs_value.specs.declared.Class.TheVariants as class
use Rattle.njs_value.specs.declared.ScopeId.{ScopeId}
use Rattle.njs_code.specs.declared.op.Failure.{Failure}
use Rattle.njs_code.specs.declared.op.Failure.TheVariants as failure
use Rattle.dict_model.specs.declared.operation.DictOp.{DictOp}
use Rattle.dict_model.specs.declared.operation.DictReply.{DictReply}
use Rattle.njs_meaning.specs.declared.prototypes.Prototype.{Prototype}
use Rattle.njs_meaning.specs.declared.prototypes.Prototype.TheVariants as prototype
use Rattle.njs_props.specs.Names.{length_name}
use Rattle.njs_meaning.specs.declared.level.Hint.{Hint}
use Rattle.njs_meaning.specs.declared.level.Hint.TheVariants as hint
use Rattle.njs_meaning.specs.Primitives.{Primitive, Undefined, Null, Truth, Number, Characters}
use Rattle.njs_meaning.specs.Numbers.{number_of, text_of}
use Rattle.njs_meaning.specs.Values.{PlainValue, Simple, ObjectAt, length_value}
use Rattle.njs_meaning.specs.PlainHeap.{PlainObject, Plain, Script}
use Rattle.njs_meaning.specs.Operators.{Answer, binary_of, unary_of, is_nothing, is_equal}
use Rattle.njs_meaning.specs.Chains.{get}
use Rattle.njs_meaning.specs.Objects.{first_props}
use Rattle.njs_meaning.specs.State.{Zone, State, Outcome, Gives, Asks, Call, and_then}
use Rattle.njs_meaning.specs.Errors.{place_of, throw}
use Rattle.njs_meaning.specs.Conversions.{is_callable, first_method, second_method, tried, primitive_or, by_second, by_methods, to_primitive, number_or_throw, to_number, to_text}
use Rattle.njs_meaning.specs.Running.{Context, one_and, with_object, throw_not_defined, split_first, ask_zone, ask}
use Rattle.njs_meaning.specs.Scopes.{Found, find, read_name, assign_found, assign_name, with_variable}
use Rattle.njs_meaning.specs.Members.{with_members, own_member, put_member, delete_member}
use Rattle.njs_meaning.specs.References.{Reference, Of, Named, Member, value_of, assigned, deleted, is_unbound}
use Rattle.njs_meaning.specs.Operations.{answered, paid, on_primitives, added, on_numbers, equal_to_object, equals, truth, behind_prototype, is_instance, instance_of, is_in, binary, type_of, on_number, unary, stepped, target_of}
use Rattle.njs_meaning.specs.Functions.{function_object, prototype_object, with_function, made_in}
use Rattle.njs_meaning.specs.Meaning.{operate, operate_one, type_of_reference, step_to, number_in, call_with, construct_with, member_of, member_by, with_element, finished_array}
use Rattle.njs_simul.specs.Step.{fails, defined, stepped_from, new_array, new_object}
use Rattle.njs_simul.specs.Fits.{Scoped, Names, Good, Fares, Fared, CallsFare}
use Rattle.njs_simul.proofs.Kept.{fared_from, fares_less, scoped_keeps, fares_refl, fares_trans, fared_then, fared_if, fared_option, fared_charge, fares_variable, fares_object, fared_throw, fared_not_defined, fared_changed}

-- a call leads from good states to good ones
abbrev pub CallFares : Names → Call → Type 0
CallFares env call = (f this : PlainValue) (args : List PlainValue) (s : State) → Good env s → Fared env s (call f this args s)

module _ (env : Names) where
  -- ---- conversions

  module _ (call : Call) (fares : CallFares env call) where
    pub fared_tried : (name : List ℕ) (object : ℕ) (s : State) → Good env s → Fared env s (tried call name object s)
    fared_tried name object s g =
        let method = get (Simple Undefined) name s.objects object in
        fared_if env s (is_callable s.objects method) (call method (ObjectAt object) [] s) (Gives (ObjectAt object) s)
        (fares method (ObjectAt object) [] s g) (fares_refl env s g)

    pub fared_primitive_or : (otherwise : State → Outcome Primitive) (v : PlainValue) (s : State) → Good env s → Fared env s (otherwise s)
        → Fared env s (primitive_or otherwise v s)
    fared_primitive_or otherwise (Simple p) s g h = fares_refl env s g
    fared_primitive_or otherwise (ObjectAt o) s g h = h

    pub fared_by_second : (h : Hint) (o : ℕ) (s : State) → Good env s → Fared env s (by_second call h o s)
    fared_by_second h o s g =
        fared_then env (tried call (second_method h) o s) (primitive_or (throw NoPrimitive)) (fared_tried (second_method h) o s g)
        (λ v t f. fared_primitive_or (throw NoPrimitive) v t f.good (fared_throw env NoPrimitive t f.good))

    pub fared_by_methods : (h : Hint) (o : ℕ) (s : State) → Good env s → Fared env s (by_methods call h o s)
    fared_by_methods h o s g =
        fared_then env (tried call (first_method h) o s) (primitive_or (by_second call h o)) (fared_tried (first_method h) o s g)
        (λ v t f. fared_primitive_or (by_second call h o) v t f.good (fared_by_second h o t f.good))

    pub fared_primitive : (h : Hint) (v : PlainValue) (s : State) → Good env s → Fared env s (to_primitive call h v s)
    fared_primitive h (Simple p) s g = fares_refl env s g
    fared_primitive h (ObjectAt o) s g = fared_by_methods h o s g

    pub fared_number_or_throw : (p : Primitive) (s : State) → Good env s → Fared env s (number_or_throw p s)
    fared_number_or_throw p s g = fared_option env s (λ n. Gives n s) (number_of p) (throw NotNumber s) (λ n. fares_refl env s g) (fared_throw env NotNumber s g)

    pub fared_number : (v : PlainValue) (s : State) → Good env s → Fared env s (to_number call v s)
    fared_number v s g =
        fared_then env (to_primitive call hint.Number v s) number_or_throw (fared_primitive hint.Number v s g) (λ p t f. fared_number_or_throw p t f.good)

    pub fared_text : (v : PlainValue) (s : State) → Good env s → Fared env s (to_text call v s)
    fared_text v s g =
        fared_then env (to_primitive call hint.Text v s) (λ p s. Gives (text_of p) s) (fared_primitive hint.Text v s g) (λ p t f. fares_refl env t f.good)

  -- ---- operators

  pub fared_answered : (a : Answer) (s : State) → Good env s → Fared env s (answered a s)
  fared_answered (Ok p) s g = fares_refl env s g
  fared_answered (Err cause) s g = fared_throw env cause s g

  pub fared_paid : (a : Answer) (s : State) → Good env s → Fared env s (paid a s)
  fared_paid (Ok (Characters text)) s g =
      fared_charge env (one_and (length text) 64) (Gives (Simple (Characters text))) s g (λ t f. fares_refl env t f.good)
  fared_paid (Ok Undefined) s g = fares_refl env s g
  fared_paid (Ok Null) s g = fares_refl env s g
  fared_paid (Ok (Truth b)) s g = fares_refl env s g
  fared_paid (Ok (Number n)) s g = fares_refl env s g
  fared_paid (Err cause) s g = fared_throw env cause s g

  pub fared_behind_prototype : (a v : PlainValue) (s : State) → Good env s → Fared env s (behind_prototype a v s)
  fared_behind_prototype a (Simple p) s g = fared_throw env NotObject s g
  fared_behind_prototype a (ObjectAt o) s g = fares_refl env s g

  pub fared_is_instance : (a : PlainValue) (f : ℕ) (s : State) → Good env s → Fared env s (is_instance a f s)
  fared_is_instance (Simple p) f s g = fares_refl env s g
  fared_is_instance (ObjectAt o) f s g =
      fared_behind_prototype (ObjectAt o) (get (Simple Undefined) (codes "prototype") s.objects (target_of (length s.objects) s.objects f)) s g

  pub fared_instance_of : (a b : PlainValue) (s : State) → Good env s → Fared env s (instance_of a b s)
  fared_instance_of a (Simple q) s g = fared_throw env NotFunction s g
  fared_instance_of a (ObjectAt f) s g =
      fared_if env s (is_callable s.objects (ObjectAt f)) (is_instance a f s) (throw NotFunction s) (fared_is_instance a f s g) (fared_throw env NotFunction s g)

  pub fared_type_of : (v : PlainValue) (s : State) → Good env s → Fared env s (type_of v s)
  fared_type_of (Simple p) s g = fared_answered (unary_of sign.TypeOf p) s g
  fared_type_of (ObjectAt o) s g = fares_refl env s g

  module _ (call : Call) (fares : CallFares env call) where
    pub fared_on_primitives : (h : Hint) (f : Primitive → Primitive → Answer) (a b : PlainValue) (s : State) → Good env s
        → Fared env s (on_primitives call h f a b s)
    fared_on_primitives h f a b s g =
        fared_then env (to_primitive call h a s) (λ p s. and_then (to_primitive call h b s) (λ q s. answered (f p q) s)) (fared_primitive call fares h a s g)
        (λ p t k. fared_then env (to_primitive call h b t) (λ q s. answered (f p q) s) (fared_primitive call fares h b t k.good)
        (λ q u l. fared_answered (f p q) u l.good))

    pub fared_added : (a b : PlainValue) (s : State) → Good env s → Fared env s (added call a b s)
    fared_added a b s g =
        fared_then env (to_primitive call hint.Any a s) (λ p s. and_then (to_primitive call hint.Any b s) (λ q s. paid (binary_of op.Add p q) s))
        (fared_primitive call fares hint.Any a s g)
        (λ p t k. fared_then env (to_primitive call hint.Any b t) (λ q s. paid (binary_of op.Add p q) s) (fared_primitive call fares hint.Any b t k.good)
        (λ q u l. fared_paid (binary_of op.Add p q) u l.good))

    pub fared_on_numbers : (f : BinaryOp) (a b : PlainValue) (s : State) → Good env s → Fared env s (on_numbers call f a b s)
    fared_on_numbers f a b s g =
        fared_then env (to_number call a s) (λ n s. and_then (to_number call b s) (λ m s. answered (binary_of f (Number n) (Number m)) s)) (fared_number call fares a s g)
        (λ n t k. fared_then env (to_number call b t) (λ m s. answered (binary_of f (Number n) (Number m)) s) (fared_number call fares b t k.good)
        (λ m u l. fared_answered (binary_of f (Number n) (Number m)) u l.good))

    pub fared_equal_to_object : (object : PlainValue) (p : Primitive) (s : State) → Good env s → Fared env s (equal_to_object call object p s)
    fared_equal_to_object object p s g =
        fared_if env s (is_nothing p) (Gives false s) (and_then (to_primitive call hint.Any object s) (λ q s. Gives (is_equal q p) s)) (fares_refl env s g)
        (fared_then env (to_primitive call hint.Any object s) (λ q s. Gives (is_equal q p) s) (fared_primitive call fares hint.Any object s g)
        (λ q t k. fares_refl env t k.good))

    pub fared_equals : (a b : PlainValue) (s : State) → Good env s → Fared env s (equals call a b s)
    fared_equals (Simple p) (Simple q) s g = fares_refl env s g
    fared_equals (ObjectAt a) (ObjectAt b) s g = fares_refl env s g
    fared_equals (ObjectAt a) (Simple q) s g = fared_equal_to_object (ObjectAt a) q s g
    fared_equals (Simple p) (ObjectAt b) s g = fared_equal_to_object (ObjectAt b) p s g

    pub fared_is_in : (a b : PlainValue) (s : State) → Good env s → Fared env s (is_in call a b s)
    fared_is_in a (Simple q) s g = fared_throw env NotObject s g
    fared_is_in a (ObjectAt b) s g = fared_then env (to_text call a s) _ (fared_text call fares a s g) (λ name t k. fares_refl env t k.good)

    pub fared_binary : (o : BinaryOp) (a b : PlainValue) (s : State) → Good env s → Fared env s (binary call o a b s)
    fared_binary op.Add a b s g = fared_added a b s g
    fared_binary op.Eq a b s g = fared_then env (equals call a b s) truth (fared_equals a b s g) (λ e t k. fares_refl env t k.good)
    fared_binary op.Ne a b s g = fared_then env (equals call a b s) (λ e. truth (not e)) (fared_equals a b s g) (λ e t k. fares_refl env t k.good)
    fared_binary op.StrictEq a b s g = fares_refl env s g
    fared_binary op.StrictNe a b s g = fares_refl env s g
    fared_binary op.Lt a b s g = fared_on_primitives hint.Number (binary_of op.Lt) a b s g
    fared_binary op.Gt a b s g = fared_on_primitives hint.Number (binary_of op.Gt) a b s g
    fared_binary op.Le a b s g = fared_on_primitives hint.Number (binary_of op.Le) a b s g
    fared_binary op.Ge a b s g = fared_on_primitives hint.Number (binary_of op.Ge) a b s g
    fared_binary op.InstanceOf a b s g = fared_instance_of a b s g
    fared_binary op.In a b s g = fared_is_in a b s g
    fared_binary op.BitOr a b s g = fared_on_numbers op.BitOr a b s g
    fared_binary op.BitXor a b s g = fared_on_numbers op.BitXor a b s g
    fared_binary op.BitAnd a b s g = fared_on_numbers op.BitAnd a b s g
    fared_binary op.Shl a b s g = fared_on_numbers op.Shl a b s g
    fared_binary op.Shr a b s g = fared_on_numbers op.Shr a b s g
    fared_binary op.UShr a b s g = fared_on_numbers op.UShr a b s g
    fared_binary op.Sub a b s g = fared_on_numbers op.Sub a b s g
    fared_binary op.Mul a b s g = fared_on_numbers op.Mul a b s g
    fared_binary op.Div a b s g = fared_on_numbers op.Div a b s g
    fared_binary op.Rem a b s g = fared_on_numbers op.Rem a b s g

    pub fared_on_number : (f : UnaryOp) (v : PlainValue) (s : State) → Good env s → Fared env s (on_number call f v s)
    fared_on_number f v s g =
        fared_then env (to_number call v s) (λ n s. answered (unary_of f (Number n)) s) (fared_number call fares v s g)
        (λ n t k. fared_answered (unary_of f (Number n)) t k.good)

    pub fared_unary : (o : UnaryOp) (v : PlainValue) (s : State) → Good env s → Fared env s (unary call o v s)
    fared_unary sign.Delete v s g = fares_refl env s g
    fared_unary sign.Void v s g = fares_refl env s g
    fared_unary sign.TypeOf v s g = fared_type_of v s g
    fared_unary sign.Plus v s g = fared_on_number sign.Plus v s g
    fared_unary sign.Minus v s g = fared_on_number sign.Minus v s g
    fared_unary sign.BitNot v s g = fared_on_number sign.BitNot v s g
    fared_unary sign.Not v s g = fares_refl env s g

  -- ---- names

  pub fared_read_name : (name : List ℕ) (x : Context) (s : State) → Good env s → Fared env s (read_name name x s)
  fared_read_name name x s g =
      fared_option env s (λ found. Gives found.variable.value s) (find name s.scopes x.scope) (throw_not_defined name s) (λ found. fares_refl env s g) (fared_not_defined env name s g)

  pub fared_assign_found : (name : List ℕ) (value : PlainValue) (found : Found) (s : State) → Good env s → Fared env s (assign_found name value found s)
  fared_assign_found name value found s g =
      fared_if env s found.variable.assignable (Gives value (record s { scopes = with_variable name value s.scopes found.scope })) (throw ReadOnly s)
      (fares_variable env name value s found.scope g) (fared_throw env ReadOnly s g)

  pub fared_assign_name : (name : List ℕ) (value : PlainValue) (x : Context) (s : State) → Good env s → Fared env s (assign_name name value x s)
  fared_assign_name name value x s g =
      fared_option env s (λ found. assign_found name value found s) (find name s.scopes x.scope) (throw_not_defined name s)
      (λ found. fared_assign_found name value found s g) (fared_not_defined env name s g)

  -- ---- members

  pub fared_with_members : (v : PlainValue) (go : State → Outcome PlainValue) (s : State) → Good env s → Fared env s (go s) → Fared env s (with_members v go s)
  fared_with_members (Simple Undefined) go s g h = fared_throw env NullBase s g
  fared_with_members (Simple Null) go s g h = fared_throw env NullBase s g
  fared_with_members (Simple (Truth b)) go s g h = h
  fared_with_members (Simple (Number n)) go s g h = h
  fared_with_members (Simple (Characters text)) go s g h = h
  fared_with_members (ObjectAt o) go s g h = h

  pub fared_put_member : (name : List ℕ) (base v : PlainValue) (s : State) → Good env s → Fared env s (put_member name base v s)
  fared_put_member name (ObjectAt o) v s g = fared_changed env o _ (Gives v) s g (λ t f. fares_refl env t f.good)
  fared_put_member name (Simple p) v s g = fared_throw env NotObject s g

  pub fared_delete_member : (name : List ℕ) (base : PlainValue) (s : State) → Good env s → Fared env s (delete_member name base s)
  fared_delete_member name (ObjectAt o) s g = fared_changed env o _ (Gives (Simple (Truth true))) s g (λ t f. fares_refl env t f.good)
  fared_delete_member name (Simple p) s g =
      fared_if env s (is_some (own_member name p)) (throw NotConfigurable s) (Gives (Simple (Truth true)) s) (fared_throw env NotConfigurable s g) (fares_refl env s g)

  pub fared_with_element : (made : ℕ) (name : List ℕ) (v : PlainValue) (go : State → Outcome PlainValue) (s : State) → Good env s
      → ((t : State) → Fares env s t → Fared env t (go t)) → Fared env s (with_element made name v go s)
  fared_with_element made name v go s g next = fared_changed env made _ go s g next

  pub fared_finished_array : (made n : ℕ) (x : Context) (s : State) → Good env s → Fared env s (finished_array made n x s)
  fared_finished_array made n x s g = fared_then env (put_member length_name (ObjectAt made) (length_value n) s) (λ v s. Gives (ObjectAt made) s) (fared_put_member length_name (ObjectAt made) (length_value n) s g) (λ v t f. fares_refl env t f.good)

  -- ---- functions

  pub fares_function : (params unit number : ℕ) (scope : ScopeId) (s : State) → Scoped (env unit number) s.scopes scope.0 → Good env s
      → Fares env s (with_function params (Script unit number scope) s)
  fares_function params unit number scope s fits g =
      let f = fares_object env (function_object params (length s.objects + 1) (Script unit number scope)) s fits g in
      fares_trans env f (fares_object env (prototype_object (length s.objects)) (with_object (function_object params (length s.objects + 1) (Script unit number scope)) s) tt f.good)

  pub fared_made_in : (scope : ScopeId) (number params : ℕ) (x : Context) (s : State) → Scoped (env x.unit number) s.scopes scope.0 → Good env s
      → Fared env s (made_in scope number params x s)
  fared_made_in scope number params x s fits g =
      fared_charge env 1 (λ s. Gives (ObjectAt (length s.objects)) (with_function params (Script x.unit number scope) s)) s g
      (λ t f. fares_function params x.unit number scope t (scoped_keeps (env x.unit number) scope.0 fits f.keeps) f.good)

  -- ---- references

  pub fared_value_of : (r : Reference) (x : Context) (s : State) → Good env s → Fared env s (value_of r x s)
  fared_value_of (Of v) x s g = fares_refl env s g
  fared_value_of (Named name) x s g = fared_read_name name x s g
  fared_value_of (Member base name) x s g = fares_refl env s g

  pub fared_assigned : (r : Reference) (v : PlainValue) (x : Context) (s : State) → Good env s → Fared env s (assigned r v x s)
  fared_assigned (Of w) v x s g = fares_refl env s g
  fared_assigned (Named name) v x s g = fared_assign_name name v x s g
  fared_assigned (Member base name) v x s g = fared_put_member name base v s g

  pub fared_deleted : (r : Reference) (x : Context) (s : State) → Good env s → Fared env s (deleted r x s)
  fared_deleted (Of v) x s g = fares_refl env s g
  fared_deleted (Named name) x s g = fares_refl env s g
  fared_deleted (Member base name) x s g = fared_delete_member name base s g

  pub fared_type_of_reference : (r : Reference) (x : Context) (s : State) → Good env s → Fared env s (type_of_reference r x s)
  fared_type_of_reference r x s g =
      fared_if env s (is_unbound r x s) (type_of (Simple Undefined) s) (and_then (value_of r x s) type_of) (fared_type_of (Simple Undefined) s g)
      (fared_then env (value_of r x s) type_of (fared_value_of r x s g) (λ v t f. fared_type_of v t f.good))

  pub fared_member_of : (base : PlainValue) (name : List ℕ) (x : Context) (s : State) → Good env s → Fared env s (member_of base name x s)
  fared_member_of base name x s g =
      fared_then env (with_members base (Gives base) s) (λ v s. Gives (Member v name) s) (fared_with_members base (Gives base) s g (fares_refl env s g))
      (λ v t f. fares_refl env t f.good)

  module _ (x : Context) (calls : CallsFare env x.calls) where
    pub fared_member_by : (base key : PlainValue) (s : State) → Good env s → Fared env s (member_by base key x s)
    fared_member_by base key s g =
        fared_then env (with_members base (Gives base) s) (λ v s. and_then (to_text x.calls.call key s) (λ name s. Gives (Member v name) s))
        (fared_with_members base (Gives base) s g (fares_refl env s g))
        (λ v t f. fared_then env (to_text x.calls.call key t) (λ name s. Gives (Member v name) s) (fared_text x.calls.call calls.call key t f.good)
        (λ name u k. fares_refl env u k.good))

    pub fared_operate : (o : BinaryOp) (v w : PlainValue) (s : State) → Good env s → Fared env s (operate o v w x s)
    fared_operate o v w s g = fared_binary x.calls.call calls.call o v w s g

    pub fared_operate_one : (o : UnaryOp) (v : PlainValue) (s : State) → Good env s → Fared env s (operate_one o v x s)
    fared_operate_one o v s g = fared_unary x.calls.call calls.call o v s g

    pub fared_number_in : (v : PlainValue) (s : State) → Good env s → Fared env s (number_in v x s)
    fared_number_in v s g = fared_number x.calls.call calls.call v s g

    pub fared_call_with : (f this : PlainValue) (args : List PlainValue) (s : State) → Good env s → Fared env s (call_with f this args x s)
    fared_call_with f this args s g = calls.call f this args s g

    pub fared_construct_with : (f : PlainValue) (args : List PlainValue) (s : State) → Good env s → Fared env s (construct_with f args x s)
    fared_construct_with f args s g = calls.construct f args s g

  pub fared_step_to : (prefix : Bool) (o : UpdateOp) (r : Reference) (n : ℤ) (x : Context) (s : State) → Good env s → Fared env s (step_to prefix o r n x s)
  fared_step_to prefix o r n x s g =
      fared_then env (answered (stepped o n) s) (λ v s. and_then (assigned r v x s) (λ w s. Gives (if prefix then w else Simple (Number n)) s)) (fared_answered (stepped o n) s g)
      (λ v t f. fared_then env (assigned r v x t) (λ w s. Gives (if prefix then w else Simple (Number n)) s) (fared_assigned r v x t f.good)
      (λ w u k. fares_refl env u k.good))

  -- ---- what single operations do

  -- a new object of a class
  abbrev new_of : Class → Prototype → PlainObject
  new_of class up = record { class = class; prototype = Some (record { 0 = place_of up }); extensible = true; props = first_props length_value class; inner = Plain }

  pub fared_fails : (f : Failure) (s : State) → Good env s → Fared env s (fails f s)
  fared_fails (failure.NotDefined name) s g = fared_not_defined env name s g
  fared_fails failure.ReadOnly s g = fared_throw env ReadOnly s g

  pub fared_defined : (name : List ℕ) (object v : PlainValue) (s : State) → Good env s → Fared env s (defined name object v s)
  fared_defined name (ObjectAt o) v s g = fared_with_element o name v (Gives (ObjectAt o)) s g (λ t f. fares_refl env t f.good)
  fared_defined name (Simple p) v s g = fares_refl env s g

  pub fared_stepped_from : (o : UpdateOp) (v : PlainValue) (s : State) → Good env s → Fared env s (stepped_from o v s)
  fared_stepped_from o (Simple (Number n)) s g = fared_answered (stepped o n) s g
  fared_stepped_from o (Simple Undefined) s g = fares_refl env s g
  fared_stepped_from o (Simple Null) s g = fares_refl env s g
  fared_stepped_from o (Simple (Truth b)) s g = fares_refl env s g
  fared_stepped_from o (Simple (Characters text)) s g = fares_refl env s g
  fared_stepped_from o (ObjectAt at) s g = fares_refl env s g

  pub fares_new_array : (s : State) → Good env s → Fares env s (new_array s)
  fares_new_array s g = fares_object env (new_of class.Array prototype.Array) s tt g

  pub fares_new_object : (s : State) → Good env s → Fares env s (new_object s)
  fares_new_object s g = fares_object env (new_of class.Object prototype.Object) s tt g

  -- ---- dictionaries

  -- the state with a reply taken
  abbrev reply_taken : ℕ → DictOp → Zone → DictReply → List DictReply → State → State
  reply_taken zone o asked reply rest s = record s {
    zones = slice_set s.zones zone (record asked { replies = rest });
    asked = s.asked ++ record { zone = zone; op = o; reply = reply } ∷ [];
  }

  fared_ask_zone : {A : Type 0} (zone : ℕ) (o : DictOp) (go : DictReply → State → Outcome A) (asked : Zone) (s : State) → Good env s
      → ((reply : DictReply) (t : State) → Fares env s t → Fared env t (go reply t)) → Fared env s (ask_zone zone o go asked s)
  fared_ask_zone zone o go asked s g next = by asked.replies
    where
      by : (replies : List DictReply) → Fared env s (split_first replies (λ reply rest. go reply (reply_taken zone o asked reply rest s)) (Asks zone o s))
      by [] = fares_refl env s g
      by (reply ∷ rest) =
          let t = reply_taken zone o asked reply rest s in
          let f : Fares env s t = fares_less env s t refl refl (omega arith) g in
          fared_from env (go reply t) (next reply t f) f

  -- the next reply is taken, or the run ends
  pub fared_ask : {A : Type 0} (zone : ℕ) (o : DictOp) (go : DictReply → State → Outcome A) (s : State) → Good env s
      → ((reply : DictReply) (t : State) → Fares env s t → Fared env t (go reply t)) → Fared env s (ask zone o go s)
  fared_ask zone o go s g next =
      fared_option env s (λ asked. ask_zone zone o go asked s) (slice_get s.zones zone) (Asks zone o s) (λ asked. fared_ask_zone zone o go asked s g next) (fares_refl env s g)
