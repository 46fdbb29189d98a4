-- What conversions, operators, members and functions leave of the dictionaries: only the calls in them reach those.
use Rattle.std.proofs.Common.{◌≡◌, ℕ, ℤ, ◌-◌, List, [], ◌∷◌, length, Bool, true, false, not, if◌then◌else◌, codes, is_some, refl, sym, subst, arith, Option, Some, None, nat_lt}
use Rattle.std.specs.Prelude.{Ok, Err}
use Rattle.std.specs.Option.{option_map_or}
use Rattle.njs_tree.specs.declared.tree.BinaryOp.{BinaryOp}
use Rattle.njs_tree.specs.declared.tree.BinaryOp.TheVariants as op
use Rattle.njs_tree.specs.declared.tree.UnaryOp.{UnaryOp}
use Rattle.njs_tree.specs.declared.tree.UnaryOp.TheVariants as sign
use Rattle.njs_tree.specs.declared.tree.UpdateOp.{UpdateOp}
use Rattle.njs_value.specs.declared.Cause.{Cause}
use Rattle.njs_value.specs.declared.Cause.TheVariants.{NullBase, NotObject, NotConfigurable, NoPrimitive, NotNumber, NotFunction, ReadOnly}
use Rattle.njs_value.specs.declared.ScopeId.{ScopeId}
use Rattle.njs_code.specs.declared.op.Failure.{Failure}
use Rattle.njs_code.specs.declared.op.Failure.TheVariants as failure
use Rattle.njs_meaning.specs.declared.level.Hint.{Hint}
use Rattle.njs_meaning.specs.declared.level.Hint.TheVariants as hint
use Rattle.njs_meaning.specs.Primitives.{Primitive, Undefined, Null, Truth, Number, Characters}
use Rattle.njs_meaning.specs.Numbers.{number_of, text_of}
use Rattle.njs_meaning.specs.Values.{PlainValue, Simple, ObjectAt}
use Rattle.njs_meaning.specs.PlainHeap.{Script}
use Rattle.njs_meaning.specs.Properties.{Change}
use Rattle.njs_meaning.specs.Objects.{with_props}
use Rattle.njs_meaning.specs.Operators.{Answer, binary_of, unary_of, is_nothing, is_equal}
use Rattle.njs_meaning.specs.Chains.{get}
use Rattle.njs_meaning.specs.State.{State, Outcome, Gives, Throws, Spent, Asks, Call, and_then}
use Rattle.njs_meaning.specs.Errors.{throw}
use Rattle.njs_meaning.specs.Conversions.{is_callable, first_method, second_method, tried, primitive_or, by_second, by_methods, to_primitive, number_or_throw, to_number, to_text}
use Rattle.njs_meaning.specs.Running.{Context, charge, changed, one_and}
use Rattle.njs_meaning.specs.Scopes.{fixed, next_scope, with_scope, with_variable}
use Rattle.njs_meaning.specs.Members.{with_members, own_member, put_member, delete_member}
use Rattle.njs_meaning.specs.References.{Of, Member}
use Rattle.njs_meaning.specs.Operations.{answered, paid, on_primitives, added, on_numbers, equal_to_object, equals, truth, behind_prototype, is_instance, instance_of, is_in, binary, type_of, on_number, unary, stepped, target_of}
use Rattle.njs_meaning.specs.Functions.{with_function, made_in}
use Rattle.njs_meaning.specs.Meaning.{Made, member_by, function, function_named, function_without_name}
use Rattle.njs_meaning.specs.Replies.{state_of}
use Rattle.njs_simul.specs.Step.{fails, defined, stepped_from}
use Rattle.njs_simul.specs.Fits.{Names, Good, Fares, Fared}
use Rattle.njs_simul.proofs.Kept.{fares_less}

-- a relation that holds where no dictionary is asked, and through what follows
pub record IsThrough (R : State → State → Type 0) : Type 0 where
  pub same : (s t : State) → t.zones ≡ s.zones → t.asked ≡ s.asked → R s t
  pub join : (s t u : State) → R s t → R t u → R s u

module _ (R : State → State → Type 0) (through : IsThrough R) where
  -- a state and what comes of it
  abbrev pub To : {A : Type 0} → State → Outcome A → Type 0
  To s o = R s (state_of o)

  pub stays : (s : State) → R s s
  stays s = through.same s s refl refl

  pub to_then : {A B : Type 0} (s : State) (o : Outcome A) (f : A → State → Outcome B) → To s o → ((a : A) (t : State) → To t (f a t)) → To s (and_then o f)
  to_then s (Gives a t) f h k = through.join s t (state_of (f a t)) h (k a t)
  to_then s (Throws v t) f h k = h
  to_then s (Spent t) f h k = h
  to_then s (Asks zone q t) f h k = h

  pub to_if : {A : Type 0} (s : State) (b : Bool) (o p : Outcome A) → To s o → To s p → To s (if b then o else p)
  to_if s true o p h k = h
  to_if s false o p h k = k

  pub to_option : {A X : Type 0} (s : State) (f : X → Outcome A) (q : Option X) (o : Outcome A) → ((x : X) → To s (f x)) → To s o → To s (option_map_or f q o)
  to_option s f None o h k = k
  to_option s f (Some x) o h k = h x

  abbrev paid_state : ℕ → State → State
  paid_state n s = record s { ticks = s.ticks - n }

  pub to_charge : {A : Type 0} (n : ℕ) (go : State → Outcome A) (s : State) → ((t : State) → t ≡ paid_state n s → To t (go t)) → To s (charge n go s)
  to_charge n go s k =
      let t = paid_state n s in
      to_if s (nat_lt s.ticks n) (Spent s) (go t) (stays s) (through.join s t (state_of (go t)) (through.same s t refl refl) (k t refl))

  pub to_throw : (cause : Cause) (s : State) → To s (throw {A = PlainValue} cause s)
  to_throw cause s = through.same s _ refl refl

  pub to_changed : (object : ℕ) (change : Change PlainValue) (v : PlainValue) (s : State) → To s (changed object change (Gives v) s)
  to_changed object change v s =
      let t : State = record s { objects = with_props s.objects object change.props } in
      to_option s (λ cause. throw cause t) change.thrown (Gives v t) (λ cause. through.same s _ refl refl) (through.same s t refl refl)

  -- ---- what asks for no call

  pub to_answered : (a : Answer) (s : State) → To s (answered a s)
  to_answered (Ok p) s = stays s
  to_answered (Err cause) s = to_throw cause s

  pub to_paid : (a : Answer) (s : State) → To s (paid a s)
  to_paid (Ok (Characters text)) s = to_charge (one_and (length text) 64) (Gives (Simple (Characters text))) s (λ t is. stays t)
  to_paid (Ok Undefined) s = stays s
  to_paid (Ok Null) s = stays s
  to_paid (Ok (Truth b)) s = stays s
  to_paid (Ok (Number n)) s = stays s
  to_paid (Err cause) s = to_throw cause s

  pub to_behind_prototype : (a v : PlainValue) (s : State) → To s (behind_prototype a v s)
  to_behind_prototype a (Simple p) s = to_throw NotObject s
  to_behind_prototype a (ObjectAt o) s = stays s

  pub to_is_instance : (a : PlainValue) (f : ℕ) (s : State) → To s (is_instance a f s)
  to_is_instance (Simple p) f s = stays s
  to_is_instance (ObjectAt o) f s = to_behind_prototype (ObjectAt o) (get (Simple Undefined) (codes "prototype") s.objects (target_of (length s.objects) s.objects f)) s

  pub to_instance_of : (a b : PlainValue) (s : State) → To s (instance_of a b s)
  to_instance_of a (Simple q) s = to_throw NotFunction s
  to_instance_of a (ObjectAt f) s = to_if s (is_callable s.objects (ObjectAt f)) (is_instance a f s) (throw NotFunction s) (to_is_instance a f s) (to_throw NotFunction s)

  pub to_type_of : (v : PlainValue) (s : State) → To s (type_of v s)
  to_type_of (Simple p) s = to_answered (unary_of sign.TypeOf p) s
  to_type_of (ObjectAt o) s = stays s

  pub to_with_members : (v : PlainValue) (go : State → Outcome PlainValue) (s : State) → To s (go s) → To s (with_members v go s)
  to_with_members (Simple Undefined) go s h = to_throw NullBase s
  to_with_members (Simple Null) go s h = to_throw NullBase s
  to_with_members (Simple (Truth b)) go s h = h
  to_with_members (Simple (Number n)) go s h = h
  to_with_members (Simple (Characters text)) go s h = h
  to_with_members (ObjectAt o) go s h = h

  pub to_put_member : (name : List ℕ) (base v : PlainValue) (s : State) → To s (put_member name base v s)
  to_put_member name (ObjectAt o) v s = to_changed o _ v s
  to_put_member name (Simple p) v s = to_throw NotObject s

  pub to_delete_member : (name : List ℕ) (base : PlainValue) (s : State) → To s (delete_member name base s)
  to_delete_member name (ObjectAt o) s = to_changed o _ (Simple (Truth true)) s
  to_delete_member name (Simple p) s = to_if s (is_some (own_member name p)) (throw NotConfigurable s) (Gives (Simple (Truth true)) s) (to_throw NotConfigurable s) (stays s)

  pub to_fails : (f : Failure) (s : State) → To s (fails f s)
  to_fails (failure.NotDefined name) s = through.same s _ refl refl
  to_fails failure.ReadOnly s = to_throw ReadOnly s

  pub to_defined : (name : List ℕ) (object v : PlainValue) (s : State) → To s (defined name object v s)
  to_defined name (ObjectAt o) v s = to_changed o _ (ObjectAt o) s
  to_defined name (Simple p) v s = stays s

  pub to_stepped_from : (o : UpdateOp) (v : PlainValue) (s : State) → To s (stepped_from o v s)
  to_stepped_from o (Simple (Number n)) s = to_answered (stepped o n) s
  to_stepped_from o (Simple Undefined) s = stays s
  to_stepped_from o (Simple Null) s = stays s
  to_stepped_from o (Simple (Truth b)) s = stays s
  to_stepped_from o (Simple (Characters text)) s = stays s
  to_stepped_from o (ObjectAt at) s = stays s

  pub to_made_in : (scope : ScopeId) (number params : ℕ) (x : Context) (s : State) → To s (made_in scope number params x s)
  to_made_in scope number params x s =
      to_charge 1 (λ s. Gives (ObjectAt (length s.objects)) (with_function params (Script x.unit number scope) s)) s (λ t is. through.same t _ refl refl)

  to_named : (made : Made) (name : Option (List ℕ)) (x : Context) (s : State) → To s (option_map_or (λ name. function_named name made) name (function_without_name made) x s)
  to_named made None x s = to_then s (made_in x.scope made.number made.params x s) _ (to_made_in x.scope made.number made.params x s) (λ v t. stays t)
  to_named made (Some name) x s =
      let t = with_scope x.scope (fixed name (Simple Undefined) ∷ []) s in
      let o = made_in (next_scope s) made.number made.params x t in
      to_then s o (λ f u. Gives (Of f) (record u { scopes = with_variable name f u.scopes (next_scope s).0 }))
      (through.join s t (state_of o) (through.same s t refl refl) (to_made_in (next_scope s) made.number made.params x t)) (λ f u. through.same u _ refl refl)

  pub to_function : (made : Made) (x : Context) (s : State) → To s (function made x s)
  to_function made x s = to_named made made.name x s

  -- ---- what may call a function, from states that are good

  -- a value is given in a good state
  abbrev pub Lands : {A : Type 0} → (State → Type 0) → Outcome A → Type 0
  Lands good (Gives a t) = good t
  Lands good (Throws v t) = Unit {0}
  Lands good (Spent t) = Unit {0}
  Lands good (Asks zone q t) = Unit {0}

  module _ (env : Names) where
    pub fared_lands : {A : Type 0} (s : State) (o : Outcome A) → Fared env s o → Lands (Good env) o
    fared_lands s (Gives a t) h = h.good
    fared_lands s (Throws v t) h = tt
    fared_lands s (Spent t) h = tt
    fared_lands s (Asks zone q t) h = tt

    pub to_paid_on : {A : Type 0} (n : ℕ) (go : State → Outcome A) (s : State) → Good env s → ((t : State) → Fares env s t → To t (go t)) → To s (charge n go s)
    to_paid_on n go s g k = to_charge n go s (λ t is. k t (subst (Fares env s) (sym is) (fares_less env s (paid_state n s) refl refl (omega arith) g)))

  module _ (good : State → Type 0) where
    pub to_next : {A B : Type 0} (s : State) (o : Outcome A) (f : A → State → Outcome B) → Lands good o → To s o → ((a : A) (t : State) → good t → To t (f a t)) → To s (and_then o f)
    to_next s (Gives a t) f g h k = through.join s t (state_of (f a t)) h (k a t g)
    to_next s (Throws v t) f g h k = h
    to_next s (Spent t) f g h k = h
    to_next s (Asks zone q t) f g h k = h

    lands_then : {A B : Type 0} (o : Outcome A) (f : A → State → Outcome B) → Lands good o → ((a : A) (t : State) → good t → Lands good (f a t)) → Lands good (and_then o f)
    lands_then (Gives a t) f g k = k a t g
    lands_then (Throws v t) f g k = tt
    lands_then (Spent t) f g k = tt
    lands_then (Asks zone q t) f g k = tt

    lands_if : {A : Type 0} (b : Bool) (o p : Outcome A) → Lands good o → Lands good p → Lands good (if b then o else p)
    lands_if true o p h k = h
    lands_if false o p h k = k

    lands_primitive_or : (otherwise : State → Outcome Primitive) (v : PlainValue) (s : State) → good s → Lands good (otherwise s) → Lands good (primitive_or otherwise v s)
    lands_primitive_or otherwise (Simple p) s g h = g
    lands_primitive_or otherwise (ObjectAt o) s g h = h

    lands_number_or_throw : (n : Option ℤ) (s : State) → good s → Lands good (option_map_or (λ n. Gives n s) n (throw NotNumber s))
    lands_number_or_throw None s g = tt
    lands_number_or_throw (Some n) s g = g

    lands_with_members : (v : PlainValue) (s : State) → good s → Lands good (with_members v (Gives v) s)
    lands_with_members (Simple Undefined) s g = tt
    lands_with_members (Simple Null) s g = tt
    lands_with_members (Simple (Truth b)) s g = g
    lands_with_members (Simple (Number n)) s g = g
    lands_with_members (Simple (Characters text)) s g = g
    lands_with_members (ObjectAt o) s g = g

    module _ (call : Call) (lands : (f this : PlainValue) (args : List PlainValue) (s : State) → good s → Lands good (call f this args s))
        (ends : (f this : PlainValue) (args : List PlainValue) (s : State) → good s → To s (call f this args s)) where
      lands_tried : (name : List ℕ) (object : ℕ) (s : State) → good s → Lands good (tried call name object s)
      lands_tried name object s g =
          let method = get (Simple Undefined) name s.objects object in
          lands_if (is_callable s.objects method) (call method (ObjectAt object) [] s) (Gives (ObjectAt object) s) (lands method (ObjectAt object) [] s g) g

      lands_by_second : (h : Hint) (o : ℕ) (s : State) → good s → Lands good (by_second call h o s)
      lands_by_second h o s g =
          lands_then (tried call (second_method h) o s) (primitive_or (throw NoPrimitive)) (lands_tried (second_method h) o s g) (λ v t g. lands_primitive_or (throw NoPrimitive) v t g tt)

      lands_by_methods : (h : Hint) (o : ℕ) (s : State) → good s → Lands good (by_methods call h o s)
      lands_by_methods h o s g =
          lands_then (tried call (first_method h) o s) (primitive_or (by_second call h o)) (lands_tried (first_method h) o s g)
          (λ v t g. lands_primitive_or (by_second call h o) v t g (lands_by_second h o t g))

      lands_primitive : (h : Hint) (v : PlainValue) (s : State) → good s → Lands good (to_primitive call h v s)
      lands_primitive h (Simple p) s g = g
      lands_primitive h (ObjectAt o) s g = lands_by_methods h o s g

      lands_number : (v : PlainValue) (s : State) → good s → Lands good (to_number call v s)
      lands_number v s g = lands_then (to_primitive call hint.Number v s) number_or_throw (lands_primitive hint.Number v s g) (λ p t g. lands_number_or_throw (number_of p) t g)

      pub to_tried : (name : List ℕ) (object : ℕ) (s : State) → good s → To s (tried call name object s)
      to_tried name object s g =
          let method = get (Simple Undefined) name s.objects object in
          to_if s (is_callable s.objects method) (call method (ObjectAt object) [] s) (Gives (ObjectAt object) s) (ends method (ObjectAt object) [] s g) (stays s)

      to_primitive_or : (otherwise : State → Outcome Primitive) (v : PlainValue) (s : State) → To s (otherwise s) → To s (primitive_or otherwise v s)
      to_primitive_or otherwise (Simple p) s h = stays s
      to_primitive_or otherwise (ObjectAt o) s h = h

      to_by_second : (h : Hint) (o : ℕ) (s : State) → good s → To s (by_second call h o s)
      to_by_second h o s g =
          to_then s (tried call (second_method h) o s) (primitive_or (throw NoPrimitive)) (to_tried (second_method h) o s g) (λ v t. to_primitive_or (throw NoPrimitive) v t (to_throw NoPrimitive t))

      to_by_methods : (h : Hint) (o : ℕ) (s : State) → good s → To s (by_methods call h o s)
      to_by_methods h o s g =
          to_next s (tried call (first_method h) o s) (primitive_or (by_second call h o)) (lands_tried (first_method h) o s g) (to_tried (first_method h) o s g)
          (λ v t g. to_primitive_or (by_second call h o) v t (to_by_second h o t g))

      pub to_primitive_ends : (h : Hint) (v : PlainValue) (s : State) → good s → To s (to_primitive call h v s)
      to_primitive_ends h (Simple p) s g = stays s
      to_primitive_ends h (ObjectAt o) s g = to_by_methods h o s g

      pub to_number_ends : (v : PlainValue) (s : State) → good s → To s (to_number call v s)
      to_number_ends v s g =
          to_then s (to_primitive call hint.Number v s) number_or_throw (to_primitive_ends hint.Number v s g) (λ p t. to_option t (λ n. Gives n t) (number_of p) (throw NotNumber t) (λ n. stays t) (to_throw NotNumber t))

      pub to_text_ends : (v : PlainValue) (s : State) → good s → To s (to_text call v s)
      to_text_ends v s g = to_then s (to_primitive call hint.Text v s) (λ p s. Gives (text_of p) s) (to_primitive_ends hint.Text v s g) (λ p t. stays t)

      to_on_primitives : (h : Hint) (f : Primitive → Primitive → Answer) (a b : PlainValue) (s : State) → good s → To s (on_primitives call h f a b s)
      to_on_primitives h f a b s g =
          to_next s (to_primitive call h a s) (λ p s. and_then (to_primitive call h b s) (λ q s. answered (f p q) s)) (lands_primitive h a s g) (to_primitive_ends h a s g)
          (λ p t g. to_then t (to_primitive call h b t) (λ q s. answered (f p q) s) (to_primitive_ends h b t g) (λ q u. to_answered (f p q) u))

      to_added : (a b : PlainValue) (s : State) → good s → To s (added call a b s)
      to_added a b s g =
          to_next s (to_primitive call hint.Any a s) (λ p s. and_then (to_primitive call hint.Any b s) (λ q s. paid (binary_of op.Add p q) s))
          (lands_primitive hint.Any a s g) (to_primitive_ends hint.Any a s g)
          (λ p t g. to_then t (to_primitive call hint.Any b t) (λ q s. paid (binary_of op.Add p q) s) (to_primitive_ends hint.Any b t g) (λ q u. to_paid (binary_of op.Add p q) u))

      to_on_numbers : (f : BinaryOp) (a b : PlainValue) (s : State) → good s → To s (on_numbers call f a b s)
      to_on_numbers f a b s g =
          to_next s (to_number call a s) (λ n s. and_then (to_number call b s) (λ m s. answered (binary_of f (Number n) (Number m)) s)) (lands_number a s g) (to_number_ends a s g)
          (λ n t g. to_then t (to_number call b t) (λ m s. answered (binary_of f (Number n) (Number m)) s) (to_number_ends b t g) (λ m u. to_answered (binary_of f (Number n) (Number m)) u))

      to_equal_to_object : (object : PlainValue) (p : Primitive) (s : State) → good s → To s (equal_to_object call object p s)
      to_equal_to_object object p s g =
          to_if s (is_nothing p) (Gives false s) (and_then (to_primitive call hint.Any object s) (λ q s. Gives (is_equal q p) s)) (stays s)
          (to_then s (to_primitive call hint.Any object s) (λ q s. Gives (is_equal q p) s) (to_primitive_ends hint.Any object s g) (λ q t. stays t))

      to_equals : (a b : PlainValue) (s : State) → good s → To s (equals call a b s)
      to_equals (Simple p) (Simple q) s g = stays s
      to_equals (ObjectAt a) (ObjectAt b) s g = stays s
      to_equals (ObjectAt a) (Simple q) s g = to_equal_to_object (ObjectAt a) q s g
      to_equals (Simple p) (ObjectAt b) s g = to_equal_to_object (ObjectAt b) p s g

      to_is_in : (a b : PlainValue) (s : State) → good s → To s (is_in call a b s)
      to_is_in a (Simple q) s g = to_throw NotObject s
      to_is_in a (ObjectAt b) s g = to_then s (to_text call a s) _ (to_text_ends a s g) (λ name t. stays t)

      pub to_binary : (o : BinaryOp) (a b : PlainValue) (s : State) → good s → To s (binary call o a b s)
      to_binary op.Add a b s g = to_added a b s g
      to_binary op.Eq a b s g = to_then s (equals call a b s) truth (to_equals a b s g) (λ e t. stays t)
      to_binary op.Ne a b s g = to_then s (equals call a b s) (λ e. truth (not e)) (to_equals a b s g) (λ e t. stays t)
      to_binary op.StrictEq a b s g = stays s
      to_binary op.StrictNe a b s g = stays s
      to_binary op.Lt a b s g = to_on_primitives hint.Number (binary_of op.Lt) a b s g
      to_binary op.Gt a b s g = to_on_primitives hint.Number (binary_of op.Gt) a b s g
      to_binary op.Le a b s g = to_on_primitives hint.Number (binary_of op.Le) a b s g
      to_binary op.Ge a b s g = to_on_primitives hint.Number (binary_of op.Ge) a b s g
      to_binary op.InstanceOf a b s g = to_instance_of a b s
      to_binary op.In a b s g = to_is_in a b s g
      to_binary op.BitOr a b s g = to_on_numbers op.BitOr a b s g
      to_binary op.BitXor a b s g = to_on_numbers op.BitXor a b s g
      to_binary op.BitAnd a b s g = to_on_numbers op.BitAnd a b s g
      to_binary op.Shl a b s g = to_on_numbers op.Shl a b s g
      to_binary op.Shr a b s g = to_on_numbers op.Shr a b s g
      to_binary op.UShr a b s g = to_on_numbers op.UShr a b s g
      to_binary op.Sub a b s g = to_on_numbers op.Sub a b s g
      to_binary op.Mul a b s g = to_on_numbers op.Mul a b s g
      to_binary op.Div a b s g = to_on_numbers op.Div a b s g
      to_binary op.Rem a b s g = to_on_numbers op.Rem a b s g

      to_on_number : (f : UnaryOp) (v : PlainValue) (s : State) → good s → To s (on_number call f v s)
      to_on_number f v s g = to_then s (to_number call v s) (λ n s. answered (unary_of f (Number n)) s) (to_number_ends v s g) (λ n t. to_answered (unary_of f (Number n)) t)

      pub to_unary : (o : UnaryOp) (v : PlainValue) (s : State) → good s → To s (unary call o v s)
      to_unary sign.Delete v s g = stays s
      to_unary sign.Void v s g = stays s
      to_unary sign.TypeOf v s g = to_type_of v s
      to_unary sign.Plus v s g = to_on_number sign.Plus v s g
      to_unary sign.Minus v s g = to_on_number sign.Minus v s g
      to_unary sign.BitNot v s g = to_on_number sign.BitNot v s g
      to_unary sign.Not v s g = stays s

    pub to_member_by : (x : Context) (lands : (f this : PlainValue) (args : List PlainValue) (s : State) → good s → Lands good (x.calls.call f this args s))
        (ends : (f this : PlainValue) (args : List PlainValue) (s : State) → good s → To s (x.calls.call f this args s)) (base key : PlainValue) (s : State) → good s → To s (member_by base key x s)
    to_member_by x lands ends base key s g =
        to_next s (with_members base (Gives base) s) (λ v s. and_then (to_text x.calls.call key s) (λ name s. Gives (Member v name) s))
        (lands_with_members base s g) (to_with_members base (Gives base) s (stays s))
        (λ v t g. to_then t (to_text x.calls.call key t) (λ name s. Gives (Member v name) s) (to_text_ends x.calls.call lands ends key t g) (λ name u. stays u))
