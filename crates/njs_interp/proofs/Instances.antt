-- What `instanceof` throws.
use Rattle.std.proofs.Common.{◌≡◌, ℕ, List, [], ◌∷◌, ◌++◌, Bool, true, false, cond, None, length, refl, sym, ap, ◌∙◌, arith}
use Rattle.std.specs.Prelude.{codes}
use Rattle.std.specs.Option.{option_map_or}
use Rattle.njs_value.specs.declared.Cause.{Cause}
use Rattle.njs_value.specs.declared.Cause.TheVariants as cause
use Rattle.njs_value.specs.declared.TextId.{TextId}
use Rattle.njs_shared.specs.Heap.{Heap}
use Rattle.njs_clone.specs.StandsFor.{plain_objects}
use Rattle.njs_meaning.specs.declared.prototypes.Prototype.TheVariants as prototype
use Rattle.njs_meaning.specs.Primitives.{Undefined}
use Rattle.njs_meaning.specs.Values.{PlainValue, Simple, ObjectAt}
use Rattle.njs_meaning.specs.PlainHeap.{PlainObject}
use Rattle.njs_meaning.specs.Chains.{get}
use Rattle.njs_meaning.specs.State.{State, Outcome}
use Rattle.njs_meaning.specs.Replies.{state_of}
use Rattle.njs_meaning.specs.Errors.{place_of, prototype_of, name_of, message_of, named_message, error_with, throw}
use Rattle.njs_meaning.specs.Conversions.{is_callable}
use Rattle.njs_meaning.specs.Operations.{target_of, behind_prototype, is_instance, instance_of}

-- a state with the objects of a heap
abbrev pub some_state : Heap → State
some_state h = record {
  objects = plain_objects h;
  scopes = [];
  response = record { head = None; body = []; is_finished = false };
  zones = [];
  asked = [];
  log = [];
  ticks = 0;
}

-- the prototype of the last object
last_place : List PlainObject → ℕ
last_place [] = 0
last_place (o ∷ []) = option_map_or (λ p. p.0) o.prototype 0
last_place (o ∷ (p ∷ rest)) = last_place (p ∷ rest)

last_pushed : (os : List PlainObject) (o : PlainObject) → last_place (os ++ o ∷ []) ≡ option_map_or (λ p. p.0) o.prototype 0
unfolding last_place
last_pushed [] o = refl
last_pushed (x ∷ []) o = refl
last_pushed (x ∷ (y ∷ os)) o = last_pushed (y ∷ os) o

-- a TypeError is no ReferenceError
type_error : (c d : Cause) (s : State) → prototype_of c ≡ prototype.TypeError → throw {A = PlainValue} c s ≡ throw d s → name_of d ≡ None
type_error c (cause.NotDefined name) s type same =
    let objects : s.objects ++ error_with (prototype_of c) (message_of (λ (t : TextId). []) c) ∷ [] ≡ s.objects ++ error_with prototype.ReferenceError (named_message []) ∷ [] =
    ap (λ (o : Outcome PlainValue). (state_of o).objects) same
    in
    let place : place_of prototype.TypeError ≡ place_of prototype.ReferenceError =
    sym (ap (λ p. option_map_or (λ q. q.0) (error_with p (message_of (λ (t : TextId). []) c)).prototype 0) type) ∙ sym (last_pushed s.objects (error_with (prototype_of c) (message_of (λ (t : TextId). []) c)))
    ∙ ap last_place objects ∙ last_pushed s.objects (error_with prototype.ReferenceError (named_message []))
    in
    absurd (omega (arith, place))
type_error c cause.NotFunction s type same = refl
type_error c cause.NotConstructor s type same = refl
type_error c cause.NullBase s type same = refl
type_error c cause.NotObject s type same = refl
type_error c cause.ReadOnly s type same = refl
type_error c cause.NotExtensible s type same = refl
type_error c cause.NotConfigurable s type same = refl
type_error c cause.WrongReceiver s type same = refl
type_error c cause.WrongArgument s type same = refl
type_error c cause.NoPrimitive s type same = refl
type_error c cause.Circular s type same = refl
type_error c cause.EmptyReduce s type same = refl
type_error c cause.ResponseState s type same = refl
type_error c cause.BadField s type same = refl
type_error c cause.OutOfRange s type same = refl
type_error c cause.Fraction s type same = refl
type_error c cause.DivideByZero s type same = refl
type_error c cause.NotNumber s type same = refl
type_error c cause.CallDepth s type same = refl
type_error c cause.TextTooLong s type same = refl
type_error c cause.BadLength s type same = refl
type_error c cause.BadArgument s type same = refl
type_error c cause.TooNested s type same = refl
type_error c cause.BadJson s type same = refl
type_error c cause.BadUri s type same = refl
type_error c cause.NoRoom s type same = refl

behind_nameless : (a v : PlainValue) (d : Cause) (s : State) → behind_prototype a v s ≡ throw d s → name_of d ≡ None
behind_nameless a (Simple p) d s same = type_error cause.NotObject d s refl same
behind_nameless a (ObjectAt o) d s same = cc

instance_of_nameless : (a : PlainValue) (f : ℕ) (d : Cause) (s : State) → is_instance a f s ≡ throw d s → name_of d ≡ None
instance_of_nameless (Simple p) f d s same = cc
instance_of_nameless (ObjectAt o) f d s same = behind_nameless (ObjectAt o) (get (Simple Undefined) (codes "prototype") s.objects (target_of (length s.objects) s.objects f)) d s same

callable_nameless : (b : Bool) (a : PlainValue) (f : ℕ) (d : Cause) (s : State) → cond b (is_instance a f s) (throw cause.NotFunction s) ≡ throw d s → name_of d ≡ None
callable_nameless true a f d s same = instance_of_nameless a f d s same
callable_nameless false a f d s same = type_error cause.NotFunction d s refl same

-- a cause that `instanceof` throws has no name
pub instance_nameless : (a b : PlainValue) (d : Cause) (s : State) → instance_of a b s ≡ throw d s → name_of d ≡ None
instance_nameless a (Simple q) d s same = type_error cause.NotFunction d s refl same
instance_nameless a (ObjectAt f) d s same = callable_nameless (is_callable s.objects (ObjectAt f)) a f d s same
