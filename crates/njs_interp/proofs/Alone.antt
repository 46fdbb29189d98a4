-- Answers that change the heap alone, for a caller.
use Rattle.std.proofs.Common.{◌≡◌, ℕ, List, [], map, Some, None, Result, Ok, Err, false, slice_index_or, refl, sym, ap, ◌∙◌, subst, arith}
use Rattle.std.proofs.lemmas.List.{append-nil}
use Rattle.njs_value.specs.declared.Cause.{Cause}
use Rattle.njs_value.specs.declared.Cause.TheVariants as cause
use Rattle.njs_value.specs.declared.ObjId.{ObjId}
use Rattle.njs_value.specs.declared.Value.{Value}
use Rattle.njs_value.specs.declared.Value.TheVariants as value
use Rattle.njs_shared.specs.Heap.{Heap, HeapObject, Sizes}
use Rattle.njs_clone.specs.Content.{content}
use Rattle.njs_clone.specs.StandsFor.{plain_objects}
use Rattle.njs_meaning.specs.Primitives.{Primitive, Undefined, Null, Truth, Number, Characters}
use Rattle.njs_meaning.specs.Values.{PlainValue, Simple}
use Rattle.njs_meaning.specs.State.{State, Outcome, Gives, Throws, Spent, Asks}
use Rattle.njs_meaning.specs.Replies.{state_of}
use Rattle.njs_meaning.specs.Errors.{name_of, message_of, throw}
use Rattle.njs_members.specs.Gains.{GainsTexts}
use Rattle.njs_convert.specs.declared.stop.Stop.{Stop}
use Rattle.njs_convert.specs.declared.stop.Stop.TheVariants.{Throw, Fuel, NoMemory}
use Rattle.njs_convert.specs.Tells.{Tells, ShowsValue, Extends, ThrowsError, FitsCause, Counts, CountsError, text_at}
use Rattle.njs_convert.proofs.Thrown.{thrown}
use Rattle.njs_interp.specs.Acts.{Unanswered}
use Rattle.njs_convert.specs.Tests.{is_object}
use Rattle.njs_interp.specs.Alone.{WithObjects, TellsAlone, object_in}

-- what is known of the states then may be known by other words
pub tells_by : {V A : Type 0} (stands stands' stopped stopped' : State → Type 0) (texts : List (List ℕ)) (shows : V → A → Type 0) (r : Result V Stop) (o : Outcome A)
    → ((t : State) → stands t → stands' t) → ((t : State) → stopped t → stopped' t) → Tells stands stopped texts shows r o → Tells stands' stopped' texts shows r o
tells_by stands stands' stopped stopped' texts shows (Ok v) (Gives a s) f g t = (t.0, f s t.1)
tells_by stands stands' stopped stopped' texts shows (Ok v) (Throws w s) f g t = absurd t
tells_by stands stands' stopped stopped' texts shows (Ok v) (Spent s) f g t = absurd t
tells_by stands stands' stopped stopped' texts shows (Ok v) (Asks zone op s) f g t = absurd t
tells_by stands stands' stopped stopped' texts shows (Err (Throw v)) (Gives a s) f g t = absurd t
tells_by stands stands' stopped stopped' texts shows (Err (Throw v)) (Throws w s) f g t = (t.0, f s t.1)
tells_by stands stands' stopped stopped' texts shows (Err (Throw v)) (Spent s) f g t = absurd t
tells_by stands stands' stopped stopped' texts shows (Err (Throw v)) (Asks zone op s) f g t = absurd t
tells_by stands stands' stopped stopped' texts shows (Err Fuel) (Gives a s) f g t = absurd t
tells_by stands stands' stopped stopped' texts shows (Err Fuel) (Throws w s) f g t = absurd t
tells_by stands stands' stopped stopped' texts shows (Err Fuel) (Spent s) f g t = f s t
tells_by stands stands' stopped stopped' texts shows (Err Fuel) (Asks zone op s) f g t = absurd t
tells_by stands stands' stopped stopped' texts shows (Err NoMemory) o f g t = g (state_of o) t

-- a caller whose states go with the heap's objects
module _ (stands : Heap → State → Type 0) (stopped : State → Type 0) (objects_are : (h : Heap) (s : State) → stands h s → s.objects ≡ plain_objects h)
    (stands_on : (h l : Heap) (s : State) → stands h s → Extends h l → stands l (record s { objects = plain_objects l })) (stops : (h : Heap) (s : State) → stands h s → stopped s)
    (stopped_as : (s t : State) → t.zones ≡ s.zones → t.asked ≡ s.asked → stopped s → stopped t) where
  pub alone : (h l : Heap) (r : Result Value Stop) (meaning : State → Outcome PlainValue) (s : State) → TellsAlone h l r meaning → Extends h l → stands h s → Tells (stands l) stopped l.texts (ShowsValue l.texts) r (meaning s)
  alone h l r meaning s told extends here =
      tells_by (WithObjects l s) (stands l) (Unanswered s) stopped l.texts (ShowsValue l.texts) r (meaning s)
      (λ t is. subst (stands l) (sym is) (stands_on h l s here extends)) (λ t none. stopped_as s t none.zones none.asked (stops h s here)) (told.by s (objects_are h s here))

-- ---- what single answers tell

-- a value of a heap whose objects are by content as they were
pub gives_alone : (h k : Heap) (v : Value) (p : PlainValue) (meaning : State → Outcome PlainValue) → content k.texts v ≡ p → plain_objects k ≡ plain_objects h
    → ((s : State) → s.objects ≡ plain_objects h → meaning s ≡ Gives p s) → TellsAlone h k (Ok v) meaning
gives_alone h k v p meaning shows objects is = record {
  by = λ s stands.
      subst (Tells (WithObjects k s) (Unanswered s) k.texts (ShowsValue k.texts) (Ok v)) (sym (is s stands))
      (shows, ap (λ os. record s { objects = os }) (stands ∙ sym objects));
}

-- a definition that answers no call
pub unanswered_alone : (h k : Heap) (meaning : State → Outcome PlainValue) → ((s : State) → s.objects ≡ plain_objects h → Unanswered s (state_of (meaning s))) → TellsAlone h k (Err NoMemory) meaning
unanswered_alone h k meaning none = record { by = λ s stands. none s stands }

pub message_same : (texts : List (List ℕ)) (c : Cause) → name_of c ≡ None → message_of (text_at texts) c ≡ message_of (λ name. []) c
message_same texts (cause.NotDefined name) e = cc
message_same texts cause.NotFunction e = refl
message_same texts cause.NotConstructor e = refl
message_same texts cause.NullBase e = refl
message_same texts cause.NotObject e = refl
message_same texts cause.ReadOnly e = refl
message_same texts cause.NotExtensible e = refl
message_same texts cause.NotConfigurable e = refl
message_same texts cause.WrongReceiver e = refl
message_same texts cause.WrongArgument e = refl
message_same texts cause.NoPrimitive e = refl
message_same texts cause.Circular e = refl
message_same texts cause.EmptyReduce e = refl
message_same texts cause.ResponseState e = refl
message_same texts cause.BadField e = refl
message_same texts cause.OutOfRange e = refl
message_same texts cause.Fraction e = refl
message_same texts cause.DivideByZero e = refl
message_same texts cause.NotNumber e = refl
message_same texts cause.CallDepth e = refl
message_same texts cause.TextTooLong e = refl
message_same texts cause.BadLength e = refl
message_same texts cause.BadArgument e = refl
message_same texts cause.TooNested e = refl
message_same texts cause.BadJson e = refl
message_same texts cause.BadUri e = refl
message_same texts cause.NoRoom e = refl

pub cause_fits : (n : Sizes) (c : Cause) → name_of c ≡ None → FitsCause n c
cause_fits n c e = λ name is. let no : Some name ≡ None = sym is ∙ e in cc

-- a new error of a cause without a name
pub throws_alone : (h k : Heap) (c : Cause) (stop : Stop) (meaning : State → Outcome PlainValue) → name_of c ≡ None → ThrowsError c h k stop
    → ((s : State) → s.objects ≡ plain_objects h → meaning s ≡ throw c s) → TellsAlone h k (Err stop) meaning
throws_alone h k c stop meaning nameless throws is = record {
  by = λ s stands.
      subst (Tells (WithObjects k s) (Unanswered s) k.texts (ShowsValue k.texts) (Err stop)) (sym (is s stands))
      (thrown (WithObjects k s) (Unanswered s) h k (ShowsValue k.texts) c stop s stands refl (message_same h.texts c nameless) throws (record { zones = refl; asked = refl }));
}

-- ---- heaps that gain texts

abbrev with_texts : Heap → List (List ℕ) → Heap
with_texts h texts = record { objects = h.objects; scopes = h.scopes; texts = texts }

pub gained_extends : (h k : Heap) → GainsTexts h k → Extends h k
gained_extends h k gains = record {
  scopes = ap (λ (m : Heap). m.scopes) gains.is;
  others = [];
  ordinary = tt;
  inner = ap (λ (m : Heap). map (λ (o : HeapObject). o.inner) m.objects) gains.is ∙ sym (append-nil (map (λ (o : HeapObject). o.inner) h.objects));
  more = gains.more;
  texts = ap (λ (m : Heap). m.texts) gains.is;
}

-- ---- steps

pub counts_by : {V : Type 0} (adds adds' : ℕ → Type 0) (n : ℕ) (r : Result V Stop) → ((m : ℕ) → adds m → adds' m) → Counts adds n r → Counts adds' n r
counts_by adds adds' n (Ok v) f counts = f n counts
counts_by adds adds' n (Err stop) f counts = (counts.0, f counts.0 counts.1, counts.2, counts.3)

-- a throw of a new error
pub counts_error : (V : Type 0) (old new : ℕ) (stop : Stop) → CountsError old new stop → Counts {V = V} (λ n. n ≡ old) new (Err stop)
counts_error V old new (Throw v) counts = (old, refl, omega (arith, counts), omega (arith, counts))
counts_error V old new Fuel counts = absurd counts
counts_error V old new NoMemory counts = (old, refl, omega (arith, counts), omega (arith, counts))

-- what is counted where nothing was called
pub counts_alone : {V : Type 0} (adds : ℕ → Type 0) (old new : ℕ) (r : Result V Stop) → adds old → Counts (λ n. n ≡ old) new r → Counts adds new r
counts_alone adds old new r here counts = counts_by (λ n. n ≡ old) adds new r (λ m is. subst adds (sym is) here) counts

-- ---- objects and values that are none

pub object_is : (v : Value) (o : ObjId) → object_in v ≡ Some o → v ≡ value.Obj o
object_is value.Undefined o is = cc
object_is value.Null o is = cc
object_is (value.Bool b) o is = cc
object_is (value.Num n) o is = cc
object_is (value.Str t) o is = cc
object_is (value.Obj p) o is = cc

pub simple_is : (v : Value) → object_in v ≡ None → is_object v ≡ false
simple_is value.Undefined is = refl
simple_is value.Null is = refl
simple_is (value.Bool b) is = refl
simple_is (value.Num n) is = refl
simple_is (value.Str t) is = refl
simple_is (value.Obj p) is = cc

-- a value that is no object, by content
pub simple_content : (texts : List (List ℕ)) (v : Value) → object_in v ≡ None → (p : Primitive) × (content texts v ≡ Simple p)
simple_content texts value.Undefined is = (Undefined, refl)
simple_content texts value.Null is = (Null, refl)
simple_content texts (value.Bool b) is = (Truth b, refl)
simple_content texts (value.Num n) is = (Number n, refl)
simple_content texts (value.Str t) is = (Characters (slice_index_or texts t.0 []), refl)
simple_content texts (value.Obj p) is = cc
