-- What is read of a heap, read by content.
use Rattle.std.proofs.Common.{◌≡◌, ℕ, List, [], Some, Bool, false, cond, ap, refl, sym, ◌∙◌, slice_get}
use Rattle.std.specs.Option.{option_map, option_map_or}
use Rattle.std.proofs.lemmas.Option.{slice_get-map}
use Rattle.njs_value.specs.declared.Value.{Value}
use Rattle.njs_value.specs.declared.Value.TheVariants as value
use Rattle.njs_shared.specs.declared.object.Inner.{Inner}
use Rattle.njs_shared.specs.declared.object.Inner.TheVariants as inner
use Rattle.njs_shared.specs.Heap.{Heap, HeapObject}
use Rattle.njs_clone.specs.Content.{content}
use Rattle.njs_clone.specs.StandsFor.{mapped_object, content_inner, plain_objects}
use Rattle.njs_clone.proofs.MappedHeap.{get-mapped}
use Rattle.njs_meaning.specs.Primitives.{Undefined}
use Rattle.njs_meaning.specs.Values.{Simple, ObjectAt}
use Rattle.njs_meaning.specs.PlainHeap.{PlainObject}
use Rattle.njs_meaning.specs.Chains.{get}
use Rattle.njs_meaning.specs.State.{State, Gives, Call}
use Rattle.njs_meaning.specs.Conversions.{is_function, is_callable, tried}
use Rattle.njs_convert.specs.Tests.{is_function_part}

-- the value that a name reads
get-plain : (h : Heap) (name : List ℕ) (at : ℕ) → get (Simple Undefined) name (plain_objects h) at ≡ content h.texts (get value.Undefined name h.objects at)
get-plain h name at = get-mapped (content h.texts) (content_inner h.texts) value.Undefined (Simple Undefined) refl name h.objects at

pub function-plain : (texts : List (List ℕ)) (i : Inner) → is_function_part i ≡ is_function (content_inner texts i)
function-plain texts inner.Plain = refl
function-plain texts (inner.Script unit code scope) = refl
function-plain texts (inner.BuiltIn row) = refl
function-plain texts (inner.Bound target this args) = refl
function-plain texts (inner.ZoneNumber zone) = refl

-- what can be called
pub callable-plain : (h : Heap) (at : ℕ) (o : HeapObject) → slice_get h.objects at ≡ Some o → is_function_part o.inner ≡ is_callable (plain_objects h) (ObjectAt at)
callable-plain h at o there =
    let f = mapped_object (content h.texts) (content_inner h.texts) in
    function-plain h.texts o.inner
    ∙ sym (ap (λ r. option_map_or (λ (p : PlainObject). is_function p.inner) r false) (slice_get-map f h.objects at ∙ ap (option_map f) there))

-- a method that is tried
pub tried_is : (h : Heap) (s : State) (m : Call) (name : List ℕ) (at : ℕ) (method : Value) (b : Bool) → s.objects ≡ plain_objects h → method ≡ get value.Undefined name h.objects at
    → b ≡ is_callable (plain_objects h) (content h.texts method)
    → tried m name at s ≡ cond b (m (content h.texts method) (ObjectAt at) [] s) (Gives (ObjectAt at) s)
tried_is h s m name at method b objects found callable =
    let read : get (Simple Undefined) name s.objects at ≡ content h.texts method =
    ap (λ os. get (Simple Undefined) name os at) objects ∙ get-plain h name at ∙ ap (content h.texts) (sym found)
    in
    ap (λ p. cond (is_callable s.objects p) (m p (ObjectAt at) [] s) (Gives (ObjectAt at) s)) read
    ∙ ap (λ os. cond (is_callable os (content h.texts method)) (m (content h.texts method) (ObjectAt at) [] s) (Gives (ObjectAt at) s)) objects
    ∙ ap (λ c. cond c (m (content h.texts method) (ObjectAt at) [] s) (Gives (ObjectAt at) s)) (sym callable)
