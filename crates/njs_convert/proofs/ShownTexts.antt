-- The text of a value, once it stands in the heap.
use Rattle.std.proofs.Common.{◌≡◌, ℕ, ◌<◌, List, [], ◌∷◌, ◌++◌, length, sym, ap, refl, ◌∙◌, subst, arith, length-append}
use Rattle.std.specs.Prelude.{slice_index_or, IfOk, OnOk, OnErr, Result, Ok, Err}
use Rattle.njs_value.specs.declared.Value.{Value}
use Rattle.njs_value.specs.declared.Value.TheVariants as value
use Rattle.njs_value.specs.declared.TextId.{TextId}
use Rattle.njs_shared.specs.Heap.{Heap, sizes}
use Rattle.njs_shared.specs.Fits.{FitsHeap}
use Rattle.njs_clone.specs.Content.{content}
use Rattle.njs_clone.specs.StandsFor.{plain_objects}
use Rattle.njs_meaning.specs.Primitives.{Primitive, Undefined, Null, Truth, Number, Characters}
use Rattle.njs_meaning.specs.Values.{Simple}
use Rattle.njs_meaning.specs.Numbers.{text_of}
use Rattle.njs_text.specs.declared.memory.NoMemory.{NoMemory}
use Rattle.njs_convert.specs.Tells.{text_at, Extends}
use Rattle.njs_convert.specs.Texts.{IsShown, shown_text, HasText}
use Rattle.njs_convert.proofs.Grown.{heap_with, Extends-refl, Extends-text}
use Rattle.njs_convert.proofs.Made.{last_at, objects_kept}

shown_is : (texts : List (List ℕ)) (v : Value) (p : Primitive) → IsShown v → content texts v ≡ Simple p → shown_text v ≡ text_of p
shown_is texts value.Undefined p shown e = let same : Undefined ≡ p = cc in ap text_of same
shown_is texts value.Null p shown e = let same : Null ≡ p = cc in ap text_of same
shown_is texts (value.Bool b) p shown e = let same : Truth b ≡ p = cc in ap text_of same
shown_is texts (value.Num n) p shown e = let same : Number n ≡ p = cc in ap text_of same
shown_is texts (value.Str t) p shown e = absurd shown
shown_is texts (value.Obj o) p shown e = absurd shown

pub added_text : (h k : Heap) (v : Value) (t : TextId) → FitsHeap h → IsShown v → t.0 ≡ length h.texts → k ≡ heap_with h h.objects (h.texts ++ shown_text v ∷ []) → HasText h k v t
added_text h k v t fits shown numbered is =
    let texts = h.texts ++ shown_text v ∷ [] in
    let read : text_at k.texts t ≡ shown_text v = ap (λ (m : Heap). text_at m.texts t) is ∙ ap (λ i. slice_index_or texts i []) numbered ∙ last_at h.texts (shown_text v) in
    record {
      shows = λ p e. read ∙ shown_is h.texts v p shown e;
      within = omega (arith, numbered, ap (λ (m : Heap). length m.texts) is, length-append h.texts (shown_text v ∷ []));
      objects = ap plain_objects is ∙ objects_kept h.texts (shown_text v ∷ []) (sizes h) refl h.objects fits.objects;
    }

pub same_text : (h : Heap) (t : TextId) → t.0 < length h.texts → HasText h h (value.Str t) t
same_text h t within = record { shows = λ p e. ap text_of (same p e); within = within; objects = refl }
  where
    same : (p : Primitive) → Simple (Characters (slice_index_or h.texts t.0 [])) ≡ Simple p → Characters (slice_index_or h.texts t.0 []) ≡ p
    same p e = cc

-- what adding a text answers
pub added_answer : (h k : Heap) (v : Value) (text : List ℕ) (r : Result TextId NoMemory) → FitsHeap h → IsShown v → text ≡ shown_text v → IfOk r (λ t. t.0 ≡ length h.texts) → OnOk r (k ≡ heap_with h h.objects (h.texts ++ text ∷ []))
    → IfOk r (HasText h k v)
added_answer h k v text (Ok t) fits shown e numbered is = added_text h k v t fits shown numbered (is ∙ ap (λ s. heap_with h h.objects (h.texts ++ s ∷ [])) e)
added_answer h k v text (Err w) fits shown e numbered is = tt

pub extends_answer : (h k : Heap) (text : List ℕ) (r : Result TextId NoMemory) → OnOk r (k ≡ heap_with h h.objects (h.texts ++ text ∷ [])) → OnErr r (k ≡ h) → Extends h k
extends_answer h k text (Ok t) is stays = subst (Extends h) (sym is) (Extends-text h text)
extends_answer h k text (Err w) is stays = subst (Extends h) (sym stays) (Extends-refl h)
