-- Heaps that extend others, one after another.
use Rattle.std.proofs.Common.{◌≡◌, List, [], ◌∷◌, ◌++◌, Result, map, length, ap, refl, sym, ◌∙◌, append_assoc, subst}
use Rattle.std.proofs.lemmas.List.{append-nil, map-append, length-map}
use Rattle.njs_value.specs.declared.Value.{Value}
use Rattle.njs_shared.specs.Heap.{Heap, HeapObject, sizes}
use Rattle.njs_shared.specs.Fits.{FitsValue, FitsHeap}
use Rattle.njs_clone.specs.Content.{content}
use Rattle.njs_convert.specs.Tells.{Extends, IsOrdinary}
use Rattle.njs_members.specs.Gains.{GainsTexts, KeepsRest}
use Rattle.njs_meaning.specs.Values.{PlainValue}
use Rattle.njs_meaning.specs.State.{State, Outcome}
use Rattle.njs_convert.specs.declared.stop.Stop.{Stop}
use Rattle.njs_interp.specs.Outcomes.{MeansOnHeap}
use Rattle.njs_clone.specs.StandsFor.{mapped_object, content_inner, content_objects, plain_objects}
use Rattle.njs_meaning.specs.PlainHeap.{PlainObject}
use Rattle.njs_convert.specs.FirstHeap.{StandsFor, slots_of}
use Rattle.njs_interp.specs.Plain.{heap_of}
use Rattle.njs_interp.specs.Acts.{OnHeap}
use Rattle.njs_interp.proofs.Standing.{on-gained, extends-nothing}
use Rattle.njs_interp.proofs.Kept.{content-further, all-joined}

pub extends-trans : (h k l : Heap) → Extends h k → Extends k l → Extends h l
extends-trans h k l a b = record {
  scopes = b.scopes ∙ a.scopes;
  others = a.others ++ b.others;
  ordinary = all-joined IsOrdinary a.others b.others a.ordinary b.ordinary;
  inner = b.inner ∙ ap (λ is. is ++ b.others) a.inner ∙ append_assoc (map (λ (o : HeapObject). o.inner) h.objects) a.others b.others;
  more = a.more ++ b.more;
  texts = b.texts ∙ ap (λ ts. ts ++ b.more) a.texts ∙ append_assoc h.texts a.more b.more;
}

pub extends-gained : (h k : Heap) → GainsTexts h k → Extends h k
extends-gained h k gains = record {
  scopes = ap (λ (m : Heap). m.scopes) gains.is;
  others = [];
  ordinary = tt;
  inner = ap (λ (m : Heap). map (λ (o : HeapObject). o.inner) m.objects) gains.is ∙ sym (append-nil (map (λ (o : HeapObject). o.inner) h.objects));
  more = gains.more;
  texts = ap (λ (m : Heap). m.texts) gains.is;
}

pub extends-kept : (h k : Heap) → KeepsRest h k → Extends h k
extends-kept h k keeps = record {
  scopes = keeps.scopes;
  others = [];
  ordinary = tt;
  inner = keeps.inner ∙ sym (append-nil (map (λ (o : HeapObject). o.inner) h.objects));
  more = [];
  texts = keeps.texts ∙ sym (append-nil h.texts);
}

-- two heaps that gain texts, one after the other
pub gains-trans : (h k l : Heap) → GainsTexts h k → GainsTexts k l → GainsTexts h l
gains-trans h k l a b = record {
  more = a.more ++ b.more;
  is =
      b.is ∙ ap (λ (m : Heap). record m { texts = m.texts ++ b.more }) a.is
      ∙ ap (λ ts. record h { texts = ts }) (append_assoc h.texts a.more b.more);
  objects = b.objects ∙ a.objects;
}

module _ (h k : Heap) (gains : GainsTexts h k) where
  pub value-gained : (v : Value) → FitsValue (sizes h) v → content k.texts v ≡ content h.texts v
  value-gained v fits = ap (λ ts. content ts v) (ap (λ (m : Heap). m.texts) gains.is) ∙ content-further (sizes h) h.texts gains.more refl v fits

  pub objects-gained : length k.objects ≡ length h.objects
  objects-gained = ap (λ (m : Heap). length m.objects) gains.is

-- what is told from a heap with further texts is told from the one before
pub means-gained : (h k l : Heap) (r : Result Value Stop) (meaning : State → Outcome PlainValue) → FitsHeap h → GainsTexts h k → MeansOnHeap k l r meaning → MeansOnHeap h l r meaning
means-gained h k l r meaning fits gains means = record { by = λ s stands. means.by s (on-gained h k s fits gains stands).stands }

-- ---- an object more

inner_pushed : (os : List HeapObject) (o : HeapObject) → map (λ (o : HeapObject). o.inner) (os ++ o ∷ []) ≡ map (λ (o : HeapObject). o.inner) os ++ o.inner ∷ []
inner_pushed os o = map-append (λ (o : HeapObject). o.inner) os (o ∷ [])

pub extends-pushed : (h k : Heap) (o : HeapObject) → IsOrdinary o.inner → k ≡ record h { objects = h.objects ++ o ∷ [] } → Extends h k
extends-pushed h k o ordinary is = record {
  scopes = ap (λ (m : Heap). m.scopes) is;
  others = o.inner ∷ [];
  ordinary = (ordinary, tt);
  inner = ap (λ (m : Heap). map (λ (o : HeapObject). o.inner) m.objects) is ∙ inner_pushed h.objects o;
  more = [];
  texts = ap (λ (m : Heap). m.texts) is ∙ sym (append-nil h.texts);
}

-- the plain state, with the same object
pub on-pushed : (h k : Heap) (s : State) (os : List HeapObject) (new : List PlainObject) → k ≡ record h { objects = os } → content_objects h.texts os ≡ new → StandsFor h (heap_of s) → OnHeap k s (record s { objects = new })
on-pushed h k s os new is same stands = record {
  stands = record {
    objects = ap plain_objects is ∙ same;
    scopes = ap (λ (m : Heap). map (slots_of m.texts) m.scopes) is ∙ stands.scopes;
  };
  beside = record { response = refl; zones = refl; asked = refl; log = refl; ticks = refl };
}

pub count-same : (h : Heap) (s : State) → StandsFor h (heap_of s) → length h.objects ≡ length s.objects
count-same h s stands = sym (length-map h.objects (mapped_object (content h.texts) (content_inner h.texts))) ∙ ap length stands.objects

pub extends-same : (h k : Heap) → k ≡ h → Extends h k
extends-same h k is = subst (Extends h) (sym is) (extends-nothing h)
