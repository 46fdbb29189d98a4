-- Heaps that have gained texts.
use Rattle.std.proofs.Common.{◌≡◌, ℕ, zero, suc, List, [], ◌∷◌, ◌++◌, Some, slice_get, ap, refl, sym, ◌∙◌}
use Rattle.std.specs.Prelude.{slice_index_or}
use Rattle.std.proofs.lemmas.List.{append-nil}
use Rattle.njs_shared.specs.Heap.{Heap, sizes}
use Rattle.njs_shared.specs.Fits.{FitsHeap}
use Rattle.njs_clone.specs.StandsFor.{plain_objects}
use Rattle.njs_clone.proofs.Longer.{objects_same}
use Rattle.njs_members.specs.Gains.{GainsTexts}

abbrev with_texts : Heap → List (List ℕ) → Heap
with_texts h texts = record { objects = h.objects; scopes = h.scopes; texts = texts }

pub gains-nothing : (h : Heap) → GainsTexts h h
gains-nothing h = record { more = []; is = sym (ap (with_texts h) (append-nil h.texts)); objects = refl }

pub gains-text : (h k : Heap) (text : List ℕ) → FitsHeap h → k ≡ record h { texts = h.texts ++ text ∷ [] } → GainsTexts h k
gains-text h k text fits is = record {
  more = text ∷ [];
  is = is;
  objects = ap plain_objects is ∙ objects_same (sizes h) h.texts (text ∷ []) refl h.objects fits.objects;
}

-- the text with a number
pub text-read : (texts : List (List ℕ)) (id : ℕ) (text : List ℕ) → slice_get texts id ≡ Some text → text ≡ slice_index_or texts id []
text-read [] id text there = cc
text-read (t ∷ ts) zero text there = let same : t ≡ text = cc in sym same
text-read (t ∷ ts) (suc id) text there = text-read ts id text there
