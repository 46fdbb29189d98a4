-- What a call leaves of a heap.
use Rattle.std.proofs.Common.{◌≡◌}
use Rattle.njs_value.specs.declared.Value.{Value}
use Rattle.njs_shared.specs.Heap.{Heap, sizes}
use Rattle.njs_shared.specs.Fits.{FitsValue}
use Rattle.njs_clone.specs.Content.{content}
use Rattle.njs_convert.specs.Tells.{Grows}
use Rattle.njs_interp.specs.Grown.{Widens}
use Rattle.njs_interp.proofs.Kept.{content-widened}

module _ (h k : Heap) (grows : Grows h k) where
  pub grown_widens : Widens h k
  grown_widens = record {
    scopes = λ at scope is. let shape = grows.shapes at scope is in record { now = shape.now; there = shape.there; parent = shape.parent; slots = shape.slots };
    objects = λ at object is. let inner = grows.inner at object is in record { now = inner.now; there = inner.there; inner = inner.inner };
    more = grows.more;
    texts = grows.texts;
  }

  pub grown_content : (v : Value) → FitsValue (sizes h) v → content k.texts v ≡ content h.texts v
  grown_content v fits = content-widened h k grown_widens v fits
