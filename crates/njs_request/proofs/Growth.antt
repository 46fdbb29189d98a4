-- What a heap has it has when it has grown.
use Rattle.std.proofs.Common.{◌≡◌, ℕ, [], length, ap, refl, ◌∙◌, arith, length-append}
use Rattle.std.specs.Prelude.{slice_index_or, Result, Ok, Err}
use Rattle.std.proofs.lemmas.List.{get_or_append_left}
use Rattle.njs_value.specs.declared.Value.{Value}
use Rattle.njs_value.specs.declared.Value.TheVariants as value
use Rattle.njs_shared.specs.Heap.{Heap, sizes}
use Rattle.njs_shared.specs.Fits.{FitsValue}
use Rattle.njs_clone.specs.Content.{content}
use Rattle.njs_meaning.specs.Primitives.{Characters}
use Rattle.njs_meaning.specs.Values.{Simple}
use Rattle.njs_convert.specs.declared.stop.Stop.{Stop}
use Rattle.njs_convert.specs.declared.stop.Stop.TheVariants.{Throw, Fuel, NoMemory}
use Rattle.njs_convert.specs.Tells.{Grows, Counts, CountsError}

module _ (h k : Heap) (grows : Grows h k) where
  pub fits_grown : (v : Value) → FitsValue (sizes h) v → FitsValue (sizes k) v
  fits_grown value.Undefined fits = tt
  fits_grown value.Null fits = tt
  fits_grown (value.Bool b) fits = tt
  fits_grown (value.Num n) fits = fits
  fits_grown (value.Str t) fits = omega (arith, ap length grows.texts, length-append h.texts grows.more)
  fits_grown (value.Obj o) fits = omega (arith, grows.objects)

  pub content_grown : (v : Value) → FitsValue (sizes h) v → content k.texts v ≡ content h.texts v
  content_grown value.Undefined fits = refl
  content_grown value.Null fits = refl
  content_grown (value.Bool b) fits = refl
  content_grown (value.Num n) fits = refl
  content_grown (value.Str t) fits =
      ap (λ x. Simple (Characters x)) (ap (λ ts. slice_index_or ts t.0 []) grows.texts ∙ get_or_append_left h.texts grows.more [] t.0 fits)
  content_grown (value.Obj o) fits = refl

-- what was counted before, and then
pub counts_on : {V : Type 0} (adds adds' : ℕ → Type 0) (new : ℕ) (r : Result V Stop) → ((n : ℕ) → adds n → adds' n) → Counts adds new r → Counts adds' new r
counts_on adds adds' new (Ok v) on counts = on new counts
counts_on adds adds' new (Err stop) on counts = (counts.0, on counts.0 counts.1, counts.2, counts.3)

-- an error that is thrown where nothing else was counted
pub thrown_counts : (V : Type 0) (adds : ℕ → Type 0) (old new : ℕ) (stop : Stop) → adds old → CountsError old new stop → Counts {V = V} adds new (Err stop)
thrown_counts V adds old new (Throw v) none counts = (old, none, omega (arith, counts), omega (arith, counts))
thrown_counts V adds old new Fuel none counts = absurd counts
thrown_counts V adds old new NoMemory none counts = (old, none, omega (arith, counts), omega (arith, counts))
