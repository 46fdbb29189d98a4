-- What an object that is called leads to, in the states that a heap stands for.
use Rattle.std.proofs.Common.{◌≡◌, ◌⊎◌, inl, inr, ℕ, List, Option, Some, Err, slice_get, ap, sym, subst, le_refl, ◌∙◌}
use Rattle.njs_value.specs.declared.Cause.{Cause}
use Rattle.njs_value.specs.declared.Row.{Row}
use Rattle.njs_shared.specs.Heap.{Heap, HeapObject, sizes}
use Rattle.njs_shared.specs.Fits.{FitsValue}
use Rattle.njs_shared.specs.declared.object.Inner.{Inner}
use Rattle.njs_shared.specs.declared.object.Inner.TheVariants as inner
use Rattle.njs_clone.specs.StandsFor.{content_inner, plain_objects}
use Rattle.njs_meaning.specs.Values.{PlainValue}
use Rattle.njs_meaning.specs.Replies.{Known}
use Rattle.njs_meaning.specs.Running.{Calls}
use Rattle.njs_meaning.specs.State.{State}
use Rattle.njs_meaning.specs.Functions.{Program}
use Rattle.njs_meaning.specs.Errors.{throw}
use Rattle.njs_convert.specs.declared.stop.Stop.{Stop}
use Rattle.njs_convert.specs.Tells.{ThrowsError, Extends, CountsError}
use Rattle.njs_convert.proofs.Grown.{Grows-Extends}
use Rattle.njs_convert.proofs.Thrown.{thrown_fits}
use Rattle.njs_simul.specs.Fits.{FitsInner}
use Rattle.njs_simul.proofs.FineFunctions.{fits_at}
use Rattle.njs_interp.specs.declared.own.Way.{Way}
use Rattle.njs_interp.specs.Standing.{Stands}
use Rattle.njs_interp.specs.Hosts.{FitsProgram}
use Rattle.njs_interp.specs.Owned.{fits_extends}
use Rattle.njs_interp.specs.Calling.{entered_by, entered, refusal, Entered}
use Rattle.njs_interp.proofs.Constructing.{inner_is}
use Rattle.njs_interp.proofs.Invoking.{plain_entered, zone_entered, error_counted}

module _ (keeps : Known → State → Type 0) (ticks : ℕ) (k : Known) (h : Heap) (f : ℕ) (o : HeapObject) (there : slice_get h.objects f ≡ Some o) (i : Inner) (is : o.inner ≡ i) (s : State) (stands : Stands keeps ticks k h s) where
  objects_are : s.objects ≡ plain_objects h
  objects_are = sym stands.holds.heap.objects

  -- a call goes by what the object is beside its properties
  pub entered_at : (program : Program) (calls : Calls) (w : Way) (args : List PlainValue) → entered program calls h.texts w f args s ≡ entered_by program calls h.texts w f (content_inner h.texts i) args s
  entered_at program calls w args =
      ap (λ p. entered_by program calls h.texts w f p args s) (inner_is h s.objects f o objects_are there)
      ∙ ap (λ (i : Inner). entered_by program calls h.texts w f (content_inner h.texts i) args s) is

  -- and a function of a script stands in scopes with the names around it
  pub scoped_at : FitsInner k.around (content_inner h.texts i) s.scopes
  scoped_at =
      subst (λ (i : Inner). FitsInner k.around (content_inner h.texts i) s.scopes) is
      (subst (λ p. FitsInner k.around p s.scopes) (inner_is h s.objects f o objects_are there) (fits_at k.around f s stands.good))

-- what has nothing to call is refused
pub refused_at : (keeps : Known → State → Type 0) (ticks : ℕ) (k : Known) (h : Heap) (f : ℕ) (o : HeapObject) → slice_get h.objects f ≡ Some o → (s : State) → Stands keeps ticks k h s
    → (program : Program) (calls : Calls) (w : Way) (args : List PlainValue) → (o.inner ≡ inner.Plain) ⊎ ((zone : ℕ) × (o.inner ≡ inner.ZoneNumber zone)) → entered program calls h.texts w f args s ≡ throw (refusal w) s
refused_at keeps ticks k h f o there s stands program calls w args (inl is) =
    entered_at keeps ticks k h f o there inner.Plain is s stands program calls w args ∙ plain_entered program calls h.texts f args s w
refused_at keeps ticks k h f o there s stands program calls w args (inr zone) =
    entered_at keeps ticks k h f o there (inner.ZoneNumber zone.0) zone.1 s stands program calls w args ∙ zone_entered program calls h.texts f args s w zone.0

-- ---- what an error leaves

pub throw_enters : (rows : Row → Type 0) (counts : ℕ → ℕ → Option (List ℕ)) (agrees : Known → Type 0) (zones : ℕ) (h l : Heap) (cause : Cause) (stop : Stop) (ticks count counted : ℕ) → FitsProgram rows zones counts h → ThrowsError cause h l stop
    → Extends h l → CountsError count counted stop → Entered rows counts agrees agrees zones h l (Err stop) ticks ticks count counted
throw_enters rows counts agrees zones h l cause stop ticks count counted fits throws extends steps = record {
  agrees = λ k agreed. agreed;
  fits = fits_extends rows zones counts h l fits extends;
  grows = Grows-Extends h l extends;
  value = thrown_fits (FitsValue (sizes l)) h l cause stop throws;
  spent = le_refl ticks;
  steps = error_counted count counted stop steps;
}
