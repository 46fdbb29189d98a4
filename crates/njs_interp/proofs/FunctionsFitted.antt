-- Further functions stand in scopes with the slots that they count on.
use Rattle.std.proofs.Common.{◌≡◌, ℕ, List, Option, Some, sym, ap, ◌∙◌, subst, inl, inr}
use Rattle.std.proofs.lemmas.Option.{slice_get_cases}
use Rattle.njs_value.specs.declared.ScopeId.{ScopeId}
use Rattle.njs_shared.specs.declared.object.Inner.{Inner}
use Rattle.njs_shared.specs.declared.object.Inner.TheVariants as inner
use Rattle.njs_shared.specs.declared.object.Scope.{Scope}
use Rattle.njs_shared.specs.Heap.{Heap, HeapObject}
use Rattle.njs_convert.specs.Tells.{IsOrdinary}
use Rattle.njs_interp.specs.Sits.{SlotsFrom}
use Rattle.njs_interp.specs.Grown.{Widens, Grown, FitsFurther, FunctionsFit}
use Rattle.njs_interp.specs.Making.{IsMade, MakesFunction}
use Rattle.njs_interp.proofs.Kept.{SlotsFrom-widened}

module _ (counts : ℕ → ℕ → Option (List ℕ)) where
  ordinary_fits : (scopes : List Scope) (i : Inner) → IsOrdinary i → FitsFurther counts scopes i
  ordinary_fits scopes inner.Plain is = tt
  ordinary_fits scopes (inner.Script unit number scope) is = absurd is
  ordinary_fits scopes (inner.BuiltIn row) is = absurd is
  ordinary_fits scopes (inner.Bound target this args) is = tt
  ordinary_fits scopes (inner.ZoneNumber zone) is = absurd is

  -- further objects that are ordinary fit
  pub functions_fit : (h k : Heap) → Grown h k → FunctionsFit counts h k
  functions_fit h k grown = record { fresh = λ at o there far. ordinary_fits k.scopes o.inner (grown.fresh at o there far) }

  further-widened : (h k : Heap) → Widens h k → (i : Inner) → FitsFurther counts h.scopes i → FitsFurther counts k.scopes i
  further-widened h k widens inner.Plain fits = tt
  further-widened h k widens (inner.Script unit number scope) fits = (fits.0, fits.1, SlotsFrom-widened h k widens fits.0 scope.0 fits.2)
  further-widened h k widens (inner.BuiltIn row) fits = absurd fits
  further-widened h k widens (inner.Bound target this args) fits = tt
  further-widened h k widens (inner.ZoneNumber zone) fits = absurd fits

  -- one after the other
  pub functions-trans : (h k l : Heap) → FunctionsFit counts h k → Widens k l → FunctionsFit counts k l → FunctionsFit counts h l
  functions-trans h k l first widens second = record {
    fresh = λ at o there far. elim ((slice_get_cases k.objects at).1) [
      | inl found ↦ (
          let now = widens.objects at found.0 found.2 in
          let same : now.now ≡ o = cc in
          let part : FitsFurther counts l.scopes found.0.inner = further-widened k l widens found.0.inner (first.fresh at found.0 found.2 far) in
          subst (λ (p : HeapObject). FitsFurther counts l.scopes p.inner) same (subst (FitsFurther counts l.scopes) (sym now.inner) part))
      | inr past ↦ second.fresh at o there past.0
    ];
  }

  -- a function that was made in a scope
  pub functions-made : (h k : Heap) (unit number : ℕ) (scope : ScopeId) (slots : List ℕ) → MakesFunction unit number scope h k → counts unit number ≡ Some slots → SlotsFrom slots h.scopes scope.0 → FunctionsFit counts h k
  functions-made h k unit number scope slots makes counted from = record { fresh = λ at o there far. by o.inner (makes.fresh at o there far) }
    where
      by : (i : Inner) → IsMade unit number scope i → FitsFurther counts k.scopes i
      by inner.Plain is = tt
      by (inner.Script u n s) is = (
        slots,
        ap (λ m. counts m n) is.0 ∙ ap (counts unit) is.1 ∙ counted,
        subst (λ (p : ScopeId). SlotsFrom slots k.scopes p.0) (sym is.2) (subst (λ scopes. SlotsFrom slots scopes scope.0) (sym makes.scopes) from),
      )
      by (inner.BuiltIn row) is = absurd is
      by (inner.Bound target this args) is = absurd is
      by (inner.ZoneNumber zone) is = absurd is
