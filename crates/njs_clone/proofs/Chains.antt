-- One step along the prototypes.
use Rattle.std.proofs.Common.{◌≡◌, ℕ, ◌+◌, ◌-◌, ◌<◌, zero, suc, List, [], ◌∷◌, Option, Some, None, ap, refl, sym, ◌∙◌, subst, slice_get, length, arith}
use Rattle.std.specs.Option.{option_map_or}
use Rattle.std.specs.List.{AllByRecursion}
use Rattle.njs_value.specs.declared.ObjId.{ObjId}
use Rattle.njs_value.specs.Object.{Object}
use Rattle.njs_meaning.specs.Chains.{chain, first_found}

module _ {P I : Type 0} (look : Object P I → Option P) (objects : List (Object P I)) where
  -- what is found from an object with n steps left
  abbrev pub found_from : ℕ → ℕ → Option P
  found_from n at = first_found look (chain n objects at)

  opened : (n at : ℕ) (o : Object P I) → slice_get objects at ≡ Some o → found_from (suc n) at ≡ option_map_or (λ p. Some p) (look o) (first_found look (option_map_or (λ up. chain n objects up.0) o.prototype []))
  opened n at o is = ap (λ r. first_found look (option_map_or (λ o. o ∷ option_map_or (λ up. chain n objects up.0) o.prototype []) r [])) is

  -- at the object itself
  pub found_here : (n at : ℕ) (o : Object P I) (p : P) → 0 < n → slice_get objects at ≡ Some o → look o ≡ Some p → found_from n at ≡ Some p
  found_here zero at o p some is here = absurd (omega arith)
  found_here (suc n) at o p some is here = opened n at o is ∙ ap (λ r. option_map_or (λ p. Some p) r (first_found look (option_map_or (λ up. chain n objects up.0) o.prototype []))) here

  -- nowhere, where the object is the last
  pub found_nowhere : (n at : ℕ) (o : Object P I) → slice_get objects at ≡ Some o → look o ≡ None → o.prototype ≡ None → found_from n at ≡ None
  found_nowhere zero at o is absent last = refl
  found_nowhere (suc n) at o is absent last =
      opened n at o is ∙ ap (λ r. option_map_or (λ p. Some p) r (first_found look (option_map_or (λ up. chain n objects up.0) o.prototype []))) absent
      ∙ ap (λ r. first_found look (option_map_or (λ (up : ObjId). chain n objects up.0) r [])) last

  -- further up
  pub found_above : (n m at : ℕ) (o : Object P I) (up : ObjId) → n ≡ suc m → slice_get objects at ≡ Some o → look o ≡ None → o.prototype ≡ Some up → found_from m up.0 ≡ found_from n at
  found_above n m at o up more is absent above =
      sym (ap (λ k. found_from k at) more ∙ opened m at o is ∙ ap (λ r. option_map_or (λ p. Some p) r (first_found look (option_map_or (λ up. chain m objects up.0) o.prototype []))) absent
      ∙ ap (λ r. first_found look (option_map_or (λ (up : ObjId). chain m objects up.0) r [])) above)
