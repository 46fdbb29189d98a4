-- The names that are listed along a chain of prototypes, one object more.
use Rattle.std.proofs.Common.{◌≡◌, ℕ, suc, ◌+◌, List, [], ◌∷◌, ◌++◌, Option, Some, None, ap, sym, ◌∙◌, slice_get, append_assoc, arith}
use Rattle.std.specs.Option.{option_map_or}
use Rattle.std.proofs.lemmas.List.{append-nil}
use Rattle.njs_props.specs.Props.{names_of}
use Rattle.njs_value.specs.declared.ObjId.{ObjId}
use Rattle.njs_meaning.specs.Values.{PlainValue}
use Rattle.njs_meaning.specs.PlainHeap.{PlainObject}
use Rattle.njs_meaning.specs.Chains.{chain}
use Rattle.njs_meaning.specs.Members.{visible_names, listed_names}
use Rattle.njs_members.specs.Listed.{own_names_of, all_names, hidden_by}

all_names-push : (os : List PlainObject) (o : PlainObject) → all_names (os ++ o ∷ []) ≡ all_names os ++ names_of o.props
all_names-push [] o = append-nil (names_of o.props)
all_names-push (p ∷ os) o = ap (λ names. names_of p.props ++ names) (all_names-push os o) ∙ sym (append_assoc (names_of p.props) (all_names os) (names_of o.props))

module _ (objects : List PlainObject) (at : ℕ) (o : PlainObject) (there : slice_get objects at ≡ Some o) where
  opened : (n : ℕ) (r : Option ObjId) → o.prototype ≡ r → chain (suc n) objects at ≡ o ∷ option_map_or (λ (up : ObjId). chain n objects up.0) r []
  opened n r is =
      ap (λ q. option_map_or (λ (o : PlainObject). o ∷ option_map_or (λ (up : ObjId). chain n objects up.0) o.prototype []) q []) there
      ∙ ap (λ q. o ∷ option_map_or (λ (up : ObjId). chain n objects up.0) q []) is

  module _ (v : PlainValue) (start depth : ℕ) where
    abbrev hidden : List (List ℕ)
    hidden = hidden_by v objects start depth

    -- at the last object
    pub listed-last : (n m : ℕ) (names new goal : List (List ℕ)) → n ≡ suc m → o.prototype ≡ None → new ≡ names ++ visible_names hidden o → names ++ listed_names hidden (chain n objects at) ≡ goal → new ≡ goal
    listed-last n m names new goal more last told rest =
        told ∙ ap (λ xs. names ++ xs) (sym (append-nil (visible_names hidden o)))
        ∙ ap (λ os. names ++ listed_names hidden os) (sym (ap (λ k. chain k objects at) more ∙ opened m None last)) ∙ rest

    module _ (way : (more : ℕ) → chain (depth + more) objects start ≡ chain depth objects start ++ chain more objects at) (up : ObjId) (above : o.prototype ≡ Some up) where
      one_more : chain (depth + 1) objects start ≡ chain depth objects start ++ o ∷ []
      one_more = way 1 ∙ ap (λ os. chain depth objects start ++ os) (opened 0 (Some up) above)

      pub way-above : (more : ℕ) → chain (depth + 1 + more) objects start ≡ chain (depth + 1) objects start ++ chain more objects up.0
      way-above more =
          let steps : depth + 1 + more ≡ depth + suc more = omega arith in
          ap (λ n. chain n objects start) steps ∙ way (suc more) ∙ ap (λ os. chain depth objects start ++ os) (opened more (Some up) above)
          ∙ sym (append_assoc (chain depth objects start) (o ∷ []) (chain more objects up.0)) ∙ ap (λ os. os ++ chain more objects up.0) (sym one_more)

      -- what is hidden further up
      more_hidden : hidden_by v objects start (depth + 1) ≡ hidden ++ names_of o.props
      more_hidden =
          ap (λ os. own_names_of v ++ all_names os) one_more ∙ ap (λ names. own_names_of v ++ names) (all_names-push (chain depth objects start) o)
          ∙ sym (append_assoc (own_names_of v) (all_names (chain depth objects start)) (names_of o.props))

      pub listed-above : (n m : ℕ) (names new goal : List (List ℕ)) → n ≡ suc m → new ≡ names ++ visible_names hidden o → names ++ listed_names hidden (chain n objects at) ≡ goal
          → new ++ listed_names (hidden_by v objects start (depth + 1)) (chain m objects up.0) ≡ goal
      listed-above n m names new goal more told rest =
          ap (λ xs. xs ++ listed_names (hidden_by v objects start (depth + 1)) (chain m objects up.0)) told
          ∙ ap (λ h. (names ++ visible_names hidden o) ++ listed_names h (chain m objects up.0)) more_hidden
          ∙ append_assoc names (visible_names hidden o) (listed_names (hidden ++ names_of o.props) (chain m objects up.0))
          ∙ ap (λ os. names ++ listed_names hidden os) (sym (ap (λ k. chain k objects at) more ∙ opened m (Some up) above)) ∙ rest
