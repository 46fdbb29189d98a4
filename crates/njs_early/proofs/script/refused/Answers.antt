use Rattle.std.proofs.Common.{◌≡◌, sym, List, [], ◌∷◌, Some, Result, MatchResult, refl, subst}
use Rattle.njs_tree.specs.declared.token.EarlyFault.{EarlyFault}
use Rattle.njs_tree.specs.declared.tree.Item.{Item}
use Rattle.njs_tree.specs.Early.{of_items, first_early}
use Rattle.njs_early.specs.Walk.{answer}
use Rattle.njs_early.proofs.script.refused.Goals as goal

IsFirst : List EarlyFault → Result (Unit {0}) EarlyFault → Type 0
IsFirst xs r = MatchResult r (λ _. xs ≡ []) (λ fault. first_early xs ≡ Some fault)

answer_first : (xs : List EarlyFault) → IsFirst xs (answer xs)
unfolding IsFirst
answer_first [] = refl
answer_first (x ∷ xs) = refl

pub returns : goal.returns
unfolding IsFirst
returns c =
    let first = subst (IsFirst (of_items c.as_slice.result.now)) (sym c.items.ensures) (answer_first (of_items c.as_slice.result.now)) in
    let P : List Item → Type 0 = λ xs. IsFirst (of_items xs) c.items.result in
    subst P c.as_slice.ensures first
