-- A copy that is made entry by entry.
use Rattle.std.proofs.Common.{◌≡◌, ℕ, zero, suc, List, [], ◌∷◌, Some, Bool, true, false, cond, ap, sym, ◌∙◌, take, slice_get, add-one, ◌+◌}
use Rattle.std.specs.List.{IsDistinct, AllByRecursion}
use Rattle.std.specs.Map.{keys_of}
use Rattle.std.specs.Cmp.Lexicographic.{nat_list_eq_equiv}
use Rattle.std.proofs.lemmas.Map.Keys.{IsDistinct-head, IsDistinct-tail}
use Rattle.indexmap.specs.IndexMap.{insert_entry}
use Rattle.njs_props.specs.Names.{same_name}

module _ {P : Type 0} where
  -- a name that differs from each is not the one at a place
  apart_at : (name : List ℕ) (es : List (List ℕ × P)) (place : ℕ) (e : List ℕ × P) → AllByRecursion (λ y. same_name name y ≡ false) (keys_of es) → slice_get es place ≡ Some e → same_name name e.0 ≡ false
  apart_at name [] place e apart at = cc
  apart_at name (x ∷ xs) zero e apart at = let same : x ≡ e = cc in ap (λ (y : List ℕ × P). same_name name y.0) (sym same) ∙ apart.0
  apart_at name (x ∷ xs) (suc place) e apart at = apart_at name xs place e apart.1 at

  later : (b : Bool) (x : List ℕ × P) (found es rest : List (List ℕ × P)) → b ≡ false → es ≡ rest → cond b found (x ∷ es) ≡ x ∷ rest
  later true x found es rest h same = cc
  later false x found es rest h same = ap (λ t. x ∷ t) same

  -- putting the entry at a place behind those before it
  insert_next : (es : List (List ℕ × P)) (place : ℕ) (e : List ℕ × P) → IsDistinct same_name (keys_of es) → slice_get es place ≡ Some e → insert_entry same_name (take place es) e.0 e.1 ≡ take (suc place) es
  insert_next [] place e distinct at = cc
  insert_next (x ∷ xs) zero e distinct at = let same : x ≡ e = cc in ap (λ (y : List ℕ × P). y ∷ []) (sym same)
  insert_next (x ∷ xs) (suc place) e distinct at =
      let apart = apart_at x.0 xs place e (IsDistinct-head same_name x.0 (keys_of xs) distinct) at in
      later (same_name e.0 x.0) x _ _ _ (nat_list_eq_equiv.symm e.0 x.0 ∙ apart) (insert_next xs place e (IsDistinct-tail same_name x.0 (keys_of xs) distinct) at)

  -- a copy of the entries before a place, with a copy of the one there put behind them
  pub copied_next : (es before after : List (List ℕ × P)) (place : ℕ) (name copied : List ℕ) (p : P) → IsDistinct same_name (keys_of es) → slice_get es place ≡ Some (name, p) → copied ≡ name → before ≡ take place es → after ≡ insert_entry same_name before copied p → after ≡ take (place + 1) es
  copied_next es before after place name copied p distinct at same so_far put =
      put ∙ ap (λ n. insert_entry same_name before n p) same ∙ ap (λ b. insert_entry same_name b name p) so_far ∙ insert_next es place (name, p) distinct at ∙ ap (λ n. take n es) (sym (add-one place))
