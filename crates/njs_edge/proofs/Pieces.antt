-- A piece of a list, taken from a place on.
use Rattle.std.proofs.Common.{◌≡◌, ◌+◌, ◌++◌, ℕ, List, length, take, drop, sym, ◌∙◌, ap}
use Rattle.std.proofs.Math.Seq.{take-append_seam}
use Rattle.std.proofs.lemmas.List.{take-append-drop, drop-drop}

-- a piece that was copied into a room, and what is left behind it
pub taken_piece : (xs : List ℕ) (at n : ℕ) (piece behind : List ℕ) → piece ≡ take n (drop at xs) → length piece ≡ n → drop at xs ≡ take n (piece ++ behind) ++ drop (at + n) xs
taken_piece xs at n piece behind is len =
    let front : take n (piece ++ behind) ≡ piece = ap (λ k. take k (piece ++ behind)) (sym len) ∙ take-append_seam piece behind in
    sym (take-append-drop n (drop at xs))
    ∙ ap (λ ys. ys ++ drop n (drop at xs)) (sym is ∙ sym front)
    ∙ ap (λ ys. take n (piece ++ behind) ++ ys) (drop-drop n at xs)
