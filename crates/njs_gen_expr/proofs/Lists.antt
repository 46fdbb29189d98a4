-- Lists from one of their elements on.
use Rattle.std.proofs.Common.{◌≡◌, ℕ, ◌≤◌, List, drop, ap, ◌∙◌, arith}

pub from_start : {A : Type 0} (i : ℕ) (xs ys : List A) → i ≤ 0 → xs ≡ ys → drop i xs ≡ ys
from_start i xs ys none same = let start : i ≡ 0 = omega arith in ap (λ n. drop n xs) start ∙ same
