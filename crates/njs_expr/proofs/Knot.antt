-- One more level of nesting.
use Rattle.std.proofs.Common.{◌≡◌, ℕ, zero, suc, Bool, None, refl, ◌⊎◌, inl, inr, arith}
use Rattle.njs_expr.specs.Readers.{Symbols}
use Rattle.njs_expr.specs.Descent.{expr, stmt}

-- nothing is read without fuel, or without room
pub expr_refused : (fuel : ℕ) (with_in : Bool) (least room : ℕ) (i : Symbols) → (fuel ≡ 0) ⊎ (room ≡ 0) → expr fuel with_in least room i ≡ None
unfolding expr
expr_refused zero with_in least room i h = refl
expr_refused (suc fuel) with_in least room i (inl h) = absurd (omega arith)
expr_refused (suc fuel) with_in least room i (inr h) = rw h

pub stmt_refused : (fuel : ℕ) (declares : Bool) (room : ℕ) (i : Symbols) → (fuel ≡ 0) ⊎ (room ≡ 0) → stmt fuel declares room i ≡ None
unfolding stmt
stmt_refused zero declares room i h = refl
stmt_refused (suc fuel) declares room i (inl h) = absurd (omega arith)
stmt_refused (suc fuel) declares room i (inr h) = rw h
