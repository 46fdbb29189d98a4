-- Numbers of operands.
use Rattle.std.proofs.Common.{◌≡◌, ℕ, zero, suc, refl, ap}
use Rattle.njs_simul.specs.Emission.{on}

pub on_on : (n m k : ℕ) → on (on n m) k ≡ on n (on m k)
on_on zero m k = refl
on_on (suc n) m k = ap suc (on_on n m k)
