-- Names of scopes: their slots, and each once.
use Rattle.std.proofs.Common.{◌≡◌, ℕ, suc, ◌+◌, Bool, Option, None, Some, refl, ap, arith}
use Rattle.std.specs.Option.{option_map}

-- a slot, so many names further on
abbrev pub after : ℕ → Option (ℕ × Bool) → Option (ℕ × Bool)
after n None = None
after n (Some p) = Some (n + p.0, p.1)

pub after_none : (o : Option (ℕ × Bool)) → after 0 o ≡ o
after_none None = refl
after_none (Some p) = ap (λ n. Some (n, p.1)) (omega arith)

-- a slot behind one name more
pub after_more : (n : ℕ) (o : Option (ℕ × Bool)) → after n (option_map (λ p. (suc p.0, p.1)) o) ≡ after (suc n) o
after_more n None = refl
after_more n (Some p) = ap (λ k. Some (k, p.1)) (omega arith)

pub ruleset slots = (after_none, after_more)
