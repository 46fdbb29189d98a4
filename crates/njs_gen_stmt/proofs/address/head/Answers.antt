use Rattle.std.proofs.Common.{◌≡◌, ℕ, suc, ◌+◌, length, refl, ap, arith, ◌∙◌}
use Rattle.njs_code.specs.declared.op.Address.{Address}
use Rattle.njs_gen_stmt.proofs.address.head.Goals as goal

pub returns-clause-given : goal.returns-clause-given
returns-clause-given c d n sized g h =
    let began = c.address-end.ensures d (c.in_front-back.ensures.stays (c.in_front.ensures.stays g)) h in
    let back = c.in_front-back.ensures.given n sized (c.in_front.ensures.stays g) in
    let top = c.in_front.ensures.given 2 refl g in
    let place : 2 + (n + length d.ops) ≡ suc (n + suc (length d.ops)) = omega arith in
    top ∙ ap (λ (b : Address). record { 0 = 2 + b.0 }) back ∙ ap (λ (b : Address). record { 0 = 2 + (n + b.0) }) began ∙ ap (λ (k : ℕ). record { 0 = k }) place
