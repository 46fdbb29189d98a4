use Rattle.std.proofs.Common.{ℕ, ◌≡◌, ◌∷◌, ◌∙◌, List, drop, suc, ap, sym, drop-cons, arith}
use Rattle.conf_read.specs.Values.{digits}
use Rattle.conf_read.proofs.Bounds.{digits_end}
use Rattle.conf_read.proofs.numbers.digits.Goals as goal

pub returns-then-number-most : goal.returns-then-number-most
returns-then-number-most c =
    let rest = drop (suc c.loop-c.c-index) c.args.text.now in
    let cut : drop c.loop-c.c-index c.args.text.now ≡ c.c-item.result ∷ rest = drop-cons c.args.text.now c.loop-c.c-index c.c-item.result c.loop-c-test.true ∙ ap (λ x. x ∷ rest) (sym c.c-item.is) in
    digits_end c.args.most c.loop-c.number c.c-item.result c.in_ok-number.field-0 c.args.text.now rest (c.loop-c.invariant.left ∙ ap (digits c.loop-c.number) cut) (sym c.in_ok-number.ensures.value) c.if-number-most.true
