use Rattle.std.proofs.Common.{◌≡◌, ◌+◌, ◌*◌, ◌<◌, length, ap, sym, ◌∙◌, arith}
use Rattle.std.specs.Char.{digit_value}
use Rattle.std.specs.Str.{chars}
use Rattle.std.proofs.lemmas.Bool.Decides.{nat_tests}
use Rattle.njs_meaning.proofs.Ends.{no_chars, some_chars}
use Rattle.njs_meaning.proofs.Digits.{spelled_from, spelled_first, no_digits, spelled_large, spelled_next}
use Rattle.njs_meaning.proofs.literal.numeral.Goals as goal

pub returns-then-is_empty-clause-spelled : goal.returns-then-is_empty-clause-spelled
returns-then-is_empty-clause-spelled c =
    let none : length c.args.digits.now ≡ 0 = grind (arith, nat_tests) in
    sym (no_digits c.args.radix (chars c.args.digits.now) (no_chars c.args.digits.now none))

pub loop-first-init : goal.loop-first-init
loop-first-init c =
    let some : 0 < length c.args.digits.now = grind (arith, nat_tests) in
    (c.utf8.digits, spelled_first c.args.radix (chars c.args.digits.now) (some_chars c.args.digits.now c.utf8.digits some), omega arith)

pub returns-then-number-clause-spelled : goal.returns-then-number-clause-spelled
returns-then-number-clause-spelled c =
    let radix = c.args.radix in
    let next : spelled_from radix c.loop-first.number (chars c.loop-first.rest.now) ≡ spelled_from radix (c.loop-first.number * radix + digit_value c.in-Some.first) (chars c.in-Some.after.now) =
    ap (spelled_from radix c.loop-first.number) c.in-Some.ensures ∙ spelled_next radix c.loop-first.number c.in-Some.first (chars c.in-Some.after.now) c.in_ok-digit.ensures.value.0
    in
    let product : c.loop-first.number * c.from.result ≡ c.loop-first.number * radix = ap (λ n. c.loop-first.number * n) c.from.ensures in
    let over : 9007199254740991 < c.loop-first.number * radix + digit_value c.in-Some.first = omega (arith, c.in_ok-digit.ensures.value.1, product, c.if-number.true) in
    sym (sym c.loop-first.invariant.1 ∙ next ∙ spelled_large radix (c.loop-first.number * radix + digit_value c.in-Some.first) (chars c.in-Some.after.now) (omega arith) over)
