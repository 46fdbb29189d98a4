use Rattle.std.proofs.Common.{sym, arith}
use Rattle.http_in.proofs.Found.{too_large, grows_over}
use Rattle.http_in.proofs.length.length_of.Goals as goal

pub returns-then-length-gt-MAX_BODY : goal.returns-then-length-gt-MAX_BODY
returns-then-length-gt-MAX_BODY c =
    let number = sym c.if-not-is_number.ensures in
    too_large c.args.value.now number
    (grows_over c.args.value.now c.loop-digit.digit-index c.loop-digit.length number c.loop-digit-test.true c.loop-digit.invariant.counted
    (omega (arith, c.if-length-gt-MAX_BODY.true, c.from.ensures)))
