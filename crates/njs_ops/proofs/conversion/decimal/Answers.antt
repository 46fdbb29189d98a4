use Rattle.std.proofs.Common.{◌≡◌, ◌<◌, ◌^◌, length, List, ℕ, sym, ◌∙◌, subst, arith, rules}
use Rattle.std.specs.Fmt.{signed_decimal}
use Rattle.std.specs.Str.{IsUtf8}
use lib.Signed.{mag}
use Rattle.njs_text.specs.Text.{IsEncoded}
use Rattle.njs_ops.proofs.Decimals.{decimal_text, decimal_utf8, decimal_short}
use Rattle.njs_ops.proofs.conversion.decimal.Goals as goal

pub returns-in-Ok : goal.returns-in-Ok
returns-in-Ok c =
    let bytes : c.as_bytes.result.now ≡ signed_decimal c.args.number = search rules in
    decimal_text c.in-Ok.text c.args.number c.ranges.number.sfits (subst (IsEncoded c.in-Ok.text) bytes c.in-Ok.ensures.0)

pub unreachable-requires : goal.unreachable-requires
unreachable-requires c =
    let bytes : c.as_bytes.result.now ≡ signed_decimal c.args.number = search rules in
    let fault = rw c.in-Err-NotUtf8.field-0-is at c.in-Err-NotUtf8.ensures in
    fault.0 (subst IsUtf8 (sym bytes) (decimal_utf8 c.args.number c.ranges.number.sfits))

pub unreachable-requires-in-Err-TooLong : goal.unreachable-requires-in-Err-TooLong
unreachable-requires-in-Err-TooLong c =
    let bytes : c.as_bytes.result.now ≡ signed_decimal c.args.number = search rules in
    let long = rw c.in-Err-TooLong.field-0-is at c.in-Err-TooLong.ensures in
    decimal_short long.0 c.args.number c.ranges.number.sfits (subst (IsEncoded long.0) bytes long.1) long.2
