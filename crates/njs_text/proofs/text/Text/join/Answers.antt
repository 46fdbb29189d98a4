use Rattle.std.proofs.Common.{◌≡◌, ◌++◌, length, refl, ap, arith, length-append}
use Rattle.std.specs.Str.{chars}
use Rattle.std.specs.String.{string_bytes}
use Rattle.njs_text.proofs.text.Text.join.Goals as goal

pub returns-then-count-gt-MAX_LEN : goal.returns-then-count-gt-MAX_LEN
returns-then-count-gt-MAX_LEN c =
    omega (arith, length-append c.args.self.now c.args.other.now, ap length c.self.view_is, ap length c.other.view_is)

pub invariant_of-result : goal.invariant_of-result
invariant_of-result c =
    let text : chars (string_bytes c.in_ok-string.string) ≡ c.args.self.now ++ c.args.other.now = rw (c.in_ok-string.ensures, c.as_str.ensures.value, c.as_str-2.ensures.value, c.self.view_is, c.other.view_is) refl in
    (omega (arith, ap length text, length-append c.args.self.now c.args.other.now, ap length c.self.view_is, ap length c.other.view_is), omega arith)
