use Rattle.std.proofs.Common.{◌∙◌, ap, sym, subst, length, arith}
use Rattle.std.specs.Str.{chars}
use Rattle.std.specs.String.{string_bytes}
use Rattle.std.proofs.lemmas.Str.{IsUtf8-string_bytes}
use Rattle.njs_text.specs.Text.{IsEncoded}
use Rattle.njs_text.proofs.Encoded.{encoded_chars}
use Rattle.njs_text.proofs.text.Text.of_str.Goals as goal

pub returns-then-count-gt-MAX_LEN : goal.returns-then-count-gt-MAX_LEN
returns-then-count-gt-MAX_LEN c = (chars c.args.text.now, encoded_chars c.args.text.now c.utf8.text, omega (arith, c.char_count-count.ensures.count))

pub returns : goal.returns
returns c =
    let text = chars (string_bytes c.in_ok-string.string) in
    let same = c.in_ok-string.ensures.ok in
    let count = c.char_count-count.ensures.count ∙ ap (λ bytes. length (chars bytes)) (sym same) in
    (subst (IsEncoded text) same (encoded_chars _ (IsUtf8-string_bytes c.in_ok-string.string)), omega (arith, count))
