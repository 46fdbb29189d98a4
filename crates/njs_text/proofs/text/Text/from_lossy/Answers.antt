use Rattle.std.proofs.Common.{◌≡◌, ◌∙◌, ap, subst, length, arith}
use Rattle.std.specs.Str.{chars}
use Rattle.std.specs.Str.Lossy.{utf8_lossy}
use Rattle.std.specs.String.{string_bytes}
use Rattle.std.proofs.lemmas.Str.{IsUtf8-string_bytes}
use Rattle.njs_text.specs.Text.{IsEncoded}
use Rattle.njs_text.proofs.Encoded.{encoded_chars}
use Rattle.njs_text.proofs.text.Text.from_lossy.Goals as goal

pub returns-then-count-gt-MAX_LEN : goal.returns-then-count-gt-MAX_LEN
returns-then-count-gt-MAX_LEN c =
    let text = chars (string_bytes c.in_ok-string.string) in
    let lossy : string_bytes c.in_ok-string.string ≡ utf8_lossy c.args.bytes.now = c.in_ok-string.ensures.lossy in
    let count = c.char_count-count.ensures.count ∙ ap (λ bytes. length (chars bytes)) c.as_str.ensures.value in
    (text, subst (IsEncoded text) lossy (encoded_chars _ (IsUtf8-string_bytes c.in_ok-string.string)), omega (arith, count))

pub returns : goal.returns
returns c =
    let text = chars (string_bytes c.in_ok-string.string) in
    let lossy : string_bytes c.in_ok-string.string ≡ utf8_lossy c.args.bytes.now = c.in_ok-string.ensures.lossy in
    let count = c.char_count-count.ensures.count ∙ ap (λ bytes. length (chars bytes)) c.as_str.ensures.value in
    (subst (IsEncoded text) lossy (encoded_chars _ (IsUtf8-string_bytes c.in_ok-string.string)), omega (arith, count))
