-- The decimal text of a number.
use Rattle.std.proofs.Common.{◌≡◌, ℕ, ℤ, ◌<◌, ◌≤◌, ◌^◌, List, length, sym, ap, ◌∙◌, arith}
use Rattle.std.proofs.lemmas.Fmt.{IsAscii-signed, length_signed_le}
use Rattle.std.proofs.lemmas.Str.{encodes-IsAscii, chars_from_encodes, IsUtf8-from_ascii}
use Rattle.std.specs.Fmt.{signed_decimal}
use Rattle.std.specs.Str.{IsAscii, IsUtf8}
use lib.Signed.{mag}
use Rattle.njs_text.specs.Text.{IsEncoded}

-- an ASCII text is its bytes
pub ascii_text : (text bytes : List ℕ) → IsAscii bytes → IsEncoded text bytes → text ≡ bytes
ascii_text text bytes ascii e =
    let utf8 : IsUtf8 bytes = IsUtf8-from_ascii bytes ascii in
    chars_from_encodes text bytes utf8 e.spelled ∙ sym (chars_from_encodes bytes bytes utf8 (encodes-IsAscii bytes ascii))

pub decimal_text : (text : List ℕ) (n : ℤ) → mag n < 2 ^ 63 → IsEncoded text (signed_decimal n) → text ≡ signed_decimal n
decimal_text text n small e = ascii_text text (signed_decimal n) (IsAscii-signed n small) e

pub decimal_utf8 : (n : ℤ) → mag n < 2 ^ 63 → IsUtf8 (signed_decimal n)
decimal_utf8 n small = IsUtf8-from_ascii (signed_decimal n) (IsAscii-signed n small)

pub decimal_short : (text : List ℕ) (n : ℤ) → mag n < 2 ^ 63 → IsEncoded text (signed_decimal n) → 1048576 < length text → ⊥
decimal_short text n small e long =
    let few : length (signed_decimal n) ≤ 21 = length_signed_le 20 n (omega arith) small in
    omega (arith, ap length (decimal_text text n small e))
