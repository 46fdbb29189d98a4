-- A text, from the character at one of its ends and the rest.
use Rattle.std.proofs.Common.{◌≡◌, ℕ, List, [], ◌∷◌, ◌++◌, ◌<◌, length, sym, ap, ◌∙◌, arith}
use Rattle.std.proofs.lemmas.List.{append-nil}
use Rattle.std.proofs.lemmas.Str.{chars-nil, encodes-chars, encodes-append, chars_from_encodes}
use Rattle.std.specs.Prelude.{encode_utf8}
use Rattle.std.specs.Str.{chars, IsUtf8, encode_utf8_all}

pub no_chars : (text : List ℕ) → length text ≡ 0 → chars text ≡ []
no_chars [] e = chars-nil
no_chars (b ∷ bs) e = absurd (omega arith)

pub first_char : (text rest : List ℕ) (c : ℕ) → IsUtf8 text → IsUtf8 rest → text ≡ encode_utf8 c ++ rest → chars text ≡ c ∷ chars rest
first_char text rest c u v e =
    sym (chars_from_encodes (c ∷ chars rest) text u (ap (λ s. encode_utf8 c ++ s) (encodes-chars rest v) ∙ sym e))

pub last_char : (text rest : List ℕ) (c : ℕ) → IsUtf8 text → IsUtf8 rest → text ≡ rest ++ encode_utf8 c → chars text ≡ chars rest ++ c ∷ []
last_char text rest c u v e =
    sym (chars_from_encodes (chars rest ++ c ∷ []) text u
    (encodes-append (chars rest) (c ∷ []) ∙ ap (λ s. s ++ (encode_utf8 c ++ [])) (encodes-chars rest v) ∙ ap (λ s. rest ++ s) (append-nil (encode_utf8 c)) ∙ sym e))

by_bytes : (cs text : List ℕ) → encode_utf8_all cs ≡ text → 0 < length text → 0 < length cs
by_bytes [] text e some = absurd (omega (arith, ap length e))
by_bytes (c ∷ cs) text e some = omega arith

pub some_chars : (text : List ℕ) → IsUtf8 text → 0 < length text → 0 < length (chars text)
some_chars text u some = by_bytes (chars text) text (encodes-chars text u) some
