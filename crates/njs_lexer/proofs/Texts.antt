-- What std says of `chars`, in terms of the characters.
use Rattle.std.proofs.Common.{◌≡◌, ℕ, ◌≤◌, List, [], ◌∷◌, Option, None, Some, length, drop, sym, ap, ◌∙◌, refl, arith}
use Rattle.std.specs.Str.{chars, IsUtf8}
use Rattle.std.specs.Str.Iter.{chars_rest, chars_steps}
use Rattle.std.specs.declared.str.Chars.{Chars}
use Rattle.std.proofs.lemmas.Str.{chars_past_char, chars-nil, length-le-encodes, encodes-chars}

pub nil : (xs : List ℕ) → length xs ≡ 0 → xs ≡ []
nil [] h = refl
nil (x ∷ xs) h = absurd (omega (arith, h))

-- what follows the first character
pub past_first : (bs : List ℕ) (s t : Chars) (r : Option ℕ) → IsUtf8 bs → chars_rest s ≡ bs → chars_steps s r t → chars (chars_rest t) ≡ drop 1 (chars bs)
past_first bs s t None u e h =
    let over : length (chars_rest s) ≡ 0 = h.0.0 in
    let still : t ≡ s = h.0.1 in
    let none : bs ≡ [] = nil bs (ap length (sym e) ∙ over) in
    ap (λ x. chars (chars_rest x)) still ∙ ap chars (e ∙ none) ∙ chars-nil ∙ ap (drop 1) (sym chars-nil) ∙ ap (λ x. drop 1 (chars x)) (sym none)
past_first bs s t (Some c) u e h =
    ap (drop 1) (sym (chars_past_char bs (chars_rest t) c u (sym e ∙ h.0)))

-- a text has no more characters than bytes
pub chars_short : (bs : List ℕ) → IsUtf8 bs → length (chars bs) ≤ length bs
chars_short bs u = let l = length-le-encodes (chars bs) in let e = ap length (encodes-chars bs u) in omega (arith, l, e)
