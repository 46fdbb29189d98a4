-- Rests of a text: their bytes, their places and their lines.
use Rattle.std.proofs.Common.{◌≡◌, ℕ, zero, suc, ◌+◌, ◌-◌, ◌<◌, ◌≤◌, ◌^◌, min, Bool, true, false, List, [], ◌∷◌, ◌++◌, length, take, drop, slice_get, Some, None, refl, ap, subst, sym, ◌∙◌, arith, if◌then◌else◌, length-append, length-drop}
use Rattle.std.proofs.lemmas.List.{drop-drop}
use Rattle.std.specs.Str.{chars, encode_utf8_all, all_scalars, IsCharBoundary}
use Rattle.std.proofs.lemmas.Str.{encodes-append, chars-encodes, length-le-encodes, IsCharBoundary-at_seam}
use Rattle.njs_tree.specs.Characters.{IsLine, line_ends, line_at, ends_line}
use Rattle.njs_tree.specs.TokenList.{Blanks, place_of, text_from, line_after}
use Rattle.njs_tree.specs.Lexical.{blank_length}
use Rattle.njs_lexer.proofs.Runs.{and_right, some_one, none_some}
use Rattle.njs_stmt.specs.Cut.{IsRest, FirstEnd}

split : (n : ℕ) (i : List ℕ) → i ≡ take n i ++ drop n i
split zero i = refl
split (suc n) [] = refl
split (suc n) (c ∷ s) = ap (λ z. c ∷ z) (split n s)

bytes_split : (n : ℕ) (i : List ℕ) → encode_utf8_all i ≡ encode_utf8_all (take n i) ++ encode_utf8_all (drop n i)
bytes_split n i = ap encode_utf8_all (split n i) ∙ encodes-append (take n i) (drop n i)

sizes : (n : ℕ) (i : List ℕ) → length (encode_utf8_all i) ≡ length (encode_utf8_all (take n i)) + length (encode_utf8_all (drop n i))
sizes n i = ap length (bytes_split n i) ∙ length-append (encode_utf8_all (take n i)) (encode_utf8_all (drop n i))

take_some : (n : ℕ) (i : List ℕ) → 0 < n → n ≤ length i → 0 < length (take n i)
take_some zero i some h = absurd (omega (arith, some))
take_some (suc n) [] some h = absurd (omega (arith, h))
take_some (suc n) (c ∷ s) some h = omega arith

-- behind some characters there are fewer bytes
pub fewer_bytes : (n : ℕ) (i : List ℕ) → 0 < n → n ≤ length i → length (encode_utf8_all (drop n i)) < length (encode_utf8_all i)
fewer_bytes n i some h = let l = sizes n i in let t = take_some n i some h in let e = length-le-encodes (take n i) in omega (arith, l, t, e)

front_gone : (a b : List ℕ) → drop (length a) (a ++ b) ≡ b
front_gone [] b = refl
front_gone (c ∷ a) b = front_gone a b

scalars_drop : (n : ℕ) (i : List ℕ) → all_scalars i ≡ true → all_scalars (drop n i) ≡ true
scalars_drop zero i h = h
scalars_drop (suc n) [] h = h
scalars_drop (suc n) (c ∷ s) h = scalars_drop n s (and_right _ (all_scalars s) h)

place_size : (text : List ℕ) (k : ℕ) → place_of text (drop k text) ≡ length (encode_utf8_all (take k text))
place_size text k = let l = sizes k text in omega (arith, l)

-- the text from the place of a rest on is the rest
pub from_place : (text : List ℕ) (k : ℕ) → all_scalars text ≡ true → text_from text (place_of text (drop k text)) ≡ drop k text
from_place text k h =
    ap (λ z. text_from text z) (place_size text k) ∙ ap (λ z. chars (drop (length (encode_utf8_all (take k text))) z)) (bytes_split k text)
    ∙ ap chars (front_gone (encode_utf8_all (take k text)) (encode_utf8_all (drop k text))) ∙ chars-encodes (drop k text) (scalars_drop k text h)

-- and there a character begins
pub boundary : (text : List ℕ) (k : ℕ) → all_scalars text ≡ true → IsCharBoundary (encode_utf8_all text) (place_of text (drop k text))
boundary text k h =
    subst (λ z. IsCharBoundary (encode_utf8_all text) z) (sym (place_size text k))
    (IsCharBoundary-at_seam (encode_utf8_all text) (encode_utf8_all (take k text)) (encode_utf8_all (drop k text)) (bytes_split k text) (drop k text, (scalars_drop k text h, refl)))

pub place_within : (text r : List ℕ) → place_of text r ≤ length (encode_utf8_all text)
place_within text r = omega arith

-- ---- lines

pub ends_drop : (n : ℕ) (i : List ℕ) → line_ends (drop n i) ≤ line_ends i
ends_drop zero i = omega arith
ends_drop (suc n) [] = omega arith
ends_drop (suc n) (c ∷ s) = let h = ends_drop n s in omega (arith, h)

at_most_one : (b : Bool) → (if b then 1 else 0) ≤ 1
at_most_one true = omega arith
at_most_one false = omega arith

pub ends_few : (i : List ℕ) → line_ends i ≤ length i
ends_few [] = omega arith
ends_few (c ∷ s) = let h = ends_few s in let b = at_most_one (ends_line c s) in omega (arith, h, b)

pub is_line : (text : List ℕ) (k : ℕ) → IsLine (line_at text (drop k text)) text
is_line text k = let h = ends_drop k text in (omega (arith, h), omega arith)

-- the line after what was passed
pub passed_line : (text : List ℕ) (k m : ℕ) → length text ≤ 1048576 → line_after (line_at text (drop k text)) (line_ends (drop k text) - line_ends (drop m (drop k text))) ≡ line_at text (drop m (drop k text))
passed_line text k m few =
    let a = ends_drop k text in let b = ends_drop m (drop k text) in let c = ends_few text in
    let whole : line_at text (drop k text) + (line_ends (drop k text) - line_ends (drop m (drop k text))) ≡ line_at text (drop m (drop k text)) = omega (arith, a, b) in
    let small : line_at text (drop m (drop k text)) ≤ 4294967295 = omega (arith, c, few) in
    ap (λ z. min z (2 ^ 32 - 1)) whole ∙ omega (arith, small)

-- ---- rests

pub blanks_rest : {i j : List ℕ} → Blanks i j → (m : ℕ) × (j ≡ drop m i)
blanks_rest (Blanks.here i) = (0, refl)
blanks_rest (Blanks.blank i r some b) = let h = blanks_rest b in (blank_length i + h.0, h.1 ∙ drop-drop h.0 (blank_length i) i)

same_rest : (n : ℕ) (i r : List ℕ) → r ≡ drop n i → n ≡ 0 → r ≡ i
same_rest n i r e z = e ∙ ap (λ k. drop k i) z

-- a rest that has no fewer bytes is all
pub rest_all : (i r : List ℕ) → IsRest i r → length (encode_utf8_all i) ≤ length (encode_utf8_all r) → r ≡ i
rest_all i r (zero, within, e) h = e
rest_all i r (suc n, within, e) h = absurd (let f = fewer_bytes (suc n) i (omega arith) within in let g = ap (λ z. length (encode_utf8_all z)) e in omega (arith, f, g, h))

-- and one that has fewer is a rest of what stands behind the first character
pub rest_behind : (i r : List ℕ) → IsRest i r → length (encode_utf8_all r) < length (encode_utf8_all i) → IsRest (drop 1 i) r × (0 < length i)
rest_behind i r (zero, within, e) h = absurd (let g = ap (λ z. length (encode_utf8_all z)) e in omega (arith, g, h))
rest_behind i r (suc n, within, e) h =
    let l : length (drop 1 i) ≡ length i - 1 = length-drop 1 i in
    let k : 1 + n ≡ suc n = omega arith in
    ((n, omega (arith, l, within), e ∙ ap (λ z. drop z i) (sym k) ∙ sym (drop-drop n 1 i)), omega (arith, within))

-- ---- the first character

pub first_none : (i : List ℕ) → slice_get i 0 ≡ None → FirstEnd i 0
first_none [] h = (omega arith, omega arith)
first_none (c ∷ s) h = absurd (none_some (sym h))

pub first_some : (i after : List ℕ) (c n : ℕ) → slice_get i 0 ≡ Some c → after ≡ drop 1 i → n ≡ (if ends_line c after then 1 else 0) → FirstEnd i n
first_some [] after c n h a e = absurd (none_some h)
first_some (d ∷ s) after c n h a e =
    let same : d ≡ c = some_one h in
    let tail : after ≡ s = a in
    let count : n ≡ (if ends_line d s then 1 else 0) = e ∙ ap (λ z. if ends_line c z then 1 else 0) tail ∙ ap (λ z. if ends_line z s then 1 else 0) (sym same) in
    let small = at_most_one (ends_line d s) in
    (omega (arith, count), omega (arith, count, small))
