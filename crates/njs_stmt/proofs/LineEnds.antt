-- The lines that end in a token.
use Rattle.std.proofs.Common.{◌≡◌, ℕ, ◌+◌, ◌-◌, ◌<◌, ◌≤◌, true, List, length, drop, ap, subst, sym, ◌∙◌, arith}
use Rattle.std.proofs.lemmas.List.{drop-drop}
use Rattle.std.specs.Str.{chars, encode_utf8_all, all_scalars, IsUtf8, IsCharBoundary}
use Rattle.std.proofs.lemmas.Str.{encodes-chars}
use Rattle.njs_tree.specs.declared.token.Token.{Token}
use Rattle.njs_tree.specs.Characters.{line_ends, line_at}
use Rattle.njs_tree.specs.TokenList.{place_of, text_from}
use Rattle.njs_stmt.specs.Cut.{IsRest, StandsIn}
use Rattle.njs_stmt.proofs.Places.{boundary, ends_drop, ends_few, from_place, rest_all, rest_behind}

pub from_boundary : (text whole : List ℕ) (t : Token) → all_scalars text ≡ true → whole ≡ encode_utf8_all text → StandsIn text t → IsCharBoundary whole t.from
from_boundary text whole t scalars w s =
    subst (λ z. IsCharBoundary z t.from) (sym w) (subst (λ z. IsCharBoundary (encode_utf8_all text) z) (sym s.from_is) (boundary text s.before scalars))

to_is : (text : List ℕ) (t : Token) (s : StandsIn text t) → t.to ≡ place_of text (drop (s.before + s.size) text)
to_is text t s = s.to_is ∙ ap (place_of text) (drop-drop s.size s.before text)

pub to_boundary : (text whole : List ℕ) (t : Token) → all_scalars text ≡ true → whole ≡ encode_utf8_all text → StandsIn text t → IsCharBoundary whole t.to
to_boundary text whole t scalars w s =
    subst (λ z. IsCharBoundary z t.to) (sym w) (subst (λ z. IsCharBoundary (encode_utf8_all text) z) (sym (to_is text t s)) (boundary text (s.before + s.size) scalars))

text_at : (text whole bytes : List ℕ) (place : ℕ) → whole ≡ encode_utf8_all text → bytes ≡ drop place whole → chars bytes ≡ text_from text place
text_at text whole bytes place w b = ap chars (b ∙ ap (drop place) w)

from_text : (text : List ℕ) (t : Token) → all_scalars text ≡ true → (s : StandsIn text t) → text_from text t.from ≡ drop s.before text
from_text text t scalars s = ap (text_from text) s.from_is ∙ from_place text s.before scalars

to_text : (text : List ℕ) (t : Token) → all_scalars text ≡ true → (s : StandsIn text t) → text_from text t.to ≡ drop s.size (drop s.before text)
to_text text t scalars s = ap (text_from text) (to_is text t s) ∙ from_place text (s.before + s.size) scalars ∙ sym (drop-drop s.size s.before text)

-- the text from the token's end on is a rest of the text from its begin on
pub token_rest : (text whole from to : List ℕ) (t : Token) → all_scalars text ≡ true → whole ≡ encode_utf8_all text → from ≡ drop t.from whole → to ≡ drop t.to whole → StandsIn text t → IsRest (chars from) (chars to)
token_rest text whole from to t scalars w f e s =
    let a : chars from ≡ drop s.before text = text_at text whole from t.from w f ∙ from_text text t scalars s in
    let b : chars to ≡ drop s.size (drop s.before text) = text_at text whole to t.to w e ∙ to_text text t scalars s in
    (s.size, subst (λ z. s.size ≤ length z) (sym a) s.within, b ∙ ap (drop s.size) (sym a))

-- the line behind the token
pub token_line : (text whole from to : List ℕ) (lines : ℕ) (t : Token) → all_scalars text ≡ true → whole ≡ encode_utf8_all text → from ≡ drop t.from whole → to ≡ drop t.to whole → StandsIn text t
    → lines + line_ends (chars to) ≡ line_ends (chars from) → t.line + lines ≡ line_at text (text_from text t.to)
token_line text whole from to lines t scalars w f e s h =
    let a : line_ends (chars from) ≡ line_ends (drop s.before text) = ap line_ends (text_at text whole from t.from w f ∙ from_text text t scalars s) in
    let b : line_ends (chars to) ≡ line_ends (text_from text t.to) = ap line_ends (text_at text whole to t.to w e) in
    let l : t.line ≡ line_ends text + 1 - line_ends (drop s.before text) = s.line_is in
    let few = ends_drop s.before text in
    omega (arith, a, b, l, few, h)

-- and it is small
pub few_lines : (text : List ℕ) (line place : ℕ) → length text ≤ 1048576 → line ≡ line_at text (text_from text place) → line ≤ 1048577
few_lines text line place few e = let a = ends_few text in omega (arith, a, few, e)

-- ---- between two places

same_bytes : (a : List ℕ) → IsUtf8 a → length a ≡ length (encode_utf8_all (chars a))
same_bytes a u = ap length (sym (encodes-chars a u))

pub further_rest : (here rest : List ℕ) → IsUtf8 here → IsUtf8 rest → IsRest (chars here) (chars rest) → length rest < length here → IsRest (drop 1 (chars here)) (chars rest) × (0 < length (chars here))
further_rest here rest u v h less =
    let a = same_bytes here u in let b = same_bytes rest v in
    rest_behind (chars here) (chars rest) h (omega (arith, a, b, less))

pub whole_rest : (here rest : List ℕ) → IsUtf8 here → IsUtf8 rest → IsRest (chars here) (chars rest) → length here ≤ length rest → chars rest ≡ chars here
whole_rest here rest u v h less =
    let a = same_bytes here u in let b = same_bytes rest v in
    rest_all (chars here) (chars rest) h (omega (arith, a, b, less))
