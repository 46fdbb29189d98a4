-- Where tokens stand in the bytes of a text.
use Rattle.std.proofs.Common.{◌≡◌, ℕ, zero, suc, ◌+◌, ◌≤◌, true, List, [], ◌∷◌, ◌++◌, length, take, drop, refl, ap, subst, sym, ◌∙◌, arith, slice_range, length-append}
use Rattle.std.specs.Str.{chars, encode_utf8_all, all_scalars, IsUtf8, IsCharBoundary}
use Rattle.std.proofs.lemmas.List.{drop-drop}
use Rattle.std.proofs.lemmas.Str.{encodes-append, encodes-chars, scalars-chars, IsCharBoundary-at_seam}
use Rattle.njs_tree.specs.declared.token.Token.{Token}
use Rattle.njs_tree.specs.TokenList.{place_of, text_from, text_between}
use Rattle.njs_lexer.proofs.Runs.{and_right}
use Rattle.njs_expr.specs.Cuts.{IsOf}

-- ---- places

split : (n : ℕ) (i : List ℕ) → i ≡ take n i ++ drop n i
split zero i = refl
split (suc n) [] = refl
split (suc n) (c ∷ s) = ap (λ z. c ∷ z) (split n s)

bytes_split : (n : ℕ) (i : List ℕ) → encode_utf8_all i ≡ encode_utf8_all (take n i) ++ encode_utf8_all (drop n i)
bytes_split n i = ap encode_utf8_all (split n i) ∙ encodes-append (take n i) (drop n i)

sizes : (n : ℕ) (i : List ℕ) → length (encode_utf8_all i) ≡ length (encode_utf8_all (take n i)) + length (encode_utf8_all (drop n i))
sizes n i = ap length (bytes_split n i) ∙ length-append (encode_utf8_all (take n i)) (encode_utf8_all (drop n i))

scalars_drop : (n : ℕ) (i : List ℕ) → all_scalars i ≡ true → all_scalars (drop n i) ≡ true
scalars_drop zero i h = h
scalars_drop (suc n) [] h = h
scalars_drop (suc n) (c ∷ s) h = scalars_drop n s (and_right _ (all_scalars s) h)

place_size : (text : List ℕ) (k : ℕ) → place_of text (drop k text) ≡ length (encode_utf8_all (take k text))
place_size text k = let l = sizes k text in omega (arith, l)

boundary : (text : List ℕ) (k : ℕ) → all_scalars text ≡ true → IsCharBoundary (encode_utf8_all text) (place_of text (drop k text))
boundary text k h =
    subst (λ z. IsCharBoundary (encode_utf8_all text) z) (sym (place_size text k))
    (IsCharBoundary-at_seam (encode_utf8_all text) (encode_utf8_all (take k text)) (encode_utf8_all (drop k text)) (bytes_split k text) (drop k text, (scalars_drop k text h, refl)))

in_order : (text : List ℕ) (k n : ℕ) → place_of text (drop k text) ≤ place_of text (drop n (drop k text))
in_order text k n = let l = sizes n (drop k text) in omega (arith, l)

later : (text : List ℕ) (k n : ℕ) → all_scalars text ≡ true → IsCharBoundary (encode_utf8_all text) (place_of text (drop n (drop k text)))
later text k n h = subst (λ z. IsCharBoundary (encode_utf8_all text) (place_of text z)) (sym (drop-drop n k text)) (boundary text (k + n) h)

-- a token stands between two places of its text at which characters begin
stands_between : (text : List ℕ) (t : Token) → all_scalars text ≡ true → IsOf text t
    → (t.from ≤ t.to) × IsCharBoundary (encode_utf8_all text) t.from × IsCharBoundary (encode_utf8_all text) t.to
stands_between text t s h =
    subst (λ (u : Token). (u.from ≤ u.to) × IsCharBoundary (encode_utf8_all text) u.from × IsCharBoundary (encode_utf8_all text) u.to) (sym h.is)
    (in_order text h.before h.size, boundary text h.before s, later text h.before h.size s)

pub placed : (bytes : List ℕ) → IsUtf8 bytes → (t : Token) → IsOf (chars bytes) t → (t.from ≤ t.to) × IsCharBoundary bytes t.from × IsCharBoundary bytes t.to
placed bytes u t h =
    subst (λ z. (t.from ≤ t.to) × IsCharBoundary z t.from × IsCharBoundary z t.to) (encodes-chars bytes u) (stands_between (chars bytes) t (scalars-chars bytes u) h)

pub same_between : (bytes : List ℕ) → IsUtf8 bytes → (from to : ℕ) → chars (slice_range bytes from to) ≡ text_between (chars bytes) from to
same_between bytes u from to = ap (λ z. chars (slice_range z from to)) (sym (encodes-chars bytes u))

pub same_from : (bytes : List ℕ) → IsUtf8 bytes → (from : ℕ) → chars (drop from bytes) ≡ text_from (chars bytes) from
same_from bytes u from = ap (λ z. chars (drop from z)) (sym (encodes-chars bytes u))
