-- Where the values of a text stand among its bytes.
use Rattle.std.proofs.Common.{◌≡◌, ◌++◌, ◌≤◌, ◌-◌, ◌+◌, ℕ, zero, suc, List, [], ◌∷◌, true, length, take, drop, sym, ap, subst, refl, ◌∙◌, arith, length-append, length-drop, take-append-drop}
use Rattle.std.specs.List.{slice_range}
use Rattle.std.specs.Str.{chars, IsUtf8, IsCharBoundary, all_scalars, encode_utf8_all}
use Rattle.std.proofs.Math.Seq.{drop-append_seam, take-append_seam}
use Rattle.std.proofs.lemmas.Bool.{and_parts}
use Rattle.std.proofs.lemmas.List.{length-take-le}
use Rattle.std.proofs.lemmas.List.Folds.{drop_split}
use Rattle.std.proofs.lemmas.Str.{IsCharBoundary-at_seam, chars-encodes, encodes-append, encodes-chars, length-le-encodes, scalars-chars}

scalars-drop : (n : ℕ) (cs : List ℕ) → all_scalars cs ≡ true → all_scalars (drop n cs) ≡ true
scalars-drop zero cs s = s
scalars-drop (suc n) [] s = s
scalars-drop (suc n) (c ∷ cs) s = scalars-drop n cs (and_parts _ _ s).1

-- the bytes of the first n values, and those of the others
pub encodes-cut : (cs : List ℕ) (n : ℕ) → encode_utf8_all cs ≡ encode_utf8_all (take n cs) ++ encode_utf8_all (drop n cs)
encodes-cut cs n = ap encode_utf8_all (sym (take-append-drop n cs)) ∙ encodes-append (take n cs) (drop n cs)

-- where there are no more bytes than values, the first n values are n bytes
length-narrow : (cs : List ℕ) (n : ℕ) → length (encode_utf8_all cs) ≡ length cs → n ≤ length cs → length (encode_utf8_all (take n cs)) ≡ n
length-narrow cs n e within =
    let whole = ap length (encodes-cut cs n) ∙ length-append (encode_utf8_all (take n cs)) (encode_utf8_all (drop n cs)) in
    let front = length-le-encodes (take n cs) in
    let back = length-le-encodes (drop n cs) in
    omega (arith, whole, front, back, length-take-le n cs within, length-drop n cs)

pub range_from_start : (bs : List ℕ) (n : ℕ) → slice_range bs 0 n ≡ take n bs
range_from_start bs n = ap (λ k. take k bs) (omega arith)

module _ (bs : List ℕ) (utf8 : IsUtf8 bs) where
  cut : (n : ℕ) → bs ≡ encode_utf8_all (take n (chars bs)) ++ encode_utf8_all (drop n (chars bs))
  cut n = sym (encodes-chars bs utf8) ∙ encodes-cut (chars bs) n

  -- the first n values may be cut off where each value is one byte, and what follows them are the others
  pub narrow_boundary : (n : ℕ) → length bs ≡ length (chars bs) → n ≤ length (chars bs) → IsCharBoundary bs n
  narrow_boundary n e within =
      subst (IsCharBoundary bs) (length-narrow (chars bs) n (ap length (encodes-chars bs utf8) ∙ e) within)
      (IsCharBoundary-at_seam bs _ _ (cut n) (drop n (chars bs), (scalars-drop n (chars bs) (scalars-chars bs utf8), refl)))

  pub chars-narrow : (n : ℕ) → length bs ≡ length (chars bs) → n ≤ length (chars bs) → chars (drop n bs) ≡ drop n (chars bs)
  chars-narrow n e within =
      let front = encode_utf8_all (take n (chars bs)) in
      let bytes : drop (length front) bs ≡ encode_utf8_all (drop n (chars bs)) = ap (drop (length front)) (cut n) ∙ drop-append_seam front _ in
      let same = length-narrow (chars bs) n (ap length (encodes-chars bs utf8) ∙ e) within in
      ap chars (subst (λ k. drop k bs ≡ encode_utf8_all (drop n (chars bs))) same bytes)
      ∙ chars-encodes (drop n (chars bs)) (scalars-drop n (chars bs) (scalars-chars bs utf8))

-- the values before `past` that follow the same place: their bytes, and that they may be cut off
module _ (cs rest past : List ℕ) (from to : ℕ) (order : from ≤ to) (u : IsUtf8 rest) (v : IsUtf8 past)
    (e : chars rest ≡ drop from cs) (f : chars past ≡ drop to cs) where
  pub part_split : rest ≡ encode_utf8_all (slice_range cs from to) ++ past
  part_split =
      sym (encodes-chars rest u) ∙ ap encode_utf8_all (e ∙ drop_split cs from to order) ∙ encodes-append (slice_range cs from to) (drop to cs)
      ∙ ap (λ l. encode_utf8_all (slice_range cs from to) ++ l) (ap encode_utf8_all (sym f) ∙ encodes-chars past v)

  pub part_length : length rest ≡ length (encode_utf8_all (slice_range cs from to)) + length past
  part_length = ap length part_split ∙ length-append _ past

  part_end : length rest - length past ≡ length (encode_utf8_all (slice_range cs from to))
  part_end = let whole = part_length in omega arith

  pub part_boundary : IsCharBoundary rest (length rest - length past)
  part_boundary = subst (IsCharBoundary rest) (sym part_end) (IsCharBoundary-at_seam rest _ past part_split v)

  pub part_bytes : take (length rest - length past) rest ≡ encode_utf8_all (slice_range cs from to)
  part_bytes = ap (λ n. take n rest) part_end ∙ ap (take (length (encode_utf8_all (slice_range cs from to)))) part_split ∙ take-append_seam _ past
