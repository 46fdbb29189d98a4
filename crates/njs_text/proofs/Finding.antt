-- A text stands in another exactly where its bytes do, and the first place among the bytes is the first among the values.
use Rattle.std.proofs.Common.{◌≡◌, ◌++◌, ◌+◌, ◌-◌, ◌≤◌, ◌<◌, ℕ, List, length, take, drop, get_or, sym, ap, subst, ◌∙◌, arith, ⊎_elim, length-append, length-drop, get_or-drop, take-append-drop}
use Rattle.std.specs.Str.{chars, IsUtf8, IsCharBoundary, encode_utf8_all}
use Rattle.std.proofs.Math.Seq.{drop-append_seam, take-append_seam}
use Rattle.std.proofs.lemmas.Bool.{cases_eq}
use Rattle.std.proofs.lemmas.List.{length-take-le, take-append-le}
use Rattle.std.proofs.lemmas.Str.{IsCharBoundary-start, IsUtf8-take, chars-append, encodes-append, encodes-chars, length-le-encodes}
use Rattle.memchr.specs.Find.{NoneBefore, Nowhere, OccursAt}
use Rattle.memchr.proofs.lemmas.MatchLemmas.{OccursAt-from_part, OccursAt-split}
use Rattle.njs_text.proofs.Places.{encodes-cut}

-- what stands between a front and the rest occurs where the front ends
OccursAt-between : (hay front needle rest : List ℕ) → hay ≡ front ++ (needle ++ rest) → OccursAt hay needle (length front)
OccursAt-between hay front needle rest e =
    let whole = ap length e ∙ length-append front (needle ++ rest) ∙ ap (λ n. length front + n) (length-append needle rest) in
    OccursAt-from_part hay needle (length front) (omega arith)
    (ap (take (length needle)) (ap (drop (length front)) e ∙ drop-append_seam front (needle ++ rest)) ∙ take-append_seam needle rest)

-- more values are more bytes
more_bytes : (cs : List ℕ) (q k : ℕ) → q < k → k ≤ length cs → length (encode_utf8_all (take q cs)) < length (encode_utf8_all (take k cs))
more_bytes cs q k less within =
    let front : take q (take k cs) ≡ take q cs =
    sym (take-append-le q (take k cs) (drop k cs) (omega (arith, length-take-le k cs within))) ∙ ap (take q) (take-append-drop k cs)
    in
    let whole = ap length (encodes-cut (take k cs) q) ∙ length-append (encode_utf8_all (take q (take k cs))) (encode_utf8_all (drop q (take k cs))) in
    let some = length-le-encodes (drop q (take k cs)) in
    omega (arith, whole, some, ap (λ l. length (encode_utf8_all l)) front, length-drop q (take k cs), length-take-le k cs within)

module _ (hs ns : List ℕ) (u : IsUtf8 hs) (v : IsUtf8 ns) where
  -- an occurrence among the values is one among the bytes
  to_bytes : (k : ℕ) → OccursAt (chars hs) (chars ns) k → OccursAt hs ns (length (encode_utf8_all (take k (chars hs))))
  to_bytes k h =
      let front = encode_utf8_all (take k (chars hs)) in
      let rest = encode_utf8_all (drop (k + length (chars ns)) (chars hs)) in
      let back : encode_utf8_all (drop k (chars hs)) ≡ ns ++ rest =
      ap encode_utf8_all (OccursAt-split (chars hs) (chars ns) k h) ∙ encodes-append (chars ns) _ ∙ ap (λ l. l ++ rest) (encodes-chars ns v)
      in
      OccursAt-between hs front ns rest (sym (encodes-chars hs u) ∙ encodes-cut (chars hs) k ∙ ap (λ l. front ++ l) back)

  module _ (i : ℕ) (h : OccursAt hs ns i) (first : Nowhere (OccursAt hs ns) 0 i) where
    -- the first byte of a text begins a value, so an occurrence does
    pub boundary : IsCharBoundary hs i
    boundary = ⊎_elim
        (λ empty.
        let here : OccursAt hs ns 0 = record { fits = omega arith; reads = λ j l. absurd (omega arith) } in
        ⊎_elim (λ same. subst (IsCharBoundary hs) (sym same) (IsCharBoundary-start hs u)) (λ other. absurd (first 0 (omega arith) (omega arith) here)) (cases_eq i 0))
        (λ some.
        let lead = (IsCharBoundary-start ns v).1 in
        let read : get_or hs i 0 ≡ get_or ns 0 0 = ap (λ k. get_or hs k 0) (omega arith) ∙ h.reads 0 (omega arith) in
        (omega (arith, h.fits), λ l a. let high = lead (omega arith) (omega arith) in omega arith))
        (cases_eq (length ns) 0)

    split : chars hs ≡ chars (take i hs) ++ (chars ns ++ chars (drop (i + length ns) hs))
    split =
        ap chars (sym (take-append-drop i hs)) ∙ chars-append (take i hs) (drop i hs) (IsUtf8-take hs i u boundary)
        ∙ ap (λ l. chars (take i hs) ++ l) (ap chars (OccursAt-split hs ns i h) ∙ chars-append ns _ v)

    from_bytes : OccursAt (chars hs) (chars ns) (length (chars (take i hs)))
    from_bytes = OccursAt-between (chars hs) (chars (take i hs)) (chars ns) _ split

    pub first_value : NoneBefore (OccursAt (chars hs) (chars ns)) 0 (length (chars hs) + 1) (length (chars (take i hs))) × OccursAt (chars hs) (chars ns) (length (chars (take i hs)))
    first_value =
        let k = length (chars (take i hs)) in
        let fits = from_bytes.fits in
        let front : take k (chars hs) ≡ chars (take i hs) = ap (take k) split ∙ take-append_seam (chars (take i hs)) _ in
        let bytes : length (encode_utf8_all (take k (chars hs))) ≡ i =
        ap (λ l. length (encode_utf8_all l)) front ∙ ap length (encodes-chars (take i hs) (IsUtf8-take hs i u boundary)) ∙ length-take-le i hs boundary.0
        in (
          record {
            low = omega arith;
            high = omega arith;
            before = λ q _ less occurs. first (length (encode_utf8_all (take q (chars hs)))) (omega arith) (omega (arith, more_bytes (chars hs) q k less (omega arith), bytes)) (to_bytes q occurs);
          },
          from_bytes,
        )

  pub no_value : Nowhere (OccursAt hs ns) 0 (length hs + 1) → Nowhere (OccursAt (chars hs) (chars ns)) 0 (length (chars hs) + 1)
  no_value none q _ _ occurs =
      let there = to_bytes q occurs in
      none (length (encode_utf8_all (take q (chars hs)))) (omega arith) (omega (arith, there.fits)) there

-- an occurrence in what follows n values is one n values later
module _ (hay needle : List ℕ) (n : ℕ) (within : n ≤ length hay) where
  later : (k : ℕ) → OccursAt (drop n hay) needle k → OccursAt hay needle (n + k)
  later k h = record {
    fits = omega (arith, h.fits, length-drop n hay);
    reads = λ j l. ap (λ i. get_or hay i 0) (omega arith) ∙ sym (get_or-drop n hay (k + j) 0) ∙ h.reads j l;
  }

  earlier : (k i : ℕ) → i ≡ n + k → OccursAt hay needle i → OccursAt (drop n hay) needle k
  earlier k i e h = record {
    fits = omega (arith, h.fits, length-drop n hay);
    reads = λ j l. get_or-drop n hay (k + j) 0 ∙ ap (λ i. get_or hay i 0) (omega arith) ∙ h.reads j l;
  }

  pub none_later : Nowhere (OccursAt (drop n hay) needle) 0 (length (drop n hay) + 1) → Nowhere (OccursAt hay needle) n (length hay + 1)
  none_later none q a b occurs = none (q - n) (omega arith) (omega (arith, length-drop n hay)) (earlier (q - n) q (omega arith) occurs)

  pub first_later : (k : ℕ) → NoneBefore (OccursAt (drop n hay) needle) 0 (length (drop n hay) + 1) k × OccursAt (drop n hay) needle k
      → NoneBefore (OccursAt hay needle) n (length hay + 1) (n + k) × OccursAt hay needle (n + k)
  first_later k h = (
    record {
      low = omega arith;
      high = omega (arith, h.0.high, length-drop n hay);
      before = λ q a b occurs. h.0.before (q - n) (omega arith) (omega arith) (earlier (q - n) q (omega arith) occurs);
    },
    later k h.1,
  )
