-- A text has one list of tokens at most.
use Rattle.std.proofs.Common.{◌≡◌, ℕ, zero, suc, ◌-◌, ◌<◌, ◌≤◌, true, false, List, [], ◌∷◌, length, drop, Option, Some, None, refl, ap, sym, ◌∙◌, subst, arith, ◌==◌, if◌then◌else◌, length-drop, inl, inr}
use Rattle.std.proofs.lemmas.Bool.Decides.{nat_tests}
use Rattle.std.proofs.lemmas.Bool.{cases_order}
use Rattle.njs_tree.specs.declared.token.Token.{Token}
use Rattle.njs_tree.specs.declared.token.LexFault.{LexFault}
use Rattle.njs_tree.specs.Characters.{line_at}
use Rattle.njs_tree.specs.Lexemes.{Lexeme}
use Rattle.njs_tree.specs.Lexical.{blank_length, lexeme_at, fault_at}
use Rattle.njs_tree.specs.TokenList.{Blanks, Begins, TokensFrom, OneList, token_of}

-- what is left after the white space and the comments
skip : ℕ → List ℕ → List ℕ
skip zero i = i
skip (suc n) i = if blank_length i == 0 then i else skip n (drop (blank_length i) i)

skip_here : (n : ℕ) (i : List ℕ) → blank_length i ≡ 0 → skip n i ≡ i
unfolding skip
skip_here zero i h = refl
skip_here (suc n) i h = let e : (blank_length i == 0) ≡ true = grind (arith, nat_tests) in rw e

skip_item : (n : ℕ) (i : List ℕ) → 0 < n → 0 < blank_length i → skip n i ≡ skip (n - 1) (drop (blank_length i) i)
unfolding skip
skip_item zero i some h = absurd (omega arith)
skip_item (suc n) i some h =
    let e : (blank_length i == 0) ≡ false = grind (arith, nat_tests) in let m : n ≡ suc n - 1 = omega arith in rw e (ap (λ k. skip k (drop (blank_length i) i)) m)

blank_short : (i : List ℕ) → 0 < blank_length i → 0 < length i
blank_short [] h = absurd (omega arith)
blank_short (c ∷ s) h = omega arith

skipped : {i j : List ℕ} → Blanks i j → (n : ℕ) → length i ≤ n → blank_length j ≡ 0 → skip n i ≡ j
skipped (Blanks.here i) n short stop = skip_here n i stop
skipped (Blanks.blank i r some rest) n short stop =
    let long = blank_short i some in
    let l : length (drop (blank_length i) i) ≡ length i - blank_length i = length-drop (blank_length i) i in
    skip_item n i (omega arith) some ∙ skipped rest (n - 1) (omega (arith, l)) stop

none_some : {A : Type 0} {x : A} → ◌≡◌ {A = Option A} None (Some x) → ⊥
none_some e = cc

some_one : {A : Type 0} {x y : A} → ◌≡◌ {A = Option A} (Some x) (Some y) → x ≡ y
some_one e = cc

-- the longest token at a place is one
token_one : (i : List ℕ) (x y : Lexeme) (m n : ℕ) → Begins i x m → Begins i y n → (m ≡ n) × (x ≡ y)
token_one i x y m n a b = elim (cases_order m n) [
  | inl h ↦ (h, some_one (sym a.fits ∙ ap (λ p. lexeme_at p i) h ∙ b.fits))
  | inr (inl h) ↦ absurd (none_some (sym (a.longest n h b.within) ∙ b.fits))
  | inr (inr h) ↦ absurd (none_some (sym (b.longest m h a.within) ∙ a.fits))
]

nonempty : (i : List ℕ) (x : Lexeme) (n : ℕ) → Begins i x n → (i ≡ []) → ⊥
nonempty [] x n a e = absurd (none_some a.fits)
nonempty (c ∷ s) x n a e = cc

-- the same place after the white space and the comments
same_place : {i j k : List ℕ} → Blanks i j → Blanks i k → blank_length j ≡ 0 → blank_length k ≡ 0 → j ≡ k
same_place {i = i} a b stop_j stop_k = sym (skipped a (length i) (omega arith) stop_j) ∙ skipped b (length i) (omega arith) stop_k

joined : (text i j k : List ℕ) (x y : Lexeme) (m n : ℕ) (ts us : List Token) → j ≡ k → (m ≡ n) × (x ≡ y) → ts ≡ us
    → ◌≡◌ {A = List Token} (token_of text i j (line_at text j) x m ∷ ts) (token_of text i k (line_at text k) y n ∷ us)
joined text i j k x y m n ts us e h t = rw (e, h.0, h.1, t)

same_fault : (j k : List ℕ) (f g : LexFault) → j ≡ k → fault_at j ≡ Some f → fault_at k ≡ Some g → ◌≡◌ {A = Option LexFault} (Some f) (Some g)
same_fault j k f g e a b = sym a ∙ ap fault_at e ∙ b

no_fault_here : (j k : List ℕ) (f : LexFault) → j ≡ k → fault_at j ≡ Some f → fault_at k ≡ None → ⊥
no_fault_here j k f e a b = none_some (sym b ∙ ap fault_at (sym e) ∙ a)

-- the tokens and the fault after them are the only ones
pub one_from : (text : List ℕ) {i : List ℕ} {ts us : List Token} {f g : Option LexFault} → TokensFrom text i ts f → TokensFrom text i us g → (ts ≡ us) × (f ≡ g)
one_from text (TokensFrom.over i a) (TokensFrom.over _ b) = (refl, refl)
one_from text (TokensFrom.over i a) (TokensFrom.fault _ j f b stop at) = absurd (no_fault_here j [] f (same_place b a stop refl) at refl)
one_from text (TokensFrom.over i a) (TokensFrom.more _ j x n us g b c rest) = absurd (nonempty j x n c (same_place b a c.no_blank refl))
one_from text (TokensFrom.fault i j f b stop at) (TokensFrom.over _ a) = absurd (no_fault_here j [] f (same_place b a stop refl) at refl)
one_from text (TokensFrom.fault i j f b stop at) (TokensFrom.fault _ k g b' stop' at') = (refl, same_fault j k f g (same_place b b' stop stop') at at')
one_from text (TokensFrom.fault i j f b stop at) (TokensFrom.more _ k x n us g b' c rest) = absurd (no_fault_here j k f (same_place b b' stop c.no_blank) at c.no_fault)
one_from text (TokensFrom.more i j x n ts f b c rest) (TokensFrom.over _ a) = absurd (nonempty j x n c (same_place b a c.no_blank refl))
one_from text (TokensFrom.more i j x n ts f b c rest) (TokensFrom.fault _ k g b' stop' at') = absurd (no_fault_here k j g (same_place b' b stop' c.no_blank) at' c.no_fault)
one_from text (TokensFrom.more i j x n ts f b c rest) (TokensFrom.more _ k y m us g b' c' rest') =
    let e = same_place b b' c.no_blank c'.no_blank in
    let c1 : Begins j y m = subst (λ p. Begins p y m) (sym e) c' in
    let h = token_one j x y n m c c1 in
    let r1 : TokensFrom text (drop n j) us g = rw (h.0, e) rest' in
    let same = one_from text rest r1 in
    (joined text i j k x y n m ts us e h same.0, same.1)

-- a text has one list of tokens at most
pub one_list : OneList
one_list text ts us a b = (one_from text a b).0
