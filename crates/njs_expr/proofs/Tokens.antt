-- The tokens of a text were cut from it.
use Rattle.std.proofs.Common.{◌≡◌, ℕ, zero, suc, ◌+◌, ◌≤◌, Bool, List, [], ◌∷◌, length, drop, Option, Some, None, refl, ap, sym, ◌∙◌, subst, arith}
use Rattle.std.proofs.lemmas.List.{drop-drop}
use Rattle.njs_tree.specs.declared.token.Token.{Token}
use Rattle.njs_tree.specs.declared.token.LexFault.{LexFault}
use Rattle.njs_tree.specs.Characters.{line_at, line_ends, IsLine}
use Rattle.njs_tree.specs.Lexemes.{Lexeme}
use Rattle.njs_tree.specs.Lexical.{blank_length}
use Rattle.njs_tree.specs.TokenList.{Blanks, Begins, IsNext, TokensFrom, token_of}
use Rattle.njs_expr.specs.Cuts.{IsOf, AreOf}

none_some : {A G : Type 0} {a : A} → None ≡ Some a → G
none_some e = absurd (cc)

blanks_rest : {i j : List ℕ} → Blanks i j → (m : ℕ) × (j ≡ drop m i)
blanks_rest (Blanks.here i) = (0, refl)
blanks_rest (Blanks.blank i r some b) = let h = blanks_rest b in (blank_length i + h.0, h.1 ∙ drop-drop h.0 (blank_length i) i)

is_next : (j : List ℕ) (x : Lexeme) (n : ℕ) → Begins j x n → IsNext j x n
is_next [] x n h = none_some h.fits
is_next (c ∷ s) x n h = h

gone : (i : List ℕ) → drop (length i) i ≡ []
gone [] = refl
gone (c ∷ s) = gone s

cut_here : (text blanks j : List ℕ) (k n : ℕ) (x : Lexeme) → j ≡ drop k text → IsNext j x n → IsOf text (token_of text blanks j (line_at text j) x n)
cut_here text blanks j k n x e h = record {
  before = k;
  size = n;
  blanks = blanks;
  lexeme = x;
  cut = subst (λ z. IsNext z x n) e h;
  is = ap (λ z. token_of text blanks z (line_at text z) x n) e;
}

pub tokens_of : {text i : List ℕ} {ts : List Token} {f : Option LexFault} → TokensFrom text i ts f → (k : ℕ) → i ≡ drop k text → AreOf text ts
tokens_of {text} (TokensFrom.over i b) k e = (cut_here text i [] (length text) 0 Lexeme.over (sym (gone text)) (refl, refl), tt)
tokens_of (TokensFrom.fault i j f b h g) k e = tt
tokens_of {text} (TokensFrom.more i j x n ts f b begins rest) k e =
    let m = blanks_rest b in
    let place : j ≡ drop (k + m.0) text = m.1 ∙ ap (drop m.0) e ∙ drop-drop m.0 k text in
    let next : drop n j ≡ drop (k + m.0 + n) text = ap (drop n) place ∙ drop-drop n (k + m.0) text in
    (cut_here text i j (k + m.0) n x place (is_next j x n begins), tokens_of rest (k + m.0 + n) next)

pub are_dropped : (text : List ℕ) (n : ℕ) (ts : List Token) → AreOf text ts → AreOf text (drop n ts)
are_dropped text zero ts h = h
are_dropped text (suc n) [] h = tt
are_dropped text (suc n) (t ∷ ts) h = are_dropped text n ts h.1

-- ---- lines

ends_drop : (n : ℕ) (i : List ℕ) → line_ends (drop n i) ≤ line_ends i
ends_drop zero i = omega arith
ends_drop (suc n) [] = omega arith
ends_drop (suc n) (c ∷ s) = let h = ends_drop n s in omega (arith, h)

pub on_line : (text : List ℕ) (t : Token) → IsOf text t → IsLine t.line text
on_line text t h =
    let d = ends_drop h.before text in
    let line : t.line ≡ line_at text (drop h.before text) = ap (λ (u : Token). u.line) h.is in
    (omega (arith, d, line), omega (arith, line))
