-- A token stands for the lexeme that it was cut as.
use Rattle.std.proofs.Common.{◌≡◌, ℕ, zero, suc, ◌+◌, ◌-◌, Bool, true, false, ◌&&◌, List, [], ◌∷◌, ◌++◌, length, take, drop, Option, Some, None, Result, Ok, Err, option_map, refl, ap, subst, sym, ◌∙◌, arith, ◌==◌, if◌then◌else◌, inl, inr, nat_lt, length-append}
use Rattle.std.specs.Str.{chars, encode_utf8_all, all_scalars}
use Rattle.std.proofs.lemmas.Str.{encodes-append, chars-encodes}
use Rattle.njs_tree.specs.declared.token.Token.{Token}
use Rattle.njs_tree.specs.declared.token.Keyword.{Keyword}
use Rattle.njs_tree.specs.declared.token.LexFault.{LexFault}
use Rattle.njs_tree.specs.declared.token.Mark.{Mark}
use Rattle.njs_tree.specs.Characters.{is_letter, line_ends}
use Rattle.njs_tree.specs.Names.{is_word}
use Rattle.njs_lexer.specs.Laws.{TokensMean}
use Rattle.njs_tree.specs.Lexemes.{Lexeme, Symbol, word, name_unless, keyword_of, mark_of}
use Rattle.njs_tree.specs.Lexical.{is_decimal, is_quote, is_number, number_value, string_from, string_of_length}
use Rattle.njs_tree.specs.TokenList.{IsNext, kind_of, token_of, place_of, text_from, text_between, string_value, lexeme_by}
use Rattle.njs_lexer.proofs.Runs.{never, cases, some_one, none_some, and_right}

drop_split : (n : ℕ) (i : List ℕ) → i ≡ take n i ++ drop n i
drop_split zero i = refl
drop_split (suc n) [] = refl
drop_split (suc n) (c ∷ s) = ap (λ z. c ∷ z) (drop_split n s)

bytes_split : (n : ℕ) (i : List ℕ) → encode_utf8_all i ≡ encode_utf8_all (take n i) ++ encode_utf8_all (drop n i)
bytes_split n i = ap encode_utf8_all (drop_split n i) ∙ encodes-append (take n i) (drop n i)

drop_front : (a b : List ℕ) → drop (length a) (a ++ b) ≡ b
drop_front [] b = refl
drop_front (c ∷ a) b = drop_front a b

take_front : (a b : List ℕ) → take (length a) (a ++ b) ≡ a
take_front [] b = refl
take_front (c ∷ a) b = ap (λ z. c ∷ z) (take_front a b)

scalars_drop : (n : ℕ) (i : List ℕ) → all_scalars i ≡ true → all_scalars (drop n i) ≡ true
scalars_drop zero i h = h
scalars_drop (suc n) [] h = h
scalars_drop (suc n) (c ∷ s) h = scalars_drop n s (and_right _ (all_scalars s) h)

and_keep : (a b c : Bool) → (a && b) ≡ true → c ≡ true → (a && c) ≡ true
and_keep true b c h k = k
and_keep false b c h k = absurd (never (sym h))

scalars_take : (n : ℕ) (i : List ℕ) → all_scalars i ≡ true → all_scalars (take n i) ≡ true
scalars_take zero i h = refl
scalars_take (suc n) [] h = h
scalars_take (suc n) (c ∷ s) h = and_keep _ (all_scalars s) (all_scalars (take n s)) h (scalars_take n s (and_right _ (all_scalars s) h))

-- the text from the place of a rest on is the rest
from_place : (text : List ℕ) (k : ℕ) → all_scalars text ≡ true → text_from text (place_of text (drop k text)) ≡ drop k text
from_place text k h =
    let split = bytes_split k text in
    let size : place_of text (drop k text) ≡ length (encode_utf8_all (take k text)) = (let l = ap length split ∙ length-append (encode_utf8_all (take k text)) (encode_utf8_all (drop k text)) in omega (arith, l)) in
    ap (λ z. text_from text z) size ∙ ap (λ z. chars (drop (length (encode_utf8_all (take k text))) z)) split ∙ ap chars (drop_front (encode_utf8_all (take k text)) (encode_utf8_all (drop k text)))
    ∙ chars-encodes (drop k text) (scalars_drop k text h)

-- and from there to the place of a later rest it is what lies between
between_places : (text : List ℕ) (k n : ℕ) → all_scalars text ≡ true → text_between text (place_of text (drop k text)) (place_of text (drop n (drop k text))) ≡ take n (drop k text)
between_places text k n h =
    let split = bytes_split k text in
    let inner = bytes_split n (drop k text) in
    let a = ap length split ∙ length-append (encode_utf8_all (take k text)) (encode_utf8_all (drop k text)) in
    let b = ap length inner ∙ length-append (encode_utf8_all (take n (drop k text))) (encode_utf8_all (drop n (drop k text))) in
    let size : place_of text (drop k text) ≡ length (encode_utf8_all (take k text)) = omega (arith, a) in
    let wide : place_of text (drop n (drop k text)) - length (encode_utf8_all (take k text)) ≡ length (encode_utf8_all (take n (drop k text))) = omega (arith, a, b) in
    ap (λ z. text_between text z (place_of text (drop n (drop k text)))) size
    ∙ ap (λ z. chars (take z (drop (length (encode_utf8_all (take k text))) (encode_utf8_all text)))) wide
    ∙ ap (λ z. chars (take (length (encode_utf8_all (take n (drop k text)))) (drop (length (encode_utf8_all (take k text))) z))) split
    ∙ ap (λ z. chars (take (length (encode_utf8_all (take n (drop k text)))) z)) (drop_front (encode_utf8_all (take k text)) (encode_utf8_all (drop k text)) ∙ inner)
    ∙ ap chars (take_front (encode_utf8_all (take n (drop k text))) (encode_utf8_all (drop n (drop k text))))
    ∙ chars-encodes (take n (drop k text)) (scalars_take n (drop k text) (scalars_drop k text h))

word_means : (w text : List ℕ) (o : Option Keyword) (t : Token) → text_between text t.from t.to ≡ w → lexeme_by (kind_of (name_unless w o)) text t ≡ word w
word_means w text None t e = ap word e
word_means w text (Some k) t e = ap word e

if_some : (b : Bool) (x y : Option Lexeme) → b ≡ true → (if b then x else y) ≡ x
if_some b x y h = rw h refl

if_none : (b : Bool) (x y : Option Lexeme) → b ≡ false → (if b then x else y) ≡ y
if_none b x y h = rw h refl

only_if : (b : Bool) (x y : Lexeme) → (if b then Some x else None) ≡ Some y → x ≡ y
only_if true x y h = some_one h
only_if false x y h = absurd (none_some h)

of_string : (n : ℕ) (r : Result (List ℕ × ℕ) LexFault) (x : Lexeme) → string_of_length n r ≡ Some x → (v : List ℕ) × (k : ℕ) × (r ≡ Ok (v, k)) × (x ≡ Lexeme.string v)
of_string n (Err f) x e = absurd (none_some e)
of_string n (Ok found) x e = (found.0, found.1, refl, sym (only_if (found.1 + 1 == n) (Lexeme.string found.0) x e))

of_mark : (o : Option Mark) (x : Lexeme) → option_map Lexeme.mark o ≡ Some x → (m : Mark) × (x ≡ Lexeme.mark m)
of_mark None x e = absurd (none_some e)
of_mark (Some m) x e = (m, sym (some_one e))

stood : (c : ℕ) (s v : List ℕ) (k : ℕ) → string_from c s 0 ≡ Ok (v, k) → string_value (c ∷ s) ≡ v
stood c s v k e = rw e refl

means : (text j : List ℕ) (n : ℕ) (x : Lexeme) (t : Token) → text_from text t.from ≡ j → text_between text t.from t.to ≡ take n j → IsNext j x n → lexeme_by (kind_of x) text t ≡ x
means text [] n x t f b h = subst (λ z. lexeme_by (kind_of z) text t ≡ z) (sym h.0) refl
means text (c ∷ s) n x t f b h = elim (cases (is_letter c)) [
  | inl l ↦
      let w : word (take n (c ∷ s)) ≡ x = only_if (is_word (take n (c ∷ s))) (word (take n (c ∷ s))) x (sym (if_some (is_letter c) _ _ l) ∙ h.fits) in
      subst (λ z. lexeme_by (kind_of z) text t ≡ z) w (word_means (take n (c ∷ s)) text (keyword_of (take n (c ∷ s))) t b)
  | inr l ↦ elim (cases (is_decimal c)) [
    | inl d ↦
        let w : Lexeme.number (number_value (take n (c ∷ s))) ≡ x = only_if (is_number (take n (c ∷ s))) (Lexeme.number (number_value (take n (c ∷ s)))) x (sym (if_some (is_decimal c) _ _ d) ∙ sym (if_none (is_letter c) _ _ l) ∙ h.fits) in
        subst (λ z. lexeme_by (kind_of z) text t ≡ z) w (ap (λ z. Lexeme.number (number_value z)) b)
    | inr d ↦ elim (cases (is_quote c)) [
      | inl q ↦
          let w = of_string n (string_from c s 0) x (sym (if_some (is_quote c) _ _ q) ∙ sym (if_none (is_decimal c) _ _ d) ∙ sym (if_none (is_letter c) _ _ l) ∙ h.fits) in
          subst (λ z. lexeme_by (kind_of z) text t ≡ z) (sym w.3) (ap Lexeme.string (ap string_value f ∙ stood c s w.0 w.1 w.2))
      | inr q ↦
          let w = of_mark (mark_of (take n (c ∷ s))) x (sym (if_none (is_quote c) _ _ q) ∙ sym (if_none (is_decimal c) _ _ d) ∙ sym (if_none (is_letter c) _ _ l) ∙ h.fits) in
          subst (λ z. lexeme_by (kind_of z) text t ≡ z) (sym w.1) refl
    ]
  ]
]

-- a token stands for the lexeme that it was cut as
token_means : (text i : List ℕ) (k line n : ℕ) (x : Lexeme) → all_scalars text ≡ true → IsNext (drop k text) x n
    → lexeme_by (kind_of x) text (token_of text i (drop k text) line x n) ≡ x
token_means text i k line n x h b = means text (drop k text) n x (token_of text i (drop k text) line x n) (from_place text k h) (between_places text k n h) b

same_symbol : (x y : Lexeme) (line : ℕ) (broken : Bool) → x ≡ y → ◌≡◌ {A = Symbol} (record { lexeme = x; line = line; after_break = broken }) (record { lexeme = y; line = line; after_break = broken })
same_symbol x y line broken e = rw e refl

pub tokens_mean : TokensMean
tokens_mean text blanks k line n x h b =
    same_symbol (lexeme_by (kind_of x) text (token_of text blanks (drop k text) line x n)) x line (nat_lt (line_ends (drop k text)) (line_ends blanks)) (token_means text blanks k line n x h b)
