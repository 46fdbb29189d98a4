-- A text that is cut token by token.
use Rattle.std.proofs.Common.{◌≡◌, ℕ, zero, suc, ◌+◌, ◌-◌, ◌<◌, ◌≤◌, Bool, true, false, List, [], ◌∷◌, ◌++◌, length, take, drop, Option, Some, None, Result, Ok, Err, option_map, refl, ap, subst, sym, ◌∙◌, arith, ◌==◌, if◌then◌else◌, append_assoc}
use Rattle.std.proofs.lemmas.Bool.Decides.{nat_tests}
use Rattle.std.proofs.lemmas.List.{drop-drop, append-nil}
use Rattle.std.specs.Str.{encode_utf8_all, all_scalars, IsCharBoundary}
use Rattle.njs_tree.specs.declared.token.Token.{Token}
use Rattle.njs_tree.specs.declared.token.Keyword.{Keyword}
use Rattle.njs_tree.specs.declared.token.Mark.{Mark}
use Rattle.njs_tree.specs.declared.token.LexFault.{LexFault}
use Rattle.njs_tree.specs.Characters.{IsLine, is_letter, line_ends, line_at}
use Rattle.njs_tree.specs.Names.{is_word}
use Rattle.njs_tree.specs.Lexemes.{Lexeme, word, name_unless, keyword_of, mark_of, marks}
use Rattle.njs_tree.specs.Lexical.{is_decimal, is_quote, is_number, number_value, string_from, string_of_length, word_lexeme, number_lexeme, mark_lexeme, lexeme_at}
use Rattle.njs_tree.specs.TokenList.{Blanks, Begins, IsNext, NextFrom, Tokens, TokensFrom, kind_of, token_of, place_of, text_from, line_after}
use Rattle.njs_lexer.proofs.Runs.{never, none_some}
use Rattle.njs_lexer.proofs.Cutting.{blanks_bytes, rest_bytes}
use Rattle.njs_stmt.specs.Cut.{StandsIn, IsCut, is_end}
use Rattle.njs_stmt.specs.Script.{is_over}
use Rattle.njs_stmt.proofs.Places.{from_place, boundary, fewer_bytes, is_line, passed_line, blanks_rest}

-- ---- the end is no token of some characters, and no token has none

abbrev pub over_of : Option Lexeme → Bool
over_of None = false
over_of (Some x) = is_over x

if_plain : (b : Bool) (x y : Option Lexeme) → over_of x ≡ false → over_of y ≡ false → over_of (if b then x else y) ≡ false
if_plain true x y h k = h
if_plain false x y h k = k

word_plain : (w : List ℕ) (o : Option Keyword) → over_of (Some (name_unless w o)) ≡ false
word_plain w None = refl
word_plain w (Some k) = refl

string_plain : (n : ℕ) (r : Result (List ℕ × ℕ) LexFault) → over_of (string_of_length n r) ≡ false
string_plain n (Err f) = refl
string_plain n (Ok found) = if_plain (found.1 + 1 == n) (Some (Lexeme.string found.0)) None refl refl

mark_plain : (o : Option Mark) → over_of (option_map Lexeme.mark o) ≡ false
mark_plain None = refl
mark_plain (Some m) = refl

plain : (n : ℕ) (i : List ℕ) → over_of (lexeme_at n i) ≡ false
plain n [] = refl
plain n (c ∷ s) =
    if_plain (is_letter c) (word_lexeme (take n (c ∷ s))) _ (if_plain (is_word (take n (c ∷ s))) (Some (word (take n (c ∷ s)))) None (word_plain (take n (c ∷ s)) (keyword_of (take n (c ∷ s)))) refl)
    (if_plain (is_decimal c) (number_lexeme (take n (c ∷ s))) _ (if_plain (is_number (take n (c ∷ s))) (Some (Lexeme.number (number_value (take n (c ∷ s))))) None refl refl)
    (if_plain (is_quote c) (string_of_length n (string_from c s 0)) (mark_lexeme (take n (c ∷ s))) (string_plain n (string_from c s 0)) (mark_plain (mark_of (take n (c ∷ s))))))

pub never_over : {i : List ℕ} {x : Lexeme} {n : ℕ} → Begins i x n → is_over x ≡ false
never_over {i = i} {x = x} {n = n} b = ap over_of (sym b.fits) ∙ plain n i

if_none : (b : Bool) (x y : Option Lexeme) → x ≡ None → y ≡ None → (if b then x else y) ≡ None
if_none true x y h k = h
if_none false x y h k = k

no_size : (n : ℕ) → (n + 1 == 0) ≡ false
no_size n = grind (arith, nat_tests)

string_none : (r : Result (List ℕ × ℕ) LexFault) → string_of_length 0 r ≡ None
string_none (Err f) = refl
string_none (Ok found) = rw (no_size found.1) refl

mark_none : mark_of [] ≡ None
unfolding mark_of marks
mark_none = refl

none_of : (i : List ℕ) → lexeme_at 0 i ≡ None
none_of [] = refl
none_of (c ∷ s) =
    if_none (is_letter c) (word_lexeme []) _ refl (if_none (is_decimal c) (number_lexeme []) _ refl (if_none (is_quote c) (string_of_length 0 (string_from c s 0)) (mark_lexeme []) (string_none (string_from c s 0)) (ap (option_map Lexeme.mark) mark_none)))

pub some_size : {i : List ℕ} {x : Lexeme} (n : ℕ) → Begins i x n → 0 < n
some_size {i = i} zero b = absurd (none_some (sym (none_of i) ∙ b.fits))
some_size (suc n) b = omega arith

-- ---- the kind of a token

pub end_kind : (x : Lexeme) → is_end (kind_of x) ≡ is_over x
end_kind (Lexeme.name text) = refl
end_kind (Lexeme.reserved k) = refl
end_kind (Lexeme.number n) = refl
end_kind (Lexeme.string text) = refl
end_kind (Lexeme.mark m) = refl
end_kind Lexeme.over = refl

over_is : (x : Lexeme) → is_over x ≡ true → x ≡ Lexeme.over
over_is (Lexeme.name text) h = absurd (never (sym h))
over_is (Lexeme.reserved k) h = absurd (never (sym h))
over_is (Lexeme.number n) h = absurd (never (sym h))
over_is (Lexeme.string text) h = absurd (never (sym h))
over_is (Lexeme.mark m) h = absurd (never (sym h))
over_is Lexeme.over h = refl

at_end : (j : List ℕ) (x : Lexeme) (n : ℕ) → IsNext j x n → is_over x ≡ true → (j ≡ []) × (x ≡ Lexeme.over) × (n ≡ 0)
at_end [] x n h e = (refl, h.0, h.1)
at_end (c ∷ s) x n h e = absurd (never (sym e ∙ never_over h))

within_text : (j : List ℕ) (x : Lexeme) (n : ℕ) → IsNext j x n → is_over x ≡ false → Begins j x n
within_text [] x n h e = absurd (never (ap is_over (sym h.0) ∙ e))
within_text (c ∷ s) x n h e = h

-- ---- a text that was cut up to a place

pub record CutTo (text : List ℕ) (tokens : List Token) (place line : ℕ) : Type 0 where
  pub passed : ℕ
  pub place_is : place ≡ place_of text (drop passed text)
  pub line_is : line ≡ line_at text (drop passed text)
  pub onward : (ts : List Token) (f : Option LexFault) → TokensFrom text (drop passed text) ts f → TokensFrom text text (tokens ++ ts) f

nil_left : {A : Type 0} (xs : List A) → [] ++ xs ≡ xs
nil_left [] = refl
nil_left (x ∷ xs) = refl

pub nothing_cut : (text : List ℕ) → CutTo text [] 0 1
nothing_cut text = record {
  passed = 0;
  place_is = omega arith;
  line_is = omega arith;
  onward = λ ts f h. subst (λ z. TokensFrom text text z f) (sym (nil_left ts)) h;
}

pub cut_boundary : (text : List ℕ) (tokens : List Token) (place line : ℕ) → all_scalars text ≡ true → CutTo text tokens place line → IsCharBoundary (encode_utf8_all text) place
cut_boundary text tokens place line h s = subst (λ z. IsCharBoundary (encode_utf8_all text) z) (sym s.place_is) (boundary text s.passed h)

pub cut_line : (text : List ℕ) (tokens : List Token) (place line : ℕ) → CutTo text tokens place line → IsLine line text
cut_line text tokens place line s = subst (λ z. IsLine z text) (sym s.line_is) (is_line text s.passed)

-- what `next` answers at the place
record Met (text : List ℕ) (k : ℕ) (t : Token) : Type 0 where
  pub skipped : ℕ
  pub lexeme : Lexeme
  pub size : ℕ
  pub blanks : Blanks (drop k text) (drop skipped (drop k text))
  pub stands : IsNext (drop skipped (drop k text)) lexeme size
  pub token : t ≡ token_of text (drop k text) (drop skipped (drop k text)) (line_at text (drop skipped (drop k text))) lexeme size

met_at : (text i : List ℕ) (k line : ℕ) (t : Token) → length text ≤ 1048576 → i ≡ drop k text → line ≡ line_at text (drop k text) → NextFrom text i line (Ok t) → Met text k t
met_at text i k line t few e l h =
    let h1 : NextFrom text (drop k text) line (Ok t) = subst (λ z. NextFrom text z line (Ok t)) e h in
    let rest = blanks_rest h1.3 in
    let same : line_after line (line_ends (drop k text) - line_ends h1.0) ≡ line_at text (drop rest.0 (drop k text)) =
    ap (λ z. line_after z (line_ends (drop k text) - line_ends h1.0)) l ∙ ap (λ z. line_after (line_at text (drop k text)) (line_ends (drop k text) - line_ends z)) rest.1 ∙ passed_line text k rest.0 few in
    record {
      skipped = rest.0;
      lexeme = h1.1;
      size = h1.2;
      blanks = subst (λ z. Blanks (drop k text) z) rest.1 h1.3;
      stands = subst (λ z. IsNext z h1.1 h1.2) rest.1 h1.4;
      token = h1.5 ∙ ap (λ z. token_of text (drop k text) h1.0 z h1.1 h1.2) same ∙ ap (λ z. token_of text (drop k text) z (line_at text (drop rest.0 (drop k text))) h1.1 h1.2) rest.1;
    }

met : (text : List ℕ) (tokens : List Token) (place line : ℕ) (t : Token) → all_scalars text ≡ true → length text ≤ 1048576 → (s : CutTo text tokens place line) → NextFrom text (text_from text place) line (Ok t) → Met text s.passed t
met text tokens place line t scalars few s h =
    met_at text (text_from text place) s.passed line t few (ap (text_from text) s.place_is ∙ from_place text s.passed scalars) s.line_is h

joined : (tokens ts : List Token) (t : Token) → (tokens ++ t ∷ []) ++ ts ≡ tokens ++ t ∷ ts
joined tokens ts t = append_assoc tokens (t ∷ []) ts ∙ ap (λ z. tokens ++ z) (ap (λ z. t ∷ z) (nil_left ts))

met_over : {text : List ℕ} {k : ℕ} {t : Token} (m : Met text k t) → is_end t.kind ≡ true → is_over m.lexeme ≡ true
met_over m h = sym (end_kind m.lexeme) ∙ ap (λ z. is_end z.kind) (sym m.token) ∙ h

met_more : {text : List ℕ} {k : ℕ} {t : Token} (m : Met text k t) → is_end t.kind ≡ false → is_over m.lexeme ≡ false
met_more m h = sym (end_kind m.lexeme) ∙ ap (λ z. is_end z.kind) (sym m.token) ∙ h

last_at : (text i j : List ℕ) (x : Lexeme) (n : ℕ) (t : Token) → Blanks i j → t ≡ token_of text i j (line_at text j) x n → j ≡ [] → x ≡ Lexeme.over → n ≡ 0 → TokensFrom text i (t ∷ []) None
last_at text i j x n t b e j_is x_is n_is =
    let same : t ≡ token_of text i [] (line_at text []) Lexeme.over 0 =
    e ∙ ap (λ z. token_of text i j (line_at text j) x z) n_is ∙ ap (λ z. token_of text i j (line_at text j) z 0) x_is ∙ ap (λ z. token_of text i z (line_at text z) Lexeme.over 0) j_is in
    subst (λ z. TokensFrom text i (z ∷ []) None) (sym same) (TokensFrom.over i (subst (λ z. Blanks i z) j_is b))

-- at the end all tokens are there
pub cut_whole : (text : List ℕ) (tokens : List Token) (place line : ℕ) (t : Token) → all_scalars text ≡ true → length text ≤ 1048576 → CutTo text tokens place line → NextFrom text (text_from text place) line (Ok t)
    → is_end t.kind ≡ true → Tokens text (tokens ++ t ∷ [])
cut_whole text tokens place line t scalars few s h e =
    let m = met text tokens place line t scalars few s h in
    let over = at_end (drop m.skipped (drop s.passed text)) m.lexeme m.size m.stands (met_over m e) in
    s.onward (t ∷ []) None (last_at text (drop s.passed text) (drop m.skipped (drop s.passed text)) m.lexeme m.size t m.blanks m.token over.0 over.1 over.2)

-- at a fault, those before it
pub cut_faulty : (text : List ℕ) (tokens : List Token) (place line : ℕ) (f : LexFault) → all_scalars text ≡ true → CutTo text tokens place line → NextFrom text (text_from text place) line (Err f)
    → IsCut text tokens (Some line)
cut_faulty text tokens place line f scalars s h =
    let e = ap (text_from text) s.place_is ∙ from_place text s.passed scalars in
    let h1 : NextFrom text (drop s.passed text) line (Err f) = subst (λ z. NextFrom text z line (Err f)) e h in
    (f, subst (λ z. TokensFrom text text z (Some f)) (append-nil tokens) (s.onward [] (Some f) (TokensFrom.fault (drop s.passed text) h1.0 f h1.1 h1.2 h1.3)), cut_line text tokens place line s)

-- where the token stands
pub cut_stands : (text : List ℕ) (tokens : List Token) (place line : ℕ) (t : Token) → all_scalars text ≡ true → length text ≤ 1048576 → CutTo text tokens place line → NextFrom text (text_from text place) line (Ok t)
    → is_end t.kind ≡ false → StandsIn text t
cut_stands text tokens place line t scalars few s h e =
    let m = met text tokens place line t scalars few s h in
    let b = within_text (drop m.skipped (drop s.passed text)) m.lexeme m.size m.stands (met_more m e) in
    let d : drop m.skipped (drop s.passed text) ≡ drop (s.passed + m.skipped) text = drop-drop m.skipped s.passed text in
    record {
      before = s.passed + m.skipped;
      size = m.size;
      within = subst (λ z. m.size ≤ length z) d b.within;
      from_is = ap (λ z. z.from) m.token ∙ ap (place_of text) d;
      to_is = ap (λ z. z.to) m.token ∙ ap (λ z. place_of text (drop m.size z)) d;
      line_is = ap (λ z. z.line) m.token ∙ ap (line_at text) d;
    }

-- and the place after it is farther on
pub cut_further : (text : List ℕ) (tokens : List Token) (place line : ℕ) (t : Token) → all_scalars text ≡ true → length text ≤ 1048576 → CutTo text tokens place line → NextFrom text (text_from text place) line (Ok t)
    → is_end t.kind ≡ false → (place < t.to) × (t.to ≤ length (encode_utf8_all text))
cut_further text tokens place line t scalars few s h e =
    let m = met text tokens place line t scalars few s h in
    let j = drop m.skipped (drop s.passed text) in
    let b = within_text j m.lexeme m.size m.stands (met_more m e) in
    let a1 = fewer_bytes m.size j (some_size m.size b) b.within in
    let a2 = blanks_bytes m.blanks in
    let a3 = rest_bytes s.passed text in
    let to : t.to ≡ place_of text (drop m.size j) = ap (λ z. z.to) m.token in
    let from = s.place_is in
    (omega (arith, a1, a2, a3, to, from), omega (arith, to))

-- another token is cut off
pub cut_more : (text : List ℕ) (tokens : List Token) (place line : ℕ) (t : Token) (next_line : ℕ) → all_scalars text ≡ true → length text ≤ 1048576 → CutTo text tokens place line
    → NextFrom text (text_from text place) line (Ok t) → is_end t.kind ≡ false → next_line ≡ line_at text (text_from text t.to) → CutTo text (tokens ++ t ∷ []) t.to next_line
cut_more text tokens place line t next_line scalars few s h e l =
    let m = met text tokens place line t scalars few s h in
    let j = drop m.skipped (drop s.passed text) in
    let b = within_text j m.lexeme m.size m.stands (met_more m e) in
    let d : drop m.size j ≡ drop (s.passed + m.skipped + m.size) text = ap (drop m.size) (drop-drop m.skipped s.passed text) ∙ drop-drop m.size (s.passed + m.skipped) text in
    let to : t.to ≡ place_of text (drop (s.passed + m.skipped + m.size) text) = ap (λ z. z.to) m.token ∙ ap (place_of text) d in
    record {
      passed = s.passed + m.skipped + m.size;
      place_is = to;
      line_is = l ∙ ap (λ z. line_at text (text_from text z)) to ∙ ap (line_at text) (from_place text (s.passed + m.skipped + m.size) scalars);
      onward = λ ts f rest.
          let rest1 : TokensFrom text (drop m.size j) ts f = subst (λ z. TokensFrom text z ts f) (sym d) rest in
          let here : TokensFrom text (drop s.passed text) (t ∷ ts) f =
          subst (λ z. TokensFrom text (drop s.passed text) (z ∷ ts) f) (sym m.token) (TokensFrom.more (drop s.passed text) j m.lexeme m.size ts f m.blanks b rest1) in
          subst (λ z. TokensFrom text text z f) (sym (joined tokens ts t)) (s.onward (t ∷ ts) f here);
    }
