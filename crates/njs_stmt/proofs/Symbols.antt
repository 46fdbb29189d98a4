-- The tokens of a text and what stands at their places.
use Rattle.std.proofs.Common.{◌≡◌, ℕ, zero, suc, ◌+◌, ◌<◌, ◌≤◌, Bool, true, false, if◌then◌else◌, List, [], ◌∷◌, length, drop, slice_get, map, bytes_eq, codes, Option, Some, None, refl, ap, subst, sym, ◌∙◌, arith, ◌⊎◌, inl, inr}
use Rattle.std.proofs.lemmas.List.{drop-drop}
use Rattle.std.specs.List.{find}
use lib.Pointwise.{bytes_decides}
use Rattle.std.specs.Str.{encode_utf8_all, all_scalars, IsCharBoundary}
use Rattle.njs_tree.specs.declared.token.Token.{Token}
use Rattle.njs_tree.specs.declared.token.Kind.{Kind}
use Rattle.njs_tree.specs.declared.token.Kind.TheVariants as kind
use Rattle.njs_tree.specs.declared.token.Mark.TheVariants as mark
use Rattle.njs_tree.specs.declared.token.Keyword.{Keyword}
use Rattle.njs_tree.specs.declared.token.Keyword.TheVariants as keyword
use Rattle.njs_tree.specs.declared.token.LexFault.{LexFault}
use Rattle.njs_tree.specs.declared.tree.Item.{Item}
use Rattle.njs_tree.specs.declared.tree.Script.{Script}
use Rattle.njs_tree.specs.Characters.{IsLine, line_at}
use Rattle.njs_tree.specs.Lexemes.{Lexeme, word, name_unless, keyword_of, keyword_text, keywords}
use Rattle.njs_tree.specs.TokenList.{Tokens, TokensFrom, token_of, place_of, symbol_of, symbols_of, lexeme_by}
use Rattle.njs_tree.specs.Brackets.{too_deep}
use Rattle.njs_tree.specs.Grammar.{Items, IsParsed}
use Rattle.njs_lexer.proofs.Runs.{never, none_some, some_one}
use Rattle.njs_lexer.proofs.Once.{one_from}
use Rattle.njs_lexer.proofs.Cutting.{rest_bytes}
use Rattle.njs_expr.specs.Readers.{Symbols, next_of, terminal_of, sees, sees_word, semicolon}
use Rattle.njs_expr.proofs.Terminals.{word_seen_is, is_word_seen}
use Rattle.njs_stmt.specs.Cut.{Placed, is_end}
use Rattle.njs_stmt.specs.Script.{is_over, ends_here, is_comma, semicolon_size, EndsAt, Finishes, IsShallow}
use Rattle.njs_stmt.proofs.Places.{boundary, is_line, blanks_rest}

-- ---- places

pub at_some : {A B : Type 0} (f : A → B) (xs : List A) (n : ℕ) (t : A) → slice_get xs n ≡ Some t → drop n (map f xs) ≡ f t ∷ drop (suc n) (map f xs)
at_some f [] n t e = absurd (none_some e)
at_some f (x ∷ xs) zero t e = ap (λ z. f z ∷ map f xs) (some_one e)
at_some f (x ∷ xs) (suc n) t e = at_some f xs n t e

pub at_none : {A B : Type 0} (f : A → B) (xs : List A) (n : ℕ) → slice_get xs n ≡ None → drop n (map f xs) ≡ []
at_none f [] zero e = refl
at_none f [] (suc n) e = refl
at_none f (x ∷ xs) zero e = absurd (none_some (sym e))
at_none f (x ∷ xs) (suc n) e = at_none f xs n e

pub at_within : {A : Type 0} (xs : List A) (n : ℕ) (t : A) → slice_get xs n ≡ Some t → n < length xs
at_within [] n t e = absurd (none_some e)
at_within (x ∷ xs) zero t e = omega arith
at_within (x ∷ xs) (suc n) t e = let h = at_within xs n t e in omega (arith, h)

pub length_map : {A B : Type 0} (f : A → B) (xs : List A) → length (map f xs) ≡ length xs
length_map f [] = refl
length_map f (x ∷ xs) = ap suc (length_map f xs)

-- ---- tokens stand in their text

gone : {A : Type 0} (xs : List A) → drop (length xs) xs ≡ []
gone [] = refl
gone (x ∷ xs) = gone xs

stood : (text i : List ℕ) (k n : ℕ) (x : Lexeme) → all_scalars text ≡ true → Placed text (token_of text i (drop k text) (line_at text (drop k text)) x n)
stood text i k n x h =
    let less = rest_bytes n (drop k text) in
    let d : drop n (drop k text) ≡ drop (k + n) text = drop-drop n k text in
    (omega (arith, less), boundary text k h, subst (λ z. IsCharBoundary (encode_utf8_all text) (place_of text z)) (sym d) (boundary text (k + n) h), is_line text k)

stood_at : (text i j : List ℕ) (k n : ℕ) (x : Lexeme) → all_scalars text ≡ true → j ≡ drop k text → Placed text (token_of text i j (line_at text j) x n)
stood_at text i j k n x h e = subst (λ z. Placed text (token_of text i z (line_at text z) x n)) (sym e) (stood text i k n x h)

placed_from : {text i : List ℕ} {ts : List Token} {f : Option LexFault} → TokensFrom text i ts f → (k : ℕ) → i ≡ drop k text → all_scalars text ≡ true → (n : ℕ) (t : Token) → slice_get ts n ≡ Some t → Placed text t
placed_from {text = text} (TokensFrom.over i b) k e h zero t g = subst (λ z. Placed text z) (some_one g) (stood_at text i [] (length text) 0 Lexeme.over h (sym (gone text)))
placed_from (TokensFrom.over i b) k e h (suc n) t g = absurd (none_some g)
placed_from (TokensFrom.fault i j f b stop at) k e h n t g = absurd (none_some g)
placed_from {text = text} (TokensFrom.more i j x m ts f b c rest) k e h zero t g =
    let r = blanks_rest b in
    subst (λ z. Placed text z) (some_one g) (stood_at text i j (k + r.0) m x h (r.1 ∙ ap (drop r.0) e ∙ drop-drop r.0 k text))
placed_from {text = text} (TokensFrom.more i j x m ts f b c rest) k e h (suc n) t g =
    let r = blanks_rest b in
    placed_from rest (k + r.0 + m) (ap (drop m) (r.1 ∙ ap (drop r.0) e ∙ drop-drop r.0 k text) ∙ drop-drop m (k + r.0) text) h n t g

pub placed_at : (text : List ℕ) (tokens : List Token) (n : ℕ) (t : Token) → Tokens text tokens → all_scalars text ≡ true → slice_get tokens n ≡ Some t → Placed text t
placed_at text tokens n t h s g = placed_from h 0 refl s n t g

lined_from : {text i : List ℕ} {ts : List Token} {f : Option LexFault} → TokensFrom text i ts f → (k : ℕ) → i ≡ drop k text → (n : ℕ) (t : Token) → slice_get ts n ≡ Some t → IsLine t.line text
lined_from {text = text} (TokensFrom.over i b) k e zero t g = subst (λ z. IsLine z.line text) (some_one g) (subst (λ z. IsLine (line_at text z) text) (gone text) (is_line text (length text)))
lined_from (TokensFrom.over i b) k e (suc n) t g = absurd (none_some g)
lined_from (TokensFrom.fault i j f b stop at) k e n t g = absurd (none_some g)
lined_from {text = text} (TokensFrom.more i j x m ts f b c rest) k e zero t g =
    let r = blanks_rest b in
    subst (λ z. IsLine z.line text) (some_one g) (subst (λ z. IsLine (line_at text z) text) (sym (r.1 ∙ ap (drop r.0) e ∙ drop-drop r.0 k text)) (is_line text (k + r.0)))
lined_from {text = text} (TokensFrom.more i j x m ts f b c rest) k e (suc n) t g =
    let r = blanks_rest b in
    lined_from rest (k + r.0 + m) (ap (drop m) (r.1 ∙ ap (drop r.0) e ∙ drop-drop r.0 k text) ∙ drop-drop m (k + r.0) text) n t g

pub lined_at : (text : List ℕ) (tokens : List Token) (n : ℕ) (t : Token) → Tokens text tokens → slice_get tokens n ≡ Some t → IsLine t.line text
lined_at text tokens n t h g = lined_from h 0 refl n t g

pub first_line : (text : List ℕ) → IsLine 1 text
first_line text = (omega arith, omega arith)

pub between_lines : (text : List ℕ) (a b line : ℕ) → IsLine a text → IsLine b text → a ≤ line → line ≤ b → IsLine line text
between_lines text a b line ha hb low high = let x = ha.0 in let y = hb.1 in (omega (arith, x, low), omega (arith, y, high))

-- ---- what a token is to the grammar

over_name : (w : List ℕ) (o : Option Keyword) → is_over (name_unless w o) ≡ false
over_name w None = refl
over_name w (Some k) = refl

pub over_kind : (k : Kind) (text : List ℕ) (t : Token) → is_over (lexeme_by k text t) ≡ is_end k
over_kind kind.Word text t = over_name _ _
over_kind kind.Number text t = refl
over_kind kind.Str text t = refl
over_kind (kind.Mark m) text t = refl
over_kind kind.End text t = refl

comma_name : (w : List ℕ) (o : Option Keyword) → sees mark.Comma (terminal_of (name_unless w o)) ≡ false
unfolding sees
comma_name w None = refl
comma_name w (Some k) = refl

comma_kind : (k : Kind) (text : List ℕ) (t : Token) → sees mark.Comma (terminal_of (lexeme_by k text t)) ≡ is_comma k
unfolding sees
comma_kind kind.Word text t = comma_name _ _
comma_kind kind.Number text t = refl
comma_kind kind.Str text t = refl
comma_kind (kind.Mark mark.Comma) text t = refl
comma_kind (kind.Mark _) text t = refl
comma_kind kind.End text t = refl

pub comma_some : (text : List ℕ) (tokens : List Token) (n : ℕ) (t : Token) → slice_get tokens n ≡ Some t → is_comma t.kind ≡ sees mark.Comma (next_of (drop n (symbols_of text tokens)))
comma_some text tokens n t g = sym (ap (λ z. sees mark.Comma (next_of z)) (at_some (symbol_of text) tokens n t g) ∙ comma_kind t.kind text t)

pub comma_none : (text : List ℕ) (tokens : List Token) (n : ℕ) → slice_get tokens n ≡ None → false ≡ sees mark.Comma (next_of (drop n (symbols_of text tokens)))
unfolding sees
comma_none text tokens n g = sym (ap (λ z. sees mark.Comma (next_of z)) (at_none (symbol_of text) tokens n g))

pub over_some : (text : List ℕ) (tokens : List Token) (n : ℕ) (t : Token) → slice_get tokens n ≡ Some t → is_end t.kind ≡ ends_here (drop n (symbols_of text tokens))
over_some text tokens n t g = sym (ap ends_here (at_some (symbol_of text) tokens n t g) ∙ over_kind t.kind text t)

pub over_none : (text : List ℕ) (tokens : List Token) (n : ℕ) → slice_get tokens n ≡ None → false ≡ ends_here (drop n (symbols_of text tokens))
over_none text tokens n g = sym (ap ends_here (at_none (symbol_of text) tokens n g))

-- ---- reserved words

held : {A : Type 0} (b : Bool) (p : A → Bool) (x k : A) (rest : Option A) → p x ≡ b → (if b then Some x else rest) ≡ Some k → (rest ≡ Some k → p k ≡ true) → p k ≡ true
held true p x k rest is e further = subst (λ z. p z ≡ true) (some_one e) is
held false p x k rest is e further = further e

find_holds : {A : Type 0} (p : A → Bool) (xs : List A) (k : A) → find p xs ≡ Some k → p k ≡ true
find_holds p [] k e = absurd (none_some e)
find_holds p (x ∷ xs) k e = held (p x) p x k (find p xs) refl e (find_holds p xs k)

export_word : (word (codes "export") ≡ Lexeme.reserved keyword.Export)
unfolding keyword_of keywords
export_word = refl

default_word : (word (codes "default") ≡ Lexeme.reserved keyword.Default)
unfolding keyword_of keywords
default_word = refl

name_word : (w : List ℕ) (o : Option Keyword) (k : Keyword) → name_unless w o ≡ Lexeme.reserved k → o ≡ Some k
name_word w None k e = absurd (cc)
name_word w (Some l) k e = cc

reserved_holds : (w : List ℕ) (k : Keyword) → word w ≡ Lexeme.reserved k → bytes_eq w (keyword_text k) ≡ true
unfolding keyword_of
reserved_holds w k e = find_holds (λ q. bytes_eq w (keyword_text q)) keywords k (name_word w (keyword_of w) k e)

pub same_bool : (a b : Bool) → (a ≡ true → b ≡ true) → (b ≡ true → a ≡ true) → a ≡ b
same_bool true b f g = sym (f refl)
same_bool false true f g = g refl
same_bool false false f g = refl

pub word_is : (w spelling : List ℕ) (k : Keyword) → spelling ≡ keyword_text k → word spelling ≡ Lexeme.reserved k → bytes_eq w spelling ≡ sees_word k (terminal_of (word w))
word_is w spelling k s e = same_bool (bytes_eq w spelling) (sees_word k (terminal_of (word w)))
    (λ same. is_word_seen k (word w) (ap word ((bytes_decides w spelling).0 same) ∙ e))
    (λ seen. ap (bytes_eq w) s ∙ reserved_holds w k (word_seen_is k (word w) seen))

pub is_export_seen : (w : List ℕ) → bytes_eq w (codes "export") ≡ sees_word keyword.Export (terminal_of (word w))
is_export_seen w = word_is w (codes "export") keyword.Export refl export_word

pub is_default_seen : (w : List ℕ) → bytes_eq w (codes "default") ≡ sees_word keyword.Default (terminal_of (word w))
is_default_seen w = word_is w (codes "default") keyword.Default refl default_word

abbrev pub is_word_kind : Kind → Bool
is_word_kind kind.Word = true
is_word_kind _ = false

-- a token of another kind is no reserved word
pub no_word : (k : Keyword) (kind_is : Kind) (text : List ℕ) (t : Token) → is_word_kind kind_is ≡ false → false ≡ sees_word k (terminal_of (lexeme_by kind_is text t))
unfolding sees_word
no_word k kind.Word text t h = absurd (never h)
no_word k kind.Number text t h = refl
no_word k kind.Str text t h = refl
no_word k (kind.Mark m) text t h = refl
no_word k kind.End text t h = refl

pub word_some : (k : Keyword) (text : List ℕ) (tokens : List Token) (n : ℕ) (t : Token) → slice_get tokens n ≡ Some t
    → sees_word k (terminal_of (lexeme_by t.kind text t)) ≡ sees_word k (next_of (drop n (symbols_of text tokens)))
word_some k text tokens n t g = sym (ap (λ z. sees_word k (next_of z)) (at_some (symbol_of text) tokens n t g))

pub word_none : (k : Keyword) (text : List ℕ) (tokens : List Token) (n : ℕ) → slice_get tokens n ≡ None → false ≡ sees_word k (next_of (drop n (symbols_of text tokens)))
unfolding sees_word
word_none k text tokens n g = sym (ap (λ z. sees_word k (next_of z)) (at_none (symbol_of text) tokens n g))

-- ---- semicolons

end_by : Option ℕ → Symbols → Symbols → Option (Unit {0} × Symbols)
end_by None i r = None
end_by (Some zero) i r = Some (tt, i)
end_by (Some (suc n)) i r = Some (tt, r)

semicolon_name : (w : List ℕ) (o : Option Keyword) (line : ℕ) (broken : Bool) (r : Symbols)
    → semicolon (record { lexeme = name_unless w o; line = line; after_break = broken } ∷ r) ≡ end_by (if broken then Some 0 else None) (record { lexeme = name_unless w o; line = line; after_break = broken } ∷ r) r
unfolding semicolon sees end_by
semicolon_name w None line true r = refl
semicolon_name w None line false r = refl
semicolon_name w (Some k) line true r = refl
semicolon_name w (Some k) line false r = refl

semicolon_kind : (k : Kind) (text : List ℕ) (t : Token) (line : ℕ) (broken : Bool) (r : Symbols)
    → semicolon (record { lexeme = lexeme_by k text t; line = line; after_break = broken } ∷ r) ≡ end_by (semicolon_size k broken) (record { lexeme = lexeme_by k text t; line = line; after_break = broken } ∷ r) r
unfolding semicolon sees end_by
semicolon_kind kind.Word text t line broken r = semicolon_name _ _ line broken r
semicolon_kind kind.Number text t line true r = refl
semicolon_kind kind.Number text t line false r = refl
semicolon_kind kind.Str text t line true r = refl
semicolon_kind kind.Str text t line false r = refl
semicolon_kind (kind.Mark mark.Semicolon) text t line broken r = refl
semicolon_kind (kind.Mark mark.RightBrace) text t line broken r = refl
semicolon_kind (kind.Mark _) text t line true r = refl
semicolon_kind (kind.Mark _) text t line false r = refl
semicolon_kind kind.End text t line broken r = refl

semicolon_some : (text : List ℕ) (tokens : List Token) (n : ℕ) (t : Token) → slice_get tokens n ≡ Some t
    → semicolon (drop n (symbols_of text tokens)) ≡ end_by (semicolon_size t.kind t.after_break) (drop n (symbols_of text tokens)) (drop (suc n) (symbols_of text tokens))
semicolon_some text tokens n t g =
    let here = at_some (symbol_of text) tokens n t g in
    ap semicolon here ∙ semicolon_kind t.kind text t t.line t.after_break (drop (suc n) (symbols_of text tokens))
    ∙ ap (λ z. end_by (semicolon_size t.kind t.after_break) z (drop (suc n) (symbols_of text tokens))) (sym here)

small_size : (k : Kind) (broken : Bool) (size : ℕ) → semicolon_size k broken ≡ Some size → (size ≡ 0) ⊎ (size ≡ 1)
small_size (kind.Mark mark.Semicolon) broken size e = inr (sym (some_one e))
small_size (kind.Mark mark.RightBrace) broken size e = inl (sym (some_one e))
small_size (kind.Mark _) true size e = inl (sym (some_one e))
small_size (kind.Mark _) false size e = absurd (none_some e)
small_size kind.End broken size e = inl (sym (some_one e))
small_size kind.Word true size e = inl (sym (some_one e))
small_size kind.Word false size e = absurd (none_some e)
small_size kind.Number true size e = inl (sym (some_one e))
small_size kind.Number false size e = absurd (none_some e)
small_size kind.Str true size e = inl (sym (some_one e))
small_size kind.Str false size e = absurd (none_some e)

pub semicolon_ok : (text : List ℕ) (tokens : List Token) (n size : ℕ) (t : Token) → slice_get tokens n ≡ Some t → Some size ≡ semicolon_size t.kind t.after_break → EndsAt (symbols_of text tokens) n (Some (n + size))
unfolding end_by
semicolon_ok text tokens n size t g e =
    let all = symbols_of text tokens in
    let found : semicolon (drop n all) ≡ end_by (Some size) (drop n all) (drop (suc n) all) = semicolon_some text tokens n t g ∙ ap (λ z. end_by z (drop n all) (drop (suc n) all)) (sym e) in
    let inside : n < length tokens = at_within tokens n t g in
    let l : length all ≡ length tokens = length_map (symbol_of text) tokens in
    elim (small_size t.kind t.after_break size (sym e)) [
      | inl z ↦
          let k : n + size ≡ n = omega (arith, z) in
          (found ∙ ap (λ s. end_by (Some s) (drop n all) (drop (suc n) all)) z ∙ ap (λ s. Some (tt, drop s all)) (sym k), omega (arith, z), omega (arith, z, inside, l))
      | inr z ↦
          let k : n + size ≡ suc n = omega (arith, z) in
          (found ∙ ap (λ s. end_by (Some s) (drop n all) (drop (suc n) all)) z ∙ ap (λ s. Some (tt, drop s all)) (sym k), omega (arith, z), omega (arith, z, inside, l))
    ]

pub semicolon_missing : (text : List ℕ) (tokens : List Token) (n : ℕ) (t : Token) → slice_get tokens n ≡ Some t → None ≡ semicolon_size t.kind t.after_break → EndsAt (symbols_of text tokens) n None
unfolding end_by
semicolon_missing text tokens n t g e =
    semicolon_some text tokens n t g ∙ ap (λ z. end_by z (drop n (symbols_of text tokens)) (drop (suc n) (symbols_of text tokens))) (sym e)

pub semicolon_over : (text : List ℕ) (tokens : List Token) (n : ℕ) → n ≤ length tokens → slice_get tokens n ≡ None → EndsAt (symbols_of text tokens) n (Some n)
unfolding semicolon sees
semicolon_over text tokens n h g =
    let here = at_none (symbol_of text) tokens n g in
    let l : length (symbols_of text tokens) ≡ length tokens = length_map (symbol_of text) tokens in
    let none : semicolon [] ≡ Some (tt, []) = refl in
    (ap semicolon here ∙ none ∙ ap (λ s. Some (tt, s)) (sym here), omega arith, omega (arith, h, l))

-- ---- brackets

pub shallow : (text : List ℕ) (tokens : List Token) (f : Option LexFault) → TokensFrom text text tokens f → too_deep 0 tokens ≡ None → IsShallow text
shallow text tokens f h none line (other, g, k, deep) = none_some (sym none ∙ ap (too_deep 0) (one_from text h k).0 ∙ deep)

-- ---- scripts

pub finished : (text : List ℕ) (tokens : List Token) (xs : List Item) → Tokens text tokens → Finishes false xs (symbols_of text tokens) → IsParsed (record { items = xs }) text
finished text tokens xs h f = (f.depth, (tokens, f.exports, h, f.spelled), f.fits)

pub none_finished : (text : List ℕ) (tokens : List Token) → Tokens text tokens → ((xs : List Item) → Finishes false xs (symbols_of text tokens) → ⊥) → (s : Script) → IsParsed s text → ⊥
none_finished text tokens h none s p =
    let same : p.1.0 ≡ tokens = (one_from text p.1.2 h).0 in
    none s.items (record {
      depth = p.0;
      exports = p.1.1;
      spelled = subst (λ z. Items s.items p.0 p.1.1 (symbols_of text z)) same p.1.3;
      fits = p.2;
      once = λ e. absurd (never (sym e));
    })

-- a text with a fault is no script
pub none_faulty : (text : List ℕ) (tokens : List Token) (f : LexFault) → TokensFrom text text tokens (Some f) → (s : Script) → IsParsed s text → ⊥
none_faulty text tokens f h s p = none_some (sym (one_from text h p.1.2).1)
