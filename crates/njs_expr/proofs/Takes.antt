-- Words, numbers, strings and keys that come next.
use Rattle.std.proofs.Common.{◌≡◌, ℕ, ◌<◌, ◌≤◌, ◌^◌, length, get_or, arith, Bool, true, false, List, [], ◌∷◌, Option, Some, None, Result, Ok, Err, refl, ap, sym, ◌∙◌, bytes_eq, cond}
use Rattle.std.specs.List.{find}
use Rattle.std.specs.Fmt.{decimal}
use Rattle.std.specs.Str.{chars}
use Rattle.std.proofs.lemmas.Str.{chars-encodes, encodes-IsAscii, encodes-chars, IsUtf8-from_ascii, encodes_same}
use Rattle.std.proofs.lemmas.Fmt.{IsAscii-decimal}
use Rattle.njs_text.specs.Text.{IsEncoded}
use lib.Pointwise.{bytes_decides}
use Rattle.njs_tree.specs.declared.token.Keyword.{Keyword}
use Rattle.njs_tree.specs.declared.token.Kind.{Kind}
use Rattle.njs_tree.specs.declared.token.Kind.TheVariants as kind
use Rattle.njs_tree.specs.declared.token.Token.{Token}
use Rattle.njs_tree.specs.TokenList.{symbols_of, lexeme_by, text_between}
use Rattle.std.specs.Result.{MatchResult}
use Rattle.njs_tree.specs.Lexemes.{Lexeme, word, word_text, key_text, name_unless, keyword_of, keyword_text, keywords}
use Rattle.njs_tree.specs.Symbols.{lexeme_of}
use Rattle.njs_expr.specs.declared.terminal.Terminal.TheVariants as terminal
use Rattle.njs_expr.specs.declared.stop.ParseStop.{ParseStop}
use Rattle.njs_expr.specs.declared.stop.ParseStop.TheVariants as stop
use Rattle.njs_expr.specs.Readers.{Symbols, terminal_of, next_of, tail, name_by, number_by, string_by, text_by, take_name, take_number, take_string, take_word, take_key}
use Rattle.njs_expr.specs.Reads.{Reads, Refuses}

-- ---- words

found_here : {A : Type 0} (p : A → Bool) (x a : A) (later : Option A) (b : Bool) → p x ≡ b → (later ≡ Some a → p a ≡ true) → cond b (Some x) later ≡ Some a → p a ≡ true
found_here p x a later true h l e = let same : x ≡ a = cc in ap p (sym same) ∙ h
found_here p x a later false h l e = l e

found : {A : Type 0} (p : A → Bool) (xs : List A) (a : A) → find p xs ≡ Some a → p a ≡ true
found p [] a e = absurd (cc)
found p (x ∷ xs) a e = found_here p x a (find p xs) (p x) refl (found p xs a) e

spelled : (w : List ℕ) (o : Option Keyword) → find (λ k. bytes_eq w (keyword_text k)) keywords ≡ o → word_text (name_unless w o) ≡ Some w
spelled w None e = refl
spelled w (Some k) e = ap Some (sym ((bytes_decides w (keyword_text k)).0 (found (λ j. bytes_eq w (keyword_text j)) keywords k e)))

-- a word has its characters
pub word_spelled : (w : List ℕ) → word_text (word w) ≡ Some w
unfolding keyword_of
word_spelled w = spelled w (keyword_of w) refl

-- ---- names

name_word : (x : Lexeme) (i : Symbols) → terminal_of x ≡ terminal.Name → name_by x i ≡ text_by (word_text x) i
name_word (Lexeme.name text) i h = refl
name_word (Lexeme.reserved k) i h = absurd (cc)
name_word (Lexeme.number n) i h = absurd (cc)
name_word (Lexeme.string text) i h = absurd (cc)
name_word (Lexeme.mark m) i h = absurd (cc)
name_word Lexeme.over i h = absurd (cc)

pub name_is_word : (i : Symbols) → next_of i ≡ terminal.Name → take_name i ≡ take_word i
unfolding take_name take_word
name_is_word i h = name_word (lexeme_of i) i h

name_other : (x : Lexeme) (i : Symbols) → (terminal_of x ≡ terminal.Name → ⊥) → name_by x i ≡ None
name_other (Lexeme.name text) i h = absurd (h refl)
name_other (Lexeme.reserved k) i h = refl
name_other (Lexeme.number n) i h = refl
name_other (Lexeme.string text) i h = refl
name_other (Lexeme.mark m) i h = refl
name_other Lexeme.over i h = refl

pub no_name : (i : Symbols) → (next_of i ≡ terminal.Name → ⊥) → take_name i ≡ None
unfolding take_name
no_name i h = name_other (lexeme_of i) i h

-- ---- keys

string_key_by : (x : Lexeme) (i : Symbols) → terminal_of x ≡ terminal.Str → text_by (key_text x) i ≡ string_by x i
string_key_by (Lexeme.name text) i h = absurd (cc)
string_key_by (Lexeme.reserved k) i h = absurd (cc)
string_key_by (Lexeme.number n) i h = absurd (cc)
string_key_by (Lexeme.string text) i h = refl
string_key_by (Lexeme.mark m) i h = absurd (cc)
string_key_by Lexeme.over i h = absurd (cc)

pub string_key : (i : Symbols) → next_of i ≡ terminal.Str → take_key i ≡ take_string i
unfolding take_key take_string
string_key i h = string_key_by (lexeme_of i) i h

word_key_by : (x : Lexeme) (i : Symbols) → (terminal_of x ≡ terminal.Str → ⊥) → (terminal_of x ≡ terminal.Number → ⊥) → text_by (key_text x) i ≡ text_by (word_text x) i
word_key_by (Lexeme.name text) i s n = refl
word_key_by (Lexeme.reserved k) i s n = refl
word_key_by (Lexeme.number m) i s n = absurd (n refl)
word_key_by (Lexeme.string text) i s n = absurd (s refl)
word_key_by (Lexeme.mark m) i s n = refl
word_key_by Lexeme.over i s n = refl

pub word_key : (i : Symbols) → (next_of i ≡ terminal.Str → ⊥) → (next_of i ≡ terminal.Number → ⊥) → take_key i ≡ take_word i
unfolding take_key take_word
word_key i s n = word_key_by (lexeme_of i) i s n

number_key_by : (x : Lexeme) (i : Symbols) (n : ℕ) (new : Symbols) → number_by x i ≡ Some (n, new) → text_by (key_text x) i ≡ Some (decimal n, new)
number_key_by (Lexeme.name text) i n new h = absurd (cc)
number_key_by (Lexeme.reserved k) i n new h = absurd (cc)
number_key_by (Lexeme.number m) i n new h =
    let p : ◌≡◌ {A = ℕ × Symbols} (m, tail i) (n, new) = cc in ap (λ (q : ℕ × Symbols). Some (decimal q.0, q.1)) p
number_key_by (Lexeme.string text) i n new h = absurd (cc)
number_key_by (Lexeme.mark m) i n new h = absurd (cc)
number_key_by Lexeme.over i n new h = absurd (cc)

pub number_key : (i : Symbols) (n : ℕ) (new : Symbols) → take_number i ≡ Some (n, new) → take_key i ≡ Some (decimal n, new)
unfolding take_key take_number
number_key i n new h = number_key_by (lexeme_of i) i n new h

number_there : (x : Lexeme) (i : Symbols) → terminal_of x ≡ terminal.Number → number_by x i ≡ None → ⊥
number_there (Lexeme.name text) i t h = absurd (cc)
number_there (Lexeme.reserved k) i t h = absurd (cc)
number_there (Lexeme.number m) i t h = absurd (cc)
number_there (Lexeme.string text) i t h = absurd (cc)
number_there (Lexeme.mark m) i t h = absurd (cc)
number_there Lexeme.over i t h = absurd (cc)

-- a number that comes next is refused by no cause but memory
pub key_stop : (i : Symbols) (e : ParseStop) → next_of i ≡ terminal.Number → Refuses (take_number i) e → Refuses (take_key i) e
unfolding take_number
key_stop i (stop.Refused line) t h = absurd (number_there (lexeme_of i) i t h)
key_stop i stop.NoMemory t h = tt

-- ---- texts

pub encoded : (text bytes : List ℕ) → IsEncoded text bytes → text ≡ chars bytes
encoded text bytes h = sym (chars-encodes text h.scalars) ∙ ap chars h.spelled

pub decimal_chars : (n : ℕ) → n < 2 ^ 64 → chars (decimal n) ≡ decimal n
decimal_chars n small =
    let ascii = IsAscii-decimal n small in
    encodes_same (chars (decimal n)) (decimal n) (encodes-chars (decimal n) (IsUtf8-from_ascii (decimal n) ascii) ∙ sym (encodes-IsAscii (decimal n) ascii))

-- a key that is a number, by its digits
pub key_read : (i new : Symbols) (n : ℕ) (r : Result (List ℕ) ParseStop) → take_number i ≡ Some (n, new) → MatchResult r (λ t. t ≡ decimal n) (λ e. e ≡ stop.NoMemory) → Reads (take_key i) r new
key_read i new n (Ok t) h m = number_key i n new h ∙ ap (λ z. Some (z, new)) (sym m)
key_read i new n (Err e) h m = rw m tt

pub decimal_read : (n : ℕ) (bytes : List ℕ) (r : Result (List ℕ) ParseStop) → n < 2 ^ 64 → bytes ≡ decimal n → MatchResult r (λ t. t ≡ chars bytes) (λ e. e ≡ stop.NoMemory)
    → MatchResult r (λ t. t ≡ decimal n) (λ e. e ≡ stop.NoMemory)
decimal_read n bytes (Ok t) small e m = m ∙ ap chars e ∙ decimal_chars n small
decimal_read n bytes (Err s) small e m = m

-- ---- the first of some tokens

pub word_first : (text : List ℕ) (ts : List Token) (d : Token) (w : List ℕ) → 1 ≤ length ts → (get_or ts 0 d).kind ≡ kind.Word → w ≡ text_between text (get_or ts 0 d).from (get_or ts 0 d).to
    → word_text (lexeme_of (symbols_of text ts)) ≡ Some w
word_first text [] d w some k e = absurd (omega arith)
word_first text (t ∷ ts) d w some k e = ap (λ z. word_text (lexeme_by z text t)) k ∙ word_spelled (text_between text t.from t.to) ∙ ap Some (sym e)

word_number : (w : List ℕ) (o : Option Keyword) (i : Symbols) → number_by (name_unless w o) i ≡ None
word_number w None i = refl
word_number w (Some k) i = refl

other_number : (k : Kind) (text : List ℕ) (t : Token) (i : Symbols) → (k ≡ kind.Number → ⊥) → number_by (lexeme_by k text t) i ≡ None
other_number kind.Word text t i h = word_number (text_between text t.from t.to) (keyword_of (text_between text t.from t.to)) i
other_number kind.Number text t i h = absurd (h refl)
other_number kind.Str text t i h = refl
other_number (kind.Mark m) text t i h = refl
other_number kind.End text t i h = refl

pub no_number_first : (text : List ℕ) (ts : List Token) (d : Token) → 1 ≤ length ts → ((get_or ts 0 d).kind ≡ kind.Number → ⊥) → take_number (symbols_of text ts) ≡ None
unfolding take_number
no_number_first text [] d some h = absurd (omega arith)
no_number_first text (t ∷ ts) d some h = other_number t.kind text t (symbols_of text (t ∷ ts)) h

word_string : (w : List ℕ) (o : Option Keyword) (i : Symbols) → string_by (name_unless w o) i ≡ None
word_string w None i = refl
word_string w (Some k) i = refl

other_string : (k : Kind) (text : List ℕ) (t : Token) (i : Symbols) → (k ≡ kind.Str → ⊥) → string_by (lexeme_by k text t) i ≡ None
other_string kind.Word text t i h = word_string (text_between text t.from t.to) (keyword_of (text_between text t.from t.to)) i
other_string kind.Number text t i h = refl
other_string kind.Str text t i h = absurd (h refl)
other_string (kind.Mark m) text t i h = refl
other_string kind.End text t i h = refl

pub no_string_first : (text : List ℕ) (ts : List Token) (d : Token) → 1 ≤ length ts → ((get_or ts 0 d).kind ≡ kind.Str → ⊥) → take_string (symbols_of text ts) ≡ None
unfolding take_string
no_string_first text [] d some h = absurd (omega arith)
no_string_first text (t ∷ ts) d some h = other_string t.kind text t (symbols_of text (t ∷ ts)) h
