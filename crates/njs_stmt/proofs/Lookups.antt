-- Tokens and words that are looked up.
use Rattle.std.proofs.Common.{◌≡◌, ℕ, ◌<◌, ◌≤◌, Bool, true, false, nat_lt, List, length, slice_get, slice_range, slice_index_or, bytes_eq, codes, Some, None, Result, Ok, Err, OnOk, refl, ap, sym, ◌∙◌, arith}
use Rattle.std.proofs.lemmas.Bool.Decides.{nat_tests}
use Rattle.std.proofs.lemmas.Option.{slice_get_read, slice_get_past}
use Rattle.std.proofs.lemmas.Str.{chars-IsAscii, encodes-IsAscii, encodes-chars}
use Rattle.std.specs.Result.{is_err}
use Rattle.std.specs.Str.{chars, encode_utf8_all, IsAscii, IsUtf8}
use lib.Pointwise.{bytes_decides}
use Rattle.njs_tree.specs.declared.token.Token.{Token}
use Rattle.njs_tree.specs.declared.token.Kind.{Kind}
use Rattle.njs_tree.specs.declared.token.Kind.TheVariants as kind
use Rattle.njs_tree.specs.declared.token.Keyword.TheVariants as keyword
use Rattle.njs_tree.specs.TokenList.{text_between, lexeme_by}
use Rattle.njs_lexer.proofs.Runs.{never}
use Rattle.njs_expr.specs.Readers.{terminal_of, sees_word}
use Rattle.njs_stmt.proofs.Symbols.{same_bool, is_word_kind, is_export_seen, is_default_seen}

pub token_read : (tokens : List Token) (at : ℕ) (t : Token) → true ≡ nat_lt at (length tokens) → t ≡ slice_index_or tokens at t → slice_get tokens at ≡ Some t
token_read tokens at t inside is = let h : at < length tokens = grind (arith, nat_tests) in slice_get_read tokens (length tokens) at t refl h is

pub none_read : (tokens : List Token) (at : ℕ) → false ≡ nat_lt at (length tokens) → slice_get tokens at ≡ None
none_read tokens at outside = let h : length tokens ≤ at = grind (arith, nat_tests) in slice_get_past tokens at h

pub pushed : {E : Type 0} (P : Type 0) (r : Result (Unit {0}) E) → false ≡ is_err r → OnOk r P → P
pushed P (Ok u) e h = h
pushed P (Err x) e h = absurd (never (sym e))

-- ---- words

-- ASCII is the same as bytes and as characters
spelled_same : (bytes spelling : List ℕ) → IsUtf8 bytes → IsAscii spelling → bytes_eq bytes spelling ≡ bytes_eq (chars bytes) spelling
spelled_same bytes spelling u a = same_bool (bytes_eq bytes spelling) (bytes_eq (chars bytes) spelling)
    (λ same. (bytes_decides (chars bytes) spelling).1 (ap chars ((bytes_decides bytes spelling).0 same) ∙ chars-IsAscii spelling a))
    (λ same. (bytes_decides bytes spelling).1 (sym (encodes-chars bytes u) ∙ ap encode_utf8_all ((bytes_decides (chars bytes) spelling).0 same) ∙ encodes-IsAscii spelling a))

pub spelled_between : (text whole bytes spelling : List ℕ) (from to : ℕ) → IsUtf8 bytes → IsAscii spelling → whole ≡ encode_utf8_all text → bytes ≡ slice_range whole from to
    → bytes_eq bytes spelling ≡ bytes_eq (text_between text from to) spelling
spelled_between text whole bytes spelling from to u a w b =
    spelled_same bytes spelling u a ∙ ap (λ z. bytes_eq (chars z) spelling) (b ∙ ap (λ z. slice_range z from to) w)

pub export_spelled : (k : Kind) (text : List ℕ) (t : Token) (r : Bool) → k ≡ kind.Word → r ≡ bytes_eq (text_between text t.from t.to) (codes "export") → r ≡ sees_word keyword.Export (terminal_of (lexeme_by k text t))
export_spelled k text t r is e = e ∙ is_export_seen (text_between text t.from t.to) ∙ ap (λ z. sees_word keyword.Export (terminal_of (lexeme_by z text t))) (sym is)

pub default_spelled : (k : Kind) (text : List ℕ) (t : Token) (r : Bool) → k ≡ kind.Word → r ≡ bytes_eq (text_between text t.from t.to) (codes "default") → r ≡ sees_word keyword.Default (terminal_of (lexeme_by k text t))
default_spelled k text t r is e = e ∙ is_default_seen (text_between text t.from t.to) ∙ ap (λ z. sees_word keyword.Default (terminal_of (lexeme_by z text t))) (sym is)

pub other_kind : (k : Kind) → (k ≡ kind.Word → ⊥) → is_word_kind k ≡ false
other_kind kind.Word h = absurd (h refl)
other_kind kind.Number h = refl
other_kind kind.Str h = refl
other_kind (kind.Mark m) h = refl
other_kind kind.End h = refl
