-- A token and where it stands.
use Rattle.std.proofs.Common.{◌≡◌, ℕ, zero, suc, ◌+◌, ◌-◌, ◌<◌, ◌≤◌, Bool, true, false, ◌&&◌, nat_lt, List, [], ◌∷◌, ◌++◌, length, take, drop, slice_get, Option, Some, None, Ok, Err, refl, ap, subst, sym, ◌∙◌, arith, ◌==◌, length-append}
use Rattle.std.proofs.lemmas.Bool.Decides.{nat_tests}
use Rattle.std.specs.Str.{chars, IsUtf8, encode_utf8_all}
use Rattle.std.proofs.lemmas.Str.{encodes-append, encodes-chars}
use Rattle.njs_tree.specs.declared.token.Token.{Token}
use Rattle.njs_tree.specs.declared.token.Kind.{Kind}
use Rattle.njs_tree.specs.declared.token.Kind.TheVariants as kind
use Rattle.njs_tree.specs.declared.token.Keyword.{Keyword}
use Rattle.njs_tree.specs.declared.token.LexFault.{LexFault}
use Rattle.njs_tree.specs.declared.token.LexFault.TheVariants as fault
use Rattle.njs_tree.specs.declared.token.Mark.{Mark}
use Rattle.njs_tree.specs.Characters.{is_letter, is_part, begins, line_ends}
use Rattle.njs_tree.specs.Lexemes.{Lexeme, word, name_unless, keyword_of, marks, mark_text}
use Rattle.njs_tree.specs.Lexical.{is_decimal, is_quote, front_length, blank_length, block_length, opens_comment, is_missing, closed_length, number_length, number_value, is_bad_number, string_from, fault_at}
use Rattle.njs_tree.specs.TokenList.{Blanks, Begins, IsNext, kind_of, NextFrom, line_after, text_from}
use Rattle.njs_lexer.specs.Steps.{Cuts, IsPastBlanks, EndsString, first_begun}
use Rattle.njs_lexer.proofs.Runs.{never, some_one, none_some, same_number}
use Rattle.njs_lexer.proofs.Words.{word_begins}
use Rattle.njs_lexer.proofs.LongestNumber.{number_begins, number_faults}
use Rattle.njs_lexer.proofs.StringEnds.{string_begins, string_faults}
use Rattle.njs_lexer.proofs.LongestMark.{IsOther, mark_begins, mark_faults, point_faults, slash_faults}

word_kind : (w : List ℕ) (o : Option Keyword) → kind_of (name_unless w o) ≡ kind.Word
word_kind w None = refl
word_kind w (Some k) = refl

next_is : (i : List ℕ) (x : Lexeme) (n : ℕ) → 0 < length i → Begins i x n → IsNext i x n
next_is [] x n some b = absurd (omega arith)
next_is (c ∷ s) x n some b = b

begins_length : (t : ℕ → Bool) (i : List ℕ) → begins t i ≡ true → 0 < length i
begins_length t [] h = absurd (never (sym h))
begins_length t (c ∷ s) h = omega arith

-- the first character of a text passes what it passes
pub first_begins : (t : ℕ → Bool) (i : List ℕ) (c : ℕ) → slice_get i 0 ≡ Some c → begins t i ≡ t c
first_begins t [] c e = absurd (none_some e)
first_begins t (d ∷ s) c e = ap t (some_one e)

pub cut_end : (i : List ℕ) → slice_get i 0 ≡ None → Cuts i kind.End i
cut_end [] e = (Lexeme.over, 0, (refl, refl), refl, refl)
cut_end (c ∷ s) e = absurd (none_some (sym e))

pub cut_word : (i r : List ℕ) (c : ℕ) → blank_length i ≡ 0 → slice_get i 0 ≡ Some c → is_letter c ≡ true → r ≡ drop (front_length is_part i) i → Cuts i kind.Word r
cut_word i r c stop e h d =
    let b : begins is_letter i ≡ true = first_begins is_letter i c e ∙ h in (
      word (take (front_length is_part i) i),
      front_length is_part i,
      next_is i (word (take (front_length is_part i) i)) (front_length is_part i) (begins_length is_letter i b) (word_begins i b stop),
      sym (word_kind (take (front_length is_part i) i) (keyword_of (take (front_length is_part i) i))),
      d,
    )

pub cut_number : (i r : List ℕ) (c : ℕ) → blank_length i ≡ 0 → slice_get i 0 ≡ Some c → is_decimal c ≡ true → (r ≡ drop (number_length i) i) × (is_bad_number i (number_length i) ≡ false) → Cuts i kind.Number r
cut_number i r c stop e h d =
    let b : begins is_decimal i ≡ true = first_begins is_decimal i c e ∙ h in
    (Lexeme.number (number_value (take (number_length i) i)), number_length i, next_is i (Lexeme.number (number_value (take (number_length i) i))) (number_length i) (begins_length is_decimal i b) (number_begins i b stop d.1), refl, d.0)

pub bad_number : (i : List ℕ) (c : ℕ) (f : LexFault) → slice_get i 0 ≡ Some c → is_decimal c ≡ true → (f ≡ fault.BadNumber) × (is_bad_number i (number_length i) ≡ true) → fault_at i ≡ Some f
bad_number i c f e h d = number_faults i (first_begins is_decimal i c e ∙ h) d.1 ∙ ap Some (sym d.0)

pub cut_string : (i s r : List ℕ) (c : ℕ) → blank_length i ≡ 0 → slice_get i 0 ≡ Some c → is_quote c ≡ true → s ≡ drop 1 i → EndsString c s r → Cuts i kind.Str r
cut_string [] s r c stop e h t d = absurd (none_some e)
cut_string (b ∷ u) s r c stop e h t d =
    let same : b ≡ c = some_one e in
    let tail : s ≡ u = t in
    let from : string_from b u 0 ≡ Ok (d.0, d.1) = ap (λ z. string_from z u 0) same ∙ ap (λ z. string_from c z 0) (sym tail) ∙ d.2 in
    let l : length s ≡ length u = ap length tail in
    let k : d.1 + 1 ≡ suc d.1 = omega arith in
    (Lexeme.string d.0, d.1 + 1, string_begins b u d.0 d.1 (ap is_quote same ∙ h) stop from (omega (arith, l, d.4)), refl, d.3 ∙ ap (drop d.1) tail ∙ sym (ap (λ z. drop z (b ∷ u)) k))

pub bad_string : (i s : List ℕ) (c : ℕ) (f : LexFault) → slice_get i 0 ≡ Some c → is_quote c ≡ true → s ≡ drop 1 i → string_from c s 0 ≡ Err f → fault_at i ≡ Some f
bad_string [] s c f e h t d = absurd (none_some e)
bad_string (b ∷ u) s c f e h t d =
    let same : b ≡ c = some_one e in
    string_faults b u f (ap is_quote same ∙ h) (ap (λ z. string_from z u 0) same ∙ ap (λ z. string_from c z 0) (sym t) ∙ d)

missing : (o : Option ℕ) → closed_length o ≡ 0 → is_missing o ≡ true
missing None e = refl
missing (Some n) e = absurd (omega (arith, e))

-- where no blank begins, a `/*` isn't closed
pub unclosed : (i s : List ℕ) (c : ℕ) → blank_length i ≡ 0 → slice_get i 0 ≡ Some c → s ≡ drop 1 i → (c == 47) ≡ true → begins (λ d. d == 42) s ≡ true → opens_comment s ≡ true
unclosed [] s c stop e t h g = absurd (none_some e)
unclosed (b ∷ u) [] c stop e t h g = absurd (never (sym g))
unclosed (b ∷ u) (d ∷ v) c stop e t h g =
    let is : b ≡ 47 = some_one e ∙ same_number c 47 h in
    let star : d ≡ 42 = same_number d 42 g in
    let whole : blank_length (47 ∷ 42 ∷ v) ≡ 0 = ap (λ z. blank_length (47 ∷ z ∷ v)) (sym star) ∙ ap (λ z. blank_length (47 ∷ z)) t ∙ ap (λ z. blank_length (z ∷ u)) (sym is) ∙ stop in
    ap (λ z. opens_comment (z ∷ v)) star ∙ missing (block_length v) whole

no_opens : (s : List ℕ) → begins (λ d. d == 42) s ≡ false → opens_comment s ≡ false
no_opens [] h = refl
no_opens (c ∷ s) h = rw h refl

and_with : (a b : Bool) → a ≡ true → (a && b) ≡ b
and_with a b h = rw h refl

pub is_other : (c : ℕ) (s : List ℕ) → is_letter c ≡ false → is_decimal c ≡ false → is_quote c ≡ false → ((c == 46) && begins is_decimal s) ≡ false → ((c == 47) && begins (λ d. d == 42) s) ≡ false → IsOther c s
is_other c s a b q p l = record {
  letter = a;
  digit = b;
  quote = q;
  point = λ h. sym (and_with (c == 46) (begins is_decimal s) h) ∙ p;
  slash = λ h. no_opens s (sym (and_with (c == 47) (begins (λ d. d == 42) s) h) ∙ l);
}

pub cut_mark : (i s r : List ℕ) (c : ℕ) (m : Mark) → blank_length i ≡ 0 → slice_get i 0 ≡ Some c → s ≡ drop 1 i → IsOther c s → first_begun marks i ≡ Some m → r ≡ drop (length (mark_text m)) i → Cuts i (kind.Mark m) r
cut_mark [] s r c m stop e t o f d = absurd (none_some e)
cut_mark (b ∷ u) s r c m stop e t o f d =
    let o1 : IsOther b u = subst (λ z. IsOther z u) (sym (some_one e)) (subst (λ z. IsOther c z) t o) in
    (Lexeme.mark m, length (mark_text m), mark_begins b u m o1 stop f, refl, d)

pub bad_mark : (i s : List ℕ) (c : ℕ) → slice_get i 0 ≡ Some c → s ≡ drop 1 i → IsOther c s → first_begun marks i ≡ None → fault_at i ≡ Some fault.BadByte
bad_mark [] s c e t o f = absurd (none_some e)
bad_mark (b ∷ u) s c e t o f =
    let o1 : IsOther b u = subst (λ z. IsOther z u) (sym (some_one e)) (subst (λ z. IsOther c z) t o) in mark_faults b u o1 f

pub bad_point : (i s : List ℕ) (c : ℕ) → slice_get i 0 ≡ Some c → s ≡ drop 1 i → is_letter c ≡ false → is_decimal c ≡ false → is_quote c ≡ false → (c == 46) ≡ true → begins is_decimal s ≡ true → fault_at i ≡ Some fault.BadNumber
bad_point [] s c e t a b q h d = absurd (none_some e)
bad_point (g ∷ u) s c e t a b q h d =
    let same : g ≡ c = some_one e in
    ap (λ z. fault_at (z ∷ u)) same ∙ point_faults c u a b q h (ap (begins is_decimal) (sym t) ∙ d)

pub bad_slash : (i s : List ℕ) (c : ℕ) → slice_get i 0 ≡ Some c → s ≡ drop 1 i → is_letter c ≡ false → is_decimal c ≡ false → is_quote c ≡ false → (c == 47) ≡ true → opens_comment s ≡ true → fault_at i ≡ Some fault.OpenComment
bad_slash [] s c e t a b q h d = absurd (none_some e)
bad_slash (g ∷ u) s c e t a b q h d =
    let same : g ≡ c = some_one e in
    ap (λ z. fault_at (z ∷ u)) same ∙ slash_faults c u a b q (ap (λ z. z == 46) (same_number c 47 h)) h (ap opens_comment (sym t) ∙ d)

-- ---- places

drop_split : (n : ℕ) (i : List ℕ) → i ≡ take n i ++ drop n i
drop_split zero i = refl
drop_split (suc n) [] = refl
drop_split (suc n) (c ∷ s) = ap (λ z. c ∷ z) (drop_split n s)

-- a rest of a text has no more bytes
pub rest_bytes : (n : ℕ) (i : List ℕ) → length (encode_utf8_all (drop n i)) ≤ length (encode_utf8_all i)
rest_bytes n i =
    let e : encode_utf8_all i ≡ encode_utf8_all (take n i) ++ encode_utf8_all (drop n i) = ap encode_utf8_all (drop_split n i) ∙ encodes-append (take n i) (drop n i) in
    let l : length (encode_utf8_all i) ≡ length (encode_utf8_all (take n i)) + length (encode_utf8_all (drop n i)) = ap length e ∙ length-append (encode_utf8_all (take n i)) (encode_utf8_all (drop n i)) in
    omega (arith, l)

pub blanks_bytes : {i j : List ℕ} → Blanks i j → length (encode_utf8_all j) ≤ length (encode_utf8_all i)
blanks_bytes (Blanks.here i) = omega arith
blanks_bytes (Blanks.blank i r some b) = let h = blanks_bytes b in let k = rest_bytes (blank_length i) i in omega (arith, h, k)

bytes_same : (b : List ℕ) → IsUtf8 b → length b ≡ length (encode_utf8_all (chars b))
bytes_same b u = sym (ap length (encodes-chars b u))

pub past_short : (here past : List ℕ) → IsUtf8 here → IsUtf8 past → Blanks (chars here) (chars past) → length past ≤ length here
past_short here past u v b = let h = blanks_bytes b in let m = bytes_same here u in let n = bytes_same past v in omega (arith, h, m, n)

pub rest_short : (past rest : List ℕ) (k : Kind) → IsUtf8 past → IsUtf8 rest → Cuts (chars past) k (chars rest) → length rest ≤ length past
rest_short past rest k u v c =
    let h = rest_bytes c.1 (chars past) in
    let d = ap (λ z. length (encode_utf8_all z)) c.4 in
    let m = bytes_same past u in let n = bytes_same rest v in omega (arith, h, d, m, n)

token_same : (k l : Kind) (f g t u a b : ℕ) (p q : Bool) → k ≡ l → f ≡ g → t ≡ u → a ≡ b → p ≡ q
    → ◌≡◌ {A = Token} (record { kind = k; from = f; to = t; line = a; after_break = p }) (record { kind = l; from = g; to = u; line = b; after_break = q })
token_same k l f g t u a b p q e1 e2 e3 e4 e5 = rw (e1, e2, e3, e4, e5) refl

ended_break : (m i j : ℕ) → m + j ≡ i → nat_lt 0 m ≡ nat_lt j i
ended_break m i j e = grind (arith, nat_tests)

next_here : (text i : List ℕ) (line ended l : ℕ) (whole past rest : List ℕ) (k : Kind) → whole ≡ encode_utf8_all text → IsUtf8 past → IsUtf8 rest → IsPastBlanks i (chars past) ended → Cuts (chars past) k (chars rest)
    → l ≡ line_after line ended → NextFrom text i line (Ok (record { kind = k; from = length whole - length past; to = length whole - length rest; line = l; after_break = nat_lt 0 ended }))
next_here text i line ended l whole past rest k w u v b c m =
    let size = ap length w in
    let from : length whole - length past ≡ length (encode_utf8_all text) - length (encode_utf8_all (chars past)) = let n = bytes_same past u in omega (arith, size, n) in
    let to : length whole - length rest ≡ length (encode_utf8_all text) - length (encode_utf8_all (drop c.1 (chars past))) =
    let n = bytes_same rest v in let d = ap (λ z. length (encode_utf8_all z)) c.4 in omega (arith, size, n, d)
    in
    let count : ended ≡ line_ends i - line_ends (chars past) = omega (arith, b.lines) in (
      chars past,
      c.0,
      c.1,
      b.blanks,
      c.2,
      token_same k (kind_of c.0) (length whole - length past) (length (encode_utf8_all text) - length (encode_utf8_all (chars past))) (length whole - length rest) (length (encode_utf8_all text) - length (encode_utf8_all (drop c.1 (chars past)))) l
          (line_after line (line_ends i - line_ends (chars past))) (nat_lt 0 ended) (nat_lt (line_ends (chars past)) (line_ends i)) c.3 from to (m ∙ ap (line_after line) count) (ended_break ended (line_ends i) (line_ends (chars past)) b.lines),
    )

pub next_token : (text : List ℕ) (at line ended l : ℕ) (whole here past rest : List ℕ) (k : Kind) → whole ≡ encode_utf8_all text → here ≡ drop at whole → IsUtf8 past → IsUtf8 rest → IsPastBlanks (chars here) (chars past) ended
    → Cuts (chars past) k (chars rest) → l ≡ line_after line ended
    → NextFrom text (text_from text at) line (Ok (record { kind = k; from = length whole - length past; to = length whole - length rest; line = l; after_break = nat_lt 0 ended }))
next_token text at line ended l whole here past rest k w h u v b c m =
    subst (λ i. NextFrom text i line (Ok (record { kind = k; from = length whole - length past; to = length whole - length rest; line = l; after_break = nat_lt 0 ended }))) (ap chars (h ∙ ap (drop at) w))
    (next_here text (chars here) line ended l whole past rest k w u v b c m)
