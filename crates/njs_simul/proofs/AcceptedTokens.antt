-- The symbols of a text: at most one more than its characters, and each number of them is safe.
use Rattle.std.proofs.Common.{◌≡◌, ℕ, zero, suc, ◌+◌, ◌-◌, ◌*◌, ◌<◌, ◌≤◌, nat_lt, Bool, true, false, ◌&&◌, ◌||◌, ◌==◌, if◌then◌else◌, List, [], ◌∷◌, ◌++◌, length, take, drop, Option, Some, None, option_map, Result, Ok, Err, refl, ap, sym, subst, ◌∙◌, arith, inl, inr, slice_range, length-append}
use Rattle.std.proofs.lemmas.Bool.{cases_Bool, true≢false, and_parts, and_from}
use Rattle.std.proofs.lemmas.Bool.Decides.{nat_tests}
use Rattle.std.proofs.lemmas.List.{take-append-drop, append_assoc, length-drop}
use Rattle.std.proofs.lemmas.Str.{encodes-append, chars-encodes}
use Rattle.std.specs.List.{list_all}
use Rattle.std.specs.Str.{chars, encode_utf8_all, all_scalars}
use Rattle.std.specs.Str.Parse.{digits_value, digits_value_after}
use Rattle.std.specs.Char.{digit_value}
use Rattle.njs_tree.specs.declared.token.Token.{Token}
use Rattle.njs_tree.specs.declared.token.Kind.{Kind}
use Rattle.njs_tree.specs.declared.token.Kind.TheVariants as kind
use Rattle.njs_tree.specs.declared.token.Keyword.{Keyword}
use Rattle.njs_tree.specs.declared.token.Mark.{Mark}
use Rattle.njs_tree.specs.declared.token.LexFault.{LexFault}
use Rattle.njs_tree.specs.declared.token.LexFault.TheVariants as fault
use Rattle.njs_tree.specs.Characters.{is_letter, begins, line_at}
use Rattle.njs_tree.specs.Names.{is_word}
use Rattle.njs_tree.specs.Lexemes.{Lexeme, name_unless, keyword_of, mark_of, marks}
use Rattle.njs_tree.specs.Lexical.{is_decimal, is_hex, is_quote, front_length, blank_length, is_number, is_hex_start, zero_length, number_length, number_value, max_number, spoils_number, is_bad_number, string_from, string_of_length, lexeme_at, fault_if}
use Rattle.njs_tree.specs.TokenList.{Blanks, Begins, TokensFrom, Tokens, token_of, place_of, text_between, kind_of, symbol_of, symbols_of, lexeme_by}
use Rattle.njs_tree.specs.Accepted.{max_text}
use Rattle.njs_simul.proofs.AcceptedTrees.{most, AllSafe, Small}

-- ---- what is a number

word_else : (b : Bool) (text : List ℕ) (k : Option Keyword) (v : ℕ) → (if b then Some (name_unless text k) else None) ≡ Some (Lexeme.number v) → ⊥
word_else true text None v h = cc
word_else true text (Some k) v h = cc
word_else false text k v h = cc

string_else : (n : ℕ) (r : Result (List ℕ × ℕ) LexFault) (v : ℕ) → string_of_length n r ≡ Some (Lexeme.number v) → ⊥
string_else n (Err f) v h = cc
string_else n (Ok found) v h = elim (cases_Bool (found.1 + 1 == n)) [
  | inl e ↦ let h' : Some (Lexeme.string found.0) ≡ Some (Lexeme.number v) = sym (rw e refl) ∙ h in cc
  | inr e ↦ let h' : None ≡ Some (Lexeme.number v) = sym (rw e refl) ∙ h in cc
]

mark_else : (m : Option Mark) (v : ℕ) → option_map Lexeme.mark m ≡ Some (Lexeme.number v) → ⊥
mark_else None v h = cc
mark_else (Some m) v h = cc

number_if : (b : Bool) (text : List ℕ) (v : ℕ) → (if b then Some (Lexeme.number (number_value text)) else None) ≡ Some (Lexeme.number v) → b ≡ true
number_if true text v h = refl
number_if false text v h = absurd (cc)

-- a token that is a number begins with a digit
pub record Numeral (n c : ℕ) (s : List ℕ) : Type 0 where
  pub letter : is_letter c ≡ false
  pub decimal : is_decimal c ≡ true
  pub number : is_number (take n (c ∷ s)) ≡ true

numeral : (n c : ℕ) (s : List ℕ) (v : ℕ) → lexeme_at n (c ∷ s) ≡ Some (Lexeme.number v) → Numeral n c s
numeral n c s v h = elim (cases_Bool (is_letter c)) [
  | inl letter ↦ absurd (word_else (is_word (take n (c ∷ s))) (take n (c ∷ s)) (keyword_of (take n (c ∷ s))) v (sym (rw letter refl) ∙ h))
  | inr letter ↦ elim (cases_Bool (is_decimal c)) [
    | inl digit ↦ record { letter = letter; decimal = digit; number = number_if (is_number (take n (c ∷ s))) (take n (c ∷ s)) v (sym (rw (letter, digit) refl) ∙ h) }
    | inr digit ↦ elim (cases_Bool (is_quote c)) [
      | inl quote ↦ absurd (string_else n (string_from c s 0) v (sym (rw (letter, digit, quote) refl) ∙ h))
      | inr quote ↦ absurd (mark_else (mark_of (take n (c ∷ s))) v (sym (rw (letter, digit, quote) refl) ∙ h))
    ]
  ]
]

-- ---- its value

most_front : (t : ℕ → Bool) (n : ℕ) (s : List ℕ) → list_all t (take n s) ≡ true → n ≤ length s → n ≤ front_length t s
most_front t zero s h w = omega arith
most_front t (suc n) [] h w = absurd (omega (arith, w))
most_front t (suc n) (c ∷ s) h w =
    let p = and_parts (t c) (list_all t (take n s)) h in
    let e : front_length t (c ∷ s) ≡ front_length t s + 1 = rw p.0 refl in
    let k = most_front t n s p.1 (omega (arith, w)) in omega (arith, e, k)

-- more digits make no smaller number
ten_grows : (a b : ℕ) (s : List ℕ) → a ≤ b → a ≤ digits_value_after 10 b s
ten_grows a b [] h = h
ten_grows a b (c ∷ s) h = ten_grows a (b * 10 + digit_value c) s (omega (arith, h))

ten_longer : (a b n m : ℕ) (s : List ℕ) → a ≤ b → n ≤ m → digits_value_after 10 a (take n s) ≤ digits_value_after 10 b (take m s)
ten_longer a b zero m s h k = ten_grows a b (take m s) h
ten_longer a b (suc n) zero s h k = absurd (omega (arith, k))
ten_longer a b (suc n) (suc m) [] h k = h
ten_longer a b (suc n) (suc m) (c ∷ s) h k = ten_longer (a * 10 + digit_value c) (b * 10 + digit_value c) n m s (omega (arith, h)) (omega (arith, k))

sixteen_grows : (a b : ℕ) (s : List ℕ) → a ≤ b → a ≤ digits_value_after 16 b s
sixteen_grows a b [] h = h
sixteen_grows a b (c ∷ s) h = sixteen_grows a (b * 16 + digit_value c) s (omega (arith, h))

sixteen_longer : (a b n m : ℕ) (s : List ℕ) → a ≤ b → n ≤ m → digits_value_after 16 a (take n s) ≤ digits_value_after 16 b (take m s)
sixteen_longer a b zero m s h k = sixteen_grows a b (take m s) h
sixteen_longer a b (suc n) zero s h k = absurd (omega (arith, k))
sixteen_longer a b (suc n) (suc m) [] h k = h
sixteen_longer a b (suc n) (suc m) (c ∷ s) h k = sixteen_longer (a * 16 + digit_value c) (b * 16 + digit_value c) n m s (omega (arith, h)) (omega (arith, k))

begins_more : (t : ℕ → Bool) (n : ℕ) (s : List ℕ) → begins t (take n s) ≡ true → begins t s ≡ true
begins_more t zero s h = absurd (true≢false (sym h))
begins_more t (suc n) [] h = h
begins_more t (suc n) (c ∷ s) h = h

value_zero : (c : ℕ) (s : List ℕ) → (c == 48) ≡ true → number_value (c ∷ s) ≡ digits_value 16 (drop 1 s)
value_zero c s z = rw z refl

value_ten : (c : ℕ) (s : List ℕ) → (c == 48) ≡ false → number_value (c ∷ s) ≡ digits_value 10 (c ∷ s)
value_ten c s z = rw z refl

length_zero : (c : ℕ) (s : List ℕ) → (c == 48) ≡ true → number_length (c ∷ s) ≡ zero_length s
length_zero c s z = rw z refl

length_ten : (c : ℕ) (s : List ℕ) → (c == 48) ≡ false → number_length (c ∷ s) ≡ front_length is_decimal (c ∷ s)
length_ten c s z = rw z refl

length_hex : (s : List ℕ) → is_hex_start s ≡ true → zero_length s ≡ suc (suc (front_length is_hex (drop 1 s)))
length_hex s h = rw h (omega arith)

hex_number : (c d : ℕ) (u : List ℕ) → (c == 48) ≡ true → is_number (c ∷ d ∷ u) ≡ (is_hex_start (d ∷ u) && list_all is_hex u)
hex_number c d u z = rw z refl

ten_number : (c d : ℕ) (u : List ℕ) → (c == 48) ≡ false → is_number (c ∷ d ∷ u) ≡ list_all is_decimal (c ∷ d ∷ u)
ten_number c d u z = rw z refl

all_ten : (c : ℕ) (w : List ℕ) → (c == 48) ≡ false → is_number (c ∷ w) ≡ true → list_all is_decimal (c ∷ w) ≡ true
all_ten c [] z h = and_from (is_decimal c) true h refl
all_ten c (d ∷ u) z h = sym (ten_number c d u z) ∙ h

-- the value of the longest number from there on is no smaller
zero_longest : (n c : ℕ) (s : List ℕ) → (c == 48) ≡ true → is_number (take n (c ∷ s)) ≡ true → n ≤ length (c ∷ s) → number_value (take n (c ∷ s)) ≤ number_value (take (number_length (c ∷ s)) (c ∷ s))
zero_longest zero c s z h w = omega arith
zero_longest (suc zero) c s z h w = let e : number_value (c ∷ []) ≡ 0 = value_zero c [] z in omega (arith, e)
zero_longest (suc (suc m)) c [] z h w = absurd (omega (arith, w))
zero_longest (suc (suc m)) c (x ∷ u) z h w =
    let p = and_parts (is_hex_start (x ∷ take m u)) (list_all is_hex (take m u)) (sym (hex_number c x (take m u) z) ∙ h) in
    let q = and_parts (x == 120 || x == 88) (begins is_hex (take m u)) p.0 in
    let start : is_hex_start (x ∷ u) ≡ true = rw (q.0, begins_more is_hex m u q.1) refl in
    let l : number_length (c ∷ x ∷ u) ≡ suc (suc (front_length is_hex u)) = length_zero c (x ∷ u) z ∙ length_hex (x ∷ u) start in
    let a = value_zero c (x ∷ take m u) z in
    let b : number_value (take (number_length (c ∷ x ∷ u)) (c ∷ x ∷ u)) ≡ digits_value 16 (take (front_length is_hex u) u) =
    ap (λ k. number_value (take k (c ∷ x ∷ u))) l ∙ value_zero c (x ∷ take (front_length is_hex u) u) z in
    let k = sixteen_longer 0 0 m (front_length is_hex u) u (omega arith) (most_front is_hex m u p.1 (omega (arith, w))) in
    omega (arith, a, b, k)

ten_longest : (n c : ℕ) (s : List ℕ) → (c == 48) ≡ false → is_decimal c ≡ true → is_number (take n (c ∷ s)) ≡ true → n ≤ length (c ∷ s) → number_value (take n (c ∷ s)) ≤ number_value (take (number_length (c ∷ s)) (c ∷ s))
ten_longest zero c s z d h w = omega arith
ten_longest (suc n) c s z d h w =
    let front : suc n ≤ front_length is_decimal (c ∷ s) = most_front is_decimal (suc n) (c ∷ s) (all_ten c (take n s) z h) w in
    let e : front_length is_decimal (c ∷ s) ≡ suc (front_length is_decimal s) = rw d (omega arith) in
    let l : number_length (c ∷ s) ≡ suc (front_length is_decimal s) = length_ten c s z ∙ e in
    let a = value_ten c (take n s) z in
    let b : number_value (take (number_length (c ∷ s)) (c ∷ s)) ≡ digits_value 10 (c ∷ take (front_length is_decimal s) s) =
    ap (λ k. number_value (take k (c ∷ s))) l ∙ value_ten c (take (front_length is_decimal s) s) z in
    let k = ten_longer 0 0 (suc n) (suc (front_length is_decimal s)) (c ∷ s) (omega arith) (omega (arith, front, e)) in
    omega (arith, a, b, k)

longest : (n c : ℕ) (s : List ℕ) → Numeral n c s → n ≤ length (c ∷ s) → number_value (take n (c ∷ s)) ≤ number_value (take (number_length (c ∷ s)) (c ∷ s))
longest n c s t w = elim (cases_Bool (c == 48)) [
  | inl z ↦ zero_longest n c s z t.number w
  | inr z ↦ ten_longest n c s z t.decimal t.number w
]

no_large : (b : Bool) (value : ℕ) → fault_if (b || nat_lt max_number value) fault.BadNumber ≡ None → value ≤ most
no_large true value h = absurd (cc)
no_large false value h = elim (cases_Bool (nat_lt max_number value)) [
  | inl large ↦ let h' : Some fault.BadNumber ≡ None = sym (rw large refl) ∙ h in absurd (cc)
  | inr small ↦ grind (arith, nat_tests)
]

safe : (n c : ℕ) (s : List ℕ) (v : ℕ) → Begins (c ∷ s) (Lexeme.number v) n → number_value (take n (c ∷ s)) ≤ most
safe n c s v t =
    let is = numeral n c s v t.fits in
    let l = longest n c s is t.within in
    let bad : fault_if (is_bad_number (c ∷ s) (number_length (c ∷ s))) fault.BadNumber ≡ None = sym (rw (is.letter, is.decimal) refl) ∙ t.no_fault in
    let k = no_large (begins spoils_number (drop (number_length (c ∷ s)) (c ∷ s))) (number_value (take (number_length (c ∷ s)) (c ∷ s))) bad in
    omega (arith, l, k)

-- ---- its characters

decimal_scalar : (c : ℕ) (s : List ℕ) → is_decimal c ≡ true → all_scalars s ≡ true → all_scalars (c ∷ s) ≡ true
decimal_scalar c s h t = and_from _ (all_scalars s) (grind (arith, nat_tests)) t

hex_scalar : (c : ℕ) (s : List ℕ) → is_hex c ≡ true → all_scalars s ≡ true → all_scalars (c ∷ s) ≡ true
hex_scalar c s h t = and_from _ (all_scalars s) (grind (arith, nat_tests)) t

sign_scalar : (c : ℕ) (s : List ℕ) → (c == 120 || c == 88) ≡ true → all_scalars s ≡ true → all_scalars (c ∷ s) ≡ true
sign_scalar c s h t = and_from _ (all_scalars s) (grind (arith, nat_tests)) t

decimals_scalar : (s : List ℕ) → list_all is_decimal s ≡ true → all_scalars s ≡ true
decimals_scalar [] h = refl
decimals_scalar (c ∷ s) h = let p = and_parts (is_decimal c) (list_all is_decimal s) h in decimal_scalar c s p.0 (decimals_scalar s p.1)

hexes_scalar : (s : List ℕ) → list_all is_hex s ≡ true → all_scalars s ≡ true
hexes_scalar [] h = refl
hexes_scalar (c ∷ s) h = let p = and_parts (is_hex c) (list_all is_hex s) h in hex_scalar c s p.0 (hexes_scalar s p.1)

number_scalar : (c : ℕ) (w : List ℕ) → is_decimal c ≡ true → is_number (c ∷ w) ≡ true → all_scalars (c ∷ w) ≡ true
number_scalar c [] d h = decimal_scalar c [] d refl
number_scalar c (x ∷ u) d h = elim (cases_Bool (c == 48)) [
  | inl z ↦
      let p = and_parts (is_hex_start (x ∷ u)) (list_all is_hex u) (sym (hex_number c x u z) ∙ h) in
      let q = and_parts (x == 120 || x == 88) (begins is_hex u) p.0 in
      decimal_scalar c (x ∷ u) d (sign_scalar x u q.0 (hexes_scalar u p.1))
  | inr z ↦ decimals_scalar (c ∷ x ∷ u) (all_ten c (x ∷ u) z h)
]

scalars : (n c : ℕ) (s : List ℕ) → Numeral n c s → all_scalars (take n (c ∷ s)) ≡ true
scalars zero c s t = refl
scalars (suc n) c s t = number_scalar c (take n s) t.decimal t.number

-- ---- a token takes a character at least

no_mark : mark_of [] ≡ None
unfolding mark_of marks
no_mark = refl

none_else : (x : Lexeme) → None ≡ Some x → ⊥
none_else x h = cc

no_string : (r : Result (List ℕ × ℕ) LexFault) → string_of_length 0 r ≡ None
no_string (Err f) = refl
no_string (Ok found) = elim (cases_Bool (found.1 + 1 == 0)) [
  | inl e ↦ absurd (grind (arith, nat_tests))
  | inr e ↦ rw e refl
]

nothing_at : (c : ℕ) (s : List ℕ) → lexeme_at 0 (c ∷ s) ≡ None
nothing_at c s = elim (cases_Bool (is_letter c)) [
  | inl letter ↦ rw letter refl
  | inr letter ↦ elim (cases_Bool (is_decimal c)) [
    | inl digit ↦ rw (letter, digit) refl
    | inr digit ↦ elim (cases_Bool (is_quote c)) [
      | inl quote ↦ rw (letter, digit, quote) (no_string (string_from c s 0))
      | inr quote ↦ rw (letter, digit, quote) (ap (λ m. option_map Lexeme.mark m) no_mark)
    ]
  ]
]

some_at : (n c : ℕ) (s : List ℕ) (x : Lexeme) → lexeme_at n (c ∷ s) ≡ Some x → 0 < n
some_at zero c s x h = absurd (none_else x (sym (nothing_at c s) ∙ h))
some_at (suc n) c s x h = omega arith

begun : (n : ℕ) (j : List ℕ) (x : Lexeme) → Begins j x n → 0 < n
begun n [] x t = absurd (none_else x t.fits)
begun n (c ∷ s) x t = some_at n c s x t.fits

-- ---- what stands between two places of a text

drop_past : (x w : List ℕ) → drop (length x) (x ++ w) ≡ w
drop_past [] w = refl
drop_past (c ∷ x) w = drop_past x w

take_front : (y z : List ℕ) → take (length y) (y ++ z) ≡ y
take_front [] z = refl
take_front (c ∷ y) z = ap (λ s. c ∷ s) (take_front y z)

cut_out : (x y z t : List ℕ) → t ≡ x ++ (y ++ z) → slice_range t (length t - length (y ++ z)) (length t - length z) ≡ y
cut_out x y z t e =
    let l = ap length e ∙ length-append x (y ++ z) in let m = length-append y z in
    let a : length t - length (y ++ z) ≡ length x = omega (arith, l) in
    let b : length t - length z - (length t - length (y ++ z)) ≡ length y = omega (arith, l, m) in
    ap (λ n. take n (drop (length t - length (y ++ z)) t)) b ∙ ap (λ n. take (length y) (drop n t)) a ∙ ap (λ s. take (length y) (drop (length x) s)) e
    ∙ ap (take (length y)) (drop_past x (y ++ z)) ∙ take_front y z

split_at : (n : ℕ) (j : List ℕ) → j ≡ take n j ++ drop n j
split_at n j = sym (take-append-drop n j)

between : (text front j : List ℕ) (n : ℕ) → text ≡ front ++ j → all_scalars (take n j) ≡ true → text_between text (place_of text j) (place_of text (drop n j)) ≡ take n j
between text front j n e h =
    let bytes = encode_utf8_all text in
    let y = encode_utf8_all (take n j) in let z = encode_utf8_all (drop n j) in
    let inner : encode_utf8_all j ≡ y ++ z = ap encode_utf8_all (split_at n j) ∙ encodes-append (take n j) (drop n j) in
    let whole : bytes ≡ encode_utf8_all front ++ (y ++ z) = ap encode_utf8_all e ∙ encodes-append front j ∙ ap (λ w. encode_utf8_all front ++ w) inner in
    ap chars (ap (λ w. slice_range bytes (length bytes - length w) (length bytes - length z)) inner ∙ cut_out (encode_utf8_all front) y z bytes whole) ∙ chars-encodes (take n j) h

-- ---- the symbols

number_kind : (x : Lexeme) → kind_of x ≡ kind.Number → (v : ℕ) × (x ≡ Lexeme.number v)
number_kind (Lexeme.number n) h = (n, refl)
number_kind (Lexeme.name text) h = absurd (cc)
number_kind (Lexeme.reserved k) h = absurd (cc)
number_kind (Lexeme.string text) h = absurd (cc)
number_kind (Lexeme.mark m) h = absurd (cc)
number_kind Lexeme.over h = absurd (cc)

word_no_number : (text : List ℕ) (k : Option Keyword) (v : ℕ) → name_unless text k ≡ Lexeme.number v → ⊥
word_no_number text None v h = cc
word_no_number text (Some k) v h = cc

same_value : (a b : ℕ) → Lexeme.number a ≡ Lexeme.number b → a ≡ b
same_value a b h = cc

-- a number among the symbols has the value of its characters
by_kind : (k : Kind) (text : List ℕ) (t : Token) (v : ℕ) → lexeme_by k text t ≡ Lexeme.number v → (k ≡ kind.Number) × (v ≡ number_value (text_between text t.from t.to))
by_kind kind.Number text t v h = (refl, sym (same_value (number_value (text_between text t.from t.to)) v h))
by_kind kind.Word text t v h = absurd (word_no_number (text_between text t.from t.to) (keyword_of (text_between text t.from t.to)) v h)
by_kind kind.Str text t v h = absurd (cc)
by_kind (kind.Mark m) text t v h = absurd (cc)
by_kind kind.End text t v h = absurd (cc)

number_small : (j : List ℕ) (n v : ℕ) → Begins j (Lexeme.number v) n → number_value (take n j) ≤ most
number_small [] n v t = absurd (none_else (Lexeme.number v) t.fits)
number_small (c ∷ s) n v t = safe n c s v t

number_scalars : (j : List ℕ) (n v : ℕ) → Begins j (Lexeme.number v) n → all_scalars (take n j) ≡ true
number_scalars [] n v t = absurd (none_else (Lexeme.number v) t.fits)
number_scalars (c ∷ s) n v t = scalars n c s (numeral n c s v t.fits)

safe_symbol : (text front i j : List ℕ) (x : Lexeme) (n line : ℕ) → text ≡ front ++ j → Begins j x n
    → (v : ℕ) → (symbol_of text (token_of text i j line x n)).lexeme ≡ Lexeme.number v → v ≤ most
safe_symbol text front i j x n line e t v h =
    let b = by_kind (kind_of x) text (token_of text i j line x n) v h in
    let is = number_kind x b.0 in
    let t' : Begins j (Lexeme.number is.0) n = subst (λ x. Begins j x n) is.1 t in
    let small = number_small j n is.0 t' in
    let value = b.1 ∙ ap number_value (between text front j n e (number_scalars j n is.0 t')) in
    omega (arith, small, value)

-- white space and comments end further on in the text
pub record Later (i j : List ℕ) : Type 0 where
  pub front : List ℕ
  pub is : i ≡ front ++ j

later_less : {i j : List ℕ} → Later i j → length j ≤ length i
later_less {j = j} l = let e = ap length l.is ∙ length-append l.front j in omega (arith, e)

blanks_later : {i j : List ℕ} → Blanks i j → Later i j
blanks_later (Blanks.here i) = record { front = []; is = refl }
blanks_later (Blanks.blank i r some b) =
    let l = blanks_later b in
    record {
      front = take (blank_length i) i ++ l.front;
      is = split_at (blank_length i) i ∙ ap (λ s. take (blank_length i) i ++ s) l.is ∙ sym (append_assoc (take (blank_length i) i) l.front r);
    }

drop_less : (n : ℕ) (j : List ℕ) → 0 < n → n ≤ length j → suc (length (drop n j)) ≤ length j
drop_less n j some within = let l = length-drop n j in omega (arith, l)

not_fault : {A : Type 0} (f : LexFault) → ◌≡◌ {A = Option LexFault} (Some f) None → A
not_fault f h = absurd (cc)

tokens_small : {text i : List ℕ} {ts : List Token} {f : Option LexFault} → TokensFrom text i ts f → f ≡ None → (front : List ℕ) → text ≡ front ++ i
    → (length (symbols_of text ts) ≤ suc (length i)) × AllSafe (symbols_of text ts)
tokens_small (TokensFrom.over i b) none front e = (omega arith, ((λ v h. absurd (cc)), tt))
tokens_small (TokensFrom.fault i j f b stop at) none front e = not_fault f none
tokens_small {text = text} (TokensFrom.more i j x n ts f b c rest) none front e =
    let l = blanks_later b in
    let before : text ≡ (front ++ l.front) ++ j = e ∙ ap (λ s. front ++ s) l.is ∙ sym (append_assoc front l.front j) in
    let after : text ≡ (front ++ l.front ++ take n j) ++ drop n j =
    before ∙ ap (λ s. front ++ l.front ++ s) (split_at n j) ∙ sym (append_assoc (front ++ l.front) (take n j) (drop n j)) in
    let r = tokens_small rest none (front ++ l.front ++ take n j) after in
    let a = later_less l in let d = drop_less n j (begun n j x c) c.within in let k = r.0 in
    (omega (arith, a, d, k), (safe_symbol text (front ++ l.front) i j x n (line_at text j) before c, r.1))

pub symbols_small : (text : List ℕ) (tokens : List Token) → length text ≤ max_text → Tokens text tokens → Small (symbols_of text tokens)
symbols_small text tokens h t =
    let r = tokens_small t refl [] refl in let k = r.0 in
    record { count = omega (arith, h, k); numbers = r.1 }
