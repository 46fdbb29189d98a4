-- A word is ASCII, so whether a text is one can be told of its bytes.
use Rattle.std.proofs.Common.{◌≡◌, ℕ, ◌+◌, ◌/◌, ◌<◌, ◌≤◌, List, [], ◌∷◌, ◌++◌, Bool, true, false, cond, nat_lt, ◌⊎◌, inl, inr, refl, arith}
use Rattle.std.proofs.lemmas.Bool.Decides.{nat_tests}
use Rattle.std.proofs.lemmas.Str.{chars-encodes}
use Rattle.std.specs.List.{list_all}
use Rattle.std.specs.Str.{chars, all_scalars, encode_utf8_all}
use lib.Utf8.{encode, encodes, next}
use Rattle.njs_tree.specs.Characters.{is_letter, is_part, begins}
use Rattle.njs_tree.specs.Names.{is_word}

letter_low : (c : ℕ) → 128 ≤ c → is_letter c ≡ false
letter_low c h = grind (arith, nat_tests)

part_low : (c : ℕ) → 128 ≤ c → is_part c ≡ false
part_low c h = grind (arith, nat_tests)

low : (c : ℕ) → c < 128 → encode c ≡ c ∷ []
unfolding encode
low c h = let e : nat_lt c 128 ≡ true = grind (arith, nat_tests) in rw e

record High (bytes : List ℕ) : Type 0 where
  first : ℕ
  more : List ℕ
  is : bytes ≡ first ∷ more
  high : 128 ≤ first

chosen : (x y : Bool) (a b c : ℕ) (s t u : List ℕ) → 128 ≤ a → 128 ≤ b → 128 ≤ c → High (cond x (a ∷ s) (cond y (b ∷ t) (c ∷ u)))
chosen true y a b c s t u h k l = record { first = a; more = s; is = refl; high = h }
chosen false true a b c s t u h k l = record { first = b; more = t; is = refl; high = k }
chosen false false a b c s t u h k l = record { first = c; more = u; is = refl; high = l }

-- the first byte of any other character is no letter and no digit
high : (c : ℕ) → 128 ≤ c → High (encode c)
unfolding encode
high c h =
    let e : nat_lt c 128 ≡ false = grind (arith, nat_tests) in
    rw e (chosen (nat_lt c 2048) (nat_lt c 65536) (192 + c / 64) (224 + c / 4096) (240 + c / 262144) (next c ∷ []) (next (c / 64) ∷ next c ∷ []) (next (c / 4096) ∷ next (c / 64) ∷ next c ∷ []) (omega arith) (omega arith) (omega arith))

low_or_high : (c : ℕ) → (c < 128) ⊎ (128 ≤ c)
low_or_high c = elim (nat_lt c 128) as (λ b. nat_lt c 128 ≡ b → (c < 128) ⊎ (128 ≤ c)) [ true ↦ λ e. inl (grind (arith, nat_tests)) | false ↦ λ e. inr (grind (arith, nat_tests)) ] refl

begins_high : (c : ℕ) (s bytes : List ℕ) → 128 ≤ c → High bytes → begins is_letter (bytes ++ s) ≡ begins is_letter (c ∷ s)
begins_high c s bytes h k = rw (k.is, letter_low k.first k.high, letter_low c h)

all_high : (c : ℕ) (s t bytes : List ℕ) → 128 ≤ c → High bytes → list_all is_part (bytes ++ s) ≡ list_all is_part (c ∷ t)
all_high c s t bytes h k = rw (k.is, part_low k.first k.high, part_low c h)

begins_same : (text : List ℕ) → begins is_letter (encodes text) ≡ begins is_letter text
begins_same [] = refl
begins_same (c ∷ s) = elim (low_or_high c) [ inl h ↦ rw (low c h) | inr h ↦ begins_high c (encodes s) (encode c) h (high c h) ]

all_same : (text : List ℕ) → list_all is_part (encodes text) ≡ list_all is_part text
all_same [] = refl
all_same (c ∷ s) = elim (low_or_high c) [ inl h ↦ rw (low c h, all_same s) | inr h ↦ all_high c (encodes s) s (encode c) h (high c h) ]

pub word_same : (text : List ℕ) → is_word (encodes text) ≡ is_word text
word_same text = rw (begins_same text, all_same text)

-- a text's UTF-8 has its characters
pub chars_same : (text : List ℕ) → all_scalars text ≡ true → chars (encode_utf8_all text) ≡ text
chars_same text scalars = chars-encodes text scalars
