-- Names that are array indices.
use Rattle.std.proofs.Common.{◌≡◌, ℕ, zero, suc, ◌<◌, ◌≤◌, ◌+◌, ◌*◌, ◌&&◌, ◌⊎◌, inl, inr, List, [], ◌∷◌, Option, Some, None, Bool, true, false, cond, ap, refl, sym, ◌∙◌, subst, length, get_or, slice_get, take, nat_lt, arith}
use Rattle.std.proofs.lemmas.Fmt.{digits_value-decimal, decimal-digits_value, digits_decimal, decimal_nonempty, first_decimal, length-decimal-le_succ}
use Rattle.std.proofs.lemmas.Int.Digits.{digits_more, digits_value_more}
use Rattle.std.proofs.lemmas.Option.{slice_get_within, get_or_from_slice_get}
use Rattle.std.proofs.lemmas.Str.Parse.{IsNumeralModel, numerals_by_value, tells_digits, digits_value-take-le}
use Rattle.std.specs.Char.{digit_value}
use Rattle.std.specs.Cmp.Lexicographic.{bytes_decides}
use Rattle.std.specs.Fmt.{decimal}
use Rattle.std.specs.Str.Parse.{AllDigits, digits_value}
use Rattle.njs_props.specs.Names.{same_name, index_of, NamesIndex}

-- decimal digits and what they spell
pub own : IsNumeralModel (AllDigits 10) (digits_value 10)
own = numerals_by_value (AllDigits 10) tells_digits

below_test : (n : ℕ) → n < 4294967295 → nat_lt n 4294967295 ≡ true
below_test n small = grind arith

test_below : (n : ℕ) → nat_lt n 4294967295 ≡ true → n < 4294967295
test_below n h = grind arith

-- the decimal text of a number below 2^32 - 1 is that index
pub index_of-decimal : (i : ℕ) → i < 4294967295 → index_of (decimal i) ≡ Some i
index_of-decimal i small =
    let value : digits_value 10 (decimal i) ≡ i = digits_value-decimal own i (omega arith) in
    let same : same_name (decimal i) (decimal i) ≡ true = (bytes_decides (decimal i) (decimal i)).1 refl in
    subst (λ n. cond (same_name (decimal n) (decimal i) && nat_lt n 4294967295) (Some n) None ≡ Some i) (sym value)
    (ap (λ b. cond (b && nat_lt i 4294967295) (Some i) None) same ∙ ap (λ b. cond b (Some i) None) (below_test i small))

-- digits without a leading zero are the index that they spell
pub index_of-digits : (name : List ℕ) → AllDigits 10 name → 0 < length name → (get_or name 0 0 ≡ 48 → length name ≡ 1) → digits_value 10 name < 4294967295 → index_of name ≡ Some (digits_value 10 name)
index_of-digits name digits some front small =
    let spelled : decimal (digits_value 10 name) ≡ name = decimal-digits_value own name digits some front (omega arith) in
    ap index_of (sym spelled) ∙ index_of-decimal (digits_value 10 name) small

-- a name that is the decimal text of no such number is no index
pub index_of-other : (name : List ℕ) → (digits_value 10 name < 4294967295 → decimal (digits_value 10 name) ≡ name → ⊥) → index_of name ≡ None
index_of-other name differs = by (same_name (decimal (digits_value 10 name)) name) (nat_lt (digits_value 10 name) 4294967295) refl refl
  where
    by : (b c : Bool) → same_name (decimal (digits_value 10 name)) name ≡ b → nat_lt (digits_value 10 name) 4294967295 ≡ c → cond (b && c) (Some (digits_value 10 name)) None ≡ None
    by true true same small = absurd (differs (test_below (digits_value 10 name) small) ((bytes_decides (decimal (digits_value 10 name)) name).0 same))
    by true false same small = refl
    by false c same small = refl

-- the index of a name in the standard's words
pub NamesIndex-index_of : (name : List ℕ) (r : Option ℕ) → index_of name ≡ r → NamesIndex name r
NamesIndex-index_of name None none = λ i small spelled. let some : index_of name ≡ Some i = ap index_of spelled ∙ index_of-decimal i small in cc
NamesIndex-index_of name (Some i) some = by (same_name (decimal (digits_value 10 name)) name) (nat_lt (digits_value 10 name) 4294967295) refl refl some
  where
    by : (b c : Bool) → same_name (decimal (digits_value 10 name)) name ≡ b → nat_lt (digits_value 10 name) 4294967295 ≡ c → cond (b && c) (Some (digits_value 10 name)) None ≡ Some i → (name ≡ decimal i) × (i < 4294967295)
    by true true same small found =
        let value : digits_value 10 name ≡ i = cc in
        (sym ((bytes_decides (decimal (digits_value 10 name)) name).0 same) ∙ ap decimal value, subst (λ n. n < 4294967295) value (test_below (digits_value 10 name) small))
    by true false same small found = cc
    by false c same small found = cc

-- ---- why a name is no index
-- it is empty
pub no_index-empty : (name : List ℕ) → slice_get name 0 ≡ None → index_of name ≡ None
no_index-empty [] none = index_of-other [] (λ small spelled. let some : 0 < length (decimal (digits_value 10 [])) = decimal_nonempty 0 (omega arith) in omega (arith, ap length spelled))
no_index-empty (c ∷ cs) none = cc

-- it has more digits behind a zero
pub no_index-zero : (name : List ℕ) → slice_get name 0 ≡ Some 48 → 1 < length name → index_of name ≡ None
no_index-zero name zero_first more = index_of-other name (λ small spelled. by (digits_value 10 name) small spelled)
  where
    by : (n : ℕ) → n < 4294967295 → decimal n ≡ name → ⊥
    by zero small spelled = omega (arith, length-decimal-le_succ 0 (omega arith), ap length spelled)
    by (suc n) small spelled =
        omega (arith, first_decimal (suc n) (omega arith) (omega arith), ap (λ ds. get_or ds 0 0) spelled, get_or_from_slice_get name 0 48 0 zero_first)

-- a numeral has a digit at each place
digit_there : (ds : List ℕ) (place c : ℕ) → AllDigits 10 ds → slice_get ds place ≡ Some c → digit_value c < 10
digit_there [] place c digits there = cc
digit_there (d ∷ ds) zero c digits there = let same : d ≡ c = cc in subst (λ d. digit_value d < 10) same digits.0
digit_there (d ∷ ds) (suc place) c digits there = digit_there ds place c digits.1 there

-- it has another character than digits
pub no_index-other : (name : List ℕ) (place c : ℕ) → slice_get name place ≡ Some c → (digit_value c < 10 → ⊥) → index_of name ≡ None
no_index-other name place c there other =
    index_of-other name (λ small spelled. other (digit_there name place c (subst (AllDigits 10) spelled (digits_decimal own (digits_value 10 name) (omega arith))) there))

-- its digits spell too large a number
pub no_index-large : (name : List ℕ) (place : ℕ) → 4294967295 ≤ digits_value 10 (take place name) → index_of name ≡ None
no_index-large name place large = index_of-other name (λ small spelled. omega (arith, digits_value-take-le 10 name place (omega arith)))

-- ---- one digit more
pub digits_next : (name : List ℕ) (place c : ℕ) → slice_get name place ≡ Some c → digit_value c < 10 → AllDigits 10 (take place name) → AllDigits 10 (take (place + 1) name)
digits_next name place c there digit digits =
    digits_more 10 name place (slice_get_within name place c there) digits (subst (λ d. digit_value d < 10) (sym (get_or_from_slice_get name place c 0 there)) digit)

pub value_next : (name : List ℕ) (place c : ℕ) → slice_get name place ≡ Some c → digits_value 10 (take (place + 1) name) ≡ digits_value 10 (take place name) * 10 + digit_value c
value_next name place c there =
    digits_value_more 10 name place (slice_get_within name place c there) ∙ ap (λ d. digits_value 10 (take place name) * 10 + digit_value d) (get_or_from_slice_get name place c 0 there)

-- ---- the ends of a name
pub length-slice_get-None : (cs : List ℕ) (place : ℕ) → slice_get cs place ≡ None → length cs ≤ place
length-slice_get-None [] place none = omega arith
length-slice_get-None (c ∷ cs) zero none = cc
length-slice_get-None (c ∷ cs) (suc place) none = let rest : length cs ≤ place = length-slice_get-None cs place none in omega arith

-- a name that begins with a zero and has one digit at most there has one digit
pub one_digit : (name : List ℕ) (first : ℕ) → slice_get name 0 ≡ Some first → (length name ≤ 1) ⊎ (first ≡ 48 → ⊥) → get_or name 0 0 ≡ 48 → length name ≡ 1
one_digit name first there (inl short) zero_first = let some : 0 < length name = slice_get_within name 0 first there in omega arith
one_digit name first there (inr other) zero_first = absurd (other (sym (get_or_from_slice_get name 0 first 0 there) ∙ zero_first))
