-- Numbers that pass a bound, and the last part of a path.
use Rattle.std.proofs.Common.{◌≡◌, ℕ, ◌+◌, ◌-◌, ◌*◌, ◌<◌, List, [], ◌∷◌, Bool, true, false, ◌&&◌, nat_le, if◌then◌else◌, Option, Some, None, refl, ap, sym, ◌∙◌, arith}
use Rattle.std.proofs.lemmas.Bool.Decides.{nat_tests}
use Rattle.std.specs.List.{list_any}
use Rattle.conf_read.specs.Values.{when, is_digit, digits, within, last_part, is_slash}

past : (most n : ℕ) → most < n → within 0 most (Some n) ≡ None
past most n h = let e : (nat_le 0 n && nat_le n most) ≡ false = grind (arith, nat_tests) in rw e refl

one_more : (most n d : ℕ) (b : Bool) (x : Option ℕ) → within 0 most x ≡ None → within 0 most (if b then x else None) ≡ None
one_more most n d true x h = h
one_more most n d false x h = refl

-- a number that has passed a bound passes it with more digits too
pub digits_past : (most n : ℕ) (s : List ℕ) → most < n → within 0 most (digits n s) ≡ None
digits_past most n [] h = past most n h
digits_past most n (c ∷ s) h = one_more most n c (is_digit c) (digits (n * 10 + (c - 48)) s) (digits_past most (n * 10 + (c - 48)) s (omega arith))

twice : {A : Type 0} (b : Bool) (x y : A) → (if b then x else y) ≡ (if b then (if b then x else y) else y)
twice true x y = refl
twice false x y = refl

-- the last part of a path without `/` is the path
pub last_part_whole : (text : List ℕ) → last_part text ≡ (if list_any is_slash text then last_part text else text)
last_part_whole [] = refl
last_part_whole (c ∷ s) = twice (list_any is_slash (c ∷ s)) (last_part s) (c ∷ s)

digit_ends : (most n c d : ℕ) (s : List ℕ) (b : Bool) → when b (c - 48) ≡ Some d → most < n * 10 + d → within 0 most (if b then digits (n * 10 + (c - 48)) s else None) ≡ None
digit_ends most n c d s true is h = let same : c - 48 ≡ d = cc in digits_past most (n * 10 + (c - 48)) s (rw same h)
digit_ends most n c d s false is h = refl

-- the digit that passes the bound decides
pub digits_end : (most n c d : ℕ) (text s : List ℕ) → digits 0 text ≡ digits n (c ∷ s) → when (is_digit c) (c - 48) ≡ Some d → most < n * 10 + d → None ≡ within 0 most (digits 0 text)
digits_end most n c d text s same is h = sym (ap (within 0 most) same ∙ digit_ends most n c d s (is_digit c) is h)
