-- The numbers that definitions give are safe.
use Rattle.std.proofs.Common.{◌≡◌, ℕ, suc, ◌≤◌, List, [], ◌∷◌, Option, Some, None, Bool, true, false, cond, ◌&&◌, nat_le, ℤ, pos, negsuc, neg_ℤ, refl, arith}
use Rattle.std.proofs.lemmas.Bool.Decides.{nat_tests}
use Rattle.std.proofs.lemmas.Int.{ints}
use Rattle.std.specs.Prelude.{IfSome, drop, ◌==◌}
use Rattle.std.specs.Option.{option_map}
use Rattle.std.specs.Str.Parse.{digits_value}
use Rattle.njs_value.specs.Number.{IsSafe}
use Rattle.njs_tree.specs.Characters.{begins}
use Rattle.njs_meaning.specs.Numbers.{max_safe, is_safe, is_numeral, numeral, is_x, literal}

-- a number that passes the test is safe
pub IsSafe-test : (n : ℤ) → is_safe n ≡ true → IsSafe n
IsSafe-test (pos n) h = let le : n ≤ 9007199254740991 = grind (arith, nat_tests) in record { low = omega (arith, ints); high = omega (arith, ints) }
IsSafe-test (negsuc n) h = let le : suc n ≤ 9007199254740991 = grind (arith, nat_tests) in record { low = omega (arith, ints); high = omega (arith, ints) }

pub IsSafe-pos : (n : ℕ) → n ≤ max_safe → IsSafe (pos n)
IsSafe-pos n le = record { low = omega (arith, ints); high = omega (arith, ints) }

pub IsSafe-neg : (n : ℕ) → n ≤ max_safe → IsSafe (neg_ℤ (pos n))
IsSafe-neg n le = record { low = omega (arith, ints); high = omega (arith, ints) }

small : (a b : Bool) (n : ℕ) → nat_le n max_safe ≡ b → IfSome (cond (a && b) (Some n) None) (λ m. m ≤ max_safe)
small true true n h = grind (arith, nat_tests)
small true false n h = tt
small false b n h = tt

numeral_small : (radix : ℕ) (digits : List ℕ) → IfSome (numeral radix digits) (λ n. n ≤ max_safe)
numeral_small radix digits = small (is_numeral radix digits) (nat_le (digits_value radix digits) max_safe) (digits_value radix digits) refl

mapped : (f : ℕ → ℤ) (by : (n : ℕ) → n ≤ max_safe → IsSafe (f n)) (r : Option ℕ) → IfSome r (λ n. n ≤ max_safe) → IfSome (option_map f r) IsSafe
mapped f by None h = tt
mapped f by (Some n) h = by n h

-- of two numbers that are safe, if they are there, the one that is chosen is
chosen : (b : Bool) (x y : Option ℤ) → IfSome x IsSafe → IfSome y IsSafe → IfSome (cond b x y) IsSafe
chosen true x y h k = h
chosen false x y h k = k

pub literal_safe : (text : List ℕ) → IfSome (literal text) IsSafe
literal_safe [] = IsSafe-pos 0 (omega arith)
literal_safe (c ∷ s) =
    let plus = mapped pos IsSafe-pos (numeral 10 s) (numeral_small 10 s) in
    let minus = mapped (λ n. neg_ℤ (pos n)) IsSafe-neg (numeral 10 s) (numeral_small 10 s) in
    let hexadecimal = mapped pos IsSafe-pos (numeral 16 (drop 1 s)) (numeral_small 16 (drop 1 s)) in
    let plain = mapped pos IsSafe-pos (numeral 10 (c ∷ s)) (numeral_small 10 (c ∷ s)) in
    let other = option_map pos (numeral 10 (c ∷ s)) in
    let zero_first = cond (c == 48 && begins is_x s) (option_map pos (numeral 16 (drop 1 s))) other in
    let sign_first = cond (c == 45) (option_map (λ n. neg_ℤ (pos n)) (numeral 10 s)) zero_first in
    chosen (c == 43) (option_map pos (numeral 10 s)) sign_first plus
    (chosen (c == 45) (option_map (λ n. neg_ℤ (pos n)) (numeral 10 s)) zero_first minus
    (chosen (c == 48 && begins is_x s) (option_map pos (numeral 16 (drop 1 s))) other hexadecimal plain))
