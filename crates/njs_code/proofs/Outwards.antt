-- The slots outwards from an operation.
use Rattle.std.proofs.Common.{◌≡◌, ℕ, ◌-◌, ◌<◌, ◌≤◌, zero, suc, Bool, true, false, ◌&&◌, ◌==◌, nat_le, List, [], ◌∷◌, ◌++◌, length, take, drop, replicate, slice_get, Some, refl, ap, sym, ◌∙◌, arith}
use Rattle.std.proofs.lemmas.Bool.{le-leb, lt-leb, and_from}
use Rattle.std.proofs.lemmas.List.{take_rest}
use Rattle.std.proofs.lemmas.Bool.Decides.{nat_tests}
use Rattle.std.specs.List.{list_all}
use Rattle.njs_code.specs.Valid.{same_slots}

pub entered : (k i : ℕ) (slots : List ℕ) → i < k → slice_get (replicate k 1 ++ slots) i ≡ Some 1
entered zero i slots h = absurd (omega (arith, h))
entered (suc k) zero slots h = refl
entered (suc k) (suc i) slots h = entered k i slots (omega (arith, h))

pub behind_entered : (k i : ℕ) (slots : List ℕ) → k ≤ i → slice_get (replicate k 1 ++ slots) i ≡ slice_get slots (i - k)
behind_entered zero i slots h = ap (slice_get slots) (omega arith)
behind_entered (suc k) zero slots h = absurd (omega (arith, h))
behind_entered (suc k) (suc i) slots h = behind_entered k i slots (omega (arith, h)) ∙ ap (slice_get slots) (omega arith)

one_more : (a b c d : Bool) → (a && ((b && c) && d)) ≡ ((b && (a && c)) && d)
one_more true b c d = refl
one_more false true c d = refl
one_more false false c d = refl

le_suc : (m n : ℕ) → nat_le (suc m) (suc n) ≡ nat_le m n
le_suc m n = grind (arith, nat_tests)

pub split_outwards : (got : List ℕ) (k : ℕ) (slots : List ℕ) → same_slots got (replicate k 1 ++ slots) ≡ ((nat_le k (length got) && list_all (λ n. n == 1) (take k got)) && same_slots (drop k got) slots)
split_outwards got zero slots = ap (λ t. (t && true) && same_slots got slots) (sym (le-leb 0 (length got) (omega arith)))
split_outwards [] (suc k) slots = ap (λ t. (t && true) && same_slots [] slots) (sym (lt-leb (suc k) 0 (omega arith)))
split_outwards (x ∷ got) (suc k) slots =
    ap (λ rest. (x == 1) && rest) (split_outwards got k slots)
    ∙ one_more (x == 1) (nat_le k (length got)) _ _
    ∙ ap (λ t. (t && ((x == 1) && list_all (λ n. n == 1) (take k got))) && same_slots (drop k got) slots) (sym (le_suc k (length got)))

pub split_entered : (got : List ℕ) (k : ℕ) (slots : List ℕ) → k ≤ length got → list_all (λ n. n == 1) (take k got) ≡ true → same_slots got (replicate k 1 ++ slots) ≡ same_slots (take (length got - k) (drop k got)) slots
split_entered got k slots h all =
    split_outwards got k slots
    ∙ ap (λ t. t && same_slots (drop k got) slots) (and_from _ _ (le-leb k (length got) h) all)
    ∙ ap (λ rest. same_slots rest slots) (sym (take_rest got k))

pub ruleset outwards = (entered, behind_entered, split_outwards)
