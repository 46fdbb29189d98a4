-- Sums over a list that changes at one place, and over runs of numbers.
use Rattle.std.proofs.Common.{◌≡◌, ◌≢◌, ℕ, zero, suc, ◌+◌, ◌<◌, ◌≤◌, ◌==◌, List, [], ◌∷◌, ◌++◌, set, cond, ◌⊎◌, inl, inr, ⊎_elim, refl, sym, ap, arith, eq-eqb, ne_eqb}
use Rattle.std.specs.List.{AllByRecursion}
use mathlib.Core.Logic.{dite}
use mathlib.Core.Option.{some, some-injective, some-ne-none}
use native.Mathlib.Decide.{ℕ_discrete, dec_le}
use lib.ListN.{get_elem?}
use Rattle.dict_lock.specs.Weights.{total, below, run}

module _ {A : Type 0} (g : A → ℕ) where
  pub total-append : (l m : List A) → total g (l ++ m) ≡ total g l + total g m
  total-append [] m = omega arith
  total-append (x ∷ l) m = omega (arith, total-append l m)

  -- what the old item weighed goes, and what the new one weighs comes
  pub total-set : (l : List A) (j : ℕ) (v w : A) → get_elem? l j ≡ some v → total g (set l j w) + g v ≡ total g l + g w
  total-set [] j v w at = absurd (some-ne-none v (sym at))
  total-set (x ∷ l) zero v w at = let same : g x ≡ g v = ap g (some-injective x v at) in omega (arith, same)
  total-set (x ∷ l) (suc j) v w at = omega (arith, total-set l j v w at)

  pub term_le : (l : List A) (j : ℕ) (v : A) → get_elem? l j ≡ some v → g v ≤ total g l
  term_le [] j v at = absurd (some-ne-none v (sym at))
  term_le (x ∷ l) zero v at = let same : g x ≡ g v = ap g (some-injective x v at) in omega (arith, same)
  term_le (x ∷ l) (suc j) v at = let le = term_le l j v at in omega (arith, le)

  pub terms_le : (l : List A) (j k : ℕ) (v u : A) → k ≢ j → get_elem? l j ≡ some v → get_elem? l k ≡ some u → g v + g u ≤ total g l
  terms_le [] j k v u apart at there = absurd (some-ne-none v (sym at))
  terms_le (x ∷ l) zero zero v u apart at there = absurd (apart refl)
  terms_le (x ∷ l) zero (suc k) v u apart at there = let same : g x ≡ g v = ap g (some-injective x v at) in let le = term_le l k u there in omega (arith, same, le)
  terms_le (x ∷ l) (suc j) zero v u apart at there = let same : g x ≡ g u = ap g (some-injective x u there) in let le = term_le l j v at in omega (arith, same, le)
  terms_le (x ∷ l) (suc j) (suc k) v u apart at there = let le = terms_le l j k v u (λ e. apart (ap suc e)) at there in omega (arith, le)

pub total_le : {A : Type 0} (g h : A → ℕ) (l : List A) → ((j : ℕ) (v : A) → get_elem? l j ≡ some v → g v ≤ h v) → total g l ≤ total h l
total_le g h [] each = omega arith
total_le g h (x ∷ l) each = let first = each 0 x refl in let rest = total_le g h l (λ j v at. each (suc j) v at) in omega (arith, first, rest)

module _ {A : Type 0} (P : A → Type 0) where
  pub all-append : (l m : List A) → AllByRecursion P l → AllByRecursion P m → AllByRecursion P (l ++ m)
  all-append [] m h k = k
  all-append (x ∷ l) m h k = (h.0, all-append l m h.1 k)

  pub all_left : (l m : List A) → AllByRecursion P (l ++ m) → AllByRecursion P l
  all_left [] m h = tt
  all_left (x ∷ l) m h = (h.0, all_left l m h.1)

  pub all_right : (l m : List A) → AllByRecursion P (l ++ m) → AllByRecursion P m
  all_right [] m h = h
  all_right (x ∷ l) m h = all_right l m h.1

pub all_weaker : {A : Type 0} (P Q : A → Type 0) (l : List A) → ((x : A) → P x → Q x) → AllByRecursion P l → AllByRecursion Q l
all_weaker P Q [] each h = tt
all_weaker P Q (x ∷ l) each h = (each x h.0, all_weaker P Q l each h.1)

pub below-one : (n : ℕ) → below (λ _. 1) n ≡ n
below-one zero = refl
below-one (suc n) = omega (arith, below-one n)

pub run-one : (a n : ℕ) → run (λ _. 1) a n ≡ n
run-one a zero = refl
run-one a (suc n) = omega (arith, run-one a n)

-- a run begins with its first number
pub run_head : (f : ℕ → ℕ) (a n : ℕ) → run f a (suc n) ≡ f a + run f (a + 1) n
run_head f a zero = let here : f (a + 0) ≡ f a = ap f (omega arith) in omega (arith, here)
run_head f a (suc n) = let last : f (a + suc n) ≡ f (a + 1 + n) = ap f (omega arith) in omega (arith, run_head f a n, last)

-- the weight that is 1 at one number, and 0 elsewhere
abbrev pub only : ℕ → ℕ → ℕ
only k x = cond (x == k) 1 0

pub only-same : (k x : ℕ) → x ≡ k → only k x ≡ 1
only-same k x same = ap (λ b. cond b 1 0) (eq-eqb x k same)

pub only-other : (k x : ℕ) → x ≢ k → only k x ≡ 0
only-other k x other = ap (λ b. cond b 1 0) (ne_eqb x k other)

only_cases : (k x : ℕ) → ((x ≡ k) × (only k x ≡ 1)) ⊎ ((x ≢ k) × (only k x ≡ 0))
only_cases k x = dite (ℕ_discrete x k) (λ same. inl (same, only-same k x same)) (λ other. inr (other, only-other k x other))

below-only : (k n : ℕ) → (below (only k) n ≤ 1) × (n ≤ k → below (only k) n ≡ 0)
below-only k zero = (omega arith, (λ _. refl))
below-only k (suc n) = let before = below-only k n in
    ⊎_elim
    (λ (z : (n ≡ k) × (only k n ≡ 1)). let none : below (only k) n ≡ 0 = before.1 (omega arith) in (omega arith, (λ le. absurd (omega arith))))
    (λ (z : (n ≢ k) × (only k n ≡ 0)). let le = before.0 in (omega arith, (λ past. let none = before.1 (omega arith) in omega arith)))
    (only_cases k n)

pub below_once : (k n : ℕ) → below (only k) n ≤ 1
below_once k n = (below-only k n).0

pub below_past : (k n : ℕ) → n ≤ k → below (only k) n ≡ 0
below_past k n = (below-only k n).1

run-only : (k a n : ℕ) → (run (only k) a n ≤ 1) × (k < a → run (only k) a n ≡ 0) × (a + n ≤ k → run (only k) a n ≡ 0)
run-only k a zero = (omega arith, (λ _. refl), (λ _. refl))
run-only k a (suc n) = let before = run-only k a n in
    ⊎_elim
    (λ (z : (a + n ≡ k) × (only k (a + n) ≡ 1)). let none : run (only k) a n ≡ 0 = before.2 (omega arith) in (omega arith, (λ lt. absurd (omega arith)), (λ le. absurd (omega arith))))
    (λ (z : (a + n ≢ k) × (only k (a + n) ≡ 0)). let le = before.0 in (omega arith, (λ lt. let none = before.1 lt in omega arith), (λ past. let none = before.2 (omega arith) in omega arith)))
    (only_cases k (a + n))

pub run_once : (k a n : ℕ) → run (only k) a n ≤ 1
run_once k a n = (run-only k a n).0

pub run_within : (k a n : ℕ) → 0 < run (only k) a n → (a ≤ k) × (k < a + n)
run_within k a n some_there = let all = run-only k a n in (
  dite (dec_le a k) (λ le. le) (λ gt. let none = all.1 (omega arith) in absurd (omega arith)),
  dite (dec_le (a + n) k) (λ past. let none = all.2 past in absurd (omega arith)) (λ lt. omega arith),
)
