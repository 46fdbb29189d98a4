-- The numbers that are dealt at the opening.
use Rattle.std.proofs.Common.{◌≡◌, ℕ, zero, suc, ◌+◌, ◌-◌, ◌<◌, List, [], ◌∷◌, ◌++◌, map, refl, ap, sym, ◌∙◌, arith}
use Rattle.dict_lock.specs.Known.{ZoneName}
use Rattle.dict_lock.specs.Views.{spare_from}
use Rattle.dict_pass.specs.Callers.{dealer, opened, passes_from, zone_of}
use Rattle.dict_pass.specs.Rounds.{round}

-- a dealer with a number left
pub dealer_closed : (number count : ℕ) (z : ZoneName) → number < count → (dealer number count z).closed ≡ (number, 0) ∷ spare_from (number + 1) (count - (number + 1))
dealer_closed number count z lt = let e : count - number ≡ suc (count - (number + 1)) = omega arith in ap (spare_from number) e

pub zones_dealer : (number count : ℕ) (zs : List ZoneName) → map zone_of (map (dealer number count) zs) ≡ zs
zones_dealer number count [] = refl
zones_dealer number count (z ∷ zs) = ap (λ l. z ∷ l) (zones_dealer number count zs)

pub zones_opened : (number count : ℕ) (zs : List ZoneName) → map zone_of (map (opened number count) zs) ≡ zs
zones_opened number count [] = refl
zones_opened number count (z ∷ zs) = ap (λ l. z ∷ l) (zones_opened number count zs)

-- a dealer with no number left
dealt_out : (count : ℕ) (zs : List ZoneName) → map (dealer count count) zs ≡ map (opened 0 count) zs
dealt_out count [] = refl
dealt_out count (z ∷ zs) =
    let none : count - count ≡ 0 = omega arith in
    let head : dealer count count z ≡ opened 0 count z = ap (λ (n : ℕ). record { zone = z; number = 0; seen = []; mine = []; closed = spare_from count n; made = count }) none in
    λ i. head i ∷ dealt_out count zs i

passes_push : (zs : List ZoneName) (count number more : ℕ) → passes_from zs count number more ++ map (opened (number + more) count) zs ∷ [] ≡ passes_from zs count number (suc more)
passes_push zs count number zero = let e : number + 0 ≡ number = omega arith in ap (λ n. map (opened n count) zs ∷ []) e
passes_push zs count number (suc more) = let e : number + suc more ≡ number + 1 + more = omega arith in
    ap (λ n. map (opened number count) zs ∷ (passes_from zs count (number + 1) more ++ map (opened n count) zs ∷ [])) e ∙ ap (λ l. map (opened number count) zs ∷ l) (passes_push zs count (number + 1) more)

-- one more number was dealt
pub next_round : (zs : List ZoneName) (count number : ℕ) → 0 < number → map (dealer (number + 1) count) zs ∷ (passes_from zs count 1 (number - 1) ++ map (opened number count) zs ∷ []) ≡ round zs count (number + 1)
next_round zs count number pos =
    let e : 1 + (number - 1) ≡ number = omega arith in
    let d : suc (number - 1) ≡ number + 1 - 1 = omega arith in
    ap (λ n. map (dealer (number + 1) count) zs ∷ (passes_from zs count 1 (number - 1) ++ map (opened n count) zs ∷ [])) (sym e) ∙ ap (λ l. map (dealer (number + 1) count) zs ∷ l) (passes_push zs count 1 (number - 1)) ∙ ap (λ n. map (dealer (number + 1) count) zs ∷ passes_from zs count 1 n) d

-- all numbers were dealt
pub last_round : (zs : List ZoneName) (count : ℕ) → 0 < count → round zs count count ≡ passes_from zs count 0 count
last_round zs count some =
    let e : suc (count - 1) ≡ count = omega arith in
    ap (λ l. l ∷ passes_from zs count 1 (count - 1)) (dealt_out count zs) ∙ ap (passes_from zs count 0) e

-- two lists that end alike
pub ends_alike : {A : Type 0} (xs ys : List A) (x y : A) → xs ++ x ∷ [] ≡ ys ++ y ∷ [] → (xs ≡ ys) × (x ≡ y)
ends_alike [] [] x y is = (refl, cc (is))
ends_alike [] (b ∷ []) x y is = absurd (cc (is))
ends_alike [] (b ∷ c ∷ ys) x y is = absurd (cc (is))
ends_alike (a ∷ []) [] x y is = absurd (cc (is))
ends_alike (a ∷ c ∷ xs) [] x y is = absurd (cc (is))
ends_alike (a ∷ xs) (b ∷ ys) x y is =
    let head : a ≡ b = cc (is) in
    let rest = ends_alike xs ys x y (cc (is)) in
    ((λ i. head i ∷ rest.0 i), rest.1)
