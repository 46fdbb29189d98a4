-- Lists of callers, of which one changes.
use Rattle.std.proofs.Common.{◌≡◌, ◌≢◌, ℕ, zero, suc, ◌<◌, List, [], ◌∷◌, length, map, get_or, set, Some, refl, ap, sym, ◌∙◌, subst, arith, get_or-set_same, get_or-set_other}
use Rattle.std.specs.Prelude.{slice_get}
use Rattle.std.proofs.Math.Seq.{map-set_same}
use mathlib.Core.Logic.{dite}
use native.Mathlib.Decide.{ℕ_discrete}
use Rattle.dict_lock.specs.Views.{no_spec}
use Rattle.dict_lock.specs.Known.{ZoneName, Caller}
use Rattle.dict_pass.specs.Callers.{EachPair, EachTriple}

-- a caller of no zone
abbrev pub nobody : Caller
nobody = record { zone = record { table = record { words = 0; slots = 0; views_name = 0; atom = 0; block = 0; offset = 0; slot_names = [] }; spec = no_spec }; number = 0; seen = []; mine = []; closed = []; made = 0 }

pub get_or_any : {A : Type 0} (xs : List A) (i : ℕ) (a b : A) → i < length xs → get_or xs i a ≡ get_or xs i b
get_or_any [] i a b lt = absurd (omega arith)
get_or_any (x ∷ xs) zero a b lt = refl
get_or_any (x ∷ xs) (suc i) a b lt = get_or_any xs i a b (omega arith)

pub known_at : (xs : List Caller) (at : ℕ) (k : Caller) → at < length xs → k ≡ get_or xs at k → k ≡ get_or xs at nobody
known_at xs at k lt is = is ∙ get_or_any xs at k nobody lt

pub stands_at : (xs : List Caller) (at : ℕ) (k d : Caller) → at < length xs → k ≡ get_or xs at d → slice_get xs at ≡ Some k
stands_at [] at k d lt is = absurd (omega arith)
stands_at (x ∷ xs) zero k d lt is = ap Some (sym is)
stands_at (x ∷ xs) (suc at) k d lt is = stands_at xs at k d (omega arith) is

pub same_map : {A : Type 0} (f : Caller → A) (xs : List Caller) (at : ℕ) (k k' : Caller) → k ≡ get_or xs at k → f k' ≡ f k → map f (set xs at k') ≡ map f xs
same_map f xs at k k' is same = map-set_same f xs at k' k (same ∙ ap f is)

-- what holds at the place of the change, and of the others at theirs, holds at each
pub at_or_not : (P : ℕ → Caller → Type 0) (xs : List Caller) (at : ℕ) (k' : Caller) → at < length xs → P at k' → ((j : ℕ) → j ≢ at → P j (get_or xs j nobody)) → (j : ℕ) → P j (get_or (set xs at k') j nobody)
at_or_not P xs at k' lt here others j = dite (ℕ_discrete j at)
    (λ e. subst (λ (z : ℕ). P z (get_or (set xs at k') z nobody)) (sym e) (subst (P at) (sym (get_or-set_same xs at k' nobody lt)) here))
    (λ ne. subst (P j) (sym (get_or-set_other xs at j k' nobody ne)) (others j ne))

-- a list that is known at each place
pub by_index : (f : ZoneName → Caller) (xs : List Caller) (zs : List ZoneName) → length xs ≡ length zs → ((k : ℕ) → k < length zs → get_or xs k nobody ≡ f (get_or zs k nobody.zone)) → xs ≡ map f zs
by_index f [] [] e h = refl
by_index f [] (z ∷ zs) e h = absurd (omega arith)
by_index f (x ∷ xs) [] e h = absurd (omega arith)
by_index f (x ∷ xs) (z ∷ zs) e h =
    let head : x ≡ f z = h 0 (omega arith) in
    let tail = by_index f xs zs (omega arith) (λ k lt. h (suc k) (omega arith)) in
    λ i. head i ∷ tail i

pub pairs_by_index : (R : Caller → Caller → Type 0) (xs ys : List Caller) → length ys ≡ length xs → ((k : ℕ) → k < length xs → R (get_or xs k nobody) (get_or ys k nobody)) → EachPair R xs ys
pairs_by_index R [] [] e h = tt
pairs_by_index R [] (y ∷ ys) e h = absurd (omega arith)
pairs_by_index R (x ∷ xs) [] e h = absurd (omega arith)
pairs_by_index R (x ∷ xs) (y ∷ ys) e h = (h 0 (omega arith), pairs_by_index R xs ys (omega arith) (λ k lt. h (suc k) (omega arith)))

pub triples_by_index : (R : Caller → Caller → Caller → Type 0) (xs ys zs : List Caller) → length ys ≡ length xs → length zs ≡ length xs → ((k : ℕ) → k < length xs → R (get_or xs k nobody) (get_or ys k nobody) (get_or zs k nobody)) → EachTriple R xs ys zs
triples_by_index R [] [] [] e d h = tt
triples_by_index R [] [] (z ∷ zs) e d h = absurd (omega arith)
triples_by_index R [] (y ∷ ys) zs e d h = absurd (omega arith)
triples_by_index R (x ∷ xs) [] zs e d h = absurd (omega arith)
triples_by_index R (x ∷ xs) (y ∷ ys) [] e d h = absurd (omega arith)
triples_by_index R (x ∷ xs) (y ∷ ys) (z ∷ zs) e d h = (h 0 (omega arith), triples_by_index R xs ys zs (omega arith) (omega arith) (λ k lt. h (suc k) (omega arith)))
