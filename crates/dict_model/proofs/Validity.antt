-- What an operation leaves is valid.
use Rattle.std.proofs.Common.{◌≡◌, ◌<◌, ◌≤◌, ◌+◌, ◌^◌, ℕ, Bool, true, false, cond, List, [], ◌∷◌, ◌++◌, filter, refl, sym, ap, ◌∙◌, subst, arith}
use Rattle.std.specs.List.{AllByRecursion}
use Rattle.std.specs.Cmp.Lexicographic.{bytes_decides}
use Rattle.std.proofs.lemmas.Bool.{false≢true}
use Rattle.std.proofs.lemmas.Bool.Decides.{nat_tests}
use Rattle.dict_model.specs.declared.operation.DictValue.{DictValue}
use Rattle.dict_model.specs.declared.operation.Kept.{Kept}
use Rattle.dict_model.specs.declared.operation.ZoneSpec.{ZoneSpec}
use Rattle.dict_model.specs.Operation.{IsValue}
use Rattle.dict_model.specs.Eviction.{cost, entry_cost, other_cost, has_key, others, total, stays, left_of, left}
use Rattle.dict_model.specs.Zone.{can_store, without, put, Distinct, IsValid, state_of}
use Rattle.dict_model.proofs.Alls.{all_filter}
use Rattle.dict_model.proofs.Costs.{total_within}

abbrev Other : List ℕ → Kept → Type 0
Other key e = has_key key e ≡ false

-- keys
same_key : (key : List ℕ) (e : Kept) → has_key key e ≡ true → e.key ≡ key
same_key key e h = (bytes_decides e.key key).0 h

other_way : (a b : Kept) → has_key a.key b ≡ false → has_key b.key a ≡ false
other_way a b differs =
    elim (has_key b.key a) as (λ t. has_key b.key a ≡ t → t ≡ false) [
      | true ↦ λ h. absurd (false≢true (sym differs ∙ (bytes_decides b.key a.key).1 (sym (same_key b.key a h))))
      | false ↦ λ h. refl
    ] refl

-- facts of each entry
pub all_left_of : (P : Kept → Type 0) (key : List ℕ) (need : ℕ) (front es : List Kept) → AllByRecursion P es → AllByRecursion P (left_of key need front es)
all_left_of P key need front [] all = tt
all_left_of P key need front (e ∷ es) all =
    elim (stays key need front e es) as (λ b. AllByRecursion P (cond b (e ∷ left_of key need (front ++ e ∷ []) es) (left_of key need (front ++ e ∷ []) es))) [
      | true ↦ (all.0, all_left_of P key need (front ++ e ∷ []) es all.1)
      | false ↦ all_left_of P key need (front ++ e ∷ []) es all.1
    ]

pub all_put : (P : Kept → Type 0) (new : Kept) (es : List Kept) → P new → AllByRecursion P es → AllByRecursion P (put new es)
all_put P new [] this all = (this, tt)
all_put P new (e ∷ es) this all =
    elim (has_key new.key e) as (λ b. AllByRecursion P (cond b (new ∷ es) (e ∷ put new es))) [
      | true ↦ (this, all.1)
      | false ↦ (all.0, all_put P new es this all.1)
    ]

pub all_without : (P : Kept → Type 0) (key : List ℕ) (es : List Kept) → AllByRecursion P es → AllByRecursion P (without key es)
all_without P key [] all = tt
all_without P key (e ∷ es) all =
    elim (has_key key e) as (λ b. AllByRecursion P (cond b es (e ∷ without key es))) [
      | true ↦ all.1
      | false ↦ (all.0, all_without P key es all.1)
    ]

-- each key once
pub distinct_left_of : (key : List ℕ) (need : ℕ) (front es : List Kept) → Distinct es → Distinct (left_of key need front es)
distinct_left_of key need front [] all = tt
distinct_left_of key need front (e ∷ es) all =
    elim (stays key need front e es) as (λ b. Distinct (cond b (e ∷ left_of key need (front ++ e ∷ []) es) (left_of key need (front ++ e ∷ []) es))) [
      | true ↦ (all_left_of (Other e.key) key need (front ++ e ∷ []) es all.0, distinct_left_of key need (front ++ e ∷ []) es all.1)
      | false ↦ distinct_left_of key need (front ++ e ∷ []) es all.1
    ]

pub distinct_filter : (test : Kept → Bool) (es : List Kept) → Distinct es → Distinct (filter test es)
distinct_filter test [] all = tt
distinct_filter test (e ∷ es) all =
    elim (test e) as (λ b. Distinct (cond b (e ∷ filter test es) (filter test es))) [
      | true ↦ (all_filter (Other e.key) test es all.0, distinct_filter test es all.1)
      | false ↦ distinct_filter test es all.1
    ]

pub distinct_without : (key : List ℕ) (es : List Kept) → Distinct es → Distinct (without key es)
distinct_without key [] all = tt
distinct_without key (e ∷ es) all =
    elim (has_key key e) as (λ b. Distinct (cond b es (e ∷ without key es))) [
      | true ↦ all.1
      | false ↦ (all_without (Other e.key) key es all.0, distinct_without key es all.1)
    ]

pub distinct_put : (new : Kept) (es : List Kept) → Distinct es → Distinct (put new es)
distinct_put new [] all = (tt, tt)
distinct_put new (e ∷ es) all =
    elim (has_key new.key e) as (λ b. has_key new.key e ≡ b → Distinct (cond b (new ∷ es) (e ∷ put new es))) [
      | true ↦ λ h. (subst (λ key. AllByRecursion (Other key) es) (same_key new.key e h) all.0, all.1)
      | false ↦ λ h. (all_put (Other e.key) new es (other_way new e h) all.0, distinct_put new es all.1)
    ] refl

-- sums of costs
others_all : (key : List ℕ) (es : List Kept) → AllByRecursion (Other key) es → others key es ≡ total es
others_all key [] all = refl
others_all key (e ∷ es) all =
    let first : other_cost key e ≡ entry_cost e = ap (λ b. cond b 0 (entry_cost e)) all.0 in
    let later = others_all key es all.1 in
    omega arith

pub total_put : (new : Kept) (es : List Kept) → Distinct es → total (put new es) ≡ others new.key es + entry_cost new
total_put new [] all = omega arith
total_put new (e ∷ es) all =
    elim (has_key new.key e) as (λ b. has_key new.key e ≡ b → total (cond b (new ∷ es) (e ∷ put new es)) ≡ (cond b 0 (entry_cost e) + others new.key es) + entry_cost new) [
      | true ↦ λ h. let same = others_all new.key es (subst (λ key. AllByRecursion (Other key) es) (same_key new.key e h) all.0) in omega arith
      | false ↦ λ h. let later = total_put new es all.1 in omega arith
    ] refl

pub total_without : (key : List ℕ) (es : List Kept) → total (without key es) ≤ total es
total_without key [] = omega arith
total_without key (e ∷ es) =
    elim (has_key key e) as (λ b. total (cond b es (e ∷ without key es)) ≤ entry_cost e + total es) [
      | true ↦ omega arith
      | false ↦ let later = total_without key es in omega arith
    ]

-- what is left of a valid state is valid
pub valid_filter : (spec : ZoneSpec) (test : Kept → Bool) (es : List Kept) (before moment : ℕ) → IsValid spec (state_of es before) → moment < 2 ^ 53 → IsValid spec (state_of (filter test es) moment)
valid_filter spec test es before moment valid small = record {
  moment = small;
  within = let less = total_within test es in let within = valid.within in omega arith;
  keys = distinct_filter test es valid.keys;
  values = all_filter (λ e. IsValue spec.numeric e.value) test es valid.values;
}

pub valid_without : (spec : ZoneSpec) (key : List ℕ) (es : List Kept) (moment : ℕ) → IsValid spec (state_of es moment) → IsValid spec (state_of (without key es) moment)
valid_without spec key es moment valid = record {
  moment = valid.moment;
  within = let less = total_without key es in let within = valid.within in omega arith;
  keys = distinct_without key es valid.keys;
  values = all_without (λ e. IsValue spec.numeric e.value) key es valid.values;
}

pub valid_none : (spec : ZoneSpec) (moment : ℕ) → moment < 2 ^ 53 → IsValid spec (state_of [] moment)
valid_none spec moment small = record { moment = small; within = omega arith; keys = tt; values = tt }

pub fits_alone : (spec : ZoneSpec) (es : List Kept) (key : List ℕ) (value : DictValue) → can_store spec es key value ≡ true → cost key value ≤ spec.limit
fits_alone spec es key value fits = grind (arith, nat_tests)

-- so is a state with a new entry, for which others went
pub valid_put : (spec : ZoneSpec) (new : Kept) (need moment : ℕ) (es : List Kept) → IsValid spec (state_of es moment) → IsValue spec.numeric new.value → others new.key (left new.key need es) + entry_cost new ≤ spec.limit → IsValid spec (state_of (put new (left new.key need es)) moment)
valid_put spec new need moment es valid value within = record {
  moment = valid.moment;
  within = let same = total_put new (left new.key need es) (distinct_left_of new.key need [] es valid.keys) in omega arith;
  keys = distinct_put new (left new.key need es) (distinct_left_of new.key need [] es valid.keys);
  values = all_put (λ e. IsValue spec.numeric e.value) new (left new.key need es) value (all_left_of (λ e. IsValue spec.numeric e.value) new.key need [] es valid.values);
}
