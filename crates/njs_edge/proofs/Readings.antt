-- One more reading of a list.
use Rattle.std.proofs.Common.{◌≡◌, ◌≤◌, ◌<◌, ◌+◌, ◌-◌, ◌^◌, ◌∷◌, [], ℕ, List, Some, None, if◌then◌else◌, sym, ap, subst, inl, inr, arith}
use Rattle.std.proofs.lemmas.Bool.{cases_lt, lt-ltb, le-ltb}
use Rattle.std.proofs.lemmas.List.FromFn.{map-range_with_len_more, length-map-range_with_len}
use Rattle.njs_edge.specs.Causes.{next_count}
use Rattle.njs_edge.specs.Clock.{Reads, reading_at, first_readings, told_readings}

told_below : (list : List ℕ) (n : ℕ) → n < 2 ^ 64 - 1 → told_readings list n ≡ Some (first_readings list n)
told_below list n below = ap (λ test. if test then Some (first_readings list n) else None) (lt-ltb n (2 ^ 64 - 1) below)

told_past : (list : List ℕ) (n : ℕ) → 2 ^ 64 - 1 ≤ n → told_readings list n ≡ None
told_past list n past = ap (λ test. if test then Some (first_readings list n) else None) (le-ltb n (2 ^ 64 - 1) past)

reads_one : (list : List ℕ) (n : ℕ) → Reads (Some (first_readings list n)) (told_readings list (n + 1)) (reading_at list n ∷ [])
reads_one list n =
    elim (cases_lt (n + 1) (2 ^ 64 - 1)) [
      | inl below ↦ subst (λ told. Reads (Some (first_readings list n)) told (reading_at list n ∷ [])) (sym (told_below list (n + 1) below))
          (map-range_with_len_more (reading_at list) 0 n n (omega arith))
      | inr past ↦ subst (λ told. Reads (Some (first_readings list n)) told (reading_at list n ∷ [])) (sym (told_past list (n + 1) past))
          (subst (λ k. 2 ^ 64 - 1 ≤ k + 1) (sym (length-map-range_with_len (reading_at list) 0 n)) past)
    ]

-- a clock's answer, where the count stands still at its last value
pub told_more : (list : List ℕ) (n next reading : ℕ) → n ≤ 2 ^ 64 - 1 → next ≡ next_count n → reading ≡ reading_at list n
    → Reads (told_readings list n) (told_readings list next) (reading ∷ [])
told_more list n next reading small is_next is_reading =
    subst (λ r. Reads (told_readings list n) (told_readings list next) (r ∷ [])) (sym is_reading)
    (elim (cases_lt n (2 ^ 64 - 1)) [
      | inl below ↦ subst (λ told. Reads told (told_readings list next) (reading_at list n ∷ [])) (sym (told_below list n below))
          (subst (λ k. Reads (Some (first_readings list n)) (told_readings list k) (reading_at list n ∷ [])) (omega arith) (reads_one list n))
      | inr past ↦ subst (λ told. Reads told (told_readings list next) (reading_at list n ∷ [])) (sym (told_past list n past))
          (subst (λ told. Reads None told (reading_at list n ∷ [])) (sym (told_past list next (omega arith))) tt)
    ])
