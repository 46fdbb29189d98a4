-- Ways that lead to earlier places end.
use Rattle.std.proofs.Common.{◌≡◌, ℕ, zero, suc, ◌<◌, ◌+◌, List, [], ◌∷◌, Option, Some, Bool, true, sym, ap, ◌∙◌, arith, slice_get}
use Rattle.std.specs.Prelude.{nat_lt, ◌&&◌}
use Rattle.std.specs.Option.{option_map_or}
use Rattle.std.proofs.lemmas.Bool.{and_parts, ltb-true}
use Rattle.njs_value.specs.Ends.{Ends}

-- each way from the n-th place on leads to an earlier one
abbrev pub leads_back : ℕ → Option ℕ → Bool
leads_back n way = option_map_or (λ next. nat_lt next n) way true

abbrev pub all_lead_back : ℕ → List (Option ℕ) → Bool
all_lead_back n [] = true
all_lead_back n (way ∷ ways) = leads_back n way && all_lead_back (n + 1) ways

falls : (n : ℕ) (ways : List (Option ℕ)) → all_lead_back n ways ≡ true → (place next : ℕ) → slice_get ways place ≡ Some (Some next) → next < n + place
falls n [] e place next at = cc
falls n (way ∷ ways) e zero next at =
    let is : way ≡ Some next = cc in
    let parts = and_parts (leads_back n way) (all_lead_back (n + 1) ways) e in
    let lower = ltb-true next n (ap (leads_back n) (sym is) ∙ parts.0) in
    omega arith
falls n (way ∷ ways) e (suc place) next at =
    let parts = and_parts (leads_back n way) (all_lead_back (n + 1) ways) e in
    let lower = falls (n + 1) ways parts.1 place next at in
    omega arith

pub ends : (ways : List (Option ℕ)) → all_lead_back 0 ways ≡ true → Ends ways
ends ways e = record { rank = λ n. n; falls = λ place next at. let lower = falls 0 ways e place next at in omega arith }
