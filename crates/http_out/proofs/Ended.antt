-- Lines one after the other.
use Rattle.std.proofs.Common.{◌≡◌, ◌<◌, ◌+◌, ℕ, List, [], ◌∷◌, ◌++◌, refl, append-nil, length, take, map, get_or, ap}
use Rattle.std.proofs.lemmas.List.Concat.{flat_map-append}
use Rattle.std.proofs.lemmas.List.{take_more, map-append}
use Rattle.http_out.specs.Message.{ended, ended_lines}
use Rattle.http_out.specs.Response.{further_line}

pub ended_lines-none : ended_lines [] ≡ []
unfolding ended_lines
ended_lines-none = refl

pub ended_lines-one : (line : List ℕ) → ended_lines (line ∷ []) ≡ ended line
unfolding ended_lines
ended_lines-one line = append-nil (ended line)

pub ended_lines-append : (xs ys : List (List ℕ)) → ended_lines (xs ++ ys) ≡ ended_lines xs ++ ended_lines ys
unfolding ended_lines
ended_lines-append xs ys = flat_map-append ended xs ys

-- the lines of the first fields, and of one more
pub further-more : (fields : List (List ℕ × List ℕ)) (i : ℕ) (d : List ℕ × List ℕ) → i < length fields
    → ended_lines (map further_line (take (i + 1) fields)) ≡ ended_lines (map further_line (take i fields)) ++ ended (further_line (get_or fields i d))
further-more fields i d h =
    rw (take_more fields i d h, map-append, ended_lines-append) (ap (λ (t : List ℕ). ended_lines (map further_line (take i fields)) ++ t) (ended_lines-one (further_line (get_or fields i d))))
