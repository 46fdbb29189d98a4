use Rattle.std.proofs.Common.{◌≡◌, false, max, ap, ◌∙◌, arith}
use Rattle.std.proofs.lemmas.Bool.Decides.{nat_tests}
use Rattle.std.specs.Prelude.{ℕ, ◌≤◌, nat_lt}
use Rattle.dict_model.specs.Zone.{done, state_of, is_live, is_after}
use Rattle.dict_model.proofs.Alls.{filter_without}
use Rattle.dict_model.proofs.laws.expired_entries_are_gone.Goals as goal

has_passed : (moment expiry : ℕ) → expiry ≤ moment → nat_lt moment expiry ≡ false
has_passed moment expiry past = grind (arith, nat_tests)

pub returns : goal.returns
returns c spec front back e expiry moment reading op expires past =
    let now = max moment reading in
    ap (λ es. done spec (state_of es now) op) (filter_without (is_live now) front e back (ap (is_after now) expires ∙ has_passed now expiry past))
