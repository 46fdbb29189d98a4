-- Sizes of parts that may be missing.
use Rattle.std.proofs.Common.{◌≡◌, Option, None, Some, refl, arith}
use Rattle.njs_simul.specs.Emission.{Coded}
use Rattle.njs_simul.specs.EmissionOfStatements.{tests_if_any, does_if_any}
use Rattle.njs_gen_stmt.specs.Sized.{aside_size}

pub test_size : (a : Option Coded) → (tests_if_any a).size ≡ aside_size a
test_size None = refl
test_size (Some a) = omega arith

pub update_size : (a : Option Coded) → (does_if_any a).size ≡ aside_size a
update_size None = refl
update_size (Some a) = refl
