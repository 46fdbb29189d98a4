use Rattle.std.proofs.Common.{◌≡◌, ◌+◌, length, reverse}
use Rattle.njs_clone.specs.Content.{content}
use Rattle.njs_clone.specs.StandsFor.{plain_objects}
use Rattle.njs_simul.specs.Step.{still_there}
use Rattle.njs_interp.proofs.lists.skip_gone.Given as goal

abbrev pub invariant-loop-turn : goal.invariant-loop-turn
invariant-loop-turn l =
    (length l.names.items + l.turn ≡ length l.fn.names.items)
    × (still_there (content l.machine.texts l.value) (plain_objects l.machine) (reverse l.names.items) ≡ still_there (content l.machine.texts l.value) (plain_objects l.machine) (reverse l.fn.names.items))
