use Rattle.std.proofs.Common.{refl}
use Rattle.std.specs.Str.{chars}
use Rattle.njs_convert.proofs.FirstSteps.{stands_after}
use Rattle.njs_convert.proofs.first.first_heap.Goals as goal

pub returns-clause-stands : goal.returns-clause-stands
unfolding chars
returns-clause-stands g c =
    stands_after c.args.machine.now c.make_objects.new.machine c.first_scope.new.self _ c.args.slots c.requires.objects c.in_ok-make_objects.ensures.made
    c.in_ok-first_scope.ensures.ok refl
