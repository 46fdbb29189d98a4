use Rattle.std.proofs.Common.{sym, subst}
use Rattle.njs_shared.specs.Fits.{FitsValue, FitsProperties}
use Rattle.njs_shared.specs.Heap.{sizes}
use Rattle.njs_shared.specs.Lengths.{HasLength}
use Rattle.njs_clone.specs.Content.{stored, written}
use Rattle.njs_clone.proofs.Fitting.{written-fits}
use Rattle.njs_clone.proofs.Kept.{first_props-kept}
use Rattle.njs_clone.proofs.Lengths.{first_keeps}
use Rattle.njs_clone.proofs.machine.Machine.new_object.Goals as goal

pub new_object_with-requires-clause-props : goal.new_object_with-requires-clause-props
new_object_with-requires-clause-props g c =
    let n = sizes c.args.self.now in
    subst (FitsProperties n) (sym c.in_ok-props.ensures) (first_props-kept (FitsValue n) stored written (written-fits n) c.args.class)

pub new_object_with-requires-clause-length : goal.new_object_with-requires-clause-length
new_object_with-requires-clause-length g c = λ is_array. subst HasLength (sym c.in_ok-props.ensures) (first_keeps c.args.class is_array)
