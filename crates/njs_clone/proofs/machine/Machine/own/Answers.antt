use Rattle.std.proofs.Common.{◌≡◌, Some, subst, rules}
use Rattle.njs_value.specs.declared.Flags.{Flags}
use Rattle.njs_value.specs.declared.Value.{Value}
use Rattle.njs_shared.specs.Fits.{FitsValue}
use Rattle.njs_shared.specs.Heap.{sizes}
use Rattle.njs_props.specs.Props.{property}
use Rattle.njs_clone.proofs.Kept.{property-kept}
use Rattle.njs_clone.proofs.machine.Machine.own.Goals as goal

pub returns-clause-fits : goal.returns-clause-fits
returns-clause-fits c x is =
    let found : property c.args.name.now c.object.result.now.props ≡ Some (record { value = c.in_ok-value.value.now; flags = c.in_ok-value.flags }) = search rules in
    let same : (c.in_ok-value.value.now, c.in_ok-value.flags) ≡ x = cc in
    subst (λ (p : Value × Flags). FitsValue (sizes c.args.self.now) p.0) same
    (property-kept (FitsValue (sizes c.args.self.now)) c.args.name.now c.object.result.now.props c.object.ensures.fits.props _ found)
