use Rattle.std.proofs.Common.{◌≡◌, ◌∙◌, ap, sym, Some, slice_get, rules}
use Rattle.njs_meaning.specs.Chains.{small_letters}
use Rattle.njs_clone.proofs.Elements.{property_here, property_past}
use Rattle.njs_clone.proofs.reads.read_header.Goals as goal

pub returns-then-is_small_form : goal.returns-then-is_small_form
returns-then-is_small_form c =
    sym (sym c.loop-place.invariant ∙ property_here (small_letters c.args.name.now) c.args.props.now c.loop-place.place c.unwrap.result.0.now (record { value = c.unwrap.result.1.now; flags = c.unwrap.result.2 }) (search rules) (search rules))

pub loop-place-preserved : goal.loop-place-preserved
loop-place-preserved c =
    property_past (small_letters c.args.name.now) c.args.props.now c.loop-place.place c.unwrap.result.0.now (record { value = c.unwrap.result.1.now; flags = c.unwrap.result.2 }) (search rules) (search rules) ∙ c.loop-place.invariant
