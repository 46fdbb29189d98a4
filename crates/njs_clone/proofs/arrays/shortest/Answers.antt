use Rattle.std.proofs.Common.{rules, sym, ◌∙◌, arith}
use Rattle.njs_clone.proofs.Elements.{least_length-next}
use Rattle.njs_clone.proofs.arrays.shortest.Goals as goal

pub loop-place-preserved : goal.loop-place-preserved
loop-place-preserved c = record {
  rest = sym (least_length-next c.args.props.now c.loop-place.least c.raised-least.result c.loop-place.place c.unwrap.result.0.now (record { value = c.unwrap.result.1.now; flags = c.unwrap.result.2 }) (search rules) c.raised-least.ensures.value) ∙ c.loop-place.invariant.rest;
  small = c.raised-least.ensures.small c.loop-place.invariant.small;
}
