use Rattle.std.proofs.Common.{get_or, refl, arith}
use Rattle.njs_value.specs.declared.Value.TheVariants.{Undefined}
use Rattle.njs_interp.proofs.Numbered.{next-number}
use Rattle.njs_interp.proofs.arguments.numbered.Goals as goal

pub loop-place-preserved : goal.loop-place-preserved
loop-place-preserved c =
    let args = c.args.args.now in
    let i = c.loop-place.place in
    next-number args i (get_or args i Undefined) c.loop-place.props c.insert.new.self c.in_ok-name.name (omega arith) c.requires refl c.in_ok-name.ensures c.loop-place.invariant c.in_ok-insert.ensures.ok
