use Rattle.njs_code.specs.Effects.{depth_left}
use Rattle.njs_interp.proofs.Leading.{OutwardFrom, address}
use Rattle.njs_interp.proofs.lead.outward.Given as goal

-- every run that ends so is led on from here, where the parts were left that don't take it up
abbrev pub invariant-loop-around : goal.invariant-loop-around
invariant-loop-around l =
    let at = l.at in OutwardFrom at.function.now.ops l.place (depth_left at.op.now.kind at.op.now.depth) at.op.now.around l.around l.ending

abbrev pub decreases-loop-around : goal.decreases-loop-around
decreases-loop-around l = address l.around
