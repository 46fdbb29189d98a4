use Rattle.std.proofs.Common.{◌∙◌}
use Rattle.conf_read.proofs.Listing.{walked_on}
use Rattle.conf_read.proofs.walk.judge_all.Goals as goal

pub loop-place-preserved : goal.loop-place-preserved
loop-place-preserved c =
    walked_on c.args.imports.now c.loop-place.walk c.step.new.self c.args.pieces.now c.loop-place.place c.index-pieces-place.result c.loop-place-test.true c.index-pieces-place.is c.in_ok-step.ensures ∙ c.loop-place.invariant
