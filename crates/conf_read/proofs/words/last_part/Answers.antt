use Rattle.std.proofs.Common.{arith}
use Rattle.conf_read.proofs.Bounds.{last_part_whole}
use Rattle.conf_read.proofs.words.last_part.Goals as goal

pub loop-rest-init : goal.loop-rest-init
loop-rest-init c = record { last = last_part_whole c.args.text.now; few = omega arith; left = omega arith }
