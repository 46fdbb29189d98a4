use Rattle.std.proofs.Common.{drop, ◌∙◌, arith}
use Rattle.std.proofs.lemmas.Grind.{common_steps}
use Rattle.njs_edge.proofs.Pieces.{taken_piece}
use Rattle.njs_edge.proofs.source.BytesInSource.read.Goals as goal

pub returns-clause-taken : goal.returns-clause-taken
returns-clause-taken c =
    taken_piece c.args.self.now.bytes.items c.args.self.now.at c.min-count.result c.copy_from_slice.new.self (drop c.min-count.result c.args.room.now)
    (c.copy_from_slice.ensures.after ∙ grind (arith, common_steps)) (c.copy_from_slice.ensures.len ∙ grind (arith, common_steps))
