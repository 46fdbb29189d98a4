use Rattle.njs_interp.proofs.Sorted.{members_are}
use Rattle.njs_interp.proofs.step.heap.member.Goals as goal

pub unreachable-requires : goal.unreachable-requires
unreachable-requires g c = members_are c.args.at.now.op.now.kind c.requires.family c.in_default.not-Base c.in_default.not-Get c.in_default.not-GetKept c.in_default.not-Method c.in_default.not-Put c.in_default.not-DeleteMember
