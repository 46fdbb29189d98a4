use Rattle.njs_expr.proofs.tables.joint_of.Goals as goal

pub returns-in-Mark : goal.returns-in-Mark
returns-in-Mark c = rw c.in-Mark.is (c.mark_joint.ensures c.args.with_in)
