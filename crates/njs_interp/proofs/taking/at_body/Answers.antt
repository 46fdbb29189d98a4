use Rattle.njs_interp.proofs.Going.{body_past, body_goes}
use Rattle.njs_interp.proofs.taking.at_body.Goals as goal

pub returns-then-is_one_of-clause-goes : goal.returns-then-is_one_of-clause-goes
returns-then-is_one_of-clause-goes c = body_past c.args.labels.now c.args.past

pub returns-then-is_one_of-2-clause-goes : goal.returns-then-is_one_of-2-clause-goes
returns-then-is_one_of-2-clause-goes c = body_goes c.args.labels.now c.args.past
