use Rattle.dict_pass.proofs.Calls.{is_within}
use Rattle.dict_pass.proofs.tests.known.Goals as goal

pub made-requires : goal.made-requires
made-requires g c = is_within c.args.pass.now 0 c.requires.0 c.requires.1
