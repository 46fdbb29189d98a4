use Rattle.dict_pass.proofs.Calls.{one_made}
use Rattle.dict_pass.proofs.tests.first_get.Goals as goal

pub returns : goal.returns
returns g c = one_made c.args.pass.now c.ask.new.self 0 _ 5 c.ask.result c.requires.none c.ask.ensures.asks
