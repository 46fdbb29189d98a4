use Rattle.dict_pass.proofs.Calls.{is_within, specs_stay, asks_later, asks_calls}
use Rattle.dict_pass.proofs.pass.PassDicts.call.Goals as goal

pub is_caller-requires : goal.is_caller-requires
is_caller-requires g c = is_within c.args.self.now c.args.zone c.requires.asked.spec c.requires.asked.exists

pub returns-clause-specs : goal.returns-clause-specs
returns-clause-specs g c = specs_stay c.args.self.now c.ask.new.self c.args.zone c.args.op c.args.reading c.ask.result c.ask.ensures.asks

pub returns-clause-calls : goal.returns-clause-calls
returns-clause-calls g c = asks_calls c.args.self.now c.ask.new.self c.args.zone c.args.op c.args.reading c.ask.result c.is_caller.ensures c.ask.ensures.asks

pub returns-clause-later : goal.returns-clause-later
returns-clause-later g c = asks_later c.args.self.now c.ask.new.self c.args.zone c.args.op c.args.reading c.ask.result c.ask.ensures.asks
