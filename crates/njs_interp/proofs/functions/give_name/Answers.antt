use Rattle.njs_interp.proofs.NamedScopes.{slot-named, slot-grown, grown-same}
use Rattle.njs_interp.proofs.functions.give_name.Goals as goal

pub returns-in_err-scope_put-clause-grown : goal.returns-in_err-scope_put-clause-grown
returns-in_err-scope_put-clause-grown g c = grown-same c.args.machine.now c.scope_put.new.self c.in_err-scope_put.ensures.err

pub returns-clause-told : goal.returns-clause-told
returns-clause-told g c = slot-named c.args.machine.now c.args.scope.0 c.args.function c.scope_put.new.self c.in_ok-scope_put.ensures.ok

pub returns-clause-grown : goal.returns-clause-grown
returns-clause-grown g c = slot-grown c.args.machine.now c.args.scope.0 c.args.function c.scope_put.new.self c.in_ok-scope_put.ensures.ok
