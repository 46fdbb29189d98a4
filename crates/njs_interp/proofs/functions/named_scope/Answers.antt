use Rattle.njs_interp.proofs.NamedScopes.{scope-made, scope-grown, grown-same}
use Rattle.njs_interp.proofs.functions.named_scope.Goals as goal

pub returns-in_err-made-clause-grown : goal.returns-in_err-made-clause-grown
returns-in_err-made-clause-grown g c = grown-same c.args.machine.now c.new_scope.new.self c.in_err-made.ensures.err

pub returns-clause-told : goal.returns-clause-told
returns-clause-told g c = scope-made c.args.machine.now c.new_scope.new.self c.args.parent c.in_ok-made.ensures.ok

pub returns-clause-grown : goal.returns-clause-grown
returns-clause-grown g c = scope-grown c.args.machine.now c.new_scope.new.self c.args.parent c.in_ok-made.ensures.ok
