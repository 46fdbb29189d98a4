use Rattle.njs_interp.proofs.Kept.{Grown-refl}
use Rattle.njs_interp.proofs.ClosureScopes.{no-scope, scope-answer}
use Rattle.njs_interp.proofs.making.scope_for.Goals as goal

pub returns-in-None-clause-scope : goal.returns-in-None-clause-scope
returns-in-None-clause-scope g c = no-scope c.args.parent c.args.name.now c.args.machine.now c.in-None.is c.requires

pub returns-in-None-clause-grown : goal.returns-in-None-clause-grown
returns-in-None-clause-grown g c = Grown-refl c.args.machine.now

pub returns-in-Some-clause-scope : goal.returns-in-Some-clause-scope
returns-in-Some-clause-scope g c =
    scope-answer _ c.args.name.now c.args.parent c.args.machine.now c.named_scope.new.machine c.named_scope.result c.in-Some.is c.named_scope.ensures.number c.named_scope.ensures.told c.named_scope.ensures.grown
