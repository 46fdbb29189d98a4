use Rattle.std.proofs.Common.{subst, rules}
use Rattle.njs_value.specs.Number.{IsSafe}
use Rattle.njs_code.specs.declared.op.Kind.{Kind}
use Rattle.njs_code.specs.Facts.{Names}
use Rattle.njs_interp.proofs.Moves.{number_gives}
use Rattle.njs_interp.proofs.operands.number.Goals as goal

pub give-requires-clause-gives : goal.give-requires-clause-gives
give-requires-clause-gives c = number_gives c.args.number _ c.requires.kind

pub give-requires-clause-fits : goal.give-requires-clause-fits
unfolding Names
give-requires-clause-fits c =
    let at = c.args.at.now in
    let safe : IsSafe c.args.number = subst (λ (k : Kind). Names at.functions.now at.function.now.slots at.op.now.depth.scopes k) c.requires.kind c.requires.ready.names in
    search rules
