use Rattle.std.proofs.Common.{sym, ◌∙◌}
use Rattle.njs_clone.specs.Content.{content}
use Rattle.njs_clone.specs.StandsFor.{plain_objects}
use Rattle.njs_meaning.specs.Chains.{chain}
use Rattle.njs_members.proofs.Listing.{hidden-behind}
use Rattle.njs_members.proofs.names.is_hidden.Goals as goal

pub returns-else-has_own : goal.returns-else-has_own
returns-else-has_own c =
    let h = c.args.machine.now in
    hidden-behind c.args.name.now (content h.texts c.args.walk.base) (chain c.args.walk.depth (plain_objects h) c.args.walk.start.0) c.has_within.result
    (sym c.has_own.ensures.named ∙ c.if-has_own.false) c.has_within.ensures
