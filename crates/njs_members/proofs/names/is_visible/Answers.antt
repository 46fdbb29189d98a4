use Rattle.std.proofs.Common.{true, false, not, ap, sym, ◌∙◌}
use Rattle.njs_clone.specs.Content.{content}
use Rattle.njs_clone.specs.StandsFor.{plain_objects}
use Rattle.njs_members.specs.Listed.{hidden_by}
use Rattle.njs_members.proofs.Listing.{visible-is}
use Rattle.njs_members.proofs.names.is_visible.Goals as goal

pub returns-then-is_enumerable : goal.returns-then-is_enumerable
returns-then-is_enumerable c =
    let h = c.args.machine.now in
    let hidden = hidden_by (content h.texts c.args.walk.base) (plain_objects h) c.args.walk.start.0 c.args.walk.depth in
    ap not c.is_hidden.ensures ∙ sym (visible-is c.args.name.now h c.args.object.now hidden c.is_enumerable.result true c.is_enumerable.ensures c.if-is_enumerable.true)

pub returns-else-is_enumerable : goal.returns-else-is_enumerable
returns-else-is_enumerable c =
    let h = c.args.machine.now in
    let hidden = hidden_by (content h.texts c.args.walk.base) (plain_objects h) c.args.walk.start.0 c.args.walk.depth in
    c.if-is_enumerable.false ∙ sym (visible-is c.args.name.now h c.args.object.now hidden c.is_enumerable.result false c.is_enumerable.ensures c.if-is_enumerable.false)
