use Rattle.std.proofs.Common.{◌∙◌, ap, reverse}
use Rattle.njs_interp.proofs.Piles.{cut_reverse}
use Rattle.njs_interp.proofs.lead.cut_to.Goals as goal

pub returns : goal.returns
returns c = record {
  operands = c.cut.ensures;
  scopes = c.cut-2.ensures;
  lists = ap reverse c.truncate.ensures.items ∙ cut_reverse c.args.depth.now.lists c.args.stacks.now.lists.items;
  endings = c.cut-3.ensures;
}
