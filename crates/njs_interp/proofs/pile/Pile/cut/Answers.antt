use Rattle.std.proofs.Common.{◌-◌, ◌∙◌, ap, length, reverse, drop}
use Rattle.njs_interp.proofs.Piles.{cut_reverse}
use Rattle.njs_interp.proofs.pile.Pile.cut.Goals as goal

pub returns : goal.returns
returns g c = ap reverse c.truncate.ensures.items ∙ cut_reverse c.args.n c.self.inside.items.items ∙ ap (λ l. drop (length l - c.args.n) l) c.self.view_is
