use Rattle.std.proofs.Common.{◌≡◌, ◌-◌, ◌∙◌, sym, ap, length, reverse, take, drop, ◌++◌, arith}
use Rattle.std.proofs.lemmas.List.{length-reverse, length-drop}
use Rattle.njs_interp.proofs.Piles.{split_reverse}
use Rattle.njs_interp.proofs.pile.Pile.take_top.Goals as goal

pub returns : goal.returns
returns g c =
    let items = c.self.inside.items.items in
    let keep = c.len.result - c.args.n in
    let told = c.in_ok-split_off.ensures in
    let whole : length c.args.self.now ≡ length items = ap length (sym c.self.view_is) ∙ length-reverse items in
    let counted : c.len.result ≡ length items = c.len.ensures ∙ c.self.inside.items.ok.0 in
    let dropped : length (drop keep items) ≡ c.args.n = omega (arith, length-drop keep items, whole, counted, c.requires) in
    (sym c.self.view_is ∙ split_reverse keep items ∙ ap (λ l. reverse l ++ reverse (take keep items)) (sym told.tail) ∙ ap (λ l. reverse c.in_ok-split_off.field-0.items ++ reverse l) (sym told.items), ap length told.tail ∙ dropped)
