use Rattle.std.proofs.Common.{◌≡◌, ◌-◌, ◌<◌, ◌∷◌, ◌∙◌, ap, length, reverse, arith}
use Rattle.std.specs.List.{insert}
use Rattle.std.proofs.lemmas.List.{length-reverse}
use Rattle.njs_interp.proofs.Piles.{insert_reverse}
use Rattle.njs_interp.proofs.pile.Pile.tuck.Goals as goal

pub returns-clause-ok : goal.returns-clause-ok
returns-clause-ok g c =
    let items = c.self.inside.items.items in
    let counted : c.len-last.result ≡ length items = c.len-last.ensures ∙ c.self.inside.items.ok.0 in
    let is : reverse items ≡ c.top-value.result ∷ c.top-value.ensures.0 = c.self.view_is ∙ c.top-value.ensures.1 in
    let within : c.args.under < length items = omega (arith, ap length c.self.view_is, length-reverse items, c.requires) in (
      c.top-value.result,
      c.top-value.ensures.0,
      c.top-value.ensures.1,
      ap reverse (c.in_ok-insert.ensures.items ∙ ap (λ n. insert items (n - 1 - c.args.under) c.top-value.result) counted)
          ∙ insert_reverse items c.args.under c.top-value.result c.top-value.ensures.0 is within,
    )
