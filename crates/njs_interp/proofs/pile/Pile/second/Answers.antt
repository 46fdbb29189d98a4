use Rattle.std.proofs.Common.{◌≡◌, ◌-◌, ◌<◌, length, reverse, List, [], ◌∷◌, refl, sym, ap, ◌∙◌, get_or, arith}
use Rattle.std.proofs.lemmas.List.{length-reverse, get_or-reverse}
use Rattle.njs_interp.proofs.pile.Pile.second.Goals as goal

two : {T : Type 0} (ys : List T) (d : T) → 1 < length ys → (first : T) × (rest : List T) × (ys ≡ first ∷ get_or ys 1 d ∷ rest)
two [] d h = absurd (omega arith)
two (x ∷ []) d h = absurd (omega arith)
two (x ∷ (y ∷ rest)) d h = (x, rest, refl)

pub returns : goal.returns
returns g c =
    let items = c.self.inside.items.items in
    let r = c.index.result.now in
    let viewed : reverse items ≡ c.args.self.now = c.self.view_is in
    let counted : c.len.result ≡ length items = c.len.ensures ∙ c.self.inside.items.ok.0 in
    let some : 1 < length items = omega (arith, c.requires, sym (length-reverse items) ∙ ap length viewed) in
    let place : c.len.result - 2 ≡ length items - 1 - 1 = omega (arith, counted) in
    let at : r ≡ get_or (reverse items) 1 r = c.index.ensures ∙ ap (λ k. get_or items k r) place ∙ sym (get_or-reverse items 1 r some) in
    let found = two (reverse items) r (omega (arith, some, length-reverse items)) in
    (found.0, found.1, sym viewed ∙ found.2 ∙ ap (λ x. found.0 ∷ x ∷ found.1) (sym at))
