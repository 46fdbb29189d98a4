use Rattle.std.proofs.Common.{◌-◌, drop, min, sym, ap, refl, ◌∙◌}
use Rattle.std.proofs.lemmas.List.{take_rest}
use Rattle.std.proofs.lemmas.Bool.{false≢true}
use Rattle.http_in.proofs.Standing.{from_of}
use Rattle.http_in.proofs.Fronts.{nothing_here, part_here}
use Rattle.http_in.proofs.reader.Reader.end.Goals as goal

pub returns-then-nothing : goal.returns-then-nothing
returns-then-nothing c =
    let was = c.args.self.now in
    let inside = c.self.inside in
    let held = take_rest _ inside.at ∙ ap (drop inside.at) c.deref.ensures.value ∙ ap (λ k. k.held) c.self.view_is in (
      nothing_here was.given was.held c.requires (from_of was.held _ c.min.result held c.min.ensures ∙ c.is_nothing-nothing.ensures.0 c.if-nothing.true),
      record { given = ap (λ k. k.given) c.self.view_is; spent = refl },
    )

pub returns : goal.returns
returns c =
    let was = c.args.self.now in
    let inside = c.self.inside in
    let held = take_rest _ inside.at ∙ ap (drop inside.at) c.deref.ensures.value ∙ ap (λ k. k.held) c.self.view_is in (
      part_here was.given was.held c.requires
          (λ none. false≢true (sym c.if-nothing.false ∙ c.is_nothing-nothing.ensures.1 (sym (from_of was.held _ c.min.result held c.min.ensures) ∙ none))),
      record { given = ap (λ k. k.given) c.self.view_is; spent = refl },
    )
