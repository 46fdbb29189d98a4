use Rattle.std.proofs.Common.{◌≡◌, subst, ap, ◌∙◌, min}
use Rattle.std.specs.Prelude.{IfOk}
use Rattle.std.specs.List.{slice_range}
use Rattle.njs_convert.proofs.Messages.{front_of}
use Rattle.njs_convert.proofs.errors.front.Goals as goal

pub returns : goal.returns
returns c =
    let name = c.args.name.now in
    subst (λ part. IfOk c.slice.result (λ text. text ≡ part)) (ap (λ k. slice_range name 0 k) c.min.ensures ∙ ap (λ n. slice_range name 0 (min n 1048000)) c.len.ensures ∙ front_of name) c.slice.ensures
