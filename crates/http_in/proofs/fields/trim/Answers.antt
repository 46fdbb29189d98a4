use Rattle.std.proofs.Common.{◌∙◌, sym, ap, reverse, arith}
use Rattle.httparse.specs.Grammar.{trim_ows, skip_ows}
use Rattle.http_in.proofs.Found.{kept_end, no_end}
use Rattle.http_in.proofs.fields.trim.Goals as goal
use Rattle.http_in.proofs.fields.trim.Goals.{then-loop-end-test+else-is_blank, else-loop-end-test}

pub returns : goal.returns
unfolding trim_ows
returns c =
    let inner = c.trim_start-inner.result.now in
    elim c.loop-end-test.branch [
      | then-loop-end-test+else-is_blank w ↦
          kept_end inner c.loop-end.end w.loop-end-test.true c.loop-end.invariant.within (sym w.if-is_blank.ensures)
          ∙ c.loop-end.invariant.same ∙ ap (λ xs. reverse (skip_ows (reverse xs))) c.trim_start-inner.ensures
      | else-loop-end-test w ↦ no_end inner c.loop-end.end (omega arith) ∙ c.loop-end.invariant.same ∙ ap (λ xs. reverse (skip_ows (reverse xs))) c.trim_start-inner.ensures
    ]
