use Rattle.std.proofs.Common.{sym, ap, ◌∙◌, arith, length}
use Rattle.std.proofs.lemmas.Bool.{eqb-true, eq-eqb}
use Rattle.std.proofs.lemmas.List.{drop_all, length-drop}
use Rattle.http_in.proofs.head.is_nothing.Goals as goal

pub returns : goal.returns
returns c =
    let bytes = c.args.bytes.now in (
      λ all. c.empty_lines.ensures.rest ∙ drop_all c.empty_lines.result bytes (let is = eqb-true _ _ all in omega arith),
      λ none. eq-eqb _ _ (let rest = ap length (sym none ∙ c.empty_lines.ensures.rest) ∙ length-drop c.empty_lines.result bytes in let within = c.empty_lines.ensures.within in omega arith),
    )
