use Rattle.std.proofs.lemmas.Result.{err_from_is_err_and}
use Rattle.conf_read.proofs.Judging.{judged_refused}
use Rattle.conf_read.proofs.file.read_text.Goals as goal

pub returns-in_err-judge_all : goal.returns-in_err-judge_all
returns-in_err-judge_all c =
    let p = err_from_is_err_and c.from_residual-in_err-judge_all.result c.from_residual-in_err-judge_all.ensures.1 in
    rw (p.1, p.2)
    (judged_refused (Unit {0}) c.args.text.now c.in_ok-pieces.pieces c.as_slice.result.now c.as_slice-3.result.now c.in_ok-imports.imports c.as_slice-2.result.now c.in_err-judge_all.field-0.0
    c.in_ok-pieces.ensures c.as_slice.ensures c.in_ok-imports.ensures c.as_slice-2.ensures c.as_slice-3.ensures c.in_err-judge_all.ensures)
