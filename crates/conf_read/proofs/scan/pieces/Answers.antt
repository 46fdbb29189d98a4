use Rattle.std.proofs.Common.{ℕ, ◌≡◌, ◌∷◌, ◌∙◌, List, drop, suc, ap, sym, drop-cons}
use Rattle.std.proofs.lemmas.Result.{err_from_is_err_and}
use Rattle.conf_read.specs.Characters.{last_line}
use Rattle.conf_read.specs.Scan.{scanned, pieces_of}
use Rattle.conf_read.proofs.Reading.{gives_error}
use Rattle.conf_read.proofs.scan.pieces.Goals as goal

pub returns-in_err-step : goal.returns-in_err-step
returns-in_err-step c =
    let p = err_from_is_err_and c.from_residual.result c.from_residual.ensures.1 in
    let rest = drop (suc c.loop-c.c-index) c.args.text.now in
    let cut : drop c.loop-c.c-index c.args.text.now ≡ c.c-item.result ∷ rest = drop-cons c.args.text.now c.loop-c.c-index c.c-item.result c.loop-c-test.true ∙ ap (λ x. x ∷ rest) (sym c.c-item.is) in
    rw (p.1, p.2)
    (gives_error (Unit {0}) (λ s. scanned c.loop-c.scanner (c.c-item.result ∷ s)) (λ s. scanned c.step.new.self s) (pieces_of c.args.text.now) (last_line c.args.text.now) c.in_err-step.field-0.0 rest
    (ap (scanned c.loop-c.scanner) (sym cut) ∙ c.loop-c.invariant.given) c.in_err-step.ensures.reads)
