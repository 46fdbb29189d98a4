use Rattle.std.proofs.Common.{sym, subst, arith}
use Rattle.std.proofs.lemmas.List.{take_rest}
use Rattle.http_in.specs.Deciding.{PassesOver}
use Rattle.http_in.proofs.Scanning.{passes_over_more, stops_at, all_passed}
use Rattle.http_in.proofs.head.empty_lines.Goals as goal

pub returns-then-not-is_passed-clause-rest : goal.returns-then-not-is_passed-clause-rest
returns-then-not-is_passed-clause-rest c =
    let stop = rw take_rest at c.if-not-is_passed.ensures in
    stops_at c.args.bytes.now c.loop-index.index c.loop-index-test.true (sym stop) c.loop-index.invariant

pub loop-index-preserved : goal.loop-index-preserved
loop-index-preserved c =
    let pass = rw take_rest at c.if-not-is_passed.ensures in
    passes_over_more c.args.bytes.now c.loop-index.index c.loop-index-test.true (sym pass) c.loop-index.invariant

pub returns-clause-rest : goal.returns-clause-rest
returns-clause-rest c = all_passed c.args.bytes.now (subst (λ i. PassesOver i c.args.bytes.now) (omega arith) c.loop-index.invariant)
