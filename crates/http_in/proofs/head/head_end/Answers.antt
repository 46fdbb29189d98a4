use Rattle.std.proofs.Common.{arith, subst}
use Rattle.std.proofs.lemmas.List.{take_rest, length-drop}
use Rattle.std.proofs.lemmas.Bool.{eq-eqb, ne_eqb}
use Rattle.http_in.specs.Deciding.{Passes}
use Rattle.http_in.proofs.Scanning.{passes_byte, passes_line, ends_here, open_here, no_end}
use Rattle.http_in.proofs.head.head_end.Goals as goal
use Rattle.http_in.proofs.head.head_end.Goals.{then-byte-eq10+in-Other, else-byte-eq10}

pub returns-in-Empty : goal.returns-in-Empty
returns-in-Empty c =
    let empty = rw take_rest at c.in-Empty.ensures in (
      (let fits = simp length-drop at empty.0 in omega arith),
      ends_here c.args.bytes.now c.loop-index.index c.in-Empty.len c.loop-index-test.true (eq-eqb _ _ c.if-byte-eq10.true) empty.1 c.loop-index.invariant,
    )

pub returns-in-Open : goal.returns-in-Open
returns-in-Open c =
    let line = rw take_rest at c.in-Open.ensures in (
      omega arith,
      open_here c.args.bytes.now c.loop-index.index c.loop-index-test.true line.0 line.1 c.loop-index.invariant,
      c.loop-index.invariant,
    )

pub loop-index-preserved : goal.loop-index-preserved
loop-index-preserved c =
    elim c.if-byte-eq10.branch [
      | then-byte-eq10+in-Other w ↦ passes_line c.args.bytes.now c.loop-index.index c.loop-index-test.true (simp take_rest at w.in-Other.ensures) c.loop-index.invariant
      | else-byte-eq10 w ↦ passes_byte c.args.bytes.now c.loop-index.index c.loop-index-test.true (ne_eqb _ _ w.if-byte-eq10.false) c.loop-index.invariant
    ]

pub returns : goal.returns
returns c =
    let passes = subst (λ i. Passes i c.args.bytes.now) (omega arith) c.loop-index.invariant in
    (omega arith, no_end c.args.bytes.now passes, passes)
