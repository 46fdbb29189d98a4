use Rattle.std.proofs.Common.{arith, sym, ap, ◌∙◌, drop, ◌+◌}
use Rattle.std.proofs.lemmas.List.{take_rest, length-drop}
use Rattle.http_in.specs.Head.{head_len}
use Rattle.http_in.proofs.Scanning.{passes_over_both, behind_both, begins_now, begins_at, not_begun, passes_none}
use Rattle.http_in.proofs.head.begin.Goals as goal

pub returns-then-has_begun-clause-start : goal.returns-then-has_begun-clause-start
returns-then-has_begun-clause-start c =
    let lines = rw take_rest at c.empty_lines.ensures.rest in
    let place = rw c.in-EmptyLines.is at c.requires in
    behind_both c.args.bytes.now c.in-EmptyLines.count c.empty_lines.result place.1 lines

pub returns-then-has_begun-clause-place : goal.returns-then-has_begun-clause-place
returns-then-has_begun-clause-place c =
    let passes = simp take_rest at c.empty_lines.ensures.passes in
    let within = simp (take_rest, length-drop) at c.empty_lines.ensures.within in
    let begun = rw take_rest at c.if-has_begun.ensures in
    let place = rw c.in-EmptyLines.is at c.requires in (
      (let before = place.0 in omega arith),
      begins_at c.args.bytes.now (c.in-EmptyLines.count + c.empty_lines.result)
          (passes_over_both c.args.bytes.now c.in-EmptyLines.count c.empty_lines.result place.1 passes) (returns-then-has_begun-clause-start c) (sym begun),
      passes_none (drop (c.in-EmptyLines.count + c.empty_lines.result) c.args.bytes.now),
    )

pub returns-else-has_begun-clause-start : goal.returns-else-has_begun-clause-start
returns-else-has_begun-clause-start c =
    let lines = rw take_rest at c.empty_lines.ensures.rest in
    let place = rw c.in-EmptyLines.is at c.requires in
    behind_both c.args.bytes.now c.in-EmptyLines.count c.empty_lines.result place.1 lines

pub returns-else-has_begun-clause-open : goal.returns-else-has_begun-clause-open
returns-else-has_begun-clause-open c =
    let begun = rw take_rest at c.if-has_begun.ensures in
    ap head_len (returns-else-has_begun-clause-start c) ∙ not_begun (drop (c.in-EmptyLines.count + c.empty_lines.result) c.args.bytes.now) (sym begun)

pub returns-in-Head-clause-start : goal.returns-in-Head-clause-start
returns-in-Head-clause-start c =
    let place = rw c.in-Head.is at c.requires in
    rw c.in-Head.is (begins_now c.args.bytes.now c.in-Head.field-0 place.1)
