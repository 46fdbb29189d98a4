use Rattle.std.proofs.Common.{◌≡◌, ◌-◌, ◌<◌, length, sym, ap, subst, ◌∙◌, arith, rules, length-drop}
use Rattle.std.specs.Str.{chars}
use Rattle.njs_lexer.proofs.Texts.{chars_short}
use Rattle.njs_tree.specs.Characters.{line_ends}
use Rattle.njs_stmt.specs.Cut.{IsRest}
use Rattle.njs_stmt.proofs.LineEnds.{further_rest, whole_rest}
use Rattle.njs_stmt.proofs.Places.{ends_few}
use Rattle.njs_stmt.proofs.lines.lines_between.Goals as goal

pub overflow_add-lines : goal.overflow_add-lines
overflow_add-lines c =
    let few = ends_few (chars c.args.text.now) in
    let short = chars_short c.args.text.now c.utf8.text in
    let sofar = c.loop-here.invariant.2 in
    let here = c.first_line_end-lines.ensures.0 in
    first_of (omega (arith, few, short, sofar, here), omega (arith, few, short, sofar, here, c.type_inv.text), search (rules, few, short, sofar, here))

pub loop-here-smaller : goal.loop-here-smaller
loop-here-smaller c =
    let some = (further_rest c.loop-here.here.now c.args.rest.now c.loop-here.invariant.0 c.utf8.rest c.loop-here.invariant.1 c.loop-here-test.true).1 in
    let l : length (chars c.behind-here.result.now) ≡ length (chars c.loop-here.here.now) - 1 = ap length c.behind-here.ensures ∙ length-drop 1 (chars c.loop-here.here.now) in
    let smaller : length (chars c.behind-here.result.now) < length (chars c.loop-here.here.now) = omega (arith, some, l) in
    smaller

pub loop-here-preserved : goal.loop-here-preserved
loop-here-preserved c =
    let further = further_rest c.loop-here.here.now c.args.rest.now c.loop-here.invariant.0 c.utf8.rest c.loop-here.invariant.1 c.loop-here-test.true in
    let sofar = c.loop-here.invariant.2 in
    let here = c.first_line_end-lines.ensures.0 in
    let e = ap line_ends c.behind-here.ensures in
    (c.behind-here.utf8, subst (λ z. IsRest z (chars c.args.rest.now)) (sym c.behind-here.ensures) further.0, omega (arith, sofar, here, e))

pub returns : goal.returns
returns c =
    let same = ap line_ends (whole_rest c.loop-here.here.now c.args.rest.now c.loop-here.invariant.0 c.utf8.rest c.loop-here.invariant.1 c.loop-here-test.false) in
    let sofar = c.loop-here.invariant.2 in
    omega (arith, same, sofar)
