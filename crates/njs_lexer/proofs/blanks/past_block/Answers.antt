use Rattle.std.proofs.Common.{sym, arith, rules}
use Rattle.std.specs.Str.{chars}
use Rattle.njs_lexer.proofs.Texts.{chars_short}
use Rattle.njs_lexer.proofs.Blocks.{block_closed, passed_one, block_goes, block_open}
use Rattle.njs_lexer.proofs.blanks.past_block.Goals as goal

pub returns-then-closes-clause-closed : goal.returns-then-closes-clause-closed
returns-then-closes-clause-closed c =
    block_closed (chars c.args.text.now) (chars c.loop-c.rest.now) (chars c.behind-after.result.now) (chars c.behind-rest.result.now) c.loop-c.lines c.in-Some.c c.loop-c.invariant.1 c.loop-c.invariant.2
    (sym c.in-Some.ensures) c.behind-after.ensures (sym c.if-closes.ensures) c.behind-rest.ensures

pub overflow_add-lines : goal.overflow_add-lines
overflow_add-lines c =
    let p = passed_one (chars c.args.text.now) (chars c.loop-c.rest.now) (chars c.behind-after.result.now) c.loop-c.lines c.line_ended-lines.result c.in-Some.c c.loop-c.invariant.1 (sym c.in-Some.ensures) c.behind-after.ensures c.line_ended-lines.ensures in
    let short = chars_short c.args.text.now c.utf8.text in
    let few = p.few in
    first_of (omega (arith, few, short), omega (arith, few, short, c.type_inv.text), search (rules, few, short))

pub loop-c-preserved : goal.loop-c-preserved
loop-c-preserved c = (
  c.behind-after.utf8,
  passed_one (chars c.args.text.now) (chars c.loop-c.rest.now) (chars c.behind-after.result.now) c.loop-c.lines c.line_ended-lines.result c.in-Some.c c.loop-c.invariant.1 (sym c.in-Some.ensures) c.behind-after.ensures c.line_ended-lines.ensures,
  block_goes (chars c.args.text.now) (chars c.loop-c.rest.now) (chars c.behind-after.result.now) c.loop-c.lines c.in-Some.c c.loop-c.invariant.1 c.loop-c.invariant.2 (sym c.in-Some.ensures) c.behind-after.ensures (sym c.if-closes.ensures),
)

pub returns-clause-open : goal.returns-clause-open
returns-clause-open c = λ e. block_open (chars c.args.text.now) (chars c.loop-c.rest.now) c.loop-c.invariant.2 (sym c.in_default.ensures)
