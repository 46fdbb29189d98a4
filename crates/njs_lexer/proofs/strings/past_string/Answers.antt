use Rattle.std.proofs.Common.{sym}
use Rattle.std.specs.Str.{chars}
use Rattle.njs_lexer.proofs.Runs.{number_same, number_other}
use Rattle.njs_lexer.proofs.StringEnds.{string_begins_here, inside_closed, inside_bad, inside_more, inside_over, inside_line, inside_short}
use Rattle.njs_lexer.proofs.strings.past_string.Goals as goal

pub loop-c-init : goal.loop-c-init
loop-c-init c = (c.utf8.text, string_begins_here c.args.quote (chars c.args.text.now))

pub returns-then-c-quote-clause-passed : goal.returns-then-c-quote-clause-passed
returns-then-c-quote-clause-passed c =
    inside_closed c.args.quote (chars c.args.text.now) (chars c.loop-c.rest.now) (chars c.behind-after.result.now) c.in-Some.c c.loop-c.invariant.1 (sym c.in-Some.ensures) (number_same c.in-Some.c c.args.quote c.if-c-quote.true) c.behind-after.ensures

pub returns-then-is_line_end-clause-bad : goal.returns-then-is_line_end-clause-bad
returns-then-is_line_end-clause-bad c = inside_line c.args.quote (chars c.args.text.now) (chars c.loop-c.rest.now) c.in-Some.c c.loop-c.invariant.1 (sym c.in-Some.ensures) (number_other c.in-Some.c c.args.quote c.if-c-quote.false) (sym c.if-is_line_end.ensures)

pub returns-clause-bad : goal.returns-clause-bad
returns-clause-bad c = inside_over c.args.quote (chars c.args.text.now) (chars c.loop-c.rest.now) c.loop-c.invariant.1 (sym c.in_default.ensures)

pub loop-c-smaller : goal.loop-c-smaller
loop-c-smaller c = inside_short (chars c.loop-c.rest.now) (chars c.behind-after.result.now) (chars c.in-Ok.next.now) c.in-Some.c c.in-Ok.ensures.passed.0 (sym c.in-Some.ensures) c.behind-after.ensures c.in-Ok.ensures.passed.2

pub loop-c-preserved : goal.loop-c-preserved
loop-c-preserved c = (
  c.in-Ok.ensures.utf8,
  inside_more c.args.quote (chars c.args.text.now) (chars c.loop-c.rest.now) (chars c.behind-after.result.now) (chars c.in-Ok.next.now) c.in-Some.c c.in-Ok.ensures.passed.0 c.loop-c.invariant.1 (sym c.in-Some.ensures) c.behind-after.ensures
      (number_other c.in-Some.c c.args.quote c.if-c-quote.false) (sym c.if-is_line_end.ensures) c.in-Ok.ensures.passed.1 c.in-Ok.ensures.passed.2,
)

pub returns-in-Err-clause-bad : goal.returns-in-Err-clause-bad
returns-in-Err-clause-bad c =
    inside_bad c.args.quote (chars c.args.text.now) (chars c.loop-c.rest.now) (chars c.behind-after.result.now) c.in-Some.c c.in-Err.fault c.loop-c.invariant.1 (sym c.in-Some.ensures) c.behind-after.ensures
    (number_other c.in-Some.c c.args.quote c.if-c-quote.false) (sym c.if-is_line_end.ensures) c.in-Err.ensures.bad.0 c.in-Err.ensures.bad.1
