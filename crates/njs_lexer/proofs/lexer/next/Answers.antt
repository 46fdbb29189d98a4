use Rattle.std.proofs.Common.{arith, length, length-drop, ap, ◌∙◌}
use Rattle.njs_lexer.proofs.Cutting.{past_short, rest_short, next_token}
use Rattle.njs_lexer.proofs.lexer.next.Goals as goal

pub overflow_sub-result : goal.overflow_sub-result
overflow_sub-result c =
    let short = past_short c.range_from.result.now c.past_blanks-past.result.rest.now c.range_from.utf8 c.past_blanks-past.ensures.utf8 c.past_blanks-past.ensures.past.blanks in
    let l = ap length c.range_from.ensures.value ∙ length-drop c.args.at c.as_str-whole.result.now in
    omega (arith, short, l)

pub overflow_sub-result-in-Ok : goal.overflow_sub-result-in-Ok
overflow_sub-result-in-Ok c =
    let short = past_short c.range_from.result.now c.past_blanks-past.result.rest.now c.range_from.utf8 c.past_blanks-past.ensures.utf8 c.past_blanks-past.ensures.past.blanks in
    let shorter = rest_short c.past_blanks-past.result.rest.now c.in-Ok.rest.now c.in-Ok.kind c.past_blanks-past.ensures.utf8 c.in-Ok.ensures.utf8 c.in-Ok.ensures.token in
    let l = ap length c.range_from.ensures.value ∙ length-drop c.args.at c.as_str-whole.result.now in
    omega (arith, short, shorter, l)

pub returns-in-Ok : goal.returns-in-Ok
returns-in-Ok c =
    next_token c.args.text.now c.args.at c.args.line c.past_blanks-past.result.lines c.line_after.result c.as_str-whole.result.now c.range_from.result.now c.past_blanks-past.result.rest.now c.in-Ok.rest.now c.in-Ok.kind c.as_str-whole.ensures
    c.range_from.ensures.value c.past_blanks-past.ensures.utf8 c.in-Ok.ensures.utf8 c.past_blanks-past.ensures.past c.in-Ok.ensures.token c.line_after.ensures
