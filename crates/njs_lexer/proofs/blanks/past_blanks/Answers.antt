use Rattle.std.proofs.Common.{arith, rules, refl}
use Rattle.std.specs.Str.{chars}
use Rattle.njs_lexer.proofs.Texts.{chars_short}
use Rattle.njs_lexer.proofs.Blocks.{blanks_more, blanks_all}
use Rattle.njs_lexer.proofs.blanks.past_blanks.Goals as goal

pub overflow_add-lines : goal.overflow_add-lines
overflow_add-lines c =
    let p = blanks_more (chars c.args.text.now) (chars c.loop-past.rest.now) (chars c.in-Some.past.rest.now) c.loop-past.lines c.in-Some.past.lines c.loop-past.invariant.1 c.in-Some.ensures.passed.0 c.in-Some.ensures.passed.1 in
    let short = chars_short c.args.text.now c.utf8.text in
    let few = p.few in
    first_of (omega (arith, few, short), omega (arith, few, short, c.type_inv.text), search (rules, few, short))

pub loop-past-preserved : goal.loop-past-preserved
loop-past-preserved c =
    (c.in-Some.ensures.utf8, blanks_more (chars c.args.text.now) (chars c.loop-past.rest.now) (chars c.in-Some.past.rest.now) c.loop-past.lines c.in-Some.past.lines c.loop-past.invariant.1 c.in-Some.ensures.passed.0 c.in-Some.ensures.passed.1)

pub returns-clause-past : goal.returns-clause-past
returns-clause-past c = blanks_all (chars c.args.text.now) (chars c.loop-past.rest.now) c.loop-past.lines c.loop-past.invariant.1 (c.in_default.ensures.none refl)
