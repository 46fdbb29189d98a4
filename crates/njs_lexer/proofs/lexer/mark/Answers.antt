use Rattle.std.proofs.Common.{sym, refl}
use Rattle.std.specs.Str.{chars}
use Rattle.njs_lexer.proofs.Cutting.{is_other, cut_mark, bad_mark}
use Rattle.njs_lexer.proofs.lexer.mark.Goals as goal

pub returns-in-Some-clause-token : goal.returns-in-Some-clause-token
returns-in-Some-clause-token c =
    let other = is_other c.args.c (chars c.behind-after.result.now) c.requires.letter c.requires.digit c.requires.quote (sym c.if-begins_fraction.ensures) (sym c.if-begins_comment.ensures) in
    cut_mark (chars c.args.text.now) (chars c.behind-after.result.now) (chars c.in-Some.rest.now) c.args.c c.in-Some.mark c.requires.blank c.requires.first c.behind-after.ensures other c.in-Some.ensures.begins.0 c.in-Some.ensures.begins.1

pub returns-in-None-clause-fault : goal.returns-in-None-clause-fault
returns-in-None-clause-fault c =
    let other = is_other c.args.c (chars c.behind-after.result.now) c.requires.letter c.requires.digit c.requires.quote (sym c.if-begins_fraction.ensures) (sym c.if-begins_comment.ensures) in
    bad_mark (chars c.args.text.now) (chars c.behind-after.result.now) c.args.c c.requires.first c.behind-after.ensures other (c.in-None.ensures.other refl)
