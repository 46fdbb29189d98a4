use Rattle.std.proofs.Common.{sym, ◌∙◌}
use Rattle.std.specs.Str.{chars}
use Rattle.njs_expr.proofs.StringParts.{plain_part, escape_part, is_same, is_other}
use Rattle.njs_expr.proofs.literals.part.Goals as goal

pub returns-then-c-ne92-clause-part : goal.returns-then-c-ne92-clause-part
returns-then-c-ne92-clause-part c = plain_part c.args.c (chars c.args.after.now) (sym c.is_line_end.ensures ∙ c.if-is_line_end.false) (is_other c.args.c 92 c.if-c-ne92.true)

pub returns-clause-part : goal.returns-clause-part
returns-clause-part c =
    escape_part c.args.c (chars c.args.after.now) (chars c.past.result.now) (c.in_ok-stands.stands, c.in_ok-stands.len) (sym c.is_line_end.ensures ∙ c.if-is_line_end.false) (is_same c.args.c 92 c.if-c-ne92.false)
    c.in_ok-stands.ensures c.past.ensures
