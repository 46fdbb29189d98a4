use Rattle.std.proofs.Common.{sym, ◌∙◌, subst}
use Rattle.std.specs.Str.{chars}
use Rattle.njs_expr.proofs.StringParts.{Leads, begins, one_part, ended, shorter, is_same, is_other}
use Rattle.njs_expr.proofs.literals.string_parts.Goals as goal

pub loop-c-init : goal.loop-c-init
loop-c-init c = (c.utf8.text, subst (λ z. Leads c.args.quote (chars c.args.text.now) z (chars c.args.text.now)) (sym c.new-list.ensures.items) (begins c.args.quote (chars c.args.text.now)))

pub returns-then-c-quote : goal.returns-then-c-quote
returns-then-c-quote c =
    ended c.args.quote c.in-Some.c (chars c.args.text.now) c.loop-c.list.items (chars c.loop-c.rest.now) c.loop-c.invariant.1 (sym c.first.ensures ∙ c.in-Some.is) (is_same c.in-Some.c c.args.quote c.if-c-quote.true)

pub loop-c-smaller : goal.loop-c-smaller
loop-c-smaller c =
    shorter (chars c.loop-c.rest.now) (chars c.behind.result.now) (chars c.in-Some-part.next.now) c.in-Some.c (sym c.first.ensures ∙ c.in-Some.is) c.behind.ensures c.in-Some-part.ensures.short

pub loop-c-preserved : goal.loop-c-preserved
loop-c-preserved c = (
  c.in-Some-part.ensures.utf8,
  one_part c.args.quote c.in-Some.c (chars c.args.text.now) c.loop-c.list.items (chars c.loop-c.rest.now) (chars c.behind.result.now) (chars c.in-Some-part.next.now) c.put.new.list.items c.in-Some-part.stands
      c.loop-c.invariant.1 (sym c.first.ensures ∙ c.in-Some.is) (is_other c.in-Some.c c.args.quote c.if-c-quote.false) c.behind.ensures c.in-Some-part.ensures.part c.in_ok-put-in-Some-part.ensures,
)
