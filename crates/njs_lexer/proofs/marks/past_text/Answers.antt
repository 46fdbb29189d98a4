use Rattle.std.proofs.Common.{sym, ap, ◌∙◌, drop}
use Rattle.std.specs.Str.{chars}
use Rattle.std.proofs.lemmas.List.{drop-drop}
use Rattle.njs_lexer.proofs.LongestMark.{text_more}
use Rattle.njs_lexer.proofs.marks.past_text.Goals as goal

pub loop-c-preserved : goal.loop-c-preserved
loop-c-preserved c = (
  c.behind-rest.utf8,
  c.behind-rest.ensures ∙ ap (drop 1) c.loop-c.invariant.1 ∙ drop-drop 1 c.loop-c.c-index (chars c.args.text.now),
  c.loop-c.invariant.2
      ∙ text_more c.args.expected.now (chars c.loop-c.rest.now) (chars c.behind-rest.result.now) c.loop-c.c-index c.c-item.result c.loop-c-test.true c.c-item.is (sym c.if-not-begins_with.ensures) c.behind-rest.ensures,
)
