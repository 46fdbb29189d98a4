use Rattle.std.proofs.Common.{sym, ◌∙◌}
use Rattle.njs_tree.specs.declared.token.Keyword.TheVariants as keyword
use Rattle.njs_lexer.proofs.Runs.{never}
use Rattle.njs_stmt.proofs.Lookups.{export_spelled, other_kind}
use Rattle.njs_stmt.proofs.Symbols.{no_word}
use Rattle.njs_stmt.proofs.lookup.is_export.Goals as goal
use Rattle.njs_stmt.proofs.lookup.is_export.Goals.{in-Word, in_default}

pub returns-then-matches : goal.returns-then-matches
returns-then-matches c = elim c.match-matches.branch [
  | in-Word w ↦ export_spelled c.args.token.kind c.args.text.now c.args.token c.is_spelled.result w.in-Word.is c.is_spelled.ensures
  | in_default w ↦ absurd (never (sym c.if-matches.true ∙ w.matches-is))
]

pub returns-else-matches : goal.returns-else-matches
returns-else-matches c = elim c.match-matches.branch [
  | in-Word w ↦ absurd (never (sym w.matches-is ∙ c.if-matches.false))
  | in_default w ↦ c.if-matches.false ∙ no_word keyword.Export c.args.token.kind c.args.text.now c.args.token (other_kind c.args.token.kind w.in_default.not-Word)
]
