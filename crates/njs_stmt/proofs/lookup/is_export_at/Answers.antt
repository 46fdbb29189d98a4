use Rattle.std.proofs.Common.{◌∙◌}
use Rattle.njs_tree.specs.declared.token.Keyword.TheVariants as keyword
use Rattle.njs_stmt.proofs.Lookups.{none_read, token_read}
use Rattle.njs_stmt.proofs.Symbols.{placed_at, word_none, word_some}
use Rattle.njs_stmt.proofs.lookup.is_export_at.Goals as goal

pub is_export-requires : goal.is_export-requires
is_export-requires c =
    placed_at c.args.text.now c.args.tokens.now c.args.at c.in-Some.token.now c.requires c.as_bytes.ensures.scalars (token_read c.args.tokens.now c.args.at c.in-Some.token.now c.in-Some.ensures.lookup.0 c.in-Some.ensures.lookup.1)

pub returns-in-Some : goal.returns-in-Some
returns-in-Some c =
    c.is_export.ensures ∙ word_some keyword.Export c.args.text.now c.args.tokens.now c.args.at c.in-Some.token.now (token_read c.args.tokens.now c.args.at c.in-Some.token.now c.in-Some.ensures.lookup.0 c.in-Some.ensures.lookup.1)

pub returns-in-None : goal.returns-in-None
returns-in-None c = word_none keyword.Export c.args.text.now c.args.tokens.now c.args.at (none_read c.args.tokens.now c.args.at c.in-None.ensures.lookup.0)
