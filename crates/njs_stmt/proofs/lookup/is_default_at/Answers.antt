use Rattle.std.proofs.Common.{◌∙◌}
use Rattle.njs_tree.specs.declared.token.Keyword.TheVariants as keyword
use Rattle.njs_stmt.proofs.Lookups.{none_read, token_read}
use Rattle.njs_stmt.proofs.Symbols.{placed_at, word_none, word_some}
use Rattle.njs_stmt.proofs.lookup.is_default_at.Goals as goal

pub is_default-requires : goal.is_default-requires
is_default-requires c =
    placed_at c.args.text.now c.args.tokens.now c.args.at c.in-Some.token.now c.requires c.as_bytes.ensures.scalars (token_read c.args.tokens.now c.args.at c.in-Some.token.now c.in-Some.ensures.lookup.0 c.in-Some.ensures.lookup.1)

pub returns-in-Some : goal.returns-in-Some
returns-in-Some c =
    c.is_default.ensures ∙ word_some keyword.Default c.args.text.now c.args.tokens.now c.args.at c.in-Some.token.now (token_read c.args.tokens.now c.args.at c.in-Some.token.now c.in-Some.ensures.lookup.0 c.in-Some.ensures.lookup.1)

pub returns-in-None : goal.returns-in-None
returns-in-None c = word_none keyword.Default c.args.text.now c.args.tokens.now c.args.at (none_read c.args.tokens.now c.args.at c.in-None.ensures.lookup.0)
