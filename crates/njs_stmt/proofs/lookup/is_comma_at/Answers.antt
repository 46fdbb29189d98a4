use Rattle.std.proofs.Common.{◌∙◌}
use Rattle.njs_stmt.proofs.Lookups.{none_read, token_read}
use Rattle.njs_stmt.proofs.Symbols.{comma_none, comma_some}
use Rattle.njs_stmt.proofs.lookup.is_comma_at.Goals as goal

pub returns-in-Some : goal.returns-in-Some
returns-in-Some c = λ text.
    c.is_comma.ensures ∙ comma_some text c.args.tokens.now c.args.at c.in-Some.token.now (token_read c.args.tokens.now c.args.at c.in-Some.token.now c.in-Some.ensures.lookup.0 c.in-Some.ensures.lookup.1)

pub returns-in-None : goal.returns-in-None
returns-in-None c = λ text. comma_none text c.args.tokens.now c.args.at (none_read c.args.tokens.now c.args.at c.in-None.ensures.lookup.0)
