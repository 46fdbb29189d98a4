use Rattle.njs_stmt.proofs.Lookups.{none_read, token_read}
use Rattle.njs_stmt.proofs.Symbols.{semicolon_missing, semicolon_ok, semicolon_over}
use Rattle.njs_stmt.proofs.lookup.past_semicolon.Goals as goal

pub returns-in-None : goal.returns-in-None
returns-in-None c = λ text. semicolon_over text c.args.tokens.now c.args.at c.requires (none_read c.args.tokens.now c.args.at c.in-None.ensures.lookup.0)

pub returns-in-Some-semicolon_size : goal.returns-in-Some-semicolon_size
returns-in-Some-semicolon_size c = λ text.
    semicolon_ok text c.args.tokens.now c.args.at c.in-Some-semicolon_size.size c.in-Some.token.now (token_read c.args.tokens.now c.args.at c.in-Some.token.now c.in-Some.ensures.lookup.0 c.in-Some.ensures.lookup.1) c.in-Some-semicolon_size.ensures

pub returns-in-None-semicolon_size : goal.returns-in-None-semicolon_size
returns-in-None-semicolon_size c = λ text.
    semicolon_missing text c.args.tokens.now c.args.at c.in-Some.token.now (token_read c.args.tokens.now c.args.at c.in-Some.token.now c.in-Some.ensures.lookup.0 c.in-Some.ensures.lookup.1) c.in-None-semicolon_size.ensures
