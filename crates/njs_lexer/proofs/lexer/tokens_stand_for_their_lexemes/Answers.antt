use Rattle.njs_lexer.proofs.Symbols.{tokens_mean}
use Rattle.njs_lexer.proofs.lexer.tokens_stand_for_their_lexemes.Goals as goal

pub returns : goal.returns
returns c = tokens_mean
