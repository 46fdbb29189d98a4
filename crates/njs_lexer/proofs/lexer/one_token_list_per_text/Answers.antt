use Rattle.njs_lexer.proofs.Once.{one_list}
use Rattle.njs_lexer.proofs.lexer.one_token_list_per_text.Goals as goal

pub returns : goal.returns
returns c = one_list
