use Rattle.njs_stmt.proofs.Reading.{statement_stopped}
use Rattle.njs_stmt.proofs.items.statement.Goals as goal

pub returns-in-Err : goal.returns-in-Err
returns-in-Err c = λ exported. statement_stopped c.args.text.now c.args.tokens.now exported c.args.at c.in-Err.stop c.requires.word c.in-Err.ensures
