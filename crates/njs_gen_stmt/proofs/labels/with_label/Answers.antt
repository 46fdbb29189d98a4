use Rattle.std.proofs.Common.{rules}
use Rattle.njs_gen_stmt.proofs.labels.with_label.Goals as goal

pub returns-clause-given : goal.returns-clause-given
returns-clause-given c g = search (rules, c.copy-first.ensures.copied)
