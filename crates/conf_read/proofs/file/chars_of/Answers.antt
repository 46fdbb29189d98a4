use Rattle.std.proofs.lemmas.Iterator.{items_from_collect, YieldsList-from_chars}
use Rattle.conf_read.proofs.file.chars_of.Goals as goal

pub returns-clause-items : goal.returns-clause-items
returns-clause-items c = items_from_collect c.collect.result c.collect.ensures.ran (YieldsList-from_chars c.args.text.now c.utf8.text cc)
