use Rattle.std.proofs.Common.{sym, ◌∙◌}
use Rattle.conf_read.proofs.Reading.{reads_end}
use Rattle.conf_read.proofs.scan.Scanner.in_word.Goals as goal

pub returns-clause-reads : goal.returns-clause-reads
returns-clause-reads c =
    reads_end c.args.self.now c.end_word.new.self c.args.c c.between.result c.between.new.self c.requires.mode (sym c.is_part.ensures ∙ c.if-is_part.false) c.in_ok-end_word.ensures.takes c.in_ok-end_word.ensures.others c.between.ensures.reads
