use Rattle.conf_read.proofs.Reading.{reads_between}
use Rattle.conf_read.proofs.scan.Scanner.step.Goals as goal

pub returns-in-Between-clause-reads : goal.returns-in-Between-clause-reads
returns-in-Between-clause-reads c = reads_between c.args.self.now c.args.c c.between.result c.between.new.self c.in-Between.is c.between.ensures.reads
