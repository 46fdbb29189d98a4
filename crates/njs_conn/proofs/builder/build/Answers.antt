use Rattle.njs_conn.proofs.Building.{no_files}
use Rattle.njs_conn.proofs.builder.build.Goals as goal

pub returns-in-Err-clause-built : goal.returns-in-Err-clause-built
returns-in-Err-clause-built g c = no_files c.args.conf (g.F.Files.contents c.args.files.now) c.in-Err.fault c.in-Err.ensures.fault
