use Rattle.std.proofs.Common.{drop, map}
use Rattle.njs_conn.proofs.Building.{Accepting}
use Rattle.njs_conn.proofs.builder.trees_of.Given as goal

abbrev pub invariant-loop-file : goal.invariant-loop-file
invariant-loop-file l = Accepting (map (λ file. (file.0.now, file.1.items)) (drop l.file-index l.contents)) (map (λ file. (file.0.now, file.1.items)) l.contents) l.trees
