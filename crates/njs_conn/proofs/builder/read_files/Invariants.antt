use Rattle.std.proofs.Common.{◌≡◌, ◌≤◌, drop, map}
use Rattle.njs_conn.specs.Site.{file_names}
use Rattle.njs_conn.proofs.Building.{Asking, Reading}
use Rattle.njs_conn.proofs.builder.read_files.Given as goal

abbrev pub invariant-loop-import : goal.invariant-loop-import
invariant-loop-import g l = record {
  asking : Asking (g.F.Files.asked l.fn.files) (g.F.Files.asked l.files) (file_names (drop l.import-index l.imports)) (file_names l.imports);
  reading : Reading (g.F.Files.contents l.fn.files) (map (λ file. (file.0.now, file.1.items)) l.contents.items) (file_names (drop l.import-index l.imports)) (file_names l.imports);
  same : g.F.Files.contents l.files ≡ g.F.Files.contents l.fn.files;
  later : g.F.Files.faults l.fn.files ≤ g.F.Files.faults l.files;
}
