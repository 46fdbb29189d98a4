use Rattle.std.proofs.Common.{◌∙◌, ◌+◌, drop, arith}
use Rattle.njs_conn.specs.Site.{file_names}
use Rattle.njs_conn.proofs.Building.{asking_next, reading_next, left_at, asked_so_far, asked_in_vain}
use Rattle.njs_conn.proofs.builder.read_files.Goals as goal

pub returns-in-Err-clause-asks : goal.returns-in-Err-clause-asks
returns-in-Err-clause-asks g c =
    let next = left_at (λ i. i.file) c.args.imports.now c.loop-import.import-index c.import-item.result c.loop-import-test.true c.import-item.is in
    asked_so_far _ _ (file_names (drop (c.loop-import.import-index + 1) c.args.imports.now)) _
    (asking_next _ (g.F.Files.asked c.loop-import.files) _ c.import-item.result.file _ _ _ c.loop-import.invariant.asking next c.in-Ok.ensures.asked)

pub returns-in-Err-Failed-clause-asks : goal.returns-in-Err-Failed-clause-asks
returns-in-Err-Failed-clause-asks g c =
    let next = left_at (λ i. i.file) c.args.imports.now c.loop-import.import-index c.import-item.result c.loop-import-test.true c.import-item.is in
    asked_in_vain _ (g.F.Files.asked c.loop-import.files) _ c.import-item.result.file _ _ _ c.unread.result
    c.loop-import.invariant.asking next (rw c.in-Err-Failed.field-0-is at c.in-Err-Failed.ensures.asked) c.unread.ensures

pub loop-import-preserved : goal.loop-import-preserved
loop-import-preserved g c =
    let next = left_at (λ i. i.file) c.args.imports.now c.loop-import.import-index c.import-item.result c.loop-import-test.true c.import-item.is in
    record {
      asking = asking_next _ (g.F.Files.asked c.loop-import.files) _ c.import-item.result.file _ _ _ c.loop-import.invariant.asking next c.in-Ok.ensures.asked;
      reading = reading_next _ _ (g.F.Files.contents c.loop-import.files) c.loop-import.contents.items _ _ _ _ _ c.loop-import.invariant.reading next c.loop-import.invariant.same c.in-Ok.ensures.content c.in-Ok-push.ensures.items;
      same = c.in-Ok.ensures.same ∙ c.loop-import.invariant.same;
      later = omega arith;
    }
