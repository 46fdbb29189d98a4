use Rattle.std.proofs.Common.{subst, Err, Ok}
use Rattle.njs_conn.specs.Scripts.{ScriptFrom}
use Rattle.njs_conn.proofs.Building.{accepting_next, all_accepted, left_at, none_left, stops_here}
use Rattle.njs_conn.proofs.builder.trees_of.Goals as goal

pub returns-in-Err : goal.returns-in-Err
returns-in-Err c =
    let next = left_at (λ file. (file.0.now, file.1.items)) c.args.contents.now c.loop-file.file-index c.file-item.result c.loop-file-test.true c.file-item.is in
    stops_here _ _ _ _ c.loop-file.trees c.in-Err.stop c.refused.result c.loop-file.invariant next
    (subst (λ bytes. ScriptFrom bytes (Err c.in-Err.stop)) c.as_slice.ensures.value c.in-Err.ensures) c.refused.ensures

pub loop-file-preserved : goal.loop-file-preserved
loop-file-preserved c =
    let next = left_at (λ file. (file.0.now, file.1.items)) c.args.contents.now c.loop-file.file-index c.file-item.result c.loop-file-test.true c.file-item.is in
    accepting_next _ _ _ _ c.loop-file.trees _ c.in-Ok.script c.loop-file.invariant next
    (subst (λ bytes. ScriptFrom bytes (Ok c.in-Ok.script)) c.as_slice.ensures.value c.in-Ok.ensures) c.in-Ok-push.ensures.ok

pub returns : goal.returns
returns c = all_accepted _ _ c.loop-file.trees c.loop-file.invariant (none_left (λ file. (file.0.now, file.1.items)) c.args.contents.now c.loop-file.file-index c.loop-file-test.false)
