use Rattle.std.proofs.Common.{◌∙◌, sym, refl}
use Rattle.http_in.proofs.Judging.{says_head, same_length, judged_body, same_parts}
use Rattle.http_in.proofs.judge.judge_spans.Goals as goal

pub returns-in-Err : goal.returns-in-Err
returns-in-Err c =
    let read = c.requires.read in
    λ others. says_head c.args.number c.args.head.now others read.h _ _ read.whole read.few c.requires.version
    (same_length _ _ _ _ _ _ _ _ (sym (c.of.ensures ∙ read.at.method)) (sym (c.of-2.ensures ∙ read.at.path)) (sym read.at.version) (sym read.at.fields) ∙ sym c.in-Err.ensures) refl

pub returns-in-Ok : goal.returns-in-Ok
returns-in-Ok c =
    let read = c.requires.read in
    judged_body c.with_body.result c.args.number c.args.head.now c.args.behind.now read.h c.in-Ok.len read.whole read.few c.requires.version
    (same_length _ _ _ _ _ _ _ _ (sym (c.of.ensures ∙ read.at.method)) (sym (c.of-2.ensures ∙ read.at.path)) (sym read.at.version) (sym read.at.fields) ∙ sym c.in-Ok.ensures)
    (same_parts c.with_body.result c.args.number c.in-Ok.len c.args.behind.now _ _ _ _ _ _ _ _ (c.of.ensures ∙ read.at.method) (c.of-2.ensures ∙ read.at.path) read.at.version read.at.fields c.with_body.ensures)
