use Rattle.std.proofs.Common.{◌≡◌, ◌+◌, ap, subst, arith, ◌∙◌}
use Rattle.njs_simul.specs.Compiled.{items_part}
use Rattle.njs_gen_stmt.specs.Functions.{told_all}
use Rattle.njs_gen_stmt.specs.Walked.{Made}
use Rattle.njs_gen_stmt.proofs.Scripts.{found_in, refused_in_body, behind_body}
use Rattle.njs_gen_stmt.proofs.script.with_body.Goals as goal

pub returns-in-Err : goal.returns-in-Err
returns-in-Err c names inside slots places count made =
    let list = c.args.list.now in
    let m = subst (λ x. Made x c.args.w (found_in list names)) c.in_default.is made in
    let long = behind_body c.args.w.functions list names count m.0 in
    let behind : c.in-Ok.behind ≡ 0 + (items_part list).size = omega (arith, long) in
    refused_in_body c.in-Err.fault list names (told_all c.as_slice.result.now) (ap told_all c.as_slice.ensures ∙ m.1)
    (c.in-Err.ensures names 0 0 inside places behind)
