use Rattle.std.proofs.Common.{[], length, false, ap, ◌∙◌}
use Rattle.njs_gen_stmt.specs.Walked.{Found, IsUnbroken}
use Rattle.njs_gen_stmt.proofs.FunctionEnds.{unbroken, unmentioned}
use Rattle.njs_gen_stmt.proofs.walk.begin_function.Goals as goal

pub returns-clause-begun : goal.returns-clause-begun
returns-clause-begun c f own h =
    let w1 = c.with_scope-slots.new.w in
    let g : Found = record f { takes_arguments = false } in
    let h1 = c.next_scope-names.ensures.passed f own h in
    let h2 = c.with_scope-slots.ensures.holds f h1.0 in
    let h3 = c.without_declared-declared.ensures.taken g (unmentioned w1 f h2) in
    let h4 = c.reserve.ensures.reserved (record g { declared = [] }) h3.0 in (
      h4,
      (
        h1.1,
        h2.1,
        λ going.
            let going1 : IsUnbroken w1.fault = c.without_declared-declared.ensures.stays (c.reserve.ensures.stays going) in
            let m = unbroken w1.fault w1 f going1 h2.3 in
            (c.len-number.ensures ∙ ap length m.0, h3.1 going1, m.2),
      ),
    )
