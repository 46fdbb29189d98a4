use Rattle.std.proofs.Common.{◌≡◌, ◌∷◌, ◌++◌, slice_set, ap, arith, ◌∙◌}
use Rattle.std.proofs.Math.Seq.{set-append_seam}
use Rattle.njs_simul.specs.Counts.{operations_in}
use Rattle.njs_gen_stmt.specs.Walked.{unwritten}
use Rattle.njs_gen_stmt.proofs.Puts.{operations_put}
use Rattle.njs_gen_stmt.proofs.FunctionEnds.{are_unbroken, were_made}
use Rattle.njs_gen_stmt.proofs.walk.put.Goals as goal

pub returns-then-total-gt-MAX_OPS-clause-put : goal.returns-then-total-gt-MAX_OPS-clause-put
returns-then-total-gt-MAX_OPS-clause-put c front behind going is made =
    let all = operations_put front behind c.args.code in
    let m = are_unbroken c.args.w.now.fault c.args.w.now (front ++ (unwritten ∷ behind)) going made in
    omega (arith, all, m.1)

pub returns-then-number-len-clause-put : goal.returns-then-number-len-clause-put
returns-then-number-len-clause-put c front behind going is made =
    let all = operations_put front behind c.args.code in
    let m = are_unbroken c.args.w.now.fault c.args.w.now (front ++ (unwritten ∷ behind)) going made in
    let long : c.saturating_add-total.result ≡ operations_in (front ++ (c.args.code ∷ behind)) = omega (arith, all, m.1) in
    were_made c.args.w.now.fault (record c.args.w.now { functions = c.set.new.self; operations = c.saturating_add-total.result }) (front ++ (c.args.code ∷ behind)) going
    (c.set.ensures ∙ ap (λ fs. slice_set fs c.args.number c.args.code) m.0 ∙ ap (λ n. slice_set (front ++ (unwritten ∷ behind)) n c.args.code) is ∙ set-append_seam front unwritten behind c.args.code, long)
