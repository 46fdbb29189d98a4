use Rattle.std.proofs.Common.{◌≡◌, length, Some, sym, subst}
use Rattle.std.specs.Prelude.{MatchResult}
use Rattle.njs_gen_stmt.specs.Functions.{Refused}
use Rattle.njs_gen_stmt.specs.Walked.{IsUnbroken}
use Rattle.njs_gen_stmt.proofs.FunctionEnds.{refused_among, still_refused, broken}
use Rattle.njs_gen_stmt.proofs.walk.put_made.Goals as goal

pub returns-in-Err-clause-put : goal.returns-in-Err-clause-put
returns-in-Err-clause-put c front behind code known made =
    let going : IsUnbroken c.args.w.now.fault = subst IsUnbroken (sym c.in-None.is) tt in
    refused_among c.in-Err.fault (record c.args.w.now { fault = Some c.in-Err.fault }) front behind code
    (subst (λ r. MatchResult r (λ x. x ≡ code) (λ fault. Refused fault (length code.ops))) c.in-Err.is (known going).1)

pub returns-in-Some-clause-put : goal.returns-in-Some-clause-put
returns-in-Some-clause-put c front behind code known made =
    still_refused c.args.w.now.fault c.args.w.now front behind code (broken c.args.w.now.fault c.in-Some.field-0 c.in-Some.is) made
