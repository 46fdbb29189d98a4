use Rattle.std.proofs.Common.{◌≤◌, length, subst, arith}
use Rattle.std.specs.Str.{chars}
use Rattle.conf_read.specs.Walk.{TextRead}
use Rattle.conf_read.specs.Reads.{ReadAs}
use Rattle.conf_read.proofs.Whole.{answered}
use Rattle.conf_read.proofs.Limits.{limits_read}
use Rattle.conf_read.proofs.file.read.Goals as goal

pub returns-in-Ok-clause-read : goal.returns-in-Ok-clause-read
returns-in-Ok-clause-read c =
    let few : length c.args.bytes.now ≤ 1048576 = omega arith in
    answered c.args.bytes.now c.read_str.result c.in-Ok.ensures.cases.1 few (subst (λ text. TextRead (chars text) c.read_str.result) c.in-Ok.ensures.cases.0 c.read_str.ensures.read)

pub returns-in-Ok-clause-limits : goal.returns-in-Ok-clause-limits
returns-in-Ok-clause-limits c =
    let few : length c.args.bytes.now ≤ 1048576 = omega arith in
    limits_read c.args.bytes.now c.read_str.result (answered c.args.bytes.now c.read_str.result c.in-Ok.ensures.cases.1 few (subst (λ text. TextRead (chars text) c.read_str.result) c.in-Ok.ensures.cases.0 c.read_str.ensures.read))
