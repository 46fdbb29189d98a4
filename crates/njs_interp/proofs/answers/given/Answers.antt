use Rattle.std.proofs.Common.{subst}
use Rattle.njs_clone.specs.Content.{content}
use Rattle.njs_members.specs.Tells as members
use Rattle.njs_interp.proofs.Standing.{extends-nothing}
use Rattle.njs_interp.proofs.answers.given.Goals as goal

pub returns-in-Ok-clause-extends : goal.returns-in-Ok-clause-extends
returns-in-Ok-clause-extends g c = extends-nothing c.args.machine.now

pub returns-in-Err-clause-told : goal.returns-in-Err-clause-told
returns-in-Err-clause-told g c = λ h m keeps quiet told.
    let k = c.args.machine.now in
    let v = content k.texts c.args.value in
    c.stopped.ensures.told h m v keeps quiet (subst (members.Tells {A = Unit {0}} v m h k) c.in-Err.is told)
