use Rattle.std.proofs.Common.{◌≡◌, None, Err, sym, subst}
use Rattle.njs_clone.specs.StandsFor.{plain_objects}
use Rattle.njs_meaning.specs.Errors.{name_of}
use Rattle.njs_members.specs.Tells as members
use Rattle.njs_interp.specs.Acts.{OnHeap, Unanswered}
use Rattle.njs_interp.specs.Outcomes.{Tells, ThrowsNoName}
use Rattle.njs_interp.proofs.Standing.{on-kept, thrown-tells, extends-nothing}
use Rattle.njs_interp.proofs.answers.stopped.Goals as goal

pub returns-in-NoMemory-clause-extends : goal.returns-in-NoMemory-clause-extends
returns-in-NoMemory-clause-extends g c = extends-nothing c.args.machine.now

pub returns-in-Throw-clause-told : goal.returns-in-Throw-clause-told
returns-in-Throw-clause-told g c = λ h m v keeps quiet told.
    let k = c.args.machine.now in
    let l = c.throw.new.machine in
    let cause = c.in-Throw.cause in
    let none : name_of cause ≡ None = subst (λ stop. ThrowsNoName (Err stop)) c.in-Throw.is c.requires.cause in
    let there = subst (λ stop. members.Tells {A = Unit {0}} v m h k (Err stop)) c.in-Throw.is told in
    record {
      by = λ s stands.
          subst (Tells (OnHeap l s) (Unanswered s) l.texts (Err c.throw.result)) (sym (there s (sym stands.objects)))
          (thrown-tells k l cause s (record s { objects = plain_objects k }) c.sizes-sizes.ensures.fits (on-kept h k s keeps stands) none c.throw.ensures.extends c.throw.result c.throw.ensures.throws);
    }
