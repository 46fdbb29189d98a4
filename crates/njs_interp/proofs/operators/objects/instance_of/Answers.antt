use Rattle.std.proofs.Common.{refl}
use Rattle.njs_shared.specs.Heap.{sizes}
use Rattle.njs_clone.specs.Content.{content}
use Rattle.njs_meaning.specs.Operations.{instance_of}
use Rattle.njs_convert.proofs.Grown.{Extends-refl}
use Rattle.njs_interp.proofs.Alone.{cause_fits, throws_alone}
use Rattle.njs_interp.proofs.Instances.{some_state, instance_nameless}
use Rattle.njs_interp.proofs.operators.objects.instance_of.Goals as goal

pub throw-requires-clause-cause : goal.throw-requires-clause-cause
throw-requires-clause-cause g c =
    let h = c.args.machine.now in
    cause_fits (sizes h) c.in-Err.cause (instance_nameless (content h.texts c.args.left) (content h.texts c.args.right) c.in-Err.cause (some_state h) (c.in-Err.ensures (some_state h) refl))

pub returns-in-Ok-clause-extends : goal.returns-in-Ok-clause-extends
returns-in-Ok-clause-extends g c = Extends-refl c.args.machine.now

pub returns-in-Err-clause-told : goal.returns-in-Err-clause-told
returns-in-Err-clause-told g c =
    let h = c.args.machine.now in
    let a = content h.texts c.args.left in
    let b = content h.texts c.args.right in
    throws_alone h c.throw.new.machine c.in-Err.cause c.throw.result (instance_of a b) (instance_nameless a b c.in-Err.cause (some_state h) (c.in-Err.ensures (some_state h) refl)) c.throw.ensures.throws c.in-Err.ensures
