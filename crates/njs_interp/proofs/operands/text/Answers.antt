use Rattle.njs_interp.proofs.Kept.{Ready-widened}
use Rattle.njs_interp.proofs.Moves.{text_gives}
use Rattle.njs_interp.proofs.Texts.{added-grown, added-told}
use Rattle.njs_interp.proofs.operands.text.Goals as goal

pub give-requires-clause-gives : goal.give-requires-clause-gives
give-requires-clause-gives c = text_gives c.args.text.now _ c.requires.kind

pub give-requires-clause-ready : goal.give-requires-clause-ready
give-requires-clause-ready c =
    let at = c.args.at.now in
    Ready-widened at.functions.now at.function.now at.op.now c.args.machine.now c.add_copy.new.machine c.args.stacks.now
    (added-grown c.args.text.now c.args.machine.now c.add_copy.new.machine c.add_copy.result c.add_copy.ensures.added).widens c.requires.ready

pub returns-in-Ok-clause-told : goal.returns-in-Ok-clause-told
returns-in-Ok-clause-told c =
    let at = c.args.at.now in
    added-told c.args.text.now c.args.machine.now c.add_copy.new.machine c.in-Ok.value at.function.now.slots at.op.now.depth c.args.stacks.now c.give.new.stacks c.give.result c.sizes-sizes.ensures.fits c.in-Ok.ensures.added c.requires.ready.sits c.give.ensures.pushed

pub returns-in-Ok-clause-grown : goal.returns-in-Ok-clause-grown
returns-in-Ok-clause-grown c = added-grown c.args.text.now c.args.machine.now c.add_copy.new.machine c.add_copy.result c.add_copy.ensures.added

pub returns-in-Err-clause-grown : goal.returns-in-Err-clause-grown
returns-in-Err-clause-grown c = added-grown c.args.text.now c.args.machine.now c.add_copy.new.machine c.add_copy.result c.add_copy.ensures.added
