use Rattle.std.proofs.Common.{ap, ◌∙◌}
use Rattle.njs_clone.specs.Content.{content}
use Rattle.njs_meaning.specs.Members.{get_member}
use Rattle.njs_simul.specs.Step.{name_in}
use Rattle.njs_interp.proofs.Standing.{on-gained}
use Rattle.njs_interp.proofs.Extending.{extends-gained}
use Rattle.njs_interp.proofs.members.member_of.Goals as goal

pub returns-in-Ok-clause-told : goal.returns-in-Ok-clause-told
returns-in-Ok-clause-told c =
    let h = c.args.machine.now in
    let k = c.read.new.machine in
    record {
      by = λ s stands. (
        c.in-Ok.ensures.value ∙ ap (get_member (name_in (content h.texts c.args.name)) (content h.texts c.args.base)) stands.objects,
        on-gained h k s c.sizes-sizes.ensures.fits c.read.ensures.texts stands,
      );
    }

pub returns-in-Ok-clause-extends : goal.returns-in-Ok-clause-extends
returns-in-Ok-clause-extends c = extends-gained c.args.machine.now c.read.new.machine c.read.ensures.texts

pub returns-in-Err-clause-extends : goal.returns-in-Err-clause-extends
returns-in-Err-clause-extends c = extends-gained c.args.machine.now c.read.new.machine c.read.ensures.texts
