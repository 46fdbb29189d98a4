use Rattle.std.proofs.Common.{true, subst}
use Rattle.njs_clone.specs.Content.{content}
use Rattle.njs_meaning.specs.Primitives.{Truth}
use Rattle.njs_meaning.specs.Values.{Simple}
use Rattle.njs_meaning.specs.Members.{delete_member}
use Rattle.njs_members.specs.Starts.{text_at}
use Rattle.njs_interp.specs.Outcomes.{MeansOnHeap}
use Rattle.njs_interp.proofs.Extending.{extends-gained, value-gained, means-gained}
use Rattle.njs_interp.proofs.Mentioned.{delete-asks, delete-cause}
use Rattle.njs_interp.proofs.members.without_member.Goals as goal

pub returns-in-Err-clause-extends : goal.returns-in-Err-clause-extends
returns-in-Err-clause-extends g c = extends-gained c.args.machine.now c.name_of.new.machine c.name_of.ensures.texts

pub given-requires-clause-cause : goal.given-requires-clause-cause
given-requires-clause-cause g c =
    let k = c.name_of.new.machine in
    delete-cause k c.delete_member-done.new.machine (Simple (Truth true)) (text_at k.texts c.in-Ok.name) (content k.texts c.args.base) c.delete_member-done.result c.delete_member-done.ensures.told

pub returns-clause-told : goal.returns-clause-told
returns-clause-told g c =
    let h = c.args.machine.now in
    let k = c.name_of.new.machine in
    let m = c.given.new.machine in
    let gains = c.name_of.ensures.texts in
    let name = text_at k.texts c.in-Ok.name in
    let base = content k.texts c.args.base in
    let given = c.given.ensures.told k (delete_member name base) c.delete_member-done.ensures.kept (delete-asks name base) c.delete_member-done.ensures.told in
    subst (λ n. MeansOnHeap h m c.given.result (delete_member n (content h.texts c.args.base))) c.in-Ok.ensures.name
    (subst (λ b. MeansOnHeap h m c.given.result (delete_member name b)) (value-gained h k gains c.args.base c.requires.base)
    (means-gained h k m c.given.result (delete_member name base) c.sizes-sizes.ensures.fits gains given))
