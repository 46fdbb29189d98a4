use Rattle.std.proofs.Common.{ap, sym, subst}
use Rattle.njs_clone.specs.Content.{content}
use Rattle.njs_meaning.specs.Members.{put_member}
use Rattle.njs_members.specs.Starts.{text_at}
use Rattle.njs_members.specs.Tells as members
use Rattle.njs_interp.specs.Outcomes.{MeansOnHeap}
use Rattle.njs_interp.proofs.Extending.{extends-gained, value-gained, means-gained}
use Rattle.njs_interp.proofs.Mentioned.{put-asks, put-cause}
use Rattle.njs_interp.proofs.members.with_member.Goals as goal

pub returns-in-Err-clause-extends : goal.returns-in-Err-clause-extends
returns-in-Err-clause-extends g c = extends-gained c.args.machine.now c.name_of.new.machine c.name_of.ensures.texts

pub given-requires-clause-cause : goal.given-requires-clause-cause
given-requires-clause-cause g c =
    let k = c.name_of.new.machine in
    put-cause k c.put_member-done.new.machine (content k.texts c.args.value) (text_at k.texts c.in-Ok.name) (content k.texts c.args.base) (content k.texts c.args.value) c.put_member-done.result c.put_member-done.ensures.told

pub returns-clause-told : goal.returns-clause-told
returns-clause-told g c =
    let h = c.args.machine.now in
    let k = c.name_of.new.machine in
    let l = c.put_member-done.new.machine in
    let m = c.given.new.machine in
    let gains = c.name_of.ensures.texts in
    let name = text_at k.texts c.in-Ok.name in
    let v = content k.texts c.args.value in
    let told = subst (λ w. members.Tells w (put_member name (content k.texts c.args.base) v) k l c.put_member-done.result) (ap (λ ts. content ts c.args.value) (sym c.put_member-done.ensures.kept.texts)) c.put_member-done.ensures.told in
    let given = c.given.ensures.told k (put_member name (content k.texts c.args.base) v) c.put_member-done.ensures.kept (put-asks name (content k.texts c.args.base) v) told in
    subst (λ n. MeansOnHeap h m c.given.result (put_member n (content h.texts c.args.base) (content h.texts c.args.value))) c.in-Ok.ensures.name
    (subst (λ b. MeansOnHeap h m c.given.result (put_member name b (content h.texts c.args.value))) (value-gained h k gains c.args.base c.requires.base)
    (subst (λ w. MeansOnHeap h m c.given.result (put_member name (content k.texts c.args.base) w)) (value-gained h k gains c.args.value c.requires.value)
    (means-gained h k m c.given.result (put_member name (content k.texts c.args.base) v) c.sizes-sizes.ensures.fits gains given)))
