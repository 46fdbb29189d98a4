use Rattle.std.proofs.Common.{◌≡◌, ℕ, List, subst, ◌∙◌}
use Rattle.njs_clone.specs.Content.{content}
use Rattle.njs_clone.specs.Gives.{put_in}
use Rattle.njs_clone.specs.StandsFor.{plain_put}
use Rattle.njs_meaning.specs.Values.{ObjectAt}
use Rattle.njs_meaning.specs.Members.{put_member}
use Rattle.njs_members.specs.Starts.{text_at}
use Rattle.njs_members.specs.Tells.{Tells}
use Rattle.njs_members.proofs.Gained.{text-read}
use Rattle.njs_members.proofs.Told.{change-told, change-keeps}
use Rattle.njs_members.proofs.writes.put_at.Goals as goal

pub returns-clause-told : goal.returns-clause-told
returns-clause-told g c =
    let h = c.args.machine.now in
    let name = c.in-Ok.name in
    let v = content h.texts c.args.value in
    let read : name ≡ text_at h.texts c.args.name = c.in-Ok.ensures ∙ text-read h.texts c.args.name.0 c.text.result.now c.text.ensures in
    subst (λ (n : List ℕ). Tells v (put_member n (ObjectAt c.args.object.0) v) h c.put.new.self c.put.result) read
    (change-told h (c.operations_go_by_content.ensures h) c.args.object.0 (put_in h c.args.object.0 name c.args.value) (λ os. plain_put os c.args.object.0 name v)
    ((c.operations_go_by_content.ensures h).put c.args.object.0 name c.args.value) v c.put.new.self c.put.result c.put.ensures.gives)

pub returns-clause-kept : goal.returns-clause-kept
returns-clause-kept g c =
    let h = c.args.machine.now in
    change-keeps h c.put.new.self c.args.object.0 (put_in h c.args.object.0 c.in-Ok.name c.args.value) c.put.result c.put.ensures.gives
