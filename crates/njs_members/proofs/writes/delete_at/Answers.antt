use Rattle.std.proofs.Common.{◌≡◌, ℕ, List, true, subst, ◌∙◌}
use Rattle.njs_clone.specs.Gives.{delete_in}
use Rattle.njs_meaning.specs.Objects.{delete_at}
use Rattle.njs_meaning.specs.Primitives.{Truth}
use Rattle.njs_meaning.specs.Values.{Simple, ObjectAt}
use Rattle.njs_meaning.specs.PlainHeap.{PlainObject}
use Rattle.njs_meaning.specs.Members.{delete_member}
use Rattle.njs_members.specs.Starts.{text_at}
use Rattle.njs_members.specs.Tells.{Tells}
use Rattle.njs_members.proofs.Gained.{text-read}
use Rattle.njs_members.proofs.Told.{change-told, change-keeps}
use Rattle.njs_members.proofs.writes.delete_at.Goals as goal

pub returns-clause-told : goal.returns-clause-told
returns-clause-told g c =
    let h = c.args.machine.now in
    let name = c.in-Ok.name in
    let read : name ≡ text_at h.texts c.args.name = c.in-Ok.ensures ∙ text-read h.texts c.args.name.0 c.text.result.now c.text.ensures in
    subst (λ (n : List ℕ). Tells (Simple (Truth true)) (delete_member n (ObjectAt c.args.object.0)) h c.delete.new.self c.delete.result) read
    (change-told h (c.operations_go_by_content.ensures h) c.args.object.0 (delete_in h c.args.object.0 name) (λ (os : List PlainObject). delete_at name os c.args.object.0)
    ((c.operations_go_by_content.ensures h).delete c.args.object.0 name) (Simple (Truth true)) c.delete.new.self c.delete.result c.delete.ensures.gives)

pub returns-clause-kept : goal.returns-clause-kept
returns-clause-kept g c =
    let h = c.args.machine.now in
    change-keeps h c.delete.new.self c.args.object.0 (delete_in h c.args.object.0 c.in-Ok.name) c.delete.result c.delete.ensures.gives
