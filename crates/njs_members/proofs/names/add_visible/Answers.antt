use Rattle.std.proofs.Common.{◌≡◌, ◌++◌, filter, ap, sym, ◌∙◌, rules}
use Rattle.std.proofs.lemmas.Fn.{filter_same}
use Rattle.njs_clone.specs.Content.{content}
use Rattle.njs_clone.specs.StandsFor.{plain_objects, content_inner}
use Rattle.njs_clone.proofs.MappedHeap.{keys-mapped}
use Rattle.njs_meaning.specs.Chains.{keys}
use Rattle.njs_members.specs.Listed.{hidden_by, is_visible, plain_object}
use Rattle.njs_members.proofs.names.add_visible.Goals as goal

pub returns : goal.returns
returns c =
    let h = c.args.machine.now in
    let o = c.args.object.now in
    let test = is_visible (hidden_by (content h.texts c.args.walk.base) (plain_objects h) c.args.walk.start.0 c.args.walk.depth) (plain_object h o) in
    let kept : c.retain.new.self.items ≡ filter test c.in_ok-keys.keys.items = filter_same _ test _ (λ x b f k. search rules) _ _ c.retain.ensures.filtered in
    let listed : c.in_ok-keys.keys.items ≡ keys o = search rules in
    let added : c.append.new.self.items ≡ c.args.names.now.items ++ c.retain.new.self.items = search rules in
    added ∙ ap (λ names. c.args.names.now.items ++ names) (kept ∙ ap (filter test) (listed ∙ sym (keys-mapped (content h.texts) (content_inner h.texts) o)))
