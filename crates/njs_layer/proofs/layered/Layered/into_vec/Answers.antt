use Rattle.std.proofs.Common.{◌≡◌, ◌++◌, ◌≤◌, ap, sym, ◌∙◌, take, length, rules, arith}
use Rattle.std.specs.Ordering.{nat_cmp}
use Rattle.std.specs.BTreeMap.{get as entry}
use Rattle.std.proofs.lemmas.List.{take_all}
use Rattle.njs_layer.specs.Layer.{overlaid}
use Rattle.njs_layer.proofs.Overlaid.{next_item, length-overlaid, length-seen}
use Rattle.njs_layer.proofs.layered.Layered.into_vec.Goals as goal

pub loop-place-preserved : goal.loop-place-preserved
loop-place-preserved g c = record {
  items = next_item (entry nat_cmp c.self.inside.copies) (entry nat_cmp c.loop-place.copies) c.self.inside.base.now c.loop-place.place c.in_ok-item.item c.loop-place.items.items c.push.new.self.items
      (omega arith) c.loop-place.invariant.items (c.loop-place.invariant.left c.loop-place.place (omega arith)) c.in_ok-item.ensures.item c.in_ok-push.ensures.items;
  left = λ q h. c.in_ok-item.ensures.others q (omega arith) ∙ c.loop-place.invariant.left q (omega arith);
}

pub returns-clause-items : goal.returns-clause-items
returns-clause-items g c =
    let all : take c.loop-place.place (overlaid (entry nat_cmp c.self.inside.copies) 0 c.self.inside.base.now) ≡ overlaid (entry nat_cmp c.self.inside.copies) 0 c.self.inside.base.now =
    take_all c.loop-place.place (overlaid (entry nat_cmp c.self.inside.copies) 0 c.self.inside.base.now) (omega (arith, length-overlaid (entry nat_cmp c.self.inside.copies) 0 c.self.inside.base.now)) in
    c.in_ok-append.ensures.items ∙ ap (λ xs. xs ++ c.self.inside.own.items) (c.loop-place.invariant.items ∙ all) ∙ c.self.view_is

pub returns-clause-few : goal.returns-clause-few
returns-clause-few g c =
    omega (arith, ap length (returns-clause-items g c), ap length c.self.view_is, length-seen (entry nat_cmp c.self.inside.copies) c.self.inside.base.now c.self.inside.own.items)
