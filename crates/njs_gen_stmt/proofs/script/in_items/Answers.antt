use Rattle.std.proofs.Common.{◌+◌, List, [], ◌∷◌, refl, arith}
use Rattle.njs_tree.specs.declared.tree.Item.{Item}
use Rattle.njs_simul.specs.Compiled.{item_part, items_part}
use Rattle.njs_scope.specs.Uses as uses
use Rattle.njs_gen_stmt.proofs.Walks.{walked_leaf, walked_two, completes_more, completed}
use Rattle.njs_gen_stmt.proofs.script.in_items.Goals as goal

pub returns : goal.returns
returns c =
    completed (λ (l : List Item). items_part l) (λ (l : List Item). uses.items_part l) c.args.around.now c.loop-i.i c.args.list.now c.args.list.now c.args.w.now c.loop-i.w (omega arith) refl c.loop-i.invariant
    (walked_leaf [] c.args.around.now c.loop-i.w)

pub loop-i-init : goal.loop-i-init
loop-i-init c = λ end h. h

pub loop-i-preserved : goal.loop-i-preserved
loop-i-preserved c =
    completes_more (λ (l : List Item). items_part l) (λ (l : List Item). uses.items_part l) c.args.around.now (c.loop-i.i + 1) c.loop-i.i c.args.list.now c.index-list-i.result c.args.w.now c.loop-i.w c.in_item.new.w (omega arith) (omega arith) c.index-list-i.is c.loop-i.invariant
    (λ xs end h. walked_two (item_part c.index-list-i.result) (items_part xs) (uses.item c.index-list-i.result) (uses.items_part xs) (λ a rest. a ∷ rest) c.args.around.now c.loop-i.w c.in_item.new.w end c.in_item.ensures h)
