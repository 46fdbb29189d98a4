use Rattle.std.proofs.Common.{◌≡◌, List, ◌++◌, refl, subst, arith}
use Rattle.njs_tree.specs.declared.tree.Item.{Item}
use Rattle.njs_scope.specs.Uses.{items_part}
use Rattle.njs_scope.specs.Walked.{places_of, scopes_of}
use Rattle.njs_scope.proofs.Lists.{from_start}
use Rattle.njs_scope.proofs.script.in_items.Goals as goal

pub returns-clause-places : goal.returns-clause-places
returns-clause-places c number =
    subst (λ (list : List Item). c.loop-i.found.places ≡ places_of (items_part list) number c.args.around.now ++ c.args.found.now.places)
    (from_start c.loop-i.i c.args.list.now c.args.list.now (omega arith) refl) (c.loop-i.invariant.places number)

pub returns-clause-scopes : goal.returns-clause-scopes
returns-clause-scopes c number =
    subst (λ (list : List Item). c.loop-i.found.scopes ≡ scopes_of (items_part list) number c.args.around.now ++ c.args.found.now.scopes)
    (from_start c.loop-i.i c.args.list.now c.args.list.now (omega arith) refl) (c.loop-i.invariant.scopes number)
