use Rattle.std.proofs.Common.{List}
use Rattle.njs_tree.specs.declared.tree.Item.{Item}
use Rattle.njs_simul.specs.Compiled.{items_part}
use Rattle.njs_scope.specs.Uses as uses
use Rattle.njs_gen_stmt.proofs.Walks.{Completes}
use Rattle.njs_gen_stmt.proofs.script.in_items.Given as goal

abbrev pub invariant-loop-i : goal.invariant-loop-i
invariant-loop-i l = Completes (λ (l : List Item). items_part l) (λ (l : List Item). uses.items_part l) l.around l.i l.list l.initial.w l.w
