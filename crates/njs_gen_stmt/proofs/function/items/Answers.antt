use Rattle.std.proofs.Common.{◌-◌, ◌≤◌, List, length, refl, sym, subst, arith}
use Rattle.std.proofs.lemmas.List.{drop_all}
use Rattle.njs_tree.specs.declared.tree.Item.{Item}
use Rattle.njs_gen_stmt.proofs.Lists.{from_start}
use Rattle.njs_gen_stmt.proofs.Functions.{WroteItems, no_items, items_more}
use Rattle.njs_gen_stmt.proofs.function.items.Goals as goal

pub returns-clause-written : goal.returns-clause-written
returns-clause-written c =
    let all = from_start c.loop-i.i c.args.list.now c.args.list.now (omega arith) refl in
    subst (λ (list : List Item). WroteItems list c.args.here c.args.w.now c.loop-i.w) all c.loop-i.invariant.1

pub loop-i-preserved : goal.loop-i-preserved
loop-i-preserved c = (
  λ g. c.loop-i.invariant.0 (c.item.ensures.stays g),
  items_more (c.loop-i.i - 1) c.loop-i.i c.args.list.now c.index-list-i.result c.args.here c.args.w.now c.loop-i.w c.item.new.w (omega arith) (omega arith) c.index-list-i.is c.loop-i.invariant.1 c.item.ensures.written,
)

pub loop-i-init : goal.loop-i-init
loop-i-init c =
    let all : length c.args.list.now ≤ length c.args.list.now = omega arith in
    (λ g. g, subst (λ (l : List Item). WroteItems l c.args.here c.args.w.now c.args.w.now) (sym (drop_all (length c.args.list.now) c.args.list.now all)) (no_items c.args.here c.args.w.now))
