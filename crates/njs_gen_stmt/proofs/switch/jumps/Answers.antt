use Rattle.std.proofs.Common.{◌-◌, ◌≤◌, List, length, sym, subst, arith}
use Rattle.std.proofs.lemmas.List.{drop_all}
use Rattle.njs_tree.specs.declared.tree.Case.{Case}
use Rattle.njs_gen_stmt.proofs.Lists.{from_start}
use Rattle.njs_gen_stmt.proofs.Jumps.{WroteJumps, BodiesBegin, no_jumps, none_begins, jumps_more, begins_more}
use Rattle.njs_gen_stmt.proofs.switch.jumps.Goals as goal

pub returns-clause-written : goal.returns-clause-written
returns-clause-written c =
    let all = from_start c.loop-i.i c.as_slice-list.result.now c.args.list.now (omega arith) c.as_slice-list.ensures in
    subst (λ (list : List Case). WroteJumps list c.args.here c.args.end c.args.w.now c.loop-i.w) all c.loop-i.invariant.1

pub loop-i-preserved : goal.loop-i-preserved
loop-i-preserved c = (
  λ g. c.loop-i.invariant.0 (c.jump-begin.ensures.stays g),
  jumps_more (c.loop-i.i - 1) c.loop-i.i c.as_slice-list.result.now c.index-list-i.result c.args.here c.args.end c.args.w.now c.loop-i.w c.jump-begin.new.w c.loop-i.begin (omega arith) (omega arith) c.index-list-i.is c.loop-i.invariant.0 c.loop-i.invariant.1 c.loop-i.invariant.2 c.jump-begin.ensures.written,
  begins_more (c.loop-i.i - 1) c.loop-i.i c.as_slice-list.result.now c.index-list-i.result c.args.end c.args.w.now c.loop-i.w c.jump-begin.new.w c.loop-i.begin c.jump-begin.result (omega arith) (omega arith) c.index-list-i.is c.jump-begin.ensures.stays c.loop-i.invariant.2 c.jump-begin.ensures.begins,
)

pub loop-i-init : goal.loop-i-init
loop-i-init c =
    let all : length c.as_slice-list.result.now ≤ length c.as_slice-list.result.now = omega arith in
    let none = sym (drop_all (length c.as_slice-list.result.now) c.as_slice-list.result.now all) in (
      λ g. g,
      subst (λ (l : List Case). WroteJumps l c.args.here c.args.end c.args.w.now c.args.w.now) none (no_jumps c.args.here c.args.end c.args.w.now),
      subst (λ (l : List Case). BodiesBegin l c.args.end c.args.w.now c.args.w.now c.args.end) none (none_begins c.args.end c.args.w.now),
    )
