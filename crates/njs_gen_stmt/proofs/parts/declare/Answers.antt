use Rattle.std.proofs.Common.{ℕ, ◌-◌, ◌≤◌, List, length, Option, sym, subst, arith}
use Rattle.std.proofs.lemmas.List.{drop_all}
use Rattle.njs_tree.specs.declared.tree.Expr.{Expr}
use Rattle.njs_gen_stmt.proofs.Lists.{WroteDeclared, from_start, none_declared, undeclared_more, declared_more}
use Rattle.njs_gen_stmt.proofs.parts.declare.Goals as goal

pub returns-clause-written : goal.returns-clause-written
returns-clause-written c =
    let all = from_start c.loop-i.i c.as_slice-list.result.now c.args.list.now (omega arith) c.as_slice-list.ensures in
    subst (λ (list : List (List ℕ × Option Expr)). WroteDeclared list c.args.here c.args.w.now c.loop-i.w) all c.loop-i.invariant.1

pub loop-i-preserved : goal.loop-i-preserved
loop-i-preserved c =
    (c.loop-i.invariant.0, undeclared_more (c.loop-i.i - 1) c.loop-i.i c.as_slice-list.result.now c.index-list-i.result c.args.here c.args.w.now c.loop-i.w (omega arith) (omega arith) c.index-list-i.is c.in_default.is c.loop-i.invariant.1)

pub loop-i-preserved-in-Some : goal.loop-i-preserved-in-Some
loop-i-preserved-in-Some c = (
  λ g. c.loop-i.invariant.0 (c.declare_one.ensures.stays g),
  declared_more (c.loop-i.i - 1) c.loop-i.i c.as_slice-list.result.now c.index-list-i.result c.in-Some.e c.args.here c.args.w.now c.loop-i.w c.declare_one.new.w (omega arith) (omega arith) c.index-list-i.is c.in-Some.is c.loop-i.invariant.1 c.declare_one.ensures.written,
)

pub loop-i-init : goal.loop-i-init
loop-i-init c =
    let all : length c.as_slice-list.result.now ≤ length c.as_slice-list.result.now = omega arith in
    (λ g. g, subst (λ (l : List (List ℕ × Option Expr)). WroteDeclared l c.args.here c.args.w.now c.args.w.now) (sym (drop_all (length c.as_slice-list.result.now) c.as_slice-list.result.now all)) (none_declared c.args.here c.args.w.now))
