use Rattle.std.proofs.Common.{◌-◌, ◌≤◌, List, length, refl, sym, subst, arith}
use Rattle.std.proofs.lemmas.List.{drop_all}
use Rattle.njs_gen_stmt.specs.declared.function.Declaration.{Declaration}
use Rattle.njs_gen_stmt.proofs.Lists.{from_start}
use Rattle.njs_gen_stmt.proofs.Functions.{WroteDeclarations, no_declarations, declarations_more}
use Rattle.njs_gen_stmt.proofs.function.declare_functions.Goals as goal

pub returns-clause-written : goal.returns-clause-written
returns-clause-written c =
    let all = from_start c.loop-i.i c.args.list.now c.args.list.now (omega arith) refl in
    subst (λ (list : List Declaration). WroteDeclarations c.args.names.now list c.args.here c.args.w.now c.loop-i.w) all c.loop-i.invariant.1

pub loop-i-preserved : goal.loop-i-preserved
loop-i-preserved c = (
  λ g. c.loop-i.invariant.0 (c.declare_function.ensures.stays g),
  declarations_more (c.loop-i.i - 1) c.loop-i.i c.args.names.now c.args.list.now c.index-list-i.result c.args.here c.args.w.now c.loop-i.w c.declare_function.new.w (omega arith) (omega arith) c.index-list-i.is c.loop-i.invariant.1 c.declare_function.ensures.written,
)

pub loop-i-init : goal.loop-i-init
loop-i-init c =
    let all : length c.args.list.now ≤ length c.args.list.now = omega arith in
    (λ g. g, subst (λ (l : List Declaration). WroteDeclarations c.args.names.now l c.args.here c.args.w.now c.args.w.now) (sym (drop_all (length c.args.list.now) c.args.list.now all)) (no_declarations c.args.names.now c.args.here c.args.w.now))
