use Rattle.std.proofs.Common.{suc, ◌+◌, [], ◌++◌, refl, sym, subst, arith}
use Rattle.njs_code.specs.declared.op.Kind.TheVariants as kind
use Rattle.njs_simul.specs.Emission.{value_size, deeper, op}
use Rattle.njs_simul.specs.Compiled.{expression}
use Rattle.njs_scope.specs.Uses as uses
use Rattle.njs_gen_expr.specs.Trees as code
use Rattle.njs_gen_expr.specs.Written.{draft}
use Rattle.njs_gen_expr.proofs.Drafts.{recount}
use Rattle.njs_gen_stmt.specs.Statements.{WrotePart}
use Rattle.njs_tree.specs.declared.tree.Item.{Item}
use Rattle.njs_simul.specs.Compiled.{item_part}
use Rattle.njs_gen_stmt.proofs.function.item.Goals as goal

pub returns-in-Export-clause-written : goal.returns-in-Export-clause-written
returns-in-Export-clause-written c =
    subst (λ (p : Item). WrotePart (item_part p) (uses.item p) c.args.here c.args.w.now c.value.new.w) (sym c.in-Export.is)
    (λ at first start n ops front s h.
    let size = value_size ((code.expression c.in-Export.e).means first) in
    let h1 = c.write.ensures.written kind.Nip (deeper 1 at) (draft ops n (front ++ ((uses.expression c.in-Export.e).means start).places at.names) (first + (code.expression c.in-Export.e).size)) (λ g. refl) (c.deeper.ensures at s) h in
    recount c.value.new.w _ (size + suc n) _ front first (omega arith) (c.value.ensures.written at first start (suc n) (op kind.Nip (deeper 1 at) ops) front s h1))

pub returns-in-Stmt-clause-written : goal.returns-in-Stmt-clause-written
returns-in-Stmt-clause-written c =
    subst (λ (p : Item). WrotePart (item_part p) (uses.item p) c.args.here c.args.w.now c.statement.new.w) (sym c.in-Stmt.is)
    (c.statement.ensures.written [] (λ g. c.new-none.ensures))
