use Rattle.std.proofs.Common.{◌+◌, [], sym, subst}
use Rattle.njs_tree.specs.declared.tree.Item.{Item}
use Rattle.njs_simul.specs.Emission.{value, value_size, deeper, op}
use Rattle.njs_code.specs.declared.op.Kind.TheVariants as kind
use Rattle.njs_simul.specs.Compiled.{item_part, expression, statement}
use Rattle.njs_scope.specs.Uses as uses
use Rattle.njs_gen_stmt.specs.Walked.{Walked}
use Rattle.njs_gen_stmt.proofs.Walks.{walked_one}
use Rattle.njs_gen_stmt.proofs.script.in_item.Goals as goal

pub returns-in-Stmt : goal.returns-in-Stmt
returns-in-Stmt c =
    subst (λ (p : Item). Walked (item_part p) (uses.item p) c.args.around.now c.args.w.now c.in_statement.new.w) (sym c.in-Stmt.is)
    (walked_one (statement c.in-Stmt.s) (uses.statement c.in-Stmt.s) (λ a. record { size = a.size; emit = a.emit [] }) c.args.around.now c.args.w.now c.in_statement.new.w c.in_statement.ensures)

pub returns-in-Export : goal.returns-in-Export
returns-in-Export c =
    subst (λ (p : Item). Walked (item_part p) (uses.item p) c.args.around.now c.args.w.now c.in_expression.new.w) (sym c.in-Export.is)
    (walked_one (expression c.in-Export.e) (uses.expression c.in-Export.e) (λ a. record { size = value_size a + 1; emit = λ here rest. value a here (op kind.Nip (deeper 1 here) rest) }) c.args.around.now c.args.w.now c.in_expression.new.w c.in_expression.ensures)
