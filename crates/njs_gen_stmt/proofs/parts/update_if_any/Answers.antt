use Rattle.std.proofs.Common.{Option, sym, subst}
use Rattle.njs_tree.specs.declared.tree.Expr.{Expr}
use Rattle.njs_meaning.specs.Parts.{one}
use Rattle.njs_simul.specs.EmissionOfStatements as step
use Rattle.njs_gen_stmt.specs.Statements.{WroteTest, optional, optional_uses}
use Rattle.njs_gen_stmt.proofs.Optionals.{nothing_written}
use Rattle.njs_gen_stmt.proofs.parts.update_if_any.Goals as goal

pub returns-in-None-clause-written : goal.returns-in-None-clause-written
returns-in-None-clause-written c p =
    subst (λ (o : Option Expr). WroteTest p (one (optional o) step.does_if_any) (optional_uses o) c.args.here c.args.w.now c.args.w.now) (sym c.in-None.is)
    (λ at first start n ops front s h. nothing_written c.args.w.now ops n front first h)

pub returns-in-Some-clause-written : goal.returns-in-Some-clause-written
returns-in-Some-clause-written c p =
    subst (λ (o : Option Expr). WroteTest p (one (optional o) step.does_if_any) (optional_uses o) c.args.here c.args.w.now c.evaluate.new.w) (sym c.in-Some.is) c.evaluate.ensures.written
