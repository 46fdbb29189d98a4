use Rattle.std.proofs.Common.{suc, ◌+◌, Option, refl, sym, subst, arith}
use Rattle.njs_tree.specs.declared.tree.Expr.{Expr}
use Rattle.njs_code.specs.declared.op.Kind.TheVariants as kind
use Rattle.njs_meaning.specs.Parts.{one}
use Rattle.njs_simul.specs.EmissionOfStatements as step
use Rattle.njs_gen_expr.specs.Written.{draft}
use Rattle.njs_gen_expr.proofs.Drafts.{recount, bare}
use Rattle.njs_gen_stmt.specs.Statements.{WrotePart, optional, optional_uses}
use Rattle.njs_gen_stmt.proofs.parts.value_or_undefined.Goals as goal

pub returns-in-None-clause-written : goal.returns-in-None-clause-written
returns-in-None-clause-written c =
    subst (λ (o : Option Expr). WrotePart (one (optional o) step.value_or_undefined) (optional_uses o) c.args.here c.args.w.now c.write.new.self) (sym c.in-None.is)
    (λ at first start n ops front s h. recount c.write.new.self _ (suc n) (1 + n) front first (omega arith)
    (c.write.ensures.written kind.Undefined at (draft ops n front first) (λ g. refl) s (bare c.args.w.now ops n front first h)))

pub returns-in-Some-clause-written : goal.returns-in-Some-clause-written
returns-in-Some-clause-written c =
    subst (λ (o : Option Expr). WrotePart (one (optional o) step.value_or_undefined) (optional_uses o) c.args.here c.args.w.now c.value.new.w) (sym c.in-Some.is) c.value.ensures.written
