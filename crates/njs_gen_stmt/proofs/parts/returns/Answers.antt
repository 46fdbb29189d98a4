use Rattle.std.proofs.Common.{suc, ◌+◌, ◌++◌, refl, arith}
use Rattle.njs_code.specs.declared.op.Kind.TheVariants as kind
use Rattle.njs_simul.specs.Emission.{deeper, op}
use Rattle.njs_simul.specs.EmissionOfStatements as step
use Rattle.njs_gen_expr.specs.Written.{draft}
use Rattle.njs_gen_expr.proofs.Drafts.{recount}
use Rattle.njs_gen_stmt.specs.Statements.{optional, optional_uses, first}
use Rattle.njs_gen_stmt.proofs.parts.returns.Goals as goal

pub returns-clause-written : goal.returns-clause-written
returns-clause-written c ls at first start n ops front s h =
    let X = optional c.args.e.now in
    let part = step.value_or_undefined (X.means first) in
    let last = op kind.Return (deeper 1 at) ops in
    let h1 = c.write.ensures.written kind.Return (deeper 1 at) (draft ops n (front ++ ((optional_uses c.args.e.now).means start).places at.names) (first + X.size)) (λ g. refl) (c.deeper.ensures at s) h in
    let h2 = c.value_or_undefined.ensures.written at first start (suc n) last front s h1 in
    recount c.write-2.new.self _ (suc (part.size + suc n)) _ front first (omega arith) (c.write-2.ensures.written kind.Charge at (draft (part.emit at last) (part.size + suc n) front first) (λ g. refl) s h2)
