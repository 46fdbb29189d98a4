use Rattle.std.proofs.Common.{suc, refl, arith}
use Rattle.njs_code.specs.declared.op.Kind.TheVariants as kind
use Rattle.njs_gen_expr.specs.Written.{draft}
use Rattle.njs_gen_expr.proofs.Drafts.{recount, bare}
use Rattle.njs_gen_stmt.specs.Statements.{first}
use Rattle.njs_gen_stmt.proofs.parts.empty.Goals as goal

pub returns-clause-written : goal.returns-clause-written
returns-clause-written c ls at first start n ops front s h =
    recount c.write.new.self _ (suc n) _ front first (omega arith) (c.write.ensures.written kind.Charge at (draft ops n front first) (λ g. refl) s (bare c.args.w.now ops n front first h))
