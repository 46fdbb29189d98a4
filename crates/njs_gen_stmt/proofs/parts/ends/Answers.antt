use Rattle.std.proofs.Common.{suc, refl, arith}
use Rattle.njs_code.specs.declared.op.Kind.TheVariants as kind
use Rattle.njs_simul.specs.Emission.{op}
use Rattle.njs_gen_expr.specs.Written.{draft}
use Rattle.njs_gen_expr.proofs.Drafts.{recount, bare}
use Rattle.njs_gen_stmt.specs.Statements.{first}
use Rattle.njs_gen_stmt.proofs.parts.ends.Goals as goal

pub returns-clause-written : goal.returns-clause-written
returns-clause-written c k ls known at first start n ops front s h =
    let h1 = c.write.ensures.written k at (draft ops n front first) known s (bare c.args.w.now ops n front first h) in
    recount c.write-2.new.self _ (suc (suc n)) _ front first (omega arith) (c.write-2.ensures.written kind.Charge at (draft (op k at ops) (suc n) front first) (λ g. refl) s h1)
