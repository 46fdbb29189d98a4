use Rattle.std.proofs.Common.{◌≡◌, ◌+◌, sym, subst, arith}
use Rattle.njs_tree.specs.declared.tree.FunctionTree.{out-FunctionTree}
use Rattle.njs_gen_stmt.specs.Functions.{Refused, told_all}
use Rattle.njs_gen_stmt.specs.Statements.{in_turn}
use Rattle.njs_gen_stmt.proofs.FunctionWalks.{code_long}
use Rattle.njs_gen_stmt.proofs.walk.function_code.Goals as goal

pub returns-in-Err : goal.returns-in-Err
returns-in-Err c around first start inside slots places is =
    let k = c.args.known in
    let size = (in_turn (out-FunctionTree c.args.f.now).body).size in
    let behind : c.in-Ok-try_from.behind ≡ first + 1 + size = omega (arith, is) in
    subst (λ n. Refused c.in-Err.fault n) (sym (code_long c.args.f.now first (told_all k.declared.now) k.takes_arguments around))
    (c.in-Err.ensures around (first + 1) start inside places behind)
