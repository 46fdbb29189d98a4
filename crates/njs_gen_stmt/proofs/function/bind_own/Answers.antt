use Rattle.std.proofs.Common.{suc, arith}
use Rattle.njs_gen_expr.proofs.Drafts.{recount}
use Rattle.njs_gen_stmt.proofs.function.bind_own.Goals as goal

pub returns-clause-written : goal.returns-clause-written
returns-clause-written c at d inside s h =
    recount c.bind.new.w _ (suc (suc d.count)) _ d.places d.functions (omega arith)
    (c.bind.ensures.written at d (λ g. c.own_place-place.ensures.given at.names g inside) s (c.own_place-place.ensures.holds d h))
