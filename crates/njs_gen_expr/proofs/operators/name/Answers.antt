use Rattle.std.proofs.Common.{suc, ◌+◌, [], ◌∷◌, ◌++◌, refl, arith}
use Rattle.njs_code.specs.declared.op.Kind.TheVariants as kind
use Rattle.njs_meaning.specs.Places.{place_in}
use Rattle.njs_gen_expr.specs.Written.{draft}
use Rattle.njs_gen_expr.proofs.Drafts.{recount}
use Rattle.njs_gen_expr.proofs.operators.name.Goals as goal

pub returns-clause-written : goal.returns-clause-written
returns-clause-written c text at first start n ops front s h =
    let place = place_in text at.names in
    let h1 = c.pass.ensures.passed (draft ops n (front ++ (place ∷ [])) (first + 0)) front (place ∷ []) first 0 refl refl refl refl h in
    recount c.write.new.self _ (suc n) (1 + n) front first (omega arith) (c.write.ensures.written kind.Charge at (draft ops n front first) (λ g. refl) s h1)
