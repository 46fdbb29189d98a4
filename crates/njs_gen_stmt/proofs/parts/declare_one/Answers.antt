use Rattle.std.proofs.Common.{◌≡◌, suc, ◌+◌, [], ◌∷◌, ◌++◌, length, refl, sym, subst, arith}
use Rattle.std.proofs.lemmas.List.{append_assoc}
use Rattle.njs_meaning.specs.Places.{place_in}
use Rattle.njs_simul.specs.Emission.{value, value_size}
use Rattle.njs_simul.specs.EmissionOfStatements as step
use Rattle.njs_simul.specs.Compiled.{expression}
use Rattle.njs_scope.specs.Uses as uses
use Rattle.njs_gen_expr.specs.Trees as code
use Rattle.njs_gen_expr.specs.Written.{IsGoing, draft, Holds}
use Rattle.njs_gen_expr.proofs.Drafts.{recount}
use Rattle.njs_gen_stmt.specs.Statements.{first}
use Rattle.njs_gen_expr.specs.Written.{most}
use Rattle.njs_gen_stmt.proofs.parts.declare_one.Goals as goal

pub returns-clause-written : goal.returns-clause-written
returns-clause-written c at first start n ops front s h =
    let name = c.args.name.now in
    let E = code.expression c.args.e.now in
    let v = E.means first in
    let used = ((uses.expression c.args.e.now).means start).places at.names in
    let place = place_in name at.names in
    let whole = draft ops n (front ++ (place ∷ used)) (first + E.size) in
    let between : c.uses_in-between.result ≡ most (length used) = omega (arith, c.uses_in-between.ensures start at.names) in
    let placed : IsGoing c.args.w.now → c.place-place.result ≡ place = λ g. c.place-place.ensures whole front used place g h refl between in
    let bound = step.bind name at ops in
    let h1 = c.bind.ensures.written at whole placed s h in
    let h1' = subst (λ ps. Holds c.bind.new.w (draft bound (suc (suc n)) ps (first + E.size))) (sym (append_assoc front (place ∷ []) used)) h1 in
    let h2 = c.value.ensures.written at first start (suc (suc n)) bound (front ++ place ∷ []) s h1' in
    let none : first ≡ first + 0 = omega arith in
    let h3 = c.pass.ensures.passed (draft (value v at bound) (value_size v + suc (suc n)) (front ++ place ∷ []) first) front (place ∷ []) first 0 refl none refl refl h2 in
    recount c.pass.new.self _ (value_size v + suc (suc n)) _ front first (omega arith) h3
