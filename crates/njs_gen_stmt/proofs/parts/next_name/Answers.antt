use Rattle.std.proofs.Common.{◌≡◌, suc, ◌+◌, [], ◌∷◌, ◌++◌, refl, subst, arith, rules}
use Rattle.njs_tree.specs.declared.tree.Expr.{the_lemmas}
use Rattle.njs_code.specs.declared.op.Kind.TheVariants as kind
use Rattle.njs_meaning.specs.Places.{place_in}
use Rattle.njs_meaning.specs.Parts.{leaf, with_vars}
use Rattle.njs_simul.specs.Emission as emit
use Rattle.njs_simul.specs.Emission.{value, value_size, deeper, op, address}
use Rattle.njs_simul.specs.EmissionOfStatements as step
use Rattle.njs_simul.specs.Compiled as compiled
use Rattle.njs_simul.specs.Compiled.{expression, statement}
use Rattle.njs_scope.specs.Uses as uses
use Rattle.njs_gen_expr.specs.Trees as code
use Rattle.njs_gen_expr.specs.Written.{draft, Holds}
use Rattle.njs_gen_expr.proofs.Drafts.{recount}
use Rattle.njs_gen_expr.proofs.Shapes.{placed_last}
use Rattle.njs_gen_stmt.proofs.Optionals.{as_next}
use Rattle.njs_gen_stmt.proofs.parts.next_name.Goals as goal

pub returns-in-Var-clause-written : goal.returns-in-Var-clause-written
unfolding expression statement code.head uses.expression uses.statement uses.head
returns-in-Var-clause-written c =
    let name = c.in-Var.name in
    let coded : code.head c.args.head.now ≡ with_vars (name ∷ []) (leaf (compiled.bare_name name)) = search (rules, the_lemmas) in
    let named : uses.head c.args.head.now ≡ with_vars (name ∷ []) (leaf (uses.use_of name)) = search (rules, the_lemmas) in
    as_next (code.head c.args.head.now) (with_vars (name ∷ []) (leaf (compiled.bare_name name))) (uses.head c.args.head.now) (with_vars (name ∷ []) (leaf (uses.use_of name))) c.args.here c.args.w.now c.pass.new.self coded named
    (λ at first start n ops front s h.
    let place = place_in name at.names in
    let whole = draft ops n (front ++ (place ∷ [])) (first + 0) in
    let h1 = c.assign_next.ensures.written at whole (λ g. c.place-place.ensures whole front [] place g h refl refl) s h in
    let written = step.next_name (compiled.bare_name name) at ops in
    recount c.pass.new.self _ (suc (suc (suc n))) _ front first (omega arith)
    (c.pass.ensures.passed (draft written (suc (suc (suc n))) (front ++ (place ∷ [])) (first + 0)) front (place ∷ []) first 0 refl refl refl refl h1))

pub returns-in-Target-clause-written : goal.returns-in-Target-clause-written
unfolding expression statement code.head uses.expression uses.statement uses.head
returns-in-Target-clause-written c =
    let e = c.in-Target.e in
    let E = expression e in
    let U = uses.expression e in
    let coded : code.head c.args.head.now ≡ E = search (rules, the_lemmas) in
    let named : uses.head c.args.head.now ≡ U = search (rules, the_lemmas) in
    as_next (code.head c.args.head.now) E (uses.head c.args.head.now) U c.args.here c.args.w.now c.target.new.w coded named
    (λ at first start n ops front s h.
    let r = c.reference_of-r.result in
    let t = E.means first in
    let places = front ++ (U.means start).places at.names in
    let placed = placed_last r c.args.w.now U c.reference_of-r.ensures.placed ops n (first + E.size) front at.names start h in
    let h1 = c.assign_next-in-Target.ensures.written at (draft ops n places (first + E.size)) placed s h in
    let h1' = subst (λ f. Holds c.assign_next-in-Target.new.w (draft (op kind.NextName (deeper (emit.width f) at) (emit.assign_to f at (op kind.Drop (deeper 1 at) ops))) (suc (suc (suc n))) places (first + E.size))) (c.reference_of-r.ensures.form first) h1 in
    recount c.target.new.w _ (t.size + suc (suc (suc n))) _ front first (omega arith)
    (c.target.ensures.written at first start (suc (suc (suc n))) (op kind.NextName (deeper (emit.width t.form) at) (emit.assign_to t.form at (op kind.Drop (deeper 1 at) ops))) front s h1'))
