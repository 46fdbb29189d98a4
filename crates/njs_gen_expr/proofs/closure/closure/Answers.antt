use Rattle.std.proofs.Common.{◌≡◌, ℕ, ◌+◌, List, [], ◌∷◌, ◌++◌, length, None, Some, false, refl, sym, ◌∙◌, subst, arith, rules}
use Rattle.std.proofs.lemmas.List.{append-nil}
use Rattle.njs_tree.specs.declared.tree.Expr.{the_lemmas}
use Rattle.njs_tree.specs.declared.tree.FunctionTree.{out-FunctionTree}
use Rattle.njs_code.specs.declared.op.Kind.TheVariants as kind
use Rattle.njs_code.specs.declared.op.Op.{Op}
use Rattle.njs_meaning.specs.declared.place.Place.{Place}
use Rattle.njs_meaning.specs.Meaning.{Made}
use Rattle.njs_meaning.specs.Places.{Around}
use Rattle.njs_simul.specs.Emission as emit
use Rattle.njs_scope.specs.Uses as uses
use Rattle.njs_gen_expr.specs.Trees.{function}
use Rattle.njs_gen_expr.specs.Written.{Progress, IsGoing, draft, Holds}
use Rattle.njs_gen_expr.proofs.closure.closure.Goals as goal

-- the scopes in which a function stands with its own name
own_places : (o : uses.Own) (names : Around) → (inner : Around) × ((uses.function_expression o).places names ≡ o.uses.places inner)
own_places o names =
    elim o.made.name as (λ m. (inner : Around) × ((uses.in_own_name m o.uses).places names ≡ o.uses.places inner)) [
      | None ↦ (names, refl)
      | Some name ↦ (((name, false) ∷ []) ∷ names, refl)
    ]

unbare : (w : Progress) (ops : List Op) (n : ℕ) (front : List Place) (first : ℕ) → Holds w (draft ops n front first) → Holds w (draft ops n (front ++ []) (first + 0))
unbare w ops n front first h =
    let sum : first ≡ first + 0 = omega arith in
    subst (λ k. Holds w (draft ops n (front ++ []) k)) sum (subst (λ ps. Holds w (draft ops n ps first)) (sym (append-nil front)) h)

pub returns-clause-written : goal.returns-clause-written
unfolding function
returns-clause-written c at first start n ops front s h =
    let f = out-FunctionTree c.args.f.now in
    let around = own_places ((uses.function c.args.f.now).means start) at.names in
    let h0 = subst (λ ps. Holds c.args.w.now (draft ops n (front ++ ps) (first + (function c.args.f.now).size))) around.1 h in
    let h1 = c.pass_function.ensures.passed around.0 first start n ops front h0 in
    let told : Made = record { number = first; name = f.name; params = length f.params } in
    let made : (function c.args.f.now).means first ≡ told = search (rules, the_lemmas) in
    let k = kind.Closure first (length f.params) f.name in
    let known : IsGoing c.copy_held-name.new.w → kind.Closure c.functions-number.result c.counted-params.result c.copy_held-name.result ≡ k = λ g.
    (let e3 : c.copy_held-name.result ≡ f.name = c.copy_held-name.ensures.copied g in
    let g2 = c.copy_held-name.ensures.stays g in
    let e2 : c.counted-params.result ≡ length f.params = c.counted-params.ensures.given g2 ∙ c.len.ensures in
    let e1 : c.functions-number.result ≡ first = c.functions-number.ensures (draft ops n front first) (c.counted-params.ensures.stays g2) h1 in
    cc) in
    let h3 = c.copy_held-name.ensures.holds (draft ops n front first) (c.counted-params.ensures.holds (draft ops n front first) h1) in
    let done = c.constant.ensures.written k known at first start n ops front s (unbare c.copy_held-name.new.w ops n front first h3) in
    subst (λ m. Holds c.constant.new.w (draft ((emit.function m).target at ops) (2 + n) front first)) (sym made) done
