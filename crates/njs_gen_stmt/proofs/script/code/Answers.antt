use Rattle.std.proofs.Common.{◌≡◌, ◌-◌, ◌≤◌, List, [], ◌∷◌, length, get_or, take, drop, false, sym, ap, subst, arith, ◌∙◌}
use Rattle.std.proofs.lemmas.List.{length-drop, take_all}
use Rattle.njs_tree.specs.declared.tree.Item.{Item}
use Rattle.njs_meaning.specs.Places.{Around, Bindings}
use Rattle.njs_simul.specs.Counts.{operations_of, max_operations}
use Rattle.njs_simul.specs.EmissionOfStatements.{slots_of}
use Rattle.njs_simul.specs.Compiled.{items_part, module_around}
use Rattle.njs_scope.specs.Uses as uses
use Rattle.njs_scope.specs.Planned.{module_names}
use Rattle.njs_gen_stmt.specs.Generated.{has_too_many_slots}
use Rattle.njs_gen_stmt.proofs.Scripts.{module_same, module_inside, script_is, not_crowded}
use Rattle.njs_gen_stmt.proofs.script.code.Goals as goal

pub returns-in-Ok-with_body : goal.returns-in-Ok-with_body
returns-in-Ok-with_body c script outermost same scopes places =
    let list = c.args.list.now in
    let U = uses.items_part list in
    let planned_own = module_names U in
    let names = module_around (items_part list) outermost in
    let is = module_same list outermost c.walked-w.ensures.alike in
    let stand : c.args.scopes.now ≡ outermost ∷ (planned_own ∷ (U.means 0).scopes (planned_own ∷ (outermost ∷ []))) =
    subst (λ (l : List Item). c.args.scopes.now ≡ outermost ∷ (module_names (uses.items_part l) ∷ ((uses.items_part l).means 0).scopes (module_names (uses.items_part l) ∷ (outermost ∷ [])))) same scopes in
    let used : c.args.places.now ≡ (U.means 0).places names =
    subst (λ (l : List Item). c.args.places.now ≡ ((uses.items_part l).means 0).places (module_names (uses.items_part l) ∷ (outermost ∷ []))) same places ∙ ap (λ (ns : Around). (U.means 0).places ns) is in
    let out : c.outermost-item.result ≡ outermost = c.outermost-item.is ∙ ap (λ (l : List Bindings). get_or l 0 c.outermost-item.result) stand in
    let own : c.own-item.result ≡ planned_own = c.own-item.is ∙ ap (λ (l : List Bindings). get_or l 1 c.own-item.result) stand in
    let short : length (drop 2 c.args.scopes.now) ≤ length c.args.scopes.now - 2 = omega (arith, length-drop 2 c.args.scopes.now) in
    let inner : take (length c.args.scopes.now - 2) (drop 2 c.args.scopes.now) ≡ (U.means 0).scopes names = take_all (length c.args.scopes.now - 2) (drop 2 c.args.scopes.now) short ∙ ap (λ (l : List Bindings). drop 2 l) stand ∙ ap (λ (ns : Around). (U.means 0).scopes ns) is in
    let slots : c.in-Ok.around ≡ slots_of names =
    c.in-Ok.ensures ∙ ap (λ n. n ∷ (c.len-2.result ∷ [])) c.len.ensures ∙ ap (λ n. length c.own-item.result ∷ (n ∷ [])) c.len-2.ensures
    ∙ ap (λ (o : Bindings). length o ∷ (length c.outermost-item.result ∷ [])) own ∙ ap (λ (o : Bindings). length planned_own ∷ (length o ∷ [])) out ∙ ap (λ (ns : Around). slots_of ns) is in
    let reached = c.walked-w.ensures.reached names (module_inside list outermost) (c.as_slice.ensures ∙ slots) inner used in
    let around : names ≡ c.as_slice-2.result.now ∷ (outermost ∷ []) = sym is ∙ ap (λ (o : Bindings). o ∷ (outermost ∷ [])) (sym (c.as_slice-2.ensures ∙ own)) in
    let made = c.in-Ok-with_body.ensures names (outermost, [], around) slots used c.walked-w.ensures.alike.count reached.3 in
    let whole = script_is script outermost list same in
    let few : length c.as_slice-2.result.now ≤ 65535 = omega (arith, ap length c.as_slice-2.ensures) in
    let fits = not_crowded c.as_slice-2.result.now names list outermost c.walked-w.result.crowded around few reached.2 c.if-w.false in
    (made.0 ∙ whole, (subst (λ k. has_too_many_slots k ≡ false) whole fits, subst (λ k. operations_of k ≤ max_operations) whole made.1))
