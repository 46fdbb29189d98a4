-- The code of accepted scripts is valid.
use Rattle.std.proofs.Common.{◌≡◌, ℕ, List, [], Bool, true, refl, ap, sym, ◌∙◌}
use Rattle.njs_tree.specs.declared.tree.Script.{Script}
use Rattle.njs_tree.specs.declared.tree.Item.{Item}
use Rattle.njs_tree.specs.declared.tree.Item.TheVariants as items
use Rattle.njs_tree.specs.Lexemes.{Symbol}
use Rattle.njs_tree.specs.Grammar.{Items}
use Rattle.njs_tree.specs.Early.{outermost, of_item, of_items}
use Rattle.njs_tree.specs.Accepted.{IsAccepted}
use Rattle.njs_meaning.specs.Places.{Bindings}
use Rattle.njs_code.specs.Valid.{is_valid}
use Rattle.njs_simul.specs.Compiled.{code_of}
use Rattle.njs_simul.specs.Sound.{are_sound, is_sound, is_sound_expression, is_sound_statement}
use Rattle.njs_simul.proofs.SeenTrees.{seen_all, seen_statements}
use Rattle.njs_simul.proofs.ValidTrees.{sound_all, sound_statements}
use Rattle.njs_simul.proofs.AcceptedNodes.{two_so}
use Rattle.njs_simul.proofs.AcceptedTrees.{Small, spells, item as item_reads, ends, after, and_then}
use Rattle.njs_simul.proofs.AcceptedTokens.{symbols_small}
use Rattle.njs_simul.proofs.ValidWhole.{code_valid}

items_sound : {xs : List Item} {d : ℕ} {exports : Bool} {i : List Symbol} → Items xs d exports i → Small i → of_items xs ≡ [] → are_sound xs ≡ true
items_sound (Items.over t is_t) small h = refl
items_sound (Items.item s xs d dx exports i r hs hxs) small h =
    let a = item_reads hs small in
    two_so (of_item (items.Stmt s)) (of_items xs) (is_sound_statement s) (are_sound xs)
    (λ none. ap (λ p. p s) sound_statements ∙ a.2 outermost (ap (λ p. p s outermost) (sym seen_statements) ∙ none))
    (items_sound hxs a.1) h
items_sound (Items.export a xs d dx e t u i k r is_t is_u ha ending hxs) small h =
    let p = after t (after u (and_then (spells ha) (ends ending))) small in
    two_so (of_item (items.Export t.line a)) (of_items xs) (is_sound_expression a) (are_sound xs)
    (λ none. ap (λ p. p a) sound_all ∙ p.2 outermost (ap (λ p. (p a).refusals outermost) (sym seen_all) ∙ none))
    (items_sound hxs p.1) h

pub accepted_sound : (script : Script) → IsAccepted script → is_sound script ≡ true
accepted_sound script a =
    let text = a.0.0 in let spelled = a.0.2.1 in
    items_sound spelled.3 (symbols_small text spelled.0 a.0.1 spelled.2) a.1

pub accepted_valid : (script : Script) (outermost : Bindings) → IsAccepted script → is_valid (code_of script outermost) ≡ true
accepted_valid script outermost a = code_valid script outermost (accepted_sound script a)
