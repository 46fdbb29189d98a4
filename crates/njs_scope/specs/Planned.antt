-- The scopes of a script with the slots of each, and the places of the names in use.
use Rattle.std.specs.Prelude.{List, [], ◌∷◌, ◌++◌, map, false, codes}
use Rattle.njs_tree.specs.declared.tree.Script.{Script}
use Rattle.njs_meaning.specs.declared.place.Place.{Place}
use Rattle.njs_meaning.specs.Places.{Bindings, assignable}
use Rattle.njs_meaning.specs.Functions.{each_once}
use Rattle.njs_scope.specs.Uses.{Of_part, items_part}

-- the names of each scope in order of its slots, the outermost first and the module's next, and the place of each name in use
pub record Planned : Type 0 where
  pub scopes : List Bindings
  pub places : List Place

-- the names of a module's scope: those of its functions and of its `var`s
abbrev pub module_names : Of_part → Bindings
module_names part = assignable (each_once [] (map (λ d. d.name) (part.declared 0) ++ part.vars))

-- the names of the outermost scope: `undefined`, which can't be assigned (ECMA-262 5.1 §15.1.1.3), stands before the others
abbrev pub outermost : Bindings → Bindings
outermost names = (codes "undefined", false) ∷ names

-- by the names of the outermost scope
abbrev pub planned : Script → Bindings → Planned
planned script names =
    let part = items_part script.items in
    let own = module_names part in
    let around = own ∷ names ∷ [] in
    record { scopes = names ∷ own ∷ (part.means 0).scopes around; places = (part.means 0).places around }
