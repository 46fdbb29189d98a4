-- What the functions of the walk answer: the uses of parts of a tree, and the names of scopes.
use Rattle.std.specs.Prelude.{ℕ, List, [], ◌∷◌, ◌++◌, map, Bool, true, Option, if◌then◌else◌}
use Rattle.std.specs.List.{list_any}
use Rattle.std.specs.Option.{option_map, option_map_or}
use Rattle.njs_tree.specs.declared.tree.Expr.{Expr}
use Rattle.njs_tree.specs.declared.tree.Stmt.{Stmt}
use Rattle.njs_tree.specs.declared.tree.Case.{Case}
use Rattle.njs_tree.specs.declared.tree.ForFirst.{ForFirst}
use Rattle.njs_props.specs.Names.{same_name}
use Rattle.njs_meaning.specs.Parts.{one, each_held, each_named, without_declared}
use Rattle.njs_meaning.specs.declared.place.Place.{Place}
use Rattle.njs_meaning.specs.Places as places
use Rattle.njs_meaning.specs.Places.{Bindings}
use Rattle.njs_meaning.specs.Functions.{arguments_name}
use Rattle.njs_scope.specs.declared.around.Around.{Around}
use Rattle.njs_scope.specs.declared.around.Around.TheOpen.{Around-F}
use Rattle.njs_scope.specs.declared.around.Around.TheFolds.{fold-Around}
use Rattle.njs_scope.specs.Uses.{Of_part, all_of, held_of, all_held, all_named, each_declared, declaring, in_scope, caught_part, last_part, expression, statement, branch, first}

-- ---- names

abbrev pub around_step : Around-F places.Around → places.Around
around_step (Around-F.Outermost names) = names.now ∷ []
around_step (Around-F.Inside names further) = names.now ∷ further.now

-- the scopes around a place, as the definitions have them
unfoldable pub around_of : Around → places.Around
around_of = fold-Around places.Around around_step

-- the names of a scope with one more, if it isn't among them
abbrev pub once_more : Bindings → List ℕ → Bindings
once_more names name = if list_any (λ b. same_name name b.0) names then names else names ++ (name, true) ∷ []

abbrev pub each_once_more : Bindings → List (List ℕ) → Bindings
each_once_more names [] = names
each_once_more names (name ∷ more) = each_once_more (once_more names name) more

-- `arguments`, where it is named
abbrev pub arguments_if : Bool → List (List ℕ)
arguments_if takes_arguments = if takes_arguments then arguments_name ∷ [] else []

-- ---- parts in lists, and parts that may be missing

abbrev pub expressions : List Expr → Of_part
expressions list = all_of (map expression list)

abbrev pub elements : List (Option Expr) → Of_part
elements list = one (each_held (map (option_map expression) list)) all_held

abbrev pub properties : List (List ℕ × Expr) → Of_part
properties list = one (each_named (map (λ p. (p.0, expression p.1)) list)) all_named

-- the names and values of a `var`
abbrev pub values_of : List (List ℕ × Option Expr) → List (List ℕ × Option Of_part)
values_of list = map (λ v. (v.0, option_map expression v.1)) list

abbrev pub variables : List (List ℕ × Option Expr) → Of_part
variables list = each_declared (values_of list)

abbrev pub declaring_all : List (List ℕ × Option Expr) → Of_part
declaring_all list = declaring (values_of list)

abbrev pub optional : Option Expr → Of_part
optional part = held_of (option_map expression part)

abbrev pub optional_first : Option ForFirst → Of_part
optional_first part = held_of (option_map first part)

abbrev pub statements : List Stmt → Of_part
statements list = all_of (map statement list)

abbrev pub branches : List Case → Of_part
branches list = all_of (map branch list)

-- the block of a `catch` with this name
abbrev pub caught : List ℕ → List Stmt → Of_part
caught name list = one (without_declared (statements list)) (in_scope ((name, true) ∷ []))

abbrev pub caught_of : Option (List ℕ × List Stmt) → Of_part
caught_of part = caught_part (option_map (λ c. (c.0, map statement c.1)) part)

abbrev pub last_of : Option (List Stmt) → Of_part
last_of part = last_part (option_map (map statement) part)

-- ---- what they use

abbrev pub places_of : Of_part → (first : ℕ) → Around → List Place
places_of part first around = (part.means first).places (around_of around)

abbrev pub scopes_of : Of_part → (first : ℕ) → Around → List Bindings
scopes_of part first around = (part.means first).scopes (around_of around)

-- ---- what is declared

abbrev pub declared_names : Of_part → (first : ℕ) → List (List ℕ)
declared_names part first = map (λ d. d.name) (part.declared first)

abbrev pub declared_name : Option (List ℕ) → List ℕ
declared_name name = option_map_or (λ name. name) name []
