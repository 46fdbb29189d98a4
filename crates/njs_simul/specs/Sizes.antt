-- How many operations are written for each part of a tree, and that what stands behind them stays.
use Rattle.std.specs.Prelude.{◌≡◌, ℕ, suc, ◌+◌, List, [], ◌∷◌, length, map, Bool, true, false}
use Rattle.njs_tree.specs.declared.tree.Item.{Item}
use Rattle.njs_tree.specs.declared.tree.Expr.{Expr}
use Rattle.njs_tree.specs.declared.tree.Stmt.{Stmt}
use Rattle.njs_code.specs.declared.op.Op.{Op}
use Rattle.njs_meaning.specs.Parts.{Declared, Part, each}
use Rattle.njs_simul.specs.Emission.{Here, Emits, value, value_size}
use Rattle.njs_simul.specs.EmissionOfStatements.{CodedStatement, CodedPart, in_turn, in_turn_size, function_body}
use Rattle.njs_simul.specs.Compiled.{Placed, expression, statement, items_part, items_in_turn, body_of}
use Rattle.njs_simul.specs.Laws.{Writes}

-- a function that is made and goes into its name
abbrev pub declared_size : List Declared → ℕ
declared_size [] = 0
declared_size (d ∷ ds) = 3 + declared_size ds

abbrev pub arguments_size : Bool → ℕ
arguments_size false = 0
arguments_size true = 3

abbrev pub function_size : List Declared → Bool → List CodedStatement → ℕ
function_size ds takes_arguments body = declared_size ds + (arguments_size takes_arguments + (in_turn_size body + 2))

abbrev pub items_size : List CodedPart → ℕ
items_size [] = 0
items_size (a ∷ more) = a.size + items_size more

-- the body of a module
abbrev pub body_size : List Declared → List CodedPart → ℕ
body_size ds parts = declared_size ds + suc (items_size parts + 1)

-- so many operations are written in front of what stands behind, which stays
pub record Written (count : ℕ) (emit : Emits) : Type 0 where
  pub keeps : Writes count emit
  pub long : (here : Here) (rest : List Op) → length (emit here rest) ≡ count + length rest

abbrev pub statements_in : List Stmt → Part Placed (List CodedStatement)
statements_in list = each (map statement list)

-- for each part there are as many operations as its size says
pub record SizesAreTrue : Type 0 where
  pub targets : (e : Expr) (first : ℕ) → Written ((expression e).means first).size ((expression e).means first).target
  pub values : (e : Expr) (first : ℕ) → Written (value_size ((expression e).means first)) (value ((expression e).means first))
  pub statements : (s : Stmt) (first : ℕ) (labels : List (List ℕ)) → Written ((statement s).means first).size (((statement s).means first).emit labels)
  pub lists : (list : List Stmt) (first : ℕ) → Written (in_turn_size ((statements_in list).means first)) (in_turn ((statements_in list).means first))
  pub functions : (list : List Stmt) (first : ℕ) (ds : List Declared) (takes_arguments : Bool)
      → Written (function_size ds takes_arguments ((statements_in list).means first)) (function_body ds takes_arguments ((statements_in list).means first))
  pub items : (list : List Item) (first : ℕ) → Written (items_size ((items_part list).means first)) (items_in_turn ((items_part list).means first))
  pub bodies : (list : List Item) (first : ℕ) (ds : List Declared) → Written (body_size ds ((items_part list).means first)) (body_of ds ((items_part list).means first))
