-- What the walk over a tree makes of the functions in it.
use Rattle.std.specs.Prelude.{◌≡◌, ℕ, ◌+◌, ◌<◌, nat_lt, List, [], ◌∷◌, ◌++◌, map, length, Bool, true, false, ◌||◌, Option, Some, None}
use Rattle.std.specs.List.{list_any}
use Rattle.std.specs.Option.{option_map}
use Rattle.njs_tree.specs.declared.tree.Expr.{Expr}
use Rattle.njs_tree.specs.declared.tree.FunctionTree.{FunctionTree, out-FunctionTree}
use Rattle.njs_code.specs.declared.code.FunctionCode.{FunctionCode}
use Rattle.njs_meaning.specs.declared.place.Place.{Place}
use Rattle.njs_meaning.specs.Meaning.{declared_as}
use Rattle.njs_meaning.specs.Parts.{Part, Declared, with_declaration}
use Rattle.njs_meaning.specs.Places.{Around, Bindings}
use Rattle.njs_simul.specs.EmissionOfStatements.{slots_of, at_start, function_body, CodedPart, CodedStatement}
use Rattle.njs_simul.specs.Compiled.{Placed, Of_function, declaring, declaration}
use Rattle.njs_simul.specs.Counts.{operations_in}
use Rattle.njs_scope.specs.Uses as uses
use Rattle.njs_scope.specs.Uses.{Of_part}
use Rattle.njs_gen_expr.specs.Trees as code
use Rattle.njs_gen_expr.specs.declared.fault.Fault.TheVariants.{NoMemory, TooLong}
use Rattle.njs_gen_expr.specs.declared.fault.Fault.{Fault}
use Rattle.njs_gen_stmt.specs.Functions.{told_all}
use Rattle.njs_gen_stmt.specs.declared.walk.Walk.{Walk}
use Rattle.njs_gen_stmt.specs.declared.walk.Begun.{Begun}
use Rattle.njs_gen_stmt.specs.Statements.{in_turn}

-- a function has more names in its scope than slots may be
abbrev pub is_crowded : List ℕ → Bool
is_crowded [] = false
is_crowded (count ∷ around) = nat_lt 65535 count

abbrev pub any_crowded : List FunctionCode → Bool
any_crowded fs = list_any (λ f. is_crowded f.slots) fs

-- what was found so far, and what is still to come
pub record Found : Type 0 where
  pub functions : List FunctionCode
  pub declared : List Declared
  pub takes_arguments : Bool
  pub scopes : List Bindings
  pub places : List Place

abbrev pub found : List FunctionCode → List Declared → Bool → List Bindings → List Place → Found
found functions declared takes_arguments scopes places = record { functions = functions; declared = declared; takes_arguments = takes_arguments; scopes = scopes; places = places }

abbrev pub IsUnbroken : Option Fault → Type 0
IsUnbroken None = Unit {0}
IsUnbroken (Some fault) = ⊥

-- what was made, or why it was not
abbrev pub Made : Option Fault → Walk → Found → Type 0
Made None w f = (w.functions ≡ f.functions) × (told_all w.declared ≡ f.declared) × (w.names_arguments ≡ f.takes_arguments) × (w.operations ≡ operations_in f.functions)
Made (Some NoMemory) w f = Unit {0}
Made (Some TooLong) w f = 16777216 < operations_in f.functions

-- the same of the code of the functions alone
abbrev pub AreMade : Option Fault → Walk → List FunctionCode → Type 0
AreMade None w fs = (w.functions ≡ fs) × (w.operations ≡ operations_in fs)
AreMade (Some NoMemory) w fs = Unit {0}
AreMade (Some TooLong) w fs = 16777216 < operations_in fs

-- nothing changed but the code of the functions
abbrev pub Same : Walk → Walk → Type 0
Same w v = (v.scopes.now ≡ w.scopes.now) × (v.places.now ≡ w.places.now) × (v.crowded ≡ w.crowded) × (v.declared ≡ w.declared) × (v.names_arguments ≡ w.names_arguments)

abbrev pub Reached : Walk → Found → Type 0
Reached w f = (w.scopes.now ≡ f.scopes) × (w.places.now ≡ f.places) × (w.crowded ≡ any_crowded f.functions) × Made w.fault w f

-- the code of the functions of a part, by the names of the scopes around it
abbrev pub coded : {A : Type 0} → Part Placed A → (first : ℕ) → Around → List FunctionCode
coded part first names = map (λ f. (f names).code) (part.functions first)

-- a part has as many functions as its size says, and it declares and mentions the same in the code and in the plan
pub record Alike {A : Type 0} (C : Part Placed A) (U : Of_part) : Type 0 where
  pub count : (first : ℕ) → length (C.functions first) ≡ C.size
  pub declares : (first start : ℕ) → map (λ d. d.name) (U.declared start) ≡ map (λ d. d.name) (C.declared first)
  pub vars : U.vars ≡ C.vars
  pub mentions : U.names_arguments ≡ C.names_arguments

-- a scope stands around a part
abbrev pub IsInside : Around → Type 0
IsInside names = (next : Bindings) × (rest : Around) × (names ≡ next ∷ rest)

-- a part was walked over, in scopes of so many slots
pub record Walked {A : Type 0} (C : Part Placed A) (U : Of_part) (around : List ℕ) (old new : Walk) : Type 0 where
  pub alike : Alike C U
  pub stays : IsUnbroken new.fault → IsUnbroken old.fault
  pub reaches : (names : Around) (first start : ℕ) (f : Found) → IsInside names → (IsUnbroken old.fault → around ≡ slots_of names) → first ≡ length f.functions
      → Reached old (record f { scopes = (U.means start).scopes names ++ f.scopes; places = (U.means start).places names ++ f.places })
      → Reached new (record f { functions = f.functions ++ coded C first names; declared = f.declared ++ C.declared first; takes_arguments = f.takes_arguments || C.names_arguments })

-- ---- parts of trees

abbrev pub variables : List (List ℕ × Option Expr) → Part Placed CodedPart
variables list = declaring (map (λ v. (v.0, option_map code.expression v.1)) list)

abbrev pub variables_uses : List (List ℕ × Option Expr) → Of_part
variables_uses list = uses.declaring (map (λ v. (v.0, option_map uses.expression v.1)) list)

abbrev pub declaration_part : Of_function → Part Placed CodedStatement
declaration_part f = with_declaration f declared_as declaration

abbrev pub declaration_uses : uses.Of_function → Of_part
declaration_uses f = with_declaration f (λ own. declared_as own.made) uses.declared_function

-- ---- functions

-- what stands in the place of a function that is not written yet
abbrev pub unwritten : FunctionCode
unwritten = record { params = 0; builds = true; slots = []; ops = [] }

-- what was known before a function began, whose scope has these names
abbrev pub Remembers : Begun → Found → Bindings → Option Fault → Type 0
Remembers b f own fault =
    (b.names.now ≡ own) × (b.places.now ≡ f.places)
    × (IsUnbroken fault → (b.number ≡ length f.functions) × (told_all b.declared ≡ f.declared) × (b.names_arguments ≡ f.takes_arguments))

-- the code of a function, by what it declares and the scopes around its operations
abbrev pub code_in : FunctionTree → (first : ℕ) → List Declared → Bool → Around → FunctionCode
code_in f first ds takes_arguments around =
    let tree = out-FunctionTree f in
    record { params = length tree.params; builds = true; slots = slots_of around; ops = function_body ds takes_arguments ((in_turn tree.body).means (first + 1)) (at_start around) [] }
