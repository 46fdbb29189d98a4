-- How the code of a script is made of that of its functions and that of its body.
use Rattle.std.proofs.Common.{◌≡◌, ℕ, ◌<◌, ◌≤◌, List, [], ◌∷◌, ◌++◌, map, length, get_or, drop, Bool, true, false, ◌||◌, Some, refl, sym, ap, subst, arith, ◌∙◌}
use Rattle.std.proofs.lemmas.List.{length-map}
use Rattle.std.proofs.lemmas.Bool.{le-ltb}
use Rattle.njs_tree.specs.declared.tree.Item.{Item}
use Rattle.njs_tree.specs.declared.tree.Script.{Script}
use Rattle.njs_code.specs.declared.code.Code.{Code}
use Rattle.njs_code.specs.declared.code.FunctionCode.{FunctionCode}
use Rattle.njs_code.specs.declared.op.Op.{Op}
use Rattle.njs_meaning.specs.Functions.{each_once}
use Rattle.njs_meaning.specs.Parts.{Declared}
use Rattle.njs_meaning.specs.Places.{Around, Bindings, assignable}
use Rattle.njs_simul.specs.EmissionOfStatements.{slots_of, at_start}
use Rattle.njs_simul.specs.Compiled.{Placed, items_part, body_of, module_around, code_of}
use Rattle.njs_simul.specs.Counts.{operations_of}
use Rattle.njs_simul.specs.Sizes.{body_size}
use Rattle.njs_simul.proofs.Sizes.{sizes_are_true}
use Rattle.njs_scope.specs.Planned.{module_names}
use Rattle.njs_scope.specs.Uses as uses
use Rattle.njs_gen_expr.specs.declared.fault.Fault.{Fault}
use Rattle.njs_gen_expr.specs.declared.fault.Fault.TheVariants.{NoMemory, TooLong}
use Rattle.njs_gen_stmt.specs.declared.walk.Walk.{Walk}
use Rattle.njs_gen_stmt.specs.Functions.{Refused}
use Rattle.njs_gen_stmt.specs.Generated.{script_code, has_too_many_slots}
use Rattle.njs_gen_stmt.specs.Walked.{Found, found, Made, Alike, IsInside, is_crowded, any_crowded, coded}

-- what the walk over the items of a script finds
abbrev pub found_in : List Item → Around → Found
found_in list names = found (coded (items_part list) 0 names) ((items_part list).declared 0) ((items_part list).names_arguments) [] []

-- the operations of the body of a module
abbrev pub body_ops : List Declared → List Item → Around → List Op
body_ops ds list names = body_of ds ((items_part list).means 0) (at_start names) []

-- what was refused in the functions is refused in the script
pub refused_in_functions : (fault : Fault) (w : Walk) (list : List Item) (names : Around) → Made (Some fault) w (found_in list names) → Refused fault (operations_of (script_code list names))
refused_in_functions NoMemory w list names m = tt
refused_in_functions TooLong w list names m = omega (arith, m)

body_long : (list : List Item) (names : Around) (ds : List Declared) → length (body_ops ds list names) ≡ body_size ds ((items_part list).means 0)
body_long list names ds =
    let known = (sizes_are_true.bodies list 0 ds).long (at_start names) [] in
    omega (arith, known)

-- what was refused in the body is refused in the script
pub refused_in_body : (fault : Fault) (list : List Item) (names : Around) (ds : List Declared) → ds ≡ (items_part list).declared 0 → Refused fault (body_size ds ((items_part list).means 0))
    → Refused fault (operations_of (script_code list names))
refused_in_body NoMemory list names ds is r = tt
refused_in_body TooLong list names ds is r =
    let long = body_long list names ((items_part list).declared 0) in
    let r1 = subst (λ es. 16777216 < body_size es ((items_part list).means 0)) is r in
    omega (arith, long, r1)

-- the names of a module's scope are the same in the plan and in the code
pub module_same : (list : List Item) (outermost : Bindings) → Alike (items_part list) (uses.items_part list)
    → (module_names (uses.items_part list) ∷ (outermost ∷ [])) ≡ module_around (items_part list) outermost
module_same list outermost a =
    let C = items_part list in
    let U = uses.items_part list in
    let around : List (List ℕ) → List (List ℕ) → Around = λ ns vs. assignable (each_once [] (ns ++ vs)) ∷ (outermost ∷ []) in
    ap (λ ns. around ns U.vars) (a.declares 0 0) ∙ ap (λ vs. around (map (λ (d : Declared). d.name) (C.declared 0)) vs) a.vars

pub behind_body : (fs : List FunctionCode) (list : List Item) (names : Around) → ((first : ℕ) → length ((items_part list).functions first) ≡ (items_part list).size) → fs ≡ coded (items_part list) 0 names
    → length fs ≡ (items_part list).size
behind_body fs list names count is = ap length is ∙ length-map ((items_part list).functions 0) (λ (f : Placed). (f names).code) ∙ count 0

pub script_made : (list : List Item) (names : Around) (fs : List FunctionCode) (slots : List ℕ) (ops : List Op) → fs ≡ coded (items_part list) 0 names → slots ≡ slots_of names → ops ≡ body_ops ((items_part list).declared 0) list names
    → (let made : Code = record { functions = fs; body = record { params = 0; builds = true; slots = slots; ops = ops } } in made ≡ script_code list names)
script_made list names fs slots ops a b c =
    let made : List FunctionCode → List ℕ → List Op → Code = λ gs ks os. record { functions = gs; body = record { params = 0; builds = true; slots = ks; ops = os } } in
    ap (λ gs. made gs slots ops) a ∙ ap (λ ks. made (coded (items_part list) 0 names) ks ops) b ∙ ap (λ os. made (coded (items_part list) 0 names) (slots_of names) os) c

pub script_is : (script : Script) (outermost : Bindings) (list : List Item) → script.items ≡ list → script_code list (module_around (items_part list) outermost) ≡ code_of script outermost
script_is script outermost list same = ap (λ l. script_code l (module_around (items_part l) outermost)) (sym same)

pub body_same : (ops : List Op) (es ds : List Declared) (list : List Item) (names : Around) → ops ≡ body_ops es list names → es ≡ ds → ops ≡ body_ops ds list names
body_same ops es ds list names is same = is ∙ ap (λ x. body_ops x list names) same

-- the two first scopes of a plan, and those behind them
pub first_scopes : (a b c d : Bindings) (xs ys : List Bindings) → a ∷ (b ∷ xs) ≡ c ∷ (d ∷ ys) → (a ≡ c) × (b ≡ d) × (xs ≡ ys)
first_scopes a b c d xs ys same = (ap (λ (l : List Bindings). get_or l 0 a) same, ap (λ (l : List Bindings). get_or l 1 b) same, ap (λ (l : List Bindings). drop 2 l) same)

pub module_inside : (list : List Item) (outermost : Bindings) → IsInside (module_around (items_part list) outermost)
module_inside list outermost = (assignable (each_once [] (map (λ (d : Declared). d.name) ((items_part list).declared 0) ++ (items_part list).vars)), outermost ∷ [], refl)

-- no scope has too many slots
pub not_crowded : (own : Bindings) (names : Around) (list : List Item) (outermost : Bindings) (b : Bool) → names ≡ own ∷ (outermost ∷ []) → length own ≤ 65535 → b ≡ any_crowded (coded (items_part list) 0 names) → b ≡ false
    → has_too_many_slots (script_code list names) ≡ false
not_crowded own names list outermost b same few is none =
    let own_few : is_crowded (slots_of names) ≡ false = ap (λ ns. is_crowded (slots_of ns)) same ∙ le-ltb 65535 (length own) few in
    ap (λ x. x || any_crowded (coded (items_part list) 0 names)) own_few ∙ sym is ∙ none
