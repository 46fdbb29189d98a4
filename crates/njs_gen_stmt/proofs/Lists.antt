-- How the parts in lists are written, the last first.
use Rattle.std.proofs.Common.{◌≡◌, ℕ, suc, ◌+◌, ◌<◌, List, [], ◌∷◌, ◌++◌, length, drop, get_or, Option, None, Some, sym, ap, subst, arith, ◌∙◌}
use Rattle.std.specs.Option.{option_map_or}
use Rattle.njs_tree.specs.declared.tree.Expr.{Expr}
use Rattle.njs_tree.specs.declared.tree.Stmt.{Stmt}
use Rattle.njs_tree.specs.declared.tree.Case.{Case}
use Rattle.njs_code.specs.declared.op.Address.{Address}
use Rattle.njs_code.specs.declared.op.Op.{Op}
use Rattle.njs_meaning.specs.declared.place.Place.{Place}
use Rattle.njs_meaning.specs.Parts.{one}
use Rattle.njs_simul.specs.Emission as emit
use Rattle.njs_simul.specs.Emission.{value, value_size, address}
use Rattle.njs_simul.specs.EmissionOfStatements as step
use Rattle.njs_scope.specs.Uses as uses
use Rattle.njs_gen_expr.specs.declared.here.Here.{Here}
use Rattle.njs_gen_expr.specs.Trees as code
use Rattle.njs_gen_expr.specs.Written.{Progress, IsGoing, draft, Holds, Stands}
use Rattle.njs_gen_expr.specs.Parts.{Wrote}
use Rattle.njs_gen_expr.proofs.Drafts.{recount, split, bare}
use Rattle.njs_gen_expr.proofs.ListShapes.{from_place}
use Rattle.njs_gen_stmt.specs.Statements.{WroteLabelled, WroteDefault, in_turn, in_turn_uses, declared_in, declared_uses, cases, cases_uses}
pub use Rattle.njs_gen_expr.proofs.Lists.{from_start}

-- ---- statements

abbrev pub WroteStatements : List Stmt → Here → Progress → Progress → Type 0
WroteStatements list = Wrote step.in_turn_size step.in_turn (in_turn list) (in_turn_uses list)

pub no_statements : (here : Here) (w : Progress) → WroteStatements [] here w w
no_statements here w at first start n ops front s h = recount w ops n (0 + n) front first (omega arith) (bare w ops n front first h)

statements_step : (x : Stmt) (xs : List Stmt) (here : Here) (w0 w1 w2 : Progress) → WroteStatements xs here w0 w1 → WroteLabelled [] (code.statement x) (uses.statement x) here w1 w2 → WroteStatements (x ∷ xs) here w0 w2
statements_step x xs here w0 w1 w2 behind a at first start n ops front s h =
    let A = code.statement x in
    let U = uses.statement x in
    let B = in_turn xs in
    let V = in_turn_uses xs in
    let later = B.means (first + A.size) in
    let ua = (U.means start).places at.names in
    let ub = (V.means (start + U.size)).places at.names in
    let h1 = behind at (first + A.size) (start + U.size) n ops (front ++ ua) s (split w0 ops n front ua ub first A.size B.size h) in
    recount w2 _ ((A.means first).size + (step.in_turn_size later + n)) _ front first (omega arith)
    (a at first start (step.in_turn_size later + n) (step.in_turn later at ops) front s h1)

pub statements_more : (k i : ℕ) (list : List Stmt) (x : Stmt) (here : Here) (w0 w1 w2 : Progress) → i ≡ suc k → k < length list → x ≡ get_or list k x
    → WroteStatements (drop i list) here w0 w1 → WroteLabelled [] (code.statement x) (uses.statement x) here w1 w2 → WroteStatements (drop k list) here w0 w2
statements_more k i list x here w0 w1 w2 same lt is behind a =
    let further = subst (λ j. WroteStatements (drop j list) here w0 w1) same behind in
    subst (λ (l : List Stmt). WroteStatements l here w0 w2) (sym (from_place list k x lt is)) (statements_step x (drop (suc k) list) here w0 w1 w2 further a)

-- ---- what is declared

abbrev pub WroteDeclared : List (List ℕ × Option Expr) → Here → Progress → Progress → Type 0
WroteDeclared list = Wrote step.declare_size step.declare (declared_in list) (declared_uses list)

-- a name with its value
abbrev pub WroteOne : List ℕ → Expr → Here → Progress → Progress → Type 0
WroteOne name e = Wrote (λ c. value_size c + 2) (λ c at rest. value c at (step.bind name at rest)) (code.expression e) (one (uses.expression e) (λ u. uses.both (uses.use_of name) u))

pub none_declared : (here : Here) (w : Progress) → WroteDeclared [] here w w
none_declared here w at first start n ops front s h = recount w ops n (0 + n) front first (omega arith) (bare w ops n front first h)

undeclared_step : (name : List ℕ) (xs : List (List ℕ × Option Expr)) (here : Here) (w0 w1 : Progress) → WroteDeclared xs here w0 w1 → WroteDeclared ((name, None) ∷ xs) here w0 w1
undeclared_step name xs here w0 w1 behind at first start n ops front s h =
    let B = declared_in xs in
    let V = declared_uses xs in
    let sum : first + (0 + B.size) ≡ (first + 0) + B.size = omega arith in
    let none : first + 0 ≡ first = omega arith in
    let h0 = subst (λ k. Holds w0 (draft ops n (front ++ (V.means start).places at.names) k)) sum h in
    let later = B.means (first + 0) in
    subst (λ k. Holds w1 (draft (step.declare later at ops) (step.declare_size later + n) front k)) none (behind at (first + 0) start n ops front s h0)

declared_step : (name : List ℕ) (e : Expr) (xs : List (List ℕ × Option Expr)) (here : Here) (w0 w1 w2 : Progress) → WroteDeclared xs here w0 w1 → WroteOne name e here w1 w2 → WroteDeclared ((name, Some e) ∷ xs) here w0 w2
declared_step name e xs here w0 w1 w2 behind a at first start n ops front s h =
    let A = code.expression e in
    let U = one (uses.expression e) (λ u. uses.both (uses.use_of name) u) in
    let B = declared_in xs in
    let V = declared_uses xs in
    let later = B.means (first + A.size) in
    let ua = (U.means start).places at.names in
    let ub = (V.means (start + U.size)).places at.names in
    let h1 = behind at (first + A.size) (start + U.size) n ops (front ++ ua) s (split w0 ops n front ua ub first A.size B.size h) in
    recount w2 _ (value_size (A.means first) + 2 + (step.declare_size later + n)) _ front first (omega arith)
    (a at first start (step.declare_size later + n) (step.declare later at ops) front s h1)

pub undeclared_more : (k i : ℕ) (list : List (List ℕ × Option Expr)) (x : List ℕ × Option Expr) (here : Here) (w0 w1 : Progress) → i ≡ suc k → k < length list → x ≡ get_or list k x → x.1 ≡ None
    → WroteDeclared (drop i list) here w0 w1 → WroteDeclared (drop k list) here w0 w1
undeclared_more k i list x here w0 w1 same lt is none behind =
    let further = subst (λ j. WroteDeclared (drop j list) here w0 w1) same behind in
    let place : drop k list ≡ (x.0, None) ∷ drop (suc k) list = from_place list k x lt is ∙ ap (λ o. (x.0, o) ∷ drop (suc k) list) none in
    subst (λ (l : List (List ℕ × Option Expr)). WroteDeclared l here w0 w1) (sym place) (undeclared_step x.0 (drop (suc k) list) here w0 w1 further)

pub declared_more : (k i : ℕ) (list : List (List ℕ × Option Expr)) (x : List ℕ × Option Expr) (e : Expr) (here : Here) (w0 w1 w2 : Progress) → i ≡ suc k → k < length list → x ≡ get_or list k x → x.1 ≡ Some e
    → WroteDeclared (drop i list) here w0 w1 → WroteOne x.0 e here w1 w2 → WroteDeclared (drop k list) here w0 w2
declared_more k i list x e here w0 w1 w2 same lt is some behind a =
    let further = subst (λ j. WroteDeclared (drop j list) here w0 w1) same behind in
    let place : drop k list ≡ (x.0, Some e) ∷ drop (suc k) list = from_place list k x lt is ∙ ap (λ o. (x.0, o) ∷ drop (suc k) list) some in
    subst (λ (l : List (List ℕ × Option Expr)). WroteDeclared l here w0 w2) (sym place) (declared_step x.0 e (drop (suc k) list) here w0 w1 w2 further a)

-- ---- the bodies of a `switch`

abbrev pub WroteBodies : List Case → Here → Progress → Progress → Type 0
WroteBodies list = Wrote step.bodies_size step.bodies (cases list) (cases_uses list)

abbrev pub WroteBody : Case → Here → Progress → Progress → Type 0
WroteBody x = Wrote (λ b. step.in_turn_size b.body) (λ b. step.in_turn b.body) (code.branch x) (uses.branch x)

-- where the bodies begin from `default` on, by where they do behind a case
abbrev pub DefaultsTo : Case → Here → Progress → Progress → Address → Address → Type 0
DefaultsTo x here old new behind default =
    (at : emit.Here) (first start n : ℕ) (ops : List Op) (front : List Place) → Stands here at → IsGoing new
    → Holds old (draft ops n (front ++ ((uses.branch x).means start).places at.names) (first + (code.branch x).size))
    → default ≡ option_map_or (λ test. behind) ((code.branch x).means first).test (address (step.in_turn ((code.branch x).means first).body at ops))

pub no_bodies : (here : Here) (w : Progress) → WroteBodies [] here w w
no_bodies here w at first start n ops front s h = recount w ops n (0 + n) front first (omega arith) (bare w ops n front first h)

bodies_step : (x : Case) (xs : List Case) (here : Here) (w0 w1 w2 : Progress) → WroteBodies xs here w0 w1 → WroteBody x here w1 w2 → WroteBodies (x ∷ xs) here w0 w2
bodies_step x xs here w0 w1 w2 behind a at first start n ops front s h =
    let A = code.branch x in
    let U = uses.branch x in
    let B = cases xs in
    let V = cases_uses xs in
    let later = B.means (first + A.size) in
    let ua = (U.means start).places at.names in
    let ub = (V.means (start + U.size)).places at.names in
    let h1 = behind at (first + A.size) (start + U.size) n ops (front ++ ua) s (split w0 ops n front ua ub first A.size B.size h) in
    recount w2 _ (step.in_turn_size (A.means first).body + (step.bodies_size later + n)) _ front first (omega arith)
    (a at first start (step.bodies_size later + n) (step.bodies later at ops) front s h1)

defaults_step : (x : Case) (xs : List Case) (here : Here) (w0 w1 w2 : Progress) (behind default : Address) → (IsGoing w2 → IsGoing w1) → WroteBodies xs here w0 w1
    → WroteDefault (cases xs) (cases_uses xs) here w0 w1 behind → DefaultsTo x here w1 w2 behind default → WroteDefault (cases (x ∷ xs)) (cases_uses (x ∷ xs)) here w0 w2 default
defaults_step x xs here w0 w1 w2 behind default stays wrote d e at first start n ops front s g h =
    let A = code.branch x in
    let U = uses.branch x in
    let B = cases xs in
    let V = cases_uses xs in
    let later = B.means (first + A.size) in
    let ua = (U.means start).places at.names in
    let ub = (V.means (start + U.size)).places at.names in
    let h0 = split w0 ops n front ua ub first A.size B.size h in
    let told = e at first start (step.bodies_size later + n) (step.bodies later at ops) front s g (wrote at (first + A.size) (start + U.size) n ops (front ++ ua) s h0) in
    let known = d at (first + A.size) (start + U.size) n ops (front ++ ua) s (stays g) h0 in
    told ∙ ap (λ (b : Address). option_map_or (λ test. b) (A.means first).test (address (step.in_turn (A.means first).body at (step.bodies later at ops)))) known

pub bodies_more : (k i : ℕ) (list : List Case) (x : Case) (here : Here) (w0 w1 w2 : Progress) → i ≡ suc k → k < length list → x ≡ get_or list k x
    → WroteBodies (drop i list) here w0 w1 → WroteBody x here w1 w2 → WroteBodies (drop k list) here w0 w2
bodies_more k i list x here w0 w1 w2 same lt is behind a =
    let further = subst (λ j. WroteBodies (drop j list) here w0 w1) same behind in
    subst (λ (l : List Case). WroteBodies l here w0 w2) (sym (from_place list k x lt is)) (bodies_step x (drop (suc k) list) here w0 w1 w2 further a)

pub defaults_more : (k i : ℕ) (list : List Case) (x : Case) (here : Here) (w0 w1 w2 : Progress) (behind default : Address) → i ≡ suc k → k < length list → x ≡ get_or list k x → (IsGoing w2 → IsGoing w1)
    → WroteBodies (drop i list) here w0 w1 → WroteDefault (cases (drop i list)) (cases_uses (drop i list)) here w0 w1 behind → DefaultsTo x here w1 w2 behind default
    → WroteDefault (cases (drop k list)) (cases_uses (drop k list)) here w0 w2 default
defaults_more k i list x here w0 w1 w2 behind default same lt is stays wrote d e =
    let further = subst (λ j. WroteBodies (drop j list) here w0 w1) same wrote in
    let known = subst (λ j. WroteDefault (cases (drop j list)) (cases_uses (drop j list)) here w0 w1 behind) same d in
    subst (λ (l : List Case). WroteDefault (cases l) (cases_uses l) here w0 w2 default) (sym (from_place list k x lt is)) (defaults_step x (drop (suc k) list) here w0 w1 w2 behind default stays further known e)
