-- Trees that nothing is refused in are sound where their parts are.
use Rattle.std.proofs.Common.{◌≡◌, ℕ, List, [], ◌∷◌, ◌++◌, length, map, Bool, true, false, not, ◌&&◌, nat_lt, ◌||◌, Option, Some, None, refl, ap, sym, subst, ◌∙◌}
use Rattle.std.specs.List.{list_any}
use Rattle.std.proofs.lemmas.Bool.{and_from}
use Rattle.njs_tree.specs.declared.token.EarlyFault.{EarlyFault}
use Rattle.njs_tree.specs.declared.token.EarlyKind.{EarlyKind}
use Rattle.njs_tree.specs.declared.token.EarlyKind.TheVariants as refused
use Rattle.njs_tree.specs.declared.tree.ExprNode.{ExprNode}
use Rattle.njs_tree.specs.declared.tree.ForFirst.{ForFirst}
use Rattle.njs_tree.specs.declared.tree.ForFirst.TheVariants as first
use Rattle.njs_tree.specs.declared.tree.ForInHead.{ForInHead}
use Rattle.njs_tree.specs.declared.tree.ForInHead.TheVariants as head
use Rattle.njs_tree.specs.declared.tree.StmtNode.{StmtNode}
use Rattle.njs_tree.specs.declared.tree.Case.{Case}
use Rattle.njs_tree.specs.declared.tree.Expr.{Expr}
use Rattle.njs_tree.specs.declared.tree.FunctionTree.{FunctionTree}
use Rattle.njs_tree.specs.declared.tree.Stmt.{Stmt}
use Rattle.njs_tree.specs.declared.tree.ExprNode.TheOpen.{ExprNode-F, ForFirst-F, ForInHead-F, StmtNode-F, Case-F, Expr-F, FunctionTree-F, Stmt-F}
use Rattle.njs_tree.specs.declared.tree.ExprNode.TheShapes.{former-ExprNode-Array-0, former-ExprNode-Object-0, former-ForFirst-Var-0, former-StmtNode-Block-0, former-StmtNode-For-0, former-StmtNode-For-1, former-StmtNode-Switch-1, former-StmtNode-Try-1, former-StmtNode-Try-2}
use Rattle.njs_tree.specs.declared.tree.ExprNode.TheViews.{roll-ExprNode, roll-ForFirst, roll-ForInHead, roll-StmtNode, roll-Case, roll-Expr, roll-FunctionTree}
use Rattle.njs_tree.specs.Names.{is_protected}
use Rattle.njs_tree.specs.Lexemes.{Symbol}
use Rattle.njs_tree.specs.Symbols.{line_of}
use Rattle.njs_tree.specs.Grammar.{at, stands}
use Rattle.njs_tree.specs.Early.{Around, Seen, Refusals, SeenHead, repeats, refuse_if, is_protected_name, all_of, of_exprs, of_optional, of_elements, of_properties, of_values, of_first, of_caught, of_finally, of_function}
use Rattle.njs_simul.specs.Sound.{all, if_any, all_held, all_named, all_named_held, caught_sound, last_sound}
use Rattle.njs_simul.proofs.SeenTrees.{seen_node, seen_node_of, seen_node_rolled, seen_first, seen_first_of, seen_first_rolled, seen_head, seen_head_of, seen_head_rolled, seen_statement_node, seen_statement_node_of, seen_statement_node_rolled, seen_branch, seen_branch_rolled, seen_expression, seen_expression_rolled, seen_function, seen_function_of, seen_function_rolled, seen_statement, seen_statement_rolled}
use Rattle.njs_simul.proofs.ValidTrees.{sound_node, sound_node_of, sound_node_rolled, sound_first, sound_first_of, sound_first_rolled, sound_head, sound_head_of, sound_head_rolled, sound_statement_node, sound_statement_node_of, sound_statement_node_rolled, sound_branch, sound_branch_rolled, sound_expression, sound_expression_rolled, sound_function, sound_function_rolled, sound_statement, sound_statement_rolled}

-- ---- what is so of each tree: where nothing is refused it is sound

abbrev pub SoExpr : Expr → Type 0
SoExpr e = (around : Around) → (seen_expression e).refusals around ≡ [] → sound_expression e ≡ true

abbrev pub SoNode : ExprNode → Type 0
SoNode n = (line : ℕ) (around : Around) → (seen_node n).refusals line around ≡ [] → sound_node n ≡ true

abbrev pub SoStmt : Stmt → Type 0
SoStmt s = (around : Around) → seen_statement s around ≡ [] → sound_statement s ≡ true

abbrev pub SoStep : StmtNode → Type 0
SoStep n = (line : ℕ) (around : Around) → seen_statement_node n line around ≡ [] → sound_statement_node n ≡ true

abbrev pub SoFunction : FunctionTree → Type 0
SoFunction f = (line : ℕ) (around : Around) → seen_function f line around ≡ [] → sound_function f ≡ true

abbrev pub SoCase : Case → Type 0
SoCase c = (around : Around) → seen_branch c around ≡ [] → sound_branch c ≡ true

abbrev pub SoFirst : ForFirst → Type 0
SoFirst f = (around : Around) → (seen_first f).refusals around ≡ [] → sound_first f ≡ true

abbrev pub SoHead : ForInHead → Type 0
SoHead h = (around : Around) → (seen_head h).refusals around ≡ [] → sound_head h ≡ true

-- ---- of lists, and of what may be missing

abbrev pub SoExprs : List Expr → Type 0
SoExprs xs = (around : Around) → of_exprs (map seen_expression xs) around ≡ [] → all (map sound_expression xs) ≡ true

abbrev pub SoElements : List (Option Expr) → Type 0
SoElements xs =
    (around : Around) → of_elements (former-ExprNode-Array-0.map Expr Seen seen_expression xs) around ≡ [] → all_held (former-ExprNode-Array-0.map Expr Bool sound_expression xs) ≡ true

abbrev pub SoProperties : List (List ℕ × Expr) → Type 0
SoProperties ps =
    (around : Around) → of_properties (former-ExprNode-Object-0.map Expr Seen seen_expression ps) around ≡ [] → all_named (former-ExprNode-Object-0.map Expr Bool sound_expression ps) ≡ true

abbrev pub SoValues : List (List ℕ × Option Expr) → Type 0
SoValues vs =
    (around : Around) → of_values (former-ForFirst-Var-0.map Expr Seen seen_expression vs) around ≡ [] → all_named_held (former-ForFirst-Var-0.map Expr Bool sound_expression vs) ≡ true

abbrev pub SoStmts : List Stmt → Type 0
SoStmts ss =
    (around : Around) → all_of (former-StmtNode-Block-0.map Stmt Refusals seen_statement ss) around ≡ [] → all (former-StmtNode-Block-0.map Stmt Bool sound_statement ss) ≡ true

abbrev pub SoCases : List Case → Type 0
SoCases cs =
    (around : Around) → all_of (former-StmtNode-Switch-1.map Case Refusals seen_branch cs) around ≡ [] → all (former-StmtNode-Switch-1.map Case Bool sound_branch cs) ≡ true

abbrev pub SoHeld : Option Expr → Type 0
SoHeld a = (around : Around) → of_optional (former-StmtNode-For-1.map Expr Seen seen_expression a) around ≡ [] → if_any (former-StmtNode-For-1.map Expr Bool sound_expression a) ≡ true

abbrev pub SoHeldFirst : Option ForFirst → Type 0
SoHeldFirst f =
    (line : ℕ) (around : Around) → of_first (former-StmtNode-For-0.map ForFirst SeenHead seen_first f) line around ≡ [] → if_any (former-StmtNode-For-0.map ForFirst Bool sound_first f) ≡ true

abbrev pub SoCaught : Option (List ℕ × List Stmt) → Type 0
SoCaught c = (around : Around) → of_caught (former-StmtNode-Try-1.map Stmt Refusals seen_statement c) around ≡ [] → caught_sound (former-StmtNode-Try-1.map Stmt Bool sound_statement c) ≡ true

abbrev pub SoLast : Option (List Stmt) → Type 0
SoLast c = (around : Around) → of_finally (former-StmtNode-Try-2.map Stmt Refusals seen_statement c) around ≡ [] → last_sound (former-StmtNode-Try-2.map Stmt Bool sound_statement c) ≡ true

-- ---- refusals one after the other

pub both_none : (xs ys : List EarlyFault) → xs ++ ys ≡ [] → (xs ≡ []) × (ys ≡ [])
both_none [] ys h = (refl, h)
both_none (x ∷ xs) ys h = absurd (cc)

pub not_refused : (test : Bool) (line : ℕ) (k : EarlyKind) → refuse_if test line k ≡ [] → not test ≡ true
not_refused true line k h = absurd (cc)
not_refused false line k h = refl

pub two_so : (xs ys : List EarlyFault) (p q : Bool) → (xs ≡ [] → p ≡ true) → (ys ≡ [] → q ≡ true) → xs ++ ys ≡ [] → (p && q) ≡ true
two_so xs ys p q f g h = let t = both_none xs ys h in and_from p q (f t.0) (g t.1)

-- what stands behind other refusals
pub behind_so : (xs ys : List EarlyFault) (p : Bool) → (ys ≡ [] → p ≡ true) → xs ++ ys ≡ [] → p ≡ true
behind_so xs ys p f h = f (both_none xs ys h).1

pub exprs_more : (a : Expr) (xs : List Expr) → SoExpr a → SoExprs xs → SoExprs (a ∷ xs)
exprs_more a xs t ts around h = two_so _ _ (sound_expression a) _ (t around) (ts around) h

pub elements_hole : (xs : List (Option Expr)) → SoElements xs → SoElements (None ∷ xs)
elements_hole xs ts around h = ts around h

pub elements_more : (a : Expr) (xs : List (Option Expr)) → SoExpr a → SoElements xs → SoElements (Some a ∷ xs)
elements_more a xs t ts around h = two_so _ _ (sound_expression a) _ (t around) (ts around) h

pub properties_more : (key : List ℕ) (a : Expr) (ps : List (List ℕ × Expr)) → SoExpr a → SoProperties ps → SoProperties ((key, a) ∷ ps)
properties_more key a ps t ts around h = two_so _ _ (sound_expression a) _ (t around) (ts around) h

pub values_bare : (name : List ℕ) (vs : List (List ℕ × Option Expr)) → SoValues vs → SoValues ((name, None) ∷ vs)
values_bare name vs ts around h = ts around h

pub values_more : (name : List ℕ) (a : Expr) (vs : List (List ℕ × Option Expr)) → SoExpr a → SoValues vs → SoValues ((name, Some a) ∷ vs)
values_more name a vs t ts around h = two_so _ _ (sound_expression a) _ (t around) (ts around) h

pub stmts_more : (s : Stmt) (ss : List Stmt) → SoStmt s → SoStmts ss → SoStmts (s ∷ ss)
stmts_more s ss t ts around h = two_so _ _ (sound_statement s) _ (t around) (ts around) h

pub cases_more : (c : Case) (cs : List Case) → SoCase c → SoCases cs → SoCases (c ∷ cs)
cases_more c cs t ts around h = two_so _ _ (sound_branch c) _ (t around) (ts around) h

-- ---- of the layers of trees

abbrev pub Layer : Type 0
Layer = ExprNode-F ExprNode ForFirst ForInHead StmtNode Case Expr FunctionTree Stmt

abbrev pub StepLayer : Type 0
StepLayer = StmtNode-F ExprNode ForFirst ForInHead StmtNode Case Expr FunctionTree Stmt

abbrev pub SoLayer : Layer → Type 0
SoLayer x = (line : ℕ) (around : Around) → (seen_node_of x).refusals line around ≡ [] → sound_node_of x ≡ true

abbrev pub SoStepLayer : StepLayer → Type 0
SoStepLayer x = (line : ℕ) (around : Around) → seen_statement_node_of x line around ≡ [] → sound_statement_node_of x ≡ true

node_rolled : (x : Layer) → SoLayer x → SoNode (roll-ExprNode x)
node_rolled x t line around h = sound_node_rolled x ∙ t line around (ap (λ n. n.refusals line around) (sym (seen_node_rolled x)) ∙ h)

step_rolled : (x : StepLayer) → SoStepLayer x → SoStep (roll-StmtNode x)
step_rolled x t line around h = sound_statement_node_rolled x ∙ t line around (ap (λ n. n line around) (sym (seen_statement_node_rolled x)) ∙ h)

at_line : (line : ℕ) (n : ExprNode) → SoNode n → SoExpr (roll-Expr (record { line = line; node = n }))
at_line line n t around h =
    let e : Expr-F ExprNode ForFirst ForInHead StmtNode Case Expr FunctionTree Stmt = record { line = line; node = n } in
    sound_expression_rolled e ∙ t line around (ap (λ e. e.refusals around) (sym (seen_expression_rolled e)) ∙ h)

stands_line : (line : ℕ) (n : StmtNode) → SoStep n → SoStmt (stands line n)
stands_line line n t around h =
    let s : Stmt-F ExprNode ForFirst ForInHead StmtNode Case Expr FunctionTree Stmt = record { line = line; node = n } in
    sound_statement_rolled s ∙ t line around (ap (λ r. r around) (sym (seen_statement_rolled s)) ∙ h)

-- an expression, and a statement, by its layer
pub node_at : (i : List Symbol) (n : ExprNode) (x : Layer) → roll-ExprNode x ≡ n → SoLayer x → SoExpr (at i n)
node_at i n x is t = at_line (line_of i) n (subst SoNode is (node_rolled x t))

pub step_at : (line : ℕ) (n : StmtNode) (x : StepLayer) → roll-StmtNode x ≡ n → SoStepLayer x → SoStmt (stands line n)
step_at line n x is t = stands_line line n (subst SoStep is (step_rolled x t))

-- ---- functions, cases, and the heads of loops

pub function_so : (name : Option (List ℕ)) (params : List (List ℕ)) (body : List Stmt) → SoStmts body → SoFunction (roll-FunctionTree (record { name = name; params = params; body = body }))
function_so name params body t line around h =
    let f : FunctionTree-F ExprNode ForFirst ForInHead StmtNode Case Expr FunctionTree Stmt = record { name = name; params = params; body = body } in
    let h' : seen_function_of f line around ≡ [] = ap (λ r. r line around) (sym (seen_function_rolled f)) ∙ h in
    let named = refuse_if (is_protected_name name || list_any is_protected params) line refused.Reserved in
    let counted = refuse_if (nat_lt 255 (length params)) line refused.Count in
    let inside = all_of (former-StmtNode-Block-0.map Stmt Refusals seen_statement body) of_function in
    let sound = all (former-StmtNode-Block-0.map Stmt Bool sound_statement body) in
    let own = refuse_if (repeats params) line refused.Parameter in
    sound_function_rolled f
    ∙ two_so (own ++ named ++ counted) inside (not (repeats params)) sound
    (λ e. not_refused (repeats params) line refused.Parameter (both_none own named (both_none (own ++ named) counted e).0).0) (t of_function) h'

pub case_so : (test : Option Expr) (body : List Stmt) → SoHeld test → SoStmts body → SoCase (roll-Case (record { test = test; body = body }))
case_so test body t ts around h =
    let c : Case-F ExprNode ForFirst ForInHead StmtNode Case Expr FunctionTree Stmt = record { test = test; body = body } in
    sound_branch_rolled c ∙ two_so _ _ (if_any (former-StmtNode-For-1.map Expr Bool sound_expression test)) _ (t around) (ts around) (ap (λ r. r around) (sym (seen_branch_rolled c)) ∙ h)

first_rolled : (f : ForFirst) (x : ForFirst-F ExprNode ForFirst ForInHead StmtNode Case Expr FunctionTree Stmt) → roll-ForFirst x ≡ f
    → ((around : Around) → (seen_first_of x).refusals around ≡ [] → sound_first_of x ≡ true) → SoFirst f
first_rolled f x is t = subst SoFirst is (λ around h. sound_first_rolled x ∙ t around (ap (λ e. e.refusals around) (sym (seen_first_rolled x)) ∙ h))

pub first_var_so : (vs : List (List ℕ × Option Expr)) → SoValues vs → SoFirst (first.Var vs)
first_var_so vs t = first_rolled (first.Var vs) (ForFirst-F.ForFirst::Var vs) (first.rolls-Var vs) t

pub first_expr_so : (a : Expr) → SoExpr a → SoFirst (first.Expr a)
first_expr_so a t = first_rolled (first.Expr a) (ForFirst-F.ForFirst::Expr a) (first.rolls-Expr a) t

pub held_first_so : (f : ForFirst) → SoFirst f → SoHeldFirst (Some f)
held_first_so f t line around h = behind_so _ _ (sound_first f) (t around) h

head_rolled : (f : ForInHead) (x : ForInHead-F ExprNode ForFirst ForInHead StmtNode Case Expr FunctionTree Stmt) → roll-ForInHead x ≡ f
    → ((around : Around) → (seen_head_of x).refusals around ≡ [] → sound_head_of x ≡ true) → SoHead f
head_rolled f x is t = subst SoHead is (λ around h. sound_head_rolled x ∙ t around (ap (λ e. e.refusals around) (sym (seen_head_rolled x)) ∙ h))

pub head_var_so : (name : List ℕ) → SoHead (head.Var name)
head_var_so name = head_rolled (head.Var name) (ForInHead-F.ForInHead::Var name) (head.rolls-Var name) (λ around h. refl)

pub head_target_so : (a : Expr) → SoExpr a → SoHead (head.Target a)
head_target_so a t = head_rolled (head.Target a) (ForInHead-F.Target a) (head.rolls-Target a) (λ around h. behind_so _ _ (sound_expression a) (t around) h)
