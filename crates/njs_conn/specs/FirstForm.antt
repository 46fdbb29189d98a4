-- The form of the scripts that run so far, node by node: `function NAME(PARAMETER) { PARAMETER.return(200, STRING); }` and then
-- `export default { NAME };`. A script is of the form, or its line is told: that of the first node in order of the text that isn't of
-- it, and 1 where a node is missing.
use Rattle.std.specs.Prelude.{ℕ, List, [], ◌∷◌, Bool, true, false, if◌then◌else◌, Option, Some, None, Result, Ok, Err, bytes_eq, codes, encode_utf8_all}
use Rattle.njs_tree.specs.declared.tree.Item.{Item}
use Rattle.njs_tree.specs.declared.tree.Item.TheVariants as items
use Rattle.njs_tree.specs.declared.tree.Expr.{Expr, out-Expr}
use Rattle.njs_tree.specs.declared.tree.ExprNode.{ExprNode-F}
use Rattle.njs_tree.specs.declared.tree.Stmt.{Stmt, out-Stmt}
use Rattle.njs_tree.specs.declared.tree.StmtNode.{StmtNode-F}
use Rattle.njs_tree.specs.declared.tree.FunctionTree.{FunctionTree, out-FunctionTree}
use Rattle.njs_conn.specs.Nodes.{ExprCases, StmtCases, expr_node, stmt_node, is_ok_status}

-- the first of two lines that is told
abbrev pub and_then : {A B : Type 0} → Result A ℕ → (A → Result B ℕ) → Result B ℕ
and_then (Ok a) f = f a
and_then (Err line) f = Err line

abbrev pub unless : Bool → ℕ → Result (Unit {0}) ℕ
unless test line = if test then Ok tt else Err line

-- a string
abbrev pub string_node : ℕ → ExprCases → Result (Unit {0}) ℕ
string_node line (ExprNode-F.Str text) = Ok tt
string_node line _ = Err line

-- the number 200
abbrev pub status_node : ℕ → ExprCases → Result (Unit {0}) ℕ
status_node line (ExprNode-F.Num n) = unless (is_ok_status n) line
status_node line _ = Err line

-- the name
abbrev pub name_node : List ℕ → ℕ → ExprCases → Result (Unit {0}) ℕ
name_node name line (ExprNode-F.Name own) = unless (bytes_eq own name) line
name_node name line _ = Err line

abbrev pub is_string : Expr → Result (Unit {0}) ℕ
is_string e = string_node (out-Expr e).line (expr_node e)

abbrev pub is_status : Expr → Result (Unit {0}) ℕ
is_status e = status_node (out-Expr e).line (expr_node e)

abbrev pub names : List ℕ → Expr → Result (Unit {0}) ℕ
names name e = name_node name (out-Expr e).line (expr_node e)

abbrev pub is_return : List ℕ → Bool
is_return name = bytes_eq (encode_utf8_all name) (codes "return")

-- `PARAMETER.return`
abbrev pub callee_node : List ℕ → ℕ → ExprCases → Result (Unit {0}) ℕ
callee_node parameter line (ExprNode-F.Member object name) = if is_return name then names parameter object else Err line
callee_node parameter line _ = Err line

abbrev pub is_callee : List ℕ → Expr → Result (Unit {0}) ℕ
is_callee parameter e = callee_node parameter (out-Expr e).line (expr_node e)

-- `200, STRING`
abbrev pub arguments_by : ℕ → List Expr → Result (Unit {0}) ℕ
arguments_by line (status ∷ body ∷ []) = and_then (is_status status) (λ _. is_string body)
arguments_by line _ = Err line

abbrev pub has_two : List Expr → Bool
has_two (status ∷ body ∷ []) = true
has_two _ = false

-- `PARAMETER.return(200, STRING)`
abbrev pub call_node : List ℕ → ℕ → ExprCases → Result (Unit {0}) ℕ
call_node parameter line (ExprNode-F.Call callee arguments) =
    if has_two arguments then and_then (is_callee parameter callee) (λ _. arguments_by line arguments) else Err line
call_node parameter line _ = Err line

abbrev pub is_call : List ℕ → Expr → Result (Unit {0}) ℕ
is_call parameter e = call_node parameter (out-Expr e).line (expr_node e)

abbrev pub statement_node : List ℕ → ℕ → StmtCases → Result (Unit {0}) ℕ
statement_node parameter line (StmtNode-F.«StmtNode::Expr» e) = is_call parameter e
statement_node parameter line _ = Err line

abbrev pub is_statement : List ℕ → Stmt → Result (Unit {0}) ℕ
is_statement parameter s = statement_node parameter (out-Stmt s).line (stmt_node s)

-- the name of the function
abbrev pub function_by : ℕ → Option (List ℕ) → List (List ℕ) → List Stmt → Result (List ℕ) ℕ
function_by line (Some name) (parameter ∷ []) (s ∷ []) = and_then (is_statement parameter s) (λ _. Ok name)
function_by line _ _ _ = Err line

abbrev pub declaration_node : ℕ → StmtCases → Result (List ℕ) ℕ
declaration_node line (StmtNode-F.FunctionDecl f) = function_by line (out-FunctionTree f).name (out-FunctionTree f).params (out-FunctionTree f).body
declaration_node line _ = Err line

abbrev pub declaration_by : Stmt → Result (List ℕ) ℕ
declaration_by s = declaration_node (out-Stmt s).line (stmt_node s)

abbrev pub declared_name : Item → Result (List ℕ) ℕ
declared_name (items.Stmt s) = declaration_by s
declared_name (items.Export line e) = Err line

-- `{ NAME }`
abbrev pub property_by : List ℕ → ℕ → List (List ℕ × Expr) → Result (Unit {0}) ℕ
property_by name line (p ∷ []) = if bytes_eq p.0 name then names name p.1 else Err line
property_by name line _ = Err line

abbrev pub object_node : List ℕ → ℕ → ExprCases → Result (Unit {0}) ℕ
object_node name line (ExprNode-F.Object properties) = property_by name line properties
object_node name line _ = Err line

abbrev pub is_object : List ℕ → Expr → Result (Unit {0}) ℕ
is_object name e = object_node name (out-Expr e).line (expr_node e)

abbrev pub exports : List ℕ → Item → Result (Unit {0}) ℕ
exports name (items.Export line e) = is_object name e
exports name (items.Stmt s) = Err (out-Stmt s).line

abbrev pub item_line : Item → ℕ
item_line (items.Stmt s) = (out-Stmt s).line
item_line (items.Export line e) = line

-- nothing more
abbrev pub is_over : List Item → Result (Unit {0}) ℕ
is_over [] = Ok tt
is_over (item ∷ rest) = Err (item_line item)

abbrev pub exports_by : List ℕ → List Item → Result (Unit {0}) ℕ
exports_by name [] = Err 1
exports_by name (item ∷ rest) = and_then (exports name item) (λ _. is_over rest)

-- a script of the form, or the line where it leaves it
abbrev pub form_of : List Item → Result (Unit {0}) ℕ
form_of [] = Err 1
form_of (item ∷ rest) = and_then (declared_name item) (λ name. exports_by name rest)
