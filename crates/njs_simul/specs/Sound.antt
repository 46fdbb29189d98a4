-- Scripts whose numbers are safe, the lengths of their arrays among them, and whose functions have no two parameters of one name.
use Rattle.std.specs.Prelude.{◌≡◌, ℕ, pos, List, [], ◌∷◌, length, Bool, true, not, ◌&&◌, Option, Some, None}
use Rattle.njs_tree.specs.declared.tree.Script.{Script}
use Rattle.njs_tree.specs.declared.tree.Item.{Item}
use Rattle.njs_tree.specs.declared.tree.Item.TheVariants as items
use Rattle.njs_tree.specs.declared.tree.Expr.{Expr}
use Rattle.njs_tree.specs.declared.tree.Stmt.{Stmt}
use Rattle.njs_tree.specs.declared.tree.ExprNode.TheOpen.{ExprNode-F, ForFirst-F, ForInHead-F, StmtNode-F, Case-F, Expr-F, FunctionTree-F, Stmt-F}
use Rattle.njs_tree.specs.declared.tree.ExprNode.TheFolds.{fold-Expr, fold-Stmt}
use Rattle.njs_tree.specs.Accepted.{IsAccepted}
use Rattle.njs_tree.specs.Early.{repeats}
use Rattle.njs_code.specs.Valid.{is_safe, is_valid}
use Rattle.njs_meaning.specs.Places.{Bindings}
use Rattle.njs_simul.specs.Compiled.{code_of}

-- ---- of lists, and of what may be missing

abbrev pub all : List Bool → Bool
all [] = true
all (b ∷ bs) = b && all bs

abbrev pub if_any : Option Bool → Bool
if_any None = true
if_any (Some b) = b

abbrev pub all_held : List (Option Bool) → Bool
all_held [] = true
all_held (b ∷ bs) = if_any b && all_held bs

abbrev pub all_named : List (List ℕ × Bool) → Bool
all_named [] = true
all_named (p ∷ ps) = p.1 && all_named ps

abbrev pub all_named_held : List (List ℕ × Option Bool) → Bool
all_named_held [] = true
all_named_held (p ∷ ps) = if_any p.1 && all_named_held ps

-- ---- of the kinds of trees

abbrev pub node_sound : ExprNode-F Bool Bool Bool Bool Bool Bool Bool Bool → Bool
node_sound (ExprNode-F.Comma a b) = a && b
node_sound (ExprNode-F.Assign op target value) = target && value
node_sound (ExprNode-F.Cond a b c) = a && b && c
node_sound (ExprNode-F.Logical op a b) = a && b
node_sound (ExprNode-F.Binary op a b) = a && b
node_sound (ExprNode-F.Unary op a) = a
node_sound (ExprNode-F.Update op prefix target) = target
node_sound (ExprNode-F.Call callee args) = callee && all args
node_sound (ExprNode-F.Member a name) = a
node_sound (ExprNode-F.Index a b) = a && b
node_sound (ExprNode-F.New callee args) = callee && all args
node_sound (ExprNode-F.Num n) = is_safe n
node_sound (ExprNode-F.Str text) = true
node_sound (ExprNode-F.Name text) = true
node_sound ExprNode-F.This = true
node_sound ExprNode-F.Null = true
node_sound (ExprNode-F.Bool b) = true
node_sound (ExprNode-F.Array elements) = is_safe (pos (length elements)) && all_held elements
node_sound (ExprNode-F.Object properties) = all_named properties
node_sound (ExprNode-F.Function f) = f

abbrev pub expr_sound : Expr-F Bool Bool Bool Bool Bool Bool Bool Bool → Bool
expr_sound e = e.node

abbrev pub function_sound : FunctionTree-F Bool Bool Bool Bool Bool Bool Bool Bool → Bool
function_sound f = not (repeats f.params) && all f.body

abbrev pub first_sound : ForFirst-F Bool Bool Bool Bool Bool Bool Bool Bool → Bool
first_sound (ForFirst-F.ForFirst::Var vs) = all_named_held vs
first_sound (ForFirst-F.ForFirst::Expr a) = a

abbrev pub head_sound : ForInHead-F Bool Bool Bool Bool Bool Bool Bool Bool → Bool
head_sound (ForInHead-F.ForInHead::Var text) = true
head_sound (ForInHead-F.Target target) = target

abbrev pub branch_sound : Case-F Bool Bool Bool Bool Bool Bool Bool Bool → Bool
branch_sound c = if_any c.test && all c.body

abbrev pub caught_sound : Option (List ℕ × List Bool) → Bool
caught_sound None = true
caught_sound (Some caught) = all caught.1

abbrev pub last_sound : Option (List Bool) → Bool
last_sound None = true
last_sound (Some last) = all last

abbrev pub statement_sound : StmtNode-F Bool Bool Bool Bool Bool Bool Bool Bool → Bool
statement_sound (StmtNode-F.Block body) = all body
statement_sound (StmtNode-F.StmtNode::Var vs) = all_named_held vs
statement_sound StmtNode-F.Empty = true
statement_sound (StmtNode-F.StmtNode::Expr a) = a
statement_sound (StmtNode-F.If test body other) = test && body && if_any other
statement_sound (StmtNode-F.Do body test) = body && test
statement_sound (StmtNode-F.While test body) = test && body
statement_sound (StmtNode-F.For first test update body) = if_any first && if_any test && if_any update && body
statement_sound (StmtNode-F.ForIn head value body) = head && value && body
statement_sound (StmtNode-F.Continue label) = true
statement_sound (StmtNode-F.Break label) = true
statement_sound (StmtNode-F.Return value) = if_any value
statement_sound (StmtNode-F.Throw value) = value
statement_sound (StmtNode-F.Switch value cases) = value && all cases
statement_sound (StmtNode-F.Try body caught last) = all body && caught_sound caught && last_sound last
statement_sound (StmtNode-F.Label label body) = body
statement_sound (StmtNode-F.FunctionDecl f) = f

abbrev pub stmt_sound : Stmt-F Bool Bool Bool Bool Bool Bool Bool Bool → Bool
stmt_sound s = s.node

-- ---- of whole trees

unfoldable pub is_sound_expression : Expr → Bool
is_sound_expression = fold-Expr Bool Bool Bool Bool Bool Bool Bool Bool node_sound first_sound head_sound statement_sound branch_sound expr_sound function_sound stmt_sound

unfoldable pub is_sound_statement : Stmt → Bool
is_sound_statement = fold-Stmt Bool Bool Bool Bool Bool Bool Bool Bool node_sound first_sound head_sound statement_sound branch_sound expr_sound function_sound stmt_sound

abbrev pub is_sound_item : Item → Bool
is_sound_item (items.Stmt s) = is_sound_statement s
is_sound_item (items.Export line a) = is_sound_expression a

abbrev pub are_sound : List Item → Bool
are_sound [] = true
are_sound (i ∷ is) = is_sound_item i && are_sound is

abbrev pub is_sound : Script → Bool
is_sound script = are_sound script.items

-- the code of sound scripts is valid
abbrev pub SoundCode : Type 0
SoundCode = (script : Script) (outermost : Bindings) → is_sound script ≡ true → is_valid (code_of script outermost) ≡ true

-- and so is the code of accepted ones, which are sound
abbrev pub AcceptedCode : Type 0
AcceptedCode = (script : Script) (outermost : Bindings) → IsAccepted script → is_valid (code_of script outermost) ≡ true
