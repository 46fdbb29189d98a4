-- The grammar (ECMA-262 5.1 §11 to §14). Each relation is between the symbols from a place on and those after it.
use Rattle.std.specs.Prelude.{◌≡◌, ℕ, ◌+◌, max, ◌≤◌, ◌<◌, Bool, true, false, List, [], ◌∷◌, Option, Some, None, not, pos, if◌then◌else◌}
use Rattle.njs_tree.specs.declared.token.Token.{Token}
use Rattle.njs_tree.specs.declared.token.Mark.{Mark}
use Rattle.njs_tree.specs.declared.token.Mark.TheVariants as mark
use Rattle.njs_tree.specs.declared.token.Keyword.TheVariants as keyword
use Rattle.njs_tree.specs.declared.token.Joint.TheVariants as joint
use Rattle.njs_tree.specs.declared.tree.BinaryOp.{BinaryOp}
use Rattle.njs_tree.specs.declared.tree.LogicalOp.{LogicalOp}
use Rattle.njs_tree.specs.declared.tree.UnaryOp.{UnaryOp}
use Rattle.njs_tree.specs.declared.tree.UpdateOp.{UpdateOp}
use Rattle.njs_tree.specs.declared.tree.Script.{Script}
use Rattle.njs_tree.specs.declared.tree.Item.{Item}
use Rattle.njs_tree.specs.declared.tree.Item.TheVariants as items
use Rattle.njs_tree.specs.declared.tree.Expr.{Expr, roll-Expr, out-Expr}
use Rattle.njs_tree.specs.declared.tree.ExprNode.{ExprNode, out-ExprNode}
use Rattle.njs_tree.specs.declared.tree.ExprNode.TheVariants as node
use Rattle.njs_tree.specs.declared.tree.Stmt.{Stmt, roll-Stmt, out-Stmt}
use Rattle.njs_tree.specs.declared.tree.StmtNode.{StmtNode, out-StmtNode}
use Rattle.njs_tree.specs.declared.tree.StmtNode.TheVariants as step
use Rattle.njs_tree.specs.declared.tree.FunctionTree.{FunctionTree, roll-FunctionTree}
use Rattle.njs_tree.specs.declared.tree.ForFirst.{ForFirst}
use Rattle.njs_tree.specs.declared.tree.ForFirst.TheVariants as first
use Rattle.njs_tree.specs.declared.tree.ForInHead.{ForInHead}
use Rattle.njs_tree.specs.declared.tree.ForInHead.TheVariants as head
use Rattle.njs_tree.specs.declared.tree.Case.{Case, roll-Case}
use Rattle.njs_tree.specs.Lexemes.{Lexeme, Symbol, word_text, key_text}
use Rattle.njs_tree.specs.Symbols.{lexeme_of, line_of, breaks, joint_of, logical_level, binary_level, prefix_of, update_of, strength, goes_on, var_goes_on, may_miss, begins_other, begins_label, is_else, is_finally}
use Rattle.njs_tree.specs.TokenList.{Tokens, symbols_of}
use Rattle.njs_tree.specs.declared.tree.ExprNode.TheOpen.{ExprNode-F, StmtNode-F}

-- a node on the line of the first of these symbols
abbrev pub at : List Symbol → ExprNode → Expr
at i n = roll-Expr (record { line = line_of i; node = n })

-- a statement on a line
abbrev pub stands : ℕ → StmtNode → Stmt
stands line s = roll-Stmt (record { line = line; node = s })

abbrev pub is_target_node : ExprNode-F ExprNode ForFirst ForInHead StmtNode Case Expr FunctionTree Stmt → Bool
is_target_node (ExprNode-F.Name name) = true
is_target_node (ExprNode-F.Member object name) = true
is_target_node (ExprNode-F.Index object index) = true
is_target_node _ = false

-- a name, a member or an index
abbrev pub is_target : Expr → Bool
is_target e = is_target_node (out-ExprNode (out-Expr e).node)

abbrev pub is_loop_node : StmtNode-F ExprNode ForFirst ForInHead StmtNode Case Expr FunctionTree Stmt → Bool
is_loop_node (StmtNode-F.Do body test) = true
is_loop_node (StmtNode-F.While test body) = true
is_loop_node (StmtNode-F.For first test update body) = true
is_loop_node (StmtNode-F.ForIn head value body) = true
is_loop_node (StmtNode-F.Label label body) = true
is_loop_node _ = false

-- a loop, or a label of one: what a label may stand before
abbrev pub is_loop : Stmt → Bool
is_loop s = is_loop_node (out-StmtNode (out-Stmt s).node)

-- The end of a statement: a semicolon, or one that may be missing (§7.9). The test says whether the next symbol would carry it on.
pub data Ends : Bool → List Symbol → List Symbol → Type 0 where
  written : (on : Bool) (t : Symbol) (r : List Symbol) → t.lexeme ≡ Lexeme.mark mark.Semicolon → Ends on (t ∷ r) r
  missing : (on : Bool) (r : List Symbol) → may_miss (lexeme_of r) (breaks r) on ≡ true → Ends on r r

-- one name or more with commas between, and the closing parenthesis
pub data Names : List (List ℕ) → List Symbol → List Symbol → Type 0 where
  last : (name : List ℕ) (t u : Symbol) (r : List Symbol) → t.lexeme ≡ Lexeme.name name → u.lexeme ≡ Lexeme.mark mark.RightParen → Names (name ∷ []) (t ∷ u ∷ r) r
  more : (name : List ℕ) (names : List (List ℕ)) (t u : Symbol) (i r : List Symbol) → t.lexeme ≡ Lexeme.name name → u.lexeme ≡ Lexeme.mark mark.Comma → Names names i r
      → Names (name ∷ names) (t ∷ u ∷ i) r

-- the parameters of a function in their parentheses (§13)
pub data Parameters : List (List ℕ) → List Symbol → List Symbol → Type 0 where
  none : (t u : Symbol) (r : List Symbol) → t.lexeme ≡ Lexeme.mark mark.LeftParen → u.lexeme ≡ Lexeme.mark mark.RightParen → Parameters [] (t ∷ u ∷ r) r
  some : (names : List (List ℕ)) (t : Symbol) (i r : List Symbol) → t.lexeme ≡ Lexeme.mark mark.LeftParen → Names names i r → Parameters names (t ∷ i) r

mutual
  -- `Spells with_in least tree depth ends i r`: the symbols i begin with those that spell the tree, at least as tightly as the level, and
  -- r are those after them. `ends` says whether the last one is a postfix `++` or `--`. Without `with_in`, `in` is no operator.
  pub data Spells : Bool → ℕ → Expr → ℕ → Bool → List Symbol → List Symbol → Type 0 where
    -- §11.14
    comma : (with_in : Bool) (least : ℕ) (a b : Expr) (da db : ℕ) (ea eb : Bool) (t : Symbol) (i j r : List Symbol) → least ≤ 1
        → Spells with_in 1 a da ea i (t ∷ j) → joint_of with_in t.lexeme ≡ joint.Comma → Spells with_in 2 b db eb j r
        → Spells with_in least (at i (node.Comma a b)) (max da db + 1) eb i r
    -- §11.13
    assign : (with_in : Bool) (least : ℕ) (op : Option BinaryOp) (a b : Expr) (da db : ℕ) (ea eb : Bool) (t : Symbol) (i j r : List Symbol) → least ≤ 2
        → Spells with_in 16 a da ea i (t ∷ j) → is_target a ≡ true → joint_of with_in t.lexeme ≡ joint.Assign op → Spells with_in 2 b db eb j r
        → Spells with_in least (at i (node.Assign op a b)) (max da db + 1) eb i r
    -- §11.12
    cond : (with_in : Bool) (least : ℕ) (a b c : Expr) (da db dc : ℕ) (ea eb ec : Bool) (t u : Symbol) (i j k r : List Symbol) → least ≤ 3
        → Spells with_in 4 a da ea i (t ∷ j) → joint_of with_in t.lexeme ≡ joint.Question → Spells true 2 b db eb j (u ∷ k)
        → u.lexeme ≡ Lexeme.mark mark.Colon → Spells with_in 2 c dc ec k r
        → Spells with_in least (at i (node.Cond a b c)) (max da (max db dc) + 1) ec i r
    -- §11.11
    logical : (with_in : Bool) (least : ℕ) (op : LogicalOp) (a b : Expr) (da db : ℕ) (ea eb : Bool) (t : Symbol) (i j r : List Symbol) → least ≤ logical_level op
        → Spells with_in (logical_level op) a da ea i (t ∷ j) → joint_of with_in t.lexeme ≡ joint.Logical op → Spells with_in (logical_level op + 1) b db eb j r
        → Spells with_in least (at i (node.Logical op a b)) (max da db + 1) eb i r
    -- §11.5 to §11.10
    binary : (with_in : Bool) (least : ℕ) (op : BinaryOp) (a b : Expr) (da db : ℕ) (ea eb : Bool) (t : Symbol) (i j r : List Symbol) → least ≤ binary_level op
        → Spells with_in (binary_level op) a da ea i (t ∷ j) → joint_of with_in t.lexeme ≡ joint.Binary op → Spells with_in (binary_level op + 1) b db eb j r
        → Spells with_in least (at i (node.Binary op a b)) (max da db + 1) eb i r
    -- §11.4
    unary : (with_in : Bool) (least : ℕ) (op : UnaryOp) (a : Expr) (d : ℕ) (e : Bool) (t : Symbol) (j r : List Symbol) → least ≤ 14
        → prefix_of t.lexeme ≡ Some op → Spells with_in 14 a d e j r
        → Spells with_in least (at (t ∷ j) (node.Unary op a)) (d + 1) e (t ∷ j) r
    -- §11.4.4, §11.4.5
    update_before : (with_in : Bool) (least : ℕ) (op : UpdateOp) (a : Expr) (d : ℕ) (e : Bool) (t : Symbol) (j r : List Symbol) → least ≤ 14
        → update_of t.lexeme ≡ Some op → Spells with_in 16 a d e j r → is_target a ≡ true
        → Spells with_in least (at (t ∷ j) (node.Update op true a)) (d + 1) e (t ∷ j) r
    -- §11.3: on the line of the target's end
    update_after : (with_in : Bool) (least : ℕ) (op : UpdateOp) (a : Expr) (d : ℕ) (e : Bool) (t : Symbol) (i r : List Symbol) → least ≤ 15
        → Spells with_in 16 a d e i (t ∷ r) → is_target a ≡ true → update_of t.lexeme ≡ Some op → t.after_break ≡ false
        → Spells with_in least (at i (node.Update op false a)) (d + 1) true i r
    -- §11.2.2: `new` without arguments begins no chain
    bare_new : (with_in : Bool) (least : ℕ) (a : Expr) (d : ℕ) (i r : List Symbol) → least ≤ 16 → BareNew with_in a d i r → Spells with_in least a d false i r
    -- §11.2.3
    call : (with_in : Bool) (least : ℕ) (a : Expr) (xs : List Expr) (da dx : ℕ) (ea : Bool) (t : Symbol) (i j r : List Symbol) → least ≤ 17
        → Spells with_in 17 a da ea i (t ∷ j) → t.lexeme ≡ Lexeme.mark mark.LeftParen → Arguments xs dx j r
        → Spells with_in least (at i (node.Call a xs)) (max da dx + 1) false i r
    -- §11.2.1: of the callee of a `new` a chain without calls, of all else one with them
    member : (with_in : Bool) (least base : ℕ) (a : Expr) (name : List ℕ) (d : ℕ) (e : Bool) (t u : Symbol) (i r : List Symbol) → least ≤ base → 17 ≤ base → base ≤ 18
        → Spells with_in base a d e i (t ∷ u ∷ r) → t.lexeme ≡ Lexeme.mark mark.Dot → word_text u.lexeme ≡ Some name
        → Spells with_in least (at i (node.Member a name)) (d + 1) false i r
    index : (with_in : Bool) (least base : ℕ) (a b : Expr) (da db : ℕ) (ea eb : Bool) (t u : Symbol) (i j r : List Symbol) → least ≤ base → 17 ≤ base → base ≤ 18
        → Spells with_in base a da ea i (t ∷ j) → t.lexeme ≡ Lexeme.mark mark.LeftBracket → Spells true 1 b db eb j (u ∷ r) → u.lexeme ≡ Lexeme.mark mark.RightBracket
        → Spells with_in least (at i (node.Index a b)) (max da db + 1) false i r
    -- §11.2.2: the callee is a chain without calls, and the arguments that follow it are those of the `new`
    new : (with_in : Bool) (least : ℕ) (a : Expr) (xs : List Expr) (da dx : ℕ) (ea : Bool) (t u : Symbol) (j k r : List Symbol) → least ≤ 18
        → t.lexeme ≡ Lexeme.reserved keyword.New → Spells with_in 18 a da ea j (u ∷ k) → u.lexeme ≡ Lexeme.mark mark.LeftParen → Arguments xs dx k r
        → Spells with_in least (at (t ∷ j) (node.New a xs)) (max da dx + 1) false (t ∷ j) r
    -- §11.1.6: no node
    parenthesized : (with_in : Bool) (least : ℕ) (a : Expr) (d : ℕ) (e : Bool) (t u : Symbol) (j r : List Symbol)
        → t.lexeme ≡ Lexeme.mark mark.LeftParen → Spells true 1 a d e j (u ∷ r) → u.lexeme ≡ Lexeme.mark mark.RightParen
        → Spells with_in least a d false (t ∷ j) r
    -- §7.8, §11.1.1, §11.1.2
    number : (with_in : Bool) (least n : ℕ) (t : Symbol) (r : List Symbol) → t.lexeme ≡ Lexeme.number n
        → Spells with_in least (at (t ∷ r) (node.Num (pos n))) 1 false (t ∷ r) r
    string : (with_in : Bool) (least : ℕ) (text : List ℕ) (t : Symbol) (r : List Symbol) → t.lexeme ≡ Lexeme.string text
        → Spells with_in least (at (t ∷ r) (node.Str text)) 1 false (t ∷ r) r
    name : (with_in : Bool) (least : ℕ) (text : List ℕ) (t : Symbol) (r : List Symbol) → t.lexeme ≡ Lexeme.name text
        → Spells with_in least (at (t ∷ r) (node.Name text)) 1 false (t ∷ r) r
    this : (with_in : Bool) (least : ℕ) (t : Symbol) (r : List Symbol) → t.lexeme ≡ Lexeme.reserved keyword.This
        → Spells with_in least (at (t ∷ r) node.This) 1 false (t ∷ r) r
    null : (with_in : Bool) (least : ℕ) (t : Symbol) (r : List Symbol) → t.lexeme ≡ Lexeme.reserved keyword.Null
        → Spells with_in least (at (t ∷ r) node.Null) 1 false (t ∷ r) r
    yes : (with_in : Bool) (least : ℕ) (t : Symbol) (r : List Symbol) → t.lexeme ≡ Lexeme.reserved keyword.True
        → Spells with_in least (at (t ∷ r) (node.Bool true)) 1 false (t ∷ r) r
    no : (with_in : Bool) (least : ℕ) (t : Symbol) (r : List Symbol) → t.lexeme ≡ Lexeme.reserved keyword.False
        → Spells with_in least (at (t ∷ r) (node.Bool false)) 1 false (t ∷ r) r
    -- §11.1.4
    array : (with_in : Bool) (least : ℕ) (xs : List (Option Expr)) (d : ℕ) (t : Symbol) (j r : List Symbol) → t.lexeme ≡ Lexeme.mark mark.LeftBracket → Elements xs d j r
        → Spells with_in least (at (t ∷ j) (node.Array xs)) (d + 1) false (t ∷ j) r
    -- §11.1.5
    object : (with_in : Bool) (least : ℕ) (ps : List (List ℕ × Expr)) (d : ℕ) (t : Symbol) (j r : List Symbol) → t.lexeme ≡ Lexeme.mark mark.LeftBrace → Properties ps d j r
        → Spells with_in least (at (t ∷ j) (node.Object ps)) (d + 1) false (t ∷ j) r
    -- §13
    unnamed : (with_in : Bool) (least : ℕ) (f : FunctionTree) (d : ℕ) (t : Symbol) (j r : List Symbol) → t.lexeme ≡ Lexeme.reserved keyword.Function → Function None f d j r
        → Spells with_in least (at (t ∷ j) (node.Function f)) (d + 1) false (t ∷ j) r
    named : (with_in : Bool) (least : ℕ) (name : List ℕ) (f : FunctionTree) (d : ℕ) (t u : Symbol) (j r : List Symbol) → t.lexeme ≡ Lexeme.reserved keyword.Function
        → u.lexeme ≡ Lexeme.name name → Function (Some name) f d j r
        → Spells with_in least (at (t ∷ u ∷ j) (node.Function f)) (d + 1) false (t ∷ u ∷ j) r

  -- `new` without arguments (§11.2.2)
  pub data BareNew : Bool → Expr → ℕ → List Symbol → List Symbol → Type 0 where
    new_chain : (with_in : Bool) (a : Expr) (d : ℕ) (e : Bool) (t : Symbol) (j r : List Symbol) → t.lexeme ≡ Lexeme.reserved keyword.New → Spells with_in 18 a d e j r
        → BareNew with_in (at (t ∷ j) (node.New a [])) (d + 1) (t ∷ j) r
    new_new : (with_in : Bool) (a : Expr) (d : ℕ) (t : Symbol) (j r : List Symbol) → t.lexeme ≡ Lexeme.reserved keyword.New → BareNew with_in a d j r
        → BareNew with_in (at (t ∷ j) (node.New a [])) (d + 1) (t ∷ j) r

  -- after the opening parenthesis, with the closing one (§11.2.4)
  pub data Arguments : List Expr → ℕ → List Symbol → List Symbol → Type 0 where
    no_arguments : (t : Symbol) (r : List Symbol) → t.lexeme ≡ Lexeme.mark mark.RightParen → Arguments [] 0 (t ∷ r) r
    some_arguments : (xs : List Expr) (d : ℕ) (i r : List Symbol) → Listed xs d i r → Arguments xs d i r

  -- one argument or more with commas between, and the closing parenthesis
  pub data Listed : List Expr → ℕ → List Symbol → List Symbol → Type 0 where
    last_argument : (a : Expr) (d : ℕ) (e : Bool) (t : Symbol) (i r : List Symbol) → Spells true 2 a d e i (t ∷ r) → t.lexeme ≡ Lexeme.mark mark.RightParen
        → Listed (a ∷ []) d i r
    more_arguments : (a : Expr) (xs : List Expr) (d dx : ℕ) (e : Bool) (t : Symbol) (i j r : List Symbol) → Spells true 2 a d e i (t ∷ j) → t.lexeme ≡ Lexeme.mark mark.Comma
        → Listed xs dx j r → Listed (a ∷ xs) (max d dx) i r

  -- The elements of an array, with the closing bracket (§11.1.4): a hole is a comma with no value before it, and a comma at the end adds none.
  pub data Elements : List (Option Expr) → ℕ → List Symbol → List Symbol → Type 0 where
    no_element : (t : Symbol) (r : List Symbol) → t.lexeme ≡ Lexeme.mark mark.RightBracket → Elements [] 0 (t ∷ r) r
    hole : (xs : List (Option Expr)) (d : ℕ) (t : Symbol) (j r : List Symbol) → t.lexeme ≡ Lexeme.mark mark.Comma → Elements xs d j r → Elements (None ∷ xs) d (t ∷ j) r
    last_element : (a : Expr) (d : ℕ) (e : Bool) (t : Symbol) (i r : List Symbol) → Spells true 2 a d e i (t ∷ r) → t.lexeme ≡ Lexeme.mark mark.RightBracket
        → Elements (Some a ∷ []) d i r
    element : (a : Expr) (xs : List (Option Expr)) (d dx : ℕ) (e : Bool) (t : Symbol) (i j r : List Symbol) → Spells true 2 a d e i (t ∷ j) → t.lexeme ≡ Lexeme.mark mark.Comma
        → Elements xs dx j r → Elements (Some a ∷ xs) (max d dx) i r

  -- The properties of an object, with the closing brace (§11.1.5), which a comma may stand before. A name alone has the name as its value.
  pub data Properties : List (List ℕ × Expr) → ℕ → List Symbol → List Symbol → Type 0 where
    no_property : (t : Symbol) (r : List Symbol) → t.lexeme ≡ Lexeme.mark mark.RightBrace → Properties [] 0 (t ∷ r) r
    last_property : (key : List ℕ) (a : Expr) (d : ℕ) (e : Bool) (t u v : Symbol) (i r : List Symbol) → key_text t.lexeme ≡ Some key → u.lexeme ≡ Lexeme.mark mark.Colon
        → Spells true 2 a d e i (v ∷ r) → v.lexeme ≡ Lexeme.mark mark.RightBrace → Properties ((key, a) ∷ []) d (t ∷ u ∷ i) r
    property : (key : List ℕ) (a : Expr) (ps : List (List ℕ × Expr)) (d dp : ℕ) (e : Bool) (t u v : Symbol) (i j r : List Symbol) → key_text t.lexeme ≡ Some key
        → u.lexeme ≡ Lexeme.mark mark.Colon → Spells true 2 a d e i (v ∷ j) → v.lexeme ≡ Lexeme.mark mark.Comma → Properties ps dp j r
        → Properties ((key, a) ∷ ps) (max d dp) (t ∷ u ∷ i) r
    last_name : (name : List ℕ) (t u : Symbol) (r : List Symbol) → t.lexeme ≡ Lexeme.name name → u.lexeme ≡ Lexeme.mark mark.RightBrace
        → Properties ((name, at (t ∷ u ∷ r) (node.Name name)) ∷ []) 1 (t ∷ u ∷ r) r
    property_name : (name : List ℕ) (ps : List (List ℕ × Expr)) (dp : ℕ) (t u : Symbol) (j r : List Symbol) → t.lexeme ≡ Lexeme.name name → u.lexeme ≡ Lexeme.mark mark.Comma
        → Properties ps dp j r → Properties ((name, at (t ∷ u ∷ j) (node.Name name)) ∷ ps) (max 1 dp) (t ∷ u ∷ j) r

  -- A function from its parameters on (§13). A function is no node of its own.
  pub data Function : Option (List ℕ) → FunctionTree → ℕ → List Symbol → List Symbol → Type 0 where
    function : (name : Option (List ℕ)) (params : List (List ℕ)) (body : List Stmt) (d : ℕ) (t u : Symbol) (i j r : List Symbol) → Parameters params i (t ∷ j)
        → t.lexeme ≡ Lexeme.mark mark.LeftBrace → Body body d j (u ∷ r) → u.lexeme ≡ Lexeme.mark mark.RightBrace
        → Function name (roll-FunctionTree (record { name = name; params = params; body = body })) d i r

  -- statements and declarations of functions, one after the other (§13, §14)
  pub data Body : List Stmt → ℕ → List Symbol → List Symbol → Type 0 where
    no_item : (r : List Symbol) → Body [] 0 r r
    item : (s : Stmt) (ss : List Stmt) (d ds : ℕ) (i j r : List Symbol) → IsItem s d i j → Body ss ds j r → Body (s ∷ ss) (max d ds) i r

  -- a statement, or the declaration of a function, which stands in no statement (§13)
  pub data IsItem : Stmt → ℕ → List Symbol → List Symbol → Type 0 where
    statement : (s : Stmt) (d : ℕ) (i r : List Symbol) → Stands s d i r → IsItem s d i r
    declaration : (name : List ℕ) (f : FunctionTree) (d : ℕ) (t u : Symbol) (j r : List Symbol) → t.lexeme ≡ Lexeme.reserved keyword.Function → u.lexeme ≡ Lexeme.name name
        → Function (Some name) f d j r → IsItem (stands t.line (step.FunctionDecl f)) (d + 1) (t ∷ u ∷ j) r

  -- statements, one after the other (§12.1)
  pub data Statements : List Stmt → ℕ → List Symbol → List Symbol → Type 0 where
    no_statement : (r : List Symbol) → Statements [] 0 r r
    one_more : (s : Stmt) (ss : List Stmt) (d ds : ℕ) (i j r : List Symbol) → Stands s d i j → Statements ss ds j r → Statements (s ∷ ss) (max d ds) i r

  -- statements in braces
  pub data Block : List Stmt → ℕ → List Symbol → List Symbol → Type 0 where
    braced : (ss : List Stmt) (d : ℕ) (t u : Symbol) (i r : List Symbol) → t.lexeme ≡ Lexeme.mark mark.LeftBrace → Statements ss d i (u ∷ r) → u.lexeme ≡ Lexeme.mark mark.RightBrace
        → Block ss d (t ∷ i) r

  -- an expression in parentheses
  pub data Grouped : Expr → ℕ → List Symbol → List Symbol → Type 0 where
    grouped : (a : Expr) (d : ℕ) (e : Bool) (t u : Symbol) (i r : List Symbol) → t.lexeme ≡ Lexeme.mark mark.LeftParen → Spells true 1 a d e i (u ∷ r)
        → u.lexeme ≡ Lexeme.mark mark.RightParen → Grouped a d (t ∷ i) r

  -- Names, each with an optional value (§12.2). Their end is a bare name, or a value that may end with a postfix `++` or `--`.
  pub data Declares : Bool → List (List ℕ × Option Expr) → ℕ → Option Bool → List Symbol → List Symbol → Type 0 where
    last_bare : (with_in : Bool) (name : List ℕ) (t : Symbol) (r : List Symbol) → t.lexeme ≡ Lexeme.name name → Declares with_in ((name, None) ∷ []) 0 None (t ∷ r) r
    last_value : (with_in : Bool) (name : List ℕ) (a : Expr) (d : ℕ) (e : Bool) (t u : Symbol) (i r : List Symbol) → t.lexeme ≡ Lexeme.name name → u.lexeme ≡ Lexeme.mark mark.Assign
        → Spells with_in 2 a d e i r → Declares with_in ((name, Some a) ∷ []) d (Some e) (t ∷ u ∷ i) r
    more_bare : (with_in : Bool) (name : List ℕ) (vs : List (List ℕ × Option Expr)) (d : ℕ) (last : Option Bool) (t u : Symbol) (j r : List Symbol) → t.lexeme ≡ Lexeme.name name
        → u.lexeme ≡ Lexeme.mark mark.Comma → Declares with_in vs d last j r → Declares with_in ((name, None) ∷ vs) d last (t ∷ u ∷ j) r
    more_value : (with_in : Bool) (name : List ℕ) (a : Expr) (vs : List (List ℕ × Option Expr)) (d dv : ℕ) (e : Bool) (last : Option Bool) (t u v : Symbol) (i j r : List Symbol)
        → t.lexeme ≡ Lexeme.name name → u.lexeme ≡ Lexeme.mark mark.Assign → Spells with_in 2 a d e i (v ∷ j) → v.lexeme ≡ Lexeme.mark mark.Comma → Declares with_in vs dv last j r
        → Declares with_in ((name, Some a) ∷ vs) (max d dv) last (t ∷ u ∷ i) r

  -- an expression or none, and then the mark
  pub data Optional : Option Expr → ℕ → Mark → List Symbol → List Symbol → Type 0 where
    left_out : (m : Mark) (t : Symbol) (r : List Symbol) → t.lexeme ≡ Lexeme.mark m → Optional None 0 m (t ∷ r) r
    given : (m : Mark) (a : Expr) (d : ℕ) (e : Bool) (t : Symbol) (i r : List Symbol) → Spells true 1 a d e i (t ∷ r) → t.lexeme ≡ Lexeme.mark m → Optional (Some a) d m i r

  -- the first part of the head of a `for`, with its semicolon (§12.6.3)
  pub data First : Option ForFirst → ℕ → List Symbol → List Symbol → Type 0 where
    no_first : (t : Symbol) (r : List Symbol) → t.lexeme ≡ Lexeme.mark mark.Semicolon → First None 0 (t ∷ r) r
    first_var : (vs : List (List ℕ × Option Expr)) (d : ℕ) (last : Option Bool) (t u : Symbol) (i r : List Symbol) → t.lexeme ≡ Lexeme.reserved keyword.Var
        → Declares false vs d last i (u ∷ r) → u.lexeme ≡ Lexeme.mark mark.Semicolon → First (Some (first.Var vs)) d (t ∷ i) r
    first_expr : (a : Expr) (d : ℕ) (e : Bool) (t : Symbol) (i r : List Symbol) → Spells false 1 a d e i (t ∷ r) → t.lexeme ≡ Lexeme.mark mark.Semicolon
        → First (Some (first.Expr a)) d i r

  -- what stands before the `in` of a `for` (§12.6.4)
  pub data Head : ForInHead → ℕ → List Symbol → List Symbol → Type 0 where
    head_var : (name : List ℕ) (t u : Symbol) (r : List Symbol) → t.lexeme ≡ Lexeme.reserved keyword.Var → u.lexeme ≡ Lexeme.name name → Head (head.Var name) 0 (t ∷ u ∷ r) r
    head_target : (a : Expr) (d : ℕ) (e : Bool) (i r : List Symbol) → Spells false 16 a d e i r → is_target a ≡ true → Head (head.Target a) d i r

  -- The cases of a `switch`, with the closing brace (§12.11). The test says whether one is `default`: at most one is.
  pub data Cases : List Case → ℕ → Bool → List Symbol → List Symbol → Type 0 where
    no_case : (t : Symbol) (r : List Symbol) → t.lexeme ≡ Lexeme.mark mark.RightBrace → Cases [] 0 false (t ∷ r) r
    test_case : (a : Expr) (ss : List Stmt) (cs : List Case) (da ds dc : ℕ) (e has_default : Bool) (t u : Symbol) (i j k r : List Symbol) → t.lexeme ≡ Lexeme.reserved keyword.Case
        → Spells true 1 a da e i (u ∷ j) → u.lexeme ≡ Lexeme.mark mark.Colon → Statements ss ds j k → Cases cs dc has_default k r
        → Cases (roll-Case (record { test = Some a; body = ss }) ∷ cs) (max da (max ds dc)) has_default (t ∷ i) r
    default_case : (ss : List Stmt) (cs : List Case) (ds dc : ℕ) (t u : Symbol) (j k r : List Symbol) → t.lexeme ≡ Lexeme.reserved keyword.Default → u.lexeme ≡ Lexeme.mark mark.Colon
        → Statements ss ds j k → Cases cs dc false k r
        → Cases (roll-Case (record { test = None; body = ss }) ∷ cs) (max ds dc) true (t ∷ u ∷ j) r

  -- the name and the block of a `catch` (§12.14)
  pub data Catch : List ℕ → List Stmt → ℕ → List Symbol → List Symbol → Type 0 where
    caught : (name : List ℕ) (ss : List Stmt) (d : ℕ) (t u v w : Symbol) (i r : List Symbol) → t.lexeme ≡ Lexeme.reserved keyword.Catch → u.lexeme ≡ Lexeme.mark mark.LeftParen
        → v.lexeme ≡ Lexeme.name name → w.lexeme ≡ Lexeme.mark mark.RightParen → Block ss d i r → Catch name ss d (t ∷ u ∷ v ∷ w ∷ i) r

  -- a statement, with its semicolon
  pub data Stands : Stmt → ℕ → List Symbol → List Symbol → Type 0 where
    -- §12.1
    block : (ss : List Stmt) (d : ℕ) (i r : List Symbol) → Block ss d i r → Stands (stands (line_of i) (step.Block ss)) (d + 1) i r
    -- §12.2
    var : (vs : List (List ℕ × Option Expr)) (d : ℕ) (last : Option Bool) (t : Symbol) (i k r : List Symbol) → t.lexeme ≡ Lexeme.reserved keyword.Var → Declares true vs d last i k
        → Ends (var_goes_on last k) k r → Stands (stands t.line (step.Var vs)) (d + 1) (t ∷ i) r
    -- §12.3
    empty : (t : Symbol) (r : List Symbol) → t.lexeme ≡ Lexeme.mark mark.Semicolon → Stands (stands t.line step.Empty) 1 (t ∷ r) r
    -- §12.4: it begins with no `{` and no `function`, and what begins with a name and a colon has a label
    expr : (a : Expr) (d : ℕ) (e : Bool) (i k r : List Symbol) → begins_other (lexeme_of i) ≡ false → begins_label i ≡ false → Spells true 1 a d e i k → Ends (goes_on e k) k r
        → Stands (stands (line_of i) (step.Expr a)) (d + 1) i r
    -- §12.5: an `else` belongs to the nearest `if`
    if_only : (a : Expr) (s : Stmt) (da ds : ℕ) (t : Symbol) (i j r : List Symbol) → t.lexeme ≡ Lexeme.reserved keyword.If → Grouped a da i j → Stands s ds j r
        → is_else (lexeme_of r) ≡ false → Stands (stands t.line (step.If a s None)) (max da ds + 1) (t ∷ i) r
    if_else : (a : Expr) (s o : Stmt) (da ds dn : ℕ) (t u : Symbol) (i j k r : List Symbol) → t.lexeme ≡ Lexeme.reserved keyword.If → Grouped a da i j → Stands s ds j (u ∷ k)
        → u.lexeme ≡ Lexeme.reserved keyword.Else → Stands o dn k r → Stands (stands t.line (step.If a s (Some o))) (max da (max ds dn) + 1) (t ∷ i) r
    -- §12.6.1
    do_while : (s : Stmt) (a : Expr) (ds da : ℕ) (t u : Symbol) (i j k r : List Symbol) → t.lexeme ≡ Lexeme.reserved keyword.Do → Stands s ds i (u ∷ j)
        → u.lexeme ≡ Lexeme.reserved keyword.While → Grouped a da j k → Ends false k r → Stands (stands t.line (step.Do s a)) (max ds da + 1) (t ∷ i) r
    -- §12.6.2
    while : (a : Expr) (s : Stmt) (da ds : ℕ) (t : Symbol) (i j r : List Symbol) → t.lexeme ≡ Lexeme.reserved keyword.While → Grouped a da i j → Stands s ds j r
        → Stands (stands t.line (step.While a s)) (max da ds + 1) (t ∷ i) r
    -- §12.6.3
    for : (f : Option ForFirst) (a b : Option Expr) (s : Stmt) (df da db ds : ℕ) (t u : Symbol) (i j k l r : List Symbol) → t.lexeme ≡ Lexeme.reserved keyword.For
        → u.lexeme ≡ Lexeme.mark mark.LeftParen → First f df i j → Optional a da mark.Semicolon j k → Optional b db mark.RightParen k l → Stands s ds l r
        → Stands (stands t.line (step.For f a b s)) (max df (max da (max db ds)) + 1) (t ∷ u ∷ i) r
    -- §12.6.4
    for_in : (h : ForInHead) (a : Expr) (s : Stmt) (dh da ds : ℕ) (e : Bool) (t u v w : Symbol) (i j k r : List Symbol) → t.lexeme ≡ Lexeme.reserved keyword.For
        → u.lexeme ≡ Lexeme.mark mark.LeftParen → Head h dh i (v ∷ j) → v.lexeme ≡ Lexeme.reserved keyword.In → Spells true 1 a da e j (w ∷ k)
        → w.lexeme ≡ Lexeme.mark mark.RightParen → Stands s ds k r
        → Stands (stands t.line (step.ForIn h a s)) (max dh (max da ds) + 1) (t ∷ u ∷ i) r
    -- §12.7, §12.8: a line end before the label ends it
    continue : (t : Symbol) (j r : List Symbol) → t.lexeme ≡ Lexeme.reserved keyword.Continue → Ends false j r → Stands (stands t.line (step.Continue None)) 1 (t ∷ j) r
    continue_to : (label : List ℕ) (t u : Symbol) (j r : List Symbol) → t.lexeme ≡ Lexeme.reserved keyword.Continue → u.after_break ≡ false → u.lexeme ≡ Lexeme.name label
        → Ends false j r → Stands (stands t.line (step.Continue (Some label))) 1 (t ∷ u ∷ j) r
    break : (t : Symbol) (j r : List Symbol) → t.lexeme ≡ Lexeme.reserved keyword.Break → Ends false j r → Stands (stands t.line (step.Break None)) 1 (t ∷ j) r
    break_to : (label : List ℕ) (t u : Symbol) (j r : List Symbol) → t.lexeme ≡ Lexeme.reserved keyword.Break → u.after_break ≡ false → u.lexeme ≡ Lexeme.name label
        → Ends false j r → Stands (stands t.line (step.Break (Some label))) 1 (t ∷ u ∷ j) r
    -- §12.9: a line end before the value ends it
    return : (t : Symbol) (j r : List Symbol) → t.lexeme ≡ Lexeme.reserved keyword.Return → Ends false j r → Stands (stands t.line (step.Return None)) 1 (t ∷ j) r
    return_value : (a : Expr) (d : ℕ) (e : Bool) (t : Symbol) (i k r : List Symbol) → t.lexeme ≡ Lexeme.reserved keyword.Return → breaks i ≡ false → Spells true 1 a d e i k
        → Ends (goes_on e k) k r → Stands (stands t.line (step.Return (Some a))) (d + 1) (t ∷ i) r
    -- §12.13: no line end may stand before the value
    throw : (a : Expr) (d : ℕ) (e : Bool) (t : Symbol) (i k r : List Symbol) → t.lexeme ≡ Lexeme.reserved keyword.Throw → breaks i ≡ false → Spells true 1 a d e i k
        → Ends (goes_on e k) k r → Stands (stands t.line (step.Throw a)) (d + 1) (t ∷ i) r
    -- §12.11
    switch : (a : Expr) (cs : List Case) (da dc : ℕ) (has_default : Bool) (t u : Symbol) (i j r : List Symbol) → t.lexeme ≡ Lexeme.reserved keyword.Switch → Grouped a da i (u ∷ j)
        → u.lexeme ≡ Lexeme.mark mark.LeftBrace → Cases cs dc has_default j r → Stands (stands t.line (step.Switch a cs)) (max da dc + 1) (t ∷ i) r
    -- §12.14: a `catch`, a `finally`, or both
    try_catch : (ss cs : List Stmt) (name : List ℕ) (ds dc : ℕ) (t : Symbol) (i j r : List Symbol) → t.lexeme ≡ Lexeme.reserved keyword.Try → Block ss ds i j → Catch name cs dc j r
        → is_finally (lexeme_of r) ≡ false → Stands (stands t.line (step.Try ss (Some (name, cs)) None)) (max ds dc + 1) (t ∷ i) r
    try_finally : (ss fs : List Stmt) (ds df : ℕ) (t u : Symbol) (i j r : List Symbol) → t.lexeme ≡ Lexeme.reserved keyword.Try → Block ss ds i (u ∷ j)
        → u.lexeme ≡ Lexeme.reserved keyword.Finally → Block fs df j r → Stands (stands t.line (step.Try ss None (Some fs))) (max ds df + 1) (t ∷ i) r
    try_both : (ss cs fs : List Stmt) (name : List ℕ) (ds dc df : ℕ) (t u : Symbol) (i j k r : List Symbol) → t.lexeme ≡ Lexeme.reserved keyword.Try → Block ss ds i j
        → Catch name cs dc j (u ∷ k) → u.lexeme ≡ Lexeme.reserved keyword.Finally → Block fs df k r
        → Stands (stands t.line (step.Try ss (Some (name, cs)) (Some fs))) (max ds (max dc df) + 1) (t ∷ i) r
    -- §12.12, before a loop or another label of a loop
    label : (name : List ℕ) (s : Stmt) (d : ℕ) (t u : Symbol) (j r : List Symbol) → t.lexeme ≡ Lexeme.name name → u.lexeme ≡ Lexeme.mark mark.Colon → Stands s d j r → is_loop s ≡ true
        → Stands (stands t.line (step.Label name s)) (d + 1) (t ∷ u ∷ j) r

-- The items of a script, up to its end (§14). The test says whether one is an `export default`: at most one is. An export is no node.
pub data Items : List Item → ℕ → Bool → List Symbol → Type 0 where
  over : (t : Symbol) → t.lexeme ≡ Lexeme.over → Items [] 0 false (t ∷ [])
  item : (s : Stmt) (xs : List Item) (d dx : ℕ) (exports : Bool) (i r : List Symbol) → IsItem s d i r → Items xs dx exports r → Items (items.Stmt s ∷ xs) (max d dx) exports i
  export : (a : Expr) (xs : List Item) (d dx : ℕ) (e : Bool) (t u : Symbol) (i k r : List Symbol) → t.lexeme ≡ Lexeme.reserved keyword.Export → u.lexeme ≡ Lexeme.reserved keyword.Default
      → Spells true 2 a d e i k → Ends (goes_on e k) k r → Items xs dx false r → Items (items.Export t.line a ∷ xs) (max d dx) true (t ∷ u ∷ i)

-- the greatest depth of a tree
abbrev pub max_depth : ℕ
max_depth = 1000

-- the level of a whole expression: with commas, or of level Assign
abbrev pub least_of : Bool → ℕ
least_of with_comma = if with_comma then 1 else 2

-- whether a `++` or `--` stands next on the same line
abbrev pub updates_here : Option UpdateOp → Bool → Bool
updates_here None broken = false
updates_here (Some op) broken = not broken

-- The symbols begin with an expression of an allowed depth, which the symbol after it doesn't carry on, nor a `++` or `--` on its line.
abbrev pub IsExpression : Bool → Bool → Expr → List Symbol → List Symbol → Type 0
IsExpression with_in with_comma tree i r =
    (depth : ℕ) × (ends : Bool) × Spells with_in (least_of with_comma) tree depth ends i r × (depth ≤ max_depth) × (strength with_in ends r < least_of with_comma)
    × (updates_here (update_of (lexeme_of r)) (breaks r) ≡ false)

-- The symbols begin with a statement or declaration of an allowed depth, which no `else` and no `finally` follows.
abbrev pub IsWholeItem : Stmt → List Symbol → List Symbol → Type 0
IsWholeItem s i r = (depth : ℕ) × IsItem s depth i r × (depth ≤ max_depth) × (is_else (lexeme_of r) ≡ false) × (is_finally (lexeme_of r) ≡ false)

-- the text spells the script, which has this depth
abbrev pub SpellsScript : Script → ℕ → List ℕ → Type 0
SpellsScript script depth text = (tokens : List Token) × (exports : Bool) × Tokens text tokens × Items script.items depth exports (symbols_of text tokens)

-- the text spells the script, and it isn't too deep
abbrev pub IsParsed : Script → List ℕ → Type 0
IsParsed script text = (depth : ℕ) × SpellsScript script depth text × (depth ≤ max_depth)

-- a text is spelled by one tree at most
abbrev pub OneTree : Type 0
OneTree = (text : List ℕ) (a b : Script) (da db : ℕ) → SpellsScript a da text → SpellsScript b db text → a ≡ b
