-- The code of every sound script is valid: by induction on trees.
use Rattle.std.proofs.Common.{◌≡◌, ℕ, suc, ◌+◌, ◌≤◌, pos, List, [], ◌∷◌, length, map, Bool, true, false, not, ◌&&◌, nat_eq, Option, Some, None, refl, ap, sym, subst, ◌∙◌, slice_get, arith}
use Rattle.std.specs.List.{list_all}
use Rattle.std.proofs.lemmas.Bool.{true≢false, and_from, and_parts, le-leb}
use Rattle.njs_tree.specs.declared.tree.Script.{Script}
use Rattle.njs_tree.specs.declared.tree.Item.{Item}
use Rattle.njs_tree.specs.declared.tree.Item.TheVariants as items
use Rattle.njs_tree.specs.declared.tree.ExprNode.{ExprNode}
use Rattle.njs_tree.specs.declared.tree.ForFirst.{ForFirst}
use Rattle.njs_tree.specs.declared.tree.ForInHead.{ForInHead}
use Rattle.njs_tree.specs.declared.tree.StmtNode.{StmtNode}
use Rattle.njs_tree.specs.declared.tree.Case.{Case}
use Rattle.njs_tree.specs.declared.tree.Expr.{Expr}
use Rattle.njs_tree.specs.declared.tree.FunctionTree.{FunctionTree}
use Rattle.njs_tree.specs.declared.tree.Stmt.{Stmt}
use Rattle.njs_tree.specs.declared.tree.ExprNode.TheOpen.{ExprNode-F, ForFirst-F, ForInHead-F, StmtNode-F, Case-F, Expr-F, FunctionTree-F, Stmt-F}
use Rattle.njs_tree.specs.declared.tree.ExprNode.TheShapes.{former-ExprNode-Array-0, former-ExprNode-Object-0, former-ForFirst-Var-0, former-StmtNode-Block-0, former-StmtNode-If-2, former-StmtNode-For-0, former-StmtNode-For-1, former-StmtNode-Switch-1, former-StmtNode-Try-1, former-StmtNode-Try-2}
use Rattle.njs_tree.specs.declared.tree.ExprNode.TheViews.{roll-ExprNode, roll-ForFirst, roll-ForInHead, roll-StmtNode, roll-Case, roll-Expr, roll-FunctionTree, roll-Stmt}
use Rattle.njs_tree.specs.declared.tree.ExprNode.TheFolds.{map-ExprNode, map-ForFirst, map-ForInHead, map-StmtNode, map-Case, map-Expr, map-FunctionTree, map-Stmt, ind-Expr, ind-Stmt}
use Rattle.njs_tree.specs.Early.{repeats}
use Rattle.njs_code.specs.declared.op.Kind.TheVariants as kind
use Rattle.njs_code.specs.declared.code.FunctionCode.{FunctionCode}
use Rattle.njs_code.specs.Valid.{is_safe, stands_in, params_fit, part_valid, function_valid, body_valid, is_valid}
use Rattle.njs_meaning.specs.Places.{Bindings, Around}
use Rattle.njs_meaning.specs.Parts.{one, two, each, each_held}
use Rattle.njs_meaning.specs.Meaning.{Made}
use Rattle.njs_simul.specs.Emission as emit
use Rattle.njs_simul.specs.Emission.{op, deeper, Coded, value, value_size}
use Rattle.njs_simul.specs.EmissionOfStatements as write
use Rattle.njs_simul.specs.EmissionOfStatements.{CodedStatement, CodedPart, CodedBranch, slots_of}
use Rattle.njs_simul.specs.Compiled as code
use Rattle.njs_simul.specs.Compiled.{Placed, in_own_name, bare_name, module_around, code_of}
use Rattle.njs_simul.specs.Checks.{CodedChecked, PartChecked, StatementChecked}
use Rattle.njs_simul.specs.Sound.{all, if_any, all_held, all_named, all_named_held, caught_sound, last_sound, is_sound_expression, is_sound_statement, is_sound_item, are_sound, is_sound}
use Rattle.njs_simul.proofs.TiedParts.{mapped_at}
use Rattle.njs_simul.proofs.ValidExpressions as expr
use Rattle.njs_simul.proofs.ValidExpressions.{All, Perhaps, Called}
use Rattle.njs_simul.proofs.ValidStatements as stmt
use Rattle.njs_simul.proofs.ValidEndings as ends
use Rattle.njs_simul.proofs.ValidEndings.{BranchChecked, CaughtChecked}
use Rattle.njs_simul.proofs.ValidFunctions.{ItemChecked, statement_item_checked, export_item_checked, body_well, part_so}
use Rattle.njs_simul.proofs.ValidParts.{KnowsCode, EachValid, PartsChecked, MadeChecked, FunctionPartChecked, function_part_checked, checked_leaf, checked_one, checked_two, checked_three, checked_four, checked_each, checked_held, checked_each_named, checked_each_held, checked_each_named_held, checked_vars, checked_undeclared, checked_further, checked_declaration}
use Rattle.njs_simul.proofs.CodedTrees.{coded_all, coded_statements, coded_node, coded_node_of, coded_first, coded_first_of, coded_head, coded_head_of, coded_statement_node, coded_statement_node_of, coded_branch, coded_branch_of, coded_expression, coded_expression_of, coded_function, coded_function_of, coded_statement, coded_statement_of}
use Rattle.njs_simul.proofs.ValidTrees.{sound_all, sound_statements, sound_node, sound_node_of, node_from, sound_first, sound_first_of, first_from, sound_head, sound_head_of, head_from, sound_statement_node, sound_statement_node_of, statement_node_from, sound_branch, sound_branch_of, branch_from, sound_expression, sound_expression_of, expression_from, sound_function, sound_function_of, function_from, sound_statement, sound_statement_of, statement_from}

once_so : (b : Bool) → not b ≡ true → b ≡ false
once_so true h = absurd (true≢false (sym h))
once_so false h = refl

own_longer : (name : Option (List ℕ)) (names : Around) → 1 ≤ length names → 1 ≤ length (in_own_name name names)
own_longer None names some = some
own_longer (Some name) names some = omega arith

none_fit : (slots : List ℕ) → 1 ≤ length slots → params_fit 0 (slice_get slots 0) ≡ true
none_fit [] h = absurd (omega (arith, h))
none_fit (own ∷ slots) h = le-leb 0 own (omega arith)

held_lengths : (qs : List (Option code.Of_expression)) (first : ℕ) → length ((each_held qs).means first) ≡ length qs
held_lengths [] first = refl
held_lengths (None ∷ qs) first = ap suc (held_lengths qs (first + 0))
held_lengths (Some q ∷ qs) first = ap suc (held_lengths qs (first + q.size))

module _ (functions : List FunctionCode) where
  -- ---- what is so of the code

  abbrev Coded_so : Around → Coded → Type 0
  Coded_so names c = CodedChecked functions names c

  abbrev Parts_so : Around → CodedPart → Type 0
  Parts_so names c = PartChecked functions names c

  abbrev Statements_so : Around → CodedStatement → Type 0
  Statements_so names c = StatementChecked functions names c

  abbrev Branches_so : Around → CodedBranch → Type 0
  Branches_so names c = BranchChecked functions names c

  -- a function as an expression
  abbrev MadeInOwnName : Around → Made → Type 0
  MadeInOwnName names made = stands_in (slice_get functions made.number) (slots_of (in_own_name made.name names)) ≡ true

  -- ---- what is so of each tree

  abbrev SoExprNode : ExprNode → Type 0
  SoExprNode x = sound_node x ≡ true → PartsChecked functions Coded_so (coded_node x)

  abbrev SoForFirst : ForFirst → Type 0
  SoForFirst x = sound_first x ≡ true → PartsChecked functions Parts_so (coded_first x)

  abbrev SoForInHead : ForInHead → Type 0
  SoForInHead x = sound_head x ≡ true → PartsChecked functions Coded_so (coded_head x)

  abbrev SoStmtNode : StmtNode → Type 0
  SoStmtNode x = sound_statement_node x ≡ true → PartsChecked functions Statements_so (coded_statement_node x)

  abbrev SoCase : Case → Type 0
  SoCase x = sound_branch x ≡ true → PartsChecked functions Branches_so (coded_branch x)

  abbrev SoExpr : Expr → Type 0
  SoExpr x = sound_expression x ≡ true → PartsChecked functions Coded_so (coded_expression x)

  abbrev SoFunctionTree : FunctionTree → Type 0
  SoFunctionTree x = sound_function x ≡ true → FunctionPartChecked functions (coded_function x)

  abbrev SoStmt : Stmt → Type 0
  SoStmt x = sound_statement x ≡ true → PartsChecked functions Statements_so (coded_statement x)

  -- with what is so of it
  abbrev WithExprNode : Type 0
  WithExprNode = (x : ExprNode) × SoExprNode x

  abbrev WithForFirst : Type 0
  WithForFirst = (x : ForFirst) × SoForFirst x

  abbrev WithForInHead : Type 0
  WithForInHead = (x : ForInHead) × SoForInHead x

  abbrev WithStmtNode : Type 0
  WithStmtNode = (x : StmtNode) × SoStmtNode x

  abbrev WithCase : Type 0
  WithCase = (x : Case) × SoCase x

  abbrev WithExpr : Type 0
  WithExpr = (x : Expr) × SoExpr x

  abbrev WithFunctionTree : Type 0
  WithFunctionTree = (x : FunctionTree) × SoFunctionTree x

  abbrev WithStmt : Type 0
  WithStmt = (x : Stmt) × SoStmt x

  abbrev only_node : ExprNode-F WithExprNode WithForFirst WithForInHead WithStmtNode WithCase WithExpr WithFunctionTree WithStmt → ExprNode-F ExprNode ForFirst ForInHead StmtNode Case Expr FunctionTree Stmt
  only_node y = map-ExprNode WithExprNode WithForFirst WithForInHead WithStmtNode WithCase WithExpr WithFunctionTree WithStmt ExprNode ForFirst ForInHead StmtNode Case Expr FunctionTree Stmt (λ e. e.0) (λ e. e.0) (λ e. e.0) (λ e. e.0) (λ e. e.0) (λ e. e.0) (λ e. e.0) (λ e. e.0) y

  abbrev only_first : ForFirst-F WithExprNode WithForFirst WithForInHead WithStmtNode WithCase WithExpr WithFunctionTree WithStmt → ForFirst-F ExprNode ForFirst ForInHead StmtNode Case Expr FunctionTree Stmt
  only_first y = map-ForFirst WithExprNode WithForFirst WithForInHead WithStmtNode WithCase WithExpr WithFunctionTree WithStmt ExprNode ForFirst ForInHead StmtNode Case Expr FunctionTree Stmt (λ e. e.0) (λ e. e.0) (λ e. e.0) (λ e. e.0) (λ e. e.0) (λ e. e.0) (λ e. e.0) (λ e. e.0) y

  abbrev only_head : ForInHead-F WithExprNode WithForFirst WithForInHead WithStmtNode WithCase WithExpr WithFunctionTree WithStmt → ForInHead-F ExprNode ForFirst ForInHead StmtNode Case Expr FunctionTree Stmt
  only_head y = map-ForInHead WithExprNode WithForFirst WithForInHead WithStmtNode WithCase WithExpr WithFunctionTree WithStmt ExprNode ForFirst ForInHead StmtNode Case Expr FunctionTree Stmt (λ e. e.0) (λ e. e.0) (λ e. e.0) (λ e. e.0) (λ e. e.0) (λ e. e.0) (λ e. e.0) (λ e. e.0) y

  abbrev only_statement_node : StmtNode-F WithExprNode WithForFirst WithForInHead WithStmtNode WithCase WithExpr WithFunctionTree WithStmt → StmtNode-F ExprNode ForFirst ForInHead StmtNode Case Expr FunctionTree Stmt
  only_statement_node y = map-StmtNode WithExprNode WithForFirst WithForInHead WithStmtNode WithCase WithExpr WithFunctionTree WithStmt ExprNode ForFirst ForInHead StmtNode Case Expr FunctionTree Stmt (λ e. e.0) (λ e. e.0) (λ e. e.0) (λ e. e.0) (λ e. e.0) (λ e. e.0) (λ e. e.0) (λ e. e.0) y

  abbrev only_branch : Case-F WithExprNode WithForFirst WithForInHead WithStmtNode WithCase WithExpr WithFunctionTree WithStmt → Case-F ExprNode ForFirst ForInHead StmtNode Case Expr FunctionTree Stmt
  only_branch y = map-Case WithExprNode WithForFirst WithForInHead WithStmtNode WithCase WithExpr WithFunctionTree WithStmt ExprNode ForFirst ForInHead StmtNode Case Expr FunctionTree Stmt (λ e. e.0) (λ e. e.0) (λ e. e.0) (λ e. e.0) (λ e. e.0) (λ e. e.0) (λ e. e.0) (λ e. e.0) y

  abbrev only_expression : Expr-F WithExprNode WithForFirst WithForInHead WithStmtNode WithCase WithExpr WithFunctionTree WithStmt → Expr-F ExprNode ForFirst ForInHead StmtNode Case Expr FunctionTree Stmt
  only_expression y = map-Expr WithExprNode WithForFirst WithForInHead WithStmtNode WithCase WithExpr WithFunctionTree WithStmt ExprNode ForFirst ForInHead StmtNode Case Expr FunctionTree Stmt (λ e. e.0) (λ e. e.0) (λ e. e.0) (λ e. e.0) (λ e. e.0) (λ e. e.0) (λ e. e.0) (λ e. e.0) y

  abbrev only_function : FunctionTree-F WithExprNode WithForFirst WithForInHead WithStmtNode WithCase WithExpr WithFunctionTree WithStmt → FunctionTree-F ExprNode ForFirst ForInHead StmtNode Case Expr FunctionTree Stmt
  only_function y = map-FunctionTree WithExprNode WithForFirst WithForInHead WithStmtNode WithCase WithExpr WithFunctionTree WithStmt ExprNode ForFirst ForInHead StmtNode Case Expr FunctionTree Stmt (λ e. e.0) (λ e. e.0) (λ e. e.0) (λ e. e.0) (λ e. e.0) (λ e. e.0) (λ e. e.0) (λ e. e.0) y

  abbrev only_statement : Stmt-F WithExprNode WithForFirst WithForInHead WithStmtNode WithCase WithExpr WithFunctionTree WithStmt → Stmt-F ExprNode ForFirst ForInHead StmtNode Case Expr FunctionTree Stmt
  only_statement y = map-Stmt WithExprNode WithForFirst WithForInHead WithStmtNode WithCase WithExpr WithFunctionTree WithStmt ExprNode ForFirst ForInHead StmtNode Case Expr FunctionTree Stmt (λ e. e.0) (λ e. e.0) (λ e. e.0) (λ e. e.0) (λ e. e.0) (λ e. e.0) (λ e. e.0) (λ e. e.0) y

  -- ---- lists of trees, and trees that may be missing

  expressions_so : (ys : List WithExpr) → all (map sound_expression (map (λ e. e.0) ys)) ≡ true → All (PartsChecked functions Coded_so) (map coded_expression (map (λ e. e.0) ys))
  expressions_so [] h = tt
  expressions_so (y ∷ ys) h =
      let p = and_parts (sound_expression y.0) (all (map sound_expression (map (λ e. e.0) ys))) h in (y.1 p.0, expressions_so ys p.1)

  elements_so : (ys : List (Option WithExpr)) → all_held (former-ExprNode-Array-0.map Expr Bool sound_expression (former-ExprNode-Array-0.map WithExpr Expr (λ e. e.0) ys)) ≡ true → All (Perhaps (PartsChecked functions Coded_so)) (former-ExprNode-Array-0.map Expr code.Of_expression coded_expression (former-ExprNode-Array-0.map WithExpr Expr (λ e. e.0) ys))
  elements_so [] h = tt
  elements_so (None ∷ ys) h = (tt, elements_so ys h)
  elements_so (Some y ∷ ys) h =
      let p = and_parts (sound_expression y.0) (all_held (former-ExprNode-Array-0.map Expr Bool sound_expression (former-ExprNode-Array-0.map WithExpr Expr (λ e. e.0) ys))) h in (y.1 p.0, elements_so ys p.1)

  elements_count : (ys : List (Option WithExpr)) → length (former-ExprNode-Array-0.map Expr Bool sound_expression (former-ExprNode-Array-0.map WithExpr Expr (λ e. e.0) ys)) ≡ length (former-ExprNode-Array-0.map Expr code.Of_expression coded_expression (former-ExprNode-Array-0.map WithExpr Expr (λ e. e.0) ys))
  elements_count [] = refl
  elements_count (None ∷ ys) = ap suc (elements_count ys)
  elements_count (Some y ∷ ys) = ap suc (elements_count ys)

  fields_so : (ys : List (List ℕ × WithExpr)) → all_named (former-ExprNode-Object-0.map Expr Bool sound_expression (former-ExprNode-Object-0.map WithExpr Expr (λ e. e.0) ys)) ≡ true → All (Called (PartsChecked functions Coded_so)) (former-ExprNode-Object-0.map Expr code.Of_expression coded_expression (former-ExprNode-Object-0.map WithExpr Expr (λ e. e.0) ys))
  fields_so [] h = tt
  fields_so (y ∷ ys) h =
      let p = and_parts (sound_expression y.1.0) (all_named (former-ExprNode-Object-0.map Expr Bool sound_expression (former-ExprNode-Object-0.map WithExpr Expr (λ e. e.0) ys))) h in (y.1.1 p.0, fields_so ys p.1)

  statements_so : (ys : List WithStmt) → all (former-StmtNode-Block-0.map Stmt Bool sound_statement (former-StmtNode-Block-0.map WithStmt Stmt (λ e. e.0) ys)) ≡ true → All (PartsChecked functions Statements_so) (former-StmtNode-Block-0.map Stmt code.Of_statement coded_statement (former-StmtNode-Block-0.map WithStmt Stmt (λ e. e.0) ys))
  statements_so [] h = tt
  statements_so (y ∷ ys) h =
      let p = and_parts (sound_statement y.0) (all (former-StmtNode-Block-0.map Stmt Bool sound_statement (former-StmtNode-Block-0.map WithStmt Stmt (λ e. e.0) ys))) h in (y.1 p.0, statements_so ys p.1)

  cases_so : (ys : List WithCase) → all (former-StmtNode-Switch-1.map Case Bool sound_branch (former-StmtNode-Switch-1.map WithCase Case (λ e. e.0) ys)) ≡ true → All (PartsChecked functions Branches_so) (former-StmtNode-Switch-1.map Case code.Of_branch coded_branch (former-StmtNode-Switch-1.map WithCase Case (λ e. e.0) ys))
  cases_so [] h = tt
  cases_so (y ∷ ys) h =
      let p = and_parts (sound_branch y.0) (all (former-StmtNode-Switch-1.map Case Bool sound_branch (former-StmtNode-Switch-1.map WithCase Case (λ e. e.0) ys))) h in (y.1 p.0, cases_so ys p.1)

  held_so : (ys : Option WithExpr) → if_any (former-StmtNode-For-1.map Expr Bool sound_expression (former-StmtNode-For-1.map WithExpr Expr (λ e. e.0) ys)) ≡ true → Perhaps (PartsChecked functions Coded_so) (former-StmtNode-For-1.map Expr code.Of_expression coded_expression (former-StmtNode-For-1.map WithExpr Expr (λ e. e.0) ys))
  held_so None h = tt
  held_so (Some y) h = y.1 h

  held_first_so : (ys : Option WithForFirst) → if_any (former-StmtNode-For-0.map ForFirst Bool sound_first (former-StmtNode-For-0.map WithForFirst ForFirst (λ e. e.0) ys)) ≡ true → Perhaps (PartsChecked functions Parts_so) (former-StmtNode-For-0.map ForFirst code.Of_first coded_first (former-StmtNode-For-0.map WithForFirst ForFirst (λ e. e.0) ys))
  held_first_so None h = tt
  held_first_so (Some y) h = y.1 h

  held_statement_so : (ys : Option WithStmt) → if_any (former-StmtNode-If-2.map Stmt Bool sound_statement (former-StmtNode-If-2.map WithStmt Stmt (λ e. e.0) ys)) ≡ true → Perhaps (PartsChecked functions Statements_so) (former-StmtNode-If-2.map Stmt code.Of_statement coded_statement (former-StmtNode-If-2.map WithStmt Stmt (λ e. e.0) ys))
  held_statement_so None h = tt
  held_statement_so (Some y) h = y.1 h

  named_so : (ys : List (List ℕ × Option WithExpr)) → all_named_held (former-ForFirst-Var-0.map Expr Bool sound_expression (former-ForFirst-Var-0.map WithExpr Expr (λ e. e.0) ys)) ≡ true → All (Called (Perhaps (PartsChecked functions Coded_so))) (former-ForFirst-Var-0.map Expr code.Of_expression coded_expression (former-ForFirst-Var-0.map WithExpr Expr (λ e. e.0) ys))
  named_so [] h = tt
  named_so ((name, None) ∷ ys) h = (tt, named_so ys h)
  named_so ((name, Some y) ∷ ys) h =
      let p = and_parts (sound_expression y.0) (all_named_held (former-ForFirst-Var-0.map Expr Bool sound_expression (former-ForFirst-Var-0.map WithExpr Expr (λ e. e.0) ys))) h in (y.1 p.0, named_so ys p.1)

  -- ---- expressions

  of_one : (g : Coded → Coded) → ((names : Around) (c : Coded) → Coded_so names c → Coded_so names (g c)) → (a : WithExpr) → sound_expression a.0 ≡ true → PartsChecked functions Coded_so (one (coded_expression a.0) g)
  of_one g go a h = checked_one functions Coded_so Coded_so (coded_expression a.0) g go (a.1 h)

  of_two : (g : Coded → Coded → Coded) → ((names : Around) (c d : Coded) → Coded_so names c → Coded_so names d → Coded_so names (g c d)) → (a b : WithExpr) → (sound_expression a.0 && sound_expression b.0) ≡ true
      → PartsChecked functions Coded_so (two (coded_expression a.0) (coded_expression b.0) g)
  of_two g go a b h =
      let p = and_parts (sound_expression a.0) (sound_expression b.0) h in
      checked_two functions Coded_so Coded_so Coded_so (coded_expression a.0) (coded_expression b.0) g go (a.1 p.0) (b.1 p.1)

  -- an expression with a list of them
  of_list : (g : Coded → List Coded → Coded) → ((names : Around) (c : Coded) (cs : List Coded) → Coded_so names c → All (Coded_so names) cs → Coded_so names (g c cs)) → (a : WithExpr) (bs : List WithExpr)
      → (sound_expression a.0 && all (map sound_expression (map (λ e. e.0) bs))) ≡ true
      → PartsChecked functions Coded_so (two (coded_expression a.0) (each (map coded_expression (map (λ e. e.0) bs))) g)
  of_list g go a bs h =
      let p = and_parts (sound_expression a.0) (all (map sound_expression (map (λ e. e.0) bs))) h in
      checked_two functions Coded_so (λ names. All (Coded_so names)) Coded_so (coded_expression a.0) (each (map coded_expression (map (λ e. e.0) bs))) g go (a.1 p.0) (checked_each functions Coded_so _ (expressions_so bs p.1))

  name_so : (text : List ℕ) → PartsChecked functions Coded_so (code.name_part text)
  name_so text = record { count = λ first. refl; valid = λ first names some k. tt; declares = λ first names k. tt; means = λ first names k. expr.name_checked functions names text }

  -- the elements of an array, which are so many
  Counted : ℕ → Around → List (Option Coded) → Type 0
  Counted n names cs = (length cs ≡ n) × All (Perhaps (Coded_so names)) cs

  counted_so : (qs : List (Option code.Of_expression)) → PartsChecked functions (λ names. All (Perhaps (Coded_so names))) (each_held qs) → PartsChecked functions (Counted (length qs)) (each_held qs)
  unfolding Counted
  counted_so qs t = record { count = t.count; valid = t.valid; declares = t.declares; means = λ first names k. (held_lengths qs first, t.means first names k) }

  array_so : (ys : List (Option WithExpr)) → (is_safe (pos (length (former-ExprNode-Array-0.map Expr Bool sound_expression (former-ExprNode-Array-0.map WithExpr Expr (λ e. e.0) ys)))) && all_held (former-ExprNode-Array-0.map Expr Bool sound_expression (former-ExprNode-Array-0.map WithExpr Expr (λ e. e.0) ys))) ≡ true → PartsChecked functions Coded_so (one (each_held (former-ExprNode-Array-0.map Expr code.Of_expression coded_expression (former-ExprNode-Array-0.map WithExpr Expr (λ e. e.0) ys))) emit.array)
  unfolding Counted
  array_so ys h =
      let n = length (former-ExprNode-Array-0.map Expr Bool sound_expression (former-ExprNode-Array-0.map WithExpr Expr (λ e. e.0) ys)) in let qs = (former-ExprNode-Array-0.map Expr code.Of_expression coded_expression (former-ExprNode-Array-0.map WithExpr Expr (λ e. e.0) ys)) in
      let p = and_parts (is_safe (pos n)) (all_held (former-ExprNode-Array-0.map Expr Bool sound_expression (former-ExprNode-Array-0.map WithExpr Expr (λ e. e.0) ys))) h in
      checked_one functions (Counted (length qs)) Coded_so (each_held qs) emit.array
      (λ names cs r. expr.array_checked functions names cs (ap (λ n. is_safe (pos n)) (r.0 ∙ sym (elements_count ys)) ∙ p.0) r.1)
      (counted_so qs (checked_each_held functions Coded_so qs (elements_so ys p.1)))

  function_expression_so : (f : WithFunctionTree) → sound_function f.0 ≡ true → PartsChecked functions Coded_so (code.function_expression (coded_function f.0))
  function_expression_so f h =
      let q = coded_function f.0 in let t = f.1 h in
      checked_one functions MadeInOwnName Coded_so (code.further_in (λ first. in_own_name (q.means first).name) q) emit.function (λ names made r. expr.function_checked functions names made r)
      (checked_further functions (MadeChecked functions) MadeInOwnName (λ first. in_own_name (q.means first).name) q (λ first names r. r) t.none (λ first names some. own_longer (q.means first).name names some) t.checked)

  node_by : (y : ExprNode-F WithExprNode WithForFirst WithForInHead WithStmtNode WithCase WithExpr WithFunctionTree WithStmt) → sound_node_of (only_node y) ≡ true → PartsChecked functions Coded_so (coded_node_of (only_node y))
  node_by (ExprNode-F.Comma a b) h = of_two emit.comma (λ names. expr.comma_checked functions names) a b h
  node_by (ExprNode-F.Assign f a b) h = of_two (emit.assignment f) (λ names. expr.assignment_checked functions names f) a b h
  node_by (ExprNode-F.Cond a b d) h =
      let p = and_parts (sound_expression a.0 && sound_expression b.0) (sound_expression d.0) h in let q = and_parts (sound_expression a.0) (sound_expression b.0) p.0 in
      checked_three functions Coded_so Coded_so Coded_so Coded_so (coded_expression a.0) (coded_expression b.0) (coded_expression d.0) emit.conditional (λ names. expr.conditional_checked functions names) (a.1 q.0) (b.1 q.1) (d.1 p.1)
  node_by (ExprNode-F.Logical f a b) h = of_two (emit.either f) (λ names. expr.either_checked functions names f) a b h
  node_by (ExprNode-F.Binary f a b) h = of_two (emit.both f) (λ names. expr.both_checked functions names f) a b h
  node_by (ExprNode-F.Unary f a) h = of_one (emit.sole f) (λ names. expr.sole_checked functions names f) a h
  node_by (ExprNode-F.Update f prefix a) h = of_one (emit.stepping f prefix) (λ names. expr.stepping_checked functions names f prefix) a h
  node_by (ExprNode-F.Call a bs) h = of_list emit.calling (λ names. expr.calling_checked functions names) a bs h
  node_by (ExprNode-F.Member a name) h = of_one (λ c. emit.member c name) (λ names c r. expr.member_checked functions names c name r) a h
  node_by (ExprNode-F.Index a b) h = of_two emit.index (λ names. expr.index_checked functions names) a b h
  node_by (ExprNode-F.New a bs) h = of_list emit.making (λ names. expr.making_checked functions names) a bs h
  node_by (ExprNode-F.Num n) h = checked_leaf functions Coded_so _ (λ names. expr.number_checked functions names n h)
  node_by (ExprNode-F.Str text) h = checked_leaf functions Coded_so _ (λ names. expr.text_checked functions names text)
  node_by (ExprNode-F.Name text) h = name_so text
  node_by ExprNode-F.This h = checked_leaf functions Coded_so _ (λ names. expr.this_checked functions names)
  node_by ExprNode-F.Null h = checked_leaf functions Coded_so _ (λ names. expr.null_checked functions names)
  node_by (ExprNode-F.Bool b) h = checked_leaf functions Coded_so _ (λ names. expr.truth_checked functions names b)
  node_by (ExprNode-F.Array elements) h = array_so elements h
  node_by (ExprNode-F.Object fields) h =
      checked_one functions (λ names. All (Called (Coded_so names))) Coded_so _ emit.object (λ names. expr.object_checked functions names) (checked_each_named functions Coded_so _ (fields_so fields h))
  node_by (ExprNode-F.Function f) h = function_expression_so f h

  expression_by : (y : Expr-F WithExprNode WithForFirst WithForInHead WithStmtNode WithCase WithExpr WithFunctionTree WithStmt) → sound_expression_of (only_expression y) ≡ true → PartsChecked functions Coded_so (coded_expression_of (only_expression y))
  expression_by y h = y.node.1 h

  head_by : (y : ForInHead-F WithExprNode WithForFirst WithForInHead WithStmtNode WithCase WithExpr WithFunctionTree WithStmt) → sound_head_of (only_head y) ≡ true → PartsChecked functions Coded_so (coded_head_of (only_head y))
  head_by (ForInHead-F.ForInHead::Var text) h = checked_vars functions Coded_so (text ∷ []) _ (checked_leaf functions Coded_so (bare_name text) (λ names. stmt.bare_name_checked functions names text))
  head_by (ForInHead-F.Target a) h = a.1 h

  -- ---- what stands first in the head of a `for`, and cases of a `switch`

  declaring_so : (ys : List (List ℕ × Option WithExpr)) → all_named_held (former-ForFirst-Var-0.map Expr Bool sound_expression (former-ForFirst-Var-0.map WithExpr Expr (λ e. e.0) ys)) ≡ true → PartsChecked functions Parts_so (code.declaring (former-ForFirst-Var-0.map Expr code.Of_expression coded_expression (former-ForFirst-Var-0.map WithExpr Expr (λ e. e.0) ys)))
  declaring_so ys h =
      checked_vars functions Parts_so _ _ (checked_one functions (λ names. All (Called (Perhaps (Coded_so names)))) Parts_so _ write.declaring (λ names. stmt.declaring_part functions names) (checked_each_named_held functions Coded_so _ (named_so ys h)))

  first_by : (y : ForFirst-F WithExprNode WithForFirst WithForInHead WithStmtNode WithCase WithExpr WithFunctionTree WithStmt) → sound_first_of (only_first y) ≡ true → PartsChecked functions Parts_so (coded_first_of (only_first y))
  first_by (ForFirst-F.ForFirst::Var ys) h = declaring_so ys h
  first_by (ForFirst-F.ForFirst::Expr a) h = checked_one functions Coded_so Parts_so (coded_expression a.0) write.evaluate (λ names. stmt.evaluate_part functions names) (a.1 h)

  branch_by : (y : Case-F WithExprNode WithForFirst WithForInHead WithStmtNode WithCase WithExpr WithFunctionTree WithStmt) → sound_branch_of (only_branch y) ≡ true → PartsChecked functions Branches_so (coded_branch_of (only_branch y))
  branch_by y h =
      let p = and_parts (if_any (former-StmtNode-For-1.map Expr Bool sound_expression (former-StmtNode-For-1.map WithExpr Expr (λ e. e.0) y.test))) (all (former-StmtNode-Block-0.map Stmt Bool sound_statement (former-StmtNode-Block-0.map WithStmt Stmt (λ e. e.0) y.body))) h in
      checked_two functions (λ names. Perhaps (Coded_so names)) (λ names. All (Statements_so names)) Branches_so _ _ (λ test body. record { test = test; body = body }) (λ names c cs r s. record { test = r; body = s })
      (checked_held functions Coded_so _ (held_so y.test p.0)) (checked_each functions Statements_so _ (statements_so y.body p.1))

  -- ---- functions

  function_by : (y : FunctionTree-F WithExprNode WithForFirst WithForInHead WithStmtNode WithCase WithExpr WithFunctionTree WithStmt) → sound_function_of (only_function y) ≡ true → FunctionPartChecked functions (coded_function_of (only_function y))
  function_by y h =
      let p = and_parts (not (repeats y.params)) (all (former-StmtNode-Block-0.map Stmt Bool sound_statement (former-StmtNode-Block-0.map WithStmt Stmt (λ e. e.0) y.body))) h in
      function_part_checked functions y.name y.params (once_so (repeats y.params) p.0) _ (checked_each functions Statements_so _ (statements_so y.body p.1))

  -- ---- statements

  -- the block of a `catch`, in the scope with its name
  caught_so : (ys : Option (List ℕ × List WithStmt)) → caught_sound (former-StmtNode-Try-1.map Stmt Bool sound_statement (former-StmtNode-Try-1.map WithStmt Stmt (λ e. e.0) ys)) ≡ true → PartsChecked functions (λ names. Perhaps (CaughtChecked functions names)) (code.caught_part (former-StmtNode-Try-1.map Stmt code.Of_statement coded_statement (former-StmtNode-Try-1.map WithStmt Stmt (λ e. e.0) ys)))
  caught_so None h = checked_leaf functions (λ names. Perhaps (CaughtChecked functions names)) None (λ names. tt)
  caught_so (Some y) h =
      let InCatch : Around → List CodedStatement → Type 0 = λ names. All (Statements_so (((y.0, true) ∷ []) ∷ names)) in
      checked_one functions InCatch (λ names. Perhaps (CaughtChecked functions names)) _ (λ body. Some (y.0, body)) (λ names cs r. r)
      (checked_further functions (λ names. All (Statements_so names)) InCatch (λ first around. ((y.0, true) ∷ []) ∷ around) _ (λ first names r. r) (λ first. refl) (λ first names some. omega arith)
      (checked_undeclared functions (λ names. All (Statements_so names)) _ (checked_each functions Statements_so _ (statements_so y.1 h))))

  last_so : (ys : Option (List WithStmt)) → last_sound (former-StmtNode-Try-2.map Stmt Bool sound_statement (former-StmtNode-Try-2.map WithStmt Stmt (λ e. e.0) ys)) ≡ true → PartsChecked functions (λ names. Perhaps (All (Statements_so names))) (code.last_part (former-StmtNode-Try-2.map Stmt code.Of_statement coded_statement (former-StmtNode-Try-2.map WithStmt Stmt (λ e. e.0) ys)))
  last_so None h = checked_leaf functions (λ names. Perhaps (All (Statements_so names))) None (λ names. tt)
  last_so (Some ys) h = checked_one functions (λ names. All (Statements_so names)) (λ names. Perhaps (All (Statements_so names))) _ Some (λ names cs r. r) (checked_each functions Statements_so _ (statements_so ys h))

  statement_node_by : (y : StmtNode-F WithExprNode WithForFirst WithForInHead WithStmtNode WithCase WithExpr WithFunctionTree WithStmt) → sound_statement_node_of (only_statement_node y) ≡ true → PartsChecked functions Statements_so (coded_statement_node_of (only_statement_node y))
  statement_node_by (StmtNode-F.Block body) h =
      checked_one functions (λ names. All (Statements_so names)) Statements_so _ write.block (λ names. stmt.block_checked functions names) (checked_each functions Statements_so _ (statements_so body h))
  statement_node_by (StmtNode-F.StmtNode::Var ys) h = checked_one functions Parts_so Statements_so _ write.statement_of (λ names. stmt.plain_checked functions names) (declaring_so ys h)
  statement_node_by StmtNode-F.Empty h = checked_leaf functions Statements_so _ (λ names. stmt.empty_checked functions names)
  statement_node_by (StmtNode-F.StmtNode::Expr a) h =
      checked_one functions Coded_so Statements_so (coded_expression a.0) (λ a. write.statement_of (write.evaluate a)) (λ names c r. stmt.plain_checked functions names (write.evaluate c) (stmt.evaluate_part functions names c r)) (a.1 h)
  statement_node_by (StmtNode-F.If a body other) h =
      let p = and_parts (sound_expression a.0 && sound_statement body.0) (if_any (former-StmtNode-If-2.map Stmt Bool sound_statement (former-StmtNode-If-2.map WithStmt Stmt (λ e. e.0) other))) h in let q = and_parts (sound_expression a.0) (sound_statement body.0) p.0 in
      checked_three functions Coded_so Statements_so (λ names. Perhaps (Statements_so names)) Statements_so (coded_expression a.0) (coded_statement body.0) _ write.if_else (λ names. stmt.if_checked functions names)
      (a.1 q.0) (body.1 q.1) (checked_held functions Statements_so _ (held_statement_so other p.1))
  statement_node_by (StmtNode-F.Do body a) h =
      let p = and_parts (sound_statement body.0) (sound_expression a.0) h in
      checked_two functions Statements_so Coded_so Statements_so (coded_statement body.0) (coded_expression a.0) write.do_loop (λ names. stmt.do_checked functions names) (body.1 p.0) (a.1 p.1)
  statement_node_by (StmtNode-F.While a body) h =
      let p = and_parts (sound_expression a.0) (sound_statement body.0) h in
      checked_two functions Coded_so Statements_so Statements_so (coded_expression a.0) (coded_statement body.0) write.while_loop (λ names. stmt.while_checked functions names) (a.1 p.0) (body.1 p.1)
  statement_node_by (StmtNode-F.For first a update body) h =
      let s1 : Bool = if_any (former-StmtNode-For-0.map ForFirst Bool sound_first (former-StmtNode-For-0.map WithForFirst ForFirst (λ e. e.0) first)) in
      let s2 : Bool = if_any (former-StmtNode-For-1.map Expr Bool sound_expression (former-StmtNode-For-1.map WithExpr Expr (λ e. e.0) a)) in
      let s3 : Bool = if_any (former-StmtNode-For-1.map Expr Bool sound_expression (former-StmtNode-For-1.map WithExpr Expr (λ e. e.0) update)) in
      let p = and_parts (s1 && s2 && s3) (sound_statement body.0) h in let q = and_parts (s1 && s2) s3 p.0 in let r = and_parts s1 s2 q.0 in
      checked_four functions (λ names. Perhaps (Parts_so names)) (λ names. Perhaps (Coded_so names)) (λ names. Perhaps (Coded_so names)) Statements_so Statements_so _ _ _ (coded_statement body.0) write.for_loop
      (λ names. stmt.for_checked functions names) (checked_held functions Parts_so _ (held_first_so first r.0)) (checked_held functions Coded_so _ (held_so a r.1)) (checked_held functions Coded_so _ (held_so update q.1)) (body.1 p.1)
  statement_node_by (StmtNode-F.ForIn head a body) h =
      let p = and_parts (sound_head head.0 && sound_expression a.0) (sound_statement body.0) h in let q = and_parts (sound_head head.0) (sound_expression a.0) p.0 in
      checked_three functions Coded_so Coded_so Statements_so Statements_so (coded_head head.0) (coded_expression a.0) (coded_statement body.0) write.for_in (λ names. ends.for_in_checked functions names) (head.1 q.0) (a.1 q.1) (body.1 p.1)
  statement_node_by (StmtNode-F.Continue label) h = checked_leaf functions Statements_so _ (λ names. ends.continue_checked functions names label)
  statement_node_by (StmtNode-F.Break label) h = checked_leaf functions Statements_so _ (λ names. ends.break_checked functions names label)
  statement_node_by (StmtNode-F.Return a) h = checked_one functions (λ names. Perhaps (Coded_so names)) Statements_so _ write.return (λ names. ends.return_checked functions names) (checked_held functions Coded_so _ (held_so a h))
  statement_node_by (StmtNode-F.Throw a) h = checked_one functions Coded_so Statements_so (coded_expression a.0) write.throw_value (λ names. ends.throw_checked functions names) (a.1 h)
  statement_node_by (StmtNode-F.Switch a cases) h =
      let p = and_parts (sound_expression a.0) (all (former-StmtNode-Switch-1.map Case Bool sound_branch (former-StmtNode-Switch-1.map WithCase Case (λ e. e.0) cases))) h in
      checked_two functions Coded_so (λ names. All (Branches_so names)) Statements_so (coded_expression a.0) _ write.switch (λ names. ends.switch_checked functions names) (a.1 p.0) (checked_each functions Branches_so _ (cases_so cases p.1))
  statement_node_by (StmtNode-F.Try body caught last) h =
      let s1 : Bool = all (former-StmtNode-Block-0.map Stmt Bool sound_statement (former-StmtNode-Block-0.map WithStmt Stmt (λ e. e.0) body)) in
      let s2 : Bool = caught_sound (former-StmtNode-Try-1.map Stmt Bool sound_statement (former-StmtNode-Try-1.map WithStmt Stmt (λ e. e.0) caught)) in
      let s3 : Bool = last_sound (former-StmtNode-Try-2.map Stmt Bool sound_statement (former-StmtNode-Try-2.map WithStmt Stmt (λ e. e.0) last)) in
      let p = and_parts (s1 && s2) s3 h in let q = and_parts s1 s2 p.0 in
      checked_three functions (λ names. All (Statements_so names)) (λ names. Perhaps (CaughtChecked functions names)) (λ names. Perhaps (All (Statements_so names))) Statements_so _ _ _ write.try_catch (λ names. ends.try_checked functions names)
      (checked_each functions Statements_so _ (statements_so body q.0)) (caught_so caught q.1) (last_so last p.1)
  statement_node_by (StmtNode-F.Label label body) h = checked_one functions Statements_so Statements_so (coded_statement body.0) (write.labelled label) (λ names. ends.labelled_checked functions names label) (body.1 h)
  statement_node_by (StmtNode-F.FunctionDecl f) h = checked_declaration functions Statements_so (coded_function f.0) code.declaration (λ names. ends.declaration_checked functions names) (f.1 h)

  statement_by : (y : Stmt-F WithExprNode WithForFirst WithForInHead WithStmtNode WithCase WithExpr WithFunctionTree WithStmt) → sound_statement_of (only_statement y) ≡ true → PartsChecked functions Statements_so (coded_statement_of (only_statement y))
  statement_by y h = y.node.1 h

  -- ---- every tree

  node_step : (x : ExprNode-F ExprNode ForFirst ForInHead StmtNode Case Expr FunctionTree Stmt) (y : ExprNode-F WithExprNode WithForFirst WithForInHead WithStmtNode WithCase WithExpr WithFunctionTree WithStmt) → only_node y ≡ x → SoExprNode (roll-ExprNode x)
  node_step x y is = node_from (λ b q. b ≡ true → PartsChecked functions Coded_so q) x (subst (λ x. sound_node_of x ≡ true → PartsChecked functions Coded_so (coded_node_of x)) is (node_by y))

  first_step : (x : ForFirst-F ExprNode ForFirst ForInHead StmtNode Case Expr FunctionTree Stmt) (y : ForFirst-F WithExprNode WithForFirst WithForInHead WithStmtNode WithCase WithExpr WithFunctionTree WithStmt) → only_first y ≡ x → SoForFirst (roll-ForFirst x)
  first_step x y is = first_from (λ b q. b ≡ true → PartsChecked functions Parts_so q) x (subst (λ x. sound_first_of x ≡ true → PartsChecked functions Parts_so (coded_first_of x)) is (first_by y))

  head_step : (x : ForInHead-F ExprNode ForFirst ForInHead StmtNode Case Expr FunctionTree Stmt) (y : ForInHead-F WithExprNode WithForFirst WithForInHead WithStmtNode WithCase WithExpr WithFunctionTree WithStmt) → only_head y ≡ x → SoForInHead (roll-ForInHead x)
  head_step x y is = head_from (λ b q. b ≡ true → PartsChecked functions Coded_so q) x (subst (λ x. sound_head_of x ≡ true → PartsChecked functions Coded_so (coded_head_of x)) is (head_by y))

  statement_node_step : (x : StmtNode-F ExprNode ForFirst ForInHead StmtNode Case Expr FunctionTree Stmt) (y : StmtNode-F WithExprNode WithForFirst WithForInHead WithStmtNode WithCase WithExpr WithFunctionTree WithStmt) → only_statement_node y ≡ x → SoStmtNode (roll-StmtNode x)
  statement_node_step x y is = statement_node_from (λ b q. b ≡ true → PartsChecked functions Statements_so q) x (subst (λ x. sound_statement_node_of x ≡ true → PartsChecked functions Statements_so (coded_statement_node_of x)) is (statement_node_by y))

  branch_step : (x : Case-F ExprNode ForFirst ForInHead StmtNode Case Expr FunctionTree Stmt) (y : Case-F WithExprNode WithForFirst WithForInHead WithStmtNode WithCase WithExpr WithFunctionTree WithStmt) → only_branch y ≡ x → SoCase (roll-Case x)
  branch_step x y is = branch_from (λ b q. b ≡ true → PartsChecked functions Branches_so q) x (subst (λ x. sound_branch_of x ≡ true → PartsChecked functions Branches_so (coded_branch_of x)) is (branch_by y))

  expression_step : (x : Expr-F ExprNode ForFirst ForInHead StmtNode Case Expr FunctionTree Stmt) (y : Expr-F WithExprNode WithForFirst WithForInHead WithStmtNode WithCase WithExpr WithFunctionTree WithStmt) → only_expression y ≡ x → SoExpr (roll-Expr x)
  expression_step x y is = expression_from (λ b q. b ≡ true → PartsChecked functions Coded_so q) x (subst (λ x. sound_expression_of x ≡ true → PartsChecked functions Coded_so (coded_expression_of x)) is (expression_by y))

  function_step : (x : FunctionTree-F ExprNode ForFirst ForInHead StmtNode Case Expr FunctionTree Stmt) (y : FunctionTree-F WithExprNode WithForFirst WithForInHead WithStmtNode WithCase WithExpr WithFunctionTree WithStmt) → only_function y ≡ x → SoFunctionTree (roll-FunctionTree x)
  function_step x y is = function_from (λ b q. b ≡ true → FunctionPartChecked functions q) x (subst (λ x. sound_function_of x ≡ true → FunctionPartChecked functions (coded_function_of x)) is (function_by y))

  statement_step : (x : Stmt-F ExprNode ForFirst ForInHead StmtNode Case Expr FunctionTree Stmt) (y : Stmt-F WithExprNode WithForFirst WithForInHead WithStmtNode WithCase WithExpr WithFunctionTree WithStmt) → only_statement y ≡ x → SoStmt (roll-Stmt x)
  statement_step x y is = statement_from (λ b q. b ≡ true → PartsChecked functions Statements_so q) x (subst (λ x. sound_statement_of x ≡ true → PartsChecked functions Statements_so (coded_statement_of x)) is (statement_by y))

  every_expression : (e : Expr) → SoExpr e
  every_expression = ind-Expr SoExprNode SoForFirst SoForInHead SoStmtNode SoCase SoExpr SoFunctionTree SoStmt node_step first_step head_step statement_node_step branch_step expression_step function_step statement_step

  every_statement : (s : Stmt) → SoStmt s
  every_statement = ind-Stmt SoExprNode SoForFirst SoForInHead SoStmtNode SoCase SoExpr SoFunctionTree SoStmt node_step first_step head_step statement_node_step branch_step expression_step function_step statement_step

  expression_so : (e : Expr) → is_sound_expression e ≡ true → PartsChecked functions Coded_so (code.expression e)
  expression_so e h = subst (λ q. PartsChecked functions Coded_so (q e)) (sym coded_all) (every_expression e (ap (λ p. p e) (sym sound_all) ∙ h))

  statement_so : (s : Stmt) → is_sound_statement s ≡ true → PartsChecked functions Statements_so (code.statement s)
  statement_so s h = subst (λ q. PartsChecked functions Statements_so (q s)) (sym coded_statements) (every_statement s (ap (λ p. p s) (sym sound_statements) ∙ h))

  -- ---- whole scripts

  item_so : (i : Item) → is_sound_item i ≡ true → PartsChecked functions (ItemChecked functions) (code.item_part i)
  item_so (items.Stmt s) h = checked_one functions Statements_so (ItemChecked functions) (code.statement s) (λ a. record { size = a.size; emit = a.emit [] }) (λ names c r. statement_item_checked functions names c r) (statement_so s h)
  item_so (items.Export line a) h =
      checked_one functions Coded_so (ItemChecked functions) (code.expression a) (λ a. record { size = value_size a + 1; emit = λ here rest. value a here (op kind.Nip (deeper 1 here) rest) })
      (λ names c r. export_item_checked functions names c (value_size c + 1) r) (expression_so a h)

  items_so : (is : List Item) → are_sound is ≡ true → PartsChecked functions (λ names. All (ItemChecked functions names)) (code.items_part is)
  items_so [] h = checked_leaf functions (λ names. All (ItemChecked functions names)) [] (λ names. tt)
  items_so (i ∷ is) h =
      let p = and_parts (is_sound_item i) (are_sound is) h in
      checked_two functions (ItemChecked functions) (λ names. All (ItemChecked functions names)) (λ names. All (ItemChecked functions names)) (code.item_part i) (code.items_part is) (λ a rest. a ∷ rest) (λ names b bs r rs. (r, rs))
      (item_so i p.0) (items_so is p.1)

  every_valid : (around : Around) (fs : List Placed) → EachValid functions around fs → list_all (function_valid functions) (map (λ f. (f around).code) fs) ≡ true
  every_valid around [] t = refl
  every_valid around (f ∷ fs) t = and_from (function_valid functions (f around).code) (list_all (function_valid functions) (map (λ f. (f around).code) fs)) t.0 (every_valid around fs t.1)

-- the code of a sound script is valid
pub code_valid : (script : Script) (outermost : Bindings) → is_sound script ≡ true → is_valid (code_of script outermost) ≡ true
unfolding is_valid
code_valid script outermost h =
    let part = code.items_part script.items in
    let around = module_around part outermost in
    let made = code_of script outermost in
    let t = items_so made.functions script.items h in
    let knows : KnowsCode made.functions (part.functions 0) 0 around = λ at g is.
    let e : at ≡ 0 + at = omega arith in
    subst (λ number. slice_get made.functions number ≡ Some (g around).code) e (mapped_at (λ (f : Placed). (f around).code) (part.functions 0) at g is) in
    and_from (body_valid made.functions made.body) (list_all (function_valid made.functions) made.functions)
    (and_from (nat_eq (length made.body.slots) 2) (part_valid made.functions made.body) refl
    (part_so made.functions around made.body (none_fit made.body.slots (omega arith))
    (body_well made.functions around made.body (part.declared 0) (part.means 0) refl (omega arith) (t.declares 0 around knows) (t.means 0 around knows))))
    (every_valid made.functions around (part.functions 0) (t.valid 0 around (omega arith) knows))
