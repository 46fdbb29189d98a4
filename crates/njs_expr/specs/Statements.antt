-- Reading statements by descent (ECMA-262 5.1 §12 to §14).
use Rattle.std.specs.Prelude.{ℕ, zero, suc, ◌-◌, max, Bool, true, false, ◌&&◌, ◌||◌, is_none, if◌then◌else◌, List, [], ◌∷◌, ◌++◌, length, Option, Some, None}
use Rattle.njs_tree.specs.declared.token.Keyword.TheVariants as keyword
use Rattle.njs_tree.specs.declared.token.Mark.{Mark}
use Rattle.njs_tree.specs.declared.token.Mark.TheVariants as mark
use Rattle.njs_tree.specs.declared.tree.Expr.{Expr}
use Rattle.njs_tree.specs.declared.tree.Stmt.{Stmt}
use Rattle.njs_tree.specs.declared.tree.StmtNode.TheVariants as step
use Rattle.njs_tree.specs.declared.tree.ForFirst.{ForFirst}
use Rattle.njs_tree.specs.declared.tree.ForFirst.TheVariants as first
use Rattle.njs_tree.specs.declared.tree.ForInHead.{ForInHead}
use Rattle.njs_tree.specs.declared.tree.ForInHead.TheVariants as head
use Rattle.njs_tree.specs.declared.tree.Case.{Case, roll-Case}
use Rattle.njs_expr.specs.declared.terminal.Terminal.{Terminal}
use Rattle.njs_expr.specs.declared.terminal.Terminal.TheVariants as terminal
use Rattle.njs_tree.specs.Symbols.{line_of, breaks, may_miss}
use Rattle.njs_tree.specs.Grammar.{is_target, is_loop}
use Rattle.njs_expr.specs.Readers.{Symbols, Reader, ◌>>=◌, ◌>>◌, pure, refuse, peek, like, next_of, second_of, take_symbol, sees, sees_word, expect, expect_word, eat, eat_word, semicolon, take_name, Grown, Stood, stood}
use Rattle.njs_expr.specs.Expressions.{whole_statements, braced, function}

-- a name, and then a colon, or `in`
abbrev pub begins_labelled : Terminal → Terminal → Bool
begins_labelled terminal.Name second = sees mark.Colon second
begins_labelled _ second = false

abbrev pub begins_for_in : Terminal → Terminal → Bool
begins_for_in terminal.Name second = sees_word keyword.In second
begins_for_in _ second = false

-- ---- `continue` and `break` (§12.7, §12.8)

abbrev pub label_by : Terminal → Bool → Reader (Option (List ℕ))
label_by terminal.Name false = take_name >>= (λ name. pure (Some name))
label_by _ _ = pure None

-- the name that follows on the same line
unfoldable pub optional_label : Reader (Option (List ℕ))
optional_label = λ i. label_by (next_of i) (breaks i) i

unfoldable pub continue_by : ℕ → ℕ → Reader Stood
continue_by room line = do
  label ← optional_label
  semicolon
  stood room line (step.Continue label) 0

unfoldable pub break_by : ℕ → ℕ → Reader Stood
break_by room line = do
  label ← optional_label
  semicolon
  stood room line (step.Break label) 0

-- whether a statement ends here
unfoldable pub ends_here : Symbols → Bool
ends_here i = sees mark.Semicolon (next_of i) || may_miss (like (next_of i)) (breaks i) false

module _ (expr : Bool → ℕ → ℕ → Reader Grown) where
  -- an expression in parentheses
  unfoldable pub grouped : ℕ → Reader Grown
  grouped room = do
    expect mark.LeftParen
    a ← expr true 1 room
    expect mark.RightParen
    pure a

  -- an expression or none, and then the mark
  unfoldable pub given : ℕ → Mark → Reader (Option Expr × ℕ)
  given room m = do
    a ← expr true 1 room
    expect m
    pure (Some a.0, a.1)

  unfoldable pub optional : ℕ → Mark → Reader (Option Expr × ℕ)
  optional room m = do
    is_out ← eat m
    if is_out then pure (None, 0) else given room m

  -- ---- `var` (§12.2)

  unfoldable pub assigned_value : Bool → ℕ → Reader (Option Expr × ℕ)
  assigned_value with_in room = do
    a ← expr with_in 2 room
    pure (Some a.0, a.1)

  unfoldable pub initial_value : Bool → ℕ → Reader (Option Expr × ℕ)
  initial_value with_in room = do
    has_value ← eat mark.Assign
    if has_value then assigned_value with_in room else pure (None, 0)

  unfoldable pub declarator : Bool → ℕ → Reader ((List ℕ × Option Expr) × ℕ)
  declarator with_in room = do
    name ← take_name
    a ← initial_value with_in room
    pure ((name, a.0), a.1)

  unfoldable pub declarators : Bool → ℕ → ℕ → List (List ℕ × Option Expr) → ℕ → Reader (List (List ℕ × Option Expr) × ℕ)
  declarators with_in room zero found below = refuse
  declarators with_in room (suc n) found below = do
    v ← declarator with_in room
    is_more ← eat mark.Comma
    if is_more then declarators with_in room n (found ++ v.0 ∷ []) (max below v.1) else pure (found ++ v.0 ∷ [], max below v.1)

  unfoldable pub whole_declarators : Bool → ℕ → Reader (List (List ℕ × Option Expr) × ℕ)
  whole_declarators with_in room = λ i. declarators with_in room (length i) [] 0 i

  unfoldable pub var_by : ℕ → ℕ → Reader Stood
  var_by room line = do
    vs ← whole_declarators true (room - 1)
    semicolon
    stood room line (step.Var vs.0) vs.1

  -- ---- statements without statements in them

  unfoldable pub expr_by : ℕ → ℕ → Reader Stood
  expr_by room line = do
    a ← expr true 1 (room - 1)
    semicolon
    stood room line (step.Expr a.0) a.1

  unfoldable pub returned_value : ℕ → ℕ → Reader Stood
  returned_value room line = do
    a ← expr true 1 (room - 1)
    semicolon
    stood room line (step.Return (Some a.0)) a.1

  unfoldable pub returned : ℕ → ℕ → Reader Stood
  returned room line = do
    semicolon
    stood room line (step.Return None) 0

  unfoldable pub return_by : ℕ → ℕ → Reader Stood
  return_by room line = λ i. if ends_here i then returned room line i else returned_value room line i

  unfoldable pub thrown : ℕ → ℕ → Reader Stood
  thrown room line = do
    a ← expr true 1 (room - 1)
    semicolon
    stood room line (step.Throw a.0) a.1

  unfoldable pub throw_by : ℕ → ℕ → Reader Stood
  throw_by room line = λ i. if breaks i then None else thrown room line i

module _ (stmt : Bool → ℕ → Reader Stood) where
  unfoldable pub block_by : ℕ → ℕ → Reader Stood
  block_by room line = do
    ss ← braced stmt false room
    stood room line (step.Block ss.0) ss.1

  unfoldable pub label_statement : ℕ → ℕ → Reader Stood
  label_statement room line = do
    name ← take_name
    expect mark.Colon
    s ← stmt false (room - 1)
    if is_loop s.0 then stood room line (step.Label name s.0) s.1 else refuse

  unfoldable pub declaration_by : ℕ → ℕ → Reader Stood
  declaration_by room line = do
    name ← take_name
    f ← function stmt room (Some name)
    stood room line (step.FunctionDecl f.0) f.1

  -- ---- `try` (§12.14)

  unfoldable pub caught : ℕ → Reader (Option (List ℕ × List Stmt) × ℕ)
  caught room = do
    expect mark.LeftParen
    name ← take_name
    expect mark.RightParen
    ss ← braced stmt false room
    pure (Some (name, ss.0), ss.1)

  unfoldable pub optional_catch : ℕ → Reader (Option (List ℕ × List Stmt) × ℕ)
  optional_catch room = do
    is_catch ← eat_word keyword.Catch
    if is_catch then caught room else pure (None, 0)

  unfoldable pub final_block : ℕ → Reader (Option (List Stmt) × ℕ)
  final_block room = do
    ss ← braced stmt false room
    pure (Some ss.0, ss.1)

  unfoldable pub optional_finally : ℕ → Reader (Option (List Stmt) × ℕ)
  optional_finally room = do
    is_finally ← eat_word keyword.Finally
    if is_finally then final_block room else pure (None, 0)

  unfoldable pub try_by : ℕ → ℕ → Reader Stood
  try_by room line = do
    ss ← braced stmt false room
    c ← optional_catch room
    f ← optional_finally room
    if is_none c.0 && is_none f.0 then refuse else stood room line (step.Try ss.0 c.0 f.0) (max ss.1 (max c.1 f.1))

module _ (expr : Bool → ℕ → ℕ → Reader Grown) (stmt : Bool → ℕ → Reader Stood) where
  -- ---- `if` (§12.5)

  unfoldable pub else_by : ℕ → ℕ → Grown → Stood → Reader Stood
  else_by room line a s = do
    o ← stmt false (room - 1)
    stood room line (step.If a.0 s.0 (Some o.0)) (max a.1 (max s.1 o.1))

  unfoldable pub if_by : ℕ → ℕ → Reader Stood
  if_by room line = do
    a ← grouped expr (room - 1)
    s ← stmt false (room - 1)
    has_else ← eat_word keyword.Else
    if has_else then else_by room line a s else stood room line (step.If a.0 s.0 None) (max a.1 s.1)

  -- ---- loops (§12.6)

  unfoldable pub do_by : ℕ → ℕ → Reader Stood
  do_by room line = do
    s ← stmt false (room - 1)
    expect_word keyword.While
    a ← grouped expr (room - 1)
    semicolon
    stood room line (step.Do s.0 a.0) (max s.1 a.1)

  unfoldable pub while_by : ℕ → ℕ → Reader Stood
  while_by room line = do
    a ← grouped expr (room - 1)
    s ← stmt false (room - 1)
    stood room line (step.While a.0 s.0) (max a.1 s.1)

  -- from the first semicolon of the head on
  unfoldable pub for_rest : ℕ → ℕ → Option ForFirst → ℕ → Reader Stood
  for_rest room line f below = do
    expect mark.Semicolon
    a ← optional expr (room - 1) mark.Semicolon
    b ← optional expr (room - 1) mark.RightParen
    s ← stmt false (room - 1)
    stood room line (step.For f a.0 b.0 s.0) (max below (max a.1 (max b.1 s.1)))

  -- from the `in` of the head on
  unfoldable pub for_in_rest : ℕ → ℕ → ForInHead → ℕ → Reader Stood
  for_in_rest room line h below = do
    expect_word keyword.In
    a ← expr true 1 (room - 1)
    expect mark.RightParen
    s ← stmt false (room - 1)
    stood room line (step.ForIn h a.0 s.0) (max below (max a.1 s.1))

  unfoldable pub for_in_var : ℕ → ℕ → Reader Stood
  for_in_var room line = do
    name ← take_name
    for_in_rest room line (head.Var name) 0

  unfoldable pub for_plain_var : ℕ → ℕ → Reader Stood
  for_plain_var room line = do
    vs ← whole_declarators expr false (room - 1)
    for_rest room line (Some (first.Var vs.0)) vs.1

  -- after the `var` of the head
  unfoldable pub for_var : ℕ → ℕ → Reader Stood
  for_var room line = λ i. if begins_for_in (next_of i) (second_of i) then for_in_var room line i else for_plain_var room line i

  unfoldable pub for_in_target : ℕ → ℕ → Grown → Reader Stood
  for_in_target room line a = if is_target a.0 then for_in_rest room line (head.Target a.0) a.1 else refuse

  unfoldable pub for_expr : ℕ → ℕ → Reader Stood
  for_expr room line = do
    a ← expr false 1 (room - 1)
    k ← peek
    if sees_word keyword.In k then for_in_target room line a else for_rest room line (Some (first.Expr a.0)) a.1

  abbrev pub for_first : ℕ → ℕ → Terminal → Reader Stood
  for_first room line (terminal.Mark mark.Semicolon) = for_rest room line None 0
  for_first room line (terminal.Reserved keyword.Var) = take_symbol >> for_var room line
  for_first room line _ = for_expr room line

  unfoldable pub for_by : ℕ → ℕ → Reader Stood
  for_by room line = do
    expect mark.LeftParen
    k ← peek
    for_first room line k

  -- ---- `switch` (§12.11)

  unfoldable pub tested : ℕ → Reader (Option Expr × ℕ)
  tested room = do
    a ← expr true 1 (room - 1)
    pure (Some a.0, a.1)

  -- `case` and its test, or the one `default`
  abbrev pub test_by : ℕ → Bool → Terminal → Reader (Option Expr × ℕ)
  test_by room has_default (terminal.Reserved keyword.Case) = take_symbol >> tested room
  test_by room has_default (terminal.Reserved keyword.Default) = if has_default then refuse else take_symbol >> pure (None, 0)
  test_by room has_default _ = refuse

  unfoldable pub case_test : ℕ → Bool → Reader (Option Expr × ℕ)
  case_test room has_default = peek >>= test_by room has_default

  -- with its depth, and whether one of them is `default` up to here
  unfoldable pub one_case : ℕ → Bool → Reader (Case × ℕ × Bool)
  one_case room has_default = do
    test ← case_test room has_default
    expect mark.Colon
    ss ← whole_statements stmt false room
    pure (roll-Case (record { test = test.0; body = ss.0 }), max test.1 ss.1, has_default || is_none test.0)

  unfoldable pub cases : ℕ → ℕ → Bool → List Case → ℕ → Reader (List Case × ℕ)
  cases room zero has_default found below = refuse
  cases room (suc n) has_default found below = do
    is_end ← eat mark.RightBrace
    if is_end then pure (found, below) else (do c ← one_case room has_default; cases room n c.2 (found ++ c.0 ∷ []) (max below c.1))

  unfoldable pub whole_cases : ℕ → Reader (List Case × ℕ)
  whole_cases room = λ i. cases room (length i) false [] 0 i

  unfoldable pub switch_by : ℕ → ℕ → Reader Stood
  switch_by room line = do
    a ← grouped expr (room - 1)
    expect mark.LeftBrace
    cs ← whole_cases room
    stood room line (step.Switch a.0 cs.0) (max a.1 cs.1)

  -- ---- statements by their first symbols

  abbrev pub keyword_by : ℕ → ℕ → Terminal → Reader Stood
  keyword_by room line (terminal.Reserved keyword.Var) = take_symbol >> var_by expr room line
  keyword_by room line (terminal.Reserved keyword.If) = take_symbol >> if_by room line
  keyword_by room line (terminal.Reserved keyword.Do) = take_symbol >> do_by room line
  keyword_by room line (terminal.Reserved keyword.While) = take_symbol >> while_by room line
  keyword_by room line (terminal.Reserved keyword.For) = take_symbol >> for_by room line
  keyword_by room line (terminal.Reserved keyword.Continue) = take_symbol >> continue_by room line
  keyword_by room line (terminal.Reserved keyword.Break) = take_symbol >> break_by room line
  keyword_by room line (terminal.Reserved keyword.Return) = take_symbol >> return_by expr room line
  keyword_by room line (terminal.Reserved keyword.Throw) = take_symbol >> throw_by expr room line
  keyword_by room line (terminal.Reserved keyword.Switch) = take_symbol >> switch_by room line
  keyword_by room line (terminal.Reserved keyword.Try) = take_symbol >> try_by stmt room line
  keyword_by room line _ = expr_by expr room line

  unfoldable pub name_by : ℕ → ℕ → Terminal → Reader Stood
  name_by room line second = if sees mark.Colon second then label_statement stmt room line else expr_by expr room line

  unfoldable pub function_by : Bool → ℕ → ℕ → Reader Stood
  function_by declares room line = if declares then take_symbol >> declaration_by stmt room line else refuse

  abbrev pub statement_by : Bool → ℕ → ℕ → Terminal → Terminal → Reader Stood
  statement_by declares room line (terminal.Mark mark.Semicolon) second = take_symbol >> stood room line step.Empty 0
  statement_by declares room line (terminal.Mark mark.LeftBrace) second = block_by stmt room line
  statement_by declares room line (terminal.Reserved keyword.Function) second = function_by declares room line
  statement_by declares room line terminal.Name second = name_by room line second
  statement_by declares room line k second = keyword_by room line k

  unfoldable pub one_statement : Bool → ℕ → Reader Stood
  one_statement declares room = λ i. statement_by declares room (line_of i) (next_of i) (second_of i) i
