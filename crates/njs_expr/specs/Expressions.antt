-- Reading expressions by descent (ECMA-262 5.1 §11).
use Rattle.std.specs.Prelude.{ℕ, zero, suc, ◌+◌, ◌-◌, max, Bool, true, false, nat_lt, if◌then◌else◌, List, [], ◌∷◌, ◌++◌, length, Option, Some, None, pos}
use Rattle.njs_tree.specs.declared.token.Keyword.TheVariants as keyword
use Rattle.njs_tree.specs.declared.token.Mark.TheVariants as mark
use Rattle.njs_tree.specs.declared.token.Joint.{Joint}
use Rattle.njs_tree.specs.declared.token.Joint.TheVariants as joint
use Rattle.njs_tree.specs.declared.tree.BinaryOp.{BinaryOp}
use Rattle.njs_tree.specs.declared.tree.LogicalOp.{LogicalOp}
use Rattle.njs_tree.specs.declared.tree.UnaryOp.{UnaryOp}
use Rattle.njs_tree.specs.declared.tree.UpdateOp.{UpdateOp}
use Rattle.njs_tree.specs.declared.tree.Expr.{Expr}
use Rattle.njs_tree.specs.declared.tree.ExprNode.TheVariants as node
use Rattle.njs_tree.specs.declared.tree.Stmt.{Stmt}
use Rattle.njs_tree.specs.declared.tree.FunctionTree.{FunctionTree, roll-FunctionTree}
use Rattle.njs_expr.specs.declared.terminal.Terminal.{Terminal}
use Rattle.njs_expr.specs.declared.terminal.Terminal.TheVariants as terminal
use Rattle.njs_tree.specs.Symbols.{line_of, breaks, joint_of, binds, logical_level, binary_level, prefix_of, update_of}
use Rattle.njs_tree.specs.Grammar.{is_target}
use Rattle.njs_expr.specs.Readers.{Reader, and_then, ◌>>=◌, ◌>>◌, pure, refuse, peek, like, next_of, take_symbol, expect, eat, separate, take_name, take_number, take_string, take_word, take_key, Grown, Stood, grown}

-- what carries a chain on: a call where the chain may have calls, a member, or an index
abbrev pub links : Bool → Terminal → Bool
links with_calls (terminal.Mark mark.LeftParen) = with_calls
links with_calls (terminal.Mark mark.Dot) = true
links with_calls (terminal.Mark mark.LeftBracket) = true
links with_calls _ = false

unfoldable pub member : ℕ → ℕ → Grown → Reader Grown
member room line f = do
  name ← take_word
  grown room line (node.Member f.0 name) f.1

abbrev pub updated_by : ℕ → ℕ → Grown → Bool → Option UpdateOp → Reader Grown
updated_by room line f false (Some op) = if is_target f.0 then take_symbol >> grown room line (node.Update op false f.0) f.1 else refuse
updated_by room line f _ _ = pure f

-- the `++` or `--` that follows on the same line
unfoldable pub updated : ℕ → ℕ → Grown → Reader Grown
updated room line f = λ i. updated_by room line f (breaks i) (update_of (like (next_of i))) i

abbrev pub shorthand : ℕ → ℕ → List ℕ → Terminal → Reader Grown
shorthand room line key terminal.Name = grown room line (node.Name key) 0
shorthand room line key _ = refuse

module _ (expr : Bool → ℕ → ℕ → Reader Grown) where
  -- ---- arguments (§11.2.4)

  unfoldable pub listed : ℕ → ℕ → List Expr → ℕ → Reader (List Expr × ℕ)
  listed room zero found below = refuse
  listed room (suc n) found below = do
    x ← expr true 2 (room - 1)
    is_more ← eat mark.Comma
    if is_more then listed room n (found ++ x.0 ∷ []) (max below x.1)
        else (do expect mark.RightParen; pure (found ++ x.0 ∷ [], max below x.1))

  unfoldable pub some_listed : ℕ → Reader (List Expr × ℕ)
  some_listed room = λ i. listed room (length i) [] 0 i

  unfoldable pub arguments : ℕ → Reader (List Expr × ℕ)
  arguments room = do
    is_empty ← eat mark.RightParen
    if is_empty then pure ([], 0) else some_listed room

  -- those of a `new`, which may leave them out
  unfoldable pub new_arguments : ℕ → Reader (List Expr × ℕ)
  new_arguments room = do
    is_call ← eat mark.LeftParen
    if is_call then arguments room else pure ([], 0)

  -- ---- chains (§11.2)

  unfoldable pub call : ℕ → ℕ → Grown → Reader Grown
  call room line f = do
    xs ← arguments room
    grown room line (node.Call f.0 xs.0) (max f.1 xs.1)

  unfoldable pub index : ℕ → ℕ → Grown → Reader Grown
  index room line f = do
    x ← expr true 1 (room - 1)
    expect mark.RightBracket
    grown room line (node.Index f.0 x.0) (max f.1 x.1)

  -- a call, a member or an index, by its first symbol
  abbrev pub link_by : ℕ → ℕ → Grown → Terminal → Reader Grown
  link_by room line f (terminal.Mark mark.LeftParen) = take_symbol >> call room line f
  link_by room line f (terminal.Mark mark.Dot) = take_symbol >> member room line f
  link_by room line f (terminal.Mark mark.LeftBracket) = take_symbol >> index room line f
  link_by room line f _ = refuse

  unfoldable pub link : ℕ → ℕ → Grown → Reader Grown
  link room line f = peek >>= link_by room line f

  unfoldable pub chain : Bool → ℕ → ℕ → ℕ → Grown → Reader Grown
  chain with_calls room line zero f = pure f
  chain with_calls room line (suc n) f = do
    k ← peek
    if links with_calls k then (do g ← link room line f; chain with_calls room line n g) else pure f

  unfoldable pub whole_chain : Bool → ℕ → ℕ → Grown → Reader Grown
  whole_chain with_calls room line f = λ i. chain with_calls room line (length i) f i

  -- after `new` (§11.2.2): the callee is a chain without calls
  unfoldable pub newed : Bool → ℕ → ℕ → Reader Grown
  newed with_in room line = do
    f ← expr with_in 18 (room - 1)
    xs ← new_arguments room
    grown room line (node.New f.0 xs.0) (max f.1 xs.1)

  -- ---- primary expressions (§11.1)

  -- after `(`
  unfoldable pub parenthesized : ℕ → Reader Grown
  parenthesized room = do
    x ← expr true 1 room
    expect mark.RightParen
    pure x

  unfoldable pub valued_element : ℕ → Reader (Option Expr × ℕ)
  valued_element room = do
    x ← expr true 2 (room - 1)
    separate mark.RightBracket
    pure (Some x.0, x.1)

  -- a hole or a value, with the comma after it
  unfoldable pub element : ℕ → Reader (Option Expr × ℕ)
  element room = do
    is_hole ← eat mark.Comma
    if is_hole then pure (None, 0) else valued_element room

  unfoldable pub elements : ℕ → ℕ → List (Option Expr) → ℕ → Reader (List (Option Expr) × ℕ)
  elements room zero found below = refuse
  elements room (suc n) found below = do
    is_end ← eat mark.RightBracket
    if is_end then pure (found, below) else (do x ← element room; elements room n (found ++ x.0 ∷ []) (max below x.1))

  unfoldable pub whole_elements : ℕ → Reader (List (Option Expr) × ℕ)
  whole_elements room = λ i. elements room (length i) [] 0 i

  -- after `[`
  unfoldable pub array : ℕ → ℕ → Reader Grown
  array room line = do
    xs ← whole_elements room
    grown room line (node.Array xs.0) xs.1

  -- the value after the key and whether a colon stood there: without one it is the key itself, where it is a name
  unfoldable pub property_value : ℕ → ℕ → List ℕ → Terminal → Bool → Reader Grown
  property_value room line key k has_value = if has_value then expr true 2 (room - 1) else shorthand (room - 1) line key k

  -- with the comma after it
  unfoldable pub property : ℕ → Reader ((List ℕ × Expr) × ℕ)
  property room = λ i. and_then (take_key i) (λ key. do
    has_value ← eat mark.Colon
    a ← property_value room (line_of i) key (next_of i) has_value
    separate mark.RightBrace
    pure ((key, a.0), a.1))

  unfoldable pub properties : ℕ → ℕ → List (List ℕ × Expr) → ℕ → Reader (List (List ℕ × Expr) × ℕ)
  properties room zero found below = refuse
  properties room (suc n) found below = do
    is_end ← eat mark.RightBrace
    if is_end then pure (found, below) else (do p ← property room; properties room n (found ++ p.0 ∷ []) (max below p.1))

  unfoldable pub whole_properties : ℕ → Reader (List (List ℕ × Expr) × ℕ)
  whole_properties room = λ i. properties room (length i) [] 0 i

  -- after `{`
  unfoldable pub object : ℕ → ℕ → Reader Grown
  object room line = do
    ps ← whole_properties room
    grown room line (node.Object ps.0) ps.1

  -- ---- operators before one value (§11.4)

  unfoldable pub prefix_update : Bool → ℕ → ℕ → UpdateOp → Reader Grown
  prefix_update with_in room line op = do
    x ← expr with_in 14 (room - 1)
    if is_target x.0 then grown room line (node.Update op true x.0) x.1 else refuse

  unfoldable pub prefix_unary : Bool → ℕ → ℕ → UnaryOp → Reader Grown
  prefix_unary with_in room line op = do
    x ← expr with_in 14 (room - 1)
    grown room line (node.Unary op x.0) x.1

  -- ---- operators between values (§11.5 to §11.14)

  unfoldable pub conditional : Bool → ℕ → ℕ → Grown → Reader Grown
  conditional with_in room line a = do
    b ← expr true 2 (room - 1)
    expect mark.Colon
    c ← expr with_in 2 (room - 1)
    grown room line (node.Cond a.0 b.0 c.0) (max a.1 (max b.1 c.1))

  unfoldable pub comma : Bool → ℕ → ℕ → Grown → Reader Grown
  comma with_in room line a = do
    b ← expr with_in 2 (room - 1)
    grown room line (node.Comma a.0 b.0) (max a.1 b.1)

  unfoldable pub assigned : Bool → ℕ → ℕ → Option BinaryOp → Grown → Reader Grown
  assigned with_in room line op a = do
    b ← expr with_in 2 (room - 1)
    grown room line (node.Assign op a.0 b.0) (max a.1 b.1)

  unfoldable pub logical_joined : Bool → ℕ → ℕ → LogicalOp → Grown → Reader Grown
  logical_joined with_in room line op a = do
    b ← expr with_in (logical_level op + 1) (room - 1)
    grown room line (node.Logical op a.0 b.0) (max a.1 b.1)

  unfoldable pub binary_joined : Bool → ℕ → ℕ → BinaryOp → Grown → Reader Grown
  binary_joined with_in room line op a = do
    b ← expr with_in (binary_level op + 1) (room - 1)
    grown room line (node.Binary op a.0 b.0) (max a.1 b.1)

  -- an operator and what stands on its right
  abbrev pub joined_by : Bool → ℕ → ℕ → Grown → Joint → Reader Grown
  joined_by with_in room line a joint.Comma = take_symbol >> comma with_in room line a
  joined_by with_in room line a (joint.Assign op) = if is_target a.0 then take_symbol >> assigned with_in room line op a else refuse
  joined_by with_in room line a joint.Question = take_symbol >> conditional with_in room line a
  joined_by with_in room line a (joint.Logical op) = take_symbol >> logical_joined with_in room line op a
  joined_by with_in room line a (joint.Binary op) = take_symbol >> binary_joined with_in room line op a
  joined_by with_in room line a joint.None = refuse

  unfoldable pub joined : Bool → ℕ → ℕ → Grown → Reader Grown
  joined with_in room line a = λ i. joined_by with_in room line a (joint_of with_in (like (next_of i))) i

  unfoldable pub climb : Bool → ℕ → ℕ → ℕ → ℕ → Grown → Reader Grown
  climb with_in least room line zero a = pure a
  climb with_in least room line (suc n) a = do
    k ← peek
    if nat_lt (binds (joint_of with_in (like k))) least then pure a else (do longer ← joined with_in room line a; climb with_in least room line n longer)

  unfoldable pub whole_climb : Bool → ℕ → ℕ → ℕ → Grown → Reader Grown
  whole_climb with_in least room line a = λ i. climb with_in least room line (length i) a i

-- ---- functions (§13)

unfoldable pub names : ℕ → List (List ℕ) → Reader (List (List ℕ))
names zero found = refuse
names (suc n) found = do
  name ← take_name
  is_more ← eat mark.Comma
  if is_more then names n (found ++ name ∷ []) else (do expect mark.RightParen; pure (found ++ name ∷ []))

unfoldable pub some_names : Reader (List (List ℕ))
some_names = λ i. names (length i) [] i

unfoldable pub parameters : Reader (List (List ℕ))
parameters = do
  expect mark.LeftParen
  is_empty ← eat mark.RightParen
  if is_empty then pure [] else some_names

-- what ends a list of statements: `}`, and `case` and `default` of a `switch`
abbrev pub closes : Terminal → Bool
closes (terminal.Mark mark.RightBrace) = true
closes (terminal.Reserved keyword.Case) = true
closes (terminal.Reserved keyword.Default) = true
closes _ = false

abbrev pub some_name : Terminal → Reader (Option (List ℕ))
some_name terminal.Name = take_name >>= (λ name. pure (Some name))
some_name _ = pure None

unfoldable pub optional_name : Reader (Option (List ℕ))
optional_name = peek >>= some_name

-- the reader of statements, and where the test holds of declarations of functions, too
module _ (stmt : Bool → ℕ → Reader Stood) where
  unfoldable pub statements : Bool → ℕ → ℕ → List Stmt → ℕ → Reader (List Stmt × ℕ)
  statements declares room zero found below = pure (found, below)
  statements declares room (suc n) found below = do
    k ← peek
    if closes k then pure (found, below) else (do s ← stmt declares (room - 1); statements declares room n (found ++ s.0 ∷ []) (max below s.1))

  unfoldable pub whole_statements : Bool → ℕ → Reader (List Stmt × ℕ)
  whole_statements declares room = λ i. statements declares room (length i) [] 0 i

  unfoldable pub braced : Bool → ℕ → Reader (List Stmt × ℕ)
  braced declares room = do
    expect mark.LeftBrace
    ss ← whole_statements declares room
    expect mark.RightBrace
    pure ss

  -- from the parameters on
  unfoldable pub function : ℕ → Option (List ℕ) → Reader (FunctionTree × ℕ)
  function room name = do
    params ← parameters
    body ← braced true room
    pure (roll-FunctionTree (record { name = name; params = params; body = body.0 }), body.1)

  -- after `function`
  unfoldable pub function_value : ℕ → ℕ → Reader Grown
  function_value room line = do
    name ← optional_name
    f ← function room name
    grown room line (node.Function f.0) f.1

module _ (expr : Bool → ℕ → ℕ → Reader Grown) (stmt : Bool → ℕ → Reader Stood) where
  abbrev pub word_primary : Bool → ℕ → ℕ → Terminal → Reader Grown
  word_primary with_in room line (terminal.Reserved keyword.This) = take_symbol >> grown room line node.This 0
  word_primary with_in room line (terminal.Reserved keyword.Null) = take_symbol >> grown room line node.Null 0
  word_primary with_in room line (terminal.Reserved keyword.True) = take_symbol >> grown room line (node.Bool true) 0
  word_primary with_in room line (terminal.Reserved keyword.False) = take_symbol >> grown room line (node.Bool false) 0
  word_primary with_in room line (terminal.Reserved keyword.Function) = take_symbol >> function_value stmt room line
  word_primary with_in room line (terminal.Reserved keyword.New) = take_symbol >> newed expr with_in room line
  word_primary with_in room line _ = refuse

  abbrev pub primary_by : Bool → ℕ → ℕ → Terminal → Reader Grown
  primary_by with_in room line terminal.Number = take_number >>= (λ n. grown room line (node.Num (pos n)) 0)
  primary_by with_in room line terminal.Str = take_string >>= (λ text. grown room line (node.Str text) 0)
  primary_by with_in room line terminal.Name = take_name >>= (λ text. grown room line (node.Name text) 0)
  primary_by with_in room line (terminal.Mark mark.LeftParen) = take_symbol >> parenthesized expr room
  primary_by with_in room line (terminal.Mark mark.LeftBracket) = take_symbol >> array expr room line
  primary_by with_in room line (terminal.Mark mark.LeftBrace) = take_symbol >> object expr room line
  primary_by with_in room line k = word_primary with_in room line k

  unfoldable pub primary : Bool → ℕ → ℕ → Reader Grown
  primary with_in room line = peek >>= primary_by with_in room line

  unfoldable pub chained : Bool → Bool → ℕ → ℕ → Reader Grown
  chained with_in with_calls room line = do
    f ← primary with_in room line
    whole_chain expr with_calls room line f

  unfoldable pub postfix : Bool → ℕ → ℕ → Reader Grown
  postfix with_in room line = chained with_in true room line >>= updated room line

  abbrev pub operand_by : Bool → ℕ → ℕ → Option UnaryOp → Option UpdateOp → Reader Grown
  operand_by with_in room line (Some op) u = take_symbol >> prefix_unary expr with_in room line op
  operand_by with_in room line None (Some op) = take_symbol >> prefix_update expr with_in room line op
  operand_by with_in room line None None = postfix with_in room line

  unfoldable pub operand : Bool → ℕ → ℕ → Reader Grown
  operand with_in room line = λ i. operand_by with_in room line (prefix_of (like (next_of i))) (update_of (like (next_of i))) i

  unfoldable pub operators : Bool → ℕ → ℕ → ℕ → Reader Grown
  operators with_in least room line = operand with_in room line >>= whole_climb expr with_in least room line

  -- at a level above that of operators before one value, a chain without calls
  unfoldable pub level_of : Bool → ℕ → ℕ → Reader Grown
  level_of with_in least room = λ i. if nat_lt 14 least then chained with_in false room (line_of i) i else operators with_in least room (line_of i) i
