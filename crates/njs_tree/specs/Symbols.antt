-- What the grammar asks of a symbol.
use Rattle.std.specs.Prelude.{ℕ, Bool, true, false, not, ◌&&◌, ◌||◌, ◌==◌, List, [], ◌∷◌, Option, Some, None, if◌then◌else◌}
use Rattle.njs_tree.specs.declared.token.Mark.TheVariants as mark
use Rattle.njs_tree.specs.declared.token.Keyword.TheVariants as keyword
use Rattle.njs_tree.specs.declared.token.Joint.{Joint}
use Rattle.njs_tree.specs.declared.token.Joint.TheVariants as joint
use Rattle.njs_tree.specs.declared.tree.BinaryOp.{BinaryOp}
use Rattle.njs_tree.specs.declared.tree.BinaryOp.TheVariants as binary
use Rattle.njs_tree.specs.declared.tree.LogicalOp.{LogicalOp}
use Rattle.njs_tree.specs.declared.tree.LogicalOp.TheVariants as logical
use Rattle.njs_tree.specs.declared.tree.UnaryOp.{UnaryOp}
use Rattle.njs_tree.specs.declared.tree.UnaryOp.TheVariants as unary
use Rattle.njs_tree.specs.declared.tree.UpdateOp.{UpdateOp}
use Rattle.njs_tree.specs.declared.tree.UpdateOp.TheVariants as update
use Rattle.njs_tree.specs.Lexemes.{Lexeme, Symbol}

-- the lexeme of the first symbol, or the end
abbrev pub lexeme_of : List Symbol → Lexeme
lexeme_of [] = Lexeme.over
lexeme_of (t ∷ ts) = t.lexeme

abbrev pub line_of : List Symbol → ℕ
line_of [] = 1
line_of (t ∷ ts) = t.line

-- whether a line end stands before the first symbol
abbrev pub breaks : List Symbol → Bool
breaks [] = false
breaks (t ∷ ts) = t.after_break

-- how a symbol carries an expression on, where `in` is an operator or not (ECMA-262 5.1 §11.5 to §11.14)
abbrev pub joint_of : Bool → Lexeme → Joint
joint_of with_in (Lexeme.mark mark.Comma) = joint.Comma
joint_of with_in (Lexeme.mark mark.Assign) = joint.Assign None
joint_of with_in (Lexeme.mark mark.AddAssign) = joint.Assign (Some binary.Add)
joint_of with_in (Lexeme.mark mark.SubAssign) = joint.Assign (Some binary.Sub)
joint_of with_in (Lexeme.mark mark.MulAssign) = joint.Assign (Some binary.Mul)
joint_of with_in (Lexeme.mark mark.DivAssign) = joint.Assign (Some binary.Div)
joint_of with_in (Lexeme.mark mark.RemAssign) = joint.Assign (Some binary.Rem)
joint_of with_in (Lexeme.mark mark.ShlAssign) = joint.Assign (Some binary.Shl)
joint_of with_in (Lexeme.mark mark.ShrAssign) = joint.Assign (Some binary.Shr)
joint_of with_in (Lexeme.mark mark.UShrAssign) = joint.Assign (Some binary.UShr)
joint_of with_in (Lexeme.mark mark.AndAssign) = joint.Assign (Some binary.BitAnd)
joint_of with_in (Lexeme.mark mark.OrAssign) = joint.Assign (Some binary.BitOr)
joint_of with_in (Lexeme.mark mark.XorAssign) = joint.Assign (Some binary.BitXor)
joint_of with_in (Lexeme.mark mark.Question) = joint.Question
joint_of with_in (Lexeme.mark mark.Or) = joint.Logical logical.Or
joint_of with_in (Lexeme.mark mark.And) = joint.Logical logical.And
joint_of with_in (Lexeme.mark mark.BitOr) = joint.Binary binary.BitOr
joint_of with_in (Lexeme.mark mark.BitXor) = joint.Binary binary.BitXor
joint_of with_in (Lexeme.mark mark.BitAnd) = joint.Binary binary.BitAnd
joint_of with_in (Lexeme.mark mark.Eq) = joint.Binary binary.Eq
joint_of with_in (Lexeme.mark mark.Ne) = joint.Binary binary.Ne
joint_of with_in (Lexeme.mark mark.StrictEq) = joint.Binary binary.StrictEq
joint_of with_in (Lexeme.mark mark.StrictNe) = joint.Binary binary.StrictNe
joint_of with_in (Lexeme.mark mark.Lt) = joint.Binary binary.Lt
joint_of with_in (Lexeme.mark mark.Gt) = joint.Binary binary.Gt
joint_of with_in (Lexeme.mark mark.Le) = joint.Binary binary.Le
joint_of with_in (Lexeme.mark mark.Ge) = joint.Binary binary.Ge
joint_of with_in (Lexeme.mark mark.Shl) = joint.Binary binary.Shl
joint_of with_in (Lexeme.mark mark.Shr) = joint.Binary binary.Shr
joint_of with_in (Lexeme.mark mark.UShr) = joint.Binary binary.UShr
joint_of with_in (Lexeme.mark mark.Plus) = joint.Binary binary.Add
joint_of with_in (Lexeme.mark mark.Minus) = joint.Binary binary.Sub
joint_of with_in (Lexeme.mark mark.Star) = joint.Binary binary.Mul
joint_of with_in (Lexeme.mark mark.Slash) = joint.Binary binary.Div
joint_of with_in (Lexeme.mark mark.Percent) = joint.Binary binary.Rem
joint_of with_in (Lexeme.reserved keyword.InstanceOf) = joint.Binary binary.InstanceOf
joint_of with_in (Lexeme.reserved keyword.In) = if with_in then joint.Binary binary.In else joint.None
joint_of with_in _ = joint.None

-- Levels, from the loosest to the tightest: 1 Comma, 2 Assign, 3 Cond, 4 and 5 `||` and `&&`, 6 to 13 the operators of two values,
-- 14 those before one value, 15 `++` and `--` after it, 16 what they and an assignment take (`new f` without arguments, too), 17 chains
-- of calls, members and indices, 18 chains without calls.
abbrev pub logical_level : LogicalOp → ℕ
logical_level logical.Or = 4
logical_level logical.And = 5

abbrev pub binary_level : BinaryOp → ℕ
binary_level binary.BitOr = 6
binary_level binary.BitXor = 7
binary_level binary.BitAnd = 8
binary_level binary.Eq = 9
binary_level binary.Ne = 9
binary_level binary.StrictEq = 9
binary_level binary.StrictNe = 9
binary_level binary.Lt = 10
binary_level binary.Gt = 10
binary_level binary.Le = 10
binary_level binary.Ge = 10
binary_level binary.InstanceOf = 10
binary_level binary.In = 10
binary_level binary.Shl = 11
binary_level binary.Shr = 11
binary_level binary.UShr = 11
binary_level binary.Add = 12
binary_level binary.Sub = 12
binary_level binary.Mul = 13
binary_level binary.Div = 13
binary_level binary.Rem = 13

-- how tightly it binds
abbrev pub binds : Joint → ℕ
binds joint.Comma = 1
binds (joint.Assign op) = 2
binds joint.Question = 3
binds (joint.Logical op) = logical_level op
binds (joint.Binary op) = binary_level op
binds joint.None = 0

-- the operators before one value (ECMA-262 5.1 §11.4)
abbrev pub prefix_of : Lexeme → Option UnaryOp
prefix_of (Lexeme.reserved keyword.Delete) = Some unary.Delete
prefix_of (Lexeme.reserved keyword.Void) = Some unary.Void
prefix_of (Lexeme.reserved keyword.TypeOf) = Some unary.TypeOf
prefix_of (Lexeme.mark mark.Plus) = Some unary.Plus
prefix_of (Lexeme.mark mark.Minus) = Some unary.Minus
prefix_of (Lexeme.mark mark.BitNot) = Some unary.BitNot
prefix_of (Lexeme.mark mark.Not) = Some unary.Not
prefix_of _ = None

-- `++` and `--` (ECMA-262 5.1 §11.3)
abbrev pub update_of : Lexeme → Option UpdateOp
update_of (Lexeme.mark mark.PlusPlus) = Some update.Add
update_of (Lexeme.mark mark.MinusMinus) = Some update.Sub
update_of _ = None

-- How tightly the symbol that follows an expression binds to it, 0 for one that doesn't carry it on. The first test says whether `in`
-- is an operator, and the second whether the expression ends with a postfix `++` or `--`.
abbrev pub strength_by : Bool → Bool → Lexeme → Bool → ℕ
strength_by with_in ends (Lexeme.mark mark.LeftParen) broken = if ends then 0 else 17
strength_by with_in ends (Lexeme.mark mark.LeftBracket) broken = if ends then 0 else 18
strength_by with_in ends (Lexeme.mark mark.Dot) broken = if ends then 0 else 18
strength_by with_in ends (Lexeme.mark mark.PlusPlus) broken = if ends || broken then 0 else 15
strength_by with_in ends (Lexeme.mark mark.MinusMinus) broken = if ends || broken then 0 else 15
strength_by with_in ends x broken = binds (joint_of with_in x)

abbrev pub strength : Bool → Bool → List Symbol → ℕ
strength with_in ends r = strength_by with_in ends (lexeme_of r) (breaks r)

-- whether the next symbol carries an expression on (ECMA-262 5.1 §7.9)
abbrev pub goes_on : Bool → List Symbol → Bool
goes_on ends r = not (strength true ends r == 0)

-- after a bare name in `var`, a value or another name
abbrev pub declares_on : Lexeme → Bool
declares_on (Lexeme.mark mark.Comma) = true
declares_on (Lexeme.mark mark.Assign) = true
declares_on _ = false

-- The end of a `var`: a bare name, or a value that may end with a postfix `++` or `--`.
abbrev pub var_goes_on : Option Bool → List Symbol → Bool
var_goes_on None r = declares_on (lexeme_of r)
var_goes_on (Some ends) r = goes_on ends r

-- where a semicolon may be missing: before `}`, at the end, and after a line end where nothing goes on (ECMA-262 5.1 §7.9.1)
abbrev pub may_miss : Lexeme → Bool → Bool → Bool
may_miss (Lexeme.mark mark.Semicolon) broken on = false
may_miss (Lexeme.mark mark.RightBrace) broken on = true
may_miss Lexeme.over broken on = true
may_miss _ broken on = broken && not on

-- what an expression statement doesn't begin with (ECMA-262 5.1 §12.4)
abbrev pub begins_other : Lexeme → Bool
begins_other (Lexeme.mark mark.LeftBrace) = true
begins_other (Lexeme.reserved keyword.Function) = true
begins_other _ = false

abbrev pub is_colon : Lexeme → Bool
is_colon (Lexeme.mark mark.Colon) = true
is_colon _ = false

-- a label (ECMA-262 5.1 §12.12): a name and a colon
abbrev pub label_by : Lexeme → List Symbol → Bool
label_by (Lexeme.name text) r = is_colon (lexeme_of r)
label_by _ r = false

abbrev pub begins_label : List Symbol → Bool
begins_label [] = false
begins_label (t ∷ r) = label_by t.lexeme r

abbrev pub is_else : Lexeme → Bool
is_else (Lexeme.reserved keyword.Else) = true
is_else _ = false

abbrev pub is_finally : Lexeme → Bool
is_finally (Lexeme.reserved keyword.Finally) = true
is_finally _ = false
