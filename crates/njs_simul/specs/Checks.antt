-- When the code of a part is valid in its function, by what stands behind it.
use Rattle.std.specs.Prelude.{◌≡◌, ℕ, ◌+◌, ◌≤◌, Bool, true, not, ◌&&◌, ◌||◌, ◌==◌, nat_eq, nat_le, List, [], ◌∷◌, length, Some, false, is_some}
use Rattle.njs_code.specs.declared.op.Address.{Address}
use Rattle.njs_code.specs.declared.op.Depth.{Depth}
use Rattle.njs_code.specs.declared.op.Kind.{Kind}
use Rattle.njs_code.specs.declared.op.Kind.TheVariants as kind
use Rattle.njs_code.specs.declared.op.Op.{Op}
use Rattle.njs_code.specs.declared.code.FunctionCode.{FunctionCode}
use Rattle.njs_code.specs.Effects.{operands_taken, operands_given, scopes_needed, scopes_taken, scopes_given, lists_needed, lists_taken, lists_given, endings_taken, endings_given, goes_on, jump_of, operands_at_jump, past_of, is_ending}
use Rattle.njs_code.specs.Valid.{op_at, slots_outwards, outermost, ops_valid}
use Rattle.njs_code.specs.Facts.{IsWithin}
use Rattle.njs_meaning.specs.Places.{Around}
use Rattle.njs_simul.specs.Emission.{Here, Emits, deeper, width, Coded}
use Rattle.njs_simul.specs.EmissionOfStatements.{CodedStatement, CodedPart, slots_of}
use Rattle.njs_simul.specs.Laws.{EndsWith, Writes}

-- the same depth
pub record Same (a b : Depth) : Type 0 where
  pub operands : a.operands ≡ b.operands
  pub scopes : a.scopes ≡ b.scopes
  pub lists : a.lists ≡ b.lists
  pub endings : a.endings ≡ b.endings

-- the first operation is there, and stands at a depth
abbrev pub Starts : List Op → Depth → Type 0
Starts [] depth = ⊥
Starts (o ∷ ops) depth = Same o.depth depth

-- at an address stands the end of a part, no deeper than this
pub record EndAt (ops : List Op) (to : ℕ) (depth : Depth) : Type 0 where
  pub end : Op
  pub found : op_at ops to ≡ Some end
  pub ending : is_ending end.kind ≡ true
  pub within : IsWithin end.depth depth

-- a place of a function: its scopes have the function's slots, and the end of the part around it is there
pub record Fits (f : FunctionCode) (here : Here) : Type 0 where
  pub scopes : 1 ≤ here.depth.scopes
  pub slots : slots_outwards f.slots here.depth.scopes ≡ slots_of here.names
  pub outer : outermost f.slots ≡ outermost (slots_of here.names)
  pub some : 1 ≤ length here.names
  pub around : (to : Address) → here.around ≡ Some to → EndAt f.ops to.0 here.depth

-- operations that begin at a place, and are valid
pub record Stands (functions : List FunctionCode) (f : FunctionCode) (here : Here) (rest : List Op) : Type 0 where
  pub starts : Starts rest here.depth
  pub further : (to : Address) → here.around ≡ Some to → to.0 ≤ length rest
  pub valid : ops_valid functions f rest ≡ true

-- so they are where they are the last ones of the function
abbrev pub Well : List FunctionCode → FunctionCode → Here → List Op → Type 0
Well functions f here rest = EndsWith f.ops rest → Stands functions f here rest

-- the code of a part is valid where what stands behind it is, with so many operands more
abbrev pub Checks : List FunctionCode → Around → Emits → ℕ → Type 0
Checks functions names emit gives =
    (f : FunctionCode) (here : Here) (rest : List Op) → here.names ≡ names → Fits f here → Well functions f (deeper gives here) rest → Well functions f here (emit here rest)

-- ---- kinds of operations

-- it names no slot, function or number
abbrev pub is_free : Kind → Bool
is_free (kind.Num number) = false
is_free (kind.Load up slot) = false
is_free (kind.Store up slot) = false
is_free (kind.LoadGlobal slot) = false
is_free (kind.StoreGlobal slot) = false
is_free (kind.Closure number params name) = false
is_free _ = true

-- it changes operands alone, and no `break` leads behind it
unfoldable pub is_flat : Kind → Bool
unfolding scopes_needed scopes_taken scopes_given lists_needed lists_taken lists_given endings_taken endings_given past_of
is_flat k =
    (scopes_needed k == 1) && (scopes_taken k == 0) && (scopes_given k == 0) && (lists_taken k == 0)
    && (lists_given k == 0) && (endings_taken k == 0) && (endings_given k == 0) && not (is_some (past_of k))

-- with so many operands it leaves so many
unfoldable pub leads : Kind → ℕ → ℕ → Bool
unfolding operands_taken operands_given goes_on
leads k n m = nat_le (operands_taken k) n && (not (goes_on k) || nat_eq (n + operands_given k) (m + operands_taken k))

-- an operation without names that goes on to the next alone
unfoldable pub is_simple : Kind → ℕ → ℕ → Bool
unfolding is_flat leads lists_needed jump_of
is_simple k n m = is_flat k && leads k n m && (lists_needed k == 0) && not (is_some (jump_of k)) && is_free k

-- where it jumps it leaves so many
unfoldable pub arrives : Kind → ℕ → ℕ → Bool
unfolding operands_taken operands_at_jump
arrives k n m = nat_eq (n + operands_at_jump k) (m + operands_taken k)

-- a jump: with so many operands it leaves so many behind it, and so many where it leads
unfoldable pub is_jump : Kind → ℕ → ℕ → ℕ → Bool
unfolding is_flat leads arrives
is_jump k n m j = is_flat k && leads k n m && arrives k n j && is_free k

-- ---- the parts of a tree

-- an expression and its code
pub record CodedChecked (functions : List FunctionCode) (names : Around) (c : Coded) : Type 0 where
  pub writes : Writes c.size c.target
  pub checks : Checks functions names c.target (width c.form)

pub record PartChecked (functions : List FunctionCode) (names : Around) (c : CodedPart) : Type 0 where
  pub writes : Writes c.size c.emit
  pub checks : Checks functions names c.emit 0

-- with whatever labels before it
pub record StatementChecked (functions : List FunctionCode) (names : Around) (c : CodedStatement) : Type 0 where
  pub with_labels : (labels : List (List ℕ)) → PartChecked functions names (record { size = c.size; emit = c.emit labels })
