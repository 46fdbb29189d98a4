-- What the operators take and give, as values of the language.
use Rattle.std.specs.Prelude.{◌≡◌, ◌||◌, Bool, true, false, Result, Ok, Err}
use Rattle.njs_tree.specs.declared.tree.BinaryOp.{BinaryOp}
use Rattle.njs_tree.specs.declared.tree.BinaryOp.TheVariants as binary
use Rattle.njs_value.specs.declared.Cause.{Cause}
use Rattle.njs_meaning.specs.Primitives.{Primitive, IsSafeValue}
use Rattle.njs_meaning.specs.Primitives as value
use Rattle.njs_meaning.specs.Operators.{Answer, is_text}
use Rattle.njs_ops.specs.declared.values.Prim.{Prim}
use Rattle.njs_ops.specs.declared.values.Prim.TheVariants as prim
use Rattle.njs_ops.specs.declared.values.OpValue.{OpValue}
use Rattle.njs_ops.specs.declared.values.OpValue.TheVariants as op
use Rattle.njs_ops.specs.declared.values.OpStop.{OpStop}
use Rattle.njs_ops.specs.declared.values.OpStop.TheVariants as stop

-- the value of an operand
abbrev pub operand : Prim → Primitive
operand prim.Undefined = value.Undefined
operand prim.Null = value.Null
operand (prim.Bool b) = value.Truth b
operand (prim.Num n) = value.Number n
operand (prim.Str t) = value.Characters t.now

-- the value of a result
abbrev pub given : OpValue → Primitive
given op.Undefined = value.Undefined
given op.Null = value.Null
given (op.Bool b) = value.Truth b
given (op.Num n) = value.Number n
given (op.Str t) = value.Characters t

-- what is answered is the value or the cause of the definition
abbrev pub Answers : Answer → Result OpValue Cause → Type 0
Answers answer (Ok v) = answer ≡ Ok (given v)
Answers answer (Err cause) = answer ≡ Err cause

-- the same, or there was no memory
abbrev pub AnswersIfRoom : Answer → Result OpValue OpStop → Type 0
AnswersIfRoom answer (Ok v) = answer ≡ Ok (given v)
AnswersIfRoom answer (Err (stop.Throw cause)) = answer ≡ Err cause
AnswersIfRoom answer (Err stop.NoMemory) = Unit {0}

-- a value or a cause, and no want of memory
abbrev pub IsAnswered : Result OpValue OpStop → Type 0
IsAnswered (Ok v) = Unit {0}
IsAnswered (Err (stop.Throw cause)) = Unit {0}
IsAnswered (Err stop.NoMemory) = ⊥

-- the number, where one is given, is safe
abbrev pub IsSafeResult : {E : Type 0} → Result OpValue E → Type 0
IsSafeResult (Ok v) = IsSafeValue (given v)
IsSafeResult (Err e) = Unit {0}

-- the operator joins texts
abbrev pub joins : BinaryOp → Primitive → Primitive → Bool
joins binary.Add left right = is_text left || is_text right
joins _ left right = false
