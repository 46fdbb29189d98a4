-- What operators tell that change the heap alone, and how an operator goes about its values.
use Rattle.std.specs.Prelude.{◌≡◌, ℕ, List, Bool, Option, Some, None, Result, Ok, Err}
use Rattle.njs_tree.specs.declared.tree.BinaryOp.{BinaryOp}
use Rattle.njs_tree.specs.declared.tree.BinaryOp.TheVariants as op
use Rattle.njs_value.specs.declared.ObjId.{ObjId}
use Rattle.njs_value.specs.declared.Value.{Value}
use Rattle.njs_value.specs.declared.Value.TheVariants as value
use Rattle.njs_shared.specs.Heap.{Heap}
use Rattle.njs_clone.specs.Content.{content}
use Rattle.njs_clone.specs.StandsFor.{plain_objects}
use Rattle.njs_meaning.specs.Primitives.{Primitive, IsSafeValue}
use Rattle.njs_meaning.specs.Values.{PlainValue, Simple}
use Rattle.njs_meaning.specs.Operators.{Answer}
use Rattle.njs_meaning.specs.Errors.{name_of}
use Rattle.njs_meaning.specs.State.{State, Outcome, Spent}
use Rattle.njs_meaning.specs.Operations.{answered, paid}
use Rattle.njs_ops.specs.declared.values.OpValue.{OpValue}
use Rattle.njs_ops.specs.declared.values.OpStop.{OpStop}
use Rattle.njs_ops.specs.declared.values.OpStop.TheVariants as stop
use Rattle.njs_convert.specs.declared.stop.Stop.{Stop}
use Rattle.njs_convert.specs.declared.stop.Stop.TheVariants.{Throw, Fuel, NoMemory}
use Rattle.njs_convert.specs.Tells.{Tells, ShowsValue}
use Rattle.njs_interp.specs.declared.operators.groups.Group.{Group}
use Rattle.njs_interp.specs.declared.operators.groups.Group.TheVariants as group
use Rattle.njs_interp.specs.Acts.{Unanswered}

-- the objects are those of a heap, and nothing else is other
abbrev pub WithObjects : Heap → State → State → Type 0
WithObjects h s t = t ≡ record s { objects = plain_objects h }

-- in each state whose objects the heap stood for, the answer tells what a definition gives, which changes the objects alone
pub record TellsAlone (old new : Heap) (r : Result Value Stop) (meaning : State → Outcome PlainValue) : Type 0 where
  pub by : (s : State) → s.objects ≡ plain_objects old → Tells (WithObjects new s) (Unanswered s) new.texts (ShowsValue new.texts) r (meaning s)

-- a value that is no object, by content; its number, if it is one, is safe
pub record IsOperand (texts : List (List ℕ)) (v : Value) (p : Primitive) : Type 0 where
  pub shows : content texts v ≡ Simple p
  pub safe : IsSafeValue p

-- no cause with a name
abbrev pub NamesNothing : Result OpValue OpStop → Type 0
NamesNothing (Ok v) = Unit {0}
NamesNothing (Err (stop.Throw cause)) = name_of cause ≡ None
NamesNothing (Err stop.NoMemory) = Unit {0}

-- what an answer costs was taken, so that ticks are left, or it wasn't
abbrev pub Pays : (State → Type 0) → ℕ → Result (Unit {0}) Stop → Answer → State → Type 0
Pays after left (Ok done) a s = (paid a s ≡ answered a (record s { ticks = left })) × after (record s { ticks = left })
Pays after left (Err (Throw v)) a s = ⊥
Pays after left (Err Fuel) a s = (paid a s ≡ Spent s) × after s
Pays after left (Err NoMemory) a s = after s

-- truth values are shown by themselves
abbrev pub ShowsTruth : Bool → Bool → Type 0
ShowsTruth b c = b ≡ c

-- the object, where a value is one
abbrev pub object_in : Value → Option ObjId
object_in value.Undefined = None
object_in value.Null = None
object_in (value.Bool b) = None
object_in (value.Num n) = None
object_in (value.Str t) = None
object_in (value.Obj o) = Some o

-- ---- the operators

abbrev pub group_of : BinaryOp → Group
group_of op.BitOr = group.Numbers
group_of op.BitXor = group.Numbers
group_of op.BitAnd = group.Numbers
group_of op.Eq = group.Equality
group_of op.Ne = group.Inequality
group_of op.StrictEq = group.Identity
group_of op.StrictNe = group.Difference
group_of op.Lt = group.Relation
group_of op.Gt = group.Relation
group_of op.Le = group.Relation
group_of op.Ge = group.Relation
group_of op.InstanceOf = group.Instance
group_of op.In = group.Member
group_of op.Shl = group.Numbers
group_of op.Shr = group.Numbers
group_of op.UShr = group.Numbers
group_of op.Add = group.Sum
group_of op.Sub = group.Numbers
group_of op.Mul = group.Numbers
group_of op.Div = group.Numbers
group_of op.Rem = group.Numbers

-- nothing is thrown
abbrev pub ThrowsNothing : {V : Type 0} → Result V Stop → Type 0
ThrowsNothing (Ok v) = Unit {0}
ThrowsNothing (Err (Throw v)) = ⊥
ThrowsNothing (Err Fuel) = Unit {0}
ThrowsNothing (Err NoMemory) = Unit {0}
