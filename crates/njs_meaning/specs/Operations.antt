-- The operators over any values (ECMA-262 5.1 §11.3 to §11.11): what is converted, in which order, and what is asked of objects.
use Rattle.std.specs.Prelude.{ℕ, zero, suc, ◌==◌, ℤ, pos, ◌+ℤ◌, ◌-ℤ◌, List, [], ◌∷◌, length, Bool, true, false, not, Ok, Err, if◌then◌else◌, slice_get, codes}
use Rattle.std.specs.List.{list_any}
use Rattle.std.specs.Option.{option_map_or, option_and_then}
use Rattle.njs_tree.specs.declared.tree.BinaryOp.{BinaryOp}
use Rattle.njs_tree.specs.declared.tree.BinaryOp.TheVariants as op
use Rattle.njs_tree.specs.declared.tree.LogicalOp.{LogicalOp}
use Rattle.njs_tree.specs.declared.tree.LogicalOp.TheVariants as logical
use Rattle.njs_tree.specs.declared.tree.UnaryOp.{UnaryOp}
use Rattle.njs_tree.specs.declared.tree.UnaryOp.TheVariants as sign
use Rattle.njs_tree.specs.declared.tree.UpdateOp.{UpdateOp}
use Rattle.njs_tree.specs.declared.tree.UpdateOp.TheVariants as step
use Rattle.njs_value.specs.declared.Cause.TheVariants.{NotFunction, NotObject}
use Rattle.njs_meaning.specs.declared.level.Hint.{Hint}
use Rattle.njs_meaning.specs.declared.level.Hint.TheVariants as hint
use Rattle.njs_meaning.specs.Primitives.{Primitive, Undefined, Truth, Number, Characters}
use Rattle.njs_meaning.specs.Values.{PlainValue, Simple, ObjectAt, is_same}
use Rattle.njs_meaning.specs.PlainHeap.{PlainObject, bound_target}
use Rattle.njs_meaning.specs.Operators.{Answer, binary_of, unary_of, safe, is_nothing, is_equal}
use Rattle.njs_meaning.specs.Chains.{get}
use Rattle.njs_meaning.specs.State.{State, Outcome, Gives, Call, and_then}
use Rattle.njs_meaning.specs.Errors.{throw}
use Rattle.njs_meaning.specs.Conversions.{to_boolean, to_primitive, to_number, to_text, is_callable}
use Rattle.njs_meaning.specs.Running.{charge, one_and}
use Rattle.njs_meaning.specs.Members.{has_member}

-- what an operator gives or throws
abbrev pub answered : Answer → State → Outcome PlainValue
answered (Ok p) s = Gives (Simple p) s
answered (Err cause) s = throw cause s

-- a text that an operator joined costs ticks by its length
abbrev pub paid : Answer → State → Outcome PlainValue
paid (Ok (Characters text)) s = charge (one_and (length text) 64) (Gives (Simple (Characters text))) s
paid a s = answered a s

-- both values by a hint, the left first, and then the operator (§11.8.5)
abbrev pub on_primitives : Call → Hint → (Primitive → Primitive → Answer) → PlainValue → PlainValue → State → Outcome PlainValue
on_primitives call h f a b s = and_then (to_primitive call h a s) (λ p s. and_then (to_primitive call h b s) (λ q s. answered (f p q) s))

-- `+` (§11.6.1)
abbrev pub added : Call → PlainValue → PlainValue → State → Outcome PlainValue
added call a b s =
    and_then (to_primitive call hint.Any a s) (λ p s. and_then (to_primitive call hint.Any b s) (λ q s. paid (binary_of op.Add p q) s))

-- the numbers of both, the left first, and then the operator (§11.5, §11.6.2, §11.7, §11.10)
abbrev pub on_numbers : Call → BinaryOp → PlainValue → PlainValue → State → Outcome PlainValue
on_numbers call f a b s =
    and_then (to_number call a s) (λ n s. and_then (to_number call b s) (λ m s. answered (binary_of f (Number n) (Number m)) s))

-- `==` (§11.9.3): an object equals itself, and what its value without a hint equals
abbrev pub equal_to_object : Call → PlainValue → Primitive → State → Outcome Bool
equal_to_object call object p s =
    if is_nothing p then Gives false s else and_then (to_primitive call hint.Any object s) (λ q s. Gives (is_equal q p) s)

abbrev pub equals : Call → PlainValue → PlainValue → State → Outcome Bool
equals call (Simple p) (Simple q) s = Gives (is_equal p q) s
equals call (ObjectAt a) (ObjectAt b) s = Gives (is_same (ObjectAt a) (ObjectAt b)) s
equals call (ObjectAt a) (Simple q) s = equal_to_object call (ObjectAt a) q s
equals call (Simple p) (ObjectAt b) s = equal_to_object call (ObjectAt b) p s

abbrev pub truth : Bool → State → Outcome PlainValue
truth b s = Gives (Simple (Truth b)) s

-- ---- `instanceof` (§11.8.6, §15.3.5.3, §15.3.4.5.3)

-- the object that a bound function leads to, through at most n of them: with as many steps as there are objects that is the
-- target, since the way ends
abbrev pub target_of : ℕ → List PlainObject → ℕ → ℕ
target_of zero objects at = at
target_of (suc n) objects at =
    option_map_or (target_of n objects) (option_and_then (λ o. bound_target o.inner) (slice_get objects at)) at

-- the numbers of the objects behind one on its chain of prototypes, at most n of them
abbrev pub behind : ℕ → List PlainObject → ℕ → List ℕ
behind zero objects at = []
behind (suc n) objects at =
    option_map_or (λ up. up.0 ∷ behind n objects up.0) (option_and_then (λ o. o.prototype) (slice_get objects at)) []

-- an object stands behind a value; behind a value that is no object there is none
abbrev pub is_behind : List PlainObject → ℕ → PlainValue → Bool
is_behind objects at (Simple p) = false
is_behind objects at (ObjectAt o) = list_any (λ up. up == at) (behind (length objects) objects o)

-- the object under `prototype` of a function
abbrev pub behind_prototype : PlainValue → PlainValue → State → Outcome PlainValue
behind_prototype a (Simple p) s = throw NotObject s
behind_prototype a (ObjectAt o) s = truth (is_behind s.objects o a) s

-- a value that is no object is no instance, whatever `prototype` is
abbrev pub is_instance : PlainValue → ℕ → State → Outcome PlainValue
is_instance (Simple p) f s = truth false s
is_instance a f s = behind_prototype a (get (Simple Undefined) (codes "prototype") s.objects (target_of (length s.objects) s.objects f)) s

abbrev pub instance_of : PlainValue → PlainValue → State → Outcome PlainValue
instance_of a (Simple q) s = throw NotFunction s
instance_of a (ObjectAt f) s = if is_callable s.objects (ObjectAt f) then is_instance a f s else throw NotFunction s

-- `in` (§11.8.7)
abbrev pub is_in : Call → PlainValue → PlainValue → State → Outcome PlainValue
is_in call a (Simple q) s = throw NotObject s
is_in call a (ObjectAt b) s = and_then (to_text call a s) (λ name s. truth (has_member name (ObjectAt b) s.objects) s)

-- ---- the tables

-- the operators of two values
abbrev pub binary : Call → BinaryOp → PlainValue → PlainValue → State → Outcome PlainValue
binary call op.Add a b s = added call a b s
binary call op.Eq a b s = and_then (equals call a b s) truth
binary call op.Ne a b s = and_then (equals call a b s) (λ e. truth (not e))
binary call op.StrictEq a b s = truth (is_same a b) s
binary call op.StrictNe a b s = truth (not (is_same a b)) s
binary call op.Lt a b s = on_primitives call hint.Number (binary_of op.Lt) a b s
binary call op.Gt a b s = on_primitives call hint.Number (binary_of op.Gt) a b s
binary call op.Le a b s = on_primitives call hint.Number (binary_of op.Le) a b s
binary call op.Ge a b s = on_primitives call hint.Number (binary_of op.Ge) a b s
binary call op.InstanceOf a b s = instance_of a b s
binary call op.In a b s = is_in call a b s
binary call op.BitOr a b s = on_numbers call op.BitOr a b s
binary call op.BitXor a b s = on_numbers call op.BitXor a b s
binary call op.BitAnd a b s = on_numbers call op.BitAnd a b s
binary call op.Shl a b s = on_numbers call op.Shl a b s
binary call op.Shr a b s = on_numbers call op.Shr a b s
binary call op.UShr a b s = on_numbers call op.UShr a b s
binary call op.Sub a b s = on_numbers call op.Sub a b s
binary call op.Mul a b s = on_numbers call op.Mul a b s
binary call op.Div a b s = on_numbers call op.Div a b s
binary call op.Rem a b s = on_numbers call op.Rem a b s

-- `typeof` (§11.4.3)
abbrev pub type_of : PlainValue → State → Outcome PlainValue
type_of (Simple p) s = answered (unary_of sign.TypeOf p) s
type_of (ObjectAt o) s = Gives (Simple (Characters (if is_callable s.objects (ObjectAt o) then codes "function" else codes "object"))) s

-- an operator on a number (§11.4.6 to §11.4.8)
abbrev pub on_number : Call → UnaryOp → PlainValue → State → Outcome PlainValue
on_number call f v s = and_then (to_number call v s) (λ n s. answered (unary_of f (Number n)) s)

-- the operators of one value; `delete` of a value that is no member gives true
abbrev pub unary : Call → UnaryOp → PlainValue → State → Outcome PlainValue
unary call sign.Delete v s = truth true s
unary call sign.Void v s = Gives (Simple Undefined) s
unary call sign.TypeOf v s = type_of v s
unary call sign.Plus v s = on_number call sign.Plus v s
unary call sign.Minus v s = on_number call sign.Minus v s
unary call sign.BitNot v s = on_number call sign.BitNot v s
unary call sign.Not v s = truth (not (to_boolean v)) s

-- the number after `++` or `--` (§11.3)
abbrev pub stepped : UpdateOp → ℤ → Answer
stepped step.Add n = safe (n +ℤ pos 1)
stepped step.Sub n = safe (n -ℤ pos 1)

-- whether `||` and `&&` leave out their second value (§11.11)
abbrev pub leaves_out : LogicalOp → PlainValue → Bool
leaves_out logical.Or v = to_boolean v
leaves_out logical.And v = not (to_boolean v)
