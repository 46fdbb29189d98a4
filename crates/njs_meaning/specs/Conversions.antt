-- Conversions of values (ECMA-262 5.1 §9), which may call functions of the script. `call` says what a call means.
use Rattle.std.specs.Prelude.{ℕ, ℤ, List, [], Bool, true, false, if◌then◌else◌, codes, slice_get}
use Rattle.std.specs.Option.{option_map_or}
use Rattle.njs_value.specs.declared.Cause.TheVariants.{NoPrimitive, NotNumber}
use Rattle.njs_meaning.specs.declared.level.Hint.{Hint}
use Rattle.njs_meaning.specs.declared.level.Hint.TheVariants as hint
use Rattle.njs_meaning.specs.Primitives.{Primitive, Undefined}
use Rattle.njs_meaning.specs.Numbers.{boolean_of, number_of, text_of, unsigned_32, signed_32}
use Rattle.njs_meaning.specs.Values.{PlainValue, Simple, ObjectAt}
use Rattle.njs_meaning.specs.PlainHeap.{PlainObject, PlainInner, Plain, Script, BuiltIn, Bound, ZoneNumber}
use Rattle.njs_meaning.specs.Chains.{get}
use Rattle.njs_meaning.specs.State.{State, Outcome, Gives, Call, and_then}
use Rattle.njs_meaning.specs.Errors.{throw}

-- ToBoolean (§9.2)
abbrev pub to_boolean : PlainValue → Bool
to_boolean (Simple p) = boolean_of p
to_boolean (ObjectAt o) = true

-- what can be called (§9.11)
abbrev pub is_function : PlainInner → Bool
is_function Plain = false
is_function (Script unit code scope) = true
is_function (BuiltIn row) = true
is_function (Bound target this args) = true
is_function (ZoneNumber zone) = false

abbrev pub is_callable : List PlainObject → PlainValue → Bool
is_callable objects (Simple p) = false
is_callable objects (ObjectAt o) = option_map_or (λ object. is_function object.inner) (slice_get objects o) false

-- the methods that are tried, the first and the second (§8.12.8)
abbrev pub first_method : Hint → List ℕ
first_method hint.Any = codes "valueOf"
first_method hint.Number = codes "valueOf"
first_method hint.Text = codes "toString"

abbrev pub second_method : Hint → List ℕ
second_method hint.Any = codes "toString"
second_method hint.Number = codes "toString"
second_method hint.Text = codes "valueOf"

-- a method of an object is called, if it can be; else the object itself is given
abbrev pub tried : Call → List ℕ → ℕ → State → Outcome PlainValue
tried call name object s =
    let method = get (Simple Undefined) name s.objects object in
    if is_callable s.objects method then call method (ObjectAt object) [] s else Gives (ObjectAt object) s

-- a value that is no object wins
abbrev pub primitive_or : (State → Outcome Primitive) → PlainValue → State → Outcome Primitive
primitive_or otherwise (Simple p) s = Gives p s
primitive_or otherwise (ObjectAt o) s = otherwise s

-- the second method is the last
abbrev pub by_second : Call → Hint → ℕ → State → Outcome Primitive
by_second call h o s = and_then (tried call (second_method h) o s) (primitive_or (throw NoPrimitive))

-- the methods of an object
abbrev pub by_methods : Call → Hint → ℕ → State → Outcome Primitive
by_methods call h o s = and_then (tried call (first_method h) o s) (primitive_or (by_second call h o))

-- ToPrimitive (§9.1, §8.12.8)
abbrev pub to_primitive : Call → Hint → PlainValue → State → Outcome Primitive
to_primitive call h (Simple p) s = Gives p s
to_primitive call h (ObjectAt o) s = by_methods call h o s

-- ToNumber (§9.3)
abbrev pub number_or_throw : Primitive → State → Outcome ℤ
number_or_throw p s = option_map_or (λ n. Gives n s) (number_of p) (throw NotNumber s)

abbrev pub to_number : Call → PlainValue → State → Outcome ℤ
to_number call v s = and_then (to_primitive call hint.Number v s) number_or_throw

-- ToString (§9.8)
abbrev pub to_text : Call → PlainValue → State → Outcome (List ℕ)
to_text call v s = and_then (to_primitive call hint.Text v s) (λ p s. Gives (text_of p) s)

-- ToInt32 and ToUint32 (§9.5, §9.6)
abbrev pub to_int32 : Call → PlainValue → State → Outcome ℤ
to_int32 call v s = and_then (to_number call v s) (λ n s. Gives (signed_32 n) s)

abbrev pub to_uint32 : Call → PlainValue → State → Outcome ℕ
to_uint32 call v s = and_then (to_number call v s) (λ n s. Gives (unsigned_32 n) s)
