-- Operators keep what holds of a state by its dictionaries and the calls on them that were answered, where calls of values do.
use Rattle.std.proofs.Common.{◌≡◌, ℕ, ◌-◌, List, length, Bool, true, false, cond, Ok, Err, refl}
use Rattle.std.specs.Prelude.{nat_lt}
use Rattle.njs_meaning.specs.declared.level.Hint.TheVariants as hint
use Rattle.njs_meaning.specs.Primitives.{Primitive, Undefined, Null, Truth, Number, Characters}
use Rattle.njs_meaning.specs.Values.{PlainValue, Simple, ObjectAt}
use Rattle.njs_meaning.specs.Operators.{Answer, is_nothing, is_equal}
use Rattle.njs_meaning.specs.State.{State, Gives, Spent, Call, and_then}
use Rattle.njs_meaning.specs.Replies.{state_of}
use Rattle.njs_meaning.specs.Running.{one_and}
use Rattle.njs_meaning.specs.Conversions.{to_primitive}
use Rattle.njs_meaning.specs.Operations.{answered, paid, equal_to_object, equals}
use Rattle.njs_convert.proofs.Stopped.{then_keeps, throw_keeps, to_primitive_keeps}

module _ (stopped : State → Type 0) (same : (s t : State) → t.zones ≡ s.zones → t.asked ≡ s.asked → stopped s → stopped t) where
  pub answered_keeps : (a : Answer) (s : State) → stopped s → stopped (state_of (answered a s))
  answered_keeps (Ok p) s before = before
  answered_keeps (Err cause) s before = throw_keeps stopped same PlainValue cause s before

  charged_keeps : (b : Bool) (p : PlainValue) (s : State) (left : ℕ) → stopped s → stopped (state_of (cond b (Spent s) (Gives p (record s { ticks = left }))))
  charged_keeps true p s left before = before
  charged_keeps false p s left before = same s (record s { ticks = left }) refl refl before

  pub paid_keeps : (a : Answer) (s : State) → stopped s → stopped (state_of (paid a s))
  paid_keeps (Ok Undefined) s before = before
  paid_keeps (Ok Null) s before = before
  paid_keeps (Ok (Truth b)) s before = before
  paid_keeps (Ok (Number n)) s before = before
  paid_keeps (Ok (Characters t)) s before =
      charged_keeps (nat_lt s.ticks (one_and (length t) 64)) (Simple (Characters t)) s (s.ticks - one_and (length t) 64) before
  paid_keeps (Err cause) s before = throw_keeps stopped same PlainValue cause s before

  module _ (call : Call) (calls : (f this : PlainValue) (args : List PlainValue) (s : State) → stopped s → stopped (state_of (call f this args s))) where
    equal_to_object_keeps : (object : PlainValue) (p : Primitive) (s : State) → stopped s → stopped (state_of (equal_to_object call object p s))
    equal_to_object_keeps object p s before =
        elim (is_nothing p) as (λ b. stopped (state_of (cond b (Gives false s) (and_then (to_primitive call hint.Any object s) (λ q t. Gives (is_equal q p) t))))) [
          | true ↦ before
          | false ↦ then_keeps stopped (to_primitive call hint.Any object s) (λ q t. Gives (is_equal q p) t) (to_primitive_keeps stopped same call calls hint.Any object s before) (λ q t kept. kept)
        ]

    pub equals_keeps : (a b : PlainValue) (s : State) → stopped s → stopped (state_of (equals call a b s))
    equals_keeps (Simple p) (Simple q) s before = before
    equals_keeps (ObjectAt x) (ObjectAt y) s before = before
    equals_keeps (ObjectAt x) (Simple q) s before = equal_to_object_keeps (ObjectAt x) q s before
    equals_keeps (Simple p) (ObjectAt y) s before = equal_to_object_keeps (ObjectAt y) p s before
