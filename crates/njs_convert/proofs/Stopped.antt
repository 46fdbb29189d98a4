-- Conversions keep what holds of a state by its dictionaries and the calls on them that were answered, where calls of values do.
use Rattle.std.proofs.Common.{◌≡◌, ℕ, ℤ, List, [], Option, Some, None, Bool, true, false, cond, refl}
use Rattle.std.specs.Option.{option_map_or}
use Rattle.njs_value.specs.declared.Cause.{Cause}
use Rattle.njs_value.specs.declared.Cause.TheVariants.{NoPrimitive, NotNumber}
use Rattle.njs_meaning.specs.declared.level.Hint.{Hint}
use Rattle.njs_meaning.specs.declared.level.Hint.TheVariants as hint
use Rattle.njs_meaning.specs.Primitives.{Primitive, Undefined}
use Rattle.njs_meaning.specs.Numbers.{number_of, text_of, signed_32, unsigned_32}
use Rattle.njs_meaning.specs.Values.{PlainValue, Simple, ObjectAt}
use Rattle.njs_meaning.specs.Chains.{get}
use Rattle.njs_meaning.specs.State.{State, Outcome, Gives, Throws, Spent, Asks, Call, and_then}
use Rattle.njs_meaning.specs.Replies.{state_of}
use Rattle.njs_meaning.specs.Errors.{throw}
use Rattle.njs_meaning.specs.Conversions.{is_callable, first_method, second_method, tried, primitive_or, by_second, by_methods, to_primitive, number_or_throw, to_number, to_text, to_int32, to_uint32}

-- one part and what follows it
pub then_keeps : {A B : Type 0} (stopped : State → Type 0) (o : Outcome A) (go : A → State → Outcome B) → stopped (state_of o) → ((a : A) (s : State) → stopped s → stopped (state_of (go a s))) → stopped (state_of (and_then o go))
then_keeps stopped (Gives a s) go before rest = rest a s before
then_keeps stopped (Throws v s) go before rest = before
then_keeps stopped (Spent s) go before rest = before
then_keeps stopped (Asks zone op s) go before rest = before

module _ (stopped : State → Type 0) (same : (s t : State) → t.zones ≡ s.zones → t.asked ≡ s.asked → stopped s → stopped t) where
  pub throw_keeps : (A : Type 0) (cause : Cause) (s : State) → stopped s → stopped (state_of (throw {A = A} cause s))
  throw_keeps A cause s before = same s _ refl refl before

  pub primitive_keeps : (otherwise : State → Outcome Primitive) → ((s : State) → stopped s → stopped (state_of (otherwise s))) → (v : PlainValue) (s : State) → stopped s → stopped (state_of (primitive_or otherwise v s))
  primitive_keeps otherwise keeps (Simple p) s before = before
  primitive_keeps otherwise keeps (ObjectAt o) s before = keeps s before

  pub number_keeps : (p : Primitive) (s : State) → stopped s → stopped (state_of (number_or_throw p s))
  number_keeps p s before = by (number_of p)
    where
      by : (n : Option ℤ) → stopped (state_of (option_map_or (λ i. Gives i s) n (throw NotNumber s)))
      by (Some n) = before
      by None = throw_keeps ℤ NotNumber s before

  module _ (call : Call) (calls : (f this : PlainValue) (args : List PlainValue) (s : State) → stopped s → stopped (state_of (call f this args s))) where
    pub tried_keeps : (name : List ℕ) (object : ℕ) (s : State) → stopped s → stopped (state_of (tried call name object s))
    tried_keeps name object s before = by (is_callable s.objects method)
      where
        method : PlainValue
        method = get (Simple Undefined) name s.objects object

        by : (b : Bool) → stopped (state_of (cond b (call method (ObjectAt object) [] s) (Gives (ObjectAt object) s)))
        by true = calls method (ObjectAt object) [] s before
        by false = before

    pub by_second_keeps : (h : Hint) (object : ℕ) (s : State) → stopped s → stopped (state_of (by_second call h object s))
    by_second_keeps h object s before =
        then_keeps stopped (tried call (second_method h) object s) (primitive_or (throw NoPrimitive)) (tried_keeps (second_method h) object s before) (primitive_keeps (throw NoPrimitive) (throw_keeps Primitive NoPrimitive))

    pub by_methods_keeps : (h : Hint) (object : ℕ) (s : State) → stopped s → stopped (state_of (by_methods call h object s))
    by_methods_keeps h object s before =
        then_keeps stopped (tried call (first_method h) object s) (primitive_or (by_second call h object)) (tried_keeps (first_method h) object s before) (primitive_keeps (by_second call h object) (by_second_keeps h object))

    pub to_primitive_keeps : (h : Hint) (v : PlainValue) (s : State) → stopped s → stopped (state_of (to_primitive call h v s))
    to_primitive_keeps h (Simple p) s before = before
    to_primitive_keeps h (ObjectAt o) s before = by_methods_keeps h o s before

    pub to_number_keeps : (v : PlainValue) (s : State) → stopped s → stopped (state_of (to_number call v s))
    to_number_keeps v s before = then_keeps stopped (to_primitive call hint.Number v s) number_or_throw (to_primitive_keeps hint.Number v s before) number_keeps

    pub to_text_keeps : (v : PlainValue) (s : State) → stopped s → stopped (state_of (to_text call v s))
    to_text_keeps v s before = then_keeps stopped (to_primitive call hint.Text v s) (λ p t. Gives (text_of p) t) (to_primitive_keeps hint.Text v s before) (λ p t kept. kept)

    pub to_int32_keeps : (v : PlainValue) (s : State) → stopped s → stopped (state_of (to_int32 call v s))
    to_int32_keeps v s before = then_keeps stopped (to_number call v s) (λ n t. Gives (signed_32 n) t) (to_number_keeps v s before) (λ n t kept. kept)

    pub to_uint32_keeps : (v : PlainValue) (s : State) → stopped s → stopped (state_of (to_uint32 call v s))
    to_uint32_keeps v s before = then_keeps stopped (to_number call v s) (λ n t. Gives (unsigned_32 n) t) (to_number_keeps v s before) (λ n t kept. kept)
