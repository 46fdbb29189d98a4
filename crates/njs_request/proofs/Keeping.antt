-- The rows of requests keep what holds of a state by its dictionaries and the calls on them that were answered, where calls of
-- values do.
use Rattle.std.proofs.Common.{◌≡◌, ℕ, ◌-◌, ℤ, List, Option, Some, None, Bool, true, false, cond, refl}
use Rattle.std.specs.Prelude.{nat_lt}
use Rattle.std.specs.Option.{option_map_or}
use Rattle.njs_value.specs.declared.Cause.TheVariants.{WrongReceiver, ResponseState, BadArgument}
use Rattle.njs_value.specs.declared.Row.{Row}
use Rattle.njs_meaning.specs.Primitives.{Undefined, Null, Truth, Number, Characters}
use Rattle.njs_meaning.specs.Values.{PlainValue, Simple, ObjectAt}
use Rattle.njs_meaning.specs.State.{Head, State, Spent, Call}
use Rattle.njs_meaning.specs.Replies.{state_of}
use Rattle.njs_meaning.specs.Errors.{throw}
use Rattle.njs_meaning.specs.Conversions.{to_number}
use Rattle.njs_meaning.specs.Running.{Calls}
use Rattle.njs_convert.proofs.Stopped.{then_keeps, throw_keeps, to_number_keeps, to_text_keeps}
use Rattle.njs_request.specs.Response.{is_open}
use Rattle.njs_request.specs.Return.{argument, optional_text, is_request, status_from, plain_head, answered, answer_text, answer_number, answer_status, answer_once, answer_on, return}
use Rattle.njs_request.specs.Rows.{answers}

module _ (stopped : State → Type 0) (same : (s t : State) → t.zones ≡ s.zones → t.asked ≡ s.asked → stopped s → stopped t) where
  pub answered_keeps : (head : Head) (body : List ℕ) (s : State) → stopped s → stopped (state_of (answered head body s))
  answered_keeps head body s before = same s _ refl refl before

  module _ (call : Call) (calls : (f this : PlainValue) (args : List PlainValue) (s : State) → stopped s → stopped (state_of (call f this args s))) where
    pub optional_text_keeps : (v : PlainValue) (s : State) → stopped s → stopped (state_of (optional_text call v s))
    optional_text_keeps (Simple Undefined) s before = before
    optional_text_keeps (Simple Null) s before = to_text_keeps stopped same call calls (Simple Null) s before
    optional_text_keeps (Simple (Truth b)) s before = to_text_keeps stopped same call calls (Simple (Truth b)) s before
    optional_text_keeps (Simple (Number n)) s before = to_text_keeps stopped same call calls (Simple (Number n)) s before
    optional_text_keeps (Simple (Characters t)) s before = to_text_keeps stopped same call calls (Simple (Characters t)) s before
    optional_text_keeps (ObjectAt o) s before = to_text_keeps stopped same call calls (ObjectAt o) s before

    pub answer_text_keeps : (head : Head) (text : PlainValue) (s : State) → stopped s → stopped (state_of (answer_text call head text s))
    answer_text_keeps head text s before = then_keeps stopped (optional_text call text s) (answered head) (optional_text_keeps text s before) (answered_keeps head)

    pub answer_number_keeps : (text : PlainValue) (n : ℤ) (s : State) → stopped s → stopped (state_of (answer_number call text n s))
    answer_number_keeps text n s before = by (status_from n)
      where
        by : (status : Option ℕ) → stopped (state_of (option_map_or (λ status. answer_text call (plain_head status) text s) status (throw BadArgument s)))
        by (Some status) = answer_text_keeps (plain_head status) text s before
        by None = throw_keeps stopped same PlainValue BadArgument s before

    pub answer_status_keeps : (status text : PlainValue) (s : State) → stopped s → stopped (state_of (answer_status call status text s))
    answer_status_keeps status text s before =
        then_keeps stopped (to_number call status s) (answer_number call text) (to_number_keeps stopped same call calls status s before) (answer_number_keeps text)

    pub answer_once_keeps : (status text : PlainValue) (s : State) → stopped s → stopped (state_of (answer_once call status text s))
    answer_once_keeps status text s before = by (is_open s.response)
      where
        by : (b : Bool) → stopped (state_of (cond b (answer_status call status text s) (throw ResponseState s)))
        by true = answer_status_keeps status text s before
        by false = throw_keeps stopped same PlainValue ResponseState s before

    pub answer_on_keeps : (this status text : PlainValue) (s : State) → stopped s → stopped (state_of (answer_on call this status text s))
    answer_on_keeps this status text s before = by (is_request s.objects this)
      where
        by : (b : Bool) → stopped (state_of (cond b (answer_once call status text s) (throw WrongReceiver s)))
        by true = answer_once_keeps status text s before
        by false = throw_keeps stopped same PlainValue WrongReceiver s before

    pub return_keeps : (this : PlainValue) (args : List PlainValue) (s : State) → stopped s → stopped (state_of (return call this args s))
    return_keeps this args s before = by (nat_lt s.ticks 1)
      where
        paid : State
        paid = record s { ticks = s.ticks - 1 }

        by : (b : Bool) → stopped (state_of (cond b (Spent s) (answer_on call this (argument 0 args) (argument 1 args) paid)))
        by true = before
        by false = answer_on_keeps this (argument 0 args) (argument 1 args) paid (same s paid refl refl before)

  -- whichever row it is
  pub answers_keep : (calls : Calls) → ((f this : PlainValue) (args : List PlainValue) (s : State) → stopped s → stopped (state_of (calls.call f this args s)))
      → (row : Row) (this : PlainValue) (args : List PlainValue) (made : Bool) (s : State) → stopped s → stopped (state_of (answers calls row this args made s))
  answers_keep calls keep row this args made s before = return_keeps calls.call keep this args s before
