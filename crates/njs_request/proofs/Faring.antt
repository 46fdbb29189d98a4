-- The rows of requests lead from good states to good ones, where calls of values do.
use Rattle.std.proofs.Common.{ℕ, ℤ, List, Bool, refl, arith}
use Rattle.njs_value.specs.declared.Cause.TheVariants.{WrongReceiver, ResponseState, BadArgument}
use Rattle.njs_value.specs.declared.Row.{Row}
use Rattle.njs_meaning.specs.Primitives.{Undefined, Null, Truth, Number, Characters}
use Rattle.njs_meaning.specs.Values.{PlainValue, Simple, ObjectAt}
use Rattle.njs_meaning.specs.State.{Head, State, Call}
use Rattle.njs_meaning.specs.Errors.{throw}
use Rattle.njs_meaning.specs.Conversions.{to_number}
use Rattle.njs_meaning.specs.Running.{Calls}
use Rattle.njs_simul.specs.Fits.{Names, Good, Fared, CallsFare}
use Rattle.njs_simul.proofs.Kept.{fared_then, fared_if, fared_option, fared_charge, fares_less, fares_refl, fared_throw}
use Rattle.njs_simul.proofs.FineSteps.{CallFares, fared_number, fared_text}
use Rattle.njs_request.specs.Response.{is_open}
use Rattle.njs_request.specs.Return.{argument, optional_text, is_request, status_from, plain_head, whole, answered, answer_text, answer_number, answer_status, answer_once, answer_on, return}
use Rattle.njs_request.specs.Rows.{answers}

module _ (env : Names) where
  fared_answered : (head : Head) (body : List ℕ) (s : State) → Good env s → Fared env s (answered head body s)
  fared_answered head body s g = fares_less env s (record s { response = whole head body }) refl refl (omega arith) g

  module _ (call : Call) (fares : CallFares env call) where
    fared_optional_text : (v : PlainValue) (s : State) → Good env s → Fared env s (optional_text call v s)
    fared_optional_text (Simple Undefined) s g = fares_refl env s g
    fared_optional_text (Simple Null) s g = fared_text env call fares (Simple Null) s g
    fared_optional_text (Simple (Truth b)) s g = fared_text env call fares (Simple (Truth b)) s g
    fared_optional_text (Simple (Number n)) s g = fared_text env call fares (Simple (Number n)) s g
    fared_optional_text (Simple (Characters t)) s g = fared_text env call fares (Simple (Characters t)) s g
    fared_optional_text (ObjectAt o) s g = fared_text env call fares (ObjectAt o) s g

    fared_answer_text : (head : Head) (text : PlainValue) (s : State) → Good env s → Fared env s (answer_text call head text s)
    fared_answer_text head text s g =
        fared_then env (optional_text call text s) (answered head) (fared_optional_text text s g) (λ body t f. fared_answered head body t f.good)

    fared_answer_number : (text : PlainValue) (n : ℤ) (s : State) → Good env s → Fared env s (answer_number call text n s)
    fared_answer_number text n s g =
        fared_option env s (λ status. answer_text call (plain_head status) text s) (status_from n) (throw BadArgument s)
        (λ status. fared_answer_text (plain_head status) text s g) (fared_throw env BadArgument s g)

    fared_answer_status : (status text : PlainValue) (s : State) → Good env s → Fared env s (answer_status call status text s)
    fared_answer_status status text s g =
        fared_then env (to_number call status s) (answer_number call text) (fared_number env call fares status s g) (λ n t f. fared_answer_number text n t f.good)

    fared_answer_once : (status text : PlainValue) (s : State) → Good env s → Fared env s (answer_once call status text s)
    fared_answer_once status text s g =
        fared_if env s (is_open s.response) (answer_status call status text s) (throw ResponseState s) (fared_answer_status status text s g) (fared_throw env ResponseState s g)

    fared_answer_on : (this status text : PlainValue) (s : State) → Good env s → Fared env s (answer_on call this status text s)
    fared_answer_on this status text s g =
        fared_if env s (is_request s.objects this) (answer_once call status text s) (throw WrongReceiver s) (fared_answer_once status text s g) (fared_throw env WrongReceiver s g)

    fared_return : (this : PlainValue) (args : List PlainValue) (s : State) → Good env s → Fared env s (return call this args s)
    fared_return this args s g =
        fared_charge env 1 (answer_on call this (argument 0 args) (argument 1 args)) s g (λ t f. fared_answer_on this (argument 0 args) (argument 1 args) t f.good)

  -- whichever row it is
  pub answers_fare : (calls : Calls) → CallsFare env calls → (row : Row) (this : PlainValue) (args : List PlainValue) (made : Bool) (s : State) → Good env s
      → Fared env s (answers calls row this args made s)
  answers_fare calls fares row this args made s g = fared_return calls.call fares.call this args s g
