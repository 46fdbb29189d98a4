-- The method `return` of a request: `return(status, [text])` answers the request with a status and a text.
use Rattle.std.specs.Prelude.{ℕ, ◌==◌, ℤ, pos, negsuc, nat_le, List, [], ◌∷◌, Bool, true, false, not, ◌&&◌, Option, Some, None, if◌then◌else◌, slice_get, slice_index_or, codes}
use Rattle.std.specs.List.{list_any}
use Rattle.std.specs.Option.{option_map_or}
use Rattle.njs_value.specs.declared.Cause.TheVariants.{WrongReceiver, ResponseState, BadArgument}
use Rattle.njs_value.specs.declared.Class.{Class}
use Rattle.njs_value.specs.declared.Class.TheVariants.{Request}
use Rattle.njs_meaning.specs.Primitives.{Undefined}
use Rattle.njs_meaning.specs.Values.{PlainValue, Simple, ObjectAt}
use Rattle.njs_meaning.specs.PlainHeap.{PlainObject}
use Rattle.njs_meaning.specs.State.{Head, Response, State, Outcome, Gives, Call, and_then}
use Rattle.njs_meaning.specs.Errors.{throw}
use Rattle.njs_meaning.specs.Conversions.{to_number, to_text}
use Rattle.njs_meaning.specs.Running.{charge}
use Rattle.njs_request.specs.Response.{is_open}

-- ---- its arguments

-- an argument by its place; one that is missing is undefined (ECMA-262 5.1 §13.2.1)
abbrev pub argument : ℕ → List PlainValue → PlainValue
argument place args = slice_index_or args place (Simple Undefined)

-- the text of an argument that may be left out: undefined stands for the empty text
abbrev pub optional_text : Call → PlainValue → State → Outcome (List ℕ)
optional_text call (Simple Undefined) s = Gives [] s
optional_text call v s = to_text call v s

-- ---- its receiver

abbrev pub is_request_class : Class → Bool
is_request_class Request = true
is_request_class class = false

-- an object of class Request
abbrev pub is_request : List PlainObject → PlainValue → Bool
is_request objects (Simple p) = false
is_request objects (ObjectAt o) = option_map_or (λ object. is_request_class object.class) (slice_get objects o) false

-- ---- the status

-- a final status (RFC 9110 §15)
abbrev pub is_final : ℕ → Bool
is_final n = nat_le 200 n && nat_le n 599

-- those that no method answers yet: 204 and 304, whose responses have no content, and those whose text is the place that they
-- send to (RFC 9110 §15.3.5, §15.4)
abbrev pub unanswered : List ℕ
unanswered = 204 ∷ 301 ∷ 302 ∷ 303 ∷ 304 ∷ 307 ∷ 308 ∷ []

abbrev pub is_answered : ℕ → Bool
is_answered n = is_final n && not (list_any (λ m. n == m) unanswered)

-- the status that a number is
abbrev pub status_from : ℤ → Option ℕ
status_from (pos n) = if is_answered n then Some n else None
status_from (negsuc n) = None

-- ---- what it answers

-- a head of plain text without further fields
abbrev pub plain_head : ℕ → Head
plain_head status = record { status = status; kind = codes "text/plain"; fields = [] }

-- a whole answer
abbrev pub whole : Head → List ℕ → Response
whole head body = record { head = Some head; body = body; is_finished = true }

-- the response is this, and nothing is given
abbrev pub answered : Head → List ℕ → State → Outcome PlainValue
answered head body s = Gives (Simple Undefined) (record s { response = whole head body })

-- with the text of the second argument
abbrev pub answer_text : Call → Head → PlainValue → State → Outcome PlainValue
answer_text call head text s = and_then (optional_text call text s) (answered head)

-- with the status that the number is
abbrev pub answer_number : Call → PlainValue → ℤ → State → Outcome PlainValue
answer_number call text n s = option_map_or (λ status. answer_text call (plain_head status) text s) (status_from n) (throw BadArgument s)

-- the status is converted before the text
abbrev pub answer_status : Call → PlainValue → PlainValue → State → Outcome PlainValue
answer_status call status text s = and_then (to_number call status s) (answer_number call text)

-- once an answer has begun there is no other
abbrev pub answer_once : Call → PlainValue → PlainValue → State → Outcome PlainValue
answer_once call status text s = if is_open s.response then answer_status call status text s else throw ResponseState s

-- of a request
abbrev pub answer_on : Call → PlainValue → PlainValue → PlainValue → State → Outcome PlainValue
answer_on call this status text s = if is_request s.objects this then answer_once call status text s else throw WrongReceiver s

-- `return`, which costs one tick
abbrev pub return : Call → PlainValue → List PlainValue → State → Outcome PlainValue
return call this args s = charge 1 (answer_on call this (argument 0 args) (argument 1 args)) s
