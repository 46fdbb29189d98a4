-- Small examples of what `return` means.
use Rattle.std.proofs.Common.{◌≡◌, ℕ, List, [], ◌∷◌, Some, true, codes, pos, negsuc, refl}
use Rattle.njs_value.specs.declared.Cause.TheVariants.{WrongReceiver, ResponseState, BadArgument, NotNumber}
use Rattle.njs_meaning.specs.declared.prototypes.Prototype.TheVariants as prototype
use Rattle.njs_value.specs.declared.Class.TheVariants as class
use Rattle.njs_meaning.specs.Primitives.{Undefined, Truth, Number, Characters}
use Rattle.njs_meaning.specs.Values.{PlainValue, Simple, ObjectAt}
use Rattle.njs_meaning.specs.PlainHeap.{PlainObject, Plain}
use Rattle.njs_meaning.specs.State.{Response, State, Outcome, Gives, Spent, Call}
use Rattle.njs_meaning.specs.Errors.{throw, hidden}
use Rattle.njs_meaning.specs.Functions.{object_with}
use Rattle.njs_request.specs.EntryObjects.{built_in, request}
use Rattle.njs_request.specs.Response.{no_answer, reply_of}
use Rattle.njs_request.specs.Return.{plain_head, whole, return}
use Rattle.njs_request.specs.Rows.{return_row}

abbrev number : ℕ → PlainValue
number n = Simple (Number (pos n))

abbrev text : List ℕ → PlainValue
text t = Simple (Characters t)

-- a request, a function, and an object whose `toString` it is
abbrev objects : List PlainObject
objects =
    request (record { 0 = 0 }) ∷ built_in return_row 1
    ∷ object_with class.Object prototype.Object ((codes "toString", record { value = ObjectAt 1; flags = hidden }) ∷ []) Plain ∷ []

abbrev with_response : Response → ℕ → State
with_response r ticks = record { objects = objects; scopes = []; response = r; zones = []; asked = []; log = []; ticks = ticks }

-- calls that answer the request themselves, and give a text
abbrev answers_within : Call
answers_within f this args s = Gives (text (codes "b")) (record s { response = whole (plain_head 500) (codes "a") })

abbrev returns : List PlainValue → Outcome PlainValue
returns args = return answers_within (ObjectAt 0) args (with_response no_answer 1)

abbrev answer : ℕ → List ℕ → Outcome PlainValue
answer status body = Gives (Simple Undefined) (with_response (whole (plain_head status) body) 0)

-- `r.return(200, "Hello world!")`, and the reply that it makes
greets : returns (number 200 ∷ text (codes "Hello world!") ∷ []) ≡ answer 200 (codes "Hello world!")
greets = refl

greeting : reply_of (whole (plain_head 200) (codes "Hello world!")) ≡ Some (record { status = 200; kind = codes "text/plain"; fields = []; body = codes "Hello world!" })
greeting = refl

-- without a text, and with undefined in its place
no_text : returns (number 200 ∷ []) ≡ answer 200 []
no_text = refl

undefined_text : returns (number 200 ∷ Simple Undefined ∷ []) ≡ answer 200 []
undefined_text = refl

-- a status by its text, and the text of a truth value
converted : returns (text (codes " 404 ") ∷ Simple (Truth true) ∷ []) ≡ answer 404 (codes "true")
converted = refl

-- no status
no_status : returns [] ≡ throw NotNumber (with_response no_answer 0)
no_status = refl

-- statuses that are not final, and those that no method answers yet
informational : returns (number 199 ∷ []) ≡ throw BadArgument (with_response no_answer 0)
informational = refl

past_the_last : returns (number 600 ∷ []) ≡ throw BadArgument (with_response no_answer 0)
past_the_last = refl

negative : returns (Simple (Number (negsuc 199)) ∷ []) ≡ throw BadArgument (with_response no_answer 0)
negative = refl

no_content : returns (number 204 ∷ []) ≡ throw BadArgument (with_response no_answer 0)
no_content = refl

redirect : returns (number 302 ∷ text (codes "/next") ∷ []) ≡ throw BadArgument (with_response no_answer 0)
redirect = refl

-- what a conversion answers meanwhile is replaced
replaced : returns (number 200 ∷ ObjectAt 2 ∷ []) ≡ answer 200 (codes "b")
replaced = refl

-- a second answer
twice : return answers_within (ObjectAt 0) (number 500 ∷ []) (with_response (whole (plain_head 200) []) 1) ≡ throw ResponseState (with_response (whole (plain_head 200) []) 0)
twice = refl

-- another receiver, whatever the arguments are
other_receiver : return answers_within (ObjectAt 2) (number 99 ∷ []) (with_response no_answer 1) ≡ throw WrongReceiver (with_response no_answer 0)
other_receiver = refl

-- no tick is left
no_tick : return answers_within (ObjectAt 0) (number 200 ∷ []) (with_response no_answer 0) ≡ Spent (with_response no_answer 0)
no_tick = refl
