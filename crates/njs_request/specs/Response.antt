-- What the handler of a request has answered so far, and how a host keeps it.
use Rattle.std.specs.Prelude.{◌≡◌, ◌≤◌, ℕ, List, [], length, All, Bool, false, Option, None, is_some, not, ◌||◌, if◌then◌else◌}
use Rattle.std.specs.Option.{option_map}
use Rattle.http_out.specs.declared.reply.Reply.{Reply}
use Rattle.http_out.specs.Reply.{IsField, IsValue}
use Rattle.njs_meaning.specs.State.{Head, Response, State}
use Rattle.njs_meaning.specs.Replies.{Known}

-- before anything is answered
abbrev pub no_answer : Response
no_answer = record { head = None; body = []; is_finished = false }

-- whether an answer may begin: there is neither a head nor the end mark
abbrev pub is_open : Response → Bool
is_open r = not (is_some r.head || r.is_finished)

-- what a response is made from, where the answer is whole: it has a head and the end mark
abbrev pub reply_with : List ℕ → Head → Reply
reply_with body head = record { status = head.status; kind = head.kind; fields = head.fields; body = body }

abbrev pub reply_of : Response → Option Reply
reply_of r = if r.is_finished then option_map (reply_with r.body) r.head else None

-- a head of a record: its status is final (RFC 9110 §15), and a response may have its type and its fields
pub record IsHead (head : Head) : Type 0 where
  pub low : 200 ≤ head.status
  pub high : head.status ≤ 599
  pub kind : IsValue head.kind
  pub fields : All IsField head.fields
  pub few : length head.fields ≤ 64

-- how a host keeps the response of a run's state: what it keeps says that the state's response is the host's, and holds again
-- where both are replaced; what else is said of hosts doesn't look at it
pub record KeepsResponse {H : Type 0} (response_of : H → Response) (with_response : H → Response → H) (keeps : H → Known → State → Type 0) (agreed : H → Known → Type 0) (same_zones : H → H → Type 0) : Type 0 where
  pub read : (h : H) (k : Known) (s : State) → keeps h k s → s.response ≡ response_of h
  pub written : (h : H) (k : Known) (s : State) (r : Response) → keeps h k s → keeps (with_response h r) k (record s { response = r })
  pub agrees : (h : H) (k : Known) (r : Response) → agreed (with_response h r) k → agreed h k
  pub zones : (h : H) (r : Response) → same_zones h (with_response h r)
