-- What a connection is answered.
use Rattle.std.specs.Prelude.{ℕ, ◌+◌, List, [], ◌∷◌, ◌++◌, ◌≡◌, ◌⊎◌, Option, Bool, false, bytes_eq, codes, encode_utf8_all}
use Rattle.std.specs.Io.KnownBytes.{Consumes, Appends, IsAtEnd}
use Rattle.http_in.specs.declared.request.Request.{Request}
use Rattle.http_in.specs.Requests as requests
use Rattle.http_in.specs.Requests.{Whole, Refused, StandsAt, GoesOn, Ending, Requests}
use Rattle.http_out.specs.Response.{response_bytes}
use Rattle.njs_conn.specs.declared.connection.ConnEnd.{ConnEnd}
use Rattle.njs_conn.specs.declared.connection.ConnEnd.TheVariants as ends
use Rattle.njs_conn.specs.Dictionary.{Operation, Call, Replies}
use Rattle.njs_conn.specs.Site.{Site}
use Rattle.njs_conn.specs.Meaning.{plain_text, reply_of}
use Rattle.njs_conn.specs.Writer.{IsFront}

-- how the requests of a connection end; a script may also wait for a dictionary's reply
pub data End : Type 0 where
  InputEnds : End
  CutOff : End
  RefusedWith : ℕ → End
  Closed : End
  Waits : ℕ → Operation → End

-- the bytes that are answered, the lines of the log, the calls on dictionaries that were answered, and the end
pub record Answer : Type 0 where
  pub bytes : List ℕ
  pub log : List (List ℕ)
  pub calls : List Call
  pub end : End

-- What a request comes to: the bytes of its response, its lines of the log, its calls that were answered and the replies that are left; or the zone
-- and the operation of a call that no reply is left for, behind those that were answered.
pub data Step : Type 0 where
  Done : List ℕ → List (List ℕ) → List Call → Replies → Step
  Asks : ℕ → Operation → List Call → Step

-- HEAD is answered without the content (RFC 9110 §9.3.2)
abbrev pub is_head : Request → Bool
is_head request = bytes_eq (encode_utf8_all request.method) (codes "HEAD")

abbrev pub response_of : Site → Request → List ℕ
response_of site request = response_bytes (reply_of site request) request.keep (is_head request)

-- the response to bytes that are refused as a request
abbrev pub refusal : ℕ → List ℕ
refusal status = response_bytes (plain_text status []) false false

-- one request, whose scripts start afresh; they neither log nor ask a dictionary yet
abbrev pub next : Site → List ℕ → Request → Replies → Step
next site peer request replies = Done (response_of site request) [] [] replies

-- some bytes, lines and calls, and then what is answered
abbrev pub after : List ℕ → List (List ℕ) → List Call → Answer → Answer
after bytes log calls answer = record { bytes = bytes ++ answer.bytes; log = log ++ answer.log; calls = calls ++ answer.calls; end = answer.end }

-- some bytes, and then no request any more
abbrev pub ending : List ℕ → End → Answer
ending bytes end = record { bytes = bytes; log = []; calls = []; end = end }

abbrev pub continued : Step → (Replies → Answer) → Answer
continued (Done bytes log calls left) later = after bytes log calls (later left)
continued (Asks zone operation calls) later = record { bytes = []; log = []; calls = calls; end = Waits zone operation }

-- what is answered where no request is left
abbrev pub ended : Ending → Answer
ended requests.Closed = ending [] Closed
ended requests.End = ending [] InputEnds
ended requests.Cut = ending [] CutOff
ended (requests.Bad status) = ending (refusal status) (RefusedWith status)

-- what is answered to the requests of a connection and their end, by the replies of dictionaries
abbrev pub answers : Site → List ℕ → List Request → Ending → Replies → Answer
answers site peer [] end replies = ended end
answers site peer (request ∷ others) end replies = continued (next site peer request replies) (λ left. answers site peer others end left)

-- the bytes begin with these requests, and a refusal that is said to be their end stands behind them
abbrev pub BeginsWith : ℕ → List ℕ → List Request → Ending → Type 0
BeginsWith number bytes [] (requests.Bad status) = StandsAt number bytes (Refused status)
BeginsWith number bytes [] _ = Unit {0}
BeginsWith number bytes (request ∷ others) end =
    (rest : List ℕ) × StandsAt number bytes (Whole request rest) × GoesOn request.keep others end (BeginsWith (number + 1) rest others end)

-- How the bytes that were taken are read, behind so many requests: as all their requests and their end, or after a fault of writing or want of
-- memory as those that stand first.
abbrev pub IsReadAs : ConnEnd → ℕ → List ℕ → List Request → Ending → Type 0
IsReadAs ends.Finished number bytes all end = Requests number bytes all end
IsReadAs ends.Cut number bytes all end = Requests number bytes all end
IsReadAs ends.ReadFault number bytes all end = Requests number bytes all end
IsReadAs ends.WriteFault number bytes all end = BeginsWith number bytes all end
IsReadAs ends.NoMemory number bytes all end = BeginsWith number bytes all end

-- the input ended between requests, or the connection was closed
abbrev pub IsFinish : End → Option (List ℕ) → Type 0
IsFinish InputEnds left = IsAtEnd left
IsFinish CutOff left = ⊥
IsFinish (RefusedWith status) left = Unit {0}
IsFinish Closed left = Unit {0}
IsFinish (Waits zone operation) left = ⊥

-- how a call ended, by what was to be answered, what the sink got and what is left of the source
abbrev pub EndsAs : ConnEnd → Answer → List ℕ → Option (List ℕ) → Type 0
EndsAs ends.Finished answer grew left = (grew ≡ answer.bytes) × IsFinish answer.end left
EndsAs ends.Cut answer grew left = (grew ≡ answer.bytes) × (answer.end ≡ CutOff) × IsAtEnd left
EndsAs ends.ReadFault answer grew left = (grew ≡ answer.bytes) × ((answer.end ≡ InputEnds) ⊎ (answer.end ≡ CutOff))
EndsAs ends.WriteFault answer grew left = IsFront grew answer.bytes
EndsAs ends.NoMemory answer grew left = IsFront grew answer.bytes

-- What a call does to its source and sink: it takes some bytes, and the sink gets what is answered to their requests, or a front of it. A site has no
-- dictionaries yet, so there are no replies.
pub record Serves (site : Site) (peer : List ℕ) (left left' got got' : Option (List ℕ)) (result : ConnEnd) : Type 0 where
  pub taken : List ℕ
  pub grew : List ℕ
  pub all : List Request
  pub end : Ending
  pub read : Consumes left left' taken
  pub wrote : Appends got got' grew
  pub read_as : IsReadAs result 0 taken all end
  pub ends : EndsAs result (answers site peer all end []) grew left'
