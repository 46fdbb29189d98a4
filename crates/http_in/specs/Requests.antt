-- The requests in the bytes of a connection, and how they end.
use Rattle.std.specs.Prelude.{◌≡◌, ℕ, ◌+◌, ◌<◌, ◌≤◌, ◌==◌, Bool, true, false, nat_lt, nat_le, List, [], ◌∷◌, length, take, drop, Option, None, Some, Result, Ok, Err, if◌then◌else◌}
use Rattle.std.specs.List.{list_any}
use Rattle.httparse.specs.Ascii.{line_feed}
use Rattle.httparse.specs.Grammar.{RequestHead, ReadsRequest}
use Rattle.http_in.specs.declared.request.Request.{Request}
use Rattle.http_in.specs.Head.{max_head, head_len, from_head, head_start}
use Rattle.http_in.specs.Rules.{first_line, ends_in_other_version, body_length, fields_of, request_of}

-- What stands at the front of some bytes: a request, with the bytes behind it; a status with which it is refused; nothing but
-- empty lines; or a part of a request.
pub data Front : Type 0 where
  Whole : Request → List ℕ → Front
  Refused : ℕ → Front
  Nothing : Front
  Part : Front

abbrev pub max_fields : ℕ
max_fields = 64

-- the bytes are this whole head of httparse with at most 64 fields, or no such head
abbrev pub IsRead : List ℕ → Option RequestHead → Type 0
IsRead head (Some h) = ReadsRequest head h [] × (length h.fields ≤ max_fields)
IsRead head None = (h : RequestHead) → ReadsRequest head h [] → max_fields < length h.fields

-- the body is the next so many bytes (RFC 9112 §6.3)
abbrev pub with_body : ℕ → RequestHead → List ℕ → Result ℕ ℕ → Front
with_body number h behind (Err status) = Refused status
with_body number h behind (Ok n) = if nat_le n (length behind) then Whole (request_of number h (take n behind)) (drop n behind) else Part

-- what a head that was read says
abbrev pub by_head : ℕ → Option RequestHead → List ℕ → Front
by_head number None behind = Refused 400
by_head number (Some h) behind = with_body number h behind (body_length h.method h.target h.minor (fields_of h))

-- the head is read, and says so
pub record ReadSays (number : ℕ) (head behind : List ℕ) (front : Front) : Type 0 where
  pub read : Option RequestHead
  pub is_read : IsRead head read
  pub says : front ≡ by_head number read behind

-- the version comes before all else (RFC 9112 §2.3)
abbrev pub SaysBy : Bool → ℕ → List ℕ → List ℕ → Front → Type 0
SaysBy true number head behind front = front ≡ Refused 505
SaysBy false number head behind front = ReadSays number head behind front

-- a head, the bytes behind it, and what stands there
abbrev pub HeadSays : ℕ → List ℕ → List ℕ → Front → Type 0
HeadSays number head behind front = SaysBy (ends_in_other_version (first_line head)) number head behind front

-- the status where no head ends in time: 414 where its first line does not end
abbrev pub too_long_status : List ℕ → ℕ
too_long_status rest = if nat_lt 0 (length rest) then (if list_any (λ b. b == line_feed) rest then 400 else 414) else 400

-- what stands there where no head ends within the first 16,384 bytes
unfoldable pub without_head : List ℕ → Front
without_head bytes =
    if nat_le max_head (length bytes) then Refused (too_long_status (from_head bytes))
    else (if nat_lt 0 (length (from_head bytes)) then Part else Nothing)

-- what the bytes at the front are, behind so many requests
abbrev pub StandsBy : ℕ → List ℕ → Option ℕ → Front → Type 0
StandsBy number bytes None front = front ≡ without_head bytes
StandsBy number bytes (Some n) front = HeadSays number (take n (from_head bytes)) (drop (head_start bytes + n) bytes) front

unfoldable pub StandsAt : ℕ → List ℕ → Front → Type 0
StandsAt number bytes front = StandsBy number bytes (head_len (from_head bytes)) front

-- How the bytes end: behind a request that closes the connection, behind a whole request, within one, or with a status.
pub data Ending : Type 0 where
  Closed : Ending
  End : Ending
  Cut : Ending
  Bad : ℕ → Ending

-- the bytes have no further request, and end so
abbrev pub IsEnd : ℕ → List ℕ → Ending → Type 0
IsEnd number bytes Closed = ⊥
IsEnd number bytes End = StandsAt number bytes Nothing
IsEnd number bytes Cut = StandsAt number bytes Part
IsEnd number bytes (Bad status) = StandsAt number bytes (Refused status)

-- behind a request: the others, where the connection is kept
abbrev pub GoesOn : Bool → List Request → Ending → Type 0 → Type 0
GoesOn true others ending Others = Others
GoesOn false others ending Others = (others ≡ []) × (ending ≡ Closed)

-- the bytes of a connection, behind so many requests, are these requests and end so
abbrev pub Requests : ℕ → List ℕ → List Request → Ending → Type 0
Requests number bytes [] ending = IsEnd number bytes ending
Requests number bytes (request ∷ others) ending =
    (rest : List ℕ) × StandsAt number bytes (Whole request rest) × GoesOn request.keep others ending (Requests (number + 1) rest others ending)
