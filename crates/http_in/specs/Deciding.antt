-- What is known of the bytes while they come in.
use Rattle.std.specs.Prelude.{◌≡◌, ℕ, ◌+◌, ◌<◌, ◌≤◌, ◌==◌, Bool, true, false, not, List, [], ◌∷◌, ◌++◌, length, take, drop, None, Some, option_map, All, ◌⊎◌}
use Rattle.httparse.specs.Ascii.{carriage_return}
use Rattle.httparse.specs.Grammar.{RequestHead, ReadsRequest}
use Rattle.httparse.specs.Spans.{IsWithin, IsHeaderWithin, span_bytes, IsRequestAt}
use Rattle.httparse.specs.declared.spans.HeaderSpan.{HeaderSpan}
use Rattle.httparse.specs.declared.spans.RequestSpans.{RequestSpans}
use Rattle.http_in.specs.declared.head.Line.{Line}
use Rattle.http_in.specs.declared.head.Line.TheVariants as lines
use Rattle.http_in.specs.declared.head.HeadEnd.{HeadEnd}
use Rattle.http_in.specs.declared.head.HeadEnd.TheVariants as ends
use Rattle.http_in.specs.declared.head.Place.{Place}
use Rattle.http_in.specs.declared.head.Place.TheVariants as places
use Rattle.http_in.specs.declared.fields.Values.{Values}
use Rattle.http_in.specs.declared.fields.Values.TheVariants as counts
use Rattle.http_in.specs.declared.judge.Judged.{Judged}
use Rattle.http_in.specs.declared.judge.Judged.TheVariants as judgements
use Rattle.http_in.specs.declared.decide.Progress.{Progress}
use Rattle.http_in.specs.declared.decide.Framed.{Framed}
use Rattle.http_in.specs.declared.decide.Framed.TheVariants as frames
use Rattle.http_in.specs.declared.decide.Decided.{Decided}
use Rattle.http_in.specs.declared.decide.Decided.TheVariants as decisions
use Rattle.http_in.specs.Head.{max_head, behind_empty_lines, empty_line, head_len}
use Rattle.http_in.specs.Requests.{Whole, Refused, Nothing, Part, max_fields, HeadSays, StandsAt}
use Rattle.http_in.specs.Rules.{max_body, made_request}

-- a byte of a line stands there that is no line end's CR, whatever follows
abbrev pub has_begun : List ℕ → Bool
has_begun [] = false
has_begun (b ∷ []) = not (b == carriage_return)
has_begun (b ∷ c ∷ bs) = true

-- what stands at the beginning of a line
abbrev pub LineIs : Line → List ℕ → Type 0
LineIs (lines.Empty n) bytes = (n ≤ length bytes) × ((more : List ℕ) → empty_line (bytes ++ more) ≡ Some n)
LineIs lines.Other bytes = (more : List ℕ) → empty_line (bytes ++ more) ≡ None
LineIs lines.Open bytes = (empty_line bytes ≡ None) × (head_len bytes ≡ None)

-- no head ends before this place, whatever follows
abbrev pub Passes : ℕ → List ℕ → Type 0
Passes seen bytes = (more : List ℕ) → head_len (bytes ++ more) ≡ option_map (λ n. seen + n) (head_len (drop seen bytes ++ more))

-- where a head ends
abbrev pub HeadEndIs : HeadEnd → List ℕ → Type 0
HeadEndIs (ends.At n) bytes = (n ≤ length bytes) × (head_len bytes ≡ Some n)
HeadEndIs (ends.Beyond seen) bytes = (seen ≤ length bytes) × (head_len bytes ≡ None) × Passes seen bytes

-- so many bytes are passed over, whatever follows
abbrev pub PassesOver : ℕ → List ℕ → Type 0
PassesOver count bytes = (more : List ℕ) → behind_empty_lines (bytes ++ more) ≡ behind_empty_lines (drop count bytes ++ more)

-- the head begins there, whatever follows
abbrev pub BeginsAt : ℕ → List ℕ → Type 0
BeginsAt start bytes = (more : List ℕ) → behind_empty_lines (bytes ++ more) ≡ drop start bytes ++ more

-- how far a head was looked for
abbrev pub IsPlace : Place → List ℕ → Type 0
IsPlace (places.EmptyLines count) bytes = (count ≤ length bytes) × PassesOver count bytes
IsPlace (places.Head start seen) bytes = (start + seen ≤ length bytes) × BeginsAt start bytes × Passes seen (drop start bytes)

abbrev pub start_of : Place → ℕ
start_of (places.EmptyLines count) = count
start_of (places.Head start seen) = start

-- only empty lines, or an open one
abbrev pub IsOpenPlace : Place → List ℕ → Type 0
IsOpenPlace (places.EmptyLines count) bytes = head_len (behind_empty_lines bytes) ≡ None
IsOpenPlace (places.Head start seen) bytes = Unit {0}

-- the values of the fields of one name
abbrev pub ValuesAre : Values → List ℕ → List (List ℕ) → Type 0
ValuesAre counts.Missing head values = values ≡ []
ValuesAre (counts.One span) head values = IsWithin (length head) span × (values ≡ span_bytes head span ∷ [])
ValuesAre counts.More head values = 1 < length values

-- the spans of a whole head
pub record IsHeadAt (head : List ℕ) (spans : RequestSpans) (fields : List HeaderSpan) : Type 0 where
  pub h : RequestHead
  pub at : IsRequestAt head fields spans h
  pub whole : ReadsRequest head h []
  pub few : length h.fields ≤ max_fields
  pub method : IsWithin (length head) spans.method
  pub target : IsWithin (length head) spans.path
  pub count : spans.headers ≤ length fields
  pub fields_within : All (IsHeaderWithin (length head)) (take spans.headers fields)

-- what is made of the parts of a head and a body of this length
abbrev pub BodyIs : Judged → ℕ → List ℕ × List ℕ × ℕ → List (List ℕ × List ℕ) → ℕ → List ℕ → Type 0
BodyIs (judgements.Request request n) number line fields len behind =
    (n ≡ len) × (len ≤ length behind) × (request ≡ made_request number line.0 line.1 line.2 fields (take len behind))
BodyIs (judgements.Bad status) number line fields len behind = ⊥
BodyIs (judgements.Wants n) number line fields len behind = (n ≡ len) × (length behind < len)
BodyIs judgements.NoMemory number line fields len behind = Unit {0}

-- what a head and the bytes behind it say
abbrev pub JudgedIs : Judged → ℕ → List ℕ → List ℕ → Type 0
JudgedIs (judgements.Request request n) number head behind = (n ≤ length behind) × HeadSays number head behind (Whole request (drop n behind))
JudgedIs (judgements.Bad status) number head behind = (others : List ℕ) → HeadSays number head others (Refused status)
JudgedIs (judgements.Wants n) number head behind =
    (length behind < n) × (n ≤ max_body) × ((others : List ℕ) → length others < n → HeadSays number head others Part)
JudgedIs judgements.NoMemory number head behind = Unit {0}

-- the bytes give neither a request nor a status yet
abbrev pub IsUndecided : ℕ → List ℕ → Type 0
IsUndecided number bytes = StandsAt number bytes Nothing ⊎ StandsAt number bytes Part

-- where a head stands
abbrev pub FramedIs : Framed → List ℕ → Type 0
FramedIs (frames.Head start len) window =
    (start + len ≤ length window) × (head_len (behind_empty_lines window) ≡ Some len) × (behind_empty_lines window ≡ drop start window)
FramedIs (frames.Open place) window =
    IsPlace place window × (head_len (behind_empty_lines window) ≡ None) × (behind_empty_lines window ≡ drop (start_of place) window)

-- what is known of the bytes so far
pub record IsProgress (number : ℕ) (progress : Progress) (bytes : List ℕ) : Type 0 where
  pub place : IsPlace progress.place (take max_head bytes)
  pub need : (more : List ℕ) → length (bytes ++ more) < progress.need → IsUndecided number (bytes ++ more)

-- what the bytes decide
abbrev pub DecidedIs : Decided → ℕ → Progress → List ℕ → Type 0
DecidedIs (decisions.Request request used) number progress bytes = (used ≤ length bytes) × StandsAt number bytes (Whole request (drop used bytes))
DecidedIs (decisions.Bad status) number progress bytes = StandsAt number bytes (Refused status)
DecidedIs decisions.Undecided number progress bytes = IsUndecided number bytes × IsProgress number progress bytes
DecidedIs decisions.NoMemory number progress bytes = Unit {0}
