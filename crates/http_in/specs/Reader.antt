-- What a reader takes of a source, and what it answers.
use Rattle.std.specs.Prelude.{◌≡◌, ℕ, ◌+◌, ◌<◌, ◌≤◌, Bool, true, not, List, [], ◌++◌, length, Option, ◌⊎◌}
use Rattle.std.specs.Io.KnownBytes.{Consumes, IsAtEnd}
use Rattle.http_in.specs.declared.reader.Next.{Next}
use Rattle.http_in.specs.declared.reader.Next.TheVariants as nexts
use Rattle.http_in.specs.declared.reader.Fill.{Fill}
use Rattle.http_in.specs.declared.reader.Fill.TheVariants as fills
use Rattle.http_in.specs.declared.reader.Look.{Look}
use Rattle.http_in.specs.declared.reader.Look.TheVariants as looks
use Rattle.http_in.specs.Keeping.{Kept, HasAdded, IsSpent}
use Rattle.http_in.specs.Requests.{Whole, Refused, Nothing, Part, StandsAt}
use Rattle.http_in.specs.Deciding.{IsUndecided}

-- a reader goes on only behind a request that keeps the connection
abbrev pub is_last : Next → Bool
is_last (nexts.Request request) = not request.keep
is_last (nexts.Bad status) = true
is_last nexts.End = true
is_last nexts.Cut = true
is_last nexts.ReadFault = true
is_last nexts.NoMemory = true

-- how many requests were given
abbrev pub count_given : Next → ℕ → ℕ
count_given (nexts.Request request) given = given + 1
count_given (nexts.Bad status) given = given
count_given nexts.End given = given
count_given nexts.Cut given = given
count_given nexts.ReadFault given = given
count_given nexts.NoMemory given = given

-- what an answer says of the bytes at this place, of those that are held behind it, and of the source; of a request and of a
-- status it says so whatever may follow
abbrev pub NextIs : Next → ℕ → List ℕ → List ℕ → Option (List ℕ) → Type 0
NextIs (nexts.Request request) number bytes held left = (more : List ℕ) → StandsAt number (bytes ++ more) (Whole request (held ++ more))
NextIs (nexts.Bad status) number bytes held left = (more : List ℕ) → StandsAt number (bytes ++ more) (Refused status)
NextIs nexts.End number bytes held left = StandsAt number bytes Nothing × IsAtEnd left
NextIs nexts.Cut number bytes held left = StandsAt number bytes Part × IsAtEnd left
NextIs nexts.ReadFault number bytes held left = IsUndecided number bytes
NextIs nexts.NoMemory number bytes held left = Unit {0}

-- the most bytes that one read takes
abbrev pub max_piece : ℕ
max_piece = 4096

-- Bytes were taken only where they were needed: none, or those before the last piece decide nothing.
abbrev pub IsNeeded : ℕ → List ℕ → List ℕ → Type 0
IsNeeded number held taken =
    (taken ≡ []) ⊎ ((before : List ℕ) × (piece : List ℕ) × (taken ≡ before ++ piece) × (length piece ≤ max_piece) × IsUndecided number (held ++ before))

-- bytes were taken of the source, and with those that were held they begin so
pub record ReadsOn (old new : Option (List ℕ)) (was now : Kept) (result : Next) : Type 0 where
  pub taken : List ℕ
  pub read : Consumes old new taken
  pub next : NextIs result was.given (was.held ++ taken) now.held new
  pub needed : IsNeeded was.given was.held taken

-- what the held bytes give
abbrev pub LookIs : Look → Kept → Kept → Type 0
LookIs (looks.Request request) was now =
    StandsAt was.given was.held (Whole request now.held) × (now.given ≡ was.given + 1) × (now.spent ≡ not request.keep)
LookIs (looks.Bad status) was now = StandsAt was.given was.held (Refused status) × IsSpent was now
LookIs looks.Undecided was now = IsUndecided was.given was.held × (now ≡ was)
LookIs looks.NoMemory was now = IsSpent was now

-- one more piece
abbrev pub FillIs : Fill → Option (List ℕ) → Option (List ℕ) → Kept → Kept → Type 0
FillIs fills.Added old new was now =
    (piece : List ℕ) × Consumes old new piece × (0 < length piece) × (length piece ≤ max_piece) × HasAdded was now piece
FillIs fills.End old new was now = Consumes old new [] × IsAtEnd new × (now ≡ was)
FillIs fills.Failed old new was now = Consumes old new [] × (now ≡ was)
FillIs fills.NoMemory old new was now = (piece : List ℕ) × Consumes old new piece × (length piece ≤ max_piece) × (now ≡ was)

-- what stands there where the source has ended
abbrev pub EndIs : Next → Kept → Kept → Type 0
EndIs (nexts.Request request) was now = ⊥
EndIs (nexts.Bad status) was now = ⊥
EndIs nexts.End was now = StandsAt was.given was.held Nothing × IsSpent was now
EndIs nexts.Cut was now = StandsAt was.given was.held Part × IsSpent was now
EndIs nexts.ReadFault was now = ⊥
EndIs nexts.NoMemory was now = ⊥
