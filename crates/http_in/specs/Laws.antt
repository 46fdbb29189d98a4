-- What is true of the requests of all bytes.
use Rattle.std.specs.Prelude.{◌≡◌, ℕ, ◌+◌, true, false, List, [], ◌∷◌, ◌++◌}
use Rattle.http_in.specs.declared.request.Request.{Request}
use Rattle.http_in.specs.Requests.{Front, Whole, Refused, StandsAt, Ending, Closed, Bad, Requests}

-- the bytes of a connection have one list of requests and one end
abbrev pub HasOneReading : Type 0
HasOneReading = (number : ℕ) (bytes : List ℕ) (requests others : List Request) (ending other : Ending)
    → Requests number bytes requests ending → Requests number bytes others other → (requests ≡ others) × (ending ≡ other)

-- one thing stands at a place
abbrev pub HasOneFront : Type 0
HasOneFront = (number : ℕ) (bytes : List ℕ) (front other : Front) → StandsAt number bytes front → StandsAt number bytes other → front ≡ other

-- a request stays what it is, whatever follows
abbrev pub KeepsRequests : Type 0
KeepsRequests = (number : ℕ) (bytes rest more : List ℕ) (request : Request)
    → StandsAt number bytes (Whole request rest) → StandsAt number (bytes ++ more) (Whole request (rest ++ more))

-- a refusal stays, whatever follows
abbrev pub KeepsRefusals : Type 0
KeepsRefusals = (number : ℕ) (bytes more : List ℕ) (status : ℕ)
    → StandsAt number bytes (Refused status) → StandsAt number (bytes ++ more) (Refused status)

-- a request that keeps the connection comes first, and the requests of the bytes behind it come next, whatever follows
abbrev pub JoinsRequests : Type 0
JoinsRequests = (number : ℕ) (bytes rest more : List ℕ) (request : Request) (others : List Request) (ending : Ending)
    → StandsAt number bytes (Whole request rest) → request.keep ≡ true → Requests (number + 1) (rest ++ more) others ending
    → Requests number (bytes ++ more) (request ∷ others) ending

-- a request that doesn't keep it is the last, whatever follows
abbrev pub EndsAtLast : Type 0
EndsAtLast = (number : ℕ) (bytes rest more : List ℕ) (request : Request)
    → StandsAt number bytes (Whole request rest) → request.keep ≡ false → Requests number (bytes ++ more) (request ∷ []) Closed

-- nothing is read behind a refusal, whatever follows
abbrev pub EndsAtRefusal : Type 0
EndsAtRefusal = (number : ℕ) (bytes more : List ℕ) (status : ℕ) → StandsAt number bytes (Refused status) → Requests number (bytes ++ more) [] (Bad status)
