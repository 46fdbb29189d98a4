-- Where the entries of a key, and the earliest of the others, stand in a list.
use Rattle.std.specs.Prelude.{◌≡◌, ◌≤◌, ◌<◌, ℕ, Bool, true, false, List, [], ◌∷◌, ◌++◌, length, remove, slice_set, not, ◌&&◌, ◌||◌, is_none, nat_lt, Option, Some, None}
use Rattle.std.specs.List.{AllByRecursion}
use Rattle.dict_model.specs.declared.operation.Kept.{Kept}
use Rattle.dict_model.specs.Eviction.{has_key, due}
use Rattle.dict_model.specs.Zone.{without, put}

-- the key's entry stands at a place, where a new one takes its place
pub record IsPlace (key : List ℕ) (es : List Kept) (place : ℕ) : Type 0 where
  pub below : place < length es
  pub removed : without key es ≡ remove es place
  pub replaced : (new : Kept) → new.key ≡ key → put new es ≡ slice_set es place new

-- the key has no entry, and a new one goes last
pub record IsNowhere (key : List ℕ) (es : List Kept) : Type 0 where
  pub removed : without key es ≡ es
  pub added : (new : Kept) → new.key ≡ key → put new es ≡ es ++ new ∷ []

abbrev pub PlaceOf : List ℕ → List Kept → Option ℕ → Type 0
PlaceOf key es (Some place) = IsPlace key es place
PlaceOf key es None = IsNowhere key es

-- unless it is the key's, an entry expires after a time, or not before it
abbrev pub ExpiresAfter : List ℕ → ℕ → Kept → Type 0
ExpiresAfter key time e = has_key key e ≡ false → time < due e

abbrev pub NotBefore : List ℕ → ℕ → Kept → Type 0
NotBefore key time e = has_key key e ≡ false → time ≤ due e

-- the entry at a place is the first of those with the least expiry, the key's left out
pub record IsEarliest (key : List ℕ) (es : List Kept) (place time : ℕ) : Type 0 where
  pub front : List Kept
  pub entry : Kept
  pub back : List Kept
  pub split : es ≡ front ++ entry ∷ back
  pub at : length front ≡ place
  pub expires : due entry ≡ time
  pub other : has_key key entry ≡ false
  pub later : AllByRecursion (ExpiresAfter key time) front
  pub none_before : AllByRecursion (NotBefore key time) back

abbrev pub EarliestOf : List ℕ → List Kept → Option ℕ → ℕ → Type 0
EarliestOf key es (Some place) time = IsEarliest key es place time
EarliestOf key es None time = AllByRecursion (λ e. has_key key e ≡ true) es

abbrev pub Earliest : List ℕ → List Kept → Option ℕ → Type 0
Earliest key es result = (time : ℕ) × EarliestOf key es result time

-- an entry goes before the one that went first so far, if there was one
abbrev pub goes_first : List ℕ → Option ℕ → ℕ → Kept → Bool
goes_first key so_far time e = not (has_key key e) && (is_none so_far || nat_lt (due e) time)
