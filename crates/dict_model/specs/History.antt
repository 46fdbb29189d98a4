-- Histories of a zone.
use Rattle.std.specs.Prelude.{◌≡◌, ℕ, List, [], ◌∷◌, ◌++◌}
use Rattle.std.specs.List.{AllByRecursion}
use Rattle.dict_model.specs.declared.operation.ZoneSpec.{ZoneSpec}
use Rattle.dict_model.specs.declared.operation.DictOp.{DictOp}
use Rattle.dict_model.specs.declared.operation.Entry.{Entry}
use Rattle.dict_model.specs.Zone.{State, IsValid, empty, dict}

-- each entry's reply is the dictionary's at its place
abbrev pub LegalFrom : ZoneSpec → State → List Entry → Type 0
LegalFrom spec s [] = Unit {0}
LegalFrom spec s (e ∷ es) = (e.reply ≡ (dict spec s e.op e.reading).0) × LegalFrom spec (dict spec s e.op e.reading).1 es

abbrev pub Legal : ZoneSpec → List Entry → Type 0
Legal spec history = LegalFrom spec empty history

-- the state after a history
abbrev pub state_from : ZoneSpec → State → List Entry → State
state_from spec s [] = s
state_from spec s (e ∷ es) = state_from spec (dict spec s e.op e.reading).1 es

abbrev pub state_after : ZoneSpec → List Entry → State
state_after spec history = state_from spec empty history

-- the entry of an answered call of the caller with the number 0
abbrev pub own_entry : ZoneSpec → State → DictOp → ℕ → Entry
own_entry spec s op reading = record { caller = 0; op = op; reading = reading; reply = (dict spec s op reading).0 }

-- a legal history whose entries are all of the caller with the number 0
abbrev pub OwnHistory : ZoneSpec → List Entry → Type 0
OwnHistory spec own = Legal spec own × AllByRecursion (λ e. e.caller ≡ 0) own

abbrev pub OwnHistories : List ZoneSpec → List (List Entry) → Type 0
OwnHistories [] [] = Unit {0}
OwnHistories (spec ∷ specs) (own ∷ owns) = OwnHistory spec own × OwnHistories specs owns
OwnHistories _ _ = ⊥

-- one list begins with the other
abbrev pub Begins : List Entry → List Entry → Type 0
Begins old new = (more : List Entry) × (old ++ more ≡ new)

-- the lists of the same zones, each of which begins with the earlier one
abbrev pub Later : List (List Entry) → List (List Entry) → Type 0
Later [] [] = Unit {0}
Later (old ∷ olds) (new ∷ news) = Begins old new × Later olds news
Later _ _ = ⊥

-- a zone, the calls that were answered, and nothing else, have led to a state
pub record HasLedTo (spec : ZoneSpec) (own : List Entry) (state : State) : Type 0 where
  pub is_own : OwnHistory spec own
  pub led : state_after spec own ≡ state
  pub valid : IsValid spec state
