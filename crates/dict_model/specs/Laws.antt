-- Laws of the dictionary.
use Rattle.std.specs.Prelude.{◌≡◌, ◌≤◌, ℕ, max, List, ◌∷◌, ◌++◌, Some}
use Rattle.dict_model.specs.declared.operation.DictOp.{DictOp}
use Rattle.dict_model.specs.declared.operation.ZoneSpec.{ZoneSpec}
use Rattle.dict_model.specs.declared.operation.Kept.{Kept}
use Rattle.dict_model.specs.Zone.{dict}

-- an entry whose expiry is at or below the moment changes neither the reply nor the state
abbrev pub ExpiredIsGone : Type 0
ExpiredIsGone = (spec : ZoneSpec) (front back : List Kept) (e : Kept) (expiry moment reading : ℕ) (op : DictOp) → e.expiry ≡ Some expiry → expiry ≤ max moment reading
    → dict spec (record { entries = front ++ e ∷ back; moment = moment }) op reading ≡ dict spec (record { entries = front ++ back; moment = moment }) op reading
