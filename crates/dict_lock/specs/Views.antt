-- What a seat knows, and how a step changes it.
use Rattle.std.specs.Prelude.{◌≡◌, ◌≢◌, ℕ, zero, suc, ◌+◌, ◌-◌, ◌<◌, ◌≤◌, List, [], ◌∷◌, ◌++◌, length, drop, max, cond, false, nat_lt, ◌==◌, Option, Some, None}
use Rattle.std.specs.List.{AllByRecursion}
use Rattle.dict_model.specs.declared.operation.DictOp.{DictOp}
use Rattle.dict_model.specs.declared.operation.DictReply.{DictReply}
use Rattle.dict_model.specs.declared.operation.Entry.{Entry}
use Rattle.dict_model.specs.declared.operation.ZoneSpec.{ZoneSpec}
use Rattle.dict_model.specs.History.{Legal}
use Rattle.dict_lock.specs.declared.view.Turn.{Turn}
use Rattle.dict_lock.specs.declared.view.Turn.TheVariants.{Idle, Waits, Holds}
use Rattle.dict_lock.specs.declared.view.ZoneView.{ZoneView}
use Rattle.dict_lock.specs.Weights.{total}

abbrev pub zone_view : ZoneSpec → Option ℕ → List ℕ → List (ℕ × ℕ) → List Entry → List Entry → ℕ → Turn → ℕ → List Entry → ZoneView
zone_view of own mine closed seen told made turn ticket whole = record { of = of; own = own; mine = mine; closed = closed; seen = seen; told = told; made = made; turn = turn; ticket = ticket; whole = whole }

-- the places, from k on, at which the caller's entries stand
abbrev pub places_from : ℕ → ℕ → List Entry → List ℕ
places_from k n [] = []
places_from k n (e ∷ es) = cond (e.caller == n) (k ∷ places_from (k + 1) n es) (places_from (k + 1) n es)

abbrev pub places_of : ℕ → List Entry → List ℕ
places_of n log = places_from 0 n log

-- the entry of an answered call
abbrev pub entry_by : ℕ → DictOp → ℕ → DictReply → Entry
entry_by caller op reading reply = record { caller = caller; op = op; reading = reading; reply = reply }

-- the entries of one caller
abbrev pub calls_by : ℕ → List Entry → List Entry
calls_by n [] = []
calls_by n (e ∷ es) = cond (e.caller == n) (e ∷ calls_by n es) (calls_by n es)

-- no entry at or past the bound is the caller's
abbrev pub IsQuiet : ℕ → ℕ → List Entry → Type 0
IsQuiet n bound log = AllByRecursion (λ e. e.caller ≢ n) (drop bound log)

abbrev pub AllMade : ℕ → List Entry → Type 0
AllMade made log = AllByRecursion (λ e. e.caller < made) log

-- the closed numbers' entries all stand before their bounds, which lie within a history of this length
abbrev pub ClosedFit : List Entry → ℕ → List (ℕ × ℕ) → Type 0
ClosedFit log long closed = AllByRecursion (λ c. (c.1 ≤ long) × IsQuiet c.0 c.1 log) closed

-- the places are those of the caller's entries in what was seen
abbrev pub PlacesFit : List Entry → List ℕ → Option ℕ → Type 0
PlacesFit seen mine None = Unit {0}
PlacesFit seen mine (Some n) = mine ≡ places_of n seen

abbrev pub longer : List Entry → List Entry → List Entry
longer xs ys = cond (nat_lt (length xs) (length ys)) ys xs

-- n numbers from k on that no caller has had
abbrev pub spare_from : ℕ → ℕ → List (ℕ × ℕ)
spare_from k zero = []
spare_from k (suc n) = (k, 0) ∷ spare_from (k + 1) n

-- the first view of a zone, which has all numbers that it begins with
abbrev pub first_view : ZoneSpec → ℕ → ZoneView
first_view of count = zone_view of (Some 0) [] (spare_from 1 (count - 1)) [] [] count Idle 0 []

abbrev pub waits : ZoneView → ℕ → ZoneView
waits v ticket = zone_view v.of v.own v.mine v.closed v.seen v.told v.made Waits ticket []

abbrev pub holds : ZoneView → List Entry → ℕ → ZoneView
holds v whole next = zone_view v.of v.own v.mine v.closed v.seen v.told next Holds v.ticket whole

-- the entry comes after the longest history
abbrev pub adds : ZoneView → Entry → ZoneView
adds v e = zone_view v.of v.own (v.mine ++ length v.whole ∷ []) v.closed (v.whole ++ e ∷ []) v.told v.made Holds v.ticket (v.whole ++ e ∷ [])

abbrev pub rests : ZoneView → ZoneView
rests v = zone_view v.of v.own v.mine v.closed v.seen v.told v.made Idle 0 []

-- in a turn, one more number is handed out
abbrev pub hands_out : ZoneView → ZoneView
hands_out v = zone_view v.of v.own v.mine v.closed v.seen v.told (v.made + 1) v.turn v.ticket v.whole

-- a caller of its own, which has seen the same
abbrev pub newcomer : ZoneView → ZoneView
newcomer v = zone_view v.of (Some v.made) [] [] v.seen [] (v.made + 1) Idle 0 []

-- the first view may keep numbers that no caller has had, as closed ones with bound 0, and deal them
abbrev pub deals_from : ZoneView → List (ℕ × ℕ) → ZoneView
deals_from v rest = zone_view v.of v.own v.mine rest v.seen v.told v.made v.turn v.ticket v.whole

abbrev pub dealt : ZoneView → ℕ → ZoneView
dealt v number = zone_view v.of (Some number) [] [] v.seen [] v.made Idle 0 []

-- a note of what was seen
abbrev pub note : ZoneView → ZoneView
note v = zone_view v.of None [] [] v.seen [] v.made Idle 0 []

-- the spec of a view that is no caller's
abbrev pub no_spec : ZoneSpec
no_spec = record { name = []; limit = 0; timeout = None; numeric = false; evict = false }

-- what is left of a seat that was joined into another
abbrev pub spent : ZoneView
spent = zone_view no_spec None [] [] [] [] 0 Idle 0 []

-- a number that is closed with a history of this length
abbrev pub closing : Option ℕ → ℕ → List (ℕ × ℕ)
closing None long = []
closing (Some n) long = (n, long) ∷ []

-- it is told what the other has seen, and takes over its numbers
abbrev pub takes_over : ZoneView → ZoneView → ZoneView
takes_over v w = zone_view v.of v.own v.mine ((v.closed ++ closing w.own (length w.seen)) ++ w.closed) v.seen w.seen (max v.made w.made) v.turn v.ticket v.whole

-- it takes in what it was told
abbrev pub hears : ZoneView → ZoneView
hears v = zone_view v.of v.own v.mine v.closed (longer v.seen v.told) [] v.made v.turn v.ticket v.whole

-- how much its numbers weigh
abbrev pub own_weight : (ℕ → ℕ) → Option ℕ → ℕ
own_weight f None = 0
own_weight f (Some n) = f n

abbrev pub owns : (ℕ → ℕ) → ZoneView → ℕ
owns f v = own_weight f v.own + total (λ c. f c.0) v.closed

abbrev pub ticket_weight : (ℕ → ℕ) → Turn → ℕ → ℕ
ticket_weight f Idle k = 0
ticket_weight f Waits k = f k
ticket_weight f Holds k = f k

abbrev pub turn_weight : (ℕ → ℕ) → Turn → ℕ → ℕ
turn_weight f Idle k = 0
turn_weight f Waits k = 0
turn_weight f Holds k = f k

-- how much its ticket weighs, and how much where it is in a turn
abbrev pub in_line : (ℕ → ℕ) → ZoneView → ℕ
in_line f v = ticket_weight f v.turn v.ticket

abbrev pub in_turn : (ℕ → ℕ) → ZoneView → ℕ
in_turn f v = turn_weight f v.turn v.ticket

-- what was seen is legal, and the numbers, places and bounds fit it
pub record SeenWell (v : ZoneView) : Type 0 where
  pub legal : Legal v.of v.seen
  pub made : AllMade v.made v.seen
  pub few : v.made < 4294967296
  pub places : PlacesFit v.seen v.mine v.own
  pub closed : ClosedFit v.seen (length v.seen) v.closed

-- a seat that is given out
pub record IsSettled (v : ZoneView) : Type 0 where
  pub idle : v.turn ≡ Idle
  pub heard : v.told ≡ []
  pub well : SeenWell v
