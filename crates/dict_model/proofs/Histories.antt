-- Histories with one entry more, and the lists of several zones of which one changes.
use Rattle.std.proofs.Common.{◌≡◌, ◌<◌, ℕ, zero, suc, List, [], ◌∷◌, ◌++◌, length, map, set, get_or, refl, sym, ap, ◌∙◌, subst, arith, Some, Result, Ok, Err}
use Rattle.std.proofs.lemmas.List.{append-nil}
use Rattle.njs_text.specs.declared.memory.NoMemory.{NoMemory}
use Rattle.dict_model.specs.declared.operation.DictReply.{DictReply}
use Rattle.dict_model.specs.Calls.{Adds, Calls}
use Rattle.std.specs.Prelude.{slice_get}
use Rattle.std.specs.List.{AllByRecursion}
use Rattle.dict_model.specs.declared.operation.ZoneSpec.{ZoneSpec}
use Rattle.dict_model.specs.declared.operation.DictOp.{DictOp}
use Rattle.dict_model.specs.declared.operation.Entry.{Entry}
use Rattle.dict_model.specs.Zone.{State, IsValid, dict, empty}
use Rattle.dict_model.specs.History.{LegalFrom, state_from, own_entry, OwnHistory, OwnHistories, Begins, Later, HasLedTo}
use Rattle.dict_model.specs.Later.{later_reflexive}
use Rattle.dict_model.specs.PlainDicts.{OwnList}

legal_more : (spec : ZoneSpec) (s : State) (own : List Entry) (e : Entry) → LegalFrom spec s own → e.reply ≡ (dict spec (state_from spec s own) e.op e.reading).0 → LegalFrom spec s (own ++ e ∷ [])
legal_more spec s [] e legal answers = (answers, tt)
legal_more spec s (x ∷ own) e legal answers = (legal.0, legal_more spec (dict spec s x.op x.reading).1 own e legal.1 answers)

state_more : (spec : ZoneSpec) (s : State) (own : List Entry) (e : Entry) → state_from spec s (own ++ e ∷ []) ≡ (dict spec (state_from spec s own) e.op e.reading).1
state_more spec s [] e = refl
state_more spec s (x ∷ own) e = state_more spec (dict spec s x.op x.reading).1 own e

callers_more : (own : List Entry) (e : Entry) → AllByRecursion (λ e. e.caller ≡ 0) own → e.caller ≡ 0 → AllByRecursion (λ e. e.caller ≡ 0) (own ++ e ∷ [])
callers_more [] e all this = (this, tt)
callers_more (x ∷ own) e all this = (all.0, callers_more own e all.1 this)

-- one more call
pub led_more : (spec : ZoneSpec) (own : List Entry) (s new : State) (op : DictOp) (reading : ℕ) → HasLedTo spec own s → new ≡ (dict spec s op reading).1 → IsValid spec new → HasLedTo spec (own ++ own_entry spec s op reading ∷ []) new
led_more spec own s new op reading before is valid = record {
  is_own = (
    legal_more spec empty own (own_entry spec s op reading) before.is_own.0 (ap (λ s. (dict spec s op reading).0) (sym before.led)),
    callers_more own (own_entry spec s op reading) before.is_own.1 refl,
  );
  led = state_more spec empty own (own_entry spec s op reading) ∙ ap (λ s. (dict spec s op reading).1) before.led ∙ sym is;
  valid = valid;
}

-- one zone of several has changed
pub same_specs : (zones : List OwnList) (i : ℕ) (z new : OwnList) → i < length zones → z ≡ get_or zones i z → new.spec ≡ z.spec → map (λ z. z.spec) (set zones i new) ≡ map (λ z. z.spec) zones
same_specs [] i z new below is same = absurd (omega arith)
same_specs (x ∷ zones) zero z new below is same = ap (λ s. s ∷ map (λ z. z.spec) zones) (same ∙ ap (λ z. z.spec) is)
same_specs (x ∷ zones) (suc i) z new below is same = ap (λ s. x.spec ∷ s) (same_specs zones i z new (omega arith) is same)

pub own_changes : (zones : List OwnList) (i : ℕ) (new : OwnList) → map (λ z. z.own) (set zones i new) ≡ set (map (λ z. z.own) zones) i new.own
own_changes [] i new = refl
own_changes (x ∷ zones) zero new = refl
own_changes (x ∷ zones) (suc i) new = ap (λ s. x.own ∷ s) (own_changes zones i new)

pub own_was : (zones : List OwnList) (i : ℕ) (z : OwnList) → i < length zones → z ≡ get_or zones i z → slice_get (map (λ z. z.own) zones) i ≡ Some z.own
own_was [] i z below is = absurd (omega arith)
own_was (x ∷ zones) zero z below is = ap (λ z. Some z.own) (sym is)
own_was (x ∷ zones) (suc i) z below is = own_was zones i z (omega arith) is

pub spec_was : (zones : List OwnList) (i : ℕ) (z : OwnList) → i < length zones → z ≡ get_or zones i z → slice_get (map (λ z. z.spec) zones) i ≡ Some z.spec
spec_was [] i z below is = absurd (omega arith)
spec_was (x ∷ zones) zero z below is = ap (λ z. Some z.spec) (sym is)
spec_was (x ∷ zones) (suc i) z below is = spec_was zones i z (omega arith) is

pub is_zone : (zones : List OwnList) (i : ℕ) (spec : ZoneSpec) → slice_get (map (λ z. z.spec) zones) i ≡ Some spec → i < length zones
is_zone [] i spec exists = absurd (cc)
is_zone (x ∷ zones) zero spec exists = omega arith
is_zone (x ∷ zones) (suc i) spec exists = let below = is_zone zones i spec exists in omega arith

pub later_changes : (zones : List OwnList) (i : ℕ) (z new : OwnList) → i < length zones → z ≡ get_or zones i z → Begins z.own new.own → Later (map (λ z. z.own) zones) (map (λ z. z.own) (set zones i new))
later_changes [] i z new below is begins = absurd (omega arith)
later_changes (x ∷ zones) zero z new below is begins = (subst (λ z. Begins z.own new.own) is begins, later_reflexive (map (λ z. z.own) zones))
later_changes (x ∷ zones) (suc i) z new below is begins = ((later_reflexive (x.own ∷ [])).0, later_changes zones i z new (omega arith) is begins)

pub histories_change : (zones : List OwnList) (i : ℕ) (new : OwnList) → OwnHistories (map (λ z. z.spec) zones) (map (λ z. z.own) zones) → OwnHistory new.spec new.own → OwnHistories (map (λ z. z.spec) (set zones i new)) (map (λ z. z.own) (set zones i new))
histories_change [] i new all this = tt
histories_change (x ∷ zones) zero new all this = (this, all.1)
histories_change (x ∷ zones) (suc i) new all this = (all.0, histories_change zones i new all.1 this)

-- zones that were asked nothing
pub none_asked : (zones : List OwnList) → AllByRecursion (λ z. z.own ≡ []) zones → OwnHistories (map (λ z. z.spec) zones) (map (λ z. z.own) zones)
none_asked [] all = tt
none_asked (x ∷ zones) all = (subst (OwnHistory x.spec) (sym all.0) (tt, tt), none_asked zones all.1)

pub none_asked_more : (zones : List OwnList) (new : OwnList) → AllByRecursion (λ z. z.own ≡ []) zones → new.own ≡ [] → AllByRecursion (λ z. z.own ≡ []) (zones ++ new ∷ [])
none_asked_more [] new all this = (this, tt)
none_asked_more (x ∷ zones) new all this = (all.0, none_asked_more zones new all.1 this)

pub none_own : (zones : List OwnList) (specs : List ZoneSpec) → AllByRecursion (λ z. z.own ≡ []) zones → map (λ z. z.spec) zones ≡ specs → map (λ z. z.own) zones ≡ map (λ spec. []) specs
none_own zones specs all is = each zones all ∙ ap (map (λ spec. [])) is
  where
    each : (zones : List OwnList) → AllByRecursion (λ z. z.own ≡ []) zones → map (λ z. z.own) zones ≡ map (λ spec. []) (map (λ z. z.spec) zones)
    each [] all = refl
    each (x ∷ zones) all = ap (λ own. own ∷ map (λ z. z.own) zones) all.0 ∙ ap (λ owns. [] ∷ owns) (each zones all.1)

same_own : (zones : List OwnList) (i : ℕ) (z new : OwnList) → i < length zones → z ≡ get_or zones i z → new.own ≡ z.own → map (λ z. z.own) (set zones i new) ≡ map (λ z. z.own) zones
same_own [] i z new below is same = absurd (omega arith)
same_own (x ∷ zones) zero z new below is same = ap (λ s. s ∷ map (λ z. z.own) zones) (same ∙ ap (λ z. z.own) is)
same_own (x ∷ zones) (suc i) z new below is same = ap (λ s. x.own ∷ s) (same_own zones i z new (omega arith) is same)

-- a call of one zone is a call of the zones
pub calls_of : (zones : List OwnList) (i : ℕ) (z new : OwnList) (op : DictOp) (reading : ℕ) (result : Result DictReply NoMemory) → i < length zones → z ≡ get_or zones i z → Adds z.spec z.own new.own op reading result
    → Calls (map (λ z. z.spec) zones) (map (λ z. z.own) zones) (map (λ z. z.own) (set zones i new)) i op reading result
calls_of zones i z new op reading (Ok reply) below is adds = record {
  spec = z.spec;
  exists = spec_was zones i z below is;
  before = z.own;
  was = own_was zones i z below is;
  after = new.own;
  changed = own_changes zones i new;
  adds = adds;
}
calls_of zones i z new op reading (Err want) below is same = same_own zones i z new below is same

pub begins_of : (spec : ZoneSpec) (old new : List Entry) (op : DictOp) (reading : ℕ) (result : Result DictReply NoMemory) → Adds spec old new op reading result → Begins old new
begins_of spec old new op reading (Ok reply) adds = (record { caller = adds.caller; op = op; reading = reading; reply = reply } ∷ [], sym adds.grown)
begins_of spec old new op reading (Err want) same = ([], append-nil old ∙ sym same)
