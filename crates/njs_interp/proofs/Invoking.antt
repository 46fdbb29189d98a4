-- Calls of any value, and `new`: what they mean, by what is called.
use Rattle.std.proofs.Common.{◌≡◌, ℕ, zero, suc, ◌-◌, ◌≤◌, List, ◌++◌, map, Bool, true, false, Option, Some, None, Result, Ok, Err, refl, sym, ap, ◌∙◌, subst, arith}
use Rattle.std.specs.Prelude.{nat_lt, if◌then◌else◌}
use Rattle.std.specs.Option.{option_map_or}
use Rattle.std.proofs.lemmas.List.{map-append}
use Rattle.njs_value.specs.declared.Cause.{Cause}
use Rattle.njs_value.specs.declared.Cause.TheVariants.{NotFunction, NotConstructor, CallDepth}
use Rattle.njs_value.specs.declared.ObjId.{ObjId}
use Rattle.njs_value.specs.declared.Row.{Row}
use Rattle.njs_value.specs.declared.ScopeId.{ScopeId}
use Rattle.njs_value.specs.declared.Value.{Value}
use Rattle.njs_shared.specs.Heap.{Heap, Sizes}
use Rattle.njs_shared.specs.Fits.{FitsValue}
use Rattle.njs_clone.specs.Content.{content}
use Rattle.njs_code.specs.declared.code.Code.{Code}
use Rattle.njs_meaning.specs.Primitives.{Undefined}
use Rattle.njs_meaning.specs.Values.{PlainValue, Simple, ObjectAt}
use Rattle.njs_meaning.specs.PlainHeap.{Plain, Script, BuiltIn, Bound, ZoneNumber}
use Rattle.njs_meaning.specs.Errors.{name_of, throw}
use Rattle.njs_meaning.specs.Replies.{Known, state_of}
use Rattle.njs_meaning.specs.Running.{Calls, charge}
use Rattle.njs_meaning.specs.State.{State, Outcome, Gives, Throws, Spent, Asks}
use Rattle.njs_meaning.specs.Functions.{Program, inner_at, call_inner, construct_inner, with_further, calls_at}
use Rattle.njs_convert.specs.declared.stop.Stop.{Stop}
use Rattle.njs_convert.specs.declared.stop.Stop.TheVariants.{Throw, Fuel, NoMemory}
use Rattle.njs_convert.specs.Tells.{Tells, ShowsValue, Extends, ThrowsError, CountsError, Grows}
use Rattle.njs_convert.proofs.Thrown.{thrown}
use Rattle.njs_simul.specs.Asking.{Holding, CallsAlwaysEnd}
use Rattle.njs_simul.specs.Fits.{Names, Good, Fares, Fared, CallsFare}
use Rattle.njs_simul.specs.Program.{names_in}
use Rattle.njs_simul.proofs.Asking.{keeps_everywhere}
use Rattle.njs_simul.proofs.Program.{program_means}
use Rattle.njs_interp.specs.declared.own.Way.{Way}
use Rattle.njs_interp.specs.declared.own.Way.TheVariants as way
use Rattle.njs_interp.specs.Grown.{Widens}
use Rattle.njs_interp.specs.Hosts.{Answers}
use Rattle.njs_interp.specs.Owned.{stands_extends}
use Rattle.njs_interp.specs.Standing.{Stands, FitsWay, by_way, CallsKeep}
use Rattle.njs_interp.specs.Calling.{IsProgram, script_by, row_by, bound_way, may_enter, refusal, entered_by, entered}
use Rattle.njs_interp.proofs.Alone.{message_same}
use Rattle.njs_interp.proofs.Kept.{Widens-objects, Widens-scopes}

-- ---- by what an object is beside its properties

module _ (program : Program) (calls : Calls) (texts : List (List ℕ)) (f : ℕ) (args : List PlainValue) (s : State) where
  pub script_entered : (w : Way) (unit number : ℕ) (scope : ScopeId) → entered_by program calls texts w f (Script unit number scope) args s ≡ script_by program calls texts w unit number scope f args s
  script_entered (way.Call this) unit number scope = refl
  script_entered way.New unit number scope = refl

  pub row_entered : (means : Answers) → program.answers ≡ means → (w : Way) (row : Row) → entered_by program calls texts w f (BuiltIn row) args s ≡ row_by means calls texts w row args s
  row_entered means is (way.Call this) row = ap (λ (answers : Answers). answers calls row (content texts this) args false s) is
  row_entered means is way.New row = ap (λ (answers : Answers). answers calls row (Simple Undefined) args true s) is

  pub plain_entered : (w : Way) → entered_by program calls texts w f Plain args s ≡ throw (refusal w) s
  plain_entered (way.Call this) = refl
  plain_entered way.New = refl

  pub zone_entered : (w : Way) (zone : ℕ) → entered_by program calls texts w f (ZoneNumber zone) args s ≡ throw (refusal w) s
  zone_entered (way.Call this) zone = refl
  zone_entered way.New zone = refl

pub bound_entered : (program : Program) (calls : Calls) (texts : List (List ℕ)) (f : ℕ) (first args : List Value) (s : State) (w : Way) (target : ObjId) (this : Value)
    → entered_by program calls texts w f (Bound target (content texts this) (map (content texts) first)) (map (content texts) args) s
    ≡ charge 1 (by_way calls texts (bound_way w this) (ObjectAt target.0) (map (content texts) (first ++ args))) s
bound_entered program calls texts f first args s (way.Call own) target this = ap (λ vs. charge 1 (calls.call (ObjectAt target.0) (content texts this) vs) s) (sym (map-append (content texts) first args))
bound_entered program calls texts f first args s way.New target this = ap (λ vs. charge 1 (calls.construct (ObjectAt target.0) vs) s) (sym (map-append (content texts) first args))

-- ---- by how many calls may be active

abbrev further_of : Program → ℕ → Option Calls
further_of program zero = None
further_of program (suc n) = Some (calls_at program n)

calls_are : (program : Program) (n : ℕ) → calls_at program n ≡ with_further program (further_of program n)
calls_are program zero = refl
calls_are program (suc n) = refl

module _ (program : Program) (texts : List (List ℕ)) (args : List PlainValue) (s : State) where
  refused_by : (further : Option Calls) (w : Way) (v : PlainValue) → may_enter program w s.objects v ≡ false → by_way (with_further program further) texts w v args s ≡ throw (refusal w) s
  refused_by further (way.Call this) (Simple p) none = refl
  refused_by further (way.Call this) (ObjectAt f) none =
      ap (λ b. if b then option_map_or (λ calls. call_inner program calls (inner_at s.objects f) (content texts this) args s) further (throw CallDepth s) else throw NotFunction s) none
  refused_by further way.New (Simple p) none = refl
  refused_by further way.New (ObjectAt f) none =
      ap (λ b. if b then option_map_or (λ calls. construct_inner program calls f (inner_at s.objects f) args s) further (throw CallDepth s) else throw NotConstructor s) none

  -- what may not be called so
  pub refused_is : (n : ℕ) (w : Way) (v : PlainValue) → may_enter program w s.objects v ≡ false → by_way (calls_at program n) texts w v args s ≡ throw (refusal w) s
  refused_is n w v none = ap (λ calls. by_way calls texts w v args s) (calls_are program n) ∙ refused_by (further_of program n) w v none

  -- where no further call may be active
  pub deepest_is : (w : Way) (f : ℕ) → may_enter program w s.objects (ObjectAt f) ≡ true → by_way (calls_at program 0) texts w (ObjectAt f) args s ≡ throw CallDepth s
  deepest_is (way.Call this) f may = ap (λ b. if b then throw CallDepth s else throw NotFunction s) may
  deepest_is way.New f may = ap (λ b. if b then throw CallDepth s else throw NotConstructor s) may

  -- and where some may
  pub entered_is : (n : ℕ) (w : Way) (f : ℕ) → may_enter program w s.objects (ObjectAt f) ≡ true → by_way (calls_at program (suc n)) texts w (ObjectAt f) args s ≡ entered program (calls_at program n) texts w f args s
  entered_is n (way.Call this) f may = ap (λ b. if b then call_inner program (calls_at program n) (inner_at s.objects f) (content texts this) args s else throw NotFunction s) may
  entered_is n way.New f may = ap (λ b. if b then construct_inner program (calls_at program n) f (inner_at s.objects f) args s else throw NotConstructor s) may

pub refusal_nameless : (w : Way) → name_of (refusal w) ≡ None
refusal_nameless (way.Call this) = refl
refusal_nameless way.New = refl

-- ---- what a host's machine stands for

module _ (keeps halted : Known → State → Type 0) (k : Known) (keeps_as : (s t : State) → t.response ≡ s.response → t.zones ≡ s.zones → t.asked ≡ s.asked → t.log ≡ s.log → keeps k s → keeps k t)
    (halts : (s : State) → keeps k s → halted k s) (halted_as : (s t : State) → t.zones ≡ s.zones → t.asked ≡ s.asked → halted k s → halted k t) where
  -- a new error of a cause without a name
  pub refused_tells : (ticks : ℕ) (h l : Heap) (cause : Cause) (stop : Stop) (s : State) → name_of cause ≡ None → Stands keeps ticks k h s → ThrowsError cause h l stop → Extends h l
      → Tells (Stands keeps ticks k l) (halted k) l.texts (ShowsValue l.texts) (Err stop) (throw cause s)
  refused_tells ticks h l cause stop s nameless stands throws extends =
      thrown (Stands keeps ticks k l) (halted k) h l (ShowsValue l.texts) cause stop s (sym stands.holds.heap.objects)
      (stands_extends keeps ticks k h l s (λ t a b c d kept. keeps_as s t a b c d kept) stands extends) (message_same h.texts cause nameless) throws
      (halted_as s _ refl refl (halts s stands.holds.kept))

-- what is paid for keeps what is known after want of memory
pub charge_keeps : (stopped : State → Type 0) (same : (s t : State) → t.zones ≡ s.zones → t.asked ≡ s.asked → stopped s → stopped t) (n : ℕ) (go : State → Outcome PlainValue) → ((t : State) → stopped t → stopped (state_of (go t)))
    → (s : State) → stopped s → stopped (state_of (charge n go s))
charge_keeps stopped same n go keep s before = by (nat_lt s.ticks n)
  where
    paid : State
    paid = record s { ticks = s.ticks - n }

    by : (few : Bool) → stopped (state_of (if few then Spent s else go paid))
    by true = before
    by false = keep paid (same s paid refl refl before)

pub by_way_keeps : (stopped : State → Type 0) (calls : Calls) → CallsKeep stopped calls → (texts : List (List ℕ)) (w : Way) (f : PlainValue) (args : List PlainValue) (s : State) → stopped s → stopped (state_of (by_way calls texts w f args s))
by_way_keeps stopped calls keep texts (way.Call this) f args s before = keep.call f (content texts this) args s before
by_way_keeps stopped calls keep texts way.New f args s before = keep.construct f args s before

-- ---- where a call leads

pub by_way_fares : (env : Names) (calls : Calls) → CallsFare env calls → (texts : List (List ℕ)) (w : Way) (f : PlainValue) (args : List PlainValue) (s : State) → Good env s → Fared env s (by_way calls texts w f args s)
by_way_fares env calls fare texts (way.Call this) f args s good = fare.call f (content texts this) args s good
by_way_fares env calls fare texts way.New f args s good = fare.construct f args s good

-- what is told of an outcome to which it leads
pub fared_tells : (env : Names) (holds fared stopped : State → Type 0) (texts : List (List ℕ)) (s : State) → ((t : State) → Fares env s t → holds t → fared t) → (r : Result Value Stop) (o : Outcome PlainValue) → Fared env s o
    → Tells holds stopped texts (ShowsValue texts) r o → Tells fared stopped texts (ShowsValue texts) r o
fared_tells env holds fared stopped texts s go (Ok v) (Gives a t) fares told = (told.0, go t fares told.1)
fared_tells env holds fared stopped texts s go (Ok v) (Throws w t) fares told = absurd told
fared_tells env holds fared stopped texts s go (Ok v) (Spent t) fares told = absurd told
fared_tells env holds fared stopped texts s go (Ok v) (Asks zone op t) fares told = absurd told
fared_tells env holds fared stopped texts s go (Err (Throw v)) (Gives a t) fares told = absurd told
fared_tells env holds fared stopped texts s go (Err (Throw v)) (Throws w t) fares told = (told.0, go t fares told.1)
fared_tells env holds fared stopped texts s go (Err (Throw v)) (Spent t) fares told = absurd told
fared_tells env holds fared stopped texts s go (Err (Throw v)) (Asks zone op t) fares told = absurd told
fared_tells env holds fared stopped texts s go (Err Fuel) (Gives a t) fares told = absurd told
fared_tells env holds fared stopped texts s go (Err Fuel) (Throws w t) fares told = absurd told
fared_tells env holds fared stopped texts s go (Err Fuel) (Spent t) fares told = go t fares told
fared_tells env holds fared stopped texts s go (Err Fuel) (Asks zone op t) fares told = absurd told
fared_tells env holds fared stopped texts s go (Err NoMemory) o fares told = told

-- ---- the calls of a program

module _ (means : Answers) (constructs : Row → Bool) (codes : List Code) (k : Known) (program : Program) (is : IsProgram means constructs codes k program) where
  pub calls_fare : ((env : Names) (calls : Calls) → CallsFare env calls → (row : Row) (this : PlainValue) (args : List PlainValue) (made : Bool) (s : State) → Good env s → Fared env s (means calls row this args made s))
      → (n : ℕ) → CallsFare k.around (calls_at program n)
  calls_fare answers n =
      let of = is.of_codes in
      let env : Names = names_in of.scripts of.outermost in
      subst (λ (env : Names). CallsFare env (calls_at program n)) (sym of.around)
      ((program_means of.scripts of.outermost).calls_fare program of.functions
      (λ calls fare row this args made s good. subst (λ (m : Answers). Fared env s (m calls row this args made s)) (sym is.answers) (answers env calls fare row this args made s good)) n)

  pub calls_keep : (stopped : State → Type 0) (same : (s t : State) → t.zones ≡ s.zones → t.asked ≡ s.asked → stopped s → stopped t)
      → ((calls : Calls) → ((f this : PlainValue) (args : List PlainValue) (s : State) → stopped s → stopped (state_of (calls.call f this args s)))
      → ((f : PlainValue) (args : List PlainValue) (s : State) → stopped s → stopped (state_of (calls.construct f args s)))
      → (row : Row) (this : PlainValue) (args : List PlainValue) (made : Bool) (s : State) → stopped s → stopped (state_of (means calls row this args made s)))
      → (n : ℕ) → CallsKeep stopped (calls_at program n)
  calls_keep stopped same answers n =
      let of = is.of_codes in
      let ends : CallsAlwaysEnd (Holding stopped) (calls_at program n) =
      (keeps_everywhere stopped (λ s t zones asked before. same s t zones asked before)).0 of.scripts program of.functions
      (λ calls keep row this args made s before. subst (λ (m : Answers). stopped (state_of (m calls row this args made s))) (sym is.answers)
      (answers calls (λ f this args s before. keep.call f this args s before) (λ f args s before. keep.construct f args s before) row this args made s before)) n
      in
      record { call = λ f this args s before. ends.call f this args s before; construct = λ f args s before. ends.construct f args s before }

-- ---- heaps

pub widens_grows : (h k : Heap) → Widens h k → Grows h k
widens_grows h k widens = record {
  objects = Widens-objects h k widens;
  scopes = Widens-scopes h k widens;
  shapes = λ at scope there. let same = widens.scopes at scope there in record { now = same.now; there = same.there; parent = same.parent; slots = same.slots };
  inner = λ at object there. let same = widens.objects at object there in record { now = same.now; there = same.there; inner = same.inner };
  more = widens.more;
  texts = widens.texts;
}

-- ---- steps

pub error_counted : (old new : ℕ) (stop : Stop) → CountsError old new stop → old ≤ new
error_counted old new (Throw v) counts = omega (arith, counts)
error_counted old new Fuel counts = absurd counts
error_counted old new NoMemory counts = omega (arith, counts)

-- ---- values

pub bound_fits : (n : Sizes) (w : Way) (this : Value) → FitsValue n this → FitsWay n (bound_way w this)
bound_fits n (way.Call own) this fits = fits
bound_fits n way.New this fits = tt
