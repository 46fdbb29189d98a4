-- One turn of the loop over a function's code: what the operation did is what the run does next.
use Rattle.std.proofs.Common.{◌≡◌, ℕ, ◌-◌, List, ◌∷◌, length, Option, Some, None, Result, Ok, Err, refl, sym, ap, subst, ◌∙◌, arith}
use Rattle.std.specs.Prelude.{OnOk, OnErr}
use Rattle.njs_value.specs.declared.Value.{Value}
use Rattle.njs_value.specs.declared.Value.TheVariants as value
use Rattle.njs_text.specs.declared.memory.NoMemory.{NoMemory}
use Rattle.njs_shared.specs.Heap.{Heap, sizes}
use Rattle.njs_code.specs.declared.op.Address.{Address}
use Rattle.njs_code.specs.declared.op.Op.{Op}
use Rattle.njs_code.specs.declared.code.FunctionCode.{FunctionCode}
use Rattle.njs_code.specs.Effects.{depth_next, depth_at_jump}
use Rattle.njs_code.specs.Facts.{StandsAt, JumpStands, PartRule}
use Rattle.njs_meaning.specs.Values.{PlainValue}
use Rattle.njs_meaning.specs.State.{State, Outcome, Gives, Throws, Spent, Asks}
use Rattle.njs_meaning.specs.Replies.{state_of}
use Rattle.njs_meaning.specs.Running.{Calls}
use Rattle.njs_convert.specs.declared.stop.Stop.{Stop}
use Rattle.njs_convert.specs.declared.stop.Stop.TheVariants.{Throw, Fuel}
use Rattle.njs_convert.specs.declared.stop.Stop.TheVariants as stop
use Rattle.njs_convert.specs.Tells.{Tells, ShowsValue}
use Rattle.njs_simul.specs.Stacks as plain
use Rattle.njs_simul.specs.Stacks.{Frame, Ended, Thrown}
use Rattle.njs_simul.specs.Step.{Action, Goes, Ends, Leads, Stuck, act, from, ended_by}
use Rattle.njs_simul.specs.Runs.{Runs, LeadsOut}
use Rattle.njs_simul.specs.Fits.{Names, Good, CallsFare}
use Rattle.njs_simul.specs.Asking.{Holding, CallsEnd}
use Rattle.njs_simul.proofs.AskingSteps.{IsThrough}
use Rattle.njs_simul.proofs.AskingRuns.{run_to}
use Rattle.njs_interp.specs.declared.next.Next.{Next}
use Rattle.njs_interp.specs.declared.next.Next.TheVariants as next
use Rattle.njs_interp.specs.declared.stacks.Ending.{Ending}
use Rattle.njs_interp.specs.declared.stacks.Ending.TheVariants as ending
use Rattle.njs_interp.specs.declared.stacks.Stacks.{Stacks}
use Rattle.njs_interp.specs.declared.turn.Turned.{Turned}
use Rattle.njs_interp.specs.Plain.{plain_ending, plain_stacks}
use Rattle.njs_interp.specs.Sits.{Sits, FitsEnding, Ready}
use Rattle.njs_interp.specs.Acts.{Below, state_in}
use Rattle.njs_interp.specs.Jumps.{ActsNext, LeavesNext}
use Rattle.njs_interp.specs.Standing.{CallsKeep}
use Rattle.njs_interp.specs.Leading.{LedTo, LeavesLed, Further}
use Rattle.njs_interp.specs.Stepping.{GoesTo, Steps}
use Rattle.njs_interp.specs.Turning.{over, turned_by, LeadsTo, WentOn, TurnTells, Turns, LeavesTurned, Onward}
use Rattle.njs_interp.proofs.Leading.{from_at, same_first, same_at, StandsOn, next_stands}

-- ---- the run

pub good_at : (good : State → Type 0) (frame : Frame) (code : List Op) (outcome : Outcome PlainValue) (rest : List Op) (st : plain.Stacks) (s : State) → Runs good frame code outcome rest st s → good s
good_at good frame code outcome rest st s (Runs.goes op behind _ _ after next t here is run) = here
good_at good frame code outcome rest st s (Runs.ends op behind _ _ here is) = here
good_at good frame code outcome rest st s (Runs.leads op behind _ _ e after t here is out) = here

module _ (good : State → Type 0) (frame : Frame) (code : List Op) (outcome : Outcome PlainValue) where
  -- how a run goes on after what its first operation does
  abbrev pub Acted : Option Address → Action → Type 0
  Acted around (Goes rest st t) = Runs good frame code outcome rest st t
  Acted around (Ends o) = o ≡ outcome
  Acted around (Leads e st t) = LeadsOut good frame code outcome around e st t
  Acted around Stuck = ⊥

  pub acted : (rest : List Op) (op : Op) (behind : List Op) (st : plain.Stacks) (s : State) → rest ≡ op ∷ behind → Runs good frame code outcome rest st s → Acted op.around (act frame code op.kind behind st s)
  acted rest op behind st s here (Runs.goes o others _ _ next after t fine is run) =
      let first = same_first good frame code outcome o op others behind rest refl here in
      subst (Acted op.around) (sym is ∙ ap (λ (o : Op). act frame code o.kind others st s) first.0 ∙ ap (λ r. act frame code op.kind r st s) first.1) run
  acted rest op behind st s here (Runs.ends o others _ _ fine is) =
      let first = same_first good frame code outcome o op others behind rest refl here in
      subst (Acted op.around) (sym is ∙ ap (λ (o : Op). act frame code o.kind others st s) first.0 ∙ ap (λ r. act frame code op.kind r st s) first.1) refl
  acted rest op behind st s here (Runs.leads o others _ _ e after t fine is out) =
      let first = same_first good frame code outcome o op others behind rest refl here in
      subst (Acted op.around) (sym is ∙ ap (λ (o : Op). act frame code o.kind others st s) first.0 ∙ ap (λ r. act frame code op.kind r st s) first.1)
      (subst (λ (o : Op). LeadsOut good frame code outcome o.around e after t) first.0 out)

-- ---- after want of memory

module _ (env : Names) (frame : Frame) (stopped : State → Type 0) (fare : CallsFare env frame.calls) (keep : CallsKeep stopped frame.calls) (same : (s t : State) → t.zones ≡ s.zones → t.asked ≡ s.asked → stopped s → stopped t) where
  through : IsThrough (Holding stopped)
  through = record { same = same; join = λ s t u a b before. b (a before) }

  ends : CallsEnd (Holding stopped) env frame.calls
  ends = record { call = λ f this args s good. keep.call f this args s; construct = λ f args s good. keep.construct f args s }

  -- the rest of a run keeps what is known
  pub run_stopped : (code : List Op) (outcome : Outcome PlainValue) (rest : List Op) (st : plain.Stacks) (s : State) → Runs (Good env) frame code outcome rest st s → stopped s → stopped (state_of outcome)
  run_stopped code outcome rest st s run = run_to (Holding stopped) through env frame code fare ends outcome run

  ended_stopped : (e : plain.Ending) (s : State) → stopped s → stopped (state_of (ended_by e s))
  ended_stopped (Ended c) s before = before
  ended_stopped (Thrown v) s before = before

  out_stopped : (code : List Op) (outcome : Outcome PlainValue) (around : Option Address) (e : plain.Ending) (st : plain.Stacks) (s : State) → LeadsOut (Good env) frame code outcome around e st s → stopped s → stopped (state_of outcome)
  out_stopped code outcome around e st s (LeadsOut.over _ _ _ is) before = subst (λ o. stopped (state_of o)) is (ended_stopped e s before)
  out_stopped code outcome around e st s (LeadsOut.taken_up at op rest _ _ _ next after here within is run) before = run_stopped code outcome next after s run before
  out_stopped code outcome around e st s (LeadsOut.passed_by at op rest _ _ _ here within is out) before = out_stopped code outcome op.around e st s out before

  acted_stopped : (code : List Op) (outcome : Outcome PlainValue) (around : Option Address) (a : Action) → Acted (Good env) frame code outcome around a → state_in a stopped → stopped (state_of outcome)
  acted_stopped code outcome around (Goes rest st t) run before = run_stopped code outcome rest st t run before
  acted_stopped code outcome around (Ends o) is before = subst (λ o. stopped (state_of o)) is before
  acted_stopped code outcome around (Leads e st t) out before = out_stopped code outcome around e st t out before
  acted_stopped code outcome around Stuck run before = absurd run

  module _ (holds : State → Type 0) (stops : (t : State) → holds t → Good env t → stopped t) (texts : List (List ℕ)) (f : FunctionCode) (outcome : Outcome PlainValue) where
    abbrev Told : Stacks → Result Turned Stop → Type 0
    Told after r = TurnTells env holds stopped texts frame f.ops outcome (plain_stacks texts after) r

    over_told : (e : Ending) (after : Stacks) (t : State) → ended_by (plain_ending texts e) t ≡ outcome → holds t → Told after (over e)
    over_told ending.Normal after t is here = subst (λ o. Tells holds stopped texts (ShowsValue texts) (Ok value.Undefined) o) is (refl, here)
    over_told (ending.Returned v) after t is here = subst (λ o. Tells holds stopped texts (ShowsValue texts) (Ok v) o) is (refl, here)
    over_told (ending.Broken label) after t is here = subst (λ o. Tells holds stopped texts (ShowsValue texts) (Ok value.Undefined) o) is (refl, here)
    over_told (ending.Continued label) after t is here = subst (λ o. Tells holds stopped texts (ShowsValue texts) (Ok value.Undefined) o) is (refl, here)
    over_told (ending.Thrown v) after t is here = subst (λ o. Tells holds stopped texts (ShowsValue texts) (Err (Throw v)) o) is (refl, here)

    led_told : (e : Ending) (after : Stacks) (t : State) (to : Result (Option ℕ) NoMemory) → LedTo env frame f.ops outcome (plain_ending texts e) (plain_stacks texts after) t to → holds t → Told after (turned_by e to)
    led_told e after t (Ok (Some place)) run here = (t, here, run)
    led_told e after t (Ok None) is here = over_told e after t is here
    led_told e after t (Err refused) on here =
        run_stopped f.ops outcome on.next on.after t on.runs (stops t here (good_at (Good env) frame f.ops outcome on.next on.after t on.runs))

    leads_told : (place : ℕ) (op : Op) (e : Ending) (before after : Stacks) (st : plain.Stacks) (t : State) (r : Result Turned Stop) → LeadsTo f place op e before after r
        → Below st (plain_stacks texts before) → LeadsOut (Good env) frame f.ops outcome op.around (plain_ending texts e) st t → holds t → Told after r
    leads_told place op e before after st t r leads below out here =
        subst (Told after) (sym leads.is) (led_told e after t leads.to (leads.led.by env frame outcome texts st t below out) here)

    module _ (place : ℕ) (op : Op) (before after : Stacks) where
      -- what the operation answered, as a turn
      pub went_told : (answer : Result Next Stop) (r : Result Turned Stop) (a : Action) → Acted (Good env) frame f.ops outcome op.around a
          → ActsNext holds stopped texts (from frame f.ops) (from frame f.ops (place - 1)) (plain_stacks texts before) answer a
          → WentOn f place op before after answer r → Told after r
      went_told (Ok next.On) r (Goes rest st t) run told went =
          subst (Told after) (sym went.0)
          (t, told.2, subst (λ st. Runs (Good env) frame f.ops outcome (from frame f.ops (place - 1)) st t) (told.1 ∙ ap (plain_stacks texts) (sym went.1)) (subst (λ ops. Runs (Good env) frame f.ops outcome ops st t) told.0 run))
      went_told (Ok next.On) r (Ends (Gives v t)) run told went = absurd told
      went_told (Ok next.On) r (Ends (Throws v t)) run told went = absurd told
      went_told (Ok next.On) r (Ends (Spent t)) run told went = absurd told
      went_told (Ok next.On) r (Ends (Asks zone q t)) run told went = absurd told
      went_told (Ok next.On) r (Leads (Ended c) st t) run told went = absurd told
      went_told (Ok next.On) r (Leads (Thrown w) st t) run told went = absurd told
      went_told (Ok next.On) r Stuck run told went = absurd run
      went_told (Ok (next.To to)) r (Goes rest st t) run told went =
          subst (Told after) (sym went.0)
          (t, told.2, subst (λ st. Runs (Good env) frame f.ops outcome (from frame f.ops to.0) st t) (told.1 ∙ ap (plain_stacks texts) (sym went.1)) (subst (λ ops. Runs (Good env) frame f.ops outcome ops st t) told.0 run))
      went_told (Ok (next.To to)) r (Ends (Gives v t)) run told went = absurd told
      went_told (Ok (next.To to)) r (Ends (Throws v t)) run told went = absurd told
      went_told (Ok (next.To to)) r (Ends (Spent t)) run told went = absurd told
      went_told (Ok (next.To to)) r (Ends (Asks zone q t)) run told went = absurd told
      went_told (Ok (next.To to)) r (Leads (Ended c) st t) run told went = absurd told
      went_told (Ok (next.To to)) r (Leads (Thrown w) st t) run told went = absurd told
      went_told (Ok (next.To to)) r Stuck run told went = absurd run
      went_told (Ok (next.Out e)) r (Goes rest st t) run told went = absurd told
      went_told (Ok (next.Out e)) r (Ends (Gives v t)) run told went = absurd told
      went_told (Ok (next.Out e)) r (Ends (Throws v t)) run told went = absurd told
      went_told (Ok (next.Out e)) r (Ends (Spent t)) run told went = absurd told
      went_told (Ok (next.Out e)) r (Ends (Asks zone q t)) run told went = absurd told
      went_told (Ok (next.Out e)) r (Leads (Ended c) st t) out told went =
          leads_told place op e before after st t r went told.1 (subst (λ w. LeadsOut (Good env) frame f.ops outcome op.around w st t) (sym told.0) out) told.2
      went_told (Ok (next.Out e)) r (Leads (Thrown w) st t) out told went =
          leads_told place op e before after st t r went told.1 (subst (λ w. LeadsOut (Good env) frame f.ops outcome op.around w st t) (sym told.0) out) told.2
      went_told (Ok (next.Out e)) r Stuck run told went = absurd run
      went_told (Err (Throw x)) r (Goes rest st t) run told went = absurd told
      went_told (Err (Throw x)) r (Ends (Gives v t)) run told went = absurd told
      went_told (Err (Throw x)) r (Ends (Throws v t)) run told went = absurd told
      went_told (Err (Throw x)) r (Ends (Spent t)) run told went = absurd told
      went_told (Err (Throw x)) r (Ends (Asks zone q t)) run told went = absurd told
      went_told (Err (Throw x)) r (Leads (Ended c) st t) out told went = absurd told
      went_told (Err (Throw x)) r (Leads (Thrown w) st t) out told went =
          leads_told place op (ending.Thrown x) before after st t r went told.1 (subst (λ w. LeadsOut (Good env) frame f.ops outcome op.around (Thrown w) st t) (sym told.0) out) told.2
      went_told (Err (Throw x)) r Stuck run told went = absurd run
      went_told (Err Fuel) r (Goes rest st t) run told went = absurd told
      went_told (Err Fuel) r (Ends (Gives v t)) run told went = absurd told
      went_told (Err Fuel) r (Ends (Throws v t)) run told went = absurd told
      went_told (Err Fuel) r (Ends (Spent t)) is told went =
          subst (Told after) (sym went.0) (subst (λ o. Tells holds stopped texts (ShowsValue texts) (Err Fuel) o) is told)
      went_told (Err Fuel) r (Ends (Asks zone q t)) run told went = absurd told
      went_told (Err Fuel) r (Leads (Ended c) st t) out told went = absurd told
      went_told (Err Fuel) r (Leads (Thrown w) st t) out told went = absurd told
      went_told (Err Fuel) r Stuck run told went = absurd run
      went_told (Err stop.NoMemory) r a acted told went = subst (Told after) (sym went.0) (acted_stopped f.ops outcome op.around a acted told)

-- ---- what stands

over_leaves : (f : FunctionCode) (h : Heap) (st : Stacks) (e : Ending) → FitsEnding (sizes h) e → LeavesTurned f h st (over e)
over_leaves f h st ending.Normal fits = tt
over_leaves f h st (ending.Returned v) fits = fits
over_leaves f h st (ending.Broken label) fits = tt
over_leaves f h st (ending.Continued label) fits = tt
over_leaves f h st (ending.Thrown v) fits = fits

led_leaves : (f : FunctionCode) (h : Heap) (st : Stacks) (e : Ending) (to : Result (Option ℕ) NoMemory) → FitsEnding (sizes h) e → LeavesLed f h st to → LeavesTurned f h st (turned_by e to)
led_leaves f h st e (Ok (Some place)) fits leaves = leaves
led_leaves f h st e (Ok None) fits leaves = over_leaves f h st e fits
led_leaves f h st e (Err refused) fits leaves = tt

over_onward : (code : List Op) (place : ℕ) (e : Ending) → Onward code place (over e)
over_onward code place ending.Normal = tt
over_onward code place (ending.Returned v) = tt
over_onward code place (ending.Broken label) = tt
over_onward code place (ending.Continued label) = tt
over_onward code place (ending.Thrown v) = tt

led_onward : (code : List Op) (place : ℕ) (e : Ending) (to : Result (Option ℕ) NoMemory) → Further place to → Onward code place (turned_by e to)
led_onward code place e (Ok (Some to)) further = λ back op there. absurd (omega (arith, further, back))
led_onward code place e (Ok None) further = over_onward code place e
led_onward code place e (Err refused) further = tt

module _ (functions : List FunctionCode) (f : FunctionCode) (part : PartRule functions f) (op : Op) (place : ℕ) (stands : StandsAt f.ops place op) where
  next_there : GoesTo op.kind (Ok next.On) → StandsOn f.ops place (place - 1) (depth_next op.kind op.depth)
  next_there goes = next_stands f.ops place op (depth_next op.kind op.depth) stands ((part.ops stands.index op stands.found).next goes)

  jump_there : (to : Address) → GoesTo op.kind (Ok (next.To to)) → JumpStands f.ops place to.0 (depth_at_jump op.kind op.depth)
  jump_there to goes =
      let place_is : length f.ops - stands.index ≡ place = omega (arith, stands.counted) in
      subst (λ n. JumpStands f.ops n to.0 (depth_at_jump op.kind op.depth)) place_is ((part.ops stands.index op stands.found).jump to goes)

  module _ (before after : Stacks) (r : Result Turned Stop) where
    pub went_leaves : (h : Heap) (answer : Result Next Stop) → GoesTo op.kind answer → LeavesNext f op h before answer → WentOn f place op before after answer r → LeavesTurned f h after r
    went_leaves h (Ok next.On) goes leaves went =
        let there = next_there goes in
        subst (LeavesTurned f h after) (sym went.0)
        (record { op = there.op; stands = there.stands; sits = subst (λ depth. Sits h f.slots depth after) (sym there.deep) (subst (Sits h f.slots (depth_next op.kind op.depth)) (sym went.1) leaves) })
    went_leaves h (Ok (next.To to)) goes leaves went =
        let there = jump_there to goes in
        subst (LeavesTurned f h after) (sym went.0)
        (record { op = there.op; stands = there.stands; sits = subst (λ depth. Sits h f.slots depth after) (sym there.depth_same) (subst (Sits h f.slots (depth_at_jump op.kind op.depth)) (sym went.1) leaves) })
    went_leaves h (Ok (next.Out e)) goes leaves went =
        subst (LeavesTurned f h after) (sym went.is) (led_leaves f h after e went.to leaves.1 (went.leaves h leaves.0 leaves.1))
    went_leaves h (Err (Throw v)) goes leaves went =
        subst (LeavesTurned f h after) (sym went.is) (led_leaves f h after (ending.Thrown v) went.to leaves.1 (went.leaves h leaves.0 leaves.1))
    went_leaves h (Err Fuel) goes leaves went = subst (LeavesTurned f h after) (sym went.0) tt
    went_leaves h (Err stop.NoMemory) goes leaves went = subst (LeavesTurned f h after) (sym went.0) tt

    pub went_onward : (answer : Result Next Stop) → GoesTo op.kind answer → WentOn f place op before after answer r → Onward f.ops place r
    went_onward (Ok next.On) goes went =
        let there = next_there goes in
        subst (Onward f.ops place) (sym went.0) (λ back o at. absurd (omega (arith, there.further, back)))
    went_onward (Ok (next.To to)) goes went =
        let there = jump_there to goes in
        subst (Onward f.ops place) (sym went.0) (λ back o at. ap (λ (o : Op). o.kind) (same_at f.ops to.0 o there.op at there.stands) ∙ there.charges back)
    went_onward (Ok (next.Out e)) goes went = subst (Onward f.ops place) (sym went.is) (led_onward f.ops place e went.to went.further)
    went_onward (Err (Throw v)) goes went = subst (Onward f.ops place) (sym went.is) (led_onward f.ops place (ending.Thrown v) went.to went.further)
    went_onward (Err Fuel) goes went = subst (Onward f.ops place) (sym went.0) tt
    went_onward (Err stop.NoMemory) goes went = subst (Onward f.ops place) (sym went.0) tt

-- an operation that goes on or stops by want of ticks alone, as a turn
given_on : (P : Type 0) (r : Result Turned Stop) → P → OnOk r P
given_on P (Ok t) p = p
given_on P (Err s) p = tt

pub went_falls : (P : Type 0) (f : FunctionCode) (place : ℕ) (op : Op) (before after : Stacks) (answer : Result Next Stop) (r : Result Turned Stop) → OnOk answer P → OnErr answer (answer ≡ Err Fuel) → WentOn f place op before after answer r → OnOk r P
went_falls P f place op before after (Ok n) r falls spends went = given_on P r falls
went_falls P f place op before after (Err (Throw v)) r falls spends went = absurd (cc)
went_falls P f place op before after (Err Fuel) r falls spends went = subst (λ r. OnOk r P) (sym went.0) tt
went_falls P f place op before after (Err stop.NoMemory) r falls spends went = absurd (cc)

-- ---- one turn

-- an operation finds what it takes, needs and names
pub ready_at : (functions : List FunctionCode) (f : FunctionCode) (op : Op) (place : ℕ) (h : Heap) (st : Stacks) → PartRule functions f → StandsAt f.ops place op → Sits h f.slots op.depth st → Ready functions f op h st
ready_at functions f op place h st part stands sits =
    let rule = part.ops stands.index op stands.found in
    record { sits = sits; operands = rule.operands; scopes = rule.scopes; lists = rule.lists; endings = rule.endings; names = rule.names }

module _ (env : Names) (follows : Calls → Type 0) (agrees : Type 0) (stands holds stopped : State → Type 0) (unit : ℕ) (this : Value) (args : List Value) (f : FunctionCode) (place : ℕ) (op : Op) (at : StandsAt f.ops place op) where
  -- a step, and where the code went on by it
  pub turn_told : (old new : Heap) (before mid after : Stacks) (answer : Result Next Stop) (r : Result Turned Stop) → ((t : State) → holds t → Good env t → stopped t) → ((s t : State) → t.zones ≡ s.zones → t.asked ≡ s.asked → stopped s → stopped t)
      → ((calls : Calls) → follows calls → CallsFare env calls) → ((calls : Calls) → follows calls → CallsKeep stopped calls)
      → Steps follows agrees stands holds stopped unit this args op.kind old new before mid answer → WentOn f place op mid after answer r
      → Turns env follows agrees stands holds stopped unit this args f.ops place old new before after r
  turn_told old new before mid after answer r stops same fares keeps told went = record {
    by = λ calls frame outcome s follow agree same_calls is here run.
        let behind = from frame f.ops (place - 1) in
        let st = plain_stacks old.texts before in
        went_told env frame stopped (subst (CallsFare env) (sym same_calls) (fares calls follow)) (subst (CallsKeep stopped) (sym same_calls) (keeps calls follow)) same holds stops new.texts f outcome place op mid after answer r
        (act frame f.ops op.kind behind st s) (acted (Good env) frame f.ops outcome (from frame f.ops place) op behind st s (from_at frame f.ops place op at) run)
        (told.by calls frame f.ops behind s follow agree same_calls is here) went;
  }
