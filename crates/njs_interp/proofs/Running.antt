-- The run of a function's code, turn after turn, and that it ends.
use Rattle.std.proofs.Common.{◌≡◌, ℕ, ◌+◌, ◌-◌, ◌*◌, ◌<◌, ◌≤◌, Bool, true, false, List, length, drop, Option, Some, None, Ok, Err, refl, sym, ap, subst, ◌∙◌, arith, slice_get}
use Rattle.std.specs.List.{AllByRecursion}
use native.Mathlib.Decide.{dec_lt}
use mathlib.Core.Logic.{dite}
use Rattle.std.proofs.Math.Nat.{mul-le-mul_right, add-mul}
use Rattle.std.proofs.lemmas.Bool.{false≢true}
use Rattle.njs_value.specs.declared.ScopeId.{ScopeId}
use Rattle.njs_value.specs.declared.Value.{Value}
use Rattle.njs_shared.specs.Heap.{Heap, sizes}
use Rattle.njs_shared.specs.Fits.{FitsValue}
use Rattle.njs_code.specs.declared.op.Kind.{Kind}
use Rattle.njs_code.specs.declared.op.Kind.TheVariants as kind
use Rattle.njs_code.specs.declared.op.Op.{Op}
use Rattle.njs_code.specs.declared.code.FunctionCode.{FunctionCode}
use Rattle.njs_code.specs.Facts.{StandsAt, PartRule}
use Rattle.njs_code.specs.Valid.{is_charge}
use Rattle.njs_meaning.specs.State.{State}
use Rattle.njs_meaning.specs.Running.{Calls}
use Rattle.njs_convert.specs.declared.stop.Stop.{Stop}
use Rattle.njs_convert.specs.declared.stop.Stop.TheVariants.{Throw, Fuel, NoMemory}
use Rattle.njs_convert.specs.Tells.{FitsAnswer}
use Rattle.njs_simul.specs.Stacks.{Frame}
use Rattle.njs_simul.specs.Step.{from}
use Rattle.njs_simul.specs.Runs.{Runs}
use Rattle.njs_simul.specs.Fits.{Names, Good, CallsFare}
use Rattle.njs_simul.specs.Program.{starting}
use Rattle.njs_interp.specs.declared.stacks.Stacks.{Stacks}
use Rattle.njs_interp.specs.declared.turn.Turned.TheVariants as turned
use Rattle.njs_interp.specs.Plain.{plain_stacks}
use Rattle.njs_interp.specs.Sits.{Sits, SlotsFrom, Entered}
use Rattle.njs_interp.specs.Tells.{IsFrame}
use Rattle.njs_interp.specs.Grown.{Widens}
use Rattle.njs_interp.specs.Standing.{CallsKeep}
use Rattle.njs_interp.specs.Leading.{SitsAt}
use Rattle.njs_interp.specs.Turning.{AtStart, Turns, LeavesTurned, Onward, RunsCode, RanTo}
use Rattle.njs_interp.proofs.Kept.{content-widened, values-widened}
use Rattle.njs_interp.proofs.Leading.{at_within, same_at}
use Rattle.njs_interp.proofs.Turning.{good_at, run_stopped}

-- ---- as the run begins

plain_start : (texts : List (List ℕ)) (scope : ScopeId) (st : Stacks) → AtStart scope st → starting scope.0 ≡ plain_stacks texts st
plain_start texts scope st start = cc

pub start_sits : (functions : List FunctionCode) (f : FunctionCode) (h : Heap) (scope : ScopeId) (st : Stacks) → PartRule functions f → SlotsFrom f.slots h.scopes scope.0 → AtStart scope st → SitsAt f h st (length f.ops)
start_sits functions f h scope st part slots start = record {
  op = part.begins.first;
  stands = record { index = 0; counted = omega arith; found = part.begins.found };
  sits = subst (λ depth. Sits h f.slots depth st) (sym part.begins.depth_same) (record {
    operands = ap length start.operands;
    scopes = ap length start.scopes;
    lists = ap length start.lists;
    endings = ap length start.endings;
    values = subst (AllByRecursion _) (sym start.operands) tt;
    listed = subst (AllByRecursion _) (sym start.lists) tt;
    ended = subst (AllByRecursion _) (sym start.endings) tt;
    entered = subst (Entered f.slots h.scopes) (sym start.scopes) slots;
  });
}

module _ (env : Names) (follows : Calls → Type 0) (unit : ℕ) (this : Value) (args : List Value) (f : FunctionCode) (scope : ScopeId) (old : Heap) (stood : State → Type 0) where
  pub start_ran : (agrees : Type 0) (st : Stacks) → AtStart scope st → RanTo env follows agrees stood stood unit this args f.ops scope.0 old old st (length f.ops)
  start_ran agrees st start = record {
    by = λ calls frame outcome s follow agree same is here run.
        let none : length f.ops - length f.ops ≡ 0 = omega arith in
        let all : f.ops ≡ from frame f.ops (length f.ops) = ap (λ n. drop n f.ops) (sym none) in
        (s, here, subst (λ st. Runs (Good env) frame f.ops outcome (from frame f.ops (length f.ops)) st s) (plain_start old.texts scope st start) (subst (λ ops. Runs (Good env) frame f.ops outcome ops (starting scope.0) s) all run));
  }

  -- where there is no memory for what stands as it begins
  pub start_stopped : (agrees : Type 0) (holds stopped : State → Type 0) (now : Heap) → ((s : State) → stood s → stopped s) → ((s t : State) → t.zones ≡ s.zones → t.asked ≡ s.asked → stopped s → stopped t)
      → ((calls : Calls) → follows calls → CallsFare env calls) → ((calls : Calls) → follows calls → CallsKeep stopped calls)
      → RunsCode env follows agrees stood holds stopped unit this args f.ops scope.0 old now (Err NoMemory)
  start_stopped agrees holds stopped now stops same fares keeps = record {
    by = λ calls frame outcome s follow agree same_calls is here run.
        run_stopped env frame stopped (subst (CallsFare env) (sym same_calls) (fares calls follow)) (subst (CallsKeep stopped) (sym same_calls) (keeps calls follow)) same f.ops outcome f.ops (starting scope.0) s run (stops s here);
  }

  -- ---- a turn more

  module _ (follows' : Calls → Type 0) (agrees agrees' : Type 0) (stands holds stopped : State → Type 0) (now new : Heap) (st after : Stacks) (place : ℕ)
      (kept : (calls : Calls) → follows calls → follows' calls) (agreed : agrees' → agrees) (widens : Widens old now) (fits : FitsValue (sizes old) this) (all : AllByRecursion (FitsValue (sizes old)) args)
      (ran : RanTo env follows agrees stood stands unit this args f.ops scope.0 old now st place) where
    framed : (frame : Frame) → IsFrame old.texts unit this args frame → IsFrame now.texts unit this args frame
    framed frame is = record {
      unit_is = is.unit_is;
      this_is = is.this_is ∙ sym (content-widened old now widens this fits);
      args_are = is.args_are ∙ sym (values-widened old now widens args all);
    }

    pub ran_on : (stands' : State → Type 0) (to : ℕ) → ((t : State) → holds t → Good env t → stands' t) → Turns env follows' agrees' stands holds stopped unit this args f.ops place now new st after (Ok (turned.Goes to))
        → RanTo env follows agrees' stood stands' unit this args f.ops scope.0 old new after to
    ran_on stands' to stand turns = record {
      by = λ calls frame outcome s follow agree same is here run.
          let before = ran.by calls frame outcome s follow (agreed agree) same is here run in
          let next = turns.by calls frame outcome before.0 (kept calls follow) agree same (framed frame is) before.1 before.2 in
          (next.0, stand next.0 next.1 (good_at (Good env) frame f.ops outcome (from frame f.ops to) (plain_stacks new.texts after) next.0 next.2), next.2);
    }

    pub ran_ends : (v : Value) → Turns env follows' agrees' stands holds stopped unit this args f.ops place now new st after (Ok (turned.Ends v)) → RunsCode env follows agrees' stood holds stopped unit this args f.ops scope.0 old new (Ok v)
    ran_ends v turns = record {
      by = λ calls frame outcome s follow agree same is here run.
          let before = ran.by calls frame outcome s follow (agreed agree) same is here run in
          turns.by calls frame outcome before.0 (kept calls follow) agree same (framed frame is) before.1 before.2;
    }

    pub ran_stops : (stop : Stop) → Turns env follows' agrees' stands holds stopped unit this args f.ops place now new st after (Err stop) → RunsCode env follows agrees' stood holds stopped unit this args f.ops scope.0 old new (Err stop)
    ran_stops stop turns = record {
      by = λ calls frame outcome s follow agree same is here run.
          let before = ran.by calls frame outcome s follow (agreed agree) same is here run in
          turns.by calls frame outcome before.0 (kept calls follow) agree same (framed frame is) before.1 before.2;
    }

pub sits_here : (f : FunctionCode) (h : Heap) (st : Stacks) (place : ℕ) (op : Op) → SitsAt f h st place → StandsAt f.ops place op → Sits h f.slots op.depth st
sits_here f h st place op sits stands = subst (λ (o : Op). Sits h f.slots o.depth st) (same_at f.ops place sits.op op sits.stands stands) sits.sits

pub stops_fit : (f : FunctionCode) (h : Heap) (st : Stacks) (stop : Stop) → LeavesTurned f h st (Err stop) → FitsAnswer {V = Value} (FitsValue (sizes h)) (sizes h) (Err stop)
stops_fit f h st (Throw v) leaves = leaves
stops_fit f h st Fuel leaves = tt
stops_fit f h st NoMemory leaves = tt

-- ---- that it ends

-- 0 at an operation that takes a tick
abbrev pub after_charge : Bool → ℕ
after_charge true = 0
after_charge false = 1

abbrev pub charges_at : Option Op → Bool
charges_at None = false
charges_at (Some op) = is_charge op.kind

-- how much is left of a run: by the ticks, then whether the next operation takes one, and then the place
abbrev pub left_of : List Op → ℕ → ℕ → ℕ
left_of code ticks place = (ticks + ticks + after_charge (charges_at (slice_get code (length code - place)))) * (length code + 1) + place

charge_is : (k : Kind) → is_charge k ≡ true → k ≡ kind.Charge
unfolding is_charge
charge_is kind.Charge h = refl
charge_is _ h = absurd (false≢true h)

is_a_charge : is_charge kind.Charge ≡ true
unfolding is_charge
is_a_charge = refl

less : (a b m p q : ℕ) → a < b → p < m → a * m + p < b * m + q
less a b m p q falls within =
    let more : (a + 1) * m ≤ b * m = mul-le-mul_right m (omega (arith, falls)) in
    let split : (a + 1) * m ≡ a * m + 1 * m = add-mul a 1 m in
    omega (arith, more, split, within)

no_less : (a b m p q : ℕ) → a ≤ b → p < q → a * m + p < b * m + q
no_less a b m p q most falls = let more : a * m ≤ b * m = mul-le-mul_right m most in omega (arith, more, falls)

at_place : (code : List Op) (place : ℕ) (op : Op) → StandsAt code place op → slice_get code (length code - place) ≡ Some op
at_place code place op stands =
    let same : length code - place ≡ stands.index = omega (arith, stands.counted) in
    ap (slice_get code) same ∙ stands.found

module _ (code : List Op) (ticks left place to : ℕ) (op next : Op) (stands : StandsAt code place op) (goes : StandsAt code to next) (spent : left ≤ ticks) (falls : op.kind ≡ kind.Charge → left < ticks) (onward : Onward code place (Ok (turned.Goes to))) where
  within : to < length code + 1
  within = let some = at_within code to next goes in omega (arith, some.1)

  here : after_charge (charges_at (slice_get code (length code - place))) ≡ after_charge (is_charge op.kind)
  here = ap (λ o. after_charge (charges_at o)) (at_place code place op stands)

  there : after_charge (charges_at (slice_get code (length code - to))) ≡ after_charge (is_charge next.kind)
  there = ap (λ o. after_charge (charges_at o)) (at_place code to next goes)

  one_at_most : (b : Bool) → after_charge b ≤ 1
  one_at_most true = omega arith
  one_at_most false = omega arith

  by_tick : is_charge op.kind ≡ true → left_of code left to < left_of code ticks place
  by_tick is =
      let less_left = falls (charge_is op.kind is) in
      let most = one_at_most (charges_at (slice_get code (length code - to))) in
      less (left + left + after_charge (charges_at (slice_get code (length code - to)))) (ticks + ticks + after_charge (charges_at (slice_get code (length code - place)))) (length code + 1) to place
      (omega (arith, less_left, most)) within

  module _ (no : is_charge op.kind ≡ false) where
    one_here : after_charge (charges_at (slice_get code (length code - place))) ≡ 1
    one_here = here ∙ ap after_charge no

    by_place : to < place → left_of code left to < left_of code ticks place
    by_place further =
        let most = one_at_most (charges_at (slice_get code (length code - to))) in
        no_less (left + left + after_charge (charges_at (slice_get code (length code - to)))) (ticks + ticks + after_charge (charges_at (slice_get code (length code - place)))) (length code + 1) to place
        (omega (arith, spent, most, one_here)) further

    by_charge : place ≤ to → left_of code left to < left_of code ticks place
    by_charge back =
        let charge : is_charge next.kind ≡ true = ap is_charge (onward back next goes) ∙ is_a_charge in
        let none : after_charge (charges_at (slice_get code (length code - to))) ≡ 0 = there ∙ ap after_charge charge in
        less (left + left + after_charge (charges_at (slice_get code (length code - to)))) (ticks + ticks + after_charge (charges_at (slice_get code (length code - place)))) (length code + 1) to place
        (omega (arith, spent, none, one_here)) within

  by_case : (b : Bool) → is_charge op.kind ≡ b → left_of code left to < left_of code ticks place
  by_case true is = by_tick is
  by_case false is = dite (dec_lt to place) (λ further. by_place is further) (λ back. by_charge is (omega (arith, back)))

  pub less_left : left_of code left to < left_of code ticks place
  less_left = by_case (is_charge op.kind) refl
