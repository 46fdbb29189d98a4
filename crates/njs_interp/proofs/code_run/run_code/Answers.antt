use Rattle.std.proofs.Common.{◌∙◌, Ok, refl, sym, subst, arith, le_trans}
use Rattle.njs_shared.specs.Heap.{sizes}
use Rattle.njs_shared.specs.Fits.{FitsValue}
use Rattle.njs_convert.specs.Tells.{Lent}
use Rattle.njs_interp.specs.Leading.{SitsAt}
use Rattle.njs_interp.specs.Stepping.{CountsAre}
use Rattle.njs_interp.specs.Turning.{Turns, LeavesTurned, Onward, RanTo}
use Rattle.njs_interp.proofs.Kept.{Widens-refl, Widens-trans, Widens-objects, FitsValue-widened, all-more}
use Rattle.njs_interp.proofs.Leading.{at_within}
use Rattle.njs_interp.proofs.Running.{start_sits, start_ran, start_stopped, ran_on, ran_ends, ran_stops, sits_here, less_left}
use Rattle.njs_interp.proofs.code_run.run_code.Goals as goal

pub returns-in-Err-clause-told : goal.returns-in-Err-clause-told
returns-in-Err-clause-told g c = λ known.
    let caller = c.args.caller.now in
    let h = c.args.machine.now in
    start_stopped known.around (g.C.Caller.follows caller known) c.args.call.now.unit c.args.call.now.this c.args.call.now.args.now c.args.function.now c.args.scope h (g.C.Caller.stands caller known h)
    (g.C.Caller.agrees caller known) (g.C.Runner.holds caller known h) (g.C.Caller.stopped caller known) h
    (g.met.C.Caller.stops caller known h) (g.met.C.Caller.stopped_as caller known) (g.met.C.Runner.fares caller known)
    (λ calls follows. record { call = g.met.C.Caller.stopped_calls caller known calls follows; construct = g.met.C.Caller.stopped_new caller known calls follows })

pub loop-to-init : goal.loop-to-init
loop-to-init g c =
    let caller = c.args.caller.now in
    let h = c.args.machine.now in
    let f = c.args.function.now in
    record {
      sits = subst (λ place. SitsAt f h c.in-Ok.stacks place) (sym c.len-place.ensures) (start_sits c.args.functions.now f h c.args.scope c.in-Ok.stacks c.requires.part c.requires.scope c.in-Ok.ensures);
      ran = λ known.
          subst (λ place. RanTo known.around (g.C.Caller.follows caller known) (g.C.Caller.agrees caller known) (g.C.Caller.stands caller known h) (g.C.Caller.stands caller known h) c.args.call.now.unit c.args.call.now.this c.args.call.now.args.now f.ops c.args.scope.0 h h c.in-Ok.stacks place)
          (sym c.len-place.ensures)
          (start_ran known.around (g.C.Caller.follows caller known) c.args.call.now.unit c.args.call.now.this c.args.call.now.args.now f c.args.scope h (g.C.Caller.stands caller known h) (g.C.Caller.agrees caller known) c.in-Ok.stacks c.in-Ok.ensures);
      kept = λ calls known follows. follows;
      agrees = λ known agrees. agrees;
      may = c.requires.may;
      fits = c.requires.fits;
      same = refl;
      spent = omega arith;
      widens = Widens-refl h;
      steps = omega arith;
    }

pub op_at-requires-clause-some : goal.op_at-requires-clause-some
op_at-requires-clause-some g c = let sits = c.loop-to.invariant.sits in (at_within c.args.function.now.ops c.loop-to.place sits.op sits.stands).0

pub op_at-requires-clause-within : goal.op_at-requires-clause-within
op_at-requires-clause-within g c = let sits = c.loop-to.invariant.sits in (at_within c.args.function.now.ops c.loop-to.place sits.op sits.stands).1

pub turn-requires-clause-sits : goal.turn-requires-clause-sits
turn-requires-clause-sits g c = sits_here c.args.function.now c.loop-to.machine c.loop-to.stacks c.loop-to.place c.op_at.result.now c.loop-to.invariant.sits c.op_at.ensures

pub turn-requires-clause-this : goal.turn-requires-clause-this
turn-requires-clause-this g c = FitsValue-widened c.args.machine.now c.loop-to.machine c.loop-to.invariant.widens c.args.call.now.this c.requires.this

pub turn-requires-clause-args : goal.turn-requires-clause-args
turn-requires-clause-args g c =
    let h = c.args.machine.now in
    let now = c.loop-to.machine in
    all-more (FitsValue (sizes h)) (FitsValue (sizes now)) (FitsValue-widened h now c.loop-to.invariant.widens) c.args.call.now.args.now c.requires.args

pub turn-requires-clause-counts : goal.turn-requires-clause-counts
turn-requires-clause-counts g c = subst (λ (lent : Lent). CountsAre lent.counts c.args.call.now.unit c.args.functions.now) (sym c.loop-to.invariant.same) c.requires.counts

pub turn-requires-clause-may : goal.turn-requires-clause-may
turn-requires-clause-may g c = c.loop-to.invariant.may

pub turn-requires-clause-fits : goal.turn-requires-clause-fits
turn-requires-clause-fits g c = c.loop-to.invariant.fits

pub turn-requires-clause-first : goal.turn-requires-clause-first
turn-requires-clause-first g c =
    let first = c.requires.first in
    let more = Widens-objects c.args.machine.now c.loop-to.machine c.loop-to.invariant.widens in
    omega (arith, first, more)

pub loop-to-smaller : goal.loop-to-smaller
loop-to-smaller g c =
    let f = c.args.function.now in
    let there : SitsAt f c.turn.new.machine c.turn.new.stacks c.in-Ok-Goes.to = subst (λ r. LeavesTurned f c.turn.new.machine c.turn.new.stacks (Ok r)) c.in-Ok-Goes.field-0-is c.in-Ok-Goes.ensures.leaves in
    less_left c.args.function.now.ops (g.C.Caller.ticks_of c.loop-to.caller) (g.C.Caller.ticks_of c.turn.new.caller) c.loop-to.place c.in-Ok-Goes.to c.op_at.result.now there.op c.op_at.ensures there.stands
    c.turn.ensures.spent c.in-Ok-Goes.ensures.falls (subst (λ r. Onward f.ops c.loop-to.place (Ok r)) c.in-Ok-Goes.field-0-is c.in-Ok-Goes.ensures.onward)

pub loop-to-preserved : goal.loop-to-preserved
loop-to-preserved g c =
    let old = c.args.caller.now in
    let now = c.loop-to.caller in
    let new = c.turn.new.caller in
    let before = c.loop-to.invariant in
    let after = c.turn.ensures in
    record {
      sits = subst (λ r. LeavesTurned c.args.function.now c.turn.new.machine c.turn.new.stacks (Ok r)) c.in-Ok-Goes.field-0-is c.in-Ok-Goes.ensures.leaves;
      ran = λ known.
          ran_on known.around (g.C.Caller.follows old known) c.args.call.now.unit c.args.call.now.this c.args.call.now.args.now c.args.function.now c.args.scope c.args.machine.now (g.C.Caller.stands old known c.args.machine.now)
          (g.C.Caller.follows now known) (g.C.Caller.agrees now known) (g.C.Caller.agrees new known) (g.C.Caller.stands now known c.loop-to.machine) (g.C.Runner.holds new known c.turn.new.machine) (g.C.Caller.stopped new known)
          c.loop-to.machine c.turn.new.machine c.loop-to.stacks c.turn.new.stacks c.loop-to.place
          (λ calls. before.kept calls known) (after.agrees known) before.widens c.requires.this c.requires.args (before.ran known)
          (g.C.Caller.stands new known c.turn.new.machine) c.in-Ok-Goes.to (g.met.C.Runner.stands_of new known c.turn.new.machine)
          (subst (λ r. Turns known.around (g.C.Caller.follows now known) (g.C.Caller.agrees new known) (g.C.Caller.stands now known c.loop-to.machine) (g.C.Runner.holds new known c.turn.new.machine) (g.C.Caller.stopped new known) c.args.call.now.unit c.args.call.now.this c.args.call.now.args.now c.args.function.now.ops c.loop-to.place c.loop-to.machine c.turn.new.machine c.loop-to.stacks c.turn.new.stacks (Ok r)) c.in-Ok-Goes.field-0-is (c.in-Ok-Goes.ensures.told known));
      kept = λ calls known follows. after.kept calls known (before.kept calls known follows);
      agrees = λ known agrees. before.agrees known (after.agrees known agrees);
      may = after.may;
      fits = after.fits;
      same = after.same ∙ before.same;
      spent = le_trans after.spent before.spent;
      widens = Widens-trans c.args.machine.now c.loop-to.machine c.turn.new.machine before.widens after.widens;
      steps = le_trans before.steps after.steps;
    }

pub returns-in-Ok-Ends-clause-told : goal.returns-in-Ok-Ends-clause-told
returns-in-Ok-Ends-clause-told g c = λ known.
    let old = c.args.caller.now in
    let now = c.loop-to.caller in
    let new = c.turn.new.caller in
    let before = c.loop-to.invariant in
    ran_ends known.around (g.C.Caller.follows old known) c.args.call.now.unit c.args.call.now.this c.args.call.now.args.now c.args.function.now c.args.scope c.args.machine.now (g.C.Caller.stands old known c.args.machine.now)
    (g.C.Caller.follows now known) (g.C.Caller.agrees now known) (g.C.Caller.agrees new known) (g.C.Caller.stands now known c.loop-to.machine) (g.C.Runner.holds new known c.turn.new.machine) (g.C.Caller.stopped new known)
    c.loop-to.machine c.turn.new.machine c.loop-to.stacks c.turn.new.stacks c.loop-to.place
    (λ calls. before.kept calls known) (c.turn.ensures.agrees known) before.widens c.requires.this c.requires.args (before.ran known)
    c.in-Ok-Ends.value
    (subst (λ r. Turns known.around (g.C.Caller.follows now known) (g.C.Caller.agrees new known) (g.C.Caller.stands now known c.loop-to.machine) (g.C.Runner.holds new known c.turn.new.machine) (g.C.Caller.stopped new known) c.args.call.now.unit c.args.call.now.this c.args.call.now.args.now c.args.function.now.ops c.loop-to.place c.loop-to.machine c.turn.new.machine c.loop-to.stacks c.turn.new.stacks (Ok r)) c.in-Ok-Ends.field-0-is (c.in-Ok-Ends.ensures.told known))

pub returns-in-Ok-Ends-clause-kept : goal.returns-in-Ok-Ends-clause-kept
returns-in-Ok-Ends-clause-kept g c = λ calls known follows. c.turn.ensures.kept calls known (c.loop-to.invariant.kept calls known follows)

pub returns-in-Ok-Ends-clause-agrees : goal.returns-in-Ok-Ends-clause-agrees
returns-in-Ok-Ends-clause-agrees g c = λ known agrees. c.loop-to.invariant.agrees known (c.turn.ensures.agrees known agrees)

pub returns-in-Ok-Ends-clause-same : goal.returns-in-Ok-Ends-clause-same
returns-in-Ok-Ends-clause-same g c = c.turn.ensures.same ∙ c.loop-to.invariant.same

pub returns-in-Ok-Ends-clause-spent : goal.returns-in-Ok-Ends-clause-spent
returns-in-Ok-Ends-clause-spent g c = le_trans c.turn.ensures.spent c.loop-to.invariant.spent

pub returns-in-Ok-Ends-clause-widens : goal.returns-in-Ok-Ends-clause-widens
returns-in-Ok-Ends-clause-widens g c = Widens-trans c.args.machine.now c.loop-to.machine c.turn.new.machine c.loop-to.invariant.widens c.turn.ensures.widens

pub returns-in-Ok-Ends-clause-steps : goal.returns-in-Ok-Ends-clause-steps
returns-in-Ok-Ends-clause-steps g c = le_trans c.loop-to.invariant.steps c.turn.ensures.steps

pub returns-in-Err-turn-clause-told : goal.returns-in-Err-turn-clause-told
returns-in-Err-turn-clause-told g c = λ known.
    let old = c.args.caller.now in
    let now = c.loop-to.caller in
    let new = c.turn.new.caller in
    let before = c.loop-to.invariant in
    ran_stops known.around (g.C.Caller.follows old known) c.args.call.now.unit c.args.call.now.this c.args.call.now.args.now c.args.function.now c.args.scope c.args.machine.now (g.C.Caller.stands old known c.args.machine.now)
    (g.C.Caller.follows now known) (g.C.Caller.agrees now known) (g.C.Caller.agrees new known) (g.C.Caller.stands now known c.loop-to.machine) (g.C.Runner.holds new known c.turn.new.machine) (g.C.Caller.stopped new known)
    c.loop-to.machine c.turn.new.machine c.loop-to.stacks c.turn.new.stacks c.loop-to.place
    (λ calls. before.kept calls known) (c.turn.ensures.agrees known) before.widens c.requires.this c.requires.args (before.ran known)
    c.in-Err-turn.stop (c.in-Err-turn.ensures.told known)

pub returns-in-Err-turn-clause-kept : goal.returns-in-Err-turn-clause-kept
returns-in-Err-turn-clause-kept g c = λ calls known follows. c.turn.ensures.kept calls known (c.loop-to.invariant.kept calls known follows)

pub returns-in-Err-turn-clause-agrees : goal.returns-in-Err-turn-clause-agrees
returns-in-Err-turn-clause-agrees g c = λ known agrees. c.loop-to.invariant.agrees known (c.turn.ensures.agrees known agrees)

pub returns-in-Err-turn-clause-same : goal.returns-in-Err-turn-clause-same
returns-in-Err-turn-clause-same g c = c.turn.ensures.same ∙ c.loop-to.invariant.same

pub returns-in-Err-turn-clause-spent : goal.returns-in-Err-turn-clause-spent
returns-in-Err-turn-clause-spent g c = le_trans c.turn.ensures.spent c.loop-to.invariant.spent

pub returns-in-Err-turn-clause-widens : goal.returns-in-Err-turn-clause-widens
returns-in-Err-turn-clause-widens g c = Widens-trans c.args.machine.now c.loop-to.machine c.turn.new.machine c.loop-to.invariant.widens c.turn.ensures.widens

pub returns-in-Err-turn-clause-steps : goal.returns-in-Err-turn-clause-steps
returns-in-Err-turn-clause-steps g c = le_trans c.loop-to.invariant.steps c.turn.ensures.steps
