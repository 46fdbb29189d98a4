use Rattle.njs_interp.proofs.Turning.{ready_at, turn_told, went_leaves, went_onward, went_falls}
use Rattle.njs_interp.proofs.turn.turn.Goals as goal

pub step-next-requires-clause-ready : goal.step-next-requires-clause-ready
step-next-requires-clause-ready g c =
    let at = c.args.at.now in ready_at at.functions.now at.function.now at.op.now c.args.place c.args.machine.now c.args.stacks.now c.requires.part c.requires.place c.requires.sits

pub go_on-requires-clause-leaves : goal.go_on-requires-clause-leaves
go_on-requires-clause-leaves g c = (c.step-next.new.machine, c.step-next.ensures.leaves)

pub returns-clause-told : goal.returns-clause-told
returns-clause-told g c = λ known.
    let at = c.args.at.now in
    let old = c.args.caller.now in
    let new = c.step-next.new.caller in
    let h = c.step-next.new.machine in
    turn_told known.around (g.C.Caller.follows old known) (g.C.Caller.agrees new known) (g.C.Caller.stands old known c.args.machine.now) (g.C.Runner.holds new known h) (g.C.Caller.stopped new known) c.args.call.now.unit c.args.call.now.this c.args.call.now.args.now
    at.function.now c.args.place at.op.now c.requires.place c.args.machine.now h c.args.stacks.now c.step-next.new.stacks c.go_on.new.stacks c.step-next.result c.go_on.result
    (λ t holds good. g.met.C.Caller.stops new known h t (g.met.C.Runner.stands_of new known h t holds good)) (g.met.C.Caller.stopped_as new known) (g.met.C.Runner.fares old known)
    (λ calls follows. record {
      call = g.met.C.Caller.stopped_calls new known calls (c.step-next.ensures.kept calls known follows);
      construct = g.met.C.Caller.stopped_new new known calls (c.step-next.ensures.kept calls known follows);
    }) (c.step-next.ensures.told known) c.go_on.ensures

pub returns-clause-leaves : goal.returns-clause-leaves
returns-clause-leaves g c =
    let at = c.args.at.now in
    went_leaves at.functions.now at.function.now c.requires.part at.op.now c.args.place c.requires.place c.step-next.new.stacks c.go_on.new.stacks c.go_on.result c.step-next.new.machine c.step-next.result
    c.step-next.ensures.goes c.step-next.ensures.leaves c.go_on.ensures

pub returns-clause-onward : goal.returns-clause-onward
returns-clause-onward g c =
    let at = c.args.at.now in
    went_onward at.functions.now at.function.now c.requires.part at.op.now c.args.place c.requires.place c.step-next.new.stacks c.go_on.new.stacks c.go_on.result c.step-next.result c.step-next.ensures.goes c.go_on.ensures

pub returns-clause-falls : goal.returns-clause-falls
returns-clause-falls g c = λ is.
    let at = c.args.at.now in
    went_falls _ at.function.now c.args.place at.op.now c.step-next.new.stacks c.go_on.new.stacks c.step-next.result c.go_on.result (c.step-next.ensures.falls is) (c.step-next.ensures.spends is) c.go_on.ensures
