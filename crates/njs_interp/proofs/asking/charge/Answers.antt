use Rattle.njs_interp.proofs.Kept.{given-none, taken-none}
use Rattle.njs_interp.proofs.AskedMoves.{charge_takes, charge_gives}
use Rattle.njs_interp.proofs.Charging.{charge_acts, charge_leaves}
use Rattle.njs_interp.proofs.asking.charge.Goals as goal

pub returns-clause-told : goal.returns-clause-told
returns-clause-told g c = λ known. record {
  by = λ calls frame code rest s f agrees same stands.
      let h = c.args.machine.now in
      let caller = c.charge.new.self in
      charge_acts frame code rest h.texts c.args.stacks.now (g.C.Caller.stands caller known h) (g.C.Runner.holds caller known h) (g.C.Caller.stopped caller known) (g.C.Caller.ticks_of c.args.caller.now) (g.C.Caller.ticks_of caller) c.charge.result s
      (g.met.C.Caller.ticks_are c.args.caller.now known h s stands) (g.met.C.Runner.holds_of caller known h) c.charge.ensures.ok c.charge.ensures.err (c.charge.ensures.stands known h s stands);
}

pub returns-clause-leaves : goal.returns-clause-leaves
returns-clause-leaves g c =
    let f = c.args.at.now.function.now in
    let op = c.args.at.now.op.now in
    let h = c.args.machine.now in
    charge_leaves f op h c.args.stacks.now c.charge.result (given-none f op h c.args.stacks.now (charge_gives op.kind c.requires.kind) (taken-none f op h c.args.stacks.now (charge_takes op.kind c.requires.kind) c.requires.ready.sits)) (g.C.Caller.ticks_of c.args.caller.now) (g.C.Caller.ticks_of c.charge.new.self) c.charge.ensures.err
