use Rattle.njs_code.specs.Effects.{depth_left}
use Rattle.njs_interp.proofs.Leading.{outward_starts, outward_there, outward_within, outward_on, outward_taken, outward_further, address_falls}
use Rattle.njs_interp.proofs.lead.outward.Goals as goal

pub loop-around-init : goal.loop-around-init
loop-around-init c = outward_starts c.args.at.now.functions.now c.args.at.now.function.now c.requires.part c.args.place c.args.at.now.op.now c.args.ending c.requires.place

pub op_at-op-requires-clause-some : goal.op_at-op-requires-clause-some
op_at-op-requires-clause-some c =
    let at = c.args.at.now in
    (outward_there at.function.now.ops c.args.place (depth_left at.op.now.kind at.op.now.depth) at.op.now.around c.loop-around.around c.args.ending c.in-Some.to c.in-Some.is c.loop-around.invariant).0

pub op_at-op-requires-clause-within : goal.op_at-op-requires-clause-within
op_at-op-requires-clause-within c =
    let at = c.args.at.now in
    (outward_there at.function.now.ops c.args.place (depth_left at.op.now.kind at.op.now.depth) at.op.now.around c.loop-around.around c.args.ending c.in-Some.to c.in-Some.is c.loop-around.invariant).1

pub returns-in-Some-taken_up-clause-told : goal.returns-in-Some-taken_up-clause-told
returns-in-Some-taken_up-clause-told c =
    let at = c.args.at.now in
    record {
      by = outward_taken at.functions.now at.function.now c.requires.part c.args.place (depth_left at.op.now.kind at.op.now.depth) at.op.now.around c.loop-around.around c.args.ending c.in-Some.to c.op_at-op.result.now
          c.in-Some.is c.op_at-op.ensures c.loop-around.invariant c.in-Some-taken_up.way c.in-Some-taken_up.ensures.takes;
    }

pub returns-in-Some-taken_up-clause-there : goal.returns-in-Some-taken_up-clause-there
returns-in-Some-taken_up-clause-there c =
    let at = c.args.at.now in
    let within = outward_within at.functions.now at.function.now c.requires.part c.args.place (depth_left at.op.now.kind at.op.now.depth) at.op.now.around c.loop-around.around c.args.ending c.in-Some.to c.op_at-op.result.now c.in-Some.is c.op_at-op.ensures c.loop-around.invariant in
    record {
      stands = c.op_at-op.ensures;
      further = within.0;
      within = within.1;
      goes = c.in-Some-taken_up.ensures.goes;
      fits = c.in-Some-taken_up.ensures.fits;
    }

pub loop-around-smaller : goal.loop-around-smaller
loop-around-smaller c =
    let at = c.args.at.now in
    let left = depth_left at.op.now.kind at.op.now.depth in
    let some = (outward_there at.function.now.ops c.args.place left at.op.now.around c.loop-around.around c.args.ending c.in-Some.to c.in-Some.is c.loop-around.invariant).0 in
    address_falls c.loop-around.around c.op_at-op.result.now.around c.in-Some.to c.in-Some.is some
    (λ on is. outward_further at.functions.now at.function.now c.requires.part c.in-Some.to.0 c.op_at-op.result.now c.op_at-op.ensures on is)

pub loop-around-preserved : goal.loop-around-preserved
loop-around-preserved c =
    let at = c.args.at.now in
    outward_on at.functions.now at.function.now c.requires.part c.args.place (depth_left at.op.now.kind at.op.now.depth) at.op.now.around c.loop-around.around c.args.ending c.in-Some.to c.op_at-op.result.now c.in-Some.is c.op_at-op.ensures c.loop-around.invariant
    c.in-None.ensures.takes
