use Rattle.std.proofs.Common.{◌≡◌, ◌<◌, arith}
use Rattle.njs_shared.specs.Heap.{sizes}
use Rattle.njs_code.specs.Effects.{depth_left}
use Rattle.njs_interp.specs.Leading.{place_by}
use Rattle.njs_interp.proofs.Leading.{goes_there, taken_there, taken_runs}
use Rattle.njs_interp.proofs.lead.lead.Goals as goal

pub returns-in-Ok-clause-led : goal.returns-in-Ok-clause-led
returns-in-Ok-clause-led c =
    let at = c.args.at.now in
    let found = c.in-Some.found in
    let there = c.in-Some.ensures.there in
    record {
      by = λ env frame outcome texts st s below out.
          taken_runs env frame at.function.now.ops outcome texts found.way c.args.ending found.op.now.depth (depth_left at.op.now.kind at.op.now.depth) found.place c.in-Ok.to c.args.stacks.now c.take_up.new.stacks st s
          c.in-Ok.ensures.place there.within.operands c.requires.operands c.in-Ok.ensures.taken below (c.in-Some.ensures.told.by env frame outcome texts st s out);
    }

pub returns-in-Ok-clause-leaves : goal.returns-in-Ok-clause-leaves
returns-in-Ok-clause-leaves c = λ h sits fits.
    let at = c.args.at.now in
    let found = c.in-Some.found in
    let there = c.in-Some.ensures.there in
    taken_there at.functions.now at.function.now c.requires.part found.op.now found.place there.stands h (depth_left at.op.now.kind at.op.now.depth) found.way c.args.ending c.args.stacks.now c.take_up.new.stacks c.in-Ok.to
    c.in-Ok.ensures.place there.goes there.within (there.fits (sizes h) fits) fits c.in-Ok.ensures.taken sits

pub returns-in-Ok-clause-further : goal.returns-in-Ok-clause-further
returns-in-Ok-clause-further c =
    let at = c.args.at.now in
    let found = c.in-Some.found in
    let there = c.in-Some.ensures.there in
    let further : place_by found.place found.way < found.place = (goes_there at.functions.now at.function.now c.requires.part found.op.now found.place there.stands found.way there.goes).further in
    let before : found.place < c.args.place = there.further in
    let is : c.in-Ok.to ≡ place_by found.place found.way = c.in-Ok.ensures.place in
    omega (arith, further, before, is)
