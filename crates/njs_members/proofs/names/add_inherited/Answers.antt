use Rattle.std.proofs.Common.{◌≡◌, ◌+◌, ◌-◌, length, Some, None, rules, arith}
use Rattle.njs_clone.specs.Content.{content}
use Rattle.njs_clone.specs.StandsFor.{plain_objects}
use Rattle.njs_members.specs.Listed.{plain_object}
use Rattle.njs_members.proofs.Chained.{listed-last, way-above, listed-above}
use Rattle.njs_members.proofs.Walked.{plain-at}
use Rattle.njs_members.proofs.names.add_inherited.Goals as goal

pub returns-in_default : goal.returns-in_default
returns-in_default c =
    let h = c.args.machine.now in
    let o = c.object-object.result.now in
    let last : o.prototype ≡ None = search rules in
    listed-last (plain_objects h) c.loop-depth.at.0 (plain_object h o) (plain-at h c.loop-depth.at.0 o c.object-object.ensures.object) (content h.texts c.args.base) c.args.start.0 c.loop-depth.depth
    (length h.objects - c.loop-depth.depth) (length h.objects - (c.loop-depth.depth + 1)) c.loop-depth.names.items c.add_visible.new.names.items _
    (omega (arith, c.sizes-depth-end.ensures.objects)) last c.in_ok-add_visible.ensures c.loop-depth.invariant.rest

pub loop-depth-preserved : goal.loop-depth-preserved
loop-depth-preserved c =
    let h = c.args.machine.now in
    let o = c.object-object.result.now in
    let above : o.prototype ≡ Some c.in-Some.up = search rules in
    let there = plain-at h c.loop-depth.at.0 o c.object-object.ensures.object in
    let v = content h.texts c.args.base in
    record {
      within = c.object-object.ensures.fits.prototype c.in-Some.up above;
      way = way-above (plain_objects h) c.loop-depth.at.0 (plain_object h o) there v c.args.start.0 c.loop-depth.depth c.loop-depth.invariant.way c.in-Some.up above;
      rest = listed-above (plain_objects h) c.loop-depth.at.0 (plain_object h o) there v c.args.start.0 c.loop-depth.depth c.loop-depth.invariant.way c.in-Some.up above
          (length h.objects - c.loop-depth.depth) (length h.objects - (c.loop-depth.depth + 1)) c.loop-depth.names.items c.add_visible.new.names.items _
          (omega (arith, c.sizes-depth-end.ensures.objects)) c.in_ok-add_visible.ensures c.loop-depth.invariant.rest;
    }
