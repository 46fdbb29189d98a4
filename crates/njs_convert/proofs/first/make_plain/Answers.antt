use Rattle.njs_convert.proofs.Grown.{Grows-same, Grows-objects}
use Rattle.njs_convert.proofs.FirstSteps.{plain_made, above_fits}
use Rattle.njs_convert.proofs.first.make_plain.Goals as goal

pub new_object-requires-clause-prototype : goal.new_object-requires-clause-prototype
new_object-requires-clause-prototype g c = above_fits _ c.args.up c.object_of.result c.object_of.ensures c.requires

pub returns-clause-made : goal.returns-clause-made
returns-clause-made g c =
    let h = c.args.machine.now in
    plain_made h c.new_object.new.self c.args.class c.args.up c.object_of.result (c.operations_go_by_content.ensures h) c.object_of.ensures c.in_ok-new_object.ensures.ok

pub returns-in_err-new_object-clause-grows : goal.returns-in_err-new_object-clause-grows
returns-in_err-new_object-clause-grows g c = Grows-same c.args.machine.now c.new_object.new.self c.in_err-new_object.ensures.err

pub returns-clause-grows : goal.returns-clause-grows
returns-clause-grows g c = Grows-objects c.args.machine.now c.new_object.new.self _ c.in_ok-new_object.ensures.ok
