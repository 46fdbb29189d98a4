use Rattle.njs_request.proofs.Entry.{objects_grow, request_made}
use Rattle.njs_request.proofs.objects.make.Goals as goal

pub returns-clause-made : goal.returns-clause-made
returns-clause-made g c = request_made c.args.machine.now c.new_object.new.self c.args.prototype c.new_object.result c.new_object.ensures.ok

pub returns-clause-grows : goal.returns-clause-grows
returns-clause-grows g c = objects_grow c.args.machine.now c.new_object.new.self _ c.new_object.result c.new_object.ensures.ok c.new_object.ensures.err
