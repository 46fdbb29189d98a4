use Rattle.njs_convert.proofs.Grown.{Grows-same, Grows-objects, Grows-trans}
use Rattle.njs_request.proofs.Entry.{objects_grow, prototype_made}
use Rattle.njs_request.proofs.objects.prototype.Goals as goal

pub returns-in_err-function-clause-grows : goal.returns-in_err-function-clause-grows
returns-in_err-function-clause-grows g c = Grows-same c.args.machine.now c.return_function.new.machine c.in_err-function.ensures.err

pub returns-clause-made : goal.returns-clause-made
returns-clause-made g c =
    prototype_made c.args.machine.now c.return_function.new.machine c.methods_object.new.machine c.in_ok-function.function c.methods_object.result c.in_ok-function.ensures.number c.in_ok-function.ensures.ok
    c.methods_object.ensures.ok

pub returns-clause-grows : goal.returns-clause-grows
returns-clause-grows g c =
    let h = c.args.machine.now in
    let k = c.return_function.new.machine in
    let l = c.methods_object.new.machine in
    Grows-trans h k l (Grows-objects h k _ c.in_ok-function.ensures.ok) (objects_grow k l _ c.methods_object.result c.methods_object.ensures.ok c.methods_object.ensures.err)
