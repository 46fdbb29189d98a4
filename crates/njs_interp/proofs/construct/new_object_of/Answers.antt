use Rattle.std.proofs.Common.{[], ◌∷◌, Some, true, length, sym, ap, ◌∙◌, arith, length-append}
use Rattle.njs_value.specs.declared.Class.TheVariants as class
use Rattle.njs_shared.specs.declared.object.Inner.TheVariants as inner
use Rattle.njs_shared.specs.Heap.{Heap, HeapObject}
use Rattle.njs_clone.specs.StandsFor.{plain_objects}
use Rattle.njs_meaning.specs.Chains.{get}
use Rattle.njs_meaning.specs.Primitives.{Undefined}
use Rattle.njs_meaning.specs.Values.{Simple}
use Rattle.njs_meaning.specs.Functions.{prototype_name}
use Rattle.njs_interp.proofs.Constructing.{new_plain}
use Rattle.njs_interp.proofs.Extending.{extends-pushed, extends-same}
use Rattle.njs_interp.proofs.construct.new_object_of.Goals as goal

pub returns-in-Ok-clause-made : goal.returns-in-Ok-clause-made
returns-in-Ok-clause-made g c =
    let h : Heap = c.args.machine.now in
    let up = c.prototype_of-up.result in
    ap plain_objects c.in-Ok.ensures.ok ∙ sym ((c.operations_go_by_content.ensures h).created class.Object (Some up) inner.Plain)
    ∙ new_plain (plain_objects h) up (get (Simple Undefined) prototype_name (plain_objects h) c.args.function.0) c.prototype_of-up.ensures.is

pub returns-in-Ok-clause-more : goal.returns-in-Ok-clause-more
returns-in-Ok-clause-more g c =
    let h : Heap = c.args.machine.now in
    let o : HeapObject = record { class = class.Object; prototype = Some c.prototype_of-up.result; extensible = true; props = []; inner = inner.Plain } in
    omega (arith, ap (λ (m : Heap). length m.objects) c.in-Ok.ensures.ok, length-append h.objects (o ∷ []))

pub returns-in-Ok-clause-extends : goal.returns-in-Ok-clause-extends
returns-in-Ok-clause-extends g c =
    let o : HeapObject = record { class = class.Object; prototype = Some c.prototype_of-up.result; extensible = true; props = []; inner = inner.Plain } in
    extends-pushed c.args.machine.now c.new_object.new.self o tt c.in-Ok.ensures.ok

pub returns-in-Err-clause-extends : goal.returns-in-Err-clause-extends
returns-in-Err-clause-extends g c = extends-same c.args.machine.now c.new_object.new.self c.in-Err.ensures.err
