use Rattle.std.proofs.Common.{◌≡◌, ℕ, sym, ap, ◌∙◌, arith}
use Rattle.njs_value.specs.declared.ObjId.{ObjId}
use Rattle.njs_value.specs.declared.Value.TheVariants as value
use Rattle.njs_clone.specs.Content.{content}
use Rattle.njs_clone.specs.StandsFor.{plain_objects}
use Rattle.njs_meaning.specs.Chains.{get}
use Rattle.njs_meaning.specs.Primitives.{Undefined}
use Rattle.njs_meaning.specs.Values.{Simple}
use Rattle.njs_meaning.specs.Functions.{prototype_name, prototype_from}
use Rattle.njs_interp.proofs.Constructing.{other_from}
use Rattle.njs_interp.proofs.construct.prototype_of.Goals as goal

pub returns-in-Obj-clause-is : goal.returns-in-Obj-clause-is
returns-in-Obj-clause-is c =
    let h = c.args.machine.now in
    let f = c.args.function.0 in
    let read : get (Simple Undefined) prototype_name (plain_objects h) f ≡ content h.texts c.get-2.result =
    (c.operations_go_by_content.ensures h).get f prototype_name ∙ ap (content h.texts) (ap (λ n. get value.Undefined n h.objects f) (sym c.prototype_text.ensures) ∙ sym c.get-2.ensures.value)
    in
    sym (ap prototype_from (read ∙ ap (content h.texts) c.in-Obj.is))

abbrev object_at : ℕ → ObjId
object_at n = record { 0 = n }

pub returns : goal.returns
returns c =
    let h = c.args.machine.now in
    let f = c.args.function.0 in
    let read : get (Simple Undefined) prototype_name (plain_objects h) f ≡ content h.texts c.get-2.result =
    (c.operations_go_by_content.ensures h).get f prototype_name ∙ ap (content h.texts) (ap (λ n. get value.Undefined n h.objects f) (sym c.prototype_text.ensures) ∙ sym c.get-2.ensures.value)
    in
    record {
      is = ap object_at c.place.ensures.place ∙ sym (ap prototype_from read ∙ other_from h.texts c.get-2.result c.in_default.not-Obj);
      within = omega (arith, c.place.ensures.first, c.requires.first);
    }
