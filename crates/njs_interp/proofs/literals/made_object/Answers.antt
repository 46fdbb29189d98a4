use Rattle.std.proofs.Common.{Some, true, ap, sym, ◌∙◌}
use Rattle.njs_value.specs.declared.ObjId.{ObjId}
use Rattle.njs_shared.specs.declared.object.Inner.TheVariants as inner
use Rattle.njs_clone.specs.Content.{written}
use Rattle.njs_meaning.specs.PlainHeap.{Plain}
use Rattle.njs_meaning.specs.Values.{ObjectAt, length_value}
use Rattle.njs_meaning.specs.Errors.{place_of}
use Rattle.njs_meaning.specs.Objects.{with_new_object, first_props}
use Rattle.njs_interp.proofs.Extending.{extends-pushed, on-pushed, count-same, extends-same}
use Rattle.njs_interp.proofs.literals.made_object.Goals as goal

pub returns-in-Ok-clause-told : goal.returns-in-Ok-clause-told
returns-in-Ok-clause-told g c =
    let h = c.args.machine.now in
    let k = c.new_object.new.self in
    let up : ObjId = record { 0 = c.place.result } in
    let os = with_new_object written c.args.class (Some up) inner.Plain h.objects in
    record {
      by = λ s stands. (
        ap ObjectAt (c.in-Ok.ensures.number ∙ count-same h s stands),
        on-pushed h k s os (with_new_object length_value c.args.class (Some (record { 0 = place_of c.args.prototype })) Plain s.objects) c.in-Ok.ensures.ok
            (sym ((c.operations_go_by_content.ensures h).created c.args.class (Some up) inner.Plain)
            ∙ ap (with_new_object length_value c.args.class (Some up) Plain) stands.objects
            ∙ ap (λ n. with_new_object length_value c.args.class (Some (record { 0 = n })) Plain s.objects) c.place.ensures.place) stands,
      );
    }

pub returns-in-Ok-clause-extends : goal.returns-in-Ok-clause-extends
returns-in-Ok-clause-extends g c =
    let h = c.args.machine.now in
    let up : ObjId = record { 0 = c.place.result } in
    extends-pushed h c.new_object.new.self (record { class = c.args.class; prototype = Some up; extensible = true; props = first_props written c.args.class; inner = inner.Plain }) tt c.in-Ok.ensures.ok

pub returns-in-Err-clause-extends : goal.returns-in-Err-clause-extends
returns-in-Err-clause-extends g c = extends-same c.args.machine.now c.new_object.new.self c.in-Err.ensures.err
