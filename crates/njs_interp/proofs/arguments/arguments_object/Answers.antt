use Rattle.std.proofs.Common.{Some, ◌++◌, ◌∷◌, [], map, ap, sym, ◌∙◌, subst, arith}
use Rattle.std.proofs.lemmas.Int.{ints}
use Rattle.njs_value.specs.declared.Class.TheVariants as class
use Rattle.njs_value.specs.declared.ObjId.{ObjId}
use Rattle.njs_shared.specs.declared.object.Inner.TheVariants as inner
use Rattle.njs_shared.specs.Heap.{sizes}
use Rattle.njs_shared.specs.Fits.{FitsProperties}
use Rattle.njs_clone.specs.Content.{content}
use Rattle.njs_clone.specs.Created.{object_of, with_object_of}
use Rattle.njs_meaning.specs.Functions.{arguments_object}
use Rattle.njs_meaning.specs.Values.{ObjectAt}
use Rattle.njs_interp.proofs.Extending.{extends-pushed, extends-same, on-pushed, count-same}
use Rattle.njs_interp.proofs.Standing.{extends-nothing}
use Rattle.njs_interp.proofs.Numbered.{arguments-fit, arguments-pushed}
use Rattle.njs_interp.proofs.arguments.arguments_object.Goals as goal

pub returns-in-Err-clause-extends : goal.returns-in-Err-clause-extends
returns-in-Err-clause-extends g c = extends-nothing c.args.machine.now

pub new_object_with-requires-clause-props : goal.new_object_with-requires-clause-props
new_object_with-requires-clause-props g c =
    let n = sizes c.args.machine.now in
    subst (FitsProperties n) (sym c.in-Ok.ensures) (arguments-fit n c.args.args.now (record { low = omega (arith, ints, c.requires.few); high = omega (arith, ints, c.requires.few) }) c.requires.args)

pub new_object_with-requires-clause-length : goal.new_object_with-requires-clause-length
new_object_with-requires-clause-length g c = λ is. let never : ⊥ = cc in absurd never

pub returns-in-Ok-new_object_with-clause-told : goal.returns-in-Ok-new_object_with-clause-told
returns-in-Ok-new_object_with-clause-told g c =
    let h = c.args.machine.now in
    let k = c.new_object_with.new.self in
    let up : ObjId = record { 0 = c.place.result } in
    let props = c.in-Ok.props in
    record {
      by = λ s stands. (
        ap ObjectAt (c.in-Ok-new_object_with.ensures.number ∙ count-same h s stands),
        on-pushed h k s (with_object_of class.Arguments (Some up) props inner.Plain h.objects) (s.objects ++ arguments_object (map (content h.texts) c.args.args.now) ∷ []) c.in-Ok-new_object_with.ensures.ok
            (arguments-pushed h s.objects c.args.args.now c.place.result props c.place.ensures.place c.in-Ok.ensures stands.objects) stands,
      );
    }

pub returns-in-Ok-new_object_with-clause-extends : goal.returns-in-Ok-new_object_with-clause-extends
returns-in-Ok-new_object_with-clause-extends g c =
    let up : ObjId = record { 0 = c.place.result } in
    extends-pushed c.args.machine.now c.new_object_with.new.self (object_of class.Arguments (Some up) c.in-Ok.props inner.Plain) tt c.in-Ok-new_object_with.ensures.ok

pub returns-in-Err-new_object_with-clause-extends : goal.returns-in-Err-new_object_with-clause-extends
returns-in-Err-new_object_with-clause-extends g c = extends-same c.args.machine.now c.new_object_with.new.self c.in-Err-new_object_with.ensures.err
