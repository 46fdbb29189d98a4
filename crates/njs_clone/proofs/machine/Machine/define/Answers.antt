use Rattle.std.proofs.Common.{◌<◌, ◌^◌, sym, subst, ℕ, Option}
use Rattle.std.specs.Option.{ForSome}
use Rattle.njs_value.specs.declared.Value.TheVariants.{Undefined}
use Rattle.njs_shared.specs.Fits.{FitsValue}
use Rattle.njs_shared.specs.Heap.{Heap, sizes}
use Rattle.njs_clone.specs.Content.{stored, written}
use Rattle.njs_clone.proofs.DefinedLengths.{define_keeps}
use Rattle.njs_clone.proofs.Fitting.{written-fits}
use Rattle.njs_clone.proofs.Held.{properties_changed}
use Rattle.njs_clone.proofs.Kept.{define-kept, defined-small}
use Rattle.njs_clone.proofs.machine.Machine.define.Goals as goal

pub invariant_of-self-2 : goal.invariant_of-self-2
invariant_of-self-2 g c =
    let heap : Heap = record { objects = c.self.inside.objects; scopes = c.self.inside.scopes; texts = c.self.inside.texts } in
    let e = c.in-Ok.ensures.ok in
    let small : ForSome c.defined_length.result (λ n. n < 2 ^ 32) =
    subst (λ (r : Option ℕ). ForSome r (λ n. n < 2 ^ 32)) (sym c.defined_length.ensures) (defined-small c.args.self.now.texts c.args.desc.value) in
    let given : ForSome c.args.desc.value (FitsValue (sizes heap)) = subst (λ (h : Heap). ForSome c.args.desc.value (FitsValue (sizes h))) (sym c.self.view_is) c.requires.value in
    properties_changed heap c.self.invariant c.args.object.0 e.0 e.1 _ c.change.new.self e.2 e.3.1
    (λ all. define-kept (FitsValue (sizes heap)) stored written (written-fits (sizes heap)) Undefined tt c.defined_length.result c.gives_other.result e.0.class e.0.extensible c.args.name.now c.args.desc e.0.props small given all)
    (λ is_array h. define_keeps Undefined c.defined_length.result c.gives_other.result e.0.class e.0.extensible c.args.name.now c.args.desc e.0.props small is_array h)
    e.4
