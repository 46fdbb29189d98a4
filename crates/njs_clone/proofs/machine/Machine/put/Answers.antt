use Rattle.std.proofs.Common.{◌<◌, ◌^◌, sym, subst, ℕ, Option}
use Rattle.std.specs.Option.{ForSome}
use Rattle.njs_shared.specs.Fits.{FitsValue}
use Rattle.njs_shared.specs.Heap.{Heap, sizes}
use Rattle.njs_clone.specs.Content.{stored, written}
use Rattle.njs_clone.proofs.Fitting.{written-fits}
use Rattle.njs_clone.proofs.Held.{properties_changed}
use Rattle.njs_clone.proofs.Kept.{put-kept, given-small}
use Rattle.njs_clone.proofs.Lengths.{put_keeps}
use Rattle.njs_clone.proofs.machine.Machine.put.Goals as goal

pub invariant_of-self-2 : goal.invariant_of-self-2
invariant_of-self-2 g c =
    let heap : Heap = record { objects = c.self.inside.objects; scopes = c.self.inside.scopes; texts = c.self.inside.texts } in
    let e = c.in-Ok.ensures.ok in
    let small : ForSome c.given_length.result (λ n. n < 2 ^ 32) =
    subst (λ (r : Option ℕ). ForSome r (λ n. n < 2 ^ 32)) (sym c.given_length.ensures) (given-small c.args.self.now.texts c.args.value) in
    let here : FitsValue (sizes heap) c.args.value = subst (λ (h : Heap). FitsValue (sizes h) c.args.value) (sym c.self.view_is) c.requires.value in
    properties_changed heap c.self.invariant c.args.object.0 e.0 e.1 _ c.change.new.self e.2 e.3.1
    (λ all. put-kept (FitsValue (sizes heap)) stored written (written-fits (sizes heap)) c.given_length.result e.0.class e.0.extensible c.nearest.result c.args.name.now c.args.value e.0.props small here all)
    (λ is_array h. put_keeps c.given_length.result e.0.class e.0.extensible c.nearest.result c.args.name.now c.args.value e.0.props small is_array h)
    e.4
