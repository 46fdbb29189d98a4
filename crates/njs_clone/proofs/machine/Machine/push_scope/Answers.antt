use Rattle.std.proofs.Common.{◌≡◌, ◌<◌, sym, subst, List, replicate, rules}
use Rattle.std.specs.List.{AllByRecursion}
use Rattle.std.specs.Option.{ForSome}
use Rattle.njs_value.specs.declared.Value.TheVariants.{Undefined}
use Rattle.njs_shared.specs.Fits.{FitsValue}
use Rattle.njs_shared.specs.Heap.{Heap, sizes}
use Rattle.njs_shared.specs.declared.object.Scope.{Scope}
use Rattle.njs_clone.proofs.Fitting.{all_repeated}
use Rattle.njs_clone.proofs.Held.{Holds, scope_more}
use Rattle.njs_clone.proofs.machine.Machine.push_scope.Goals as goal

pub invariant_of-self-2 : goal.invariant_of-self-2
invariant_of-self-2 g c =
    let heap : Heap = record { objects = c.self.inside.objects; scopes = c.self.inside.scopes; texts = c.self.inside.texts } in
    let same : c.from_vec.result ≡ replicate c.args.slots Undefined = search rules in
    subst (λ (ss : List Scope). Holds (record heap { scopes = ss })) (sym c.in_ok-scope.ensures.ok)
    (scope_more heap c.self.invariant _ (record {
      parent = subst (λ (h : Heap). ForSome c.args.parent (λ up. up.0 < (sizes h).scopes)) (sym c.self.view_is) c.requires;
      slots = subst (AllByRecursion (FitsValue (sizes heap))) (sym same) (all_repeated (FitsValue (sizes heap)) c.args.slots Undefined tt);
    }))
