use Rattle.std.proofs.Common.{sym, subst, List, ℕ}
use Rattle.njs_shared.specs.Heap.{Heap}
use Rattle.njs_clone.proofs.Held.{Holds, text_more}
use Rattle.njs_clone.proofs.machine.Machine.add_text.Goals as goal

pub invariant_of-self-2 : goal.invariant_of-self-2
invariant_of-self-2 c =
    let heap : Heap = record { objects = c.self.inside.objects; scopes = c.self.inside.scopes; texts = c.self.inside.texts } in
    subst (λ (texts : List (List ℕ)). Holds (record heap { texts = texts })) (sym c.in_ok-push.ensures.ok) (text_more heap c.self.invariant c.args.text)
