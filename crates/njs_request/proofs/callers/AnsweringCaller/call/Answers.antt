use Rattle.std.proofs.Common.{◌≡◌, ◌-◌, false, map, ap, sym, ◌∙◌, FitsSigned, w32, rules}
use Rattle.std.proofs.lemmas.Int.{to_z-of_z}
use Rattle.std.specs.Prelude.{◌==◌}
use Rattle.std.specs.Str.{chars}
use Rattle.njs_shared.specs.Heap.{sizes}
use Rattle.njs_clone.specs.Content.{content}
use Rattle.njs_meaning.specs.Primitives.{Number}
use Rattle.njs_meaning.specs.Values.{Simple}
use Rattle.njs_request.specs.Return.{plain_head, whole}
use Rattle.njs_request.proofs.Answering.{answered_call}
use Rattle.njs_request.proofs.callers.AnsweringCaller.call.Goals as goal

pub returns-clause-told : goal.returns-clause-told
unfolding chars
returns-clause-told g c = λ calls known follows agrees. record {
  by = λ s stands.
      let h = c.args._machine.now in
      let own = c.args.self.now in
      let some : (own.left == 0) ≡ false = cc in
      let fits : FitsSigned w32 own.number = search rules in
      let f = content h.texts c.args._callee in
      let this = content h.texts c.args._this in
      let args = map (content h.texts) c.args._args.now in
      answered_call h.texts own.number own.left c.number_value.result f this args calls.call _ (λ t. Unit {0}) s (follows.0 f this args s) stands.1 some
      (c.number_value.ensures.shows h.texts ∙ ap (λ n. Simple (Number n)) (to_z-of_z w32 own.number fits))
      (stands.0, ap (λ t. t - 1) stands.1, stands.2, sym (c.answer.ensures ∙ ap (λ head. whole head c.fixed.result) c.plain-head.ensures ∙ ap (whole (plain_head 500)) c.fixed.ensures));
}

pub returns-clause-value : goal.returns-clause-value
returns-clause-value g c = c.number_value.ensures.fits (sizes c.args._machine.now)
