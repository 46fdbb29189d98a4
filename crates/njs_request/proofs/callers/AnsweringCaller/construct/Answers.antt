use Rattle.std.proofs.Common.{refl, map}
use Rattle.njs_clone.specs.Content.{content}
use Rattle.njs_meaning.specs.Primitives.{Undefined}
use Rattle.njs_meaning.specs.Values.{Simple}
use Rattle.njs_meaning.specs.Running.{Calls}
use Rattle.njs_request.specs.Answering.{answering}
use Rattle.njs_request.proofs.callers.AnsweringCaller.construct.Goals as goal

pub returns-clause-told : goal.returns-clause-told
returns-clause-told g c = λ calls known follows agrees. record {
  by = λ s stands.
      let h = c.args.machine.now in
      let own = c.args.self.now in
      let meant : Calls = record {
        call = answering own.number;
        construct = λ f args t. answering own.number f (Simple Undefined) args t;
      } in
      rw (follows.1 (content h.texts c.args.callee) (map (content h.texts) c.args.args.now) s)
      ((c.call.ensures.told meant known (λ f this args t. refl, λ f args t. refl) agrees).by s stands);
}
