use Rattle.std.proofs.Common.{◌≡◌, ◌-◌, false, map, ap, sym, ◌∙◌}
use Rattle.std.specs.Prelude.{◌==◌}
use Rattle.njs_shared.specs.Heap.{sizes}
use Rattle.njs_clone.specs.Content.{content}
use Rattle.njs_convert.specs.Answering.{with_array}
use Rattle.njs_convert.proofs.Answering.{array_grows, with_array_is, still_fits, answered}
use Rattle.njs_convert.proofs.callers.AnsweringCaller.call.Goals as goal

pub returns-clause-told : goal.returns-clause-told
returns-clause-told g c = λ calls known follows agrees. record {
  by = λ s stands.
      let h = c.args.machine.now in
      let k = c.new_object.new.self in
      let own = c.args.self.now in
      let some : (own.left == 0) ≡ false = cc in
      answered h k c.in-Ok.ensures.ok c.args.callee c.args.this c.answer.result (map (content h.texts) c.args._args.now) own.left own.at own.first own.second c.chosen.result calls.call _ (λ t. Unit {0}) s
      (follows.0 (content h.texts c.args.callee) (content h.texts c.args.this) (map (content h.texts) c.args._args.now) s) stands.1 some (c.chosen.ensures h.texts) (c.answer.ensures.answer h.texts)
      (ap with_array stands.0 ∙ sym (with_array_is h k c.in-Ok.ensures.ok (c.operations_go_by_content.ensures h)), ap (λ t. t - 1) stands.1, stands.2);
}

pub returns-clause-value : goal.returns-clause-value
returns-clause-value g c =
    let h = c.args.machine.now in
    let k = c.new_object.new.self in
    c.answer.ensures.fits (sizes k) (still_fits h k c.in-Ok.ensures.ok c.args.this c.requires.this)

pub returns-in_default-clause-grows : goal.returns-in_default-clause-grows
returns-in_default-clause-grows g c = array_grows c.args.machine.now c.new_object.new.self c.new_object.result c.new_object.ensures.ok c.new_object.ensures.err

pub returns-clause-grows : goal.returns-clause-grows
returns-clause-grows g c = array_grows c.args.machine.now c.new_object.new.self c.new_object.result c.new_object.ensures.ok c.new_object.ensures.err
