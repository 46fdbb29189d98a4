use Rattle.std.proofs.Common.{sym, ap, ◌∙◌}
use Rattle.njs_interp.specs.Leading.{with_taken}
use Rattle.njs_interp.proofs.lead.take_up.Goals as goal

pub returns-in-Past-clause-taken : goal.returns-in-Past-clause-taken
returns-in-Past-clause-taken c = record {
  kept = c.cut_to.new.stacks;
  cut = c.cut_to.ensures;
  now = sym (ap (λ way. with_taken c.args.ending way c.cut_to.new.stacks) c.in-Past.is);
}

pub returns-in-Behind-clause-taken : goal.returns-in-Behind-clause-taken
returns-in-Behind-clause-taken c = record {
  kept = c.cut_to.new.stacks;
  cut = c.cut_to.ensures;
  now = sym (ap (λ way. with_taken c.args.ending way c.cut_to.new.stacks) c.in-Behind.is);
}

pub returns-in_ok-push-in-Catches-clause-taken : goal.returns-in_ok-push-in-Catches-clause-taken
returns-in_ok-push-in-Catches-clause-taken c = record {
  kept = c.cut_to.new.stacks;
  cut = c.cut_to.ensures;
  now = (λ i. record c.cut_to.new.stacks { operands = c.in_ok-push-in-Catches.ensures.ok i })
      ∙ sym (ap (λ way. with_taken c.args.ending way c.cut_to.new.stacks) c.in-Catches.is);
}

pub returns-in_ok-push-in-Waits-clause-taken : goal.returns-in_ok-push-in-Waits-clause-taken
returns-in_ok-push-in-Waits-clause-taken c = record {
  kept = c.cut_to.new.stacks;
  cut = c.cut_to.ensures;
  now = (λ i. record c.cut_to.new.stacks { endings = c.in_ok-push-in-Waits.ensures.ok i })
      ∙ sym (ap (λ way. with_taken c.args.ending way c.cut_to.new.stacks) c.in-Waits.is);
}
