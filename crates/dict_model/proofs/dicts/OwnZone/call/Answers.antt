use Rattle.dict_model.proofs.Histories.{led_more}
use Rattle.dict_model.proofs.dicts.OwnZone.call.Goals as goal

pub invariant_of-self-in-Ok-apply : goal.invariant_of-self-in-Ok-apply
invariant_of-self-in-Ok-apply c =
    let zone = c.self.inside.zone in
    let valid = rw c.apply.ensures.spec at c.apply.ensures.valid in
    rw (c.apply.ensures.spec, c.in-Ok.ensures.ok)
    (led_more zone.spec c.self.inside.own.items zone.state c.apply.new.self.state c.args.op c.args.reading c.self.invariant c.in-Ok-apply.ensures.applied.1 valid)

pub returns-in-Ok-apply-clause-legal : goal.returns-in-Ok-apply-clause-legal
returns-in-Ok-apply-clause-legal c =
    let zone = c.self.inside.zone in
    let valid = rw c.apply.ensures.spec at c.apply.ensures.valid in
    let led = led_more zone.spec c.self.inside.own.items zone.state c.apply.new.self.state c.args.op c.args.reading c.self.invariant c.in-Ok-apply.ensures.applied.1 valid in
    rw (c.apply.ensures.spec, c.in-Ok.ensures.ok) led.is_own
