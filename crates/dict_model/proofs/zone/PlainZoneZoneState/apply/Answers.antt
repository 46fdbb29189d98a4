use Rattle.std.proofs.Common.{arith}
use Rattle.dict_model.specs.Zone as zones
use Rattle.dict_model.proofs.Validity.{valid_filter}
use Rattle.dict_model.proofs.Alls.{filter_twice}
use Rattle.dict_model.proofs.zone.PlainZoneZoneState.apply.Goals as goal

pub change-requires-clause-valid : goal.change-requires-clause-valid
change-requires-clause-valid c =
    let inside = c.self.inside in
    let valid = c.self.invariant.1 in
    let before = valid.moment in
    rw (c.expire.ensures.items, c.prepare.ensures.items)
    (valid_filter inside.spec (zones.is_live c.max-moment.result) inside.entries.items inside.moment c.max-moment.result valid (omega arith))

pub change-requires-clause-live : goal.change-requires-clause-live
change-requires-clause-live c = rw c.expire.ensures.items (filter_twice (zones.is_live c.max-moment.result) c.prepare.new.entries.items)
