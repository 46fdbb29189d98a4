use Rattle.std.proofs.Common.{Some, refl, ap, ◌∙◌, ◌++◌, ◌∷◌, [], arith}
use Rattle.dict_lock.proofs.Sharing.{opens_as}
use Rattle.dict_lock.proofs.Calls.{first_idle}
use Rattle.dict_lock.proofs.zone.Zone.new.Goals as goal

pub new-requires : goal.new-requires
new-requires g c = opens_as g.Z.ZoneState.spec g.Z.ZoneState.state _ _ c.args.state c.args.count _ c.of.ensures refl c.requires.state c.requires.some (omega arith) (c.push_reserved.ensures.items ∙ ap (λ l. l ++ Some record { state = c.args.state; next = c.args.count } ∷ []) c.in-Ok.ensures.items)

pub invariant_of-result-in-Ok-new : goal.invariant_of-result-in-Ok-new
invariant_of-result-in-Ok-new g c = first_idle _ c.args.count c.in-Ok-new.seat.me (omega arith) c.in-Ok-new.ensures.ok.4
