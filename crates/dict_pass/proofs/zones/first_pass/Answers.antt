use Rattle.std.proofs.Common.{map, ap, sym, ◌∙◌}
use Rattle.dict_pass.specs.Callers.{dealer, zone_of, spec_of}
use Rattle.dict_pass.proofs.Opening.{zones_dealer}
use Rattle.dict_pass.proofs.zones.first_pass.Goals as goal

pub of-requires : goal.of-requires
of-requires g c = ap (map zone_of) c.in_ok-new.ensures.callers ∙ zones_dealer 1 c.args.count c.in_ok-new.new.items ∙ sym c.as_slice-shared.ensures.value

pub returns-clause-dealer : goal.returns-clause-dealer
returns-clause-dealer g c =
    let made = c.of.ensures ∙ c.in_ok-new.ensures.callers in
    made ∙ ap (map (dealer 1 c.args.count)) (sym (ap (map zone_of) made ∙ zones_dealer 1 c.args.count c.in_ok-new.new.items))

pub returns-clause-specs : goal.returns-clause-specs
returns-clause-specs g c =
    let made = c.of.ensures ∙ c.in_ok-new.ensures.callers in
    ap (map spec_of) (ap (map zone_of) made ∙ zones_dealer 1 c.args.count c.in_ok-new.new.items) ∙ c.in_ok-new.ensures.specs ∙ c.as_slice.ensures.value ∙ c.zones.view_is
