use Rattle.std.proofs.Common.{rules, ◌≡◌, ◌≤◌, ◌+◌, ◌-◌, ◌∙◌, ap, filter, arith}
use Rattle.dict_model.specs.Eviction as costs
use Rattle.dict_model.specs.Zone as zones
use Rattle.dict_model.proofs.Validity.{valid_put, fits_alone}
use Rattle.dict_model.proofs.change.store.Goals as goal

pub returns-clause-valid : goal.returns-clause-valid
returns-clause-valid c =
    let spec = c.args.spec.now in
    let key = c.args.key in
    let value = c.args.value in
    let es = c.args.entries.now.items in
    let need = c.saturating_sub.result in
    let new = zones.new_entry spec c.args.moment key value in
    let others : c.others-others.result ≡ costs.others key es =
    c.others-others.ensures.is ∙ ap (λ xs. costs.others key (filter (zones.is_live c.args.moment) xs)) c.as_slice.ensures.value ∙ ap (costs.others key) c.requires.live in
    let alone = fits_alone spec es key value c.requires.fits in
    let needed : need ≡ (costs.others key es + costs.cost key value) - spec.limit = omega (arith, c.saturating_sub.ensures) in
    let within : costs.others key c.evict.new.entries.items + costs.cost key value ≤ spec.limit = omega arith in
    let is : c.put.new.entries.items ≡ zones.put new (costs.left key need es) = search rules in
    rw is (valid_put spec new need c.args.moment es c.requires.valid c.requires.value (rw c.evict.ensures.left at within))
