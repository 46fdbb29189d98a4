use Rattle.std.proofs.Common.{◌≡◌, ◌∙◌, ap, subst, sym, map, set, Some}
use Rattle.std.specs.Prelude.{slice_get}
use Rattle.dict_model.specs.Calls.{Calls}
use Rattle.dict_model.specs.History.{Later}
use Rattle.dict_model.proofs.Histories.{is_zone, same_specs, calls_of, begins_of, later_changes, histories_change}
use Rattle.dict_model.proofs.dicts.PlainDictsDicts.call.Goals as goal

pub invariant_of-self : goal.invariant_of-self
invariant_of-self c = histories_change c.self.inside.zones.items c.args.zone c.call.new.self c.self.invariant c.call.ensures.legal

pub returns-clause-specs : goal.returns-clause-specs
returns-clause-specs c =
    let zones = c.self.inside.zones.items in
    let exists = subst (λ v. slice_get v.specs c.args.zone ≡ Some c.requires.asked.spec) (sym c.self.view_is) c.requires.asked.exists in
    let below = is_zone zones c.args.zone c.requires.asked.spec exists in
    same_specs zones c.args.zone c.index_mut.result.now c.call.new.self below c.index_mut.ensures.value c.call.ensures.spec ∙ ap (λ v. v.specs) c.self.view_is

pub returns-clause-calls : goal.returns-clause-calls
returns-clause-calls c =
    let zones = c.self.inside.zones.items in
    let exists = subst (λ v. slice_get v.specs c.args.zone ≡ Some c.requires.asked.spec) (sym c.self.view_is) c.requires.asked.exists in
    let below = is_zone zones c.args.zone c.requires.asked.spec exists in
    subst (λ v. Calls v.specs v.own (map (λ z. z.own) (set zones c.args.zone c.call.new.self)) c.args.zone c.args.op c.args.reading c.call.result) c.self.view_is
    (calls_of zones c.args.zone c.index_mut.result.now c.call.new.self c.args.op c.args.reading c.call.result below c.index_mut.ensures.value c.call.ensures.adds)

pub returns-clause-later : goal.returns-clause-later
returns-clause-later c =
    let zones = c.self.inside.zones.items in
    let z = c.index_mut.result.now in
    let exists = subst (λ v. slice_get v.specs c.args.zone ≡ Some c.requires.asked.spec) (sym c.self.view_is) c.requires.asked.exists in
    let below = is_zone zones c.args.zone c.requires.asked.spec exists in
    let begins = begins_of z.spec z.own c.call.new.self.own c.args.op c.args.reading c.call.result c.call.ensures.adds in
    subst (λ v. Later v.own (map (λ z. z.own) (set zones c.args.zone c.call.new.self))) c.self.view_is
    (later_changes zones c.args.zone z c.call.new.self below c.index_mut.ensures.value begins)

pub returns-clause-legal : goal.returns-clause-legal
returns-clause-legal c = histories_change c.self.inside.zones.items c.args.zone c.call.new.self c.self.invariant c.call.ensures.legal
