use Rattle.std.proofs.Common.{◌≡◌, ◌<◌, length, map, set, Some, List, ap, subst, ◌∙◌}
use Rattle.std.specs.Prelude.{slice_get}
use Rattle.dict_lock.specs.Known.{Caller}
use Rattle.dict_pass.specs.Callers.{Asks, specs_of, zone_of}
use Rattle.dict_pass.proofs.Places.{same_map, stands_at}
use Rattle.dict_pass.proofs.Calls.{is_within, zone_at, call_zone, asks_of}
use Rattle.dict_pass.proofs.pass.Pass.ask.Goals as goal

pub invariant_of-self : goal.invariant_of-self
invariant_of-self g c =
    let xs = c.self.inside.seats.items in
    same_map zone_of xs c.args.zone c.index_mut.result.now c.call.new.seat c.index_mut.ensures.value
    (call_zone c.call.result c.args.op c.args.reading c.index_mut.result.now c.call.new.seat c.call.ensures.ok c.call.ensures.err) ∙ c.self.invariant

pub returns-clause-asks : goal.returns-clause-asks
returns-clause-asks g c =
    let xs = c.self.inside.seats.items in
    let at = c.args.zone in
    let k = c.index_mut.result.now in
    let lt : at < length xs = is_within xs at c.requires.asked.spec (ap (λ (l : List Caller). slice_get (specs_of l) at) c.self.view_is ∙ c.requires.asked.exists) in
    let was : slice_get xs at ≡ Some k = stands_at xs at k k lt c.index_mut.ensures.value in
    subst (λ (l : List Caller). Asks l (set xs at c.call.new.seat) at c.args.op c.args.reading c.call.result) c.self.view_is
    (asks_of xs at k c.call.new.seat c.call.result c.args.op c.args.reading _ was (ap (λ z. z.spec) (zone_at xs c.self.inside.zones.now at c.index-self-at.result k c.self.invariant was)) c.call.ensures.ok c.call.ensures.err c.call.ensures.reply c.call.ensures.caller)

pub returns-clause-zones : goal.returns-clause-zones
returns-clause-zones g c =
    let xs = c.self.inside.seats.items in
    same_map zone_of xs c.args.zone c.index_mut.result.now c.call.new.seat c.index_mut.ensures.value
    (call_zone c.call.result c.args.op c.args.reading c.index_mut.result.now c.call.new.seat c.call.ensures.ok c.call.ensures.err) ∙ ap (map zone_of) c.self.view_is
