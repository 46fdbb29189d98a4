use Rattle.std.proofs.Common.{◌≡◌, ◌+◌, ◌-◌, ◌++◌, ◌∷◌, [], List, map, set, get_or, rules, arith, ap, sym, ◌∙◌}
use Rattle.dict_lock.specs.Known.{ZoneName, Caller}
use Rattle.dict_pass.specs.Callers.{dealer, opened, passes_from, zone_of}
use Rattle.dict_pass.specs.Rounds.{zones_of_first}
use Rattle.dict_pass.proofs.Opening.{zones_dealer, next_round}
use Rattle.dict_pass.proofs.zones.deal_rest.Goals as goal

pub deal-requires-clause-dealer : goal.deal-requires-clause-dealer
deal-requires-clause-dealer g c =
    let n = c.loop-number.number in
    let count = c.args.count in
    let zs : List ZoneName = zones_of_first c.args.list.now.items in
    let first : c.index_mut.result.now ≡ map (dealer n count) zs = c.index_mut.ensures.value ∙ ap (λ (l : List (List Caller)). get_or l 0 c.index_mut.result.now) c.loop-number.invariant.round in
    first ∙ ap (map (dealer n count)) (sym (ap (map zone_of) first ∙ zones_dealer n count zs))

pub loop-number-preserved : goal.loop-number-preserved
loop-number-preserved g c =
    let i = c.loop-number.invariant in
    let n = c.loop-number.number in
    let count = c.args.count in
    let zs : List ZoneName = zones_of_first c.args.list.now.items in
    let behind : List (List Caller) = passes_from zs count 1 (n - 1) in
    let pass = c.in_ok-pass.pass in
    let first : c.index_mut.result.now ≡ map (dealer n count) zs = c.index_mut.ensures.value ∙ ap (λ (l : List (List Caller)). get_or l 0 c.index_mut.result.now) i.round in
    let zones : map zone_of c.index_mut.result.now ≡ zs = ap (map zone_of) first ∙ zones_dealer n count zs in
    let left : c.deal.new.self ≡ map (dealer (n + 1) count) zs = c.in_ok-pass.ensures.rest ∙ ap (map (dealer (n + 1) count)) zones in
    let new : pass ≡ map (opened n count) zs = c.in_ok-pass.ensures.new ∙ ap (map (opened n count)) zones in
    record {
      round = c.push_reserved.ensures.items ∙ ap (λ (l : List (List Caller)). set l 0 c.deal.new.self ++ pass ∷ []) i.round ∙ (λ k. left k ∷ (behind ++ new k ∷ [])) ∙ next_round zs count n i.some;
      some = omega arith;
      long = search rules;
      room = search rules;
    }
