use Rattle.std.proofs.Common.{◌≡◌, ◌<◌, ◌≤◌, ◌+◌, ◌++◌, ◌∷◌, [], List, length, map, get_or, set, rules, arith, ap, sym, subst, ◌∙◌, length-set, refl}
use Rattle.std.proofs.lemmas.List.{get_or_append_left, get_or_push, get_or-map, map-append, take_more}
use Rattle.dict_lock.specs.Known.{ZoneName, Caller, Stays, IsNewFrom}
use Rattle.dict_pass.specs.Callers.{zone_of}
use Rattle.dict_pass.proofs.Places.{nobody, same_map, at_or_not, known_at, pairs_by_index, triples_by_index}
use Rattle.dict_pass.proofs.Calls.{stays_same, spent_at}
use Rattle.dict_pass.proofs.seats.split_all.Goals as goal

pub returns-in-Err-clause-zones : goal.returns-in-Err-clause-zones
returns-in-Err-clause-zones g c =
    let i = c.loop-at.invariant in
    let xs = c.loop-at.seats.items in
    let lt : c.loop-at.at < length xs = omega arith in
    same_map zone_of xs c.loop-at.at c.index_mut.result.now c.split.new.seat c.index_mut.ensures.value c.split.ensures.stays.zone ∙ i.zones

pub loop-at-preserved : goal.loop-at-preserved
loop-at-preserved g c =
    let i = c.loop-at.invariant in
    let at = c.loop-at.at in
    let xs = c.loop-at.seats.items in
    let first = c.args.seats.now.items in
    let old = c.index_mut.result.now in
    let new = c.split.new.seat in
    let made = c.in-Ok-split.seat in
    let lt : at < length xs = omega arith in
    let was : old ≡ get_or first at nobody = known_at xs at old lt c.index_mut.ensures.value ∙ i.rest at (omega arith) in
    let pushed = c.push_reserved.ensures.items in
    let place : made.zone ≡ get_or c.args.zones.now at made.zone = ap zone_of c.in-Ok-split.ensures.new.3 ∙ ap zone_of c.index_mut.ensures.value ∙ sym (get_or-map zone_of xs at old made.zone lt) ∙ ap (λ (l : List ZoneName). get_or l at made.zone) i.zones in
    let long : length c.loop-at.new.items ≡ at = omega (arith, i.count) in
    record {
      zones = same_map zone_of xs at old new c.index_mut.ensures.value c.split.ensures.stays.zone ∙ i.zones;
      long = length-set xs at new ∙ i.long;
      within = length-set xs at new ∙ i.within;
      stays = λ k in-it. at_or_not (λ j y. j < length first → Stays (get_or first j nobody) y) xs at new lt (λ _. subst (λ (y : Caller). Stays y new) was c.split.ensures.stays) (λ j ne le. i.stays j le) k in-it;
      rest = λ k le. at_or_not (λ j y. at + 1 ≤ j → y ≡ get_or first j nobody) xs at new lt (λ no. absurd (omega arith)) (λ j ne past. i.rest j (omega arith)) k le;
      own = ap (map zone_of) pushed ∙ map-append zone_of c.loop-at.new.items (made ∷ []) ∙ (λ q. i.own q ++ place q ∷ []) ∙ sym (take_more c.args.zones.now at made.zone (omega arith));
      count = search rules;
      room = search rules;
      new = λ k below. at_or_not (λ j y. j < at + 1 → IsNewFrom (get_or first j nobody) y (get_or c.push_reserved.new.self.items j nobody)) xs at new lt
          (λ _. subst (λ (l : List Caller). IsNewFrom (get_or first at nobody) new (get_or l at nobody)) (sym pushed)
          (subst (λ (y : Caller). IsNewFrom (get_or first at nobody) new y) (sym (get_or_push c.loop-at.new.items made nobody at long)) (subst (λ (y : Caller). IsNewFrom y new made) was c.in-Ok-split.ensures.new)))
          (λ j ne past. let less : j < length c.loop-at.new.items = omega arith in subst (λ (l : List Caller). IsNewFrom (get_or first j nobody) (get_or xs j nobody) (get_or l j nobody)) (sym pushed)
          (subst (λ (y : Caller). IsNewFrom (get_or first j nobody) (get_or xs j nobody) y) (sym (get_or_append_left c.loop-at.new.items (made ∷ []) nobody j less)) (i.new j (omega arith))))
          k below;
    }

pub returns-in_default-clause-stays : goal.returns-in_default-clause-stays
returns-in_default-clause-stays g c = pairs_by_index Stays c.args.seats.now.items c.args.seats.now.items refl (λ k lt. stays_same _)

pub returns-in-Err-clause-stays : goal.returns-in-Err-clause-stays
returns-in-Err-clause-stays g c =
    let i = c.loop-at.invariant in
    let at = c.loop-at.at in
    let xs = c.loop-at.seats.items in
    let first = c.args.seats.now.items in
    let old = c.index_mut.result.now in
    let new = c.split.new.seat in
    let lt : at < length xs = omega arith in
    let was : old ≡ get_or first at nobody = known_at xs at old lt c.index_mut.ensures.value ∙ i.rest at (omega arith) in
    pairs_by_index Stays first (set xs at new) (length-set xs at new ∙ i.long)
    (at_or_not (λ j y. j < length first → Stays (get_or first j nobody) y) xs at new lt (λ _. subst (λ (y : Caller). Stays y new) was c.split.ensures.stays) (λ j ne le. i.stays j le))

pub returns-in-Err-clause-new : goal.returns-in-Err-clause-new
returns-in-Err-clause-new g c =
    let at = c.loop-at.at in
    let xs = c.loop-at.seats.items in
    let new = c.split.new.seat in
    let lt : at < length xs = omega arith in
    spent_at xs at new c.in-Err.stop lt c.in-Err.ensures.new

pub returns-clause-stays : goal.returns-clause-stays
returns-clause-stays g c =
    let i = c.loop-at.invariant in
    pairs_by_index Stays c.args.seats.now.items c.loop-at.seats.items i.long i.stays

pub returns-clause-new : goal.returns-clause-new
returns-clause-new g c =
    let i = c.loop-at.invariant in
    triples_by_index IsNewFrom c.args.seats.now.items c.loop-at.seats.items c.loop-at.new.items i.long (omega (arith, i.count, i.within, i.long)) (λ k lt. i.new k (omega (arith, i.within, i.long)))
