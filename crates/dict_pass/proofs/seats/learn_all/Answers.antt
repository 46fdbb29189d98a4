use Rattle.std.proofs.Common.{◌≡◌, ◌<◌, ◌≤◌, ◌+◌, List, length, get_or, set, arith, ap, sym, subst, ◌∙◌, length-set}
use Rattle.std.proofs.lemmas.List.{set-get_or, length-map}
use Rattle.dict_lock.specs.Known.{Caller, Learns}
use Rattle.dict_pass.specs.Callers.{zone_of}
use Rattle.dict_pass.proofs.Places.{nobody, same_map, at_or_not, known_at, triples_by_index}
use Rattle.dict_pass.proofs.seats.learn_all.Goals as goal

pub loop-at-preserved : goal.loop-at-preserved
loop-at-preserved c =
    let i = c.loop-at.invariant in
    let at = c.loop-at.at in
    let xs = c.loop-at.seats.items in
    let ys = c.loop-at.others.items in
    let first = c.args.seats.now.items in
    let second = c.args.others.now.items in
    let old = c.index_mut.result.now in
    let told = c.index_mut-in-loop-at.result.now in
    let new = c.learn.new.seat in
    let lt : at < length xs = omega arith in
    let gt : at < length ys = omega arith in
    let was : old ≡ get_or first at nobody = known_at xs at old lt c.index_mut.ensures.value ∙ i.rest at (omega arith) in
    let knew : told ≡ get_or second at nobody = known_at ys at told gt c.index_mut-in-loop-at.ensures.value ∙ ap (λ (l : List Caller). get_or l at nobody) i.others in
    let same : set ys at c.learn.new.other ≡ ys = ap (set ys at) (c.learn.ensures.other ∙ c.index_mut-in-loop-at.ensures.value) ∙ set-get_or ys at told in
    record {
      zones = same_map zone_of xs at old new c.index_mut.ensures.value (ap zone_of c.learn.ensures.learns.rest) ∙ i.zones;
      long = length-set xs at new ∙ i.long;
      others = same ∙ i.others;
      wide = ap length same ∙ i.wide;
      rest = λ k le. at_or_not (λ j y. at + 1 ≤ j → y ≡ get_or first j nobody) xs at new lt (λ no. absurd (omega arith)) (λ j ne past. i.rest j (omega arith)) k le;
      learns = λ k below. at_or_not (λ j y. j < at + 1 → Learns (get_or first j nobody) (get_or second j nobody) y) xs at new lt
          (λ _. subst (λ (y : Caller). Learns y (get_or second at nobody) new) was (subst (λ (y : Caller). Learns old y new) knew c.learn.ensures.learns))
          (λ j ne past. i.learns j (omega arith)) k below;
    }

pub returns-clause-learns : goal.returns-clause-learns
returns-clause-learns c =
    let i = c.loop-at.invariant in
    let first : length c.args.seats.now.items ≡ length c.args.zones.now = sym (length-map c.args.seats.now.items zone_of) ∙ ap length c.requires.seats in
    let second : length c.args.others.now.items ≡ length c.args.zones.now = sym (length-map c.args.others.now.items zone_of) ∙ ap length c.requires.others in
    triples_by_index Learns c.args.seats.now.items c.args.others.now.items c.loop-at.seats.items (second ∙ sym first) (i.long ∙ sym first) (λ zone lt. i.learns zone (omega arith))
