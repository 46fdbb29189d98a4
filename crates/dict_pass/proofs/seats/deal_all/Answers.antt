use Rattle.std.proofs.Common.{◌≡◌, ◌<◌, ◌≤◌, ◌+◌, ◌-◌, ◌∷◌, [], List, length, get_or, drop, rules, arith, ap, sym, ◌∙◌, length-set}
use Rattle.std.proofs.lemmas.List.{get_or_append_left, get_or_push, get_or-map, length-map}
use Rattle.dict_lock.specs.Known.{Caller}
use Rattle.dict_lock.specs.Views.{spare_from}
use Rattle.dict_pass.specs.Callers.{zone_of, dealer, opened}
use Rattle.dict_pass.proofs.Places.{nobody, get_or_any, at_or_not, known_at, by_index}
use Rattle.dict_pass.proofs.Opening.{dealer_closed}
use Rattle.dict_pass.proofs.seats.deal_all.Goals as goal

pub loop-at-init : goal.loop-at-init
loop-at-init c =
    let zs = c.args.zones.now in
    let xs = c.args.seats.now.items in
    record {
      long = ap length c.requires.seats ∙ length-map zs (dealer c.args.number c.args.count);
      dealt = λ k lt. absurd (omega arith);
      rest = λ k le lt. ap (λ (l : List Caller). get_or l k nobody) c.requires.seats ∙ get_or-map (dealer c.args.number c.args.count) zs k nobody.zone nobody lt;
      made = omega (arith, c.args.new.now.ok.0, ap (λ (l : List Caller). length l) c.requires.room.0);
      room = c.requires.room.1;
      new = λ k lt. absurd (omega arith);
    }

pub deal-requires-clause-seat : goal.deal-requires-clause-seat
deal-requires-clause-seat c =
    let i = c.loop-at.invariant in
    let zs = c.args.zones.now in
    let at = c.loop-at.at in
    let lt : at < length c.loop-at.seats.items = omega arith in
    let in-it : at < length zs = omega arith in
    ap zone_of (known_at c.loop-at.seats.items at c.index_mut.result.now lt c.index_mut.ensures.value ∙ i.rest at (omega arith) in-it) ∙ get_or_any zs at nobody.zone c.index-zones-at.result in-it ∙ sym c.index-zones-at.is

pub deal-requires-clause-spare : goal.deal-requires-clause-spare
deal-requires-clause-spare c =
    let i = c.loop-at.invariant in
    let zs = c.args.zones.now in
    let at = c.loop-at.at in
    let lt : at < length c.loop-at.seats.items = omega arith in
    let was = known_at c.loop-at.seats.items at c.index_mut.result.now lt c.index_mut.ensures.value ∙ i.rest at (omega arith) (omega arith) in
    record { number = c.args.number; rest = spare_from (c.args.number + 1) (c.args.count - (c.args.number + 1)); is = ap (λ (k : Caller). k.closed) was ∙ dealer_closed c.args.number c.args.count (get_or zs at nobody.zone) c.requires.number }

pub loop-at-preserved : goal.loop-at-preserved
loop-at-preserved c =
    let i = c.loop-at.invariant in
    let zs = c.args.zones.now in
    let at = c.loop-at.at in
    let n = c.args.number in
    let count = c.args.count in
    let xs = c.loop-at.seats.items in
    let lt : at < length xs = omega arith in
    let in-it : at < length zs = omega arith in
    let zone = get_or zs at nobody.zone in
    let was : c.index_mut.result.now ≡ dealer n count zone = known_at xs at c.index_mut.result.now lt c.index_mut.ensures.value ∙ i.rest at (omega arith) in-it in
    let closed : c.index_mut.result.now.closed ≡ (n, 0) ∷ spare_from (n + 1) (count - (n + 1)) = ap (λ (k : Caller). k.closed) was ∙ dealer_closed n count zone c.requires.number in
    let left : c.deal.new.seat ≡ dealer (n + 1) count zone = c.deal.ensures.rest ∙ (λ q. record { zone = (was q).zone; number = (was q).number; seen = (was q).seen; mine = (was q).mine; closed = drop 1 (closed q); made = (was q).made }) in
    let made : c.deal.result ≡ opened n count zone = c.deal.ensures.new ∙ (λ q. record { zone = (was q).zone; number = (get_or (closed q) 0 (0, 0)).0; seen = (was q).seen; mine = []; closed = []; made = (was q).made }) in
    let pushed = c.push_reserved.ensures.items in
    let long : length c.loop-at.new.items ≡ at = omega (arith, i.made) in
    record {
      long = length-set xs at c.deal.new.seat ∙ i.long;
      dealt = λ k below. at_or_not (λ j y. j < at + 1 → y ≡ dealer (n + 1) count (get_or zs j nobody.zone)) xs at c.deal.new.seat lt (λ _. left) (λ j ne less. i.dealt j (omega arith)) k below;
      rest = λ k past more. at_or_not (λ j y. at + 1 ≤ j → j < length zs → y ≡ dealer n count (get_or zs j nobody.zone)) xs at c.deal.new.seat lt (λ no _. absurd (omega arith)) (λ j ne past' more'. i.rest j (omega arith) more') k past more;
      made = search rules;
      room = search rules;
      new = λ k below. at_or_not (λ j y. j < at + 1 → get_or c.push_reserved.new.self.items j nobody ≡ opened n count (get_or zs j nobody.zone)) xs at c.deal.new.seat lt
          (λ _. ap (λ (l : List Caller). get_or l at nobody) pushed ∙ get_or_push c.loop-at.new.items c.deal.result nobody at long ∙ made)
          (λ j ne less. let short : j < length c.loop-at.new.items = omega arith in ap (λ (l : List Caller). get_or l j nobody) pushed ∙ get_or_append_left c.loop-at.new.items (c.deal.result ∷ []) nobody j short ∙ i.new j (omega arith)) k below;
    }

pub returns : goal.returns
returns c =
    let i = c.loop-at.invariant in
    let zs = c.args.zones.now in
    record {
      seats = by_index (dealer (c.args.number + 1) c.args.count) c.loop-at.seats.items zs i.long (λ k lt. i.dealt k (omega arith));
      new = by_index (opened c.args.number c.args.count) c.loop-at.new.items zs (omega (arith, i.made)) (λ k lt. i.new k (omega arith));
    }
