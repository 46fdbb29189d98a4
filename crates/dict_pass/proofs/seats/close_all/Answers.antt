use Rattle.std.proofs.Common.{◌≡◌, ◌<◌, ◌≤◌, ◌+◌, ◌∷◌, [], List, length, get_or, vec_len, arith, ap, sym, subst, ◌∙◌}
use Rattle.std.proofs.lemmas.List.{get_or_append_left, get_or_push, length-map}
use Rattle.dict_lock.specs.Known.{Caller, Closes}
use Rattle.dict_pass.specs.Callers.{zone_of}
use Rattle.dict_pass.proofs.Places.{nobody, same_map, at_or_not, known_at, triples_by_index}
use Rattle.dict_pass.proofs.seats.close_all.Goals as goal

pub loop-seat-preserved : goal.loop-seat-preserved
loop-seat-preserved c =
    let i = c.loop-seat.invariant in
    let xs = c.loop-seat.seats.items in
    let at = c.len-at.result in
    let first = c.args.seats.now.items in
    let second = c.args.others.items in
    let seat = c.in-Some.seat in
    let old = c.index_mut.result.now in
    let new = c.close.new.into in
    let popped = c.in-Some.ensures.items in
    let here : length c.pop.new.self.items ≡ at = omega (arith, c.len-at.ensures, c.pop.new.self.ok.0) in
    let one_less : vec_len c.loop-seat.others ≡ at + 1 = omega (arith, c.in-Some.ensures.len, c.len-at.ensures) in
    let lt : at < length xs = omega (arith, i.left, i.long, c.loop-seat.seats.ok.0) in
    let less : at < vec_len c.loop-seat.others = omega arith in
    let was : old ≡ get_or first at nobody = known_at xs at old lt c.index_mut.ensures.value ∙ i.rest at less in
    let gone : seat ≡ get_or second at nobody = sym (get_or_push c.pop.new.self.items seat nobody at here) ∙ sym (ap (λ (l : List Caller). get_or l at nobody) popped) ∙ i.others at less in
    record {
      zones = same_map zone_of xs at old new c.index_mut.ensures.value (ap zone_of c.close.ensures.rest) ∙ i.zones;
      long = i.long;
      left = omega (arith, i.left, c.len-at.ensures);
      others = λ k k_less. (let short : k < length c.pop.new.self.items = omega (arith, c.len-at.ensures) in sym (get_or_append_left c.pop.new.self.items (seat ∷ []) nobody k short) ∙ sym (ap (λ (l : List Caller). get_or l k nobody) popped) ∙ i.others k (omega (arith, c.len-at.ensures)));
      rest = λ k k_less. at_or_not (λ j y. j < at → y ≡ get_or first j nobody) xs at new lt (λ no. absurd (omega arith)) (λ j ne short. i.rest j (omega arith)) k (omega (arith, c.len-at.ensures));
      closes = λ k ge in-it. at_or_not (λ j y. at ≤ j → j < length c.args.zones.now → Closes (get_or second j nobody) (get_or first j nobody) y) xs at new lt
          (λ _ _. subst (λ (y : Caller). Closes y (get_or first at nobody) new) gone (subst (λ (y : Caller). Closes seat y new) was c.close.ensures))
          (λ j ne ge' in-it'. i.closes j (omega arith) in-it') k (omega (arith, c.len-at.ensures)) in-it;
    }

pub returns-clause-closes : goal.returns-clause-closes
returns-clause-closes c =
    let i = c.loop-seat.invariant in
    let first : length c.args.seats.now.items ≡ length c.args.zones.now = sym (length-map c.args.seats.now.items zone_of) ∙ ap length c.requires.seats in
    let second : length c.args.others.items ≡ length c.args.zones.now = sym (length-map c.args.others.items zone_of) ∙ ap length c.requires.others in
    triples_by_index Closes c.args.others.items c.args.seats.now.items c.loop-seat.seats.items (first ∙ sym second) (omega (arith, i.long, c.loop-seat.seats.ok.0)) (λ zone lt. i.closes zone (omega (arith, c.in_default.ensures.cases)) (omega arith))
