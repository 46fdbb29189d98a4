use Rattle.std.proofs.Common.{◌≡◌, ℕ, map, [], ◌∷◌, ◌++◌, List, ap, sym, subst, ◌∙◌}
use Rattle.dict_model.specs.declared.operation.ZoneSpec.{ZoneSpec}
use Rattle.dict_lock.specs.Known.{ZoneName, Caller}
use Rattle.dict_pass.specs.Callers.{IsOfNumbers, SameZones, opened, passes_from, spec_of, specs_of, zone_of}
use Rattle.dict_pass.proofs.Opening.{zones_opened, ends_alike}
use Rattle.dict_pass.proofs.tests.count_by_three.Goals as goal

abbrev Three : List ZoneName → List Caller → List Caller → List Caller → Type 0
Three zs main one two = (main ≡ map (opened 0 3) zs) × (one ≡ map (opened 1 3) zs) × (two ≡ map (opened 2 3) zs)

three : (zs : List ZoneName) (all behind most few : List (List Caller)) (main one two : List Caller) → all ≡ passes_from zs 3 0 3 → all ≡ most ++ two ∷ [] → most ≡ few ++ one ∷ [] → few ≡ behind ++ main ∷ [] → Three zs main one two
three zs all behind most few main one two is last second first =
    let third = ends_alike most (map (opened 0 3) zs ∷ map (opened 1 3) zs ∷ []) two (map (opened 2 3) zs) (sym last ∙ is) in
    let middle = ends_alike few (map (opened 0 3) zs ∷ []) one (map (opened 1 3) zs) (sym second ∙ third.0) in
    let head = ends_alike behind [] main (map (opened 0 3) zs) (sym first ∙ middle.0) in
    (head.1, middle.1, third.1)

same : (number other : ℕ) (zs : List ZoneName) (xs ys : List Caller) → xs ≡ map (opened number 3) zs → ys ≡ map (opened other 3) zs → SameZones xs ys
same number other zs xs ys x y = ap (map zone_of) x ∙ zones_opened number 3 zs ∙ sym (ap (map zone_of) y ∙ zones_opened other 3 zs)

pub count_in_two-requires-clause-numeric : goal.count_in_two-requires-clause-numeric
count_in_two-requires-clause-numeric g c = λ κs alive.
    let zs = c.in_ok-list.ensures.zones in
    let all = three zs c.in_ok-list.field-0.list.items c.last-main.new.list.items c.last-two.new.list.items c.last-one.new.list.items c.last-main.result c.last-one.result c.last-two.result c.in_ok-list.ensures.all c.last-two.ensures c.last-one.ensures c.last-main.ensures in
    let specs : specs_of c.last-main.result ≡ c.args.zones.now = ap specs_of all.0 ∙ ap (map spec_of) (zones_opened 0 3 zs) ∙ c.in_ok-list.ensures.over in
    subst (λ (l : List ZoneSpec). IsOfNumbers l 0) (sym specs) c.requires

pub count_in_two-requires-clause-one : goal.count_in_two-requires-clause-one
count_in_two-requires-clause-one g c = λ κs alive.
    let zs = c.in_ok-list.ensures.zones in
    let all = three zs c.in_ok-list.field-0.list.items c.last-main.new.list.items c.last-two.new.list.items c.last-one.new.list.items c.last-main.result c.last-one.result c.last-two.result c.in_ok-list.ensures.all c.last-two.ensures c.last-one.ensures c.last-main.ensures in
    same 1 0 zs c.last-one.result c.last-main.result all.1 all.0

pub count_in_two-requires-clause-two : goal.count_in_two-requires-clause-two
count_in_two-requires-clause-two g c = λ κs alive.
    let zs = c.in_ok-list.ensures.zones in
    let all = three zs c.in_ok-list.field-0.list.items c.last-main.new.list.items c.last-two.new.list.items c.last-one.new.list.items c.last-main.result c.last-one.result c.last-two.result c.in_ok-list.ensures.all c.last-two.ensures c.last-one.ensures c.last-main.ensures in
    same 2 0 zs c.last-two.result c.last-main.result all.2 all.0
