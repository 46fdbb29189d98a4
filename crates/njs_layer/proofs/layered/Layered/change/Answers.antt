use Rattle.std.proofs.Common.{◌≡◌, ◌-◌, ◌+◌, refl, sym, ◌∙◌, ap, Some, None, slice_get, slice_set, length, rules, arith}
use Rattle.std.specs.Ordering.{nat_cmp}
use Rattle.std.specs.BTreeMap.{get as entry}
use Rattle.std.proofs.lemmas.Option.{slice_get_read, slice_get-get_or}
use Rattle.njs_layer.proofs.Overlaid.{length-seen, seen, seen_own, seen_copy, seen_shared, set_own, set_copy, apart_key, changed_at, kept_at}
use Rattle.njs_layer.proofs.layered.Layered.change.Goals as goal

pub index_mut-item-requires : goal.index_mut-item-requires
index_mut-item-requires g c = omega (arith, ap length c.self.view_is, length-seen (entry nat_cmp c.self.inside.copies) c.self.inside.base.now c.self.inside.own.items)

pub returns-then-at-self-clause-ok : goal.returns-then-at-self-clause-ok
returns-then-at-self-clause-ok g c =
    let at : slice_get c.args.self.now c.args.place ≡ Some c.index_mut-item.result.now =
    ap (λ v. slice_get v c.args.place) (sym c.self.view_is) ∙ seen_own (entry nat_cmp c.self.inside.copies) c.self.inside.base.now c.self.inside.own.items c.args.place _ c.if-at-self.true
    (slice_get_read c.self.inside.own.items _ _ _ refl (omega (arith, ap length c.self.view_is, length-seen (entry nat_cmp c.self.inside.copies) c.self.inside.base.now c.self.inside.own.items)) c.index_mut-item.ensures.value) in
    changed_at (g.C.Change.gives c.args.change.now) c.args.self.now _ c.args.place c.index_mut-item.result.now c.apply.new.item c.apply.result c.apply.ensures.ok at
    (sym (set_own (entry nat_cmp c.self.inside.copies) (entry nat_cmp c.self.inside.copies) c.self.inside.base.now c.self.inside.own.items c.args.place c.apply.new.item c.if-at-self.true)
    ∙ ap (λ v. slice_set v c.args.place c.apply.new.item) c.self.view_is)

pub returns-in-Some-clause-ok : goal.returns-in-Some-clause-ok
returns-in-Some-clause-ok g c =
    let is : entry nat_cmp c.self.inside.copies c.args.place ≡ Some c.in-Some.item.now = sym c.in-Some.ensures.value in
    let at : slice_get c.args.self.now c.args.place ≡ Some c.in-Some.item.now =
    ap (λ v. slice_get v c.args.place) (sym c.self.view_is) ∙ seen_copy (entry nat_cmp c.self.inside.copies) c.self.inside.base.now c.self.inside.own.items c.args.place _ c.if-at-self.false is in
    let written = (c.get_mut.follows.holds c.apply-in-Some.new.item).3 (search rules) in
    changed_at (g.C.Change.gives c.args.change.now) c.args.self.now _ c.args.place c.in-Some.item.now c.apply-in-Some.new.item c.apply-in-Some.result c.apply-in-Some.ensures.ok at
    (set_copy (entry nat_cmp c.self.inside.copies) (entry nat_cmp (c.get_mut.follows.lender c.apply-in-Some.new.item)) c.self.inside.base.now c.self.inside.own.items c.args.place c.apply-in-Some.new.item c.if-at-self.false written.1 (λ q d. written.2 q (apart_key c.args.place q d))
    ∙ ap (λ v. slice_set v c.args.place c.apply-in-Some.new.item) c.self.view_is)

pub returns-in-Some-clause-err : goal.returns-in-Some-clause-err
returns-in-Some-clause-err g c =
    let is : entry nat_cmp c.self.inside.copies c.args.place ≡ Some c.in-Some.item.now = sym c.in-Some.ensures.value in
    let at : slice_get c.args.self.now c.args.place ≡ Some c.in-Some.item.now =
    ap (λ v. slice_get v c.args.place) (sym c.self.view_is) ∙ seen_copy (entry nat_cmp c.self.inside.copies) c.self.inside.base.now c.self.inside.own.items c.args.place _ c.if-at-self.false is in
    let written = (c.get_mut.follows.holds c.apply-in-Some.new.item).3 (search rules) in
    kept_at c.args.self.now _ c.args.place c.in-Some.item.now c.apply-in-Some.new.item c.apply-in-Some.result c.apply-in-Some.ensures.err at
    (set_copy (entry nat_cmp c.self.inside.copies) (entry nat_cmp (c.get_mut.follows.lender c.apply-in-Some.new.item)) c.self.inside.base.now c.self.inside.own.items c.args.place c.apply-in-Some.new.item c.if-at-self.false written.1 (λ q d. written.2 q (apart_key c.args.place q d))
    ∙ ap (λ v. slice_set v c.args.place c.apply-in-Some.new.item) c.self.view_is)

pub returns-clause-ok : goal.returns-clause-ok
returns-clause-ok g c =
    let none : entry nat_cmp c.self.inside.copies c.args.place ≡ None = sym c.in_default.ensures.value in
    let at : slice_get c.args.self.now c.args.place ≡ Some c.in_ok-copy.copy =
    ap (λ v. slice_get v c.args.place) (sym c.self.view_is)
    ∙ seen_shared (entry nat_cmp c.self.inside.copies) c.self.inside.base.now c.self.inside.own.items c.args.place _ (slice_get-get_or c.self.inside.base.now c.args.place _ c.if-at-self.false) none
    ∙ ap (λ x. Some x) (sym c.in_ok-copy.ensures) in
    let updates = c.in_ok-insert.ensures.updates in (
      c.in_ok-copy.copy,
      c.apply-2.new.item,
      at,
      c.in_ok-out.ensures.ok,
      set_copy (entry nat_cmp c.self.inside.copies) (entry nat_cmp c.insert.new.self) c.self.inside.base.now c.self.inside.own.items c.args.place c.apply-2.new.item c.if-at-self.false
          updates.1 (λ q d. updates.2 q (apart_key c.args.place q d) ∙ ap (λ m. entry nat_cmp m q) c.get_mut.follows.holds-at-none)
          ∙ ap (λ v. slice_set v c.args.place c.apply-2.new.item) c.self.view_is,
    )

pub apply-requires : goal.apply-requires
apply-requires g c = c.requires.can c.index_mut-item.result.now
    (ap (λ v. slice_get v c.args.place) (sym c.self.view_is) ∙ seen_own (entry nat_cmp c.self.inside.copies) c.self.inside.base.now c.self.inside.own.items c.args.place _ c.if-at-self.true
    (slice_get_read c.self.inside.own.items _ _ _ refl (omega (arith, ap length c.self.view_is, length-seen (entry nat_cmp c.self.inside.copies) c.self.inside.base.now c.self.inside.own.items)) c.index_mut-item.ensures.value))

pub apply-requires-in-Some : goal.apply-requires-in-Some
apply-requires-in-Some g c = c.requires.can c.in-Some.item.now
    (ap (λ v. slice_get v c.args.place) (sym c.self.view_is) ∙ seen_copy (entry nat_cmp c.self.inside.copies) c.self.inside.base.now c.self.inside.own.items c.args.place _ c.if-at-self.false (sym c.in-Some.ensures.value))

pub apply-requires-2 : goal.apply-requires-2
apply-requires-2 g c = c.requires.can c.in_ok-copy.copy
    (ap (λ v. slice_get v c.args.place) (sym c.self.view_is)
    ∙ seen_shared (entry nat_cmp c.self.inside.copies) c.self.inside.base.now c.self.inside.own.items c.args.place _ (slice_get-get_or c.self.inside.base.now c.args.place _ c.if-at-self.false) (sym c.in_default.ensures.value)
    ∙ ap (λ x. Some x) (sym c.in_ok-copy.ensures))
