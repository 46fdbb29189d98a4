use Rattle.std.proofs.Common.{rules, ◌≡◌, ◌+◌, ◌-◌, Some, None, get_or, subst, sym, ap, ◌∙◌, arith}
use Rattle.dict_model.specs.Eviction as costs
use Rattle.dict_model.specs.Places.{Earliest}
use Rattle.dict_model.proofs.Evicting.{left_zero, evict_step, none_left}
use Rattle.dict_model.proofs.change.evict.Goals as goal

pub returns-in_default-clause-left : goal.returns-in_default-clause-left
returns-in_default-clause-left c =
    let none : c.earliest.result ≡ None = search rules in
    let found : Earliest c.args.key.now c.loop-need.entries.items None = subst (λ xs. Earliest c.args.key.now xs None) c.as_slice.ensures.value (subst (Earliest c.args.key.now c.as_slice.result.now) none c.earliest.ensures) in
    let nothing = none_left c.args.key.now c.loop-need.entries.items found in
    absurd (omega arith)

pub returns-in_default-clause-freed : goal.returns-in_default-clause-freed
returns-in_default-clause-freed c =
    let none : c.earliest.result ≡ None = search rules in
    let found : Earliest c.args.key.now c.loop-need.entries.items None = subst (λ xs. Earliest c.args.key.now xs None) c.as_slice.ensures.value (subst (Earliest c.args.key.now c.as_slice.result.now) none c.earliest.ensures) in
    let nothing = none_left c.args.key.now c.loop-need.entries.items found in
    absurd (omega arith)

pub loop-need-preserved : goal.loop-need-preserved
loop-need-preserved c =
    let key = c.args.key.now in
    let es = c.loop-need.entries.items in
    let place = c.in-Some.place in
    let found : Earliest key es (Some place) = subst (λ xs. Earliest key xs (Some place)) c.as_slice.ensures.value (subst (Earliest key c.as_slice.result.now) c.in-Some.is c.earliest.ensures) in
    let e = c.cost_at.ensures.0 in
    let at : e ≡ get_or es place e = c.cost_at.ensures.1 ∙ ap (λ xs. get_or xs place e) c.as_slice-in-loop-need.ensures.value in
    let step = evict_step key c.loop-need.need place es e found c.loop-need-test.true at in
    let cost : c.cost_at.result ≡ costs.entry_cost e = c.cost_at.ensures.2 in
    let need : c.saturating_sub-need.result ≡ c.loop-need.need - costs.entry_cost e = omega (arith, c.saturating_sub-need.ensures) in
    let same = step.same in
    let fewer = step.fewer in
    let left_in : costs.others key c.remove_at.new.entries.items + costs.entry_cost e ≡ costs.others key es = rw c.remove_at.ensures.items (omega arith) in
    record {
      same = rw (need, c.remove_at.ensures.items) (sym same ∙ c.loop-need.invariant.same);
      freed = omega arith;
      enough = omega arith;
      len = omega arith;
      capacity = omega arith;
    }

pub returns-clause-left : goal.returns-clause-left
returns-clause-left c =
    let none : c.loop-need.need ≡ 0 = omega arith in
    sym (left_zero c.args.key.now c.loop-need.entries.items) ∙ ap (λ n. costs.left c.args.key.now n c.loop-need.entries.items) (sym none) ∙ c.loop-need.invariant.same
