use Rattle.std.proofs.Common.{rules, ◌≡◌, true, false}
use Rattle.dict_model.specs.Eviction.{has_key}
use Rattle.dict_model.proofs.Placing.{passed_more, passed_hit, passed_all}
use Rattle.dict_model.proofs.change.place_of.Goals as goal

pub returns-then-eq : goal.returns-then-eq
returns-then-eq c =
    let e = c.index-entries-place.result in
    let same : has_key c.args.key.now e ≡ true = search rules in
    passed_hit c.args.key.now c.args.entries.now c.loop-place.place e c.loop-place.invariant c.loop-place-test.true c.index-entries-place.is same

pub loop-place-preserved : goal.loop-place-preserved
loop-place-preserved c =
    let e = c.index-entries-place.result in
    let differs : has_key c.args.key.now e ≡ false = search rules in
    passed_more c.args.key.now c.args.entries.now c.loop-place.place e c.loop-place.invariant c.loop-place-test.true c.index-entries-place.is differs

pub returns : goal.returns
returns c = passed_all c.args.key.now c.args.entries.now c.loop-place.place c.loop-place.invariant c.loop-place-test.false
