use Rattle.std.proofs.Common.{rules, ◌≡◌, true, false}
use Rattle.dict_model.specs.Places.{goes_first}
use Rattle.dict_model.proofs.Earliest.{takes_first, takes_later, taken_all}
use Rattle.dict_model.proofs.change.earliest.Goals as goal
use Rattle.dict_model.proofs.change.earliest.Goals.{then-goes_first, else-goes_first}

pub loop-place-preserved : goal.loop-place-preserved
loop-place-preserved c =
    let key = c.args.key.now in
    let es = c.args.entries.now in
    let e = c.index-entries-place.result in
    elim c.if-goes_first.branch [
      | then-goes_first w ↦
          let first : goes_first key c.loop-place.earliest c.loop-place.time e ≡ true = search rules in
          rw (w.earliest-is, w.time-is, w.due-time.ensures) (takes_first key es c.loop-place.earliest c.loop-place.time c.loop-place.place e c.loop-place.invariant c.loop-place-test.true c.index-entries-place.is first)
      | else-goes_first w ↦
          let later : goes_first key c.loop-place.earliest c.loop-place.time e ≡ false = search rules in
          rw (w.earliest-is, w.time-is) (takes_later key es c.loop-place.earliest c.loop-place.time c.loop-place.place e c.loop-place.invariant c.loop-place-test.true c.index-entries-place.is later)
    ]

pub returns : goal.returns
returns c = taken_all c.args.key.now c.args.entries.now c.loop-place.earliest c.loop-place.time c.loop-place.place c.loop-place.invariant c.loop-place-test.false
