use Rattle.std.proofs.Common.{◌∙◌, ap, ◌+ℤ◌, filter, w64, to_z, of_z}
use Rattle.dict_model.specs.Zone as zones
use Rattle.dict_model.proofs.Numbers.{number_fits, sum_fits}
use Rattle.dict_model.proofs.answer.incr.Goals as goal

pub returns : goal.returns
returns c =
    let start = c.start.result in
    let step = c.args.step in
    let found = zones.found c.args.key.now (filter (zones.is_live c.args.moment) c.args.entries.now) in
    c.increment.ensures
    ∙ ap (λ n. (zones.increment c.args.spec.now (zones.live_state c.args.entries.now c.args.moment) c.args.key.now n).0)
    (ap (λ n. to_z w64 (of_z w64 (n +ℤ to_z w64 (of_z w64 step)))) (number_fits start c.start.ensures.number)
    ∙ ap (λ n. to_z w64 (of_z w64 (start +ℤ n))) (number_fits step c.requires.step)
    ∙ sum_fits start step c.start.ensures.number c.requires.step
    ∙ ap (λ n. n +ℤ step) (c.start.ensures.start ∙ ap (λ n. zones.number_of n found) (number_fits c.args.initial c.requires.initial)))
