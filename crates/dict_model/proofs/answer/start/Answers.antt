use Rattle.std.proofs.Common.{rules, ◌≡◌, true, Some, filter, IsTrue, subst, sym}
use Rattle.dict_model.specs.Operation.{is_number, IsValue}
use Rattle.dict_model.specs.Zone as zones
use Rattle.dict_model.proofs.Numbers.{value_found, number_fits}
use Rattle.dict_model.proofs.answer.start.Goals as goal

pub returns-in-Num-clause-number : goal.returns-in-Num-clause-number
returns-in-Num-clause-number c =
    let is : zones.found c.args.key.now (filter (zones.is_live c.args.moment) c.args.entries.now) ≡ Some c.in-Some.entry.now = search rules in
    let typed = value_found c.args.key.now (zones.is_live c.args.moment) true c.args.entries.now c.in-Some.entry.now c.requires.values is in
    let number = subst (IsValue true) c.in-Num.is typed in
    subst (λ n. IsTrue (is_number n)) (sym (number_fits c.in-Num.number number.1)) number.1
