use Rattle.std.proofs.lemmas.List.{append-nil}
use Rattle.njs_scope.specs.Uses.{items_part}
use Rattle.njs_scope.specs.Walked.{declared_names}
use Rattle.njs_scope.proofs.Once.{module_once}
use Rattle.njs_scope.proofs.script.module_names.Goals as goal

pub returns : goal.returns
returns c =
    let part = items_part c.args.list.now in
    cc (
      module_once part,
      append-nil (declared_names part 0),
      append-nil part.vars,
      c.in_ok-own_of_items.ensures.declared 0,
      c.in_ok-own_of_items.ensures.vars,
      c.in_ok-add_all.ensures,
      c.in_ok-add_all-2.ensures,
    )
