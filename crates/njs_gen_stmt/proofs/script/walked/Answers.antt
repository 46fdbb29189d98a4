use Rattle.std.proofs.Common.{[], false, refl, sym, ap, ◌∙◌}
use Rattle.std.proofs.lemmas.List.{append-nil}
use Rattle.njs_scope.specs.Uses as uses
use Rattle.njs_gen_stmt.specs.Functions.{told_all}
use Rattle.njs_gen_stmt.specs.Walked.{found}
use Rattle.njs_gen_stmt.proofs.script.walked.Goals as goal

pub returns-clause-reached : goal.returns-clause-reached
returns-clause-reached c names inside slots scopes places =
    let U = uses.items_part c.args.list.now in
    let us = (U.means 0).scopes names in
    let up = (U.means 0).places names in
    c.in_items.ensures.reaches names 0 0 (found [] [] false [] []) inside (λ g. slots) refl
    (scopes ∙ sym (append-nil us), places ∙ sym (append-nil up), refl, (c.new.ensures, ap told_all c.new-2.ensures, refl, refl))
