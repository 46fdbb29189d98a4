use Rattle.std.proofs.Common.{rules}
use Rattle.std.proofs.lemmas.List.{append-nil}
use Rattle.njs_scope.specs.declared.around.Around.{the_lemmas}
use Rattle.njs_scope.specs.Walked.{around_of}
use Rattle.njs_scope.proofs.script.all_found.Goals as goal

pub returns-clause-places : goal.returns-clause-places
unfolding around_of
returns-clause-places c = search (rules, the_lemmas, append-nil, c.new-2.ensures, c.in_ok-in_items.ensures.places 0)

pub returns-clause-scopes : goal.returns-clause-scopes
unfolding around_of
returns-clause-scopes c = search (rules, the_lemmas, append-nil, c.new.ensures, c.in_ok-in_items.ensures.scopes 0)
