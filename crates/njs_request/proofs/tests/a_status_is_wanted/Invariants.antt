use Rattle.njs_request.proofs.tests.a_status_is_wanted.Given as goal

-- the counter's own ledger
abbrev pub ghosts-without_arguments : goal.ghosts-without_arguments
ghosts-without_arguments g a = record { name = a.blank.name; parts = a.blank.parts }
