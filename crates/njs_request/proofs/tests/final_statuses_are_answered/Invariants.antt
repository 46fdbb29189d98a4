use Rattle.njs_request.proofs.tests.final_statuses_are_answered.Given as goal

-- the counter's own ledger
abbrev pub ghosts-statuses : goal.ghosts-statuses
ghosts-statuses g a = record { name = a.blank.name; parts = a.blank.parts }
