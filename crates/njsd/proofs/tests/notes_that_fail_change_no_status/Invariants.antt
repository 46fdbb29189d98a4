use Rattle.njsd.proofs.tests.notes_that_fail_change_no_status.Given as goal

-- the counter's own ledger
abbrev pub ghosts-outcome : goal.ghosts-outcome
ghosts-outcome g a = record { name = a.blank.name; parts = a.blank.parts }
