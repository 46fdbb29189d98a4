use Rattle.njsd.proofs.tests.a_read_that_fails_at_any_number_is_a_read_fault.Given as goal

-- the counter's own ledger
abbrev pub ghosts-outcome : goal.ghosts-outcome
ghosts-outcome g a = record { name = a.blank.name; parts = a.blank.parts }
