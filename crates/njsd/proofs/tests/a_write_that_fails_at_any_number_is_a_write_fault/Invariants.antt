use Rattle.njsd.proofs.tests.a_write_that_fails_at_any_number_is_a_write_fault.Given as goal

-- the counter's own ledger
abbrev pub ghosts-outcome : goal.ghosts-outcome
ghosts-outcome g a = record { name = a.blank.name; parts = a.blank.parts }
