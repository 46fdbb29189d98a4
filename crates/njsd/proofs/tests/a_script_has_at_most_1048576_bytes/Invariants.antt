use Rattle.njsd.proofs.tests.a_script_has_at_most_1048576_bytes.Given as goal

-- the counter's own ledger
abbrev pub ghosts-outcome : goal.ghosts-outcome
ghosts-outcome g a = record { name = a.blank.name; parts = a.blank.parts }
