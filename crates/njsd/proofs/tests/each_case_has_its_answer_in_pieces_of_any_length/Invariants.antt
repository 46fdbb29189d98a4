use Rattle.njsd.proofs.tests.each_case_has_its_answer_in_pieces_of_any_length.Given as goal

-- the counter's own ledger
abbrev pub ghosts-outcome : goal.ghosts-outcome
ghosts-outcome g a = record { name = a.blank.name; parts = a.blank.parts }
