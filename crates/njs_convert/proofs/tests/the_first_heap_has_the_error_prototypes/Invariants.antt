use Rattle.njs_convert.proofs.tests.the_first_heap_has_the_error_prototypes.Given as goal

-- the counter's own ledger
abbrev pub ghosts-first : goal.ghosts-first
ghosts-first g a = record { name = a.blank.name; parts = a.blank.parts }
