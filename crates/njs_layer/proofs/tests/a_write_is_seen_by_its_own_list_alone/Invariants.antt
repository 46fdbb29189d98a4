use Rattle.njs_layer.proofs.tests.a_write_is_seen_by_its_own_list_alone.Given as goal

-- the counter's own ledger
abbrev pub ghosts-writes : goal.ghosts-writes
ghosts-writes g a = record { name = a.blank.name; parts = a.blank.parts }
