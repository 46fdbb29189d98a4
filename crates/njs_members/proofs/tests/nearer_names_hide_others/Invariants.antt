use Rattle.njs_members.proofs.tests.nearer_names_hide_others.Given as goal

-- the counter's own ledger
abbrev pub ghosts-scene : goal.ghosts-scene
ghosts-scene g a = record { name = a.blank.name; parts = a.blank.parts }
