use Rattle.njs_members.proofs.tests.instances_go_by_the_target.Given as goal

-- the counter's own ledger
abbrev pub ghosts-scene : goal.ghosts-scene
ghosts-scene g a = record { name = a.blank.name; parts = a.blank.parts }
