use Rattle.njs_pool.proofs.pool.workers.Given as goal

abbrev pub ghosts-run-J-Ledger : goal.ghosts-run-J-Ledger
ghosts-run-J-Ledger g a = record { name = a.blank.name; parts = a.blank.parts }

-- where the listener stands when the workers begin
abbrev pub ghosts-run-J-Run : goal.ghosts-run-J-Run
ghosts-run-J-Run g a = record {
  number = g.I.Listener.number a.listener.now;
  closed = g.I.Listener.closed a.listener.now;
  faults = g.I.Listener.faults a.listener.now;
  asked = g.I.Listener.asked a.listener.now;
  place = a.listener.ghost_name;
}
