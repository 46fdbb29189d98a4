use Rattle.njs_edge.proofs.tcp.bind.Given as goal

abbrev pub decreases-loop-listener : goal.decreases-loop-listener
decreases-loop-listener g l = l.interruptions.left
