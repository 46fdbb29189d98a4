use Rattle.njs_edge.proofs.tcp.next_conn.Given as goal

abbrev pub decreases-loop-stream : goal.decreases-loop-stream
decreases-loop-stream g l = l.interruptions.left
