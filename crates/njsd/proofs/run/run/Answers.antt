use Rattle.njs_edge.specs.Known.{reads_same}
use Rattle.njsd.proofs.Ends.{noted_asks, noted_runs, notes_behind}
use Rattle.njsd.proofs.run.run.Goals as goal

pub returns-clause-runs : goal.returns-clause-runs
returns-clause-runs g c = noted_runs c.args.words.now _ c.perform-status.result c.note.result c.perform-status.ensures.runs c.note.ensures.same

pub returns-clause-asks : goal.returns-clause-asks
returns-clause-asks g c = noted_asks c.args.words.now _ _ c.perform-status.result c.note.result c.perform-status.ensures.asks c.note.ensures.same

pub returns-clause-notes : goal.returns-clause-notes
returns-clause-notes g c =
    notes_behind _ (g.N.Sink.got c.perform-status.new.notes) _ _ (g.N.Sink.faults c.perform-status.new.notes) _ _
    c.perform-status.ensures.notes c.perform-status.ensures.notes_later c.note.ensures.notes

pub returns-clause-clock : goal.returns-clause-clock
returns-clause-clock g c = reads_same (g.C.Clock.readings c.args.clock.now)
