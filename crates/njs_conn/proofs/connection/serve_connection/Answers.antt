use Rattle.std.proofs.Common.{◌≡◌, ◌<◌, ◌+◌, true, not, ap, sym, ◌∙◌, arith}
use Rattle.njs_conn.proofs.Serving.{at_start, one_more, at_input_end, at_cut, at_read_fault, at_no_memory, at_bad, at_close, at_write_fault, at_send_no_memory, not_last, refused_status, end_of}
use Rattle.njs_conn.proofs.connection.serve_connection.Goals as goal
use Rattle.njs_conn.proofs.connection.serve_connection.Goals.{in-Whole-refuse, in-Failed-refuse, in-NoMemory-refuse}

pub loop-request-init : goal.loop-request-init
loop-request-init g c = record {
  so_far = at_start _ _ c.new-reader.result _ _ c.new-reader.ensures.held c.new-reader.ensures.given;
  unspent = c.new-reader.ensures.spent;
  source_later = omega arith;
  sink_later = omega arith;
}

pub loop-request-preserved : goal.loop-request-preserved
loop-request-preserved g c = record {
  so_far =
      one_more _ _ c.loop-request.reader c.next.new.self c.in-Request.request _ _ _ _ _ _ c.loop-request.invariant.so_far c.in-Request.ensures.next c.in-Request.ensures.given
      c.if-not-request.false c.in-Whole.ensures.sent;
  unspent = c.in-Request.ensures.spent ∙ ap not c.if-not-request.false;
  source_later = omega arith;
  sink_later = omega arith;
}

pub loop-request-smaller : goal.loop-request-smaller
loop-request-smaller g c =
    let few = not_last c.loop-request.reader c.next.new.self c.in-Request.request _ _ c.in-Request.ensures.next c.if-not-request.false in
    let more = c.in-Request.ensures.given in
    omega (arith, few, more)

pub returns-then-not-request-clause-served : goal.returns-then-not-request-clause-served
returns-then-not-request-clause-served g c =
    at_close _ _ c.loop-request.reader c.next.new.self c.in-Request.request _ _ _ _ _ _ c.loop-request.invariant.so_far c.in-Request.ensures.next c.if-not-request.true
    c.in-Whole.ensures.sent

pub returns-in-Failed-clause-served : goal.returns-in-Failed-clause-served
returns-in-Failed-clause-served g c =
    at_write_fault _ _ c.loop-request.reader c.next.new.self c.in-Request.request _ _ _ _ _ _ c.loop-request.invariant.so_far c.in-Request.ensures.next c.in-Failed.ensures.sent

pub returns-in-NoMemory-answer-clause-served : goal.returns-in-NoMemory-answer-clause-served
returns-in-NoMemory-answer-clause-served g c =
    at_send_no_memory _ _ c.loop-request.reader c.next.new.self c.in-Request.request _ _ _ _ _ _ c.loop-request.invariant.so_far c.in-Request.ensures.next
    c.in-NoMemory-answer.ensures.sent

pub refuse-requires-clause-low : goal.refuse-requires-clause-low
refuse-requires-clause-low g c = (refused_status c.loop-request.reader c.next.new.self c.in-Bad.status _ _ c.in-Bad.ensures.next).0

pub refuse-requires-clause-high : goal.refuse-requires-clause-high
refuse-requires-clause-high g c = (refused_status c.loop-request.reader c.next.new.self c.in-Bad.status _ _ c.in-Bad.ensures.next).1

pub returns-in-Bad-clause-served : goal.returns-in-Bad-clause-served
returns-in-Bad-clause-served g c =
    at_bad _ _ c.loop-request.reader c.next.new.self c.in-Bad.status c.refuse.result _ _ _ _ _ _ _ c.loop-request.invariant.so_far c.in-Bad.ensures.next c.refuse.ensures.sent
    (elim c.match-refuse.branch [
      | in-Whole-refuse w ↦ ap end_of w.in-Whole-refuse.is ∙ sym w.result-is
      | in-Failed-refuse w ↦ ap end_of w.in-Failed-refuse.is ∙ sym w.result-is
      | in-NoMemory-refuse w ↦ ap end_of w.in-NoMemory-refuse.is ∙ sym w.result-is
    ])

pub returns-in-End-clause-served : goal.returns-in-End-clause-served
returns-in-End-clause-served g c = at_input_end _ _ c.loop-request.reader c.next.new.self _ _ _ _ _ c.loop-request.invariant.so_far c.in-End.ensures.next

pub returns-in-Cut-clause-served : goal.returns-in-Cut-clause-served
returns-in-Cut-clause-served g c = at_cut _ _ c.loop-request.reader c.next.new.self _ _ _ _ _ c.loop-request.invariant.so_far c.in-Cut.ensures.next

pub returns-in-ReadFault-clause-served : goal.returns-in-ReadFault-clause-served
returns-in-ReadFault-clause-served g c = at_read_fault _ _ c.loop-request.reader c.next.new.self _ _ _ _ _ c.loop-request.invariant.so_far c.in-ReadFault.ensures.next

pub returns-in-NoMemory-clause-served : goal.returns-in-NoMemory-clause-served
returns-in-NoMemory-clause-served g c = at_no_memory _ _ c.loop-request.reader c.next.new.self _ _ _ _ _ c.loop-request.invariant.so_far c.in-NoMemory.ensures.next
