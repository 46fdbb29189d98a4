use Rattle.std.proofs.Common.{length, ap, ◌∙◌, arith}
use Rattle.std.proofs.lemmas.List.{length-append}
use Rattle.http_in.proofs.Fronts.{undecided_short}
use Rattle.http_in.proofs.Taking.{at_request, at_bad, at_refusal}
use Rattle.http_in.proofs.reader.Reader.next.Goals as goal

pub returns-in-Request-clause-next : goal.returns-in-Request-clause-next
returns-in-Request-clause-next g c =
    at_request _ (g.S.Source.left c.loop-request.source) c.args.self.now c.loop-request.self c.look.new.self c.in-Request.request c.loop-request.invariant.so_far c.in-Request.ensures.0

pub returns-in-Bad-clause-next : goal.returns-in-Bad-clause-next
returns-in-Bad-clause-next g c =
    at_bad _ (g.S.Source.left c.loop-request.source) c.args.self.now c.loop-request.self c.look.new.self c.in-Bad.status c.loop-request.invariant.so_far c.in-Bad.ensures.0

pub loop-request-smaller : goal.loop-request-smaller
loop-request-smaller g c =
    let short = undecided_short c.loop-request.self.given c.loop-request.self.held c.in-Undecided.ensures.0 in
    let same = ap (λ k. length k.held) c.in-Undecided.ensures.1 in
    let filled = c.in-Added.ensures.filled in
    let more = ap length filled.4.held ∙ length-append c.look.new.self.held filled.0 in
    let some = filled.2 in
    omega (arith, short, same, more, some)

pub returns-in-NoMemory-fill-clause-next : goal.returns-in-NoMemory-fill-clause-next
returns-in-NoMemory-fill-clause-next g c =
    let filled = c.in-NoMemory-fill.ensures.filled in
    at_refusal _ (g.S.Source.left c.loop-request.source) _ c.args.self.now c.loop-request.self c.spend-in-NoMemory-fill.new.self filled.0 c.loop-request.invariant.so_far filled.1 filled.2
    c.in-Undecided.ensures.0
