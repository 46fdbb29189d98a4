use Rattle.std.proofs.Common.{◌≡◌, ◌+◌, ◌-◌, arith}
use Rattle.std.proofs.lemmas.List.{take_rest}
use Rattle.http_in.proofs.Standing.{decided_whole, decided_refused, decided_part}
use Rattle.http_in.proofs.decide.decide_framed.Goals as goal

pub returns-in-Request : goal.returns-in-Request
returns-in-Request c =
    let all : c.args.start + c.args.len - c.args.start ≡ c.args.len = omega arith in
    let judged = rw (all, take_rest) at c.in-Request.ensures in
    decided_whole c.args.number c.args.bytes.now c.args.start c.args.len c.in-Request.body c.in-Request.request c.requires.framed c.requires.within judged.0 judged.1

pub returns-in-Bad : goal.returns-in-Bad
returns-in-Bad c =
    let all : c.args.start + c.args.len - c.args.start ≡ c.args.len = omega arith in
    let judged = simp all at c.in-Bad.ensures in
    decided_refused c.args.number c.args.bytes.now c.args.start c.args.len c.in-Bad.status c.requires.framed judged

pub returns-in-Wants : goal.returns-in-Wants
returns-in-Wants c =
    let all : c.args.start + c.args.len - c.args.start ≡ c.args.len = omega arith in
    let judged = simp (all, take_rest) at c.in-Wants.ensures in
    decided_part c.args.number c.args.bytes.now c.args.start c.args.len c.in-Wants.body c.args.progress.now.place c.requires.framed c.requires.within judged.0 judged.2 c.requires.progress.place
