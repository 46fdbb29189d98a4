use Rattle.std.proofs.Common.{arith}
use Rattle.std.proofs.lemmas.List.{take_rest, length-drop}
use Rattle.http_in.proofs.Scanning.{found_end, found_none, passes_on}
use Rattle.http_in.proofs.decide.frame.Goals as goal

pub returns-in-At : goal.returns-in-At
returns-in-At c =
    let end = rw take_rest at c.in-At.ensures in
    let place = c.in-Head.ensures.place in
    let start = c.in-Head.ensures.start in (
      (let fits = simp length-drop at end.0 in let before = place.0 in omega arith),
      found_end c.args.window.now c.in-Head.start c.in-Head.seen c.in-At.len start place.2 end.1,
      start,
    )

pub returns-in-Beyond : goal.returns-in-Beyond
returns-in-Beyond c =
    let end = simp take_rest at c.in-Beyond.ensures in
    let place = c.in-Head.ensures.place in
    let start = c.in-Head.ensures.start in (
      (
        (let fits = simp length-drop at end.0 in let before = place.0 in omega arith),
        place.1,
        passes_on c.args.window.now c.in-Head.start c.in-Head.seen c.in-Beyond.more place.2 end.2,
      ),
      found_none c.args.window.now c.in-Head.start c.in-Head.seen start place.2 end.1,
      start,
    )
