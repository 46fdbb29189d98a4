use Rattle.std.proofs.Common.{◌≡◌, length, take, drop, min, sym, ap, subst, ◌∙◌, arith}
use Rattle.std.proofs.lemmas.List.{take_rest}
use Rattle.http_in.specs.declared.decide.Framed.TheVariants as frames
use Rattle.http_in.specs.Head.{max_head}
use Rattle.http_in.specs.Requests.{Refused, StandsAt, too_long_status}
use Rattle.http_in.specs.Deciding.{IsPlace, FramedIs, start_of}
use Rattle.http_in.proofs.Standing.{window_is, framed_from, framed_none, short_undecided, too_long, needs_more, open_progress}
use Rattle.http_in.proofs.decide.decide.Goals as goal

pub returns-then-bytes-progress : goal.returns-then-bytes-progress
returns-then-bytes-progress c = (needs_more c.args.number c.args.progress.now c.args.bytes.now c.requires.progress c.if-bytes-progress.true, c.requires.progress)

pub frame-requires : goal.frame-requires
frame-requires c =
    let least : c.min.result ≡ min (length c.args.bytes.now) max_head = omega arith in
    subst (λ xs. IsPlace c.args.progress.now.place xs) (sym (window_is c.args.bytes.now c.min.result least)) c.requires.progress.place

pub decide_framed-requires-clause-framed : goal.decide_framed-requires-clause-framed
decide_framed-requires-clause-framed c =
    let least : c.min.result ≡ min (length c.args.bytes.now) max_head = omega arith in
    let window = window_is c.args.bytes.now c.min.result least in
    rw window at c.in-Head.ensures

pub returns-then-bytes-lt-MAX_HEAD : goal.returns-then-bytes-lt-MAX_HEAD
returns-then-bytes-lt-MAX_HEAD c =
    let least : c.min.result ≡ min (length c.args.bytes.now) max_head = omega arith in
    let window = window_is c.args.bytes.now c.min.result least in
    let framed = subst (λ xs. FramedIs (frames.Open c.in-Open.place) xs) window c.in-Open.ensures in (
      short_undecided c.args.number c.args.bytes.now (framed_none c.args.bytes.now framed.1) c.if-bytes-lt-MAX_HEAD.true,
      open_progress c.args.number c.in-Open.place c.args.progress.now.need c.args.bytes.now framed.0 (omega arith),
    )

pub returns-else-bytes-lt-MAX_HEAD : goal.returns-else-bytes-lt-MAX_HEAD
returns-else-bytes-lt-MAX_HEAD c =
    let least : c.min.result ≡ min (length c.args.bytes.now) max_head = omega arith in
    let window = window_is c.args.bytes.now c.min.result least in
    let framed = subst (λ xs. FramedIs (frames.Open c.in-Open.place) xs) window c.in-Open.ensures in
    let from = framed_from c.args.bytes.now (start_of c.in-Open.place) framed.2 in
    let status = rw take_rest at c.too_long_status.ensures in
    subst (λ s. StandsAt c.args.number c.args.bytes.now (Refused s))
    (sym
    (status ∙ ap (λ n. too_long_status (drop n (take c.min.result c.args.bytes.now))) c.start_of.ensures
    ∙ ap (λ xs. too_long_status (drop (start_of c.in-Open.place) xs)) window ∙ ap too_long_status (sym from)))
    (too_long c.args.number c.args.bytes.now (framed_none c.args.bytes.now framed.1) (omega arith))
