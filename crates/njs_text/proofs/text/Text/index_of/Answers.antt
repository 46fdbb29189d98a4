use Rattle.std.proofs.Common.{◌≡◌, ◌+◌, drop, length, sym, ap, ◌∙◌, subst, arith}
use Rattle.std.specs.Str.{chars}
use Rattle.memchr.specs.Find.{FindsNeedle, NoneBefore, Nowhere, OccursAt}
use Rattle.njs_text.proofs.Finding.{first_later, none_later}
use Rattle.njs_text.proofs.text.Text.index_of.Goals as goal

pub returns-in_err-first_place : goal.returns-in_err-first_place
returns-in_err-first_place c =
    let rest : chars c.rest_of-rest.result.now ≡ drop c.args.from c.args.self.now =
    c.rest_of-rest.ensures ∙ ap (λ bytes. drop c.args.from (chars bytes)) c.as_str.ensures.value ∙ ap (drop c.args.from) c.self.view_is
    in
    let part : chars c.as_str-2.result.now ≡ c.args.part.now = ap chars c.as_str-2.ensures.value ∙ c.part.view_is in
    let none : Nowhere (OccursAt (drop c.args.from c.args.self.now) c.args.part.now) 0 (length (drop c.args.from c.args.self.now) + 1) =
    rw (← rest, ← part) c.in_err-first_place.ensures
    in
    subst (FindsNeedle c.args.self.now c.args.part.now c.args.from) (sym c.from_residual.ensures)
    (none_later c.args.self.now c.args.part.now c.args.from (omega (arith, ap length c.self.view_is)) none)

pub returns : goal.returns
returns c =
    let rest : chars c.rest_of-rest.result.now ≡ drop c.args.from c.args.self.now =
    c.rest_of-rest.ensures ∙ ap (λ bytes. drop c.args.from (chars bytes)) c.as_str.ensures.value ∙ ap (drop c.args.from) c.self.view_is
    in
    let part : chars c.as_str-2.result.now ≡ c.args.part.now = ap chars c.as_str-2.ensures.value ∙ c.part.view_is in
    let k = c.in_ok-first_place.field-0 in
    let found : NoneBefore (OccursAt (drop c.args.from c.args.self.now) c.args.part.now) 0 (length (drop c.args.from c.args.self.now) + 1) k × OccursAt (drop c.args.from c.args.self.now) c.args.part.now k =
    rw (← rest, ← part) c.in_ok-first_place.ensures
    in
    first_later c.args.self.now c.args.part.now c.args.from (omega (arith, ap length c.self.view_is)) k found
