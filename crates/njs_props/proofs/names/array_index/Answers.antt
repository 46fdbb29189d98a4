use Rattle.std.proofs.Common.{◌≡◌, ◌≤◌, ◌<◌, ◌+◌, Some, None, sym, ◌∙◌, ap, subst, rules, arith, length, get_or, slice_get, take, inl, inr}
use Rattle.std.proofs.lemmas.List.{take_all}
use Rattle.std.proofs.lemmas.Option.{slice_get_within}
use Rattle.std.specs.Str.Parse.{AllDigits, digits_value}
use Rattle.njs_props.specs.Names.{index_of}
use Rattle.njs_props.proofs.Indices.{NamesIndex-index_of, no_index-empty, no_index-zero, no_index-other, no_index-large, digits_next, value_next, index_of-digits, length-slice_get-None, one_digit}
use Rattle.njs_props.proofs.names.array_index.Goals as goal

pub returns-in_err-first : goal.returns-in_err-first
returns-in_err-first c =
    let none : index_of c.args.name.now ≡ None = no_index-empty c.args.name.now (search rules) in
    record { index = search (rules, none); spelled = NamesIndex-index_of c.args.name.now _ (search (rules, none)) }

pub returns-then-len-gt1 : goal.returns-then-len-gt1
returns-then-len-gt1 c =
    let none : index_of c.args.name.now ≡ None = no_index-zero c.args.name.now (search rules) (omega arith) in
    record { index = sym none; spelled = NamesIndex-index_of c.args.name.now None none }

pub returns-in_err-at : goal.returns-in_err-at
returns-in_err-at c =
    let past : length c.args.name.now ≤ c.loop-place.place = length-slice_get-None c.args.name.now c.loop-place.place (search rules) in
    absurd (omega arith)

pub returns-in_err-digit : goal.returns-in_err-digit
returns-in_err-digit c =
    let none : index_of c.args.name.now ≡ None = no_index-other c.args.name.now c.loop-place.place c.in_ok-at.field-0 (search rules) c.in_err-digit.ensures.value in
    record { index = search (rules, none); spelled = NamesIndex-index_of c.args.name.now _ (search (rules, none)) }

pub returns-then-number-ge-INDEX_LIMIT : goal.returns-then-number-ge-INDEX_LIMIT
returns-then-number-ge-INDEX_LIMIT c =
    let next = value_next c.args.name.now c.loop-place.place c.in_ok-at.field-0 (search rules) in
    let none : index_of c.args.name.now ≡ None = no_index-large c.args.name.now (c.loop-place.place + 1) (omega (arith, next, c.in_ok-digit.ensures.value.1)) in
    record { index = sym none; spelled = NamesIndex-index_of c.args.name.now None none }

pub loop-place-preserved : goal.loop-place-preserved
loop-place-preserved c =
    let there : slice_get c.args.name.now c.loop-place.place ≡ Some c.in_ok-at.field-0 = search rules in
    let next = value_next c.args.name.now c.loop-place.place c.in_ok-at.field-0 there in
    record {
      digits = digits_next c.args.name.now c.loop-place.place c.in_ok-at.field-0 there (search rules) c.loop-place.invariant.digits;
      spelled = omega (arith, next, c.in_ok-digit.ensures.value.1);
      small = omega arith;
    }

pub returns : goal.returns
returns c =
    let name = c.args.name.now in
    let whole : take c.loop-place.place name ≡ name = take_all c.loop-place.place name (omega arith) in
    let front : get_or name 0 0 ≡ 48 → length name ≡ 1 = λ zero_first. one_digit name c.in_ok-first.first (search rules) (elim c.else-first-eq48.either [ inl short ↦ inl (omega (arith, short.1)) | inr other ↦ inr other ]) zero_first in
    let value : c.loop-place.number ≡ digits_value 10 name = c.loop-place.invariant.spelled ∙ ap (digits_value 10) whole in
    let some : index_of name ≡ Some (digits_value 10 name) =
    index_of-digits name (subst (AllDigits 10) whole c.loop-place.invariant.digits) (slice_get_within name 0 c.in_ok-first.first (search rules)) front (subst (λ n. n < 4294967295) value c.loop-place.invariant.small) in
    let found : index_of name ≡ Some c.loop-place.number = some ∙ ap (λ n. Some n) (sym value) in
    record { index = sym found; spelled = NamesIndex-index_of name (Some c.loop-place.number) found }
