use Rattle.std.proofs.Common.{◌≡◌, ◌+◌, ◌<◌, ℕ, List, Option, None, Some, length, drop, sym, ap, ◌∙◌, arith, length-drop}
use Rattle.std.specs.Str.{chars, encode_utf8_all}
use Rattle.std.specs.Str.Iter.{chars_rest, chars_steps}
use Rattle.std.specs.declared.str.Chars.{Chars}
use Rattle.std.proofs.lemmas.List.{drop-drop}
use Rattle.std.proofs.lemmas.Str.{encodes-chars, chars_from_encodes, cons_from_encodes, length-le-encodes}
use Rattle.njs_text.proofs.chars.skipped.Goals as goal

pub loop-init : goal.loop-init
loop-init c = c.chars-rest.ensures.rest ∙ sym (encodes-chars c.args.text.now c.utf8.text)

-- one more value is passed over
past_one : (cs : List ℕ) (s t : Chars) (i : ℕ) (r : Option ℕ) → i < length cs → chars_rest s ≡ encode_utf8_all (drop i cs)
    → chars_steps s r t → chars_rest t ≡ encode_utf8_all (drop (i + 1) cs)
past_one cs s t i None within e h = absurd (omega (arith, length-le-encodes (drop i cs), ap length e, length-drop i cs, h.0))
past_one cs s t i (Some x) within e h =
    let step = cons_from_encodes (drop i cs) (chars_rest t) x (sym e ∙ h.0) in
    sym step.2 ∙ ap encode_utf8_all (ap (drop 1) (sym step.1) ∙ drop-drop 1 i cs)

pub loop-preserved : goal.loop-preserved
loop-preserved c =
    past_one (chars c.args.text.now) c.loop.rest c.next.new.self c.loop.counter c.next.result (omega arith) c.loop.invariant c.next.ensures.steps

pub returns : goal.returns
returns c =
    let place : c.loop.counter ≡ c.args.count = omega arith in
    let bytes = c.as_str.ensures ∙ c.loop.invariant ∙ ap (λ n. encode_utf8_all (drop n (chars c.args.text.now))) place in
    sym (chars_from_encodes (drop c.args.count (chars c.args.text.now)) c.as_str.result.now c.as_str.utf8 (sym bytes))
