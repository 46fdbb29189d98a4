use Rattle.std.proofs.Common.{◌≡◌, Ok, ℤ, ℕ, ap, ◌∙◌, FitsSigned, w64, to_z, of_z, rules}
use Rattle.std.proofs.lemmas.Int.{to_z-of_z}
use Rattle.njs_clone.specs.Content.{content}
use Rattle.njs_meaning.specs.Numbers.{unsigned_32}
use Rattle.njs_meaning.specs.State.{Gives}
use Rattle.njs_meaning.specs.Conversions.{to_number}
use Rattle.njs_convert.specs.Tells.{ShowsNumber}
use Rattle.njs_convert.proofs.Outcomes.{then_tells}
use Rattle.njs_convert.proofs.numbers.to_uint32.Goals as goal

pub returns-in-Ok-clause-told : goal.returns-in-Ok-clause-told
returns-in-Ok-clause-told g c = λ calls known f agrees. record {
  by = λ s stands.
      let k = c.to_number.new.machine in
      let n = c.in-Ok.number in
      let after = g.C.Caller.stands c.to_number.new.caller known k in
      let stopped = g.C.Caller.stopped c.to_number.new.caller known in
      let fits : FitsSigned w64 n = search rules in
      let same : to_z w64 (of_z w64 n) ≡ n = to_z-of_z w64 n fits in
      let is : c.unsigned_32.result ≡ unsigned_32 n = cc in
      then_tells after after stopped stopped k.texts k.texts (ShowsNumber {N = ℤ}) (ShowsNumber {N = ℕ}) n (Ok c.unsigned_32.result) (to_number calls.call (content c.args.machine.now.texts c.args.value) s) (λ i t. Gives (unsigned_32 i) t) ((c.in-Ok.ensures.told calls known f agrees).by s stands)
      (λ i t shows h. (is ∙ ap unsigned_32 shows, h));
}
