-- The calls of the tests' caller.
use Rattle.std.proofs.Common.{◌≡◌, ℕ, ℤ, List, Ok, false, ap, sym, ◌∙◌, subst}
use Rattle.std.specs.Prelude.{◌==◌, if◌then◌else◌}
use Rattle.njs_value.specs.declared.Value.{Value}
use Rattle.njs_clone.specs.Content.{content}
use Rattle.njs_meaning.specs.Primitives.{Number}
use Rattle.njs_meaning.specs.Values.{PlainValue, Simple}
use Rattle.njs_meaning.specs.State.{State, Gives, Spent, Call}
use Rattle.njs_convert.specs.Tells.{Tells, ShowsValue}
use Rattle.njs_request.specs.Answering.{after_call, answering}

-- the answer of a call that has a tick
pub answered_call : (texts : List (List ℕ)) (number : ℤ) (left : ℕ) (v : Value) (f this : PlainValue) (args : List PlainValue) (m : Call) (after stopped : State → Type 0) (s : State)
    → m f this args s ≡ answering number f this args s → s.ticks ≡ left → (left == 0) ≡ false → content texts v ≡ Simple (Number number) → after (after_call s)
    → Tells after stopped texts (ShowsValue texts) (Ok v) (m f this args s)
answered_call texts number left v f this args m after stopped s told ticks some shown stands =
    let no : (s.ticks == 0) ≡ false = ap (λ t. t == 0) ticks ∙ some in
    let outcome : m f this args s ≡ Gives (Simple (Number number)) (after_call s) = told ∙ ap (λ b. if b then Spent s else Gives (Simple (Number number)) (after_call s)) no in
    subst (Tells after stopped texts (ShowsValue texts) (Ok v)) (sym outcome) (shown, stands)
