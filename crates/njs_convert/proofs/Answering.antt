-- The calls of a caller of the tests.
use Rattle.std.proofs.Common.{◌≡◌, ℕ, ℤ, ◌≤◌, ◌-◌, ◌+◌, List, [], ◌∷◌, Option, Some, None, Ok, false, length, arith, ap, sym, ◌∙◌, subst, length-append}
use Rattle.std.specs.Prelude.{◌==◌, if◌then◌else◌, OnOk, OnErr, Result, Err}
use Rattle.njs_value.specs.declared.Class.TheVariants.{Array}
use Rattle.njs_value.specs.declared.ObjId.{ObjId}
use Rattle.njs_value.specs.declared.Value.{Value}
use Rattle.njs_value.specs.declared.Value.TheVariants as value
use Rattle.njs_shared.specs.declared.object.Inner.TheVariants as inner
use Rattle.njs_shared.specs.Heap.{Heap, HeapObject, sizes}
use Rattle.njs_shared.specs.Fits.{FitsValue}
use Rattle.njs_clone.specs.Content.{content, written}
use Rattle.njs_clone.specs.StandsFor.{plain_objects, GoByContent}
use Rattle.njs_meaning.specs.Values.{PlainValue}
use Rattle.njs_meaning.specs.Objects.{with_new_object}
use Rattle.njs_meaning.specs.State.{State, Gives, Spent, Call}
use Rattle.njs_text.specs.declared.memory.NoMemory.{NoMemory}
use Rattle.njs_convert.specs.Answering.{answer, chosen, with_array, answering}
use Rattle.njs_convert.specs.Tells.{Tells, ShowsValue, Grows}
use Rattle.njs_convert.proofs.Grown.{Grows-same, Grows-objects}

-- an array more, or want of memory
pub array_grows : (h k : Heap) (r : Result ObjId NoMemory) → OnOk r (k ≡ record h { objects = with_new_object written Array None inner.Plain h.objects }) → OnErr r (k ≡ h) → Grows h k
array_grows h k (Ok object) is stays = Grows-objects h k _ is
array_grows h k (Err none) is stays = Grows-same h k stays

module _ (h k : Heap) (is : k ≡ record h { objects = with_new_object written Array None inner.Plain h.objects }) where
  -- the array, by content
  pub with_array_is : GoByContent h → plain_objects k ≡ with_array (plain_objects h)
  with_array_is law = ap plain_objects is ∙ sym (law.created Array None inner.Plain)

  one_more : length k.objects ≡ length h.objects + 1
  one_more = ap (λ (m : Heap). length m.objects) is ∙ length-append h.objects _

  -- what is there is there afterwards
  pub still_fits : (v : Value) → FitsValue (sizes h) v → FitsValue (sizes k) v
  still_fits value.Undefined fits = tt
  still_fits value.Null fits = tt
  still_fits (value.Bool b) fits = tt
  still_fits (value.Num n) fits = fits
  still_fits (value.Str t) fits = omega (arith, ap (λ (m : Heap). length m.texts) is)
  still_fits (value.Obj o) fits = omega (arith, one_more)

  -- the answer of a call that has a tick
  pub answered : (f this v : Value) (args : List PlainValue) (left at : ℕ) (first second which : Option ℤ) (m : Call) (after stopped : State → Type 0) (s : State)
      → m (content h.texts f) (content h.texts this) args s ≡ answering at first second (content h.texts f) (content h.texts this) args s → s.ticks ≡ left → (left == 0) ≡ false
      → which ≡ chosen at first second (content h.texts f) → content h.texts v ≡ answer which (content h.texts this) → after (record s { objects = with_array s.objects; ticks = s.ticks - 1 })
      → Tells after stopped k.texts (ShowsValue k.texts) (Ok v) (m (content h.texts f) (content h.texts this) args s)
  answered f this v args left at first second which m after stopped s told ticks some which_is shown stands =
      let given = answer (chosen at first second (content h.texts f)) (content h.texts this) in
      let left_over : State = record s { objects = with_array s.objects; ticks = s.ticks - 1 } in
      let no : (s.ticks == 0) ≡ false = ap (λ t. t == 0) ticks ∙ some in
      let outcome : m (content h.texts f) (content h.texts this) args s ≡ Gives given left_over = told ∙ ap (λ b. if b then Spent s else Gives given left_over) no in
      subst (Tells after stopped k.texts (ShowsValue k.texts) (Ok v)) (sym outcome)
      (ap (λ (m : Heap). content m.texts v) is ∙ shown ∙ ap (λ w. answer w (content h.texts this)) which_is, stands)
