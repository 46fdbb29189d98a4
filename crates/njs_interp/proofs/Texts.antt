-- Texts that are added.
use Rattle.std.proofs.Common.{◌≡◌, ℕ, List, [], ◌∷◌, ◌++◌, Result, Ok, Err, length, slice_index_or, ap, refl, sym, ◌∙◌, subst}
use Rattle.njs_value.specs.declared.Value.{Value}
use Rattle.njs_value.specs.declared.Value.TheVariants as value
use Rattle.njs_shared.specs.Heap.{Heap}
use Rattle.njs_shared.specs.Fits.{FitsHeap}
use Rattle.njs_clone.specs.Content.{content}
use Rattle.njs_code.specs.declared.op.Depth.{Depth}
use Rattle.njs_code.specs.declared.op.Kind.TheVariants as kind
use Rattle.njs_meaning.specs.Primitives.{Characters}
use Rattle.njs_meaning.specs.Values.{Simple}
use Rattle.njs_convert.specs.declared.stop.Stop.{Stop}
use Rattle.njs_convert.specs.declared.stop.Stop.TheVariants.{Throw, Fuel, NoMemory}
use Rattle.njs_simul.specs.Stacks.{push}
use Rattle.njs_interp.specs.declared.stacks.Stacks.{Stacks}
use Rattle.njs_interp.specs.Plain.{heap_of, plain_stacks}
use Rattle.njs_interp.specs.Sits.{Sits}
use Rattle.njs_interp.specs.Grown.{Grown}
use Rattle.njs_interp.specs.Tells.{ActsOnHeap}
use Rattle.njs_interp.specs.Operands.{Pushed, Added}
use Rattle.njs_interp.proofs.Kept.{Grown-refl, Grown-texts, OnHeap-refl, Unanswered-refl, StandsFor-further, stacks-further}

pub added-grown : (text : List ℕ) (old new : Heap) (r : Result Value Stop) → Added text old new r → Grown old new
added-grown text old new (Ok (value.Str t)) added = Grown-texts old new (text ∷ []) added.1
added-grown text old new (Ok value.Undefined) added = absurd added
added-grown text old new (Ok value.Null) added = absurd added
added-grown text old new (Ok (value.Bool b)) added = absurd added
added-grown text old new (Ok (value.Num n)) added = absurd added
added-grown text old new (Ok (value.Obj o)) added = absurd added
added-grown text old new (Err (Throw v)) added = absurd added
added-grown text old new (Err Fuel) added = absurd added
added-grown text old new (Err NoMemory) added = subst (Grown old) (sym added) (Grown-refl old)

last_text : (texts : List (List ℕ)) (text : List ℕ) → slice_index_or (texts ++ text ∷ []) (length texts) [] ≡ text
last_text [] text = refl
last_text (t ∷ texts) text = last_text texts text

module _ (text : List ℕ) (old new : Heap) (slots : List ℕ) (depth : Depth) (before after : Stacks) (fits : FitsHeap old) (sits : Sits old slots depth before) where
  told : (v : Value) (r : Result (Unit {0}) Stop) → new ≡ record old { texts = old.texts ++ text ∷ [] } → content new.texts v ≡ Simple (Characters text) → Pushed v before after r
      → ActsOnHeap (kind.Str text) old new before after r
  told v (Ok done) is shown pushed = record {
    by = λ frame code rest s stands.
        let further : plain_stacks new.texts before ≡ plain_stacks old.texts before = ap (λ (h : Heap). plain_stacks h.texts before) is ∙ stacks-further old (text ∷ []) slots depth before sits in
        (refl, ap (push (Simple (Characters text))) (sym further) ∙ ap (λ w. push w (plain_stacks new.texts before)) (sym shown) ∙ ap (plain_stacks new.texts) (sym pushed), OnHeap-refl new s (StandsFor-further old new (text ∷ []) (heap_of s) fits is stands));
  }
  told v (Err (Throw w)) is shown pushed = absurd pushed
  told v (Err Fuel) is shown pushed = absurd pushed
  told v (Err NoMemory) is shown pushed = record { by = λ frame code rest s stands. Unanswered-refl s }

pub added-told : (text : List ℕ) (old new : Heap) (v : Value) (slots : List ℕ) (depth : Depth) (before after : Stacks) (r : Result (Unit {0}) Stop)
    → FitsHeap old → Added text old new (Ok v) → Sits old slots depth before → Pushed v before after r → ActsOnHeap (kind.Str text) old new before after r
added-told text old new (value.Str t) slots depth before after r fits added sits pushed =
    let shown : content new.texts (value.Str t) ≡ Simple (Characters text) =
    ap (λ (h : Heap). Simple (Characters (slice_index_or h.texts t.0 []))) added.1
    ∙ ap (λ (i : ℕ). Simple (Characters (slice_index_or (old.texts ++ text ∷ []) i []))) added.0 ∙ ap (λ w. Simple (Characters w)) (last_text old.texts text)
    in
    told text old new slots depth before after fits sits (value.Str t) r added.1 shown pushed
added-told text old new value.Undefined slots depth before after r fits added sits pushed = absurd added
added-told text old new value.Null slots depth before after r fits added sits pushed = absurd added
added-told text old new (value.Bool b) slots depth before after r fits added sits pushed = absurd added
added-told text old new (value.Num n) slots depth before after r fits added sits pushed = absurd added
added-told text old new (value.Obj o) slots depth before after r fits added sits pushed = absurd added
