-- Errors that operations throw by themselves.
use Rattle.std.proofs.Common.{◌≡◌, ℕ, List, [], ◌∷◌, ◌++◌, Err, length, ap, refl, sym, ◌∙◌}
use Rattle.std.proofs.lemmas.List.{length-map}
use Rattle.njs_value.specs.declared.TextId.{TextId}
use Rattle.njs_value.specs.declared.Value.TheVariants as value
use Rattle.njs_value.specs.declared.Cause.TheVariants as cause
use Rattle.njs_shared.specs.Heap.{Heap, sizes}
use Rattle.njs_shared.specs.Fits.{FitsValue, FitsHeap}
use Rattle.njs_clone.specs.Content.{content}
use Rattle.njs_clone.specs.StandsFor.{mapped_object, content_inner}
use Rattle.njs_code.specs.declared.op.Failure.{Failure}
use Rattle.njs_code.specs.declared.op.Kind.TheVariants as kind
use Rattle.njs_code.specs.declared.op.Op.{Op}
use Rattle.njs_code.specs.declared.code.FunctionCode.{FunctionCode}
use Rattle.njs_meaning.specs.declared.prototypes.Prototype.TheVariants as prototype
use Rattle.njs_meaning.specs.Values.{ObjectAt}
use Rattle.njs_meaning.specs.State.{State}
use Rattle.njs_meaning.specs.Errors.{named_message, error_with}
use Rattle.njs_meaning.specs.Running.{throw_not_defined}
use Rattle.njs_convert.specs.declared.stop.Stop.{Stop}
use Rattle.njs_convert.specs.declared.stop.Stop.TheVariants.{Throw, Fuel, NoMemory}
use Rattle.njs_convert.specs.FirstHeap.{StandsFor}
use Rattle.njs_convert.specs.Tells.{Extends, ThrowsError, FitsAnswer, text_at}
use Rattle.njs_simul.specs.Step.{fails}
use Rattle.njs_interp.specs.declared.stacks.Stacks.{Stacks}
use Rattle.njs_interp.specs.Plain.{heap_of, plain_stacks}
use Rattle.njs_interp.specs.Sits.{Sits}
use Rattle.njs_interp.specs.Acts.{OnHeap, Unanswered}
use Rattle.njs_interp.specs.Tells.{ActsOnHeap, Leaves}
use Rattle.njs_interp.specs.Operands.{Takes}
use Rattle.njs_interp.specs.Outcomes.{Tells, MeansOnHeap}
use Rattle.njs_interp.proofs.Kept.{Widens-Extends, Sits-widened, stacks-widened, taken-none}
use Rattle.njs_interp.proofs.Standing.{slots_same}
use Rattle.njs_interp.proofs.Finishing.{finish-told}

module _ (k l : Heap) (name : TextId) (s : State) (fits : FitsHeap k) (stands : StandsFor k (heap_of s)) (extends : Extends k l) where
  count_same : length k.objects ≡ length s.objects
  count_same = sym (length-map k.objects (mapped_object (content k.texts) (content_inner k.texts))) ∙ ap length stands.objects

  -- the error of a name
  pub named-tells : (stop : Stop) → ThrowsError (cause.NotDefined name) k l stop → Tells (OnHeap l s) (Unanswered s) l.texts (Err stop) (throw_not_defined (text_at k.texts name) s)
  named-tells (Throw (value.Obj o)) made = (
    ap ObjectAt (made.last ∙ count_same),
    record {
      stands = record {
        objects = made.objects ∙ ap (λ os. os ++ error_with prototype.ReferenceError (named_message (text_at k.texts name)) ∷ []) stands.objects;
        scopes = slots_same k l fits extends.more extends.scopes extends.texts ∙ stands.scopes;
      };
      beside = record { response = refl; zones = refl; asked = refl; log = refl; ticks = refl };
    },
  )
  named-tells (Throw value.Undefined) made = absurd made
  named-tells (Throw value.Null) made = absurd made
  named-tells (Throw (value.Bool b)) made = absurd made
  named-tells (Throw (value.Num n)) made = absurd made
  named-tells (Throw (value.Str i)) made = absurd made
  named-tells Fuel made = absurd made
  named-tells NoMemory made = record { zones = refl; asked = refl }

pub named-stopped : (h k : Heap) (name : List ℕ) → MeansOnHeap h k (Err NoMemory) (throw_not_defined name)
named-stopped h k name = record { by = λ s stands. record { zones = refl; asked = refl } }

-- what is thrown, the operation throws
module _ (f : FunctionCode) (op : Op) (h m : Heap) (st : Stacks) (stop : Stop) (extends : Extends h m) (sits : Sits h f.slots op.depth st) where
  pub fail-told : (failure : Failure) → MeansOnHeap h m (Err stop) (fails failure) → ActsOnHeap (kind.Fail failure) h m st st (Err stop)
  fail-told failure means = record {
    by = λ frame code rest s stands.
        finish-told m rest (plain_stacks h.texts st) st st (stacks-widened h m (Widens-Extends h m extends) f.slots op.depth st sits) s (Err stop) (Err stop) (fails failure s) (refl, refl) (means.by s stands);
  }

  pub fail-leaves : Takes op.kind 0 → FitsAnswer (FitsValue (sizes m)) (sizes m) (Err stop) → Leaves f op m st (Err stop)
  fail-leaves takes fits = left stop fits
    where
      left : (stop : Stop) → FitsAnswer (FitsValue (sizes m)) (sizes m) (Err stop) → Leaves f op m st (Err stop)
      left (Throw v) fits = (taken-none f op m st takes (Sits-widened h m (Widens-Extends h m extends) f.slots op.depth st sits), fits)
      left Fuel fits = tt
      left NoMemory fits = tt
