-- Numbers that are stepped, and answers that change the objects alone.
use Rattle.std.proofs.Common.{◌≡◌, ℤ, pos, Result, Ok, Err, refl, sym, ap, ◌∙◌, subst}
use Rattle.njs_tree.specs.declared.tree.UpdateOp.{UpdateOp}
use Rattle.njs_tree.specs.declared.tree.UpdateOp.TheVariants as step
use Rattle.njs_value.specs.declared.Value.{Value}
use Rattle.njs_value.specs.declared.Value.TheVariants as value
use Rattle.njs_clone.specs.Content.{content}
use Rattle.njs_shared.specs.Heap.{Heap}
use Rattle.njs_shared.specs.Fits.{FitsHeap}
use Rattle.njs_clone.specs.StandsFor.{plain_objects}
use Rattle.njs_code.specs.declared.op.Kind.TheVariants as kind
use Rattle.njs_code.specs.Effects.{operands_taken, operands_given, scopes_taken, scopes_given, lists_taken, lists_given, endings_taken, endings_given}
use Rattle.njs_meaning.specs.Primitives.{Number}
use Rattle.njs_meaning.specs.Values.{PlainValue, Simple}
use Rattle.njs_meaning.specs.Operators.{binary_of}
use Rattle.njs_meaning.specs.Operations.{answered}
use Rattle.njs_meaning.specs.State.{State, Outcome, Gives, Throws, Spent, Asks}
use Rattle.njs_convert.specs.declared.stop.Stop.{Stop}
use Rattle.njs_convert.specs.declared.stop.Stop.TheVariants.{Throw, Fuel, NoMemory}
use Rattle.njs_convert.specs.FirstHeap.{StandsFor}
use Rattle.njs_convert.specs.Tells.{Extends, ShowsValue}
use Rattle.njs_convert.specs.Tells as convert
use Rattle.njs_simul.specs.Step.{stepped_from}
use Rattle.njs_interp.specs.Plain.{heap_of}
use Rattle.njs_interp.specs.Acts.{OnHeap, Unanswered}
use Rattle.njs_interp.specs.Alone.{WithObjects, TellsAlone}
use Rattle.njs_interp.specs.Outcomes.{Tells, MeansOnHeap, Moves}
use Rattle.njs_interp.specs.Updates.{step_operator}
use Rattle.njs_interp.proofs.Kept.{OnHeap-refl}
use Rattle.njs_interp.proofs.Standing.{slots_same}

pub step-moves : (op : UpdateOp) → Moves (kind.Step op) 1 1
unfolding operands_taken operands_given scopes_taken scopes_given lists_taken lists_given endings_taken endings_given
step-moves op = record { operands_taken = refl; operands_given = refl; scopes_taken = refl; scopes_given = refl; lists_taken = refl; lists_given = refl; endings_taken = refl; endings_given = refl }

-- the state with the objects of a heap that extends another
pub on-extended : (h k : Heap) (s : State) → FitsHeap h → Extends h k → StandsFor h (heap_of s) → OnHeap k s (record s { objects = plain_objects k })
on-extended h k s fits extends stands = record {
  stands = record { objects = refl; scopes = slots_same h k fits extends.more extends.scopes extends.texts ∙ stands.scopes };
  beside = record { response = refl; zones = refl; asked = refl; log = refl; ticks = refl };
}

-- what an answer tells of any values, it tells of them on a heap
tells-of : (holds holds' stopped : State → Type 0) (k : Heap) (r : Result Value Stop) (o : Outcome PlainValue) → ((t : State) → holds t → holds' t)
    → convert.Tells holds stopped k.texts (ShowsValue k.texts) r o → Tells holds' stopped k.texts r o
tells-of holds holds' stopped k (Ok v) (Gives w t) f tells = (tells.0, f t tells.1)
tells-of holds holds' stopped k (Ok v) (Throws w t) f tells = absurd tells
tells-of holds holds' stopped k (Ok v) (Spent t) f tells = absurd tells
tells-of holds holds' stopped k (Ok v) (Asks zone op t) f tells = absurd tells
tells-of holds holds' stopped k (Err (Throw v)) (Gives w t) f tells = absurd tells
tells-of holds holds' stopped k (Err (Throw v)) (Throws w t) f tells = (tells.0, f t tells.1)
tells-of holds holds' stopped k (Err (Throw v)) (Spent t) f tells = absurd tells
tells-of holds holds' stopped k (Err (Throw v)) (Asks zone op t) f tells = absurd tells
tells-of holds holds' stopped k (Err Fuel) (Gives w t) f tells = absurd tells
tells-of holds holds' stopped k (Err Fuel) (Throws w t) f tells = absurd tells
tells-of holds holds' stopped k (Err Fuel) (Spent t) f tells = f t tells
tells-of holds holds' stopped k (Err Fuel) (Asks zone op t) f tells = absurd tells
tells-of holds holds' stopped k (Err NoMemory) o f tells = tells

pub alone-means : (h k : Heap) (r : Result Value Stop) (meaning : State → Outcome PlainValue) → FitsHeap h → Extends h k → TellsAlone h k r meaning → MeansOnHeap h k r meaning
alone-means h k r meaning fits extends told = record {
  by = λ s stands.
      tells-of (WithObjects k s) (OnHeap k s) (Unanswered s) k r (meaning s) (λ t is. subst (OnHeap k s) (sym is) (on-extended h k s fits extends stands)) (told.by s (sym stands.objects));
}

-- stepping adds or subtracts one
pub stepped-is : (op : UpdateOp) (n : ℤ) (s : State) → answered (binary_of (step_operator op) (Number n) (Number (pos 1))) s ≡ stepped_from op (Simple (Number n)) s
stepped-is step.Add n s = refl
stepped-is step.Sub n s = refl

pub means-stepped : (h k : Heap) (r : Result Value Stop) (op : UpdateOp) (n : ℤ) → MeansOnHeap h k r (answered (binary_of (step_operator op) (Number n) (Number (pos 1)))) → MeansOnHeap h k r (stepped_from op (Simple (Number n)))
means-stepped h k r op n means = record { by = λ s stands. subst (Tells (OnHeap k s) (Unanswered s) k.texts r) (stepped-is op n s) (means.by s stands) }

-- a value that is a number, and one that is none
pub number-means : (h k : Heap) (r : Result Value Stop) (op : UpdateOp) (v : Value) {m : ℤ} → v ≡ value.Num m → ((n : ℤ) → content h.texts v ≡ Simple (Number n) → MeansOnHeap h k r (stepped_from op (Simple (Number n)))) → MeansOnHeap h k r (stepped_from op (content h.texts v))
number-means h k r op v {m} is told = subst (λ p. MeansOnHeap h k r (stepped_from op p)) (sym (ap (content h.texts) is)) (told m (ap (content h.texts) is))

pub stays-means : (h : Heap) (op : UpdateOp) (v : Value) → ((n : ℤ) → v ≡ value.Num n → ⊥) → MeansOnHeap h h (Ok v) (stepped_from op (content h.texts v))
stays-means h op value.Undefined other = record { by = λ s stands. (refl, OnHeap-refl h s stands) }
stays-means h op value.Null other = record { by = λ s stands. (refl, OnHeap-refl h s stands) }
stays-means h op (value.Bool b) other = record { by = λ s stands. (refl, OnHeap-refl h s stands) }
stays-means h op (value.Num n) other = absurd (other n refl)
stays-means h op (value.Str t) other = record { by = λ s stands. (refl, OnHeap-refl h s stands) }
stays-means h op (value.Obj o) other = record { by = λ s stands. (refl, OnHeap-refl h s stands) }
