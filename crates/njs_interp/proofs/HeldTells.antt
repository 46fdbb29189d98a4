-- What is told of answers under a caller that was charged.
use Rattle.std.proofs.Common.{◌≡◌, ℕ, ◌-◌, ◌<◌, ◌≤◌, List, [], length, Bool, true, false, cond, Result, Ok, Err, ap, refl, sym, ◌∙◌, subst, arith}
use Rattle.std.proofs.lemmas.Bool.{le-ltb, lt-ltb}
use Rattle.std.specs.Prelude.{nat_lt}
use Rattle.njs_value.specs.declared.Value.{Value}
use Rattle.njs_shared.specs.Heap.{Heap, Sizes}
use Rattle.njs_shared.specs.Fits.{FitsHeap}
use Rattle.njs_code.specs.declared.op.Kind.TheVariants as kind
use Rattle.njs_code.specs.declared.op.Op.{Op}
use Rattle.njs_meaning.specs.Values.{PlainValue, ObjectAt}
use Rattle.njs_meaning.specs.State.{State, Outcome, Gives, Throws, Spent, Asks}
use Rattle.njs_meaning.specs.Replies.{state_of}
use Rattle.njs_meaning.specs.Running.{one_and, with_object}
use Rattle.njs_meaning.specs.Functions.{arguments_object}
use Rattle.njs_convert.specs.declared.stop.Stop.{Stop}
use Rattle.njs_convert.specs.declared.stop.Stop.TheVariants.{Throw, Fuel, NoMemory}
use Rattle.njs_convert.specs.FirstHeap.{StandsFor}
use Rattle.njs_convert.specs.Tells.{FitsAnswer, Lent}
use Rattle.njs_interp.specs.Grown.{FunctionsFit}
use Rattle.njs_simul.specs.Stacks as plain
use Rattle.njs_simul.specs.Stacks.{Frame, push}
use Rattle.njs_simul.specs.Step.{Goes, act, on, finish}
use Rattle.njs_interp.specs.declared.stacks.Stacks.{Stacks}
use Rattle.njs_interp.specs.Plain.{heap_of, plain_stacks}
use Rattle.njs_interp.specs.Acts.{SameBeside, Unanswered, Below, Acts}
use Rattle.njs_interp.specs.Outcomes.{Tells, Pushes}
use Rattle.njs_interp.specs.Counting.{made_arguments}
use Rattle.njs_interp.specs.Held.{paid_arguments}
use Rattle.njs_interp.proofs.Paying.{err_same}

-- what is known of the states then may be known by other words
pub tells-on : (holds holds' stopped stopped' : State → Type 0) (texts : List (List ℕ)) (r : Result Value Stop) (o : Outcome PlainValue) → ((t : State) → holds t → holds' t) → ((t : State) → stopped t → stopped' t)
    → Tells holds stopped texts r o → Tells holds' stopped' texts r o
tells-on holds holds' stopped stopped' texts (Ok v) (Gives w t) f g tells = (tells.0, f t tells.1)
tells-on holds holds' stopped stopped' texts (Ok v) (Throws w t) f g tells = absurd tells
tells-on holds holds' stopped stopped' texts (Ok v) (Spent t) f g tells = absurd tells
tells-on holds holds' stopped stopped' texts (Ok v) (Asks zone op t) f g tells = absurd tells
tells-on holds holds' stopped stopped' texts (Err (Throw v)) (Gives w t) f g tells = absurd tells
tells-on holds holds' stopped stopped' texts (Err (Throw v)) (Throws w t) f g tells = (tells.0, f t tells.1)
tells-on holds holds' stopped stopped' texts (Err (Throw v)) (Spent t) f g tells = absurd tells
tells-on holds holds' stopped stopped' texts (Err (Throw v)) (Asks zone op t) f g tells = absurd tells
tells-on holds holds' stopped stopped' texts (Err Fuel) (Gives w t) f g tells = absurd tells
tells-on holds holds' stopped stopped' texts (Err Fuel) (Throws w t) f g tells = absurd tells
tells-on holds holds' stopped stopped' texts (Err Fuel) (Spent t) f g tells = f t tells
tells-on holds holds' stopped stopped' texts (Err Fuel) (Asks zone op t) f g tells = absurd tells
tells-on holds holds' stopped stopped' texts (Err NoMemory) o f g tells = g (state_of o) tells

-- a runner's laws, at what it knows
module _ (stands holds : Heap → State → Type 0) (stopped : State → Type 0) (holds_by : (h l : Heap) (s t : State) → stands h s → StandsFor l (heap_of t) → FitsHeap l → SameBeside s t → holds l t)
    (stops : (h : Heap) (s : State) → stands h s → stopped s) (stopped_as : (s t : State) → t.zones ≡ s.zones → t.asked ≡ s.asked → stopped s → stopped t) where
  -- a state that another heap stands for, of which nothing else is other
  pub held : (h l : Heap) (s t : State) → stands h s → StandsFor l (heap_of t) → FitsHeap l → SameBeside s t → holds l t × stopped t
  held h l s t here there fits beside = (holds_by h l s t here there fits beside, stopped_as s t beside.zones beside.asked (stops h s here))

  pub stopped-still : (h : Heap) (s t : State) → stands h s → Unanswered s t → stopped t
  stopped-still h s t here none = stopped_as s t none.zones none.asked (stops h s here)

-- the value that was given comes on top
module _ (holds stopped : State → Type 0) (texts : List (List ℕ)) (rest : List Op) (before : plain.Stacks) (st after : Stacks) (same : plain_stacks texts st ≡ before) where
  abbrev Acted : Result (Unit {0}) Stop → Outcome PlainValue → Type 0
  Acted r o = Acts holds stopped texts rest (plain_stacks texts after) r (finish rest before o)

  unmoved : after ≡ st → Below before (plain_stacks texts after)
  unmoved is =
      let e : before ≡ plain_stacks texts after = sym same ∙ ap (plain_stacks texts) (sym is) in
      record {
        above = [];
        operands = ap (λ (p : plain.Stacks). p.operands) e;
        scopes = ap (λ (p : plain.Stacks). p.scopes) e;
        lists = ap (λ (p : plain.Stacks). p.lists) e;
        endings = ap (λ (p : plain.Stacks). p.endings) e;
      }

  pub finish-held : (given : Result Value Stop) (r : Result (Unit {0}) Stop) (o : Outcome PlainValue) → Pushes given st after r → Tells (λ t. holds t × stopped t) stopped texts given o → Acted r o
  finish-held (Ok v) (Ok done) (Gives w t) pushes told =
      (refl, ap (push w) (sym same) ∙ ap (λ x. push x (plain_stacks texts st)) (sym told.0) ∙ ap (plain_stacks texts) (sym pushes), told.1.0)
  finish-held (Ok v) (Err (Throw x)) (Gives w t) pushes told = cc
  finish-held (Ok v) (Err Fuel) (Gives w t) pushes told = cc
  finish-held (Ok v) (Err NoMemory) (Gives w t) pushes told = told.1.1
  finish-held (Ok v) r (Throws w t) pushes told = absurd told
  finish-held (Ok v) r (Spent t) pushes told = absurd told
  finish-held (Ok v) r (Asks zone op t) pushes told = absurd told
  finish-held (Err (Throw v)) r (Gives w t) pushes told = absurd told
  finish-held (Err (Throw v)) r (Throws w t) pushes told = subst (λ r. Acted r (Throws w t)) (sym pushes.0) (told.0, unmoved pushes.1, told.1.0)
  finish-held (Err (Throw v)) r (Spent t) pushes told = absurd told
  finish-held (Err (Throw v)) r (Asks zone op t) pushes told = absurd told
  finish-held (Err Fuel) r (Gives w t) pushes told = absurd told
  finish-held (Err Fuel) r (Throws w t) pushes told = absurd told
  finish-held (Err Fuel) r (Spent t) pushes told = subst (λ r. Acted r (Spent t)) (sym pushes.0) told.0
  finish-held (Err Fuel) r (Asks zone op t) pushes told = absurd told
  finish-held (Err NoMemory) r (Gives w t) pushes told = subst (λ r. Acted r (Gives w t)) (sym pushes.0) told
  finish-held (Err NoMemory) r (Throws w t) pushes told = subst (λ r. Acted r (Throws w t)) (sym pushes.0) told
  finish-held (Err NoMemory) r (Spent t) pushes told = subst (λ r. Acted r (Spent t)) (sym pushes.0) told
  finish-held (Err NoMemory) r (Asks zone op t) pushes told = subst (λ r. Acted r (Asks zone op t)) (sym pushes.0) told

-- ---- `arguments`

pub arguments_is : (frame : Frame) (code rest : List Op) (st : plain.Stacks) (s : State) → act frame code kind.Arguments rest st s ≡ finish rest st (paid_arguments (length frame.args) frame.args s)
arguments_is frame code rest st s = same (nat_lt s.ticks (one_and (length frame.args) 8))
  where
    left : State
    left = record s { ticks = s.ticks - one_and (length frame.args) 8 }

    same : (b : Bool) → on (cond b (Spent s) (Gives true left)) st (λ paid t. Goes rest (push (ObjectAt (length t.objects)) st) (with_object (arguments_object frame.args) t)) ≡ finish rest st (cond b (Spent s) (made_arguments frame.args left))
    same true = refl
    same false = refl

module _ (count : ℕ) (args : List PlainValue) (s : State) where
  abbrev paid : Bool → ℕ → Outcome PlainValue
  paid b left = cond b (Spent s) (made_arguments args (record s { ticks = left }))

  pub arguments-unanswered : Unanswered s (state_of (paid_arguments count args s))
  arguments-unanswered = by (nat_lt s.ticks (one_and count 8))
    where
      by : (b : Bool) → Unanswered s (state_of (paid b (s.ticks - one_and count 8)))
      by true = record { zones = refl; asked = refl }
      by false = record { zones = refl; asked = refl }

  -- the ticks were wanting
  pub arguments-spent : (holds stopped : State → Type 0) (texts : List (List ℕ)) (ticks left cost : ℕ) (stop : Stop) (r : Result (Unit {0}) Stop) → s.ticks ≡ ticks → cost ≡ one_and count 8 → r ≡ Err stop → (r ≡ Err Fuel) × (ticks < cost) × (left ≡ ticks)
      → holds s → Tells holds stopped texts (Err stop) (paid_arguments count args s)
  arguments-spent holds stopped texts ticks left cost (Throw v) r own price is err here = let same : Throw v ≡ Fuel = err_same (Throw v) Fuel r (Err Fuel) is refl err.0 in cc
  arguments-spent holds stopped texts ticks left cost NoMemory r own price is err here = let same : NoMemory ≡ Fuel = err_same NoMemory Fuel r (Err Fuel) is refl err.0 in cc
  arguments-spent holds stopped texts ticks left cost Fuel r own price is err here =
      let short : nat_lt s.ticks (one_and count 8) ≡ true = lt-ltb s.ticks (one_and count 8) (omega (arith, err.1, own, price)) in
      subst (λ b. Tells holds stopped texts (Err Fuel) (paid b (s.ticks - one_and count 8))) (sym short) here

  -- they were taken
  pub arguments-made : (holds stopped : State → Type 0) (texts : List (List ℕ)) (ticks left cost : ℕ) (given : Result Value Stop) → s.ticks ≡ ticks → cost ≡ one_and count 8 → cost ≤ ticks → left ≡ ticks - cost
      → Tells holds stopped texts given (made_arguments args (record s { ticks = left })) → Tells holds stopped texts given (paid_arguments count args s)
  arguments-made holds stopped texts ticks left cost given own price enough is tells =
      let free : nat_lt s.ticks (one_and count 8) ≡ false = le-ltb s.ticks (one_and count 8) (omega (arith, enough, own, price)) in
      let taken : left ≡ s.ticks - one_and count 8 = omega (arith, is, own, price) in
      subst (λ b. Tells holds stopped texts given (paid b (s.ticks - one_and count 8))) (sym free) (subst (λ t. Tells holds stopped texts given (paid false t)) taken tells)

-- want of ticks throws nothing
pub fuel-fits : {V : Type 0} (fits : V → Type 0) (n : Sizes) (stop : Stop) (r : Result (Unit {0}) Stop) → r ≡ Err stop → r ≡ Err Fuel → FitsAnswer fits n (Err stop)
fuel-fits fits n (Throw v) r is short = let same : Throw v ≡ Fuel = err_same (Throw v) Fuel r r is short refl in cc
fuel-fits fits n Fuel r is short = tt
fuel-fits fits n NoMemory r is short = tt

-- the ticks are those that were there
pub same-ticks : (s : State) (left : ℕ) → left ≡ s.ticks → SameBeside (record s { ticks = left }) s
same-ticks s left is = record { response = refl; zones = refl; asked = refl; log = refl; ticks = sym is }

-- what no call changes counts as before
pub counts-same : (h k : Heap) (before after : Lent) → after ≡ before → FunctionsFit before.counts h k → FunctionsFit after.counts h k
counts-same h k before after same fits = subst (λ (l : Lent). FunctionsFit l.counts h k) (sym same) fits
