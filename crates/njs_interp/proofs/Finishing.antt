-- Operations that put the value on top that a part of them gave.
use Rattle.std.proofs.Common.{◌≡◌, ℕ, List, [], ◌∷◌, ◌++◌, Result, Ok, Err, length, ◌+◌, ap, refl, sym, ◌∙◌, subst, arith}
use Rattle.std.specs.Prelude.{OnErr}
use Rattle.std.specs.List.{AllByRecursion}
use Rattle.njs_value.specs.declared.Value.{Value}
use Rattle.njs_shared.specs.Heap.{Heap, sizes}
use Rattle.njs_shared.specs.Fits.{FitsValue}
use Rattle.njs_code.specs.declared.op.Op.{Op}
use Rattle.njs_code.specs.declared.code.FunctionCode.{FunctionCode}
use Rattle.njs_code.specs.Effects.{depth_left, depth_next}
use Rattle.njs_meaning.specs.Values.{PlainValue}
use Rattle.njs_meaning.specs.State.{State, Outcome, Gives, Throws, Spent, Asks}
use Rattle.njs_convert.specs.declared.stop.Stop.{Stop}
use Rattle.njs_convert.specs.declared.stop.Stop.TheVariants.{Throw, Fuel, NoMemory}
use Rattle.njs_convert.specs.Tells.{Extends, FitsAnswer}
use Rattle.njs_simul.specs.Stacks as plain
use Rattle.njs_simul.specs.Stacks.{push}
use Rattle.njs_simul.specs.Step.{finish}
use Rattle.njs_interp.specs.declared.stacks.Stacks.{Stacks}
use Rattle.njs_interp.specs.Plain.{plain_stacks}
use Rattle.njs_interp.specs.Acts.{OnHeap, Unanswered, Below, Acts}
use Rattle.njs_interp.specs.Outcomes.{Tells, Pushes, Moves, Took, Shows}
use Rattle.njs_interp.specs.Sits.{Sits}
use Rattle.njs_interp.specs.Tells.{Leaves}
use Rattle.njs_interp.proofs.Kept.{all-more, Widens-Extends, FitsValue-widened, Sits-widened, stacks-widened}
use Rattle.njs_interp.proofs.Sitting.{sits-taken, sits-over, sits-given, push-leaves}

module _ (new : Heap) (rest : List Op) (before : plain.Stacks) (st after : Stacks) (same : plain_stacks new.texts st ≡ before) (s : State) where
  abbrev Acted : Result (Unit {0}) Stop → Outcome PlainValue → Type 0
  Acted r o = Acts (OnHeap new s) (Unanswered s) new.texts rest (plain_stacks new.texts after) r (finish rest before o)

  unmoved : after ≡ st → Below before (plain_stacks new.texts after)
  unmoved is =
      let e : before ≡ plain_stacks new.texts after = sym same ∙ ap (plain_stacks new.texts) (sym is) in
      record {
        above = [];
        operands = ap (λ (p : plain.Stacks). p.operands) e;
        scopes = ap (λ (p : plain.Stacks). p.scopes) e;
        lists = ap (λ (p : plain.Stacks). p.lists) e;
        endings = ap (λ (p : plain.Stacks). p.endings) e;
      }

  pub finish-told : (given : Result Value Stop) (r : Result (Unit {0}) Stop) (o : Outcome PlainValue) → Pushes given st after r → Tells (OnHeap new s) (Unanswered s) new.texts given o → Acted r o
  finish-told (Ok v) (Ok done) (Gives w t) pushes told =
      (refl, ap (push w) (sym same) ∙ ap (λ x. push x (plain_stacks new.texts st)) (sym told.0) ∙ ap (plain_stacks new.texts) (sym pushes), told.1)
  finish-told (Ok v) (Err (Throw x)) (Gives w t) pushes told = cc
  finish-told (Ok v) (Err Fuel) (Gives w t) pushes told = cc
  finish-told (Ok v) (Err NoMemory) (Gives w t) pushes told = record { zones = told.1.beside.zones; asked = told.1.beside.asked }
  finish-told (Ok v) r (Throws w t) pushes told = absurd told
  finish-told (Ok v) r (Spent t) pushes told = absurd told
  finish-told (Ok v) r (Asks zone op t) pushes told = absurd told
  finish-told (Err (Throw v)) r (Gives w t) pushes told = absurd told
  finish-told (Err (Throw v)) r (Throws w t) pushes told = subst (λ r. Acted r (Throws w t)) (sym pushes.0) (told.0, unmoved pushes.1, told.1)
  finish-told (Err (Throw v)) r (Spent t) pushes told = absurd told
  finish-told (Err (Throw v)) r (Asks zone op t) pushes told = absurd told
  finish-told (Err Fuel) r (Gives w t) pushes told = absurd told
  finish-told (Err Fuel) r (Throws w t) pushes told = absurd told
  finish-told (Err Fuel) r (Spent t) pushes told = subst (λ r. Acted r (Spent t)) (sym pushes.0) told
  finish-told (Err Fuel) r (Asks zone op t) pushes told = absurd told
  finish-told (Err NoMemory) r (Gives w t) pushes told = subst (λ r. Acted r (Gives w t)) (sym pushes.0) told
  finish-told (Err NoMemory) r (Throws w t) pushes told = subst (λ r. Acted r (Throws w t)) (sym pushes.0) told
  finish-told (Err NoMemory) r (Spent t) pushes told = subst (λ r. Acted r (Spent t)) (sym pushes.0) told
  finish-told (Err NoMemory) r (Asks zone op t) pushes told = subst (λ r. Acted r (Asks zone op t)) (sym pushes.0) told

-- the same of an operation that has taken its operands
pub took-told : (f : FunctionCode) (op : Op) (h m : Heap) (before st after : Stacks) (vs : List Value) (rest : List Op) (s : State) (given : Result Value Stop) (r : Result (Unit {0}) Stop) (o : Outcome PlainValue)
    → Took f op h before st vs → Extends h m → Pushes given st after r → Tells (OnHeap m s) (Unanswered s) m.texts given o
    → Acts (OnHeap m s) (Unanswered s) m.texts rest (plain_stacks m.texts after) r (finish rest (plain_stacks h.texts st) o)
took-told f op h m before st after vs rest s given r o took extends pushes told =
    finish-told m rest (plain_stacks h.texts st) st after (stacks-widened h m (Widens-Extends h m extends) f.slots (depth_left op.kind op.depth) st took.sits) s given r o pushes told

pub took-leaves : (f : FunctionCode) (op : Op) (h m : Heap) (before st after : Stacks) (vs : List Value) (taken : ℕ) (given : Result Value Stop) (r : Result (Unit {0}) Stop)
    → Moves op.kind taken 1 → Took f op h before st vs → Extends h m → FitsAnswer (FitsValue (sizes m)) (sizes m) given → Pushes given st after r → Leaves f op m after r
took-leaves f op h m before st after vs taken given r moves took extends fits pushes =
    push-leaves f op m taken st after given r moves (Sits-widened h m (Widens-Extends h m extends) f.slots (depth_left op.kind op.depth) st took.sits) fits pushes

-- no operand is taken
pub took-none : (f : FunctionCode) (op : Op) (h : Heap) (st : Stacks) (given' : ℕ) → Moves op.kind 0 given' → Sits h f.slots op.depth st → Took f op h st st []
took-none f op h st given' moves sits = record { is = refl; sits = sits-taken h f.slots op.kind 0 given' moves op.depth st [] refl sits; fits = tt }

-- ---- operands that stay

-- what stands without the operands that are shown
abbrev pub without : Stacks → List Value → Stacks
without st below = record st { operands = below }

module _ (f : FunctionCode) (op : Op) (h m : Heap) (taken given' : ℕ) (moves : Moves op.kind taken given') (extends : Extends h m) (before : Stacks) (vs : List Value) (count : length vs ≡ taken) (shows : Shows f op h before vs)
    (sits : Sits h f.slots op.depth before) (over : List Value) (over_fits : AllByRecursion (FitsValue (sizes h)) over) where
  low_sits : Sits h f.slots (depth_left op.kind op.depth) (without before shows.below)
  low_sits =
      sits-taken h f.slots op.kind taken given' moves op.depth (without before shows.below) vs count
      (subst (λ os. Sits h f.slots op.depth (without before os)) shows.is sits)

  -- some of them stay under what is given
  pub over-told : (after : Stacks) (rest : List Op) (s : State) (given : Result Value Stop) (r : Result (Unit {0}) Stop) (o : Outcome PlainValue)
      → Pushes given (without before (over ++ shows.below)) after r → Tells (OnHeap m s) (Unanswered s) m.texts given o
      → Acts (OnHeap m s) (Unanswered s) m.texts rest (plain_stacks m.texts after) r (finish rest (plain_stacks h.texts (without before (over ++ shows.below))) o)
  over-told after rest s given r o pushes told =
      finish-told m rest (plain_stacks h.texts (without before (over ++ shows.below))) (without before (over ++ shows.below)) after
      (stacks-widened h m (Widens-Extends h m extends) f.slots (record (depth_left op.kind op.depth) { operands = length over + (depth_left op.kind op.depth).operands }) (without before (over ++ shows.below))
      (sits-over h f.slots (depth_left op.kind op.depth) (without before shows.below) over over_fits low_sits))
      s given r o pushes told

  pub over-leaves : (after : Stacks) (given : Result Value Stop) (r : Result (Unit {0}) Stop) → length over + 1 ≡ given'
      → FitsAnswer (FitsValue (sizes m)) (sizes m) given → OnErr given (given ≡ Err NoMemory) → Pushes given (without before (over ++ shows.below)) after r → Leaves f op m after r
  over-leaves after (Ok v) (Ok done) more fits memory pushes =
      subst (Sits m f.slots (depth_next op.kind op.depth)) (sym pushes)
      (sits-given m f.slots op.kind taken given' moves op.depth (without before shows.below) (v ∷ over) (omega (arith, more))
      (fits, all-more (FitsValue (sizes h)) (FitsValue (sizes m)) (FitsValue-widened h m (Widens-Extends h m extends)) over over_fits)
      (Sits-widened h m (Widens-Extends h m extends) f.slots (depth_left op.kind op.depth) (without before shows.below) low_sits))
  over-leaves after (Ok v) (Err (Throw w)) more fits memory pushes = cc
  over-leaves after (Ok v) (Err Fuel) more fits memory pushes = tt
  over-leaves after (Ok v) (Err NoMemory) more fits memory pushes = tt
  over-leaves after (Err (Throw v)) r more fits memory pushes = cc
  over-leaves after (Err Fuel) r more fits memory pushes = cc
  over-leaves after (Err NoMemory) r more fits memory pushes = subst (Leaves f op m after) (sym pushes.0) tt
