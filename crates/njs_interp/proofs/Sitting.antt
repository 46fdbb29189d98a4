-- What stands, where operands are taken and given.
use Rattle.std.proofs.Common.{◌≡◌, ℕ, ◌+◌, List, [], ◌∷◌, ◌++◌, Result, Ok, Err, length, refl, sym, subst, arith, length-append}
use Rattle.std.specs.List.{AllByRecursion}
use Rattle.njs_value.specs.declared.Value.{Value}
use Rattle.njs_shared.specs.Heap.{Heap, sizes}
use Rattle.njs_shared.specs.Fits.{FitsValue}
use Rattle.njs_code.specs.declared.op.Depth.{Depth}
use Rattle.njs_code.specs.declared.op.Kind.{Kind}
use Rattle.njs_code.specs.declared.op.Op.{Op}
use Rattle.njs_code.specs.declared.code.FunctionCode.{FunctionCode}
use Rattle.njs_code.specs.Effects.{depth_next, depth_left}
use Rattle.njs_convert.specs.declared.stop.Stop.{Stop}
use Rattle.njs_convert.specs.declared.stop.Stop.TheVariants.{Throw, Fuel, NoMemory}
use Rattle.njs_convert.specs.Tells.{FitsAnswer}
use Rattle.njs_interp.specs.declared.stacks.Stacks.{Stacks}
use Rattle.njs_interp.specs.Sits.{Sits}
use Rattle.njs_interp.specs.Tells.{Leaves}
use Rattle.njs_interp.specs.Outcomes.{Pushes, Moves}
use Rattle.njs_interp.proofs.Kept.{all-joined, all-behind}

-- ---- operands

pub sits-over : (h : Heap) (slots : List ℕ) (depth : Depth) (st : Stacks) (vs : List Value) → AllByRecursion (FitsValue (sizes h)) vs → Sits h slots depth st
    → Sits h slots (record depth { operands = length vs + depth.operands }) (record st { operands = vs ++ st.operands })
sits-over h slots depth st vs fits sits = record {
  operands = omega (arith, sits.operands, length-append vs st.operands);
  scopes = sits.scopes;
  lists = sits.lists;
  endings = sits.endings;
  values = all-joined (FitsValue (sizes h)) vs st.operands fits sits.values;
  listed = sits.listed;
  ended = sits.ended;
  entered = sits.entered;
}

module _ (h : Heap) (slots : List ℕ) (k : Kind) (taken given : ℕ) (moves : Moves k taken given) (depth : Depth) (st : Stacks) where
  pub sits-taken : (vs : List Value) → length vs ≡ taken → Sits h slots depth (record st { operands = vs ++ st.operands }) → Sits h slots (depth_left k depth) st
  sits-taken vs count sits = record {
    operands = omega (arith, sits.operands, length-append vs st.operands, count, moves.operands_taken);
    scopes = omega (arith, sits.scopes, moves.scopes_taken);
    lists = omega (arith, sits.lists, moves.lists_taken);
    endings = omega (arith, sits.endings, moves.endings_taken);
    values = all-behind (FitsValue (sizes h)) vs st.operands sits.values;
    listed = sits.listed;
    ended = sits.ended;
    entered = sits.entered;
  }

  -- so many were given in the end
  pub sits-given : (vs : List Value) → length vs ≡ given → AllByRecursion (FitsValue (sizes h)) vs → Sits h slots (depth_left k depth) st → Sits h slots (depth_next k depth) (record st { operands = vs ++ st.operands })
  sits-given vs count fits sits = record {
    operands = omega (arith, sits.operands, length-append vs st.operands, count, moves.operands_given);
    scopes = omega (arith, sits.scopes, moves.scopes_given);
    lists = omega (arith, sits.lists, moves.lists_given);
    endings = omega (arith, sits.endings, moves.endings_given);
    values = all-joined (FitsValue (sizes h)) vs st.operands fits sits.values;
    listed = sits.listed;
    ended = sits.ended;
    entered = sits.entered;
  }

-- what is left by an operation that puts the value on top that it gives
pub push-leaves : (f : FunctionCode) (op : Op) (h : Heap) (taken : ℕ) (st after : Stacks) (given : Result Value Stop) (r : Result (Unit {0}) Stop)
    → Moves op.kind taken 1 → Sits h f.slots (depth_left op.kind op.depth) st → FitsAnswer (FitsValue (sizes h)) (sizes h) given → Pushes given st after r → Leaves f op h after r
push-leaves f op h taken st after (Ok v) (Ok done) moves sits fits pushes =
    subst (Sits h f.slots (depth_next op.kind op.depth)) (sym pushes) (sits-given h f.slots op.kind taken 1 moves op.depth st (v ∷ []) refl (fits, tt) sits)
push-leaves f op h taken st after (Ok v) (Err (Throw w)) moves sits fits pushes = cc
push-leaves f op h taken st after (Ok v) (Err Fuel) moves sits fits pushes = tt
push-leaves f op h taken st after (Ok v) (Err NoMemory) moves sits fits pushes = tt
push-leaves f op h taken st after (Err (Throw v)) r moves sits fits pushes =
    subst (Leaves f op h after) (sym pushes.0) (subst (Sits h f.slots (depth_left op.kind op.depth)) (sym pushes.1) sits, fits)
push-leaves f op h taken st after (Err Fuel) r moves sits fits pushes = subst (Leaves f op h after) (sym pushes.0) tt
push-leaves f op h taken st after (Err NoMemory) r moves sits fits pushes = subst (Leaves f op h after) (sym pushes.0) tt
