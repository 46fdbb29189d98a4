-- Runs of the code of a function that end in an outcome.
use Rattle.std.specs.Prelude.{◌≡◌, List, ◌∷◌, Option, Some, None}
use Rattle.njs_code.specs.declared.op.Address.{Address}
use Rattle.njs_code.specs.declared.op.Op.{Op}
use Rattle.njs_meaning.specs.Values.{PlainValue}
use Rattle.njs_meaning.specs.State.{State, Outcome}
use Rattle.njs_simul.specs.Stacks.{Ending, Stacks, Frame, cut_to, Within}
use Rattle.njs_simul.specs.Step.{Goes, Ends, Leads, act, taken, from, ended_by}

-- `good` is what each state is in which an operation begins
module _ (good : State → Type 0) (frame : Frame) (code : List Op) (outcome : Outcome PlainValue) where
  mutual
    -- from a place of the code
    pub data Runs : List Op → Stacks → State → Type 0 where
      goes : (op : Op) (rest : List Op) (st : Stacks) (s : State) (next : List Op) (after : Stacks) (t : State)
          → good s → act frame code op.kind rest st s ≡ Goes next after t → Runs next after t → Runs (op ∷ rest) st s
      ends : (op : Op) (rest : List Op) (st : Stacks) (s : State)
          → good s → act frame code op.kind rest st s ≡ Ends outcome → Runs (op ∷ rest) st s
      leads : (op : Op) (rest : List Op) (st : Stacks) (s : State) (e : Ending) (after : Stacks) (t : State)
          → good s → act frame code op.kind rest st s ≡ Leads e after t → LeadsOut op.around e after t → Runs (op ∷ rest) st s

    -- from an ending, by the operation that ends the part of the code around it: it goes on there, or further out
    pub data LeadsOut : Option Address → Ending → Stacks → State → Type 0 where
      over : (e : Ending) (st : Stacks) (s : State) → ended_by e s ≡ outcome → LeadsOut None e st s
      taken_up : (at : Address) (op : Op) (rest : List Op) (e : Ending) (st : Stacks) (s : State) (next : List Op) (after : Stacks)
          → from frame code at.0 ≡ op ∷ rest → Within op.depth st → taken frame code op.kind rest e (cut_to op.depth st) ≡ Some (next, after)
          → Runs next after s → LeadsOut (Some at) e st s
      passed_by : (at : Address) (op : Op) (rest : List Op) (e : Ending) (st : Stacks) (s : State)
          → from frame code at.0 ≡ op ∷ rest → Within op.depth st → taken frame code op.kind rest e (cut_to op.depth st) ≡ None
          → LeadsOut op.around e st s → LeadsOut (Some at) e st s
