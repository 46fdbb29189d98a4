-- What parts of operations tell that charge a caller and then change the heap.
use Rattle.std.specs.Prelude.{ℕ, List, Result}
use Rattle.njs_value.specs.declared.Value.{Value}
use Rattle.njs_meaning.specs.Values.{PlainValue}
use Rattle.njs_meaning.specs.State.{State, Outcome}
use Rattle.njs_meaning.specs.Running.{charge, one_and}
use Rattle.njs_convert.specs.declared.stop.Stop.{Stop}
use Rattle.njs_interp.specs.Counting.{made_arguments}
use Rattle.njs_interp.specs.Outcomes.{Tells}

-- an answer tells what a definition gives, in every state that the machine stood for. Of the state then is also known what is
-- known after want of memory, which may come yet
pub record MeansHeld (stands holds stopped : State → Type 0) (texts : List (List ℕ)) (r : Result Value Stop) (meaning : State → Outcome PlainValue) : Type 0 where
  pub by : (s : State) → stands s → Tells (λ t. holds t × stopped t) stopped texts r (meaning s)

-- the `arguments` of a call, with what they cost (ECMA-262 5.1 §10.6)
abbrev pub paid_arguments : ℕ → List PlainValue → State → Outcome PlainValue
paid_arguments count args s = charge (one_and count 8) (made_arguments args) s
