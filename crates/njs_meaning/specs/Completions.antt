-- How statements end (ECMA-262 5.1 §8.9), and what follows them (§12).
use Rattle.std.specs.Prelude.{ℕ, zero, suc, List, [], ◌∷◌, Bool, true, false, Option, Some, None, if◌then◌else◌}
use Rattle.std.specs.List.{list_any}
use Rattle.njs_props.specs.Names.{same_name}
use Rattle.njs_meaning.specs.Primitives.{Undefined}
use Rattle.njs_meaning.specs.Values.{PlainValue, Simple}
use Rattle.njs_meaning.specs.State.{State, Outcome, Gives, Throws, Spent, Asks, and_then}
use Rattle.njs_meaning.specs.Running.{Runs, charge}

-- on to what follows, a value that is returned, or a loop or `switch` that is left or gone on with, which a label may name
pub data Completion : Type 0 where
  Normal : Completion
  Returned : PlainValue → Completion
  Broken : Option (List ℕ) → Completion
  Continued : Option (List ℕ) → Completion

-- a statement; before a loop the labels that stand directly before it are given
abbrev pub Statement : Type 0
Statement = List (List ℕ) → Runs Completion

-- what follows where a statement ended normally; else its ending stays
abbrev pub unless_ended : Completion → (State → Outcome Completion) → State → Outcome Completion
unless_ended Normal next s = next s
unless_ended c next s = Gives c s

-- a value, and on
abbrev pub and_on : Outcome PlainValue → Outcome Completion
and_on o = and_then o (λ v s. Gives Normal s)

-- one statement after the other (§12.1)
abbrev pub in_turn : List Statement → Runs Completion
in_turn [] x s = Gives Normal s
in_turn (a ∷ rest) x s = and_then (a [] x s) (λ c. unless_ended c (in_turn rest x))

-- ---- loops (§12.6 to §12.8)

abbrev pub is_one_of : Option (List ℕ) → List (List ℕ) → Bool
is_one_of None labels = true
is_one_of (Some label) labels = list_any (same_name label) labels

-- what follows the body of a loop with these labels: the next turn, the end of the loop, or an ending that goes further out
abbrev pub after_body : List (List ℕ) → Completion → (State → Outcome Completion) → State → Outcome Completion
after_body labels Normal next s = next s
after_body labels (Returned v) next s = Gives (Returned v) s
after_body labels (Broken label) next s = Gives (if is_one_of label labels then Normal else Broken label) s
after_body labels (Continued label) next s = if is_one_of label labels then next s else Gives (Continued label) s

-- whether a loop goes on
abbrev pub Test : Type 0
Test = State → Outcome Bool

abbrev pub goes_on : Test
goes_on s = Gives true s

abbrev pub if_so : Bool → (State → Outcome Completion) → State → Outcome Completion
if_so true next s = next s
if_so false next s = Gives Normal s

-- a loop, of at most n turns: with as many as there are ticks these are all, since each turn takes one, and the next finds none
abbrev pub turns : ℕ → List (List ℕ) → Test → (State → Outcome Completion) → Test → State → Outcome Completion
turns zero labels before body behind s = Spent s
turns (suc n) labels before body behind s =
    charge 1 (λ s. and_then (before s) (λ go. if_so go (λ s.
    and_then (body s) (λ c. after_body labels c (λ s.
    and_then (behind s) (λ go. if_so go (turns n labels before body behind))))))) s

abbrev pub loop : List (List ℕ) → Test → (State → Outcome Completion) → Test → State → Outcome Completion
loop labels before body behind s = turns s.ticks labels before body behind s

-- ---- `try` (§12.14)

-- what catches a throw
abbrev pub caught_by : (PlainValue → State → Outcome Completion) → Outcome Completion → Outcome Completion
caught_by handler (Gives c s) = Gives c s
caught_by handler (Throws v s) = handler v s
caught_by handler (Spent s) = Spent s
caught_by handler (Asks zone op s) = Asks zone op s

-- what is done at last: an ending of its own takes the place of the pending one. Spent ticks and a question pass by
abbrev pub done_at_last : (State → Outcome Completion) → Outcome Completion → Outcome Completion
done_at_last last (Gives c s) = and_then (last s) (λ d. unless_ended d (Gives c))
done_at_last last (Throws v s) = and_then (last s) (λ d. unless_ended d (Throws v))
done_at_last last (Spent s) = Spent s
done_at_last last (Asks zone op s) = Asks zone op s

-- ---- `switch` (§12.11)

-- an ending without a label ends the `switch`
abbrev pub after_switch : Completion → Completion
after_switch (Broken None) = Normal
after_switch c = c

-- what a call gives
abbrev pub returned : Completion → PlainValue
returned (Returned v) = v
returned c = Simple Undefined
