-- The states of a run that a machine, its ticks and its host stand for, and what a call or `new` means.
use Rattle.std.specs.Prelude.{◌≡◌, ℕ, ◌<◌, List, length}
use Rattle.std.specs.List.{AllByRecursion}
use Rattle.njs_value.specs.declared.Value.{Value}
use Rattle.njs_value.specs.declared.Value.TheVariants as value
use Rattle.njs_shared.specs.Heap.{Heap, Sizes}
use Rattle.njs_shared.specs.Fits.{FitsValue}
use Rattle.njs_clone.specs.Content.{content}
use Rattle.njs_meaning.specs.Values.{PlainValue}
use Rattle.njs_meaning.specs.State.{State, Outcome}
use Rattle.njs_meaning.specs.Replies.{Known, state_of}
use Rattle.njs_meaning.specs.Running.{Calls}
use Rattle.njs_convert.specs.FirstHeap.{StandsFor}
use Rattle.njs_simul.specs.Fits.{Good}
use Rattle.njs_interp.specs.declared.own.Way.{Way}
use Rattle.njs_interp.specs.declared.own.Way.TheVariants as way
use Rattle.njs_interp.specs.Plain.{heap_of}

-- every text in a slot is one of the heap's
abbrev pub HasText : List (List ℕ) → Value → Type 0
HasText texts value.Undefined = Unit {0}
HasText texts value.Null = Unit {0}
HasText texts (value.Bool b) = Unit {0}
HasText texts (value.Num n) = Unit {0}
HasText texts (value.Str t) = t.0 < length texts
HasText texts (value.Obj o) = Unit {0}

abbrev pub HaveTexts : Heap → Type 0
HaveTexts h = AllByRecursion (λ scope. AllByRecursion (HasText h.texts) scope.slots) h.scopes

-- the objects and scopes are the machine's, so many ticks are left, and the host keeps its part
pub record Holds (keeps : Known → State → Type 0) (ticks : ℕ) (k : Known) (h : Heap) (s : State) : Type 0 where
  pub heap : StandsFor h (heap_of s)
  pub texts : HaveTexts h
  pub kept : keeps k s
  pub ticks_are : s.ticks ≡ ticks

-- and the functions stand in scopes with the names that are known
pub record Stands (keeps : Known → State → Type 0) (ticks : ℕ) (k : Known) (h : Heap) (s : State) : Type 0 where
  pub holds : Holds keeps ticks k h s
  pub good : Good k.around s

-- `this` is one of the heap's
abbrev pub FitsWay : Sizes → Way → Type 0
FitsWay n (way.Call this) = FitsValue n this
FitsWay n way.New = Unit {0}

-- a call with `this`, or `new`
abbrev pub by_way : Calls → List (List ℕ) → Way → PlainValue → List PlainValue → State → Outcome PlainValue
by_way calls texts (way.Call this) f args s = calls.call f (content texts this) args s
by_way calls texts way.New f args s = calls.construct f args s

-- calls and `new` keep a predicate of states
pub record CallsKeep (P : State → Type 0) (calls : Calls) : Type 0 where
  pub call : (f this : PlainValue) (args : List PlainValue) (s : State) → P s → P (state_of (calls.call f this args s))
  pub construct : (f : PlainValue) (args : List PlainValue) (s : State) → P s → P (state_of (calls.construct f args s))
