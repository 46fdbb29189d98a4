-- The `arguments` of a call on a heap (ECMA-262 5.1 §10.6).
use Rattle.std.specs.Prelude.{ℕ, ◌+◌, List, [], ◌∷◌, ◌++◌, length, pos}
use Rattle.std.specs.Fmt.{decimal}
use Rattle.njs_value.specs.declared.Value.{Value}
use Rattle.njs_value.specs.declared.Value.TheVariants as value
use Rattle.njs_props.specs.Names.{length_name}
use Rattle.njs_props.specs.declared.map.Property.{Property}
use Rattle.njs_meaning.specs.Errors.{hidden}
use Rattle.njs_meaning.specs.Functions.{arguments_object}
use Rattle.njs_meaning.specs.Properties.{all_flags}
use Rattle.njs_meaning.specs.Running.{with_object}
use Rattle.njs_meaning.specs.State.{State, Outcome, Gives}
use Rattle.njs_meaning.specs.Values.{PlainValue, ObjectAt}

-- the arguments by their indices, and then their count
abbrev pub numbered_values : ℕ → List Value → List (List ℕ × Property Value)
numbered_values i [] = []
numbered_values i (v ∷ vs) = (decimal i, record { value = v; flags = all_flags }) ∷ numbered_values (i + 1) vs

abbrev pub arguments_props : List Value → List (List ℕ × Property Value)
arguments_props args = numbered_values 0 args ++ (length_name, record { value = value.Num (pos (length args)); flags = hidden }) ∷ []

-- the object, without the ticks that it costs
abbrev pub made_arguments : List PlainValue → State → Outcome PlainValue
made_arguments args s = Gives (ObjectAt (length s.objects)) (with_object (arguments_object args) s)
