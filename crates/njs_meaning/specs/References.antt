-- What an expression is before its value is asked: a value, a name, or a member (ECMA-262 5.1 §8.7).
use Rattle.std.specs.Prelude.{ℕ, List, Bool, true, false, if◌then◌else◌, is_some}
use Rattle.njs_meaning.specs.Primitives.{Truth, Undefined}
use Rattle.njs_meaning.specs.Values.{PlainValue, Simple}
use Rattle.njs_meaning.specs.State.{State, Gives}
use Rattle.njs_meaning.specs.Running.{Runs, Context, after}
use Rattle.njs_meaning.specs.Scopes.{read_name, assign_name, find}
use Rattle.njs_meaning.specs.Members.{get_member, put_member, delete_member}

-- a value, a name that is looked for in the scopes, or a member of a value that is neither undefined nor null
pub data Reference : Type 0 where
  Of : PlainValue → Reference
  Named : List ℕ → Reference
  Member : PlainValue → List ℕ → Reference

-- the value (§8.7.1)
abbrev pub value_of : Reference → Runs PlainValue
value_of (Of v) x s = Gives v s
value_of (Named name) x s = read_name name x s
value_of (Member base name) x s = Gives (get_member name base s.objects) s

-- a value is put there (§8.7.2), and is given. Only names and members are targets
abbrev pub assigned : Reference → PlainValue → Runs PlainValue
assigned (Of w) v x s = Gives v s
assigned (Named name) v x s = assign_name name v x s
assigned (Member base name) v x s = put_member name base v s

-- `delete` (§11.4.1)
abbrev pub deleted : Reference → Runs PlainValue
deleted (Member base name) x s = delete_member name base s
deleted r x s = Gives (Simple (Truth true)) s

-- `this` in a call (§11.2.3)
abbrev pub this_of : Reference → PlainValue
this_of (Member base name) = base
this_of r = Simple Undefined

-- a name that is bound nowhere
abbrev pub is_unbound : Reference → Context → State → Bool
is_unbound (Named name) x s = if is_some (find name s.scopes x.scope) then false else true
is_unbound r x s = false

-- what an expression is, and its value
abbrev pub Expression : Type 0
Expression = Runs Reference

abbrev pub evaluated : Expression → Runs PlainValue
evaluated e = after e value_of
