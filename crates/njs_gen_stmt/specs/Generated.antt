-- What is told of the code of a script, or of why it was not made.
use Rattle.std.specs.Prelude.{◌≡◌, ◌<◌, ◌≤◌, List, [], Bool, true, false, ◌||◌, Result, Ok, Err}
use Rattle.njs_tree.specs.declared.tree.Script.{Script}
use Rattle.njs_tree.specs.declared.tree.Item.{Item}
use Rattle.njs_code.specs.declared.code.Code.{Code}
use Rattle.njs_meaning.specs.Places.{Around, Bindings}
use Rattle.njs_simul.specs.EmissionOfStatements.{slots_of, at_start}
use Rattle.njs_simul.specs.Compiled.{items_part, body_of}
use Rattle.njs_simul.specs.Counts.{operations_of, max_operations}
use Rattle.njs_scope.specs.Planned.{Planned, planned}
use Rattle.njs_gen_stmt.specs.declared.script.GenFault.{GenFault}
use Rattle.njs_gen_stmt.specs.declared.script.GenFault.TheVariants.{TooManySlots, TooLong, NoMemory}
use Rattle.njs_gen_stmt.specs.Walked.{coded, is_crowded, any_crowded}

-- a plan is that of a script, by some names of the outermost scope
abbrev pub IsPlanned : Script → Planned → Type 0
IsPlanned script plan = (outermost : Bindings) × (plan ≡ planned script outermost)

-- the code of items, in scopes with these names
abbrev pub script_code : List Item → Around → Code
script_code list names = record {
  functions = coded (items_part list) 0 names;
  body = record { params = 0; builds = true; slots = slots_of names; ops = body_of ((items_part list).declared 0) ((items_part list).means 0) (at_start names) [] };
}

-- a scope of a function, or that of the module, has more names than slots may be
abbrev pub has_too_many_slots : Code → Bool
has_too_many_slots code = is_crowded code.body.slots || any_crowded code.functions

-- code is made where no scope has too many slots and it isn't too long
abbrev pub Explains : {A : Type 0} → Result A GenFault → Code → Type 0
Explains (Ok made) code = (has_too_many_slots code ≡ false) × (operations_of code ≤ max_operations)
Explains (Err TooManySlots) code = has_too_many_slots code ≡ true
Explains (Err TooLong) code = (has_too_many_slots code ≡ false) × (max_operations < operations_of code)
Explains (Err NoMemory) code = Unit {0}
