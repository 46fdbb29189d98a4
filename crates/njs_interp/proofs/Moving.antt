-- How many operands the operations on members and objects take and give.
use Rattle.std.proofs.Common.{refl}
use Rattle.njs_code.specs.declared.op.Kind.TheVariants as kind
use Rattle.njs_code.specs.Effects.{operands_taken, operands_given, scopes_taken, scopes_given, lists_taken, lists_given, endings_taken, endings_given}
use Rattle.njs_text.specs.declared.text.Text.{Text}
use Rattle.njs_interp.specs.Outcomes.{Moves}

pub base-moves : Moves kind.Base 1 1
unfolding operands_taken operands_given scopes_taken scopes_given lists_taken lists_given endings_taken endings_given
base-moves = record { operands_taken = refl; operands_given = refl; scopes_taken = refl; scopes_given = refl; lists_taken = refl; lists_given = refl; endings_taken = refl; endings_given = refl }

pub get-moves : Moves kind.Get 2 1
unfolding operands_taken operands_given scopes_taken scopes_given lists_taken lists_given endings_taken endings_given
get-moves = record { operands_taken = refl; operands_given = refl; scopes_taken = refl; scopes_given = refl; lists_taken = refl; lists_given = refl; endings_taken = refl; endings_given = refl }

pub get_kept-moves : Moves kind.GetKept 2 3
unfolding operands_taken operands_given scopes_taken scopes_given lists_taken lists_given endings_taken endings_given
get_kept-moves = record { operands_taken = refl; operands_given = refl; scopes_taken = refl; scopes_given = refl; lists_taken = refl; lists_given = refl; endings_taken = refl; endings_given = refl }

pub method-moves : Moves kind.Method 2 2
unfolding operands_taken operands_given scopes_taken scopes_given lists_taken lists_given endings_taken endings_given
method-moves = record { operands_taken = refl; operands_given = refl; scopes_taken = refl; scopes_given = refl; lists_taken = refl; lists_given = refl; endings_taken = refl; endings_given = refl }

pub put-moves : Moves kind.Put 3 1
unfolding operands_taken operands_given scopes_taken scopes_given lists_taken lists_given endings_taken endings_given
put-moves = record { operands_taken = refl; operands_given = refl; scopes_taken = refl; scopes_given = refl; lists_taken = refl; lists_given = refl; endings_taken = refl; endings_given = refl }

pub delete-moves : Moves kind.DeleteMember 2 1
unfolding operands_taken operands_given scopes_taken scopes_given lists_taken lists_given endings_taken endings_given
delete-moves = record { operands_taken = refl; operands_given = refl; scopes_taken = refl; scopes_given = refl; lists_taken = refl; lists_given = refl; endings_taken = refl; endings_given = refl }

pub new_array-moves : Moves kind.NewArray 0 1
unfolding operands_taken operands_given scopes_taken scopes_given lists_taken lists_given endings_taken endings_given
new_array-moves = record { operands_taken = refl; operands_given = refl; scopes_taken = refl; scopes_given = refl; lists_taken = refl; lists_given = refl; endings_taken = refl; endings_given = refl }

pub new_object-moves : Moves kind.NewObject 0 1
unfolding operands_taken operands_given scopes_taken scopes_given lists_taken lists_given endings_taken endings_given
new_object-moves = record { operands_taken = refl; operands_given = refl; scopes_taken = refl; scopes_given = refl; lists_taken = refl; lists_given = refl; endings_taken = refl; endings_given = refl }

pub define-moves : (name : Text) → Moves (kind.Define name) 2 1
unfolding operands_taken operands_given scopes_taken scopes_given lists_taken lists_given endings_taken endings_given
define-moves name = record { operands_taken = refl; operands_given = refl; scopes_taken = refl; scopes_given = refl; lists_taken = refl; lists_given = refl; endings_taken = refl; endings_given = refl }
