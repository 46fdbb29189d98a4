-- How the parts of statements are written.
use Rattle.std.specs.Prelude.{◌≡◌, ℕ, ◌+◌, suc, List, [], ◌++◌, map, Option, Some, None}
use Rattle.std.specs.Option.{option_map}
use Rattle.njs_tree.specs.declared.tree.Expr.{Expr}
use Rattle.njs_tree.specs.declared.tree.Stmt.{Stmt}
use Rattle.njs_tree.specs.declared.tree.Case.{Case}
use Rattle.njs_tree.specs.declared.tree.ForFirst.{ForFirst}
use Rattle.njs_code.specs.declared.op.Address.{Address}
use Rattle.njs_code.specs.declared.op.Kind.TheVariants as kind
use Rattle.njs_code.specs.declared.op.Op.{Op}
use Rattle.njs_meaning.specs.declared.place.Place.{Place}
use Rattle.njs_meaning.specs.Parts.{Part, each, held, each_named_held}
use Rattle.njs_simul.specs.Emission as emit
use Rattle.njs_simul.specs.Emission.{Coded, Emits, op, inside, deeper, address}
use Rattle.njs_simul.specs.EmissionOfStatements as step
use Rattle.njs_simul.specs.EmissionOfStatements.{in_turn_size, CodedStatement, CodedPart, CodedTest, CodedBranch}
use Rattle.njs_simul.specs.Compiled.{Placed, caught_part, last_part}
use Rattle.njs_scope.specs.Uses as uses
use Rattle.njs_scope.specs.Uses.{Of_part}
use Rattle.njs_gen_expr.specs.declared.here.Here.{Here}
use Rattle.njs_gen_expr.specs.Written.{Progress, IsGoing, Draft, draft, Holds, Stands}
use Rattle.njs_gen_expr.specs.Trees as code
use Rattle.njs_gen_expr.specs.Parts.{Wrote}

-- where another part stands
abbrev pub DeeperBy : (emit.Here → emit.Here) → Here → Here → Type 0
DeeperBy further here inner = (at : emit.Here) → Stands here at → Stands inner (further at)

-- ---- by the kinds of what is written

abbrev pub WrotePart : Part Placed CodedPart → Of_part → Here → Progress → Progress → Type 0
WrotePart = Wrote (λ p. p.size) (λ p. p.emit)

abbrev pub WroteTest : Address → Part Placed CodedTest → Of_part → Here → Progress → Progress → Type 0
WroteTest past = Wrote (λ p. p.size) (λ p. p.emit past)

abbrev pub WroteLabelled : List (List ℕ) → Part Placed CodedStatement → Of_part → Here → Progress → Progress → Type 0
WroteLabelled labels = Wrote (λ p. p.size) (λ p. p.emit labels)

-- ---- parts of trees

abbrev pub declared_in : List (List ℕ × Option Expr) → Part Placed (List (List ℕ × Option Coded))
declared_in list = each_named_held (map (λ v. (v.0, option_map code.expression v.1)) list)

abbrev pub declared_uses : List (List ℕ × Option Expr) → Of_part
declared_uses list = uses.each_declared (map (λ v. (v.0, option_map uses.expression v.1)) list)

abbrev pub optional : Option Expr → Part Placed (Option Coded)
optional part = held (option_map code.expression part)

abbrev pub optional_uses : Option Expr → Of_part
optional_uses part = uses.held_of (option_map uses.expression part)

abbrev pub first : Option ForFirst → Part Placed (Option CodedPart)
first part = held (option_map code.first part)

abbrev pub first_uses : Option ForFirst → Of_part
first_uses part = uses.held_of (option_map uses.first part)

abbrev pub in_turn : List Stmt → Part Placed (List CodedStatement)
in_turn list = each (map code.statement list)

abbrev pub in_turn_uses : List Stmt → Of_part
in_turn_uses list = uses.all_of (map uses.statement list)

abbrev pub cases : List Case → Part Placed (List CodedBranch)
cases list = each (map code.branch list)

abbrev pub cases_uses : List Case → Of_part
cases_uses list = uses.all_of (map uses.branch list)

abbrev pub caught : Option (List ℕ × List Stmt) → Part Placed (Option (List ℕ × List CodedStatement))
caught part = caught_part (option_map (λ c. (c.0, map code.statement c.1)) part)

abbrev pub caught_uses : Option (List ℕ × List Stmt) → Of_part
caught_uses part = uses.caught_part (option_map (λ c. (c.0, map uses.statement c.1)) part)

abbrev pub last : Option (List Stmt) → Part Placed (Option (List CodedStatement))
last part = last_part (option_map (map code.statement) part)

abbrev pub last_uses : Option (List Stmt) → Of_part
last_uses part = uses.last_part (option_map (map uses.statement) part)

abbrev pub otherwise : Option Stmt → Part Placed (Option CodedStatement)
otherwise part = held (option_map code.statement part)

abbrev pub otherwise_uses : Option Stmt → Of_part
otherwise_uses part = uses.held_of (option_map uses.statement part)

-- the test of a case, which leads to the address where it is met
abbrev pub tested : Address → Option Coded → Emits
tested begin None here rest = rest
tested begin (Some test) here rest = emit.value test (deeper 1 here) (op (kind.JumpSame begin) (deeper 2 here) rest)

abbrev pub WroteDefault : Part Placed (List CodedBranch) → Of_part → Here → Progress → Progress → Address → Type 0
WroteDefault code uses here old new default =
    (at : emit.Here) (first start n : ℕ) (ops : List Op) (front : List Place) → Stands here at → IsGoing new
    → Holds old (draft ops n (front ++ (uses.means start).places at.names) (first + code.size))
    → default ≡ step.default_at (code.means first) at ops

-- ---- what ends a part, and the part inside

-- inside the part that ends where what is written begins; none where nothing more is written
abbrev pub Within : Progress → Here → Option Here → Type 0
Within w here None = IsGoing w → ⊥
Within w here (Some inner) = (at : emit.Here) (d : Draft) → Stands here at → Holds w d → Stands inner (inside d.ops at)

-- the body of a loop with its end behind it
abbrev pub turned : List (List ℕ) → Address → CodedStatement → Emits
turned labels past body here rest =
    let end = op (kind.EndBody labels past) here rest in
    body.emit [] (inside end here) end

-- a `finally` with its beginning, and where the block in front of it stands
abbrev pub last_size : Option (List CodedStatement) → ℕ
last_size None = 0
last_size (Some body) = suc (in_turn_size body + 1)

abbrev pub finally : Option (List CodedStatement) → Emits
finally None here rest = rest
finally (Some body) here rest = op kind.Finally here (step.in_turn body (step.waiting here) (op kind.Resume (step.waiting here) rest))

-- a `catch` with its beginning, and what leads past it
abbrev pub caught_size : Option (List ℕ × List CodedStatement) → ℕ
caught_size None = 0
caught_size (Some caught) = suc (suc (suc (in_turn_size caught.1 + 1)))

abbrev pub catching : List ℕ → List CodedStatement → Emits
catching name handler here rest =
    op kind.EndBlock here (op (kind.Enter name) (deeper 1 here) (step.in_turn handler (step.in_catch name here) (op kind.Leave (step.in_catch name here) rest)))

abbrev pub catch : Option (List ℕ × List CodedStatement) → Emits
catch None here rest = rest
catch (Some caught) here rest = op (kind.Jump (address rest)) here (catching caught.0 caught.1 here rest)

-- where the block in front stands
abbrev pub before_last : Option (List CodedStatement) → emit.Here → List Op → emit.Here
before_last None here rest = here
before_last (Some body) here rest = inside (finally (Some body) here rest) here

abbrev pub before_catch : Option (List ℕ × List CodedStatement) → emit.Here → List Op → emit.Here
before_catch None here rest = here
before_catch (Some caught) here rest = inside (catching caught.0 caught.1 here rest) here

-- inside the part in front of this one; none where nothing more is written
abbrev pub InFront : {A : Type 0} → (A → emit.Here → List Op → emit.Here) → Part Placed A → Of_part → Here → Progress → Progress → Option Here → Type 0
InFront before code uses here old new None = IsGoing new → ⊥
InFront before code uses here old new (Some inner) =
    (at : emit.Here) (first start n : ℕ) (ops : List Op) (front : List Place) → Stands here at
    → Holds old (draft ops n (front ++ (uses.means start).places at.names) (first + code.size))
    → Stands inner (before (code.means first) at ops)
