-- Parts that may be missing, and parts that are the same.
use Rattle.std.proofs.Common.{◌≡◌, ℕ, ◌+◌, List, [], ◌++◌, Option, sym, subst, arith}
use Rattle.njs_code.specs.declared.op.Op.{Op}
use Rattle.njs_meaning.specs.declared.place.Place.{Place}
use Rattle.njs_meaning.specs.Parts.{Part, one}
use Rattle.njs_simul.specs.EmissionOfStatements as step
use Rattle.njs_simul.specs.EmissionOfStatements.{CodedPart}
use Rattle.njs_simul.specs.Compiled.{Placed, Of_expression, Of_statement}
use Rattle.njs_scope.specs.Uses.{Of_part}
use Rattle.njs_gen_expr.specs.declared.here.Here.{Here}
use Rattle.njs_gen_expr.specs.Written.{Progress, draft, Holds}
use Rattle.njs_gen_expr.specs.Parts.{Wrote}
use Rattle.njs_gen_expr.proofs.Drafts.{recount, bare}
use Rattle.njs_gen_stmt.specs.Statements.{WrotePart, WroteLabelled}

pub nothing_written : (w : Progress) (ops : List Op) (n : ℕ) (front : List Place) (first : ℕ) → Holds w (draft ops n (front ++ []) (first + 0)) → Holds w (draft ops (0 + n) front first)
nothing_written w ops n front first h = recount w ops n (0 + n) front first (omega arith) (bare w ops n front first h)

pub as_first : (P P' : Part Placed (Option CodedPart)) (U U' : Of_part) (here : Here) (w0 w1 : Progress) → P ≡ P' → U ≡ U' → WrotePart (one P' step.first_of) U' here w0 w1 → WrotePart (one P step.first_of) U here w0 w1
as_first P P' U U' here w0 w1 p u t = subst (λ x. WrotePart (one x step.first_of) U here w0 w1) (sym p) (subst (λ x. WrotePart (one P' step.first_of) x here w0 w1) (sym u) t)

pub as_next : (P P' : Of_expression) (U U' : Of_part) (here : Here) (w0 w1 : Progress) → P ≡ P' → U ≡ U' → Wrote (λ c. c.size + 3) step.next_name P' U' here w0 w1 → Wrote (λ c. c.size + 3) step.next_name P U here w0 w1
as_next P P' U U' here w0 w1 p u t = subst (λ x. Wrote (λ c. c.size + 3) step.next_name x U here w0 w1) (sym p) (subst (λ x. Wrote (λ c. c.size + 3) step.next_name P' x here w0 w1) (sym u) t)

pub as_labelled : (P P' : Of_statement) (U U' : Of_part) (ls : List (List ℕ)) (here : Here) (w0 w1 : Progress) → P ≡ P' → U ≡ U' → WroteLabelled ls P' U' here w0 w1 → WroteLabelled ls P U here w0 w1
as_labelled P P' U U' ls here w0 w1 p u t = subst (λ x. WroteLabelled ls x U here w0 w1) (sym p) (subst (λ x. WroteLabelled ls P' x here w0 w1) (sym u) t)
