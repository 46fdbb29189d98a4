-- A statement and the head of a `for` are read by how they begin.
use Rattle.std.proofs.Common.{◌≡◌, ℕ, Bool, refl}
use Rattle.njs_tree.specs.declared.token.Keyword.TheVariants as keyword
use Rattle.njs_tree.specs.declared.token.Mark.TheVariants as mark
use Rattle.njs_expr.specs.declared.terminal.Terminal.{Terminal}
use Rattle.njs_expr.specs.declared.terminal.Terminal.TheVariants as terminal
use Rattle.njs_expr.specs.Readers.{Reader, Symbols, Grown, Stood}
use Rattle.njs_expr.specs.Statements.{statement_by, for_first}
use Rattle.njs_expr.specs.Leads.{lead_of, lead_by, head_by}

pub by_lead : (expr : Bool → ℕ → ℕ → Reader Grown) (stmt : Bool → ℕ → Reader Stood) (declares : Bool) (room line : ℕ) (k second : Terminal) (i : Symbols)
    → statement_by expr stmt declares room line k second i ≡ lead_by expr stmt declares room line (lead_of k) second i
by_lead expr stmt declares room line (terminal.Mark mark.Semicolon) second i = refl
by_lead expr stmt declares room line (terminal.Mark mark.LeftBrace) second i = refl
by_lead expr stmt declares room line (terminal.Reserved keyword.Function) second i = refl
by_lead expr stmt declares room line terminal.Name second i = refl
by_lead expr stmt declares room line (terminal.Reserved keyword.Var) second i = refl
by_lead expr stmt declares room line (terminal.Reserved keyword.If) second i = refl
by_lead expr stmt declares room line (terminal.Reserved keyword.Do) second i = refl
by_lead expr stmt declares room line (terminal.Reserved keyword.While) second i = refl
by_lead expr stmt declares room line (terminal.Reserved keyword.For) second i = refl
by_lead expr stmt declares room line (terminal.Reserved keyword.Continue) second i = refl
by_lead expr stmt declares room line (terminal.Reserved keyword.Break) second i = refl
by_lead expr stmt declares room line (terminal.Reserved keyword.Return) second i = refl
by_lead expr stmt declares room line (terminal.Reserved keyword.Throw) second i = refl
by_lead expr stmt declares room line (terminal.Reserved keyword.Switch) second i = refl
by_lead expr stmt declares room line (terminal.Reserved keyword.Try) second i = refl
by_lead expr stmt declares room line _ second i = refl

pub by_head : (expr : Bool → ℕ → ℕ → Reader Grown) (stmt : Bool → ℕ → Reader Stood) (room line : ℕ) (k : Terminal) (i : Symbols)
    → for_first expr stmt room line k i ≡ head_by expr stmt room line (lead_of k) i
by_head expr stmt room line (terminal.Mark mark.Semicolon) i = refl
by_head expr stmt room line (terminal.Reserved keyword.Var) i = refl
by_head expr stmt room line _ i = refl
