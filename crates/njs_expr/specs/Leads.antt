-- How a statement begins.
use Rattle.std.specs.Prelude.{ℕ, Bool, None}
use Rattle.njs_tree.specs.declared.token.Keyword.TheVariants as keyword
use Rattle.njs_tree.specs.declared.token.Mark.TheVariants as mark
use Rattle.njs_tree.specs.declared.tree.StmtNode.TheVariants as step
use Rattle.njs_expr.specs.declared.terminal.Terminal.{Terminal}
use Rattle.njs_expr.specs.declared.terminal.Terminal.TheVariants as terminal
use Rattle.njs_expr.specs.declared.leads.Lead.{Lead}
use Rattle.njs_expr.specs.declared.leads.Lead.TheVariants as lead
use Rattle.njs_expr.specs.declared.leads.Jump.{Jump}
use Rattle.njs_expr.specs.declared.leads.Jump.TheVariants as jump
use Rattle.njs_expr.specs.declared.leads.Loop.{Loop}
use Rattle.njs_expr.specs.declared.leads.Loop.TheVariants as loop
use Rattle.njs_expr.specs.Readers.{Reader, ◌>>=◌, ◌>>◌, take_symbol, Grown, Stood, stood}
use Rattle.njs_expr.specs.Statements.{continue_by, break_by, return_by, throw_by, var_by, expr_by, block_by, try_by, if_by, do_by, while_by, for_by, switch_by, name_by, function_by, for_rest, for_var, for_expr}

abbrev pub lead_of : Terminal → Lead
lead_of (terminal.Mark mark.Semicolon) = lead.Empty
lead_of (terminal.Mark mark.LeftBrace) = lead.Block
lead_of (terminal.Reserved keyword.Function) = lead.Function
lead_of terminal.Name = lead.Name
lead_of (terminal.Reserved keyword.Var) = lead.Var
lead_of (terminal.Reserved keyword.If) = lead.If
lead_of (terminal.Reserved keyword.Do) = lead.Loop loop.Do
lead_of (terminal.Reserved keyword.While) = lead.Loop loop.While
lead_of (terminal.Reserved keyword.For) = lead.Loop loop.For
lead_of (terminal.Reserved keyword.Continue) = lead.Jump jump.Continue
lead_of (terminal.Reserved keyword.Break) = lead.Jump jump.Break
lead_of (terminal.Reserved keyword.Return) = lead.Jump jump.Return
lead_of (terminal.Reserved keyword.Throw) = lead.Jump jump.Throw
lead_of (terminal.Reserved keyword.Switch) = lead.Switch
lead_of (terminal.Reserved keyword.Try) = lead.Try
lead_of _ = lead.Expression

module _ (expr : Bool → ℕ → ℕ → Reader Grown) where
  abbrev pub jump_by : ℕ → ℕ → Jump → Reader Stood
  jump_by room line jump.Continue = continue_by room line
  jump_by room line jump.Break = break_by room line
  jump_by room line jump.Return = return_by expr room line
  jump_by room line jump.Throw = throw_by expr room line

module _ (expr : Bool → ℕ → ℕ → Reader Grown) (stmt : Bool → ℕ → Reader Stood) where
  abbrev pub loop_by : ℕ → ℕ → Loop → Reader Stood
  loop_by room line loop.Do = do_by expr stmt room line
  loop_by room line loop.While = while_by expr stmt room line
  loop_by room line loop.For = for_by expr stmt room line

  abbrev pub lead_by : Bool → ℕ → ℕ → Lead → Terminal → Reader Stood
  lead_by declares room line lead.Empty second = take_symbol >> stood room line step.Empty 0
  lead_by declares room line lead.Block second = block_by stmt room line
  lead_by declares room line lead.Function second = function_by expr stmt declares room line
  lead_by declares room line lead.Name second = name_by expr stmt room line second
  lead_by declares room line lead.Var second = take_symbol >> var_by expr room line
  lead_by declares room line lead.If second = take_symbol >> if_by expr stmt room line
  lead_by declares room line lead.Switch second = take_symbol >> switch_by expr stmt room line
  lead_by declares room line lead.Try second = take_symbol >> try_by stmt room line
  lead_by declares room line (lead.Loop word) second = take_symbol >> loop_by room line word
  lead_by declares room line (lead.Jump word) second = take_symbol >> jump_by expr room line word
  lead_by declares room line lead.Expression second = expr_by expr room line

  -- the head of a `for`, by how it begins
  abbrev pub head_by : ℕ → ℕ → Lead → Reader Stood
  head_by room line lead.Empty = for_rest expr stmt room line None 0
  head_by room line lead.Var = take_symbol >> for_var expr stmt room line
  head_by room line _ = for_expr expr stmt room line
