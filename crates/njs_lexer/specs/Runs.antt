-- The tests of runs.
use Rattle.std.specs.Prelude.{ℕ, Bool, not}
use Rattle.njs_tree.specs.Characters.{is_line_end, is_part}
use Rattle.njs_tree.specs.Lexical.{is_decimal, is_hex}
use Rattle.njs_lexer.specs.declared.rest.Run.{Run}
use Rattle.njs_lexer.specs.declared.rest.Run.TheVariants as run

abbrev pub test_of : Run → ℕ → Bool
test_of run.Part = is_part
test_of run.Decimal = is_decimal
test_of run.Hex = is_hex
test_of run.InLine = λ c. not (is_line_end c)
