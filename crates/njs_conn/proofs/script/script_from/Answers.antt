use Rattle.std.proofs.Common.{◌<◌, ℕ, List, length, Err, ap, arith}
use Rattle.std.proofs.lemmas.Str.{length-le-encodes}
use Rattle.njs_text.specs.Text.{IsEncoded, TextFrom}
use Rattle.njs_text.specs.declared.text.TextFault.TheVariants.{TooLong}
use Rattle.njs_stmt.specs.Cut.{IsTooLong}
use Rattle.njs_conn.proofs.script.script_from.Goals as goal

-- a text that is too long has too many bytes
too_many : (bytes : List ℕ) → TextFrom bytes (Err TooLong) → (text : List ℕ) × IsEncoded text bytes × IsTooLong text
too_many bytes (text, encoded, long) = (text, encoded, omega (arith, length-le-encodes text))

pub returns-in-Err-TooLong : goal.returns-in-Err-TooLong
returns-in-Err-TooLong c = too_many c.args.bytes.now (rw c.in-Err-TooLong.field-0-is at c.in-Err-TooLong.ensures)
