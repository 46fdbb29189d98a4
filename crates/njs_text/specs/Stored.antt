-- The bytes that a stored text has, wherever they are kept.
use Rattle.std.specs.Prelude.{ℕ, List}
use Rattle.std.specs.String.{string_bytes}
use Rattle.njs_text.specs.declared.stored.Stored.{Stored}
use Rattle.njs_text.specs.declared.stored.Stored.TheVariants.{Short, Owned}

abbrev pub stored_bytes : Stored → List ℕ
stored_bytes (Short text) = text.bytes
stored_bytes (Owned string) = string_bytes string
