-- When a script's bytes are accepted, and why they are refused.
use Rattle.std.specs.Prelude.{◌≡◌, ℕ, List, [], Some, Result, Ok, Err}
use Rattle.std.specs.Str.{IsUtf8}
use Rattle.std.specs.Str.Lossy.{utf8_valid_len}
use Rattle.njs_text.specs.Text.{IsEncoded}
use Rattle.njs_tree.specs.declared.tree.Script.{Script}
use Rattle.njs_tree.specs.Early.{early, first_early}
use Rattle.njs_stmt.specs.declared.fault.ScriptFault.{ScriptFault}
use Rattle.njs_stmt.specs.declared.fault.ScriptFault.TheVariants as fault
use Rattle.njs_stmt.specs.Script.{Parses}
use Rattle.njs_conn.specs.FirstForm.{form_of}
use Rattle.njs_conn.specs.declared.script.ScriptWhy.{ScriptWhy}
use Rattle.njs_conn.specs.declared.script.ScriptWhy.TheVariants as whys
use Rattle.njs_conn.specs.declared.script.ScriptStop.{ScriptStop}
use Rattle.njs_conn.specs.declared.script.ScriptStop.TheVariants as stops

-- nothing in the script is refused early (ECMA-262 5.1 §16), and it is of the form that runs
abbrev pub IsFit : Script → Type 0
IsFit script = (early script ≡ []) × (form_of script.items ≡ Ok tt)

-- the script is refused for this cause
abbrev pub RefusesTree : Script → ScriptWhy → Type 0
RefusesTree script (whys.Early kind line) = first_early (early script) ≡ Some (record { kind = kind; line = line })
RefusesTree script (whys.NotBuilt line) = (early script ≡ []) × (form_of script.items ≡ Err line)
RefusesTree script _ = ⊥

-- the text is refused for this cause
abbrev pub RefusesText : List ℕ → ScriptWhy → Type 0
RefusesText text (whys.NotUtf8 place) = ⊥
RefusesText text whys.TooLong = Parses text (Err fault.TooLong)
RefusesText text (whys.TooDeep line) = Parses text (Err (fault.TooDeep line))
RefusesText text (whys.Syntax line) = Parses text (Err (fault.Syntax line))
RefusesText text (whys.Early kind line) = (script : Script) × Parses text (Ok script) × RefusesTree script (whys.Early kind line)
RefusesText text (whys.NotBuilt line) = (script : Script) × Parses text (Ok script) × RefusesTree script (whys.NotBuilt line)

-- the text is a script of this tree (ECMA-262 5.1 §14)
abbrev pub AcceptsText : List ℕ → Script → Type 0
AcceptsText text script = Parses text (Ok script) × IsFit script

-- the bytes are a script of this tree
abbrev pub Accepts : List ℕ → Script → Type 0
Accepts bytes script = (text : List ℕ) × IsEncoded text bytes × AcceptsText text script

-- the bytes are refused for this cause
abbrev pub Refuses : List ℕ → ScriptWhy → Type 0
Refuses bytes (whys.NotUtf8 place) = (IsUtf8 bytes → ⊥) × (place ≡ utf8_valid_len bytes)
Refuses bytes why = (text : List ℕ) × IsEncoded text bytes × RefusesText text why

-- what may be answered for a script's bytes
abbrev pub ScriptFrom : List ℕ → Result Script ScriptStop → Type 0
ScriptFrom bytes (Ok script) = Accepts bytes script
ScriptFrom bytes (Err (stops.Refused why)) = Refuses bytes why
ScriptFrom bytes (Err stops.NoMemory) = Unit {0}

-- for its text
abbrev pub TextFrom : List ℕ → Result Script ScriptStop → Type 0
TextFrom text (Ok script) = AcceptsText text script
TextFrom text (Err (stops.Refused why)) = RefusesText text why
TextFrom text (Err stops.NoMemory) = Unit {0}

-- and for a script that the text spells
abbrev pub TreeFrom : Script → Result Script ScriptStop → Type 0
TreeFrom script (Ok checked) = (checked ≡ script) × IsFit script
TreeFrom script (Err (stops.Refused why)) = RefusesTree script why
TreeFrom script (Err stops.NoMemory) = ⊥

-- the cause of a fault of reading
abbrev pub stop_of : ScriptFault → ScriptStop
stop_of fault.TooLong = stops.Refused whys.TooLong
stop_of (fault.TooDeep line) = stops.Refused (whys.TooDeep line)
stop_of (fault.Syntax line) = stops.Refused (whys.Syntax line)
stop_of fault.NoMemory = stops.NoMemory
