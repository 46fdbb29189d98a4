-- What reading a configuration answers.
use Rattle.std.specs.Prelude.{ℕ, ◌+◌, ◌≡◌, ◌≤◌, ◌<◌, ◌==◌, ◌⊎◌, List, length, take, count_by, true, false, Some, None, Result, Ok, Err}
use Rattle.std.specs.Str.{IsUtf8, chars}
use Rattle.std.specs.Str.Lossy.{utf8_valid_len}
use Rattle.conf_read.specs.declared.conf.Conf.{Conf}
use Rattle.conf_read.specs.declared.fault.ConfFault.{ConfFault}
use Rattle.conf_read.specs.declared.fault.ConfFault.TheVariants.{TooLong, Syntax, Unknown, Place, Count, Value, Duplicate, Missing, NoMemory}
use Rattle.conf_read.specs.Characters.{last_line}
use Rattle.conf_read.specs.Tree.{Tree, Token, Ending, Lexes, ConfSpells, CanBegin, Misfit}
use Rattle.conf_read.specs.Rules.{directives}
use Rattle.conf_read.specs.Meaning.{conf_first, conf_of, lacks}

-- the line of the first byte that isn't UTF-8
abbrev pub bad_line : List ℕ → ℕ
bad_line bytes = count_by (λ b. b == 10) (take (utf8_valid_len bytes) bytes) + 1

-- The line where a text leaves the form: that of the first token that doesn't fit, or the last one where the text ends too early.
abbrev pub LeavesAt : List ℕ → ℕ → Type 0
LeavesAt text line = (tokens : List Token) × (e : Ending) × Lexes 1 text tokens e × (Misfit tokens line ⊎ (CanBegin tokens × (line ≡ last_line text)))

-- no tree spells these bytes, and this is the line
abbrev pub HasNoTree : List ℕ → Type 0
HasNoTree bytes = (tree : Tree) → ConfSpells tree bytes → ⊥

abbrev pub IsSyntax : List ℕ → ℕ → Type 0
IsSyntax bytes line = HasNoTree bytes × (((IsUtf8 bytes → ⊥) × (line ≡ bad_line bytes)) ⊎ (IsUtf8 bytes × LeavesAt (chars bytes) line))

-- the tree that spells these bytes breaks a rule, this one first
abbrev pub IsRefused : List ℕ → ConfFault → Type 0
IsRefused bytes f = (tree : Tree) × ConfSpells tree bytes × (conf_first tree ≡ Some f)

-- A configuration where the tree that spells the bytes breaks no rule and lacks nothing; else the first refusal: too long, not the text of a tree, the first rule that fails, something that is missing.
abbrev pub ReadAs : List ℕ → Result Conf ConfFault → Type 0
ReadAs bytes (Ok conf) = (length bytes ≤ 1048576) × ((tree : Tree) × ConfSpells tree bytes × (conf_first tree ≡ None) × (lacks (directives tree) ≡ false) × (conf ≡ conf_of (directives tree)))
ReadAs bytes (Err TooLong) = 1048576 < length bytes
ReadAs bytes (Err (Syntax line)) = (length bytes ≤ 1048576) × IsSyntax bytes line
ReadAs bytes (Err (Unknown line)) = (length bytes ≤ 1048576) × IsRefused bytes (Unknown line)
ReadAs bytes (Err (Place line)) = (length bytes ≤ 1048576) × IsRefused bytes (Place line)
ReadAs bytes (Err (Count line)) = (length bytes ≤ 1048576) × IsRefused bytes (Count line)
ReadAs bytes (Err (Value line)) = (length bytes ≤ 1048576) × IsRefused bytes (Value line)
ReadAs bytes (Err (Duplicate line)) = (length bytes ≤ 1048576) × IsRefused bytes (Duplicate line)
ReadAs bytes (Err Missing) = (length bytes ≤ 1048576) × ((tree : Tree) × ConfSpells tree bytes × (conf_first tree ≡ None) × (lacks (directives tree) ≡ true))
ReadAs bytes (Err NoMemory) = Unit {0}
