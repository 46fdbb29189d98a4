-- What holds of all configurations.
use Rattle.std.specs.Prelude.{ℕ, ◌≡◌, List}
use Rattle.conf_read.specs.Tree.{Tree, ConfSpells}

-- bytes are spelled by one tree at most
abbrev pub OneTree : Type 0
OneTree = (bytes : List ℕ) (a b : Tree) → ConfSpells a bytes → ConfSpells b bytes → a ≡ b
