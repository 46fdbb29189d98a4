-- Scripts that are accepted.
use Rattle.std.specs.Prelude.{◌≡◌, ℕ, ◌≤◌, List, [], length}
use Rattle.njs_tree.specs.declared.tree.Script.{Script}
use Rattle.njs_tree.specs.Grammar.{IsParsed}
use Rattle.njs_tree.specs.Early.{early}

-- how many characters a text may have
abbrev pub max_text : ℕ
max_text = 1048576

-- some text spells the script
abbrev pub IsSpelled : Script → Type 0
IsSpelled script = (text : List ℕ) × (length text ≤ max_text) × IsParsed script text

-- some text spells it, and nothing in it is refused early (ECMA-262 5.1 §16)
abbrev pub IsAccepted : Script → Type 0
IsAccepted script = IsSpelled script × (early script ≡ [])
