use Rattle.std.proofs.Common.{◌≡◌, drop, bytes_eq}
use Rattle.std.specs.List.{find}
use Rattle.std.specs.Str.{chars}
use Rattle.njs_tree.specs.Lexemes.{keyword_text}
use Rattle.njs_tree.proofs.keywords.first_of.Given as goal

-- the rest of the words decides
abbrev pub invariant-loop-keyword : goal.invariant-loop-keyword
invariant-loop-keyword l =
    find (λ k. bytes_eq (chars l.word) (keyword_text k)) l.keywords ≡ find (λ k. bytes_eq (chars l.word) (keyword_text k)) (drop l.keyword-index l.keywords)
