use Rattle.std.proofs.Common.{rules, ◌==◌}
use Rattle.std.specs.Str.{str_eq_ignore_ascii_case}
use Rattle.std.proofs.lemmas.Iterator.Splits.{YieldsList-from_slice_split}
use Rattle.std.proofs.lemmas.Iterator.Search.{any_from_yields_List}
use borrow.Author.Tests.{tests}
use Rattle.httparse.specs.Grammar.{trim_ows}
use Rattle.http_in.specs.Fields.{names_word}
use Rattle.http_in.proofs.fields.names_word.Goals as goal

pub returns : goal.returns
unfolding names_word
returns c =
    any_from_yields_List (λ part. str_eq_ignore_ascii_case (trim_ows part) c.args.word.now) _ _ _ c.any.ensures.ran
    (YieldsList-from_slice_split _ (λ b. b == 44) c.args.list.now c.split.ensures.rest c.split.ensures.done c.split.ensures.closure (λ x b q k. search (rules, tests)))
    (λ x b q k. search (rules, tests))
