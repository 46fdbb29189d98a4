use Rattle.std.proofs.Common.{◌≡◌, Some, None, sym, ap, ◌∙◌}
use Rattle.njs_tree.specs.Brackets.{too_deep}
use Rattle.njs_stmt.proofs.Reading.{fault_cut}
use Rattle.njs_stmt.proofs.Symbols.{none_faulty, shallow}
use Rattle.njs_stmt.proofs.parser.parse_cut.Goals as goal

pub returns-in-Some-fault : goal.returns-in-Some-fault
returns-in-Some-fault c =
    let tokens = c.args.cut.now.tokens.items in
    let faulty = fault_cut c.args.text.now tokens c.args.cut.now.fault c.in-Some-fault.line c.requires.tokens c.in-Some-fault.is in
    let none : too_deep 0 tokens ≡ None = ap (too_deep 0) (sym c.deref.ensures.value) ∙ sym c.in_default.ensures in
    (c.requires.short, shallow c.args.text.now tokens (Some faulty.0) faulty.1 none, none_faulty c.args.text.now tokens faulty.0 faulty.1, faulty.2)
