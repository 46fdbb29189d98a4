use Rattle.std.proofs.Common.{◌≡◌, [], subst, sym, ap, ◌∙◌}
use Rattle.std.specs.Prelude.{IfOk}
use Rattle.std.proofs.lemmas.Option.{get_or_from_slice_get}
use Rattle.njs_meaning.specs.Errors.{named_message}
use Rattle.njs_convert.specs.Tells.{text_at}
use Rattle.njs_convert.proofs.Messages.{unnamed, named}
use Rattle.njs_convert.proofs.errors.message_of.Goals as goal

pub returns-in-Some : goal.returns-in-Some
returns-in-Some c =
    let texts = c.args.machine.now.texts in
    let read = get_or_from_slice_get texts c.in-Some.name.0 c.text.result.now [] c.text.ensures in
    subst (λ t. IfOk c.named_message.result (λ text. text ≡ t))
    (ap named_message (sym read) ∙ named (text_at texts) c.args.cause c.in-Some.name (sym c.name_of.ensures ∙ c.in-Some.is)) c.named_message.ensures

pub returns-in-None : goal.returns-in-None
returns-in-None c = c.plain_message.ensures ∙ unnamed (text_at c.args.machine.now.texts) c.args.cause (sym c.name_of.ensures ∙ c.in-None.is)
