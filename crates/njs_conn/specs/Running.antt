-- What the values and answers of the code stand for.
use Rattle.njs_conn.specs.declared.values.Value.{Value}
use Rattle.njs_conn.specs.declared.values.Value.TheVariants as values
use Rattle.njs_conn.specs.declared.values.Answer.{Answer}
use Rattle.http_out.specs.declared.reply.Reply.{Reply}
use Rattle.njs_conn.specs.Meaning as meaning
use Rattle.njs_conn.specs.Meaning.{plain_text}

abbrev pub seen_value : Value → meaning.Value
seen_value values.Undefined = meaning.Undefined
seen_value (values.Number n) = meaning.Number n
seen_value (values.String text) = meaning.String text.now
seen_value (values.Function f) = meaning.Function f.now
seen_value values.Request = meaning.TheRequest
seen_value values.ReturnMethod = meaning.ReturnMethod

abbrev pub seen_reply : Answer → Reply
seen_reply answer = plain_text answer.status answer.body.now
