use Rattle.std.proofs.Common.{◌++◌, ◌∙◌, sym, ap, append-nil, append_assoc, take_all, map, List, ℕ, take}
use Rattle.http_out.specs.Message.{ended, ended_lines}
use Rattle.http_out.specs.Response.{further_line}
use Rattle.http_out.proofs.Ended.{ended_lines-none, further-more}
use Rattle.http_out.proofs.lines.put_further.Goals as goal

pub loop-name-init : goal.loop-name-init
loop-name-init c = rw ended_lines-none (sym (append-nil _))

pub loop-name-preserved : goal.loop-name-preserved
unfolding further_line
loop-name-preserved c =
    let more = further-more c.args.fields.now c.loop-name.name-index c.loop-name-item.result c.loop-name-test.true in
    let line = ap (λ (f : List ℕ × List ℕ). ended (further_line f)) c.loop-name-item.is in
    c.in_ok-put_field.ensures ∙ rw (c.as_str.ensures, c.as_str-in-loop-name.ensures, c.loop-name.invariant, more)
    (append_assoc c.args.bytes.now.items _ _ ∙ ap (λ (t : List ℕ). c.args.bytes.now.items ++ (ended_lines (map further_line (take c.loop-name.name-index c.args.fields.now)) ++ t)) line)

pub returns : goal.returns
returns c =
    c.loop-name.invariant ∙
    ap (λ (fields : List (List ℕ × List ℕ)). c.args.bytes.now.items ++ ended_lines (map further_line fields)) (take_all c.loop-name.name-index c.args.fields.now c.loop-name-test.false)
