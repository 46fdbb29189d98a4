use Rattle.std.proofs.Common.{subst, ◌∙◌, append_assoc}
use Rattle.std.proofs.lemmas.Result.{on_ok_weaker}
use Rattle.http_out.specs.Message.{ended}
use Rattle.http_out.specs.Response.{status_line}
use Rattle.http_out.proofs.Whole.{IsLine-status_line}
use Rattle.http_header.specs.FieldValue.{IsVisibleAscii}
use Rattle.http_out.proofs.lines.put_status_line.Goals as goal

pub returns-clause-bytes : goal.returns-clause-bytes
unfolding ended status_line
returns-clause-bytes c =
    on_ok_weaker c.put_line_end.result (λ e. e ∙
    rw (c.in_ok-extend_from_slice-4.ensures.items, c.in_ok-extend_from_slice-3.ensures.items, c.in_ok-extend_from_slice-2.ensures.items, c.in_ok-extend_from_slice.ensures.items, c.as_bytes.ensures.value, c.as_bytes-2.ensures.value, c.status_texts.ensures.digits, c.status_texts.ensures.phrase) (simp append_assoc)) c.put_line_end.ensures

pub returns-clause-line : goal.returns-clause-line
returns-clause-line c =
    on_ok_weaker c.put_line_end.result (λ _. IsLine-status_line c.args.status (subst IsVisibleAscii c.status_texts.ensures.phrase c.status_texts.ensures.visible)) c.put_line_end.ensures
