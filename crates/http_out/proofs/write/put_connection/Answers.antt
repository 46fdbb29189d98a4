use Rattle.http_out.specs.Response.{connection_line}
use Rattle.http_out.proofs.write.put_connection.Goals as goal

pub returns : goal.returns
unfolding connection_line
returns c = rw (← c.connection_option.ensures) c.put_field.ensures
