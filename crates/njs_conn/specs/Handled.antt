-- What the handlers of a script answer.
use Rattle.std.specs.Prelude.{ℕ, ◌≡◌, ◌≢◌, List, Option, Some, None}
use Rattle.njs_tree.specs.declared.tree.Script.{Script}
use Rattle.njs_tree.specs.declared.tree.Item.{Item}
use Rattle.http_out.specs.declared.reply.Reply.{Reply}
use Rattle.njs_conn.specs.Meaning.{◌>>=◌, plain_text, handler_of, answer_of}

-- what the handler of a name answers: nothing where it is missing, or where it reaches a node that has no meaning yet
abbrev pub handles : List Item → List ℕ → Option Reply
handles script name = handler_of script name >>= λ f. answer_of script f

-- the handler of the one name answers the status 200 and a string, and no other name has a handler
pub record Answers (script : Script) : Type 0 where
  pub name : List ℕ
  pub answer : List ℕ
  pub own : handles script.items name ≡ Some (plain_text 200 answer)
  pub other : (n : List ℕ) → (name ≢ n) → handler_of script.items n ≡ None
