-- A run whose last line finds no memory, and what its notes keep.
use Rattle.std.proofs.Common.{◌≡◌, ◌⊎◌, inl, inr, ◌≤◌, ◌+◌, ◌∙◌, ℕ, List, [], ◌∷◌, Option, Bool, true, false, sym, subst}
use Rattle.std.proofs.lemmas.List.{append-nil}
use Rattle.std.specs.Io.KnownBytes.{Keeps}
use Rattle.njs_edge.specs.Causes.{Rose}
use Rattle.njs_edge.specs.Known.{appends_behind, rose_behind}
use Rattle.njs_conn.specs.declared.connection.ConnEnd.{ConnEnd}
use Rattle.njs_conn.specs.declared.connection.ConnEnd.TheVariants as ends
use Rattle.njs_conn.specs.Writer.{IsFront}
use Rattle.http_in.specs.declared.request.Request.{Request}
use Rattle.http_in.specs.Requests as requests
use Rattle.http_in.specs.Requests.{GoesOn, Ending, Requests}
use Rattle.njs_conn.specs.Answers.{Answer, BeginsWith, IsReadAs, EndsAs}
use Rattle.njsd.specs.declared.run.Status.{Status}
use Rattle.njsd.specs.declared.run.Status.TheVariants as status
use Rattle.njsd.specs.Notes.{Notes}
use Rattle.njsd.specs.Runs.{AsksFor, Outside, RunAs, Called}

all_front : (grew bytes : List ℕ) → grew ≡ bytes → IsFront grew bytes
all_front grew bytes e = record { rest = []; joined = append-nil grew ∙ e }

ends_out : (end : ConnEnd) (answer : Answer) (grew : List ℕ) (left : Option (List ℕ)) → EndsAs end answer grew left → EndsAs ends.NoMemory answer grew left
ends_out ends.Finished answer grew left h = all_front grew answer.bytes h.0
ends_out ends.Cut answer grew left h = all_front grew answer.bytes h.0
ends_out ends.ReadFault answer grew left h = all_front grew answer.bytes h.0
ends_out ends.WriteFault answer grew left h = h
ends_out ends.NoMemory answer grew left h = h

-- requests that are all of some bytes stand first in them
goes_on : (P Q : Type 0) (keep : Bool) (others : List Request) (end : Ending) → (P → Q) → GoesOn keep others end P → GoesOn keep others end Q
goes_on P Q true others end f h = f h
goes_on P Q false others end f h = h

begins : (number : ℕ) (bytes : List ℕ) (all : List Request) (end : Ending) → Requests number bytes all end → BeginsWith number bytes all end
begins number bytes [] requests.Closed h = tt
begins number bytes [] requests.End h = tt
begins number bytes [] requests.Cut h = tt
begins number bytes [] (requests.Bad status) h = h
begins number bytes (request ∷ others) end (rest, stands, goes) =
    (rest, stands, goes_on (Requests (number + 1) rest others end) (BeginsWith (number + 1) rest others end) request.keep others end (begins (number + 1) rest others end) goes)

read_out : (result : ConnEnd) (taken : List ℕ) (all : List Request) (end : Ending) → IsReadAs result 0 taken all end → IsReadAs ends.NoMemory 0 taken all end
read_out ends.Finished taken all end h = begins 0 taken all end h
read_out ends.Cut taken all end h = begins 0 taken all end h
read_out ends.ReadFault taken all end h = begins 0 taken all end h
read_out ends.WriteFault taken all end h = h
read_out ends.NoMemory taken all end h = h

called_out : (words : List (List ℕ)) (o : Outside) (end : ConnEnd) → Called words o end → Called words o ends.NoMemory
called_out words o end c = record {
  site = c.site;
  builds = c.builds;
  serves = record {
    taken = c.serves.taken;
    grew = c.serves.grew;
    all = c.serves.all;
    end = c.serves.end;
    read = c.serves.read;
    wrote = c.serves.wrote;
    read_as = read_out end c.serves.taken c.serves.all c.serves.end c.serves.read_as;
    ends = ends_out end _ c.serves.grew o.left' c.serves.ends;
  };
}

runs_out : (words : List (List ℕ)) (o : Outside) (s : Status) → RunAs words o s → RunAs words o status.NoMemory
runs_out words o status.Finished h = inr (called_out words o ends.Finished h)
runs_out words o status.Usage h = inl (record { why = tt; untouched = h.untouched })
runs_out words o (status.ScriptRefused file why) h = inl (record { why = tt; untouched = h.untouched })
runs_out words o (status.FileFault file) h = inl (record { why = tt; untouched = h.untouched })
runs_out words o status.Cut h = inr (called_out words o ends.Cut h)
runs_out words o status.ReadFault h = inr (called_out words o ends.ReadFault h)
runs_out words o status.WriteFault h = inr (called_out words o ends.WriteFault h)
runs_out words o status.NoMemory h = h

-- the status that is answered is the one of the run, or that memory ran out
pub noted_runs : (words : List (List ℕ)) (o : Outside) (s r : Status) → RunAs words o s → (r ≡ s) ⊎ (r ≡ status.NoMemory) → RunAs words o r
noted_runs words o s r h (inl e) = subst (λ x. RunAs words o x) (sym e) h
noted_runs words o s r h (inr e) = subst (λ x. RunAs words o x) (sym e) (runs_out words o s h)

whole_behind : (line grew : List ℕ) (x y z : ℕ) → x ≤ y → (grew ≡ line) ⊎ Rose y z → (grew ≡ line) ⊎ Rose x z
whole_behind line grew x y z le (inl e) = inl e
whole_behind line grew x y z le (inr rose) = inr (rose_behind x y z le rose)

-- notes that were kept until the line
pub notes_behind : (a b c : Option (List ℕ)) (x y z : ℕ) (line : List ℕ) → Keeps a b → x ≤ y → Notes b c y z line → Notes a c x z line
notes_behind a b c x y z line kept le n = record {
  grew = n.grew;
  noted = appends_behind a b c n.grew kept n.noted;
  front = n.front;
  whole = whole_behind line n.grew x y z le n.whole;
}

-- the names that were asked, where the last line finds no memory
pub noted_asks : (words : List (List ℕ)) (old new : Option (List (List ℕ))) (s r : Status) → AsksFor words old new s → (r ≡ s) ⊎ (r ≡ status.NoMemory) → AsksFor words old new r
noted_asks words old new s r asks (inl e) = subst (λ x. AsksFor words old new x) (sym e) asks
noted_asks words old new s r asks (inr e) =
    subst (λ x. AsksFor words old new x) (sym e) (record { asked = asks.asked; rest = asks.rest; grew = asks.grew; along = asks.along; last = tt })
