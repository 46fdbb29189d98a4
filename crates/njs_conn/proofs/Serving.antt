-- What a connection was answered so far, and how it may end.
use Rattle.std.proofs.Common.{◌≡◌, ◌<◌, ◌+◌, ◌++◌, ◌⊎◌, ℕ, List, [], ◌∷◌, Option, Bool, true, false, refl, sym, ap, ◌∙◌, subst, append_assoc, append-nil, inl, inr}
use Rattle.std.specs.Io.KnownBytes.{Consumes, Appends}
use Rattle.http_in.specs.declared.request.Request.{Request}
use Rattle.http_in.specs.declared.reader.Next.TheVariants as nexts
use Rattle.http_in.specs.Keeping.{Kept}
use Rattle.http_in.specs.Reader.{ReadsOn}
use Rattle.http_in.specs.Deciding.{IsUndecided}
use Rattle.http_in.specs.Requests as requests
use Rattle.http_in.specs.Requests.{Whole, Refused, Nothing, Part, StandsAt, GoesOn, Ending, Requests}
use Rattle.http_in.proofs.Fronts.{kept_few}
use Rattle.njs_conn.specs.Site.{Site}
use Rattle.njs_conn.specs.declared.connection.ConnEnd.{ConnEnd}
use Rattle.njs_conn.specs.declared.connection.ConnEnd.TheVariants as ends
use Rattle.njs_conn.specs.declared.connection.Sent.{Sent}
use Rattle.njs_conn.specs.declared.connection.Sent.TheVariants as sents
use Rattle.njs_conn.specs.Writer.{IsFront, Sends, SentIs}
use Rattle.njs_conn.specs.Answers.{Answer, RefusedWith, Closed, after, ending, ended, answers, response_of, refusal, BeginsWith, IsReadAs, EndsAs, Serves}
use Rattle.njs_conn.proofs.Refusals.{HasThreeDigits, has_three_digits}
use Rattle.njs_edge.specs.Known.{consumes_same, consumes_more, appends_same, appends_more}

-- some bytes, and then what is answered
abbrev pub behind : List ℕ → Answer → Answer
behind bytes answer = after bytes [] [] answer

-- what is said of the requests at a place, whatever follows, is said of all
abbrev pub GoesOnTo : (ℕ → List ℕ → List Request → Ending → Type 0) → ℕ → List ℕ → List ℕ → List Request → Type 0
GoesOnTo P number held taken done =
    (more : List ℕ) (others : List Request) (end : Ending) → P number (held ++ more) others end → P 0 (taken ++ more) (done ++ others) end

-- what was taken and what was written so far, for which requests, and that the answer to all goes on with the answer to what is held
pub record SoFar (site : Site) (peer : List ℕ) (now : Kept) (left left' got got' : Option (List ℕ)) : Type 0 where
  pub taken : List ℕ
  pub grew : List ℕ
  pub done : List Request
  pub read : Consumes left left' taken
  pub wrote : Appends got got' grew
  pub whole : GoesOnTo Requests now.given now.held taken done
  pub begun : GoesOnTo BeginsWith now.given now.held taken done
  pub answered : (others : List Request) (end : Ending) → answers site peer (done ++ others) end [] ≡ behind grew (answers site peer others end [])

fresh : (P : ℕ → List ℕ → List Request → Ending → Type 0) (number : ℕ) (held : List ℕ) → held ≡ [] → number ≡ 0 → GoesOnTo P number held [] []
fresh P number held none zero more others end h = subst (λ xs. P 0 (xs ++ more) others end) none (subst (λ n. P n (held ++ more) others end) zero h)

pub at_start : (site : Site) (peer : List ℕ) (now : Kept) (left got : Option (List ℕ)) → now.held ≡ [] → now.given ≡ 0 → SoFar site peer now left left got got
at_start site peer now left got none zero = record {
  taken = [];
  grew = [];
  done = [];
  read = consumes_same left;
  wrote = appends_same got;
  whole = fresh Requests now.given now.held none zero;
  begun = fresh BeginsWith now.given now.held none zero;
  answered = λ others end. refl;
}

after_twice : (a b : List ℕ) (answer : Answer) → behind a (behind b answer) ≡ behind (a ++ b) answer
after_twice a b answer = ap (λ xs. let x : Answer = record { bytes = xs; log = answer.log; calls = answer.calls; end = answer.end } in x) (sym (append_assoc a b answer.bytes))

-- a relation that holds of a request that keeps the connection, and then of the others behind it
abbrev pub Joins : (ℕ → List ℕ → List Request → Ending → Type 0) → Type 0
Joins P = (number : ℕ) (bytes rest : List ℕ) (request : Request) (others : List Request) (end : Ending)
    → StandsAt number bytes (Whole request rest) → request.keep ≡ true → P (number + 1) rest others end → P number bytes (request ∷ others) end

join_whole : Joins Requests
join_whole number bytes rest request others end stands kept h = (rest, stands, subst (λ k. GoesOn k others end (Requests (number + 1) rest others end)) (sym kept) h)

join_begun : Joins BeginsWith
join_begun number bytes rest request others end stands kept h = (rest, stands, subst (λ k. GoesOn k others end (BeginsWith (number + 1) rest others end)) (sym kept) h)

carry : (P : ℕ → List ℕ → List Request → Ending → Type 0) → Joins P → (was now : Kept) (request : Request) (taken last : List ℕ) (done : List Request)
    → GoesOnTo P was.given was.held taken done → ((more : List ℕ) → StandsAt was.given ((was.held ++ last) ++ more) (Whole request (now.held ++ more)))
    → now.given ≡ was.given + 1 → request.keep ≡ true → GoesOnTo P now.given now.held (taken ++ last) (done ++ request ∷ [])
carry P joins was now request taken last done goes stands given kept more others end h =
    let here = joins was.given ((was.held ++ last) ++ more) (now.held ++ more) request others end (stands more) kept (subst (λ n. P n (now.held ++ more) others end) given h) in
    let all = goes (last ++ more) (request ∷ others) end (subst (λ xs. P was.given xs (request ∷ others) end) (append_assoc was.held last more) here) in
    subst (λ qs. P 0 ((taken ++ last) ++ more) qs end) (sym (append_assoc done (request ∷ []) others))
    (subst (λ xs. P 0 xs (done ++ request ∷ others) end) (sym (append_assoc taken last more)) all)

-- one more request was answered, and keeps the connection
pub one_more : (site : Site) (peer : List ℕ) (was now : Kept) (request : Request) (l0 l1 l2 g0 g1 g2 : Option (List ℕ)) → SoFar site peer was l0 l1 g0 g1
    → ReadsOn l1 l2 was now (nexts.Request request) → now.given ≡ was.given + 1 → request.keep ≡ true → Sends g1 g2 (response_of site request) sents.Whole
    → SoFar site peer now l0 l2 g0 g2
one_more site peer was now request l0 l1 l2 g0 g1 g2 s r given kept w = record {
  taken = s.taken ++ r.taken;
  grew = s.grew ++ w.grew;
  done = s.done ++ request ∷ [];
  read = consumes_more l0 l1 l2 s.taken r.taken s.read r.read;
  wrote = appends_more g0 g1 g2 s.grew w.grew s.wrote w.wrote;
  whole = carry Requests join_whole was now request s.taken r.taken s.done s.whole r.next given kept;
  begun = carry BeginsWith join_begun was now request s.taken r.taken s.done s.begun r.next given kept;
  answered = λ others end.
      ap (λ qs. answers site peer qs end []) (append_assoc s.done (request ∷ []) others)
      ∙ s.answered (request ∷ others) end
      ∙ ap (λ xs. behind s.grew (behind xs (answers site peer others end []))) (sym w.part)
      ∙ after_twice s.grew w.grew (answers site peer others end []);
}

front_after : (a b c : List ℕ) → IsFront b c → IsFront (a ++ b) (a ++ c)
front_after a b c f = record { rest = f.rest; joined = append_assoc a b f.rest ∙ ap (λ xs. a ++ xs) f.joined }

-- what ends so here ends so behind what was answered before
ends_after : (result : ConnEnd) (before grew : List ℕ) (answer : Answer) (left : Option (List ℕ)) → EndsAs result answer grew left → EndsAs result (behind before answer) (before ++ grew) left
ends_after ends.Finished before grew answer left h = (ap (λ xs. before ++ xs) h.0, h.1)
ends_after ends.Cut before grew answer left h = (ap (λ xs. before ++ xs) h.0, h.1, h.2)
ends_after ends.ReadFault before grew answer left h = (ap (λ xs. before ++ xs) h.0, h.1)
ends_after ends.WriteFault before grew answer left h = front_after before grew answer.bytes h
ends_after ends.NoMemory before grew answer left h = front_after before grew answer.bytes h

read_after : (result : ConnEnd) (number : ℕ) (held taken last : List ℕ) (done others : List Request) (end : Ending) → GoesOnTo Requests number held taken done
    → GoesOnTo BeginsWith number held taken done → IsReadAs result number (held ++ last) others end → IsReadAs result 0 (taken ++ last) (done ++ others) end
read_after ends.Finished number held taken last done others end whole begun h = whole last others end h
read_after ends.Cut number held taken last done others end whole begun h = whole last others end h
read_after ends.ReadFault number held taken last done others end whole begun h = whole last others end h
read_after ends.WriteFault number held taken last done others end whole begun h = begun last others end h
read_after ends.NoMemory number held taken last done others end whole begun h = begun last others end h

-- the connection ends with the answer to what is held and was taken last
pub closes : (site : Site) (peer : List ℕ) (was : Kept) (taken grew : List ℕ) (others : List Request) (end : Ending) (l0 l1 l2 g0 g1 g2 : Option (List ℕ)) (result : ConnEnd)
    → SoFar site peer was l0 l1 g0 g1 → Consumes l1 l2 taken → Appends g1 g2 grew → IsReadAs result was.given (was.held ++ taken) others end
    → EndsAs result (answers site peer others end []) grew l2 → Serves site peer l0 l2 g0 g2 result
closes site peer was taken grew others end l0 l1 l2 g0 g1 g2 result s read wrote stands e = record {
  taken = s.taken ++ taken;
  grew = s.grew ++ grew;
  all = s.done ++ others;
  end = end;
  read = consumes_more l0 l1 l2 s.taken taken s.read read;
  wrote = appends_more g0 g1 g2 s.grew grew s.wrote wrote;
  read_as = read_after result was.given was.held s.taken taken s.done others end s.whole s.begun stands;
  ends = subst (λ answer. EndsAs result answer (s.grew ++ grew) l2) (sym (s.answered others end)) (ends_after result s.grew grew (answers site peer others end []) l2 e);
}

-- the exits of the loop, by what the reader answered

pub at_input_end : (site : Site) (peer : List ℕ) (was now : Kept) (l0 l1 l2 g0 g1 : Option (List ℕ)) → SoFar site peer was l0 l1 g0 g1 → ReadsOn l1 l2 was now nexts.End
    → Serves site peer l0 l2 g0 g1 ends.Finished
at_input_end site peer was now l0 l1 l2 g0 g1 s r =
    closes site peer was r.taken [] [] requests.End l0 l1 l2 g0 g1 g1 ends.Finished s r.read (appends_same g1) r.next.0 (refl, r.next.1)

pub at_cut : (site : Site) (peer : List ℕ) (was now : Kept) (l0 l1 l2 g0 g1 : Option (List ℕ)) → SoFar site peer was l0 l1 g0 g1 → ReadsOn l1 l2 was now nexts.Cut
    → Serves site peer l0 l2 g0 g1 ends.Cut
at_cut site peer was now l0 l1 l2 g0 g1 s r =
    closes site peer was r.taken [] [] requests.Cut l0 l1 l2 g0 g1 g1 ends.Cut s r.read (appends_same g1) r.next.0 (refl, refl, r.next.1)

pub at_read_fault : (site : Site) (peer : List ℕ) (was now : Kept) (l0 l1 l2 g0 g1 : Option (List ℕ)) → SoFar site peer was l0 l1 g0 g1 → ReadsOn l1 l2 was now nexts.ReadFault
    → Serves site peer l0 l2 g0 g1 ends.ReadFault
at_read_fault site peer was now l0 l1 l2 g0 g1 s r = undecided r.next where
  undecided : IsUndecided was.given (was.held ++ r.taken) → Serves site peer l0 l2 g0 g1 ends.ReadFault
  undecided (inl nothing) = closes site peer was r.taken [] [] requests.End l0 l1 l2 g0 g1 g1 ends.ReadFault s r.read (appends_same g1) nothing (refl, inl refl)
  undecided (inr part) = closes site peer was r.taken [] [] requests.Cut l0 l1 l2 g0 g1 g1 ends.ReadFault s r.read (appends_same g1) part (refl, inr refl)

pub at_no_memory : (site : Site) (peer : List ℕ) (was now : Kept) (l0 l1 l2 g0 g1 : Option (List ℕ)) → SoFar site peer was l0 l1 g0 g1 → ReadsOn l1 l2 was now nexts.NoMemory
    → Serves site peer l0 l2 g0 g1 ends.NoMemory
at_no_memory site peer was now l0 l1 l2 g0 g1 s r =
    closes site peer was r.taken [] [] requests.End l0 l1 l2 g0 g1 g1 ends.NoMemory s r.read (appends_same g1) tt (record { rest = []; joined = refl })

-- a bad request, by how much of the refusal was written
abbrev pub end_of : Sent → ConnEnd
end_of sents.Whole = ends.Finished
end_of sents.Failed = ends.WriteFault
end_of sents.NoMemory = ends.NoMemory

refused_read : (result : Sent) (number status : ℕ) (bytes : List ℕ) → StandsAt number bytes (Refused status) → IsReadAs (end_of result) number bytes [] (requests.Bad status)
refused_read sents.Whole number status bytes h = h
refused_read sents.Failed number status bytes h = h
refused_read sents.NoMemory number status bytes h = h

refused_ends : (result : Sent) (grew bytes : List ℕ) (status : ℕ) (left : Option (List ℕ)) → SentIs result grew bytes → EndsAs (end_of result) (ending bytes (RefusedWith status)) grew left
refused_ends sents.Whole grew bytes status left h = (h, tt)
refused_ends sents.Failed grew bytes status left h = h
refused_ends sents.NoMemory grew bytes status left h = h

-- what stands there whatever follows, stands there with nothing behind it
refused_here : (number status : ℕ) (bytes : List ℕ) → ((more : List ℕ) → StandsAt number (bytes ++ more) (Refused status)) → StandsAt number bytes (Refused status)
refused_here number status bytes h = subst (λ xs. StandsAt number xs (Refused status)) (append-nil bytes) (h [])

pub at_bad : (site : Site) (peer : List ℕ) (was now : Kept) (status : ℕ) (result : Sent) (end : ConnEnd) (l0 l1 l2 g0 g1 g2 : Option (List ℕ)) → SoFar site peer was l0 l1 g0 g1
    → ReadsOn l1 l2 was now (nexts.Bad status) → Sends g1 g2 (refusal status) result → end_of result ≡ end → Serves site peer l0 l2 g0 g2 end
at_bad site peer was now status result end l0 l1 l2 g0 g1 g2 s r w so = subst (λ e. Serves site peer l0 l2 g0 g2 e) so (
    closes site peer was r.taken w.grew [] (requests.Bad status) l0 l1 l2 g0 g1 g2 (end_of result) s r.read w.wrote
    (refused_read result was.given status (was.held ++ r.taken) (refused_here was.given status (was.held ++ r.taken) r.next))
    (refused_ends result w.grew (refusal status) status l2 w.part))

-- the request that was answered last
stands_here : (number : ℕ) (bytes held : List ℕ) (request : Request) → ((more : List ℕ) → StandsAt number (bytes ++ more) (Whole request (held ++ more)))
    → StandsAt number bytes (Whole request held)
stands_here number bytes held request h =
    subst (λ xs. StandsAt number xs (Whole request held)) (append-nil bytes) (subst (λ ys. StandsAt number (bytes ++ []) (Whole request ys)) (append-nil held) (h []))

-- the connection was closed behind it
pub at_close : (site : Site) (peer : List ℕ) (was now : Kept) (request : Request) (l0 l1 l2 g0 g1 g2 : Option (List ℕ)) → SoFar site peer was l0 l1 g0 g1
    → ReadsOn l1 l2 was now (nexts.Request request) → request.keep ≡ false → Sends g1 g2 (response_of site request) sents.Whole → Serves site peer l0 l2 g0 g2 ends.Finished
at_close site peer was now request l0 l1 l2 g0 g1 g2 s r closed w =
    closes site peer was r.taken w.grew (request ∷ []) requests.Closed l0 l1 l2 g0 g1 g2 ends.Finished s r.read w.wrote (
      now.held,
      stands_here was.given (was.held ++ r.taken) now.held request r.next,
      subst (λ k. GoesOn k [] requests.Closed (Requests (was.given + 1) now.held [] requests.Closed)) (sym closed) (refl, refl),
    )
    (w.part ∙ sym (append-nil (response_of site request)), tt)

-- a response that was not written whole
front_of : (a b c : List ℕ) → IsFront a b → IsFront a (b ++ c)
front_of a b c f = record { rest = f.rest ++ c; joined = sym (append_assoc a f.rest c) ∙ ap (λ xs. xs ++ c) f.joined }

abbrev pub end_after : Bool → Ending
end_after true = requests.End
end_after false = requests.Closed

last_read : (keep : Bool) (number : ℕ) (rest : List ℕ) → GoesOn keep [] (end_after keep) (BeginsWith (number + 1) rest [] (end_after keep))
last_read true number rest = tt
last_read false number rest = (refl, refl)

pub at_write_fault : (site : Site) (peer : List ℕ) (was now : Kept) (request : Request) (l0 l1 l2 g0 g1 g2 : Option (List ℕ)) → SoFar site peer was l0 l1 g0 g1
    → ReadsOn l1 l2 was now (nexts.Request request) → Sends g1 g2 (response_of site request) sents.Failed → Serves site peer l0 l2 g0 g2 ends.WriteFault
at_write_fault site peer was now request l0 l1 l2 g0 g1 g2 s r w =
    closes site peer was r.taken w.grew (request ∷ []) (end_after request.keep) l0 l1 l2 g0 g1 g2 ends.WriteFault s r.read w.wrote
    (now.held, stands_here was.given (was.held ++ r.taken) now.held request r.next, last_read request.keep was.given now.held)
    (front_of w.grew (response_of site request) (ended (end_after request.keep)).bytes w.part)

pub at_send_no_memory : (site : Site) (peer : List ℕ) (was now : Kept) (request : Request) (l0 l1 l2 g0 g1 g2 : Option (List ℕ)) → SoFar site peer was l0 l1 g0 g1
    → ReadsOn l1 l2 was now (nexts.Request request) → Sends g1 g2 (response_of site request) sents.NoMemory → Serves site peer l0 l2 g0 g2 ends.NoMemory
at_send_no_memory site peer was now request l0 l1 l2 g0 g1 g2 s r w =
    closes site peer was r.taken w.grew (request ∷ []) (end_after request.keep) l0 l1 l2 g0 g1 g2 ends.NoMemory s r.read w.wrote
    (now.held, stands_here was.given (was.held ++ r.taken) now.held request r.next, last_read request.keep was.given now.held)
    (front_of w.grew (response_of site request) (ended (end_after request.keep)).bytes w.part)

-- a request that keeps the connection isn't the last
pub not_last : (was now : Kept) (request : Request) (l1 l2 : Option (List ℕ)) → ReadsOn l1 l2 was now (nexts.Request request) → request.keep ≡ true → was.given + 1 < 1000
not_last was now request l1 l2 r kept =
    kept_few was.given (was.held ++ r.taken) now.held request (stands_here was.given (was.held ++ r.taken) now.held request r.next) kept

-- the status of a refusal
pub refused_status : (was now : Kept) (status : ℕ) (l1 l2 : Option (List ℕ)) → ReadsOn l1 l2 was now (nexts.Bad status) → HasThreeDigits status
refused_status was now status l1 l2 r = has_three_digits was.given (was.held ++ r.taken) status (refused_here was.given status (was.held ++ r.taken) r.next)
