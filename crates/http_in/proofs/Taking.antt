-- What a reader has taken so far, and what it may answer.
use Rattle.std.proofs.Common.{◌≡◌, ◌≤◌, ◌++◌, ℕ, List, [], Option, length, refl, sym, ap, ◌∙◌, subst, inl, inr, append_assoc, append-nil, false}
use Rattle.std.specs.Io.KnownBytes.{Consumes, IsAtEnd}
use Rattle.njs_edge.specs.Known.{consumes_same, consumes_more}
use Rattle.http_in.specs.declared.request.Request.{Request}
use Rattle.http_in.specs.declared.reader.Next.TheVariants as nexts
use Rattle.http_in.specs.declared.reader.Fill.TheVariants as fills
use Rattle.http_in.specs.Keeping.{Kept}
use Rattle.http_in.specs.Requests.{Whole, Refused, Nothing, Part, StandsAt}
use Rattle.http_in.specs.Deciding.{IsUndecided}
use Rattle.http_in.specs.Reader.{IsNeeded, ReadsOn, FillIs, max_piece}
use Rattle.http_in.proofs.Fronts.{keeps_requests, keeps_refusals}

-- the bytes that were taken stand behind those that were held, and were needed
pub record SoFar (old new : Option (List ℕ)) (was now : Kept) : Type 0 where
  pub taken : List ℕ
  pub read : Consumes old new taken
  pub held : now.held ≡ was.held ++ taken
  pub given : now.given ≡ was.given
  pub spent : now.spent ≡ false
  pub needed : IsNeeded was.given was.held taken

pub nothing_taken : (a : Option (List ℕ)) (was : Kept) → was.spent ≡ false → SoFar a a was was
nothing_taken a was unspent = record {
  taken = [];
  read = consumes_same a;
  held = sym (append-nil was.held);
  given = refl;
  spent = unspent;
  needed = inl refl;
}

-- what is said of what is held is said of the bytes at this place
here : {a b : Option (List ℕ)} {was mid : Kept} (P : ℕ → List ℕ → Type 0) (s : SoFar a b was mid) → P mid.given mid.held → P was.given (was.held ++ s.taken)
here {was = was} {mid = mid} P s h = subst (λ xs. P was.given xs) s.held (subst (λ n. P n mid.held) s.given h)

-- one more piece, where what is held decides nothing
piece_needed : {a b : Option (List ℕ)} {was mid : Kept} (s : SoFar a b was mid) (piece : List ℕ) → IsUndecided mid.given mid.held → length piece ≤ max_piece → IsNeeded was.given was.held (s.taken ++ piece)
piece_needed s piece undecided small = inr (s.taken, piece, refl, small, here IsUndecided s undecided)

pub takes_more : (a b c : Option (List ℕ)) (was mid held now : Kept) → SoFar a b was mid → IsUndecided mid.given mid.held → held ≡ mid → FillIs fills.Added b c held now → SoFar a c was now
takes_more a b c was mid held now s undecided same f =
    let fill = subst (λ k. FillIs fills.Added b c k now) same f in record {
      taken = s.taken ++ fill.0;
      read = consumes_more a b c s.taken fill.0 s.read fill.1;
      held = fill.4.held ∙ ap (λ xs. xs ++ fill.0) s.held ∙ append_assoc was.held s.taken fill.0;
      given = fill.4.given ∙ s.given;
      spent = fill.4.spent ∙ s.spent;
      needed = piece_needed s fill.0 undecided fill.3;
    }

-- a call that took nothing
none_more : {a b : Option (List ℕ)} {was mid : Kept} (c : Option (List ℕ)) (s : SoFar a b was mid) → Consumes b c [] → Consumes a c s.taken
none_more {a} {b} c s read = subst (λ xs. Consumes a c xs) (append-nil s.taken) (consumes_more a b c s.taken [] s.read read)

pub at_request : (a b : Option (List ℕ)) (was mid now : Kept) (request : Request) → SoFar a b was mid → StandsAt mid.given mid.held (Whole request now.held)
    → ReadsOn a b was now (nexts.Request request)
at_request a b was mid now request s stands = record {
  taken = s.taken;
  read = s.read;
  next = λ more. keeps_requests was.given (was.held ++ s.taken) now.held more request (here (λ n xs. StandsAt n xs (Whole request now.held)) s stands);
  needed = s.needed;
}

pub at_bad : (a b : Option (List ℕ)) (was mid now : Kept) (status : ℕ) → SoFar a b was mid → StandsAt mid.given mid.held (Refused status) → ReadsOn a b was now (nexts.Bad status)
at_bad a b was mid now status s stands = record {
  taken = s.taken;
  read = s.read;
  next = λ more. keeps_refusals was.given (was.held ++ s.taken) more status (here (λ n xs. StandsAt n xs (Refused status)) s stands);
  needed = s.needed;
}

pub at_want : (a b : Option (List ℕ)) (was mid now : Kept) → SoFar a b was mid → ReadsOn a b was now nexts.NoMemory
at_want a b was mid now s = record {
  taken = s.taken;
  read = s.read;
  next = tt;
  needed = s.needed;
}

pub at_end : (a b c : Option (List ℕ)) (was mid now : Kept) → SoFar a b was mid → Consumes b c [] → IsAtEnd c → StandsAt mid.given mid.held Nothing → ReadsOn a c was now nexts.End
at_end a b c was mid now s read done stands = record {
  taken = s.taken;
  read = none_more c s read;
  next = (here (λ n xs. StandsAt n xs Nothing) s stands, done);
  needed = s.needed;
}

pub at_cut : (a b c : Option (List ℕ)) (was mid now : Kept) → SoFar a b was mid → Consumes b c [] → IsAtEnd c → StandsAt mid.given mid.held Part → ReadsOn a c was now nexts.Cut
at_cut a b c was mid now s read done stands = record {
  taken = s.taken;
  read = none_more c s read;
  next = (here (λ n xs. StandsAt n xs Part) s stands, done);
  needed = s.needed;
}

pub at_fault : (a b c : Option (List ℕ)) (was mid now : Kept) → SoFar a b was mid → Consumes b c [] → IsUndecided mid.given mid.held → ReadsOn a c was now nexts.ReadFault
at_fault a b c was mid now s read undecided = record {
  taken = s.taken;
  read = none_more c s read;
  next = here IsUndecided s undecided;
  needed = s.needed;
}

pub at_refusal : (a b c : Option (List ℕ)) (was mid now : Kept) (piece : List ℕ) → SoFar a b was mid → Consumes b c piece → length piece ≤ max_piece → IsUndecided mid.given mid.held
    → ReadsOn a c was now nexts.NoMemory
at_refusal a b c was mid now piece s read small undecided = record {
  taken = s.taken ++ piece;
  read = consumes_more a b c s.taken piece s.read read;
  next = tt;
  needed = piece_needed s piece undecided small;
}
