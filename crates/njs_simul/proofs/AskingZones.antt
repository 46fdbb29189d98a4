-- What a call on a dictionary does: it takes the next reply, or the run ends.
use Rattle.std.proofs.Common.{◌≡◌, ℕ, zero, suc, List, [], ◌∷◌, ◌++◌, Bool, true, false, ◌==◌, if◌then◌else◌, Option, Some, None, refl, ap, sym, subst, ◌∙◌, slice_get, slice_set, inl, inr, arith}
use Rattle.std.specs.Option.{option_map_or}
use Rattle.std.proofs.lemmas.Bool.{cases_Bool}
use Rattle.std.proofs.lemmas.Bool.Decides.{nat_tests}
use Rattle.std.proofs.lemmas.List.{append_assoc, append-nil}
use Rattle.dict_model.specs.declared.operation.DictOp.{DictOp}
use Rattle.dict_model.specs.declared.operation.DictReply.{DictReply}
use Rattle.njs_meaning.specs.State.{Zone, Asked, State, Outcome, Asks}
use Rattle.njs_meaning.specs.Running.{split_first, ask_zone, ask}
use Rattle.njs_meaning.specs.Replies.{replies_of, HasReplies, IsExhausted, state_of}
use Rattle.njs_simul.specs.Asking.{Quiet, KeepsReplies}

-- the state with a reply taken
abbrev pub reply_taken : ℕ → DictOp → Zone → DictReply → List DictReply → State → State
reply_taken zone op asked reply rest s = record s {
  zones = slice_set s.zones zone (record asked { replies = rest });
  asked = s.asked ++ record { zone = zone; op = op; reply = reply } ∷ [];
}

-- ---- once no reply is still to come

none_left : (reply : DictReply) (rest : List DictReply) {A : Type 0} → reply ∷ rest ≡ [] → A
none_left reply rest h = absurd (cc)

quiet_zone : {A : Type 0} (zone : ℕ) (op : DictOp) (go : DictReply → State → Outcome A) (z : Zone) (s : State) → slice_get s.zones zone ≡ Some z → Quiet s (state_of (ask_zone zone op go z s))
quiet_zone zone op go z s there h = by z.replies (h.each zone z there)
  where
    by : (replies : List DictReply) → replies ≡ []
        → (((state_of (split_first replies (λ reply rest. go reply (reply_taken zone op z reply rest s)) (Asks zone op s))).asked ≡ s.asked)
        × IsExhausted (state_of (split_first replies (λ reply rest. go reply (reply_taken zone op z reply rest s)) (Asks zone op s))))
    by [] e = (refl, h)
    by (reply ∷ rest) e = none_left reply rest e

pub quiet_asks : {A : Type 0} (zone : ℕ) (op : DictOp) (go : DictReply → State → Outcome A) (s : State) → ((reply : DictReply) (t : State) → Quiet t (state_of (go reply t))) → Quiet s (state_of (ask zone op go s))
quiet_asks zone op go s next = by (slice_get s.zones zone) refl
  where
    by : (found : Option Zone) → slice_get s.zones zone ≡ found → Quiet s (state_of (option_map_or (λ z. ask_zone zone op go z s) found (Asks zone op s)))
    by None is h = (refl, h)
    by (Some z) is h = quiet_zone zone op go z s is h

-- ---- the replies given and those to come

given_if : (b : Bool) (x : DictReply) (xs ys : List DictReply) → (if b then x ∷ (xs ++ ys) else (xs ++ ys)) ≡ (if b then x ∷ xs else xs) ++ ys
given_if true x xs ys = refl
given_if false x xs ys = refl

replies_more : (zone : ℕ) (xs : List Asked) (a : Asked) → replies_of zone (xs ++ a ∷ []) ≡ replies_of zone xs ++ (if a.zone == zone then a.reply ∷ [] else [])
replies_more zone [] a = refl
replies_more zone (b ∷ xs) a =
    ap (λ rest. if b.zone == zone then b.reply ∷ rest else rest) (replies_more zone xs a)
    ∙ given_if (b.zone == zone) b.reply (replies_of zone xs) (if a.zone == zone then a.reply ∷ [] else [])

set_here : (xs : List Zone) (at : ℕ) (old new : Zone) → slice_get xs at ≡ Some old → slice_get (slice_set xs at new) at ≡ Some new
set_here [] at old new is = absurd (cc)
set_here (x ∷ xs) zero old new is = refl
set_here (x ∷ xs) (suc at) old new is = set_here xs at old new is

set_else : (xs : List Zone) (at place : ℕ) (new : Zone) → (at == place) ≡ false → slice_get (slice_set xs at new) place ≡ slice_get xs place
set_else [] at place new h = refl
set_else (x ∷ xs) zero zero new h = absurd (grind (arith, nat_tests))
set_else (x ∷ xs) zero (suc place) new h = refl
set_else (x ∷ xs) (suc at) zero new h = refl
set_else (x ∷ xs) (suc at) (suc place) new h = set_else xs at place new (grind (arith, nat_tests))

some_is : (x y : Zone) → Some x ≡ Some y → x ≡ y
some_is x y h = cc

same_number : (n m : ℕ) → (n == m) ≡ true → n ≡ m
same_number n m h = grind (arith, nat_tests)

taken_keeps : (zone : ℕ) (op : DictOp) (z : Zone) (reply : DictReply) (rest : List DictReply) (s : State) → slice_get s.zones zone ≡ Some z → z.replies ≡ reply ∷ rest
    → KeepsReplies s (reply_taken zone op z reply rest s)
taken_keeps zone op z reply rest s there has replies h = record { each = λ place x is. at_place place x is }
  where
    a : Asked
    a = record { zone = zone; op = op; reply = reply }

    at_place : (place : ℕ) (x : Zone) → slice_get (slice_set s.zones zone (record z { replies = rest })) place ≡ Some x → slice_get replies place ≡ Some (replies_of place (s.asked ++ a ∷ []) ++ x.replies)
    at_place place x is = elim (cases_Bool (zone == place)) [
      | inl e ↦
          let same = same_number zone place e in
          let x_is : record z { replies = rest } ≡ x =
          some_is (record z { replies = rest }) x (sym (set_here s.zones zone z (record z { replies = rest }) there) ∙ ap (slice_get (slice_set s.zones zone (record z { replies = rest }))) same ∙ is) in
          let given : replies_of place (s.asked ++ a ∷ []) ≡ replies_of place s.asked ++ (reply ∷ []) = replies_more place s.asked a ∙ ap (λ b. replies_of place s.asked ++ (if b then reply ∷ [] else [])) e in
          let whole : replies_of place s.asked ++ z.replies ≡ replies_of place (s.asked ++ a ∷ []) ++ x.replies =
          ap (λ rs. replies_of place s.asked ++ rs) has ∙ sym (append_assoc (replies_of place s.asked) (reply ∷ []) rest)
          ∙ ap (λ rs. rs ++ rest) (sym given) ∙ ap (λ (y : Zone). replies_of place (s.asked ++ a ∷ []) ++ y.replies) x_is in
          h.each place z (subst (λ n. slice_get s.zones n ≡ Some z) same there) ∙ ap Some whole
      | inr e ↦
          let given : replies_of place s.asked ≡ replies_of place (s.asked ++ a ∷ []) =
          sym (replies_more place s.asked a ∙ ap (λ b. replies_of place s.asked ++ (if b then reply ∷ [] else [])) e ∙ append-nil (replies_of place s.asked)) in
          h.each place x (sym (set_else s.zones zone place (record z { replies = rest }) e) ∙ is) ∙ ap (λ rs. Some (rs ++ x.replies)) given
    ]

keeps_zone : {A : Type 0} (zone : ℕ) (op : DictOp) (go : DictReply → State → Outcome A) (z : Zone) (s : State) → slice_get s.zones zone ≡ Some z
    → ((reply : DictReply) (t : State) → KeepsReplies t (state_of (go reply t))) → KeepsReplies s (state_of (ask_zone zone op go z s))
keeps_zone zone op go z s there next replies h = by z.replies refl
  where
    by : (found : List DictReply) → z.replies ≡ found → HasReplies replies (state_of (split_first found (λ reply rest. go reply (reply_taken zone op z reply rest s)) (Asks zone op s)))
    by [] is = h
    by (reply ∷ rest) is = next reply (reply_taken zone op z reply rest s) replies (taken_keeps zone op z reply rest s there is replies h)

pub replies_asks : {A : Type 0} (zone : ℕ) (op : DictOp) (go : DictReply → State → Outcome A) (s : State) → ((reply : DictReply) (t : State) → KeepsReplies t (state_of (go reply t))) → KeepsReplies s (state_of (ask zone op go s))
replies_asks zone op go s next = by (slice_get s.zones zone) refl
  where
    by : (found : Option Zone) → slice_get s.zones zone ≡ found → KeepsReplies s (state_of (option_map_or (λ z. ask_zone zone op go z s) found (Asks zone op s)))
    by None is replies h = h
    by (Some z) is replies h = keeps_zone zone op go z s is next replies h
