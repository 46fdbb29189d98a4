-- A call of a zone changes the caller of that zone alone.
use Rattle.std.proofs.Common.{◌≡◌, ℕ, zero, suc, ◌<◌, List, [], ◌∷◌, ◌++◌, length, map, get_or, set, Some, Ok, Err, Result, refl, ap, sym, ◌∙◌, subst, arith, append_assoc, le_refl}
use Rattle.std.specs.Prelude.{slice_get, IfOk, OnErr}
use Rattle.std.proofs.lemmas.List.{append-nil, map-set}
use Rattle.njs_text.specs.declared.memory.NoMemory.{NoMemory}
use Rattle.dict_model.specs.declared.operation.DictOp.{DictOp}
use Rattle.dict_model.specs.declared.operation.DictReply.{DictReply}
use Rattle.dict_model.specs.declared.operation.ZoneSpec.{ZoneSpec}
use Rattle.dict_model.specs.Calls.{Calls}
use Rattle.dict_lock.specs.declared.stop.SplitStop.{SplitStop}
use Rattle.dict_lock.specs.declared.stop.SplitStop.TheVariants.{Spent}
use Rattle.dict_lock.specs.Views.{calls_by, entry_by}
use Rattle.dict_lock.specs.Known.{ZoneName, Caller, IsCaller, IsReply, IsNewFrom, Learns, Stays, Commits}
use Rattle.dict_lock.proofs.Own.{adds_own}
use Rattle.dict_pass.specs.Callers.{ComesLater, EachPair, EachTriple, Asks, KnownAt, IsStopped, own_of, spec_of, specs_of, zone_of}
use Rattle.dict_pass.specs.Later.{later_reflexive}

-- a zone that can be asked is there
pub is_within : (xs : List Caller) (at : ℕ) (spec : ZoneSpec) → slice_get (specs_of xs) at ≡ Some spec → at < length xs
is_within [] at spec exists = absurd (cc)
is_within (x ∷ xs) zero spec exists = omega arith
is_within (x ∷ xs) (suc at) spec exists = let below = is_within xs at spec exists in omega arith

-- the zone at a place is that of the caller there
pub zone_at : (xs : List Caller) (zs : List ZoneName) (at : ℕ) (d : ZoneName) (k : Caller) → map zone_of xs ≡ zs → slice_get xs at ≡ Some k → get_or zs at d ≡ k.zone
zone_at xs zs at d k over was = ap (λ l. get_or l at d) (sym over) ∙ here xs at was
  where
    here : (xs : List Caller) (at : ℕ) → slice_get xs at ≡ Some k → get_or (map zone_of xs) at d ≡ k.zone
    here [] at was = absurd (cc)
    here (x ∷ xs) zero was = let same : x ≡ k = cc in ap zone_of same
    here (x ∷ xs) (suc at) was = here xs at was

pub call_zone : (r : Result DictReply NoMemory) (op : DictOp) (reading : ℕ) (k k' : Caller) → IfOk r (λ x. Commits (entry_by k.number op reading x) k k') → OnErr r (Stays k k') → k'.zone ≡ k.zone
call_zone (Ok x) op reading k k' commits stays = commits.zone
call_zone (Err y) op reading k k' commits stays = stays.zone

pub asks_of : (xs : List Caller) (at : ℕ) (k k' : Caller) (r : Result DictReply NoMemory) (op : DictOp) (reading : ℕ) (spec : ZoneSpec) → slice_get xs at ≡ Some k → spec ≡ k.zone.spec
    → IfOk r (λ x. Commits (entry_by k.number op reading x) k k') → OnErr r (Stays k k') → IfOk r (λ x. IsReply spec op reading x) → IsCaller k' → Asks xs (set xs at k') at op reading r
asks_of xs at k k' (Ok x) op reading spec was same commits stays answers caller = record { before = k; was = was; after = k'; changed = refl; related = record { commits = commits; caller = caller; answers = subst (λ s. IsReply s op reading x) same answers } }
asks_of xs at k k' (Err y) op reading spec was same commits stays answers caller = record { before = k; was = was; after = k'; changed = refl; related = stays }

pub stays_same : (k : Caller) → Stays k k
stays_same k = record { zone = refl; number = refl; seen = refl; mine = refl; closed = refl; made = le_refl k.made }

-- a zone that has handed out all its numbers
pub spent_at : (xs : List Caller) (at : ℕ) (k : Caller) (stop : SplitStop) → at < length xs → (stop ≡ Spent) × (k.made ≡ 4294967295) → IsStopped (set xs at k) stop
spent_at xs at k stop lt all = subst (IsStopped (set xs at k)) (sym all.0) (at, (k, there xs at lt, all.1))
  where
    there : (xs : List Caller) (at : ℕ) → at < length xs → slice_get (set xs at k) at ≡ Some k
    there [] at lt = absurd (omega arith)
    there (x ∷ xs) zero lt = refl
    there (x ∷ xs) (suc at) lt = there xs at (omega arith)

map_at : {A : Type 0} (f : Caller → A) (xs : List Caller) (at : ℕ) (k : Caller) → slice_get xs at ≡ Some k → slice_get (map f xs) at ≡ Some (f k)
map_at f [] at k was = absurd (cc)
map_at f (x ∷ xs) zero k was = let same : x ≡ k = cc in ap (λ c. Some (f c)) same
map_at f (x ∷ xs) (suc at) k was = map_at f xs at k was

spec_there : (xs : List Caller) (at : ℕ) (k : Caller) → slice_get xs at ≡ Some k → slice_get (specs_of xs) at ≡ Some k.zone.spec
spec_there [] at k was = absurd (cc)
spec_there (x ∷ xs) zero k was = let same : x ≡ k = cc in ap (λ c. Some c.zone.spec) same
spec_there (x ∷ xs) (suc at) k was = spec_there xs at k was

map_stays : {A : Type 0} (f : Caller → A) (xs : List Caller) (at : ℕ) (k k' : Caller) → slice_get xs at ≡ Some k → f k' ≡ f k → map f (set xs at k') ≡ map f xs
map_stays f [] at k k' was same = refl
map_stays f (x ∷ xs) zero k k' was same = let is : x ≡ k = cc in ap (λ y. y ∷ map f xs) (same ∙ ap f (sym is))
map_stays f (x ∷ xs) (suc at) k k' was same = ap (λ l. f x ∷ l) (map_stays f xs at k k' was same)

one_later : (xs : List Caller) (at : ℕ) (k k' : Caller) → slice_get xs at ≡ Some k → ComesLater k k' → EachPair ComesLater xs (set xs at k')
one_later [] at k k' was later = tt
one_later (x ∷ xs) zero k k' was later = let is : x ≡ k = cc in (subst (λ y. ComesLater y k') (sym is) later, later_reflexive xs)
one_later (x ∷ xs) (suc at) k k' was later = ((later_reflexive (x ∷ [])).0, one_later xs at k k' was later)

only_one : (xs : List Caller) (at : ℕ) (k c : Caller) → slice_get xs at ≡ Some k → slice_get xs at ≡ Some c → c ≡ k
only_one xs at k c was is = cc

pub specs_stay : (xs ys : List Caller) (at : ℕ) (op : DictOp) (reading : ℕ) (r : Result DictReply NoMemory) → Asks xs ys at op reading r → specs_of ys ≡ specs_of xs
specs_stay xs ys at op reading (Ok x) a = ap (map spec_of) (ap (map zone_of) a.changed ∙ map_stays zone_of xs at a.before a.after a.was a.related.commits.zone)
specs_stay xs ys at op reading (Err y) a = ap (map spec_of) (ap (map zone_of) a.changed ∙ map_stays zone_of xs at a.before a.after a.was a.related.zone)

pub asks_later : (xs ys : List Caller) (at : ℕ) (op : DictOp) (reading : ℕ) (r : Result DictReply NoMemory) → Asks xs ys at op reading r → EachPair ComesLater xs ys
asks_later xs ys at op reading (Ok x) a = let c = a.related.commits in let e = entry_by a.before.number op reading x in
    subst (EachPair ComesLater xs) (sym a.changed)
    (one_later xs at a.before a.after a.was record { zone = c.zone; number = c.number; closed = c.closed; seen = (c.seen.0 ++ e ∷ [], sym (append_assoc a.before.seen c.seen.0 (e ∷ [])) ∙ sym c.seen.1); made = c.made })
asks_later xs ys at op reading (Err y) a = let s = a.related in
    subst (EachPair ComesLater xs) (sym a.changed) (one_later xs at a.before a.after a.was record { zone = s.zone; number = s.number; closed = s.closed; seen = ([], append-nil a.before.seen ∙ sym s.seen); made = s.made })

pub asks_calls : (xs ys : List Caller) (at : ℕ) (op : DictOp) (reading : ℕ) (r : Result DictReply NoMemory) → KnownAt xs at IsCaller → Asks xs ys at op reading r → Calls (specs_of xs) (map own_of xs) (map own_of ys) at op reading r
asks_calls xs ys at op reading (Ok x) known a =
    let k : Caller = a.before in
    let k' : Caller = a.after in
    let c = a.related.commits in
    let reply = a.related.answers in
    let before : IsCaller k = subst IsCaller (only_one xs at k known.0 a.was known.1) known.2 in
    record {
      spec = k.zone.spec;
      exists = spec_there xs at k a.was;
      before = own_of k;
      was = map_at own_of xs at k a.was;
      after = own_of k';
      changed = ap (map own_of) a.changed ∙ map-set own_of xs at k';
      adds = record {
        caller = k.number;
        grown = ap (λ n. calls_by n k'.seen) c.number ∙ adds_own (entry_by k.number op reading x) k k' before a.related.caller c refl;
        state = reply.0;
        valid = reply.1;
        answers = reply.2;
      };
    }
asks_calls xs ys at op reading (Err y) known a = ap (map own_of) a.changed ∙ map_stays own_of xs at a.before a.after a.was (λ i. calls_by (a.related.number i) (a.related.seen i))

pub later_zones : (xs ys : List Caller) → EachPair ComesLater xs ys → map zone_of ys ≡ map zone_of xs
later_zones [] [] later = refl
later_zones [] (y ∷ ys) later = absurd later
later_zones (x ∷ xs) [] later = absurd later
later_zones (x ∷ xs) (y ∷ ys) later = λ i. later.0.zone i ∷ later_zones xs ys later.1 i

-- where a triple of passes is related, so are their callers of each zone
pub at_triple : (R : Caller → Caller → Caller → Type 0) (xs ys zs : List Caller) (at : ℕ) (z : Caller) → EachTriple R xs ys zs → slice_get zs at ≡ Some z → (x : Caller) × (y : Caller) × R x y z × (slice_get xs at ≡ Some x)
at_triple R [] [] [] at z each is = absurd (cc)
at_triple R [] [] (c ∷ zs) at z each is = absurd each
at_triple R [] (y ∷ ys) zs at z each is = absurd each
at_triple R (x ∷ xs) [] zs at z each is = absurd each
at_triple R (x ∷ xs) (y ∷ ys) [] at z each is = absurd each
at_triple R (x ∷ xs) (y ∷ ys) (c ∷ zs) zero z each is = let same : c ≡ z = cc in (x, y, subst (R x y) same each.0, refl)
at_triple R (x ∷ xs) (y ∷ ys) (c ∷ zs) (suc at) z each is = at_triple R xs ys zs at z each.1 is

caller_there : (xs : List Caller) (at : ℕ) (spec : ZoneSpec) → slice_get (specs_of xs) at ≡ Some spec → (k : Caller) × (slice_get xs at ≡ Some k)
caller_there [] at spec exists = absurd (cc)
caller_there (x ∷ xs) zero spec exists = (x, refl)
caller_there (x ∷ xs) (suc at) spec exists = caller_there xs at spec exists

put_there : (xs : List Caller) (at : ℕ) (k k' : Caller) → slice_get xs at ≡ Some k → slice_get (set xs at k') at ≡ Some k'
put_there [] at k k' was = absurd (cc)
put_there (x ∷ xs) zero k k' was = refl
put_there (x ∷ xs) (suc at) k k' was = put_there xs at k k' was

-- a new caller that learns has made no call yet
pub none_made : (xs ys zs os ws : List Caller) (at : ℕ) (spec : ZoneSpec) → EachTriple IsNewFrom xs ys zs → EachTriple Learns zs os ws → slice_get (specs_of ws) at ≡ Some spec → KnownAt ws at (λ k. k.mine ≡ [])
none_made xs ys zs os ws at spec new learns exists =
    let w = caller_there ws at spec exists in
    let z = at_triple Learns zs os ws at w.0 learns w.1 in
    let x = at_triple IsNewFrom xs ys zs at z.0 new z.3 in
    (w.0, w.1, ap (λ k. k.mine) z.2.rest ∙ ap (λ k. k.mine) x.2.3)

-- its first call is its one entry
pub one_made : (xs ys : List Caller) (at : ℕ) (op : DictOp) (reading : ℕ) (r : Result DictReply NoMemory) → KnownAt xs at (λ k. k.mine ≡ []) → Asks xs ys at op reading r → IfOk r (λ _. KnownAt ys at (λ k. length k.mine ≡ 1))
one_made xs ys at op reading (Ok x) none a =
    let none_before : a.before.mine ≡ [] = subst (λ k. k.mine ≡ []) (only_one xs at a.before none.0 a.was none.1) none.2 in
    (a.after, ap (λ l. slice_get l at) a.changed ∙ put_there xs at a.before a.after a.was, ap length (a.related.commits.seen.2 ∙ ap (λ l. l ++ length (a.before.seen ++ a.related.commits.seen.0) ∷ []) none_before))
one_made xs ys at op reading (Err y) none a = tt
