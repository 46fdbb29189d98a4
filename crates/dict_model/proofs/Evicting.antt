-- Entries go one by one, the earliest first, and what is left is as the definition says.
use Rattle.std.proofs.Common.{◌≡◌, ◌<◌, ◌≤◌, ◌+◌, ◌-◌, ℕ, Bool, true, false, cond, ◌||◌, List, [], ◌∷◌, ◌++◌, length, get_or, Some, None, refl, sym, ap, ◌∙◌, subst, append_assoc, arith}
use Rattle.std.specs.Prelude.{nat_le, nat_lt, remove}
use Rattle.std.specs.List.{AllByRecursion}
use Rattle.std.proofs.lemmas.List.{append-nil}
use Rattle.std.proofs.lemmas.Bool.Decides.{nat_tests}
use Rattle.dict_model.specs.declared.operation.Kept.{Kept}
use Rattle.dict_model.specs.Eviction.{entry_cost, has_key, other_cost, others, due, due_before, due_by, freed_before, stays, left_of, left}
use Rattle.dict_model.specs.Places.{ExpiresAfter, NotBefore, IsEarliest, Earliest}
use Rattle.dict_model.proofs.Alls.{all_append}

-- tests
le_true : (a b : ℕ) → a ≤ b → nat_le a b ≡ true
le_true a b h = grind (arith, nat_tests)

le_false : (a b : ℕ) → b < a → nat_le a b ≡ false
le_false a b h = grind (arith, nat_tests)

lt_true : (a b : ℕ) → a < b → nat_lt a b ≡ true
lt_true a b h = grind (arith, nat_tests)

lt_false : (a b : ℕ) → b ≤ a → nat_lt a b ≡ false
lt_false a b h = grind (arith, nat_tests)

from_lt_true : (a b : ℕ) → nat_lt a b ≡ true → a < b
from_lt_true a b h = grind (arith, nat_tests)

from_lt_false : (a b : ℕ) → nat_lt a b ≡ false → b ≤ a
from_lt_false a b h = grind (arith, nat_tests)

shift : (need cost n : ℕ) → nat_le need (cost + n) ≡ nat_le (need - cost) n
shift need cost n = grind (arith, nat_tests)

-- costs
other_is : (key : List ℕ) (m : Kept) → has_key key m ≡ false → other_cost key m ≡ entry_cost m
other_is key m other = ap (λ b. cond b 0 (entry_cost m)) other

own_is : (key : List ℕ) (m : Kept) → has_key key m ≡ true → other_cost key m ≡ 0
own_is key m own = ap (λ b. cond b 0 (entry_cost m)) own

pub others_split : (key : List ℕ) (front : List Kept) (m : Kept) (back : List Kept) → has_key key m ≡ false → others key (front ++ m ∷ back) ≡ entry_cost m + others key (front ++ back)
others_split key [] m back other = ap (λ n. n + others key back) (other_is key m other)
others_split key (x ∷ front) m back other = let later = others_split key front m back other in omega arith

pub others_own : (key : List ℕ) (es : List Kept) → AllByRecursion (λ e. has_key key e ≡ true) es → others key es ≡ 0
others_own key [] all = refl
others_own key (e ∷ es) all = let first = own_is key e all.0 in let later = others_own key es all.1 in omega arith

due_by_split : (key : List ℕ) (time : ℕ) (front : List Kept) (m : Kept) (back : List Kept) → has_key key m ≡ false → due m ≤ time → due_by key time (front ++ m ∷ back) ≡ entry_cost m + due_by key time (front ++ back)
due_by_split key time [] m back other by =
    ap (λ b. cond b (other_cost key m) 0 + due_by key time back) (le_true (due m) time by) ∙ ap (λ n. n + due_by key time back) (other_is key m other)
due_by_split key time (x ∷ front) m back other by = let later = due_by_split key time front m back other by in omega arith

due_before_split : (key : List ℕ) (time : ℕ) (front : List Kept) (m : Kept) (back : List Kept) → has_key key m ≡ false → due m < time → due_before key time (front ++ m ∷ back) ≡ entry_cost m + due_before key time (front ++ back)
due_before_split key time [] m back other before =
    ap (λ b. cond b (other_cost key m) 0 + due_before key time back) (lt_true (due m) time before) ∙ ap (λ n. n + due_before key time back) (other_is key m other)
due_before_split key time (x ∷ front) m back other before = let later = due_before_split key time front m back other before in omega arith

nothing : (t : Bool) (n : ℕ) → n ≡ 0 → cond t n 0 ≡ 0
nothing true n none = none
nothing false n none = refl

-- nothing of what expires after a time is due by it
none_by : (key : List ℕ) (time : ℕ) (e : Kept) → ExpiresAfter key time e → cond (nat_le (due e) time) (other_cost key e) 0 ≡ 0
none_by key time e after =
    elim (has_key key e) as (λ b. (b ≡ false → time < due e) → cond (nat_le (due e) time) (cond b 0 (entry_cost e)) 0 ≡ 0) [
      | true ↦ λ h. nothing (nat_le (due e) time) 0 refl
      | false ↦ λ h. ap (λ t. cond t (entry_cost e) 0) (le_false (due e) time (h refl))
    ] after

none_before : (key : List ℕ) (time : ℕ) (e : Kept) → NotBefore key time e → cond (nat_lt (due e) time) (other_cost key e) 0 ≡ 0
none_before key time e by =
    elim (has_key key e) as (λ b. (b ≡ false → time ≤ due e) → cond (nat_lt (due e) time) (cond b 0 (entry_cost e)) 0 ≡ 0) [
      | true ↦ λ h. nothing (nat_lt (due e) time) 0 refl
      | false ↦ λ h. ap (λ t. cond t (entry_cost e) 0) (lt_false (due e) time (h refl))
    ] by

due_by_none : (key : List ℕ) (time : ℕ) (es : List Kept) → AllByRecursion (ExpiresAfter key time) es → due_by key time es ≡ 0
due_by_none key time [] all = refl
due_by_none key time (e ∷ es) all = let first = none_by key time e all.0 in let later = due_by_none key time es all.1 in omega arith

due_before_none : (key : List ℕ) (time : ℕ) (es : List Kept) → AllByRecursion (NotBefore key time) es → due_before key time es ≡ 0
due_before_none key time [] all = refl
due_before_none key time (e ∷ es) all = let first = none_before key time e all.0 in let later = due_before_none key time es all.1 in omega arith

-- an entry stays in the one list as in the other
same_stay : (key : List ℕ) (need cost : ℕ) (front front' : List Kept) (e : Kept) (back back' : List Kept) → (has_key key e ≡ false → freed_before key front e back ≡ cost + freed_before key front' e back') → stays key need front e back ≡ stays key (need - cost) front' e back'
same_stay key need cost front front' e back back' freed =
    elim (has_key key e) as (λ b. (b ≡ false → freed_before key front e back ≡ cost + freed_before key front' e back') → (b || nat_le need (freed_before key front e back)) ≡ (b || nat_le (need - cost) (freed_before key front' e back'))) [
      | true ↦ λ h. refl
      | false ↦ λ h. ap (nat_le need) (h refl) ∙ shift need cost (freed_before key front' e back')
    ] freed

same_left : (e : Kept) (b b' : Bool) (l l' : List Kept) → b ≡ b' → l ≡ l' → cond b (e ∷ l) l ≡ cond b' (e ∷ l') l'
same_left e b b' l l' bs ls = ap (λ b. cond b (e ∷ l) l) bs ∙ ap (λ l. cond b' (e ∷ l) l) ls

-- behind the earliest, what is left is the same without it
behind : (key : List ℕ) (need : ℕ) (front : List Kept) (m : Kept) (more es : List Kept) → has_key key m ≡ false → AllByRecursion (NotBefore key (due m)) es
    → left_of key need (front ++ m ∷ more) es ≡ left_of key (need - entry_cost m) (front ++ more) es
behind key need front m more [] other all = refl
behind key need front m more (e ∷ es) other all =
    same_left e _ _ _ _
    (same_stay key need (entry_cost m) (front ++ m ∷ more) (front ++ more) e es es (λ differs. let split = due_by_split key (due e) front m more other (all.0 differs) in omega arith))
    (ap (λ seen. left_of key need seen es) (append_assoc front (m ∷ more) (e ∷ []))
    ∙ behind key need front m (more ++ e ∷ []) es other all.1
    ∙ ap (λ seen. left_of key (need - entry_cost m) seen es) (sym (append_assoc front more (e ∷ []))))

-- the earliest goes, where anything goes
earliest_goes : (key : List ℕ) (need : ℕ) (front : List Kept) (m : Kept) (back : List Kept) → has_key key m ≡ false → 0 < need → AllByRecursion (ExpiresAfter key (due m)) front → AllByRecursion (NotBefore key (due m)) back → stays key need front m back ≡ false
earliest_goes key need front m back other some later before =
    ap (λ b. b || nat_le need (freed_before key front m back)) other
    ∙ le_false need (freed_before key front m back) (let first = due_by_none key (due m) front later in let second = due_before_none key (due m) back before in omega arith)

without_earliest : (key : List ℕ) (need : ℕ) (seen front : List Kept) (m : Kept) (back : List Kept) → has_key key m ≡ false → 0 < need
    → AllByRecursion (ExpiresAfter key (due m)) seen → AllByRecursion (ExpiresAfter key (due m)) front → AllByRecursion (NotBefore key (due m)) back
    → left_of key need seen (front ++ m ∷ back) ≡ left_of key (need - entry_cost m) seen (front ++ back)
without_earliest key need seen [] m back other some seen_later later before =
    ap (λ b. cond b (m ∷ left_of key need (seen ++ m ∷ []) back) (left_of key need (seen ++ m ∷ []) back)) (earliest_goes key need seen m back other some seen_later before)
    ∙ behind key need seen m [] back other before
    ∙ ap (λ front. left_of key (need - entry_cost m) front back) (append-nil seen)
without_earliest key need seen (e ∷ front) m back other some seen_later later before =
    same_left e _ _ _ _
    (same_stay key need (entry_cost m) seen seen e (front ++ m ∷ back) (front ++ back) (λ differs. let split = due_before_split key (due e) front m back other (later.0 differs) in omega arith))
    (without_earliest key need (seen ++ e ∷ []) front m back other some (all_append (ExpiresAfter key (due m)) seen (e ∷ []) seen_later (later.0, tt)) later.1 before)

-- where nothing has to go, all stay
all_stay : (key : List ℕ) (front es : List Kept) → left_of key 0 front es ≡ es
all_stay key front [] = refl
all_stay key front (e ∷ es) =
    ap (λ b. cond b (e ∷ left_of key 0 (front ++ e ∷ []) es) (left_of key 0 (front ++ e ∷ []) es)) (stays_at_zero key front e es) ∙ ap (λ l. e ∷ l) (all_stay key (front ++ e ∷ []) es)
  where
    stays_at_zero : (key : List ℕ) (front : List Kept) (e : Kept) (back : List Kept) → stays key 0 front e back ≡ true
    stays_at_zero key front e back =
        elim (has_key key e) as (λ b. (b || nat_le 0 (freed_before key front e back)) ≡ true) [ true ↦ refl | false ↦ le_true 0 (freed_before key front e back) (omega arith) ]

pub left_zero : (key : List ℕ) (es : List Kept) → left key 0 es ≡ es
left_zero key es = all_stay key [] es

-- one goes, and what is left is what is left of the others
pub evict_one : (key : List ℕ) (need place time : ℕ) (es : List Kept) (is : IsEarliest key es place time) → 0 < need → left key need es ≡ left key (need - entry_cost is.entry) (is.front ++ is.back)
evict_one key need place time es is some =
    ap (left key need) is.split
    ∙ without_earliest key need [] is.front is.entry is.back is.other some tt
    (subst (λ t. AllByRecursion (ExpiresAfter key t) is.front) (sym is.expires) is.later)
    (subst (λ t. AllByRecursion (NotBefore key t) is.back) (sym is.expires) is.none_before)

remove_mid : (front : List Kept) (m : Kept) (back : List Kept) → remove (front ++ m ∷ back) (length front) ≡ front ++ back
remove_mid [] m back = refl
remove_mid (x ∷ front) m back = ap (λ xs. x ∷ xs) (remove_mid front m back)

get_mid : (front : List Kept) (m : Kept) (back : List Kept) (d : Kept) → get_or (front ++ m ∷ back) (length front) d ≡ m
get_mid [] m back d = refl
get_mid (x ∷ front) m back d = get_mid front m back d

mid_below : (front : List Kept) (m : Kept) (back : List Kept) → length front < length (front ++ m ∷ back)
mid_below [] m back = omega arith
mid_below (x ∷ front) m back = let below = mid_below front m back in omega arith

-- what the removal of the earliest entry does
pub record Evicts (key : List ℕ) (need place : ℕ) (es : List Kept) (e : Kept) : Type 0 where
  pub same : left key need es ≡ left key (need - entry_cost e) (remove es place)
  pub fewer : others key es ≡ entry_cost e + others key (remove es place)

pub earliest_below : (key : List ℕ) (place : ℕ) (es : List Kept) → Earliest key es (Some place) → place < length es
earliest_below key place es found =
    let is = found.1 in
    let below = mid_below is.front is.entry is.back in
    subst (λ xs. place < length xs) (sym is.split) (subst (λ n. n < length (is.front ++ is.entry ∷ is.back)) is.at below)

pub evict_step : (key : List ℕ) (need place : ℕ) (es : List Kept) (e : Kept) → Earliest key es (Some place) → 0 < need → e ≡ get_or es place e → Evicts key need place es e
evict_step key need place es e found some at =
    let is = found.1 in
    let removed : remove es place ≡ is.front ++ is.back = ap (λ xs. remove xs place) is.split ∙ ap (remove (is.front ++ is.entry ∷ is.back)) (sym is.at) ∙ remove_mid is.front is.entry is.back in
    let entry : e ≡ is.entry = at ∙ ap (λ xs. get_or xs place e) is.split ∙ ap (λ n. get_or (is.front ++ is.entry ∷ is.back) n e) (sym is.at) ∙ get_mid is.front is.entry is.back e in
    record {
      same =
          evict_one key need place found.0 es is some
          ∙ ap (λ x. left key (need - entry_cost x) (is.front ++ is.back)) (sym entry)
          ∙ ap (left key (need - entry_cost e)) (sym removed);
      fewer =
          ap (others key) is.split
          ∙ others_split key is.front is.entry is.back is.other
          ∙ ap (λ x. entry_cost x + others key (is.front ++ is.back)) (sym entry)
          ∙ ap (λ xs. entry_cost e + others key xs) (sym removed);
    }

-- where there is no other entry, nothing is needed
pub none_left : (key : List ℕ) (es : List Kept) → Earliest key es None → others key es ≡ 0
none_left key es found = others_own key es found.1
