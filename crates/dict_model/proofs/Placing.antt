-- The search for the place of a key's entry.
use Rattle.std.proofs.Common.{◌≡◌, ◌<◌, ◌≤◌, ◌+◌, ℕ, suc, true, false, cond, List, [], ◌∷◌, ◌++◌, length, take, drop, get_or, refl, sym, ap, ◌∙◌, append_assoc, drop-cons, add-one}
use Rattle.std.proofs.lemmas.List.{append-nil, drop_all, take_all, take_more, set_split}
use Rattle.dict_model.specs.declared.operation.Kept.{Kept}
use Rattle.dict_model.specs.Eviction.{has_key}
use Rattle.dict_model.specs.Zone.{without, put}
use Rattle.dict_model.specs.Places.{IsPlace, IsNowhere}

-- no entry up to a place is the key's
pub record Passed (key : List ℕ) (es : List Kept) (place : ℕ) : Type 0 where
  pub removed : without key es ≡ take place es ++ without key (drop place es)
  pub put_there : (new : Kept) → new.key ≡ key → put new es ≡ take place es ++ put new (drop place es)

pub passed_none : (key : List ℕ) (es : List Kept) → Passed key es 0
passed_none key es = record { removed = refl; put_there = λ new same. refl }

here : (es : List Kept) (place : ℕ) (e : Kept) → place < length es → e ≡ get_or es place e → drop place es ≡ e ∷ drop (place + 1) es
here es place e below is = drop-cons es place e below ∙ ap (λ x. x ∷ drop (suc place) es) (sym is) ∙ ap (λ n. e ∷ drop n es) (sym (add-one place))

without_passes : (key : List ℕ) (e : Kept) (es : List Kept) → has_key key e ≡ false → without key (e ∷ es) ≡ e ∷ without key es
without_passes key e es differs = ap (λ b. cond b es (e ∷ without key es)) differs

put_passes : (new e : Kept) (es : List Kept) → has_key new.key e ≡ false → put new (e ∷ es) ≡ e ∷ put new es
put_passes new e es differs = ap (λ b. cond b (new ∷ es) (e ∷ put new es)) differs

without_hits : (key : List ℕ) (e : Kept) (es : List Kept) → has_key key e ≡ true → without key (e ∷ es) ≡ es
without_hits key e es same_key = ap (λ b. cond b es (e ∷ without key es)) same_key

put_hits : (new e : Kept) (es : List Kept) → has_key new.key e ≡ true → put new (e ∷ es) ≡ new ∷ es
put_hits new e es same_key = ap (λ b. cond b (new ∷ es) (e ∷ put new es)) same_key

-- a list up to one more place, and what follows
one_more : (es rest : List Kept) (place : ℕ) (e : Kept) → place < length es → e ≡ get_or es place e → take place es ++ (e ∷ rest) ≡ take (place + 1) es ++ rest
one_more es rest place e below is =
    sym (append_assoc (take place es) (e ∷ []) rest) ∙ ap (λ x. (take place es ++ x ∷ []) ++ rest) is ∙ ap (λ front. front ++ rest) (sym (take_more es place e below))

pub passed_more : (key : List ℕ) (es : List Kept) (place : ℕ) (e : Kept) → Passed key es place → place < length es → e ≡ get_or es place e → has_key key e ≡ false → Passed key es (place + 1)
passed_more key es place e so_far below is differs = record {
  removed =
      so_far.removed
      ∙ ap (λ rest. take place es ++ without key rest) (here es place e below is)
      ∙ ap (λ rest. take place es ++ rest) (without_passes key e (drop (place + 1) es) differs)
      ∙ one_more es (without key (drop (place + 1) es)) place e below is;
  put_there = λ new same.
      so_far.put_there new same
      ∙ ap (λ rest. take place es ++ put new rest) (here es place e below is)
      ∙ ap (λ rest. take place es ++ rest) (put_passes new e (drop (place + 1) es) (ap (λ k. has_key k e) same ∙ differs))
      ∙ one_more es (put new (drop (place + 1) es)) place e below is;
}

pub passed_hit : (key : List ℕ) (es : List Kept) (place : ℕ) (e : Kept) → Passed key es place → place < length es → e ≡ get_or es place e → has_key key e ≡ true → IsPlace key es place
passed_hit key es place e so_far below is same_key = record {
  below = below;
  removed =
      so_far.removed
      ∙ ap (λ rest. take place es ++ without key rest) (here es place e below is)
      ∙ ap (λ rest. take place es ++ rest) (without_hits key e (drop (place + 1) es) same_key)
      ∙ ap (λ n. take place es ++ drop n es) (add-one place);
  replaced = λ new same.
      so_far.put_there new same
      ∙ ap (λ rest. take place es ++ put new rest) (here es place e below is)
      ∙ ap (λ rest. take place es ++ rest) (put_hits new e (drop (place + 1) es) (ap (λ k. has_key k e) same ∙ same_key))
      ∙ ap (λ n. take place es ++ new ∷ drop n es) (add-one place)
      ∙ sym (set_split es place new below);
}

pub passed_all : (key : List ℕ) (es : List Kept) (place : ℕ) → Passed key es place → length es ≤ place → IsNowhere key es
passed_all key es place so_far past = record {
  removed = so_far.removed ∙ ap (λ rest. take place es ++ without key rest) (drop_all place es past) ∙ append-nil (take place es) ∙ take_all place es past;
  added = λ new same.
      so_far.put_there new same ∙ ap (λ rest. take place es ++ put new rest) (drop_all place es past) ∙ ap (λ front. front ++ new ∷ []) (take_all place es past);
}
