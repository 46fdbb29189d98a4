-- What stands, cut to a depth.
use Rattle.std.proofs.Common.{◌≡◌, ℕ, zero, suc, ◌+◌, ◌-◌, ◌<◌, ◌≤◌, List, [], ◌∷◌, ◌++◌, length, map, reverse, drop, sym, ap, subst, ◌∙◌, arith, length-drop, length-append}
use Rattle.std.specs.List.{AllByRecursion}
use Rattle.std.proofs.lemmas.List.{length-map, drop-map, length-reverse, reverse-append, reverse-reverse}
use Rattle.std.proofs.Math.Seq.{drop-append-add}
use Rattle.njs_value.specs.declared.ScopeId.{ScopeId}
use Rattle.njs_shared.specs.declared.object.Scope.{Scope}
use Rattle.njs_shared.specs.Heap.{Heap, sizes}
use Rattle.njs_shared.specs.Fits.{FitsValue}
use Rattle.njs_code.specs.declared.op.Depth.{Depth}
use Rattle.njs_code.specs.Facts.{IsWithin}
use Rattle.njs_clone.specs.Content.{content}
use Rattle.njs_simul.specs.Stacks as plain
use Rattle.njs_simul.specs.Stacks.{lowest, cut_to}
use Rattle.njs_interp.specs.declared.stacks.Listing.{Listing}
use Rattle.njs_interp.specs.declared.stacks.Stacks.{Stacks}
use Rattle.njs_interp.specs.Plain.{number_of, plain_ending, plain_listing, plain_stacks}
use Rattle.njs_interp.specs.Sits.{Sits, Entered, FitsEnding}
use Rattle.njs_interp.specs.Acts.{Below}
use Rattle.njs_interp.specs.Leading.{IsCut}

-- ---- by content

lowest_map : {A B : Type 0} (f : A → B) (n : ℕ) (xs : List A) → map f (lowest n xs) ≡ lowest n (map f xs)
lowest_map f n xs =
    sym (drop-map f (length xs - n) xs) ∙ ap (λ k. drop (k - n) (map f xs)) (sym (length-map xs f))

pub cut_plain : (texts : List (List ℕ)) (depth : Depth) (old new : Stacks) → IsCut depth old new → plain_stacks texts new ≡ cut_to depth (plain_stacks texts old)
cut_plain texts depth old new cut =
    let operands : map (content texts) new.operands ≡ lowest depth.operands (map (content texts) old.operands) = ap (map (content texts)) cut.operands ∙ lowest_map (content texts) depth.operands old.operands in
    let scopes : map number_of new.scopes ≡ lowest depth.scopes (map number_of old.scopes) = ap (map number_of) cut.scopes ∙ lowest_map number_of depth.scopes old.scopes in
    let lists : map (plain_listing texts) (reverse new.lists.items) ≡ lowest depth.lists (map (plain_listing texts) (reverse old.lists.items)) = ap (map (plain_listing texts)) cut.lists ∙ lowest_map (plain_listing texts) depth.lists (reverse old.lists.items) in
    let endings : map (plain_ending texts) new.endings ≡ lowest depth.endings (map (plain_ending texts) old.endings) = ap (map (plain_ending texts)) cut.endings ∙ lowest_map (plain_ending texts) depth.endings old.endings in
    λ i. record { operands = operands i; scopes = scopes i; lists = lists i; endings = endings i }

-- what stands above makes no difference
lowest_above : {A : Type 0} (n : ℕ) (above xs : List A) → n ≤ length xs → lowest n (above ++ xs) ≡ lowest n xs
lowest_above n above xs le =
    let count : length (above ++ xs) - n ≡ length above + (length xs - n) = omega (arith, length-append above xs, le) in
    ap (λ k. drop k (above ++ xs)) count ∙ drop-append-add above xs (length xs - n)

pub cut_below : (depth : Depth) (st after : plain.Stacks) → Below st after → depth.operands ≤ length after.operands → cut_to depth st ≡ cut_to depth after
cut_below depth st after below le =
    let operands : lowest depth.operands st.operands ≡ lowest depth.operands after.operands = ap (lowest depth.operands) below.operands ∙ lowest_above depth.operands below.above after.operands le in
    λ i. record {
      operands = operands i;
      scopes = ap (lowest depth.scopes) below.scopes i;
      lists = ap (lowest depth.lists) below.lists i;
      endings = ap (lowest depth.endings) below.endings i;
    }

-- ---- what sits

all_dropped : {A : Type 0} (P : A → Type 0) (n : ℕ) (xs : List A) → AllByRecursion P xs → AllByRecursion P (drop n xs)
all_dropped P zero xs all = all
all_dropped P (suc n) [] all = tt
all_dropped P (suc n) (x ∷ xs) all = all_dropped P n xs all.1

all_joined : {A : Type 0} (P : A → Type 0) (xs ys : List A) → AllByRecursion P xs → AllByRecursion P ys → AllByRecursion P (xs ++ ys)
all_joined P [] ys p q = q
all_joined P (x ∷ xs) ys p q = (p.0, all_joined P xs ys p.1 q)

all_reversed : {A : Type 0} (P : A → Type 0) (xs : List A) → AllByRecursion P xs → AllByRecursion P (reverse xs)
all_reversed P [] all = tt
all_reversed P (x ∷ xs) all = subst (AllByRecursion P) (sym (reverse-append (x ∷ []) xs)) (all_joined P (reverse xs) (x ∷ []) (all_reversed P xs all.1) (all.0, tt))

all_back : {A : Type 0} (P : A → Type 0) (xs : List A) → AllByRecursion P (reverse xs) → AllByRecursion P xs
all_back P xs all = subst (AllByRecursion P) (reverse-reverse xs) (all_reversed P (reverse xs) all)

entered_dropped : (slots : List ℕ) (scopes : List Scope) (n : ℕ) (chain : List ScopeId) → n < length chain → Entered slots scopes chain → Entered slots scopes (drop n chain)
entered_dropped slots scopes zero chain lt entered = entered
entered_dropped slots scopes (suc n) [] lt entered = absurd (omega (arith, lt))
entered_dropped slots scopes (suc n) (own ∷ []) lt entered = absurd (omega (arith, lt))
entered_dropped slots scopes (suc n) (at ∷ (next ∷ rest)) lt entered = entered_dropped slots scopes n (next ∷ rest) (omega (arith, lt)) entered.1

lowest_length : {A : Type 0} (n : ℕ) (xs : List A) → n ≤ length xs → length (lowest n xs) ≡ n
lowest_length n xs le = omega (arith, length-drop (length xs - n) xs, le)

pub cut_sits : (h : Heap) (slots : List ℕ) (left depth : Depth) (old new : Stacks) → 1 ≤ depth.scopes → IsWithin depth left → IsCut depth old new → Sits h slots left old → Sits h slots depth new
cut_sits h slots left depth old new some within cut sits = record {
  operands = ap length cut.operands ∙ lowest_length depth.operands old.operands (omega (arith, sits.operands, within.operands));
  scopes = ap length cut.scopes ∙ lowest_length depth.scopes old.scopes (omega (arith, sits.scopes, within.scopes));
  lists = sym (length-reverse new.lists.items) ∙ ap length cut.lists ∙ lowest_length depth.lists (reverse old.lists.items) (omega (arith, sits.lists, within.lists, length-reverse old.lists.items));
  endings = ap length cut.endings ∙ lowest_length depth.endings old.endings (omega (arith, sits.endings, within.endings));
  values = subst (AllByRecursion (FitsValue (sizes h))) (sym cut.operands) (all_dropped (FitsValue (sizes h)) (length old.operands - depth.operands) old.operands sits.values);
  listed = all_back (λ (l : Listing). FitsValue (sizes h) l.value) new.lists.items
      (subst (AllByRecursion (λ (l : Listing). FitsValue (sizes h) l.value)) (sym cut.lists)
      (all_dropped (λ (l : Listing). FitsValue (sizes h) l.value) (length (reverse old.lists.items) - depth.lists) (reverse old.lists.items)
      (all_reversed (λ (l : Listing). FitsValue (sizes h) l.value) old.lists.items sits.listed)));
  ended = subst (AllByRecursion (FitsEnding (sizes h))) (sym cut.endings) (all_dropped (FitsEnding (sizes h)) (length old.endings - depth.endings) old.endings sits.ended);
  entered = subst (Entered slots h.scopes) (sym cut.scopes) (entered_dropped slots h.scopes (length old.scopes - depth.scopes) old.scopes (omega (arith, sits.scopes, within.scopes, some)) sits.entered);
}
