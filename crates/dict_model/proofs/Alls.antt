-- Facts of each entry of a list.
use Rattle.std.proofs.Common.{◌≡◌, true, false, cond, List, [], ◌∷◌, ◌++◌, filter, refl, ap, ◌∙◌}
use Rattle.std.specs.Prelude.{Bool}
use Rattle.std.specs.List.{AllByRecursion}
use Rattle.dict_model.specs.declared.operation.Kept.{Kept}

pub all_append : (P : Kept → Type 0) (xs ys : List Kept) → AllByRecursion P xs → AllByRecursion P ys → AllByRecursion P (xs ++ ys)
all_append P [] ys first second = second
all_append P (x ∷ xs) ys first second = (first.0, all_append P xs ys first.1 second)

pub all_weaker : (P Q : Kept → Type 0) → ((e : Kept) → P e → Q e) → (xs : List Kept) → AllByRecursion P xs → AllByRecursion Q xs
all_weaker P Q weaker [] all = tt
all_weaker P Q weaker (x ∷ xs) all = (weaker x all.0, all_weaker P Q weaker xs all.1)

pub all_filter : (P : Kept → Type 0) (test : Kept → Bool) (es : List Kept) → AllByRecursion P es → AllByRecursion P (filter test es)
all_filter P test [] all = tt
all_filter P test (e ∷ es) all =
    elim (test e) as (λ b. AllByRecursion P (cond b (e ∷ filter test es) (filter test es))) [
      | true ↦ (all.0, all_filter P test es all.1)
      | false ↦ all_filter P test es all.1
    ]

-- what a filter keeps, it keeps again
pub filter_twice : (test : Kept → Bool) (es : List Kept) → filter test (filter test es) ≡ filter test es
filter_twice test [] = refl
filter_twice test (e ∷ es) =
    elim (test e) as (λ b. test e ≡ b → filter test (cond b (e ∷ filter test es) (filter test es)) ≡ cond b (e ∷ filter test es) (filter test es)) [
      | true ↦ λ h. ap (λ b. cond b (e ∷ filter test (filter test es)) (filter test (filter test es))) h ∙ ap (λ xs. e ∷ xs) (filter_twice test es)
      | false ↦ λ h. filter_twice test es
    ] refl

-- what fails the test might as well not be there
pub filter_without : (test : Kept → Bool) (front : List Kept) (e : Kept) (back : List Kept) → test e ≡ false → filter test (front ++ e ∷ back) ≡ filter test (front ++ back)
filter_without test [] e back fails = ap (λ b. cond b (e ∷ filter test back) (filter test back)) fails
filter_without test (x ∷ front) e back fails = ap (λ xs. cond (test x) (x ∷ xs) xs) (filter_without test front e back fails)
