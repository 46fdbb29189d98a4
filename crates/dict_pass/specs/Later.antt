-- What comes later, from one state to the next and over several.
use Rattle.std.proofs.Common.{◌++◌, List, [], ◌∷◌, refl, sym, ap, ◌∙◌, le_refl, le_trans, append_assoc}
use Rattle.std.proofs.lemmas.List.{append-nil}
use Rattle.dict_model.specs.declared.operation.Entry.{Entry}
use Rattle.dict_model.specs.History.{Begins}
use Rattle.dict_lock.specs.Known.{Caller}
use Rattle.dict_pass.specs.Callers.{ComesLater, EachPair}

later_self : (k : Caller) → ComesLater k k
later_self k = record { zone = refl; number = refl; closed = refl; seen = ([], append-nil k.seen); made = le_refl k.made }

begins_later : (x y z : List Entry) → Begins x y → Begins y z → Begins x z
begins_later x y z first second = (first.0 ++ second.0, sym (append_assoc x first.0 second.0) ∙ ap (λ more. more ++ second.0) first.1 ∙ second.1)

later_later : (x y z : Caller) → ComesLater x y → ComesLater y z → ComesLater x z
later_later x y z first second = record {
  zone = second.zone ∙ first.zone;
  number = second.number ∙ first.number;
  closed = second.closed ∙ first.closed;
  seen = begins_later x.seen y.seen z.seen first.seen second.seen;
  made = le_trans first.made second.made;
}

pub later_reflexive : (xs : List Caller) → EachPair ComesLater xs xs
later_reflexive [] = tt
later_reflexive (x ∷ xs) = (later_self x, later_reflexive xs)

pub later_transitive : (xs ys zs : List Caller) → EachPair ComesLater xs ys → EachPair ComesLater ys zs → EachPair ComesLater xs zs
later_transitive [] [] [] first second = tt
later_transitive [] [] (z ∷ zs) first second = absurd second
later_transitive [] (y ∷ ys) zs first second = absurd first
later_transitive (x ∷ xs) [] zs first second = absurd first
later_transitive (x ∷ xs) (y ∷ ys) [] first second = absurd second
later_transitive (x ∷ xs) (y ∷ ys) (z ∷ zs) first second = (later_later x y z first.0 second.0, later_transitive xs ys zs first.1 second.1)
