-- Later lists.
use Rattle.std.specs.Prelude.{List, [], ◌∷◌, ◌++◌}
use Rattle.std.proofs.Common.{sym, ap, ◌∙◌, append_assoc}
use Rattle.std.proofs.lemmas.List.{append-nil}
use Rattle.dict_model.specs.declared.operation.Entry.{Entry}
use Rattle.dict_model.specs.History.{Later}

pub later_reflexive : (a : List (List Entry)) → Later a a
later_reflexive [] = tt
later_reflexive (own ∷ owns) = (([], append-nil own), later_reflexive owns)

pub later_transitive : (a b c : List (List Entry)) → Later a b → Later b c → Later a c
later_transitive [] [] [] first second = tt
later_transitive [] [] (z ∷ c) first second = absurd second
later_transitive [] (y ∷ b) c first second = absurd first
later_transitive (x ∷ a) [] c first second = absurd first
later_transitive (x ∷ a) (y ∷ b) [] first second = absurd second
later_transitive (x ∷ a) (y ∷ b) (z ∷ c) first second = (
  (first.0.0 ++ second.0.0, sym (append_assoc x first.0.0 second.0.0) ∙ ap (λ xs. xs ++ second.0.0) first.0.1 ∙ second.0.1),
  later_transitive a b c first.1 second.1,
)
