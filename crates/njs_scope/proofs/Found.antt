-- What was found in two parts of the text, one after the other.
use Rattle.std.proofs.Common.{◌≡◌, List, ◌++◌, sym, ap, ◌∙◌, append_assoc}

pub joined : {A : Type 0} (a b new mid old : List A) → new ≡ a ++ mid → mid ≡ b ++ old → new ≡ (a ++ b) ++ old
joined a b new mid old h k = h ∙ ap (λ rest. a ++ rest) k ∙ sym (append_assoc a b old)
