-- Two values that are converted, the left before the right, and what follows both.
use Rattle.std.proofs.Common.{◌≡◌, ℕ, List, Result, Ok, Err, sym, subst}
use Rattle.njs_meaning.specs.Values.{PlainValue}
use Rattle.njs_meaning.specs.State.{State, Outcome, and_then}
use Rattle.njs_meaning.specs.Replies.{state_of}
use Rattle.njs_convert.specs.declared.stop.Stop.{Stop}
use Rattle.njs_convert.specs.Tells.{Tells, Means}
use Rattle.njs_convert.proofs.Outcomes.{then_tells, then_ends}
use Rattle.njs_convert.proofs.Stopped.{then_keeps}

-- a definition by other words
pub means_is : {V A : Type 0} (before after stopped : State → Type 0) (texts : List (List ℕ)) (shows : V → A → Type 0) (r : Result V Stop) (meaning other : State → Outcome A) → ((s : State) → meaning s ≡ other s)
    → Means before after stopped texts shows r other → Means before after stopped texts shows r meaning
means_is before after stopped texts shows r meaning other is means = record { by = λ s stands. subst (Tells after stopped texts shows r) (sym (is s)) (means.by s stands) }

-- the second value, and what follows
abbrev pub then_second : {A B : Type 0} → (PlainValue → State → Outcome A) → (A → A → State → Outcome B) → PlainValue → A → State → Outcome B
then_second convert go b p s = and_then (convert b s) (go p)

abbrev pub both : {A B : Type 0} → (PlainValue → State → Outcome A) → (A → A → State → Outcome B) → PlainValue → PlainValue → State → Outcome B
both convert go a b s = and_then (convert a s) (then_second convert go b)

module _ {A V B W : Type 0} (convert : PlainValue → State → Outcome A) (go : A → A → State → Outcome B) (a b : PlainValue) where
  module _ (stopped : State → Type 0) (convert_keeps : (v : PlainValue) (s : State) → stopped s → stopped (state_of (convert v s))) (go_keeps : (p q : A) (s : State) → stopped s → stopped (state_of (go p q s))) where
    -- the first gives none
    pub first_ends : (after : State → Type 0) (texts : List (List ℕ)) (shows : V → A → Type 0) (shows' : W → B → Type 0) (stop : Stop) (s : State)
        → Tells after stopped texts shows (Err stop) (convert a s) → Tells after stopped texts shows' (Err stop) (both convert go a b s)
    first_ends after texts shows shows' stop s tells =
        then_ends after stopped texts shows shows' stop (convert a s) (then_second convert go b) tells
        (λ p t kept. then_keeps stopped (convert b t) (go p) (convert_keeps b t kept) (λ q u. go_keeps p q u))

    -- the second gives none
    pub second_ends : (between after stopped' : State → Type 0) (texts texts' : List (List ℕ)) (shows shows₂ : V → A → Type 0) (shows' : W → B → Type 0) (v : V) (stop : Stop) (s : State)
        → Tells between stopped' texts shows (Ok v) (convert a s) → ((t : State) → between t → Tells after stopped texts' shows₂ (Err stop) (convert b t)) → Tells after stopped texts' shows' (Err stop) (both convert go a b s)
    second_ends between after stopped' texts texts' shows shows₂ shows' v stop s first second =
        then_tells between after stopped' stopped texts texts' shows shows' v (Err stop) (convert a s) (then_second convert go b) first
        (λ p t shown here. then_ends after stopped texts' shows₂ shows' stop (convert b t) (go p) (second t here) (λ q u. go_keeps p q u))

  -- both give one
  pub both_tell : (first second after stopped₁ stopped₂ stopped : State → Type 0) (texts₁ texts₂ texts : List (List ℕ)) (shows₁ shows₂ : V → A → Type 0) (shows : W → B → Type 0) (v w : V) (r : Result W Stop) (s : State)
      → Tells first stopped₁ texts₁ shows₁ (Ok v) (convert a s) → ((t : State) → first t → Tells second stopped₂ texts₂ shows₂ (Ok w) (convert b t))
      → ((p q : A) (u : State) → shows₁ v p → shows₂ w q → second u → Tells after stopped texts shows r (go p q u)) → Tells after stopped texts shows r (both convert go a b s)
  both_tell first second after stopped₁ stopped₂ stopped texts₁ texts₂ texts shows₁ shows₂ shows v w r s tells tells₂ rest =
      then_tells first after stopped₁ stopped texts₁ texts shows₁ shows v r (convert a s) (then_second convert go b) tells
      (λ p t shown here. then_tells second after stopped₂ stopped texts₂ texts shows₂ shows w r (convert b t) (go p) (tells₂ t here) (λ q u shown₂ there. rest p q u shown shown₂ there))
