-- How the answers of a request's rows tell what the rows mean.
use Rattle.std.proofs.Common.{◌≡◌, ℕ, ◌-◌, ◌<◌, ◌≤◌, List, [], true, false, cond, Result, Ok, Err, refl, sym, ap, ◌∙◌, subst, arith}
use Rattle.std.proofs.lemmas.Bool.{le-ltb, lt-ltb}
use Rattle.std.specs.Prelude.{nat_lt, OnErr}
use Rattle.njs_value.specs.declared.TextId.{TextId}
use Rattle.njs_value.specs.declared.Value.{Value}
use Rattle.njs_value.specs.declared.Value.TheVariants as value
use Rattle.njs_clone.specs.Content.{content}
use Rattle.njs_meaning.specs.Values.{PlainValue}
use Rattle.njs_meaning.specs.State.{State, Outcome, Gives, Throws, Spent, Asks, Call}
use Rattle.njs_meaning.specs.Replies.{state_of}
use Rattle.njs_meaning.specs.Conversions.{to_text}
use Rattle.njs_meaning.specs.Running.{charge}
use Rattle.njs_convert.specs.declared.stop.Stop.{Stop}
use Rattle.njs_convert.specs.declared.stop.Stop.TheVariants.{Throw, Fuel, NoMemory}
use Rattle.njs_convert.specs.Tells.{Tells, ShowsText, text_at}
use Rattle.njs_request.specs.Return.{optional_text}
use Rattle.njs_request.specs.Tells.{ShowsContent, is_undefined}

-- an end tells the same, whatever a value would have shown
pub ends_same : {V W A : Type 0} (after stopped : State → Type 0) (texts : List (List ℕ)) (shows : V → A → Type 0) (shows' : W → A → Type 0) (stop : Stop) (o : Outcome A)
    → Tells after stopped texts shows (Err stop) o → Tells after stopped texts shows' (Err stop) o
ends_same after stopped texts shows shows' (Throw v) (Gives a s) t = absurd t
ends_same after stopped texts shows shows' (Throw v) (Throws w s) t = t
ends_same after stopped texts shows shows' (Throw v) (Spent s) t = absurd t
ends_same after stopped texts shows shows' (Throw v) (Asks zone op s) t = absurd t
ends_same after stopped texts shows shows' Fuel (Gives a s) t = absurd t
ends_same after stopped texts shows shows' Fuel (Throws w s) t = absurd t
ends_same after stopped texts shows shows' Fuel (Spent s) t = t
ends_same after stopped texts shows shows' Fuel (Asks zone op s) t = absurd t
ends_same after stopped texts shows shows' NoMemory o t = t

-- ---- the text of an argument

pub undefined_gives : (texts : List (List ℕ)) (v : Value) (call : Call) (s : State) → is_undefined v ≡ true → optional_text call (content texts v) s ≡ Gives [] s
undefined_gives texts value.Undefined call s e = refl
undefined_gives texts value.Null call s e = cc
undefined_gives texts (value.Bool b) call s e = cc
undefined_gives texts (value.Num n) call s e = cc
undefined_gives texts (value.Str t) call s e = cc
undefined_gives texts (value.Obj o) call s e = cc

pub other_converts : (texts : List (List ℕ)) (v : Value) (call : Call) (s : State) → is_undefined v ≡ false → optional_text call (content texts v) s ≡ to_text call (content texts v) s
other_converts texts value.Undefined call s e = cc
other_converts texts value.Null call s e = refl
other_converts texts (value.Bool b) call s e = refl
other_converts texts (value.Num n) call s e = refl
other_converts texts (value.Str t) call s e = refl
other_converts texts (value.Obj o) call s e = refl

-- a text of the heap that was copied
pub copied_tells : (after stopped : State → Type 0) (texts : List (List ℕ)) (id : TextId) (body : List ℕ) (o : Outcome (List ℕ)) → text_at texts id ≡ body
    → Tells after stopped texts (ShowsText texts) (Ok id) o → Tells after stopped texts ShowsContent (Ok body) o
copied_tells after stopped texts id body (Gives t s) is told = (sym is ∙ told.0, told.1)
copied_tells after stopped texts id body (Throws w s) is told = absurd told
copied_tells after stopped texts id body (Spent s) is told = absurd told
copied_tells after stopped texts id body (Asks zone op s) is told = absurd told

-- one that could not be copied
pub not_copied : {V A : Type 0} (after stopped : State → Type 0) (texts : List (List ℕ)) (shows : V → A → Type 0) (v : V) (o : Outcome A) → ((s : State) → after s → stopped s)
    → Tells after stopped texts shows (Ok v) o → stopped (state_of o)
not_copied after stopped texts shows v (Gives a s) stops told = stops s told.1
not_copied after stopped texts shows v (Throws w s) stops told = absurd told
not_copied after stopped texts shows v (Spent s) stops told = absurd told
not_copied after stopped texts shows v (Asks zone op s) stops told = absurd told

-- ---- the tick of a call

module _ {V : Type 0} (after stopped : State → Type 0) (texts : List (List ℕ)) (shows : V → PlainValue → Type 0) (go : State → Outcome PlainValue) (s : State) where
  pub paid_tells : (ticks left : ℕ) (r : Result V Stop) → s.ticks ≡ ticks → 1 ≤ ticks → left ≡ ticks - 1
      → Tells after stopped texts shows r (go (record s { ticks = left })) → Tells after stopped texts shows r (charge 1 go s)
  paid_tells ticks left r own enough is told =
      let free : nat_lt s.ticks 1 ≡ false = le-ltb s.ticks 1 (omega (arith, enough, own)) in
      let taken : left ≡ s.ticks - 1 = is ∙ ap (λ n. n - 1) (sym own) in
      subst (λ b. Tells after stopped texts shows r (cond b (Spent s) (go (record s { ticks = s.ticks - 1 })))) (sym free)
      (subst (λ n. Tells after stopped texts shows r (go (record s { ticks = n }))) taken told)

  pub unpaid_tells : (ticks left : ℕ) (r : Result (Unit {0}) Stop) (stop : Stop) → r ≡ Err stop → s.ticks ≡ ticks → OnErr r ((r ≡ Err Fuel) × (ticks < 1) × (left ≡ ticks))
      → after (record s { ticks = left }) → Tells after stopped texts shows (Err stop) (charge 1 go s)
  unpaid_tells ticks left (Ok done) stop ends own short here = cc
  unpaid_tells ticks left (Err other) stop ends own short here =
      let same : stop ≡ Fuel = cc in
      let few : nat_lt s.ticks 1 ≡ true = lt-ltb s.ticks 1 (omega (arith, short.1, own)) in
      let kept : left ≡ s.ticks = short.2 ∙ sym own in
      subst (λ (e : Stop). Tells after stopped texts shows (Err e) (charge 1 go s)) (sym same)
      (subst (λ b. Tells after stopped texts shows (Err Fuel) (cond b (Spent s) (go (record s { ticks = s.ticks - 1 })))) (sym few)
      (subst (λ n. after (record s { ticks = n })) kept here))
