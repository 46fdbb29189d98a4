-- The steps, at a seat that is known up to an equation.
use Rattle.std.proofs.Common.{◌≡◌, ◌≢◌, ℕ, ◌+◌, ◌%◌, List, [], ◌∷◌, get_or, Option, Some, None, refl, sym, ap, ◌∙◌, subst, arith}
use mathlib.Core.Option.{none}
use Rattle.atomic_table.specs.Table.{State, step, rest, Allows}
use Rattle.dict_model.specs.declared.operation.Entry.{Entry}
use Rattle.dict_model.specs.declared.operation.DictOp.{DictOp}
use Rattle.dict_model.specs.declared.operation.DictReply.{DictReply}
use Rattle.dict_model.specs.declared.operation.ZoneSpec.{ZoneSpec}
use Rattle.dict_model.specs.Zone.{State as DictState, dict}
use Rattle.dict_model.specs.History.{Legal, state_after, Begins}
use Rattle.dict_lock.specs.declared.view.ZoneView.{ZoneView}
use Rattle.dict_lock.specs.declared.view.Held.{Held}
use Rattle.dict_lock.specs.Rule.{HeldFits, Orderly}
use Rattle.dict_lock.specs.Views.{waits, holds, entry_by}
use Rattle.dict_lock.specs.Plays.{Sat, Entered, added, passed}
use Rattle.dict_lock.specs.Known.{number_of}
use Rattle.dict_lock.specs.Seats.{IsInTurn, Enters}
use Rattle.dict_lock.proofs.Turning.{passes}
use Rattle.dict_lock.proofs.Writing.{commits}

pub own_is : (own : Option ℕ) → own ≢ None → own ≡ Some (number_of own)
own_is None named = absurd (named refl)
own_is (Some n) named = refl

module _ {Z : Type 0} (spec_of : Z → ZoneSpec) (state_of : Z → DictState) (spec : ZoneSpec) where
  abbrev Rule : State (Option (Held Z)) ZoneView → Type 0
  Rule = Orderly spec_of state_of spec

  -- the state was put back into the empty slot
  pub passes_as : (slots id : ℕ) (before m : Sat Z) (held : Held Z) → m ≡ (before.0, (0, Some held) ∷ rest before.1) → IsInTurn before → HeldFits spec_of state_of before.0.of before.0.whole before.0.made held
      → Allows Rule slots id m 1 (λ n. (n + 1) % 18446744073709551616) (passed (step slots 1 1 0 none) m)
  passes_as slots id before m held is turn ok =
      let full : m ≡ (before.0, (0, Some held) ∷ []) = is ∙ ap (λ (l : List (ℕ × Option (Held Z))). (before.0, (0, Some held) ∷ rest l)) turn.2 in
      subst (λ (x : Sat Z). Allows Rule slots id x 1 (λ n. (n + 1) % 18446744073709551616) (passed (step slots 1 1 0 none) x)) (sym full) (passes spec_of state_of spec slots id before.0 held turn.0 ok)

  pub commits_as : (slots id : ℕ) (m : Sat Z) (e : Entry) (op : DictOp) (reading : ℕ) (reply : DictReply) → IsInTurn m → e ≡ entry_by (number_of m.0.own) op reading reply
      → reply ≡ (dict m.0.of (state_after m.0.of m.0.whole) op reading).0
      → Allows Rule slots id m 2 (λ n. (n + 1) % 18446744073709551616) (added e (step slots 2 1 0 none) m)
  commits_as slots id m e op reading reply turn is legal =
      let own : m.0.own ≡ Some e.caller = own_is m.0.own turn.1 ∙ ap (λ (x : Entry). Some x.caller) (sym is) in
      commits spec_of state_of spec slots id m.0 m.1 e turn.0 own
      (ap (λ (x : Entry). x.reply) is ∙ legal ∙ ap (λ (x : Entry). (dict m.0.of (state_after m.0.of m.0.whole) x.op x.reading).0) (sym is))

  -- the state was taken out of the slot
  pub enters_as : (m d w n : Sat Z) (r : Option (Held Z)) (held : Held Z) → d ≡ (waits m.0 d.0.ticket, m.1) → m.1 ≡ [] → Entered spec_of state_of d w
      → w.1 ≡ (0, r) ∷ rest w.1 → n ≡ (w.0, (0, None) ∷ rest w.1) → r ≡ Some held → Enters spec_of state_of m held n
  enters_as m d w n r held de empty (whole, next, h, eq, fits, legal, made, pre, le, few) we ne re =
      let d₀ : d.0 ≡ waits m.0 d.0.ticket = ap (λ (x : Sat Z). x.0) de in
      let w₀ : w.0 ≡ holds (waits m.0 d.0.ticket) whole next = ap (λ (x : Sat Z). x.0) eq ∙ ap (λ (v : ZoneView). holds v whole next) d₀ in
      let w₁ : w.1 ≡ (0, Some h) ∷ [] = ap (λ (x : Sat Z). x.1) eq ∙ ap (λ (l : List (ℕ × Option (Held Z))). (0, Some h) ∷ l) (ap (λ (x : Sat Z). x.1) de ∙ empty) in
      let heads : (0, r) ∷ rest w.1 ≡ (0, Some h) ∷ [] = sym we ∙ w₁ in
      let out : r ≡ Some h = ap (λ (l : List (ℕ × Option (Held Z))). (get_or l 0 (0, r)).1) heads in
      let same : h ≡ held = cc in
      let of : d.0.of ≡ m.0.of = ap (λ (v : ZoneView). v.of) d₀ in
      let seen : d.0.seen ≡ m.0.seen = ap (λ (v : ZoneView). v.seen) d₀ in
      let known : d.0.made ≡ m.0.made = ap (λ (v : ZoneView). v.made) d₀ in (
        d.0.ticket,
        whole,
        next,
        ne ∙ (λ i. (w₀ i, (0, None) ∷ rest (w₁ i))),
        subst (λ (x : Held Z). HeldFits spec_of state_of m.0.of whole next x) same (subst (λ z. HeldFits spec_of state_of z whole next h) of fits),
        subst (λ z. Legal z whole) of legal,
        made,
        subst (λ (l : List Entry). Begins l whole) seen pre,
        omega arith,
        few,
      )
