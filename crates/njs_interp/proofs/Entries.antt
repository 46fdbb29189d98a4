-- Where what a host runs leads.
use Rattle.std.proofs.Common.{ℕ, List, [], ◌∷◌, Bool, false, map, sym, subst}
use Rattle.njs_value.specs.declared.Row.{Row}
use Rattle.njs_shared.specs.Heap.{Heap}
use Rattle.njs_clone.specs.Content.{content}
use Rattle.njs_code.specs.declared.code.Code.{Code}
use Rattle.njs_meaning.specs.Values.{PlainValue}
use Rattle.njs_meaning.specs.Places.{Bindings}
use Rattle.njs_meaning.specs.Replies.{Known}
use Rattle.njs_meaning.specs.Running.{Calls}
use Rattle.njs_meaning.specs.State.{State}
use Rattle.njs_meaning.specs.Functions.{Program}
use Rattle.njs_simul.specs.Fits.{Names, Scoped, Good, Fares, Fared, CallsFare}
use Rattle.njs_simul.proofs.Kept.{scoped_keeps}
use Rattle.njs_interp.specs.declared.entry.Entry.{Entry}
use Rattle.njs_interp.specs.declared.entry.Entry.TheVariants as entry
use Rattle.njs_interp.specs.Hosts.{Answers}
use Rattle.njs_interp.specs.Standing.{Holds}
use Rattle.njs_interp.specs.Calling.{IsProgram}
use Rattle.njs_interp.specs.Entries.{StandsIn, entry_by, FitsEntry}
use Rattle.njs_interp.proofs.Bodies.{module_runs}

module _ (means : Answers) (constructs : Row → Bool) (codes : List Code) (k : Known) (program : Program) (is : IsProgram means constructs codes k program)
    (answers : (env : Names) (calls : Calls) → CallsFare env calls → (row : Row) (this : PlainValue) (args : List PlainValue) (made : Bool) (s : State) → Good env s → Fared env s (means calls row this args made s)) where
  -- from good states to good ones
  pub entry_fares : (rows : Row → Type 0) (h : Heap) (calls : Calls) → CallsFare k.around calls → (e : Entry) → FitsEntry rows codes h e → (s : State) → Scoped (is.of_codes.outermost ∷ []) s.scopes 0 → Good k.around s
      → Fared k.around s (entry_by program is.of_codes.scripts calls h.texts e s)
  entry_fares rows h calls fare (entry.Body unit) fits s scoped good =
      let runs = module_runs codes k program is.of_codes unit fits.0 fits.1 calls fare s scoped good in
      subst (Fared k.around s) (sym runs.meant) runs.fares
  entry_fares rows h calls fare (entry.Call callee this args) fits s scoped good = fare.call (content h.texts callee) (content h.texts this) (map (content h.texts) args.now) s good
  entry_fares rows h calls fare (entry.Row row this args) fits s scoped good =
      subst (λ (m : Answers). Fared k.around s (m calls row (content h.texts this) (map (content h.texts) args.now) false s)) (sym is.answers)
      (answers k.around calls fare row (content h.texts this) (map (content h.texts) args.now) false s good)

-- the states that a machine stands for after it
pub stands_after : (keeps : Known → State → Type 0) (ticks : ℕ) (k : Known) (outermost : Bindings) (h : Heap) (s : State) → Scoped (outermost ∷ []) s.scopes 0 → (t : State) → Fares k.around s t → Holds keeps ticks k h t
    → StandsIn keeps ticks k outermost h t
stands_after keeps ticks k outermost h s scoped t fares holds = record { stands = record { holds = holds; good = fares.good }; scoped = scoped_keeps (outermost ∷ []) 0 scoped fares.keeps }
