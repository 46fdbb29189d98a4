-- The two relations that hold of runs: nothing is answered once no reply is to come, and the replies stay.
use Rattle.std.proofs.Common.{◌≡◌, ◌++◌, Some, sym, ap, subst, ◌∙◌, slice_get}
use Rattle.njs_meaning.specs.State.{State}
use Rattle.njs_meaning.specs.Replies.{replies_of, IsExhausted}
use Rattle.njs_simul.specs.Asking.{Quiet, KeepsReplies, RunsEnd, ProgramEnds, AlwaysEnds, SaysOfDictionaries, Holding, KeepsEverywhere, NothingMore, RepliesStay}
use Rattle.njs_simul.proofs.AskingSteps.{IsThrough}
use Rattle.njs_simul.proofs.AskingZones.{quiet_asks, replies_asks}
use Rattle.njs_simul.proofs.AskingRuns.{run_to}
use Rattle.njs_simul.proofs.AskingCalls.{calls_end}
use Rattle.njs_simul.proofs.AlwaysCalls.{calls_always_end, to_run_module}

exhausted_same : (s t : State) → t.zones ≡ s.zones → IsExhausted s → IsExhausted t
exhausted_same s t zones h = record { each = λ zone z is. h.each zone z (subst (λ zs. slice_get zs zone ≡ Some z) zones is) }

pub quiet_through : IsThrough Quiet
quiet_through = record {
  same = λ s t zones asked h. (asked, exhausted_same s t zones h);
  join = λ s t u a b h. let p = a h in let q = b p.1 in (q.0 ∙ p.0, q.1);
}

replies_same : (s t : State) → t.zones ≡ s.zones → t.asked ≡ s.asked → KeepsReplies s t
replies_same s t zones asked replies h = record {
  each = λ zone z is.
      h.each zone z (subst (λ zs. slice_get zs zone ≡ Some z) zones is) ∙ ap (λ xs. Some (replies_of zone xs ++ z.replies)) (sym asked);
}

pub replies_through : IsThrough KeepsReplies
replies_through = record { same = replies_same; join = λ s t u a b replies h. b replies (a replies h) }

runs_end : (R : State → State → Type 0) → IsThrough R → RunsEnd R
runs_end R through env frame code outcome rest st s fare ends run = run_to R through env frame code fare ends outcome run

program_ends : (R : State → State → Type 0) → IsThrough R → ProgramEnds R
program_ends R through scripts outermost program same fares answers n = calls_end R through scripts outermost program same fares answers n

-- from every state
pub always_ends : (R : State → State → Type 0) → IsThrough R → AlwaysEnds R
always_ends R through = (λ scripts program same answers n. calls_always_end R through scripts program same answers n, λ calls ends unit script s. to_run_module R through calls ends unit script s)

pub keeps_everywhere : (P : State → Type 0) → SaysOfDictionaries P → KeepsEverywhere P
keeps_everywhere P stays = always_ends (Holding P) (record { same = λ s t zones asked h. stays s t zones asked h; join = λ s t u a b h. b (a h) })

pub nothing_more : NothingMore
nothing_more = (λ zone op go s next. quiet_asks zone op go s next, runs_end Quiet quiet_through, program_ends Quiet quiet_through, always_ends Quiet quiet_through)

pub replies_stay : RepliesStay
replies_stay = (λ zone op go s next. replies_asks zone op go s next, runs_end KeepsReplies replies_through, program_ends KeepsReplies replies_through, always_ends KeepsReplies replies_through)
