use Rattle.std.proofs.Common.{◌≡◌, sym, subst, rules}
use Rattle.njs_shared.specs.Heap.{Heap}
use Rattle.njs_convert.specs.Tells.{Tells, ShowsValue}
use Rattle.njs_meaning.specs.Functions.{calls_at}
use Rattle.njs_interp.specs.Standing.{Holds}
use Rattle.njs_interp.specs.Entries.{StandsIn, entry_by, answer_of}
use Rattle.njs_interp.proofs.Entries.{entry_fares, stands_after}
use Rattle.njs_interp.proofs.Invoking.{fared_tells, calls_fare, calls_keep}
use Rattle.njs_interp.proofs.start.run.Goals as goal

pub returns-clause-told : goal.returns-clause-told
returns-clause-told g c = λ k program is agrees. record {
  by = λ s stands.
      let h : Heap = c.args.machine.now in
      let new : Heap = c.enter_entry.new.machine in
      let host = c.enter_entry.new.own.host.now in
      let ticks = c.enter_entry.new.own.fuel.now.left in
      let host_is : c.host-1.given.0 ≡ host = search rules in
      let ticks_are : c.fuel-1.given.0.left ≡ ticks = search rules in
      let laws = g.met.H.Host in
      let calls = calls_at program 256 in
      let fare = calls_fare g.H.Host.means g.H.Host.constructs c.args.codes.now k program is (λ env calls fare row this args made s good. laws.answers_fare env calls fare row this args made s good) 256 in
      let keep = λ (h : g.row.H.Denot). calls_keep g.H.Host.means g.H.Host.constructs c.args.codes.now k program is (λ s. g.H.Host.halted h k s)
      (λ s t zones asked before. laws.halted_as h k s t zones asked before)
      (λ calls call construct row this args made s before. laws.answers_halt h k calls call construct row this args made s before) 256
      in
      let told =
      (c.enter_entry.ensures.told calls k program is
      (fare, keep, (λ alloc m f h callee way args steps r m' f' h' steps' post agrees. post.3.0 k program is agrees)) (subst (λ (h : g.row.H.Denot). g.H.Host.agrees h k) host_is agrees)).by s stands
      in
      let stopped = g.H.Host.halted host k in
      let outcome = entry_by program is.of_codes.scripts calls h.texts c.args.entry s in
      let around = StandsIn (g.H.Host.keeps host) ticks k is.of_codes.outermost new in
      subst (λ (x : g.row.H.Denot). Tells (StandsIn (g.H.Host.keeps x) c.fuel-1.given.0.left k is.of_codes.outermost new) (g.H.Host.halted x k) new.texts (ShowsValue new.texts) (answer_of c.outcome_of.result) outcome) (sym host_is)
      (subst (λ n. Tells (StandsIn (g.H.Host.keeps host) n k is.of_codes.outermost new) stopped new.texts (ShowsValue new.texts) (answer_of c.outcome_of.result) outcome) (sym ticks_are)
      (subst (λ r. Tells around stopped new.texts (ShowsValue new.texts) r outcome) (sym c.outcome_of.ensures)
      (fared_tells k.around (Holds (g.H.Host.keeps host) ticks k new) around stopped new.texts s
      (λ t fares holds. stands_after (g.H.Host.keeps host) ticks k is.of_codes.outermost new s stands.scoped t fares holds)
      c.enter_entry.result outcome
      (entry_fares g.H.Host.means g.H.Host.constructs c.args.codes.now k program is (λ env calls fare row this args made s good. laws.answers_fare env calls fare row this args made s good)
      g.H.Host.rows h calls fare c.args.entry c.requires.entry s stands.scoped stands.stands.good) told)));
}
