use Rattle.std.proofs.Common.{ℕ, List, Option, ap, sym, ◌∙◌, subst}
use Rattle.njs_convert.specs.Tells.{Tells, ShowsValue}
use Rattle.njs_interp.specs.declared.entry.Entry.{Entry}
use Rattle.njs_interp.specs.Hosts.{FitsProgram}
use Rattle.njs_interp.specs.Standing.{Holds}
use Rattle.njs_interp.specs.Entries.{entry_by}
use Rattle.njs_interp.proofs.Invoking.{widens_grows}
use Rattle.njs_interp.proofs.start.enter_entry.Goals as goal

pub returns-in-Body-clause-told : goal.returns-in-Body-clause-told
returns-in-Body-clause-told g c = λ calls k program is follows agrees. record {
  by = λ s stands.
      let new = c.run_body.new.machine in
      let own = c.run_body.new.caller in
      subst (λ (e : Entry). Tells (Holds (g.H.Host.keeps own.host.now) own.fuel.now.left k new) (g.H.Host.halted own.host.now k) new.texts (ShowsValue new.texts) c.run_body.result (entry_by program is.of_codes.scripts calls c.args.machine.now.texts e s))
      (sym c.in-Body.is) ((c.run_body.ensures.told calls k program is.of_codes follows agrees).by s (stands.stands, stands.scoped));
}

pub returns-in-Body-clause-entered : goal.returns-in-Body-clause-entered
returns-in-Body-clause-entered g c =
    let new = c.run_body.new.machine in
    let own = c.run_body.new.caller in
    record {
      agrees = c.run_body.ensures.agrees;
      fits = subst (λ (counts : ℕ → ℕ → Option (List ℕ)). FitsProgram g.H.Host.rows (g.H.Host.zones own.host.now) counts new) (ap (λ l. l.counts) c.run_body.ensures.same ∙ c.requires.counts) c.run_body.ensures.fits;
      grows = widens_grows c.args.machine.now new c.run_body.ensures.widens;
      value = c.run_body.ensures.value;
      spent = c.run_body.ensures.spent;
      steps = c.run_body.ensures.steps;
    }
