-- Authorisations have their signatures, by what every run keeps.
use Rattle.std.proofs.Common.{ℕ, List, [], ◌∷◌, ◌++◌}
use Rattle.spec_calculus.specs.Configuration.{Configuration}
use Rattle.spec_run.specs.declared.outcome.Record.{Record}
use Rattle.spec_run.specs.Setup.{Setup}
use Rattle.spec_run.specs.World.{World}
use Rattle.spec_run.specs.Conditions.{IsSetup}
use Rattle.spec_run.specs.Event.{pending, record_of, opening_world}
use Rattle.spec_run.specs.Translation.{opening_configuration, last_configuration, last_world}
use Rattle.spec_run.specs.Statements.{spends_with_leave}
use Rattle.theory_run.proofs.Following.{Keeps, turn_at, run_posts, kept_at_end, holds_throughout}
use Rattle.theory_offers.specs.Authorised.{AuthorisationsAreSigned, authorised_signed, AuthorisationsHaveSignatures}
use Rattle.theory_offers.proofs.WholeRun.{KeptAll, all_after, opening_all, keeps_all}

signed_by : (s : Setup) (z : List (List ℕ)) (before : List Record) (g : Configuration) (w : World) → KeptAll s z before g w
    → AuthorisationsAreSigned s g w
signed_by s z before g w kept =
    let book = kept.honest.run.books.book in
    record {
      deposits = kept.more.inits;
      branches = λ n i a held st here b live at asks authorised.
          kept.more.asked n i a held st here at.choice b live at.compiled at.stands at.there asks authorised;
      honest = λ n i a d held st here b live at asks takes_part honest signed.
          let cause = book.branch_pairs held.contract st held.position here at.choice i b a d at.compiled at.stands at.there takes_part honest
          signed in
          (cause.is, cause.authorised asks n live);
      moves = kept.honest.run.tracks.money.moves;
    }

keeps_signed : (s : Setup) → IsSetup s → (z : List (List ℕ)) → Keeps s (authorised_signed s) (KeptAll s z) z
keeps_signed s setup z = record {
  step = λ before g w e k is calm unguessed begins.
      let t = turn_at s z g w e in
      let all = all_after s setup z before g w k e is calm unguessed begins in
      (signed_by s z (before ++ record_of e (pending s w e) ∷ []) t.configuration t.world all, all);
}

pub authorisations_signed : AuthorisationsHaveSignatures
authorisations_signed s es run =
    let z = run_posts s es in
    let start = opening_all s es run z in
    let last = kept_at_end s (spends_with_leave s) (KeptAll s z) es (keeps_all s run.setup z) run.events start in
    record {
      opening = signed_by s z [] (opening_configuration s) (opening_world s) start;
      events = holds_throughout s (authorised_signed s) (KeptAll s z) es (keeps_signed s run.setup z) run.events start;
      end = signed_by s z last.before (last_configuration s es) (last_world s es) last.holds;
    }
