-- At the opening of a run, after every event and at its end all that may be taken is offered, in order.
use Rattle.std.proofs.Common.{List, [], ◌∷◌, ◌++◌, map, subst}
use Rattle.spec_calculus.specs.declared.step.Step.{Step}
use Rattle.spec_calculus.specs.Configuration.{Configuration}
use Rattle.spec_calculus.specs.Steps.{after_steps, effect}
use Rattle.spec_run.specs.declared.outcome.Record.{Record}
use Rattle.spec_run.specs.Setup.{Setup}
use Rattle.spec_run.specs.World.{World}
use Rattle.spec_run.specs.Event.{opening_world}
use Rattle.spec_run.specs.Translation.{Turn, record_in, opening_configuration, course, last_or}
use Rattle.spec_run.specs.Statements.{HoldsFrom, IsSimulated, simulated}
use Rattle.spec_run.specs.HaveEvents.{OffersAll, offers_all, OffersAreCompleteTheorem}
use Rattle.theory_calculus.specs.Numbered.{IsNumbered}
use Rattle.theory_calculus.proofs.Numbered.{numbered_after, opening_numbered}
use Rattle.theory_run.proofs.Simulated.{simulation}
use Rattle.theory_offers.proofs.HaveEvents.{have_events}

-- steps keep deposits and contracts by ascending numbers
numbered_steps : (g : Configuration) (xs : List Step) → IsNumbered g → IsNumbered (after_steps g xs)
numbered_steps g [] h = h
numbered_steps g (x ∷ xs) h = numbered_steps (effect g x) xs (numbered_after g x h)

numbered_at : (s : Setup) (g : Configuration) (t : Turn) → IsNumbered g → IsSimulated s g t → IsNumbered t.configuration
numbered_at s g t h is = subst IsNumbered is.leads (numbered_steps g t.steps h)

all_offered : (g : Configuration) → IsNumbered g → OffersAll g
all_offered g h = let e = have_events g in record { events = e; ordered = e.ordered h.active }

all_from : (s : Setup) (ts : List Turn) (before : List Record) (g : Configuration) (w : World) → IsNumbered g
    → HoldsFrom (simulated s) before g w ts → HoldsFrom offers_all before g w ts
all_from s [] before g w n h = tt
all_from s (t ∷ ts) before g w n h =
    let there = numbered_at s g t n h.0 in
    (all_offered t.configuration there, all_from s ts (before ++ record_in t ∷ []) t.configuration t.world there h.1)

numbered_last : (s : Setup) (ts : List Turn) (before : List Record) (g : Configuration) (w : World) → IsNumbered g
    → HoldsFrom (simulated s) before g w ts → IsNumbered (last_or g (map (λ t. t.configuration) ts))
numbered_last s [] before g w n h = n
numbered_last s (t ∷ ts) before g w n h =
    numbered_last s ts (before ++ record_in t ∷ []) t.configuration t.world (numbered_at s g t n h.0) h.1

pub complete : OffersAreCompleteTheorem
complete s es run =
    let g = opening_configuration s in
    let w = opening_world s in
    let n = opening_numbered s.header.parties s.header.honest s.header.deposits s.contracts in
    let all = (simulation s es run).events in
    record {
      opening = all_offered g n;
      events = all_from s (course s es).turns [] g w n all;
      end = all_offered (last_or g (map (λ t. t.configuration) (course s es).turns)) (numbered_last s (course s es).turns [] g w n all);
    }
