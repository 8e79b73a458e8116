-- The steps of all events, one after another, are a legal run of the calculus.
use Rattle.std.proofs.Common.{◌≡◌, ℕ, ◌≤◌, List, [], ◌∷◌, ◌++◌, map, refl, ap, subst, arith}
use Rattle.std.specs.Prelude.{sum_by}
use Rattle.spec_data.specs.Ranges.{max_money}
use Rattle.spec_calculus.specs.declared.step.Owner.{Owner}
use Rattle.spec_calculus.specs.declared.step.Owner.TheVariants.{Party}
use Rattle.spec_calculus.specs.declared.step.Step.{Step}
use Rattle.spec_calculus.specs.Configuration.{Configuration}
use Rattle.spec_calculus.specs.Steps.{fails, Legal, IsLegalRun, effect, after_steps, owned}
use Rattle.spec_run.specs.declared.outcome.Record.{Record}
use Rattle.spec_run.specs.Conditions.{IsSetup}
use Rattle.spec_run.specs.Setup.{Setup}
use Rattle.spec_run.specs.Translation.{opening_configuration}
use Rattle.spec_run.specs.World.{World}
use Rattle.theory_calculus.specs.Money.{total_money}
use Rattle.theory_calculus.proofs.Kept.{money_is_kept, money_stays_within}
use Rattle.theory_calculus.proofs.Numbered.{numbers_apart}
use Rattle.theory_calculus.proofs.Sums.{made_value}
use Rattle.theory_run.specs.Sound.{IsSound, sound_after, RunsAreSound}
use Rattle.theory_run.proofs.Following.{Keeps, run_posts, holds_throughout, kept_at_end}
use Rattle.theory_run.specs.KeptRuns.{KeptRun}
use Rattle.theory_run.proofs.Simulated.{opening_run, simulates, run_after}
use Rattle.theory_world.proofs.Tests.{sum_map}

-- a legal run goes on
longer : (g : Configuration) (ss : List Step) (h : Configuration) (ts : List Step) → IsLegalRun g ss h → Legal h ts
    → IsLegalRun g (ss ++ ts) (after_steps h ts)
longer g [] h [] r l = r
longer g [] h (t ∷ ts) r l = (
  effect h t,
  record { enabled = subst (λ c. fails c t ≡ 0) r l.0; leads = ap (λ c. effect c t) r },
  longer (effect h t) []
      (effect h t) ts refl l.1,
)
longer g (s ∷ ss) h ts r l = (r.0, r.1, longer r.0 ss h ts r.2 l)

module _ (s : Setup) (setup : IsSetup s) where
  opening_little : total_money (opening_configuration s) ≤ max_money
  opening_little =
      let f : List ℕ × ℕ → Owner × ℕ = λ d. (Party (d.0), d.1) in
      let v = made_value 0 (owned s.header.deposits) in
      let m : sum_by (λ (o : Owner × ℕ). o.1) (map f s.header.deposits) ≡ sum_by (λ (d : List ℕ × ℕ). d.1) s.header.deposits =
      sum_map (λ (o : Owner × ℕ). o.1) f s.header.deposits in
      let l = setup.header.money in
      omega (arith, v, m, l)

  sound : (g : Configuration) (ss : List Step) → IsLegalRun (opening_configuration s) ss g → IsSound s g
  sound g ss r = record {
    steps = ss;
    legal = r;
    numbered = numbers_apart s.header.parties s.header.honest s.header.deposits s.contracts ss g r;
    funded = money_is_kept s.header.parties s.header.honest s.header.deposits s.contracts ss g setup.contracts r;
    within = money_stays_within s.header.parties s.header.honest s.header.deposits s.contracts ss g setup.contracts opening_little r;
  }

-- what every run keeps, and a legal run to where it stands
pub record IsReached (s : Setup) (z : List (List ℕ)) (g : Configuration) (w : World) : Type 0 where
  pub kept : KeptRun s z g w
  pub steps : List Step
  pub legal : IsLegalRun (opening_configuration s) steps g

abbrev reached_by : Setup → List (List ℕ) → List Record → Configuration → World → Type 0
reached_by s z before g w = IsReached s z g w

pub sound_runs : RunsAreSound
sound_runs s es run =
    let z = run_posts s es in
    let start : IsReached s z (opening_configuration s) _ = record { kept = opening_run s es run z; steps = []; legal = refl } in
    let keeps : Keeps s (sound_after s) (reached_by s z) z = record {
      step = λ before g w e r is calm unguessed begins. (
          let t = simulates s run.setup z g w r.kept e is calm unguessed begins in
          let l = longer (opening_configuration s) r.steps g _ r.legal t.legal in
          (sound s run.setup _ _ l, record { kept = run_after s run.setup z g w r.kept e is calm unguessed begins; steps = _; legal = l })
          );
    } in
    let last = kept_at_end s (sound_after s) (reached_by s z) es keeps run.events start in
    record {
      opening = sound s run.setup (opening_configuration s) [] refl;
      events = holds_throughout s (sound_after s) (reached_by s z) es keeps run.events start;
      end = sound s run.setup _ last.holds.steps last.holds.legal;
    }
