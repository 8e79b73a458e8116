-- The run that begins a contract goes through, unless it halts.
use Rattle.std.proofs.Common.{◌≡◌, ℕ, zero, suc, List, [], ◌∷◌, ◌++◌, map, true, Some, None, refl, sym, ap, ◌∙◌, subst, inl, inr}
use Rattle.std.specs.Prelude.{not}
use Rattle.std.specs.List.{list_all}
use Rattle.std.proofs.lemmas.Bool.{and_parts, and_from}
use Rattle.spec_data.specs.Lists.{is_among, has_number}
use Rattle.spec_terms.specs.Advert.{Advert}
use Rattle.spec_terms.specs.Parties.{participants, choice_mentions}
use Rattle.spec_terms.specs.Precondition.{Holding, deposits, persistent, names_of, party_of}
use Rattle.spec_calculus.specs.Configuration.{Configuration}
use Rattle.spec_compiler.specs.Instance.{Instance}
use Rattle.spec_run.specs.declared.event.Event.{Event}
use Rattle.spec_run.specs.declared.event.Event.TheVariants as events
use Rattle.spec_run.specs.declared.outcome.Record.{Record}
use Rattle.spec_run.specs.Setup.{Setup, contract_at}
use Rattle.spec_run.specs.World.{World}
use Rattle.spec_run.specs.Compiled.{instance_of}
use Rattle.spec_run.specs.Event.{Passed, opening_world, opening_collision, played}
use Rattle.spec_run.specs.Values.{is_refused}
use Rattle.spec_run.specs.Conditions.{IsSetup}
use Rattle.spec_run.specs.Translation.{Turn, turn_of, turns_from, world_after, record_in, opening_configuration, course, last_configuration, last_world}
use Rattle.spec_run.specs.Statements.{IsRun, EndsAs}
use Rattle.spec_next.specs.FirstLines.{owned, bound_from, first_events}
use Rattle.theory_calculus.specs.Members.{Is_in}
use Rattle.theory_calculus.proofs.Names.{persistent_deposit}
use Rattle.theory_world.proofs.Tests.{map_map}
use Rattle.theory_world.proofs.Contracts.Endorsed.{in_among}
use Rattle.theory_run.proofs.Halting.HaltsRightly as halting
use Rattle.theory_next.specs.FirstRun.{first_setup}
use Rattle.theory_next.specs.FirstEvents.{GoesThroughOrHalts, FirstEventsGoThrough}
use Rattle.theory_next.proofs.Apart.{Apart, apart_added}
use Rattle.theory_next.proofs.FirstRun.{from_among, first_run_is_a_run}
use Rattle.theory_next.proofs.Onward.{AllPass, GoesSoFar, Fine, left}
use Rattle.theory_next.proofs.FirstStage.{IsFirst}
use Rattle.theory_next.proofs.FirstQuiet.{passes_quietly}
use Rattle.theory_next.proofs.FirstFire.{begins}
use Rattle.theory_next.proofs.FirstNeeds.{owner_takes_part, needed_take_part}
use Rattle.theory_next.proofs.FirstSigned.{Starting, all_start, Endorsing, endorsed_all, all_endorse}
use Rattle.theory_next.proofs.FirstSecrets.{HasSecrets}
use Rattle.theory_next.proofs.FirstCommits.{Committing, compiled_then, all_commit}
use Rattle.theory_next.proofs.FirstAdvert.{advertised_world, advertises, none_committed}
use Rattle.theory_next.proofs.FirstHeld.{has_secrets}

module _ (s : Setup) (advert : Advert) (first : IsFirst s advert) (has : HasSecrets s) where
  abbrev people : List (List ℕ)
  people = participants advert

  abbrev commits : List Event
  commits = map (λ party. events.Commit 0 party []) people

  abbrev endorsements : List Event
  endorsements = map (λ party. events.Endorse 0 party) people

  abbrev starts : List Event
  starts = map (λ party. events.Init 0 party) people

  abbrev beginning : List Event
  beginning = events.FireInit 0 ∷ []

  take : (p : List ℕ) → Is_in p people → is_among p people ≡ true
  take p i = in_among people p i

  apart : Apart people
  apart = apart_added [] (map party_of advert.pre ++ choice_mentions advert.root) tt

  owner_in : (d : List ℕ × Holding) → Is_in d (persistent advert.pre) → is_among (d.1).owner people ≡ true
  owner_in d i = owner_takes_part advert d (persistent_deposit advert.pre d i)

  -- from the end on: the contract begins
  then_begins : (st : Instance) (es : List Event) (so : GoesSoFar s es)
      → Starting s advert first st [] (last_configuration s es) (last_world s es) → Fine s (played s (es ++ beginning))
  then_begins st es so start =
      begins s advert first (λ d i. first.declared (d.1).owner (owner_in d i)) es so st start.compiled start.live
      (λ d i. elim (start.may d i) [ inl a ↦ absurd a | inr b ↦ b ])

  -- all sign the initial transaction before
  then_starts : (st : Instance) (es : List Event) (so : GoesSoFar s es) → Endorsing s advert first st [] (last_world s es)
      → Fine s (played s (es ++ (starts ++ beginning)))
  then_starts st es so endorsed =
      all_start s advert first st beginning (then_begins st) people take es so (record {
        compiled = endorsed.compiled;
        live = endorsed.live;
        endorsed = endorsed_all s advert first st (last_world s es) endorsed;
        may = λ d i. inl (from_among (d.1).owner people (owner_in d i));
      })

  -- all endorse before
  then_endorse : (es : List Event) (so : GoesSoFar s es) → Committing s advert [] (last_world s es)
      → Fine s (played s (es ++ (endorsements ++ (starts ++ beginning))))
  then_endorse es so committed =
      let w = last_world s es in
      let st = instance_of w 0 advert in
      all_endorse s advert first st (starts ++ beginning) (then_starts st) people take es so (record {
        compiled = compiled_then s advert first has w committed;
        live = committed.live;
        signed = λ n i. inl (from_among n.party people (needed_take_part s.hash st first.well n i));
      })

  -- the whole run
  run_is_fine : (opens : opening_collision s ≡ None) → IsSetup s → s.header.deposits ≡ owned (deposits advert.pre)
      → Fine s (played s (first_events advert))
  run_is_fine opens setup given =
      let e = events.Advertise 0 (bound_from 0 (names_of (deposits advert.pre))) in
      let next = advertised_world s advert first setup opens given in
      let none : GoesSoFar s [] = record { run = record { setup = setup; opens = opens; events = tt }; on = refl; fine = refl } in
      passes_quietly s [] none e tt (commits ++ (endorsements ++ (starts ++ beginning))) next
      (advertises s advert first setup opens given) (λ so world.
      all_commit s advert first has (endorsements ++ (starts ++ beginning)) then_endorse people apart take (e ∷ []) so
      (subst (Committing s advert people) (sym world) (none_committed s advert first setup opens given)))

-- ---- what is read off the course

outcomes_pass : (s : Setup) (z : List (List ℕ)) (ps : List Passed) (g : Configuration) (w : World) → AllPass ps
    → list_all (λ (r : Record). not (is_refused r.outcome)) (map record_in (turns_from s z g w ps)) ≡ true
outcomes_pass s z [] g w h = refl
outcomes_pass s z (p ∷ ps) g w h =
    let q = and_parts (not (is_refused p.pending.outcome)) (list_all (λ (x : Passed). not (is_refused x.pending.outcome)) ps) h in
    and_from _ _ q.0 (outcomes_pass s z ps (turn_of s z g w p).configuration p.world q.1)

pub goes_through : (s : Setup) (es : List Event) → IsRun s es → Fine s (played s es) → GoesThroughOrHalts s es
goes_through s es run fine = record {
  passes = outcomes_pass s (world_after (opening_world s) (played s es).passed).posted (played s es).passed (opening_configuration s)
      (opening_world s) fine.passes;
  all = λ on.
      map_map (λ (r : Record). r.event) record_in (course s es).turns
      ∙ subst (EndsAs s es (map (λ (t : Turn). t.event) (course s es).turns) (last_world s es)) on (halting.halts.runs s es run).ends;
  begins = λ on. ap (λ (w : World). has_number 0 w.begun) (left s es) ∙ fine.begins on;
  halts = fine.halts;
}

pub first_events_go_through : FirstEventsGoThrough
first_events_go_through hash advert strings hashes well room are long opens =
    let s = first_setup hash advert strings in
    let run = first_run_is_a_run hash advert strings hashes well room are opens in
    let first : IsFirst s advert = record { there = refl; only = only; well = well; declared = λ p h. h; honest = λ p h. h } in
    goes_through s (first_events advert) run
    (run_is_fine s advert first (has_secrets hash advert strings well are long) opens run.setup refl)
  where
    only : (k : ℕ) (other : Advert) → contract_at (first_setup hash advert strings) k ≡ Some other → k ≡ 0
    only zero other h = refl
    only (suc k) other h = cc
