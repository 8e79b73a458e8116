-- Where the strings of all candidates collide with none, what is told is what the definitions say.
use Rattle.std.proofs.Common.{◌≡◌, ℕ, ◌+◌, List, [], ◌∷◌, ◌++◌, map, Bool, true, false, None, Result, Ok, Err, refl, sym, ap, subst, ◌∙◌}
use Rattle.std.specs.Prelude.{filter, if◌then◌else◌, IfOk}
use Rattle.std.specs.Option.{option_or}
use Rattle.std.proofs.lemmas.Grind.{flat_map-append}
use Rattle.std.proofs.lemmas.List.Concat.{flat_map-cons}
use Rattle.spec_data.specs.Messages.{noted, noted_all, collision_with, collision}
use Rattle.spec_terms.specs.Advert.{Advert}
use Rattle.spec_terms.specs.Parties.{participants}
use Rattle.spec_calculus.specs.Configuration.{Configuration}
use Rattle.spec_run.specs.declared.event.Event.{Event}
use Rattle.spec_run.specs.Setup.{Setup}
use Rattle.spec_run.specs.World.{World}
use Rattle.spec_run.specs.Pending.{guess, apply}
use Rattle.spec_run.specs.Event.{pending}
use Rattle.spec_next.specs.declared.outlook.Outlook.{Outlook}
use Rattle.spec_next.specs.Candidates.{candidates, candidates_from}
use Rattle.spec_next.specs.Prospects.{ruling, ruling_of, is_shown, is_over, outstanding, requirements_by, prospect, prospects_of, outlook_by, outlooks_from}
use Rattle.spec_next.specs.Foreseen.{foreseen_strings}
use Rattle.theory_run.proofs.Fewer.{collision_within}
use Rattle.theory_world.proofs.Hashed.{all_more}
use Rattle.bm_world.specs.Playing.{Played, setup_in}
use Rattle.next_outlook.specs.Seen.{SeesContracts, Looked}
use Rattle.next_outlook.specs.Foretold.{calm_ruling, told, foretold, all_foretold, foretold_outlooks}
use Rattle.bm_world_heard.proofs.Hearing.{neither, collision-calm}

-- neither part collides, where both in turn don't
first_calm : (hash : List ℕ → List ℕ) (ms xs ys : List (List ℕ)) → collision hash ms (xs ++ ys) ≡ None → collision hash ms xs ≡ None
first_calm hash ms [] ys h = refl
first_calm hash ms (x ∷ xs) ys h =
    let p = neither (collision_with hash ms x) (collision hash (noted ms x) (xs ++ ys)) h in
    ap (λ o. option_or o (collision hash (noted ms x) xs)) p.0 ∙ first_calm hash (noted ms x) xs ys p.1

rest_calm : (hash : List ℕ → List ℕ) (ms xs ys : List (List ℕ)) → collision hash ms (xs ++ ys) ≡ None → collision hash ms ys ≡ None
rest_calm hash ms xs ys h =
    collision_within hash ms (noted_all ms xs) ys (λ m i. all_more ms xs m i)
    (sym (collision-calm hash ms xs ys (first_calm hash ms xs ys h)) ∙ h)

module _ (s : Setup) (g : Configuration) (w : World) where
  ruling_calm : (e : Event) → collision s.hash w.hashed (pending s w e).hashes ≡ None → calm_ruling s w e ≡ ruling s w e
  ruling_calm e h = ap (λ c. ruling_of (apply w (pending s w e) c (guess s w.posted (pending s w e).posts (pending s w e).allowed))) (sym h)

  abbrev kept : List Event → List Event
  kept es = filter (λ (x : Event). is_shown s w x (ruling s w x)) es

  prospect_first : (e : Event) (es : List Event) → told s g w e (ruling s w e) ++ prospects_of s g w es ≡ prospects_of s g w (e ∷ es)
  prospect_first e es = by_test (is_shown s w e (ruling s w e))
    where
      by_test : (b : Bool)
          → (if b then record { event = e; ruling = ruling s w e; requirements = requirements_by (outstanding s g w e) (ruling s w e) }
          ∷ [] else []) ++ map (prospect s g w) (kept es)
          ≡ map (prospect s g w) (if b then e ∷ kept es else kept es)
      by_test true = refl
      by_test false = refl

  prospects_are : (es : List Event) → collision s.hash w.hashed (foreseen_strings s w es) ≡ None → all_foretold s g w es ≡ prospects_of s g w es
  prospects_are [] h = refl
  prospects_are (e ∷ es) h =
      let d = pending s w e in
      let cut : collision s.hash w.hashed (d.hashes ++ foreseen_strings s w es) ≡ None =
      ap (collision s.hash w.hashed) (sym (flat_map-cons (λ (x : Event). (pending s w x).hashes) e es)) ∙ h in
      flat_map-cons (foretold s g w) e es
      ∙ (λ i. told s g w e (ruling_calm e (first_calm s.hash w.hashed d.hashes (foreseen_strings s w es) cut) i)
      ++ prospects_are es (rest_calm s.hash w.hashed d.hashes (foreseen_strings s w es) cut) i)
      ∙ prospect_first e es

  pub outlooks_are : (k : ℕ) (cs : List Advert) → collision s.hash w.hashed (foreseen_strings s w (candidates_from s g w k cs)) ≡ None
      → foretold_outlooks s g w k cs ≡ outlooks_from s g w k cs
  outlooks_are k [] h = refl
  outlooks_are k (c ∷ cs) h =
      let here = candidates s g w k c in
      let later = candidates_from s g w (k + 1) cs in
      let cut : collision s.hash w.hashed (foreseen_strings s w here ++ foreseen_strings s w later) ≡ None =
      ap (collision s.hash w.hashed) (sym (flat_map-append (λ (x : Event). (pending s w x).hashes) here later)) ∙ h in
      λ i. outlook_by g (is_over g w k) k (participants c) (prospects_are here (first_calm s.hash w.hashed (foreseen_strings s w here) (foreseen_strings s w later) cut) i)
      ∷ outlooks_are (k + 1) cs (rest_calm s.hash w.hashed (foreseen_strings s w here) (foreseen_strings s w later) cut) i

pub looked_by : {H : Type 0} (digest : H → List ℕ → List ℕ) (g : Configuration) (old new : Played H) (list : List Outlook) → old.halt ≡ None
    → SeesContracts digest old new g g.contracts list → Looked digest old new g list
looked_by digest g old new list going h = record {
  going = going;
  hears = h.calm.hears;
  calm = h.calm.calm;
  outlooks = h.told ∙ outlooks_are (setup_in digest old) g old.world 0 g.contracts h.calm.calm;
}

-- where all contracts were asked
pub looked_if : {H E : Type 0} (digest : H → List ℕ → List ℕ) (g : Configuration) (old new : Played H) (cs : List Advert) (r : Result (List Outlook) E)
    → old.halt ≡ None → cs ≡ g.contracts → IfOk r (SeesContracts digest old new g cs) → IfOk r (Looked digest old new g)
looked_if digest g old new cs (Ok list) going e h =
    looked_by digest g old new list going (subst (λ (ds : List Advert). SeesContracts digest old new g ds list) e h)
looked_if digest g old new cs (Err error) going e h = tt
