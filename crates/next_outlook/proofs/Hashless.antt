-- What is told of events reads nothing of the messages that were hashed.
use Rattle.std.proofs.Common.{◌≡◌, ℕ, ◌+◌, List, [], ◌∷◌, ◌++◌, map, not, Option, Some, None, refl, ap, ◌∙◌, append-nil}
use Rattle.std.specs.Prelude.{filter, flat_map, if◌then◌else◌}
use Rattle.spec_terms.specs.Advert.{Advert}
use Rattle.spec_terms.specs.Parties.{participants}
use Rattle.spec_terms.specs.Precondition.{persistent, secrets}
use Rattle.spec_calculus.specs.Configuration.{Configuration}
use Rattle.spec_calculus.specs.Beginning.{contract_at, participants_of}
use Rattle.spec_compiler.specs.Instance.{Instance}
use Rattle.spec_run.specs.declared.event.Event.{Event}
use Rattle.spec_run.specs.declared.event.Event.TheVariants as events
use Rattle.spec_run.specs.declared.header.HeldSecret.{HeldSecret}
use Rattle.spec_run.specs.Setup.{Setup, held_secret}
use Rattle.spec_run.specs.World.{ContractPosition, World, live_position_at}
use Rattle.spec_run.specs.Compiled.{compiled_instance}
use Rattle.spec_run.specs.Ledger.{position_path}
use Rattle.spec_run.specs.Signing.{initial_pairs, branch_pair, prepared_if_compiled, authorising_pairs}
use Rattle.spec_run.specs.Pending.{Pending, guess, apply}
use Rattle.spec_run.specs.Event.{pending}
use Rattle.spec_next.specs.declared.requirement.Requirement.{Requirement}
use Rattle.spec_next.specs.declared.requirement.Requirement.TheVariants as requirements
use Rattle.spec_next.specs.Hands.{are_in_book, is_in_hand}
use Rattle.spec_next.specs.declared.outlook.Ruling.{Ruling}
use Rattle.spec_next.specs.declared.outlook.Ruling.TheVariants as rulings
use Rattle.spec_next.specs.declared.outlook.Prospect.{Prospect}
use Rattle.spec_next.specs.Candidates.{people, advertising, committing, has_endorsed, endorsing, starting, revealing, taking_active, actives_of}
use Rattle.spec_next.specs.Candidates.{candidates, candidates_from}
use Rattle.spec_next.specs.Requirements.{Condition, agreed, endorsed_for, conditions, unmet, requirements_of}
use Rattle.spec_next.specs.Prospects.{is_string_posted, is_ahead, is_shown, ruling_of, is_over, outstanding, requirements_by, outlook_by}
use Rattle.spec_next.specs.Foreseen.{foreseen_strings}
use Rattle.theory_world.proofs.Bookless.{compiled_same}
use Rattle.theory_run.proofs.Events.Hashless.{carried, pending_same}
use Rattle.bm_world.specs.Playing.{Played, setup_in}
use Rattle.bm_world_heard.specs.Heard.{Hears}
use Rattle.next_outlook.specs.Foretold.{calm_ruling, told, foretold, all_foretold, foretold_outlook}
use Rattle.bm_world_heard.proofs.Hearing.{setup_same}

-- nothing more is told
pub nothing_told : (ps : List Prospect) → ps ++ [] ≡ ps
nothing_told ps = append-nil ps

module _ (s : Setup) (g : Configuration) (w : World) (hs : List (List ℕ)) where
  abbrev more : World
  more = record w { hashed = hs }

  instance_same : (k : ℕ) → compiled_instance s more k ≡ compiled_instance s w k
  instance_same k = compiled_same s w w.book hs k

  -- ---- candidates

  endorsed_same : (o : Option Instance) (party : List ℕ) → has_endorsed s more o party ≡ has_endorsed s w o party
  endorsed_same None party = refl
  endorsed_same (Some instance) party = refl

  endorsing_same : (k : ℕ) (ps : List (List ℕ)) → endorsing s more k ps ≡ endorsing s w k ps
  endorsing_same k ps =
      (λ i. map (λ party. events.Endorse k party) (filter (λ party. not (endorsed_same (compiled_instance s more k) party i)) ps))
      ∙ (λ i. map (λ party. events.Endorse k party) (filter (λ party. not (has_endorsed s w (instance_same k i) party)) ps))

  candidates_same : (k : ℕ) (c : Advert) → candidates s g more k c ≡ candidates s g w k c
  candidates_same k c =
      let ps = people s c in
      ap (λ (es : List Event). advertising g k c
      ∷ (map (committing k) ps
      ++ (es
      ++ (starting g k (persistent c.pre) ps
      ++ (events.FireInit k
      ∷ (revealing s k (secrets c.pre)
      ++ flat_map (taking_active g ps) (actives_of g k))))))) (endorsing_same k ps)

  from_same : (k : ℕ) (cs : List Advert) → candidates_from s g more k cs ≡ candidates_from s g w k cs
  from_same k [] = refl
  from_same k (c ∷ cs) = λ i. candidates_same k c i ++ from_same (k + 1) cs i

  -- ---- what is missing

  for_same : (k : ℕ) (party : List ℕ) (o : Option Instance) (ps : List (List ℕ)) → endorsed_for s more k party o ps ≡ endorsed_for s w k party o ps
  for_same k party None ps = refl
  for_same k party (Some instance) ps = refl

  conditions_same : (e : Event) → conditions s g more e ≡ conditions s g w e
  conditions_same (events.Advertise k bindings) = refl
  conditions_same (events.Commit k party digests) = refl
  conditions_same (events.Endorse k party) = refl
  conditions_same (events.Init k party) =
      let ps = participants_of (contract_at g.contracts k) in
      ap (λ (cs : List Condition). agreed g k ++ cs)
      (for_same k party (compiled_instance s more k) ps ∙ ap (λ o. endorsed_for s w k party o ps) (instance_same k))
  conditions_same (events.FireInit k) = refl
  conditions_same (events.Reveal k party secret) = refl
  conditions_same (events.Authorise party n i) = refl
  conditions_same (events.Fire n i) = refl
  conditions_same (events.Post bytes) = refl
  conditions_same (events.Sign party label digest) = refl
  conditions_same (events.Give party inputs outputs) = refl
  conditions_same (events.Append bytes) = refl
  conditions_same (events.Mine blocks) = refl

  requirements_same : (e : Event) → requirements_of s g more e ≡ requirements_of s g w e
  requirements_same e = ap unmet (conditions_same e)

  -- ---- signatures by hand

  branch_same : (party : List ℕ) (held : Option ContractPosition) (i : ℕ)
      → are_in_book w.book (authorising_pairs s more party held i) ≡ are_in_book w.book (authorising_pairs s w party held i)
  branch_same party None i = refl
  branch_same party (Some held) i =
      ap (λ o. are_in_book w.book (branch_pair s party held.contract (position_path held i) (prepared_if_compiled s o (position_path held i))))
      (instance_same held.contract)

  hand_same : (x : Requirement) → is_in_hand s more x ≡ is_in_hand s w x
  hand_same (requirements.Start party k) = ap (λ o. are_in_book w.book (initial_pairs s party o)) (instance_same k)
  hand_same (requirements.Authorisation party n i) = branch_same party (live_position_at w n) i
  hand_same (requirements.Advert k) = refl
  hand_same (requirements.Deposit x) = refl
  hand_same (requirements.Gone x) = refl
  hand_same requirements.NobodyHonest = refl
  hand_same (requirements.Missing x) = refl
  hand_same (requirements.BadLength x) = refl
  hand_same (requirements.Repeated x) = refl
  hand_same (requirements.Digest party k x) = refl
  hand_same (requirements.Commitment party k) = refl
  hand_same (requirements.Endorsement party k) = refl
  hand_same (requirements.Beginning k) = refl
  hand_same (requirements.Height t m) = refl
  hand_same (requirements.Put x) = refl
  hand_same (requirements.Secret party k x) = refl
  hand_same (requirements.Posted party x) = refl
  hand_same requirements.Predicate = refl

  outstanding_same : (e : Event) → outstanding s g more e ≡ outstanding s g w e
  outstanding_same e = λ i. filter (λ x. not (hand_same x i)) (requirements_same e i)

  -- ---- what is shown

  posted_same : (string : Option (List ℕ)) → is_string_posted string more ≡ is_string_posted string w
  posted_same None = refl
  posted_same (Some bytes) = refl

  ahead_same : (e : Event) → is_ahead s more e ≡ is_ahead s w e
  ahead_same (events.Advertise k bindings) = refl
  ahead_same (events.Commit k party digests) = refl
  ahead_same (events.Endorse k party) = refl
  ahead_same (events.Init k party) = refl
  ahead_same (events.FireInit k) = refl
  ahead_same (events.Reveal k party secret) = ap not (posted_same (held_secret s party secret))
  ahead_same (events.Authorise party n i) = refl
  ahead_same (events.Fire n i) = refl
  ahead_same (events.Post bytes) = refl
  ahead_same (events.Sign party label digest) = refl
  ahead_same (events.Give party inputs outputs) = refl
  ahead_same (events.Append bytes) = refl
  ahead_same (events.Mine blocks) = refl

  shown_same : (e : Event) (r : Ruling) → is_shown s more e r ≡ is_shown s w e r
  shown_same e rulings.Can = refl
  shown_same e (rulings.Cannot reason) = ahead_same e
  shown_same e rulings.Halts = refl

  -- ---- rulings

  ruling_carried : (d : Pending) (o : Option HeldSecret) → ruling_of (apply more (carried hs d) None o) ≡ ruling_of (apply w d None o)
  ruling_carried d None = refl
  ruling_carried d (Some held) = refl

  ruling_same : (e : Event) → calm_ruling s more e ≡ calm_ruling s w e
  ruling_same e =
      ap (λ (d : Pending). ruling_of (apply more d None (guess s w.posted d.posts d.allowed))) (pending_same s w hs e)
      ∙ ruling_carried (pending s w e) (guess s w.posted (pending s w e).posts (pending s w e).allowed)

  told_same : (e : Event) (r : Ruling) → told s g more e r ≡ told s g w e r
  told_same e r =
      λ i. if shown_same e r i then record { event = e; ruling = r; requirements = requirements_by (outstanding_same e i) r } ∷ [] else []

  foretold_same : (e : Event) → foretold s g more e ≡ foretold s g w e
  foretold_same e = told_same e (calm_ruling s more e) ∙ ap (told s g w e) (ruling_same e)

  all_same : (es : List Event) → all_foretold s g more es ≡ all_foretold s g w es
  all_same es = λ i. flat_map (λ e. foretold_same e i) es

  outlook_same : (k : ℕ) (c : Advert) → foretold_outlook s g more k c ≡ foretold_outlook s g w k c
  outlook_same k c =
      ap (outlook_by g (is_over g w k) k (participants c)) (all_same (candidates s g more k c) ∙ ap (all_foretold s g w) (candidates_same k c))

  -- ---- strings

  hashes_same : (e : Event) → (pending s more e).hashes ≡ (pending s w e).hashes
  hashes_same e = ap (λ (d : Pending). d.hashes) (pending_same s w hs e)

  strings_same : (es : List Event) → foreseen_strings s more es ≡ foreseen_strings s w es
  strings_same es = λ i. flat_map (λ e. hashes_same e i) es

-- ---- in a world where only more was hashed

module _ {H : Type 0} (digest : H → List ℕ → List ℕ) (g : Configuration) (old mid : Played H) (hashed : List (List ℕ)) (h : Hears old mid hashed) where
  same : setup_in digest mid ≡ setup_in digest old
  same = setup_same digest old mid h.setup

  pub hashes_later : (e : Event) → (pending (setup_in digest mid) mid.world e).hashes ≡ (pending (setup_in digest old) old.world e).hashes
  hashes_later e = (λ i. (pending (same i) (h.world i) e).hashes) ∙ hashes_same (setup_in digest old) g old.world hashed e

  pub foretold_later : (e : Event) → foretold (setup_in digest mid) g mid.world e ≡ foretold (setup_in digest old) g old.world e
  foretold_later e = (λ i. foretold (same i) g (h.world i) e) ∙ foretold_same (setup_in digest old) g old.world hashed e

  pub candidates_later : (k : ℕ) (c : Advert)
      → candidates (setup_in digest mid) g mid.world k c ≡ candidates (setup_in digest old) g old.world k c
  candidates_later k c = (λ i. candidates (same i) g (h.world i) k c) ∙ candidates_same (setup_in digest old) g old.world hashed k c

  pub strings_later : (es : List Event)
      → foreseen_strings (setup_in digest mid) mid.world es ≡ foreseen_strings (setup_in digest old) old.world es
  strings_later es = (λ i. foreseen_strings (same i) (h.world i) es) ∙ strings_same (setup_in digest old) g old.world hashed es

  pub outlook_later : (k : ℕ) (c : Advert)
      → foretold_outlook (setup_in digest mid) g mid.world k c ≡ foretold_outlook (setup_in digest old) g old.world k c
  outlook_later k c = (λ i. foretold_outlook (same i) g (h.world i) k c) ∙ outlook_same (setup_in digest old) g old.world hashed k c

  pub told_later : (e : Event) (r : Ruling) → told (setup_in digest mid) g mid.world e r ≡ told (setup_in digest old) g old.world e r
  told_later e r = (λ i. told (same i) g (h.world i) e r) ∙ told_same (setup_in digest old) g old.world hashed e r
