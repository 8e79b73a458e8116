-- What is offered at the opening and after every event of a run is kept, and is what the run offers that ends there.
use Rattle.std.proofs.Common.{◌≡◌, ℕ, List, [], ◌∷◌, ◌++◌, map, true, Option, Some, None, refl, sym, ap, ◌∙◌, subst}
use Rattle.std.specs.Prelude.{◌==◌, ◌&&◌, if◌then◌else◌, is_some}
use Rattle.std.specs.List.{Contains, AllByRecursion, list_any}
use Rattle.std.specs.Option.{option_map}
use Rattle.std.specs.Str.{bytes_eq}
use Rattle.spec_calculus.specs.declared.parts.Revealed.{Revealed}
use Rattle.spec_calculus.specs.Configuration.{Configuration}
use Rattle.spec_calculus.specs.Beginning.{has_committed}
use Rattle.spec_calculus.specs.Branches.{length_at, is_revealed}
use Rattle.spec_run.specs.declared.event.Event.{Event}
use Rattle.spec_run.specs.declared.outcome.Record.{Record}
use Rattle.spec_run.specs.Setup.{Setup, is_honest, held_secret}
use Rattle.spec_data.specs.Messages.{collision}
use Rattle.spec_run.specs.World.{Promise, World}
use Rattle.spec_run.specs.Conditions.{IsSetup, IsEvent}
use Rattle.spec_run.specs.Pending.{applied, guess}
use Rattle.spec_run.specs.Revealing.{fits, fitting}
use Rattle.spec_run.specs.Secrets.{digest_at, is_shown, secret_size, length_in_run}
use Rattle.spec_run.specs.Event.{Progress, pending, record_of, opening_world, opening_collision, played}
use Rattle.spec_run.specs.Translation.{turn_of, world_after, opening_configuration, last_configuration, last_world}
use Rattle.spec_run.specs.Agreement.{Agree}
use Rattle.spec_run.specs.Offers.{Offer, offers}
use Rattle.spec_run.specs.Statements.{IsRun, IsKept, spends_with_leave, offers_kept as kept_offers, OffersThroughoutTheorem}
use Rattle.theory_world.proofs.Tests.{any_map}
use Rattle.theory_world.proofs.Hashed.{any_found}
use Rattle.theory_run.specs.KeptSecrets.{KeptSecrets, committed_by}
use Rattle.theory_run.proofs.Facts.KeptSecrets.{Begins, length_at-by}
use Rattle.theory_run.proofs.Steps.Followed.{agree_all}
use Rattle.theory_run.proofs.Following.{Keeps, turn_at, posted_begins, run_posts, kept_at_end, holds_throughout}
use Rattle.theory_run.proofs.Facts.Bookkeeping.{checks}
use Rattle.theory_run.proofs.Worlds.Committed.{all_push}
use Rattle.theory_offers.proofs.OffersKept.{offers_kept}
use Rattle.theory_offers.proofs.WholeRun.{KeptAll, all_after, opening_all, keeps_all}
use Rattle.theory_offers.proofs.Blanked.{blank, same_offers}
use Rattle.theory_offers.proofs.CutRuns.{turn_same}
use Rattle.spec_run.proofs.Courses.{left_more, last_left, reached, reached_more, passing, played_more}

-- ---- the run so far

-- these events make a run that doesn't halt, leaves the world, and reaches the configuration but for what is committed, whatever strings
-- are posted later
record Cut (s : Setup) (es : List Event) (g : Configuration) (w : World) : Type 0 where
  events : AllByRecursion (IsEvent s) es
  on : (played s es).halt ≡ None
  left : world_after (opening_world s) (played s es).passed ≡ w
  alike : (y : List (List ℕ)) → blank (reached s y (opening_configuration s) (opening_world s) (played s es).passed) ≡ blank g

events_more : (rs : List Record) (r : Record)
    → map (λ (x : Record). x.event) (rs ++ r ∷ []) ≡ map (λ (x : Record). x.event) rs ++ r.event ∷ []
events_more [] r = refl
events_more (x ∷ rs) r = λ i. x.event ∷ events_more rs r i

cut_after : (s : Setup) (z : List (List ℕ)) (es : List Event) (g : Configuration) (w : World) (e : Event) → Cut s es g w → IsEvent s e
    → collision s.hash w.hashed (pending s w e).hashes ≡ None → guess s w.posted (pending s w e).posts (pending s w e).allowed ≡ None
    → Cut s (es ++ e ∷ []) (turn_at s z g w e).configuration (applied w (pending s w e))
cut_after s z es g w e cut is calm unguessed =
    let first = opening_world s in
    let ps = (played s es).passed in
    let p = passing s w e in
    let more = played_more s es e first w cut.on cut.left calm unguessed in
    record {
      events = all_push (IsEvent s) es e cut.events is;
      on = ap (λ (x : Progress). x.halt) more;
      left = ap (λ (x : Progress). world_after first x.passed) more ∙ left_more ps p first;
      alike = λ y.
          let h = reached s y (opening_configuration s) first ps in
          ap (λ (x : Progress). blank (reached s y (opening_configuration s) first x.passed)) more
          ∙ ap blank (reached_more s y ps p (opening_configuration s) first)
          ∙ ap (λ x. blank (turn_of s y h x p).configuration) cut.left
          ∙ turn_same s y z h g w p (cut.alike y);
    }

-- ---- what is committed and revealed

module _ (s : Setup) (y z : List (List ℕ)) (g h : Configuration) (w : World) (one : KeptSecrets s y g w) (other : KeptSecrets s z h w)
    (first : Begins y w.posted) (second : Begins z w.posted) where
  who_by : (x : List (List ℕ)) (ps : List Promise) (k : ℕ) (party : List ℕ)
      → has_committed (map (committed_by s x) ps) k party ≡ list_any (λ (p : Promise). (p.contract == k) && bytes_eq p.party party) ps
  who_by x ps k party = any_map (λ c. (c.contract == k) && bytes_eq c.party party) (committed_by s x) ps

  pub same_who : (k : ℕ) (party : List ℕ) → has_committed g.committed k party ≡ has_committed h.committed k party
  same_who k party =
      ap (λ cs. has_committed cs k party) one.lengths ∙ who_by y w.promises k party
      ∙ sym (ap (λ cs. has_committed cs k party) other.lengths ∙ who_by z w.promises k party)

  -- the length of a secret that is shown is that of the first string that fits, which stands among those posted so far
  measured : (party secret digest : List ℕ) → is_some (fitting s w.posted digest) ≡ true
      → length_in_run s y party secret digest ≡ length_in_run s z party secret digest
  measured party secret digest shown =
      let any = any_found (fits s digest) w.posted shown in
      let same : fitting s y digest ≡ fitting s z digest = first.first (fits s digest) any ∙ sym (second.first (fits s digest) any) in
      ap (λ o. if is_honest s party then option_map secret_size (held_secret s party secret) else option_map secret_size o) same

  pub same_long : (k : ℕ) (party secret : List ℕ) → is_revealed g.revealed k party secret ≡ true
      → length_at g.committed k party secret ≡ length_at h.committed k party secret
  same_long k party secret revealed =
      let x : Revealed = record { contract = k; party = party; secret = secret } in
      ap (λ cs. length_at cs k party secret) one.lengths ∙ length_at-by s y x w.promises
      ∙ by_digest (digest_at w.promises x) (sym (one.revealed x) ∙ revealed)
      ∙ sym (ap (λ cs. length_at cs k party secret) other.lengths ∙ length_at-by s z x w.promises)
    where
      by_digest : (o : Option (List ℕ)) → is_shown s w.posted o ≡ true
          → option_map (length_in_run s y party secret) o ≡ option_map (length_in_run s z party secret) o
      by_digest None shown = refl
      by_digest (Some digest) shown = ap Some (measured party secret digest shown)

-- ---- every event

-- all that is kept, and the run that is cut here
record KeptCut (s : Setup) (z : List (List ℕ)) (before : List Record) (g : Configuration) (w : World) : Type 0 where
  all : KeptAll s z before g w
  cut : Cut s (map (λ r. r.event) before) g w

module _ (s : Setup) (setup : IsSetup s) (opens : opening_collision s ≡ None) (z : List (List ℕ)) where
  -- each offer is kept
  module _ (before : List Record) (g : Configuration) (w : World) (kept : KeptAll s z before g w) (begins : Begins z w.posted) where
    offered : (offer : Offer) → Contains (offers g) offer → IsKept s g w offer
    offered offer there =
        let tracks = kept.honest.run.tracks in
        let books = kept.honest.run.books in
        let agree : Agree s g w = agree_all s g w books.book z tracks.money tracks.secrets tracks.advertised in
        offers_kept s setup z g w agree books.book (checks s setup g w books) tracks.secrets begins kept.more offer there

  -- what the run offers that ends here
  module _ (es : List Event) (g : Configuration) (w : World) (cut : Cut s es g w) (secrets : KeptSecrets s z g w)
      (begins : Begins z w.posted) where
    ends_here : w ≡ last_world s es
    ends_here = sym (last_left s (run_posts s es) (played s es).passed (opening_configuration s) (opening_world s) ∙ cut.left)

    offers_here : offers g ≡ offers (last_configuration s es)
    offers_here =
        let run : IsRun s es = record { setup = setup; opens = opens; events = cut.events } in
        let y = run_posts s es in
        let h = last_configuration s es in
        let last = (kept_at_end s (spends_with_leave s) (KeptAll s y) es (keeps_all s setup y) cut.events (opening_all s es run y)).holds in
        let there : KeptSecrets s y h w = subst (λ x. KeptSecrets s y h x) (sym ends_here) last.honest.run.tracks.secrets in
        let posted : Begins y w.posted = subst (λ x. Begins y x) (ap (λ (x : World). x.posted) cut.left) (record { first = λ p q. refl }) in
        same_offers g h (sym (cut.alike y)) (same_who s z y g h w secrets there begins posted)
        (same_long s z y g h w secrets there begins posted)

  keeps_offers : Keeps s (kept_offers s) (KeptCut s z) z
  keeps_offers = record {
    step = λ before g w e kept is calm unguessed begins.
        let t = turn_at s z g w e in
        let r = record_of e (pending s w e) in
        let all = all_after s setup z before g w kept.all e is calm unguessed begins in
        let cut : Cut s (map (λ x. x.event) (before ++ r ∷ [])) t.configuration t.world =
        subst (λ es. Cut s es t.configuration t.world) (sym (events_more before r))
        (cut_after s z (map (λ x. x.event) before) g w e kept.cut is calm unguessed) in
        let es = map (λ (x : Record). x.event) (before ++ r ∷ []) in
        let secrets = all.honest.run.tracks.secrets in (
          record {
            same_offers = offers_here es t.configuration t.world cut secrets begins;
            same_world = ends_here es t.configuration t.world cut secrets begins;
            kept = offered (before ++ r ∷ []) t.configuration t.world all begins;
          },
          record { all = all; cut = cut },
        );
  }

pub kept_throughout_offers : OffersThroughoutTheorem
kept_throughout_offers s es run =
    let z = run_posts s es in
    let g = opening_configuration s in
    let w = opening_world s in
    let all = opening_all s es run z in
    record {
      opening = offered s run.setup run.opens z [] g w all (posted_begins s es w);
      events = holds_throughout s (kept_offers s) (KeptCut s z) es (keeps_offers s run.setup run.opens z) run.events
          (record { all = all; cut = record { events = tt; on = refl; left = refl; alike = λ y. refl } });
    }
