-- Events that are asked for one after another, and contracts.
use Rattle.std.proofs.Common.{◌≡◌, ℕ, ◌+◌, suc, ◌<◌, List, [], ◌∷◌, ◌++◌, length, refl, sym, ap, subst, ◌∙◌}
use Rattle.std.proofs.Common.{append_assoc, append-nil, drop, get_or, add-one}
use Rattle.std.proofs.Math.Seq.{drop-cons}
use Rattle.std.specs.List.{AllByRecursion}
use Rattle.std.proofs.lemmas.Grind.{flat_map-append}
use Rattle.std.proofs.lemmas.List.Concat.{flat_map-cons}
use Rattle.spec_terms.specs.Advert.{Advert}
use Rattle.spec_calculus.specs.Configuration.{Configuration}
use Rattle.spec_run.specs.declared.event.Event.{Event}
use Rattle.spec_run.specs.declared.outcome.Record.{Record}
use Rattle.spec_run.specs.Conditions.{IsEvent}
use Rattle.spec_run.specs.Setup.{Setup}
use Rattle.spec_run.specs.World.{World}
use Rattle.spec_run.specs.Event.{pending}
use Rattle.spec_next.specs.declared.outlook.Prospect.{Prospect}
use Rattle.spec_next.specs.declared.outlook.Outlook.{Outlook}
use Rattle.spec_next.specs.Candidates.{candidates, candidates_from}
use Rattle.spec_next.specs.Foreseen.{foreseen_strings}
use Rattle.bm_world.specs.declared.halt.Halt.{Halt}
use Rattle.bm_world.specs.Playing.{Played, setup_in, most_records}
use Rattle.bm_world_heard.specs.Heard.{Stopped}
use Rattle.next_outlook.specs.Foretold.{foretold, all_foretold, foretold_outlook, foretold_outlooks}
use Rattle.next_outlook.specs.Seen.{SeesOne, Sees, AddsContract, SeesContracts, Midway, MidwayContracts}
use Rattle.bm_world_heard.proofs.Hearing.{setup_same, reach_none, reach_more, reach_stopped, reach_end}
use Rattle.next_outlook.proofs.Hashless.{hashes_later, foretold_later, candidates_later, strings_later, outlook_later}

-- the first of what is left of a list
pub first_left : {X : Type 0} (xs : List X) (n : ℕ) (x : X) → n < length xs → x ≡ get_or xs n x → drop n xs ≡ x ∷ drop (n + 1) xs
first_left xs n x less here =
    drop-cons xs n x less ∙ ap (λ y. y ∷ drop (suc n) xs) (sym here) ∙ ap (λ m. x ∷ drop m xs) (sym (add-one n))

module _ {H : Type 0} (digest : H → List ℕ → List ℕ) (g : Configuration) where
  -- ---- events

  pub begin_events : (old : Played H) (es : List Event) → AllByRecursion (IsEvent (setup_in digest old)) es → Midway digest old old g es es []
  begin_events old es are = record { reach = reach_none digest old _; told = refl; are = are }

  module _ (old mid : Played H) (e : Event) (left all : List Event) (before : List Prospect) (m : Midway digest old mid g (e ∷ left) all before) where
    abbrev s : Setup
    s = setup_in digest old

    abbrev w : World
    w = old.world

    strings_cut : foreseen_strings s w (e ∷ left) ≡ (pending s w e).hashes ++ foreseen_strings s w left
    strings_cut = flat_map-cons (λ (x : Event). (pending s w x).hashes) e left

    pub is_event : IsEvent (setup_in digest mid) e
    is_event = subst (λ (t : Setup). IsEvent t e) (sym (setup_same digest old mid m.reach.hears.setup)) m.are.0

    pub room : length old.trace < most_records → length mid.trace < most_records
    room few = subst (λ (rs : List Record). length rs < most_records) (sym m.reach.hears.trace) few

    pub next_event : (new : Played H) (after : List Prospect) → SeesOne digest mid new g e before after → Midway digest old new g left all after
    next_event new after one = record {
      reach = reach_more digest old mid new _ _ _ _ _ m.reach strings_cut (hashes_later digest g old mid mid.world.hashed m.reach.hears e) one.calm;
      told =
          ap (λ (ps : List Prospect). ps ++ all_foretold s g w left) (one.told
          ∙ ap (λ (ps : List Prospect). before ++ ps) (foretold_later digest g old mid mid.world.hashed m.reach.hears e))
          ∙ append_assoc before (foretold s g w e) (all_foretold s g w left)
          ∙ ap (λ (ps : List Prospect). before ++ ps) (sym (flat_map-cons (foretold s g w) e left))
          ∙ m.told;
      are = m.are.1;
    }

    pub stops_event : (new : Played H) (halt : Halt) → Stopped digest mid new (pending (setup_in digest mid) mid.world e).hashes halt
        → Stopped digest old new (foreseen_strings s w all) halt
    stops_event new halt h =
        reach_stopped digest old mid new _ _ _ _ _ m.reach strings_cut (hashes_later digest g old mid mid.world.hashed m.reach.hears e) halt h

  pub end_events : (old new : Played H) (all : List Event) (prospects : List Prospect) → Midway digest old new g [] all prospects
      → Sees digest old new g all prospects
  end_events old new all prospects m = record { calm = reach_end digest old new _ m.reach; told = sym (append-nil prospects) ∙ m.told }

  -- ---- contracts

  pub begin_contracts : (old : Played H) (cs : List Advert) → MidwayContracts digest old old g 0 cs cs []
  begin_contracts old cs = record { reach = reach_none digest old _; told = refl }

  module _ (old mid : Played H) (k : ℕ) (c : Advert) (left all : List Advert) (before : List Outlook)
      (m : MidwayContracts digest old mid g k (c ∷ left) all before) where
    abbrev t : Setup
    t = setup_in digest old

    abbrev v : World
    v = old.world

    contracts_cut : foreseen_strings t v (candidates_from t g v k (c ∷ left))
        ≡ foreseen_strings t v (candidates t g v k c) ++ foreseen_strings t v (candidates_from t g v (k + 1) left)
    contracts_cut = flat_map-append (λ (x : Event). (pending t v x).hashes) (candidates t g v k c) (candidates_from t g v (k + 1) left)

    here_same : foreseen_strings (setup_in digest mid) mid.world (candidates (setup_in digest mid) g mid.world k c)
        ≡ foreseen_strings t v (candidates t g v k c)
    here_same =
        strings_later digest g old mid mid.world.hashed m.reach.hears (candidates (setup_in digest mid) g mid.world k c)
        ∙ ap (foreseen_strings t v) (candidates_later digest g old mid mid.world.hashed m.reach.hears k c)

    pub room_for : length old.trace < most_records → length mid.trace < most_records
    room_for few = subst (λ (rs : List Record). length rs < most_records) (sym m.reach.hears.trace) few

    pub next_contract : (new : Played H) (after : List Outlook) → AddsContract digest mid new g k c before after
        → MidwayContracts digest old new g (k + 1) left all after
    next_contract new after one = record {
      reach = reach_more digest old mid new _ _ _ _ _ m.reach contracts_cut here_same one.calm;
      told =
          ap (λ (os : List Outlook). os ++ foretold_outlooks t g v (k + 1) left) (one.told
          ∙ ap (λ (o : Outlook). before ++ o ∷ []) (outlook_later digest g old mid mid.world.hashed m.reach.hears k c))
          ∙ append_assoc before (foretold_outlook t g v k c ∷ []) (foretold_outlooks t g v (k + 1) left)
          ∙ m.told;
    }

    pub stops_contract : (new : Played H) (halt : Halt)
        → Stopped digest mid new (foreseen_strings (setup_in digest mid) mid.world (candidates (setup_in digest mid) g mid.world k c)) halt
        → Stopped digest old new (foreseen_strings t v (candidates_from t g v 0 all)) halt
    stops_contract new halt h = reach_stopped digest old mid new _ _ _ _ _ m.reach contracts_cut here_same halt h

  pub end_contracts : (old new : Played H) (k : ℕ) (all : List Advert) (outlooks : List Outlook)
      → MidwayContracts digest old new g k [] all outlooks → SeesContracts digest old new g all outlooks
  end_contracts old new k all outlooks m = record { calm = reach_end digest old new _ m.reach; told = sym (append-nil outlooks) ∙ m.told }
