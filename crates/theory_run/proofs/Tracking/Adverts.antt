-- The configuration tracks the world where a contract is advertised.
use Rattle.std.proofs.Common.{◌≡◌, ℕ, List, [], ◌∷◌, ◌++◌, Bool, true, false, not, Option, Some, None, refl, sym, ap, ◌∙◌, subst, inl, inr}
use Rattle.std.specs.Prelude.{◌==◌, ◌||◌, slice_get, is_some}
use Rattle.std.specs.List.{list_any, list_all}
use Rattle.std.specs.Str.{bytes_eq}
use Rattle.std.proofs.lemmas.Bool.{and_parts, and_from, not_from_false, not-false, not-true, both_ways, eqb-true, false_from_ne_true}
use Rattle.spec_data.specs.Lists.{is_among, are_different, look_up, first_reason}
use Rattle.spec_data.proofs.ListLemmas.{no_reason-none_true}
use Rattle.spec_terms.specs.Advert.{Advert}
use Rattle.spec_terms.specs.Precondition.{Holding, deposits, names_of}
use Rattle.spec_calculus.specs.declared.step.Step.TheVariants as steps
use Rattle.spec_calculus.specs.Configuration.{Configuration}
use Rattle.spec_calculus.specs.Beginning.{contract_at, pre_of as calculus_pre, fits_deposit, binds, binds_each, are_bound_apart}
use Rattle.spec_run.specs.declared.event.Event.TheVariants as events
use Rattle.spec_run.specs.Setup.{Setup, pre_at, pre_of}
use Rattle.spec_run.specs.World.{World, output_at}
use Rattle.spec_run.specs.Owners.{suits}
use Rattle.spec_run.specs.Conditions.{IsSetup}
use Rattle.spec_run.specs.Pending.{done}
use Rattle.spec_run.specs.Secrets.{all_secrets}
use Rattle.spec_run.specs.Advertising.{or_else_this, arranged, repeated, unsuited, deposit_names, are_rearranged, advertise_row, advertise_pending}
use Rattle.theory_calculus.proofs.Names.{bytes_refl, different_names, deposits_different}
use Rattle.theory_calculus.specs.Members.{Is_in}
use Rattle.theory_run.proofs.Facts.Secrets.{different_secrets}
use Rattle.theory_world.proofs.Contracts.Checking.{contract_checked}
use Rattle.theory_run.proofs.Steps.Legal.{passes}
use Rattle.theory_run.specs.Tracks.{AgreeOnMoney, Tracks}
use Rattle.theory_run.proofs.Steps.Moved.{live_there, owner_there, value_there}
use Rattle.theory_run.proofs.Steps.CommitSteps.{same_people}
use Rattle.theory_run.proofs.Events.Advertised.{all_looked, suits_looked, one_name, deposit_looked}
use Rattle.theory_run.proofs.Tracking.Tracked.{Tracked, still, unless_tracked}

-- a deposit that suits fits
fits_where_suits : (s : Setup) (g : Configuration) (w : World) → AgreeOnMoney s g w → (n : ℕ) (h : Holding)
    → suits s (Some h) (output_at w n) ≡ true → fits_deposit g.deposits n h.owner h.value ≡ true
fits_where_suits s g w money n h e = rw (live_there s g w money n, owner_there s g w money n, value_there s g w money n) e

looked_number : (bs : List (List ℕ × ℕ)) (name : List ℕ) → is_some (look_up name bs) ≡ true → look_up name bs ≡ Some (or_else_this 0 (look_up name bs))
looked_number bs name h = by_value (look_up name bs) h
  where
    by_value : (o : Option ℕ) → is_some o ≡ true → o ≡ Some (or_else_this 0 o)
    by_value None h = cc
    by_value (Some n) h = refl

module _ (s : Setup) (g : Configuration) (w : World) (money : AgreeOnMoney s g w) (k : ℕ) (bs : List (List ℕ × ℕ))
    (suited : is_some (unsuited s w k bs) ≡ false) (once : is_some (repeated [] bs) ≡ false) where
  -- each deposit is bound to one that fits
  bound_each : (ds : List (List ℕ × Holding)) → list_all (λ m. is_some (look_up m bs)) (names_of ds) ≡ true
      → ((d : List ℕ × Holding) → Is_in d ds → look_up (d.0) (deposits (pre_at s k)) ≡ Some (d.1))
      → binds_each g.deposits ds (arranged 0 (names_of ds) bs) ≡ true
  bound_each [] all known = refl
  bound_each (d ∷ ds) all known =
      let p = and_parts (is_some (look_up (d.0) bs)) (list_all (λ m. is_some (look_up m bs)) (names_of ds)) all in
      let n = or_else_this 0 (look_up (d.0) bs) in
      let t : suits s (look_up (d.0) (deposits (pre_at s k))) (output_at w n) ≡ true = suits_looked s w k bs (d.0) n suited (looked_number bs (d.0) p.0) in
      let u : suits s (Some (d.1)) (output_at w n) ≡ true = subst (λ o. suits s o (output_at w n) ≡ true) (known d (inl refl)) t in
      and_from _ _ (and_from _ _ (bytes_refl (d.0)) (fits_where_suits s g w money n (d.1) u)) (bound_each ds p.1 (λ e i. known e (inr i)))

  -- a name that is bound to the number of another one is that one
  no_other : (x : List ℕ) (names : List (List ℕ)) → is_some (look_up x bs) ≡ true → list_all (λ m. is_some (look_up m bs)) names ≡ true
      → is_among x names ≡ false
      → list_any (λ c. c.1 == or_else_this 0 (look_up x bs)) (arranged 0 names bs) ≡ false
  no_other x [] h all f = refl
  no_other x (y ∷ names) h all f =
      let p = and_parts (is_some (look_up y bs)) (list_all (λ m. is_some (look_up m bs)) names) all in
      let n = or_else_this 0 (look_up x bs) in
      let e : (or_else_this 0 (look_up y bs) == n) ≡ false = false_from_ne_true _ (λ q.
      let same = one_name [] bs y x n once (looked_number bs y p.0 ∙ ap Some (eqb-true (or_else_this 0 (look_up y bs)) n q)) (looked_number bs x h) in
      let t : (bytes_eq y x || is_among x names) ≡ true = rw (← same, bytes_refl y) refl in
      both_ways _ f t) in
      let r : is_among x names ≡ false = by_test (bytes_eq y x) f in
      rw e (no_other x names h p.1 r)
    where
      by_test : (b : Bool) → (b || is_among x names) ≡ false → is_among x names ≡ false
      by_test true q = cc
      by_test false q = q

  bound_apart : (names : List (List ℕ)) → are_different names ≡ true → list_all (λ m. is_some (look_up m bs)) names ≡ true
      → are_bound_apart (arranged 0 names bs) ≡ true
  bound_apart [] d all = refl
  bound_apart (x ∷ names) d all =
      let p = and_parts (is_some (look_up x bs)) (list_all (λ m. is_some (look_up m bs)) names) all in
      let q = and_parts (not (is_among x names)) (are_different names) d in
      and_from _ _ (not_from_false _ (no_other x names p.0 p.1 (not-true _ q.0))) (bound_apart names q.1 p.1)

module _ (s : Setup) (setup : IsSetup s)
    (z : List (List ℕ)) (apart : different_secrets (all_secrets s) ≡ true) (g : Configuration) (w : World) (tracks : Tracks s z g w) where
  pub advertise_tracked : (k : ℕ) (bs : List (List ℕ × ℕ)) → Tracked s z g w (events.Advertise k bs) (advertise_pending s w k bs)
  advertise_tracked k bs =
      let adverts = w.advertised ++ record { contract = k; bindings = arranged 0 (deposit_names s k) bs } ∷ [] in
      unless_tracked s z apart g w tracks (events.Advertise k bs) (first_reason (advertise_row s w k bs)) []
      (done (record w { advertised = adverts }) []) (λ r clear unguessed begins.
      let row = no_reason-none_true (advertise_row s w k bs) r in
      let calm = still s z apart g w tracks g.init_authorised g.branch_authorised g.time w.tip w.book [] tracks.money.time clear in
      record {
        legal = (
          passes g (steps.Advertise k (arranged 0 (deposit_names s k) bs)) (
            and_from _ _ (ap (λ cs. is_some (slice_get cs k)) tracks.constant.contracts ∙ not-false _ row.0) (rw tracks.advertised (not_from_false _ row.1.0)),
            (
              by_contract (contract_at s.contracts k) refl (not-false _ row.0) (not-false _ row.1.1.0) row.1.1.1.0 row.1.1.1.1.1.0,
              (rw (tracks.constant.contracts, same_people (contract_at s.contracts k), tracks.constant.honest) (not-false _ row.1.1.1.1.1.1.0), tt),
            ),
          ),
          tt,
        );
        tracks = record {
          money =
              record { time = calm.money.time; next = calm.money.next; deposits = calm.money.deposits; active = calm.money.active; moves = calm.money.moves };
          secrets = record {
            lengths = calm.secrets.lengths;
            revealed = calm.secrets.revealed;
            known = calm.secrets.known;
            own = calm.secrets.own;
            clear = calm.secrets.clear;
            heard = calm.secrets.heard;
            once = calm.secrets.once;
            early = calm.secrets.early;
            full = calm.secrets.full;
          };
          constant = record { parties = calm.constant.parties; honest = calm.constant.honest; contracts = calm.constant.contracts };
          advertised = ap (λ xs. xs ++ record { contract = k; bindings = arranged 0 (deposit_names s k) bs } ∷ []) tracks.advertised;
        };
      })
    where
      by_contract : (o : Option Advert) → contract_at s.contracts k ≡ o → is_some o ≡ true
          → are_rearranged (names_of bs) (deposit_names s k) ≡ true → is_some (repeated [] bs) ≡ false → is_some (unsuited s w k bs) ≡ false
          → binds g.deposits (calculus_pre (contract_at g.contracts k)) (arranged 0 (deposit_names s k) bs) ≡ true
      by_contract None e h r o u = cc
      by_contract (Some a) e h r o u =
          let same : contract_at g.contracts k ≡ Some a = ap (λ cs. slice_get cs k) tracks.constant.contracts ∙ e in
          let pre_is : pre_at s k ≡ a.pre = ap pre_of e in
          let different = different_names a (contract_checked s setup k a e) in
          let all : list_all (λ m. is_some (look_up m bs)) (names_of (deposits a.pre)) ≡ true =
          all_looked bs (names_of (deposits a.pre))
          (subst (λ p. list_all (λ n. is_among n (names_of bs)) (names_of (deposits p)) ≡ true) pre_is (and_parts _ _ r).1) in
          let each = bound_each s g w tracks.money k bs u o (deposits a.pre) all
          (λ d i. subst (λ p. look_up (d.0) (deposits p) ≡ Some (d.1)) (sym pre_is) (deposit_looked a.pre d different i)) in
          let two = bound_apart s g w tracks.money k bs u o (names_of (deposits a.pre)) (deposits_different a.pre different) all in
          rw (same, pre_is) (and_from _ _ each two)
