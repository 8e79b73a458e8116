-- An advertisement, a commitment, an endorsement, a signature of the initial transaction, a reveal or an authorisation for which nothing is said to be missing
-- can come, unless it halts the run.
use Rattle.std.proofs.Common.{◌≡◌, ℕ, List, [], ◌∷◌, ◌++◌, map, Bool, true, false, Option, Some, None, refl, sym, ap, ◌∙◌, subst, inl, inr, ◌⊎◌, arith}
use Rattle.std.specs.Prelude.{not, ◌||◌, ◌&&◌, ◌==◌, is_some, if◌then◌else◌, slice_get}
use Rattle.std.specs.List.{Contains, list_all, list_any}
use Rattle.std.specs.Str.{bytes_eq}
use Rattle.std.proofs.lemmas.Bool.{and_parts, and_from, or_right, false≢true}
use Rattle.std.proofs.lemmas.Bool.{eqb-true}
use Rattle.std.proofs.lemmas.Slice.Eq.{bytes_eq-Decides}
use Rattle.std.specs.Option.{option_and_then}
use Rattle.spec_data.specs.Lists.{is_among, are_different, has_number, first_reason, look_up}
use Rattle.spec_bitcoin.specs.Keys.{Pair}
use Rattle.spec_terms.specs.Advert.{Advert}
use Rattle.spec_terms.specs.Faults.{IsWellFormed}
use Rattle.spec_terms.specs.Parties.{participants}
use Rattle.spec_terms.specs.Precondition.{deposits, secrets, names_of, names_of_party}
use Rattle.spec_calculus.specs.declared.parts.Deposit.{Deposit}
use Rattle.spec_calculus.specs.declared.parts.Revealed.{Revealed}
use Rattle.spec_calculus.specs.Configuration.{Configuration}
use Rattle.spec_calculus.specs.Beginning as calculus
use Rattle.spec_calculus.specs.Beginning.{has_committed, participants_of}
use Rattle.spec_calculus.specs.declared.parts.ActiveContract.{ActiveContract}
use Rattle.spec_calculus.specs.Branches.{active_at, advert_of, contract_number, is_revealed}
use Rattle.spec_run.specs.Agreement.{active_in, active_by}
use Rattle.spec_run.specs.declared.event.Event.{Event}
use Rattle.spec_run.specs.declared.event.Event.TheVariants as events
use Rattle.spec_run.specs.declared.outcome.Outcome.TheVariants as outcomes
use Rattle.spec_run.specs.declared.outcome.Reason.{Reason}
use Rattle.spec_run.specs.declared.outcome.Reason.TheVariants as reason
use Rattle.spec_run.specs.Setup.{Setup, contract_at, has_contract, takes_part, people_at, pre_at, is_honest, held_secret}
use Rattle.spec_run.specs.Setup.{bytes_or_none}
use Rattle.spec_run.specs.World.{ContractPosition, Output, live_position, live_position_at}
use Rattle.spec_run.specs.World.{World, output_at, is_deposit, is_advertised, has_promised, have_promised}
use Rattle.spec_run.specs.Compiled.{compiled_instance, instance_if_complete, instance_of, is_complete}
use Rattle.spec_compiler.specs.Instance.{Instance}
use Rattle.spec_compiler.specs.Endorsements.{Need, is_met, missing_endorsement}
use Rattle.spec_run.specs.Advertising.{are_rearranged, arranged, not_live, unsuited, deposit_names, advertise_row}
use Rattle.spec_run.specs.Owners.{suits}
use Rattle.spec_run.specs.Committing.{secrets_at, names_fit, missing_secret, bad_secret, repeated_digest, commit_row, digest_row, with_promise}
use Rattle.spec_run.specs.Committing.{committed_strings, committed_pending}
use Rattle.spec_run.specs.Event.{pending}
use Rattle.spec_run.specs.Pending.{Pending, done, posting, unless}
use Rattle.spec_run.specs.Revealing.{own_secret, reveal_row}
use Rattle.spec_run.specs.Secrets.{digest_at}
use Rattle.spec_run.specs.Signing.{with_pairs, needs_at, pairs_of_party, endorsing_pairs, endorse_row, initial_pairs, missing_need, missed_need}
use Rattle.spec_run.specs.Signing.{not_endorsed, init_row}
use Rattle.spec_run.specs.Translation.{last_configuration, last_world, first_halt}
use Rattle.spec_run.specs.Statements.{IsRun, spends_with_leave}
use Rattle.spec_next.specs.declared.requirement.Requirement.TheVariants as requirements
use Rattle.spec_next.specs.Bindings.{bindings_for}
use Rattle.spec_next.specs.Candidates.{are_signed, has_endorsed}
use Rattle.spec_next.specs.Hands.{is_in_hand}
use Rattle.spec_next.specs.Prospects.{is_ahead, is_string_posted, lasting, ruling_by}
use Rattle.spec_next.specs.Requirements.{Condition, agreed, begun, bound, digests_told, endorsed, endorsed_for, unmet}
use Rattle.spec_next.specs.Requirements.{requirements_of}
use Rattle.theory_calculus.specs.Members.{Is_in}
use Rattle.theory_calculus.proofs.Members.{in_append, in_from_contains, contains_from_in, all_map}
use Rattle.theory_calculus.proofs.Names.{bytes_refl, all_among, different_names, deposits_different, in_looked, looked_in}
use Rattle.theory_script.proofs.Missing.{none_unmet}
use Rattle.theory_world.proofs.Contracts.Checking.{all_checked}
use Rattle.theory_world.proofs.Later.{compiled_from}
use Rattle.theory_world.proofs.Ledger.Outputs.{active-at}
use Rattle.theory_world.proofs.Tests.{any_map}
use Rattle.theory_run.specs.KeptSecrets.{committed_by, is_own}
use Rattle.theory_run.specs.Tracks.{Tracks}
use Rattle.theory_run.proofs.Events.Advertised.{none_is}
use Rattle.theory_run.proofs.Following.{run_posts, kept_at_end}
use Rattle.theory_offers.specs.Begun.{is_endorsed_so, is_endorsed_at}
use Rattle.theory_offers.proofs.BegunInRun.{endorsed_before_start}
use Rattle.theory_offers.proofs.WholeRun.{KeptAll, opening_all, keeps_all}
use Rattle.theory_next.specs.Others.{OthersComeTheorem}
use Rattle.theory_next.specs.Ready.{CanUnlessHalts}
use Rattle.theory_next.proofs.Advertising.{BoundWell, bound_well, rearranged_same, live_at, suits_at}
use Rattle.theory_next.proofs.Exact.{all_met, from_map}
use Rattle.theory_next.proofs.Exact.{none_unmet as all_met_none}
use Rattle.theory_next.proofs.FirstNeeds.{needed_take_part}
use Rattle.theory_next.proofs.FirstRun.{from_among}
use Rattle.theory_next.proofs.Lacking.{lacks_of, secret_takes_part, unposted}
use Rattle.theory_next.proofs.LiveBegun.{live_has_begun}
use Rattle.theory_next.proofs.MetAlone as alone
use Rattle.theory_next.proofs.Ready.{met_parts}
use Rattle.theory_next.proofs.NothingSaid.{Refused, unless_refused, Plain, none_in_hand, same_reason}
use Rattle.theory_next.proofs.Waits.{comes_unless}

-- ---- names

among_in : (p : List ℕ) (ps : List (List ℕ)) → Is_in p ps → is_among p ps ≡ true
among_in p [] h = absurd h
among_in p (q ∷ ps) (inl e) = ap (λ (b : Bool). b || is_among p ps) (subst (λ y. bytes_eq y p ≡ true) e (bytes_refl p))
among_in p (q ∷ ps) (inr i) = or_right (bytes_eq q p) _ (among_in p ps i)

-- a party's secret is one of its names
its_name : (party secret : List ℕ) (xs : List (List ℕ × List ℕ)) → Is_in (secret, party) xs → is_among secret (names_of_party party xs) ≡ true
its_name party secret [] h = absurd h
its_name party secret (x ∷ xs) (inl e) =
    subst (λ (y : List ℕ × List ℕ). is_among secret (names_of_party party (y ∷ xs)) ≡ true) e here
  where
    here : is_among secret (names_of_party party ((secret, party) ∷ xs)) ≡ true
    here = rw (bytes_refl party, bytes_refl secret) refl
its_name party secret (x ∷ xs) (inr i) = by_party (bytes_eq (x.1) party) (its_name party secret xs i)
  where
    by_party : (b : Bool) → is_among secret (names_of_party party xs) ≡ true
        → is_among secret (if b then x.0 ∷ names_of_party party xs else names_of_party party xs) ≡ true
    by_party true h = or_right (bytes_eq (x.0) secret) _ h
    by_party false h = h

not_yes : (b : Bool) → not b ≡ true → b ≡ false
not_yes true h = absurd (false≢true h)
not_yes false h = refl

module _ (s : Setup) (es : List Event) (run : IsRun s es) where
  abbrev g : Configuration
  g = last_configuration s es

  abbrev w : World
  w = last_world s es

  tracks : Tracks s (run_posts s es) g w
  tracks =
      let z = run_posts s es in
      (kept_at_end s (spends_with_leave s) (KeptAll s z) es (keeps_all s run.setup z) run.events
      (opening_all s es run z)).holds.honest.run.tracks

  committed_is : (k : ℕ) (a : List ℕ) → has_committed g.committed k a ≡ has_promised w k a
  committed_is k a =
      ap (λ cs. has_committed cs k a) tracks.secrets.lengths
      ∙ any_map (λ c. (c.contract == k) && bytes_eq c.party a) (committed_by s (run_posts s es)) w.promises

  module _ (k : ℕ) (a : Advert) (at : calculus.contract_at g.contracts k ≡ Some a) where
    same_contract : contract_at s k ≡ Some a
    same_contract = ap (λ cs. calculus.contract_at cs k) (sym tracks.constant.contracts) ∙ at

    there : has_contract s k ≡ true
    there = ap is_some same_contract

    told : calculus.is_advertised g.advertised k ≡ true → is_advertised w k ≡ true
    told h = ap (λ xs. calculus.is_advertised xs k) (sym tracks.advertised) ∙ h

    -- ---- advertisements

    abbrev bindings : List (List ℕ × ℕ)
    bindings = bindings_for g.deposits (deposits a.pre)

    bound_plain : Plain s g w (bound (deposit_names s k) bindings)
    unfolding Plain
    bound_plain c i =
        let m = from_map (λ x. (is_among x (names_of bindings), requirements.Deposit x)) (deposit_names s k) c i in
        ap (λ (d : Condition). is_in_hand s w (d.1)) m.2

    among_all : (xs ys : List (List ℕ)) (x : List ℕ)
        → list_all (λ (c : Condition). c.0) (map (λ y. (is_among y ys, requirements.Deposit y)) xs) ≡ true → Is_in x xs → is_among x ys ≡ true
    among_all [] ys x h i = absurd i
    among_all (y ∷ xs) ys x h (inl e) =
        subst (λ (z : List ℕ). is_among z ys ≡ true) (sym e) (and_parts (is_among y ys) _ h).0
    among_all (y ∷ xs) ys x h (inr i) = among_all xs ys x (and_parts (is_among y ys) _ h).1 i

    all_live : (bs : List (List ℕ × ℕ)) → ((b : List ℕ × ℕ) → Is_in b bs → is_deposit (output_at w (b.1)) ≡ true) → not_live w bs ≡ None
    all_live [] f = refl
    all_live (b ∷ bs) f =
        ap (λ (t : Bool). if t then not_live w bs else Some (b.0)) (f b (inl refl)) ∙ all_live bs (λ c i. f c (inr i))

    all_suited : (bs : List (List ℕ × ℕ))
        → ((b : List ℕ × ℕ) → Is_in b bs → suits s (look_up (b.0) (deposits (pre_at s k))) (output_at w (b.1)) ≡ true)
        → unsuited s w k bs ≡ None
    all_suited [] f = refl
    all_suited (b ∷ bs) f =
        ap (λ (t : Bool). if t then unsuited s w k bs else Some (b.0)) (f b (inl refl)) ∙ all_suited bs (λ c i. f c (inr i))

    advertises : is_ahead s w (events.Advertise k bindings) ≡ true → Refused s g w (events.Advertise k bindings)
        → CanUnlessHalts s w (events.Advertise k bindings)
    advertises ahead r = by_people (list_any (is_honest s) (people_at s k)) refl
      where
        same_names : deposit_names s k ≡ names_of (deposits a.pre)
        same_names = ap (λ (o : Option Advert). names_of (deposits (calculus.pre_of o))) same_contract

        differ : are_different (names_of (deposits a.pre)) ≡ true
        differ = deposits_different a.pre (different_names a (all_checked s.contracts k a run.setup.contracts same_contract))

        well : BoundWell g.deposits (deposits a.pre) bindings
        well =
            let met = all_met (bound (deposit_names s k) bindings) (none_in_hand s g w (bound (deposit_names s k) bindings) bound_plain r.nothing) in
            bound_well g.deposits (deposits a.pre) differ
            (λ x i. among_all (deposit_names s k) (names_of bindings) x met
            (subst (λ (xs : List (List ℕ)). Is_in x xs) (sym same_names) (from_among x (names_of (deposits a.pre)) i)))

        rearranged : are_rearranged (names_of bindings) (deposit_names s k) ≡ true
        rearranged =
            (λ i. are_rearranged (well.names i) (same_names i)) ∙ rearranged_same (names_of (deposits a.pre)) differ

        -- each is bound to a live output that suits
        found : (b : List ℕ × ℕ) → Is_in b bindings
            → (is_deposit (output_at w (b.1)) ≡ true) × (suits s (look_up (b.0) (deposits (pre_at s k))) (output_at w (b.1)) ≡ true)
        found b i =
            let e = well.each b i in
            let l = live_at s w.outputs 0 e.d (subst (λ (ds : List Deposit). Is_in e.d ds) tracks.money.deposits e.there) in
            let place : l.j ≡ b.1 = let n = l.number in let m = e.number in omega (arith, n, m) in
            let here : output_at w (b.1) ≡ Some l.o = ap (λ (n : ℕ). output_at w n) (sym place) ∙ l.at in
            let looked : look_up (b.0) (deposits (pre_at s k)) ≡ Some e.holding =
            ap (λ (o : Option Advert). look_up (b.0) (deposits (calculus.pre_of o))) same_contract
            ∙ in_looked (deposits a.pre) (b.0, e.holding) differ e.named in (
              ap is_deposit here ∙ l.live,
              (λ i. suits s (looked i) (here i)) ∙ suits_at s e.holding e.d l.o e.fit l.live l.owner l.value,
            )

        last : Pending
        last = done (record w {
          advertised = w.advertised ++ record { contract = k; bindings = arranged 0 (deposit_names s k) bindings } ∷ [];
        }) []

        row_is : (b : Bool) → list_any (is_honest s) (people_at s k) ≡ b
            → first_reason (advertise_row s w k bindings) ≡ first_reason ((not b, reason.NoHonest) ∷ [])
        row_is b e i = first_reason (
            (not (there i), reason.NoContract)
            ∷ (not_yes (is_advertised w k) ahead i, reason.AdvertFull)
            ∷ (not (rearranged i), reason.WrongNames)
            ∷ (is_some (well.once i), reason.DepositRepeated (bytes_or_none (well.once i)))
            ∷ (is_some (all_live bindings (λ b' j. (found b' j).0) i), reason.NotLive (bytes_or_none (all_live bindings (λ b' j. (found b' j).0) i)))
            ∷ (is_some (all_suited bindings (λ b' j. (found b' j).1) i), reason.WrongDeposit (bytes_or_none (all_suited bindings (λ b' j. (found b' j).1) i)))
            ∷ (not (e i), reason.NoHonest)
            ∷ [])

        by_people : (b : Bool) → list_any (is_honest s) (people_at s k) ≡ b → CanUnlessHalts s w (events.Advertise k bindings)
        by_people true e = comes_unless s w (events.Advertise k bindings) (ap (λ x. ruling_by (unless x w [] last).outcome) (row_is true e))
        by_people false e =
            let o : (pending s w (events.Advertise k bindings)).outcome ≡ outcomes.Refused reason.NoHonest =
            ap (λ x. (unless x w [] last).outcome) (row_is false e) in
            let stays : lasting reason.NoHonest ≡ [] = ap lasting (same_reason s g w (events.Advertise k bindings) r.reason reason.NoHonest o r.is) ∙ r.passes in
            absurd cc

    -- ---- endorsements

    promised : (ps : List (List ℕ)) → list_all (λ party. has_committed g.committed k party) ps ≡ true → have_promised w k ps ≡ true
    promised [] h = refl
    promised (p ∷ ps) h =
        let q = and_parts (has_committed g.committed k p) (list_all (λ party. has_committed g.committed k party) ps) h in
        (λ i. (sym (committed_is k p) ∙ q.0) i && have_promised w k ps) ∙ promised ps q.1

    compiled_with : list_all (λ c. c.0) (agreed g k) ≡ true → compiled_instance s w k ≡ Some (instance_of w k a)
    compiled_with h =
        let q = and_parts (calculus.is_advertised g.advertised k) _ h in
        let all : list_all (λ party. has_committed g.committed k party) (participants_of (calculus.contract_at g.contracts k)) ≡ true =
        sym (all_map (λ c. c.0) _ (participants_of (calculus.contract_at g.contracts k))) ∙ q.1 in
        let each : list_all (λ party. has_committed g.committed k party) (participants a) ≡ true =
        subst (λ o. list_all (λ party. has_committed g.committed k party) (participants_of o) ≡ true) at all in
        compiled_from s w k a same_contract (told q.0) (promised (participants a) each)

    compiled : list_all (λ c. c.0) (agreed g k) ≡ true → is_some (compiled_instance s w k) ≡ true
    compiled h = ap is_some (compiled_with h)

    agreed_plain : Plain s g w (agreed g k)
    unfolding Plain
    agreed_plain c (inl e) = ap (λ (d : Condition). is_in_hand s w (d.1)) e
    agreed_plain c (inr i) =
        let m = from_map (λ party. (has_committed g.committed k party, requirements.Commitment party k))
        (participants_of (calculus.contract_at g.contracts k)) c i in
        ap (λ (d : Condition). is_in_hand s w (d.1)) m.2

    takes : (party : List ℕ) → Contains (participants a) party → takes_part s k party ≡ true
    takes party part =
        subst (λ (o : Option Advert). is_among party (participants_of o) ≡ true) (sym same_contract)
        (among_in party (participants a) (in_from_contains (participants a) party part))

    endorses : (party : List ℕ) → Contains (participants a) party → unmet (agreed g k) ≡ [] → CanUnlessHalts s w (events.Endorse k party)
    endorses party part nothing =
        let last = done (with_pairs w (endorsing_pairs s party (compiled_instance s w k))) [] in
        comes_unless s w (events.Endorse k party) (ap (λ r. ruling_by (unless r w [] last).outcome) row)
      where
        row : first_reason (endorse_row s w k party) ≡ None
        row i = first_reason (
            (not (there i), reason.NoContract)
            ∷ (not (takes party part i), reason.NotParticipant)
            ∷ (not (compiled (all_met (agreed g k) nothing) i), reason.NotAllCommitted)
            ∷ [])

    -- ---- commitments

    -- digests are asked of a party that isn't honest, for each of its secrets
    told_plain : (party : List ℕ) → Plain s g w ((calculus.is_advertised g.advertised k, requirements.Advert k) ∷ digests_told s k party [])
    unfolding Plain
    told_plain party c (inl e) = ap (λ (d : Condition). is_in_hand s w (d.1)) e
    told_plain party c (inr i) =
        let m = from_map (λ x. (is_honest s party || is_among x [], requirements.Digest party k x)) (secrets_at s k party) c i in
        ap (λ (d : Condition). is_in_hand s w (d.1)) m.2

    fits : (party : List ℕ) → list_all (λ (c : Condition). c.0) (digests_told s k party []) ≡ true → names_fit s k party [] ≡ true
    fits party h = by_honesty (is_honest s party) (secrets_at s k party) h
      where
        by_honesty : (b : Bool) (xs : List (List ℕ))
            → list_all (λ (c : Condition). c.0) (map (λ x. (b || is_among x [], requirements.Digest party k x)) xs) ≡ true
            → (if b then true else are_rearranged [] xs) ≡ true
        by_honesty true xs q = refl
        by_honesty false [] q = refl
        by_honesty false (x ∷ xs) q = absurd (false≢true q)

    commits : (party : List ℕ) → Contains (participants a) party → is_ahead s w (events.Commit k party []) ≡ true
        → Refused s g w (events.Commit k party []) → CanUnlessHalts s w (events.Commit k party [])
    commits party part ahead r =
        by_secrets (missing_secret s k party) (bad_secret s k party) (repeated_digest s w k party []) refl refl refl
      where
        met : list_all (λ (c : Condition). c.0)
            ((calculus.is_advertised g.advertised k, requirements.Advert k) ∷ digests_told s k party []) ≡ true
        met =
            let cs = (calculus.is_advertised g.advertised k, requirements.Advert k) ∷ digests_told s k party [] in
            all_met cs (none_in_hand s g w cs (told_plain party) r.nothing)

        last_pending : Pending
        last_pending = committed_pending s (with_promise s w k party []) k party (committed_strings s k party)

        row_is : (m b : Option (List ℕ)) → missing_secret s k party ≡ m → bad_secret s k party ≡ b
            → first_reason (commit_row s w k party [])
            ≡ first_reason ((is_some m, reason.NoSecret (bytes_or_none m)) ∷ (is_some b, reason.BadSecretLength (bytes_or_none b)) ∷ [])
        row_is m b e f i =
            let q = and_parts (calculus.is_advertised g.advertised k) (list_all (λ (c : Condition). c.0) (digests_told s k party [])) met in
            first_reason (
            (not (there i), reason.NoContract)
            ∷ (not (told q.0 i), reason.NotAdvertised)
            ∷ (not (takes party part i), reason.NotParticipant)
            ∷ (not_yes (has_promised w k party) ahead i, reason.AlreadyCommitted)
            ∷ (not (fits party q.1 i), reason.WrongNames)
            ∷ (is_some (e i), reason.NoSecret (bytes_or_none (e i)))
            ∷ (is_some (f i), reason.BadSecretLength (bytes_or_none (f i)))
            ∷ [])

        outcome_is : (x : Option Reason) → first_reason (commit_row s w k party []) ≡ x
            → (pending s w (events.Commit k party [])).outcome
            ≡ (unless x w [] (unless (first_reason (digest_row s w k party [])) w (committed_strings s k party) last_pending)).outcome
        outcome_is x e =
            ap (λ y. (unless y w [] (unless (first_reason (digest_row s w k party [])) w (committed_strings s k party) last_pending)).outcome) e

        -- a reason that stays is none that passes
        no : (x : Reason) → (lasting x ≡ [] → ⊥) → (pending s w (events.Commit k party [])).outcome ≡ outcomes.Refused x → CanUnlessHalts s w (events.Commit k party [])
        no x stays o =
            absurd (stays (ap lasting (same_reason s g w (events.Commit k party []) r.reason x o r.is) ∙ r.passes))

        by_secrets : (m b d : Option (List ℕ)) → missing_secret s k party ≡ m → bad_secret s k party ≡ b → repeated_digest s w k party [] ≡ d
            → CanUnlessHalts s w (events.Commit k party [])
        by_secrets (Some x) b d e f h = no (reason.NoSecret x) (λ q. cc) (outcome_is _ (row_is (Some x) b e f))
        by_secrets None (Some x) d e f h = no (reason.BadSecretLength x) (λ q. cc) (outcome_is _ (row_is None (Some x) e f))
        by_secrets None None (Some x) e f h =
            no (reason.HashRepeated x) (λ q. cc)
            (outcome_is None (row_is None None e f)
            ∙ ap (λ (o : Option (List ℕ)). (unless (first_reason ((is_some o, reason.HashRepeated (bytes_or_none o)) ∷ [])) w
            (committed_strings s k party) last_pending).outcome) h)
        by_secrets None None None e f h =
            comes_unless s w (events.Commit k party [])
            (ap ruling_by (outcome_is None (row_is None None e f)
            ∙ ap (λ (o : Option (List ℕ)). (unless (first_reason ((is_some o, reason.HashRepeated (bytes_or_none o)) ∷ [])) w
            (committed_strings s k party) last_pending).outcome) h))

    -- ---- signatures of the initial transaction

    init_plain : (party : List ℕ)
        → Plain s g w (agreed g k ++ endorsed_for s w k party (compiled_instance s w k) (participants_of (calculus.contract_at g.contracts k)))
    unfolding Plain
    init_plain party c i = by_part (in_append c (agreed g k) _ i)
      where
        endorsing : (o : Option Instance) → Is_in c (endorsed_for s w k party o (participants_of (calculus.contract_at g.contracts k)))
            → is_in_hand s w (c.1) ≡ false
        endorsing None j = absurd j
        endorsing (Some st) j = by_honesty (is_honest s party) j
          where
            by_honesty : (b : Bool)
                → Is_in c (if b then endorsed s w k st (participants_of (calculus.contract_at g.contracts k)) else [])
                → is_in_hand s w (c.1) ≡ false
            by_honesty false q = absurd q
            by_honesty true q =
                let m = from_map (λ p. (has_endorsed s w (Some st) p, requirements.Endorsement p k))
                (participants_of (calculus.contract_at g.contracts k)) c q in
                ap (λ (d : Condition). is_in_hand s w (d.1)) m.2

        by_part : Is_in c (agreed g k) ⊎ Is_in c (endorsed_for s w k party (compiled_instance s w k) (participants_of (calculus.contract_at g.contracts k)))
            → is_in_hand s w (c.1) ≡ false
        by_part (inl j) = agreed_plain c j
        by_part (inr j) = endorsing (compiled_instance s w k) j

    -- each need is of a participant, who has signed all of its own
    own_signed : (book : List Pair) (party : List ℕ) (needs : List Need) (n : Need) → Is_in n needs → n.party ≡ party
        → are_signed book (pairs_of_party party needs) ≡ true → is_met book n ≡ true
    own_signed book party [] n i e h = absurd i
    own_signed book party (m ∷ needs) n (inl q) e h = by_party (bytes_eq m.party party) refl h
      where
        by_party : (b : Bool) → bytes_eq m.party party ≡ b
            → are_signed book (if b then (m.key, m.digest) ∷ pairs_of_party party needs else pairs_of_party party needs) ≡ true
            → is_met book n ≡ true
        by_party true f t = subst (λ (x : Need). is_met book x ≡ true) (sym q) (and_parts (is_met book m) _ t).0
        by_party false f t =
            absurd (false≢true (sym f ∙ subst (λ (x : List ℕ). bytes_eq x party ≡ true) (sym e ∙ ap (λ (x : Need). x.party) q) (bytes_refl party)))
    own_signed book party (m ∷ needs) n (inr i) e h = by_party (bytes_eq m.party party) h (own_signed book party needs n i e)
      where
        by_party : (b : Bool)
            → are_signed book (if b then (m.key, m.digest) ∷ pairs_of_party party needs else pairs_of_party party needs) ≡ true
            → (are_signed book (pairs_of_party party needs) ≡ true → is_met book n ≡ true) → is_met book n ≡ true
        by_party true t later = later (and_parts (is_met book m) _ t).1
        by_party false t later = later t

    all_signed : (st : Instance) (ps : List (List ℕ)) (p : List ℕ) → list_all (λ q. has_endorsed s w (Some st) q) ps ≡ true → Is_in p ps
        → are_signed w.book (pairs_of_party p (needs_at s st)) ≡ true
    all_signed st [] p h i = absurd i
    all_signed st (q ∷ ps) p h (inl e) =
        subst (λ (x : List ℕ). are_signed w.book (pairs_of_party x (needs_at s st)) ≡ true) (sym e) (and_parts (has_endorsed s w (Some st) q) _ h).0
    all_signed st (q ∷ ps) p h (inr i) = all_signed st ps p (and_parts (has_endorsed s w (Some st) q) _ h).1 i

    needs_met : (st : Instance) (needs : List Need) → ((n : Need) → Is_in n needs → is_met w.book n ≡ true) → list_all (is_met w.book) needs ≡ true
    needs_met st [] f = refl
    needs_met st (n ∷ needs) f = and_from (is_met w.book n) (list_all (is_met w.book) needs) (f n (inl refl)) (needs_met st needs (λ m i. f m (inr i)))

    among_back : (p : List ℕ) (ps : List (List ℕ)) → is_among p ps ≡ true → Is_in p ps
    among_back p [] h = absurd (false≢true h)
    among_back p (q ∷ ps) h = by_first (bytes_eq q p) refl h (among_back p ps)
      where
        by_first : (b : Bool) → bytes_eq q p ≡ b → (b || is_among p ps) ≡ true → (is_among p ps ≡ true → Is_in p ps) → Is_in p (q ∷ ps)
        by_first true e f later = inl (sym ((bytes_eq-Decides q p).0 e))
        by_first false e f later = inr (later f)

    inits : (party : List ℕ) → Contains (participants a) party
        → unmet (agreed g k ++ endorsed_for s w k party (compiled_instance s w k) (participants_of (calculus.contract_at g.contracts k))) ≡ []
        → CanUnlessHalts s w (events.Init k party)
    inits party part nothing =
        let last = done (with_pairs w (initial_pairs s party (compiled_instance s w k))) [] in
        comes_unless s w (events.Init k party) (ap (λ r. ruling_by (unless r w [] last).outcome) row)
      where
        parts : (list_all (λ (c : Condition). c.0) (agreed g k) ≡ true)
            × (list_all (λ (c : Condition). c.0) (endorsed_for s w k party (compiled_instance s w k) (participants_of (calculus.contract_at g.contracts k))) ≡ true)
        parts =
            met_parts (agreed g k) (endorsed_for s w k party (compiled_instance s w k) (participants_of (calculus.contract_at g.contracts k)))
            (all_met (agreed g k ++ endorsed_for s w k party (compiled_instance s w k) (participants_of (calculus.contract_at g.contracts k))) nothing)

        none_missed : missed_need s w k party ≡ None
        none_missed = by_honesty (is_honest s party) refl
          where
            well : IsWellFormed a
            well = all_checked s.contracts k a run.setup.contracts same_contract

            signed : is_honest s party ≡ true → list_all (λ q. has_endorsed s w (Some (instance_of w k a)) q) (participants a) ≡ true
            signed honest =
                let st = instance_of w k a in
                let all : list_all (λ (c : Condition). c.0) (endorsed_for s w k party (Some st) (participants_of (Some a))) ≡ true =
                subst (λ (o : Option Advert). list_all (λ (c : Condition). c.0) (endorsed_for s w k party (Some st) (participants_of o)) ≡ true) at
                (subst (λ (o : Option Instance). list_all (λ (c : Condition). c.0)
                (endorsed_for s w k party o (participants_of (calculus.contract_at g.contracts k))) ≡ true) (compiled_with parts.0) parts.1) in
                let each : list_all (λ (c : Condition). c.0) (endorsed s w k st (participants a)) ≡ true =
                subst (λ (b : Bool). list_all (λ (c : Condition). c.0) (if b then endorsed s w k st (participants a) else []) ≡ true) honest all in
                sym (all_map (λ (c : Condition). c.0) (λ p. (has_endorsed s w (Some st) p, requirements.Endorsement p k)) (participants a)) ∙ each

            by_honesty : (b : Bool) → is_honest s party ≡ b → (if b then missing_need s w (compiled_instance s w k) else None) ≡ None
            by_honesty false e = refl
            by_honesty true e =
                let st = instance_of w k a in
                ap (missing_need s w) (compiled_with parts.0)
                ∙ none_is (missing_endorsement s.hash st w.book)
                (none_unmet w.book (needs_at s st)
                ∙ needs_met st (needs_at s st) (λ n i.
                own_signed w.book n.party (needs_at s st) n i refl
                (all_signed st (participants a) n.party (signed e) (among_back n.party (participants a) (needed_take_part s.hash st well n i)))))

        row : first_reason (init_row s w k party) ≡ None
        row i = first_reason (
            (not (there i), reason.NoContract)
            ∷ (not (takes party part i), reason.NotParticipant)
            ∷ (not (compiled parts.0 i), reason.NotAllCommitted)
            ∷ (is_some (none_missed i), not_endorsed (none_missed i))
            ∷ [])

    -- ---- reveals

    begun_plain : (party : List ℕ) → Plain s g w (begun g w k party)
    unfolding Plain
    begun_plain party c (inl e) = ap (λ (d : Condition). is_in_hand s w (d.1)) e
    begun_plain party c (inr (inl e)) = ap (λ (d : Condition). is_in_hand s w (d.1)) e
    begun_plain party c (inr (inr (inl e))) = ap (λ (d : Condition). is_in_hand s w (d.1)) e
    begun_plain party c (inr (inr (inr i))) = absurd i

    reveals : (party secret : List ℕ) → Contains (secrets a.pre) (secret, party) → is_honest s party ≡ true
        → is_ahead s w (events.Reveal k party secret) ≡ true → unmet (begun g w k party) ≡ []
        → CanUnlessHalts s w (events.Reveal k party secret)
    reveals party secret stands honest ahead nothing =
        let last = posting w (own_secret s party secret) (Some (party, secret)) in
        comes_unless s w (events.Reveal k party secret) (ap (λ r. ruling_by (unless r w [] last).outcome) row)
      where
        met : list_all (λ c. c.0) (begun g w k party) ≡ true
        met = all_met (begun g w k party) nothing

        has : has_promised w k party ≡ true
        has =
            let q = and_parts (calculus.is_advertised g.advertised k) _ met in
            let r = and_parts (has_committed g.committed k party) _ q.1 in
            sym (committed_is k party) ∙ r.0

        is_begun : has_number k w.begun ≡ true
        is_begun =
            let q = and_parts (calculus.is_advertised g.advertised k) _ met in
            let r = and_parts (has_committed g.committed k party) _ q.1 in
            (and_parts (has_number k w.begun) true r.1).0

        named : is_among secret (secrets_at s k party) ≡ true
        named = subst (λ (o : Option Advert). is_among secret (names_of_party party (secrets (calculus.pre_of o))) ≡ true) (sym same_contract)
            (its_name party secret (secrets a.pre) (in_from_contains (secrets a.pre) (secret, party) stands))

        unposted : is_among (own_secret s party secret) w.posted ≡ false
        unposted =
            let x : Revealed = record { contract = k; party = party; secret = secret } in
            by_held (held_secret s party secret) (digest_at w.promises x) (tracks.secrets.own x honest) (tracks.secrets.full x has named)
            (not_yes _ ahead)
          where
            by_held : (o : Option (List ℕ)) (d : Option (List ℕ)) → is_own s w.hashed o d ≡ true → is_some d ≡ true
                → is_string_posted o w ≡ false → is_among (bytes_or_none o) w.posted ≡ false
            by_held (Some bytes) d own some free = free
            by_held None None own some free = absurd (false≢true some)
            by_held None (Some digest) own some free = absurd (false≢true own)

        row : first_reason (reveal_row s w k party secret) ≡ None
        row i = first_reason (
            (not (there i), reason.NoContract)
            ∷ (not (honest i), reason.NotHonest)
            ∷ (not (named i), reason.NoSecret secret)
            ∷ (not (has i), reason.NotCommitted)
            ∷ (not (is_begun i), reason.NotBegun)
            ∷ (unposted i, reason.AlreadyRevealed)
            ∷ [])

-- ---- secrets that are missing

all_numbers : (f : ℕ → Bool) (ns : List ℕ) (k : ℕ) → list_all f ns ≡ true → has_number k ns ≡ true → f k ≡ true
all_numbers f [] k h i = absurd (false≢true i)
all_numbers f (n ∷ ns) k h i = by_first (n == k) refl i (all_numbers f ns k (and_parts (f n) (list_all f ns) h).1)
  where
    by_first : (b : Bool) → (n == k) ≡ b → (b || has_number k ns) ≡ true → (has_number k ns ≡ true → f k ≡ true) → f k ≡ true
    by_first true e j later = subst (λ (m : ℕ). f m ≡ true) (eqb-true n k e) (and_parts (f n) (list_all f ns) h).0
    by_first false e j later = later j

module _ (s : Setup) (es : List Event) (run : IsRun s es) (on : first_halt s es ≡ None) where
  abbrev here : Configuration
  here = last_configuration s es

  abbrev now : World
  now = last_world s es

  -- a live position is of the contract that the calculus has there
  number_is : (n : ℕ) (held : ContractPosition) → live_position_at now n ≡ Some held → contract_number (active_at here.active n) ≡ held.contract
  number_is n held live = ap contract_number look ∙ by_output (slice_get now.outputs n) refl
    where
      look : active_at here.active n ≡ option_and_then (active_in n) (slice_get now.outputs n)
      look = ap (λ xs. active_at xs n) (tracks s es run).money.active ∙ active-at n now.outputs

      by_output : (o : Option Output) → slice_get now.outputs n ≡ o → contract_number (option_and_then (active_in n) o) ≡ held.contract
      by_output None e = let z : (let x : Option ContractPosition = None in x) ≡ Some held = sym (ap live_position e) ∙ live in cc
      by_output (Some o) e =
          ap (λ (p : Option ContractPosition). contract_number (active_by n o.value p)) (sym (ap live_position e) ∙ live)

  -- the contract of a number, which has this secret of this party
  record HasSecret (k : ℕ) (party secret : List ℕ) : Type 0 where
    a : Advert
    at : calculus.contract_at here.contracts k ≡ Some a
    there : Is_in (secret, party) (secrets a.pre)

  has_secret_of : (k : ℕ) (party secret : List ℕ) (o : Option ActiveContract) → contract_number o ≡ k
      → look_up secret (secrets (calculus.pre_of (advert_of here.contracts o))) ≡ Some party → HasSecret k party secret
  has_secret_of k party secret None e h = cc
  has_secret_of k party secret (Some active) e h =
      by_advert (calculus.contract_at here.contracts k) refl
      (subst (λ (m : ℕ). look_up secret (secrets (calculus.pre_of (calculus.contract_at here.contracts m))) ≡ Some party) e h)
    where
      by_advert : (o : Option Advert) → calculus.contract_at here.contracts k ≡ o → look_up secret (secrets (calculus.pre_of o)) ≡ Some party
          → HasSecret k party secret
      by_advert None q f = cc
      by_advert (Some a) q f = record { a = a; at = q; there = looked_in (secrets a.pre) secret party f }

  -- a contract that has begun is advertised, and all have committed
  complete : (k : ℕ) (a : Advert) → contract_at s k ≡ Some a → has_number k now.begun ≡ true → is_complete now k a ≡ true
  complete k a same h =
      by_instance (compiled_instance s now k) refl
      (all_numbers (is_endorsed_at s now) now.begun k (endorsed_before_start s es run).after h)
    where
      by_complete : (b : Bool) → is_complete now k a ≡ b → (st : Instance) → (if b then Some (instance_of now k a) else None) ≡ Some st
          → is_complete now k a ≡ true
      by_complete true e st q = e
      by_complete false e st q = cc

      by_instance : (o : Option Instance) → compiled_instance s now k ≡ o → is_endorsed_so s now o ≡ true → is_complete now k a ≡ true
      by_instance None e f = absurd (false≢true f)
      by_instance (Some st) e f = by_complete (is_complete now k a) refl st (sym (ap (instance_if_complete now k) same) ∙ e)

  shows : (n i : ℕ) (party : List ℕ) (k : ℕ) (secret : List ℕ)
      → Contains (requirements_of s here now (events.Fire n i)) (requirements.Secret party k secret) → CanUnlessHalts s now (events.Reveal k party secret)
  shows n i party k secret missing =
      let l = lacks_of s here n i party k secret (in_from_contains (requirements_of s here now (events.Fire n i)) (requirements.Secret party k secret) missing) in
      let held = alone.branch_held s es run on n i l.b l.here in
      let number : held.0.contract ≡ k = sym (number_is n held.0 held.1) ∙ l.number in
      let began : has_number k now.begun ≡ true =
      subst (λ (m : ℕ). has_number m now.begun ≡ true) number (live_has_begun s es run n held.0 held.1) in
      let a = has_secret_of k party secret (active_at here.active n) l.number l.lacks.owner in
      by_complete a.a a.at a.there l.lacks.is_honest' l.lacks.hidden began (complete k a.a (same_contract s es run k a.a a.at) began)
    where
      by_complete : (a : Advert) → calculus.contract_at here.contracts k ≡ Some a → Is_in (secret, party) (secrets a.pre)
          → is_honest s party ≡ true → is_revealed here.revealed k party secret ≡ false → has_number k now.begun ≡ true
          → is_complete now k a ≡ true → CanUnlessHalts s now (events.Reveal k party secret)
      by_complete a at there honest hidden began whole =
          let q = and_parts (is_advertised now k) (have_promised now k (participants a)) whole in
          let promised : has_promised now k party ≡ true =
          all_among (has_promised now k) (participants a) party q.1 (secret_takes_part a party secret there) in
          let told : calculus.is_advertised here.advertised k ≡ true = ap (λ xs. calculus.is_advertised xs k) (tracks s es run).advertised ∙ q.0 in
          let committed : has_committed here.committed k party ≡ true = committed_is s es run k party ∙ promised in
          let x : Revealed = record { contract = k; party = party; secret = secret } in
          let kept = (tracks s es run).secrets in
          let named : is_among secret (secrets_at s k party) ≡ true =
          subst (λ (o : Option Advert). is_among secret (names_of_party party (secrets (calculus.pre_of o))) ≡ true)
          (sym (same_contract s es run k a at)) (its_name party secret (secrets a.pre) there) in
          reveals s es run k a at party secret (contains_from_in (secrets a.pre) (secret, party) there) honest
          (ahead (held_secret s party secret) refl
          (λ bytes e. unposted s now.hashed now.posted (held_secret s party secret) (digest_at now.promises x) (kept.own x honest)
          (kept.full x promised named) (sym (kept.revealed x) ∙ hidden) bytes e))
          (all_met_none (begun here now k party)
          (and_from (calculus.is_advertised here.advertised k) _ told
          (and_from (has_committed here.committed k party) _ committed (and_from (has_number k now.begun) true began refl))))
        where
          ahead : (o : Option (List ℕ)) → held_secret s party secret ≡ o
              → ((bytes : List ℕ) → held_secret s party secret ≡ Some bytes → is_among bytes now.posted ≡ false)
              → not (is_string_posted (held_secret s party secret) now) ≡ true
          ahead None e f = ap (λ (o : Option (List ℕ)). not (is_string_posted o now)) e
          ahead (Some bytes) e f = ap (λ (o : Option (List ℕ)). not (is_string_posted o now)) e ∙ ap not (f bytes e)

-- ---- all

pub others_come : OthersComeTheorem
others_come s es run on = record {
  advertisements = λ k advert at ahead said.
      unless_refused s (last_configuration s es) (last_world s es)
      (events.Advertise k (bindings_for (last_configuration s es).deposits (deposits advert.pre))) said
      (advertises s es run k advert at ahead);
  commitments = λ k advert party at part ahead said.
      unless_refused s (last_configuration s es) (last_world s es) (events.Commit k party []) said
      (commits s es run k advert at party part ahead);
  endorsements = λ k advert party at part said.
      unless_refused s (last_configuration s es) (last_world s es) (events.Endorse k party) said
      (λ r. endorses s es run k advert at party part
      (none_in_hand s (last_configuration s es) (last_world s es) _ (agreed_plain s es run k advert at) r.nothing));
  inits = λ k advert party at part said.
      unless_refused s (last_configuration s es) (last_world s es) (events.Init k party) said
      (λ r. inits s es run k advert at party part
      (none_in_hand s (last_configuration s es) (last_world s es) _ (init_plain s es run k advert at party) r.nothing));
  reveals = λ k advert party secret at stands honest ahead said.
      unless_refused s (last_configuration s es) (last_world s es) (events.Reveal k party secret) said
      (λ r. reveals s es run k advert at party secret stands honest ahead
      (none_in_hand s (last_configuration s es) (last_world s es) _ (begun_plain s es run k advert at party) r.nothing));
  shown = λ n i party k secret missing. shows s es run on n i party k secret missing;
  authorisations = λ party n i b declared here asked.
      comes_unless s (last_world s es) (events.Authorise party n i)
      (ap (λ d. ruling_by d.outcome) (alone.is_done s es run on party n i declared b here asked));
}
