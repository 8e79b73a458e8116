-- A beginning or a branch comes where each of its conditions is met or a signature by hand gives it: a configuration that has the
-- authorisations by hand besides is tracked by the same world, and offers it.
use Rattle.std.proofs.Common.{◌≡◌, ℕ, List, [], ◌∷◌, ◌++◌, map, Bool, true, false, Option, Some, None, refl, sym, ap, ◌∙◌, subst, inl, inr, ◌⊎◌}
use Rattle.std.specs.Prelude.{◌-◌, ◌==◌, ◌&&◌, ◌||◌, not, nat_le, is_some, if◌then◌else◌, slice_get, option_map}
use Rattle.std.specs.List.{filter}
use Rattle.std.specs.Str.{bytes_eq}
use Rattle.std.proofs.lemmas.Bool.{and_parts, and_from, or_cases, or_left, or_right, eq-eqb, eqb-true}
use Rattle.spec_data.specs.Lists.{is_among, look_up}
use Rattle.spec_terms.specs.Core.{core, asks, is_asked, lock, puts_of, reveals_of}
use Rattle.spec_terms.specs.Precondition.{Holding, persistent, secrets}
use Rattle.spec_terms.specs.Term as term
use Rattle.spec_terms.specs.Term.{Contract, branches}
use Rattle.spec_terms.specs.declared.path.PathStep.TheVariants.{Branch as To}
use Rattle.spec_terms.specs.declared.pre.Pre.{Pre}
use Rattle.spec_bitcoin.specs.Keys.{Pair, key_of, has_signed}
use Rattle.spec_calculus.specs.declared.parts.BranchAuthorisation.{BranchAuthorisation}
use Rattle.spec_calculus.specs.declared.parts.InitAuthorisation.{InitAuthorisation}
use Rattle.spec_calculus.specs.Configuration.{Configuration}
use Rattle.spec_calculus.specs.Beginning.{contract_at, pre_of, participants_of, bindings_of, is_there, is_advertised, is_init_authorised, has_committed}
use Rattle.spec_calculus.specs.Branches.{active_at, advert_of, contract_number, has_branch_authorised}
use Rattle.spec_calculus.specs.Steps.{branch_at, with_init}
use Rattle.spec_compiler.specs.Instance.{Instance, branch_label}
use Rattle.spec_compiler.specs.ByPath.{position_at, prepared_at}
use Rattle.spec_compiler.specs.Transactions.{Standing, tx_of, digest_of_spent, prepared, branch_unsigned}
use Rattle.spec_run.specs.declared.event.Event.{Event}
use Rattle.spec_run.specs.declared.event.Event.TheVariants as events
use Rattle.spec_run.specs.Agreement.{Agree}
use Rattle.spec_run.specs.Compiled.{compiled_instance}
use Rattle.spec_run.specs.Ledger.{branch_in, position_path}
use Rattle.spec_run.specs.Offers.{Offer}
use Rattle.spec_run.specs.Setup.{Setup, pre_at, contract_at as contract_of}
use Rattle.spec_run.specs.Signing.{signed_all, authorising_pairs, branch_pair, prepared_if_compiled, initial_pairs}
use Rattle.spec_run.specs.Statements.{IsRun, spends_with_leave}
use Rattle.spec_run.specs.Steps.{is_of_party, is_bound_live}
use Rattle.spec_run.specs.Translation.{last_configuration, last_world, first_halt}
use Rattle.spec_run.specs.World.{ContractPosition, Output, World, bindings_at, output_at, live_position, live_position_at}
use Rattle.spec_next.specs.declared.requirement.Requirement.TheVariants as requirements
use Rattle.spec_next.specs.Candidates.{are_signed}
use Rattle.spec_next.specs.Hands.{are_in_book, is_in_hand}
use Rattle.spec_next.specs.Prospects.{outstanding, requirements_by}
use Rattle.spec_next.specs.Requirements.{Condition, agreed, isnt_gone, started, authorised, put_in, secret_requirement, revealed, undecided_or_true, asked_for, asked_by_branch, conditions, unmet}
use Rattle.theory_calculus.specs.Members.{Is_in}
use Rattle.theory_calculus.proofs.Members.{in_left, in_right, in_append, in_filter, filter_has}
use Rattle.theory_calculus.proofs.Names.{bytes-true, bytes_refl, different_names, persistent_different}
use Rattle.theory_world.proofs.Contracts.Standing.{term_branches, unsigned_of_branch}
use Rattle.theory_world.proofs.Later.{compiled_is}
use Rattle.theory_world.proofs.Staying.{init_new}
use Rattle.theory_world.proofs.Tests.{any-append}
use Rattle.theory_run.specs.KeptBook.{KeptBook, DepositCause, gave, needed, started as has_started}
use Rattle.theory_run.specs.KeptRuns.{KeptBooks}
use Rattle.theory_run.specs.KeptSecrets.{KeptSecrets}
use Rattle.theory_run.specs.Tracks.{AgreeOnMoney, Constant, Tracks}
use Rattle.theory_run.proofs.Accepted.Spending.{Checked}
use Rattle.theory_run.proofs.Facts.Bookkeeping.{checks}
use Rattle.theory_run.proofs.Facts.KeptSecrets.{Begins}
use Rattle.theory_run.proofs.Following.{run_posts, run_posts_last, kept_at_end}
use Rattle.theory_run.proofs.Steps.Beginnings.{init_all, init_all_more, after-inits, bindings_same, there_same}
use Rattle.theory_run.proofs.Steps.Followed.{agree_all}
use Rattle.theory_offers.proofs.Basis.Offered.{KeptOffers}
use Rattle.theory_offers.proofs.Basis.Opening.{signs_offers}
use Rattle.theory_offers.proofs.Basis.Signed.{init_offers}
use Rattle.theory_offers.proofs.OffersKept.{offers_kept}
use Rattle.theory_offers.proofs.WholeRun.{KeptAll, opening_all, keeps_all}
use Rattle.theory_next.specs.ByHand.{HandsBringTheorem}
use Rattle.theory_next.specs.Others.{NothingSaid, ComesAfter}
use Rattle.theory_next.specs.Ready.{CanUnlessHalts}
use Rattle.theory_next.proofs.Exact.{in_map, from_map, fails_in}
use Rattle.theory_next.proofs.MetAlone.{branch_held}
use Rattle.theory_next.proofs.Never.{any_from}
use Rattle.theory_next.proofs.NothingSaid.{unless_refused}
use Rattle.theory_next.proofs.Ready.{Enabled, met, offered, branch_enabled, beginning_enabled}
use Rattle.theory_next.proofs.Said.{kept_comes}

-- ---- conditions

-- each condition is met, or a signature by hand gives it
abbrev pub MetOrHand : Setup → World → List Condition → Type 0
MetOrHand s w cs = (c : Condition) → Is_in c cs → (c.0 ≡ true) ⊎ (is_in_hand s w (c.1) ≡ true)

-- where nothing is outstanding, it is so
pub met_or_hand : (s : Setup) (w : World) (cs : List Condition) → filter (λ x. not (is_in_hand s w x)) (unmet cs) ≡ [] → MetOrHand s w cs
met_or_hand s w cs h c i = by_test (c.0) refl (is_in_hand s w (c.1)) refl
  where
    by_test : (b : Bool) → c.0 ≡ b → (d : Bool) → is_in_hand s w (c.1) ≡ d → (c.0 ≡ true) ⊎ (is_in_hand s w (c.1) ≡ true)
    by_test true e d f = inl e
    by_test false e true f = inr f
    by_test false e false f =
        absurd (subst (λ xs. Is_in (c.1) xs) h (filter_has (λ x. not (is_in_hand s w x)) (unmet cs) (c.1) (fails_in cs c i e) (ap not f)))

pub all_from : (cs : List Condition) → ((c : Condition) → Is_in c cs → c.0 ≡ true) → met cs ≡ true
all_from [] h = refl
all_from (c ∷ cs) h = and_from (c.0) (met cs) (h c (inl refl)) (all_from cs (λ d i. h d (inr i)))

pub met_both : (xs ys : List Condition) → met xs ≡ true → met ys ≡ true → met (xs ++ ys) ≡ true
met_both [] ys h k = k
met_both (x ∷ xs) ys h k =
    let p = and_parts (x.0) (met xs) h in and_from (x.0) (met (xs ++ ys)) p.0 (met_both xs ys p.1 k)

not_both : {A : Type 0} (b : Bool) → b ≡ false → b ≡ true → A
not_both true e h = cc
not_both false e h = cc

-- ---- the book

-- what is signed isn't added
signed_same : (book ps : List Pair) → are_signed book ps ≡ true → signed_all book ps ≡ book
signed_same book [] h = refl
signed_same book (p ∷ ps) h =
    let q = and_parts (has_signed book (p.0) (p.1)) (are_signed book ps) h in
    ap (λ b. signed_all (if b then book else book ++ p ∷ []) ps) q.0 ∙ signed_same book ps q.1

all_in_book : (book ps : List Pair) → are_in_book book ps ≡ true → are_signed book ps ≡ true
all_in_book book [] h = cc
all_in_book book (p ∷ ps) h = h

-- ---- a run, and a configuration that authorises more

module _ (s : Setup) (es : List Event) (run : IsRun s es) where
  abbrev pub g : Configuration
  g = last_configuration s es

  abbrev pub w : World
  w = last_world s es

  abbrev z : List (List ℕ)
  z = run_posts s es

  pub tracks : Tracks s z g w
  tracks = (kept_at_end s (spends_with_leave s) (KeptAll s z) es (keeps_all s run.setup z) run.events (opening_all s es run z)).holds.honest.run.tracks

  books : KeptBooks s g w
  books = (kept_at_end s (spends_with_leave s) (KeptAll s z) es (keeps_all s run.setup z) run.events (opening_all s es run z)).holds.honest.run.books

  more : KeptOffers s g w
  more = (kept_at_end s (spends_with_leave s) (KeptAll s z) es (keeps_all s run.setup z) run.events (opening_all s es run z)).holds.more

  check : Checked s w
  check = checks s run.setup g w books

  -- these are authorised
  abbrev wider : List InitAuthorisation → List BranchAuthorisation → Configuration
  wider inits asked = record g { init_authorised = inits; branch_authorised = asked }

  constant_wider : (inits : List InitAuthorisation) (asked : List BranchAuthorisation) → Constant s (wider inits asked)
  constant_wider inits asked =
      record { parties = tracks.constant.parties; honest = tracks.constant.honest; contracts = tracks.constant.contracts }

  module _ (inits : List InitAuthorisation) (asked : List BranchAuthorisation)
      (inits_more : (k : ℕ) (x : List ℕ) → is_init_authorised g.init_authorised k x ≡ true → is_init_authorised inits k x ≡ true)
      (asked_more : (n i : ℕ) (a : List ℕ) → has_branch_authorised g.branch_authorised n i a ≡ true → has_branch_authorised asked n i a ≡ true)
      (offers_wider : KeptOffers s (wider inits asked) w) where
    abbrev wide : Configuration
    wide = wider inits asked

    money : AgreeOnMoney s wide w
    money = record {
      time = tracks.money.time;
      next = tracks.money.next;
      deposits = tracks.money.deposits;
      active = tracks.money.active;
      moves = tracks.money.moves;
    }

    secrets_kept : KeptSecrets s z wide w
    secrets_kept = record {
      lengths = tracks.secrets.lengths;
      revealed = tracks.secrets.revealed;
      known = tracks.secrets.known;
      own = tracks.secrets.own;
      clear = tracks.secrets.clear;
      heard = tracks.secrets.heard;
      once = tracks.secrets.once;
      early = tracks.secrets.early;
      full = tracks.secrets.full;
    }

    deposit_cause : (a d : List ℕ) → DepositCause s g w a d → DepositCause s wide w a d
    deposit_cause a d (gave h) = gave h
    deposit_cause a d (needed h) = needed h
    deposit_cause a d (has_started h) = has_started (record {
      contract = h.contract;
      instance = h.instance;
      compiled = h.compiled;
      spent = h.spent;
      persists = h.persists;
      is = h.is;
      authorised = λ e i o l. inits_more h.contract (e.0) (h.authorised e i o l);
    })

    book : KeptBook s wide w
    book = record {
      labelled = books.book.labelled;
      programs = books.book.programs;
      opened = books.book.opened;
      apart = books.book.apart;
      origin = books.book.origin;
      placed_fine = books.book.placed_fine;
      adverts = books.book.adverts;
      heard = books.book.heard;
      held = books.book.held;
      placed = books.book.placed;
      deposit_pairs = λ a d e h p. deposit_cause a d (books.book.deposit_pairs a d e h p);
      branch_pairs = λ k st q here choice i b a d c e t p h x.
          let cause = books.book.branch_pairs k st q here choice i b a d c e t p h x in
          record {
            is = cause.is;
            existed = cause.existed;
            authorised = λ y n l. asked_more n i a (cause.authorised y n l);
          };
    }

    begins : Begins z w.posted
    begins = subst (λ y. Begins z y) (sym (run_posts_last s es)) (record { first = λ p h. refl })

    agree : Agree s wide w
    agree = agree_all s wide w book z money secrets_kept tracks.advertised

    -- what it offers comes
    brings : (e : Event) → Enabled wide e → CanUnlessHalts s w e
    brings e x =
        let offer : Offer = record { step = x.step; event = e } in
        kept_comes s wide w offer
        (offers_kept s run.setup z wide w agree book check secrets_kept begins offers_wider offer
        (offered wide x.step offer x.kind x.enabled x.leads))

  -- ---- a branch

  module _ (n i : ℕ) (b : term.Guarded) (here : branch_at g n i ≡ Some b) where
    abbrev k : ℕ
    k = contract_number (active_at g.active n)

    abbrev pre : List Pre
    pre = pre_of (advert_of g.contracts (active_at g.active n))

    abbrev honest : List (List ℕ)
    honest = s.header.honest

    -- who has signed it by hand
    abbrev by_hand : List ℕ → Bool
    by_hand a = is_in_hand s w (requirements.Authorisation a n i)

    abbrev hands : List (List ℕ)
    hands = filter by_hand (asks b)

    abbrev given : List BranchAuthorisation
    given = map (λ a. record { party = a; output = n; branch = i }) hands

    abbrev all_given : List BranchAuthorisation
    all_given = g.branch_authorised ++ given

    asked_more : (m j : ℕ) (a : List ℕ) → has_branch_authorised g.branch_authorised m j a ≡ true → has_branch_authorised all_given m j a ≡ true
    asked_more m j a h = any-append _ g.branch_authorised given ∙ or_left _ _ h

    given_new : (hs : List (List ℕ)) (a : List ℕ) → Is_in a hs
        → has_branch_authorised (map (λ p. record { party = p; output = n; branch = i }) hs) n i a ≡ true
    given_new [] a h = absurd h
    given_new (p ∷ hs) a (inl e) =
        or_left _ _ (and_from _ _ (and_from _ _ (subst (λ q. bytes_eq q a ≡ true) e (bytes_refl a)) (eq-eqb n n refl)) (eq-eqb i i refl))
    given_new (p ∷ hs) a (inr t) = or_right (bytes_eq p a && (n == n) && (i == i)) _ (given_new hs a t)

    -- who is given so
    record Given (m j : ℕ) (a : List ℕ) : Type 0 where
      hand : by_hand a ≡ true
      output : n ≡ m
      branch : i ≡ j

    given_split : (m j : ℕ) (a : List ℕ) → has_branch_authorised all_given m j a ≡ true
        → (has_branch_authorised g.branch_authorised m j a ≡ true) ⊎ Given m j a
    given_split m j a h =
        let test = λ (x : BranchAuthorisation). bytes_eq x.party a && (x.output == m) && (x.branch == j) in
        elim (or_cases _ _ (sym (any-append test g.branch_authorised given) ∙ h)) [
          | inl x ↦ inl x
          | inr x ↦
              let f = any_from test given x in
              let t = from_map (λ p. record { party = p; output = n; branch = i }) hands f.one f.there in
              let q : (bytes_eq t.0 a && (n == m) && (i == j)) ≡ true = sym (ap test t.2) ∙ f.passes in
              let u = and_parts (bytes_eq t.0 a && (n == m)) (i == j) q in
              let v = and_parts (bytes_eq t.0 a) (n == m) u.0 in
              inr (record {
                hand = subst (λ y. by_hand y ≡ true) (bytes-true t.0 a v.0) (in_filter by_hand (asks b) t.0 t.1).1;
                output = eqb-true n m v.1;
                branch = eqb-true i j u.1;
              })
        ]

    -- what is signed by hand has an output
    made : (a : List ℕ) → by_hand a ≡ true → is_some (output_at w n) ≡ true
    made a h = by_output (output_at w n) h
      where
        by_output : (o : Option Output) → are_in_book w.book (authorising_pairs s w a (live_position o) i) ≡ true → is_some o ≡ true
        by_output None q = cc
        by_output (Some o) q = refl

    module _ (a : List ℕ) (h : ContractPosition) (st : Instance) (stand : Standing) (choice : Contract) (t : term.Guarded)
        (e : live_position_at w n ≡ Some h) (c : compiled_instance s w h.contract ≡ Some st)
        (p : position_at s.hash st h.position ≡ Some (stand, choice)) (q : slice_get (branches choice) i ≡ Some t) where
      abbrev key : List ℕ
      key = key_of s.hash (branch_label h.contract (h.position ++ To i ∷ []) a)

      abbrev dg : List ℕ
      dg = digest_of_spent s.hash (tx_of (branch_unsigned s.hash st stand i t)) stand.output

      -- what an authorisation signs
      pairs_are : authorising_pairs s w a (live_position_at w n) i ≡ (key, dg) ∷ []
      pairs_are =
          let d : prepared_at s.hash st (h.position ++ To i ∷ []) ≡ Some (prepared s.hash (branch_unsigned s.hash st stand i t)) =
          ap (option_map (prepared s.hash)) (unsigned_of_branch s.hash st h.position stand choice i t p q) in
          let f : prepared_if_compiled s (compiled_instance s w h.contract) (h.position ++ To i ∷ [])
          ≡ Some (prepared s.hash (branch_unsigned s.hash st stand i t)) =
          ap (λ o. prepared_if_compiled s o (h.position ++ To i ∷ [])) c ∙ d in
          ap (λ o. authorising_pairs s w a o i) e ∙ ap (branch_pair s a h.contract (h.position ++ To i ∷ [])) f

      -- the pair of who signed by hand is in the book
      signed_by_hand : by_hand a ≡ true → has_signed w.book key dg ≡ true
      signed_by_hand hand =
          let one : are_in_book w.book ((key, dg) ∷ []) ≡ true = subst (λ ps. are_in_book w.book ps ≡ true) pairs_are hand in
          (and_parts (has_signed w.book key dg) true one).0

      -- and whose pair is in the book has signed it by hand
      hand_by_pair : has_signed w.book key dg ≡ true → by_hand a ≡ true
      hand_by_pair signed = ap (are_in_book w.book) pairs_are ∙ and_from (has_signed w.book key dg) true signed refl

    -- the output that holds a position
    record Holds (h : ContractPosition) : Type 0 where
      output : Output
      there : slice_get w.outputs n ≡ Some output
      holds_it : output.holds ≡ Some h

    output_of : (h : ContractPosition) → live_position_at w n ≡ Some h → Holds h
    output_of h e = by_output (slice_get w.outputs n) refl e
      where
        by_live : (o : Output) → slice_get w.outputs n ≡ Some o → (l : Bool) → (if l then o.holds else None) ≡ Some h → Holds h
        by_live o q true v = record { output = o; there = q; holds_it = v }
        by_live o q false v = cc

        by_output : (o : Option Output) → slice_get w.outputs n ≡ o → live_position o ≡ Some h → Holds h
        by_output None q v = cc
        by_output (Some o) q v = by_live o q o.live v

    -- who has authorised the branch has signed it
    pub signed_already : first_halt s es ≡ None → (a : List ℕ) → is_asked b a ≡ true → has_branch_authorised g.branch_authorised n i a ≡ true
        → by_hand a ≡ true
    signed_already on a asks_it authorised_it =
        let of = branch_held s es run on n i b here in
        let h = of.0 in
        let o = output_of h of.1 in
        let fine = books.book.held n o.output h o.there o.holds_it in
        let ci = compiled_is s w h.contract fine.instance fine.compiled in
        let its_contract : contract_of s h.contract ≡ Some fine.instance.advert = ci.there ∙ ap (λ (y : Instance). Some y.advert) (sym ci.is) in
        let seen : slice_get (branches fine.choice) i ≡ Some b =
        sym (term_branches s.hash fine.instance h.position fine.here fine.choice i fine.stands)
        ∙ sym (ap (λ c. branch_in c (position_path h i)) its_contract) ∙ of.2 in
        hand_by_pair a h fine.instance fine.here fine.choice b of.1 fine.compiled fine.stands seen
        (more.asked n i a h fine.instance fine.here fine.choice b of.1 fine.compiled fine.stands seen asks_it authorised_it)

    offers_by_hand : KeptOffers s (wider g.init_authorised all_given) w
    offers_by_hand =
        signs_offers s g (wider g.init_authorised all_given) w w.book w.hashed w.posted more (constant_wider g.init_authorised all_given)
        (λ y d h. h)
        (λ y x h. inl h)
        (λ m j a h. elim (given_split m j a h) [
          | inl x ↦ inl x
          | inr x ↦ inr (subst (λ y. is_some (output_at w y) ≡ true) x.output (made a x.hand))
        ])
        (λ y st d c j a l. inl a)
        (λ m j a h st stand choice t e c p q r x. elim (given_split m j a x) [
          | inl y ↦ inl y
          | inr y ↦ inr (moved m j a h st stand choice t e c p q y)
        ])
      where
        moved : (m j : ℕ) (a : List ℕ) (h : ContractPosition) (st : Instance) (stand : Standing) (choice : Contract) (t : term.Guarded)
            → live_position_at w m ≡ Some h → compiled_instance s w h.contract ≡ Some st → position_at s.hash st h.position ≡ Some (stand, choice)
            → slice_get (branches choice) j ≡ Some t → Given m j a
            → has_signed w.book (key_of s.hash (branch_label h.contract (h.position ++ To j ∷ []) a))
            (digest_of_spent s.hash (tx_of (branch_unsigned s.hash st stand j t)) stand.output) ≡ true
        moved m j a h st stand choice t e c p q y =
            let e' : live_position_at w n ≡ Some h = subst (λ v. live_position_at w v ≡ Some h) (sym y.output) e in
            let q' : slice_get (branches choice) i ≡ Some t = subst (λ v. slice_get (branches choice) v ≡ Some t) (sym y.branch) q in
            subst (λ v. has_signed w.book (key_of s.hash (branch_label h.contract (h.position ++ To v ∷ []) a))
            (digest_of_spent s.hash (tx_of (branch_unsigned s.hash st stand v t)) stand.output) ≡ true) y.branch
            (signed_by_hand a h st stand choice t e' c p q' y.hand)

    -- ---- its conditions

    abbrev rest : List Condition
    rest = put_in g k (puts_of (core b)) ++ (revealed honest g k pre (reveals_of (core b)) ++ (
      undecided_or_true g k pre (core b),
      requirements.Predicate,
    ) ∷ [])

    -- no hand gives what isn't a signature
    by_honesty : (x : List ℕ) (p : List ℕ) (t : Bool) → is_in_hand s w (if t then requirements.Secret p k x else requirements.Posted p x) ≡ false
    by_honesty x p true = refl
    by_honesty x p false = refl

    by_owner : (o : Option (List ℕ)) (x : List ℕ) → is_in_hand s w (secret_requirement honest k o x) ≡ false
    by_owner None x = refl
    by_owner (Some p) x = by_honesty x p (is_among p honest)

    no_hand : (c : Condition) → Is_in c rest → is_in_hand s w (c.1) ≡ false
    no_hand c h = elim (in_append c (put_in g k (puts_of (core b))) _ h) [
      | inl p ↦ (let m = from_map _ (puts_of (core b)) c p in ap (λ (d : Condition). is_in_hand s w (d.1)) m.2)
      | inr q ↦ elim (in_append c (revealed honest g k pre (reveals_of (core b))) _ q) [
        | inl r ↦ (let m = from_map _ (reveals_of (core b)) c r in
            ap (λ (d : Condition). is_in_hand s w (d.1)) m.2 ∙ by_owner (look_up m.0 (secrets pre)) m.0)
        | inr (inl t) ↦ ap (λ (d : Condition). is_in_hand s w (d.1)) t
        | inr (inr t) ↦ absurd t
      ]
    ]

    module _ (all : MetOrHand s w (asked_for honest g n i k pre b)) where
      plainly : (c : Condition) → (c.0 ≡ true) ⊎ (is_in_hand s w (c.1) ≡ true) → is_in_hand s w (c.1) ≡ false → c.0 ≡ true
      plainly c (inl e) h = e
      plainly c (inr e) h = not_both (is_in_hand s w (c.1)) h e

      reached : nat_le (lock b) g.time ≡ true
      reached =
          plainly (nat_le (lock b) g.time, requirements.Height (lock b) (lock b - g.time))
          (all (nat_le (lock b) g.time, requirements.Height (lock b) (lock b - g.time)) (inl refl)) refl

      rest_met : met rest ≡ true
      rest_met = all_from rest (λ c h. plainly c (all c (inr (in_right c (authorised g n i (asks b)) rest h))) (no_hand c h))

      by_party : (p : List ℕ) → Is_in p (asks b)
          → (has_branch_authorised g.branch_authorised n i p ≡ true) ⊎ (is_in_hand s w (requirements.Authorisation p n i) ≡ true)
          → has_branch_authorised all_given n i p ≡ true
      by_party p t (inl e) = asked_more n i p e
      by_party p t (inr e) =
          any-append _ g.branch_authorised given ∙ or_right _ _ (given_new hands p (filter_has by_hand (asks b) p t e))

      each : (c : Condition) → Is_in c (authorised (wider g.init_authorised all_given) n i (asks b)) → c.0 ≡ true
      each c h =
          let m = from_map _ (asks b) c h in
          let there = in_map (λ p. (has_branch_authorised g.branch_authorised n i p, requirements.Authorisation p n i)) (asks b) m.0 m.1 in
          ap (λ (d : Condition). d.0) m.2
          ∙ by_party m.0 m.1 (all _ (inr (in_left _ (authorised g n i (asks b)) rest there)))

      all_conditions : met (asked_for honest (wider g.init_authorised all_given) n i k pre b) ≡ true
      all_conditions =
          and_from _ _ reached
          (met_both (authorised (wider g.init_authorised all_given) n i (asks b)) rest
          (all_from (authorised (wider g.init_authorised all_given) n i (asks b)) each) rest_met)

      -- a branch comes where each of its conditions is met or in hand
      pub branch_by_hand : CanUnlessHalts s w (events.Fire n i)
      branch_by_hand =
          brings g.init_authorised all_given (λ y x h. h) asked_more offers_by_hand (events.Fire n i)
          (branch_enabled honest (wider g.init_authorised all_given) n i (Some b) here refl all_conditions)

  -- ---- a beginning

  module _ (k : ℕ) where
    -- the deposits that a party may let the contract take
    abbrev its : List ℕ → List (List ℕ × Holding)
    its p = filter (λ d. is_of_party p d && is_bound_live w k d) (persistent (pre_at s k))

    abbrev inits : List InitAuthorisation → List (List ℕ) → List InitAuthorisation
    inits xs [] = xs
    inits xs (p ∷ ps) = inits (init_all xs k (its p)) ps

    inits_more : (xs : List InitAuthorisation) (ps : List (List ℕ)) (j : ℕ) (x : List ℕ) → is_init_authorised xs j x ≡ true
        → is_init_authorised (inits xs ps) j x ≡ true
    inits_more xs [] j x h = h
    inits_more xs (p ∷ ps) j x h = inits_more (init_all xs k (its p)) ps j x (init_all_more xs k j (its p) x h)

    all_new : (xs : List InitAuthorisation) (ds : List (List ℕ × Holding)) (d : List ℕ × Holding) → Is_in d ds
        → is_init_authorised (init_all xs k ds) k (d.0) ≡ true
    all_new xs [] d h = absurd h
    all_new xs (e ∷ ds) d (inl q) =
        init_all_more (with_init xs k (e.0)) k k ds (d.0)
        (subst (λ (x : List ℕ × Holding). is_init_authorised (with_init xs k (e.0)) k (x.0) ≡ true) (sym q) (init_new xs k (e.0)))
    all_new xs (e ∷ ds) d (inr i) = all_new (with_init xs k (e.0)) ds d i

    inits_new : (xs : List InitAuthorisation) (ps : List (List ℕ)) (p : List ℕ) (d : List ℕ × Holding) → Is_in p ps → Is_in d (its p)
        → is_init_authorised (inits xs ps) k (d.0) ≡ true
    inits_new xs [] p d h i = absurd h
    inits_new xs (q ∷ ps) p d (inl e) i =
        inits_more (init_all xs k (its q)) ps k (d.0) (all_new xs (its q) d (subst (λ (y : List ℕ). Is_in d (its y)) e i))
    inits_new xs (q ∷ ps) p d (inr h) i = inits_new (init_all xs k (its q)) ps p d h i

    abbrev started_by_hand : List ℕ → Bool
    started_by_hand p = is_in_hand s w (requirements.Start p k)

    -- what was signed by hand may be taken
    one_more_start : (xs : List InitAuthorisation) (p : List ℕ) → started_by_hand p ≡ true → KeptOffers s (wider xs g.branch_authorised) w
        → KeptOffers s (wider (init_all xs k (its p)) g.branch_authorised) w
    one_more_start xs p hand kept = by_instance (compiled_instance s w k) refl
      where
        by_instance : (o : Option Instance) → compiled_instance s w k ≡ o
            → KeptOffers s (wider (init_all xs k (its p)) g.branch_authorised) w
        by_instance None e =
            let z : are_in_book w.book (initial_pairs s p None) ≡ true = subst (λ o. are_in_book w.book (initial_pairs s p o) ≡ true) e hand in
            cc
        by_instance (Some st) e =
            let apart = persistent_different st.advert.pre (different_names st.advert (check.checked k st e)) in
            let after = init_offers s (wider xs g.branch_authorised) w k p w.hashed w.posted kept st e apart in
            let here = subst (λ y. KeptOffers s y (record w { book = signed_all w.book (initial_pairs s p (compiled_instance s w k)); hashed = w.hashed; posted = w.posted }))
            (after-inits k (its p) (wider xs g.branch_authorised)) after in
            subst (λ bs. KeptOffers s (wider (init_all xs k (its p)) g.branch_authorised) (record w { book = bs; hashed = w.hashed; posted = w.posted }))
            (signed_same w.book (initial_pairs s p (compiled_instance s w k)) (all_in_book w.book (initial_pairs s p (compiled_instance s w k)) hand)) here

    starts_by_hand : (xs : List InitAuthorisation) (ps : List (List ℕ)) → ((p : List ℕ) → Is_in p ps → started_by_hand p ≡ true)
        → KeptOffers s (wider xs g.branch_authorised) w → KeptOffers s (wider (inits xs ps) g.branch_authorised) w
    starts_by_hand xs [] h kept = kept
    starts_by_hand xs (p ∷ ps) h kept =
        starts_by_hand (init_all xs k (its p)) ps (λ q i. h q (inr i)) (one_more_start xs p (h p (inl refl)) kept)

    -- ---- its conditions

    abbrev ds : List (List ℕ × Holding)
    ds = persistent (pre_of (contract_at g.contracts k))

    abbrev owners : List (List ℕ)
    owners = filter started_by_hand (map (λ d. (d.1).owner) ds)

    abbrev all_inits : List InitAuthorisation
    all_inits = inits g.init_authorised owners

    abbrev wide_start : Configuration
    wide_start = wider all_inits g.branch_authorised

    offers_started : KeptOffers s wide_start w
    offers_started =
        starts_by_hand g.init_authorised owners
        (λ p i. (in_filter started_by_hand (map (λ (d : List ℕ × Holding). (d.1).owner) ds) p i).1)
        (signs_offers s g (wider g.init_authorised g.branch_authorised) w w.book w.hashed w.posted more
        (constant_wider g.init_authorised g.branch_authorised)
        (λ y d h. h) (λ y x h. inl h) (λ m j a h. inl h) (λ y st d c j a l. inl a) (λ m j a h st stand choice t e c p q r x. inl x))

    same_pre : ds ≡ persistent (pre_at s k)
    same_pre = ap (λ cs. persistent (pre_of (contract_at cs k))) tracks.constant.contracts

    agreed_no_hand : (c : Condition) → Is_in c (agreed g k) → is_in_hand s w (c.1) ≡ false
    agreed_no_hand c (inl e) = ap (λ (d : Condition). is_in_hand s w (d.1)) e
    agreed_no_hand c (inr i) =
        let m = from_map (λ party. (has_committed g.committed k party, requirements.Commitment party k))
        (participants_of (contract_at g.contracts k)) c i in
        ap (λ (d : Condition). is_in_hand s w (d.1)) m.2

    module _ (all : MetOrHand s w (agreed g k ++ started g k ds)) where
      abbrev gone : List Condition
      gone = map (λ (d : List ℕ × Holding). (isnt_gone g k (d.0), requirements.Gone (d.0))) ds

      abbrev starts : List InitAuthorisation → List Condition
      starts xs = map (λ (d : List ℕ × Holding). (is_init_authorised xs k (d.0), requirements.Start (d.1).owner k)) ds

      plain_start : (c : Condition) → (c.0 ≡ true) ⊎ (is_in_hand s w (c.1) ≡ true) → is_in_hand s w (c.1) ≡ false → c.0 ≡ true
      plain_start c (inl e) h = e
      plain_start c (inr e) h = not_both (is_in_hand s w (c.1)) h e

      agreed_met : met (agreed g k) ≡ true
      agreed_met = all_from (agreed g k) (λ c i. plain_start c (all c (in_left c (agreed g k) (started g k ds) i)) (agreed_no_hand c i))

      in_started : (c : Condition) → Is_in c (started g k ds) → (c.0 ≡ true) ⊎ (is_in_hand s w (c.1) ≡ true)
      in_started c i = all c (in_right c (agreed g k) (started g k ds) i)

      gone_one : (c : Condition) → Is_in c gone → c.0 ≡ true
      gone_one c i =
          let m = from_map (λ (d : List ℕ × Holding). (isnt_gone g k (d.0), requirements.Gone (d.0))) ds c i in
          plain_start c (in_started c (in_left c gone (starts g.init_authorised) i)) (ap (λ (d : Condition). is_in_hand s w (d.1)) m.2)

      told : is_advertised g.advertised k ≡ true
      told = (and_parts (is_advertised g.advertised k) _ agreed_met).0

      -- each deposit is there
      live : (d : List ℕ × Holding) → Is_in d ds → is_bound_live w k d ≡ true
      live d i =
          let t : isnt_gone g k (d.0) ≡ true =
          gone_one (isnt_gone g k (d.0), requirements.Gone (d.0))
          (in_map (λ (y : List ℕ × Holding). (isnt_gone g k (y.0), requirements.Gone (y.0))) ds d i) in
          let there : is_there g.deposits (look_up (d.0) (bindings_of g.advertised k)) ≡ true =
          sym (ap (λ b. not b || is_there g.deposits (look_up (d.0) (bindings_of g.advertised k))) told) ∙ t in
          let same : bindings_of g.advertised k ≡ bindings_at w.advertised k =
          bindings_same g.advertised k ∙ ap (λ xs. bindings_at xs k) tracks.advertised in
          sym (there_same s g w tracks.money (look_up (d.0) (bindings_at w.advertised k)))
          ∙ subst (λ bs. is_there g.deposits (look_up (d.0) bs) ≡ true) same there

      start_one : (c : Condition) → Is_in c (starts all_inits) → c.0 ≡ true
      start_one c i =
          let m = from_map (λ (d : List ℕ × Holding). (is_init_authorised all_inits k (d.0), requirements.Start (d.1).owner k)) ds c i in
          let d = m.0 in
          let there = in_map (λ (y : List ℕ × Holding). (is_init_authorised g.init_authorised k (y.0), requirements.Start (y.1).owner k)) ds d m.1 in
          ap (λ (y : Condition). y.0) m.2 ∙ by_hand_or d m.1 (in_started _ (in_right _ gone (starts g.init_authorised) there))
        where
          by_hand_or : (d : List ℕ × Holding) → Is_in d ds
              → (is_init_authorised g.init_authorised k (d.0) ≡ true) ⊎ (started_by_hand (d.1).owner ≡ true)
              → is_init_authorised all_inits k (d.0) ≡ true
          by_hand_or d j (inl e) = inits_more g.init_authorised owners k (d.0) e
          by_hand_or d j (inr e) =
              let p = (d.1).owner in
              let own : Is_in p owners =
              filter_has started_by_hand (map (λ (y : List ℕ × Holding). (y.1).owner) ds) p (in_map (λ (y : List ℕ × Holding). (y.1).owner) ds d j) e in
              let mine : Is_in d (its p) =
              filter_has (λ (y : List ℕ × Holding). is_of_party p y && is_bound_live w k y) (persistent (pre_at s k)) d
              (subst (λ xs. Is_in d xs) same_pre j) (and_from _ _ (bytes_refl p) (live d j)) in
              inits_new g.init_authorised owners p d own mine

      start_conditions : met (agreed wide_start k ++ started wide_start k ds) ≡ true
      start_conditions =
          met_both (agreed wide_start k) (started wide_start k ds) agreed_met
          (met_both gone (starts all_inits) (all_from gone gone_one) (all_from (starts all_inits) start_one))

      -- a contract begins where each of its conditions is met or in hand
      pub beginning_by_hand : is_some (contract_at g.contracts k) ≡ true → CanUnlessHalts s w (events.FireInit k)
      beginning_by_hand h =
          brings all_inits g.branch_authorised (λ j x t. inits_more g.init_authorised owners j x t) (λ m j a t. t) offers_started (events.FireInit k)
          (beginning_enabled wide_start k h start_conditions)

-- ---- all

-- nothing is said to be missing for what isn't refused
nothing_said : (s : Setup) (es : List Event) (e : Event) → ComesAfter s es e → NothingSaid s es e
nothing_said s es e c = by_ruling c
  where
    by_ruling : ComesAfter s es e → NothingSaid s es e
    by_ruling (inl q) = ap (requirements_by (outstanding s (last_configuration s es) (last_world s es) e)) q
    by_ruling (inr q) = ap (requirements_by (outstanding s (last_configuration s es) (last_world s es) e)) q

branch_comes : (s : Setup) (es : List Event) → IsRun s es → (n i : ℕ) (o : Option term.Guarded) → branch_at (last_configuration s es) n i ≡ o
    → is_some o ≡ true → outstanding s (last_configuration s es) (last_world s es) (events.Fire n i) ≡ []
    → CanUnlessHalts s (last_world s es) (events.Fire n i)
branch_comes s es run n i None here h nothing = cc
branch_comes s es run n i (Some b) here h nothing =
    let g = last_configuration s es in
    let w = last_world s es in
    let conditions_are : conditions s g w (events.Fire n i)
    ≡ asked_for s.header.honest g n i (contract_number (active_at g.active n)) (pre_of (advert_of g.contracts (active_at g.active n))) b =
    ap (asked_by_branch s.header.honest g n i (active_at g.active n)) here in
    branch_by_hand s es run n i b here
    (subst (λ cs. MetOrHand s w cs) conditions_are (met_or_hand s w (conditions s g w (events.Fire n i)) nothing))

pub hands_bring : HandsBringTheorem
hands_bring s es run =
    let g = last_configuration s es in
    let w = last_world s es in
    record {
      beginnings = λ k h. (
        λ said. unless_refused s g w (events.FireInit k) said
            (λ r. beginning_by_hand s es run k (met_or_hand s w (conditions s g w (events.FireInit k)) r.nothing) h),
        λ c. nothing_said s es (events.FireInit k) c,
      );
      branches = λ n i h. (
        λ said. unless_refused s g w (events.Fire n i) said
            (λ r. branch_comes s es run n i (branch_at g n i) refl h r.nothing),
        λ c. nothing_said s es (events.Fire n i) c,
      );
    }
