-- A chain is a legal run: from the opening on, transaction by transaction.
use Rattle.std.proofs.Common.{◌≡◌, ℕ, suc, ◌+◌, ◌-◌, ◌≤◌, List, [], ◌∷◌, ◌++◌, length, map, Bool, true, false, Option, Some, None}
use Rattle.std.proofs.Common.{refl, sym, ap, subst, ◌∙◌, inl, arith, append_assoc, append-nil}
use Rattle.std.specs.Prelude.{◌||◌, ◌==◌, not, is_some}
use Rattle.std.specs.List.{flat_map}
use Rattle.std.proofs.lemmas.Bool.Decides.{nat_tests}
use Rattle.spec_data.specs.Lists.{look_up, is_among, are_different}
use Rattle.spec_data.specs.Messages.{collision}
use Rattle.spec_data.specs.Ranges.{least_secret_bytes, most_secret_length, last_height}
use Rattle.spec_terms.specs.Precondition.{Holding, deposits, names_of}
use Rattle.spec_calculus.specs.declared.step.Owner.TheVariants as owners
use Rattle.spec_calculus.specs.declared.step.Step.{Step}
use Rattle.spec_calculus.specs.declared.parts.Deposit.{Deposit as LiveDeposit}
use Rattle.spec_calculus.specs.Configuration.{Configuration}
use Rattle.spec_calculus.specs.Moves.{made}
use Rattle.spec_calculus.specs.Steps.{after_steps, Legal, owned}
use Rattle.spec_bitcoin.specs.Live.{same_outpoint}
use Rattle.spec_bitcoin.specs.Spelling.{IsTransaction}
use Rattle.spec_compiler.specs.Keyed.Instance.{Instance}
use Rattle.spec_compiler.specs.Keyed.Keys.{Keys}
use Rattle.spec_compiler.specs.Keyed.Transactions.{outpoint_or_none}
use Rattle.spec_deal.specs.declared.transaction.Transaction.{Transaction}
use Rattle.spec_deal.specs.Transactions.{transactions}
use Rattle.theory_calculus.specs.Members.{Is_in}
use Rattle.theory_calculus.proofs.Funded.{IsFine}
use Rattle.theory_calculus.proofs.Names.{in_looked, in_named, deposits_different, different_names}
use Rattle.theory_script.proofs.Keyed.Stands.{some_same}
use Rattle.theory_world.proofs.Same.{place_refl}
use Rattle.theory_run.proofs.Steps.Legal.{legal_append, after-append}
use Rattle.spec_chain.specs.declared.happened.Happened.{Happened}
use Rattle.spec_chain.specs.declared.output.Held.{Held}
use Rattle.spec_chain.specs.declared.output.Output.{Output}
use Rattle.spec_chain.specs.declared.reading.Confirmed.{Confirmed}
use Rattle.spec_chain.specs.Chain.{Course, transaction_strings, if_matters, gone_on, opening_course}
use Rattle.spec_chain.specs.Following.{own_transaction, strings_shown, outputs_made, places_spent, which_of, which_shown, steps_of, happened, matters}
use Rattle.spec_chain.specs.Outputs.{deposits_from, deposit_outputs}
use Rattle.spec_chain.specs.Refusals.{refusal}
use Rattle.std.specs.Option.{option_map}
use Rattle.theory_chain.specs.ChainSteps.{numbered, deal_opening, agreed_steps, pass_to, passed_to, steps_from, chain_run, taken_by, left_from, active_contract}
use Rattle.theory_chain.specs.Follows.{LeadsTo}
use Rattle.theory_chain.proofs.Deals.Outputs.{numbered_in, bound_number, deposit_output, deposit_of}
use Rattle.theory_chain.proofs.Deals.Own.{Own, begins, takes, is_own}
use Rattle.theory_chain.proofs.Deals.Transactions.{IsHeld}
use Rattle.theory_chain.proofs.Deals.Whole.{Whole}
use Rattle.theory_chain.proofs.Runs.Agreed.{fine_along, passes_to, passed, agreed, agreed_legal, agreed_fine}
use Rattle.theory_chain.proofs.Runs.Going as going
use Rattle.theory_chain.proofs.Runs.Gone.{Gone, gone_later}
use Rattle.theory_chain.proofs.Runs.Kept.{Kept, Adds}
use Rattle.theory_chain.proofs.Runs.Shown.{look_append}
use Rattle.theory_chain.proofs.Runs.Tracking.{Tracks, Counts}

-- the heights of blocks don't fall, from above this time on to the tip
abbrev pub Rising : ℕ → List Confirmed → ℕ → Type 0
Rising time [] tip = time ≤ tip
Rising time (c ∷ cs) tip = (time + 1 ≤ c.height) × Rising (c.height - 1) cs tip

-- each transaction can be spelled
abbrev pub AllSpelled : List Confirmed → Type 0
AllSpelled [] = Unit {0}
AllSpelled (c ∷ cs) = IsTransaction c.tx × AllSpelled cs

module _ (hash : List ℕ → List ℕ) (keys : Keys) (s : Instance) (whole : Whole hash keys s) where
  -- ---- the opening

  pub deposits_apart : are_different (names_of (deposits s.advert.pre)) ≡ true
  deposits_apart = deposits_different s.advert.pre (different_names s.advert whole.checked)

  deposit_once : (o p : Output) → Is_in o (deposit_outputs s) → Is_in p (deposit_outputs s) → o.place ≡ p.place → o ≡ p
  deposit_once o p h i e =
      let a = deposit_of s o h in
      let b = deposit_of s p i in
      let ia = numbered_in 0 (deposits s.advert.pre) o.number a.0 a.1 in
      let ib = numbered_in 0 (deposits s.advert.pre) p.number b.0 b.1 in
      let place : outpoint_or_none (look_up (a.0.0) s.bound) ≡ outpoint_or_none (look_up (b.0.0) s.bound) =
      sym (ap (λ (x : Output). x.place) a.2) ∙ e ∙ ap (λ (x : Output). x.place) b.2 in
      let name : a.0.0 ≡ b.0.0 =
      whole.apart.apart (a.0.0) (b.0.0) (in_named (deposits s.advert.pre) a.0 ia) (in_named (deposits s.advert.pre) b.0 ib)
      (ap (same_outpoint (outpoint_or_none (look_up (a.0.0) s.bound))) (sym place) ∙ place_refl (outpoint_or_none (look_up (a.0.0) s.bound))) in
      let holding : a.0.1 ≡ b.0.1 =
      some_same (sym (in_looked (deposits s.advert.pre) a.0 deposits_apart ia) ∙ ap (λ (x : List ℕ). look_up x (deposits s.advert.pre)) name
      ∙ in_looked (deposits s.advert.pre) b.0 deposits_apart ib) in
      let number : o.number ≡ p.number =
      some_same (sym (bound_number 0 (deposits s.advert.pre) o.number a.0 deposits_apart a.1)
      ∙ ap (λ (x : List ℕ). look_up x (numbered 0 (names_of (deposits s.advert.pre)))) name
      ∙ bound_number 0 (deposits s.advert.pre) p.number b.0 deposits_apart b.1) in
      a.2 ∙ (λ j. deposit_output s (number j) (name j, holding j)) ∙ sym b.2

  kept_first : Kept hash keys s (opening_course hash keys s)
  kept_first = record {
    clear = whole.clear;
    heard = λ t h. h;
    shown = λ name bytes e. absurd (none e);
    made = λ o h. absurd h;
    live = λ o h. inl h;
    once = deposit_once;
  }
    where
      none : {bytes : List ℕ} → None ≡ Some bytes → ⊥
      none e = cc

  module _ (lengths : List ℕ → ℕ) (fair : (name : List ℕ) → lengths name ≤ most_secret_length) where
    counts_first : Counts hash keys s lengths fair (opening_course hash keys s)
    counts_first = record {
      next = omega arith;
      made = λ o h. absurd h;
      untaken = λ o x h e. refl;
    }

    gone_first : Gone hash keys s whole lengths fair (opening_course hash keys s)
    gone_first = record { each = λ x h. absurd h; apart = refl }

    no_contracts : (n : ℕ) (ds : List (List ℕ × Holding)) → flat_map active_contract (deposits_from s n ds) ≡ []
    no_contracts n [] = refl
    no_contracts n (d ∷ ds) = no_contracts (n + 1) ds

    first_deposits : (n : ℕ) (ds : List (List ℕ × Holding))
        → made n (owned (map (λ d. ((d.1).owner, (d.1).value)) ds)) ≡ left_from (λ x. false) n ds
    first_deposits n [] = refl
    first_deposits n (d ∷ ds) =
        ap (λ (xs : List LiveDeposit). record { number = n; owner = owners.Party ((d.1).owner); value = (d.1).value } ∷ xs) (first_deposits (n + 1) ds)

    abbrev owners_of : List (List ℕ × Holding) → List (List ℕ × ℕ)
    owners_of ds = map (λ d. ((d.1).owner, (d.1).value)) ds

    same_count : (n : ℕ) (ds : List (List ℕ × Holding)) → length (owners_of ds) ≡ length (deposits_from s n ds)
    same_count n [] = refl
    same_count n (d ∷ ds) = ap suc (same_count (n + 1) ds)

    tracks_first : Tracks hash keys s lengths fair (agreed s lengths fair) (opening_course hash keys s)
    tracks_first = record {
      fine = agreed_fine s lengths fair whole.checked;
      contracts = refl;
      advertised = refl;
      committed = refl;
      active = sym (no_contracts 0 (deposits s.advert.pre));
      deposits = first_deposits 0 (deposits s.advert.pre) ∙ sym (append-nil (left_from (λ x. false) 0 (deposits s.advert.pre)));
      revealed = refl;
      next = same_count 0 (deposits s.advert.pre);
    }

    -- ---- time

    tracks_at : (g : Configuration) (course : Course) (height : ℕ) → g.time ≤ height → height ≤ last_height → Tracks hash keys s lengths fair g course
        → Legal g (pass_to g.time height) × Tracks hash keys s lengths fair (after_steps g (pass_to g.time height)) course
        × ((after_steps g (pass_to g.time height)).time ≡ height)
    tracks_at g course height below small tracks =
        let p = passes_to g height below small in (
          p.0,
          subst (λ (x : Configuration). Tracks hash keys s lengths fair x course) (sym p.1) (record {
            fine = subst IsFine p.1 (fine_along g (pass_to g.time height) tracks.fine p.0);
            contracts = tracks.contracts;
            advertised = tracks.advertised;
            committed = tracks.committed;
            active = tracks.active;
            deposits = tracks.deposits;
            revealed = tracks.revealed;
            next = tracks.next;
          }),
          ap (λ (x : Configuration). x.time) p.1,
        )

    -- ---- one transaction

    record OneMore (course : Course) (c : Confirmed) (g : Configuration) : Type 0 where
      kept : Kept hash keys s (gone_on hash s (transactions hash keys s) course c)
      counts : Counts hash keys s lengths fair (gone_on hash s (transactions hash keys s) course c)
      gone : Gone hash keys s whole lengths fair (gone_on hash s (transactions hash keys s) course c)
      legal : Legal g (steps_of hash s (transactions hash keys s) course.state c.tx)
      tracked : Tracks hash keys s lengths fair (after_steps g (steps_of hash s (transactions hash keys s) course.state c.tx))
          (gone_on hash s (transactions hash keys s) course c)
      timed : (after_steps g (steps_of hash s (transactions hash keys s) course.state c.tx)).time ≡ g.time

    module _ (course : Course) (kept : Kept hash keys s course) (counts : Counts hash keys s lengths fair course)
        (left : Gone hash keys s whole lengths fair course) (c : Confirmed)
        (fits : IsTransaction c.tx) (apart : collision hash course.messages (transaction_strings hash c.tx) ≡ None)
        (fine : refusal hash s (transactions hash keys s) course.state c.height c.tx ≡ None)
        (g : Configuration) (tracks : Tracks hash keys s lengths fair g course)
        (are : (name bytes : List ℕ) → look_up name (course.state.shown ++ strings_shown hash s course.state c.tx) ≡ Some bytes
        → lengths name ≡ length bytes - least_secret_bytes) where
      more : Adds hash keys s course.state (places_spent c.tx) (outputs_made s (transactions hash keys s) course.state c.tx)
          → ((x : List ℕ) → is_among x (taken_by s (which_of s (transactions hash keys s) c.tx)) ≡ true
          → Is_in (outpoint_or_none (look_up x s.bound)) (places_spent c.tx))
          → going.Went hash keys s whole lengths fair course kept counts c fits apart fine g tracks are → OneMore course c g
      more adds spends went = record {
        kept = going.kept_later hash keys s whole course kept c apart adds;
        counts = going.counts_later hash keys s whole lengths fair course kept counts c fits apart fine adds spends;
        gone = gone_later hash keys s whole lengths fair course kept counts left c fine spends (λ o h x held.
            subst (λ (k : Held). IsHeld hash keys s k o.place o.value) held (adds.made o h).fine);
        legal = went.legal;
        tracked = went.tracked;
        timed = went.timed;
      }

      one_own : g.time + 1 ≡ c.height → Own hash keys s course.state c.height c.tx → OneMore course c g
      one_own time (begins b) =
          more (going.adds_root hash keys s whole lengths fair course kept counts c fits apart fine g tracks are b)
          (going.takes_persistent hash keys s whole lengths fair course kept counts c fits apart fine g tracks are b)
          (going.went_first hash keys s whole lengths fair course kept counts c fits apart fine g tracks are b)
      one_own time (takes t) =
          more (going.adds_branch hash keys s whole lengths fair course kept counts c fits apart fine g tracks are t time)
          (going.takes_puts hash keys s whole lengths fair course kept counts c fits apart fine g tracks are t time)
          (going.went_on hash keys s whole lengths fair course kept counts c fits apart fine g tracks are t time)

      one_aside : own_transaction (transactions hash keys s) c.tx ≡ None → OneMore course c g
      one_aside none =
          more (going.adds_nothing hash keys s whole lengths fair course kept counts c fits apart fine g tracks are none)
          (going.takes_nothing hash keys s whole lengths fair course kept counts c fits apart fine g tracks are none)
          (going.went_aside hash keys s whole lengths fair course kept counts c fits apart fine g tracks are none)

      -- at its time
      one_more : g.time + 1 ≡ c.height → OneMore course c g
      one_more time = by_own (own_transaction (transactions hash keys s) c.tx) refl
        where
          by_own : (o : Option Transaction) → own_transaction (transactions hash keys s) c.tx ≡ o → OneMore course c g
          by_own None e = one_aside e
          by_own (Some t) e = one_own time (is_own hash keys s whole course.state c.height c.tx fits fine t e)

      -- one that doesn't matter isn't the deal's, and has no steps
      idle : matters (happened hash s (transactions hash keys s) course.state c.height c.tx) ≡ false
          → (own_transaction (transactions hash keys s) c.tx ≡ None) × (steps_of hash s (transactions hash keys s) course.state c.tx ≡ [])
      idle e =
          let a = neither (is_some (which_of s (transactions hash keys s) c.tx)) _ e in
          let b = neither (not (length (steps_of hash s (transactions hash keys s) course.state c.tx) == 0)) _ a.1 in
          (unmapped (own_transaction (transactions hash keys s) c.tx) a.0, empty (steps_of hash s (transactions hash keys s) course.state c.tx) b.0)
        where
          neither : (p q : Bool) → (p || q) ≡ false → (p ≡ false) × (q ≡ false)
          neither true q f = cc
          neither false q f = (refl, f)

          unmapped : (o : Option Transaction) → is_some (option_map (λ (t : Transaction). which_shown s c.tx t.which) o) ≡ false → o ≡ None
          unmapped None k = refl
          unmapped (Some x) k = cc

          empty : (ss : List Step) → not (length ss == 0) ≡ false → ss ≡ []
          empty [] k = refl
          empty (x ∷ ss) k = absurd (by_test (suc (length ss) == 0) (some (length ss)) k)
            where
              some : (n : ℕ) → (suc n == 0) ≡ false
              some n = grind (arith, nat_tests)

              by_test : (b : Bool) → b ≡ false → not b ≡ false → ⊥
              by_test true f l = cc
              by_test false f l = cc

    -- ---- all of them

    -- what was shown stays shown
    shown_stays : (cs : List Confirmed) (course last : Course) → LeadsTo hash s (transactions hash keys s) course cs last → (name bytes : List ℕ)
        → look_up name course.state.shown ≡ Some bytes → look_up name last.state.shown ≡ Some bytes
    shown_stays [] course last leads name bytes e = ap (λ (x : Course). look_up name x.state.shown) leads ∙ e
    shown_stays (c ∷ cs) course last leads name bytes e =
        shown_stays cs (gone_on hash s (transactions hash keys s) course c) last leads.2 name bytes
        (look_append hash keys s whole name course.state.shown (strings_shown hash s course.state c.tx) (Some bytes) e)

    -- the run from this configuration on
    record Goes (g : Configuration) (course : Course) (cs : List Confirmed) (last : Course) (tip : ℕ) : Type 0 where
      history : List Happened
      later : last.history ≡ course.history ++ history
      legal : Legal g (steps_from g.time history tip)
      tracked : Tracks hash keys s lengths fair (after_steps g (steps_from g.time history tip)) last
      timed : (after_steps g (steps_from g.time history tip)).time ≡ tip
      kept : Kept hash keys s last
      counts : Counts hash keys s lengths fair last
      gone : Gone hash keys s whole lengths fair last

    module _ (tip : ℕ) (small : tip ≤ last_height) where
      rising_below : (cs : List Confirmed) (time : ℕ) → Rising time cs tip → time ≤ tip
      rising_below [] time h = h
      rising_below (c ∷ cs) time h =
          let a = rising_below cs (c.height - 1) h.1 in
          let b = h.0 in
          omega (arith, a, b)

      goes : (cs : List Confirmed) (course last : Course) → LeadsTo hash s (transactions hash keys s) course cs last → AllSpelled cs
          → Kept hash keys s course → Counts hash keys s lengths fair course
          → Gone hash keys s whole lengths fair course → (g : Configuration) → Tracks hash keys s lengths fair g course
          → Rising g.time cs tip
          → ((name bytes : List ℕ) → look_up name last.state.shown ≡ Some bytes → lengths name ≡ length bytes - least_secret_bytes)
          → Goes g course cs last tip
      goes [] course last leads spelled kept counts left g tracks rising are =
          let r = tracks_at g course tip rising small tracks in
          record {
            history = [];
            later = ap (λ (x : Course). x.history) leads ∙ sym (append-nil course.history);
            legal = r.0;
            tracked = subst (Tracks hash keys s lengths fair (after_steps g (pass_to g.time tip))) (sym leads) r.1;
            timed = r.2;
            kept = subst (Kept hash keys s) (sym leads) kept;
            counts = subst (Counts hash keys s lengths fair) (sym leads) counts;
            gone = subst (Gone hash keys s whole lengths fair) (sym leads) left;
          }
      goes (c ∷ cs) course last leads spelled kept counts left g tracks rising are =
          by_matters (matters (happened hash s (transactions hash keys s) course.state c.height c.tx)) refl
          (λ k n l x t r. goes cs (gone_on hash s (transactions hash keys s) course c) last leads.2 spelled.1 k n l x t r are)
        where
          shown : (name bytes : List ℕ) → look_up name (course.state.shown ++ strings_shown hash s course.state c.tx) ≡ Some bytes
              → lengths name ≡ length bytes - least_secret_bytes
          shown name bytes e =
              are name bytes (shown_stays cs (gone_on hash s (transactions hash keys s) course c) last leads.2 name bytes e)

          lower : (ds : List Confirmed) (m n : ℕ) → n ≤ m → Rising m ds tip → Rising n ds tip
          lower [] m n h r = omega (arith, h, r)
          lower (d ∷ ds) m n h r = ((let a = r.0 in omega (arith, h, a)), r.1)

          before : g.time ≤ c.height - 1
          before = let a = rising.0 in omega (arith, a)

          within : c.height - 1 ≤ last_height
          within = let a = rising_below cs (c.height - 1) rising.1 in omega (arith, a, small)

          by_matters : (b : Bool) → matters (happened hash s (transactions hash keys s) course.state c.height c.tx) ≡ b
              → (Kept hash keys s (gone_on hash s (transactions hash keys s) course c)
              → Counts hash keys s lengths fair (gone_on hash s (transactions hash keys s) course c)
              → Gone hash keys s whole lengths fair (gone_on hash s (transactions hash keys s) course c) → (x : Configuration)
              → Tracks hash keys s lengths fair x (gone_on hash s (transactions hash keys s) course c) → Rising x.time cs tip
              → Goes x (gone_on hash s (transactions hash keys s) course c) cs last tip)
              → Goes g course (c ∷ cs) last tip
          by_matters true e rest =
              let h : Happened = happened hash s (transactions hash keys s) course.state c.height c.tx in
              let r = tracks_at g course (c.height - 1) before within tracks in
              let g1 : Configuration = after_steps g (pass_to g.time (c.height - 1)) in
              let time : g1.time + 1 ≡ c.height = (let a = rising.0 in let b = r.2 in omega (arith, a, b)) in
              let one = one_more course kept counts left c spelled.0 leads.0 leads.1 g1 r.1 shown time in
              let ss : List Step = steps_of hash s (transactions hash keys s) course.state c.tx in
              let g2 : Configuration = after_steps g1 ss in
              let time2 : g2.time ≡ c.height - 1 = one.timed ∙ r.2 in
              let more = rest one.kept one.counts one.gone g2 one.tracked (subst (λ (n : ℕ). Rising n cs tip) (sym time2) rising.1) in
              let same : passed_to g.time (c.height - 1) ≡ g2.time = passed g.time (c.height - 1) before ∙ sym time2 in
              let steps : steps_from g.time (h ∷ more.history) tip ≡ pass_to g.time (c.height - 1) ++ (ss ++ steps_from g2.time more.history tip) =
              ap (λ (n : ℕ). pass_to g.time (c.height - 1) ++ (ss ++ steps_from n more.history tip)) same in
              let ends : after_steps g (pass_to g.time (c.height - 1) ++ (ss ++ steps_from g2.time more.history tip))
              ≡ after_steps g2 (steps_from g2.time more.history tip) =
              after-append g (pass_to g.time (c.height - 1)) (ss ++ steps_from g2.time more.history tip)
              ∙ after-append g1 ss (steps_from g2.time more.history tip) in
              let all = ap (after_steps g) steps ∙ ends in
              record {
                history = h ∷ more.history;
                later =
                    more.later
                    ∙ ap (λ (b : Bool). if_matters b course.history h ++ more.history) e
                    ∙ append_assoc course.history (h ∷ []) more.history;
                legal =
                    subst (Legal g) (sym steps)
                    (legal_append g (pass_to g.time (c.height - 1)) (ss ++ steps_from g2.time more.history tip) r.0
                    (legal_append g1 ss (steps_from g2.time more.history tip) one.legal more.legal));
                tracked = subst (λ (x : Configuration). Tracks hash keys s lengths fair x last) (sym all) more.tracked;
                timed = ap (λ (x : Configuration). x.time) all ∙ more.timed;
                kept = more.kept;
                counts = more.counts;
                gone = more.gone;
              }
          by_matters false e rest =
              let i = idle course kept counts left c spelled.0 leads.0 leads.1 g tracks shown e in
              let one = one_aside course kept counts left c spelled.0 leads.0 leads.1 g tracks shown i.0 in
              let tracked : Tracks hash keys s lengths fair g (gone_on hash s (transactions hash keys s) course c) =
              subst (λ (ss : List Step). Tracks hash keys s lengths fair (after_steps g ss) (gone_on hash s (transactions hash keys s) course c))
              i.1 one.tracked in
              let more = rest one.kept one.counts one.gone g tracked (lower cs (c.height - 1) g.time before rising.1) in
              record {
                history = more.history;
                later =
                    more.later
                    ∙ ap (λ (b : Bool). if_matters b course.history (happened hash s (transactions hash keys s) course.state c.height c.tx) ++ more.history) e;
                legal = more.legal;
                tracked = more.tracked;
                timed = more.timed;
                kept = more.kept;
                counts = more.counts;
                gone = more.gone;
              }

      -- from the opening of the deal on
      pub record WholeRun (last : Course) : Type 0 where
        pub legal : Legal (deal_opening s) (chain_run lengths s last tip)
        pub tracked : Tracks hash keys s lengths fair (after_steps (deal_opening s) (chain_run lengths s last tip)) last
        pub timed : (after_steps (deal_opening s) (chain_run lengths s last tip)).time ≡ tip
        pub kept : Kept hash keys s last
        pub counts : Counts hash keys s lengths fair last
        pub gone : Gone hash keys s whole lengths fair last

      pub whole_run : (cs : List Confirmed) (last : Course) → LeadsTo hash s (transactions hash keys s) (opening_course hash keys s) cs last → AllSpelled cs
          → Rising 0 cs tip
          → ((name bytes : List ℕ) → look_up name last.state.shown ≡ Some bytes → lengths name ≡ length bytes - least_secret_bytes)
          → WholeRun last
      whole_run cs last leads spelled rising are =
          let g : Configuration = agreed s lengths fair in
          let r = goes cs (opening_course hash keys s) last leads spelled kept_first counts_first gone_first g tracks_first rising are in
          let a = agreed_legal s lengths fair whole.checked in
          let history : steps_from 0 last.history tip ≡ steps_from 0 r.history tip = ap (λ (hs : List Happened). steps_from 0 hs tip) r.later in
          let all : chain_run lengths s last tip ≡ agreed_steps lengths s ++ steps_from 0 r.history tip =
          ap (λ (ss : List Step). agreed_steps lengths s ++ ss) history in
          let ends : after_steps (deal_opening s) (agreed_steps lengths s ++ steps_from 0 r.history tip) ≡ after_steps g (steps_from 0 r.history tip) =
          after-append (deal_opening s) (agreed_steps lengths s) (steps_from 0 r.history tip)
          ∙ ap (λ (x : Configuration). after_steps x (steps_from 0 r.history tip)) a.1 in
          let reach = ap (after_steps (deal_opening s)) all ∙ ends in
          record {
            legal =
                subst (Legal (deal_opening s)) (sym all)
                (legal_append (deal_opening s) (agreed_steps lengths s) (steps_from 0 r.history tip) a.0
                (subst (λ (x : Configuration). Legal x (steps_from 0 r.history tip)) (sym a.1) r.legal));
            tracked = subst (λ (x : Configuration). Tracks hash keys s lengths fair x last) (sym reach) r.tracked;
            timed = ap (λ (x : Configuration). x.time) reach ∙ r.timed;
            kept = r.kept;
            counts = r.counts;
            gone = r.gone;
          }
