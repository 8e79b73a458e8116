-- One transaction more of a chain: what is kept stays so, and its steps are legal and lead to what the chain shows then.
use Rattle.std.proofs.Common.{◌≡◌, ℕ, ◌+◌, ◌-◌, ◌<◌, ◌≤◌, List, [], ◌∷◌, ◌++◌, length, map, Bool, true, false, Option, Some, None}
use Rattle.std.proofs.Common.{refl, sym, ap, subst, ◌∙◌, inl, inr, arith, append-nil}
use Rattle.std.specs.Prelude.{◌⊎◌, ◌||◌, ◌&&◌, ◌==◌, not, is_some, nat_le}
use Rattle.std.specs.List.{list_all, filter, flat_map}
use Rattle.std.specs.Option.{option_map}
use Rattle.std.specs.Str.{bytes_eq}
use Rattle.std.proofs.lemmas.Bool.{and_parts, both_ways}
use Rattle.std.proofs.lemmas.Bool.Decides.{nat_tests}
use Rattle.spec_data.specs.Lists.{look_up, is_among, or_else}
use Rattle.spec_data.specs.Messages.{noted_all, collision}
use Rattle.spec_data.specs.Ranges.{least_secret_bytes, most_secret_length}
use Rattle.spec_terms.specs.Core.{core, lock, puts_of, reveals_of, test_of}
use Rattle.spec_terms.specs.Paths.{at}
use Rattle.spec_terms.specs.Precondition.{Holding, deposits, secrets, names_of, persistent, volatile}
use Rattle.spec_terms.specs.Value.{holds}
use Rattle.spec_terms.specs.declared.path.PathStep.{PathStep}
use Rattle.spec_calculus.specs.declared.step.Step.{Step}
use Rattle.spec_calculus.specs.declared.parts.Committed.{Committed}
use Rattle.spec_calculus.specs.Branches.{is_revealed_by, secret_length, secret_lengths as config_lengths, length_by, known_length, length_at}
use Rattle.spec_calculus.specs.Configuration.{Configuration}
use Rattle.spec_calculus.specs.Steps.{after_steps, Legal}
use Rattle.spec_bitcoin.specs.declared.tx.OutPoint.{OutPoint}
use Rattle.spec_bitcoin.specs.Digests.{txid, txid_strings}
use Rattle.spec_bitcoin.specs.Live.{same_outpoint}
use Rattle.spec_bitcoin.specs.Spelling.{IsTransaction}
use Rattle.spec_compiler.specs.declared.unsigned.Spent.{Spent}
use Rattle.spec_compiler.specs.declared.unsigned.Unsigned.{Unsigned}
use Rattle.spec_compiler.specs.Scripts.{digest_of}
use Rattle.spec_compiler.specs.Witness.{chosen_by}
use Rattle.spec_compiler.specs.Keyed.Instance.{Instance, branch_path}
use Rattle.spec_compiler.specs.Keyed.Keys.{Keys}
use Rattle.spec_compiler.specs.Keyed.Transactions.{tx_of, initial_unsigned, outpoint_or_none, deposit, holding_or_none, core_outputs}
use Rattle.spec_run.specs.Ledger.{first_witness}
use Rattle.spec_tool.specs.declared.which.Which.{Which}
use Rattle.spec_tool.specs.declared.which.Which.TheVariants as names
use Rattle.spec_tool.specs.Keyed.Listed.{Listed, initial_listed, path_listed, listed_at}
use Rattle.spec_deal.specs.declared.transaction.Transaction.{Transaction}
use Rattle.spec_deal.specs.Finished.{bytes_or_none, choices_at}
use Rattle.spec_deal.specs.Needed.{deal_contract}
use Rattle.spec_deal.specs.SecretFile.{has_length}
use Rattle.spec_deal.specs.Transactions.{transactions}
use Rattle.theory_calculus.specs.Members.{Is_in}
use Rattle.theory_calculus.proofs.Funded.{IsFine}
use Rattle.theory_calculus.proofs.Members.{in_append, in_filter, found}
use Rattle.theory_calculus.proofs.Names.{bytes-true, looked_in, named_looked, in_named, all_among}
use Rattle.theory_script.proofs.Checked.{reveals_known}
use Rattle.theory_script.proofs.Keyed.Stands.{some_same, position_stands}
use Rattle.theory_world.specs.KeptApart.{NoCollision}
use Rattle.theory_world.proofs.Hashed.{all_more, all_new, among_right, no_collision}
use Rattle.theory_world.proofs.Same.{place-true, place_refl}
use Rattle.theory_world.proofs.Tests.{any-append}
use Rattle.theory_run.proofs.Steps.CommitSteps.{every}
use Rattle.theory_run.proofs.Steps.Legal.{legal_append, after-append}
use Rattle.spec_chain.specs.declared.happened.Happened.{Happened}
use Rattle.spec_chain.specs.declared.output.Held.{Held}
use Rattle.spec_chain.specs.declared.output.Held.TheVariants as helds
use Rattle.spec_chain.specs.declared.output.Output.{Output}
use Rattle.spec_chain.specs.declared.reading.Confirmed.{Confirmed}
use Rattle.spec_chain.specs.Chain.{Course, transaction_strings, if_matters, gone_on}
use Rattle.spec_chain.specs.Following.{own_transaction, which_of, which_shown, items_in, is_string_of, string_shown, is_newly_shown, newly_shown, strings_shown, outputs_made, outputs_named, outputs_of, places_spent, which_steps, steps_of, reveal_steps, begin_steps, branch_steps, happened, matters}
use Rattle.spec_chain.specs.Outputs.{is_position, is_there, has_place, without_all, deposit_outputs, made_from, branch_held, position_outputs, position_of}
use Rattle.spec_chain.specs.Outstanding.{puts_by}
use Rattle.spec_chain.specs.Refusals.{opens, inputs_reason, refusal}
use Rattle.theory_chain.specs.ChainSteps.{taken_by, is_taken, active_contract, revealed_secret, left_from, paid_deposit}
use Rattle.theory_chain.proofs.Needs.{named_is}
use Rattle.theory_chain.proofs.Deals.Whole.{Whole, from_map, in_map, among_in}
use Rattle.theory_chain.proofs.Deals.Positions.{branch_at_path, path_named, among_is, compiled_at}
use Rattle.theory_chain.proofs.Deals.Outputs.{deposit_of, there_of, position_placed}
use Rattle.theory_chain.proofs.Deals.Own.{foreign_apart, Begins, Takes, same_prevs}
use Rattle.theory_chain.proofs.Deals.Transactions.{IsHeld, position_before}
use Rattle.theory_chain.proofs.Runs.Agreed.{fine_along, committed_length}
use Rattle.theory_chain.proofs.Runs.Beginning as beginning
use Rattle.theory_chain.proofs.Runs.Kept.{IsShown, Kept, Adds, adds_none, own_adds, unspent, made_later, live_later, once_later, false_of}
use Rattle.theory_chain.proofs.Runs.Left.{lies_at, contracts_stay, flat_append}
use Rattle.theory_chain.proofs.Runs.Shown.{shows_all, each_shown, look_append}
use Rattle.theory_chain.proofs.Runs.Taking as taking
use Rattle.theory_chain.proofs.Runs.Tracking.{Tracks, Counts, first_revealed, revealed_there, secret_party}

module _ (hash : List ℕ → List ℕ) (keys : Keys) (s : Instance) (whole : Whole hash keys s) where
  abbrev ts : List Transaction
  ts = transactions hash keys s

  -- ---- what a transaction shows

  module _ (course : Course) (kept : Kept hash keys s course) (c : Confirmed)
      (apart : collision hash course.messages (transaction_strings hash c.tx) ≡ None) where
    abbrev messages : List (List ℕ)
    messages = noted_all course.messages (transaction_strings hash c.tx)

    pub clear_later : NoCollision hash messages
    clear_later = no_collision hash course.messages (transaction_strings hash c.tx) kept.clear apart

    pub item_heard : (t : List ℕ) → Is_in t (items_in c.tx) → is_among t messages ≡ true
    item_heard t h =
        all_new course.messages (transaction_strings hash c.tx) t
        (among_right t (txid_strings hash c.tx) (items_in c.tx) (among_in t (items_in c.tx) h))

    pub shown_later : (name bytes : List ℕ) → look_up name (course.state.shown ++ strings_shown hash s course.state c.tx) ≡ Some bytes
        → IsShown hash keys s messages name bytes
    shown_later name bytes e = by_before (look_up name course.state.shown) refl
      where
        string_of : List ℕ × List ℕ → List ℕ × List ℕ
        string_of p = (p.0, bytes_or_none (string_shown hash s c.tx (p.0)))

        by_string : (p : List ℕ × List ℕ) → Is_in p (secrets s.advert.pre) → (o : Option (List ℕ)) → string_shown hash s c.tx (p.0) ≡ o
            → is_some o ≡ true → IsShown hash keys s messages (p.0) (bytes_or_none o)
        by_string p i None f k = cc
        by_string p i (Some t) f k =
            let r = found (is_string_of hash (digest_of s.hashes (p.0))) (items_in c.tx) t f in
            let q = and_parts (has_length t) (bytes_eq (hash t) (digest_of s.hashes (p.0))) r.1 in
            record {
              among = item_heard t r.0;
              long = q.0;
              fits = bytes-true (hash t) (digest_of s.hashes (p.0)) q.1;
              secret = in_named (secrets s.advert.pre) p i;
            }

        second : (a b : Bool) → (a && b) ≡ true → b ≡ true
        second true b f = f
        second false b f = cc

        by_before : (o : Option (List ℕ)) → look_up name course.state.shown ≡ o → IsShown hash keys s messages name bytes
        by_before (Some t) f =
            let same : t ≡ bytes =
            some_same (sym (look_append hash keys s whole name course.state.shown (strings_shown hash s course.state c.tx) (Some t) f) ∙ e) in
            let k = kept.shown name t f in
            subst (IsShown hash keys s messages name) same (record {
              among = all_more course.messages (transaction_strings hash c.tx) t k.among;
              long = k.long;
              fits = k.fits;
              secret = k.secret;
            })
        by_before None f =
            let later = sym (look_append hash keys s whole name course.state.shown (strings_shown hash s course.state c.tx) None f) ∙ e in
            let i = looked_in (strings_shown hash s course.state c.tx) name bytes later in
            let r = from_map (λ (p : List ℕ × List ℕ). (p.0, bytes_or_none (string_shown hash s c.tx (p.0))))
            (newly_shown hash s course.state c.tx) (name, bytes) i in
            let k = in_filter (λ (p : List ℕ × List ℕ). is_newly_shown hash s course.state c.tx (p.0)) (secrets s.advert.pre) r.0 r.1 in
            let is = by_string r.0 k.0 (string_shown hash s c.tx (r.0.0)) refl
            (second (not (is_some (look_up (r.0.0) course.state.shown))) (is_some (string_shown hash s c.tx (r.0.0))) k.1) in
            subst (λ (p : List ℕ × List ℕ). IsShown hash keys s messages (p.0) (p.1)) (sym r.2) is

    -- ---- what is kept

    module _ (adds : Adds hash keys s course.state (places_spent c.tx) (outputs_made s (transactions hash keys s) course.state c.tx)) where
      abbrev later : Course
      later = gone_on hash s (transactions hash keys s) course c

      abbrev new : List Output
      new = outputs_made s (transactions hash keys s) course.state c.tx

      pub kept_later : Kept hash keys s (gone_on hash s (transactions hash keys s) course c)
      kept_later = record {
        clear = clear_later;
        heard = λ t h. all_more course.messages (transaction_strings hash c.tx) t (kept.heard t h);
        shown = shown_later;
        made = made_later hash keys s whole course kept (places_spent c.tx) new adds later.state refl refl;
        live = live_later hash keys s whole course kept (places_spent c.tx) new adds later.state refl refl;
        once = once_later hash keys s whole course kept (places_spent c.tx) new adds later.state refl refl;
      }

    -- the chain where the strings were shown, and nothing was spent or made
    abbrev pub shown_course : Course
    shown_course = record {
      state =
          record course.state { shown = course.state.shown ++ strings_shown hash s course.state c.tx };
      history = course.history;
      messages = messages;
    }

    pub kept_shown : Kept hash keys s shown_course
    kept_shown = record {
      clear = clear_later;
      heard = λ t h. all_more course.messages (transaction_strings hash c.tx) t (kept.heard t h);
      shown = shown_later;
      made = λ o h.
          let k = kept.made o h in
          record {
            by_which = k.by_which;
            among = k.among;
            id = k.id;
            fine = k.fine;
            first = k.first;
            first_is = k.first_is;
            there = k.there;
            spent = k.spent;
          };
      live = kept.live;
      once = kept.once;
    }

  -- ---- one transaction

  module _ (lengths : List ℕ → ℕ) (fair : (name : List ℕ) → lengths name ≤ most_secret_length) (course : Course)
      (kept : Kept hash keys s course) (counts : Counts hash keys s lengths fair course) (c : Confirmed) (fits : IsTransaction c.tx)
      (apart : collision hash course.messages (transaction_strings hash c.tx) ≡ None)
      (fine : refusal hash s (transactions hash keys s) course.state c.height c.tx ≡ None) where
    abbrev after' : Course
    after' = gone_on hash s (transactions hash keys s) course c

    abbrev did : Happened
    did = happened hash s (transactions hash keys s) course.state c.height c.tx

    abbrev spent_places : List OutPoint
    spent_places = places_spent c.tx

    abbrev made : List Output
    made = outputs_made s (transactions hash keys s) course.state c.tx

    -- ---- numbers

    counts_shown : Counts hash keys s lengths fair (shown_course course kept c apart)
    counts_shown = record { next = counts.next; made = counts.made; untaken = counts.untaken }

    pub counts_later : Adds hash keys s course.state (places_spent c.tx) (outputs_made s (transactions hash keys s) course.state c.tx)
        → ((x : List ℕ) → is_among x (taken_by s (which_of s (transactions hash keys s) c.tx)) ≡ true
        → Is_in (outpoint_or_none (look_up x s.bound)) (places_spent c.tx))
        → Counts hash keys s lengths fair (gone_on hash s (transactions hash keys s) course c)
    counts_later adds spends = record {
      next = let a = counts.next in omega (arith, a);
      made = λ o h. by_made o (in_append o course.state.made made h);
      untaken = λ o x h held. by_live o x held (in_append o (without_all course.state.live spent_places) (filter is_position made) h);
    }
      where
        by_made : (o : Output) → Is_in o course.state.made ⊎ Is_in o (outputs_made s (transactions hash keys s) course.state c.tx)
            → length (deposit_outputs s) ≤ o.number
        by_made o (inl i) = counts.made o i
        by_made o (inr i) = let a = counts.next in let b = adds.numbers o i in omega (arith, a, b)

        no_position : (o : Output) (x : List ℕ) → o.held ≡ helds.Deposit x → is_position o ≡ true → ⊥
        no_position o x held is = no (rw held at is)
          where
            no : false ≡ true → ⊥
            no f = cc

        same_name : {a b : List ℕ} → helds.Deposit a ≡ helds.Deposit b → a ≡ b
        same_name e = cc

        place_is : (o : Output) (x : List ℕ) → o.held ≡ helds.Deposit x
            → Is_in o (deposit_outputs s) ⊎ (Is_in o course.state.made × (is_position o ≡ true)) → o.place ≡ outpoint_or_none (look_up x s.bound)
        place_is o x held (inl i) =
            let d = deposit_of s o i in
            ap (λ (y : Output). y.place) d.2
            ∙ ap (λ (n : List ℕ). outpoint_or_none (look_up n s.bound)) (same_name (sym (ap (λ (y : Output). y.held) d.2) ∙ held))
        place_is o x held (inr i) = absurd (no_position o x held i.1)

        by_matters : (b : Bool) (x : List ℕ) → is_taken s course.history x ≡ false
            → is_among x (taken_by s (which_of s (transactions hash keys s) c.tx)) ≡ false
            → is_taken s (if_matters b course.history (happened hash s (transactions hash keys s) course.state c.height c.tx)) x ≡ false
        by_matters false x old new = old
        by_matters true x old new =
            any-append (λ (y : Happened). is_among x (taken_by s y.which)) course.history
            (happened hash s (transactions hash keys s) course.state c.height c.tx ∷ [])
            ∙ (λ i. old i || (new i || false))

        by_live : (o : Output) (x : List ℕ) → o.held ≡ helds.Deposit x
            → Is_in o (without_all course.state.live (places_spent c.tx)) ⊎ Is_in o
            (filter is_position (outputs_made s (transactions hash keys s) course.state c.tx))
            → is_taken s (gone_on hash s (transactions hash keys s) course c).history x ≡ false
        by_live o x held (inr i) = absurd (no_position o x held (in_filter is_position made o i).1)
        by_live o x held (inl i) =
            let u = unspent course.state.live spent_places o i in
            by_matters (matters did) x (counts.untaken o x u.0 held)
            (false_of (is_among x (taken_by s (which_of s ts c.tx))) (λ k.
            both_ways _ (u.1 (outpoint_or_none (look_up x s.bound)) (spends x k))
            (ap (λ (p : OutPoint). same_outpoint p (outpoint_or_none (look_up x s.bound))) (place_is o x held (kept.live o u.0))
            ∙ place_refl (outpoint_or_none (look_up x s.bound)))))

    module _ (g : Configuration) (tracks : Tracks hash keys s lengths fair g course)
        (are : (name bytes : List ℕ) → look_up name (course.state.shown ++ strings_shown hash s course.state c.tx) ≡ Some bytes
        → lengths name ≡ length bytes - least_secret_bytes) where
      -- the steps are legal, and lead to what the chain shows then
      pub record Went : Type 0 where
        pub legal : Legal g (steps_of hash s (transactions hash keys s) course.state c.tx)
        pub tracked : Tracks hash keys s lengths fair (after_steps g (steps_of hash s (transactions hash keys s) course.state c.tx))
            (gone_on hash s (transactions hash keys s) course c)
        pub timed : (after_steps g (steps_of hash s (transactions hash keys s) course.state c.tx)).time ≡ g.time

      abbrev revealing : List Step
      revealing = reveal_steps (newly_shown hash s course.state c.tx)

      abbrev shown_now : Configuration
      shown_now = record g { revealed = map (revealed_secret s) (course.state.shown ++ strings_shown hash s course.state c.tx) }

      first : Legal g (reveal_steps (newly_shown hash s course.state c.tx))
          × (after_steps g (reveal_steps (newly_shown hash s course.state c.tx)) ≡ shown_now)
      first = first_revealed hash keys s lengths fair whole g course c.tx tracks

      tracks_shown : Tracks hash keys s lengths fair shown_now (shown_course course kept c apart)
      tracks_shown = record {
        fine = subst IsFine first.1 (fine_along g (reveal_steps (newly_shown hash s course.state c.tx)) tracks.fine first.0);
        contracts = tracks.contracts;
        advertised = tracks.advertised;
        committed = tracks.committed;
        active = tracks.active;
        deposits = tracks.deposits;
        revealed = refl;
        next = tracks.next;
      }

      -- what is shown first, and then the other steps
      then_steps : (ss : List Step) → which_steps s course.state c.tx (which_of s (transactions hash keys s) c.tx) ≡ ss → Legal shown_now ss
          → Tracks hash keys s lengths fair (after_steps shown_now ss) (gone_on hash s (transactions hash keys s) course c)
          → (after_steps shown_now ss).time ≡ g.time → Went
      then_steps ss e legal tracked timed =
          let all : steps_of hash s (transactions hash keys s) course.state c.tx ≡ revealing ++ ss = ap (λ (xs : List Step). revealing ++ xs) e in
          let ends : after_steps g (revealing ++ ss) ≡ after_steps shown_now ss =
          after-append g revealing ss ∙ ap (λ (x : Configuration). after_steps x ss) first.1 in
          record {
            legal =
                subst (Legal g) (sym all)
                (legal_append g revealing ss first.0 (subst (λ (x : Configuration). Legal x ss) (sym first.1) legal));
            tracked =
                subst (λ (xs : List Step). Tracks hash keys s lengths fair (after_steps g xs) (gone_on hash s (transactions hash keys s) course c)) (sym all)
                (subst (λ (x : Configuration). Tracks hash keys s lengths fair x (gone_on hash s (transactions hash keys s) course c)) (sym ends) tracked);
            timed =
                ap (λ (xs : List Step). (after_steps g xs).time) all ∙ ap (λ (x : Configuration). x.time) ends ∙ timed;
          }

      -- ---- a transaction that isn't the deal's

      module _ (none : own_transaction (transactions hash keys s) c.tx ≡ None) where
        which_none : which_of s (transactions hash keys s) c.tx ≡ None
        which_none = ap (option_map (λ (t : Transaction). which_shown s c.tx t.which)) none

        made_none : outputs_made s (transactions hash keys s) course.state c.tx ≡ []
        made_none = ap (outputs_named s (transactions hash keys s) course.state.next) which_none

        pub adds_nothing : Adds hash keys s course.state (places_spent c.tx) (outputs_made s (transactions hash keys s) course.state c.tx)
        adds_nothing = subst (Adds hash keys s course.state (places_spent c.tx)) (sym made_none) (adds_none hash keys s course.state (places_spent c.tx))

        pub takes_nothing : (x : List ℕ) → is_among x (taken_by s (which_of s (transactions hash keys s) c.tx)) ≡ true
            → Is_in (outpoint_or_none (look_up x s.bound)) (places_spent c.tx)
        takes_nothing x h = absurd (no (sym (ap (λ (o : Option Which). is_among x (taken_by s o)) which_none) ∙ h))
          where
            no : false ≡ true → ⊥
            no f = cc

        none_foreign : (p : OutPoint) → Is_in p (places_spent c.tx) → has_place (position_outputs s.advert (transactions hash keys s)) p ≡ false
        none_foreign p h =
            foreign_apart s (transactions hash keys s) course.state.live 0 c.tx.inputs
            (ap (λ (o : Option Transaction). inputs_reason s (transactions hash keys s) (is_some o) course.state.live 0 c.tx.inputs) (sym none)
            ∙ first_none _ _ fine) p h
          where
            first_none : {R : Type 0} (a b : Option R) → or_else a b ≡ None → a ≡ None
            first_none None b f = refl
            first_none (Some r) b f = cc

        positions_stay : flat_map active_contract (without_all course.state.live (places_spent c.tx)) ≡ flat_map active_contract course.state.live
        positions_stay = contracts_stay course.state.live (places_spent c.tx) (λ o h lies. by_held o h lies o.held refl)
          where
            no : false ≡ true → ⊥
            no f = cc

            position : (o : Output) (p : List PathStep) → Is_in o course.state.live → lies_at (places_spent c.tx) o ≡ true → o.held ≡ helds.Position p → ⊥
            position o p h lies held = by_kind (kept.live o h)
              where
                other : {x : List ℕ} → o.held ≡ helds.Deposit x → o.held ≡ helds.Position p → ⊥
                other e f = cc

                by_kind : Is_in o (deposit_outputs s) ⊎ (Is_in o course.state.made × (is_position o ≡ true)) → ⊥
                by_kind (inl i) = other (ap (λ (x : Output). x.held) (deposit_of s o i).2) held
                by_kind (inr i) =
                    let f = subst (λ (x : Held). IsHeld hash keys s x o.place o.value) held (kept.made o i.0).fine in
                    let r = there_of (λ (q : OutPoint). is_there q o) (places_spent c.tx) lies in
                    let place = f.place_is ∙ place-true o.place r.0 r.2 in
                    both_ways _ (none_foreign r.0 r.1)
                    (subst (λ (q : OutPoint). has_place (position_outputs s.advert (transactions hash keys s)) q ≡ true) place
                    (position_placed hash keys s p f.here f.choice f.stands))

            by_held : (o : Output) → Is_in o course.state.live → lies_at (places_spent c.tx) o ≡ true → (h : Held) → o.held ≡ h → active_contract o ≡ []
            by_held o h lies (helds.Deposit name) e = rw e refl
            by_held o h lies (helds.Payout party) e = rw e refl
            by_held o h lies (helds.Position p) e = absurd (position o p h lies e)

        taken_same : (b : Bool) (x : List ℕ) → is_taken s (if_matters b course.history did) x ≡ is_taken s course.history x
        taken_same false x = refl
        taken_same true x =
            any-append (λ (y : Happened). is_among x (taken_by s y.which)) course.history (did ∷ [])
            ∙ ap (λ (o : Option Which). is_taken s course.history x || (is_among x (taken_by s o) || false)) which_none
            ∙ last (is_taken s course.history x)
          where
            last : (t : Bool) → (t || false) ≡ t
            last true = refl
            last false = refl

        tracks_aside : Tracks hash keys s lengths fair shown_now (gone_on hash s (transactions hash keys s) course c)
        tracks_aside = record {
          fine = tracks_shown.fine;
          contracts = tracks.contracts;
          advertised = tracks.advertised;
          committed = tracks.committed;
          active =
              tracks.active ∙ sym positions_stay
              ∙ sym (append-nil (flat_map active_contract (without_all course.state.live (places_spent c.tx))))
              ∙ (λ i. flat_map active_contract (without_all course.state.live (places_spent c.tx))
              ++ flat_map active_contract (filter is_position (sym made_none i)))
              ∙ sym (flat_append active_contract (without_all course.state.live (places_spent c.tx))
              (filter is_position (outputs_made s (transactions hash keys s) course.state c.tx)));
          deposits =
              tracks.deposits
              ∙ (λ i. left_from (λ x. sym (taken_same (matters did) x) i) 0 (deposits s.advert.pre)
              ++ flat_map paid_deposit (sym (append-nil course.state.made) i))
              ∙ (λ i. left_from (is_taken s (if_matters (matters did) course.history did)) 0 (deposits s.advert.pre)
              ++ flat_map paid_deposit (course.state.made ++ sym made_none i));
          revealed = refl;
          next = tracks.next ∙ more course.state.next ∙ (λ i. course.state.next + length (sym made_none i));
        }
          where
            more : (n : ℕ) → n ≡ n + 0
            more n = omega arith

        pub went_aside : Went
        went_aside = then_steps [] (ap (which_steps s course.state c.tx) which_none) tt tracks_aside refl

      -- ---- the initial transaction

      matters_as : (w : Which) → which_of s (transactions hash keys s) c.tx ≡ Some w
          → (gone_on hash s (transactions hash keys s) course c).history
          ≡ course.history ++ happened hash s (transactions hash keys s) course.state c.height c.tx ∷ []
      matters_as w is =
          ap (λ (o : Option Which). if_matters (is_some o || (not (length did.steps == 0) || not (length did.gone == 0))) course.history did) is

      module _ (b : Begins hash keys s course.state c.tx) where
        init_is : listed_at hash keys s names.Init ≡ Some (initial_listed hash keys s)
        init_is = refl

        init_places : places_spent c.tx ≡ map (λ (x : Spent). x.outpoint) (initial_unsigned hash keys s).spends
        init_places = same_prevs hash keys s c.tx (initial_unsigned hash keys s) b.same

        init_made : outputs_made s (transactions hash keys s) course.state c.tx ≡ beginning.root_output hash keys s whole lengths fair
            (shown_course course kept c apart) (kept_shown course kept c apart) counts_shown shown_now tracks_shown b.live ∷ []
        init_made =
            ap (outputs_named s (transactions hash keys s) course.state.next) b.is
            ∙ ap (outputs_of s course.state.next) (named_is hash keys s names.Init (initial_listed hash keys s) init_is)

        pub adds_root : Adds hash keys s course.state (places_spent c.tx) (outputs_made s (transactions hash keys s) course.state c.tx)
        adds_root = own_adds hash keys s whole course.state c.tx names.Init (initial_listed hash keys s) init_is refl b.is b.same b.live

        pub takes_persistent : (x : List ℕ) → is_among x (taken_by s (which_of s (transactions hash keys s) c.tx)) ≡ true
            → Is_in (outpoint_or_none (look_up x s.bound)) (places_spent c.tx)
        takes_persistent x h =
            let k = sym (ap (λ (o : Option Which). is_among x (taken_by s o)) b.is) ∙ h in
            let v = named_looked (persistent s.advert.pre) x k in
            subst (Is_in (outpoint_or_none (look_up x s.bound))) (sym init_places)
            (in_map (λ (y : Spent). y.outpoint) (initial_unsigned hash keys s).spends (deposit hash keys s x v.0)
            (in_map (λ (d : List ℕ × Holding). deposit hash keys s d.0 d.1) (persistent s.advert.pre) (x, v.0) (looked_in (persistent s.advert.pre) x v.0 v.1)))

        pub went_first : Went
        went_first =
            let root = beginning.root_output hash keys s whole lengths fair
            (shown_course course kept c apart) (kept_shown course kept c apart) counts_shown shown_now tracks_shown b.live in
            let r = beginning.begins hash keys s whole lengths fair
            (shown_course course kept c apart) (kept_shown course kept c apart) counts_shown shown_now tracks_shown b.live
            (gone_on hash s (transactions hash keys s) course c) did (matters_as names.Init b.is) b.is
            (λ i. without_all course.state.live (init_places i) ++ filter is_position (init_made i))
            (λ i. course.state.made ++ init_made i) (λ i. course.state.next + length (init_made i)) refl in
            then_steps (begin_steps s) (ap (which_steps s course.state c.tx) b.is) r.legal r.tracked r.timed

      -- ---- the transaction of a branch

      module _ (t : Takes hash keys s course.state c.height c.tx) (time : g.time + 1 ≡ c.height) where
        branch_l : Listed
        branch_l = path_listed s t.path t.made

        branch_places : places_spent c.tx ≡ map (λ (x : Spent). x.outpoint) t.made.spends
        branch_places = same_prevs hash keys s c.tx t.made t.same

        at_root : at s.advert.root t.path ≡ Some t.of.b
        at_root = branch_at_path hash keys s t.path t.of.here t.of.i t.of.b t.of.ends

        position_is : position_of t.path ≡ t.of.here.position
        position_is = ap position_of (sym (path_named hash keys s t.path t.of.here t.of.i t.of.b t.of.ends)) ∙ position_before t.of.here.position t.of.i

        branch_made : outputs_made s (transactions hash keys s) course.state c.tx
            ≡ taking.makes hash keys s whole lengths fair (shown_course course kept c apart)
            (kept_shown course kept c apart) counts_shown shown_now tracks_shown t.path t.made t.of t.live (core t.of.b)
        branch_made =
            ap (outputs_named s (transactions hash keys s) course.state.next) t.is
            ∙ ap (outputs_of s course.state.next) (named_is hash keys s (names.At t.path) (path_listed s t.path t.made) t.named)
            ∙ (λ i. made_from (txid hash (tx_of t.made)) 0 course.state.next (branch_held t.path (at_root i)) (outputs_are i))
          where
            outputs_are : t.made.outputs ≡ core_outputs hash keys s (branch_path t.of.here.position t.of.i) t.of.here.output.value (core t.of.b)
            outputs_are = ap (λ (d : Unsigned). d.outputs) t.of.is

        pub adds_branch : Adds hash keys s course.state (places_spent c.tx) (outputs_made s (transactions hash keys s) course.state c.tx)
        adds_branch = own_adds hash keys s whole course.state c.tx (names.At t.path) (path_listed s t.path t.made) t.named refl t.is t.same t.live

        takes_are : taken_by s (which_of s (transactions hash keys s) c.tx) ≡ puts_of (core t.of.b)
        takes_are = ap (taken_by s) t.is ∙ ap puts_by at_root

        pub takes_puts : (x : List ℕ) → is_among x (taken_by s (which_of s (transactions hash keys s) c.tx)) ≡ true
            → Is_in (outpoint_or_none (look_up x s.bound)) (places_spent c.tx)
        takes_puts x h =
            let k = sym (ap (is_among x) takes_are) ∙ h in
            let put = λ (name : List ℕ). deposit hash keys s name (holding_or_none (look_up name (volatile s.advert.pre))) in
            subst (Is_in (outpoint_or_none (look_up x s.bound))) (sym branch_places)
            (in_map (λ (y : Spent). y.outpoint) t.made.spends (put x)
            (subst (Is_in (put x)) (sym (ap (λ (d : Unsigned). d.spends) t.of.is))
            (inr (in_map put (puts_of (core t.of.b)) x (among_is x (puts_of (core t.of.b)) k)))))

        -- what it reveals, and the lengths that it tests
        tested : taking.Tested hash keys s whole lengths fair
            (shown_course course kept c apart) (kept_shown course kept c apart) counts_shown shown_now tracks_shown t.path t.made t.of t.live
        tested =
            let st = position_stands hash keys s t.of.here.position t.of.here t.of.choice t.of.stands in
            let sa = shows_all hash keys s whole t.of.here.position t.of.choice t.of.i t.of.b c.tx
            (compiled_at hash keys s whole t.of.here.position t.of.here t.of.choice t.of.stands) t.of.there
            (ap (λ (script : List ℕ). opens hash script (first_witness c.tx.inputs)) (sym st.script) ∙ t.opened)
            (ap (λ (q : List PathStep). chosen_by (choices_at s q) (first_witness c.tx.inputs)) (sym position_is) ∙ t.chosen) in
            let known = reveals_known s.advert whole.checked t.of.here.position t.of.choice st.branches t.of.i t.of.b t.of.there in
            let es = each_shown hash keys s whole course.state c.tx
            (messages course kept c apart) (clear_later course kept c apart) (item_heard course kept c apart)
            (shown_later course kept c apart) lengths are (reveals_of (core t.of.b)) sa.strings known sa.fit sa.items in
            record {
              revealed =
                  every (λ x. is_revealed_by (map (revealed_secret s) (course.state.shown ++ strings_shown hash s course.state c.tx)) deal_contract
                  (look_up x (secrets s.advert.pre)) x)
                  (reveals_of (core t.of.b)) (λ x h.
                  one_revealed x (all_among (λ y. is_among y (names_of (secrets s.advert.pre))) (reveals_of (core t.of.b)) x known h)
                  (all_among (λ y. is_some (look_up y (course.state.shown ++ strings_shown hash s course.state c.tx))) (reveals_of (core t.of.b)) x es.0 h));
              test =
                  ap (λ (ls : List (List ℕ × ℕ)). holds ls (test_of (core t.of.b))) (lengths_are (reveals_of (core t.of.b)) known ∙ es.1)
                  ∙ sa.predicate;
            }
          where
            one_revealed : (x : List ℕ) → is_among x (names_of (secrets s.advert.pre)) ≡ true
                → is_some (look_up x (course.state.shown ++ strings_shown hash s course.state c.tx)) ≡ true
                → is_revealed_by (map (revealed_secret s) (course.state.shown ++ strings_shown hash s course.state c.tx)) deal_contract
                (look_up x (secrets s.advert.pre)) x ≡ true
            one_revealed x k h =
                let v = named_looked (secrets s.advert.pre) x k in
                ap (λ (o : Option (List ℕ)). is_revealed_by
                (map (revealed_secret s) (course.state.shown ++ strings_shown hash s course.state c.tx)) deal_contract o x) v.1
                ∙ revealed_there hash keys s lengths fair whole (course.state.shown ++ strings_shown hash s course.state c.tx) v.0 x v.1 h

            lengths_are : (xs : List (List ℕ)) → list_all (λ x. is_among x (names_of (secrets s.advert.pre))) xs ≡ true
                → config_lengths g.committed deal_contract s.advert.pre xs ≡ map (λ a. (a, lengths a)) xs
            lengths_are [] h = refl
            lengths_are (x ∷ xs) h =
                let p = and_parts (is_among x (names_of (secrets s.advert.pre))) (list_all (λ y. is_among y (names_of (secrets s.advert.pre))) xs) h in
                let v = named_looked (secrets s.advert.pre) x p.0 in
                let i = looked_in (secrets s.advert.pre) x v.0 v.1 in
                let one : secret_length g.committed deal_contract s.advert.pre x ≡ lengths x =
                ap (λ (o : Option (List ℕ)). length_by g.committed deal_contract o x) v.1
                ∙ ap (λ (cs : List Committed). known_length (length_at cs deal_contract v.0 x)) tracks.committed
                ∙ ap known_length (committed_length s lengths fair (x, v.0) i (secret_party hash keys s lengths fair (x, v.0) i)) in
                λ j. (x, one j) ∷ lengths_are xs p.1 j

        lock_done : nat_le (lock t.of.b) g.time ≡ true
        lock_done = reached (lock t.of.b) g.time c.height t.reached time
          where
            reached : (l m n : ℕ) → l < n → m + 1 ≡ n → nat_le l m ≡ true
            reached l m n a b = within l m (omega (arith, a, b))
              where
                within : (x y : ℕ) → x ≤ y → nat_le x y ≡ true
                within x y z = grind (arith, nat_tests)

        pub went_on : Went
        went_on =
            let r = taking.taken hash keys s whole lengths fair
            (shown_course course kept c apart) (kept_shown course kept c apart) counts_shown shown_now tracks_shown t.path t.made t.of t.live
            (gone_on hash s (transactions hash keys s) course c) did (matters_as (names.At t.path) t.is) takes_are
            (λ i. without_all course.state.live (branch_places i) ++ filter is_position (branch_made i))
            (λ i. course.state.made ++ branch_made i) (λ i. course.state.next + length (branch_made i)) refl lock_done tested in
            let number = taking.first_number hash keys s whole lengths fair (shown_course course kept c apart)
            (kept_shown course kept c apart) counts_shown shown_now tracks_shown t.path t.made t.of t.live c.tx branch_places in
            then_steps (branch_steps s (taking.n hash keys s whole lengths fair (shown_course course kept c apart)
            (kept_shown course kept c apart) counts_shown shown_now tracks_shown t.path t.made t.of t.live) t.of.i (Some t.of.b))
            (ap (which_steps s course.state c.tx) t.is ∙ (λ i. branch_steps s (number i) (t.chosen i) (at_root i))) r.legal r.tracked r.timed
