-- An accepted transaction that takes a branch is a legal step of the calculus, and money agrees after it.
use Rattle.std.proofs.Common.{◌≡◌, ℕ, ◌+◌, ◌≤◌, List, [], ◌∷◌, ◌++◌, length, map, true, not, Some, None, refl, sym, ap, ◌∙◌, subst, append-nil}
use Rattle.std.specs.Prelude.{◌-◌, slice_get, is_some, nat_le}
use Rattle.std.specs.List.{filter, list_all}
use Rattle.std.proofs.lemmas.Bool.{and_parts}
use Rattle.spec_data.specs.Lists.{AllTrue, is_among, are_distinct, has_number, look_up}
use Rattle.spec_terms.specs.Term as term
use Rattle.spec_terms.specs.Term.{Contract, branches, Parts, auth, after, put_reveal, withdraw, split}
use Rattle.spec_terms.specs.Core.{core, asks, lock, puts_of as core_puts, reveals_of as core_reveals, test_of as core_test}
use Rattle.spec_terms.specs.Value.{holds}
use Rattle.spec_terms.specs.Advert.{Advert}
use Rattle.spec_terms.specs.Parties.{participants}
use Rattle.spec_terms.specs.Precondition.{volatile, deposits, names_of, value_of_puts}
use Rattle.spec_terms.specs.declared.path.PathStep.{PathStep}
use Rattle.spec_terms.specs.declared.path.PathStep.TheVariants.{Branch as To}
use Rattle.spec_bitcoin.specs.declared.tx.TxIn.{TxIn}
use Rattle.spec_bitcoin.specs.declared.tx.Tx.{Tx}
use Rattle.spec_bitcoin.specs.Digests.{txid}
use Rattle.spec_calculus.specs.declared.step.Step.TheVariants as steps
use Rattle.spec_calculus.specs.declared.parts.ActiveContract.{ActiveContract}
use Rattle.spec_calculus.specs.Configuration.{Configuration}
use Rattle.spec_calculus.specs.Moves.{kept as kept_deposits}
use Rattle.spec_calculus.specs.Beginning.{contract_at, pre_of, fee_of, bindings_of, are_there, numbers_of, is_init_authorised}
use Rattle.spec_calculus.specs.Branches.{active_at, others, gone, total_value, are_revealed, secret_lengths, advert_of, branch_in, branch_of, lock_of, asks_of, part_values, is_withdraw, is_split, is_put_core, is_withdraw_core, is_split_core, payee_of, payee_in, values_of, values_in, puts_of_taken, contract_number, has_branch_authorised, have_branch_authorised}
use Rattle.spec_calculus.specs.Steps.{branch_at, put_reveal_premises, withdraw_premises, split_premises, continued, withdrawn, divided, after_steps as reached, Legal}
use Rattle.spec_compiler.specs.Instance.{Instance, branch_path, position_script}
use Rattle.spec_compiler.specs.Transactions.{input_of, pays, party_script, continued_value, part_outputs, core_outputs, put_deposits}
use Rattle.spec_run.specs.Setup.{Setup, people_at, people_of}
use Rattle.spec_run.specs.World.{ContractPosition, World, is_deposit, bindings_at}
use Rattle.spec_run.specs.Conditions.{HashesBytes}
use Rattle.spec_run.specs.Ledger.{spend_from, made_from, core_holds, position_branch}
use Rattle.spec_run.specs.Steps.{auth_branch, is_awaited, core_step, branch_steps}
use Rattle.theory_bitcoin.specs.Apart.{bare_input}
use Rattle.theory_world.specs.Transactions.{IsNumbered}
use Rattle.theory_world.proofs.Tests.{all_alike}
use Rattle.theory_world.specs.KeptApart.{NoCollision}
use Rattle.theory_run.proofs.Steps.Legal.{passes, after-append, legal_append}
use Rattle.theory_run.specs.Tracks.{AgreeOnMoney, Constant}
use Rattle.theory_world.proofs.Ledger.Accepting.{Accepting, AllSpent, HeardAll}
use Rattle.theory_world.proofs.Later.{compiled_is}
use Rattle.theory_world.proofs.Contracts.Standing.{term_branches}
use Rattle.theory_world.proofs.Contracts.Mentions.{branch_named, asked_mentioned}
use Rattle.theory_run.specs.KeptBook.{KeptBook}
use Rattle.theory_run.proofs.Accepted.Spending.{TransactionsFit, Checked}
use Rattle.theory_run.proofs.Accepted.WhatItIs.{First, first}
use Rattle.theory_run.proofs.Accepted.WhatItMakes.{Taking}
use Rattle.theory_run.proofs.Accepted.Kinded.{looked_branch}
use Rattle.theory_run.proofs.Steps.Gone.{gone_values, without_absent, only_first, agree_by}
use Rattle.theory_run.proofs.Accepted.Numbers.{AllIn, volatile_entry, entries_named, entries_in, entries_deposits, entries_total, AreBound, are_bound}
use Rattle.theory_run.proofs.Facts.Owned.{owner_paid}
use Rattle.theory_run.proofs.Steps.Beginnings.{StepFrame, bindings_same, there_same}
use Rattle.theory_run.proofs.Steps.Awaiting.{asked_all, after-asked, asked_all_more, asked_cover, legal_awaited, lock_reached, active_there, no_deposit_there, none_active, kept_none, part_held, parts_active, parts_no_deposits, parts_counted}

module _ (s : Setup) (size : HashesBytes s.hash) (few_contracts : length s.contracts ≤ 16) (g : Configuration) (w : World)
    (kept : KeptBook s g w) (fit : TransactionsFit s w) (check : Checked s w) (hs : List (List ℕ)) (clear : NoCollision s.hash hs)
    (sub : (t : List ℕ) → is_among t w.hashed ≡ true → is_among t hs ≡ true)
    (tx : Tx) (fits : IsNumbered tx) (spent : List ℕ) (acc : Accepting s w tx spent) (all : HeardAll s w hs tx) where
  abbrev fst : First s size g w kept fit check hs clear sub tx fits spent acc all
  fst = first s size g w kept fit check hs clear sub tx fits spent acc all

  module _ (h : ContractPosition) (t : Taking s size few_contracts g w kept fit check hs clear sub tx fits spent acc all h)
      (c : Configuration) (con : Constant s c) (money : AgreeOnMoney s c w) (advertised : c.advertised ≡ w.advertised) where
    abbrev st : Instance
    st = t.fine.instance

    abbrev ad : Advert
    ad = t.fine.instance.advert

    abbrev n : ℕ
    n = fst.number

    abbrev i : ℕ
    i = t.index

    abbrev b : term.Guarded
    b = t.branch

    abbrev act : ActiveContract
    act = record { number = fst.number; contract = h.contract; position = h.position; balance = fst.spends.output.value }

    advert_is : slice_get s.contracts h.contract ≡ Some ad
    advert_is = let ci = compiled_is s w h.contract st t.fine.compiled in ci.there ∙ ap (λ (y : Instance). Some y.advert) (sym ci.is)

    at : contract_at c.contracts h.contract ≡ Some ad
    at = ap (λ cs. slice_get cs h.contract) con.contracts ∙ advert_is

    here : active_at c.active n ≡ Some act
    here = active_there s c w money n fst.spends.output h fst.spends.there fst.spends.live t.holds

    branch_in_root : branch_in (Some ad) h.position i ≡ Some b
    branch_in_root = term_branches s.hash st h.position t.fine.here t.fine.choice i t.fine.stands ∙ t.there

    branch_is : branch_at c n i ≡ Some b
    branch_is = ap (λ a. branch_of c.contracts a i) here ∙ ap (λ o. branch_in o h.position i) at ∙ branch_in_root

    people_are : people_at s h.contract ≡ participants ad
    people_are = ap people_of advert_is

    within : (a : List ℕ) → is_among a (asks b) ≡ true → is_among a (people_at s h.contract) ≡ true
    within a k = subst (λ ps. is_among a ps ≡ true) (sym people_are) (branch_named ad (h.position ++ To i ∷ []) b a branch_in_root (asked_mentioned b a k))

    first_input : bare_input fst.input ≡ bare_input (input_of t.fine.here.output)
    first_input =
        let e : map bare_input (fst.input ∷ fst.inputs)
        ≡ map bare_input (map input_of (t.fine.here.output ∷ put_deposits s.hash st (core_puts (core b)))) =
        ap (map bare_input) (sym fst.inputs_is) ∙ ap (λ (y : Tx). y.inputs) t.is in
        cc

    later_inputs : map bare_input fst.inputs ≡ map bare_input (map input_of (put_deposits s.hash st (core_puts (core b))))
    later_inputs =
        let e : map bare_input (fst.input ∷ fst.inputs)
        ≡ map bare_input (map input_of (t.fine.here.output ∷ put_deposits s.hash st (core_puts (core b)))) =
        ap (map bare_input) (sym fst.inputs_is) ∙ ap (λ (y : Tx). y.inputs) t.is in
        cc

    pub lock_done : nat_le (lock t.branch) c.time ≡ true
    lock_done =
        let l : tx.lock ≡ lock b = ap (λ (y : Tx). y.lock) t.is in
        (λ j. nat_le (sym l j) (money.time j)) ∙ lock_reached w.tip tx fst.input fst.inputs acc.final fst.inputs_is (ap (λ (y : TxIn). y.sequence) first_input)

    -- ---- authorisations

    abbrev awaited : List (List ℕ)
    awaited = filter (is_awaited c fst.number t.index t.branch) (people_at s h.contract)

    abbrev mid : Configuration
    mid = record c { branch_authorised = asked_all c.branch_authorised fst.number t.index awaited }

    steps_are : branch_steps c (people_at s h.contract) n i (position_branch s h i) ≡ map (auth_branch n i) awaited ++ core_step n i (core b)
    steps_are = ap (branch_steps c (people_at s h.contract) n i) (looked_branch s w h fst.spends.output t.fine i b t.there)

    asked : have_branch_authorised mid.branch_authorised n i (asks b) ≡ true
    asked = asked_cover c n i b (people_at s h.contract) within

    -- where the step of the core is legal all are
    legal_by : (x : term.Guarded) → core b ≡ x → Legal mid (core_step n i x) → Legal c (branch_steps c (people_at s h.contract) n i (position_branch s h i))
    legal_by x e l =
        subst (Legal c) (sym (steps_are ∙ ap (λ y. map (auth_branch n i) awaited ++ core_step n i y) e))
        (legal_append c (map (auth_branch n i) awaited) (core_step n i x)
        (legal_awaited c n i act b (people_at s h.contract) here branch_is) (subst (λ d. Legal d (core_step n i x)) (sym (after-asked n i awaited c)) l))

    ends_by : (x : term.Guarded) → core b ≡ x → reached c (branch_steps c (people_at s h.contract) n i (position_branch s h i)) ≡ reached mid (core_step n i x)
    ends_by x e =
        ap (reached c) (steps_are ∙ ap (λ y. map (auth_branch n i) awaited ++ core_step n i y) e)
        ∙ after-append c (map (auth_branch n i) awaited) (core_step n i x) ∙ ap (λ d. reached d (core_step n i x)) (after-asked n i awaited c)

    -- ---- what is spent besides

    later_spent : AllSpent s w tx fst.numbers fst.inputs
    later_spent =
        let a : AllSpent s w tx (n ∷ fst.numbers) (fst.input ∷ fst.inputs) =
        subst (λ ns. AllSpent s w tx ns (fst.input ∷ fst.inputs)) fst.spent_is (subst (AllSpent s w tx spent) fst.inputs_is acc.spends) in
        a.1

    distinct : are_distinct fst.numbers ≡ true
    distinct = (and_parts (not (has_number n fst.numbers)) (are_distinct fst.numbers) (subst (λ ns. are_distinct ns ≡ true) fst.spent_is acc.distinct)).1

    bound_puts : AllIn (map (volatile_entry ad.pre) (core_puts (core b))) (deposits ad.pre)
        → AreBound s g w kept h.contract st t.fine.compiled tx fst.numbers (map (volatile_entry ad.pre) (core_puts (core b)))
    bound_puts k = are_bound s g w kept h.contract st t.fine.compiled tx fst.numbers fst.inputs
        (map (volatile_entry ad.pre) (core_puts (core b))) later_spent k
        (later_inputs ∙ ap (λ ds. map bare_input (map input_of ds)) (entries_deposits s.hash st (core_puts (core b))))

    -- the deposits and contracts that are left
    deposits_left : kept_deposits c.deposits spent ≡ kept_deposits c.deposits fst.numbers
    deposits_left = ap (kept_deposits c.deposits) fst.spent_is
        ∙ without_absent (λ d. d.number) c.deposits n fst.numbers (no_deposit_there s c w money n fst.spends.output h fst.spends.there fst.spends.live t.holds)

    actives_left : list_all (λ m. is_deposit (slice_get w.outputs m)) fst.numbers ≡ true
        → filter (λ (x : ActiveContract). not (has_number x.number spent)) c.active ≡ others c.active n
    actives_left live = ap (λ ns. filter (λ (x : ActiveContract). not (has_number x.number ns)) c.active) fst.spent_is
        ∙ only_first (λ x. x.number) c.active n fst.numbers (none_active s c w money fst.numbers live)

    frame_of : (d : Configuration) → d.advertised ≡ c.advertised → d.committed ≡ c.committed → d.revealed ≡ c.revealed → d.parties
        ≡ c.parties → d.honest ≡ c.honest → d.contracts ≡ c.contracts → d.init_authorised ≡ c.init_authorised → d.branch_authorised
        ≡ mid.branch_authorised → StepFrame c d
    frame_of d a1 a2 a3 a4 a5 a6 a7 a8 = record {
      advertised = a1;
      committed = a2;
      revealed = a3;
      parties = a4;
      honest = a5;
      contracts = a6;
      inits = λ k x q. ap (λ xs. is_init_authorised xs k x) a7 ∙ q;
      asked = λ m j a q. ap (λ xs. has_branch_authorised xs m j a) a8 ∙ asked_all_more c.branch_authorised n i m j awaited a q;
    }

    abbrev path : List PathStep
    path = h.position ++ To t.index ∷ []

    -- the outputs of the transaction, and what they hold
    abbrev Made : World → Type 0
    Made next = next.outputs ≡ spend_from 0 spent w.outputs
        ++ made_from (λ m. core_holds h.contract (h.position ++ To t.index ∷ []) (core t.branch) m) (txid s.hash tx) 0 tx.outputs

    made_are : (next : World) → Made next → (x : term.Guarded) → core b ≡ x → next.outputs ≡ spend_from 0 spent w.outputs
        ++ made_from (λ m. core_holds h.contract path x m) (txid s.hash tx) 0
        (core_outputs s.hash st (branch_path t.fine.here.position i) t.fine.here.output.value x)
    made_are next o x e =
        let outs : tx.outputs ≡ core_outputs s.hash st (branch_path t.fine.here.position i) t.fine.here.output.value (core b) =
        ap (λ (y : Tx). y.outputs) t.is in
        o ∙ ap (λ os. spend_from 0 spent w.outputs ++ made_from (λ m. core_holds h.contract path (core b) m) (txid s.hash tx) 0 os) outs
        ∙ ap (λ y. spend_from 0 spent w.outputs ++ made_from (λ m. core_holds h.contract path y m) (txid s.hash tx) 0
        (core_outputs s.hash st (branch_path t.fine.here.position i) t.fine.here.output.value y)) e

    -- ---- a payment

    module _ (p : List ℕ) (e : core t.branch ≡ withdraw p) where
      none_put : fst.numbers ≡ []
      none_put =
          let z : core_puts (core b) ≡ [] = ap core_puts e in
          let k : AllIn (map (volatile_entry ad.pre) (core_puts (core b))) (deposits ad.pre) =
          subst (λ ps. AllIn (map (volatile_entry ad.pre) ps) (deposits ad.pre)) (sym z) tt in
          let r = (bound_puts k).numbers in
          sym r ∙ ap (λ ps. numbers_of (bindings_at w.advertised h.contract) (names_of (map (volatile_entry ad.pre) ps))) z

      withdraw_fine : AllTrue (withdraw_premises mid n i (active_at c.active n) (branch_at c n i))
      withdraw_fine = (
        ap is_some here,
        (
          ap is_withdraw branch_is ∙ ap is_withdraw_core e,
          (
            ap (λ o. nat_le (lock_of o) c.time) branch_is
                ∙ lock_done,
            (ap (λ o. have_branch_authorised mid.branch_authorised n i (asks_of o)) branch_is ∙ asked, tt),
          ),
        ),
      )

      pub legal_withdraw : Legal c (branch_steps c (people_at s h.contract) fst.number t.index (position_branch s h t.index))
      legal_withdraw = legal_by (withdraw p) e (passes mid (steps.Withdraw n i) withdraw_fine, tt)

      fee_is : fee_of (advert_of c.contracts (Some act)) ≡ ad.fee
      fee_is = ap fee_of at

      pub ends_withdraw : reached c (branch_steps c (people_at s h.contract) fst.number t.index (position_branch s h t.index))
          ≡ withdrawn mid fst.number (Some act) p
      ends_withdraw =
          ends_by (withdraw p) e ∙ ap (λ a. withdrawn mid n a (payee_of (branch_at c n i))) here
          ∙ ap (λ o. withdrawn mid n (Some act) (payee_of o)) branch_is ∙ ap (λ y. withdrawn mid n (Some act) (payee_in y)) e

      pub frame_withdraw : StepFrame c (reached c (branch_steps c (people_at s h.contract) fst.number t.index (position_branch s h t.index)))
      frame_withdraw = subst (StepFrame c) (sym ends_withdraw) (frame_of (withdrawn mid n (Some act) p) refl refl refl refl refl refl refl refl)

      pub agree_withdraw : (next : World) → next.tip ≡ w.tip → Made next
          → AgreeOnMoney s (reached c (branch_steps c (people_at s h.contract) fst.number t.index (position_branch s h t.index))) next
      agree_withdraw next tips outs =
          let owner = owner_paid s g w kept hs clear sub p (t.payee p e) in
          let left : c.deposits ≡ kept_deposits c.deposits spent = sym (deposits_left ∙ ap (kept_deposits c.deposits) none_put ∙ kept_none c.deposits) in
          let others_are = sym (actives_left (subst (λ ns. list_all (λ m. is_deposit (slice_get w.outputs m)) ns ≡ true) (sym none_put) refl)) in
          let value = t.fine.value in
          subst (λ d. AgreeOnMoney s d next) (sym ends_withdraw)
          (agree_by s c w money spent (λ m. None) (txid s.hash tx)
          (pays s.hash (party_script s.hash p) (t.fine.here.output.value - ad.fee) ∷ []) (withdrawn mid n (Some act) p) next tips
          (made_are next outs (withdraw p) e)
          refl refl refl
          (λ j. left j ++ record { number = c.next; owner = sym owner j; value = value j - fee_is j } ∷ [])
          (others_are ∙ sym (append-nil _)))

    -- ---- a division

    module _ (ps : Parts) (e : core t.branch ≡ split ps) where
      none_divided : fst.numbers ≡ []
      none_divided =
          let z : core_puts (core b) ≡ [] = ap core_puts e in
          let k : AllIn (map (volatile_entry ad.pre) (core_puts (core b))) (deposits ad.pre) =
          subst (λ qs. AllIn (map (volatile_entry ad.pre) qs) (deposits ad.pre)) (sym z) tt in
          let r = (bound_puts k).numbers in
          sym r ∙ ap (λ qs. numbers_of (bindings_at w.advertised h.contract) (names_of (map (volatile_entry ad.pre) qs))) z

      split_fine : AllTrue (split_premises mid n i (active_at c.active n) (branch_at c n i))
      split_fine = (
        ap is_some here,
        (
          ap is_split branch_is ∙ ap is_split_core e,
          (
            ap (λ o. nat_le (lock_of o) c.time) branch_is
                ∙ lock_done,
            (ap (λ o. have_branch_authorised mid.branch_authorised n i (asks_of o)) branch_is ∙ asked, tt),
          ),
        ),
      )

      pub legal_split : Legal c (branch_steps c (people_at s h.contract) fst.number t.index (position_branch s h t.index))
      legal_split = legal_by (split ps) e (passes mid (steps.Split n i) split_fine, tt)

      pub ends_split : reached c (branch_steps c (people_at s h.contract) fst.number t.index (position_branch s h t.index))
          ≡ divided mid fst.number t.index (Some act) (part_values ps)
      ends_split =
          ends_by (split ps) e ∙ ap (λ a. divided mid n i a (values_of (branch_at c n i))) here
          ∙ ap (λ o. divided mid n i (Some act) (values_of o)) branch_is ∙ ap (λ y. divided mid n i (Some act) (values_in y)) e

      pub frame_split : StepFrame c (reached c (branch_steps c (people_at s h.contract) fst.number t.index (position_branch s h t.index)))
      frame_split = subst (StepFrame c) (sym ends_split) (frame_of (divided mid n i (Some act) (part_values ps)) refl refl refl refl refl refl refl refl)

      pub agree_split : (next : World) → next.tip ≡ w.tip → Made next
          → AgreeOnMoney s (reached c (branch_steps c (people_at s h.contract) fst.number t.index (position_branch s h t.index))) next
      agree_split next tips outs =
          let left : c.deposits ≡ kept_deposits c.deposits spent = sym (deposits_left ∙ ap (kept_deposits c.deposits) none_divided ∙ kept_none c.deposits) in
          let others_are = sym (actives_left (subst (λ ns. list_all (λ m. is_deposit (slice_get w.outputs m)) ns ≡ true) (sym none_divided) refl)) in
          let at' = branch_path t.fine.here.position i in
          let new = sym (parts_active s.hash st at' h.contract path (txid s.hash tx) c.next 0 ps) in
          let none = sym (parts_no_deposits s.hash st at' h.contract path (txid s.hash tx) s c.next 0 ps) in
          let many = sym (parts_counted s.hash st at' h.contract path (txid s.hash tx) 0 ps) in
          subst (λ d. AgreeOnMoney s d next) (sym ends_split)
          (agree_by s c w money spent (part_held h.contract path) (txid s.hash tx) (part_outputs s.hash st at' 0 ps)
          (divided mid n i (Some act) (part_values ps)) next tips (made_are next outs (split ps) e)
          refl (ap (λ m. c.next + m) many) refl
          (sym (append-nil c.deposits) ∙ (λ j. left j ++ none j))
          (λ j. others_are j ++ new j))

    -- ---- a put or reveal

    -- what is revealed, and what the test says of the lengths
    pub record IsTested : Type 0 where
      pub puts_known : list_all (λ x. is_among x (names_of (volatile t.fine.instance.advert.pre))) (core_puts (core t.branch)) ≡ true
      pub revealed : are_revealed c.revealed h.contract t.fine.instance.advert.pre (core_reveals (core t.branch)) ≡ true
      pub test : holds (secret_lengths c.committed h.contract t.fine.instance.advert.pre (core_reveals (core t.branch))) (core_test (core t.branch)) ≡ true

    module _ (puts reveals : List (List ℕ)) (test : term.Pred) (nx : Contract) (e : core t.branch ≡ put_reveal puts reveals test nx) (tested : IsTested) where
      puts_bound : AreBound s g w kept h.contract st t.fine.compiled tx fst.numbers (map (volatile_entry ad.pre) (core_puts (core b)))
      puts_bound = bound_puts (entries_in ad.pre (core_puts (core b)) tested.puts_known)

      puts_named : names_of (map (volatile_entry ad.pre) (core_puts (core b))) ≡ core_puts (core b)
      puts_named = entries_named ad.pre (core_puts (core b))

      bindings_are : bindings_of c.advertised h.contract ≡ bindings_at w.advertised h.contract
      bindings_are = ap (λ xs. bindings_of xs h.contract) advertised ∙ bindings_same w.advertised h.contract

      puts_there : are_there c.deposits (bindings_of c.advertised h.contract) (core_puts (core b)) ≡ true
      puts_there =
          ap (λ ns. are_there c.deposits (bindings_of c.advertised h.contract) ns) (sym puts_named)
          ∙ ap (λ bs. are_there c.deposits bs (names_of (map (volatile_entry ad.pre) (core_puts (core b))))) bindings_are
          ∙ all_alike _ _ (names_of (map (volatile_entry ad.pre) (core_puts (core b))))
          (λ x. there_same s c w money (look_up x (bindings_at w.advertised h.contract))) ∙ puts_bound.there

      numbers_are : numbers_of (bindings_of c.advertised h.contract) (core_puts (core b)) ≡ fst.numbers
      numbers_are = ap (λ bs. numbers_of bs (core_puts (core b))) bindings_are
          ∙ ap (numbers_of (bindings_at w.advertised h.contract)) (sym puts_named) ∙ puts_bound.numbers

      -- the premises, with the contract and the branch that are there
      put_row : AllTrue (put_reveal_premises mid n i (Some act) (Some b))
      put_row = (
        refl,
        (
          ap is_put_core e,
          (
            lock_done,
            (
              asked,
              (
                puts_there,
                (
                  ap (λ o. are_revealed c.revealed h.contract (pre_of o) (core_reveals (core b))) at ∙ tested.revealed,
                  (ap (λ o. holds (secret_lengths c.committed h.contract (pre_of o) (core_reveals (core b))) (core_test (core b))) at ∙ tested.test, tt),
                ),
              ),
            ),
          ),
        ),
      )

      put_fine : AllTrue (put_reveal_premises mid n i (active_at c.active n) (branch_at c n i))
      put_fine = subst (λ a. AllTrue (put_reveal_premises mid n i a (branch_at c n i))) (sym here)
          (subst (λ o. AllTrue (put_reveal_premises mid n i (Some act) o)) (sym branch_is) put_row)

      pub legal_put : Legal c (branch_steps c (people_at s h.contract) fst.number t.index (position_branch s h t.index))
      legal_put = legal_by (put_reveal puts reveals test nx) e (passes mid (steps.PutReveal n i) put_fine, tt)

      pub ends_put : reached c (branch_steps c (people_at s h.contract) fst.number t.index (position_branch s h t.index))
          ≡ continued mid fst.number t.index (Some act) fst.numbers
      ends_put =
          ends_by (put_reveal puts reveals test nx) e
          ∙ ap (λ a. continued mid n i a (numbers_of (bindings_of c.advertised (contract_number a)) (puts_of_taken (branch_at c n i)))) here
          ∙ ap (λ o. continued mid n i (Some act) (numbers_of (bindings_of c.advertised h.contract) (puts_of_taken o))) branch_is
          ∙ ap (continued mid n i (Some act)) numbers_are

      pub frame_put : StepFrame c (reached c (branch_steps c (people_at s h.contract) fst.number t.index (position_branch s h t.index)))
      frame_put = subst (StepFrame c) (sym ends_put) (frame_of (continued mid n i (Some act) fst.numbers) refl refl refl refl refl refl refl refl)

      put_value : total_value (gone c.deposits fst.numbers) ≡ value_of_puts (volatile ad.pre) puts
      put_value =
          ap (λ ds. total_value (gone ds fst.numbers)) money.deposits ∙ gone_values s w.outputs fst.numbers distinct ∙ puts_bound.values
          ∙ sym (entries_total ad.pre (core_puts (core b)))
          ∙ ap (λ y. value_of_puts (volatile ad.pre) (core_puts y)) e

      put_fee : fee_of (advert_of c.contracts (Some act)) ≡ ad.fee
      put_fee = ap fee_of at

      pub agree_put : (next : World) → next.tip ≡ w.tip → Made next
          → AgreeOnMoney s (reached c (branch_steps c (people_at s h.contract) fst.number t.index (position_branch s h t.index))) next
      agree_put next tips outs =
          let others_are = sym (actives_left puts_bound.live) in
          let value = t.fine.value in
          subst (λ d. AgreeOnMoney s d next) (sym ends_put)
          (agree_by s c w money spent (λ m. Some (record { contract = h.contract; position = path })) (txid s.hash tx)
          (pays s.hash (position_script s.hash st (branch_path t.fine.here.position i) nx)
          (continued_value st t.fine.here.output.value puts) ∷ []) (continued mid n i (Some act) fst.numbers) next tips
          (made_are next outs (put_reveal puts reveals test nx) e)
          refl refl refl
          (sym (deposits_left) ∙ sym (append-nil _))
          (λ j. others_are j ++ record { number = c.next; contract = h.contract; position = path; balance = value j + put_value j - put_fee j } ∷ []))
