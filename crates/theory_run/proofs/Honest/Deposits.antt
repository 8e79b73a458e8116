-- An honest party's deposit that an accepted transaction spends, without a new gift, is taken by a contract that the party has endorsed or started.
use Rattle.std.proofs.Common.{◌≡◌, ℕ, List, [], ◌∷◌, ◌++◌, map, Bool, true, Option, Some, None, refl, sym, ap, ◌∙◌, subst, inl, inr}
use Rattle.std.specs.Prelude.{◌==◌, slice_get}
use Rattle.std.specs.List.{list_any}
use Rattle.std.specs.Str.{bytes_eq}
use Rattle.std.proofs.lemmas.Bool.{and_from, or_left, or_right, or_cases, eq-eqb, eqb-true}
use Rattle.spec_data.specs.Lists.{is_among, has_number, look_up}
use Rattle.spec_terms.specs.Term as term
use Rattle.spec_terms.specs.Term.{Contract, branches}
use Rattle.spec_terms.specs.Core.{core, puts_of}
use Rattle.spec_terms.specs.Precondition.{Holding, deposits, persistent, volatile, names_of}
use Rattle.spec_terms.specs.declared.path.PathStep.{PathStep}
use Rattle.spec_terms.specs.declared.path.PathStep.TheVariants.{Branch as To}
use Rattle.spec_bitcoin.specs.declared.tx.TxIn.{TxIn}
use Rattle.spec_bitcoin.specs.declared.tx.Tx.{Tx}
use Rattle.spec_bitcoin.specs.Spelling.{IsPlace}
use Rattle.spec_bitcoin.specs.Digests.{digest, preimage}
use Rattle.spec_bitcoin.specs.Keys.{has_signed}
use Rattle.spec_bitcoin.specs.Verdict.{script_of}
use Rattle.spec_calculus.specs.Configuration.{Configuration}
use Rattle.spec_compiler.specs.Instance.{Instance, deposit_key}
use Rattle.spec_compiler.specs.declared.unsigned.Spent.{Spent}
use Rattle.spec_compiler.specs.Transactions.{Standing, input_of, tx_of, deposit, holding_or_none, put_deposits, persistent_deposits, branch_unsigned, initial_unsigned, party_script}
use Rattle.spec_compiler.specs.ByPath.{position_at}
use Rattle.spec_run.specs.declared.outcome.Record.{Record}
use Rattle.spec_run.specs.Setup.{Setup, is_declared, is_honest, contract_at, pre_of, pre_at}
use Rattle.spec_run.specs.World.{ContractPosition, Output, World, bindings_at}
use Rattle.spec_run.specs.Owners.{paid_to}
use Rattle.spec_run.specs.Compiled.{compiled_instance}
use Rattle.spec_run.specs.Conditions.{IsSetup}
use Rattle.spec_run.specs.Ledger.{is_initial, initial_of, first_position, Begins, Takes, kind_by, kind_of}
use Rattle.spec_run.specs.HonestDeposits.{is_init, is_endorse, was_done, is_number, is_bound_to, takes_persistent, is_put_of, takes_put, is_but_for_witnesses, is_of_path, by_contract}
use Rattle.theory_bitcoin.specs.Apart.{bare}
use Rattle.theory_calculus.proofs.Names.{bytes_refl, persistent_deposit, volatile_named}
use Rattle.theory_calculus.specs.Members.{Is_in}
use Rattle.theory_calculus.proofs.Members.{all_in}
use Rattle.theory_script.proofs.Checked.{puts_known}
use Rattle.theory_world.specs.KeptApart.{NoCollision}
use Rattle.theory_world.specs.Transactions.{IsNumbered, HeardLists, NoScripts}
use Rattle.theory_world.proofs.Ledger.Bare.{same_from}
use Rattle.theory_world.proofs.Contracts.Standing.{unsigned_of_branch, term_choice}
use Rattle.theory_world.proofs.Later.{compiled_is}
use Rattle.theory_world.proofs.Ledger.Accepting.{IsSpent, AllSpent, Accepting, HeardAll, heard_input, HeardInput}
use Rattle.theory_run.specs.KeptBook.{KeptBook, HeardDigest, Needed, Started}
use Rattle.theory_run.proofs.Facts.Kept.{AllDead, IsDead}
use Rattle.theory_run.proofs.Accepted.Spending.{TransactionsFit, Checked, same_gift, same_put, same_start, deposit_signed}
use Rattle.theory_run.proofs.Accepted.Accept.{scripts_none, lists, all_strings_of, bare_in, not_dead}
use Rattle.theory_run.proofs.Accepted.WhatItIs.{First, first, initial_first, branch_first, initial_is, not_initial, at_bound}
use Rattle.theory_run.proofs.Accepted.WhatItMakes.{Taking}
use Rattle.theory_run.proofs.Accepted.Kinded.{looked_branch, first_taking, kind_taken}
use Rattle.theory_world.proofs.Contracts.Endorsed.{in_map}
use Rattle.theory_run.proofs.Facts.Owned.{paid_same}
use Rattle.theory_world.proofs.Contracts.Checking.{compiled_checked}
use Rattle.theory_run.proofs.Facts.OnePosition.{one_initial}
use Rattle.theory_run.proofs.Honest.Leaves.{Leave, by_gift, by_endorsement, by_start, KeptLeave}

-- ---- lists

-- the input of a number that is spent
pub input_for : (s : Setup) (w : World) (tx : Tx) (ns : List ℕ) (is : List TxIn) (n : ℕ) → AllSpent s w tx ns is → has_number n ns ≡ true
    → (i : TxIn) × Is_in i is × IsSpent s w tx n i
input_for s w tx [] [] n h k = cc
input_for s w tx [] (x ∷ is) n h k = absurd h
input_for s w tx (m ∷ ns) [] n h k = absurd h
input_for s w tx (m ∷ ns) (x ∷ is) n h k = elim (or_cases (m == n) (has_number n ns) k) [
  | inl e ↦ (x, inl refl, subst (λ y. IsSpent s w tx y x) (eqb-true m n e) h.0)
  | inr r ↦ (let q = input_for s w tx ns is n h.1 r in (q.0, inr q.1, q.2))
]

any_in : {X : Type 0} (f : X → Bool) (xs : List X) (x : X) → Is_in x xs → f x ≡ true → list_any f xs ≡ true
any_in f [] x h t = absurd h
any_in f (y ∷ xs) x (inl e) t = or_left _ _ (subst (λ z. f z ≡ true) e t)
any_in f (y ∷ xs) x (inr h) t = or_right (f y) _ (any_in f xs x h t)

-- places of one list among those of another
place_in : (xs ys : List TxIn) (i : TxIn) → map (λ (x : TxIn). x.prev) xs ≡ map (λ (x : TxIn). x.prev) ys → Is_in i xs → (j : TxIn)
    × Is_in j ys × (j.prev ≡ i.prev)
place_in [] ys i e h = absurd h
place_in (x ∷ xs) [] i e h = cc
place_in (x ∷ xs) (y ∷ ys) i e (inl k) = let a : x.prev ≡ y.prev = cc in (y, inl refl, sym a ∙ ap (λ (z : TxIn). z.prev) (sym k))
place_in (x ∷ xs) (y ∷ ys) i e (inr k) =
    let b : map (λ (z : TxIn). z.prev) xs ≡ map (λ (z : TxIn). z.prev) ys = cc in
    let r = place_in xs ys i b k in
    (r.0, inr r.1, r.2)

dead_in : (w : World) (is : List TxIn) (i : TxIn) → AllDead w is → Is_in i is → IsDead w i.prev
dead_in w [] i h k = absurd k
dead_in w (x ∷ is) i h (inl e) = subst (λ (y : TxIn). IsDead w y.prev) (sym e) h.0
dead_in w (x ∷ is) i h (inr k) = dead_in w is i h.1 k

-- a compiled contract's advert
pub advert_of : (s : Setup) (w : World) (k : ℕ) (st : Instance) → compiled_instance s w k ≡ Some st → contract_at s k ≡ Some st.advert
advert_of s w k st c = let ci = compiled_is s w k st c in ci.there ∙ ap (λ (y : Instance). Some y.advert) (sym ci.is)

module _ (s : Setup) (setup : IsSetup s) (before : List Record) (g : Configuration) (w : World) (kept : KeptBook s g w)
    (fit : TransactionsFit s w) (check : Checked s w) (leave : KeptLeave s before g w) (clear : NoCollision s.hash w.hashed)
    (hs : List (List ℕ)) (clear_hs : NoCollision s.hash hs) (sub : (t : List ℕ) → is_among t w.hashed ≡ true → is_among t hs ≡ true)
    (tx : Tx) (fits : IsNumbered tx) (spent : List ℕ) (acc : Accepting s w tx spent) (all : HeardAll s w hs tx)
    (a : List ℕ) (declared : is_declared s a ≡ true) (n : ℕ) (i : TxIn)
    (here : Is_in i tx.inputs) (sp : IsSpent s w tx n i) (paid : sp.output.script ≡ paid_to s a) (free : sp.output.holds ≡ None) where
  -- ---- what it is bound to

  bound_one : (k : ℕ) (st : Instance) → compiled_instance s w k ≡ Some st → (d : List ℕ × Holding) → Is_in d (deposits st.advert.pre)
      → i.prev ≡ (deposit s.hash st (d.0) (d.1)).outpoint → is_bound_to w k a n d ≡ true
  bound_one k st c d j p =
      let at = at_bound s g w kept k st c (d.0) (d.1) j in
      let same = kept.apart n at.number sp.output at.bound.output sp.there at.bound.there (sym sp.outpoint ∙ p ∙ at.outpoint) in
      let e : (let o : Option Output = Some sp.output in o) ≡ Some at.bound.output = sym sp.there ∙ ap (slice_get w.outputs) same ∙ at.bound.there in
      let f : sp.output ≡ at.bound.output = cc in
      let owner = paid_same s g w kept hs clear_hs sub
      ((d.1).owner) a at.bound.declared declared (sym at.bound.script ∙ ap (λ (o : Output). o.script) (sym f) ∙ paid) in
      let number : st.contract ≡ k = ap (λ (y : Instance). y.contract) (compiled_is s w k st c).is in
      let looked : look_up (d.0) (bindings_at w.advertised k) ≡ Some at.number =
      ap (λ m. look_up (d.0) (bindings_at w.advertised m)) (sym number) ∙ at.looked in
      let t : is_number n (look_up (d.0) (bindings_at w.advertised k)) ≡ true = ap (is_number n) looked ∙ eq-eqb at.number n (sym same) in
      and_from _ _ (subst (λ y. bytes_eq (d.1).owner y ≡ true) owner (bytes_refl (d.1).owner)) t

  -- the initial transaction takes it as a persistent deposit
  pub begun_takes : (k : ℕ) (st : Instance) → compiled_instance s w k ≡ Some st → bare tx ≡ bare (tx_of (initial_unsigned s.hash st))
      → takes_persistent s w k a n ≡ true
  begun_takes k st c e =
      let r = bare_in tx.inputs (map input_of (persistent_deposits s.hash st)) i (ap (λ (x : Tx). x.inputs) e) here in
      let m = in_map input_of (persistent_deposits s.hash st) r.0 r.1 in
      let q = in_map (λ (d : List ℕ × Holding). deposit s.hash st d.0 d.1) (persistent st.advert.pre) m.0 m.1 in
      let p : i.prev ≡ (deposit s.hash st (q.0.0) (q.0.1)).outpoint = sym r.2 ∙ ap (λ (y : TxIn). y.prev) m.2 ∙ ap (λ (y : Spent). y.outpoint) q.2 in
      let t = bound_one k st c q.0 (persistent_deposit st.advert.pre q.0 q.1) p in
      ap (λ o. list_any (is_bound_to w k a n) (persistent (pre_of o))) (advert_of s w k st c)
      ∙ any_in (is_bound_to w k a n) (persistent st.advert.pre) q.0 q.1 t

  -- the transaction of a branch puts it
  pub branch_puts : (k : ℕ) (st : Instance) (q : List PathStep) (pos : Standing) (choice : Contract) (j : ℕ) (b : term.Guarded)
      → compiled_instance s w k ≡ Some st → position_at s.hash st q ≡ Some (pos, choice) → slice_get (branches choice) j ≡ Some b
      → bare tx ≡ bare (tx_of (branch_unsigned s.hash st pos j b)) → takes_put s w k (Some b) a n ≡ true
  branch_puts k st q pos choice j b c stands there e = by_place m.1
    where
      r : (x : TxIn) × Is_in x (map input_of (pos.output ∷ put_deposits s.hash st (puts_of (core b)))) × (x.prev ≡ i.prev)
      r = bare_in tx.inputs (map input_of (pos.output ∷ put_deposits s.hash st (puts_of (core b)))) i (ap (λ (x : Tx). x.inputs) e) here

      m : (x : Spent) × Is_in x (pos.output ∷ put_deposits s.hash st (puts_of (core b))) × (r.0 ≡ input_of x)
      m = in_map input_of (pos.output ∷ put_deposits s.hash st (puts_of (core b))) r.0 r.1

      at_place : i.prev ≡ m.0.outpoint
      at_place = sym r.2 ∙ ap (λ (y : TxIn). y.prev) m.2

      by_place : Is_in m.0 (pos.output ∷ put_deposits s.hash st (puts_of (core b))) → takes_put s w k (Some b) a n ≡ true
      by_place (inl f) =
          let x = kept.placed k st q pos choice n sp.output c stands sp.there (sym sp.outpoint ∙ at_place ∙ ap (λ (y : Spent). y.outpoint) f) in
          let y : (let o : Option ContractPosition = None in o) ≡ Some (record { contract = k; position = q }) = sym free ∙ x in
          cc
      by_place (inr f) =
          let u = in_map (λ name. deposit s.hash st name (holding_or_none (look_up name (volatile st.advert.pre)))) (puts_of (core b)) m.0 f in
          let name = u.0 in
          let known = all_in (λ x. is_among x (names_of (volatile st.advert.pre))) (puts_of (core b)) name
          (puts_known st.advert (compiled_checked s setup w k st c) q choice (term_choice s.hash st q pos choice stands) j b there) u.1 in
          let h = volatile_named st.advert.pre name known in
          let p : i.prev ≡ (deposit s.hash st name h.0).outpoint =
          at_place ∙ ap (λ (y : Spent). y.outpoint) u.2 ∙ ap (λ o. (deposit s.hash st name (holding_or_none o)).outpoint) h.1 in
          let t = bound_one k st c (name, h.0) h.2 p in
          let v : is_put_of w k a n name (look_up name (volatile (pre_at s k))) ≡ true =
          ap (λ o. is_put_of w k a n name (look_up name (volatile (pre_of o)))) (advert_of s w k st c) ∙ ap (is_put_of w k a n name) h.1 ∙ t in
          any_in (λ x. is_put_of w k a n x (look_up x (volatile (pre_at s k)))) (puts_of (core b)) name u.1 v

  -- it is the compiled transaction of its path
  path_is : (k : ℕ) (st : Instance) (q : List PathStep) (pos : Standing) (choice : Contract) (j : ℕ) (b : term.Guarded)
      → compiled_instance s w k ≡ Some st → position_at s.hash st q ≡ Some (pos, choice) → slice_get (branches choice) j ≡ Some b
      → bare tx ≡ bare (tx_of (branch_unsigned s.hash st pos j b)) → is_of_path s tx (q ++ To j ∷ []) (compiled_instance s w k) ≡ true
  path_is k st q pos choice j b c stands there e =
      ap (is_of_path s tx (q ++ To j ∷ [])) c ∙ ap (is_but_for_witnesses tx) (unsigned_of_branch s.hash st q pos choice j b stands there)
      ∙ same_from tx (tx_of (branch_unsigned s.hash st pos j b)) e

  -- ---- who has signed

  -- what its input signs
  abbrev signs : List ℕ
  signs = digest s.hash tx i (party_script s.hash a) sp.output.value

  heard : HeardInput s w hs tx all i sp.output.value
  heard = heard_input s w hs tx all i n (λ t l. all_strings_of s w tx i t here l) sp

  both : (script_of i.witness ≡ party_script s.hash a) × (has_signed w.book (deposit_key s.hash a) signs ≡ true)
  both = deposit_signed s setup.hash g w kept fit check hs clear_hs sub tx fits
      (scripts_none s setup.hash g w kept fit check hs clear_hs sub tx fits spent acc all)
      (lists s setup.hash g w kept fit check hs clear_hs sub tx fits spent acc all) n i sp heard.script a declared paid

  digest_heard : HeardDigest s hs tx i (party_script s.hash a) sp.output.value
  digest_heard = record {
    first = subst (λ y. is_among (preimage s.hash tx i y sp.output.value) hs ≡ true) both.0 heard.signed;
    second = subst (λ y. is_among (s.hash (preimage s.hash tx i y sp.output.value)) hs ≡ true) both.0 heard.signed_hash;
  }

  place : IsPlace i.prev
  place = subst IsPlace (sym sp.outpoint) (kept.placed_fine n sp.output sp.there)

  module _ (honest : is_honest s a ≡ true) where
    -- which transaction its party has signed
    pub data Took : Type 0 where
      put_took : (h : Needed s w a signs) → bare tx ≡ bare (tx_of (branch_unsigned s.hash h.instance h.here h.index h.branch))
          → was_done (is_endorse h.contract a) before ≡ true → Took
      start_took : (h : Started s g w a signs) → bare tx ≡ bare (tx_of (initial_unsigned s.hash h.instance))
          → was_done (is_init h.contract a) before ≡ true → Took

    pub took : Took
    took = by_leave (leave.leave a signs declared honest both.1)
      where
        none : NoScripts tx.inputs
        none = scripts_none s setup.hash g w kept fit check hs clear_hs sub tx fits spent acc all

        heard_lists : HeardLists s.hash hs tx
        heard_lists = lists s setup.hash g w kept fit check hs clear_hs sub tx fits spent acc all

        by_leave : Leave s before g w a signs → Took
        by_leave (by_gift h dead) =
            let same = same_gift s setup.hash g w kept fit check hs clear_hs sub tx fits none heard_lists a signs i
            (party_script s.hash a) sp.output.value place digest_heard h refl in
            let r = place_in tx.inputs h.tx.inputs i same.places here in
            let d = dead_in w h.tx.inputs r.0 dead r.1 in
            absurd (not_dead s setup.hash g w kept fit check hs clear_hs sub tx fits spent acc all i d.number d.output here d.there (d.outpoint ∙ r.2) d.dead)
        by_leave (by_endorsement h was) =
            put_took h (same_put s setup.hash g w kept fit check hs clear_hs sub tx fits none heard_lists a signs i (party_script s.hash a)
            sp.output.value place digest_heard refl h) was
        by_leave (by_start h was) = start_took h
            (same_start s setup.hash g w kept fit check hs clear_hs sub tx fits none heard_lists a signs i (party_script s.hash a)
            sp.output.value place digest_heard refl h) was

    -- ---- what it is

    abbrev fst : First s setup.hash g w kept fit check hs clear_hs sub tx fits spent acc all
    fst = first s setup.hash g w kept fit check hs clear_hs sub tx fits spent acc all

    -- a branch's transaction takes a branch
    pub put_kind : (h : Needed s w a signs) → bare tx ≡ bare (tx_of (branch_unsigned s.hash h.instance h.here h.index h.branch))
        → (t : Taking s setup.hash setup.few_contracts g w kept fit check hs clear_hs sub tx fits spent acc all
        (record { contract = h.contract; position = h.position }))
        × (kind_of s w tx spent ≡ Takes (record { contract = h.contract; position = h.position }) fst.number t.index)
    put_kind h e =
        let held : ContractPosition = record { contract = h.contract; position = h.position } in
        let q = branch_first s setup.hash g w kept fit
        check hs clear_hs sub tx fits spent acc all h.contract h.instance h.position h.here h.choice h.index h.branch h.compiled h.stands e in
        let i0 : initial_of s w tx ≡ None = by_initial (initial_of s w tx) refl q in (
          first_taking s setup.hash setup.few_contracts g w kept fit check hs clear_hs sub tx fits spent acc all held q,
          kind_taken s
              setup.hash setup.few_contracts g w kept fit check hs clear_hs sub tx fits spent acc all held q i0,
        )
      where
        by_initial : (o : Option ℕ) → initial_of s w tx ≡ o → fst.spends.output.holds
            ≡ Some (record { contract = h.contract; position = h.position }) → o ≡ None
        by_initial None x q = refl
        by_initial (Some k) x q =
            let is = initial_is s w tx k x in
            let y = sym (initial_first s setup.hash g w kept fit check hs clear_hs sub tx fits spent acc all k is.instance is.compiled is.is) ∙ q in
            cc

    -- an initial transaction begins its contract
    pub start_kind : (h : Started s g w a signs) → bare tx ≡ bare (tx_of (initial_unsigned s.hash h.instance)) → kind_of s w tx spent ≡ Begins h.contract
    start_kind h e = by_initial (initial_of s w tx) refl
      where
        by_initial : (o : Option ℕ) → initial_of s w tx ≡ o → kind_of s w tx spent ≡ Begins h.contract
        by_initial None x = absurd (not_initial s w tx h.contract h.instance x h.compiled e)
        by_initial (Some k) x =
            let is = initial_is s w tx k x in
            let same = one_initial s setup.hash setup.few_contracts
            w check w.hashed clear kept.heard k h.contract is.instance h.instance is.compiled h.compiled (sym is.is ∙ e) in
            ap (λ o. kind_by s tx spent o (first_position w spent)) x ∙ ap Begins same

    -- the party has given its leave before
    pub taken_with_leave : by_contract s w before a n tx (kind_of s w tx spent) ≡ true
    taken_with_leave = by_took took
      where
        by_took : Took → by_contract s w before a n tx (kind_of s w tx spent) ≡ true
        by_took (put_took h e was) =
            let k = put_kind h e in
            let t = k.0 in
            let held : ContractPosition = record { contract = h.contract; position = h.position } in
            let b = looked_branch s w held fst.spends.output t.fine t.index t.branch t.there in
            let puts = branch_puts h.contract t.fine.instance
            h.position t.fine.here t.fine.choice t.index t.branch t.fine.compiled t.fine.stands t.there t.is in
            let is = path_is h.contract t.fine.instance h.position t.fine.here t.fine.choice t.index t.branch t.fine.compiled t.fine.stands t.there t.is in
            ap (by_contract s w before a n tx) k.1 ∙ and_from _ _ (and_from _ _ is (ap (λ o. takes_put s w h.contract o a n) b ∙ puts)) was
        by_took (start_took h e was) =
            let is = ap (is_initial s tx) h.compiled ∙ same_from tx (tx_of (initial_unsigned s.hash h.instance)) e in
            ap (by_contract s w before a n tx) (start_kind h e) ∙ and_from _ _ (and_from _ _ is (begun_takes h.contract h.instance h.compiled e)) was
