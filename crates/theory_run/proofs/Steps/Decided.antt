-- All steps of an accepted transaction that takes a branch are legal, and money agrees after them.
use Rattle.std.proofs.Common.{◌≡◌, ℕ, ◌≤◌, List, [], ◌∷◌, ◌++◌, length, map, Bool, true, not, Some, refl, sym, ap, ◌∙◌, subst}
use Rattle.std.specs.Prelude.{◌==◌, slice_get}
use Rattle.spec_data.specs.Lists.{is_among}
use Rattle.spec_terms.specs.Term as term
use Rattle.spec_terms.specs.Term.{Contract, branches, auth, after, put_reveal, withdraw, split}
use Rattle.spec_terms.specs.Core.{core, reveals_of, test_of}
use Rattle.spec_terms.specs.Value.{holds}
use Rattle.spec_terms.specs.Advert.{Advert}
use Rattle.spec_terms.specs.Parties.{participants}
use Rattle.spec_terms.specs.declared.path.PathStep.TheVariants.{Branch as To}
use Rattle.spec_bitcoin.specs.declared.tx.Tx.{Tx}
use Rattle.spec_bitcoin.specs.Digests.{txid}
use Rattle.spec_calculus.specs.Configuration.{Configuration}
use Rattle.spec_calculus.specs.Steps.{after_steps as reached, Legal}
use Rattle.spec_compiler.specs.Instance.{Instance, branch_path}
use Rattle.spec_compiler.specs.Scripts.{digest_of}
use Rattle.spec_compiler.specs.Statements.{Opens, are_secrets, secret_lengths as shown_lengths}
use Rattle.spec_compiler.specs.Transactions.{core_outputs}
use Rattle.spec_run.specs.Setup.{Setup, people_at}
use Rattle.spec_run.specs.World.{ContractPosition, World, digests_at, have_promised}
use Rattle.spec_run.specs.Conditions.{HashesBytes}
use Rattle.spec_run.specs.Ledger.{spend_from, made_from, core_holds, position_branch}
use Rattle.spec_run.specs.Steps.{branch_steps}
use Rattle.theory_script.proofs.Checked.{puts_known, reveals_known}
use Rattle.theory_world.specs.Transactions.{IsNumbered}
use Rattle.theory_world.specs.KeptApart.{NoCollision}
use Rattle.theory_world.proofs.Hashed.{among_left, among_right}
use Rattle.theory_run.specs.Tracks.{AgreeOnMoney, Constant}
use Rattle.theory_run.specs.KeptSecrets.{KeptSecrets}
use Rattle.theory_run.proofs.Facts.KeptSecrets.{Begins}
use Rattle.theory_world.proofs.Ledger.Accepting.{Accepting, HeardAll}
use Rattle.theory_world.proofs.Later.{compiled_is}
use Rattle.theory_world.proofs.Contracts.Standing.{term_choice}
use Rattle.theory_run.specs.KeptBook.{KeptBook}
use Rattle.theory_run.proofs.Accepted.Spending.{TransactionsFit, Checked}
use Rattle.theory_run.proofs.Accepted.WhatItIs.{First, first}
use Rattle.theory_run.proofs.Accepted.WhatItMakes.{Taking}
use Rattle.theory_run.proofs.Steps.Beginnings.{StepFrame}
use Rattle.theory_run.proofs.Steps.Branching.{IsTested, legal_put, legal_withdraw, legal_split, frame_put, frame_withdraw, frame_split, agree_put, agree_withdraw, agree_split}
use Rattle.theory_run.specs.KeptPromises.{PromisesNamed}
use Rattle.theory_run.proofs.Accepted.Tested.{all_revealed}

module _ (s : Setup) (size : HashesBytes s.hash) (few_contracts : length s.contracts ≤ 16) (g : Configuration) (w : World)
    (kept : KeptBook s g w) (fit : TransactionsFit s w) (check : Checked s w) (hs : List (List ℕ)) (clear : NoCollision s.hash hs)
    (sub : (t : List ℕ) → is_among t w.hashed ≡ true → is_among t hs ≡ true)
    (tx : Tx) (fits : IsNumbered tx) (spent : List ℕ) (acc : Accepting s w tx spent) (all : HeardAll s w hs tx) where
  abbrev fst : First s size g w kept fit check hs clear sub tx fits spent acc all
  fst = first s size g w kept fit check hs clear sub tx fits spent acc all

  module _ (h : ContractPosition) (t : Taking s size few_contracts g w kept fit check hs clear sub tx fits spent acc all h)
      (c : Configuration) (con : Constant s c) (money : AgreeOnMoney s c w) (advertised : c.advertised ≡ w.advertised) where
    abbrev Tests : Type 0
    Tests = IsTested s size few_contracts g w kept fit check hs clear sub tx fits spent acc all h t c con money advertised

    -- what a witness that opens the position shows, where what it shows is posted
    pub tested_by : (z : List (List ℕ)) (next : World) → KeptSecrets s z c next → Begins z next.posted → PromisesNamed s next.promises
        → next.promises ≡ w.promises
        → (valid : List ℕ → List ℕ → Bool) (stack : List (List ℕ)) (op : Opens s.hash valid t.fine.instance h.position t.fine.choice stack) → op.b ≡ t.branch
        → ((u : List ℕ) → is_among u stack ≡ true → is_among u next.posted ≡ true)
        → IsTested s size few_contracts g w kept fit check hs clear sub tx fits spent acc all h t c con money advertised
    tested_by z next secrets begins named promises valid stack op same posts =
        let st = t.fine.instance in
        let ci = compiled_is s w h.contract st t.fine.compiled in
        let ad = st.advert in
        let there : slice_get s.contracts h.contract ≡ Some ad = ci.there ∙ ap (λ (y : Instance). Some y.advert) (sym ci.is) in
        let well = check.checked h.contract st t.fine.compiled in
        let promised : have_promised next h.contract (participants ad) ≡ true =
        subst (λ (y : Instance). have_promised next h.contract (participants y.advert) ≡ true) (sym ci.is) (have_same promises ci.advert ci.promised) in
        let root = term_choice s.hash st h.position t.fine.here t.fine.choice t.fine.stands in
        let hashes : st.hashes ≡ digests_at next.promises h.contract =
        ap (λ (y : Instance). y.hashes) ci.is ∙ ap (λ ps. digests_at ps h.contract) (sym promises) in
        let f : are_secrets s.hash op.strings (map (digest_of (digests_at next.promises h.contract)) (reveals_of (core t.branch))) ≡ true =
        subst (λ b. are_secrets s.hash op.strings (map (digest_of (digests_at next.promises h.contract)) (reveals_of (core b))) ≡ true) same
        (subst (λ ds. are_secrets s.hash op.strings (map (digest_of ds) (reveals_of (core op.b))) ≡ true) hashes op.fits) in
        let on_stack : (u : List ℕ) → is_among u op.strings ≡ true → is_among u next.posted ≡ true =
        λ u k. posts u (ap (is_among u) op.is_stack ∙ among_right u op.selectors (op.strings ++ op.signatures) (among_left u op.strings op.signatures k)) in
        let r = all_revealed s z c next secrets begins named h.contract ad there well promised
        (reveals_of (core t.branch)) op.strings (reveals_known ad well h.position t.fine.choice root t.index t.branch t.there) f on_stack in
        let p = op.predicate in
        record {
          puts_known = puts_known ad well h.position t.fine.choice root t.index t.branch t.there;
          revealed = r.0;
          test = ap (λ ls. holds ls (test_of (core t.branch))) r.1
              ∙ subst (λ b. holds (shown_lengths (reveals_of (core b)) op.strings) (test_of (core b)) ≡ true) same p;
        }
      where
        have_same : next.promises ≡ w.promises → (a : Advert) → have_promised w h.contract (participants a) ≡ true
            → have_promised next h.contract (participants a) ≡ true
        have_same e a k = subst (λ ps. have_promised (record next { promises = ps }) h.contract (participants a) ≡ true) (sym e) k

    -- a core is a put or reveal, a payment or a division
    no_core : (x : term.Guarded) → core t.branch ≡ x
        → core_outputs s.hash t.fine.instance (branch_path t.fine.here.position t.index) t.fine.here.output.value x ≡ [] → ⊥
    no_core x e n =
        let o : tx.outputs ≡ [] =
        ap (λ (y : Tx). y.outputs) t.is
        ∙ ap (core_outputs s.hash t.fine.instance (branch_path t.fine.here.position t.index) t.fine.here.output.value) e ∙ n in
        let m : not true ≡ true = subst (λ os. not (length os == 0) ≡ true) o acc.makes in
        cc

    -- the steps are legal, the parts of the configuration are left as they were or grow, and money agrees
    pub record BranchTaken : Type 0 where
      pub legal : Legal c (branch_steps c (people_at s h.contract) fst.number t.index (position_branch s h t.index))
      pub frame : StepFrame c (reached c (branch_steps c (people_at s h.contract) fst.number t.index (position_branch s h t.index)))
      pub agrees : (next : World) → next.tip ≡ w.tip → next.outputs ≡ spend_from 0 spent w.outputs
          ++ made_from (λ m. core_holds h.contract (h.position ++ To t.index ∷ []) (core t.branch) m) (txid s.hash tx) 0 tx.outputs
          → AgreeOnMoney s (reached c (branch_steps c (people_at s h.contract) fst.number t.index (position_branch s h t.index))) next

    pub branch_taken : IsTested s size few_contracts g w kept fit check hs clear sub tx fits spent acc all h t c con money advertised → BranchTaken
    branch_taken tested = by_core (core t.branch) refl
      where
        by_core : (x : term.Guarded) → core t.branch ≡ x → BranchTaken
        by_core (put_reveal puts reveals test nx) e = record {
          legal = legal_put s size few_contracts g w kept fit check hs clear sub tx fits spent acc all h t c con money advertised puts reveals test nx e tested;
          frame = frame_put s size few_contracts g w kept fit check hs clear sub tx fits spent acc all h t c con money advertised puts reveals test nx e tested;
          agrees =
              agree_put s size few_contracts g w kept fit check hs clear sub tx fits spent acc all h t c con money advertised puts reveals test nx e tested;
        }
        by_core (withdraw p) e = record {
          legal = legal_withdraw s size few_contracts g w kept fit check hs clear sub tx fits spent acc all h t c con money advertised p e;
          frame = frame_withdraw s size few_contracts g w kept fit check hs clear sub tx fits spent acc all h t c con money advertised p e;
          agrees = agree_withdraw s size few_contracts g w kept fit check hs clear sub tx fits spent acc all h t c con money advertised p e;
        }
        by_core (split ps) e = record {
          legal = legal_split s size few_contracts g w kept fit check hs clear sub tx fits spent acc all h t c con money advertised ps e;
          frame = frame_split s size few_contracts g w kept fit check hs clear sub tx fits spent acc all h t c con money advertised ps e;
          agrees = agree_split s size few_contracts g w kept fit check hs clear sub tx fits spent acc all h t c con money advertised ps e;
        }
        by_core (auth party body) e = absurd (no_core (auth party body) e refl)
        by_core (after height body) e = absurd (no_core (after height body) e refl)
