-- Whatever an accepted transaction is to the contracts, its steps are legal, and money agrees after them.
use Rattle.std.proofs.Common.{◌≡◌, ℕ, suc, ◌+◌, ◌≤◌, List, [], ◌∷◌, ◌++◌, length, map, reverse, Bool, true, not, Option, Some, None, refl, sym, ap, ◌∙◌, subst, arith, inl, inr}
use Rattle.std.specs.Prelude.{◌==◌, slice_get, nat_le}
use Rattle.std.specs.List.{list_all, flat_map, sum_by}
use Rattle.std.specs.Option.{is_none}
use Rattle.std.proofs.lemmas.Bool.{and_from, ne_eqb}
use Rattle.std.proofs.lemmas.Bool.Decides.{nat_tests}
use Rattle.std.proofs.lemmas.List.Sums.{sum_by-cons}
use Rattle.spec_data.specs.Lists.{is_among}
use Rattle.spec_bitcoin.specs.declared.tx.TxIn.{TxIn}
use Rattle.spec_bitcoin.specs.declared.tx.Tx.{Tx}
use Rattle.spec_bitcoin.specs.Digests.{txid, digest}
use Rattle.spec_bitcoin.specs.Keys.{is_valid}
use Rattle.spec_bitcoin.specs.Verdict as verdict
use Rattle.spec_bitcoin.specs.Verdict.{total_of}
use Rattle.spec_calculus.specs.Configuration.{Configuration}
use Rattle.spec_calculus.specs.Steps.{after_steps, Legal}
use Rattle.spec_compiler.specs.Statements.{Opens}
use Rattle.spec_run.specs.Setup.{Setup}
use Rattle.spec_run.specs.World.{ContractPosition, World, is_deposit, output_at}
use Rattle.spec_run.specs.Owners.{deposit_value}
use Rattle.spec_run.specs.Conditions.{HashesBytes}
use Rattle.spec_run.specs.Ledger.{spend_from, made_from, branch_holds, position_path, items_of, initial_of, first_position, Kind, Begins, Takes, Moves, kind_by, kind_of, new_position}
use Rattle.spec_run.specs.Steps.{kind_steps}
use Rattle.theory_calculus.specs.Members.{Is_in}
use Rattle.theory_world.specs.Transactions.{IsNumbered}
use Rattle.theory_world.proofs.Ledger.Found.{values_at, value_or_zero}
use Rattle.theory_world.specs.KeptApart.{NoCollision}
use Rattle.theory_run.specs.Tracks.{AgreeOnMoney, Constant}
use Rattle.theory_run.proofs.Steps.Moved.{CanMove, legal_move, ends-move, agree_move}
use Rattle.theory_run.specs.KeptSecrets.{KeptSecrets, committed_by}
use Rattle.theory_run.proofs.Facts.KeptSecrets.{Begins as BeginsWith}
use Rattle.theory_world.proofs.Ledger.Accepting.{Accepting, AllSpent, IsSpent, HeardAll, first_strings}
use Rattle.theory_run.specs.KeptBook.{KeptBook}
use Rattle.theory_run.proofs.Accepted.Spending.{TransactionsFit, Checked}
use Rattle.theory_run.proofs.Accepted.WhatItIs.{First, first, first_holds, held_is_first, initial_is}
use Rattle.theory_run.proofs.Accepted.WhatItMakes.{Taking}
use Rattle.theory_run.proofs.Accepted.Kinded.{looked_branch, first_taken, first_taking, kind_taken}
use Rattle.theory_run.proofs.Steps.Beginnings.{StepFrame, legal_begin, frame_begin, agree_begin}
use Rattle.theory_run.specs.KeptPromises.{PromisesNamed}
use Rattle.theory_run.proofs.Accepted.Tested.{among_stack}
use Rattle.theory_run.proofs.Steps.Decided.{tested_by, branch_taken}

le_test : (a b : ℕ) → a ≤ b → nat_le a b ≡ true
le_test a b h = grind (arith, nat_tests, h)

module _ (s : Setup) (size : HashesBytes s.hash) (few_contracts : length s.contracts ≤ 16) (g : Configuration) (w : World)
    (kept : KeptBook s g w) (fit : TransactionsFit s w) (check : Checked s w) (hs : List (List ℕ)) (clear : NoCollision s.hash hs)
    (sub : (t : List ℕ) → is_among t w.hashed ≡ true → is_among t hs ≡ true)
    (tx : Tx) (fits : IsNumbered tx) (spent : List ℕ) (acc : Accepting s w tx spent) (all : HeardAll s w hs tx) where
  abbrev fst : First s size g w kept fit check hs clear sub tx fits spent acc all
  fst = first s size g w kept fit check hs clear sub tx fits spent acc all

  -- ---- moves

  -- where the first input holds nothing, none does
  none_held : first_position w spent ≡ None → (i : TxIn) (n : ℕ) (sp : IsSpent s w tx n i) → Is_in i tx.inputs → sp.output.holds ≡ None
  none_held e i n sp here = by_held sp.output.holds refl
    where
      by_held : (o : Option ContractPosition) → sp.output.holds ≡ o → o ≡ None
      by_held None q = refl
      by_held (Some h) q = let f = held_is_first s size g w kept fit check hs clear sub tx fits spent acc all i n sp h here q in cc

  all_live : first_position w spent ≡ None → (ns : List ℕ) (is : List TxIn) → AllSpent s w tx ns is
      → ((i : TxIn) → Is_in i is → Is_in i tx.inputs) → (list_all (λ n. is_deposit (output_at w n)) ns ≡ true)
      × (sum_by (λ n. deposit_value (output_at w n)) ns ≡ values_at w.outputs ns)
  all_live e [] [] a h = (refl, refl)
  all_live e [] (i ∷ is) a h = absurd a
  all_live e (n ∷ ns) [] a h = absurd a
  all_live e (n ∷ ns) (i ∷ is) a h =
      let sp = a.0 in
      let free = none_held e i n sp (h i (inl refl)) in
      let d : is_deposit (Some sp.output) ≡ true = and_from _ _ sp.live (ap is_none free) in
      let ih = all_live e ns is a.1 (λ j k. h j (inr k)) in
      let v : deposit_value (output_at w n) ≡ value_or_zero (slice_get w.outputs n) = ap deposit_value sp.there ∙ rw d refl ∙ ap value_or_zero (sym sp.there) in
      let r = ih.1 in
      (and_from _ _ (ap is_deposit sp.there ∙ d) ih.0, sum_by-cons (λ m. deposit_value (output_at w m)) n ns ∙ (λ j. v j + r j))

  -- ---- the branch that is taken

  -- the first witness opens it
  pub record HasOpened (h : ContractPosition) (t : Taking s size few_contracts g w kept fit check hs clear sub tx fits spent acc all h) : Type 0 where
    pub valid : List ℕ → List ℕ → Bool
    pub opens : Opens s.hash valid t.fine.instance h.position t.fine.choice (reverse (verdict.items_of fst.input.witness))
    pub same : opens.b ≡ t.branch

  pub has_opened : (h : ContractPosition) (e : fst.spends.output.holds ≡ Some h)
      → HasOpened h (first_taking s size few_contracts g w kept fit check hs clear sub tx fits spent acc all h e)
  unfolding first_taking
  has_opened h e =
      let hf = kept.held fst.number fst.spends.output h fst.spends.there e in
      let k = first_taken s size few_contracts g w kept fit check hs clear sub tx fits spent acc all h hf in
      record { valid = is_valid w.book (digest s.hash tx fst.input hf.here.output.script fst.spends.output.value); opens = k.opened; same = refl }

  module _ (c : Configuration) (con : Constant s c) (money : AgreeOnMoney s c w) (advertised : c.advertised ≡ w.advertised) where
    can_move : first_position w spent ≡ None → CanMove s c w money tx spent
    can_move e =
        let l = all_live e spent tx.inputs acc.spends (λ i h. h) in
        record {
          some = ap (λ ns. not (length ns == 0)) fst.spent_is ∙ ap not (ne_eqb (suc (length fst.numbers)) 0 (λ q. omega (arith, q)));
          different = acc.distinct;
          live = l.0;
          pays = acc.makes;
          enough = le_test (total_of tx.outputs) (sum_by (λ n. deposit_value (output_at w n)) spent)
              (subst (λ x. total_of tx.outputs ≤ x) (sym l.1) acc.balance.enough);
        }

    -- ---- all kinds

    -- the steps of a kind are legal, leave the rest or make it grow, and money agrees after them
    pub record IsLawful (k : Kind) : Type 0 where
      pub legal : Legal c (kind_steps s c w tx spent k)
      pub frame : StepFrame c (after_steps c (kind_steps s c w tx spent k))
      pub agrees : (next : World) → next.tip ≡ w.tip → next.outputs ≡ spend_from 0 spent w.outputs
          ++ made_from (new_position s k) (txid s.hash tx) 0 tx.outputs → AgreeOnMoney s (after_steps c (kind_steps s c w tx spent k)) next

    lawful_move : first_position w spent ≡ None → IsLawful Moves
    lawful_move e =
        let can = can_move e in
        record {
          legal = legal_move s c w money tx spent can;
          frame = subst (StepFrame c) (sym (ends-move s c w money tx spent can)) (record {
            advertised = refl;
            committed = refl;
            revealed = refl;
            parties = refl;
            honest = refl;
            contracts = refl;
            inits = λ k x h. h;
            asked = λ n i a h. h;
          });
          agrees = λ next tips outs. agree_move s c w money tx spent can next tips outs;
        }

    module _ (z : List (List ℕ)) (after_it : World) (secrets : KeptSecrets s z c after_it) (begins : BeginsWith z after_it.posted)
        (named : PromisesNamed s after_it.promises) (promises : after_it.promises ≡ w.promises)
        (posts : (u : List ℕ) → is_among u (items_of tx) ≡ true → is_among u after_it.posted ≡ true) where
      committed : c.committed ≡ map (committed_by s z) w.promises
      committed = secrets.lengths ∙ ap (map (committed_by s z)) promises

      lawful_begin : (k : ℕ) → initial_of s w tx ≡ Some k → IsLawful (Begins k)
      lawful_begin k e =
          let is = initial_is s w tx k e in
          record {
            legal = legal_begin s g w kept check tx spent acc z c con money advertised committed k is;
            frame = frame_begin s g w kept check tx spent acc z c con money advertised committed k is;
            agrees = λ next tips outs. agree_begin s g w kept check tx spent acc z c con money advertised committed k is next tips outs;
          }

      lawful_branch : (h : ContractPosition) (e : fst.spends.output.holds ≡ Some h)
          → (let t = first_taking s size few_contracts g w kept fit check hs clear sub tx fits spent acc all h e in IsLawful (Takes h fst.number t.index))
      lawful_branch h e =
          let t = first_taking s size few_contracts g w kept fit check hs clear sub tx fits spent acc all h e in
          let o = has_opened h e in
          let up : (u : List ℕ) → is_among u (reverse (verdict.items_of fst.input.witness)) ≡ true → is_among u after_it.posted ≡ true =
          λ u k. posts u (subst (λ xs. is_among u (flat_map (λ (i : TxIn). i.witness) xs) ≡ true)
          (sym fst.inputs_is) (first_strings (λ (i : TxIn). i.witness) fst.input fst.inputs u (among_stack u fst.input.witness k))) in
          let tested = tested_by s size few_contracts g w kept fit check hs clear sub tx fits spent acc all h t c con
          money advertised z after_it secrets begins named promises o.valid (reverse (verdict.items_of fst.input.witness)) o.opens o.same up in
          let b = branch_taken s size few_contracts g w kept fit check hs clear sub tx fits spent acc all h t c con money advertised tested in
          let l = looked_branch s w h fst.spends.output t.fine t.index t.branch t.there in
          record {
            legal = b.legal;
            frame = b.frame;
            agrees = λ next tips outs. b.agrees next tips
                (outs ∙ ap (λ x. spend_from 0 spent w.outputs
                ++ made_from (λ m. branch_holds h.contract (position_path h t.index) x m) (txid s.hash tx) 0 tx.outputs) l);
          }

      -- whatever it is
      pub lawful : IsLawful (kind_of s w tx spent)
      lawful = by_initial (initial_of s w tx) refl
        where
          by_held : initial_of s w tx ≡ None → (o : Option ContractPosition) → first_position w spent ≡ o → IsLawful (kind_of s w tx spent)
          by_held i None e = subst IsLawful (sym (λ j. kind_by s tx spent (i j) (e j))) (lawful_move e)
          by_held i (Some h) e =
              let q = sym (first_holds s size g w kept fit check hs clear sub tx fits spent acc all) ∙ e in
              subst IsLawful (sym (kind_taken s size few_contracts g w kept fit check hs clear sub tx fits spent acc all h q i)) (lawful_branch h q)

          by_initial : (o : Option ℕ) → initial_of s w tx ≡ o → IsLawful (kind_of s w tx spent)
          by_initial None i = by_held i (first_position w spent) refl
          by_initial (Some k) i = subst IsLawful (sym (ap (λ o. kind_by s tx spent o (first_position w spent)) i)) (lawful_begin k i)
