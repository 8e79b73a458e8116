-- What an accepted transaction is to the contracts is what it was compiled as, and every accepted transaction keeps what is kept.
use Rattle.std.proofs.Common.{◌≡◌, ℕ, ◌≤◌, ◌^◌, List, [], ◌∷◌, ◌++◌, length, drop, reverse, true, Option, Some, None, refl, sym, ap, ◌∙◌, subst, inl}
use Rattle.std.specs.Prelude.{slice_get}
use Rattle.std.proofs.lemmas.List.{reverse-append}
use Rattle.spec_data.specs.Lists.{is_among}
use Rattle.spec_terms.specs.Term as term
use Rattle.spec_terms.specs.Term.{Contract, branches, withdraw}
use Rattle.spec_terms.specs.Parties.{participants}
use Rattle.spec_terms.specs.declared.path.PathStep.TheVariants.{Branch as To}
use Rattle.spec_bitcoin.specs.declared.tx.Tx.{Tx}
use Rattle.spec_bitcoin.specs.Spelling.{is_filled, IsPlace}
use Rattle.spec_bitcoin.specs.Digests.{txid}
use Rattle.spec_bitcoin.specs.Verdict as verdict
use Rattle.spec_calculus.specs.Configuration.{Configuration}
use Rattle.spec_compiler.specs.Instance.{Instance}
use Rattle.spec_compiler.specs.Witness.{chosen, chosen_by}
use Rattle.spec_run.specs.Setup.{Setup, is_declared, contract_at}
use Rattle.spec_run.specs.World.{ContractPosition, Output, World, is_advertised}
use Rattle.spec_run.specs.Compiled.{compiled_instance}
use Rattle.spec_run.specs.Conditions.{HashesBytes}
use Rattle.spec_run.specs.Ledger.{spend_from, made_from, branch_holds, branch_in, position_branch, position_path, contract_in, count_of, branch_count, first_number, first_witness, initial_of, first_position, Kind, Begins, Takes, Moves, kind_by, kind_of, new_position}
use Rattle.theory_bitcoin.specs.Places.{AllPlaces}
use Rattle.theory_calculus.specs.Members.{Is_in}
use Rattle.theory_calculus.proofs.Names.{persistent_deposit}
use Rattle.theory_script.proofs.Scripts.Chosen.{opened_is_chosen}
use Rattle.theory_world.specs.Transactions.{IsNumbered}
use Rattle.theory_world.specs.KeptApart.{NoCollision}
use Rattle.theory_world.proofs.Ledger.Accepting.{Accepting, HeardAll, heard_input}
use Rattle.theory_world.proofs.Later.{compiled_is}
use Rattle.theory_world.proofs.Contracts.Standing.{term_choice, term_branches}
use Rattle.theory_world.proofs.Contracts.Mentions.{branch_named, payee_mentioned, has_deposit}
use Rattle.theory_run.specs.KeptBook.{KeptBook, HeldFine, HeardDigest}
use Rattle.theory_run.proofs.Facts.Kept.{Frame}
use Rattle.theory_run.proofs.Accepted.Spending.{TransactionsFit, Checked, IsTaken, taken}
use Rattle.theory_run.proofs.Accepted.Accept.{scripts_none, lists, all_strings_of}
use Rattle.theory_run.proofs.Accepted.WhatItIs.{First, first, first_holds, at_bound, initial_is}
use Rattle.theory_run.proofs.Accepted.WhatItMakes.{Taking, accept_move, accept_begin, accept_branch}

-- the items under a witness's script
last_item : (x : List ℕ) (xs : List (List ℕ)) → x ∷ xs ≡ verdict.items_of (x ∷ xs) ++ verdict.script_of (x ∷ xs) ∷ []
last_item x [] = refl
last_item x (y ∷ xs) = ap (λ ys. x ∷ ys) (last_item y xs)

pub under_script : (items : List (List ℕ)) → is_filled items ≡ true → drop 1 (reverse items) ≡ reverse (verdict.items_of items)
under_script [] h = cc
under_script (x ∷ xs) h =
    ap (λ ys. drop 1 (reverse ys)) (last_item x xs) ∙ ap (drop 1) (reverse-append (verdict.items_of (x ∷ xs)) (verdict.script_of (x ∷ xs) ∷ []))

-- each participant of a compiled contract has a declared name
pub participant_declared : (s : Setup) (g : Configuration) (w : World) → KeptBook s g w → Checked s w → (k : ℕ) (st : Instance)
    → compiled_instance s w k ≡ Some st → (a : List ℕ) → is_among a (participants st.advert) ≡ true → is_declared s a ≡ true
participant_declared s g w kept check k st c a h =
    let d = has_deposit st.advert a (check.checked k st c) h in
    let b = at_bound s g w kept k st c d.name d.holding (persistent_deposit st.advert.pre (d.name, d.holding) d.there) in
    subst (λ x. is_declared s x ≡ true) d.owner b.bound.declared

-- the choice at a position, and a branch there, as the ledger looks them up
module _ (s : Setup) (w : World) (h : ContractPosition) (o : Output) (hf : HeldFine s w o h) where
  contract_is : contract_at s h.contract ≡ Some hf.instance.advert
  contract_is = let ci = compiled_is s w h.contract hf.instance hf.compiled in ci.there ∙ ap (λ (y : Instance). Some y.advert) (sym ci.is)

  pub counted : branch_count s h ≡ length (branches hf.choice)
  counted = ap (λ a. count_of (contract_in a h.position)) contract_is ∙ ap count_of (term_choice s.hash hf.instance h.position hf.here hf.choice hf.stands)

  pub looked_branch : (i : ℕ) (b : term.Guarded) → slice_get (branches hf.choice) i ≡ Some b → position_branch s h i ≡ Some b
  looked_branch i b e = ap (λ a. branch_in a (position_path h i)) contract_is ∙ term_branches s.hash hf.instance h.position hf.here hf.choice i hf.stands ∙ e

module _ (s : Setup) (size : HashesBytes s.hash) (few_contracts : length s.contracts ≤ 16) (g : Configuration) (w : World)
    (kept : KeptBook s g w) (fit : TransactionsFit s w) (check : Checked s w) (hs : List (List ℕ)) (clear : NoCollision s.hash hs)
    (sub : (t : List ℕ) → is_among t w.hashed ≡ true → is_among t hs ≡ true)
    (tx : Tx) (fits : IsNumbered tx) (spent : List ℕ) (acc : Accepting s w tx spent) (all : HeardAll s w hs tx) where
  abbrev fst : First s size g w kept fit check hs clear sub tx fits spent acc all
  fst = first s size g w kept fit check hs clear sub tx fits spent acc all

  abbrev pub Taken : (h : ContractPosition) → HeldFine s w fst.spends.output h → Type 0
  Taken h hf = IsTaken s size g w kept fit check hs clear sub tx fits
      (scripts_none s size g w kept fit check hs clear sub tx fits spent acc all)
      (lists s size g w kept fit check hs clear sub tx fits spent acc all) fst.input fst.spends.output h hf

  -- the first input's branch, where it spends a contract output
  pub first_taken : (h : ContractPosition) (hf : HeldFine s w fst.spends.output h) → Taken h hf
  first_taken h hf =
      let here : Is_in fst.input tx.inputs = subst (Is_in fst.input) (sym fst.inputs_is) (inl refl) in
      let hi = heard_input s w hs tx all fst.input fst.number (λ t l. all_strings_of s w tx fst.input t here l) fst.spends in
      let hd : HeardDigest s hs tx fst.input (verdict.script_of fst.input.witness) fst.spends.output.value = record {
        first = hi.signed;
        second = hi.signed_hash;
      } in
      let p : IsPlace fst.input.prev = (subst AllPlaces fst.inputs_is fits.places).0 in
      taken s size g w kept fit check hs clear sub tx fits (scripts_none s size g w kept fit check hs clear sub tx fits spent acc all)
      (lists s size g w kept fit check hs clear sub tx fits spent acc all)
      fst.number fst.input fst.spends hi.script hd h hf p

  unfoldable pub first_taking : (h : ContractPosition) → fst.spends.output.holds ≡ Some h
      → Taking s size few_contracts g w kept fit check hs clear sub tx fits spent acc all h
  first_taking h e =
      let hf = kept.held fst.number fst.spends.output h fst.spends.there e in
      let t = first_taken h hf in
      record {
        holds = e;
        fine = hf;
        index = t.opened.i;
        branch = t.opened.b;
        there = t.opened.is_branch;
        is = t.is;
        payee = λ p c.
            let l = term_branches s.hash hf.instance h.position hf.here hf.choice t.opened.i hf.stands ∙ t.opened.is_branch in
            participant_declared s g w kept check h.contract hf.instance hf.compiled p
            (branch_named hf.instance.advert (h.position ++ To t.opened.i ∷ []) t.opened.b p l (payee_mentioned t.opened.b p c));
      }

  -- what it is, where its first witness opens a branch
  pub kind_opened : (h : ContractPosition) → fst.spends.output.holds ≡ Some h → initial_of s w tx ≡ None
      → (hf : HeldFine s w fst.spends.output h) (k : Taken h hf) → kind_of s w tx spent ≡ Takes h fst.number k.opened.i
  kind_opened h e i hf k =
      let f = first_holds s size g w kept fit check hs clear sub tx fits spent acc all ∙ e in
      let under = under_script fst.input.witness fst.spends.filled in
      let ch : chosen_by (branch_count s h) fst.input.witness ≡ k.opened.i =
      ap (λ n. chosen_by n fst.input.witness) (counted s w h fst.spends.output hf) ∙ ap (chosen (length (branches hf.choice))) under
      ∙ opened_is_chosen s.hash _ hf.instance h.position hf.choice (reverse (verdict.items_of fst.input.witness)) k.opened in
      (λ j. kind_by s tx spent (i j) (f j))
      ∙ (λ j. Takes h (first_number (fst.spent_is j)) (chosen_by (branch_count s h) (first_witness (fst.inputs_is j))))
      ∙ ap (Takes h fst.number) ch

  pub kind_taken : (h : ContractPosition) (e : fst.spends.output.holds ≡ Some h)
      → initial_of s w tx ≡ None → (let t = first_taking h e in kind_of s w tx spent ≡ Takes h fst.number t.index)
  unfolding first_taking
  kind_taken h e i = let hf = kept.held fst.number fst.spends.output h fst.spends.there e in kind_opened h e i hf (first_taken h hf)

  -- whatever it is, what is kept is kept
  pub accept_kept : (g' : Configuration) (next : World) → next.outputs ≡ spend_from 0 spent w.outputs
      ++ made_from (new_position s (kind_of s w tx spent)) (txid s.hash tx) 0 tx.outputs → Frame s g g' w next → next.hashed ≡ hs → length tx.outputs ≤ 2 ^ 32
      → ((k : ℕ) (st : Instance) → compiled_instance s next k ≡ Some st → compiled_instance s w k ≡ Some st)
      → ((k : ℕ) → is_advertised next k ≡ true → is_advertised w k ≡ true) → next.book ≡ w.book
      → KeptBook s g' next
  accept_kept g' next outs f hn few back adv book = by_initial (initial_of s w tx) refl
    where
      made : (k : Kind) (held : ℕ → Option ContractPosition) → kind_of s w tx spent ≡ k → new_position s k ≡ held → next.outputs
          ≡ spend_from 0 spent w.outputs ++ made_from held (txid s.hash tx) 0 tx.outputs
      made k held e n = outs ∙ ap (λ x. spend_from 0 spent w.outputs ++ made_from (new_position s x) (txid s.hash tx) 0 tx.outputs) e
          ∙ ap (λ x. spend_from 0 spent w.outputs ++ made_from x (txid s.hash tx) 0 tx.outputs) n

      by_held : initial_of s w tx ≡ None → (o : Option ContractPosition) → first_position w spent ≡ o → KeptBook s g' next
      by_held i None e =
          accept_move s size few_contracts g w kept fit check hs clear sub tx fits spent acc all g' next
          (made Moves _ (λ j. kind_by s tx spent (i j) (e j)) refl) f hn few back adv book i e
      by_held i (Some h) e =
          let q = sym (first_holds s size g w kept fit check hs clear sub tx fits spent acc all) ∙ e in
          let t = first_taking h q in
          let b = looked_branch s w h fst.spends.output t.fine t.index t.branch t.there in
          accept_branch s size few_contracts g w kept fit check hs clear sub tx fits spent acc all h t g' next i
          (made (Takes h fst.number t.index) _ (kind_taken h q i) (λ j m. branch_holds h.contract (position_path h t.index) (b j) m)) f hn few back adv book

      by_initial : (o : Option ℕ) → initial_of s w tx ≡ o → KeptBook s g' next
      by_initial None i = by_held i (first_position w spent) refl
      by_initial (Some k) i =
          accept_begin s size few_contracts g w kept fit check hs clear sub tx fits spent acc all k (initial_is s w tx k i) g' next
          (made (Begins k) _ (λ j. kind_by s tx spent (i j) (first_position w spent)) refl) f hn few back adv book
