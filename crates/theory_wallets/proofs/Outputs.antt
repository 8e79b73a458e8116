-- What is shown of a transaction's outputs and inputs is so.
use Rattle.std.proofs.Common.{◌≡◌, ℕ, suc, ◌+◌, List, [], ◌∷◌, map, Bool, true, false, Option, Some, None, refl, sym, ap, subst, ◌∙◌, arith, inl, inr}
use Rattle.std.specs.Prelude.{slice_get, if◌then◌else◌}
use Rattle.std.specs.List.{Contains}
use Rattle.std.specs.Option.{option_map, option_and_then, option_map_or}
use Rattle.spec_terms.specs.Term as term
use Rattle.spec_terms.specs.Term.{Contract, Parts, no_part, part, parts_list, auth, after, put_reveal, withdraw, split}
use Rattle.spec_terms.specs.Core.{core}
use Rattle.spec_terms.specs.Paths as paths
use Rattle.spec_terms.specs.Paths.{Subterm, subterm_from, as_branch, at, path_eq}
use Rattle.spec_terms.specs.PathSameness.{path_eq-Decides}
use Rattle.spec_terms.specs.Precondition.{Holding, deposits}
use Rattle.spec_terms.specs.declared.path.PathStep.{PathStep}
use Rattle.spec_terms.specs.declared.path.PathStep.TheVariants.{Part as Into}
use Rattle.spec_bitcoin.specs.Keys.{pay_to}
use Rattle.spec_bitcoin.specs.declared.label.Label.{Label}
use Rattle.spec_bitcoin.specs.declared.tx.TxOut.{TxOut}
use Rattle.spec_compiler.specs.Keyed.ByPath.{PathEnd, at_position, at_branch, continued_end, part_end}
use Rattle.spec_compiler.specs.Keyed.ByPath.{end_at, next_end, as_position, as_unsigned, position_at, unsigned_at}
use Rattle.spec_compiler.specs.Keyed.Compilation.{path_transactions, scripts}
use Rattle.spec_compiler.specs.Keyed.Instance.{Instance, branch_path, position_script}
use Rattle.spec_compiler.specs.Keyed.Keys.{Keys, own_script}
use Rattle.spec_compiler.specs.Keyed.OwnScripts.{code_of}
use Rattle.spec_compiler.specs.Keyed.Transactions.{Standing, pays, payee_script, part_position, part_outputs, core_outputs}
use Rattle.spec_compiler.specs.Keyed.Transactions.{part_standing, root_standing, root_value, branch_unsigned, deposit, party_script}
use Rattle.spec_compiler.specs.declared.unsigned.Spent.{Spent}
use Rattle.spec_compiler.specs.declared.unsigned.Unsigned.{Unsigned}
use Rattle.spec_tool.specs.Keyed.Listed.{Listed, listed, path_listed, initial_listed}
use Rattle.spec_tool.specs.declared.which.Which.{Which}
use Rattle.spec_tool.specs.declared.which.Which.TheVariants as names
use Rattle.spec_deal.specs.Used.{paid_parties}
use Rattle.spec_deal.specs.Wallets.{input_wallet}
use Rattle.spec_deal.specs.declared.transaction.Wallet.{Wallet}
use Rattle.spec_show.specs.Made.{Made, goes_on, paid, parts_made, core_made, made_by}
use Rattle.spec_show.specs.ShownDeal.{input_data, output_data, outputs_data, inputs_data, listed_data, signer_data, deposit_with, deposit_data, payee_data}
use Rattle.theory_calculus.specs.Members.{Is_in}
use Rattle.theory_calculus.proofs.Members.{contains_from_in}
use Rattle.theory_script.specs.Keyed.Listed.{at_path}
use Rattle.theory_script.proofs.Keyed.OutputScripts.{scripts_are_listed}
use Rattle.theory_script.proofs.Keyed.Stands.{IfAgrees, agrees_at, end_from-step, some_same}
use Rattle.theory_script.proofs.Keyed.Transactions.{AreRight, transactions_right}
use Rattle.theory_wallets.specs.Shown.{AreShown, IsOutputShown, IsInputShown, IsTransactionShown, DealsAreShown}
use Rattle.theory_wallets.specs.Shown.{AreInputsShown, IsSignerShown, IsDepositBy, IsDepositShown, IsPayeeShown}

abbrev wallet_with : List ℕ → List ℕ → Wallet
wallet_with name script = record { deposit = name; script = script }

-- what a list has for a path stands in it
stands_in : {V : Type 0} (path : List PathStep) (es : List (List PathStep × V)) (v : V) → at_path path es ≡ Some v → Is_in (path, v) es
stands_in path [] v h = cc
stands_in {V} path (e ∷ es) v h = by_test (path_eq e.0 path) refl h (stands_in path es v)
  where
    here : (p : List PathStep) (w : V) → p ≡ path → w ≡ v → (let q : List PathStep × V = (path, v) in q) ≡ (p, w)
    here p w a b = cc

    by_test : (b : Bool) → path_eq e.0 path ≡ b → (if b then Some (e.1) else at_path path es) ≡ Some v
        → (at_path path es ≡ Some v → Is_in (path, v) es) → Is_in (path, v) (e ∷ es)
    by_test true same k ih = inl (here (e.0) (e.1) ((path_eq-Decides e.0 path).0 same) (some_same k))
    by_test false same k ih = inr (ih k)

module _ (hash : List ℕ → List ℕ) (keys : Keys) (s : Instance) where
  -- ---- positions

  -- the script of a position is among those of the contract
  abbrev Stands : List PathStep → List ℕ → Type 0
  Stands position script = Contains (scripts hash keys s) (position, script)

  stands_at : (position : List PathStep) (p : Standing × Contract) → position_at hash keys s position ≡ Some p
      → Stands position p.0.output.script
  stands_at position p h =
      let there = scripts_are_listed hash keys s position ∙ ap (option_map (λ (x : Standing × Contract). x.0.output.script)) h in
      contains_from_in (scripts hash keys s) (position, p.0.output.script)
      (stands_in position (scripts hash keys s) p.0.output.script there)

  -- ---- what each output is

  -- an output is what it is said to be
  abbrev Is : Made → TxOut → Type 0
  Is (goes_on position) output = (script : List ℕ) × Stands position script × (output.script ≡ pay_to (hash script))
  Is (paid party) output = output.script ≡ payee_script hash keys party

  abbrev AreMade : List Made → List TxOut → Type 0
  AreMade [] [] = Unit {0}
  AreMade [] (o ∷ os) = ⊥
  AreMade (m ∷ ms) [] = ⊥
  AreMade (m ∷ ms) (o ∷ os) = Is m o × AreMade ms os

  -- those of the parts from number k on, where each part's position has its script
  parts_are : (path : List PathStep) (k : ℕ) (ps : Parts)
      → ((j : ℕ) (p : ℕ × Contract) → slice_get (parts_list ps) j ≡ Some p
      → Stands (part_position path (k + j)) (position_script hash keys s (part_position path (k + j)) p.1))
      → AreMade (parts_made path k ps) (part_outputs hash keys s path k ps)
  parts_are path k no_part each = tt
  parts_are path k (part v c ps) each =
      let z : k + 0 ≡ k = omega arith in
      let first = subst (λ (n : ℕ). Stands (part_position path n) (position_script hash keys s (part_position path n) c)) z (each 0 (v, c) refl) in (
        (position_script hash keys s (part_position path k) c, first, refl),
        parts_are path (k + 1) ps (later v c),
      )
    where
      later : (v : ℕ) (c : Contract) (j : ℕ) (p : ℕ × Contract) → slice_get (parts_list ps) j ≡ Some p
          → Stands (part_position path (k + 1 + j)) (position_script hash keys s (part_position path (k + 1 + j)) p.1)
      later v c j p e =
          let z : k + suc j ≡ k + 1 + j = omega arith in
          subst (λ (n : ℕ). Stands (part_position path n) (position_script hash keys s (part_position path n) p.1)) z (each (suc j) p e)

  -- ---- the outputs of a branch

  module _ (path : List PathStep) (here : Standing) (i : ℕ) (b : term.Guarded) (is_end : end_at hash keys s path ≡ Some (at_branch here i b))
      (is_path : branch_path here.position i ≡ path) where
    next_position : (c : term.Guarded) (p : Standing × Contract) → core b ≡ c
        → as_position hash keys s (at_branch here i b) ≡ Some p → Stands path p.0.output.script
    next_position c p e h = stands_at path p (ap (option_and_then (as_position hash keys s)) is_end ∙ h)

    part_there : (ps : Parts) → core b ≡ split ps → (j : ℕ) (p : ℕ × Contract) → slice_get (parts_list ps) j ≡ Some p
        → Stands (part_position path j) (position_script hash keys s (part_position path j) p.1)
    part_there ps e j p h =
        let next = end_from-step hash keys s (at_position (root_standing hash keys s) s.advert.root) path (Into j)
        ∙ ap (option_and_then (next_end hash keys s (Into j))) is_end in
        let made = part_standing hash keys s (branch_path here.position i) (branch_unsigned hash keys s here i b) j p.0 p.1 in
        let one = ap (λ c. part_end hash keys s here i b j c) e
        ∙ ap (option_map (λ (x : ℕ × Contract). at_position (part_standing hash keys s (branch_path here.position i)
        (branch_unsigned hash keys s here i b) j x.0 x.1) x.1)) h in
        let found : position_at hash keys s (part_position path j) ≡ Some (made, p.1) =
        ap (option_and_then (as_position hash keys s)) (next ∙ one) in
        let at_old = stands_at (part_position path j) (made, p.1) found in
        subst (λ (q : List PathStep). Stands (part_position path j) (position_script hash keys s (part_position q j) p.1)) is_path at_old

    core_is : (c : term.Guarded) → core b ≡ c
        → AreMade (core_made path c) (core_outputs hash keys s (branch_path here.position i) here.output.value c)
    core_is (put_reveal puts reveals test next) e =
        let q = branch_path here.position i in
        let there = next_position (put_reveal puts reveals test next) _ e (ap (continued_end hash keys s here i b) e) in
        ((position_script hash keys s q next, there, refl), tt)
    core_is (withdraw party) e = (refl, tt)
    core_is (split ps) e =
        subst (λ (q : List PathStep). AreMade (parts_made path 0 ps) (part_outputs hash keys s q 0 ps)) (sym is_path)
        (parts_are path 0 ps (from_zero (part_there ps e)))
      where
        from_zero : ((j : ℕ) (p : ℕ × Contract) → slice_get (parts_list ps) j ≡ Some p
            → Stands (part_position path j) (position_script hash keys s (part_position path j) p.1))
            → (j : ℕ) (p : ℕ × Contract) → slice_get (parts_list ps) j ≡ Some p
            → Stands (part_position path (0 + j)) (position_script hash keys s (part_position path (0 + j)) p.1)
        from_zero each j p h =
            let z : j ≡ 0 + j = omega arith in
            subst (λ (n : ℕ). Stands (part_position path n) (position_script hash keys s (part_position path n) p.1)) z (each j p h)
    core_is (auth party body) e = tt
    core_is (after height body) e = tt

  -- ---- the outputs of each transaction

  abbrev IsOfBranch : List PathStep → Unsigned → Type 0
  IsOfBranch path d = AreMade (made_by s.advert (names.At path)) d.outputs

  by_end : (path : List PathStep) (d : Unsigned) (o : Option PathEnd) (u : Option Subterm)
      → end_at hash keys s path ≡ o → subterm_from (paths.position s.advert.root) path ≡ u → IfAgrees hash keys s path o u
      → option_and_then (as_unsigned hash keys s) o ≡ Some d → IsOfBranch path d
  by_end path d None u e f h k = cc
  by_end path d (Some p) None e f h k = absurd h
  by_end path d (Some (at_position here choice)) (Some q) e f h k = cc
  by_end path d (Some (at_branch here i b)) (Some (paths.position c)) e f h k = absurd h
  by_end path d (Some (at_branch here i b)) (Some (paths.at_branch g)) e f h k =
      let is_branch : at s.advert.root path ≡ Some b = ap (option_and_then as_branch) f ∙ ap Some (sym h.1) in
      let made = core_is path here i b e h.0 (core b) refl in
      let same : branch_unsigned hash keys s here i b ≡ d = some_same k in
      subst (λ (x : Unsigned). IsOfBranch path x) same
      (subst (λ (o : Option term.Guarded). AreMade (option_map_or (λ y. core_made path (core y)) o [])
      (branch_unsigned hash keys s here i b).outputs) (sym is_branch) made)

  of_path : (path : List PathStep) (d : Unsigned) → unsigned_at hash keys s path ≡ Some d → IsOfBranch path d
  of_path path d h =
      by_end path d (end_at hash keys s path) (subterm_from (paths.position s.advert.root) path) refl refl (agrees_at hash keys s path) h

  -- ---- what is shown

  module _ (network : Option (List ℕ)) where
    output_shown : (o : TxOut) (m : Made) → Is m o → IsOutputShown hash keys s o (output_data network o m)
    output_shown o (goes_on position) h = record {
      script = refl;
      value = refl;
      made = inl (record { position = position; script = h.0; stands = h.1; pays = h.2; named = refl; nobody = refl });
    }
    output_shown o (paid party) h = record {
      script = refl;
      value = refl;
      made = inr (record { party = party; pays = h; named = refl; nowhere = refl });
    }

    outputs_shown : (os : List TxOut) (ms : List Made) → AreMade ms os
        → AreShown (IsOutputShown hash keys s) os (outputs_data network os ms)
    outputs_shown [] [] h = tt
    outputs_shown [] (m ∷ ms) h = absurd h
    outputs_shown (o ∷ os) [] h = absurd h
    outputs_shown (o ∷ os) (m ∷ ms) h = (output_shown o m h.0, outputs_shown os ms h.1)

    signers_shown : (which : Which) (wallet : Option Wallet) (labels : List Label)
        → AreShown (IsSignerShown hash keys wallet) labels (map (signer_data hash keys s.advert which wallet) labels)
    signers_shown which wallet [] = tt
    signers_shown which None (label ∷ labels) = ((refl, refl), signers_shown which None labels)
    signers_shown which (Some w) (label ∷ labels) = ((refl, refl), signers_shown which (Some w) labels)

    input_shown : (which : Which) (k : ℕ) (spent : Spent) (labels : List Label)
        → IsInputShown hash keys s.advert which k spent labels (input_data hash keys s.advert which k spent labels)
    input_shown which k spent labels =
        let wallet = input_wallet keys s.advert which k in
        record {
          id = refl;
          vout = refl;
          value = refl;
          signers = map (signer_data hash keys s.advert which wallet) labels;
          is_signers = refl;
          each = signers_shown which wallet labels;
        }

    inputs_shown : (which : Which) (k : ℕ) (spends : List Spent) (signers : List (List Label))
        → AreInputsShown (IsInputShown hash keys s.advert which) k spends signers (inputs_data hash keys s.advert which k spends signers)
    inputs_shown which k [] signers = tt
    inputs_shown which k (spent ∷ spends) [] = (input_shown which k spent [], inputs_shown which (k + 1) spends [])
    inputs_shown which k (spent ∷ spends) (labels ∷ signers) = (input_shown which k spent labels, inputs_shown which (k + 1) spends signers)

    transaction_shown : (l : Listed) → AreMade (made_by s.advert l.which) l.pending.outputs
        → IsTransactionShown hash keys s l (listed_data hash network keys s.advert l)
    transaction_shown l h = record {
      name = refl;
      id = refl;
      lock = refl;
      made = outputs_data network l.pending.outputs (made_by s.advert l.which);
      is_made = refl;
      outputs = outputs_shown l.pending.outputs (made_by s.advert l.which) h;
      taken = inputs_data hash keys s.advert l.which 0 l.pending.spends l.signers;
      is_taken = refl;
      inputs = inputs_shown l.which 0 l.pending.spends l.signers;
    }

    paths_shown : (es : List (List PathStep × Unsigned)) → AreRight (unsigned_at hash keys s) es
        → AreShown (IsTransactionShown hash keys s) (map (λ p. path_listed s (p.0) (p.1)) es)
        (map (listed_data hash network keys s.advert) (map (λ p. path_listed s (p.0) (p.1)) es))
    paths_shown [] right = tt
    paths_shown (e ∷ es) right = (transaction_shown (path_listed s (e.0) (e.1)) (of_path (e.0) (e.1) right.0), paths_shown es right.1)

    init_is : AreMade (goes_on [] ∷ []) (pays hash (position_script hash keys s [] s.advert.root) (root_value s) ∷ [])
    init_is =
        let script = position_script hash keys s [] s.advert.root in
        ((script, contains_from_in (scripts hash keys s) ([], script) (inl refl), refl), tt)

    all_shown : AreShown (IsTransactionShown hash keys s) (listed hash keys s) (map (listed_data hash network keys s.advert) (listed hash keys s))
    all_shown = (
      transaction_shown (initial_listed hash keys s) init_is,
      paths_shown (path_transactions hash keys s) (transactions_right hash keys s),
    )

    -- ---- deposits and payouts

    deposit_shown : (d : List ℕ × Holding) → IsDepositShown hash keys d (deposit_data hash network keys s d)
    deposit_shown d = by_own (own_script keys (d.0))
      where
        by_own : (o : Option (List ℕ)) → IsDepositBy hash keys d o (deposit_with hash network (option_map (wallet_with (d.0)) o) d (record {
          outpoint = (deposit hash keys s (d.0) (d.1)).outpoint;
          script = option_map_or code_of o (party_script hash keys (d.1).owner);
          value = (d.1).value;
        }))
        by_own None = record { name = refl; owner = refl; value = refl; wallet = refl; script = refl }
        by_own (Some script) = record { name = refl; owner = refl; value = refl; wallet = refl; script = refl }

    deposits_shown : (ds : List (List ℕ × Holding)) → AreShown (IsDepositShown hash keys) ds (map (deposit_data hash network keys s) ds)
    deposits_shown [] = tt
    deposits_shown (d ∷ ds) = (deposit_shown d, deposits_shown ds)

    payees_shown : (ps : List (List ℕ)) → AreShown (IsPayeeShown hash keys) ps (map (payee_data hash network keys) ps)
    payees_shown [] = tt
    payees_shown (p ∷ ps) = (record { name = refl; script = refl }, payees_shown ps)

pub deals_are_shown : DealsAreShown
deals_are_shown hash network keys s = record {
  each = map (listed_data hash network keys s.advert) (listed hash keys s);
  is_each = refl;
  transactions = all_shown hash keys s network;
  brought = map (deposit_data hash network keys s) (deposits s.advert.pre);
  is_brought = refl;
  deposits = deposits_shown hash keys s network (deposits s.advert.pre);
  paid = map (payee_data hash network keys) (paid_parties s.advert);
  is_paid = refl;
  payees = payees_shown hash keys s network (paid_parties s.advert);
}
