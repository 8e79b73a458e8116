-- What is warned of, by what is known of the transactions, is what the definition says.
use Rattle.std.proofs.Common.{◌≡◌, ℕ, ◌+◌, ◌*◌, ◌/◌, List, [], ◌∷◌, ◌++◌, length, map, replicate, Bool, true, refl, sym, ap, ◌∙◌, arith, length-append}
use Rattle.std.specs.Prelude.{◌-◌, ◌||◌, if◌then◌else◌, nat_lt, codes}
use Rattle.std.specs.Fmt.{decimal}
use Rattle.std.specs.List.{flat_map}
use Rattle.std.proofs.lemmas.List.Concat.{flat_map-cons}
use Rattle.spec_terms.specs.Advert.{Advert}
use Rattle.spec_terms.specs.Parties.{participants}
use Rattle.spec_terms.specs.Precondition.{secrets, names_of}
use Rattle.spec_terms.specs.declared.path.PathStep.{PathStep}
use Rattle.spec_bitcoin.specs.declared.label.Label.{Label}
use Rattle.spec_bitcoin.specs.declared.tx.TxIn.{TxIn}
use Rattle.spec_bitcoin.specs.Spelling as spelling
use Rattle.spec_bitcoin.specs.Spelling.{is_marked, stripped, witness_bytes}
use Rattle.spec_compiler.specs.Keyed.Compilation.{scripts}
use Rattle.spec_compiler.specs.Keyed.Instance.{Instance}
use Rattle.spec_compiler.specs.Keyed.Keys.{Keys}
use Rattle.spec_compiler.specs.Keyed.Transactions.{input_of, tx_of}
use Rattle.spec_compiler.specs.declared.unsigned.Spent.{Spent}
use Rattle.spec_compiler.specs.Witness.{witness_of}
use Rattle.spec_run.specs.Firing.{witnessed}
use Rattle.spec_tool.specs.declared.which.Which.{Which}
use Rattle.spec_tool.specs.declared.which.Which.TheVariants as names
use Rattle.spec_tool.specs.Keyed.Listed.{Listed, listed, which_text}
use Rattle.spec_tool.specs.Weights.{last_branch, choices_at, reveal_count}
use Rattle.theory_weights.specs.Sizes.{marked_weight}
use Rattle.spec_deal.specs.declared.entry.Shown.{Shown}
use Rattle.spec_deal.specs.declared.transaction.Transaction.{Transaction}
use Rattle.spec_deal.specs.Transactions.{inputs, transaction, transactions}
use Rattle.spec_deal.specs.Wallets.{input_wallet}
use Rattle.spec_deal.specs.WarnText.{full_signature, most_relayed_item, full_witness, full_deposits, full_branch, full_witnesses, full_size, spent_value, paid_value, fee_of, if_warned, script_warnings, dust_warnings, transaction_warnings, secret_warnings, warnings, warn_text}
use Rattle.deal_warn.specs.Sized.{deposits_bytes, taken_bytes, witnesses_bytes, are_deposits_filled, is_any_filled, size_by}
use Rattle.deal_warn.specs.Warned.{spent_by, fee_by, transaction_warnings_by, warnings_by, text_of}
use Rattle.deal_warn.proofs.Lengths.{branch_sized, branch_filled, deposit_sized, deposit_filled}
use Rattle.deal_warn.proofs.Weighed.{weighs}

-- the bytes of the first witness and of the others
first_bytes : (spent : Spent) (spends : List Spent) (w : List (List ℕ)) (ws : List (List (List ℕ)))
    → length (spelling.witnesses_bytes (witnessed (map input_of (spent ∷ spends)) (w ∷ ws)))
    ≡ length (witness_bytes w) + length (spelling.witnesses_bytes (witnessed (map input_of spends) ws))
first_bytes spent spends w ws =
    let f : TxIn → List ℕ = λ i. witness_bytes i.witness in
    let rest = witnessed (map input_of spends) ws in
    let a = ap length (flat_map-cons f (record (input_of spent) { witness = w }) rest) in
    let b = length-append (witness_bytes w) (flat_map f rest) in
    omega (arith, a, b)

module _ (hash : List ℕ → List ℕ) (keys : Keys) (advert : Advert) (l : Listed) where
  -- ---- deposits

  deposits_sized : (k : ℕ) (spends : List Spent) (signers : List (List Label))
      → length (spelling.witnesses_bytes (witnessed (map input_of spends) (full_deposits keys advert l k spends)))
      ≡ deposits_bytes (inputs hash keys advert l k spends signers)
  deposits_sized k [] signers = refl
  deposits_sized k (spent ∷ spends) [] =
      first_bytes spent spends (full_witness (input_wallet keys advert l.which k) spent) (full_deposits keys advert l (k + 1) spends)
      ∙ λ j. deposit_sized (input_wallet keys advert l.which k) spent j + deposits_sized (k + 1) spends [] j
  deposits_sized k (spent ∷ spends) (labels ∷ signers) =
      first_bytes spent spends (full_witness (input_wallet keys advert l.which k) spent) (full_deposits keys advert l (k + 1) spends)
      ∙ λ j. deposit_sized (input_wallet keys advert l.which k) spent j + deposits_sized (k + 1) spends signers j

  deposits_filled : (k : ℕ) (spends : List Spent) (signers : List (List Label))
      → is_marked (witnessed (map input_of spends) (full_deposits keys advert l k spends))
      ≡ are_deposits_filled (inputs hash keys advert l k spends signers)
  deposits_filled k [] signers = refl
  deposits_filled k (spent ∷ spends) [] =
      λ j. deposit_filled (input_wallet keys advert l.which k) spent j || deposits_filled (k + 1) spends [] j
  deposits_filled k (spent ∷ spends) (labels ∷ signers) =
      λ j. deposit_filled (input_wallet keys advert l.which k) spent j || deposits_filled (k + 1) spends signers j

  -- ---- branches

  abbrev first_witness : List PathStep → Spent → List (List ℕ)
  first_witness path spent =
      witness_of (replicate (length (participants advert)) full_signature)
      (replicate (reveal_count advert path) (replicate most_relayed_item 0)) (last_branch path) (choices_at advert path) spent.script

  taken_first : (path : List PathStep) (spent : Spent) (spends : List Spent) (signers : List (List Label))
      → length (spelling.witnesses_bytes (witnessed (map input_of (spent ∷ spends)) (full_branch keys advert l path (spent ∷ spends))))
      ≡ length (witness_bytes (first_witness path spent)) + deposits_bytes (inputs hash keys advert l 1 spends signers)
  taken_first path spent spends signers =
      first_bytes spent spends (first_witness path spent) (full_deposits keys advert l 1 spends)
      ∙ ap (λ n. length (witness_bytes (first_witness path spent)) + n) (deposits_sized 1 spends signers)

  taken_sized : (path : List PathStep) (spends : List Spent) (signers : List (List Label))
      → length (spelling.witnesses_bytes (witnessed (map input_of spends) (full_branch keys advert l path spends)))
      ≡ taken_bytes advert path (inputs hash keys advert l 0 spends signers)
  taken_sized path [] signers = refl
  taken_sized path (spent ∷ spends) [] =
      taken_first path spent spends []
      ∙ ap (λ n. n + deposits_bytes (inputs hash keys advert l 1 spends []))
      (branch_sized (length (participants advert)) (reveal_count advert path) (last_branch path) (choices_at advert path) spent.script)
  taken_sized path (spent ∷ spends) (labels ∷ signers) =
      taken_first path spent spends signers
      ∙ ap (λ n. n + deposits_bytes (inputs hash keys advert l 1 spends signers))
      (branch_sized (length (participants advert)) (reveal_count advert path) (last_branch path) (choices_at advert path) spent.script)

  first_filled : (path : List PathStep) (spent : Spent) (rest : Bool) → (spelling.is_filled (first_witness path spent) || rest) ≡ true
  first_filled path spent rest =
      ap (λ b. b || rest)
      (branch_filled (replicate (length (participants advert)) full_signature)
      (replicate (reveal_count advert path) (replicate most_relayed_item 0)) (last_branch path) (choices_at advert path) spent.script)

  taken_filled : (path : List PathStep) (spends : List Spent) (signers : List (List Label))
      → is_marked (witnessed (map input_of spends) (full_branch keys advert l path spends))
      ≡ is_any_filled (names.At path) (inputs hash keys advert l 0 spends signers)
  taken_filled path [] signers = refl
  taken_filled path (spent ∷ spends) [] =
      first_filled path spent (is_marked (witnessed (map input_of spends) (full_deposits keys advert l 1 spends)))
  taken_filled path (spent ∷ spends) (labels ∷ signers) =
      first_filled path spent (is_marked (witnessed (map input_of spends) (full_deposits keys advert l 1 spends)))

  -- ---- transactions

  all_sized : (which : Which) (spends : List Spent) (signers : List (List Label)) → spends ≡ l.pending.spends
      → length (spelling.witnesses_bytes (witnessed (map input_of spends) (full_witnesses keys advert l which)))
      ≡ witnesses_bytes advert which (inputs hash keys advert l 0 spends signers)
  all_sized names.Init spends signers e =
      ap (λ xs. length (spelling.witnesses_bytes (witnessed (map input_of spends) (full_deposits keys advert l 0 xs)))) (sym e)
      ∙ deposits_sized 0 spends signers
  all_sized (names.At path) spends signers e =
      ap (λ xs. length (spelling.witnesses_bytes (witnessed (map input_of spends) (full_branch keys advert l path xs)))) (sym e)
      ∙ taken_sized path spends signers

  all_filled : (which : Which) (spends : List Spent) (signers : List (List Label)) → spends ≡ l.pending.spends
      → is_marked (witnessed (map input_of spends) (full_witnesses keys advert l which))
      ≡ is_any_filled which (inputs hash keys advert l 0 spends signers)
  all_filled names.Init spends signers e =
      ap (λ xs. is_marked (witnessed (map input_of spends) (full_deposits keys advert l 0 xs))) (sym e) ∙ deposits_filled 0 spends signers
  all_filled (names.At path) spends signers e =
      ap (λ xs. is_marked (witnessed (map input_of spends) (full_branch keys advert l path xs))) (sym e) ∙ taken_filled path spends signers

  pub size_told : size_by advert (transaction hash keys advert l) ≡ full_size keys advert l
  unfolding size_by
  size_told =
      let bare = length (stripped (tx_of l.pending)) in
      let sized = all_sized l.which l.pending.spends l.signers refl in
      let filled = all_filled l.which l.pending.spends l.signers refl in
      sym (ap (λ n. (n + 3) / 4)
      (weighs (tx_of l.pending) (full_witnesses keys advert l l.which)
      ∙ λ j. if filled j then marked_weight bare (sized j) else 4 * bare))

  spent_told : (k : ℕ) (spends : List Spent) (signers : List (List Label)) → spent_by (inputs hash keys advert l k spends signers) ≡ spent_value spends
  spent_told k [] signers = refl
  spent_told k (spent ∷ spends) [] = ap (λ n. spent.value + n) (spent_told (k + 1) spends [])
  spent_told k (spent ∷ spends) (labels ∷ signers) = ap (λ n. spent.value + n) (spent_told (k + 1) spends signers)

  pub fee_told : fee_by (transaction hash keys advert l) ≡ fee_of l
  unfolding fee_by
  fee_told = ap (λ n. n - paid_value l.pending.outputs) (spent_told 0 l.pending.spends l.signers)

  transaction_told : transaction_warnings_by advert (transaction hash keys advert l) ≡ transaction_warnings keys advert l
  transaction_told =
      λ j. dust_warnings l.which 0 l.pending.outputs
      ++ if_warned (nat_lt (fee_told j) (size_told j)) (codes "fee" ∷ which_text l.which ∷ decimal (fee_told j) ∷ decimal (size_told j) ∷ [])

module _ (hash : List ℕ → List ℕ) (keys : Keys) (s : Instance) (strings : List Shown) where
  transactions_told : (ls : List Listed) → flat_map (transaction_warnings_by s.advert) (map (transaction hash keys s.advert) ls)
      ≡ flat_map (transaction_warnings keys s.advert) ls
  transactions_told [] = refl
  transactions_told (l ∷ ls) = λ j. transaction_told hash keys s.advert l j ++ transactions_told ls j

  warnings_told : (advert : Advert) (ps : List (List PathStep × List ℕ)) (ts : List Transaction) → s.advert ≡ advert
      → ts ≡ transactions hash keys s → ps ≡ scripts hash keys s → warnings_by advert ps ts strings ≡ warnings hash keys s strings
  warnings_told advert ps ts same made told =
      let all : flat_map (transaction_warnings_by advert) ts ≡ flat_map (transaction_warnings keys s.advert) (listed hash keys s) =
      (λ j. flat_map (transaction_warnings_by (sym same j)) (made j)) ∙ transactions_told (listed hash keys s) in
      λ j. flat_map script_warnings (told j) ++ (all j ++ flat_map (secret_warnings strings) (names_of (secrets (sym same j).pre)))

  pub text_told : (advert : Advert) (ps : List (List PathStep × List ℕ)) (ts : List Transaction) → s.advert ≡ advert
      → ts ≡ transactions hash keys s → ps ≡ scripts hash keys s
      → text_of (warnings_by advert ps ts strings) ≡ warn_text hash keys s strings
  text_told advert ps ts same made told = ap text_of (warnings_told advert ps ts same made told)
