-- The checks of inputs that keys sign, and that wallets sign, accept a transaction whose inputs open what is live, and whose wallets' witnesses consensus takes.
use Rattle.std.proofs.Common.{◌≡◌, ℕ, zero, suc, ◌+◌, ◌<◌, ◌≤◌, List, [], ◌∷◌, length, map, Bool, true, false, not, Option, Some, None}
use Rattle.std.proofs.Common.{refl, sym, ap, ◌∙◌, subst, arith, inl, inr}
use Rattle.std.specs.Prelude.{◌==◌, ◌&&◌, ◌||◌, is_some, nat_lt, slice_get, sum_by}
use Rattle.std.specs.List.{list_all, list_any, position_from}
use Rattle.std.specs.Option.{option_map, option_map_or, option_and_then}
use Rattle.std.specs.Str.{bytes_eq}
use Rattle.std.proofs.lemmas.Bool.{and_from, eq-eqb, ne_eqb}
use Rattle.std.proofs.lemmas.List.Sums.{sum_by-cons}
use Rattle.spec_data.specs.Hashes.{IsHash}
use Rattle.spec_data.specs.Lists.{first_reason, or_else}
use Rattle.spec_data.specs.Ranges.{max_money, last_height}
use Rattle.spec_bitcoin.specs.declared.tx.TxIn.{TxIn}
use Rattle.spec_bitcoin.specs.declared.tx.TxOut.{TxOut}
use Rattle.spec_bitcoin.specs.declared.tx.Tx.{Tx}
use Rattle.spec_bitcoin.specs.declared.verdict.Refusal.TheVariants.{NotFinal}
use Rattle.spec_bitcoin.specs.declared.verdict.Verdict.TheVariants.{Refused}
use Rattle.spec_bitcoin.specs.Live.{Entry, Chain, at_place}
use Rattle.spec_bitcoin.specs.Meaning.{script_meaning}
use Rattle.spec_bitcoin.specs.Spelling.{is_filled}
use Rattle.spec_bitcoin.specs.Verdict.{has_repeat, first_missing, total_of, spent_value, spent_total, heeds_lock, is_not_final}
use Rattle.spec_bitcoin.specs.Verdict.{whole_row, pays_to_script, program_of, script_of, items_of, verdict_for}
use Rattle.spec_compiler.specs.declared.unsigned.Spent.{Spent}
use Rattle.spec_compiler.specs.declared.unsigned.Unsigned.{Unsigned}
use Rattle.spec_compiler.specs.Keyed.Statements.{is_short}
use Rattle.spec_compiler.specs.Keyed.Transactions.{input_of, tx_of, pays}
use Rattle.spec_run.specs.Firing.{witnessed, with_witnesses}
use Rattle.spec_deal.specs.declared.signed.Signed.{Signed}
use Rattle.spec_deal.specs.declared.transaction.Wallet.{Wallet}
use Rattle.spec_deal.specs.Wallets.{spent_output}
use Rattle.theory_calculus.proofs.Names.{bytes_refl}
use Rattle.theory_world.proofs.Ledger.Acceptable.{none_reason}
use Rattle.theory_deal.specs.Finished.{Oracle, InputOpens, InputsOpen}
use Rattle.theory_deal.specs.Accepted.{judged_row, output_at, Consensus, spent_outputs, InputCheck, wallet_row, row_by, input_by, inputs_by}
use Rattle.theory_deal.specs.Accepted.{verdict_of, AllLive, accepted_on}
use Rattle.theory_deal.proofs.Ledger.ShortItems.{KeysShort}
use Rattle.theory_deal.proofs.Ledger.Verdicts.{IsWhole, no_long, open_filled, as_they_are, same_repeat, heeds, many, not_less, is_less, by_tests}

-- what lies where the inputs from number k on spend is the plan's
abbrev pub LieBy : (List ℕ → List ℕ) → List Entry → (ℕ → Option Wallet) → ℕ → List Spent → Type 0
LieBy hash live wallet k [] = Unit {0}
LieBy hash live wallet k (x ∷ xs) =
    (output_at live x.outpoint ≡ Some (spent_output hash (wallet k) x)) × LieBy hash live wallet (k + 1) xs

pub they_lie : (hash : List ℕ → List ℕ) (live : List Entry) (wallet : ℕ → Option Wallet) (k : ℕ) (xs : List Spent)
    → ((j : ℕ) (x : Spent) → slice_get xs j ≡ Some x → output_at live x.outpoint ≡ Some (spent_output hash (wallet (k + j)) x))
    → LieBy hash live wallet k xs
they_lie hash live wallet k [] h = tt
they_lie hash live wallet k (x ∷ xs) h =
    let z : k + 0 ≡ k = omega arith in (
      subst (λ (n : ℕ). output_at live x.outpoint ≡ Some (spent_output hash (wallet n) x)) z (h 0 x refl),
      they_lie hash live wallet (k + 1) xs
          (λ j y e.
          let n : k + suc j ≡ k + 1 + j = omega arith in
          subst (λ (m : ℕ). output_at live y.outpoint ≡ Some (spent_output hash (wallet m) y)) n (h (suc j) y e)),
    )

pub all_lie : (hash : List ℕ → List ℕ) (live : List Entry) (wallet : ℕ → Option Wallet) (xs : List Spent) → AllLive hash live wallet xs
    → LieBy hash live wallet 0 xs
all_lie hash live wallet xs h =
    they_lie hash live wallet 0 xs
    (λ j x e.
    let z : j ≡ 0 + j = omega arith in
    subst (λ (n : ℕ). output_at live x.outpoint ≡ Some (spent_output hash (wallet n) x)) z (h j x e))

-- the value is the plan's in both cases
same_value : (hash : List ℕ → List ℕ) (o : Option Wallet) (x : Spent) → (spent_output hash o x).value ≡ x.value
same_value hash None x = refl
same_value hash (Some w) x = refl

module _ (hash : List ℕ → List ℕ) (live : List Entry) where
  -- the entry of what lies there
  pub record LiesBy (o : Option Wallet) (x : Spent) : Type 0 where
    pub number : ℕ
    pub entry : at_place live x.outpoint ≡ Some (number, spent_output hash o x)

  pub lies_by : (o : Option Wallet) (x : Spent) → output_at live x.outpoint ≡ Some (spent_output hash o x) → LiesBy o x
  lies_by o x h = by_entry (at_place live x.outpoint) refl h
    where
      by_entry : (q : Option (ℕ × TxOut)) → at_place live x.outpoint ≡ q → option_map (λ (p : ℕ × TxOut). p.1) q ≡ Some (spent_output hash o x)
          → LiesBy o x
      by_entry None e k = cc
      by_entry (Some p) e k =
          let same : p.1 ≡ spent_output hash o x = cc in
          record { number = p.0; entry = e ∙ (λ i. Some (p.0, same i)) }

  pub worth_by : (o : Option Wallet) (x : Spent) (i : TxIn) → i.prev ≡ x.outpoint → LiesBy o x → spent_value live i ≡ x.value
  worth_by o x i e l =
      ap (λ place. option_map_or (λ (p : ℕ × TxOut). p.1.value) (at_place live place) 0) e
      ∙ ap (λ (q : Option (ℕ × TxOut)). option_map_or (λ p. p.1.value) q 0) l.entry
      ∙ same_value hash o x

  module _ (wallet : ℕ → Option Wallet) where
    none_missing : (n k : ℕ) (xs : List Spent) (ws : List (List (List ℕ))) → LieBy hash live wallet k xs
        → position_from (λ i. not (is_some (at_place live i.prev))) n (witnessed (map input_of xs) ws) ≡ None
    none_missing n k [] ws h = refl
    none_missing n k (x ∷ xs) [] h =
        let l = lies_by (wallet k) x h.0 in
        let later = subst (λ (is : List TxIn). position_from (λ i. not (is_some (at_place live i.prev))) (n + 1) is ≡ None)
        (as_they_are (map input_of xs)) (none_missing (n + 1) (k + 1) xs [] h.1) in
        rw l.entry later
    none_missing n k (x ∷ xs) (w ∷ ws) h = let l = lies_by (wallet k) x h.0 in rw l.entry (none_missing (n + 1) (k + 1) xs ws h.1)

    spent_worth : (k : ℕ) (xs : List Spent) (ws : List (List (List ℕ))) → LieBy hash live wallet k xs
        → spent_total live (witnessed (map input_of xs) ws) ≡ sum_by (λ (y : Spent). y.value) xs
    spent_worth k [] ws h = refl
    spent_worth k (x ∷ xs) [] h =
        let one = worth_by (wallet k) x (input_of x) refl (lies_by (wallet k) x h.0) in
        let later = ap (spent_total live) (sym (as_they_are (map input_of xs))) ∙ spent_worth (k + 1) xs [] h.1 in
        sum_by-cons (spent_value live) (input_of x) (map input_of xs)
        ∙ (λ i. one i + later i) ∙ sym (sum_by-cons (λ (y : Spent). y.value) x xs)
    spent_worth k (x ∷ xs) (w ∷ ws) h =
        let first = record (input_of x) { witness = w } in
        let one = worth_by (wallet k) x first refl (lies_by (wallet k) x h.0) in
        let later = spent_worth (k + 1) xs ws h.1 in
        sum_by-cons (spent_value live) first (witnessed (map input_of xs) ws)
        ∙ (λ i. one i + later i) ∙ sym (sum_by-cons (λ (y : Spent). y.value) x xs)

    -- ---- inputs

    module _ (size : IsHash hash) (oracle : Oracle) (takes : Consensus) (given : List Signed) (bytes : List ℕ) (tx : Tx) where
      abbrev input_check : InputCheck
      input_check = record { oracle = oracle; takes = takes; of_wallet = λ k. is_some (wallet k) }

      -- an input that keys of the deal sign
      key_fine : (k : ℕ) (x : Spent) (witness : List (List ℕ)) → LiesBy None x → script_of witness ≡ x.script
          → script_meaning hash (oracle k) x.script (items_of witness) ≡ true → list_all is_short (items_of witness) ≡ true
          → option_and_then (λ p. first_reason (row_by hash input_check live tx false k (record (input_of x) { witness = witness }) p.1))
          (at_place live x.outpoint)
          ≡ None
      key_fine k x witness l script opens short =
          let i = record (input_of x) { witness = witness } in
          let output = pays hash x.script x.value in
          let program : pays_to_script output.script ≡ true = eq-eqb (length (hash x.script)) 32 (size x.script) in
          let filled = open_filled hash (oracle k) x.script witness script opens in
          let both : (pays_to_script output.script && is_filled witness) ≡ true = and_from _ _ program filled in
          let match : bytes_eq (hash (script_of witness)) (program_of output.script) ≡ true =
          ap (λ (s : List ℕ). bytes_eq (hash s) (hash x.script)) script ∙ bytes_refl (hash x.script) in
          let true_one : script_meaning hash (oracle k) (script_of witness) (items_of witness) ≡ true =
          ap (λ (s : List ℕ). script_meaning hash (oracle k) s (items_of witness)) script ∙ opens in
          ap (option_and_then (λ p. first_reason (row_by hash input_check live tx false k i p.1))) l.entry
          ∙ none_reason (judged_row hash oracle k i output)
          (refl, (ap not both, (ap not match, (no_long (items_of witness) short, (ap not true_one, tt)))))

      -- one that a wallet signs
      wallet_fine : (k : ℕ) (x : Spent) (witness : List (List ℕ)) (w : Wallet) → LiesBy (Some w) x
          → takes tx (spent_outputs live tx) k ≡ true
          → option_and_then (λ p. first_reason (row_by hash input_check live tx true k (record (input_of x) { witness = witness }) p.1))
          (at_place live x.outpoint)
          ≡ None
      wallet_fine k x witness w l taken =
          let i = record (input_of x) { witness = witness } in
          ap (option_and_then (λ p. first_reason (row_by hash input_check live tx true k i p.1))) l.entry
          ∙ none_reason (wallet_row (takes tx (spent_outputs live tx) k) k i) (refl, (ap not taken, tt))

      one_fine : (k : ℕ) (x : Spent) (witness : List (List ℕ)) → output_at live x.outpoint ≡ Some (spent_output hash (wallet k) x)
          → InputOpens hash oracle given bytes k (wallet k) x witness → (wallet k ≡ None → list_all is_short (items_of witness) ≡ true)
          → ((w : Wallet) → wallet k ≡ Some w → takes tx (spent_outputs live tx) k ≡ true)
          → input_by hash input_check live tx k (record (input_of x) { witness = witness }) ≡ None
      one_fine k x witness lie opens short taken = by_wallet (wallet k) refl lie opens
        where
          by_wallet : (o : Option Wallet) → wallet k ≡ o → output_at live x.outpoint ≡ Some (spent_output hash o x)
              → InputOpens hash oracle given bytes k o x witness
              → option_and_then (λ p. first_reason (row_by hash input_check live tx (is_some o) k (record (input_of x) { witness = witness }) p.1))
              (at_place live x.outpoint)
              ≡ None
          by_wallet None e h o = key_fine k x witness (lies_by None x h) o.0 o.1 (short e)
          by_wallet (Some w) e h o = wallet_fine k x witness w (lies_by (Some w) x h) (taken w e)

      pub inputs_fine : ((k : ℕ) (w : Wallet) → wallet k ≡ Some w → takes tx (spent_outputs live tx) k ≡ true) → (k : ℕ) (xs : List Spent)
          (ws : List (List (List ℕ))) → LieBy hash live wallet k xs → InputsOpen hash oracle given bytes wallet k xs ws → KeysShort wallet k ws
          → inputs_by hash input_check live tx k (witnessed (map input_of xs) ws) ≡ None
      inputs_fine taken k [] [] h o s = refl
      inputs_fine taken k [] (w ∷ ws) h o s = absurd o
      inputs_fine taken k (x ∷ xs) [] h o s = absurd o
      inputs_fine taken k (x ∷ xs) (w ∷ ws) h o s =
          let one = one_fine k x w h.0 o.0 s.0 (taken k) in
          let later = inputs_fine taken (k + 1) xs ws h.1 o.1 s.1 in
          (λ j. or_else (one j) (inputs_by hash input_check live tx (k + 1) (witnessed (map input_of xs) ws))) ∙ later

-- ---- the whole

module _ (hash : List ℕ → List ℕ) (input_check : InputCheck) (wallet : ℕ → Option Wallet) (chain : Chain) (d : Unsigned) (ws : List (List (List ℕ)))
    (w : IsWhole d) (live : AllLive hash chain.live wallet d.spends) where
  there : LieBy hash chain.live wallet 0 d.spends
  there = all_lie hash chain.live wallet d.spends live

  abbrev is : List TxIn
  is = witnessed (map input_of d.spends) ws

  some_input : (length is == 0) ≡ false
  some_input = let n = many d.spends ws in ne_eqb (length is) 0 (λ e. let z = w.funded.some in omega (arith, n, z, e))

  some_output : (length d.outputs == 0) ≡ false
  some_output = ne_eqb (length d.outputs) 0 (λ e. let z = w.funded.makes in omega (arith, z, e))

  none_twice : has_repeat is ≡ false
  none_twice = same_repeat (map input_of d.spends) ws ∙ w.apart

  all_there : is_some (first_missing chain.live is) ≡ false
  all_there = ap is_some (none_missing hash chain.live wallet 0 0 d.spends ws there)

  not_much : nat_lt max_money (total_of d.outputs) ≡ false
  not_much = not_less max_money (total_of d.outputs) w.funded.money

  paid : nat_lt (spent_total chain.live is) (total_of d.outputs) ≡ false
  paid =
      let t = spent_worth hash chain.live wallet 0 d.spends ws there in
      let e = w.funded.enough in
      not_less (spent_total chain.live is) (total_of d.outputs) (omega (arith, t, e))

  -- from the lock on, the verdict accepts what no input refuses
  pub accepts_fine : d.lock ≤ chain.tip → inputs_by hash input_check chain.live (with_witnesses (tx_of d) ws) 0 is ≡ None
      → verdict_of hash input_check chain (with_witnesses (tx_of d) ws) ≡ accepted_on chain (with_witnesses (tx_of d) ws)
  accepts_fine reached fine =
      let tx = with_witnesses (tx_of d) ws in
      let final : is_not_final chain.tip tx ≡ false =
      by_tests (heeds_lock is) (not (d.lock == 0)) (nat_lt chain.tip d.lock) (nat_lt last_height d.lock)
      (not_less chain.tip d.lock reached) (not_less last_height d.lock w.funded.height) in
      let whole = none_reason (whole_row chain.tip chain.live tx)
      (some_input, (some_output, (none_twice, (all_there, (not_much, (paid, (final, tt))))))) in
      ap (verdict_for chain tx) ((λ j. or_else (whole j) (inputs_by hash input_check chain.live tx 0 is)) ∙ fine)

  -- before it, it is refused for its lock
  pub refused_early : chain.tip < d.lock → verdict_of hash input_check chain (with_witnesses (tx_of d) ws) ≡ Refused NotFinal
  refused_early early =
      let tx = with_witnesses (tx_of d) ws in
      let locked : not (d.lock == 0) ≡ true = ap not (ne_eqb d.lock 0 (λ e. omega (arith, early, e))) in
      let less = is_less chain.tip d.lock early in
      let binds = heeds d.spends ws w.funded.some in
      let bound : is_not_final chain.tip tx ≡ true = rw (binds, locked, less) refl in
      let row : first_reason (whole_row chain.tip chain.live tx) ≡ Some NotFinal =
      rw (some_input, some_output, none_twice, all_there, not_much, paid, bound) refl in
      ap (λ r. verdict_for chain tx (or_else r (inputs_by hash input_check chain.live tx 0 is))) row
