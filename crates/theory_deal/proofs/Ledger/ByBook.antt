-- By the book of ideal signatures, the verdict by an oracle is that of the ledger.
use Rattle.std.proofs.Common.{◌≡◌, ℕ, ◌+◌, List, [], ◌∷◌, Option, Some, None, refl, ap, subst}
use Rattle.std.specs.Prelude.{slice_get, drop}
use Rattle.std.specs.Option.{option_map_or, option_and_then}
use Rattle.spec_data.specs.Lists.{first_reason, or_else}
use Rattle.spec_bitcoin.specs.declared.tx.TxIn.{TxIn}
use Rattle.spec_bitcoin.specs.declared.tx.TxOut.{TxOut}
use Rattle.spec_bitcoin.specs.declared.tx.Tx.{Tx}
use Rattle.spec_bitcoin.specs.Digests.{digest}
use Rattle.spec_bitcoin.specs.Keys.{Pair, is_valid}
use Rattle.spec_bitcoin.specs.Live.{Entry, at_place}
use Rattle.spec_bitcoin.specs.Verdict.{script_of, spent_value, whole_row, input_row, input_refusal, inputs_refusal, verdict_for}
use Rattle.theory_deal.specs.Accepted.{judged_row, judged_input, judged_inputs, digest_on, oracle_on, VerdictByBook}
use Rattle.theory_deal.proofs.Verified.{cut}

module _ (hash : List ℕ → List ℕ) (book : List Pair) (live : List Entry) (tx : Tx) where
  one_same : (k : ℕ) (i : TxIn) → slice_get tx.inputs k ≡ Some i
      → judged_input hash (oracle_on (is_valid book) hash live tx) live k i ≡ input_refusal hash book live tx k i
  one_same k i there = by_output (at_place live i.prev) refl
    where
      -- where the output has this value, the digests are the same
      by_output : (o : Option (ℕ × TxOut)) → at_place live i.prev ≡ o
          → option_and_then (λ p. first_reason (judged_row hash (oracle_on (is_valid book) hash live tx) k i p.1)) o
          ≡ option_and_then (λ p. first_reason (input_row hash book tx k i p.1)) o
      by_output None e = refl
      by_output (Some p) e =
          let found : digest_on hash live tx k ≡ digest hash tx i (script_of i.witness) (spent_value live i) =
          ap (λ (o : Option TxIn). option_map_or (λ input. digest hash tx input (script_of input.witness) (spent_value live input)) o []) there in
          let worth : spent_value live i ≡ p.1.value =
          ap (λ (o : Option (ℕ × TxOut)). option_map_or (λ q. q.1.value) o 0) e in
          let same : digest_on hash live tx k ≡ digest hash tx i (script_of i.witness) p.1.value =
          subst (λ (v : ℕ). digest_on hash live tx k ≡ digest hash tx i (script_of i.witness) v) worth found in
          ap (λ (d : List ℕ). first_reason (judged_row hash (λ n. is_valid book d) k i p.1)) same

  inputs_same : (k : ℕ) (is : List TxIn) → drop k tx.inputs ≡ is
      → judged_inputs hash (oracle_on (is_valid book) hash live tx) live k is ≡ inputs_refusal hash book live tx k is
  inputs_same k [] e = refl
  inputs_same k (i ∷ is) e =
      let r = cut tx.inputs k i is e in
      λ j. or_else (one_same k i r.0 j) (inputs_same (k + 1) is r.1 j)

pub verdict_by_book : VerdictByBook
verdict_by_book hash book chain tx =
    ap
    (λ r. verdict_for chain tx (or_else (first_reason (whole_row chain.tip chain.live tx)) r))
    (inputs_same hash book chain.live tx 0 tx.inputs refl)
