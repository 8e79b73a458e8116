-- The strings of a gift are those that are hashed for its digests.
use Rattle.std.proofs.Common.{◌≡◌, ℕ, zero, suc, ◌+◌, List, [], ◌∷◌, ◌++◌, map, Bool, true, false, Option, Some, None, refl, sym, ap, ◌∙◌, cond, inl, inr}
use Rattle.std.specs.Prelude.{slice_get, if◌then◌else◌}
use Rattle.std.specs.List.{flat_map}
use Rattle.std.specs.Option.{option_map_or, is_none}
use Rattle.std.proofs.lemmas.Bool.{and_parts}
use Rattle.std.proofs.lemmas.List.Concat.{flat_map-cons}
use Rattle.spec_data.specs.Lists.{first_reason, NoneTrue}
use Rattle.spec_data.proofs.ListLemmas.{no_reason-none_true}
use Rattle.spec_bitcoin.specs.declared.tx.TxOut.{TxOut}
use Rattle.spec_bitcoin.specs.declared.tx.Tx.{Tx}
use Rattle.spec_bitcoin.specs.Live.{same_outpoint, at_place}
use Rattle.spec_bitcoin.specs.Spelling.{stripped}
use Rattle.spec_bitcoin.specs.Digests.{places_list, sequences_list, outputs_list, double_strings, preimage}
use Rattle.spec_bitcoin.specs.Verdict.{spending_strings, input_strings, transaction_strings}
use Rattle.spec_run.specs.Setup.{Setup}
use Rattle.spec_run.specs.World.{Output, World}
use Rattle.spec_run.specs.Owners.{deposit_value}
use Rattle.spec_run.specs.Compiled.{outpoint_of}
use Rattle.spec_compiler.specs.Transactions.{party_script}
use Rattle.spec_run.specs.Ledger.{live_from, tx_out, strings_of as ledger_strings}
use Rattle.spec_run.specs.Giving.{give_row, unsigned_gift, given_pairs, gift}
use Rattle.theory_bitcoin.specs.Apart.{bare_input, bare}
use Rattle.theory_bitcoin.proofs.Apart.{stripped_bare}
use Rattle.theory_calculus.specs.Members.{Is_in}
use Rattle.theory_world.proofs.Same.{place-true, place_refl}
use Rattle.theory_world.proofs.Ledger.Found.{found}
use Rattle.theory_world.proofs.Ledger.Bare.{places-bare, sequences-bare, outputs-bare, same_preimage}
use Rattle.theory_run.proofs.Events.Given.{IsGiven, is_given}
use Rattle.bm_world_board.specs.declared.accounts.Account.{Account}
use Rattle.bm_world_board.specs.Accounts.{account_of}
use Rattle.bm_world_spend.specs.Gifts.{LieApart, input_of, strings_of, pair_of, signed_input, signed_tx, gift_strings, signed_world}

-- ---- a live output is found where it lies

something : (q : ℕ × TxOut) → Some q ≡ None → ⊥
something q e = cc

lies : (os : List Output) (k n : ℕ) (o : Output) → slice_get os n ≡ Some o → o.live ≡ true → at_place (live_from k os) o.outpoint ≡ None → ⊥
lies [] k n o h l none = cc
lies (x ∷ os) k zero o h l none =
    let same : x ≡ o = cc in
    let live : x.live ≡ true = ap (λ (y : Output). y.live) same ∙ l in
    let none' : at_place (live_from k (x ∷ os)) x.outpoint ≡ None = ap (λ (y : Output). at_place (live_from k (x ∷ os)) y.outpoint) same ∙ none in
    let found : at_place (live_from k (x ∷ os)) x.outpoint ≡ Some (k, tx_out x) = rw (live, place_refl x.outpoint) refl in
    something (k, tx_out x) (sym found ∙ none')
lies (x ∷ os) k (suc n) o h l none = by_live x.live (lies os (k + 1) n o h l) none
  where
    by_place : (b : Bool) → (at_place (live_from (k + 1) os) o.outpoint ≡ None → ⊥)
        → cond b (Some (k, tx_out x)) (at_place (live_from (k + 1) os) o.outpoint) ≡ None → ⊥
    by_place true later e = cc
    by_place false later e = later e

    by_live : (b : Bool) → (at_place (live_from (k + 1) os) o.outpoint ≡ None → ⊥)
        → at_place (if b then (x.outpoint, (k, tx_out x)) ∷ live_from (k + 1) os else live_from (k + 1) os) o.outpoint ≡ None → ⊥
    by_live true later e = by_place (same_outpoint o.outpoint x.outpoint) later e
    by_live false later e = later e

-- and it is that output, where all lie apart
at_outpoint : (w : World) → LieApart w → (n : ℕ) (o : Output) → slice_get w.outputs n ≡ Some o → o.live ≡ true
    → (k : ℕ) × (at_place (live_from 0 w.outputs) o.outpoint ≡ Some (k, tx_out o))
at_outpoint w apart n o h l = by_entry (at_place (live_from 0 w.outputs) o.outpoint) refl
  where
    by_entry : (r : Option (ℕ × TxOut)) → at_place (live_from 0 w.outputs) o.outpoint ≡ r
        → (k : ℕ) × (at_place (live_from 0 w.outputs) o.outpoint ≡ Some (k, tx_out o))
    by_entry None e = absurd (lies w.outputs 0 n o h l e)
    by_entry (Some q) e =
        let f = found w.outputs o.outpoint 0 q e in
        let m : n ≡ f.number = apart.apart n f.number o f.output h f.there (place-true o.outpoint f.output.outpoint f.here) in
        let there : (let r : Option Output = Some o in r) ≡ Some f.output = sym h ∙ ap (slice_get w.outputs) m ∙ f.there in
        let same : o ≡ f.output = cc in
        let is : q.1 ≡ tx_out o = f.same ∙ ap tx_out (sym same) in
        (q.0, e ∙ (λ i. Some (q.0, is i)))

module _ (hash : List ℕ → List ℕ) (w : World)
    (apart : LieApart w) (account : Account) (tx : Tx) (numbers : List ℕ) (inputs : tx.inputs ≡ map (input_of w.outputs) numbers) where
  abbrev signed : Tx
  signed = signed_tx hash w.outputs account tx numbers

  bare_inputs : (ns : List ℕ) → map bare_input (map (signed_input hash w.outputs account tx) ns) ≡ map bare_input (map (input_of w.outputs) ns)
  bare_inputs [] = refl
  bare_inputs (n ∷ ns) = ap (λ is. input_of w.outputs n ∷ is) (bare_inputs ns)

  same_bare : bare signed ≡ bare tx
  same_bare =
      let e : map bare_input (map (signed_input hash w.outputs account tx) numbers) ≡ map bare_input tx.inputs =
      bare_inputs numbers ∙ ap (map bare_input) (sym inputs) in
      λ i. record { version = tx.version; inputs = e i; outputs = tx.outputs; lock = tx.lock }

  -- what is hashed for the signed input is what was hashed for its digest
  input_strings-given : (n : ℕ) → IsGiven w n
      → input_strings hash (live_from 0 w.outputs) signed (signed_input hash w.outputs account tx n) ≡ strings_of hash w.outputs tx account.script n
  input_strings-given n g =
      let live : g.output.live ≡ true = (and_parts g.output.live (is_none g.output.holds) g.deposit).0 in
      let at = at_outpoint w apart n g.output g.there live in
      let entry : at_place (live_from 0 w.outputs) (input_of w.outputs n).prev ≡ Some (at.0, tx_out g.output) =
      ap (λ o. at_place (live_from 0 w.outputs) (outpoint_of o)) g.there ∙ at.1 in
      let value : deposit_value (slice_get w.outputs n) ≡ g.output.value = ap deposit_value g.there ∙ rw g.deposit refl in
      let message : preimage hash signed (signed_input hash w.outputs account tx n) account.script g.output.value
      ≡ preimage hash tx (input_of w.outputs n) account.script (deposit_value (slice_get w.outputs n)) =
      same_preimage hash signed tx (signed_input hash w.outputs account tx n) (input_of w.outputs n) account.script g.output.value same_bare refl
      ∙ ap (preimage hash tx (input_of w.outputs n) account.script) (sym value) in
      ap (λ r. option_map_or (λ (p : ℕ × TxOut). spending_strings hash signed (signed_input hash w.outputs account tx n) p.1) r []) entry
      ∙ ap (λ m. account.script ∷ double_strings hash m) message

  inputs_strings-given : (ns : List ℕ) → ((n : ℕ) → Is_in n ns → IsGiven w n)
      → flat_map (input_strings hash (live_from 0 w.outputs) signed) (map (signed_input hash w.outputs account tx) ns)
      ≡ flat_map (strings_of hash w.outputs tx account.script) ns
  inputs_strings-given [] given = refl
  inputs_strings-given (n ∷ ns) given =
      flat_map-cons (input_strings hash (live_from 0 w.outputs) signed) (signed_input hash w.outputs account tx n)
      (map (signed_input hash w.outputs account tx) ns)
      ∙ (λ i. input_strings-given n (given n (inl refl)) i ++ inputs_strings-given ns (λ m h. given m (inr h)) i)
      ∙ sym (flat_map-cons (strings_of hash w.outputs tx account.script) n ns)

  -- the strings of the signed transaction
  pub strings-given : ((n : ℕ) → Is_in n numbers → IsGiven w n) → transaction_strings hash (live_from 0 w.outputs) signed
      ≡ gift_strings hash w.outputs account.script tx numbers
  strings-given given =
      let t : stripped signed ≡ stripped tx = sym (stripped_bare signed) ∙ ap stripped same_bare ∙ stripped_bare tx in
      let p : places_list signed ≡ places_list tx = sym (places-bare signed) ∙ ap places_list same_bare ∙ places-bare tx in
      let q : sequences_list signed ≡ sequences_list tx = sym (sequences-bare signed) ∙ ap sequences_list same_bare ∙ sequences-bare tx in
      let o : outputs_list signed ≡ outputs_list tx = sym (outputs-bare signed) ∙ ap outputs_list same_bare ∙ outputs-bare tx in
      let r = inputs_strings-given numbers given in
      λ i. double_strings hash (t i) ++ (double_strings hash (p i) ++ double_strings hash (q i) ++ double_strings hash (o i)) ++ r i

-- ---- what is signed with the giver's account

module _ (s : Setup) (w : World) (party : List ℕ) (inputs : List ℕ) (outputs : List (List ℕ × ℕ))
    (account : Account) (bare : Tx) (giver : account ≡ account_of s.hash party) (unsigned : bare ≡ unsigned_gift s w inputs outputs) where
  -- is the gift
  pub gift_is : signed_tx s.hash w.outputs account bare inputs ≡ gift s w party inputs outputs
  gift_is = λ i. signed_tx s.hash w.outputs (giver i) (unsigned i) inputs

  -- by the pairs of the gift
  pub pairs_are : map (pair_of s.hash w.outputs account bare) inputs ≡ given_pairs s w party inputs outputs
  pairs_are = λ i. map (pair_of s.hash w.outputs (giver i) (unsigned i)) inputs

  -- after the strings of the gift were hashed
  pub strings_are : gift_strings s.hash w.outputs account.script bare inputs
      ≡ gift_strings s.hash w.outputs (party_script s.hash party) (unsigned_gift s w inputs outputs) inputs
  strings_are = λ i. gift_strings s.hash w.outputs (giver i).script (unsigned i) inputs

-- they are the strings of the gift, whatever is signed
pub gift_strings-signed : (s : Setup) (w : World) (party : List ℕ) (inputs : List ℕ) (outputs : List (List ℕ × ℕ)) → LieApart w
    → first_reason (give_row s w party inputs outputs) ≡ None
    → gift_strings s.hash w.outputs (party_script s.hash party) (unsigned_gift s w inputs outputs) inputs
    ≡ ledger_strings s (signed_world s w party inputs outputs) (gift s w party inputs outputs)
gift_strings-signed s w party inputs outputs apart passed =
    let row : NoneTrue (give_row s w party inputs outputs) = no_reason-none_true (give_row s w party inputs outputs) passed in
    sym (strings-given s.hash w apart (account_of s.hash party) (unsigned_gift s w inputs outputs) inputs refl (is_given w inputs row.0))
