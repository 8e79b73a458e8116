-- The scripts of positions and deposits are of bytes, where the keys and the committed digests are.
use Rattle.std.proofs.Common.{◌≡◌, ℕ, suc, ◌+◌, ◌<◌, ◌≤◌, List, [], ◌∷◌, ◌++◌, length, map, Bool, true, false, Some, arith, lit<}
use Rattle.std.proofs.Common.{length-append}
use Rattle.std.specs.Prelude.{if◌then◌else◌}
use Rattle.std.specs.List.{list_all}
use Rattle.std.proofs.lemmas.Bool.{and_parts}
use Rattle.spec_data.specs.Hashes.{IsBytes}
use Rattle.spec_data.proofs.ByteLemmas.{IsBytes-append}
use Rattle.spec_terms.specs.Term.{Contract, branches}
use Rattle.spec_terms.specs.declared.path.PathStep.{PathStep}
use Rattle.spec_bitcoin.specs.declared.label.Label.{Label}
use Rattle.spec_bitcoin.specs.declared.label.Label.TheVariants as labels
use Rattle.spec_bitcoin.specs.Keys.{checksig_byte}
use Rattle.spec_bitcoin.specs.Meaning.{is_short_push}
use Rattle.spec_bitcoin.specs.Spelling.{IsString}
use Rattle.spec_bitcoin.specs.Verdict.{program_of}
use Rattle.spec_compiler.specs.Keyed.OwnScripts.{pays_to_key_hash, key_hash_code, code_of}
use Rattle.spec_compiler.specs.Keyed.Keys.{Keys, key_in, own_script}
use Rattle.spec_compiler.specs.Keyed.Instance.{Instance, people, branch_path, branch_label, branch_keys, deposit_key, position_demands}
use Rattle.spec_compiler.specs.Keyed.Instance.{position_script}
use Rattle.spec_compiler.specs.Keyed.Statements.{AreKeys, IsPayable, IsCompiled}
use Rattle.spec_compiler.specs.Keyed.Transactions.{party_script}
use Rattle.spec_compiler.specs.Scripts.{output_ops}
use Rattle.theory_bitcoin.proofs.Exact.{bytes_none, bytes_cons}
use Rattle.theory_script.proofs.Keyed.Opened.{no_limit_met}
use Rattle.theory_psbt_listed.proofs.Digests.{BytesIn}
use Rattle.theory_psbt_listed.proofs.ScriptBytes.{AllBytes, encoded, output_push, demands_bytes}

-- each label's key is of bytes
abbrev pub KeysOfBytes : (List ℕ → List ℕ) → Keys → Type 0
KeysOfBytes hash keys = (label : Label) → IsBytes (key_in hash keys label)

module _ (hash : List ℕ → List ℕ) (keys : Keys) (are_keys : AreKeys hash keys) (bytes : KeysOfBytes hash keys) where
  keys_bytes : (s : Instance) (path : List PathStep) (parties : List (List ℕ))
      → AllBytes (map (λ party. key_in hash keys (branch_label s.contract path party)) parties)
  keys_bytes s path [] = tt
  keys_bytes s path (a ∷ parties) = (bytes (branch_label s.contract path a), keys_bytes s path parties)

  position_bytes : (s : Instance) → BytesIn s.hashes → (q : List PathStep) (choice : Contract) → IsCompiled s q choice
      → IsBytes (position_script hash keys s q choice)
  unfolding position_script
  position_bytes s h q choice is =
      let ops = output_ops (position_demands hash keys s q choice) in
      let each = λ (i : ℕ). keys_bytes s (branch_path q i) (people s) in
      let all = demands_bytes (λ i. branch_keys hash keys s (branch_path q i)) s.hashes 0 (branches choice) each h in
      encoded ops (output_push (position_demands hash keys s q choice) all)
      (and_parts (list_all is_short_push ops) _ (no_limit_met hash keys s q choice are_keys is).limits).0

  -- the script of a checked contract's position
  pub position_string : (s : Instance) → BytesIn s.hashes → (q : List PathStep) (choice : Contract) → IsCompiled s q choice
      → IsString (position_script hash keys s q choice)
  position_string s h q choice is =
      let few = (no_limit_met hash keys s q choice are_keys is).bytes in
      record { bytes = position_bytes s h q choice is; size = omega (arith, few) }

  -- that of a party's deposits
  pub party_string : (a : List ℕ) → IsString (party_script hash keys a)
  party_string a =
      let key = deposit_key hash keys a in
      let n = length-append key (checksig_byte ∷ []) in
      let l = are_keys (labels.Deposit a) in
      record {
        bytes = bytes_cons 33 (key ++ checksig_byte ∷ []) (lit< tt)
            (IsBytes-append key (checksig_byte ∷ []) (bytes (labels.Deposit a)) (bytes_cons checksig_byte [] (lit< tt) bytes_none));
        size = omega (arith, n, l);
      }

-- ---- scripts of wallets

-- each deposit with a script of its own has a short one, of bytes
abbrev pub AreBrought : Keys → Type 0
AreBrought keys = (name own : List ℕ) → own_script keys name ≡ Some own → IsPayable own

-- what its signature is made with can stand in a witness
pub code_string : (own : List ℕ) → IsPayable own → IsString (code_of own)
code_string own h = by_test (pays_to_key_hash own)
  where
    bytes_behind : (bytes : List ℕ) → IsBytes bytes → IsBytes (program_of bytes)
    bytes_behind [] k = bytes_none
    bytes_behind (a ∷ []) k = bytes_none
    bytes_behind (a ∷ (b ∷ rest)) k = λ i. k (suc (suc i))

    few_behind : (bytes : List ℕ) → length bytes ≤ 34 → length (program_of bytes) ≤ 34
    few_behind [] k = k
    few_behind (a ∷ []) k = omega arith
    few_behind (a ∷ (b ∷ rest)) k = omega (arith, k)

    tail : IsBytes (136 ∷ 172 ∷ [])
    tail = bytes_cons 136 (172 ∷ []) (lit< tt) (bytes_cons 172 [] (lit< tt) bytes_none)

    by_test : (b : Bool) → IsString (if b then key_hash_code (program_of own) else [])
    by_test true =
        let n = length-append (program_of own) (136 ∷ 172 ∷ []) in
        let l = few_behind own h.few in
        record {
          bytes =
              bytes_cons 118 (169 ∷ 20 ∷ (program_of own ++ 136 ∷ 172 ∷ [])) (lit< tt)
              (bytes_cons 169 (20 ∷ (program_of own ++ 136 ∷ 172 ∷ [])) (lit< tt)
              (bytes_cons 20 (program_of own ++ 136 ∷ 172 ∷ []) (lit< tt)
              (IsBytes-append (program_of own) (136 ∷ 172 ∷ []) (bytes_behind own h.bytes) tail)));
          size = omega (arith, n, l);
        }
    by_test false = record { bytes = bytes_none; size = lit< tt }
