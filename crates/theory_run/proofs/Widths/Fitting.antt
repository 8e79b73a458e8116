-- The numbers of compiled transactions are within their widths.
use Rattle.std.proofs.Common.{◌≡◌, ℕ, ◌*◌, ◌<◌, ◌≤◌, List, [], ◌∷◌, length, map, true, Some, refl, sym, ap, ◌∙◌, subst, arith, inl, inr, length-append}
use Rattle.std.specs.Prelude.{◌&&◌, nat_le, slice_get}
use Rattle.std.specs.List.{list_all, AllByRecursion, flat_map}
use Rattle.std.proofs.lemmas.Bool.{and_parts}
use Rattle.std.proofs.lemmas.Bool.Decides.{nat_tests}
use Rattle.spec_data.specs.Lists.{is_among}
use Rattle.spec_terms.specs.Advert.{Advert}
use Rattle.spec_terms.specs.Parties.{participants}
use Rattle.spec_terms.specs.Precondition.{Holding, persistent, deposits, secrets}
use Rattle.spec_data.specs.Ranges.{max_money}
use Rattle.spec_terms.specs.Readable.{most_deposits, most_secrets, is_readable_pre, is_readable_contract, is_some_list, is_readable_entry}
use Rattle.spec_terms.specs.Faults.{IsWellFormed}
use Rattle.spec_terms.specs.declared.pre.Pre.{Pre}
use Rattle.spec_terms.specs.declared.pre.Pre.TheVariants.{Persistent, Volatile, Secret}
use Rattle.spec_bitcoin.specs.declared.tx.TxOut.{TxOut}
use Rattle.spec_bitcoin.specs.Spelling.{IsPlace, IsInput, IsOutput, IsTransaction, long_word, sized, compact, output_bytes}
use Rattle.spec_compiler.specs.Instance.{Instance, position_script}
use Rattle.spec_compiler.specs.declared.unsigned.Spent.{Spent}
use Rattle.spec_compiler.specs.Transactions.{input_of, tx_of, pays, deposit, persistent_deposits, root_value, initial_unsigned}
use Rattle.spec_run.specs.Setup.{Setup, people_of, people_at}
use Rattle.spec_run.specs.World.{Output, World, is_advertised}
use Rattle.spec_run.specs.Compiled.{compiled_instance}
use Rattle.spec_run.specs.Conditions.{HashesBytes, IsSetup}
use Rattle.spec_bitcoin.specs.Keys.{pay_to}
use Rattle.std.proofs.lemmas.List.Concat.{flat_map-cons}
use Rattle.theory_bitcoin.proofs.Formats.{wide64}
use Rattle.theory_bitcoin.proofs.Exact.{bytes_cons, bytes_none}
use Rattle.theory_calculus.specs.Members.{Is_in}
use Rattle.theory_calculus.proofs.Members.{in_some}
use Rattle.theory_calculus.proofs.Names.{persistent_deposit}
use Rattle.theory_world.specs.Transactions.{IsNumbered}
use Rattle.theory_world.proofs.Ledger.Preimages.{numbered}
use Rattle.theory_world.proofs.Ledger.Counts.{count_size}
use Rattle.theory_world.proofs.Tests.{length_map}
use Rattle.theory_world.proofs.Later.{compiled_is}
use Rattle.theory_run.specs.KeptBook.{AdvertFine}
use Rattle.theory_world.proofs.Contracts.Mentions.{has_deposit}
use Rattle.theory_run.proofs.Accepted.WhatItIs.{bound_at}
use Rattle.theory_world.proofs.Contracts.Checking.{compiled_checked}
use Rattle.theory_script.proofs.Balances.{root_little}

-- ---- inputs and outputs

-- inputs that spend what lies at such places
pub inputs_fit : (spends : List Spent) → ((x : Spent) → Is_in x spends → IsPlace x.outpoint) → AllByRecursion IsInput (map input_of spends)
inputs_fit [] f = tt
inputs_fit (x ∷ spends) f = (
  record {
    prev = f x (inl refl);
    script_sig = record { bytes = bytes_none; size = omega arith };
    sequence = omega arith;
    items = omega arith;
    witness = tt;
  },
  inputs_fit spends (λ y i. f y (inr i)),
)

-- an output for whoever shows a script
pub output_fits : (hash : List ℕ → List ℕ) → HashesBytes hash → (script : List ℕ) (value : ℕ) → value ≤ max_money → IsOutput (pays hash script value)
output_fits hash size script value h = record {
  value = omega (arith, h);
  script = record {
    bytes = bytes_cons 0 (32 ∷ hash script) (omega arith) (bytes_cons 32 (hash script) (omega arith) (size.bytes script));
    size = let l = size.size script in omega (arith, l);
  };
}

-- ---- the bytes of outputs

-- an output for whoever shows a script has few of them
pub pays_size : (hash : List ℕ → List ℕ) → HashesBytes hash → (script : List ℕ) (value : ℕ) → length (output_bytes (pays hash script value)) ≤ 51
pays_size hash size script value =
    let p = pay_to (hash script) in
    let a = length-append (long_word value) (sized p) in
    let b = length-append (compact (length p)) p in
    let c = wide64.len value in
    let d = count_size (length p) in
    let l = size.size script in
    omega (arith, a, b, c, d, l)

abbrev pub AllShort : List TxOut → Type 0
AllShort os = AllByRecursion (λ o. length (output_bytes o) ≤ 51) os

pub short_bytes : (os : List TxOut) → AllShort os → length (flat_map output_bytes os) ≤ 51 * length os
short_bytes [] h = omega arith
short_bytes (o ∷ os) h =
    let a = ap length (flat_map-cons output_bytes o os) ∙ length-append (output_bytes o) (flat_map output_bytes os) in
    let r = short_bytes os h.1 in
    let b = h.0 in
    omega (arith, a, b, r)

-- ---- the initial transaction

few_persistent : (pre : List Pre) → length (persistent pre) ≤ length (deposits pre)
few_persistent [] = omega arith
few_persistent (Persistent party value name ∷ pre) = let r = few_persistent pre in omega (arith, r)
few_persistent (Volatile party value name ∷ pre) = let r = few_persistent pre in omega (arith, r)
few_persistent (Secret party name ∷ pre) = few_persistent pre

few_deposits : (a : Advert) → IsWellFormed a → length (persistent a.pre) ≤ 32
few_deposits a h =
    let r = (and_parts (is_readable_pre a.pre) (nat_le a.fee max_money && is_readable_contract a.root) h.readable).0 in
    let p = (and_parts (is_some_list a.pre && list_all is_readable_entry a.pre)
    (nat_le (length (deposits a.pre)) most_deposits && nat_le (length (secrets a.pre)) most_secrets) r).1 in
    let q = (and_parts (nat_le (length (deposits a.pre)) most_deposits) (nat_le (length (secrets a.pre)) most_secrets) p).0 in
    let l = few_persistent a.pre in
    grind (arith, nat_tests, q, l)

module _ (s : Setup) (is : IsSetup s) (w : World) (adverts : (k : ℕ) → is_advertised w k ≡ true → AdvertFine s w k) (placed : (n : ℕ) (o : Output)
    → slice_get w.outputs n ≡ Some o → IsPlace o.outpoint) (k : ℕ) (st : Instance) (c : compiled_instance s w k ≡ Some st) where
  well : IsWellFormed st.advert
  well = compiled_checked s is w k st c

  -- a deposit that is bound lies at a place
  pub bound_place : (d : List ℕ × Holding) → Is_in d (deposits st.advert.pre) → IsPlace (deposit s.hash st (d.0) (d.1)).outpoint
  bound_place d i =
      let a = bound_at s w adverts k st c (d.0) (d.1) i in
      subst IsPlace (sym a.outpoint) (placed a.number a.bound.output a.bound.there)

  persistent_place : (ds : List (List ℕ × Holding)) → ((d : List ℕ × Holding) → Is_in d ds → Is_in d (deposits st.advert.pre)) → (x : Spent)
      → Is_in x (map (λ (d : List ℕ × Holding). deposit s.hash st d.0 d.1) ds) → IsPlace x.outpoint
  persistent_place [] f x h = absurd h
  persistent_place (d ∷ ds) f x (inl e) = subst (λ (y : Spent). IsPlace y.outpoint) (sym e) (bound_place d (f d (inl refl)))
  persistent_place (d ∷ ds) f x (inr i) = persistent_place ds (λ y j. f y (inr j)) x i

  some_persistent : 0 < length (persistent st.advert.pre)
  some_persistent =
      let ci = compiled_is s w k st c in
      let fair = (adverts k ci.advertised).fair in
      let sa : st.advert ≡ ci.advert = ap (λ (y : Instance). y.advert) ci.is in
      let pe : people_at s k ≡ participants ci.advert = ap people_of ci.there in
      let m : is_among fair.0 (participants st.advert) ≡ true =
      subst (λ (y : Advert). is_among fair.0 (participants y) ≡ true) (sym sa) (subst (λ ps. is_among fair.0 ps ≡ true) pe fair.1) in
      let d = has_deposit st.advert fair.0 well m in
      in_some (d.name, d.holding) (persistent st.advert.pre) d.there

  -- the initial transaction of a compiled contract
  pub initial_fits : IsTransaction (tx_of (initial_unsigned s.hash st))
  initial_fits =
      let a = length_map input_of (persistent_deposits s.hash st) in
      let b = length_map (λ (d : List ℕ × Holding). deposit s.hash st d.0 d.1) (persistent st.advert.pre) in
      let n = some_persistent in
      let f = few_deposits st.advert well in
      record {
        version = omega arith;
        some = omega (arith, a, b, n);
        few_inputs = omega (arith, a, b, f);
        inputs = inputs_fit (persistent_deposits s.hash st) (persistent_place (persistent st.advert.pre) (persistent_deposit st.advert.pre));
        few_outputs = omega arith;
        outputs = (output_fits s.hash is.hash (position_script s.hash st [] st.advert.root) (root_value st) (root_little s.hash st well), tt);
        lock = omega arith;
      }

  pub initial_numbered : IsNumbered (tx_of (initial_unsigned s.hash st))
  initial_numbered =
      let os = (tx_of (initial_unsigned s.hash st)).outputs in
      let l = short_bytes os (pays_size s.hash is.hash (position_script s.hash st [] st.advert.root) (root_value st), tt) in
      numbered (tx_of (initial_unsigned s.hash st)) initial_fits (omega (arith, l))
