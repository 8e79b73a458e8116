-- The inputs of a listed transaction, by the digests of its inputs.
use Rattle.std.proofs.Common.{◌≡◌, ℕ, List, [], ◌∷◌, map, Bool, true, Some, None, refl, sym, ap}
use Rattle.std.specs.Prelude.{if◌then◌else◌}
use Rattle.spec_terms.specs.Term as term
use Rattle.spec_terms.specs.Core.{core, puts_of}
use Rattle.spec_terms.specs.Parties.{participants}
use Rattle.spec_terms.specs.Precondition.{Holding, persistent}
use Rattle.spec_terms.specs.declared.path.PathStep.{PathStep}
use Rattle.spec_bitcoin.specs.declared.label.Label.{Label}
use Rattle.spec_bitcoin.specs.Keys.{Pair, key_of, signature_of, has_signed}
use Rattle.spec_compiler.specs.declared.unsigned.Unsigned.{Unsigned}
use Rattle.spec_compiler.specs.Instance.{Instance, branch_label}
use Rattle.spec_compiler.specs.Transactions.{Standing, tx_of, digest_of_spent, deposit, put_deposits, pays, branch_unsigned, initial_unsigned}
use Rattle.spec_compiler.specs.Endorsements.{put_owner}
use Rattle.spec_tool.specs.Psbt.{Pairing, insert_signature}
use Rattle.spec_tool.specs.Listed.{deposit_signer, initial_listed, branch_signers}
use Rattle.spec_tool.specs.PsbtText.{signatures_there, signed_input, signed_inputs, listed_psbt}
use Rattle.bm_compile.specs.Numbered.{numbered}
use Rattle.bm_psbt_plan.specs.Parts.{signed_by, persistent_inputs, put_holding, put_inputs, path_inputs, init_psbt}

module _ (hash : List ℕ → List ℕ) (book : List Pair) where
  -- ---- signatures

  signed_more : (t : Bool) (r : Pairing) (xs ys : List Pairing) → xs ≡ ys
      → (if t then insert_signature r xs else xs) ≡ (if t then insert_signature r ys else ys)
  signed_more t r xs ys e = ap (λ (zs : List Pairing). if t then insert_signature r zs else zs) e

  there_is : (labels : List Label) (digest : List ℕ) → signatures_there hash book labels digest ≡ signed_by book (map (key_of hash) labels) digest
  there_is [] digest = refl
  there_is (label ∷ rest) digest =
      signed_more (has_signed book (key_of hash label) digest) (key_of hash label, signature_of (key_of hash label) digest) _ _ (there_is rest digest)

  module _ (s : Instance) (pending : Unsigned) where
    -- ---- deposits

    persistent_is : (ds : List (List ℕ × Holding))
        → signed_inputs hash book pending (map (λ d. deposit hash s d.0 d.1) ds) (map (λ d. deposit_signer (d.1).owner) ds)
        ≡ persistent_inputs hash book ds (map (digest_of_spent hash (tx_of pending)) (map (λ d. deposit hash s d.0 d.1) ds))
    persistent_is [] = refl
    persistent_is (d ∷ ds) =
        ap (λ rest. signed_input hash book pending (deposit hash s d.0 d.1) (deposit_signer (d.1).owner) ∷ rest) (persistent_is ds)

    puts_are : (puts : List (List ℕ))
        → signed_inputs hash book pending (put_deposits hash s puts) (map (λ name. deposit_signer (put_owner s.advert name)) puts)
        ≡ put_inputs hash book s.advert.pre puts (map (digest_of_spent hash (tx_of pending)) (put_deposits hash s puts))
    puts_are [] = refl
    puts_are (name ∷ names) =
        ap (λ rest. signed_input hash book pending (deposit hash s name (put_holding s.advert.pre name)) (deposit_signer (put_owner s.advert name)) ∷ rest)
        (puts_are names)

  -- ---- transactions

  pub init_is : (s : Instance) → init_psbt hash book s.advert (numbered hash s) ≡ listed_psbt hash book (initial_listed hash s)
  init_is s =
      let e = persistent_is s (initial_unsigned hash s) (persistent s.advert.pre) in
      λ i. record { tx = tx_of (initial_unsigned hash s); inputs = sym e i }

  pub path_is : (s : Instance) (path : List PathStep) (here : Standing) (i : ℕ) (b : term.Guarded)
      → signed_inputs hash book (branch_unsigned hash s here i b) (branch_unsigned hash s here i b).spends (branch_signers s.contract s.advert path b)
      ≡ path_inputs hash book s.contract s.advert path (pays hash here.output.script here.output.value) here.output.script (puts_of (core b))
      (map (digest_of_spent hash (tx_of (branch_unsigned hash s here i b))) (branch_unsigned hash s here i b).spends)
  path_is s path here i b =
      let pending = branch_unsigned hash s here i b in
      let e = there_is (map (branch_label s.contract path) (participants s.advert)) (digest_of_spent hash (tx_of pending) here.output) in
      let f = puts_are s pending (puts_of (core b)) in
      λ j. record {
        spent = Some (pays hash here.output.script here.output.value);
        partial = e j;
        all = true;
        script = Some here.output.script;
        witness = None;
      } ∷ f j
