-- Each witness that is taken of a file of signatures is of an input that a wallet signs, and verifies as far as that is known.
use Rattle.std.proofs.Common.{◌≡◌, ℕ, suc, ◌+◌, List, [], ◌∷◌, ◌++◌, length, Bool, true, false, not, Option, Some, None, refl, sym, ap, ◌∙◌, subst, cond}
use Rattle.std.proofs.Common.{arith, inl, inr}
use Rattle.std.specs.Prelude.{Result, Ok, Err, ◌⊎◌, nat_lt, slice_get, drop}
use Rattle.std.specs.List.{Contains, find}
use Rattle.std.specs.Str.{bytes_eq}
use Rattle.spec_bitcoin.specs.Spelling.{stripped, is_filled}
use Rattle.spec_text.specs.Lines.{lines_of, words_of}
use Rattle.spec_tool.specs.declared.psbt.PsbtInput.{PsbtInput}
use Rattle.spec_tool.specs.Base64.{base64_bytes}
use Rattle.spec_tool.specs.Psbt.{Psbt, Pairing}
use Rattle.spec_tool.specs.PsbtBytes.{psbt_of}
use Rattle.spec_deal.specs.declared.signed.Signed.{Signed}
use Rattle.spec_deal.specs.declared.fault.SignatureReason.{SignatureReason}
use Rattle.spec_deal.specs.declared.fault.SignatureReason.TheVariants as reasons
use Rattle.spec_deal.specs.declared.fault.SignatureFault.TheVariants as faults
use Rattle.spec_deal.specs.declared.transaction.Input.{Input}
use Rattle.spec_deal.specs.declared.transaction.Transaction.{Transaction}
use Rattle.spec_deal.specs.declared.transaction.Wallet.{Wallet}
use Rattle.spec_deal.specs.Setting.{no_key}
use Rattle.spec_deal.specs.Shape.{is_strict}
use Rattle.spec_deal.specs.Sizes.{most_signature_bytes}
use Rattle.spec_deal.specs.Transactions.{Required, all_required, transactions}
use Rattle.spec_deal.specs.Verifier.{Verifier}
use Rattle.spec_deal.specs.SignatureFile.{Taken, same_place, is_required, is_verified, taken_first, refused_second, taken_once}
use Rattle.spec_deal.specs.SignatureFile.{take_signature, take_signatures, spent_fits, script_fits, witness_fits, final_signature}
use Rattle.spec_deal.specs.SignatureFile.{has_witness_form, has_strict_signature, verifies_beside, same_items, witness_taken_once}
use Rattle.spec_deal.specs.SignatureFile.{take_witness, take_final, take_key_input, take_wallet_input, take_input, take_inputs, has_bytes}
use Rattle.spec_deal.specs.SignatureFile.{take_transaction, take_psbt, take_bytes, take_words, take_lines, read_signatures}
use Rattle.theory_calculus.specs.Members.{Is_in}
use Rattle.theory_calculus.proofs.Members.{in_append, in_from_contains, contains_from_in, found}
use Rattle.theory_calculus.proofs.Names.{bytes-true}
use Rattle.theory_deal.proofs.Verified.{cut}
use Rattle.theory_deal.specs.Files.{is_witness, IsWalletWitness, WitnessesVerify}

module _ (v : Verifier) (ts : List Transaction) where
  -- what is known of a witness, by the transaction whose input it is of
  record IsOf (g : Signed) : Type 0 where
    t : Transaction
    there : Is_in t ts
    bytes : g.tx ≡ t.bytes
    i : Input
    input : slice_get t.inputs g.input ≡ Some i
    w : Wallet
    of_wallet : i.wallet ≡ Some w
    by_none : g.key ≡ no_key
    form : has_witness_form v w.script g.witness ≡ true
    strict : has_strict_signature w.script g.witness ≡ true
    verifies : verifies_beside v i.digest w.script g.witness ≡ true

  abbrev Good : List Signed → Type 0
  Good given = (g : Signed) → Is_in g given → is_filled g.witness ≡ true → IsOf g

  abbrev IfGood : {E : Type 0} → Result (List Signed) E → Type 0
  IfGood (Ok given) = Good given
  IfGood (Err reason) = Unit {0}

  one_more : (given : List Signed) (g : Signed) → Good given → (is_filled g.witness ≡ true → IsOf g) → Good (given ++ g ∷ [])
  one_more given g h k x i = by_place (in_append x given (g ∷ []) i)
    where
      by_place : Is_in x given ⊎ Is_in x (g ∷ []) → is_filled x.witness ≡ true → IsOf x
      by_place (inl a) = h x a
      by_place (inr (inl same)) = subst (λ (y : Signed). is_filled y.witness ≡ true → IsOf y) (sym same) k
      by_place (inr (inr a)) = absurd a

  first : (given : List Signed) (g : Signed) (verified : Bool) → Good given → (verified ≡ true → is_filled g.witness ≡ true → IsOf g)
      → IfGood (taken_first verified given g)
  first given g true h k = one_more given g h (k refl)
  first given g false h k = tt

  second : (given : List Signed) (g : Signed) (same verified : Bool) → Good given
      → IfGood {E = SignatureReason} (cond same (Ok given) (refused_second verified g))
  second given g true verified h = h
  second given g false true h = tt
  second given g false false h = tt

  -- ---- by keys

  abbrev by_key : List ℕ → ℕ → Pairing → Signed
  by_key tx k p = record { tx = tx; input = k; key = p.0; signature = p.1; witness = [] }

  no_witness : (tx : List ℕ) (k : ℕ) (p : Pairing) → is_filled [] ≡ true → IsOf (by_key tx k p)
  no_witness tx k p e = cc

  once : (given : List Signed) (tx : List ℕ) (k : ℕ) (p : Pairing) (o : Option Signed) (verified : Bool) → Good given
      → IfGood (taken_once verified given (by_key tx k p) o)
  once given tx k p None verified h = first given (by_key tx k p) verified h (λ e. no_witness tx k p)
  once given tx k p (Some earlier) verified h = second given (by_key tx k p) (bytes_eq earlier.signature p.1) verified h

  one : (required : List Required) (given : List Signed) (tx : List ℕ) (k : ℕ) (p : Pairing) → Good given
      → IfGood (take_signature v required given (by_key tx k p))
  one required given tx k p h = by_test (is_required required g) (is_strict p.1)
    where
      g : Signed
      g = by_key tx k p

      by_test : (a b : Bool)
          → IfGood (cond (not a) (Err (reasons.Key k)) (cond (not b) (Err (reasons.Signature k))
          (taken_once (is_verified v required g) given g (find (λ earlier. same_place earlier g) given))))
      by_test false b = tt
      by_test true false = tt
      by_test true true = once given tx k p (find (λ earlier. same_place earlier g) given) (is_verified v required g) h

  several : (required : List Required) (tx : List ℕ) (k : ℕ) (given : List Signed) (ps : List Pairing) → Good given
      → IfGood (take_signatures v required tx k given ps)
  several required tx k given [] h = h
  several required tx k given (p ∷ ps) h =
      by_taken (take_signature v required given (by_key tx k p)) (one required given tx k p h) (λ more m. several required tx k more ps m)
    where
      by_taken : (r : Taken) → IfGood r → ((more : List Signed) → Good more → IfGood (take_signatures v required tx k more ps))
          → IfGood {E = SignatureReason} (elim r [ Ok more ↦ take_signatures v required tx k more ps | Err reason ↦ Err reason ])
      by_taken (Ok more) m go = go more m
      by_taken (Err reason) m go = tt

  key_input : (required : List Required) (tx : List ℕ) (k : ℕ) (given : List Signed) (i : Input) (input : PsbtInput) → Good given
      → IfGood (take_key_input v required tx k given i input)
  key_input required tx k given i input h =
      by_test (spent_fits i.output input.spent) (script_fits i.spent.script input.script) (witness_fits i.spent.script input.witness)
    where
      by_test : (a b c : Bool)
          → IfGood (cond (not a) (Err (reasons.Spent k)) (cond (not b) (Err (reasons.Script k)) (cond (not c) (Err (reasons.Witness k))
          (take_signatures v required tx k given (input.partial ++ final_signature i.spent.script input.witness)))))
      by_test false b c = tt
      by_test true false c = tt
      by_test true true false = tt
      by_test true true true = several required tx k given (input.partial ++ final_signature i.spent.script input.witness) h

  -- ---- by wallets

  abbrev handed : List ℕ → ℕ → List (List ℕ) → Signed
  handed tx k items = record { tx = tx; input = k; key = no_key; signature = []; witness = items }

  -- where an input stands
  record Stands (tx : List ℕ) (k : ℕ) (i : Input) : Type 0 where
    t : Transaction
    there : Is_in t ts
    bytes : tx ≡ t.bytes
    input : slice_get t.inputs k ≡ Some i

  one_witness : (tx : List ℕ) (k : ℕ) (given : List Signed) (i : Input) (w : Wallet) (items : List (List ℕ)) → Good given → Stands tx k i
      → i.wallet ≡ Some w → IfGood (take_witness v i.digest w.script given (handed tx k items))
  one_witness tx k given i w items h x e =
      by_test (has_witness_form v w.script items) refl (has_strict_signature w.script items) refl
      (verifies_beside v i.digest w.script items) refl
    where
      g : Signed
      g = handed tx k items

      by_found : (verified : Bool) → (verified ≡ true → is_filled items ≡ true → IsOf g) → (o : Option Signed)
          → IfGood (witness_taken_once verified given g o)
      by_found verified f None = first given g verified h f
      by_found verified f (Some earlier) = second given g (same_items earlier.witness items) verified h

      by_test : (a : Bool) → has_witness_form v w.script items ≡ a → (b : Bool) → has_strict_signature w.script items ≡ b
          → (c : Bool) → verifies_beside v i.digest w.script items ≡ c
          → IfGood (cond (not a) (Err (reasons.Witness k)) (cond (not b) (Err (reasons.Signature k))
          (witness_taken_once c given g (find (λ earlier. same_place earlier g) given))))
      by_test false p b q c r = tt
      by_test true p false q c r = tt
      by_test true p true q c r =
          by_found c
          (λ z filled.
          record {
            t = x.t;
            there = x.there;
            bytes = x.bytes;
            i = i;
            input = x.input;
            w = w;
            of_wallet = e;
            by_none = refl;
            form = p;
            strict = q;
            verifies = r ∙ z;
          })
          (find (λ earlier. same_place earlier g) given)

  wallet_input : (tx : List ℕ) (k : ℕ) (given : List Signed) (i : Input) (w : Wallet) (input : PsbtInput) → Good given → Stands tx k i
      → i.wallet ≡ Some w → IfGood (take_wallet_input v tx k given i w input)
  wallet_input tx k given i w input h x e = by_test (spent_fits i.output input.spent) input.witness
    where
      by_test : (a : Bool) (o : Option (List (List ℕ))) → IfGood (cond (not a) (Err (reasons.Spent k)) (take_final v tx k given i w o))
      by_test false o = tt
      by_test true None = h
      by_test true (Some items) = one_witness tx k given i w items h x e

  one_input : (required : List Required) (tx : List ℕ) (k : ℕ) (given : List Signed) (i : Input) (input : PsbtInput) → Good given
      → Stands tx k i → IfGood (take_input v required tx k given i input)
  one_input required tx k given i input h x = by_wallet i.wallet refl
    where
      by_wallet : (o : Option Wallet) → i.wallet ≡ o
          → IfGood {E = SignatureReason} (elim o [
            | None ↦ take_key_input v required tx k given i input
            | Some w ↦ take_wallet_input v tx k given i w input
          ])
      by_wallet None e = key_input required tx k given i input h
      by_wallet (Some w) e = wallet_input tx k given i w input h x e

  inputs : (required : List Required) (tx : List ℕ) (t : Transaction) → Is_in t ts → tx ≡ t.bytes → (k : ℕ) (given : List Signed)
      (is : List Input) (ins : List PsbtInput) → drop k t.inputs ≡ is → Good given → IfGood (take_inputs v required tx k given is ins)
  inputs required tx t there same k given [] ins e h = h
  inputs required tx t there same k given (i ∷ is) [] e h = h
  inputs required tx t there same k given (i ∷ is) (input ∷ ins) e h =
      let r = cut t.inputs k i is e in
      by_taken (take_input v required tx k given i input)
      (one_input required tx k given i input h (record { t = t; there = there; bytes = same; input = r.0 }))
      (λ more m. inputs required tx t there same (k + 1) more is ins r.1 m)
    where
      by_taken : (r : Taken) → IfGood r → ((more : List Signed) → Good more → IfGood (take_inputs v required tx (k + 1) more is ins))
          → IfGood {E = SignatureReason} (elim r [ Ok more ↦ take_inputs v required tx (k + 1) more is ins | Err reason ↦ Err reason ])
      by_taken (Ok more) m go = go more m
      by_taken (Err reason) m go = tt

  -- ---- a line

  of_psbt : (given : List Signed) (o : Option Psbt) → Good given → IfGood (take_psbt v ts given o)
  of_psbt given None h = tt
  of_psbt given (Some p) h = by_found (find (has_bytes (stripped p.tx)) ts) refl
    where
      by_found : (o : Option Transaction) → find (has_bytes (stripped p.tx)) ts ≡ o → IfGood (take_transaction v (all_required ts) given p o)
      by_found None e = tt
      by_found (Some t) e =
          let r = found (has_bytes (stripped p.tx)) ts t e in
          inputs (all_required ts) (stripped p.tx) t r.0 (sym (bytes-true t.bytes (stripped p.tx) r.1)) 0 given t.inputs p.inputs refl h

  of_bytes : (given : List Signed) (o : Option (List ℕ)) → Good given → IfGood (take_bytes v ts given o)
  of_bytes given None h = tt
  of_bytes given (Some bytes) h = of_psbt given (psbt_of bytes) h

  of_words : (given : List Signed) (words : List (List ℕ)) → Good given → IfGood (take_words v ts given words)
  of_words given [] h = h
  of_words given (word ∷ []) h = of_bytes given (base64_bytes word) h
  of_words given (word ∷ (next ∷ words)) h = tt

  of_lines : (given : List Signed) (n : ℕ) (lines : List (List ℕ)) → Good given → IfGood (take_lines v ts given n lines)
  of_lines given n [] h = h
  of_lines given n (line ∷ lines) h =
      by_taken (take_words v ts given (words_of line)) (of_words given (words_of line) h) (λ more m. of_lines more (n + 1) lines m)
    where
      by_taken : (r : Taken) → IfGood r → ((more : List Signed) → Good more → IfGood (take_lines v ts more (n + 1) lines))
          → IfGood (elim r [ Ok more ↦ take_lines v ts more (n + 1) lines | Err reason ↦ Err (faults.Line n reason) ])
      by_taken (Ok more) m go = go more m
      by_taken (Err reason) m go = tt

pub witnesses_verify : WitnessesVerify
witnesses_verify v hash keys s text given e g c filled =
    shown (by_size (nat_lt most_signature_bytes (length text)) e g (in_from_contains given g c) filled)
  where
    ts : List Transaction
    ts = transactions hash keys s

    by_size : (b : Bool) → cond b (Err faults.Size) (take_lines v ts [] 1 (lines_of text)) ≡ Ok given → Good v ts given
    by_size true k = cc
    by_size false k = subst (IfGood v ts) k (of_lines v ts [] 1 (lines_of text) (λ x i. absurd i))

    shown : IsOf v ts g → IsWalletWitness v hash keys s g
    shown r = record {
      t = r.t;
      there = contains_from_in ts r.t r.there;
      bytes = r.bytes;
      i = r.i;
      input = r.input;
      w = r.w;
      of_wallet = r.of_wallet;
      by_none = r.by_none;
      form = r.form;
      strict = r.strict;
      verifies = r.verifies;
    }
