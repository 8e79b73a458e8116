-- The signatures of a file that is taken are of bytes.
use Rattle.std.proofs.Common.{◌≡◌, ℕ, ◌+◌, List, [], ◌∷◌, ◌++◌, length, Bool, true, false, not, Option, Some, None, refl, sym, subst, cond, lit<, inl, inr}
use Rattle.std.specs.Prelude.{◌⊎◌, Result, Ok, Err, IfSome, nat_lt}
use Rattle.std.specs.List.{find, AllByRecursion}
use Rattle.std.specs.Str.{bytes_eq}
use Rattle.spec_bitcoin.specs.Spelling.{IsBytes, stripped}
use Rattle.spec_compiler.specs.Keyed.Keys.{Keys}
use Rattle.spec_compiler.specs.Keyed.Instance.{Instance}
use Rattle.spec_text.specs.Lines.{lines_of, words_of}
use Rattle.spec_tool.specs.declared.psbt.PsbtInput.{PsbtInput}
use Rattle.spec_tool.specs.Base64.{base64_bytes}
use Rattle.spec_tool.specs.Psbt.{Psbt, Pairing}
use Rattle.spec_tool.specs.PsbtBytes.{psbt_of}
use Rattle.spec_deal.specs.declared.fault.SignatureFault.TheVariants as faults
use Rattle.spec_deal.specs.declared.fault.SignatureReason.{SignatureReason}
use Rattle.spec_deal.specs.declared.fault.SignatureReason.TheVariants as reasons
use Rattle.spec_deal.specs.declared.signed.Signed.{Signed}
use Rattle.spec_deal.specs.declared.transaction.Input.{Input}
use Rattle.spec_deal.specs.declared.transaction.Transaction.{Transaction}
use Rattle.spec_deal.specs.declared.transaction.Wallet.{Wallet}
use Rattle.spec_deal.specs.Setting.{no_key}
use Rattle.spec_deal.specs.Shape.{is_strict}
use Rattle.spec_deal.specs.SignatureFile.{Taken, same_place, is_required, is_verified, taken_first, refused_second, taken_once}
use Rattle.spec_deal.specs.SignatureFile.{take_signature, take_signatures, spent_fits, script_fits, witness_fits, final_signature}
use Rattle.spec_deal.specs.SignatureFile.{has_witness_form, has_strict_signature, verifies_beside, same_items, witness_taken_once}
use Rattle.spec_deal.specs.SignatureFile.{take_witness, take_final, take_key_input, take_wallet_input, take_input, take_inputs}
use Rattle.spec_deal.specs.SignatureFile.{has_bytes, take_transaction, take_psbt, take_bytes, take_words, take_lines, read_signatures}
use Rattle.spec_deal.specs.Sizes.{most_signature_bytes}
use Rattle.spec_deal.specs.Transactions.{Required, all_required, transactions}
use Rattle.spec_deal.specs.Verifier.{Verifier}
use Rattle.theory_bitcoin.proofs.Exact.{bytes_none}
use Rattle.theory_calculus.specs.Members.{Is_in}
use Rattle.theory_calculus.proofs.Members.{in_append}
use Rattle.theory_psbt_listed.proofs.Digests.{all_joined}
use Rattle.theory_psbt.specs.Fitting.{IsSignature, IsStack, IsKnown}
use Rattle.theory_psbt.proofs.Base64OnlyWritten.{bytes_only}
use Rattle.theory_psbt.proofs.ReadFits.{read_fits}

-- each signature is of bytes, and each witness can stand in a transaction
pub record IsOfBytes (g : Signed) : Type 0 where
  pub signature : IsBytes g.signature
  pub witness : IsStack g.witness

abbrev pub SignedBytes : List Signed → Type 0
SignedBytes given = (g : Signed) → Is_in g given → IsOfBytes g

abbrev IfBytes : {E : Type 0} → Result (List Signed) E → Type 0
IfBytes (Ok given) = SignedBytes given
IfBytes (Err reason) = Unit {0}

abbrev PairBytes : Pairing → Type 0
PairBytes p = IsBytes (p.1)

one_more : (given : List Signed) (g : Signed) → SignedBytes given → IsOfBytes g → SignedBytes (given ++ g ∷ [])
one_more given g h k x i = by_place (in_append x given (g ∷ []) i)
  where
    by_place : Is_in x given ⊎ Is_in x (g ∷ []) → IsOfBytes x
    by_place (inl a) = h x a
    by_place (inr (inl same)) = subst IsOfBytes (sym same) k
    by_place (inr (inr a)) = absurd a

-- ---- an input that was read

partial_bytes : (ps : List Pairing) → AllByRecursion IsSignature ps → AllByRecursion PairBytes ps
partial_bytes [] h = tt
partial_bytes (p ∷ ps) h = (h.0.value.bytes, partial_bytes ps h.1)

final_bytes : (script : List ℕ) (o : Option (List (List ℕ))) → IfSome o IsStack → AllByRecursion PairBytes (final_signature script o)
final_bytes script None h = tt
final_bytes script (Some []) h = tt
final_bytes script (Some (signature ∷ items)) h = (h.each.0.bytes, tt)

module _ (v : Verifier) where
  second : (given : List Signed) (g : Signed) (same verified : Bool) → SignedBytes given
      → IfBytes {E = SignatureReason} (cond same (Ok given) (refused_second verified g))
  second given g true verified h = h
  second given g false true h = tt
  second given g false false h = tt

  first : (given : List Signed) (g : Signed) (verified : Bool) → SignedBytes given → IsOfBytes g → IfBytes (taken_first verified given g)
  first given g true h k = one_more given g h k
  first given g false h k = tt

  once : (given : List Signed) (g : Signed) (o : Option Signed) (verified : Bool) → SignedBytes given → IsOfBytes g
      → IfBytes (taken_once verified given g o)
  once given g None verified h k = first given g verified h k
  once given g (Some earlier) verified h k = second given g (bytes_eq earlier.signature g.signature) verified h

  witness_once : (given : List Signed) (g : Signed) (o : Option Signed) (verified : Bool) → SignedBytes given → IsOfBytes g
      → IfBytes (witness_taken_once verified given g o)
  witness_once given g None verified h k = first given g verified h k
  witness_once given g (Some earlier) verified h k = second given g (same_items earlier.witness g.witness) verified h

  one : (required : List Required) (given : List Signed) (g : Signed) → SignedBytes given → IsOfBytes g
      → IfBytes (take_signature v required given g)
  one required given g h k = by_test (is_required required g) (is_strict g.signature)
    where
      by_test : (a b : Bool)
          → IfBytes (cond (not a) (Err (reasons.Key g.input)) (cond (not b) (Err (reasons.Signature g.input))
          (taken_once (is_verified v required g) given g (find (λ earlier. same_place earlier g) given))))
      by_test false b = tt
      by_test true false = tt
      by_test true true = once given g (find (λ earlier. same_place earlier g) given) (is_verified v required g) h k

  several : (required : List Required) (tx : List ℕ) (k : ℕ) (given : List Signed) (ps : List Pairing) → SignedBytes given
      → AllByRecursion PairBytes ps → IfBytes (take_signatures v required tx k given ps)
  several required tx k given [] h all = h
  several required tx k given (p ∷ ps) h all =
      by_taken (take_signature v required given (record { tx = tx; input = k; key = p.0; signature = p.1; witness = [] }))
      (one required given (record { tx = tx; input = k; key = p.0; signature = p.1; witness = [] }) h
      (record { signature = all.0; witness = record { few = lit< tt; each = tt } }))
      (λ more m. several required tx k more ps m all.1)
    where
      by_taken : (r : Taken) → IfBytes r → ((more : List Signed) → SignedBytes more → IfBytes (take_signatures v required tx k more ps))
          → IfBytes {E = SignatureReason} (elim r [ Ok more ↦ take_signatures v required tx k more ps | Err reason ↦ Err reason ])
      by_taken (Ok more) m go = go more m
      by_taken (Err reason) m go = tt

  key_input : (required : List Required) (tx : List ℕ) (k : ℕ) (given : List Signed) (i : Input) (input : PsbtInput) → SignedBytes given
      → IsKnown input → IfBytes (take_key_input v required tx k given i input)
  key_input required tx k given i input h known =
      by_test (spent_fits i.output input.spent) (script_fits i.spent.script input.script)
      (witness_fits i.spent.script input.witness)
    where
      by_test : (a b c : Bool)
          → IfBytes (cond (not a) (Err (reasons.Spent k)) (cond (not b) (Err (reasons.Script k)) (cond (not c) (Err (reasons.Witness k))
          (take_signatures v required tx k given (input.partial ++ final_signature i.spent.script input.witness)))))
      by_test false b c = tt
      by_test true false c = tt
      by_test true true false = tt
      by_test true true true =
          several required tx k given (input.partial ++ final_signature i.spent.script input.witness) h
          (all_joined PairBytes input.partial (final_signature i.spent.script input.witness) (partial_bytes input.partial known.partial)
          (final_bytes i.spent.script input.witness known.witness))

  one_witness : (digest script : List ℕ) (given : List Signed) (g : Signed) → SignedBytes given → IsOfBytes g
      → IfBytes (take_witness v digest script given g)
  one_witness digest script given g h k = by_test (has_witness_form v script g.witness) (has_strict_signature script g.witness)
    where
      by_test : (a b : Bool)
          → IfBytes (cond (not a) (Err (reasons.Witness g.input)) (cond (not b) (Err (reasons.Signature g.input))
          (witness_taken_once (verifies_beside v digest script g.witness) given g (find (λ earlier. same_place earlier g) given))))
      by_test false b = tt
      by_test true false = tt
      by_test true true =
          witness_once given g (find (λ earlier. same_place earlier g) given) (verifies_beside v digest script g.witness) h k

  wallet_input : (tx : List ℕ) (k : ℕ) (given : List Signed) (i : Input) (w : Wallet) (input : PsbtInput) → SignedBytes given
      → IsKnown input → IfBytes (take_wallet_input v tx k given i w input)
  wallet_input tx k given i w input h known = by_test (spent_fits i.output input.spent) input.witness known.witness
    where
      by_test : (a : Bool) (o : Option (List (List ℕ))) → IfSome o IsStack
          → IfBytes (cond (not a) (Err (reasons.Spent k)) (take_final v tx k given i w o))
      by_test false o f = tt
      by_test true None f = h
      by_test true (Some items) f =
          one_witness i.digest w.script given (record { tx = tx; input = k; key = no_key; signature = []; witness = items }) h
          (record { signature = bytes_none; witness = f })

  one_input : (required : List Required) (tx : List ℕ) (k : ℕ) (given : List Signed) (i : Input) (input : PsbtInput) → SignedBytes given
      → IsKnown input → IfBytes (take_input v required tx k given i input)
  one_input required tx k given i input h known = by_wallet i.wallet
    where
      by_wallet : (o : Option Wallet)
          → IfBytes {E = SignatureReason} (elim o [
            | None ↦ take_key_input v required tx k given i input
            | Some w ↦ take_wallet_input v tx k given i w input
          ])
      by_wallet None = key_input required tx k given i input h known
      by_wallet (Some w) = wallet_input tx k given i w input h known

  inputs : (required : List Required) (tx : List ℕ) (k : ℕ) (given : List Signed) (is : List Input) (ins : List PsbtInput) → SignedBytes given
      → AllByRecursion IsKnown ins → IfBytes (take_inputs v required tx k given is ins)
  inputs required tx k given [] ins h all = h
  inputs required tx k given (i ∷ is) [] h all = h
  inputs required tx k given (i ∷ is) (input ∷ ins) h all =
      by_taken (take_input v required tx k given i input) (one_input required tx k given i input h all.0)
      (λ more m. inputs required tx (k + 1) more is ins m all.1)
    where
      by_taken : (r : Taken) → IfBytes r → ((more : List Signed) → SignedBytes more → IfBytes (take_inputs v required tx (k + 1) more is ins))
          → IfBytes {E = SignatureReason} (elim r [ Ok more ↦ take_inputs v required tx (k + 1) more is ins | Err reason ↦ Err reason ])
      by_taken (Ok more) m go = go more m
      by_taken (Err reason) m go = tt

  of_transaction : (required : List Required) (given : List Signed) (p : Psbt) (o : Option Transaction) → SignedBytes given
      → AllByRecursion IsKnown p.inputs → IfBytes (take_transaction v required given p o)
  of_transaction required given p None h all = tt
  of_transaction required given p (Some t) h all = inputs required (stripped p.tx) 0 given t.inputs p.inputs h all

  of_bytes : (ts : List Transaction) (given : List Signed) (bytes : List ℕ) (o : Option Psbt) → SignedBytes given → IsBytes bytes
      → psbt_of bytes ≡ o → IfBytes (take_psbt v ts given o)
  of_bytes ts given bytes None h b e = tt
  of_bytes ts given bytes (Some p) h b e =
      of_transaction (all_required ts) given p (find (has_bytes (stripped p.tx)) ts) h (read_fits bytes p b e).inputs

  of_word : (ts : List Transaction) (given : List Signed) (word : List ℕ) (o : Option (List ℕ)) → SignedBytes given → base64_bytes word ≡ o
      → IfBytes (take_bytes v ts given o)
  of_word ts given word None h e = tt
  of_word ts given word (Some bytes) h e = of_bytes ts given bytes (psbt_of bytes) h (bytes_only word bytes e).each refl

  of_words : (ts : List Transaction) (given : List Signed) (words : List (List ℕ)) → SignedBytes given → IfBytes (take_words v ts given words)
  of_words ts given [] h = h
  of_words ts given (word ∷ []) h = of_word ts given word (base64_bytes word) h refl
  of_words ts given (word ∷ (next ∷ words)) h = tt

  of_lines : (ts : List Transaction) (given : List Signed) (n : ℕ) (lines : List (List ℕ)) → SignedBytes given
      → IfBytes (take_lines v ts given n lines)
  of_lines ts given n [] h = h
  of_lines ts given n (line ∷ lines) h =
      by_taken (take_words v ts given (words_of line)) (of_words ts given (words_of line) h)
      (λ more m. of_lines ts more (n + 1) lines m)
    where
      by_taken : (r : Taken) → IfBytes r → ((more : List Signed) → SignedBytes more → IfBytes (take_lines v ts more (n + 1) lines))
          → IfBytes (elim r [ Ok more ↦ take_lines v ts more (n + 1) lines | Err reason ↦ Err (faults.Line n reason) ])
      by_taken (Ok more) m go = go more m
      by_taken (Err reason) m go = tt

pub signature_bytes : (v : Verifier) (hash : List ℕ → List ℕ) (keys : Keys) (s : Instance) (text : List ℕ) (given : List Signed)
    → read_signatures v hash keys s text ≡ Ok given → SignedBytes given
signature_bytes v hash keys s text given e = by_size (nat_lt most_signature_bytes (length text)) e
  where
    by_size : (b : Bool) → cond b (Err faults.Size) (take_lines v (transactions hash keys s) [] 1 (lines_of text)) ≡ Ok given
        → SignedBytes given
    by_size true k = cc
    by_size false k = subst IfBytes k (of_lines v (transactions hash keys s) [] 1 (lines_of text) (λ x i. absurd i))
