-- Each signature that is taken of a file has the shape, and verifies wherever it is needed.
use Rattle.std.proofs.Common.{◌≡◌, ℕ, ◌+◌, ◌≤◌, List, [], ◌∷◌, ◌++◌, length, Bool, true}
use Rattle.std.proofs.Common.{false, not, Option, Some, None, refl, sym, ap, ◌∙◌, subst, arith, cond, map, inl, inr}
use Rattle.std.specs.Prelude.{Result, Ok, Err, nat_lt, ◌&&◌, ◌||◌, ◌⊎◌}
use Rattle.std.specs.List.{list_all, find, AllByRecursion}
use Rattle.std.proofs.lemmas.Bool.{and_parts, and_from}
use Rattle.std.specs.Str.{bytes_eq}
use Rattle.spec_bitcoin.specs.declared.label.Label.{Label}
use Rattle.spec_bitcoin.specs.Spelling.{stripped, is_filled}
use Rattle.spec_compiler.specs.Keyed.Keys.{Keys}
use Rattle.spec_compiler.specs.Keyed.Instance.{Instance}
use Rattle.spec_compiler.specs.Keyed.Statements.{AreKeyDeposits, is_short}
use Rattle.spec_compiler.specs.declared.unsigned.Spent.{Spent}
use Rattle.spec_tool.specs.Keyed.Listed.{Listed, listed}
use Rattle.spec_text.specs.Lines.{lines_of, words_of}
use Rattle.spec_tool.specs.declared.psbt.PsbtInput.{PsbtInput}
use Rattle.spec_tool.specs.Base64.{base64_bytes}
use Rattle.spec_tool.specs.Psbt.{Psbt, Pairing}
use Rattle.spec_tool.specs.PsbtBytes.{psbt_of}
use Rattle.spec_deal.specs.declared.signed.Signed.{Signed}
use Rattle.spec_deal.specs.declared.fault.SignatureReason.{SignatureReason}
use Rattle.spec_deal.specs.declared.fault.SignatureReason.TheVariants as reasons
use Rattle.spec_deal.specs.declared.fault.SignatureFault.TheVariants as faults
use Rattle.spec_deal.specs.Sizes.{most_signature_bytes}
use Rattle.spec_deal.specs.Shape.{is_strict}
use Rattle.spec_deal.specs.declared.transaction.Input.{Input}
use Rattle.spec_deal.specs.declared.transaction.Transaction.{Transaction}
use Rattle.spec_deal.specs.declared.transaction.Wallet.{Wallet}
use Rattle.spec_deal.specs.Setting.{no_key}
use Rattle.spec_deal.specs.Transactions.{Required, all_required, transaction, transactions}
use Rattle.spec_deal.specs.Transactions.{inputs as transaction_inputs}
use Rattle.spec_deal.specs.Verifier.{Verifier}
use Rattle.spec_deal.specs.SignatureFile.{Taken, same_place, is_required, is_verified, taken_first, refused_second, taken_once}
use Rattle.spec_deal.specs.SignatureFile.{take_signature, take_signatures, spent_fits, script_fits, witness_fits, final_signature}
use Rattle.spec_deal.specs.SignatureFile.{has_witness_form, has_strict_signature, verifies_beside, same_items, witness_taken_once}
use Rattle.spec_deal.specs.SignatureFile.{take_witness, take_final, take_key_input, take_wallet_input, take_input, take_inputs, has_bytes}
use Rattle.spec_deal.specs.SignatureFile.{take_transaction, take_psbt, take_bytes, take_words, take_lines, read_signatures}
use Rattle.theory_calculus.specs.Members.{Is_in}
use Rattle.theory_calculus.proofs.Members.{all_append, all_then, all_in, found}
use Rattle.theory_calculus.proofs.Names.{bytes-true, bytes_refl}
use Rattle.theory_deal.proofs.OfKeys.{no_wallet}
use Rattle.theory_deal.proofs.Shapes.{strict_has_shape, shape_is_short}
use Rattle.theory_deal.specs.Files.{SignaturesAreShaped}

-- wallets' inputs may be there, or this one isn't a wallet's
abbrev pub MayBe : Bool → Option Wallet → Type 0
MayBe wallets o = (wallets ≡ true) ⊎ (o ≡ None)

abbrev pub AllMayBe : Bool → List Input → Type 0
AllMayBe wallets is = AllByRecursion (λ (i : Input). MayBe wallets i.wallet) is

module _ (v : Verifier) (wallets : Bool) where
  -- whether it is a wallet's witness, by no key; or has the shape, and verifies
  abbrev pub is_sound : List Required → Signed → Bool
  is_sound required g =
      cond (is_filled g.witness) (wallets && (bytes_eq g.key no_key && bytes_eq g.signature [])) (is_strict g.signature && is_verified v required g)

  abbrev pub Sound : List Required → List Signed → Type 0
  Sound required given = list_all (is_sound required) given ≡ true

  -- what is taken is sound
  abbrev IsSound : {E : Type 0} → List Required → Result (List Signed) E → Type 0
  IsSound required (Ok given) = Sound required given
  IsSound required (Err reason) = Unit {0}

  first : (required : List Required) (given : List Signed) (g : Signed) (verified : Bool) → Sound required given
      → (verified ≡ true → is_sound required g ≡ true) → IsSound required (taken_first verified given g)
  first required given g true h k = all_append (is_sound required) given (g ∷ []) h (ap (λ (b : Bool). b && true) (k refl))
  first required given g false h k = tt

  second : (required : List Required) (given : List Signed) (g : Signed) (same verified : Bool) → Sound required given
      → IsSound {E = SignatureReason} required (cond same (Ok given) (refused_second verified g))
  second required given g true verified h = h
  second required given g false true h = tt
  second required given g false false h = tt

  -- ---- by keys

  abbrev by_key : List ℕ → ℕ → Pairing → Signed
  by_key tx k p = record { tx = tx; input = k; key = p.0; signature = p.1; witness = [] }

  once : (required : List Required) (given : List Signed) (g : Signed) (o : Option Signed) (verified : Bool) → Sound required given
      → (verified ≡ true → is_sound required g ≡ true) → IsSound required (taken_once verified given g o)
  once required given g None verified h k = first required given g verified h k
  once required given g (Some earlier) verified h k = second required given g (bytes_eq earlier.signature g.signature) verified h

  one : (required : List Required) (given : List Signed) (tx : List ℕ) (k : ℕ) (p : Pairing) → Sound required given
      → IsSound required (take_signature v required given (by_key tx k p))
  one required given tx k p h = by_test (is_required required g) (is_strict g.signature) refl
    where
      g : Signed
      g = by_key tx k p

      by_test : (a b : Bool) → is_strict g.signature ≡ b
          → IsSound required (cond (not a) (Err (reasons.Key g.input))
          (cond (not b) (Err (reasons.Signature g.input))
          (taken_once (is_verified v required g) given g (find (λ earlier. same_place earlier g) given))))
      by_test false b e = tt
      by_test true false e = tt
      by_test true true e =
          once required given g (find (λ earlier. same_place earlier g) given) (is_verified v required g) h
          (λ verified. and_from (is_strict g.signature) (is_verified v required g) e verified)

  several : (required : List Required) (tx : List ℕ) (k : ℕ) (given : List Signed) (ps : List Pairing) → Sound required given
      → IsSound required (take_signatures v required tx k given ps)
  several required tx k given [] h = h
  several required tx k given (p ∷ ps) h =
      by_taken (take_signature v required given (by_key tx k p)) (one required given tx k p h)
      (λ more m. several required tx k more ps m)
    where
      by_taken : (r : Taken) → IsSound required r
          → ((more : List Signed) → Sound required more → IsSound required (take_signatures v required tx k more ps))
          → IsSound {E = SignatureReason} required (elim r [ Ok more ↦ take_signatures v required tx k more ps | Err reason ↦ Err reason ])
      by_taken (Ok more) m go = go more m
      by_taken (Err reason) m go = tt

  key_input : (required : List Required) (tx : List ℕ) (k : ℕ) (given : List Signed) (i : Input) (input : PsbtInput) → Sound required given
      → IsSound required (take_key_input v required tx k given i input)
  key_input required tx k given i input h =
      by_test (spent_fits i.output input.spent) (script_fits i.spent.script input.script)
      (witness_fits i.spent.script input.witness)
    where
      by_test : (a b c : Bool)
          → IsSound required (cond (not a) (Err (reasons.Spent k)) (cond (not b) (Err (reasons.Script k)) (cond (not c) (Err (reasons.Witness k))
          (take_signatures v required tx k given (input.partial ++ final_signature i.spent.script input.witness)))))
      by_test false b c = tt
      by_test true false c = tt
      by_test true true false = tt
      by_test true true true = several required tx k given (input.partial ++ final_signature i.spent.script input.witness) h

  -- ---- by wallets

  abbrev handed : List ℕ → ℕ → List (List ℕ) → Signed
  handed tx k items = record { tx = tx; input = k; key = no_key; signature = []; witness = items }

  witness_once : (required : List Required) (given : List Signed) (g : Signed) (o : Option Signed) (verified : Bool) → Sound required given
      → is_sound required g ≡ true → IsSound required (witness_taken_once verified given g o)
  witness_once required given g None verified h k = first required given g verified h (λ e. k)
  witness_once required given g (Some earlier) verified h k = second required given g (same_items earlier.witness g.witness) verified h

  witness_sound : wallets ≡ true → (required : List Required) (tx : List ℕ) (k : ℕ) (items : List (List ℕ)) → is_filled items ≡ true
      → is_sound required (handed tx k items) ≡ true
  witness_sound all required tx k items f =
      let g = handed tx k items in
      ap (λ (b : Bool). cond b (wallets && (bytes_eq no_key no_key && bytes_eq [] [])) (is_strict g.signature && is_verified v required g)) f
      ∙ and_from wallets (bytes_eq no_key no_key && bytes_eq [] []) all
      (and_from (bytes_eq no_key no_key) (bytes_eq [] []) (bytes_refl no_key) refl)

  one_witness : wallets ≡ true → (required : List Required) (digest script : List ℕ) (given : List Signed) (tx : List ℕ) (k : ℕ)
      (items : List (List ℕ)) → Sound required given → IsSound required (take_witness v digest script given (handed tx k items))
  one_witness all required digest script given tx k items h =
      by_test (has_witness_form v script items) refl (has_strict_signature script items)
    where
      g : Signed
      g = handed tx k items

      by_test : (a : Bool) → has_witness_form v script items ≡ a → (b : Bool)
          → IsSound required (cond (not a) (Err (reasons.Witness g.input))
          (cond (not b) (Err (reasons.Signature g.input))
          (witness_taken_once (verifies_beside v digest script g.witness) given g (find (λ earlier. same_place earlier g) given))))
      by_test false e b = tt
      by_test true e false = tt
      by_test true e true =
          witness_once required given g (find (λ earlier. same_place earlier g) given) (verifies_beside v digest script g.witness) h
          (witness_sound all required tx k items (and_parts (is_filled items) _ e).0)

  wallet_input : wallets ≡ true → (required : List Required) (tx : List ℕ) (k : ℕ) (given : List Signed) (i : Input) (w : Wallet)
      (input : PsbtInput) → Sound required given → IsSound required (take_wallet_input v tx k given i w input)
  wallet_input all required tx k given i w input h = by_test (spent_fits i.output input.spent) input.witness
    where
      by_test : (a : Bool) (o : Option (List (List ℕ)))
          → IsSound required (cond (not a) (Err (reasons.Spent k)) (take_final v tx k given i w o))
      by_test false o = tt
      by_test true None = h
      by_test true (Some items) = one_witness all required i.digest w.script given tx k items h

  -- ---- inputs

  one_input : (required : List Required) (tx : List ℕ) (k : ℕ) (given : List Signed) (i : Input) (input : PsbtInput) → Sound required given
      → MayBe wallets i.wallet → IsSound required (take_input v required tx k given i input)
  one_input required tx k given i input h may = by_wallet i.wallet may
    where
      by_wallet : (o : Option Wallet) → MayBe wallets o
          → IsSound {E = SignatureReason} required (elim o [
            | None ↦ take_key_input v required tx k given i input
            | Some w ↦ take_wallet_input v tx k given i w input
          ])
      by_wallet None m = key_input required tx k given i input h
      by_wallet (Some w) (inl all) = wallet_input all required tx k given i w input h
      by_wallet (Some w) (inr e) = cc

  inputs : (required : List Required) (tx : List ℕ) (k : ℕ) (given : List Signed) (is : List Input) (ins : List PsbtInput)
      → Sound required given → AllMayBe wallets is → IsSound required (take_inputs v required tx k given is ins)
  inputs required tx k given [] ins h may = h
  inputs required tx k given (i ∷ is) [] h may = h
  inputs required tx k given (i ∷ is) (input ∷ ins) h may =
      by_taken (take_input v required tx k given i input) (one_input required tx k given i input h may.0)
      (λ more m. inputs required tx (k + 1) more is ins m may.1)
    where
      by_taken : (r : Taken) → IsSound required r
          → ((more : List Signed) → Sound required more → IsSound required (take_inputs v required tx (k + 1) more is ins))
          → IsSound {E = SignatureReason} required (elim r [
            | Ok more ↦ take_inputs v required tx
                (k + 1) more is ins
            | Err reason ↦ Err reason
          ])
      by_taken (Ok more) m go = go more m
      by_taken (Err reason) m go = tt

  -- the inputs of all transactions may be so
  abbrev pub AllOf : List Transaction → Type 0
  AllOf ts = (t : Transaction) → Is_in t ts → AllMayBe wallets t.inputs

  of_transaction : (ts : List Transaction) (given : List Signed) (p : Psbt) (o : Option Transaction) → Sound (all_required ts) given
      → ((t : Transaction) → o ≡ Some t → AllMayBe wallets t.inputs)
      → IsSound (all_required ts) (take_transaction v (all_required ts) given p o)
  of_transaction ts given p None h may = tt
  of_transaction ts given p (Some t) h may = inputs (all_required ts) (stripped p.tx) 0 given t.inputs p.inputs h (may t refl)

  module _ (ts : List Transaction) (may : AllOf ts) where
    of_psbt : (given : List Signed) (o : Option Psbt) → Sound (all_required ts) given → IsSound (all_required ts) (take_psbt v ts given o)
    of_psbt given None h = tt
    of_psbt given (Some p) h =
        of_transaction ts given p (find (has_bytes (stripped p.tx)) ts) h
        (λ t e. may t (found (has_bytes (stripped p.tx)) ts t e).0)

    of_bytes : (given : List Signed) (o : Option (List ℕ)) → Sound (all_required ts) given
        → IsSound (all_required ts) (take_bytes v ts given o)
    of_bytes given None h = tt
    of_bytes given (Some bytes) h = of_psbt given (psbt_of bytes) h

    of_words : (given : List Signed) (words : List (List ℕ)) → Sound (all_required ts) given
        → IsSound (all_required ts) (take_words v ts given words)
    of_words given [] h = h
    of_words given (word ∷ []) h = of_bytes given (base64_bytes word) h
    of_words given (word ∷ (next ∷ words)) h = tt

    of_lines : (given : List Signed) (n : ℕ) (lines : List (List ℕ)) → Sound (all_required ts) given
        → IsSound (all_required ts) (take_lines v ts given n lines)
    of_lines given n [] h = h
    of_lines given n (line ∷ lines) h =
        by_taken (take_words v ts given (words_of line)) (of_words given (words_of line) h) (λ more m. of_lines more (n + 1) lines m)
      where
        by_taken : (r : Taken) → IsSound (all_required ts) r
            → ((more : List Signed) → Sound (all_required ts) more → IsSound (all_required ts) (take_lines v ts more (n + 1) lines))
            → IsSound (all_required ts) (elim r [ Ok more ↦ take_lines v ts more (n + 1) lines | Err reason ↦ Err (faults.Line n reason) ])
        by_taken (Ok more) m go = go more m
        by_taken (Err reason) m go = tt

-- ---- files

pub sound : (v : Verifier) (wallets : Bool) (hash : List ℕ → List ℕ) (keys : Keys) (s : Instance) (text : List ℕ) (given : List Signed)
    → AllOf v wallets (transactions hash keys s) → read_signatures v hash keys s text ≡ Ok given
    → Sound v wallets (all_required (transactions hash keys s)) given
sound v wallets hash keys s text given may e = by_size (nat_lt most_signature_bytes (length text)) e
  where
    by_size : (b : Bool) → cond b (Err faults.Size) (take_lines v (transactions hash keys s) [] 1 (lines_of text)) ≡ Ok given
        → Sound v wallets (all_required (transactions hash keys s)) given
    by_size true k = cc
    by_size false k =
        subst (IsSound v wallets (all_required (transactions hash keys s))) k
        (of_lines v wallets (transactions hash keys s) may [] 1 (lines_of text) refl)

-- any input may be a wallet's
any_inputs : (is : List Input) → AllMayBe true is
any_inputs [] = tt
any_inputs (i ∷ is) = (inl refl, any_inputs is)

pub any_sound : (v : Verifier) (hash : List ℕ → List ℕ) (keys : Keys) (s : Instance) (text : List ℕ) (given : List Signed)
    → read_signatures v hash keys s text ≡ Ok given → Sound v true (all_required (transactions hash keys s)) given
any_sound v hash keys s text given e = sound v true hash keys s text given (λ t i. any_inputs t.inputs) e

-- where all deposits are of keys, none is
module _ (hash : List ℕ → List ℕ) (keys : Keys) (s : Instance) (of_keys : AreKeyDeposits keys) where
  no_inputs : (l : Listed) (k : ℕ) (spends : List Spent) (signers : List (List Label))
      → AllMayBe false (transaction_inputs hash keys s.advert l k spends signers)
  no_inputs l k [] signers = tt
  no_inputs l k (spent ∷ spends) [] = (inr (no_wallet keys of_keys s.advert l.which k), no_inputs l (k + 1) spends [])
  no_inputs l k (spent ∷ spends) (labels ∷ signers) =
      (inr (no_wallet keys of_keys s.advert l.which k), no_inputs l (k + 1) spends signers)

  no_wallets : (ls : List Listed) (t : Transaction) → Is_in t (map (transaction hash keys s.advert) ls) → AllMayBe false t.inputs
  no_wallets [] t i = absurd i
  no_wallets (l ∷ ls) t (inl e) =
      subst (λ (x : Transaction). AllMayBe false x.inputs) (sym e) (no_inputs l 0 l.pending.spends l.signers)
  no_wallets (l ∷ ls) t (inr i) = no_wallets ls t i

  pub keys_sound : (v : Verifier) (text : List ℕ) (given : List Signed) → read_signatures v hash keys s text ≡ Ok given
      → Sound v false (all_required (transactions hash keys s)) given
  keys_sound v text given e = sound v false hash keys s text given (no_wallets (listed hash keys s)) e

-- what is known of each that was read
module _ (v : Verifier) (required : List Required) (g : Signed) where
  abbrev judged : Bool → Bool
  judged b = cond b (true && (bytes_eq g.key no_key && bytes_eq g.signature [])) (is_strict g.signature && is_verified v required g)

  shaped : (b : Bool) → judged b ≡ true → (b || is_strict g.signature) ≡ true
  shaped true h = refl
  shaped false h = (and_parts (is_strict g.signature) (is_verified v required g) h).0

  is_few : (b : Bool) → judged b ≡ true → length g.signature ≤ 73
  is_few true h =
      let none = bytes-true g.signature [] (and_parts (bytes_eq g.key no_key) (bytes_eq g.signature []) h).1 in
      subst (λ (x : List ℕ). length x ≤ 73) (sym none) (omega arith)
  is_few false h =
      shape_is_short g.signature (strict_has_shape g.signature (and_parts (is_strict g.signature) (is_verified v required g) h).0)

  is_shorter : (b : Bool) → judged b ≡ true → is_short g.signature ≡ true
  is_shorter b h = let n = is_few b h in grind (arith, n)

pub signatures_are_shaped : SignaturesAreShaped
signatures_are_shaped v hash keys s text given e =
    let required = all_required (transactions hash keys s) in
    let all = any_sound v hash keys s text given e in
    record {
      strict = all_then (is_sound v true required) (λ (g : Signed). is_filled g.witness || is_strict g.signature) given
          (λ g h. shaped v required g (is_filled g.witness) h) all;
      short = all_then (is_sound v true required) (λ (g : Signed). is_short g.signature) given
          (λ g h. is_shorter v required g (is_filled g.witness) h) all;
    }

-- none has more bytes than one of the shape
pub signatures_few : (v : Verifier) (hash : List ℕ → List ℕ) (keys : Keys) (s : Instance) (text : List ℕ) (given : List Signed)
    → read_signatures v hash keys s text ≡ Ok given → (g : Signed) → Is_in g given → length g.signature ≤ 73
signatures_few v hash keys s text given e g i =
    let required = all_required (transactions hash keys s) in
    is_few v required g (is_filled g.witness)
    (all_in (is_sound v true required) given g (any_sound v hash keys s text given e) i)
