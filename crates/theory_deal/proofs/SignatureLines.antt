-- A file of signatures comes to what its lines come to.
use Rattle.std.proofs.Common.{◌≡◌, ℕ, ◌+◌, ◌<◌, ◌≤◌, List, [], ◌∷◌, ◌++◌, length, Bool, true, false, not, Option, Some, None, refl, sym, ap, subst, ◌∙◌, cond, arith, inl, inr}
use Rattle.std.specs.Prelude.{Decides, ◌↔◌, ◌⊎◌, nat_lt, Result, Ok, Err, ◌&&◌, ◌||◌, ◌==◌, take, slice_index, if◌then◌else◌}
use Rattle.std.specs.List.{find}
use Rattle.std.specs.Str.{bytes_eq}
use Rattle.std.proofs.lemmas.Bool.{and_parts, and_from, false≢true}
use Rattle.std.proofs.lemmas.Bool.Decides.{nat_tests, Decides-and, Decides-or, Decides-not, Decides-eqb, Decides-like}
use Rattle.std.proofs.lemmas.Slice.Eq.{bytes_eq-Decides}
use Rattle.spec_bitcoin.specs.declared.tx.TxOut.{TxOut}
use Rattle.spec_bitcoin.specs.Keys.{key_bytes, deposit_script}
use Rattle.spec_bitcoin.specs.Spelling.{IsBytes, stripped, is_filled}
use Rattle.spec_compiler.specs.Keyed.OwnScripts.{pays_to_key_hash}
use Rattle.spec_run.specs.Ledger.{same_output}
use Rattle.spec_text.specs.Lines.{lines_of, words_of}
use Rattle.spec_tool.specs.declared.psbt.PsbtInput.{PsbtInput}
use Rattle.spec_tool.specs.Base64.{base64_bytes, base64_text}
use Rattle.spec_tool.specs.Psbt.{Psbt, Pairing, Spells}
use Rattle.spec_tool.specs.PsbtBytes.{psbt_of}
use Rattle.spec_deal.specs.declared.signed.Signed.{Signed}
use Rattle.spec_deal.specs.declared.fault.SignatureReason.{SignatureReason}
use Rattle.spec_deal.specs.declared.fault.SignatureReason.TheVariants as reasons
use Rattle.spec_deal.specs.declared.fault.SignatureFault.{SignatureFault}
use Rattle.spec_deal.specs.declared.fault.SignatureFault.TheVariants as faults
use Rattle.spec_deal.specs.Sizes.{most_signature_bytes}
use Rattle.spec_deal.specs.Shape.{HasShape, is_strict}
use Rattle.spec_deal.specs.declared.transaction.Input.{Input}
use Rattle.spec_deal.specs.declared.transaction.Transaction.{Transaction}
use Rattle.spec_deal.specs.Transactions.{Required, all_required, is_at, transactions}
use Rattle.spec_deal.specs.Verifier.{Verifier}
use Rattle.spec_deal.specs.SignatureFile.{Taken, same_place, verifies_if, is_verified, taken_first, refused_second, taken_once}
use Rattle.spec_deal.specs.SignatureFile.{is_taproot_signature, shows_a_key, may_be_taproot, has_witness_form, has_strict_signature}
use Rattle.spec_deal.specs.SignatureFile.{verifies_beside, same_items, witness_taken_once, take_witness, take_final}
use Rattle.spec_deal.specs.SignatureFile.{take_key_input, take_wallet_input}
use Rattle.spec_deal.specs.DealFile.{is_compressed}
use Rattle.spec_deal.specs.Payable.{has_taproot_form}
use Rattle.spec_deal.specs.Wallets.{first_item, second_item}
use Rattle.spec_deal.specs.declared.transaction.Wallet.{Wallet}
use Rattle.spec_deal.specs.SignatureFile.{take_signature, take_signatures, script_key, is_one_key, spent_fits, script_fits, witness_fits}
use Rattle.spec_deal.specs.SignatureFile.{final_signature, take_input, take_inputs, has_bytes, take_transaction, take_psbt, take_bytes}
use Rattle.spec_deal.specs.SignatureFile.{take_words, take_lines, read_given}
use Rattle.theory_psbt.proofs.Reading.{spelled_is_read, read_is_spelled}
use Rattle.theory_psbt.proofs.Base64ReadBack.{text_reads}
use Rattle.theory_psbt.proofs.Base64OnlyWritten.{bytes_only}
use Rattle.theory_deal.specs.FirstOf.{NoneIs, IsFirst}
use Rattle.theory_deal.specs.SignatureLines.{IfSo, IfAny, IfOne, IsThen, IsFor, Verifies, IsInPlace, FirstTaken, SecondTaken, SignatureTaken}
use Rattle.theory_deal.specs.SignatureLines.{signed_by, SignaturesTaken, SaysOther, FinalGives, KeyInputTaken, ShowsKey, MayBeTaproot}
use Rattle.theory_deal.specs.SignatureLines.{CanSpend, VerifiesBeside, WitnessTaken, witnessed_by, FinalTaken, WalletInputTaken}
use Rattle.theory_deal.specs.SignatureLines.{InputTakenBy, InputTaken, InputsTaken, IsCoded, HasBytes}
use Rattle.theory_deal.specs.SignatureLines.{PsbtTaken, BytesTaken, WordsTaken, SignaturesCome, SignaturesAre, SignatureFilesAreRead}
use Rattle.theory_deal.proofs.FirstOf.{refuted, is_false, none_found, none_finds, found_first, first_found, none_any, each_is}
use Rattle.theory_deal.proofs.DealLines.{compressed}
use Rattle.theory_deal.proofs.Shapes.{shape_exactly}

-- ---- cases

module _ {R : Type 0} (read : R) where
  same : (x : R) → (x ≡ read) ↔ (read ≡ x)
  same x = (λ e. sym e, λ e. sym e)

  -- a test
  if_so : {P A B : Type 0} (b : Bool) (x y : R) → Decides b P → (x ≡ read) ↔ A → (y ≡ read) ↔ B → (cond b x y ≡ read) ↔ IfSo P A B
  if_so {P} {A} {B} b x y d f g = (to b d, back)
    where
      to : (c : Bool) → Decides c P → cond c x y ≡ read → IfSo P A B
      to true k e = inl (k.0 refl, f.0 e)
      to false k e = inr (refuted false k refl, g.0 e)

      back : IfSo P A B → cond b x y ≡ read
      back (inl h) = ap (λ (c : Bool). cond c x y) (d.1 h.0) ∙ f.1 h.1
      back (inr h) = ap (λ (c : Bool). cond c x y) (is_false b d h.0) ∙ g.1 h.1

  -- a search
  if_any : {X A : Type 0} (P : X → Type 0) (B : X → Type 0) (p : X → Bool) (d : (x : X) → Decides (p x) (P x)) (xs : List X)
      (f : Option X → R) → (f None ≡ read) ↔ A → ((x : X) → (f (Some x) ≡ read) ↔ B x) → (f (find p xs) ≡ read) ↔ IfAny P xs A B
  if_any {X} {A} P B p d xs f none some = (to (find p xs) refl, back)
    where
      to : (o : Option X) → find p xs ≡ o → f o ≡ read → IfAny P xs A B
      to None e k = inl (none_found p P d xs e, none.0 k)
      to (Some x) e k = inr (x, found_first p P d xs x e, (some x).0 k)

      back : IfAny P xs A B → f (find p xs) ≡ read
      back (inl h) = ap f (none_finds p P d xs h.0) ∙ none.1 h.1
      back (inr h) = ap f (first_found p P d xs h.0 h.1) ∙ (some h.0).1 h.2

  -- an option that has exactly what passes
  if_one : {X A : Type 0} (P : X → Type 0) (B : X → Type 0) (o : Option X) (f : Option X → R) → ((x : X) → (o ≡ Some x) ↔ P x)
      → (f None ≡ read) ↔ A → ((x : X) → P x → (f (Some x) ≡ read) ↔ B x) → (f o ≡ read) ↔ IfOne P A B
  if_one {X} {A} P B o f found none some = (to o refl, back)
    where
      no_some : (x : X) → None ≡ Some x → ⊥
      no_some x k = cc

      to : (q : Option X) → o ≡ q → f q ≡ read → IfOne P A B
      to None e k = inl (λ x h. no_some x (sym e ∙ (found x).1 h), none.0 k)
      to (Some x) e k = let h = (found x).0 e in inr (x, h, (some x h).0 k)

      is_none : (q : Option X) → o ≡ q → ((x : X) → P x → ⊥) → o ≡ None
      is_none None e h = e
      is_none (Some x) e h = absurd (h x ((found x).0 e))

      back : IfOne P A B → f o ≡ read
      back (inl h) = ap f (is_none o refl h.0) ∙ none.1 h.1
      back (inr h) = ap f ((found h.0).1 h.1) ∙ (some h.0 h.1).1 h.2

  -- a first step
  is_then : (Step : Taken → Type 0) (A : List Signed → Type 0) (B : SignatureReason → Type 0) (first : Taken) (f : Taken → R)
      → ((q : Taken) → (first ≡ q) ↔ Step q) → ((more : List Signed) → (f (Ok more) ≡ read) ↔ A more)
      → ((reason : SignatureReason) → (f (Err reason) ≡ read) ↔ B reason) → (f first ≡ read) ↔ IsThen Step A B
  is_then Step A B first f step goes ends = (to first refl, back)
    where
      to : (q : Taken) → first ≡ q → f q ≡ read → IsThen Step A B
      to (Ok more) e k = inl (more, (step (Ok more)).0 e, (goes more).0 k)
      to (Err reason) e k = inr (reason, (step (Err reason)).0 e, (ends reason).0 k)

      back : IsThen Step A B → f first ≡ read
      back (inl h) = ap f ((step (Ok h.0)).1 h.1) ∙ (goes h.0).1 h.2
      back (inr h) = ap f ((step (Err h.0)).1 h.1) ∙ (ends h.0).1 h.2

-- ---- tests

implies : {P Q : Type 0} (a b : Bool) → Decides a P → Decides b Q → Decides (not a || b) (P → Q)
implies true b d k = (λ e h. k.0 e, λ f. k.1 (f (d.0 refl)))
implies false b d k = (λ e h. absurd (refuted false d refl h), λ f. refl)

is_true : (b : Bool) → Decides b (b ≡ true)
is_true b = (λ e. e, λ e. e)

for_decides : (g : Signed) (w : Required) → Decides (is_at w.spot g) (IsFor g w)
for_decides g w =
    Decides-and (bytes_eq g.tx w.spot.tx) ((g.input == w.spot.input) && bytes_eq g.key w.spot.key) (bytes_eq-Decides g.tx w.spot.tx)
    (Decides-and (g.input == w.spot.input) (bytes_eq g.key w.spot.key) (Decides-eqb g.input w.spot.input)
    (bytes_eq-Decides g.key w.spot.key))

place_decides : (g earlier : Signed) → Decides (same_place earlier g) (IsInPlace g earlier)
place_decides g earlier =
    Decides-and (bytes_eq earlier.tx g.tx) ((earlier.input == g.input) && bytes_eq earlier.key g.key) (bytes_eq-Decides earlier.tx g.tx)
    (Decides-and (earlier.input == g.input) (bytes_eq earlier.key g.key) (Decides-eqb earlier.input g.input)
    (bytes_eq-Decides earlier.key g.key))

output_decides : (a b : TxOut) → Decides (same_output a b) (a ≡ b)
output_decides a b =
    Decides-like (same_output a b) (λ h. λ i. record { value = h.0 i; script = h.1 i })
    (λ e. (ap (λ (x : TxOut). x.value) e, ap (λ (x : TxOut). x.script) e))
    (Decides-and (a.value == b.value) (bytes_eq a.script b.script) (Decides-eqb a.value b.value) (bytes_eq-Decides a.script b.script))

other_output : (output : TxOut) (said : Option TxOut) → Decides (not (spent_fits output said)) (SaysOther output said)
other_output output None = (λ e. false≢true e, λ h. absurd h)
other_output output (Some said) = Decides-not (same_output said output) (output_decides said output)

other_script : (script : List ℕ) (said : Option (List ℕ)) → Decides (not (script_fits script said)) (SaysOther script said)
other_script script None = (λ e. false≢true e, λ h. absurd h)
other_script script (Some said) = Decides-not (bytes_eq said script) (bytes_eq-Decides said script)

-- ---- what is taken

first_taken : {P : Type 0} (b : Bool) → Decides b P → (given : List Signed) (g : Signed) (taken : Taken)
    → (taken_first b given g ≡ taken) ↔ FirstTaken P given g taken
first_taken b d given g taken =
    if_so taken b (Ok (given ++ g ∷ [])) (Err (reasons.Invalid g.input)) d (same taken (Ok (given ++ g ∷ [])))
    (same taken (Err (reasons.Invalid g.input)))

second_taken : {P Q : Type 0} (b c : Bool) → Decides b P → Decides c Q → (given : List Signed) (g : Signed) (taken : Taken)
    → (cond c (Ok given) (refused_second b g) ≡ taken) ↔ SecondTaken P Q given g taken
second_taken b c d e given g taken =
    if_so taken c (Ok given) (refused_second b g) e (same taken (Ok given))
    (if_so taken b (Err (reasons.Conflict g.input)) (Err (reasons.Invalid g.input)) d (same taken (Err (reasons.Conflict g.input)))
    (same taken (Err (reasons.Invalid g.input))))

-- ---- a signature

module _ (v : Verifier) (required : List Required) where
  verified_decides : (g : Signed) → Decides (is_verified v required g) (Verifies v required g)
  verified_decides g =
      each_is (verifies_if v g) (λ (w : Required). IsFor g w → v.is_signature g.key w.digest g.signature ≡ true)
      (λ w. implies (is_at w.spot g) (v.is_signature g.key w.digest g.signature) (for_decides g w)
      (is_true (v.is_signature g.key w.digest g.signature))) required

  abbrev tx_at : Signed → Required → Bool
  tx_at g w = is_at w.spot g

  abbrev in_place : Signed → Signed → Bool
  in_place g earlier = same_place earlier g

  signature_taken : (given : List Signed) (g : Signed) (taken : Taken)
      → (take_signature v required given g ≡ taken) ↔ SignatureTaken v required given g taken
  signature_taken given g taken =
      if_so taken _ (Err (reasons.Key g.input))
      (cond (not (is_strict g.signature)) (Err (reasons.Signature g.input))
      (taken_once (is_verified v required g) given g (find (in_place g) given)))
      (none_any (tx_at g) (IsFor g) (for_decides g) required) (same taken (Err (reasons.Key g.input)))
      (if_so taken (not (is_strict g.signature)) (Err (reasons.Signature g.input))
      (taken_once (is_verified v required g) given g (find (in_place g) given))
      (Decides-not (is_strict g.signature) (shape_exactly g.signature)) (same taken (Err (reasons.Signature g.input)))
      (if_any taken (IsInPlace g) (λ earlier. SecondTaken (Verifies v required g) (earlier.signature ≡ g.signature) given g taken)
      (in_place g) (place_decides g) given (taken_once (is_verified v required g) given g)
      (first_taken (is_verified v required g) (verified_decides g) given g taken)
      (λ earlier. second_taken (is_verified v required g) (bytes_eq earlier.signature g.signature) (verified_decides g)
      (bytes_eq-Decides earlier.signature g.signature) given g taken)))

  signatures_taken : (tx : List ℕ) (k : ℕ) (given : List Signed) (ps : List Pairing) (taken : Taken)
      → (take_signatures v required tx k given ps ≡ taken) ↔ SignaturesTaken v required tx k given ps taken
  signatures_taken tx k given [] taken = same taken (Ok given)
  signatures_taken tx k given (p ∷ ps) taken =
      is_then taken (SignatureTaken v required given (signed_by tx k p)) (λ more. SignaturesTaken v required tx k more ps taken)
      (λ reason. taken ≡ Err reason) (take_signature v required given (signed_by tx k p))
      (λ (r : Taken). elim r [ Ok more ↦ take_signatures v required tx k more ps | Err reason ↦ Err reason ])
      (λ q. signature_taken given (signed_by tx k p) q) (λ more. signatures_taken tx k more ps taken) (λ reason. same taken (Err reason))

-- ---- a witness of a wallet's

-- words of bytes are the same
items_decide : (xs ys : List (List ℕ)) → Decides (same_items xs ys) (xs ≡ ys)
items_decide [] [] = (λ e. refl, λ e. refl)
items_decide [] (y ∷ ys) = (λ e. absurd (false≢true e), λ e. cc)
items_decide (x ∷ xs) [] = (λ e. absurd (false≢true e), λ e. cc)
items_decide (x ∷ xs) (y ∷ ys) =
    Decides-like (same_items (x ∷ xs) (y ∷ ys)) (λ h. λ i. h.0 i ∷ h.1 i) parts
    (Decides-and (bytes_eq x y) (same_items xs ys) (bytes_eq-Decides x y) (items_decide xs ys))
  where
    parts : x ∷ xs ≡ y ∷ ys → (x ≡ y) × (xs ≡ ys)
    parts e = (cc, cc)

-- where a test is so, another
when : {P : Type 0} (a b : Bool) → Decides b P → Decides (not a || b) (a ≡ true → P)
when true b d = (λ e h. d.0 e, λ f. d.1 (f refl))
when false b d = (λ e h. cc, λ f. refl)

filled_decides : (items : List (List ℕ)) → Decides (is_filled items) (items ≡ [] → ⊥)
filled_decides [] = (λ e. absurd (false≢true e), λ h. absurd (h refl))
filled_decides (x ∷ items) = (λ e k. no_items k, λ h. refl)
  where
    no_items : x ∷ items ≡ [] → ⊥
    no_items k = cc

shows_decides : (v : Verifier) (items : List (List ℕ)) → Decides (shows_a_key v items) (ShowsKey v items)
shows_decides v [] = (λ e. absurd (false≢true e), λ h. cc)
shows_decides v (x ∷ []) = (λ e. absurd (false≢true e), λ h. let k = h.2 in cc)
shows_decides v (x ∷ (y ∷ [])) = (
  λ e.
      let p = and_parts (is_compressed y) (v.is_point y) e in
      (x, y, refl, (compressed y).0 p.0, p.1),
  λ h.
      let same : y ≡ h.1 = second h.0 h.1 h.2 in
      and_from (is_compressed y) (v.is_point y) (ap is_compressed same ∙ (compressed h.1).1 h.3) (ap v.is_point same ∙ h.4),
)
  where
    second : (a b : List ℕ) → x ∷ y ∷ [] ≡ a ∷ b ∷ [] → y ≡ b
    second a b e = cc
shows_decides v (x ∷ (y ∷ (z ∷ items))) = (λ e. absurd (false≢true e), λ h. let k = h.2 in cc)

taproot_decides : (items : List (List ℕ)) → Decides (may_be_taproot items) (MayBeTaproot items)
taproot_decides [] = (λ e item k. cc, λ f. refl)
taproot_decides (x ∷ []) = (λ e item k. subst abbrev_is (first item k) (d.0 e), λ f. d.1 (f x refl))
  where
    abbrev_is : List ℕ → Type 0
    abbrev_is item = (length item ≡ 64) ⊎ ((length item ≡ 65) × (slice_index item 64 ≡ 1))

    d : Decides (is_taproot_signature x) (abbrev_is x)
    d =
        Decides-or (length x == 64) (length x == 65 && slice_index x 64 == 1) (Decides-eqb (length x) 64)
        (Decides-and (length x == 65) (slice_index x 64 == 1) (Decides-eqb (length x) 65) (Decides-eqb (slice_index x 64) 1))

    first : (item : List ℕ) → x ∷ [] ≡ item ∷ [] → x ≡ item
    first item e = cc
taproot_decides (x ∷ (y ∷ items)) = (λ e item k. cc, λ f. refl)

-- no script is of both kinds
not_both : (script : List ℕ) → pays_to_key_hash script ≡ true → has_taproot_form script ≡ true → ⊥
not_both [] h k = cc
not_both (a ∷ []) h k = cc
not_both (a ∷ (b ∷ program)) h k =
    let p = (Decides-eqb a 0).0 (and_parts (a == 0) (b == 20 && length program == 20) h).0 in
    let q = (Decides-eqb a 81).0 (and_parts (a == 81) (b == 32 && length program == 32) k).0 in
    absurd (omega (arith, p, q))

pub can_spend : (v : Verifier) (script : List ℕ) (items : List (List ℕ)) → Decides (has_witness_form v script items) (CanSpend v script items)
can_spend v script items = (to, from)
  where
    by_kind : (a b : Bool) → pays_to_key_hash script ≡ a → has_taproot_form script ≡ b
        → (if a then shows_a_key v items else if b then may_be_taproot items else true) ≡ true
        → (pays_to_key_hash script ≡ true → ShowsKey v items) × (has_taproot_form script ≡ true → MayBeTaproot items)
    by_kind true b e f h = (λ k. (shows_decides v items).0 h, λ k. absurd (not_both script e k))
    by_kind false true e f h = (λ k. absurd (false≢true (sym e ∙ k)), λ k. (taproot_decides items).0 h)
    by_kind false false e f h = (λ k. absurd (false≢true (sym e ∙ k)), λ k. absurd (false≢true (sym f ∙ k)))

    of_kind : (a b : Bool) → pays_to_key_hash script ≡ a → has_taproot_form script ≡ b → CanSpend v script items
        → (if a then shows_a_key v items else if b then may_be_taproot items else true) ≡ true
    of_kind true b e f h = (shows_decides v items).1 (h.key_hash e)
    of_kind false true e f h = (taproot_decides items).1 (h.taproot f)
    of_kind false false e f h = refl

    to : has_witness_form v script items ≡ true → CanSpend v script items
    to h =
        let p = and_parts (is_filled items) _ h in
        let k = by_kind (pays_to_key_hash script) (has_taproot_form script) refl refl p.1 in
        record { some = (filled_decides items).0 p.0; key_hash = k.0; taproot = k.1 }

    from : CanSpend v script items → has_witness_form v script items ≡ true
    from h =
        and_from (is_filled items) _ ((filled_decides items).1 h.some)
        (of_kind (pays_to_key_hash script) (has_taproot_form script) refl refl h)

witness_taken : (v : Verifier) (digest script : List ℕ) (given : List Signed) (g : Signed) (taken : Taken)
    → (take_witness v digest script given g ≡ taken) ↔ WitnessTaken v digest script given g taken
witness_taken v digest script given g taken =
    let verified = verifies_beside v digest script g.witness in
    let good = when (pays_to_key_hash script) (v.is_signature (second_item g.witness) digest (first_item g.witness))
    (is_true (v.is_signature (second_item g.witness) digest (first_item g.witness))) in
    let last : Taken = witness_taken_once verified given g (find (λ earlier. same_place earlier g) given) in
    if_so taken (not (has_witness_form v script g.witness)) (Err (reasons.Witness g.input))
    (cond (not (has_strict_signature script g.witness)) (Err (reasons.Signature g.input)) last)
    (Decides-not (has_witness_form v script g.witness) (can_spend v script g.witness)) (same taken (Err (reasons.Witness g.input)))
    (if_so taken (not (has_strict_signature script g.witness)) (Err (reasons.Signature g.input)) last
    (Decides-not (has_strict_signature script g.witness)
    (when (pays_to_key_hash script) (is_strict (first_item g.witness)) (shape_exactly (first_item g.witness))))
    (same taken (Err (reasons.Signature g.input)))
    (if_any taken (IsInPlace g) (λ earlier. SecondTaken (VerifiesBeside v digest script g.witness) (earlier.witness ≡ g.witness) given g taken)
    (λ earlier. same_place earlier g) (place_decides g) given (witness_taken_once verified given g)
    (first_taken verified good given g taken)
    (λ earlier. second_taken verified (same_items earlier.witness g.witness) good (items_decide earlier.witness g.witness) given g taken)))

-- ---- an input

prefix : (xs ys : List ℕ) → take (length xs) (xs ++ ys) ≡ xs
prefix [] ys = refl
prefix (x ∷ xs) ys = ap (λ (zs : List ℕ). x ∷ zs) (prefix xs ys)

key_is : (key : List ℕ) → length key ≡ key_bytes → script_key (deposit_script key) ≡ key
key_is key e = ap (λ (n : ℕ). take n (key ++ 172 ∷ [])) (sym e) ∙ prefix key (172 ∷ [])

one_key : (key : List ℕ) → length key ≡ key_bytes → is_one_key (deposit_script key) ≡ true
one_key key e =
    and_from (length (script_key (deposit_script key)) == key_bytes)
    (bytes_eq (deposit_script key) (deposit_script (script_key (deposit_script key))))
    ((Decides-eqb (length (script_key (deposit_script key))) key_bytes).1 (ap (λ (xs : List ℕ). length xs) (key_is key e) ∙ e))
    ((bytes_eq-Decides (deposit_script key) (deposit_script (script_key (deposit_script key)))).1
    (ap deposit_script (sym (key_is key e))))

-- the signatures of a final witness that is one
abbrev final_of : List ℕ → Option (List (List ℕ)) → Bool → Option (List Pairing)
final_of script witness true = Some (final_signature script witness)
final_of script witness false = None

none_pairs : (ps : List Pairing) → None ≡ Some ps → ⊥
none_pairs ps e = cc

same_pairs : (xs ps : List Pairing) → Some xs ≡ Some ps → ps ≡ xs
same_pairs xs ps e = cc

module _ (script : List ℕ) where
  two_items : (signature shown : List ℕ) (ps : List Pairing)
      → (final_of script (Some (signature ∷ shown ∷ [])) (bytes_eq shown script && is_one_key script) ≡ Some ps)
      ↔ FinalGives script (Some (signature ∷ shown ∷ [])) ps
  two_items signature shown ps = (to (bytes_eq shown script && is_one_key script) refl, back)
    where
      to : (b : Bool) → (bytes_eq shown script && is_one_key script) ≡ b
          → final_of script (Some (signature ∷ shown ∷ [])) b ≡ Some ps → FinalGives script (Some (signature ∷ shown ∷ [])) ps
      to true e k =
          let p = and_parts (bytes_eq shown script) (is_one_key script) e in
          let q = and_parts (length (script_key script) == key_bytes) (bytes_eq script (deposit_script (script_key script))) p.1 in (
            script_key script,
            (Decides-eqb (length (script_key script)) key_bytes).0 q.0,
            (bytes_eq-Decides script (deposit_script (script_key script))).0 q.1,
            (bytes_eq-Decides shown script).0 p.0,
            same_pairs ((script_key script, signature) ∷ []) ps k,
          )
      to false e k = absurd (none_pairs ps k)

      back : FinalGives script (Some (signature ∷ shown ∷ [])) ps
          → final_of script (Some (signature ∷ shown ∷ [])) (bytes_eq shown script && is_one_key script) ≡ Some ps
      back h =
          let fits : (bytes_eq shown script && is_one_key script) ≡ true =
          and_from (bytes_eq shown script) (is_one_key script) ((bytes_eq-Decides shown script).1 h.3) (ap is_one_key h.2 ∙ one_key h.0 h.1)
          in
          let key : script_key script ≡ h.0 = ap script_key h.2 ∙ key_is h.0 h.1 in
          ap (final_of script (Some (signature ∷ shown ∷ []))) fits
          ∙ ap (λ (x : List ℕ). Some ((x, signature) ∷ [])) key
          ∙ ap (λ (xs : List Pairing). Some xs) (sym h.4)

  final_found : (witness : Option (List (List ℕ))) (ps : List Pairing)
      → (final_of script witness (witness_fits script witness) ≡ Some ps) ↔ FinalGives script witness ps
  final_found None ps = (λ e. same_pairs [] ps e, λ e. ap (λ (xs : List Pairing). Some xs) (sym e))
  final_found (Some []) ps = (λ e. none_pairs ps e, λ h. absurd h)
  final_found (Some (signature ∷ [])) ps = (λ e. none_pairs ps e, λ h. absurd h)
  final_found (Some (signature ∷ (shown ∷ []))) ps = two_items signature shown ps
  final_found (Some (signature ∷ (shown ∷ (item ∷ items)))) ps = (λ e. none_pairs ps e, λ h. absurd h)

module _ (v : Verifier) (required : List Required) (tx : List ℕ) where
  abbrev by_final : ℕ → List Signed → PsbtInput → Option (List Pairing) → Taken
  by_final k given input None = Err (reasons.Witness k)
  by_final k given input (Some ps) = take_signatures v required tx k given (input.partial ++ ps)

  by_fit : (k : ℕ) (given : List Signed) (script : List ℕ) (input : PsbtInput) (b : Bool)
      → by_final k given input (final_of script input.witness b)
      ≡ cond (not b) (Err (reasons.Witness k))
      (take_signatures v required tx k given (input.partial ++ final_signature script input.witness))
  by_fit k given script input true = refl
  by_fit k given script input false = refl

  moved : {R A : Type 0} (x y read : R) → x ≡ y → (x ≡ read) ↔ A → (y ≡ read) ↔ A
  moved x y read e f = (λ k. f.0 (e ∙ k), λ a. sym e ∙ f.1 a)

  key_input_taken : (k : ℕ) (given : List Signed) (i : Input) (input : PsbtInput) (taken : Taken)
      → (take_key_input v required tx k given i input ≡ taken) ↔ KeyInputTaken v required tx k given i input taken
  key_input_taken k given i input taken =
      let last : Taken = cond (not (witness_fits i.spent.script input.witness)) (Err (reasons.Witness k))
      (take_signatures v required tx k given (input.partial ++ final_signature i.spent.script input.witness)) in
      if_so taken (not (spent_fits i.output input.spent)) (Err (reasons.Spent k))
      (cond (not (script_fits i.spent.script input.script)) (Err (reasons.Script k)) last)
      (other_output i.output input.spent) (same taken (Err (reasons.Spent k)))
      (if_so taken (not (script_fits i.spent.script input.script)) (Err (reasons.Script k)) last
      (other_script i.spent.script input.script) (same taken (Err (reasons.Script k)))
      (moved (by_final k given input (final_of i.spent.script input.witness (witness_fits i.spent.script input.witness))) last taken
      (by_fit k given i.spent.script input (witness_fits i.spent.script input.witness))
      (if_one taken (FinalGives i.spent.script input.witness) (λ ps. SignaturesTaken v required tx k given (input.partial ++ ps) taken)
      (final_of i.spent.script input.witness (witness_fits i.spent.script input.witness)) (by_final k given input)
      (final_found i.spent.script input.witness) (same taken (Err (reasons.Witness k)))
      (λ ps h. signatures_taken v required tx k given (input.partial ++ ps) taken))))

  -- ---- of a wallet

  final_taken : (k : ℕ) (given : List Signed) (i : Input) (w : Wallet) (o : Option (List (List ℕ))) (taken : Taken)
      → (take_final v tx k given i w o ≡ taken) ↔ FinalTaken v tx k given i w o taken
  final_taken k given i w None taken = same taken (Ok given)
  final_taken k given i w (Some items) taken = witness_taken v i.digest w.script given (witnessed_by tx k items) taken

  wallet_input_taken : (k : ℕ) (given : List Signed) (i : Input) (w : Wallet) (input : PsbtInput) (taken : Taken)
      → (take_wallet_input v tx k given i w input ≡ taken) ↔ WalletInputTaken v tx k given i w input taken
  wallet_input_taken k given i w input taken =
      if_so taken (not (spent_fits i.output input.spent)) (Err (reasons.Spent k)) (take_final v tx k given i w input.witness)
      (other_output i.output input.spent) (same taken (Err (reasons.Spent k))) (final_taken k given i w input.witness taken)

  input_taken : (k : ℕ) (given : List Signed) (i : Input) (input : PsbtInput) (taken : Taken)
      → (take_input v required tx k given i input ≡ taken) ↔ InputTaken v required tx k given i input taken
  input_taken k given i input taken = by_wallet i.wallet
    where
      by_wallet : (o : Option Wallet)
          → (elim o [
            | None ↦ take_key_input v required tx k given i input
            | Some w ↦ take_wallet_input v tx k given i w input
          ] ≡ taken)
          ↔ InputTakenBy v required tx k given i input taken o
      by_wallet None = key_input_taken k given i input taken
      by_wallet (Some w) = wallet_input_taken k given i w input taken

  inputs_taken : (k : ℕ) (given : List Signed) (is : List Input) (said : List PsbtInput) (taken : Taken)
      → (take_inputs v required tx k given is said ≡ taken) ↔ InputsTaken v required tx k given is said taken
  inputs_taken k given [] said taken = same taken (Ok given)
  inputs_taken k given (i ∷ is) [] taken = same taken (Ok given)
  inputs_taken k given (i ∷ is) (input ∷ said) taken =
      is_then taken (InputTaken v required tx k given i input) (λ more. InputsTaken v required tx (k + 1) more is said taken)
      (λ reason. taken ≡ Err reason) (take_input v required tx k given i input)
      (λ (r : Taken). elim r [ Ok more ↦ take_inputs v required tx (k + 1) more is said | Err reason ↦ Err reason ])
      (λ q. input_taken k given i input q) (λ more. inputs_taken (k + 1) more is said taken) (λ reason. same taken (Err reason))

-- ---- a line

coded : (word bytes : List ℕ) → (base64_bytes word ≡ Some bytes) ↔ IsCoded word bytes
coded word bytes = (
  λ e. let is = bytes_only word bytes e in record { each = is.each; same = is.same },
  λ h. ap base64_bytes h.same ∙ text_reads bytes h.each,
)

bytes_decide : (bytes : List ℕ) (t : Transaction) → Decides (has_bytes bytes t) (HasBytes bytes t)
bytes_decide bytes t = bytes_eq-Decides t.bytes bytes

module _ (v : Verifier) (ts : List Transaction) where
  psbt_taken : (given : List Signed) (p : Psbt) (taken : Taken)
      → (take_psbt v ts given (Some p) ≡ taken) ↔ PsbtTaken v ts given taken p
  psbt_taken given p taken =
      if_any taken (HasBytes (stripped p.tx)) (λ t. InputsTaken v (all_required ts) (stripped p.tx) 0 given t.inputs p.inputs taken)
      (has_bytes (stripped p.tx)) (bytes_decide (stripped p.tx)) ts (take_transaction v (all_required ts) given p)
      (same taken (Err reasons.Foreign)) (λ t. inputs_taken v (all_required ts) (stripped p.tx) 0 given t.inputs p.inputs taken)

  bytes_taken : (given : List Signed) (word bytes : List ℕ) (taken : Taken) → IsCoded word bytes
      → (take_bytes v ts given (Some bytes) ≡ taken) ↔ BytesTaken v ts given taken bytes
  bytes_taken given word bytes taken c =
      if_one taken (Spells bytes) (PsbtTaken v ts given taken) (psbt_of bytes) (take_psbt v ts given)
      (λ p. (λ e. read_is_spelled bytes p c.each e, λ h. spelled_is_read bytes p h)) (same taken (Err reasons.Form))
      (λ p h. psbt_taken given p taken)

  words_taken : (given : List Signed) (words : List (List ℕ)) (taken : Taken)
      → (take_words v ts given words ≡ taken) ↔ WordsTaken v ts given words taken
  words_taken given [] taken = same taken (Ok given)
  words_taken given (word ∷ []) taken =
      if_one taken (IsCoded word) (BytesTaken v ts given taken) (base64_bytes word) (take_bytes v ts given) (coded word)
      (same taken (Err reasons.Base64)) (λ bytes c. bytes_taken given word bytes taken c)
  words_taken given (word ∷ (next ∷ words)) taken = same taken (Err reasons.Base64)

  -- ---- all lines

  lines_come : (given : List Signed) (n : ℕ) (lines : List (List ℕ)) (read : Result (List Signed) SignatureFault)
      → (take_lines v ts given n lines ≡ read) ↔ SignaturesCome v ts given n lines read
  lines_come given n [] read = same read (Ok given)
  lines_come given n (line ∷ lines) read =
      is_then read (WordsTaken v ts given (words_of line)) (λ more. SignaturesCome v ts more (n + 1) lines read)
      (λ reason. read ≡ Err (faults.Line n reason)) (take_words v ts given (words_of line))
      (λ (r : Taken). elim r [ Ok more ↦ take_lines v ts more (n + 1) lines | Err reason ↦ Err (faults.Line n reason) ])
      (λ q. words_taken given (words_of line) q) (λ more. lines_come more (n + 1) lines read)
      (λ reason. same read (Err (faults.Line n reason)))

  lt_from : (m n : ℕ) → nat_lt m n ≡ true → m < n
  lt_from m n h = grind (arith, nat_tests)

  lt_true : (m n : ℕ) → m < n → nat_lt m n ≡ true
  lt_true m n h = grind (arith, nat_tests)

  not_lt : (m n : ℕ) → nat_lt m n ≡ false → n ≤ m
  not_lt m n h = grind (arith, nat_tests)

  lt_false : (m n : ℕ) → n ≤ m → nat_lt m n ≡ false
  lt_false m n h = grind (arith, nat_tests)

  abbrev unless_long : Result (List Signed) SignatureFault → Bool → Result (List Signed) SignatureFault
  unless_long read b = cond b (Err faults.Size) read

  given_read : (text : List ℕ) (read : Result (List Signed) SignatureFault) → (read_given v ts text ≡ read) ↔ SignaturesAre v ts text read
  given_read text read = (to (nat_lt most_signature_bytes (length text)) refl, back)
    where
      to : (b : Bool) → nat_lt most_signature_bytes (length text) ≡ b → unless_long (take_lines v ts [] 1 (lines_of text)) b ≡ read
          → SignaturesAre v ts text read
      to true e k = inl (lt_from most_signature_bytes (length text) e, sym k)
      to false e k = inr (not_lt most_signature_bytes (length text) e, (lines_come [] 1 (lines_of text) read).0 k)

      back : SignaturesAre v ts text read → read_given v ts text ≡ read
      back (inl h) =
          ap (unless_long (take_lines v ts [] 1 (lines_of text))) (lt_true most_signature_bytes (length text) h.0) ∙ sym h.1
      back (inr h) =
          ap (unless_long (take_lines v ts [] 1 (lines_of text))) (lt_false most_signature_bytes (length text) h.0)
          ∙ (lines_come [] 1 (lines_of text) read).1 h.1

pub signature_files_are_read : SignatureFilesAreRead
signature_files_are_read v hash keys s text read = given_read v (transactions hash keys s) text read
