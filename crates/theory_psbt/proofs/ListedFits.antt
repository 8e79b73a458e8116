-- A compiled transaction with the signatures that a book has for it is a partially signed transaction that can be written.
use Rattle.std.proofs.Common.{◌≡◌, ℕ, suc, List, [], ◌∷◌, ◌++◌, length, map, Bool, true, false, not, eqb, Some, None}
use Rattle.std.proofs.Common.{refl, ap, ◌∙◌, arith, lit<}
use Rattle.std.specs.Prelude.{if◌then◌else◌}
use Rattle.std.specs.List.{list_all, AllByRecursion}
use Rattle.std.specs.Str.{bytes_eq}
use Rattle.std.proofs.lemmas.Bool.{eq-eqb, ne_eqb, or_parts}
use Rattle.std.proofs.lemmas.List.{length-append}
use Rattle.spec_data.specs.Hashes.{IsBytes, HashesBytes}
use Rattle.spec_data.specs.Lists.{look_up, is_among, are_different}
use Rattle.spec_data.proofs.ByteLemmas.{IsBytes-append}
use Rattle.spec_terms.specs.Precondition.{names_of}
use Rattle.spec_bitcoin.specs.declared.label.Label.{Label}
use Rattle.spec_bitcoin.specs.Keys.{Pair, key_of, label_text, signature_of, has_signed}
use Rattle.spec_compiler.specs.declared.unsigned.Spent.{Spent}
use Rattle.spec_compiler.specs.declared.unsigned.Unsigned.{Unsigned}
use Rattle.spec_compiler.specs.Transactions.{input_of, tx_of, digest_of_spent}
use Rattle.spec_tool.specs.Listed.{Listed}
use Rattle.spec_tool.specs.Psbt.{Pairing, are_ascending, is_bare_input, is_unsigned, insert_signature}
use Rattle.spec_tool.specs.PsbtText.{signatures_there, signed_input, signed_inputs, listed_psbt}
use Rattle.theory_bitcoin.proofs.Exact.{bytes_cons, bytes_none}
use Rattle.theory_text.proofs.ListFacts.{and_is, and_left, and_right, not_yes, not_no}
use Rattle.theory_psbt.specs.Fitting.{IsSignature, IsKnown, IsFitting}
use Rattle.theory_psbt.specs.Listed.{IsSpent, IsListed, ListedIsFitting}
use Rattle.theory_psbt.proofs.Kept.{signs_ascend}
use Rattle.theory_psbt.proofs.ReadFits.{put_fits}
use Rattle.theory_psbt.proofs.Signatures.{none_among, put_ascends, put_found}

module _ (hash : List ℕ → List ℕ) (fine : HashesBytes hash) (book : List Pair) where
  -- ---- signatures

  key_bytes : (label : Label) → IsBytes (key_of hash label)
  key_bytes label = bytes_cons 2 (hash (label_text label)) (lit< tt) (fine.bytes (label_text label))

  key_size : (label : Label) → length (key_of hash label) ≡ 33
  key_size label = let size = fine.size (label_text label) in omega (arith, size)

  one_signature : (label : Label) (message : List ℕ) → IsSignature (key_of hash label, signature_of (key_of hash label) (hash message))
  one_signature label message =
      let key = key_of hash label in
      let digest = hash message in
      record {
        key = key_bytes label;
        size = key_size label;
        value = record {
          bytes = IsBytes-append (key ++ digest) (1 ∷ []) (IsBytes-append key digest (key_bytes label) (fine.bytes message))
              (bytes_cons 1 [] (lit< tt) bytes_none);
          size = omega (
            arith,
            length-append (key ++ digest) (1 ∷ []),
            length-append key digest,
            key_size label,
            fine.size message,
          );
        };
      }

  there_fit : (labels : List Label) (message : List ℕ) → AllByRecursion IsSignature (signatures_there hash book labels (hash message))
  there_fit [] message = tt
  there_fit (label ∷ rest) message = by_signed (has_signed book (key_of hash label) (hash message)) (there_fit rest message)
    where
      by_signed : (t : Bool) → AllByRecursion IsSignature (signatures_there hash book rest (hash message))
          → AllByRecursion IsSignature (if t
          then insert_signature (key_of hash label, signature_of (key_of hash label) (hash message)) (signatures_there hash book rest
          (hash message))
          else signatures_there hash book rest (hash message))
      by_signed true later = put_fits _ _ (one_signature label message) later
      by_signed false later = later

  abbrev keys_of : List Label → List (List ℕ)
  keys_of labels = map (key_of hash) labels

  -- they ascend, and a key of nobody who signs finds none
  record Ascend (labels : List Label) (signatures : List Pairing) : Type 0 where
    ascend : are_ascending (names_of signatures) ≡ true
    absent : (key : List ℕ) → is_among key (keys_of labels) ≡ false → look_up key signatures ≡ None

  there_ascend : (labels : List Label) (digest : List ℕ) → are_different (keys_of labels) ≡ true
      → Ascend labels (signatures_there hash book labels digest)
  there_ascend [] digest h = record { ascend = refl; absent = λ key e. refl }
  there_ascend (label ∷ rest) digest h =
      by_signed (has_signed book (key_of hash label) digest)
      (there_ascend rest digest (and_right (not (is_among (key_of hash label) (keys_of rest))) _ h))
    where
      by_signed : (t : Bool) → Ascend rest (signatures_there hash book rest digest)
          → Ascend (label ∷ rest) (if t
          then insert_signature (key_of hash label, signature_of (key_of hash label) digest) (signatures_there hash book rest digest)
          else signatures_there hash book rest digest)
      by_signed true later =
          let key = key_of hash label in
          let others = signatures_there hash book rest digest in
          let new : is_among key (keys_of rest) ≡ false = not_yes _ (and_left _ _ h) in
          let apart = none_among key others (later.absent key new) in
          record {
            ascend = put_ascends (key, signature_of key digest) others later.ascend apart;
            absent = λ other e.
                let parts = or_parts (bytes_eq key other) (is_among other (keys_of rest)) e in
                put_found other (key, signature_of key digest) others apart
                ∙ (ap (λ (t : Bool). if t then Some (signature_of key digest) else look_up other others) parts.0
                ∙ later.absent other parts.1);
          }
      by_signed false later = record {
        ascend = later.ascend;
        absent = λ other e. later.absent other (or_parts (bytes_eq (key_of hash label) other) (is_among other (keys_of rest)) e).1;
      }

  -- ---- inputs

  module _ (pending : Unsigned) where
    input_known : (spent : Spent) (labels : List Label) → IsSpent spent → IsKnown (signed_input hash book pending spent labels)
    input_known spent labels h = record {
      spent = record {
        value = h.value;
        script = record {
          bytes = bytes_cons 0 (32 ∷ hash spent.script) (lit< tt) (bytes_cons 32 (hash spent.script) (lit< tt) (fine.bytes spent.script));
          size = let size = fine.size spent.script in omega (arith, size);
        };
      };
      partial = there_fit labels _;
      script = h.script;
      witness = tt;
    }

    inputs_known : (spends : List Spent) (signers : List (List Label)) → AllByRecursion IsSpent spends
        → AllByRecursion IsKnown (signed_inputs hash book pending spends signers)
    inputs_known [] signers h = tt
    inputs_known (spent ∷ rest) [] h = tt
    inputs_known (spent ∷ rest) (labels ∷ others) h = (input_known spent labels h.0, inputs_known rest others h.1)

    inputs_ascend : (spends : List Spent) (signers : List (List Label))
        → AllByRecursion (λ labels. are_different (map (key_of hash) labels) ≡ true) signers
        → list_all signs_ascend (signed_inputs hash book pending spends signers) ≡ true
    inputs_ascend [] signers h = refl
    inputs_ascend (spent ∷ rest) [] h = refl
    inputs_ascend (spent ∷ rest) (labels ∷ others) h =
        and_is _ _ (there_ascend labels (digest_of_spent hash (tx_of pending) spent) h.0).ascend (inputs_ascend rest others h.1)

    inputs_count : (spends : List Spent) (signers : List (List Label)) → length signers ≡ length spends
        → length (signed_inputs hash book pending spends signers) ≡ length (map input_of spends)
    inputs_count [] signers e = refl
    inputs_count (spent ∷ rest) [] e = absurd (omega (arith, e))
    inputs_count (spent ∷ rest) (labels ∷ others) e = ap suc (inputs_count rest others (omega (arith, e)))

  all_bare : (spends : List Spent) → list_all is_bare_input (map input_of spends) ≡ true
  all_bare [] = refl
  all_bare (spent ∷ rest) = all_bare rest

  listed_at_once : (l : Listed) → IsListed hash l → IsFitting (listed_psbt hash book l)
  listed_at_once l h =
      let d = l.pending in
      let some : not (eqb (length (map input_of d.spends)) 0) ≡ true =
      not_no _ (ne_eqb (length (map input_of d.spends)) 0 (λ e. absurd (omega (arith, e, h.tx.some)))) in
      let unsigned : is_unsigned (tx_of d) ≡ true = and_is _ _ some (all_bare d.spends) in
      let count = eq-eqb _ _ (inputs_count d d.spends l.signers h.each_input) in
      record {
        is = and_is _ _ (and_is _ _ unsigned count) (inputs_ascend d d.spends l.signers h.keys);
        tx = h.tx;
        inputs = inputs_known d d.spends l.signers h.spends;
      }

pub listed_fits : ListedIsFitting
listed_fits hash fine book l h = listed_at_once hash fine book l h
