-- The inputs of a compiled transaction with the signatures that a book has for it.
use Rattle.std.proofs.Common.{◌≡◌, ℕ, zero, suc, Bool, true, false, List, [], ◌∷◌, length, Some, refl, sym, ap, subst, ◌∙◌, inl, inr}
use Rattle.std.specs.Prelude.{◌⊎◌, slice_get, if◌then◌else◌}
use Rattle.std.specs.List.{Contains}
use Rattle.spec_bitcoin.specs.declared.label.Label.{Label}
use Rattle.spec_bitcoin.specs.Keys.{Pair, key_of, signature_of, has_signed}
use Rattle.spec_compiler.specs.declared.unsigned.Spent.{Spent}
use Rattle.spec_compiler.specs.declared.unsigned.Unsigned.{Unsigned}
use Rattle.spec_compiler.specs.Transactions.{tx_of, digest_of_spent}
use Rattle.spec_run.specs.Setup.{Setup}
use Rattle.spec_run.specs.World.{World}
use Rattle.spec_tool.specs.declared.psbt.PsbtInput.{PsbtInput}
use Rattle.spec_tool.specs.Listed.{Listed}
use Rattle.spec_tool.specs.Psbt.{Pairing, is_before, insert_signature, is_psbt}
use Rattle.spec_tool.specs.PsbtText.{signatures_there, signed_input, signed_inputs, listed_psbt}
use Rattle.theory_calculus.specs.Members.{Is_in}
use Rattle.theory_calculus.proofs.Members.{in_from_contains, contains_from_in}
use Rattle.theory_commands.specs.Shown.Psbt.{signature_by, AreSigned, SpendsOutput}

-- ---- signatures among others

in_put : (x r : Pairing) (ss : List Pairing) → Is_in x (insert_signature r ss) → (x ≡ r) ⊎ Is_in x ss
in_put x r [] i = i
in_put x r (s ∷ ss) i = by_place (is_before (r.0) (s.0)) i (in_put x r ss)
  where
    by_place : (b : Bool) → Is_in x (if b then r ∷ (s ∷ ss) else s ∷ insert_signature r ss)
        → (Is_in x (insert_signature r ss) → (x ≡ r) ⊎ Is_in x ss) → (x ≡ r) ⊎ Is_in x (s ∷ ss)
    by_place true (inl e) later = inl e
    by_place true (inr j) later = inr j
    by_place false (inl e) later = inr (inl e)
    by_place false (inr j) later = behind (later j)
      where
        behind : (x ≡ r) ⊎ Is_in x ss → (x ≡ r) ⊎ Is_in x (s ∷ ss)
        behind (inl e) = inl e
        behind (inr k) = inr (inr k)

put_in : (x r : Pairing) (ss : List Pairing) → (x ≡ r) ⊎ Is_in x ss → Is_in x (insert_signature r ss)
put_in x r [] i = i
put_in x r (s ∷ ss) i = by_place (is_before (r.0) (s.0)) i (put_in x r ss)
  where
    by_place : (b : Bool) → (x ≡ r) ⊎ Is_in x (s ∷ ss) → ((x ≡ r) ⊎ Is_in x ss → Is_in x (insert_signature r ss))
        → Is_in x (if b then r ∷ (s ∷ ss) else s ∷ insert_signature r ss)
    by_place true (inl e) later = inl e
    by_place true (inr j) later = inr j
    by_place false (inl e) later = inr (later (inl e))
    by_place false (inr (inl e)) later = inl e
    by_place false (inr (inr j)) later = inr (later (inr j))

-- ---- the signatures of one digest

module _ (hash : List ℕ → List ℕ) (book : List Pair) (digest : List ℕ) where
  -- the label's signature is there
  abbrev IsBooked : Label → Type 0
  IsBooked label = has_signed book (key_of hash label) digest ≡ true

  abbrev by_label : Label → Pairing
  by_label label = (key_of hash label, signature_of (key_of hash label) digest)

  pub there_in : (labels : List Label) (x : Pairing) → Is_in x (signatures_there hash book labels digest)
      → (label : Label) × Is_in label labels × IsBooked label × (x ≡ by_label label)
  there_in [] x i = absurd i
  there_in (label ∷ labels) x i = by_test (has_signed book (key_of hash label) digest) refl i (there_in labels x)
    where
      later : ((l : Label) × Is_in l labels × IsBooked l × (x ≡ by_label l))
          → (l : Label) × Is_in l (label ∷ labels) × IsBooked l × (x ≡ by_label l)
      later r = (r.0, inr (r.1), r.2, r.3)

      by_test : (b : Bool) → has_signed book (key_of hash label) digest ≡ b
          → Is_in x (if b then insert_signature (by_label label) (signatures_there hash book labels digest)
          else signatures_there hash book labels digest)
          → (Is_in x (signatures_there hash book labels digest) → (l : Label) × Is_in l labels × IsBooked l × (x ≡ by_label l))
          → (l : Label) × Is_in l (label ∷ labels) × IsBooked l × (x ≡ by_label l)
      by_test true e j rest = by_put (in_put x (by_label label) (signatures_there hash book labels digest) j)
        where
          by_put : (x ≡ by_label label) ⊎ Is_in x (signatures_there hash book labels digest)
              → (l : Label) × Is_in l (label ∷ labels) × IsBooked l × (x ≡ by_label l)
          by_put (inl same) = (label, inl refl, e, same)
          by_put (inr k) = later (rest k)
      by_test false e j rest = later (rest j)

  pub in_there : (labels : List Label) (label : Label) → Is_in label labels → IsBooked label
      → Is_in (by_label label) (signatures_there hash book labels digest)
  in_there [] label i h = absurd i
  in_there (first ∷ labels) label (inl e) h =
      subst (λ (l : Label). Is_in (by_label label)
      (if has_signed book (key_of hash l) digest then insert_signature (by_label l) (signatures_there hash book labels digest)
      else signatures_there hash book labels digest)) e
      (subst (λ (b : Bool). Is_in (by_label label)
      (if b then insert_signature (by_label label) (signatures_there hash book labels digest)
      else signatures_there hash book labels digest))
      (sym h) (put_in (by_label label) (by_label label) (signatures_there hash book labels digest) (inl refl)))
  in_there (first ∷ labels) label (inr i) h = by_test (has_signed book (key_of hash first) digest) (in_there labels label i h)
    where
      by_test : (b : Bool) → Is_in (by_label label) (signatures_there hash book labels digest)
          → Is_in (by_label label) (if b then insert_signature (by_label first) (signatures_there hash book labels digest)
          else signatures_there hash book labels digest)
      by_test true j = put_in (by_label label) (by_label first) (signatures_there hash book labels digest) (inr j)
      by_test false j = j

-- ---- inputs

-- what an input is of
pub record IsInput (hash : List ℕ → List ℕ) (book : List Pair) (pending : Unsigned) (spends : List Spent) (signers : List (List Label))
    (k : ℕ) (said : PsbtInput) : Type 0 where
  pub spent : Spent
  pub spends_it : slice_get spends k ≡ Some spent
  pub labels : List Label
  pub signs_it : slice_get signers k ≡ Some labels
  pub is : said ≡ signed_input hash book pending spent labels

module _ (hash : List ℕ → List ℕ) (book : List Pair) (pending : Unsigned) where
  pub input_is : (spends : List Spent) (signers : List (List Label)) (k : ℕ) (said : PsbtInput)
      → slice_get (signed_inputs hash book pending spends signers) k ≡ Some said → IsInput hash book pending spends signers k said
  input_is [] signers k said e = absurd (cc)
  input_is (spent ∷ spends) [] k said e = absurd (cc)
  input_is (spent ∷ spends) (labels ∷ signers) zero said e =
      let same : signed_input hash book pending spent labels ≡ said = cc in
      record { spent = spent; spends_it = refl; labels = labels; signs_it = refl; is = sym same }
  input_is (spent ∷ spends) (labels ∷ signers) (suc k) said e =
      let r = input_is spends signers k said e in
      record { spent = r.spent; spends_it = r.spends_it; labels = r.labels; signs_it = r.signs_it; is = r.is }

  pub input_there : (spends : List Spent) (signers : List (List Label)) (k : ℕ) (spent : Spent) (labels : List Label)
      → slice_get spends k ≡ Some spent → slice_get signers k ≡ Some labels
      → slice_get (signed_inputs hash book pending spends signers) k ≡ Some (signed_input hash book pending spent labels)
  input_there [] signers k spent labels e f = absurd (cc)
  input_there (x ∷ spends) [] k spent labels e f = absurd (cc)
  input_there (x ∷ spends) (ls ∷ signers) zero spent labels e f =
      let a : x ≡ spent = cc in
      let b : ls ≡ labels = cc in
      λ i. Some (signed_input hash book pending (a i) (b i))
  input_there (x ∷ spends) (ls ∷ signers) (suc k) spent labels e f = input_there spends signers k spent labels e f

  pub input_count : (spends : List Spent) (signers : List (List Label)) → length signers ≡ length spends
      → length (signed_inputs hash book pending spends signers) ≡ length spends
  input_count [] signers e = refl
  input_count (spent ∷ spends) [] e = absurd (cc)
  input_count (spent ∷ spends) (labels ∷ signers) e =
      let rest : length signers ≡ length spends = cc in
      ap (λ (n : ℕ). suc n) (input_count spends signers rest)

-- ---- the whole

module _ (s : Setup) (w : World) (l : Listed) where
  pub signed_right : is_psbt (listed_psbt s.hash w.book l) ≡ true → AreSigned s w l (listed_psbt s.hash w.book l)
  signed_right ordered = record {
    none_added = λ input signature h.
        let r = input_is s.hash w.book l.pending l.pending.spends l.signers input h.said h.there in
        let digest = digest_of_spent s.hash (tx_of l.pending) r.spent in
        let inside = subst (λ (x : PsbtInput). Is_in signature x.partial) r.is (in_from_contains h.said.partial signature h.has) in
        let x = there_in s.hash w.book digest r.labels signature inside in
        record {
          label = x.0;
          digest = digest;
          signed = record {
            spent = r.spent;
            spends = r.spends_it;
            labels = r.labels;
            signers = r.signs_it;
            signer = contains_from_in r.labels (x.0) (x.1);
            digest_is = refl;
            signed = x.2;
          };
          is = x.3;
        };
    none_left_out = λ input label digest h.
        let is = in_there s.hash w.book (digest_of_spent s.hash (tx_of l.pending) h.spent) h.labels label
        (in_from_contains h.labels label h.signer)
        (subst (λ (d : List ℕ). has_signed w.book (key_of s.hash label) d ≡ true) h.digest_is h.signed) in
        let said = signed_input s.hash w.book l.pending h.spent h.labels in
        record {
          said = said;
          there = input_there s.hash w.book l.pending l.pending.spends l.signers input h.spent h.labels h.spends h.signers;
          has = subst (λ (d : List ℕ). Contains said.partial (signature_by s label d)) (sym h.digest_is)
              (contains_from_in said.partial (signature_by s label (digest_of_spent s.hash (tx_of l.pending) h.spent)) is);
        };
    in_order = ordered;
  }

  pub output_right : (input : ℕ) (spent : Spent) (said : PsbtInput) → slice_get l.pending.spends input ≡ Some spent
      → slice_get (listed_psbt s.hash w.book l).inputs input ≡ Some said → SpendsOutput s spent said
  output_right input spent said e f =
      let r = input_is s.hash w.book l.pending l.pending.spends l.signers input said f in
      let found : Some r.spent ≡ Some spent = sym r.spends_it ∙ e in
      let same : r.spent ≡ spent = cc in
      let is : said ≡ signed_input s.hash w.book l.pending spent r.labels =
      r.is ∙ ap (λ (x : Spent). signed_input s.hash w.book l.pending x r.labels) same in
      let here : SpendsOutput s spent (signed_input s.hash w.book l.pending spent r.labels) =
      record { output = refl; all = refl; script = refl; witness = refl } in
      subst (SpendsOutput s spent) (sym is) here
