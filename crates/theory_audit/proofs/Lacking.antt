-- What is absent and what is missing.
use Rattle.std.proofs.Common.{◌≡◌, ℕ, zero, suc, ◌+◌, List, [], ◌∷◌, map, Bool, true, false, Some, refl, sym, ap, ◌∙◌, subst, inl, inr}
use Rattle.std.proofs.Common.{arith}
use Rattle.std.specs.Prelude.{◌⊎◌, not, slice_get}
use Rattle.std.specs.List.{Contains, filter, list_any}
use Rattle.std.proofs.lemmas.Bool.{or_left, or_right, or_cases, not-true, not_from_false}
use Rattle.spec_bitcoin.specs.declared.label.Label.{Label}
use Rattle.spec_bitcoin.specs.declared.tx.Tx.{Tx}
use Rattle.spec_bitcoin.specs.Keys.{key_of, has_signed}
use Rattle.spec_compiler.specs.declared.unsigned.Spent.{Spent}
use Rattle.spec_compiler.specs.Transactions.{tx_of, digest_of_spent}
use Rattle.spec_run.specs.Setup.{Setup}
use Rattle.spec_run.specs.World.{World}
use Rattle.spec_tool.specs.declared.which.Which.{Which}
use Rattle.spec_tool.specs.declared.finding.Finding.{Finding}
use Rattle.spec_tool.specs.Listed.{Listed, same_which}
use Rattle.spec_tool.specs.Audit.{listed_in, names_in, is_named, absent_of, Missing, missing_inputs, missing_of}
use Rattle.theory_calculus.specs.Members.{Is_in}
use Rattle.theory_calculus.proofs.Members.{in_append, in_left, in_right, in_from_contains, contains_from_in, in_filter, filter_has}
use Rattle.theory_script.proofs.Listing.Stands.{some_same}
use Rattle.theory_world.proofs.Contracts.Endorsed.{in_map, in_flat}
use Rattle.theory_run.proofs.Accepted.Unmade.{in_images}
use Rattle.theory_audit.specs.Audited.{AreInOrder, IsCompiled, NamedNowhere, AreAbsent, IsUnsigned, missed, needed_from, AreMissing}
use Rattle.theory_audit.proofs.Lists.{order_filter, order_map, order_append, order_flat, flat_has}
use Rattle.theory_audit.proofs.Names.{which-true, which_refl, compiled_there, there_compiled}

-- ---- tests over lists

any_has : {A : Type 0} (p : A → Bool) (xs : List A) (x : A) → Is_in x xs → p x ≡ true → list_any p xs ≡ true
any_has p [] x i h = absurd i
any_has p (y ∷ xs) x (inl e) h = or_left (p y) _ (subst (λ z. p z ≡ true) e h)
any_has p (y ∷ xs) x (inr i) h = or_right (p y) _ (any_has p xs x i h)

any_of : {A : Type 0} (p : A → Bool) (xs : List A) → list_any p xs ≡ true → (x : A) × Is_in x xs × (p x ≡ true)
any_of p [] h = cc
any_of p (y ∷ xs) h = by_case (or_cases (p y) (list_any p xs) h) (any_of p xs)
  where
    by_case : (p y ≡ true) ⊎ (list_any p xs ≡ true) → (list_any p xs ≡ true → (x : _) × Is_in x xs × (p x ≡ true))
        → (x : _) × Is_in x (y ∷ xs) × (p x ≡ true)
    by_case (inl a) later = (y, inl refl, a)
    by_case (inr b) later = let r = later b in (r.0, inr r.1, r.2)

none_more : (n : ℕ) → 0 + n ≡ n
none_more n = omega arith

-- ---- absent

named_somewhere : (fs : List Finding) (which : Which) (f : Finding) → Is_in f fs → Is_in which (names_in f) → is_named fs which ≡ true
named_somewhere fs which f i j =
    any_has (λ x. list_any (same_which which) (names_in x)) fs f i (any_has (same_which which) (names_in f) which j (which_refl which))

is_nowhere : (fs : List Finding) (which : Which) → is_named fs which ≡ false → NamedNowhere fs which
is_nowhere fs which h f i j =
    let z : false ≡ true =
    sym h ∙ named_somewhere fs which f (in_from_contains fs f i) (in_from_contains (names_in f) which j) in cc

nowhere_is : (fs : List Finding) (which : Which) → NamedNowhere fs which → (b : Bool) → is_named fs which ≡ b → b ≡ false
nowhere_is fs which h false e = refl
nowhere_is fs which h true e =
    let a = any_of (λ x. list_any (same_which which) (names_in x)) fs e in
    let b = any_of (same_which which) (names_in a.0) a.2 in
    let same : which ≡ b.0 = which-true which b.0 b.2 in
    absurd (h a.0 (contains_from_in fs a.0 a.1)
    (contains_from_in (names_in a.0) which (subst (λ x. Is_in x (names_in a.0)) (sym same) b.1)))

module _ (s : Setup) (w : World) (k : ℕ) where
  abbrev all : List Listed
  all = listed_in s w k

  abbrev which_of : Listed → Which
  which_of l = l.which

  module _ (fs : List Finding) where
    abbrev unnamed : Which → Bool
    unnamed which = not (is_named fs which)

    absent_there : (which : Which) → Contains (absent_of all fs) which → ((l : Listed) × IsCompiled s w k which l) × NamedNowhere fs which
    absent_there which h =
        let f = in_filter unnamed (map which_of all) which (in_from_contains (absent_of all fs) which h) in
        let m = in_map which_of all which f.0 in
        ((m.0, subst (λ x. IsCompiled s w k x m.0) (sym m.2) (there_compiled s w k m.0 m.1)), is_nowhere fs which (not-true _ f.1))

    there_absent : (which : Which) (l : Listed) → IsCompiled s w k which l → NamedNowhere fs which → Contains (absent_of all fs) which
    there_absent which l c h =
        let t = compiled_there s w k which l c in
        let i = subst (λ x. Is_in x (map which_of all)) t.1 (in_images which_of all l t.0) in
        contains_from_in (absent_of all fs) which
        (filter_has unnamed (map which_of all) which i (not_from_false _ (nowhere_is fs which h (is_named fs which) refl)))

    pub all_absent : AreAbsent s w k fs (absent_of all fs)
    all_absent =
        record { none_added = absent_there; none_left_out = there_absent; in_order = order_filter unnamed (map which_of all) }

  -- ---- missing

  module _ (which : Which) (tx : Tx) where
    abbrev lacks : Spent → Label → Bool
    lacks spent label = not (has_signed w.book (key_of s.hash label) (digest_of_spent s.hash tx spent))

    abbrev lacking : ℕ → List Spent → List (List Label) → List Missing
    lacking n spends signers = missing_inputs s.hash w.book which tx n spends signers

    -- the signature of an input of these is missing
    record IsLacking (from : ℕ) (spends : List Spent) (signers : List (List Label)) (m : Missing) : Type 0 where
      input : ℕ
      spent : Spent
      labels : List Label
      label : Label
      is : m ≡ missed which (from + input) label
      spends' : slice_get spends input ≡ Some spent
      signers' : slice_get signers input ≡ Some labels
      signer : Is_in label labels
      unsigned : has_signed w.book (key_of s.hash label) (digest_of_spent s.hash tx spent) ≡ false

    lacking_first : (from : ℕ) (spent : Spent) (rest : List Spent) (labels : List Label) (others : List (List Label)) (m : Missing)
        → Is_in m (map (missed which from) (filter (lacks spent) labels)) → IsLacking from (spent ∷ rest) (labels ∷ others) m
    lacking_first from spent rest labels others m i =
        let x = in_map (missed which from) (filter (lacks spent) labels) m i in
        let f = in_filter (lacks spent) labels x.0 x.1 in
        let zero_more : from ≡ from + 0 = omega arith in
        record {
          input = 0;
          spent = spent;
          labels = labels;
          label = x.0;
          is = x.2 ∙ ap (λ n. missed which n x.0) zero_more;
          spends' = refl;
          signers' = refl;
          signer = f.0;
          unsigned = not-true _ f.1;
        }

    lacking_later : (from : ℕ) (spent : Spent) (rest : List Spent) (labels : List Label) (others : List (List Label)) (m : Missing)
        → IsLacking (from + 1) rest others m → IsLacking from (spent ∷ rest) (labels ∷ others) m
    lacking_later from spent rest labels others m h =
        let next : (from + 1) + h.input ≡ from + suc h.input = omega arith in
        record {
          input = suc h.input;
          spent = h.spent;
          labels = h.labels;
          label = h.label;
          is = h.is ∙ ap (λ n. missed which n h.label) next;
          spends' = h.spends';
          signers' = h.signers';
          signer = h.signer;
          unsigned = h.unsigned;
        }

    lacking_is : (spends : List Spent) (signers : List (List Label)) (from : ℕ) (m : Missing) → Is_in m (lacking from spends signers)
        → IsLacking from spends signers m
    lacking_is [] signers from m i = absurd i
    lacking_is (spent ∷ rest) [] from m i = absurd i
    lacking_is (spent ∷ rest) (labels ∷ others) from m i =
        elim (in_append m (map (missed which from) (filter (lacks spent) labels)) (lacking (from + 1) rest others) i) [
          | inl a ↦ lacking_first from spent rest labels others m a
          | inr b ↦ lacking_later from spent rest labels others m (lacking_is rest others (from + 1) m b)
        ]

    is_lacking : (spends : List Spent) (signers : List (List Label)) (from input : ℕ) (spent : Spent) (labels : List Label) (label : Label)
        → slice_get spends input ≡ Some spent → slice_get signers input ≡ Some labels → Is_in label labels
        → has_signed w.book (key_of s.hash label) (digest_of_spent s.hash tx spent) ≡ false
        → Is_in (missed which (from + input) label) (lacking from spends signers)
    is_lacking [] signers from input spent labels label e f i h = cc
    is_lacking (x ∷ rest) [] from input spent labels label e f i h = cc
    is_lacking (x ∷ rest) (xs ∷ others) from zero spent labels label e f i h =
        let same : x ≡ spent = some_same e in
        let signs : xs ≡ labels = some_same f in
        let here = in_images (missed which from) (filter (lacks x) xs) label
        (filter_has (lacks x) xs label (subst (Is_in label) (sym signs) i)
        (not_from_false _ (subst (λ (y : Spent). has_signed w.book (key_of s.hash label) (digest_of_spent s.hash tx y) ≡ false)
        (sym same) h))) in
        let zero_more : from ≡ from + 0 = omega arith in
        in_left (missed which (from + 0) label) (map (missed which from) (filter (lacks x) xs)) (lacking (from + 1) rest others)
        (subst (λ n. Is_in (missed which n label) (map (missed which from) (filter (lacks x) xs))) zero_more here)
    is_lacking (x ∷ rest) (xs ∷ others) from (suc input) spent labels label e f i h =
        let next : (from + 1) + input ≡ from + suc input = omega arith in
        in_right (missed which (from + suc input) label) (map (missed which from) (filter (lacks x) xs)) (lacking (from + 1) rest others)
        (subst (λ n. Is_in (missed which n label) (lacking (from + 1) rest others)) next
        (is_lacking rest others (from + 1) input spent labels label e f i h))

    lacking_in_order : (spends : List Spent) (signers : List (List Label)) (from : ℕ)
        → AreInOrder (lacking from spends signers) (needed_from which from spends signers)
    lacking_in_order [] signers from = tt
    lacking_in_order (spent ∷ rest) [] from = tt
    lacking_in_order (spent ∷ rest) (labels ∷ others) from =
        order_append (map (missed which from) (filter (lacks spent) labels)) (map (missed which from) labels)
        (lacking (from + 1) rest others) (needed_from which (from + 1) rest others)
        (order_map (missed which from) (filter (lacks spent) labels) labels (order_filter (lacks spent) labels))
        (lacking_in_order rest others (from + 1))

  abbrev of_listed : Listed → List Missing
  of_listed l = missing_inputs s.hash w.book l.which (tx_of l.pending) 0 l.pending.spends l.signers

  abbrev needed_of : Listed → List Missing
  needed_of l = needed_from l.which 0 l.pending.spends l.signers

  missing_by : (which : Which) (input : ℕ) (label : Label) (l : Listed) → Is_in l all
      → IsLacking l.which (tx_of l.pending) 0 l.pending.spends l.signers (missed which input label) → IsUnsigned s w k which input label
  missing_by which input label l i r =
      let which' : which ≡ l.which = ap (λ (y : Missing). y.0) r.is in
      let input' : r.input ≡ input = sym (none_more r.input) ∙ sym (ap (λ (y : Missing). y.1) r.is) in
      let label' : r.label ≡ label = sym (ap (λ (y : Missing). y.2) r.is) in
      record {
        listed = l;
        compiled = subst (λ y. IsCompiled s w k y l) (sym which') (there_compiled s w k l i);
        spent = r.spent;
        spends = subst (λ n. slice_get l.pending.spends n ≡ Some r.spent) input' r.spends';
        labels = r.labels;
        signers = subst (λ n. slice_get l.signers n ≡ Some r.labels) input' r.signers';
        signer = contains_from_in r.labels label (subst (λ y. Is_in y r.labels) label' r.signer);
        unsigned =
            subst (λ y. has_signed w.book (key_of s.hash y) (digest_of_spent s.hash (tx_of l.pending) r.spent) ≡ false) label' r.unsigned;
      }

  missing_is : (which : Which) (input : ℕ) (label : Label) → Contains (missing_of s.hash w.book all) (missed which input label)
      → IsUnsigned s w k which input label
  missing_is which input label h =
      let m = missed which input label in
      let x = in_flat of_listed all m (in_from_contains (missing_of s.hash w.book all) m h) in
      let l = x.0 in
      missing_by which input label l x.1 (lacking_is l.which (tx_of l.pending) l.pending.spends l.signers 0 m x.2)

  is_missing : (which : Which) (input : ℕ) (label : Label) → IsUnsigned s w k which input label
      → Contains (missing_of s.hash w.book all) (missed which input label)
  is_missing which input label u =
      let l = u.listed in
      let c = compiled_there s w k which l u.compiled in
      let i = is_lacking l.which (tx_of l.pending) l.pending.spends l.signers 0 input u.spent u.labels label u.spends u.signers
      (in_from_contains u.labels label u.signer) u.unsigned in
      let here = subst (λ n. Is_in (missed l.which n label) (of_listed l)) (none_more input) i in
      let j = subst (λ x. Is_in (missed x input label) (of_listed l)) c.1 here in
      contains_from_in (missing_of s.hash w.book all) (missed which input label)
      (flat_has of_listed all l (missed which input label) c.0 j)

  pub all_missing : AreMissing s w k (missing_of s.hash w.book all)
  all_missing = record {
    none_added = missing_is;
    none_left_out = is_missing;
    in_order = order_flat of_listed needed_of (λ l. lacking_in_order l.which (tx_of l.pending) l.pending.spends l.signers 0) all;
  }
