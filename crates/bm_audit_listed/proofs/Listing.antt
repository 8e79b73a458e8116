-- What is read off the lists of a compiled contract is what the definitions say of its transactions.
use Rattle.std.proofs.Common.{◌≡◌, ℕ, ◌+◌, List, [], ◌∷◌, ◌++◌, map, Bool, true, false, not, Option, Some, None, refl, sym, ap, ◌∙◌}
use Rattle.std.specs.Prelude.{if◌then◌else◌, option_map}
use Rattle.std.specs.List.{filter, flat_map}
use Rattle.spec_terms.specs.Advert.{Advert}
use Rattle.spec_terms.specs.declared.path.PathStep.{PathStep}
use Rattle.spec_bitcoin.specs.declared.label.Label.{Label}
use Rattle.spec_bitcoin.specs.declared.tx.Tx.{Tx}
use Rattle.spec_bitcoin.specs.Keys.{Pair, key_of, has_signed}
use Rattle.spec_compiler.specs.Instance.{Instance}
use Rattle.spec_compiler.specs.declared.unsigned.Spent.{Spent}
use Rattle.spec_compiler.specs.declared.unsigned.Unsigned.{Unsigned}
use Rattle.spec_compiler.specs.declared.prepared.Prepared.{Prepared}
use Rattle.spec_compiler.specs.Transactions.{tx_of, digest_of_spent, prepared, initial_unsigned}
use Rattle.spec_compiler.specs.Compilation.{path_transactions}
use Rattle.spec_run.specs.Ledger.{same_bare}
use Rattle.spec_tool.specs.declared.which.Which.{Which}
use Rattle.spec_tool.specs.declared.which.Which.TheVariants as names
use Rattle.spec_tool.specs.declared.finding.Finding.{Finding}
use Rattle.spec_tool.specs.Listed.{Listed, listed, initial_listed, path_listed}
use Rattle.spec_tool.specs.Audit.{Missing, names_among, absent_of, is_named, missing_labels, missing_inputs, missing_of}
use Rattle.bm_compile.specs.Numbered.{Numbered, numbered}
use Rattle.bm_audit_listed.specs.declared.entries.Candidate.{Candidate}
use Rattle.bm_audit_listed.specs.Parts.{path_candidate, candidates_of, candidates_by, as_candidate, names_of, absent_among, path_signers, missing_label}
use Rattle.bm_audit_listed.specs.Parts.{missing_by, path_missing, missing_in}

-- ---- the transactions

paths_listed : (hash : List ℕ → List ℕ) (s : Instance) (ps : List (List PathStep × Unsigned))
    → map path_candidate (map {B = List PathStep × Prepared} (λ p. (p.0, prepared hash p.1)) ps)
    ≡ map as_candidate (map (λ p. path_listed s (p.0) (p.1)) ps)
paths_listed hash s [] = refl
paths_listed hash s (p ∷ ps) = ap (λ (rest : List Candidate). path_candidate (p.0, prepared hash (p.1)) ∷ rest) (paths_listed hash s ps)

pub candidates_listed : (hash : List ℕ → List ℕ) (s : Instance) → candidates_of (numbered hash s) ≡ map as_candidate (listed hash s)
candidates_listed hash s =
    ap (λ (rest : List Candidate). as_candidate (initial_listed hash s) ∷ rest) (paths_listed hash s (path_transactions hash s))

pub names_listed : (all : List Listed) (tx : Tx) → names_of (map as_candidate all) tx ≡ names_among all tx
names_listed [] tx = refl
names_listed (l ∷ all) tx = by_test (same_bare tx (tx_of l.pending)) (names_listed all tx)
  where
    by_test : (b : Bool) → names_of (map as_candidate all) tx ≡ names_among all tx
        → map (λ (c : Candidate). c.which) (if b then as_candidate l ∷ filter (λ (c : Candidate). same_bare tx c.tx) (map as_candidate all)
        else filter (λ (c : Candidate). same_bare tx c.tx) (map as_candidate all))
        ≡ map (λ (x : Listed). x.which) (if b then l ∷ filter (λ (x : Listed). same_bare tx (tx_of x.pending)) all
        else filter (λ (x : Listed). same_bare tx (tx_of x.pending)) all)
    by_test true h = ap (λ (rest : List Which). l.which ∷ rest) h
    by_test false h = h

same_names : (all : List Listed) → map (λ (c : Candidate). c.which) (map as_candidate all) ≡ map (λ (l : Listed). l.which) all
same_names [] = refl
same_names (l ∷ all) = ap (λ (rest : List Which). l.which ∷ rest) (same_names all)

pub absent_listed : (all : List Listed) (findings : List Finding) → absent_among (map as_candidate all) findings ≡ absent_of all findings
absent_listed all findings = ap (filter (λ which. not (is_named findings which))) (same_names all)

-- ---- missing signatures

module _ (hash : List ℕ → List ℕ) (book : List Pair) (which : Which) where
  labels_missing : (k : ℕ) (digest : List ℕ) (labels : List Label)
      → map {B = Missing} (λ label. (which, k, label)) (missing_labels hash book labels digest)
      ≡ flat_map (missing_label hash book which k digest) labels
  labels_missing k digest [] = refl
  labels_missing k digest (label ∷ labels) = by_test (has_signed book (key_of hash label) digest) (labels_missing k digest labels)
    where
      by_test : (b : Bool)
          → map {B = Missing} (λ x. (which, k, x)) (missing_labels hash book labels digest) ≡ flat_map (missing_label hash book which k digest) labels
          → map {B = Missing} (λ x. (which, k, x))
          (if not b then label ∷ missing_labels hash book labels digest else missing_labels hash book labels digest)
          ≡ (if b then [] else (which, k, label) ∷ []) ++ flat_map (missing_label hash book which k digest) labels
      by_test true h = h
      by_test false h = ap (λ (rest : List Missing). (which, k, label) ∷ rest) h

  inputs_missing : (tx : Tx) (k : ℕ) (spends : List Spent) (signers : List (List Label))
      → missing_inputs hash book which tx k spends signers
      ≡ missing_by hash book which k signers (map (digest_of_spent hash tx) spends)
  inputs_missing tx k [] [] = refl
  inputs_missing tx k [] (labels ∷ signers) = refl
  inputs_missing tx k (spent ∷ spends) [] = refl
  inputs_missing tx k (spent ∷ spends) (labels ∷ signers) =
      let a = labels_missing k (digest_of_spent hash tx spent) labels in
      let b = inputs_missing tx (k + 1) spends signers in
      λ i. a i ++ b i

module _ (hash : List ℕ → List ℕ) (book : List Pair) (s : Instance) where
  abbrev missing_one : Listed → List Missing
  missing_one l = missing_inputs hash book l.which (tx_of l.pending) 0 l.pending.spends l.signers

  paths_missing : (ps : List (List PathStep × Unsigned))
      → flat_map missing_one (map (λ p. path_listed s (p.0) (p.1)) ps)
      ≡ flat_map (path_missing hash book s.contract s.advert) (map {B = List PathStep × Prepared} (λ p. (p.0, prepared hash p.1)) ps)
  paths_missing [] = refl
  paths_missing (p ∷ ps) =
      let a = inputs_missing hash book (names.At (p.0)) (tx_of (p.1)) 0 (p.1).spends (path_signers s.contract s.advert (p.0)) in
      let b = paths_missing ps in
      λ i. a i ++ b i

  pub missing_listed : missing_of hash book (listed hash s) ≡ missing_in hash book s.contract s.advert (numbered hash s)
  missing_listed =
      let d = initial_unsigned hash s in
      let a = inputs_missing hash book names.Init (tx_of d) 0 d.spends (initial_listed hash s).signers in
      let b = paths_missing (path_transactions hash s) in
      λ i. a i ++ b i

-- the same of a contract that is compiled so
pub missing_by_lists : (hash : List ℕ → List ℕ) (book : List Pair) (contract : ℕ) (advert : Advert) (compiled : Numbered) (s : Instance)
    → s.contract ≡ contract → s.advert ≡ advert → compiled ≡ numbered hash s
    → missing_in hash book contract advert compiled ≡ missing_of hash book (listed hash s)
missing_by_lists hash book contract advert compiled s a b c =
    (λ i. missing_in hash book (sym a i) (sym b i) (c i)) ∙ sym (missing_listed hash book s)
