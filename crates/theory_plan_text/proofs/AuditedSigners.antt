-- What an audit finds absent and missing can be shown: names and labels of a compiled contract.
use Rattle.std.proofs.Common.{◌≡◌, ℕ, ◌+◌, ◌<◌, ◌≤◌, ◌^◌, List, [], ◌∷◌, map, length, Bool, true, false, not, Option, Some, None}
use Rattle.std.proofs.Common.{refl, sym, ap, subst, arith}
use Rattle.std.specs.Prelude.{if◌then◌else◌, option_map, option_and_then}
use Rattle.std.specs.List.{filter, list_all, AllByRecursion}
use Rattle.std.specs.Option.{option_map_or}
use Rattle.std.proofs.lemmas.Bool.{and_parts}
use Rattle.spec_data.specs.Lists.{is_among}
use Rattle.spec_terms.specs.Term as term
use Rattle.spec_terms.specs.Advert.{Advert}
use Rattle.spec_terms.specs.Core.{core, puts_of}
use Rattle.spec_terms.specs.Faults.{IsWellFormed}
use Rattle.spec_terms.specs.Parties.{participants}
use Rattle.spec_terms.specs.Precondition.{Holding, deposits, persistent, volatile, names_of}
use Rattle.spec_terms.specs.Readable.{is_name}
use Rattle.spec_terms.specs.declared.path.PathStep.{PathStep}
use Rattle.spec_bitcoin.specs.declared.label.Label.{Label}
use Rattle.spec_bitcoin.specs.declared.tx.Tx.{Tx}
use Rattle.spec_bitcoin.specs.Keys.{Pair, IsStep, key_of, has_signed}
use Rattle.spec_compiler.specs.ByPath as by_path
use Rattle.spec_compiler.specs.ByPath.{PathEnd, end_at, as_unsigned, unsigned_at}
use Rattle.spec_compiler.specs.Compilation.{path_transactions}
use Rattle.spec_compiler.specs.Endorsements.{put_owner}
use Rattle.spec_compiler.specs.Instance.{Instance, branch_label}
use Rattle.spec_compiler.specs.declared.unsigned.Spent.{Spent}
use Rattle.spec_compiler.specs.declared.unsigned.Unsigned.{Unsigned}
use Rattle.spec_compiler.specs.Transactions.{Standing, tx_of, input_of, digest_of_spent, holding_or_none}
use Rattle.spec_run.specs.declared.event.Event.{Event}
use Rattle.spec_run.specs.Compiled.{compiled_instance}
use Rattle.spec_run.specs.Setup.{Setup}
use Rattle.spec_run.specs.Statements.{IsRun}
use Rattle.spec_run.specs.Translation.{last_world}
use Rattle.spec_tool.specs.declared.finding.Finding.{Finding}
use Rattle.spec_tool.specs.declared.which.Which.{Which}
use Rattle.spec_tool.specs.declared.which.Which.TheVariants as names
use Rattle.spec_tool.specs.Audit.{Missing, listed_by, is_named, absent_of, missing_labels, missing_inputs, missing_of}
use Rattle.spec_tool.specs.Listed.{Listed, deposit_signer, branch_signers, path_signers, initial_listed, path_listed, listed_at}
use Rattle.theory_calculus.proofs.Names.{volatile_named}
use Rattle.theory_script.proofs.Checked.{puts_known}
use Rattle.theory_script.proofs.Listing.Transactions.{AreRight, transactions_right}
use Rattle.theory_world.proofs.Contracts.Checking.{compiled_checked}
use Rattle.theory_world.proofs.Contracts.Made.{IsBranch, known}
use Rattle.theory_world.proofs.Contracts.Standing.{term_branch, term_choice}
use Rattle.theory_world.proofs.Later.{compiled_is}
use Rattle.theory_world.proofs.Tests.{length_map}
use Rattle.theory_psbt_listed.proofs.InRuns.{listed_fit}
use Rattle.theory_play_text.specs.Printable.{IsNamed}
use Rattle.theory_play_text.proofs.LegalSteps.{all_by_in, by_append}
use Rattle.theory_play_text.proofs.Named.{AllNamed, IsHeld, deposits_named, persistent_named, has_names, branch_fine}
use Rattle.theory_plan_text.specs.Audit.{IsShownLabel, IsShownMissing}
use Rattle.theory_plan_text.specs.PlanLines.{IsWhich}
use Rattle.theory_plan_text.proofs.AuditedLines.{map_filter}

abbrev AreShown : List (List Label) → Type 0
AreShown signers = AllByRecursion (λ (labels : List Label). AllByRecursion IsShownLabel labels) signers

-- a transaction whose name, inputs and signers can be shown
pub record IsShownListed (l : Listed) : Type 0 where
  pub which : IsWhich l.which
  pub few : length l.pending.spends < 2 ^ 64
  pub signers : AreShown l.signers

-- ---- what is absent and missing

pub whiches : (all : List Listed) → AllByRecursion IsShownListed all → AllByRecursion (λ (l : Listed). IsWhich l.which) all
whiches [] h = tt
whiches (l ∷ all) h = (h.0.which, whiches all h.1)

each_which : (all : List Listed) → AllByRecursion IsShownListed all → AllByRecursion IsWhich (map (λ (l : Listed). l.which) all)
each_which [] h = tt
each_which (l ∷ all) h = (h.0.which, each_which all h.1)

module _ {X : Type 0} (P : X → Type 0) (p : X → Bool) where
  kept : (xs : List X) → AllByRecursion P xs → AllByRecursion P (filter p xs)
  kept [] h = tt
  kept (x ∷ xs) h = by_test (p x) (kept xs h.1)
    where
      by_test : (t : Bool) → AllByRecursion P (filter p xs) → AllByRecursion P (if t then x ∷ filter p xs else filter p xs)
      by_test true r = (h.0, r)
      by_test false r = r

pub absent_shown : (all : List Listed) (fs : List Finding) → AllByRecursion IsShownListed all → AllByRecursion IsWhich (absent_of all fs)
absent_shown all fs h = kept IsWhich (λ which. not (is_named fs which)) (map (λ (l : Listed). l.which) all) (each_which all h)

module _ (hash : List ℕ → List ℕ) (book : List Pair) where
  labels_missing : (which : Which) (k : ℕ) (labels : List Label) (digest : List ℕ) → IsWhich which → k < 2 ^ 64
      → AllByRecursion IsShownLabel labels
      → AllByRecursion IsShownMissing (map {B = Missing} (λ label. (which, k, label)) (missing_labels hash book labels digest))
  labels_missing which k labels digest h l r =
      map_filter IsShownLabel IsShownMissing (λ label. (which, k, label)) (λ label. not (has_signed book (key_of hash label) digest))
      (λ label q. (h, l, q)) labels r

  inputs_missing : (which : Which) (tx : Tx) (k : ℕ) (spends : List Spent) (signers : List (List Label)) → IsWhich which
      → k + length spends ≤ 2 ^ 64 → AreShown signers → AllByRecursion IsShownMissing (missing_inputs hash book which tx k spends signers)
  inputs_missing which tx k [] signers h few r = tt
  inputs_missing which tx k (spent ∷ rest) [] h few r = tt
  inputs_missing which tx k (spent ∷ rest) (labels ∷ others) h few r =
      by_append IsShownMissing
      (map {B = Missing} (λ label. (which, k, label)) (missing_labels hash book labels (digest_of_spent hash tx spent)))
      (missing_inputs hash book which tx (k + 1) rest others)
      (labels_missing which k labels (digest_of_spent hash tx spent) h (omega (arith, few)) r.0)
      (inputs_missing which tx (k + 1) rest others h (omega (arith, few)) r.1)

  pub missing_shown : (all : List Listed) → AllByRecursion IsShownListed all → AllByRecursion IsShownMissing (missing_of hash book all)
  missing_shown [] h = tt
  missing_shown (l ∷ all) h =
      let few = h.0.few in
      by_append IsShownMissing (missing_inputs hash book l.which (tx_of l.pending) 0 l.pending.spends l.signers) (missing_of hash book all)
      (inputs_missing l.which (tx_of l.pending) 0 l.pending.spends l.signers h.0.which (omega (arith, few)) h.0.signers)
      (missing_shown all h.1)

-- ---- signers

owners_shown : (ds : List (List ℕ × Holding)) → AllByRecursion IsHeld ds → AreShown (map (λ d. deposit_signer (d.1).owner) ds)
owners_shown [] h = tt
owners_shown (d ∷ ds) h = (((h.0).1, tt), owners_shown ds h.1)

module _ (a : Advert) (well : IsWellFormed a) where
  put_named : (name : List ℕ) → is_among name (names_of (volatile a.pre)) ≡ true → IsNamed (put_owner a name)
  put_named name h =
      let v = volatile_named a.pre name h in
      let held = all_by_in IsHeld (deposits a.pre) (deposits_named a.pre (has_names a well).pre) (name, v.0) v.2 in
      subst (λ (o : Option Holding). IsNamed (holding_or_none o).owner) (sym v.1) held.1

  puts_shown : (puts : List (List ℕ)) → list_all (λ x. is_among x (names_of (volatile a.pre))) puts ≡ true
      → AreShown (map (λ name. deposit_signer (put_owner a name)) puts)
  puts_shown [] h = tt
  puts_shown (x ∷ xs) h =
      let p = and_parts (is_among x (names_of (volatile a.pre))) (list_all (λ y. is_among y (names_of (volatile a.pre))) xs) h in
      ((put_named x p.0, tt), puts_shown xs p.1)

  people_shown : (contract : ℕ) (path : List PathStep) → contract < 2 ^ 32 → AllByRecursion IsStep path → (xs : List (List ℕ)) → AllNamed xs
      → AllByRecursion IsShownLabel (map (branch_label contract path) xs)
  people_shown contract path l steps [] h = tt
  people_shown contract path l steps (x ∷ xs) h =
      let p = and_parts (is_name x) (list_all is_name xs) h in ((l, steps, p.0), people_shown contract path l steps xs p.1)

-- ---- a compiled contract

module _ (s : Setup) (es : List Event) (run : IsRun s es) (instance : Instance)
    (c : compiled_instance s (last_world s es) 0 ≡ Some instance) where
  well : IsWellFormed instance.advert
  well = compiled_checked s run.setup (last_world s es) 0 instance c

  number : instance.contract < 2 ^ 32
  number =
      let i = compiled_is s (last_world s es) 0 instance c in
      let zero : instance.contract ≡ 0 = ap (λ (y : Instance). y.contract) i.is in
      omega (arith, zero)

  few_spends : (which : Which) (l : Listed) → listed_at s.hash instance which ≡ Some l → length l.pending.spends < 2 ^ 64
  few_spends which l e =
      let fits = (listed_fit s es run).last 0 instance which l c e in
      let n = length_map input_of l.pending.spends in
      let few = fits.tx.few_inputs in
      omega (arith, n, few)

  initial_shown : IsShownListed (initial_listed s.hash instance)
  initial_shown = record {
    which = tt;
    few = few_spends names.Init (initial_listed s.hash instance) refl;
    signers = owners_shown (persistent instance.advert.pre) (persistent_named instance.advert.pre (has_names instance.advert well).pre);
  }

  -- of a branch at a path
  module _ (path : List PathStep) (here : Standing) (i : ℕ) (b : term.Guarded)
      (ends : end_at s.hash instance path ≡ Some (by_path.at_branch here i b)) where
    there : IsBranch s.hash instance path here i b
    there = known s.hash instance path (by_path.at_branch here i b) ends

    steps : AllByRecursion IsStep path
    steps = (branch_fine instance.advert well path b (term_branch s.hash instance path here i b ends)).steps

    branch_shown : AreShown (path_signers instance path)
    branch_shown =
        let a = instance.advert in
        let choice = term_choice s.hash instance there.position here there.choice there.stands in
        let puts = puts_known a well there.position there.choice choice i b there.there in
        let all : AreShown (branch_signers instance.contract a path b) = (
          people_shown a well instance.contract path number steps (participants a) (has_names a well).people,
          puts_shown a well (puts_of (core b)) puts,
        ) in
        subst (λ (o : Option term.Guarded). AreShown (option_map_or (branch_signers instance.contract a path) o []))
        (sym (term_branch s.hash instance path here i b ends)) all

  path_shown : (path : List PathStep) (d : Unsigned) (o : Option PathEnd) → end_at s.hash instance path ≡ o
      → option_and_then (as_unsigned s.hash instance) o ≡ Some d → AllByRecursion IsStep path × AreShown (path_signers instance path)
  path_shown path d None ends e = cc
  path_shown path d (Some (by_path.at_position here choice)) ends e = cc
  path_shown path d (Some (by_path.at_branch here i b)) ends e = (steps path here i b ends, branch_shown path here i b ends)

  paths_shown : (ps : List (List PathStep × Unsigned)) → AreRight (unsigned_at s.hash instance) ps
      → AllByRecursion IsShownListed (map (λ p. path_listed instance (p.0) (p.1)) ps)
  paths_shown [] h = tt
  paths_shown (p ∷ ps) h =
      let l = path_listed instance (p.0) (p.1) in
      let q = path_shown (p.0) (p.1) (end_at s.hash instance p.0) refl h.0 in (
        record {
          which = q.0;
          few = few_spends (names.At p.0) l (ap (option_map (path_listed instance p.0)) h.0);
          signers = q.1;
        },
        paths_shown ps h.1,
      )

  compiled_shown : AllByRecursion IsShownListed (listed_by s (Some instance))
  compiled_shown = (initial_shown, paths_shown (path_transactions s.hash instance) (transactions_right s.hash instance))

-- the transactions that a run's last world lists
pub listed_shown : (s : Setup) (es : List Event) → IsRun s es → (o : Option Instance) → compiled_instance s (last_world s es) 0 ≡ o
    → AllByRecursion IsShownListed (listed_by s o)
listed_shown s es run None e = tt
listed_shown s es run (Some instance) e = compiled_shown s es run instance e
