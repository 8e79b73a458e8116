-- The transactions that a compiled contract lists are small, where the world has what every run keeps.
use Rattle.std.proofs.Common.{◌≡◌, ℕ, ◌≤◌, List, [], ◌∷◌, length, map, Bool, true, false, Option, Some, None, refl, sym, ap}
use Rattle.std.proofs.Common.{subst, arith, length-append}
use Rattle.std.specs.Prelude.{nat_le, option_map, option_and_then, is_some, if◌then◌else◌}
use Rattle.std.specs.Option.{option_map_or}
use Rattle.std.specs.List.{AllByRecursion}
use Rattle.std.proofs.lemmas.Bool.{leb-true}
use Rattle.spec_data.specs.Hashes.{HashesBytes}
use Rattle.spec_terms.specs.Term as term
use Rattle.spec_terms.specs.Advert.{Advert}
use Rattle.spec_terms.specs.Core.{core, puts_of}
use Rattle.spec_terms.specs.Faults.{IsWellFormed}
use Rattle.spec_terms.specs.Parties.{participants}
use Rattle.spec_terms.specs.Paths.{at}
use Rattle.spec_terms.specs.Precondition.{Holding, persistent}
use Rattle.spec_terms.specs.declared.path.PathStep.{PathStep}
use Rattle.spec_terms.specs.declared.place.Place.{Place}
use Rattle.spec_terms.specs.declared.place.Place.TheVariants as places
use Rattle.spec_bitcoin.specs.declared.label.Label.{Label}
use Rattle.spec_bitcoin.specs.declared.label.Label.TheVariants as labels
use Rattle.spec_bitcoin.specs.Keys.{label_text, checksig_byte}
use Rattle.spec_compiler.specs.Instance.{Instance, branch_path, branch_label, deposit_key, position_script}
use Rattle.spec_compiler.specs.Endorsements.{put_owner}
use Rattle.spec_compiler.specs.declared.unsigned.Spent.{Spent}
use Rattle.spec_compiler.specs.Transactions.{Standing, party_script, deposit, put_deposits, branch_unsigned, root_value}
use Rattle.spec_compiler.specs.ByPath as by_path
use Rattle.spec_compiler.specs.ByPath.{PathEnd, end_at, as_unsigned}
use Rattle.spec_calculus.specs.Configuration.{Configuration}
use Rattle.spec_run.specs.Setup.{Setup, contract_at}
use Rattle.spec_run.specs.World.{World}
use Rattle.spec_run.specs.Compiled.{compiled_instance}
use Rattle.spec_run.specs.Conditions.{IsSetup}
use Rattle.spec_tool.specs.declared.which.Which.{Which}
use Rattle.spec_tool.specs.declared.which.Which.TheVariants as names
use Rattle.spec_tool.specs.Listed.{Listed, deposit_signer, branch_signers, path_signers, initial_listed, path_listed, listed_at}
use Rattle.spec_tool.specs.PsbtText.{has_transaction}
use Rattle.theory_calculus.proofs.Faultless.{no_limit}
use Rattle.theory_script.proofs.Listing.Stands.{some_same}
use Rattle.theory_world.proofs.Labels.{core_readable}
use Rattle.theory_world.proofs.Later.{compiled_is}
use Rattle.theory_world.proofs.Tests.{length_map}
use Rattle.theory_world.proofs.Contracts.Checking.{compiled_checked}
use Rattle.theory_world.proofs.Contracts.Standing.{term_branch}
use Rattle.theory_run.specs.KeptRuns.{KeptBooks}
use Rattle.theory_run.proofs.Facts.Readings.{branch_is_readable}
use Rattle.theory_run.proofs.Widths.Fitting.{pays_size}
use Rattle.theory_psbt_listed.proofs.Digests.{AreBytes}
use Rattle.theory_psbt_listed.proofs.Fitting.{all_fit, at_place, few_puts, here_few, few_persistent}
use Rattle.theory_psbt_listed.proofs.Outputs.{outputs_few, outputs_short}
use Rattle.theory_psbt_listed.proofs.Sizes.{IsSmall}

-- ---- participants

few_people : (a : Advert) → IsWellFormed a → length (participants a) ≤ 16
few_people a well = by_test (places.Count (length (participants a))) (nat_le (length (participants a)) 16) refl (no_limit a well).0
  where
    by_test : (place : Place) (b : Bool) → nat_le (length (participants a)) 16 ≡ b → (if b then None else Some place) ≡ None
        → length (participants a) ≤ 16
    by_test place true e h = leb-true (length (participants a)) 16 e
    by_test place false e h = cc

-- ---- scripts and signers of deposits

party_short : (hash : List ℕ → List ℕ) → HashesBytes hash → (a : List ℕ) → length (party_script hash a) ≤ 10000
party_short hash size a =
    let n = length-append (deposit_key hash a) (checksig_byte ∷ []) in
    let l = size.size (label_text (labels.Deposit a)) in
    omega (arith, n, l)

abbrev AllShortScripts : List Spent → Type 0
AllShortScripts xs = AllByRecursion (λ (x : Spent). length x.script ≤ 10000) xs

abbrev AllFew : List (List Label) → Type 0
AllFew signers = AllByRecursion (λ (ls : List Label). length ls ≤ 16) signers

module _ (hash : List ℕ → List ℕ) (size : HashesBytes hash) (st : Instance) where
  owners_short : (ds : List (List ℕ × Holding)) → AllShortScripts (map (λ (d : List ℕ × Holding). deposit hash st d.0 d.1) ds)
  owners_short [] = tt
  owners_short (d ∷ ds) = (party_short hash size (d.1).owner, owners_short ds)

  puts_short : (puts : List (List ℕ)) → AllShortScripts (put_deposits hash st puts)
  puts_short [] = tt
  puts_short (n ∷ puts) = (party_short hash size _, puts_short puts)

owners_few : (ds : List (List ℕ × Holding)) → AllFew (map (λ d. deposit_signer (d.1).owner) ds)
owners_few [] = tt
owners_few (d ∷ ds) = (omega arith, owners_few ds)

puts_few : (a : Advert) (puts : List (List ℕ)) → AllFew (map (λ name. deposit_signer (put_owner a name)) puts)
puts_few a [] = tt
puts_few a (n ∷ puts) = (omega arith, puts_few a puts)

-- ---- a compiled contract

module _ (s : Setup) (setup : IsSetup s) (g : Configuration) (w : World) (kept : KeptBooks s g w) (bytes : AreBytes w.promises) (k : ℕ)
    (st : Instance) (c : compiled_instance s w k ≡ Some st) where
  well : IsWellFormed st.advert
  well = compiled_checked s setup w k st c

  initial_small : IsSmall (initial_listed s.hash st)
  initial_small =
      let few = few_persistent st.advert well in
      let n = length_map (λ (d : List ℕ × Holding). deposit s.hash st d.0 d.1) (persistent st.advert.pre) in
      let fits = all_fit s setup g w kept bytes k st c names.Init (initial_listed s.hash st) refl in
      record {
        few_spends = omega (arith, n, few);
        scripts = owners_short s.hash setup.hash st (persistent st.advert.pre);
        signers = owners_few (persistent st.advert.pre);
        few_outputs = omega arith;
        outputs = (pays_size s.hash setup.hash (position_script s.hash st [] st.advert.root) (root_value st), tt);
        inputs = fits.tx.inputs;
      }

  module _ (path : List PathStep) (here : Standing) (i : ℕ) (b : term.Guarded)
      (ends : end_at s.hash st path ≡ Some (by_path.at_branch here i b)) where
    few_signers : AllFew (path_signers st path)
    few_signers =
        let n = length_map (branch_label st.contract path) (participants st.advert) in
        let m = few_people st.advert well in
        let all : AllFew (branch_signers st.contract st.advert path b) = (omega (arith, n, m), puts_few st.advert (puts_of (core b))) in
        let there = term_branch s.hash st path here i b ends in
        subst (λ (o : Option term.Guarded). AllFew (option_map_or (branch_signers st.contract st.advert path) o [])) (sym there) all

    branch_small : IsSmall (path_listed st path (branch_unsigned s.hash st here i b))
    branch_small =
        let l = path_listed st path (branch_unsigned s.hash st here i b) in
        let is = ap (λ (o : Option PathEnd). option_map (path_listed st path) (option_and_then (as_unsigned s.hash st) o)) ends in
        let fits = all_fit s setup g w kept bytes k st c (names.At path) l is in
        let p = at_place s setup g w kept bytes k st c path here i b ends in
        let readable = branch_is_readable s.hash st well p.position here p.choice i b p.stands p.there in
        let few = few_puts s setup g w kept bytes k st c path here i b ends in
        let where_to = branch_path here.position i in
        record {
          few_spends = omega (arith, few);
          scripts = (here_few s setup g w kept bytes k st c path here i b ends, puts_short s.hash setup.hash st (puts_of (core b)));
          signers = few_signers;
          few_outputs = outputs_few s.hash setup.hash st where_to here.output.value (core b) (core_readable b readable);
          outputs = outputs_short s.hash setup.hash st where_to here.output.value (core b);
          inputs = fits.tx.inputs;
        }

  by_end : (path : List PathStep) (l : Listed) (o : Option PathEnd) → end_at s.hash st path ≡ o
      → option_map (path_listed st path) (option_and_then (as_unsigned s.hash st) o) ≡ Some l → IsSmall l
  by_end path l None ends e = cc
  by_end path l (Some (by_path.at_position here choice)) ends e = cc
  by_end path l (Some (by_path.at_branch here i b)) ends e = subst IsSmall (some_same e) (branch_small path here i b ends)

  -- each of its transactions is small
  pub all_small : (which : Which) (l : Listed) → listed_at s.hash st which ≡ Some l → IsSmall l
  all_small names.Init l e = subst IsSmall (some_same e) initial_small
  all_small (names.At path) l e = by_end path l (end_at s.hash st path) refl e

  there_by_end : (path : List PathStep) (l : Listed) (o : Option PathEnd) → end_at s.hash st path ≡ o
      → option_map (path_listed st path) (option_and_then (as_unsigned s.hash st) o) ≡ Some l → is_some (at st.advert.root path) ≡ true
  there_by_end path l None ends e = cc
  there_by_end path l (Some (by_path.at_position here choice)) ends e = cc
  there_by_end path l (Some (by_path.at_branch here i b)) ends e = ap is_some (term_branch s.hash st path here i b ends)

  -- the contract has what it lists
  pub has_listed : (which : Which) (l : Listed) → listed_at s.hash st which ≡ Some l → has_transaction (contract_at s k) which ≡ true
  has_listed names.Init l e = refl
  has_listed (names.At path) l e =
      let ci = compiled_is s w k st c in
      let same : st.advert ≡ ci.advert = ap (λ (y : Instance). y.advert) ci.is in
      let there = there_by_end path l (end_at s.hash st path) refl e in
      subst (λ (o : Option Advert). has_transaction o (names.At path) ≡ true) (sym ci.there)
      (subst (λ (a : Advert). is_some (at a.root path) ≡ true) same there)
