-- The transactions that a compiled contract lists fit, where the world has what every run keeps.
use Rattle.std.proofs.Common.{◌≡◌, ℕ, ◌≤◌, List, [], ◌∷◌, ◌++◌, length, map, true, Option, Some, None, refl, sym, ap}
use Rattle.std.proofs.Common.{subst, arith, lit<, inl, inr, length-append}
use Rattle.std.specs.Prelude.{◌&&◌, nat_le, option_map, option_and_then}
use Rattle.std.specs.Option.{option_map_or}
use Rattle.std.specs.List.{list_all, AllByRecursion}
use Rattle.std.proofs.lemmas.Bool.{and_parts, leb-true}
use Rattle.spec_data.specs.Lists.{is_among, are_different, look_up}
use Rattle.spec_data.specs.Ranges.{max_money}
use Rattle.spec_data.specs.Hashes.{IsBytes, HashesBytes}
use Rattle.spec_data.proofs.ByteLemmas.{IsBytes-append}
use Rattle.spec_terms.specs.Term as term
use Rattle.spec_terms.specs.Term.{Contract, branches}
use Rattle.spec_terms.specs.Advert.{Advert}
use Rattle.spec_terms.specs.Core.{core, puts_of, reveals_of}
use Rattle.spec_terms.specs.Faults.{IsWellFormed}
use Rattle.spec_terms.specs.Parties.{participants}
use Rattle.spec_terms.specs.Precondition.{Holding, persistent, volatile, deposits, secrets, names_of}
use Rattle.spec_terms.specs.Readable.{most_deposits, most_secrets, is_name, is_readable_pre, is_readable_contract, is_some_list}
use Rattle.spec_terms.specs.Readable.{is_readable_entry}
use Rattle.spec_terms.specs.declared.path.PathStep.{PathStep}
use Rattle.spec_terms.specs.declared.pre.Pre.{Pre}
use Rattle.spec_terms.specs.declared.pre.Pre.TheVariants.{Persistent, Volatile, Secret}
use Rattle.spec_bitcoin.specs.declared.label.Label.{Label}
use Rattle.spec_bitcoin.specs.declared.label.Label.TheVariants as labels
use Rattle.spec_bitcoin.specs.Keys.{IsLabel, key_of, label_text, checksig_byte}
use Rattle.spec_bitcoin.specs.Spelling.{IsString, IsPlace, IsTransaction}
use Rattle.spec_compiler.specs.Keyed.Keys.{by_plan}
use Rattle.spec_compiler.specs.Instance.{Instance, branch_label, deposit_key}
use Rattle.spec_compiler.specs.Endorsements.{put_owner}
use Rattle.spec_compiler.specs.Statements.{IsCompiled}
use Rattle.spec_compiler.specs.declared.unsigned.Spent.{Spent}
use Rattle.spec_compiler.specs.Transactions.{Standing, tx_of, party_script, deposit, holding_or_none, put_deposits}
use Rattle.spec_compiler.specs.Transactions.{branch_unsigned}
use Rattle.spec_compiler.specs.ByPath as by_path
use Rattle.spec_compiler.specs.ByPath.{PathEnd, end_at, as_unsigned, position_at, unsigned_at}
use Rattle.spec_calculus.specs.Configuration.{Configuration}
use Rattle.spec_run.specs.Setup.{Setup}
use Rattle.spec_run.specs.World.{World}
use Rattle.spec_run.specs.Compiled.{compiled_instance}
use Rattle.spec_run.specs.Conditions.{IsSetup}
use Rattle.spec_tool.specs.declared.which.Which.{Which}
use Rattle.spec_tool.specs.declared.which.Which.TheVariants as names
use Rattle.spec_tool.specs.Listed.{Listed, deposit_signer, branch_signers, path_signers, initial_listed, path_listed, listed_at}
use Rattle.theory_bitcoin.proofs.Exact.{bytes_none, bytes_cons}
use Rattle.theory_calculus.proofs.Faultless.{no_fault}
use Rattle.theory_calculus.specs.Members.{Is_in}
use Rattle.theory_calculus.proofs.Names.{volatile_named, persistent_deposit}
use Rattle.theory_script.proofs.Balances.{position_little}
use Rattle.theory_script.proofs.Checked.{core_fact, puts_known}
use Rattle.theory_script.proofs.Listing.Stands.{some_same, position_stands}
use Rattle.theory_world.proofs.Later.{compiled_is}
use Rattle.theory_world.proofs.Tests.{length_map}
use Rattle.theory_world.proofs.Contracts.Checking.{compiled_checked}
use Rattle.theory_world.proofs.Contracts.Made.{IsBranch, known}
use Rattle.theory_world.proofs.Contracts.Mentions.{a_person}
use Rattle.theory_world.proofs.Contracts.Standing.{term_branch, term_choice}
use Rattle.theory_run.proofs.Accepted.Spending.{Checked}
use Rattle.theory_run.specs.KeptRuns.{KeptBooks}
use Rattle.theory_run.proofs.Facts.Bookkeeping.{checks}
use Rattle.theory_run.proofs.Facts.Labelled.{compiled_label}
use Rattle.theory_run.proofs.Facts.Readings.{branch_is_readable}
use Rattle.theory_run.proofs.Widths.Fitting.{bound_place, initial_fits}
use Rattle.theory_run.proofs.Widths.BranchWidths.{branch_fits}
use Rattle.theory_run.proofs.Widths.Putting.{no_more}
use Rattle.theory_psbt.specs.Listed.{IsSpent, IsListed, AreCalm, party_text}
use Rattle.theory_psbt.proofs.KeysDiffer.{keys_differ, participants_differ}
use Rattle.theory_psbt.proofs.Signers.{signers_for_each}
use Rattle.theory_psbt_listed.proofs.Digests.{BytesIn, AreBytes, bytes_at}
use Rattle.theory_psbt_listed.proofs.ScriptBytes.{script_bytes, script_few}

-- ---- the script of a deposit

pub party_bytes : (hash : List ℕ → List ℕ) → HashesBytes hash → (a : List ℕ) → IsString (party_script hash a)
party_bytes hash size a =
    let text = label_text (labels.Deposit a) in
    let key = deposit_key hash a in
    let n = length-append key (checksig_byte ∷ []) in
    let l = size.size text in
    record {
      bytes = bytes_cons 33 (key ++ checksig_byte ∷ []) (lit< tt)
          (IsBytes-append key (checksig_byte ∷ []) (bytes_cons 2 (hash text) (lit< tt) (size.bytes text))
          (bytes_cons checksig_byte [] (lit< tt) bytes_none));
      size = omega (arith, n, l);
    }

-- ---- how much and how many deposits are

entry_low : (party name : List ℕ) (value : ℕ) → (is_name party && (nat_le value max_money && is_name name)) ≡ true → value ≤ max_money
entry_low party name value h =
    let p = and_parts (is_name party) (nat_le value max_money && is_name name) h in
    leb-true value max_money (and_parts (nat_le value max_money) (is_name name) p.1).0

deposit_low : (pre : List Pre) → list_all is_readable_entry pre ≡ true → (d : List ℕ × Holding) → Is_in d (deposits pre)
    → (d.1).value ≤ max_money
deposit_low [] h d i = absurd i
deposit_low (Persistent party value name ∷ pre) h d (inl e) =
    let p = and_parts (is_readable_entry (Persistent party value name)) (list_all is_readable_entry pre) h in
    subst (λ (x : List ℕ × Holding). (x.1).value ≤ max_money) (sym e) (entry_low party name value p.0)
deposit_low (Persistent party value name ∷ pre) h d (inr i) =
    deposit_low pre (and_parts (is_readable_entry (Persistent party value name)) (list_all is_readable_entry pre) h).1 d i
deposit_low (Volatile party value name ∷ pre) h d (inl e) =
    let p = and_parts (is_readable_entry (Volatile party value name)) (list_all is_readable_entry pre) h in
    subst (λ (x : List ℕ × Holding). (x.1).value ≤ max_money) (sym e) (entry_low party name value p.0)
deposit_low (Volatile party value name ∷ pre) h d (inr i) =
    deposit_low pre (and_parts (is_readable_entry (Volatile party value name)) (list_all is_readable_entry pre) h).1 d i
deposit_low (Secret party name ∷ pre) h d i =
    deposit_low pre (and_parts (is_readable_entry (Secret party name)) (list_all is_readable_entry pre) h).1 d i

few_volatile : (pre : List Pre) → length (names_of (volatile pre)) ≤ length (deposits pre)
few_volatile [] = omega arith
few_volatile (Persistent party value name ∷ pre) = let r = few_volatile pre in omega (arith, r)
few_volatile (Volatile party value name ∷ pre) = let r = few_volatile pre in omega (arith, r)
few_volatile (Secret party name ∷ pre) = few_volatile pre

-- the entries of a checked contract's precondition can be read, and its deposits are few
record IsReadablePre (a : Advert) : Type 0 where
  entries : list_all is_readable_entry a.pre ≡ true
  few : length (deposits a.pre) ≤ 32

readable_pre : (a : Advert) → IsWellFormed a → IsReadablePre a
readable_pre a h =
    let r = (and_parts (is_readable_pre a.pre) (nat_le a.fee max_money && is_readable_contract a.root) h.readable).0 in
    let few = nat_le (length (deposits a.pre)) most_deposits in
    let fewer = nat_le (length (secrets a.pre)) most_secrets in
    let p = and_parts (is_some_list a.pre && list_all is_readable_entry a.pre) (few && fewer) r in
    record {
      entries = (and_parts (is_some_list a.pre) (list_all is_readable_entry a.pre) p.0).1;
      few = leb-true (length (deposits a.pre)) 32 (and_parts few fewer p.1).0;
    }

count_persistent : (pre : List Pre) → length (persistent pre) ≤ length (deposits pre)
count_persistent [] = omega arith
count_persistent (Persistent party value name ∷ pre) = let r = count_persistent pre in omega (arith, r)
count_persistent (Volatile party value name ∷ pre) = let r = count_persistent pre in omega (arith, r)
count_persistent (Secret party name ∷ pre) = count_persistent pre

pub few_persistent : (a : Advert) → IsWellFormed a → length (persistent a.pre) ≤ 32
few_persistent a well =
    let n = count_persistent a.pre in
    let l = (readable_pre a well).few in
    omega (arith, n, l)

-- ---- signers

module _ (hash : List ℕ → List ℕ) where
  -- the keys are different
  abbrev pub KeysApart : List (List Label) → Type 0
  KeysApart signers = AllByRecursion (λ (ls : List Label). are_different (map (key_of hash) ls) ≡ true) signers

  owners_apart : (ds : List (List ℕ × Holding)) → KeysApart (map (λ d. deposit_signer (d.1).owner) ds)
  owners_apart [] = tt
  owners_apart (d ∷ ds) = (refl, owners_apart ds)

  puts_apart : (a : Advert) (puts : List (List ℕ)) → KeysApart (map (λ name. deposit_signer (put_owner a name)) puts)
  puts_apart a [] = tt
  puts_apart a (n ∷ puts) = (refl, puts_apart a puts)

-- ---- a compiled contract

module _ (s : Setup) (setup : IsSetup s) (g : Configuration) (w : World) (kept : KeptBooks s g w) (bytes : AreBytes w.promises) (k : ℕ)
    (st : Instance) (c : compiled_instance s w k ≡ Some st) where
  well : IsWellFormed st.advert
  well = compiled_checked s setup w k st c

  check : Checked s w
  check = checks s setup g w kept

  digests_are : BytesIn st.hashes
  digests_are = subst BytesIn (sym (ap (λ (y : Instance). y.hashes) (compiled_is s w k st c).is)) (bytes_at w.promises k bytes)

  number_is : st.contract ≡ k
  number_is = ap (λ (y : Instance). y.contract) (compiled_is s w k st c).is

  -- ---- deposits

  deposit_spent : (d : List ℕ × Holding) → Is_in d (deposits st.advert.pre) → IsSpent (deposit s.hash st (d.0) (d.1))
  deposit_spent d i =
      let l = deposit_low st.advert.pre (readable_pre st.advert well).entries d i in
      record { value = omega (arith, l); script = party_bytes s.hash setup.hash (d.1).owner }

  persistent_spent : (ds : List (List ℕ × Holding))
      → ((d : List ℕ × Holding) → Is_in d ds → Is_in d (deposits st.advert.pre))
      → AllByRecursion IsSpent (map (λ (d : List ℕ × Holding). deposit s.hash st d.0 d.1) ds)
  persistent_spent [] f = tt
  persistent_spent (d ∷ ds) f = (deposit_spent d (f d (inl refl)), persistent_spent ds (λ x i. f x (inr i)))

  -- the names are those of volatile deposits
  abbrev AreVolatile : List (List ℕ) → Type 0
  AreVolatile puts = list_all (λ n. is_among n (names_of (volatile st.advert.pre))) puts ≡ true

  first_volatile : (n : List ℕ) (puts : List (List ℕ)) → AreVolatile (n ∷ puts)
      → (is_among n (names_of (volatile st.advert.pre)) ≡ true) × AreVolatile puts
  first_volatile n puts h =
      let known = names_of (volatile st.advert.pre) in
      and_parts (is_among n known) (list_all (λ m. is_among m known) puts) h

  puts_spent : (puts : List (List ℕ)) → AreVolatile puts → AllByRecursion IsSpent (put_deposits s.hash st puts)
  puts_spent [] h = tt
  puts_spent (n ∷ puts) h =
      let p = first_volatile n puts h in
      let r = volatile_named st.advert.pre n p.0 in
      let one = deposit_spent (n, r.0) r.2 in
      let here = subst (λ (o : Option Holding). IsSpent (deposit s.hash st n (holding_or_none o))) (sym r.1) one in
      (here, puts_spent puts p.1)

  puts_placed : (puts : List (List ℕ)) → AreVolatile puts → (x : Spent) → Is_in x (put_deposits s.hash st puts) → IsPlace x.outpoint
  puts_placed [] h x i = absurd i
  puts_placed (n ∷ puts) h x (inl e) =
      let p = first_volatile n puts h in
      let r = volatile_named st.advert.pre n p.0 in
      let q = bound_place s setup w kept.book.adverts kept.book.placed_fine k st c (n, r.0) r.2 in
      subst (λ (y : Spent). IsPlace y.outpoint) (sym e) q
  puts_placed (n ∷ puts) h x (inr i) =
      let p = first_volatile n puts h in
      puts_placed puts p.1 x i

  -- ---- the initial transaction

  initial_fits_all : IsListed s.hash (initial_listed s.hash st)
  initial_fits_all = record {
    tx = initial_fits s setup w kept.book.adverts kept.book.placed_fine k st c;
    spends = persistent_spent (persistent st.advert.pre) (persistent_deposit st.advert.pre);
    each_input = signers_for_each s.hash by_plan st names.Init (initial_listed s.hash st) refl;
    keys = owners_apart s.hash (persistent st.advert.pre);
  }

  -- ---- the transaction of a branch

  module _ (path : List PathStep) (here : Standing) (i : ℕ) (b : term.Guarded)
      (ends : end_at s.hash st path ≡ Some (by_path.at_branch here i b)) where
    pub at_place : IsBranch s.hash st path here i b
    at_place = known s.hash st path (by_path.at_branch here i b) ends

    compiled_there : IsCompiled st at_place.position at_place.choice
    compiled_there = record {
      checked = check.checked k st c;
      committed = check.committed k st c;
      is_position = term_choice s.hash st at_place.position here at_place.choice at_place.stands;
    }

    -- what the branch puts is volatile, and isn't much
    puts_are : AreVolatile (puts_of (core b))
    puts_are = puts_known st.advert well at_place.position at_place.choice compiled_there.is_position i b at_place.there

    pub few_puts : length (put_deposits s.hash st (puts_of (core b))) ≤ 32
    few_puts =
        let f = no_fault st.advert well in
        let once = core_fact (λ y. are_different (puts_of y) && are_different (reveals_of y)) st.advert at_place.position at_place.choice i b
        f.1.1.1.0 compiled_there.is_position at_place.there in
        let different = (and_parts (are_different (puts_of (core b))) (are_different (reveals_of (core b))) once).0 in
        let n = no_more (puts_of (core b)) (names_of (volatile st.advert.pre)) different puts_are in
        let v = few_volatile st.advert.pre in
        let l = (readable_pre st.advert well).few in
        let m = length_map (λ name. deposit s.hash st name (holding_or_none (look_up name (volatile st.advert.pre)))) (puts_of (core b)) in
        omega (arith, n, v, l, m)

    tx_fits : IsTransaction (tx_of (branch_unsigned s.hash st here i b))
    tx_fits =
        let readable = branch_is_readable s.hash st well at_place.position here at_place.choice i b at_place.stands at_place.there in
        branch_fits s.hash setup.hash st well at_place.position here at_place.choice i b at_place.stands at_place.there readable
        (puts_placed (puts_of (core b)) puts_are) (let l = few_puts in omega (arith, l))

    pub here_few : length here.output.script ≤ 10000
    here_few =
        let stands = position_stands s.hash st at_place.position here at_place.choice at_place.stands in
        subst (λ (x : List ℕ). length x ≤ 10000) (sym stands.script)
        (script_few s.hash setup.hash st at_place.position at_place.choice compiled_there)

    here_spent : IsSpent here.output
    here_spent =
        let stands = position_stands s.hash st at_place.position here at_place.choice at_place.stands in
        let v = position_little s.hash st well at_place.position here at_place.choice at_place.stands in
        let l = here_few in
        record {
          value = omega (arith, v);
          script = record {
            bytes = subst IsBytes (sym stands.script)
                (script_bytes s.hash setup.hash st digests_are at_place.position at_place.choice compiled_there);
            size = omega (arith, l);
          };
        }

    -- the label of a participant's key was hashed
    label_heard : (a : List ℕ) → is_among a (participants st.advert) ≡ true
        → IsLabel (branch_label st.contract path a) × (is_among (label_text (branch_label st.contract path a)) w.hashed ≡ true)
    label_heard a p =
        let r = compiled_label s setup.few_contracts w check w.hashed (λ j su d t x. kept.book.heard j su d t x) k st at_place.position here
        at_place.choice i b a c at_place.stands at_place.there p in
        subst (λ (n : ℕ). IsLabel (branch_label n path a) × (is_among (label_text (branch_label n path a)) w.hashed ≡ true)) (sym number_is)
        (subst (λ (q : List PathStep). IsLabel (branch_label k q a) × (is_among (label_text (branch_label k q a)) w.hashed ≡ true))
        (sym at_place.path_is) r)

    calm : AreCalm s.hash st.contract path (participants st.advert)
    calm x y p q e =
        kept.clear.one (party_text st.contract path x) (party_text st.contract path y) (label_heard x p).1 (label_heard y q).1 e

    keys_apart : KeysApart s.hash (path_signers st path)
    keys_apart =
        let person = a_person st.advert well in
        let label = (label_heard person.0 person.1).0 in
        let parties = participants st.advert in
        let apart = keys_differ s.hash st.contract path parties label.0 label.1 (participants_differ st.advert) calm in
        let all : KeysApart s.hash (branch_signers st.contract st.advert path b) = (apart, puts_apart s.hash st.advert (puts_of (core b))) in
        let there = term_branch s.hash st path here i b ends in
        subst (λ (o : Option term.Guarded). KeysApart s.hash (option_map_or (branch_signers st.contract st.advert path) o [])) (sym there) all

    branch_fits_all : IsListed s.hash (path_listed st path (branch_unsigned s.hash st here i b))
    branch_fits_all = record {
      tx = tx_fits;
      spends = (here_spent, puts_spent (puts_of (core b)) puts_are);
      each_input = signers_for_each s.hash by_plan st (names.At path) (path_listed st path (branch_unsigned s.hash st here i b))
          (ap (λ (o : Option PathEnd). option_map (path_listed st path) (option_and_then (as_unsigned s.hash st) o)) ends);
      keys = keys_apart;
    }

  by_end : (path : List PathStep) (l : Listed) (o : Option PathEnd) → end_at s.hash st path ≡ o
      → option_map (path_listed st path) (option_and_then (as_unsigned s.hash st) o) ≡ Some l → IsListed s.hash l
  by_end path l None ends e = cc
  by_end path l (Some (by_path.at_position here choice)) ends e = cc
  by_end path l (Some (by_path.at_branch here i b)) ends e = subst (IsListed s.hash) (some_same e) (branch_fits_all path here i b ends)

  -- each of its transactions fits
  pub all_fit : (which : Which) (l : Listed) → listed_at s.hash st which ≡ Some l → IsListed s.hash l
  all_fit names.Init l e = subst (IsListed s.hash) (some_same e) initial_fits_all
  all_fit (names.At path) l e = by_end path l (end_at s.hash st path) refl e
