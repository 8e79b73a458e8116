-- The transactions that a run fires have full witnesses.
use Rattle.std.proofs.Common.{◌≡◌, ℕ, suc, List, [], ◌∷◌, ◌++◌, length, map, true, false, Option, Some, None, refl, sym, ap, ◌∙◌, subst, arith, length-append}
use Rattle.std.specs.Prelude.{slice_get, is_some, nat_le, if◌then◌else◌}
use Rattle.std.specs.List.{AllByRecursion}
use Rattle.std.specs.Option.{option_map, option_map_or}
use Rattle.std.proofs.lemmas.Bool.{and_parts}
use Rattle.std.proofs.lemmas.Bool.Decides.{nat_tests}
use Rattle.spec_data.specs.Lists.{first_reason, look_up}
use Rattle.spec_data.specs.Ranges.{least_secret_bytes, most_item_bytes}
use Rattle.spec_data.proofs.ListLemmas.{no_reason-none_true}
use Rattle.spec_terms.specs.Term as term
use Rattle.spec_terms.specs.Term.{Contract, branches}
use Rattle.spec_terms.specs.Core.{core, puts_of, reveals_of}
use Rattle.spec_terms.specs.Paths.{at, contract_under}
use Rattle.spec_terms.specs.Precondition.{Holding, persistent, volatile}
use Rattle.spec_terms.specs.declared.path.PathStep.{PathStep}
use Rattle.spec_terms.specs.declared.path.PathStep.TheVariants.{Branch as To}
use Rattle.spec_bitcoin.specs.declared.tx.Tx.{Tx}
use Rattle.spec_bitcoin.specs.declared.verdict.Verdict.{Verdict}
use Rattle.spec_bitcoin.specs.declared.verdict.Verdict.TheVariants as verdicts
use Rattle.spec_bitcoin.specs.declared.label.Label.{Label}
use Rattle.spec_bitcoin.specs.declared.label.Label.TheVariants as labels
use Rattle.spec_bitcoin.specs.Keys.{key_of, signature_of}
use Rattle.spec_calculus.specs.Configuration.{Configuration}
use Rattle.spec_compiler.specs.Instance.{Instance, branch_label, branch_keys, deposit_key, people}
use Rattle.spec_compiler.specs.Scripts.{digest_of}
use Rattle.spec_compiler.specs.Statements.{IsHash}
use Rattle.spec_compiler.specs.declared.unsigned.Spent.{Spent}
use Rattle.spec_compiler.specs.declared.unsigned.Unsigned.{Unsigned}
use Rattle.spec_compiler.specs.Transactions.{Standing, tx_of, digest_of_spent, prepared, deposit, holding_or_none}
use Rattle.spec_compiler.specs.Transactions.{branch_unsigned, initial_unsigned}
use Rattle.spec_compiler.specs.ByPath.{position_at, unsigned_at, prepared_at}
use Rattle.spec_compiler.specs.Witness.{witness_of}
use Rattle.spec_run.specs.declared.outcome.Reason.{Reason}
use Rattle.spec_run.specs.Setup.{Setup, contract_at}
use Rattle.spec_run.specs.World.{ContractPosition, World, live_position_at}
use Rattle.spec_run.specs.Compiled.{compiled_instance}
use Rattle.spec_run.specs.Revealing.{fits}
use Rattle.spec_run.specs.Committing.{is_secret_long}
use Rattle.spec_run.specs.Pending.{unless}
use Rattle.spec_run.specs.Ledger.{verdict_in, judged, contract_in, count_of, position_path, position_branch, branch_in}
use Rattle.spec_run.specs.Firing.{with_witnesses, deposit_witnesses, initial_witnesses, initial_transaction, initial_by, reaches_if}
use Rattle.spec_run.specs.Firing.{fire_init_row, fire_init_pending, fire_row, fire_pending, unknown_at, unknown_secret, first_unshown, shown_string, shown_strings}
use Rattle.spec_run.specs.Firing.{branch_signatures, branch_witness, taking_witnesses, taking_transaction, taking_of_parts, taking_of_position, position_instance}
use Rattle.spec_run.specs.Signing.{prepared_if_compiled, branch_if_live}
use Rattle.spec_tool.specs.Weights.{deposits_full, last_branch, position_of, choices_at, reveal_count}
use Rattle.spec_tool.specs.Weights.{IsSignature, IsSecret, IsInitialFull, IsPathFull}
use Rattle.theory_script.proofs.Listing.Stands.{some_same, position_stands}
use Rattle.theory_world.proofs.Contracts.Standing.{term_choice, term_branches, unsigned_of_branch}
use Rattle.theory_run.specs.KeptBook.{KeptBook, HeldFine}
use Rattle.theory_run.proofs.Events.Quiet.{IsActive, active, held_contract}
use Rattle.theory_run.proofs.Halting.Halts.{found}

-- ---- signatures

signature_long : (key d : List ℕ) → length key ≡ 33 → length d ≡ 32 → IsSignature (signature_of key d)
signature_long key d k l =
    let a = length-append (key ++ d) (1 ∷ []) in
    let b = length-append key d in
    omega (arith, a, b, k, l)

signatures_long : (d : List ℕ) (f : List ℕ → List ℕ) (ps : List (List ℕ)) → length d ≡ 32 → ((a : List ℕ) → length (f a) ≡ 33)
    → AllByRecursion IsSignature (map (λ key. signature_of key d) (map f ps))
signatures_long d f [] l h = tt
signatures_long d f (p ∷ ps) l h = (signature_long (f p) d (h p) l, signatures_long d f ps l h)

digest_size : (hash : List ℕ → List ℕ) → IsHash hash → (tx : Tx) (x : Spent) → length (digest_of_spent hash tx x) ≡ 32
digest_size hash size tx x = size _

key_size : (hash : List ℕ → List ℕ) → IsHash hash → (label : Label) → length (key_of hash label) ≡ 33
key_size hash size label = ap suc (size _)

map_length : {A B : Type 0} (f : A → B) (xs : List A) → length (map f xs) ≡ length xs
map_length f [] = refl
map_length f (x ∷ xs) = ap suc (map_length f xs)

-- ---- deposits

module _ (s : Setup) (size : IsHash s.hash) (st : Instance) (tx : Tx) {A : Type 0} (f : A → List ℕ × Holding) where
  abbrev spent_by : A → Spent
  spent_by a = deposit s.hash st ((f a).0) ((f a).1)

  -- the signature of the deposit's owner
  abbrev signed_by : A → List ℕ
  signed_by a = signature_of (deposit_key s.hash ((f a).1).owner) (digest_of_spent s.hash tx (spent_by a))

  pub owners_sign : (xs : List A) → AllByRecursion IsSignature (map signed_by xs)
  owners_sign [] = tt
  owners_sign (x ∷ xs) = (
    signature_long (deposit_key s.hash ((f x).1).owner) (digest_of_spent s.hash tx (spent_by x)) (key_size s.hash size (labels.Deposit ((f x).1).owner))
        (digest_size s.hash size tx (spent_by x)),
    owners_sign xs,
  )

  pub deposits_filled : (xs : List A)
      → deposit_witnesses s (map (λ a. ((f a).1).owner) xs) (map (digest_of_spent s.hash tx) (map spent_by xs))
      ≡ deposits_full (map signed_by xs) (map spent_by xs)
  deposits_filled [] = refl
  deposits_filled (x ∷ xs) =
      ap (λ ws. (signed_by x ∷ ((spent_by x).script ∷ [])) ∷ ws) (deposits_filled xs)

-- ---- what reaches the ledger

-- a transaction that was accepted is the one that was handed in, and nothing refused it before
pub record WasReached (o : Option Tx) (r : Option Reason) (tx : Tx) : Type 0 where
  pub none : r ≡ None
  pub is : o ≡ Some tx

pub reached : (s : Setup) (w : World) (r : Option Reason) (o : Option Tx) (tx : Tx) → (unless r w [] (reaches_if s w o)).tx ≡ Some tx
    → WasReached o r tx
reached s w (Some reason) o tx h = cc
reached s w None None tx h = cc
reached s w None (Some given) tx h = by_verdict (verdict_in s w given) h
  where
    by_verdict : (v : Verdict) → (judged s w w given v).tx ≡ Some tx → WasReached (Some given) None tx
    by_verdict (verdicts.Accepted spent made) e = record { none = refl; is = e }
    by_verdict (verdicts.Refused r) e = cc

-- ---- secrets

fitting_long : (s : Setup) (digest string : List ℕ) → fits s digest string ≡ true → IsSecret string
fitting_long s digest string h =
    let p = and_parts (is_secret_long string) _ h in
    let q = and_parts (nat_le least_secret_bytes (length string)) (nat_le (length string) most_item_bytes) p.0 in
    let a = q.0 in
    let b = q.1 in
    record { long = grind (arith, nat_tests, a); short = grind (arith, nat_tests, b) }

pub shown_long : (s : Setup) (w : World) (st : Instance) (names : List (List ℕ)) → is_some (first_unshown s w st names) ≡ false
    → AllByRecursion IsSecret (shown_strings s w st names)
shown_long s w st [] h = tt
shown_long s w st (name ∷ names) h = by_shown (shown_string s w st name) refl h (shown_long s w st names)
  where
    by_shown : (o : Option (List ℕ)) → shown_string s w st name ≡ o
        → is_some (if is_some o then first_unshown s w st names else Some name) ≡ false
        → (is_some (first_unshown s w st names) ≡ false → AllByRecursion IsSecret (shown_strings s w st names))
        → AllByRecursion IsSecret (shown_strings s w st (name ∷ names))
    by_shown None e q ih = cc
    by_shown (Some string) e q ih =
        let f = found (fits s (digest_of st.hashes name)) w.posted string e in
        (rw e (fitting_long s (digest_of st.hashes name) string f.0), ih q)

-- ---- the initial transaction

-- a transaction with full witnesses
pub record Filled (full : List (List (List ℕ)) → Type 0) (bare tx : Tx) : Type 0 where
  pub witnesses : List (List (List ℕ))
  pub fills : full witnesses
  pub is : tx ≡ with_witnesses bare witnesses

-- the contract is compiled there, and its initial transaction has full witnesses
pub record InitialFilled (s : Setup) (w : World) (contract : ℕ) (tx : Tx) : Type 0 where
  pub instance : Instance
  pub compiled : compiled_instance s w contract ≡ Some instance
  pub filled : Filled (IsInitialFull (initial_unsigned s.hash instance)) (tx_of (initial_unsigned s.hash instance)) tx

initial_full : (s : Setup) → IsHash s.hash → (st : Instance)
    → Filled (IsInitialFull (initial_unsigned s.hash st)) (tx_of (initial_unsigned s.hash st)) (initial_transaction s st)
initial_full s size st =
    let ds = persistent st.advert.pre in
    let tx = tx_of (initial_unsigned s.hash st) in
    let f : List ℕ × Holding → List ℕ × Holding = λ d. d in
    let a = map_length (signed_by s size st tx f) ds in
    let b = map_length (spent_by s size st tx f) ds in
    record {
      witnesses = initial_witnesses s st (prepared s.hash (initial_unsigned s.hash st));
      fills = record {
        signatures = map (signed_by s size st tx f) ds;
        each = owners_sign s size st tx f ds;
        count = omega (arith, a, b);
        same = deposits_filled s size st tx f ds;
      };
      is = refl;
    }

pub initial_filled : (s : Setup) → IsHash s.hash → (w : World) (contract : ℕ) (tx : Tx) → (fire_init_pending s w contract).tx ≡ Some tx
    → InitialFilled s w contract tx
initial_filled s size w contract tx h =
    by_compiled (compiled_instance s w contract) refl
    (reached s w (first_reason (fire_init_row s w contract)) (initial_by s (compiled_instance s w contract)) tx h).is
  where
    by_compiled : (o : Option Instance) → compiled_instance s w contract ≡ o → initial_by s o ≡ Some tx → InitialFilled s w contract tx
    by_compiled None c q = cc
    by_compiled (Some st) c q = record {
      instance = st;
      compiled = c;
      filled = subst (Filled (IsInitialFull (initial_unsigned s.hash st)) (tx_of (initial_unsigned s.hash st))) (some_same q) (initial_full s size st);
    }

-- ---- the transaction of a branch

-- the contract is compiled there, and the transaction of the path has full witnesses
pub record PathFilled (s : Setup) (w : World) (contract : ℕ) (path : List PathStep) (tx : Tx) : Type 0 where
  pub instance : Instance
  pub compiled : compiled_instance s w contract ≡ Some instance
  pub made : Unsigned
  pub there : unsigned_at s.hash instance path ≡ Some made
  pub filled : Filled (IsPathFull instance.advert path made) (tx_of made) tx

last_is : (q : List PathStep) (i : ℕ) → last_branch (q ++ To i ∷ []) ≡ i
last_is [] i = refl
last_is (x ∷ []) i = refl
last_is (x ∷ (y ∷ q)) i = last_is (y ∷ q) i

position_is : (q : List PathStep) (i : ℕ) → position_of (q ++ To i ∷ []) ≡ q
position_is [] i = refl
position_is (x ∷ []) i = refl
position_is (x ∷ (y ∷ q)) i = ap (λ ys. x ∷ ys) (position_is (y ∷ q) i)

module _ (s : Setup) (size : IsHash s.hash) (w : World) (st : Instance) (held : ContractPosition) (here : Standing) (choice : Contract)
    (stands : position_at s.hash st held.position ≡ Some (here, choice)) (i : ℕ) (b : term.Guarded)
    (there : slice_get (branches choice) i ≡ Some b) (shown : is_some (first_unshown s w st (reveals_of (core b))) ≡ false) where
  abbrev path : List PathStep
  path = position_path held i

  abbrev made : Unsigned
  made = branch_unsigned s.hash st here i b

  abbrev dg : List ℕ
  dg = digest_of_spent s.hash (tx_of made) here.output

  abbrev named : List ℕ → List ℕ × Holding
  named name = (name, holding_or_none (look_up name (volatile st.advert.pre)))

  abbrev signatures : List (List ℕ)
  signatures = branch_signatures s st path dg

  abbrev strings : List (List ℕ)
  strings = shown_strings s w st (reveals_of (core b))

  abbrev others : List (List ℕ)
  others = map (signed_by s size st (tx_of made) named) (puts_of (core b))

  is_branch : at st.advert.root path ≡ Some b
  is_branch = term_branches s.hash st held.position here choice i stands ∙ there

  reveals_counted : length strings ≡ reveal_count st.advert path
  reveals_counted = map_length _ (reveals_of (core b)) ∙ ap (λ o. option_map_or (λ c. length (reveals_of (core c))) o 0) (sym is_branch)

  choices_counted : choices_at st.advert path ≡ count_of (Some choice)
  choices_counted =
      ap (λ q. count_of (contract_under st.advert.root q)) (position_is held.position i)
      ∙ ap count_of (term_choice s.hash st held.position here choice stands)

  -- the witness of the position's output
  first_same : branch_witness s w st held i choice b dg
      ≡ witness_of signatures strings (last_branch path) (choices_at st.advert path) here.output.script
  first_same =
      let a = last_is held.position i in
      let c = choices_counted in
      let e = (position_stands s.hash st held.position here choice stands).script in
      λ j. witness_of signatures strings (sym a j) (sym c j) (sym e j)

  pub path_full : IsPathFull st.advert path made (taking_witnesses s w st held i choice b (prepared s.hash made))
  path_full =
      let n = map_length (signed_by s size st (tx_of made) named) (puts_of (core b)) in
      let m = map_length (spent_by s size st (tx_of made) named) (puts_of (core b)) in
      record {
        signatures = signatures;
        secrets = strings;
        others = others;
        each_signature =
            signatures_long dg (λ party. key_of s.hash (branch_label st.contract path party)) (people st) (digest_size s.hash size (tx_of made) here.output)
            (λ party. key_size s.hash size (branch_label st.contract path party));
        each_secret = shown_long s w st (reveals_of (core b)) shown;
        each_other = owners_sign s size st (tx_of made) named (puts_of (core b));
        signature_count = map_length _ (branch_keys s.hash st path) ∙ map_length _ (people st);
        secret_count = reveals_counted;
        other_count = omega (arith, n, m);
        same =
            let d = deposits_filled s size st (tx_of made) named (puts_of (core b)) in
            let a = first_same in
            λ j. a j ∷ d j;
      }

module _ (s : Setup) (size : IsHash s.hash) (g : Configuration) (w : World) (kept : KeptBook s g w) (n i : ℕ) (held : ContractPosition)
    (live : live_position_at w n ≡ Some held) where
  act : IsActive w n held
  act = active w n held live

  hf : HeldFine s w act.output held
  hf = kept.held n act.output held act.there act.holds

  chosen : contract_in (contract_at s held.contract) held.position ≡ Some hf.choice
  chosen =
      ap (λ o. contract_in o held.position) (held_contract s w held act.output hf)
      ∙ term_choice s.hash hf.instance held.position hf.here hf.choice hf.stands

  by_branch : (tx : Tx) (o : Option term.Guarded) → position_branch s held i ≡ o
      → is_some (unknown_secret s w (compiled_instance s w held.contract) o) ≡ false
      → taking_of_parts s w held i (compiled_instance s w held.contract) (contract_in (contract_at s held.contract) held.position)
      (position_branch s held i) (prepared_if_compiled s (compiled_instance s w held.contract) (position_path held i)) ≡ Some tx
      → PathFilled s w held.contract (position_path held i) tx
  by_branch tx None b u x =
      let c = hf.compiled in
      let d = chosen in
      let y = sym (λ j. taking_of_parts s w held i (c j) (d j) (b j) (prepared_if_compiled s (c j) (position_path held i))) ∙ x in
      cc
  by_branch tx (Some c) b u x =
      let compiled = hf.compiled in
      let e = chosen in
      let text : at hf.instance.advert.root (held.position ++ To i ∷ []) ≡ Some c =
      ap (λ o. branch_in o (position_path held i)) (sym (held_contract s w held act.output hf)) ∙ b in
      let there : slice_get (branches hf.choice) i ≡ Some c =
      sym (term_branches s.hash hf.instance held.position hf.here hf.choice i hf.stands) ∙ text in
      let d = branch_unsigned s.hash hf.instance hf.here i c in
      let unsigned : unsigned_at s.hash hf.instance (position_path held i) ≡ Some d =
      unsigned_of_branch s.hash hf.instance held.position hf.here hf.choice i c hf.stands there in
      let made : prepared_at s.hash hf.instance (position_path held i) ≡ Some (prepared s.hash d) = ap (option_map (prepared s.hash)) unsigned in
      let taken = taking_transaction s w hf.instance held i hf.choice c (prepared s.hash d) in
      let y : (let o : Option Tx = Some taken in o) ≡ Some tx =
      sym (λ j. taking_of_parts s w held i (compiled j) (e j) (b j) ((ap (λ o. prepared_if_compiled s o (position_path held i)) compiled ∙ made) j)) ∙ x in
      let shown : is_some (first_unshown s w hf.instance (reveals_of (core c))) ≡ false =
      sym (ap (λ o. is_some (unknown_secret s w o (Some c))) compiled) ∙ u in
      record {
        instance = hf.instance;
        compiled = compiled;
        made = d;
        there = unsigned;
        filled = record {
          witnesses = taking_witnesses s w hf.instance held i hf.choice c (prepared s.hash d);
          fills = path_full s size w hf.instance held hf.here hf.choice hf.stands i c there shown;
          is = sym (some_same y);
        };
      }

  pub path_filled : (tx : Tx) → (fire_pending s w n i).tx ≡ Some tx → PathFilled s w held.contract (position_path held i) tx
  path_filled tx h =
      let r = reached s w (first_reason (fire_row s w n i)) (taking_of_position s w (live_position_at w n) i) tx h in
      let row = no_reason-none_true (fire_row s w n i) r.none in
      let unknown : is_some (unknown_at s w n i) ≡ false = row.1.1.0 in
      let u : is_some (unknown_secret s w (compiled_instance s w held.contract) (position_branch s held i)) ≡ false =
      sym (ap (λ o. is_some (unknown_secret s w (position_instance s w o) (branch_if_live s o i))) live) ∙ unknown in
      by_branch tx (position_branch s held i) refl u (sym (ap (λ o. taking_of_position s w o i) live) ∙ r.is)
