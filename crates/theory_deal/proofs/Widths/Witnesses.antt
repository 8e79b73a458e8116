-- The witnesses of a finished transaction can be spelled: few items, each of bytes.
use Rattle.std.proofs.Common.{◌≡◌, ℕ, zero, suc, ◌+◌, ◌<◌, ◌≤◌, ◌^◌, List, [], ◌∷◌, ◌++◌, length, map, Bool, true, false, Option, Some, None}
use Rattle.std.proofs.Common.{refl, sym, ap, ◌∙◌, subst, arith, lit<, length-append, append-nil}
use Rattle.std.specs.Prelude.{nat_le, nat_lt, reverse, replicate, if◌then◌else◌}
use Rattle.std.specs.List.{find, AllByRecursion}
use Rattle.std.specs.Option.{option_map, option_map_or, option_and_then}
use Rattle.std.specs.Str.{bytes_eq}
use Rattle.std.proofs.lemmas.Bool.{and_parts}
use Rattle.std.proofs.lemmas.Bool.Decides.{nat_tests}
use Rattle.std.proofs.lemmas.List.{length-reverse, length-replicate, reverse-append}
use Rattle.spec_terms.specs.Term as term
use Rattle.spec_terms.specs.Term.{Contract, branches}
use Rattle.spec_terms.specs.Core.{core, puts_of, reveals_of}
use Rattle.spec_terms.specs.Faults.{IsWellFormed, most_participants}
use Rattle.spec_terms.specs.Parties.{participants}
use Rattle.spec_terms.specs.Paths.{at}
use Rattle.spec_terms.specs.Precondition.{Holding, persistent, secrets, names_of}
use Rattle.spec_terms.specs.Readable.{is_readable_count, are_readable, is_some_list, most_choices}
use Rattle.spec_terms.specs.declared.path.PathStep.{PathStep}
use Rattle.spec_terms.specs.declared.place.Place.TheVariants as places
use Rattle.spec_bitcoin.specs.declared.label.Label.{Label}
use Rattle.spec_bitcoin.specs.declared.label.Label.TheVariants as variants
use Rattle.spec_bitcoin.specs.Spelling.{IsString}
use Rattle.spec_compiler.specs.Keyed.Keys.{Keys}
use Rattle.spec_compiler.specs.Keyed.Instance.{Instance, branch_label}
use Rattle.spec_compiler.specs.Keyed.Endorsements.{put_owner}
use Rattle.spec_compiler.specs.Keyed.Statements.{is_short}
use Rattle.spec_compiler.specs.Keyed.Transactions.{Standing, branch_unsigned}
use Rattle.spec_compiler.specs.Keyed.ByPath.{PathEnd, at_position, at_branch, end_at, as_unsigned}
use Rattle.spec_compiler.specs.Witness.{selectors}
use Rattle.spec_compiler.specs.declared.unsigned.Spent.{Spent}
use Rattle.spec_tool.specs.declared.which.Which.{Which}
use Rattle.spec_tool.specs.declared.which.Which.TheVariants as names
use Rattle.spec_tool.specs.Keyed.Listed.{Listed, deposit_signer, branch_signers, path_listed, initial_listed, listed_at}
use Rattle.spec_deal.specs.declared.entry.Shown.{Shown}
use Rattle.spec_deal.specs.declared.signed.Signed.{Signed}
use Rattle.spec_deal.specs.Finished.{bytes_or_none, items_or_none, input_signatures, deposit_witness, deposit_witnesses, choices_at}
use Rattle.spec_deal.specs.Finished.{strings_of, branch_witness}
use Rattle.spec_deal.specs.Finished.{path_witnesses, witnesses}
use Rattle.spec_deal.specs.declared.transaction.Wallet.{Wallet}
use Rattle.spec_deal.specs.Given.{is_for, signature_for, witness_for}
use Rattle.spec_deal.specs.Wallets.{input_wallet}
use Rattle.spec_deal.specs.SecretFile.{string_for}
use Rattle.spec_deal.specs.Slots.{Slot, input_slot}
use Rattle.theory_bitcoin.proofs.Exact.{bytes_none, bytes_cons}
use Rattle.theory_calculus.proofs.Faultless.{no_limit}
use Rattle.theory_calculus.proofs.Members.{get_below, all_in, found}
use Rattle.theory_script.proofs.Checked.{reveals_known}
use Rattle.theory_run.proofs.Widths.Putting.{no_more}
use Rattle.theory_psbt_listed.proofs.Digests.{all_joined}
use Rattle.theory_psbt.specs.Fitting.{IsStack}
use Rattle.theory_script.proofs.Keyed.Stands.{some_same}
use Rattle.theory_deal.specs.Finished.{are_short, do_fit}
use Rattle.theory_deal.proofs.Branches.{branch_found}
use Rattle.theory_deal.proofs.ReadBranches.{choice_reads, reveals_different}
use Rattle.theory_deal.proofs.Ledger.ShortItems.{string_short}
use Rattle.theory_deal.proofs.Widths.Outputs.{are_few}
use Rattle.theory_deal.proofs.Widths.Places.{IsSpendable}
use Rattle.theory_deal.proofs.Widths.SecretBytes.{ShownBytes}
use Rattle.theory_deal.proofs.Widths.SignatureBytes.{SignedBytes}

abbrev Strings : List (List ℕ) → Type 0
Strings xs = AllByRecursion IsString xs

-- ---- lists

all_reversed : (xs : List (List ℕ)) → Strings xs → Strings (reverse xs)
all_reversed [] h = tt
all_reversed (x ∷ xs) h =
    subst Strings (sym (reverse-append (x ∷ []) xs)) (all_joined IsString (reverse xs) (x ∷ []) (all_reversed xs h.1) (h.0, tt))

no_bytes : IsString []
no_bytes = record { bytes = bytes_none; size = lit< tt }

empty_strings : (n : ℕ) → Strings (replicate n [])
empty_strings zero = tt
empty_strings (suc n) = (no_bytes, empty_strings n)

selector_strings : (i n : ℕ) → Strings (selectors i n)
selector_strings i n = by_last (nat_lt (i + 1) n)
  where
    one : IsString (1 ∷ [])
    one = record { bytes = bytes_cons 1 [] (lit< tt) bytes_none; size = lit< tt }

    by_last : (b : Bool) → Strings (if b then replicate i [] ++ (1 ∷ []) ∷ [] else replicate i [])
    by_last true = all_joined IsString (replicate i []) ((1 ∷ []) ∷ []) (empty_strings i) (one, tt)
    by_last false = empty_strings i

pub few_selectors : (i n : ℕ) → length (selectors i n) ≤ i + 1
few_selectors i n = by_last (nat_lt (i + 1) n)
  where
    by_last : (b : Bool) → length (if b then replicate i [] ++ (1 ∷ []) ∷ [] else replicate {A = List ℕ} i []) ≤ i + 1
    by_last true =
        let a = length-append (replicate {A = List ℕ} i []) ((1 ∷ []) ∷ []) in
        let b = length-replicate {A = List ℕ} i [] in
        omega (arith, a, b)
    by_last false = let b = length-replicate {A = List ℕ} i [] in omega (arith, b)

-- ---- signatures and secrets

small : (bytes : List ℕ) → is_short bytes ≡ true → length bytes < 2 ^ 64
small bytes h = grind (arith, nat_tests, h)

module _ (hash : List ℕ → List ℕ) (keys : Keys) (s : Instance) (given : List Signed) (strings : List Shown)
    (signed : SignedBytes given) (shown : ShownBytes strings) (short : are_short given ≡ true) (fit : do_fit hash s strings ≡ true) where
  signature_string : (slot : Slot) → IsString (bytes_or_none (signature_for hash keys given slot))
  signature_string slot = by_found (find (is_for hash keys slot) given) refl
    where
      by_found : (o : Option Signed) → find (is_for hash keys slot) given ≡ o
          → IsString (bytes_or_none (option_map (λ (g : Signed). g.signature) o))
      by_found None e = no_bytes
      by_found (Some g) e =
          let there = (found (is_for hash keys slot) given g e).0 in
          record { bytes = (signed g there).signature; size = small g.signature (all_in (λ (x : Signed). is_short x.signature) given g short there) }

  input_strings : (l : Listed) (k : ℕ) (spent : Spent) (labels : List Label) → Strings (input_signatures hash keys s given l k spent labels)
  input_strings l k spent [] = tt
  input_strings l k spent (label ∷ labels) = (signature_string (input_slot keys s.advert l k spent label), input_strings l k spent labels)

  pub as_many : (l : Listed) (k : ℕ) (spent : Spent) (labels : List Label)
      → length (input_signatures hash keys s given l k spent labels) ≡ length labels
  as_many l k spent [] = refl
  as_many l k spent (label ∷ labels) = ap suc (as_many l k spent labels)

  secret_string : (name : List ℕ) → IsString (bytes_or_none (string_for strings name))
  secret_string name = by_found (find (λ (x : Shown). bytes_eq x.name name) strings) refl
    where
      by_found : (o : Option Shown) → find (λ (x : Shown). bytes_eq x.name name) strings ≡ o
          → IsString (bytes_or_none (option_map (λ (x : Shown). x.bytes) o))
      by_found None e = no_bytes
      by_found (Some x) e =
          let there = (found (λ (y : Shown). bytes_eq y.name name) strings x e).0 in
          record { bytes = shown x there; size = small x.bytes (string_short hash s strings fit x there) }

  secret_strings : (required : List (List ℕ)) → Strings (strings_of strings required)
  secret_strings [] = tt
  secret_strings (name ∷ required) = (secret_string name, secret_strings required)

  pub as_many_secrets : (required : List (List ℕ)) → length (strings_of strings required) ≡ length required
  as_many_secrets [] = refl
  as_many_secrets (name ∷ required) = ap suc (as_many_secrets required)

  -- ---- witnesses

  -- one signs each input that spends a deposit
  abbrev Alone : List (List Label) → Type 0
  Alone signers = AllByRecursion (λ (labels : List Label). (party : List ℕ) × (labels ≡ deposit_signer party)) signers

  -- what a wallet handed in
  handed_stack : (slot : Slot) → IsStack (items_or_none (witness_for hash keys given slot))
  handed_stack slot = by_found (find (is_for hash keys slot) given) refl
    where
      by_found : (o : Option Signed) → find (is_for hash keys slot) given ≡ o
          → IsStack (items_or_none (option_map (λ (g : Signed). g.witness) o))
      by_found None e = record { few = lit< tt; each = tt }
      by_found (Some g) e = (signed g (found (is_for hash keys slot) given g e).0).witness

  wallet_stack : (l : Listed) (k : ℕ) (spent : Spent) (labels : List Label) (w : Wallet) → (party : List ℕ) × (labels ≡ deposit_signer party)
      → IsStack (deposit_witness hash keys s given l k spent labels (Some w))
  wallet_stack l k spent labels w (party, e) =
      subst (λ (x : List Label). IsStack (deposit_witness hash keys s given l k spent x (Some w))) (sym e)
      (subst IsStack (sym (append-nil (items_or_none (witness_for hash keys given (input_slot keys s.advert l k spent (variants.Deposit party))))))
      (handed_stack (input_slot keys s.advert l k spent (variants.Deposit party))))

  key_stack : (l : Listed) (k : ℕ) (spent : Spent) (labels : List Label) → IsSpendable spent → length labels ≤ 16
      → IsStack (input_signatures hash keys s given l k spent labels ++ spent.script ∷ [])
  key_stack l k spent labels h few =
      let signatures = input_signatures hash keys s given l k spent labels in
      let many = length-append signatures (spent.script ∷ []) in
      let each = as_many l k spent labels in
      record {
        few = omega (arith, many, each, few);
        each = all_joined IsString signatures (spent.script ∷ []) (input_strings l k spent labels) (h.script, tt);
      }

  deposit_stacks : (l : Listed) (k : ℕ) (spends : List Spent) (signers : List (List Label)) → AllByRecursion IsSpendable spends
      → Alone signers → AllByRecursion IsStack (deposit_witnesses hash keys s given l k spends signers)
  deposit_stacks l k [] signers h f = tt
  deposit_stacks l k (spent ∷ spends) [] h f = tt
  deposit_stacks l k (spent ∷ spends) (labels ∷ signers) h f =
      (by_wallet (input_wallet keys s.advert l.which k), deposit_stacks l (k + 1) spends signers h.1 f.1)
    where
      by_wallet : (o : Option Wallet) → IsStack (deposit_witness hash keys s given l k spent labels o)
      by_wallet None =
          key_stack l k spent labels h.0 (subst (λ (x : List Label). length x ≤ 16) (sym f.0.1) (omega arith))
      by_wallet (Some w) = wallet_stack l k spent labels w f.0

  -- how many a branch can have
  pub record IsFewBranch (i : ℕ) (b : term.Guarded) : Type 0 where
    pub number : i ≤ 32
    pub reveals : length (reveals_of (core b)) ≤ 32

  branch_stack : (path : List PathStep) (signatures : List (List ℕ)) (o : Option PathEnd) → end_at hash keys s path ≡ o → Strings signatures
      → length signatures ≤ 16
      → ((here : Standing) (i : ℕ) (b : term.Guarded) → end_at hash keys s path ≡ Some (at_branch here i b)
      → IsFewBranch i b × IsString here.output.script)
      → IsStack (branch_witness s strings signatures o)
  branch_stack path signatures None e h few f = record { few = lit< tt; each = tt }
  branch_stack path signatures (Some (at_position here choice)) e h few f = record { few = lit< tt; each = tt }
  branch_stack path signatures (Some (at_branch here i b)) e h few f =
      let known = f here i b e in
      let required = reveals_of (core b) in
      let n = choices_at s here.position in
      let texts = strings_of strings required in
      let later = reverse texts ++ reverse (selectors i n) in
      let stack = reverse signatures ++ later in
      let a = length-append stack (here.output.script ∷ []) in
      let c = length-append (reverse signatures) later in
      let d = length-append (reverse texts) (reverse (selectors i n)) in
      let p = length-reverse signatures in
      let q = length-reverse texts in
      let r = length-reverse (selectors i n) in
      let u = as_many_secrets required in
      let w = few_selectors i n in
      let x = known.0.number in
      let y = known.0.reveals in
      record {
        few = omega (arith, a, c, d, p, q, r, u, w, x, y, few);
        each = all_joined IsString stack (here.output.script ∷ [])
            (all_joined IsString (reverse signatures) later (all_reversed signatures h)
            (all_joined IsString (reverse texts) (reverse (selectors i n)) (all_reversed texts (secret_strings required))
            (all_reversed (selectors i n) (selector_strings i n))))
            (known.1, tt);
      }

  -- ---- of a well-formed contract

  module _ (well : IsWellFormed s.advert) where
    pub few_people : length (participants s.advert) ≤ 16
    few_people = by_test (nat_le (length (participants s.advert)) most_participants) refl (no_limit s.advert well).0
      where
        by_test : (t : Bool) → nat_le (length (participants s.advert)) most_participants ≡ t
            → (if t then None else Some (places.Count (length (participants s.advert)))) ≡ None
            → length (participants s.advert) ≤ 16
        by_test true e k = grind (arith, nat_tests, e)
        by_test false e k = cc

    pub few_branch : (path : List PathStep) (here : Standing) (i : ℕ) (b : term.Guarded)
        → end_at hash keys s path ≡ Some (at_branch here i b) → IsFewBranch i b
    few_branch path here i b e =
        let place = branch_found hash keys s path here i b e in
        let reads = choice_reads hash keys s well path here i b e in
        let count = (and_parts (is_readable_count place.choice) (are_readable place.choice) reads).0 in
        let choices = (and_parts (is_some_list (branches place.choice)) (nat_le (length (branches place.choice)) most_choices) count).1 in
        let below = get_below (branches place.choice) i b place.is_branch in
        let fewer = no_more (reveals_of (core b)) (names_of (secrets s.advert.pre)) (reveals_different hash keys s well path here i b e)
        (reveals_known s.advert well here.position place.choice place.stands.branches i b place.is_branch) in
        let few = (are_few s.advert well).secrets in
        record { number = grind (arith, nat_tests, choices, below); reveals = omega (arith, fewer, few) }

    few_labels : (path : List PathStep) (ps : List (List ℕ)) → length (map (branch_label s.contract path) ps) ≡ length ps
    few_labels path [] = refl
    few_labels path (p ∷ ps) = ap suc (few_labels path ps)

    owners_alone : (f : List ℕ → List ℕ) (ns : List (List ℕ)) → Alone (map (λ name. deposit_signer (f name)) ns)
    owners_alone f [] = tt
    owners_alone f (n ∷ ns) = ((f n, refl), owners_alone f ns)

    holders_alone : (ds : List (List ℕ × Holding)) → Alone (map (λ d. deposit_signer (d.1).owner) ds)
    holders_alone [] = tt
    holders_alone (d ∷ ds) = (((d.1).owner, refl), holders_alone ds)

    -- the first input's signers are few, and one signs each other
    abbrev FewAlone : List (List Label) → Type 0
    FewAlone [] = Unit {0}
    FewAlone (labels ∷ signers) = (length labels ≤ 16) × Alone signers

    path_few : (path : List PathStep) (o : Option term.Guarded) → FewAlone (option_map_or (branch_signers s.contract s.advert path) o [])
    path_few path None = tt
    path_few path (Some b) =
        let many = few_labels path (participants s.advert) in
        let few = few_people in
        (omega (arith, many, few), owners_alone (put_owner s.advert) (puts_of (core b)))

    path_stacks : (path : List PathStep) (l : Listed) (spends : List Spent) (signers : List (List Label)) → AllByRecursion IsSpendable spends
        → FewAlone signers
        → ((here : Standing) (i : ℕ) (b : term.Guarded) → end_at hash keys s path ≡ Some (at_branch here i b) → IsString here.output.script)
        → AllByRecursion IsStack (path_witnesses hash keys s given strings path l spends signers)
    path_stacks path l [] signers h f g = tt
    path_stacks path l (spent ∷ spends) [] h f g = tt
    path_stacks path l (spent ∷ spends) (labels ∷ signers) h f g =
        let many = as_many l 0 spent labels in
        let few = f.0 in (
          branch_stack path (input_signatures hash keys s given l 0 spent labels) (end_at hash keys s path) refl
              (input_strings l 0 spent labels) (omega (arith, many, few)) (λ here i b e. (few_branch path here i b e, g here i b e)),
          deposit_stacks l 1 spends signers h.1 f.1,
        )

    abbrev script_at : PathEnd → List ℕ
    script_at (at_position here choice) = here.output.script
    script_at (at_branch here i b) = here.output.script

    of_path : (path : List PathStep) (o : Option PathEnd) → end_at hash keys s path ≡ o → (l : Listed)
        → option_map (path_listed s path) (option_and_then (as_unsigned hash keys s) o) ≡ Some l → AllByRecursion IsSpendable l.pending.spends
        → AllByRecursion IsStack (witnesses hash keys s given strings l l.which)
    of_path path None ends l e h = cc
    of_path path (Some (at_position here choice)) ends l e h = cc
    of_path path (Some (at_branch here i b)) ends l e h =
        let made = path_listed s path (branch_unsigned hash keys s here i b) in
        let same : made ≡ l = some_same e in
        let spendable = subst (λ (x : Listed). AllByRecursion IsSpendable x.pending.spends) (sym same) h in
        subst (λ (x : Listed). AllByRecursion IsStack (witnesses hash keys s given strings x x.which)) same
        (path_stacks path made made.pending.spends made.signers spendable (path_few path (at s.advert.root path))
        (λ other j c f. subst IsString (ap script_at (some_same (sym ends ∙ f))) spendable.0.script))

    -- the witnesses of a finished transaction
    pub stacks_at : (which : Which) (l : Listed) → listed_at hash keys s which ≡ Some l → AllByRecursion IsSpendable l.pending.spends
        → AllByRecursion IsStack (witnesses hash keys s given strings l l.which)
    stacks_at names.Init l e h =
        let made = initial_listed hash keys s in
        let same : made ≡ l = some_same e in
        let spendable = subst (λ (x : Listed). AllByRecursion IsSpendable x.pending.spends) (sym same) h in
        subst (λ (x : Listed). AllByRecursion IsStack (witnesses hash keys s given strings x x.which)) same
        (deposit_stacks made 0 made.pending.spends made.signers spendable (holders_alone (persistent s.advert.pre)))
    stacks_at (names.At path) l e h = of_path path (end_at hash keys s path) refl l e h
