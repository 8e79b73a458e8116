-- No finished transaction is heavy whose wallets are those of keys.
use Rattle.std.proofs.Common.{◌≡◌, ℕ, zero, suc, ◌+◌, ◌≤◌, List, [], ◌∷◌, ◌++◌, length, map, Bool, true, false, not, Option, Some, None}
use Rattle.std.proofs.Common.{refl, sym, ap, ◌∙◌, subst, arith, length-append, append-nil, inl, inr}
use Rattle.std.specs.Prelude.{◌⊎◌, ◌||◌, slice_index}
use Rattle.std.specs.List.{find, AllByRecursion}
use Rattle.std.specs.Option.{option_map, option_map_or, option_and_then}
use Rattle.std.specs.Str.{bytes_eq}
use Rattle.std.proofs.lemmas.Bool.Decides.{nat_tests}
use Rattle.spec_data.specs.Hashes.{HashesBytes}
use Rattle.spec_terms.specs.Term as term
use Rattle.spec_terms.specs.Term.{Contract, Parts, no_part, part, auth, after, put_reveal, withdraw, split}
use Rattle.spec_terms.specs.Core.{core, reveals_of, puts_of}
use Rattle.spec_terms.specs.Parties.{participants}
use Rattle.spec_terms.specs.Paths as paths
use Rattle.spec_terms.specs.Paths.{Subterm, as_branch, subterm_from, at}
use Rattle.spec_terms.specs.Precondition.{persistent}
use Rattle.spec_terms.specs.declared.path.PathStep.{PathStep}
use Rattle.spec_bitcoin.specs.declared.label.Label.{Label}
use Rattle.spec_bitcoin.specs.declared.label.Label.TheVariants as variants
use Rattle.spec_bitcoin.specs.declared.tx.TxOut.{TxOut}
use Rattle.spec_bitcoin.specs.Keys.{pay_to, checksig_byte}
use Rattle.spec_bitcoin.specs.Spelling.{compact, sized, witness_bytes, is_filled}
use Rattle.spec_compiler.specs.declared.unsigned.Spent.{Spent}
use Rattle.spec_compiler.specs.Keyed.OwnScripts.{pays_to_key_hash}
use Rattle.spec_compiler.specs.Keyed.Keys.{Keys, own_payee}
use Rattle.spec_compiler.specs.Keyed.Instance.{Instance, branch_label, branch_path, deposit_key, position_script}
use Rattle.spec_compiler.specs.Keyed.Transactions.{Standing, tx_of, pays, party_script, pays_party, part_position, part_outputs, core_outputs}
use Rattle.spec_compiler.specs.Keyed.Transactions.{put_deposits, branch_unsigned, initial_unsigned}
use Rattle.spec_compiler.specs.Keyed.ByPath.{PathEnd, at_position, at_branch, end_at, as_unsigned}
use Rattle.spec_compiler.specs.Keyed.Endorsements.{put_owner}
use Rattle.spec_compiler.specs.Keyed.Statements.{AreKeys, ArePayable, IsCompiled, is_short}
use Rattle.spec_tool.specs.declared.which.Which.{Which}
use Rattle.spec_tool.specs.declared.which.Which.TheVariants as names
use Rattle.spec_tool.specs.Keyed.Listed.{Listed, deposit_signer, branch_signers, path_signers, path_listed, initial_listed, listed_at}
use Rattle.spec_tool.specs.Weights.{weight_of}
use Rattle.spec_deal.specs.declared.entry.Shown.{Shown}
use Rattle.spec_deal.specs.declared.signed.Signed.{Signed}
use Rattle.spec_deal.specs.declared.transaction.Wallet.{Wallet}
use Rattle.spec_deal.specs.DealFile.{is_compressed}
use Rattle.spec_deal.specs.Finished.{bytes_or_none, items_or_none, input_signatures, deposit_witness, deposit_witnesses, choices_at}
use Rattle.spec_deal.specs.Finished.{strings_of, branch_witness, path_witnesses, witnesses, finished}
use Rattle.spec_deal.specs.Given.{is_for, signature_for, witness_for}
use Rattle.spec_deal.specs.SecretFile.{string_for}
use Rattle.spec_deal.specs.Setting.{deal_keys, deal_instance}
use Rattle.spec_deal.specs.SignatureFile.{has_witness_form, has_strict_signature}
use Rattle.spec_deal.specs.Shape.{is_strict}
use Rattle.spec_deal.specs.Payable.{has_taproot_form}
use Rattle.spec_deal.specs.Slots.{Slot, input_slot}
use Rattle.spec_deal.specs.Verifier.{Verifier}
use Rattle.spec_deal.specs.Wallets.{input_wallet, first_item}
use Rattle.theory_calculus.specs.Members.{Is_in}
use Rattle.theory_calculus.proofs.Members.{contains_from_in, found}
use Rattle.theory_script.proofs.Keyed.Opened.{no_limit_met}
use Rattle.theory_script.proofs.Keyed.Stands.{some_same, IfAgrees, agrees_at}
use Rattle.theory_deal.proofs.Branches.{branch_found}
use Rattle.theory_deal.proofs.FinishedOpens.{AreDeposits, persistent_are, puts_are}
use Rattle.theory_deal.proofs.ReadDeals.{deals_are_sized}
use Rattle.theory_deal.proofs.ReadSignatures.{signatures_are_shaped, signatures_few}
use Rattle.theory_deal.proofs.Shapes.{strict_has_shape, shape_is_short}
use Rattle.theory_deal.proofs.SignatureLines.{can_spend}
use Rattle.theory_deal.proofs.Whole.{strings_fit}
use Rattle.theory_deal.proofs.WholeDeals.{deals_give_all}
use Rattle.theory_deal.proofs.Ledger.ShortItems.{string_short}
use Rattle.theory_deal.proofs.Widths.DealBytes.{deal_widths}
use Rattle.theory_deal.proofs.Widths.Light.{sized_short, sized_few, compact_one, bytes_cons, IsSmallBranch, branch_within, IsWithin, none_shown}
use Rattle.theory_deal.proofs.Widths.Light.{shown_bytes, shown_cons, shown_within, IsLow, stripped_within, weight_within}
use Rattle.theory_deal.proofs.Widths.Outputs.{IsSmall, small_at}
use Rattle.theory_deal.proofs.Widths.Places.{IsSpendable, spendable_at}
use Rattle.theory_deal.proofs.Widths.SecretBytes.{ShownBytes, secret_bytes}
use Rattle.theory_deal.proofs.Widths.SignatureBytes.{SignedBytes, signature_bytes}
use Rattle.theory_deal.proofs.Widths.Witnesses.{few_people, few_branch, few_selectors}
use Rattle.theory_deal.specs.DealLines.{IsCompressed}
use Rattle.theory_deal.specs.Finished.{IsApplied, do_fit, are_short}
use Rattle.theory_deal.specs.Weights.{IsUsual, AreUsual, AreLight}

-- ---- witnesses of deposits

-- two items, or one
two_within : (a b : List ℕ) → length a ≤ 73 → length b ≤ 35 → IsWithin 111 (a ∷ b ∷ [])
two_within a b h k =
    let x = length-append (compact 2) (sized a ++ (sized b ++ [])) in
    let y = compact_one 2 (omega arith) in
    let c = bytes_cons a (b ∷ []) in
    let d = bytes_cons b [] in
    let e = sized_short a (omega (arith, h)) in
    let f = sized_short b (omega (arith, k)) in
    omega (arith, x, y, c, d, e, f, h, k)

one_within : (a : List ℕ) → length a ≤ 73 → IsWithin 111 (a ∷ [])
one_within a h =
    let x = length-append (compact 1) (sized a ++ []) in
    let y = compact_one 1 (omega arith) in
    let c = bytes_cons a [] in
    let e = sized_short a (omega (arith, h)) in
    omega (arith, x, y, c, e, h)

none_within : IsWithin 111 []
none_within = let n = none_shown in omega (arith, n)

usual_within : (items : List (List ℕ)) → IsUsual items → IsWithin 111 items
usual_within items (inl h) = subst (IsWithin 111) (sym h.2) (two_within h.0 h.1 h.3 (let k = h.4 in omega (arith, k)))
usual_within items (inr h) = subst (IsWithin 111) (sym h.1) (one_within h.0 (let k = h.2 in omega (arith, k)))

module _ (hash : List ℕ → List ℕ) (keys : Keys) (s : Instance) (given : List Signed) (strings : List Shown)
    (few : (g : Signed) → Is_in g given → length g.signature ≤ 73) (usual : AreUsual given) (are_keys : AreKeys hash keys)
    (fit : do_fit hash s strings ≡ true) where
  signature_within : (slot : Slot) → length (bytes_or_none (signature_for hash keys given slot)) ≤ 73
  signature_within slot = by_found (find (is_for hash keys slot) given) refl
    where
      by_found : (o : Option Signed) → find (is_for hash keys slot) given ≡ o
          → length (bytes_or_none (option_map (λ (g : Signed). g.signature) o)) ≤ 73
      by_found None e = omega arith
      by_found (Some g) e = few g (found (is_for hash keys slot) given g e).0

  handed_within : (slot : Slot) → IsWithin 111 (items_or_none (witness_for hash keys given slot))
  handed_within slot = by_found (find (is_for hash keys slot) given) refl
    where
      by_items : (g : Signed) → Is_in g given → (b : Bool) → is_filled g.witness ≡ b → IsWithin 111 g.witness
      by_items g i true e = usual_within g.witness (usual g (contains_from_in given g i) e)
      by_items g i false e = subst (IsWithin 111) (sym (nothing g.witness e)) none_within
        where
          nothing : (items : List (List ℕ)) → is_filled items ≡ false → items ≡ []
          nothing [] k = refl
          nothing (x ∷ items) k = cc

      by_found : (o : Option Signed) → find (is_for hash keys slot) given ≡ o
          → IsWithin 111 (items_or_none (option_map (λ (g : Signed). g.witness) o))
      by_found None e = none_within
      by_found (Some g) e = by_items g (found (is_for hash keys slot) given g e).0 (is_filled g.witness) refl

  script_is : (party : List ℕ) → length (party_script hash keys party) ≤ 35
  script_is party =
      let key = deposit_key hash keys party in
      let n = length-append key (checksig_byte ∷ []) in
      let l = are_keys (variants.Deposit party) in
      omega (arith, n, l)

  deposits_within : (l : Listed) (k : ℕ) (spends : List Spent) (signers : List (List Label))
      → AreDeposits hash keys s given (λ n signature key. false) l k spends signers
      → AllByRecursion (IsWithin 111) (deposit_witnesses hash keys s given l k spends signers)
  deposits_within l k [] [] d = tt
  deposits_within l k [] (x ∷ xs) d = absurd d
  deposits_within l k (spent ∷ spends) [] d = absurd d
  deposits_within l k (spent ∷ spends) (x ∷ xs) d =
      (by_wallet (input_wallet keys s.advert l.which k) refl, deposits_within l (k + 1) spends xs d.1)
    where
      by_wallet : (o : Option Wallet) → input_wallet keys s.advert l.which k ≡ o
          → IsWithin 111 (deposit_witness hash keys s given l k spent x o)
      by_wallet None e =
          subst (λ (labels : List Label). IsWithin 111 (input_signatures hash keys s given l k spent labels ++ spent.script ∷ [])) (sym d.0.signs)
          (two_within (bytes_or_none (signature_for hash keys given (input_slot keys s.advert l k spent (variants.Deposit d.0.party)))) spent.script
          (signature_within (input_slot keys s.advert l k spent (variants.Deposit d.0.party)))
          (subst (λ (script : List ℕ). length script ≤ 35) (sym (d.0.script e)) (script_is d.0.party)))
      by_wallet (Some w) e =
          subst (λ (labels : List Label). IsWithin 111 (deposit_witness hash keys s given l k spent labels (Some w))) (sym d.0.signs)
          (subst (IsWithin 111)
          (sym (append-nil (items_or_none (witness_for hash keys given (input_slot keys s.advert l k spent (variants.Deposit d.0.party))))))
          (handed_within (input_slot keys s.advert l k spent (variants.Deposit d.0.party))))

  -- ---- the witness of a branch

  signatures_within : (l : Listed) (k : ℕ) (spent : Spent) (labels : List Label)
      → AllByRecursion (λ (x : List ℕ). length (sized x) ≤ 74) (input_signatures hash keys s given l k spent labels)
  signatures_within l k spent [] = tt
  signatures_within l k spent (label ∷ labels) =
      let slot = input_slot keys s.advert l k spent label in
      let h = signature_within slot in
      let e = sized_short (bytes_or_none (signature_for hash keys given slot)) (omega (arith, h)) in
      (omega (arith, e, h), signatures_within l k spent labels)

  text_within : (name : List ℕ) → length (bytes_or_none (string_for strings name)) ≤ 520
  text_within name = by_found (find (λ (x : Shown). bytes_eq x.name name) strings) refl
    where
      by_found : (o : Option Shown) → find (λ (x : Shown). bytes_eq x.name name) strings ≡ o
          → length (bytes_or_none (option_map (λ (x : Shown). x.bytes) o)) ≤ 520
      by_found None e = omega arith
      by_found (Some x) e =
          let h = string_short hash s strings fit x (found (λ (y : Shown). bytes_eq y.name name) strings x e).0 in
          grind (arith, nat_tests, h)

  texts_within : (required : List (List ℕ)) → AllByRecursion (λ (x : List ℕ). length (sized x) ≤ 523) (strings_of strings required)
  texts_within [] = tt
  texts_within (name ∷ required) =
      let h = text_within name in
      let e = sized_few (bytes_or_none (string_for strings name)) (omega (arith, h)) in
      (omega (arith, e, h), texts_within required)

  as_many_signatures : (l : Listed) (k : ℕ) (spent : Spent) (labels : List Label)
      → length (input_signatures hash keys s given l k spent labels) ≡ length labels
  as_many_signatures l k spent [] = refl
  as_many_signatures l k spent (label ∷ labels) = ap suc (as_many_signatures l k spent labels)

  as_many_texts : (required : List (List ℕ)) → length (strings_of strings required) ≡ length required
  as_many_texts [] = refl
  as_many_texts (name ∷ required) = ap suc (as_many_texts required)

  as_many_labels : (path : List PathStep) (ps : List (List ℕ)) → length (map (branch_label s.contract path) ps) ≡ length ps
  as_many_labels path [] = refl
  as_many_labels path (p ∷ ps) = ap suc (as_many_labels path ps)

  -- ---- outputs

  module _ (bytes : HashesBytes hash) (payable : ArePayable keys) where
    pays_low : (script : List ℕ) (value : ℕ) → IsLow (pays hash script value)
    pays_low script value = let n = bytes.size script in omega (arith, n)

    party_low : (party : List ℕ) (v : ℕ) → IsLow (pays_party hash keys party v)
    party_low party v = by_own (own_payee keys party) refl
      where
        by_own : (o : Option (List ℕ)) → own_payee keys party ≡ o
            → length (option_map_or (λ own. own) o (pay_to (hash (party_script hash keys party)))) ≤ 34
        by_own None e = pays_low (party_script hash keys party) v
        by_own (Some script) e = (payable party script e).few

    parts_low : (path : List PathStep) (k : ℕ) (ps : Parts) → AllByRecursion IsLow (part_outputs hash keys s path k ps)
    parts_low path k no_part = tt
    parts_low path k (part v c ps) =
        (pays_low (position_script hash keys s (part_position path k) c) v, parts_low path (k + 1) ps)

    core_low : (path : List PathStep) (v : ℕ) (c : term.Guarded) → AllByRecursion IsLow (core_outputs hash keys s path v c)
    core_low path v (put_reveal puts reveals test next) = (pays_low (position_script hash keys s path next) 0, tt)
    core_low path v (withdraw party) = (party_low party v, tt)
    core_low path v (split parts) = parts_low path 0 parts
    core_low path v (auth party body) = tt
    core_low path v (after height body) = tt

    -- ---- all transactions

    pub record IsLight (l : Listed) : Type 0 where
      pub low : AllByRecursion IsLow l.pending.outputs
      pub shown : shown_bytes l.pending.spends (witnesses hash keys s given strings l l.which) ≤ 31544

    module _ (applied : IsApplied s) (signed : SignedBytes given) (shown : ShownBytes strings) (short : are_short given ≡ true)
        (small : (which : Which) (l : Listed) → listed_at hash keys s which ≡ Some l → IsSmall hash bytes keys s l.pending) where
      initial_light : IsLight (initial_listed hash keys s)
      initial_light =
          let l = initial_listed hash keys s in
          let n = (small names.Init l refl).inputs in
          let a = shown_within 111 (omega arith) l.pending.spends (deposit_witnesses hash keys s given l 0 l.pending.spends l.signers)
          (deposits_within l 0 l.pending.spends l.signers
          (persistent_are hash keys s given (λ k signature key. false) (persistent s.advert.pre) refl)) in
          record { low = (pays_low (position_script hash keys s [] s.advert.root) 0, tt); shown = omega (arith, n, a) }

      module _ (path : List PathStep) (here : Standing) (i : ℕ) (b : term.Guarded)
          (ends : end_at hash keys s path ≡ Some (at_branch here i b)) (stands : at s.advert.root path ≡ Some b) where
        abbrev made : Listed
        made = path_listed s path (branch_unsigned hash keys s here i b)

        there : listed_at hash keys s (names.At path) ≡ Some made
        there = ap (option_map (path_listed s path)) (ap (option_and_then (as_unsigned hash keys s)) ends)

        small_branch : (labels : List Label) → length labels ≤ 16
            → IsSmallBranch (input_signatures hash keys s given made 0 here.output labels) (strings_of strings (reveals_of (core b))) i
            (choices_at s here.position) here.output.script
        small_branch labels few_labels =
            let found = branch_found hash keys s path here i b ends in
            let compiled : IsCompiled s here.position found.choice = record {
              checked = applied.checked;
              committed = applied.committed;
              is_position = found.stands.branches;
            } in
            let known = few_branch hash keys s given strings signed shown short fit applied.checked path here i b ends in
            let a = as_many_signatures made 0 here.output labels in
            let c = as_many_texts (reveals_of (core b)) in
            let d = few_selectors i (choices_at s here.position) in
            let x = known.number in
            let y = known.reveals in
            let z = (no_limit_met hash keys s here.position found.choice are_keys compiled).bytes in
            record {
              people = omega (arith, a, few_labels);
              secrets = omega (arith, c, y);
              choices = omega (arith, d, x);
              script_bytes = subst (λ (script : List ℕ). length script ≤ 10000) (sym found.stands.script) z;
              signature_bytes = signatures_within made 0 here.output labels;
              text_bytes = texts_within (reveals_of (core b));
            }

        branch_bytes : (labels : List Label) → length labels ≤ 16
            → IsWithin 27992
            (branch_witness s strings (input_signatures hash keys s given made 0 here.output labels) (end_at hash keys s path))
        branch_bytes labels few_labels =
            subst
            (λ (o : Option PathEnd).
            IsWithin 27992 (branch_witness s strings (input_signatures hash keys s given made 0 here.output labels) o))
            (sym ends)
            (branch_within (input_signatures hash keys s given made 0 here.output labels) (strings_of strings (reveals_of (core b))) i
            (choices_at s here.position) here.output.script (small_branch labels few_labels))

        abbrev Bound : List (List Label) → Type 0
        Bound signers = shown_bytes made.pending.spends (path_witnesses hash keys s given strings path made made.pending.spends signers) ≤ 31544

        by_signers : Bound (branch_signers s.contract s.advert path b)
        by_signers =
            let labels = map (branch_label s.contract path) (participants s.advert) in
            let puts = put_deposits hash keys s (puts_of (core b)) in
            let owners = map (λ name. deposit_signer (put_owner s.advert name)) (puts_of (core b)) in
            let ws = deposit_witnesses hash keys s given made 1 puts owners in
            let first = branch_witness s strings (input_signatures hash keys s given made 0 here.output labels) (end_at hash keys s path) in
            let n = (small (names.At path) made there).inputs in
            let many = as_many_labels path (participants s.advert) in
            let people = few_people hash keys s given strings signed shown short fit applied.checked in
            let few_labels : length labels ≤ 16 = omega (arith, many, people) in
            let a = branch_bytes labels few_labels in
            let c = shown_within 111 (omega arith) puts ws
            (deposits_within made 1 puts owners
            (puts_are hash keys s given (λ k signature key. false) path (branch_unsigned hash keys s here i b) b stands)) in
            let d = shown_cons here.output puts first ws in
            omega (arith, n, a, c, d)

        path_light : IsLight made
        path_light =
            let signers_there : path_signers s path ≡ branch_signers s.contract s.advert path b =
            ap (λ (o : Option term.Guarded). option_map_or (branch_signers s.contract s.advert path) o []) stands in
            record {
              low = core_low (branch_path here.position i) here.output.value (core b);
              shown = subst Bound (sym signers_there) by_signers;
            }

      by_ends : (path : List PathStep) (o : Option PathEnd) (q : Option Subterm) → end_at hash keys s path ≡ o
          → subterm_from (paths.position s.advert.root) path ≡ q → IfAgrees hash keys s path o q → (l : Listed)
          → option_map (path_listed s path) (option_and_then (as_unsigned hash keys s) o) ≡ Some l → IsLight l
      by_ends path None q ends is agrees l e = cc
      by_ends path (Some (at_position here choice)) q ends is agrees l e = cc
      by_ends path (Some (at_branch here i d)) None ends is agrees l e = absurd agrees
      by_ends path (Some (at_branch here i d)) (Some (paths.position c)) ends is agrees l e = absurd agrees
      by_ends path (Some (at_branch here i d)) (Some (paths.at_branch b)) ends is agrees l e =
          let term_there = is ∙ ap (λ (x : term.Guarded). Some (paths.at_branch x)) (sym agrees.1) in
          subst IsLight (some_same e) (path_light path here i d ends (ap (option_and_then as_branch) term_there))

      pub light_at : (which : Which) (l : Listed) → listed_at hash keys s which ≡ Some l → IsLight l
      light_at names.Init l e = subst IsLight (some_same e) initial_light
      light_at (names.At path) l e =
          by_ends path (end_at hash keys s path) (subterm_from (paths.position s.advert.root) path) refl refl (agrees_at hash keys s path) l e

-- ---- what is claimed

kinds_usual : (v : Verifier) (script : List ℕ) (items : List (List ℕ)) → has_witness_form v script items ≡ true
    → has_strict_signature script items ≡ true
    → (pays_to_key_hash script ≡ true) ⊎ ((has_taproot_form script ≡ true) × (length items ≡ 1)) → IsUsual items
kinds_usual v script items form strict (inl h) =
    let k = ((can_spend v script items).0 form).key_hash h in
    let shape : is_strict (first_item items) ≡ true = ap (λ (b : Bool). not b || is_strict (first_item items)) (sym h) ∙ strict in
    let shape_there : is_strict k.0 ≡ true = ap (λ (xs : List (List ℕ)). is_strict (first_item xs)) (sym k.2) ∙ shape in
    inl (k.0, k.1, k.2, shape_is_short k.0 (strict_has_shape k.0 shape_there), key_few k.1 k.3)
  where
    key_few : (key : List ℕ) → IsCompressed key → length key ≤ 33
    key_few key (rest, inl e, n) = let m = ap (λ (xs : List ℕ). length xs) e in omega (arith, m, n)
    key_few key (rest, inr e, n) = let m = ap (λ (xs : List ℕ). length xs) e in omega (arith, m, n)
kinds_usual v script [] form strict (inr h) = let n = h.1 in absurd (omega (arith, n))
kinds_usual v script (x ∷ []) form strict (inr h) =
    inr (x, refl, by_size (((can_spend v script (x ∷ [])).0 form).taproot h.0 x refl))
  where
    by_size : (length x ≡ 64) ⊎ ((length x ≡ 65) × (slice_index x 64 ≡ 1)) → length x ≤ 65
    by_size (inl n) = omega (arith, n)
    by_size (inr n) = let m = n.0 in omega (arith, m)
kinds_usual v script (x ∷ (y ∷ items)) form strict (inr h) = let n = h.1 in absurd (omega (arith, n))

pub are_light : AreLight
are_light = record {
  kinds = kinds_usual;
  little = λ v hash advert deal_text deal file given strings which l bytes checked deal_read given_read strings_read there usual.
      let keys = deal_keys deal in
      let s : Instance = deal_instance advert deal in
      let sized = deals_are_sized v hash advert deal_text deal deal_read in
      let applied = sized.applied checked in
      let widths = deal_widths v hash advert deal_text deal deal_read in
      let fit = strings_fit hash keys s strings strings_read in
      let small = λ (w : Which) (x : Listed) (e : listed_at hash keys s w ≡ Some x).
      small_at hash bytes keys s widths.payees checked w x e in
      let spends =
      spendable_at hash bytes keys s applied (deals_give_all v advert deal_text deal deal_read).deposits widths.places sized.are_keys
      widths.wallets widths.keys widths.hashes which l there in
      let light =
      light_at hash keys s given strings (signatures_few v hash keys s file given given_read) usual sized.are_keys fit bytes widths.payees
      applied (signature_bytes v hash keys s file given given_read) (secret_bytes hash keys s strings strings_read)
      (signatures_are_shaped v hash keys s file given given_read).short small which l there in
      let is = small which l there in
      let bare = stripped_within (tx_of l.pending) l.pending.spends refl spends is.inputs light.low is.outputs in
      let w = weight_within (tx_of l.pending) (witnesses hash keys s given strings l l.which) 4115 31544 bare light.shown in
      omega (arith, w);
}
