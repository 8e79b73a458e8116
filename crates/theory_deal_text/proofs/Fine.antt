-- All lines that are shown of a deal that is taken can be said.
use Rattle.std.proofs.Common.{ℕ, ◌+◌, ◌≤◌, ◌^◌, List, [], ◌∷◌, ◌++◌, length, map, Bool, true, false, not, Option, Some, None}
use Rattle.std.proofs.Common.{arith, cond}
use Rattle.std.specs.Prelude.{flat_map, filter}
use Rattle.std.specs.List.{find, list_all, list_any, AllByRecursion}
use Rattle.std.proofs.lemmas.Bool.{and_parts}
use Rattle.spec_terms.specs.Advert.{Advert}
use Rattle.spec_terms.specs.Faults.{IsWellFormed}
use Rattle.spec_terms.specs.Parties.{participants}
use Rattle.spec_terms.specs.Precondition.{Holding, deposits}
use Rattle.spec_terms.specs.Readable.{is_name}
use Rattle.spec_terms.specs.declared.path.PathStep.{PathStep}
use Rattle.spec_bitcoin.specs.declared.label.Label.{Label}
use Rattle.spec_bitcoin.specs.declared.label.Label.TheVariants as labels
use Rattle.spec_compiler.specs.declared.unsigned.Spent.{Spent}
use Rattle.spec_compiler.specs.Keyed.Keys.{Keys}
use Rattle.spec_compiler.specs.Keyed.Instance.{Instance}
use Rattle.spec_compiler.specs.Keyed.Compilation.{scripts}
use Rattle.spec_tool.specs.Keyed.Listed.{Listed, listed}
use Rattle.spec_deal.specs.declared.signed.Signed.{Signed}
use Rattle.spec_deal.specs.declared.transaction.Input.{Input}
use Rattle.spec_deal.specs.declared.transaction.Wallet.{Wallet}
use Rattle.spec_deal.specs.DealText.{is_plain}
use Rattle.spec_deal.specs.Finished.{label_party}
use Rattle.spec_compiler.specs.Keyed.OwnScripts.{pays_to_key_hash}
use Rattle.spec_deal.specs.Transactions.{signer, input, inputs, transaction, transactions}
use Rattle.spec_deal.specs.Used.{is_paid, paid_parties}
use Rattle.spec_deal.specs.Wallets.{input_wallet, has_digest}
use Rattle.theory_script.proofs.Keyed.InOrder.{scripts_in_order}
use Rattle.theory_play_text.specs.Printable.{IsWide, IsNamed}
use Rattle.theory_play_text.proofs.LegalSteps.{by_append}
use Rattle.theory_play_text.proofs.Named.{AllNamed, has_names}
use Rattle.theory_plan_text.specs.Audit.{IsShownLabel}
use Rattle.theory_plan_text.proofs.SmallPaths.{IsSmall, positions_are_small, by_paths}
use Rattle.theory_deal_text.specs.Asked.{Asked, input_asks, inputs_ask, asked, shown_signer, shown_slot, handed_in, is_there, is_needed_first, is_unchecked}
use Rattle.theory_deal_text.specs.Plan.{shown_deposit, shown_payee, shown_payees, shown_digest, shown_signing, shown_inputs, shown_transaction, shown_plan}
use Rattle.theory_deal_text.specs.PlanLines as line
use Rattle.theory_deal_text.specs.PlanLines.{PlanLine}
use Rattle.theory_deal_text.specs.Signatures.{shown_lack, shown_gate, gate_of, shown_witness, shown_handed, if_handed}
use Rattle.theory_deal_text.specs.SignatureLines.{lacks, unverified}
use Rattle.theory_deal_text.specs.Signers.{IsSigner, IsSlot}
use Rattle.theory_deal_text.proofs.PlanRead.{IsSaid}
use Rattle.theory_deal_text.proofs.Printable.{IsPrintable, IfHrp, shown_address}
use Rattle.theory_deal_text.proofs.PsbtTexts.{is_unsigned_tx}
use Rattle.theory_deal_text.proofs.SignatureRead.{IsMissing, IsHeld}
use Rattle.theory_deal_text.proofs.Signing.{AreShown, IfNamed}

-- ---- lists

module _ {X : Type 0} (P : X → Type 0) where
  kept : (p : X → Bool) (xs : List X) → AllByRecursion P xs → AllByRecursion P (filter p xs)
  kept p [] h = tt
  kept p (x ∷ xs) h = by_test (p x) (kept p xs h.1)
    where
      by_test : (b : Bool) → AllByRecursion P (filter p xs) → AllByRecursion P (cond b (x ∷ filter p xs) (filter p xs))
      by_test true r = (h.0, r)
      by_test false r = r

  abbrev If : Option X → Type 0
  If None = Unit {0}
  If (Some x) = P x

  found : (p : X → Bool) (xs : List X) → AllByRecursion P xs → If (find p xs)
  found p [] h = tt
  found p (x ∷ xs) h = by_test (p x) (found p xs h.1)
    where
      by_test : (b : Bool) → If (find p xs) → If (cond b (Some x) (find p xs))
      by_test true r = h.0
      by_test false r = r

flat : {X Y : Type 0} (P : X → Type 0) (Q : Y → Type 0) (f : X → List Y) → ((x : X) → P x → AllByRecursion Q (f x)) → (xs : List X)
    → AllByRecursion P xs → AllByRecursion Q (flat_map f xs)
flat P Q f g [] h = tt
flat P Q f g (x ∷ xs) h = by_append Q (f x) (flat_map f xs) (g x h.0) (flat P Q f g xs h.1)

mapped : {X Y : Type 0} (P : X → Type 0) (Q : Y → Type 0) (f : X → Y) → ((x : X) → P x → Q (f x)) → (xs : List X)
    → AllByRecursion P xs → AllByRecursion Q (map f xs)
mapped P Q f g [] h = tt
mapped P Q f g (x ∷ xs) h = (g x h.0, mapped P Q f g xs h.1)

-- ---- who signs

signer_fine : (wallet : Option Wallet) (label : Label) → IfNamed wallet → IsShownLabel label → IsSigner (shown_signer wallet label)
signer_fine None label w h = h
signer_fine (Some x) label w h = w

party_named : (label : Label) → IsShownLabel label → IsNamed (label_party label)
party_named (labels.Deposit party) h = h
party_named (labels.Branch contract path party) h = h.2

-- what is asked for can be shown
pub record IsAskable (a : Asked) : Type 0 where
  pub slot : IsSlot (shown_slot a)
  pub label : IsShownLabel a.signer.label

module _ (hash : List ℕ → List ℕ) (keys : Keys) (advert : Advert) (l : Listed) (h : IsPrintable keys advert l) where
  slot_fine : (k : ℕ) (label : Label) → IsWide k → IsShownLabel label
      → IsSlot (record {
        which = l.which;
        input = k;
        signer = shown_signer (input_wallet keys advert l.which k) label;
        verb = (signer hash keys advert l.which (input_wallet keys advert l.which k) label).verb;
      })
  slot_fine k label w s =
      record { which = h.signed.which; input = w; signer = signer_fine (input_wallet keys advert l.which k) label (h.signed.wallets k) s }

  -- ---- the lines of a transaction

  digest_fine : (k : ℕ) (i : Input) → IsWide k → AllByRecursion IsSaid (shown_digest l.which k i)
  digest_fine k i w = by_test (has_digest i.wallet)
    where
      by_test : (b : Bool) → AllByRecursion IsSaid (cond b (line.digest l.which k i.digest ∷ []) [])
      by_test true = ((h.signed.which, w), tt)
      by_test false = tt

  signs_fine : (k : ℕ) (spent : Spent) (all labels : List Label) → IsWide k → AllByRecursion IsShownLabel labels
      → AllByRecursion IsSaid
      (map (shown_signing l.which k (input hash keys advert l k spent all)) (map (signer hash keys advert l.which (input_wallet keys advert l.which k)) labels))
  signs_fine k spent all [] w s = tt
  signs_fine k spent all (label ∷ labels) w s = (slot_fine k label w s.0, signs_fine k spent all labels w s.1)

  inputs_fine : (k : ℕ) (spends : List Spent) (signers : List (List Label)) → k + length spends ≤ 2 ^ 64 → AreShown signers
      → AllByRecursion IsSaid (shown_inputs l.which k (inputs hash keys advert l k spends signers))
  inputs_fine k [] signers few s = tt
  inputs_fine k (spent ∷ spends) [] few s =
      let i = input hash keys advert l k spent [] in
      by_append IsSaid (shown_digest l.which k i ++ []) (shown_inputs l.which (k + 1) (inputs hash keys advert l (k + 1) spends []))
      (by_append IsSaid (shown_digest l.which k i) [] (digest_fine k i (omega (arith, few))) tt)
      (inputs_fine (k + 1) spends [] (omega (arith, few)) tt)
  inputs_fine k (spent ∷ spends) (labels ∷ signers) few s =
      let i = input hash keys advert l k spent labels in
      by_append IsSaid (shown_digest l.which k i ++ map (shown_signing l.which k i) i.signers)
      (shown_inputs l.which (k + 1) (inputs hash keys advert l (k + 1) spends signers))
      (by_append IsSaid (shown_digest l.which k i) (map (shown_signing l.which k i) i.signers) (digest_fine k i (omega (arith, few)))
      (signs_fine k spent labels labels (omega (arith, few)) s.0))
      (inputs_fine (k + 1) spends signers (omega (arith, few)) s.1)

  transaction_fine : AllByRecursion IsSaid (shown_transaction (transaction hash keys advert l))
  transaction_fine =
      let few = h.few_spends in (
        (h.signed.which, h.tx, is_unsigned_tx l h.tx),
        inputs_fine 0 l.pending.spends l.signers (omega (arith, few)) h.signed.signers,
      )

  -- ---- what it asks for

  asks_fine : (bytes : List ℕ) (k : ℕ) (spent : Spent) (all labels : List Label) → IsWide k → AllByRecursion IsShownLabel labels
      → AllByRecursion IsAskable
      (input_asks l.which bytes k
      (record (input hash keys advert l k spent all) { signers = map (signer hash keys advert l.which (input_wallet keys advert l.which k)) labels }))
  asks_fine bytes k spent all [] w s = tt
  asks_fine bytes k spent all (label ∷ labels) w s =
      (record { slot = slot_fine k label w s.0; label = s.0 }, asks_fine bytes k spent all labels w s.1)

  inputs_askable : (bytes : List ℕ) (k : ℕ) (spends : List Spent) (signers : List (List Label)) → k + length spends ≤ 2 ^ 64 → AreShown signers
      → AllByRecursion IsAskable (inputs_ask l.which bytes k (inputs hash keys advert l k spends signers))
  inputs_askable bytes k [] signers few s = tt
  inputs_askable bytes k (spent ∷ spends) [] few s = inputs_askable bytes (k + 1) spends [] (omega (arith, few)) tt
  inputs_askable bytes k (spent ∷ spends) (labels ∷ signers) few s =
      by_append IsAskable (input_asks l.which bytes k (input hash keys advert l k spent labels))
      (inputs_ask l.which bytes (k + 1) (inputs hash keys advert l (k + 1) spends signers))
      (asks_fine bytes k spent labels labels (omega (arith, few)) s.0) (inputs_askable bytes (k + 1) spends signers (omega (arith, few)) s.1)

  transaction_askable : (bytes : List ℕ)
      → AllByRecursion IsAskable (inputs_ask l.which bytes 0 (inputs hash keys advert l 0 l.pending.spends l.signers))
  transaction_askable bytes =
      let few = h.few_spends in
      inputs_askable bytes 0 l.pending.spends l.signers (omega (arith, few)) h.signed.signers

module _ (hash : List ℕ → List ℕ) (keys : Keys) (advert : Advert) where
  all_fine : (ls : List Listed) → AllByRecursion (IsPrintable keys advert) ls
      → AllByRecursion IsSaid (flat_map shown_transaction (map (transaction hash keys advert) ls))
  all_fine [] h = tt
  all_fine (l ∷ ls) h =
      by_append IsSaid (shown_transaction (transaction hash keys advert l)) (flat_map shown_transaction (map (transaction hash keys advert) ls))
      (transaction_fine hash keys advert l h.0) (all_fine ls h.1)

  pub all_askable : (ls : List Listed) → AllByRecursion (IsPrintable keys advert) ls
      → AllByRecursion IsAskable (asked (map (transaction hash keys advert) ls))
  all_askable [] h = tt
  all_askable (l ∷ ls) h =
      let t = transaction hash keys advert l in
      by_append IsAskable (inputs_ask t.which t.bytes 0 t.inputs) (asked (map (transaction hash keys advert) ls))
      (transaction_askable hash keys advert l h.0 t.bytes) (all_askable ls h.1)

-- ---- the plan

of_names : (names : List (List ℕ)) → AllNamed names → AllByRecursion IsNamed names
of_names [] h = tt
of_names (n ∷ names) h = let p = and_parts (is_name n) (list_all is_name names) h in (p.0, of_names names p.1)

module _ (hash : List ℕ → List ℕ) (network : Option (List ℕ)) (named : IfHrp network) (keys : Keys) (s : Instance) (well : IsWellFormed s.advert) where
  payees_fine : AllByRecursion IsSaid (shown_payees hash network keys s)
  payees_fine = by_test (is_plain network keys)
    where
      people : AllByRecursion IsNamed (paid_parties s.advert)
      people = kept IsNamed (is_paid s.advert) (participants s.advert) (of_names (participants s.advert) (has_names s.advert well).people)

      by_test : (b : Bool) → AllByRecursion IsSaid (cond b [] (map (shown_payee hash network keys) (paid_parties s.advert)))
      by_test true = tt
      by_test false =
          mapped IsNamed IsSaid (shown_payee hash network keys) (λ party h. (h, shown_address network _ named)) (paid_parties s.advert) people

  -- a deposit as it is placed
  pub record IsLaid (d : List ℕ × Holding) : Type 0 where
    pub name : IsNamed (d.0)
    pub vout : IsWide (shown_deposit hash network keys s d).place.vout
    pub value : IsWide (d.1).value

  pub plan_fine : AllByRecursion IsLaid (deposits s.advert.pre) → AllByRecursion (IsPrintable keys s.advert) (listed hash keys s)
      → AllByRecursion IsSaid (shown_plan hash network keys s)
  plan_fine laid printable =
      let shown_scripts = map (λ p. line.script (p.0) (p.1)) (scripts hash keys s) in
      let shown_deposits = map (λ d. line.deposit (shown_deposit hash network keys s d)) (deposits s.advert.pre) in
      let txs = flat_map shown_transaction (transactions hash keys s) in (
        tt,
        by_append IsSaid shown_scripts (shown_deposits ++ (shown_payees hash network keys s ++ txs))
            (mapped (λ (p : List PathStep × List ℕ). IsSmall (p.0)) IsSaid (λ p. line.script (p.0) (p.1)) (λ p h. h) (scripts hash keys s)
            (by_paths (scripts hash keys s) _ (scripts_in_order hash keys s) (positions_are_small s.advert well)))
            (by_append IsSaid shown_deposits (shown_payees hash network keys s ++ txs)
            (mapped IsLaid IsSaid (λ d. line.deposit (shown_deposit hash network keys s d))
            (λ d h. record { name = h.name; vout = h.vout; value = h.value; address = shown_address network _ named })
            (deposits s.advert.pre) laid)
            (by_append IsSaid (shown_payees hash network keys s) txs payees_fine (all_fine hash keys s.advert (listed hash keys s) printable))),
      )

-- ---- signatures

module _ (given : List Signed) where
  lack_fine : (a : Asked) → IsAskable a → AllByRecursion IsMissing (shown_lack given a)
  lack_fine a h = by_tests (not (is_there given a)) (is_unchecked given a)
    where
      by_tests : (b c : Bool)
          → AllByRecursion IsMissing (cond b (lacks (shown_slot a) ∷ []) (cond c (unverified (shown_slot a) ∷ []) []))
      by_tests true c = (h.slot, tt)
      by_tests false true = (h.slot, tt)
      by_tests false false = tt

  gate_fine : (o : Option Asked) (unchecked : Bool) → If IsAskable o → IsMissing (shown_gate o unchecked)
  gate_fine (Some a) unchecked h = (h.slot.which, party_named a.signer.label h.label)
  gate_fine None true h = tt
  gate_fine None false h = tt

  pub missing_fine : (all : List Asked) → AllByRecursion IsAskable all
      → AllByRecursion IsMissing (flat_map (shown_lack given) all ++ gate_of given all ∷ [])
  missing_fine all h =
      by_append IsMissing (flat_map (shown_lack given) all) (gate_of given all ∷ [])
      (flat IsAskable IsMissing (shown_lack given) lack_fine all h) (
        gate_fine (find (λ a. not (is_there given a)) (filter is_needed_first all)) (list_any (is_unchecked given) all)
            (found IsAskable (λ a. not (is_there given a)) (filter is_needed_first all) (kept IsAskable is_needed_first all h)),
        tt,
      )

  witness_fine : (b : Bool) (a : Asked) (items : List (List ℕ)) → IsAskable a → IsHeld (shown_witness b a items)
  witness_fine true a items h = h.slot
  witness_fine false a items h = h.slot

  one_handed : (wallet : Option Wallet) (a : Asked) (g : Signed) → IsAskable a → IsHeld (shown_handed wallet a g)
  one_handed None a g h = h.slot
  one_handed (Some w) a g h = witness_fine (pays_to_key_hash w.script) a g.witness h

  handed_fine : (a : Asked) (o : Option Signed) → IsAskable a → AllByRecursion IsHeld (if_handed a o)
  handed_fine a None h = tt
  handed_fine a (Some g) h = (one_handed a.wallet a g h, tt)

  pub held_fine : (all : List Asked) → AllByRecursion IsAskable all
      → AllByRecursion IsHeld (flat_map (λ a. if_handed a (handed_in given a)) all)
  held_fine all h =
      flat IsAskable IsHeld (λ a. if_handed a (handed_in given a)) (λ a k. handed_fine a (handed_in given a) k) all h
