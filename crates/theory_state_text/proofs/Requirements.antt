-- What is missing for a transaction of a deal is told in names of its contract.
use Rattle.std.proofs.Common.{◌≡◌, ℕ, ◌+◌, zero, suc, List, [], ◌∷◌, ◌++◌, map, Bool, true, false, Option, Some, None, refl, inl, inr, cond}
use Rattle.std.specs.Prelude.{◌&&◌, not, is_some, nat_lt, filter}
use Rattle.std.specs.List.{list_all, list_any, AllByRecursion}
use Rattle.std.specs.Option.{option_map, option_map_or}
use Rattle.std.proofs.lemmas.Bool.{and_parts, and_from}
use Rattle.spec_data.specs.Lists.{look_up}
use Rattle.spec_terms.specs.Core.{core, puts_of, reveals_of}
use Rattle.spec_terms.specs.Faults.{IsWellFormed}
use Rattle.spec_terms.specs.Paths.{at}
use Rattle.spec_terms.specs.Precondition.{Holding, deposits, persistent, volatile, secrets, names_of}
use Rattle.spec_terms.specs.Readable.{is_name, is_readable_branch, is_whole_prefix}
use Rattle.spec_terms.specs.Term as term
use Rattle.spec_terms.specs.Term.{auth, after, put_reveal, withdraw, split}
use Rattle.spec_terms.specs.declared.path.PathStep.{PathStep}
use Rattle.spec_bitcoin.specs.declared.label.Label.{Label}
use Rattle.spec_bitcoin.specs.declared.label.Label.TheVariants as labels
use Rattle.spec_compiler.specs.declared.unsigned.Spent.{Spent}
use Rattle.spec_compiler.specs.Keyed.Compilation.{path_transactions}
use Rattle.spec_compiler.specs.Keyed.Endorsements.{put_owner}
use Rattle.spec_compiler.specs.Keyed.Keys.{Keys, own_script}
use Rattle.spec_compiler.specs.Keyed.Instance.{Instance, people, branch_label}
use Rattle.spec_compiler.specs.Keyed.Transactions.{holding_or_none}
use Rattle.spec_run.specs.Firing.{revealed_by}
use Rattle.spec_tool.specs.declared.which.Which.{Which}
use Rattle.spec_tool.specs.declared.which.Which.TheVariants as names
use Rattle.spec_text.specs.Words.{◌>>=◌}
use Rattle.spec_tool.specs.Keyed.Listed.{Listed, deposit_signer, branch_signers, path_signers, initial_listed, path_listed, listed}
use Rattle.spec_deal.specs.declared.entry.Shown.{Shown}
use Rattle.spec_deal.specs.declared.signed.Signed.{Signed}
use Rattle.spec_deal.specs.declared.transaction.Wallet.{Wallet}
use Rattle.spec_deal.specs.Finished.{bytes_or_none, label_party, which_branch}
use Rattle.spec_deal.specs.Given.{has, missing, is_unverified}
use Rattle.spec_deal.specs.SecretFile.{string_for}
use Rattle.spec_deal.specs.Slots.{Slot, input_slot, input_slots, slots_from, listed_slots, slots}
use Rattle.spec_deal.specs.Transactions.{transactions}
use Rattle.spec_deal.specs.Wallets.{puts_at, input_deposit, wallet_of, input_wallet}
use Rattle.spec_chain.specs.declared.requirement.Requirement.{Requirement}
use Rattle.spec_chain.specs.declared.requirement.Requirement.TheVariants as requirements
use Rattle.spec_chain.specs.Following.{State}
use Rattle.spec_chain.specs.Outputs.{is_deposit, transaction_named}
use Rattle.spec_chain.specs.Outstanding.{lock_of, height_requirements, is_needed_for, signature_requirement, signature_requirements, unverified_for}
use Rattle.spec_chain.specs.Outstanding.{puts_by, deposits_needed, deposits_outstanding, secrets_outstanding, secret_requirement, gone_requirements}
use Rattle.spec_chain.specs.Outstanding.{is_false, predicate_requirements, outstanding}
use Rattle.theory_calculus.proofs.Members.{all_in, all_get}
use Rattle.theory_calculus.proofs.Names.{looked_in, volatile_deposit}
use Rattle.theory_world.proofs.Labels.{core_readable}
use Rattle.theory_play_text.specs.Printable.{IsNamed}
use Rattle.theory_play_text.proofs.LegalSteps.{all_by_in}
use Rattle.theory_play_text.proofs.Named.{AllNamed, IsHeld, deposits_named, persistent_named, has_names, branch_fine, reveals_named}
use Rattle.theory_state_text.proofs.Ends.{Ends, name_ends}
use Rattle.theory_state_text.proofs.Named.{Each, each_none, each_append, each_filter, each_one, each_map, each_flat, owned, people_named}

-- ---- names of a contract

puts_core : (c : term.Guarded) → is_readable_branch c ≡ true → AllNamed (puts_of c)
puts_core (put_reveal puts reveals test next) h =
    let p = and_parts (is_whole_prefix puts reveals test && (list_all is_name puts && list_all is_name reveals)) _ h in
    let q = (and_parts (is_whole_prefix puts reveals test) _ p.0).1 in
    (and_parts (list_all is_name puts) (list_all is_name reveals) q).0
puts_core (auth party body) h = refl
puts_core (after height body) h = refl
puts_core (withdraw party) h = refl
puts_core (split parts) h = refl

each_named : (xs : List (List ℕ)) → AllNamed xs → Each IsNamed xs
each_named xs h x i = all_in is_name xs x h i

held_names : (ds : List (List ℕ × Holding)) → AllByRecursion IsHeld ds → AllNamed (names_of ds)
held_names [] h = refl
held_names (d ∷ ds) h = and_from _ _ (h.0).0 (held_names ds h.1)

-- ---- signatures

-- whoever has the label ends no line
abbrev pub LabelFine : Label → Type 0
LabelFine label = Ends (label_party label)

-- the deposit that a wallet brings has a name
abbrev pub WalletNamed : Option Wallet → Type 0
WalletNamed None = Unit {0}
WalletNamed (Some w) = IsNamed w.deposit

pub record SlotFine (slot : Slot) : Type 0 where
  pub label : LabelFine slot.label
  pub wallet : WalletNamed slot.wallet

brought : (keys : Keys) (o : Option (List ℕ)) → ((name : List ℕ) → o ≡ Some name → IsNamed name) → WalletNamed (o >>= wallet_of keys)
brought keys None f = tt
brought keys (Some name) f = by_script (own_script keys name)
  where
    by_script : (o : Option (List ℕ)) → WalletNamed (option_map (λ script. record { deposit = name; script = script }) o)
    by_script None = tt
    by_script (Some script) = f name refl

module _ (hash : List ℕ → List ℕ) (keys : Keys) (s : Instance) (well : IsWellFormed s.advert) where
  pub puts_named : (path : List PathStep) → AllNamed (puts_at (at s.advert.root path))
  puts_named path = by_branch (at s.advert.root path) refl
    where
      by_branch : (o : Option term.Guarded) → at s.advert.root path ≡ o → AllNamed (puts_at o)
      by_branch None e = refl
      by_branch (Some b) e = puts_core (core b) (core_readable b (branch_fine s.advert well path b e).readable)

  pub persistent_names : AllNamed (names_of (persistent s.advert.pre))
  persistent_names = held_names (persistent s.advert.pre) (persistent_named s.advert.pre (has_names s.advert well).pre)

  wallet_named : (which : Which) (k : ℕ) → WalletNamed (input_wallet keys s.advert which k)
  wallet_named names.Init k =
      brought keys (input_deposit s.advert names.Init k)
      (λ name e. all_get is_name (names_of (persistent s.advert.pre)) k name persistent_names e)
  wallet_named (names.At path) zero = tt
  wallet_named (names.At path) (suc k) =
      brought keys (input_deposit s.advert (names.At path) (suc k))
      (λ name e. all_get is_name (puts_at (at s.advert.root path)) k name (puts_named path) e)

  owner_ends : (name : List ℕ) → Ends (put_owner s.advert name)
  owner_ends name = by_holding (look_up name (volatile s.advert.pre)) refl
    where
      by_holding : (o : Option Holding) → look_up name (volatile s.advert.pre) ≡ o → Ends (holding_or_none o).owner
      by_holding None e = tt
      by_holding (Some h) e =
          let i = volatile_deposit s.advert.pre (name, h) (looked_in (volatile s.advert.pre) name h e) in
          let held = all_by_in IsHeld (deposits s.advert.pre) (deposits_named s.advert.pre (has_names s.advert well).pre) (name, h) i in
          name_ends h.owner held.1

  owners_fine : (ds : List (List ℕ × Holding)) → AllByRecursion IsHeld ds → Each (Each LabelFine) (map (λ d. deposit_signer (d.1).owner) ds)
  owners_fine ds h =
      each_map (Each LabelFine) (λ d. deposit_signer (d.1).owner) ds
      (λ d i. each_one LabelFine (labels.Deposit (d.1).owner) (name_ends (d.1).owner (all_by_in IsHeld ds h d i).1))

  branch_fine_signers : (path : List PathStep) (b : term.Guarded) → Each (Each LabelFine) (branch_signers s.contract s.advert path b)
  branch_fine_signers path b =
      each_append (Each LabelFine) (map (branch_label s.contract path) (people s) ∷ []) (map (λ name. deposit_signer (put_owner s.advert name)) (puts_of (core b)))
      (each_one (Each LabelFine) (map (branch_label s.contract path) (people s))
      (each_map LabelFine (branch_label s.contract path) (people s) (λ party i. name_ends party (people_named hash s well party i))))
      (each_map (Each LabelFine) (λ name. deposit_signer (put_owner s.advert name)) (puts_of (core b))
      (λ name i. each_one LabelFine (labels.Deposit (put_owner s.advert name)) (owner_ends name)))

  path_fine_signers : (path : List PathStep) → Each (Each LabelFine) (path_signers s path)
  path_fine_signers path = by_branch (at s.advert.root path)
    where
      by_branch : (o : Option term.Guarded) → Each (Each LabelFine) (option_map_or (branch_signers s.contract s.advert path) o [])
      by_branch None = each_none (Each LabelFine)
      by_branch (Some b) = branch_fine_signers path b

  all_signed : Each (λ (l : Listed). Each (Each LabelFine) l.signers) (listed hash keys s)
  all_signed =
      each_append (λ (l : Listed). Each (Each LabelFine) l.signers) (initial_listed hash keys s ∷ [])
      (map (λ p. path_listed s (p.0) (p.1)) (path_transactions hash keys s))
      (each_one (λ (l : Listed). Each (Each LabelFine) l.signers) (initial_listed hash keys s)
      (owners_fine (persistent s.advert.pre) (persistent_named s.advert.pre (has_names s.advert well).pre)))
      (each_map (λ (l : Listed). Each (Each LabelFine) l.signers) (λ p. path_listed s (p.0) (p.1)) (path_transactions hash keys s)
      (λ p i. path_fine_signers (p.0)))

  of_inputs : (l : Listed) (k : ℕ) (spends : List Spent) (signers : List (List Label)) → Each (Each LabelFine) signers
      → Each SlotFine (slots_from keys s.advert l k spends signers)
  of_inputs l k [] signers h = each_none SlotFine
  of_inputs l k (spent ∷ spends) [] h = each_none SlotFine
  of_inputs l k (spent ∷ spends) (labels ∷ signers) h =
      each_append SlotFine (input_slots keys s.advert l k spent labels) (slots_from keys s.advert l (k + 1) spends signers)
      (each_map SlotFine (input_slot keys s.advert l k spent) labels
      (λ label i. record { label = h labels (inl refl) label i; wallet = wallet_named l.which k }))
      (of_inputs l (k + 1) spends signers (λ xs i. h xs (inr i)))

  pub slots_fine : Each SlotFine (slots hash keys s)
  slots_fine =
      each_flat SlotFine (listed_slots keys s.advert) (listed hash keys s) (λ l i. of_inputs l 0 l.pending.spends l.signers (all_signed l i))

  pub unverified_fine : (given : List Signed) (which : Which) → Each SlotFine (unverified_for hash keys s given which)
  unverified_fine given which =
      each_filter SlotFine (λ slot. is_needed_for which slot && is_unverified hash keys given slot) (slots hash keys s) slots_fine

-- ---- what may be missing

abbrev pub RequirementFine : Requirement → Type 0
RequirementFine (requirements.Height height) = Unit {0}
RequirementFine (requirements.Signature which input label verb) = LabelFine label
RequirementFine (requirements.Wallet which input deposit owner verb) = IsNamed deposit
RequirementFine (requirements.Deposit name) = IsNamed name
RequirementFine (requirements.Secret name party) = IsNamed name × Ends party
RequirementFine requirements.DepositGone = Unit {0}
RequirementFine requirements.PredicateFalse = Unit {0}

signature_fine : (slot : Slot) → SlotFine slot → RequirementFine (signature_requirement slot)
signature_fine slot h = by_wallet slot.wallet h.wallet
  where
    by_wallet : (o : Option Wallet) → WalletNamed o
        → RequirementFine (elim o [
          | None ↦ requirements.Signature slot.which slot.input slot.label slot.verb
          | Some w ↦ requirements.Wallet slot.which slot.input w.deposit (label_party slot.label) slot.verb
        ])
    by_wallet None f = h.label
    by_wallet (Some w) f = f

module _ (hash : List ℕ → List ℕ) (keys : Keys) (s : Instance) (well : IsWellFormed s.advert) where
  needed_named : (which : Which) → Each IsNamed (deposits_needed s which)
  needed_named names.Init = each_named (names_of (persistent s.advert.pre)) (persistent_names hash keys s well)
  needed_named (names.At path) = by_branch (at s.advert.root path) (puts_named hash keys s well path)
    where
      by_branch : (o : Option term.Guarded) → AllNamed (puts_at o) → Each IsNamed (puts_by o)
      by_branch None h = each_none IsNamed
      by_branch (Some b) h = each_named (puts_of (core b)) h

  revealed_named : (which : Which) → Each IsNamed (revealed_by (which_branch s which))
  revealed_named names.Init = each_none IsNamed
  revealed_named (names.At path) = by_branch (at s.advert.root path) refl
    where
      by_branch : (o : Option term.Guarded) → at s.advert.root path ≡ o → Each IsNamed (revealed_by o)
      by_branch None e = each_none IsNamed
      by_branch (Some b) e = each_named (reveals_of (core b)) (reveals_named b (branch_fine s.advert well path b e).readable)

  secret_fine : (a : List ℕ) → IsNamed a → RequirementFine (secret_requirement s a)
  secret_fine a h = (h, by_party (look_up a (secrets s.advert.pre)) refl)
    where
      by_party : (o : Option (List ℕ)) → look_up a (secrets s.advert.pre) ≡ o → Ends (bytes_or_none o)
      by_party None e = tt
      by_party (Some party) e = name_ends party (owned hash s well (a, party) (looked_in (secrets s.advert.pre) a party e)).1

  height_fine : (tip : ℕ) (which : Which) → Each RequirementFine (height_requirements (transactions hash keys s) tip which)
  height_fine tip which = by_test (nat_lt tip (lock_of (transaction_named (transactions hash keys s) which)))
    where
      by_test : (b : Bool)
          → Each RequirementFine (cond b (requirements.Height (lock_of (transaction_named (transactions hash keys s) which)) ∷ []) [])
      by_test true = each_one RequirementFine (requirements.Height (lock_of (transaction_named (transactions hash keys s) which))) tt
      by_test false = each_none RequirementFine

  gone_fine : (xs : List (List ℕ)) → Each RequirementFine (gone_requirements xs)
  gone_fine [] = each_none RequirementFine
  gone_fine (y ∷ ys) = each_one RequirementFine requirements.DepositGone tt

  predicate_fine : (strings : List Shown) (which : Which) → Each RequirementFine (predicate_requirements s strings which)
  predicate_fine strings which = by_test (is_false strings (secrets_outstanding s strings which) (which_branch s which))
    where
      by_test : (b : Bool) → Each RequirementFine (cond b (requirements.PredicateFalse ∷ []) [])
      by_test true = each_one RequirementFine requirements.PredicateFalse tt
      by_test false = each_none RequirementFine

  signatures_fine : (given : List Signed) (which : Which) → Each RequirementFine (signature_requirements hash keys s given which)
  signatures_fine given which =
      each_map RequirementFine signature_requirement (filter (is_needed_for which) (missing hash keys s given))
      (λ slot i.
      signature_fine slot
      (each_filter SlotFine (is_needed_for which) (missing hash keys s given)
      (each_filter SlotFine (λ x. not (has hash keys given x)) (slots hash keys s) (slots_fine hash keys s well)) slot i))

  deposits_fine : (state : State) (which : Which) → Each RequirementFine (map requirements.Deposit (deposits_outstanding s state which))
  deposits_fine state which =
      each_map RequirementFine requirements.Deposit (deposits_outstanding s state which)
      (each_filter IsNamed (λ x. not (list_any (is_deposit x) state.live)) (deposits_needed s which) (needed_named which))

  secrets_fine : (strings : List Shown) (which : Which) → Each RequirementFine (map (secret_requirement s) (secrets_outstanding s strings which))
  secrets_fine strings which =
      each_map RequirementFine (secret_requirement s) (secrets_outstanding s strings which)
      (λ a i.
      secret_fine a
      (each_filter IsNamed (λ x. not (is_some (string_for strings x))) (revealed_by (which_branch s which)) (revealed_named which) a i))

  pub outstanding_fine : (given : List Signed) (strings : List Shown) (state : State) (tip : ℕ) (which : Which)
      → Each RequirementFine (outstanding hash keys s given strings state tip which)
  outstanding_fine given strings state tip which =
      let heights = height_requirements (transactions hash keys s) tip which in
      let signatures = signature_requirements hash keys s given which in
      let deposits = map requirements.Deposit (deposits_outstanding s state which) in
      let secret = map (secret_requirement s) (secrets_outstanding s strings which) in
      let gone = gone_requirements (deposits_outstanding s state which) in
      let never = predicate_requirements s strings which in
      each_append RequirementFine heights (signatures ++ (deposits ++ (secret ++ (gone ++ never)))) (height_fine tip which)
      (each_append RequirementFine signatures (deposits ++ (secret ++ (gone ++ never))) (signatures_fine given which)
      (each_append RequirementFine deposits (secret ++ (gone ++ never)) (deposits_fine state which)
      (each_append RequirementFine secret (gone ++ never) (secrets_fine strings which)
      (each_append RequirementFine gone never (gone_fine (deposits_outstanding s state which)) (predicate_fine strings which)))))
