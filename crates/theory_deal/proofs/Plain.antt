-- A plain file gives a plain deal, whose texts show no payees, no addresses and no wallets.
use Rattle.std.proofs.Common.{◌≡◌, ℕ, ◌+◌, List, [], ◌∷◌, ◌++◌, map, Bool, true, false, not, Option, Some, None, refl, sym, ap, ◌∙◌, subst, cond, inl, inr}
use Rattle.std.specs.Prelude.{Result, Ok, Err, filter, ◌&&◌, ◌||◌, ◌⊎◌, codes, is_some, length, ◌==◌, if◌then◌else◌}
use Rattle.std.specs.Fmt.{decimal}
use Rattle.std.specs.List.{flat_map, find, list_all}
use Rattle.std.specs.Option.{option_map}
use Rattle.std.proofs.lemmas.Bool.{and_parts, and_from, both_ways}
use Rattle.spec_terms.specs.Advert.{Advert}
use Rattle.spec_terms.specs.Parties.{participants}
use Rattle.spec_terms.specs.Precondition.{Holding, deposits}
use Rattle.spec_bitcoin.specs.declared.label.Label.{Label}
use Rattle.spec_compiler.specs.Keyed.OwnScripts.{OwnScripts}
use Rattle.spec_compiler.specs.Keyed.Keys.{Keys, given, own_script}
use Rattle.spec_compiler.specs.Keyed.Instance.{Instance}
use Rattle.spec_compiler.specs.declared.unsigned.Spent.{Spent}
use Rattle.spec_compiler.specs.Keyed.Statements.{AreKeyDeposits}
use Rattle.spec_compiler.specs.Keyed.Transactions.{deposit, tx_of}
use Rattle.spec_compiler.specs.Keyed.Compilation.{scripts}
use Rattle.spec_text.specs.PlanText.{script_line}
use Rattle.spec_text.specs.RunText.{newline}
use Rattle.spec_text.specs.Lines.{lines_of, words_of}
use Rattle.spec_tool.specs.declared.psbt.PsbtInput.{PsbtInput}
use Rattle.spec_tool.specs.Keyed.Listed.{Listed, listed, which_text}
use Rattle.spec_tool.specs.Psbt.{Psbt}
use Rattle.spec_tool.specs.PsbtText.{psbt_line}
use Rattle.spec_deal.specs.declared.deal.Deal.{Deal}
use Rattle.spec_deal.specs.declared.deal.Needed.{Needed}
use Rattle.spec_deal.specs.declared.deal.Needed.TheVariants as needs
use Rattle.spec_deal.specs.declared.entry.Value.{Value}
use Rattle.spec_deal.specs.declared.entry.Value.TheVariants.{Key as key, Place as place, Wallet as wallet, Hash as hashed}
use Rattle.spec_deal.specs.declared.entry.Value.TheVariants.{Network as hrp, Script as written}
use Rattle.spec_deal.specs.declared.fault.DealFault.{DealFault}
use Rattle.spec_deal.specs.DealFile.{file_network, read_lines, value_for, network_given, script_given, wallet_given, with_script, deal_of}
use Rattle.spec_deal.specs.Needed.{needed_deposits, same_needed}
use Rattle.spec_deal.specs.Verifier.{Verifier}
use Rattle.spec_deal.specs.declared.entry.Entry.{Entry}
use Rattle.spec_deal.specs.declared.signed.Signed.{Signed}
use Rattle.spec_deal.specs.declared.transaction.Wallet.{Wallet}
use Rattle.spec_deal.specs.DealText.{line_of, PlanLine, of_runs, of_deals, spent_words, deposit_line, is_plain, payee_line, payee_lines}
use Rattle.spec_deal.specs.DealText.{verb_text, sign_line, tx_line, proof_words, missing_text, held_text}
use Rattle.spec_deal.specs.DealText.{slot_words, digest_lines, input_lines, listed_lines, lines_text, unsigned_input, unsigned_inputs}
use Rattle.spec_deal.specs.DealText.{unsigned_psbt, missing_line, gate_line, key_held_line, witness_line, held_line}
use Rattle.spec_deal.specs.Finished.{items_or_none}
use Rattle.spec_deal.specs.Given.{has, is_unverified_endorsement, has_unverified, witness_for, held, missing, unsettled, first_unendorsed}
use Rattle.spec_deal.specs.Setting.{deal_keys, deal_instance}
use Rattle.spec_deal.specs.Slots.{Slot, input_slot, input_slots, slots}
use Rattle.spec_deal.specs.Used.{paid_parties}
use Rattle.spec_deal.specs.Wallets.{wallet_of, input_wallet, signer_text}
use Rattle.theory_calculus.specs.Members.{Is_in}
use Rattle.theory_calculus.proofs.Members.{contains_from_in, in_filter, all_append, all_in, found}
use Rattle.theory_deal.proofs.Listed.{not_owed, none_any}
use Rattle.theory_deal.proofs.OfKeys.{no_wallet, deal_of_keys}
use Rattle.theory_deal.proofs.Scripts.{scripts_ask}
use Rattle.theory_deal.proofs.DealFiles.{entries_come}
use Rattle.theory_deal.proofs.ReadDeals.{is_of}
use Rattle.theory_deal.specs.Plain.{plain_deposit, plain_words, plain_sign, plain_inputs, plain_listed, plain_plan, plain_input, plain_psbt}
use Rattle.theory_deal.specs.Plain.{plain_missing, plain_gate, plain_held, PrintsPlain, IsPlainLine, IsPlainDeal, PlainDeals}
use Rattle.theory_deal.specs.DealLines.{GivesEntry, entry_in, EntriesCome}
use Rattle.theory_deal.specs.FirstOf.{EachIs}

-- ---- lists

same_map : {X Y : Type 0} (f g : X → Y) (xs : List X) → ((x : X) → Is_in x xs → f x ≡ g x) → map f xs ≡ map g xs
same_map f g [] h = refl
same_map f g (x ∷ xs) h =
    let first = h x (inl refl) in
    let later = same_map f g xs (λ y i. h y (inr i)) in
    λ i. first i ∷ later i

same_flat : {X : Type 0} (f g : X → List ℕ) (xs : List X) → ((x : X) → Is_in x xs → f x ≡ g x) → flat_map f xs ≡ flat_map g xs
same_flat f g [] h = refl
same_flat f g (x ∷ xs) h =
    let first = h x (inl refl) in
    let later = same_flat f g xs (λ y i. h y (inr i)) in
    λ i. first i ++ later i

same_lists : {X Y : Type 0} (f g : X → List Y) (xs : List X) → ((x : X) → f x ≡ g x) → flat_map f xs ≡ flat_map g xs
same_lists f g [] h = refl
same_lists f g (x ∷ xs) h =
    let first = h x in
    let later = same_lists f g xs h in
    λ i. first i ++ later i

same_filter : {X : Type 0} (p q : X → Bool) (xs : List X) → ((x : X) → Is_in x xs → p x ≡ q x) → filter p xs ≡ filter q xs
same_filter p q [] f = refl
same_filter p q (x ∷ xs) f =
    let first = f x (inl refl) in
    let later = same_filter p q xs (λ y i. f y (inr i)) in
    λ i. cond (first i) (x ∷ later i) (later i)

module _ (hash : List ℕ → List ℕ) (keys : Keys) (s : Instance) (of_keys : AreKeyDeposits keys) where
  -- ---- plans

  no_deposit_wallet : (name : List ℕ) → wallet_of keys name ≡ None
  no_deposit_wallet name = ap (option_map {U = Wallet} (λ script. record { deposit = name; script = script })) (of_keys name)

  deposit_plain : (d : List ℕ × Holding) → deposit_line hash None keys s d ≡ plain_deposit hash keys s d
  deposit_plain d =
      ap (λ (o : Option Wallet). of_deals (line_of (spent_words hash None o (d.0) (deposit hash keys s (d.0) (d.1))))) (no_deposit_wallet (d.0))

  words_plain : (slot : Slot) → slot.wallet ≡ None → slot_words slot ≡ plain_words slot
  words_plain slot none =
      ap (λ (o : Option Wallet). which_text slot.which ∷ decimal slot.input ∷ signer_text o slot.label ∷ verb_text slot.verb ∷ []) none

  slots_plain : (l : Listed) (k : ℕ) (spent : Spent) (labels : List Label)
      → map sign_line (input_slots keys s.advert l k spent labels) ≡ map plain_sign (input_slots keys s.advert l k spent labels)
  slots_plain l k spent [] = refl
  slots_plain l k spent (label ∷ labels) =
      let first = words_plain (input_slot keys s.advert l k spent label) (no_wallet keys of_keys s.advert l.which k) in
      let later = slots_plain l k spent labels in
      λ i. of_deals (line_of (codes "sign" ∷ first i)) ∷ later i

  inputs_plain : (l : Listed) (k : ℕ) (spends : List Spent) (signers : List (List Label))
      → input_lines hash keys s.advert l k spends signers ≡ plain_inputs hash keys s.advert l k spends signers
  inputs_plain l k [] signers = refl
  inputs_plain l k (spent ∷ spends) [] = refl
  inputs_plain l k (spent ∷ spends) (labels ∷ signers) =
      let digests = ap (λ (o : Option Wallet). digest_lines hash l k o spent) (no_wallet keys of_keys s.advert l.which k) in
      let signs = slots_plain l k spent labels in
      let later = inputs_plain l (k + 1) spends signers in
      λ i. (digests i ++ signs i) ++ later i

  listed_plain : (l : Listed) → listed_lines hash keys s.advert l ≡ plain_listed hash keys s.advert l
  listed_plain l = ap (λ (x : List PlanLine). tx_line hash l ∷ x) (inputs_plain l 0 l.pending.spends l.signers)

  -- ---- transactions for signers

  psbt_inputs : (l : Listed) (k : ℕ) (spends : List Spent) → unsigned_inputs hash keys s.advert l k spends ≡ map (plain_input hash) spends
  psbt_inputs l k [] = refl
  psbt_inputs l k (spent ∷ spends) =
      let first = ap (λ (o : Option Wallet). unsigned_input hash o spent) (no_wallet keys of_keys s.advert l.which k) in
      let later = psbt_inputs l (k + 1) spends in
      λ i. first i ∷ later i

  psbt_plain : (l : Listed) → unsigned_psbt hash keys s.advert l ≡ plain_psbt hash l
  psbt_plain l = λ i. record { tx = tx_of l.pending; inputs = psbt_inputs l 0 l.pending.spends i }

  -- ---- signatures

  by_key : (slot : Slot) → Is_in slot (slots hash keys s) → slot.wallet ≡ None
  by_key slot i = (scripts_ask hash keys s).by_keys of_keys slot (contains_from_in (slots hash keys s) slot i)

  module _ (given : List Signed) where
    none_owed : (slot : Slot) → Is_in slot (slots hash keys s) → is_unverified_endorsement hash keys given slot ≡ false
    none_owed slot i = not_owed hash keys given slot (by_key slot i)

    or_false : (b : Bool) → (b || false) ≡ b
    or_false true = refl
    or_false false = refl

    unsettled_plain : unsettled hash keys s given ≡ missing hash keys s given
    unsettled_plain =
        same_filter (λ slot. not (has hash keys given slot) || is_unverified_endorsement hash keys given slot)
        (λ slot. not (has hash keys given slot)) (slots hash keys s)
        (λ slot i. ap (λ (b : Bool). not (has hash keys given slot) || b) (none_owed slot i) ∙ or_false (not (has hash keys given slot)))

    missing_one : (slot : Slot) → Is_in slot (missing hash keys s given) → missing_line hash keys given slot ≡ plain_missing slot
    missing_one slot i =
        let r = in_filter (λ x. not (has hash keys given x)) (slots hash keys s) slot i in
        let words = words_plain slot (by_key slot r.0) in
        by_test (has hash keys given slot) r.1 words
      where
        by_test : (b : Bool) → not b ≡ true → slot_words slot ≡ plain_words slot
            → line_of ((if b then codes "unverified" else codes "missing") ∷ slot_words slot) ≡ plain_missing slot
        by_test false e w = ap (λ (ws : List (List ℕ)). line_of (codes "missing" ∷ ws)) w
        by_test true e w = cc

    gate_plain : (o : Option Slot) → gate_line false o ≡ plain_gate o
    gate_plain None = refl
    gate_plain (Some slot) = refl

    missing_plain : missing_text hash keys s given
        ≡ flat_map plain_missing (missing hash keys s given) ++ plain_gate (first_unendorsed hash keys s given)
    missing_plain =
        let lines : flat_map (missing_line hash keys given) (unsettled hash keys s given) ≡ flat_map plain_missing (missing hash keys s given) =
        ap (flat_map (missing_line hash keys given)) unsettled_plain
        ∙ same_flat (missing_line hash keys given) plain_missing (missing hash keys s given) missing_one in
        let gate : gate_line (has_unverified hash keys s given) (first_unendorsed hash keys s given)
        ≡ plain_gate (first_unendorsed hash keys s given) =
        ap (λ (b : Bool). gate_line b (first_unendorsed hash keys s given))
        (none_any (is_unverified_endorsement hash keys given) (slots hash keys s) none_owed)
        ∙ gate_plain (first_unendorsed hash keys s given) in
        λ i. lines i ++ gate i

    held_one : (slot : Slot) → Is_in slot (held hash keys s given) → held_line hash keys given slot ≡ plain_held hash keys given slot
    held_one slot i =
        let r = in_filter (has hash keys given) (slots hash keys s) slot i in
        let none = by_key slot r.0 in
        by_wallet slot.wallet none (words_plain slot none)
      where
        by_wallet : (o : Option Wallet) → o ≡ None → slot_words slot ≡ plain_words slot
            → (elim o [
              | None ↦ key_held_line hash keys given slot
              | Some w ↦ witness_line hash slot w (items_or_none (witness_for hash keys given slot))
            ]) ≡ plain_held hash keys given slot
        by_wallet None e w = ap (λ (ws : List (List ℕ)). line_of (codes "held" ∷ (ws ++ proof_words hash keys given slot))) w
        by_wallet (Some x) e w = cc

    held_plain : held_text hash keys s given ≡ flat_map (plain_held hash keys given) (held hash keys s given)
    held_plain = same_flat (held_line hash keys given) (plain_held hash keys given) (held hash keys s given) held_one

-- ---- all of it

-- where no payee has a script of a wallet's, either
prints_plain : (hash : List ℕ → List ℕ) (keys : Keys) (s : Instance) → AreKeyDeposits keys → is_plain None keys ≡ true
    → PrintsPlain hash None keys s
prints_plain hash keys s of_keys plain = record {
  plan =
      let ds = same_map (deposit_line hash None keys s) (plain_deposit hash keys s) (deposits s.advert.pre)
      (λ d i. deposit_plain hash keys s of_keys d) in
      let ps : payee_lines hash None keys s ≡ [] =
      ap (λ (b : Bool). cond b [] (map (payee_line hash None keys) (paid_parties s.advert))) plain in
      let ls = same_lists (listed_lines hash keys s.advert) (plain_listed hash keys s.advert) (listed hash keys s)
      (listed_plain hash keys s of_keys) in
      λ i.
      lines_text
      (of_runs (codes "contract 0 compiled" ++ newline)
      ∷ (map (λ p. of_runs (script_line p)) (scripts hash keys s) ++ (ds i ++ (ps i ++ ls i))));
  psbts =
      same_flat (λ l. psbt_line (unsigned_psbt hash keys s.advert l)) (λ l. psbt_line (plain_psbt hash l)) (listed hash keys s)
      (λ l i. ap psbt_line (psbt_plain hash keys s of_keys l));
  missing = missing_plain hash keys s of_keys;
  held = held_plain hash keys s of_keys;
}

-- ---- files

-- an entry of a plain file
abbrev plain_needed : Needed → Bool
plain_needed needs.Network = false
plain_needed (needs.Payee party) = false
plain_needed _ = true

abbrev plain_value : Value → Bool
plain_value (wallet outpoint own) = false
plain_value _ = true

abbrev is_plain_entry : Entry → Bool
is_plain_entry e = plain_needed e.needed && plain_value e.value

abbrev AllPlain : List Entry → Type 0
AllPlain entries = list_all is_plain_entry entries ≡ true

abbrev IfPlain : Result (List Entry) DealFault → Type 0
IfPlain (Ok entries) = AllPlain entries
IfPlain (Err fault) = Unit {0}

module _ (v : Verifier) (network : Option (List ℕ)) (advert : Advert) where
  -- a plain line gives a plain entry
  entry_plain : (entries : List Entry) (n : ℕ) (line : List ℕ) (what : Needed) (value : Value) → IsPlainLine line
      → GivesEntry v network advert entries (words_of line) what value → is_plain_entry (entry_in n what value) ≡ true
  entry_plain entries n line what value plain (inl h) =
      and_from (plain_needed what) (plain_value value) (ap plain_needed h.3.0.2) (ap plain_value h.3.1.4)
  entry_plain entries n line what value plain (inr (inl h)) =
      and_from (plain_needed what) (plain_value value) (ap plain_needed h.4.0.1) (ap plain_value h.4.1.2)
  entry_plain entries n line what value plain (inr (inr (inl h))) = absurd (plain.no_wallet h.0 h.1 h.2 h.3 h.4)
  entry_plain entries n line what value plain (inr (inr (inr (inl h)))) =
      and_from (plain_needed what) (plain_value value) (ap plain_needed h.3.0.1) (ap plain_value h.3.1.2)
  entry_plain entries n line what value plain (inr (inr (inr (inr (inl h))))) = absurd (plain.no_network h.0 h.1)
  entry_plain entries n line what value plain (inr (inr (inr (inr (inr h))))) = absurd (plain.no_payee h.0 h.1 h.2)

  plain_come : (entries : List Entry) (n : ℕ) (lines : List (List ℕ)) (read : Result (List Entry) DealFault) → EachIs IsPlainLine lines
      → AllPlain entries → EntriesCome v network advert entries n lines read → IfPlain read
  plain_come entries n [] read plain all come = subst IfPlain (sym come) all
  plain_come entries n (line ∷ lines) read plain all (inl h) = plain_come entries (n + 1) lines read plain.1 all h.1
  plain_come entries n (line ∷ lines) read plain all (inr (inl h)) =
      plain_come (entries ++ entry_in n h.0 h.1 ∷ []) (n + 1) lines read plain.1
      (all_append is_plain_entry entries (entry_in n h.0 h.1 ∷ []) all
      (ap (λ (b : Bool). b && true) (entry_plain entries n line h.0 h.1 plain.0 h.2)))
      h.3
  plain_come entries n (line ∷ lines) read plain all (inr (inr h)) = subst IfPlain (sym h.2) tt

module _ (entries : List Entry) (all : AllPlain entries) where
  -- no entry is to a network or a payee
  none_of : (what : Needed) → ((needed : Needed) → same_needed needed what ≡ true → plain_needed needed ≡ false)
      → value_for entries what ≡ None
  none_of what never = by_found (find (λ (e : Entry). same_needed e.needed what) entries) refl
    where
      by_found : (o : Option Entry) → find (λ (e : Entry). same_needed e.needed what) entries ≡ o
          → option_map (λ (e : Entry). e.value) o ≡ None
      by_found None e = refl
      by_found (Some x) e =
          let r = found (λ (y : Entry). same_needed y.needed what) entries x e in
          let p = and_parts (plain_needed x.needed) (plain_value x.value) (all_in is_plain_entry entries x all r.0) in
          absurd (both_ways (plain_needed x.needed) (never x.needed r.1) p.0)

  network_never : (needed : Needed) → same_needed needed needs.Network ≡ true → plain_needed needed ≡ false
  network_never needs.Network h = refl
  network_never (needs.Key label) h = cc
  network_never (needs.Deposit name) h = cc
  network_never (needs.Hash name) h = cc
  network_never (needs.Payee party) h = cc

  payee_never : (party : List ℕ) (needed : Needed) → same_needed needed (needs.Payee party) ≡ true → plain_needed needed ≡ false
  payee_never party (needs.Payee other) h = refl
  payee_never party (needs.Key label) h = cc
  payee_never party (needs.Deposit name) h = cc
  payee_never party (needs.Hash name) h = cc
  payee_never party needs.Network h = cc

  -- and no value has a wallet's script
  no_script : (what : Needed) → wallet_given (value_for entries what) ≡ None
  no_script what = by_found (find (λ (e : Entry). same_needed e.needed what) entries) refl
    where
      plain_given : (value : Value) → plain_value value ≡ true → wallet_given (Some value) ≡ None
      plain_given (wallet outpoint own) h = cc
      plain_given (key bytes) h = refl
      plain_given (place outpoint) h = refl
      plain_given (hashed bytes) h = refl
      plain_given (hrp part) h = refl
      plain_given (written bytes) h = refl

      by_found : (o : Option Entry) → find (λ (e : Entry). same_needed e.needed what) entries ≡ o
          → wallet_given (option_map (λ (e : Entry). e.value) o) ≡ None
      by_found None e = refl
      by_found (Some x) e =
          let r = found (λ (y : Entry). same_needed y.needed what) entries x e in
          plain_given x.value (and_parts (plain_needed x.needed) (plain_value x.value) (all_in is_plain_entry entries x all r.0)).1

  no_wallets : (ns : List (List ℕ)) → flat_map (λ name. with_script name (wallet_given (value_for entries (needs.Deposit name)))) ns ≡ []
  no_wallets [] = refl
  no_wallets (n ∷ ns) =
      let first = no_script (needs.Deposit n) in
      let later = no_wallets ns in
      λ i. with_script n (first i) ++ later i

  no_payees : (ns : List (List ℕ)) → flat_map (λ party. with_script party (script_given (value_for entries (needs.Payee party)))) ns ≡ []
  no_payees [] = refl
  no_payees (n ∷ ns) =
      let first = none_of (needs.Payee n) (payee_never n) in
      let later = no_payees ns in
      λ i. with_script n (script_given (first i)) ++ later i

  deal_plain : (advert : Advert) → IsPlainDeal (deal_of advert entries)
  deal_plain advert = record {
    network = ap network_given (none_of needs.Network network_never);
    wallets = no_wallets (needed_deposits advert);
    payees = no_payees (participants advert);
  }

pub plain_deals : PlainDeals
plain_deals v hash_of advert text deal plain e =
    let d = is_of v advert text deal e in
    let network = file_network (lines_of text) in
    let all : AllPlain d.entries =
    subst IfPlain d.read
    (plain_come v network advert [] 1 (lines_of text) (read_lines v advert (lines_of text)) plain refl
    (entries_come v network advert [] 1 (lines_of text))) in
    let is : IsPlainDeal deal = subst IsPlainDeal d.same (deal_plain d.entries all advert) in
    let of_keys = deal_of_keys deal is.wallets in
    let none : is_plain None (deal_keys deal) ≡ true =
    (λ i. not (not (length (is.wallets i) == 0 && length (is.payees i) == 0))) in
    record {
      deal_is = is;
      of_keys = of_keys;
      prints =
          subst (λ (n : Option (List ℕ)). PrintsPlain hash_of n (deal_keys deal) (deal_instance advert deal)) (sym is.network)
          (prints_plain hash_of (deal_keys deal) (deal_instance advert deal) of_keys none);
    }
