-- Inputs that are fine: those that keys of a deal sign open what they spend, and of those that wallets sign something is known.
use Rattle.std.proofs.Common.{◌≡◌, ℕ, ◌+◌, List, [], ◌∷◌, length, map, Bool, true, false, not, Option, Some, None, refl, ap, subst, ◌∙◌, cond, arith}
use Rattle.std.specs.Prelude.{◌&&◌, ◌||◌, is_some, nat_lt, nat_le}
use Rattle.std.specs.List.{list_all, list_any}
use Rattle.std.specs.Option.{option_and_then}
use Rattle.std.specs.Str.{bytes_eq}
use Rattle.std.proofs.lemmas.Bool.{and_from, and_parts, eq-eqb, not-true}
use Rattle.std.proofs.lemmas.Bool.Decides.{nat_tests}
use Rattle.spec_data.specs.Hashes.{IsHash}
use Rattle.spec_data.specs.Lists.{first_reason, or_else}
use Rattle.spec_data.specs.Ranges.{most_item_bytes}
use Rattle.spec_bitcoin.specs.declared.label.Label.{Label}
use Rattle.spec_bitcoin.specs.declared.tx.Tx.{Tx}
use Rattle.spec_bitcoin.specs.declared.tx.TxIn.{TxIn}
use Rattle.spec_bitcoin.specs.Live.{Entry, at_place}
use Rattle.spec_bitcoin.specs.Meaning.{script_meaning}
use Rattle.spec_bitcoin.specs.Spelling.{is_filled}
use Rattle.spec_bitcoin.specs.Verdict.{pays_to_script, program_of, script_of, items_of, is_long}
use Rattle.spec_compiler.specs.declared.unsigned.Spent.{Spent}
use Rattle.spec_compiler.specs.Keyed.Instance.{Instance}
use Rattle.spec_compiler.specs.Keyed.Keys.{Keys}
use Rattle.spec_compiler.specs.Keyed.Statements.{is_short}
use Rattle.spec_compiler.specs.Keyed.Transactions.{input_of, pays}
use Rattle.spec_run.specs.Firing.{witnessed}
use Rattle.spec_tool.specs.Keyed.Listed.{Listed}
use Rattle.spec_deal.specs.declared.signed.Signed.{Signed}
use Rattle.spec_deal.specs.declared.transaction.Wallet.{Wallet}
use Rattle.spec_deal.specs.Transactions.{input, input_with, inputs}
use Rattle.spec_deal.specs.Wallets.{input_wallet, spent_output}
use Rattle.theory_calculus.proofs.Names.{bytes-true, bytes_refl}
use Rattle.theory_world.proofs.Ledger.Acceptable.{none_reason}
use Rattle.theory_deal.specs.Accepted.{judged_row, output_at, Consensus, spent_outputs, InputCheck, wallet_row, row_by, inputs_by}
use Rattle.theory_deal.specs.Finished.{Oracle, AllOpen, InputOpens, InputsOpen}
use Rattle.theory_deal.proofs.Ledger.InputChecks.{LieBy, LiesBy, lies_by}
use Rattle.theory_deal.proofs.Ledger.ShortItems.{KeysShort}
use Rattle.theory_deal.proofs.Ledger.Verdicts.{AllShort, no_long, open_filled}
use Rattle.spec_chain.specs.declared.fault.ChainReason.{ChainReason}
use Rattle.spec_chain.specs.declared.fault.ChainReason.TheVariants as reasons
use Rattle.spec_chain.specs.Refusals.{takes_all, opens, opens_input, witnesses_reason}
use Rattle.theory_chain.specs.GoingOn.{AreFilled}

module _ (hash : List ℕ → List ℕ) (oracle : Oracle) (W : ℕ → List (List ℕ) → Type 0) where
  -- input k, by the wallet that signs it, if one does
  abbrev pub FineAt : Option Wallet → ℕ → Spent → List (List ℕ) → Type 0
  FineAt None k x w =
      (script_of w ≡ x.script) × (script_meaning hash (oracle k) x.script (items_of w) ≡ true) × (list_all is_short (items_of w) ≡ true)
  FineAt (Some v) k x w = W k w

  -- those from number k on
  abbrev pub AllFine : (ℕ → Option Wallet) → ℕ → List Spent → List (List (List ℕ)) → Type 0
  AllFine wallet k [] [] = Unit {0}
  AllFine wallet k [] (w ∷ ws) = ⊥
  AllFine wallet k (x ∷ xs) [] = ⊥
  AllFine wallet k (x ∷ xs) (w ∷ ws) = FineAt (wallet k) k x w × AllFine wallet (k + 1) xs ws

  -- of those of wallets this is known
  abbrev pub WalletsAre : (ℕ → Option Wallet) → ℕ → List (List (List ℕ)) → Type 0
  WalletsAre wallet k [] = Unit {0}
  WalletsAre wallet k (w ∷ ws) = ((v : Wallet) → wallet k ≡ Some v → W k w) × WalletsAre wallet (k + 1) ws

  -- where it is known of each
  pub known_are : (wallet : ℕ → Option Wallet) → ((k : ℕ) (v : Wallet) (w : List (List ℕ)) → wallet k ≡ Some v → W k w) → (k : ℕ)
      (ws : List (List (List ℕ))) → WalletsAre wallet k ws
  known_are wallet f k [] = tt
  known_are wallet f k (w ∷ ws) = (λ v e. f k v w e, known_are wallet f (k + 1) ws)

  -- what is finished is fine
  pub opened_fine : (wallet : ℕ → Option Wallet) (given : List Signed) (bytes : List ℕ) (k : ℕ) (xs : List Spent) (ws : List (List (List ℕ)))
      → InputsOpen hash oracle given bytes wallet k xs ws → KeysShort wallet k ws → WalletsAre wallet k ws → AllFine wallet k xs ws
  opened_fine wallet given bytes k [] [] o s h = tt
  opened_fine wallet given bytes k [] (w ∷ ws) o s h = absurd o
  opened_fine wallet given bytes k (x ∷ xs) [] o s h = absurd o
  opened_fine wallet given bytes k (x ∷ xs) (w ∷ ws) o s h =
      (by_wallet (wallet k) refl o.0, opened_fine wallet given bytes (k + 1) xs ws o.1 s.1 h.1)
    where
      by_wallet : (p : Option Wallet) → wallet k ≡ p → InputOpens hash oracle given bytes k p x w → FineAt p k x w
      by_wallet None e q = (q.0, q.1, s.0 e)
      by_wallet (Some v) e q = h.0 v e

  -- whatever names the wallets
  pub fine_by : (wallet other : ℕ → Option Wallet) → ((k : ℕ) → wallet k ≡ other k) → (k : ℕ) (xs : List Spent) (ws : List (List (List ℕ)))
      → AllFine wallet k xs ws → AllFine other k xs ws
  fine_by wallet other e k [] [] h = tt
  fine_by wallet other e k [] (w ∷ ws) h = absurd h
  fine_by wallet other e k (x ∷ xs) [] h = absurd h
  fine_by wallet other e k (x ∷ xs) (w ∷ ws) h =
      (subst (λ (o : Option Wallet). FineAt o k x w) (e k) h.0, fine_by wallet other e (k + 1) xs ws h.1)

  -- where no wallet signs all open
  pub keys_open : (wallet : ℕ → Option Wallet) → ((k : ℕ) → wallet k ≡ None) → (k : ℕ) (xs : List Spent) (ws : List (List (List ℕ)))
      → AllFine wallet k xs ws → AllOpen hash oracle k xs ws × AllShort ws
  keys_open wallet none k [] [] h = (tt, tt)
  keys_open wallet none k [] (w ∷ ws) h = absurd h
  keys_open wallet none k (x ∷ xs) [] h = absurd h
  keys_open wallet none k (x ∷ xs) (w ∷ ws) h =
      let one : FineAt None k x w = subst (λ (o : Option Wallet). FineAt o k x w) (none k) h.0 in
      let later = keys_open wallet none (k + 1) xs ws h.1 in
      ((one.0, one.1, later.0), (one.2, later.1))

-- what is known of wallets may be replaced by what is known otherwise
pub fine_with : (hash : List ℕ → List ℕ) (oracle : Oracle) (W V : ℕ → List (List ℕ) → Type 0) (wallet : ℕ → Option Wallet)
    → ((k : ℕ) (v : Wallet) (w : List (List ℕ)) → wallet k ≡ Some v → V k w) → (k : ℕ) (xs : List Spent) (ws : List (List (List ℕ)))
    → AllFine hash oracle W wallet k xs ws → AllFine hash oracle V wallet k xs ws
fine_with hash oracle W V wallet f k [] [] h = tt
fine_with hash oracle W V wallet f k [] (w ∷ ws) h = absurd h
fine_with hash oracle W V wallet f k (x ∷ xs) [] h = absurd h
fine_with hash oracle W V wallet f k (x ∷ xs) (w ∷ ws) h =
    (by_wallet (wallet k) refl h.0, fine_with hash oracle W V wallet f (k + 1) xs ws h.1)
  where
    by_wallet : (p : Option Wallet) → wallet k ≡ p → FineAt hash oracle W p k x w → FineAt hash oracle V p k x w
    by_wallet None e q = q
    by_wallet (Some v) e q = f k v w e

-- ---- witnesses with an item

abbrev pub Filled : ℕ → List (List ℕ) → Type 0
Filled k w = is_filled w ≡ true

pub filled_are : (hash : List ℕ → List ℕ) (oracle : Oracle) (wallet : ℕ → Option Wallet) (k : ℕ) (ws : List (List (List ℕ)))
    → AreFilled wallet k ws → WalletsAre hash oracle Filled wallet k ws
filled_are hash oracle wallet k [] h = tt
filled_are hash oracle wallet k (w ∷ ws) h = (h.0, filled_are hash oracle wallet (k + 1) ws h.1)

witness_opens : (hash : List ℕ → List ℕ) (script : List ℕ) (witness : List (List ℕ)) → script_of witness ≡ script
    → script_meaning hash takes_all script (items_of witness) ≡ true → list_all is_short (items_of witness) ≡ true
    → opens hash script witness ≡ true
witness_opens hash script witness e h short =
    and_from (is_filled witness) _ (open_filled hash takes_all script witness e h)
    (and_from (bytes_eq (script_of witness) script) _ (ap (λ (x : List ℕ). bytes_eq x script) e ∙ bytes_refl script)
    (and_from (not (list_any is_long (items_of witness))) _ (ap not (no_long (items_of witness) short)) h))

all_short : (items : List (List ℕ)) → list_any is_long items ≡ false → list_all is_short items ≡ true
all_short [] h = refl
all_short (x ∷ items) h =
    let r = neither (is_long x) (list_any is_long items) h in
    and_from _ _ (short (length x) r.0) (all_short items r.1)
  where
    neither : (a b : Bool) → (a || b) ≡ false → (a ≡ false) × (b ≡ false)
    neither true b k = cc
    neither false b k = (refl, k)

    short : (n : ℕ) → nat_lt most_item_bytes n ≡ false → nat_le n most_item_bytes ≡ true
    short n k = grind (arith, nat_tests)

if_opens : (k : ℕ) (later : Option ChainReason) (b : Bool) → cond b later (Some (reasons.Witness k)) ≡ None → (b ≡ true) × (later ≡ None)
if_opens k later true e = (refl, e)
if_opens k later false e = cc

none_some : {X : Type 0} {a : X} {those : List X} → [] ≡ a ∷ those → ⊥
none_some e = cc

module _ (hash : List ℕ → List ℕ) (keys : Keys) (s : Instance) (l : Listed) where
  abbrev wallet : ℕ → Option Wallet
  wallet k = input_wallet keys s.advert l.which k

  abbrev pub AllShown : ℕ → List Spent → List (List (List ℕ)) → Type 0
  AllShown k xs ws = AllFine hash (λ j. takes_all) Filled wallet k xs ws

  fine_opens : (k : ℕ) (x : Spent) (labels : List Label) (w : List (List ℕ)) (o : Option Wallet)
      → FineAt hash (λ j. takes_all) Filled o k x w → opens_input hash (input_with hash keys s.advert l o x labels) w ≡ true
  fine_opens k x labels w None h = witness_opens hash x.script w h.0 h.1 h.2
  fine_opens k x labels w (Some v) h = h

  opens_fine : (k : ℕ) (x : Spent) (labels : List Label) (w : List (List ℕ)) (o : Option Wallet)
      → opens_input hash (input_with hash keys s.advert l o x labels) w ≡ true → FineAt hash (λ j. takes_all) Filled o k x w
  opens_fine k x labels w None e =
      let a = and_parts (is_filled w) _ e in
      let b = and_parts (bytes_eq (script_of w) x.script) _ a.1 in
      let c = and_parts (not (list_any is_long (items_of w))) _ b.1 in
      (bytes-true (script_of w) x.script b.0, c.1, all_short (items_of w) (not-true _ c.0))
  opens_fine k x labels w (Some v) e = e

  -- no witness of such inputs is a reason
  pub fine_shown : (k : ℕ) (xs : List Spent) (signers : List (List Label)) (ws : List (List (List ℕ))) → AllShown k xs ws
      → witnesses_reason hash k (inputs hash keys s.advert l k xs signers) (witnessed (map input_of xs) ws) ≡ None
  fine_shown k [] signers ws h = refl
  fine_shown k (x ∷ xs) signers [] h = absurd h
  fine_shown k (x ∷ xs) [] (w ∷ ws) h =
      ap (λ (b : Bool). cond b (witnesses_reason hash (k + 1) (inputs hash keys s.advert l (k + 1) xs []) (witnessed (map input_of xs) ws))
      (Some (reasons.Witness k)))
      (fine_opens k x [] w (wallet k) h.0)
      ∙ fine_shown (k + 1) xs [] ws h.1
  fine_shown k (x ∷ xs) (labels ∷ signers) (w ∷ ws) h =
      ap (λ (b : Bool). cond b (witnesses_reason hash (k + 1) (inputs hash keys s.advert l (k + 1) xs signers) (witnessed (map input_of xs) ws))
      (Some (reasons.Witness k)))
      (fine_opens k x labels w (wallet k) h.0)
      ∙ fine_shown (k + 1) xs signers ws h.1

  -- and where none is the inputs are such
  pub shown_fine : (k : ℕ) (xs : List Spent) (signers : List (List Label)) (is : List TxIn) → length is ≡ length xs
      → witnesses_reason hash k (inputs hash keys s.advert l k xs signers) is ≡ None → AllShown k xs (map (λ (i : TxIn). i.witness) is)
  shown_fine k [] signers [] n f = tt
  shown_fine k [] signers (i ∷ is) n f = absurd (omega (arith, n))
  shown_fine k (x ∷ xs) signers [] n f = absurd (omega (arith, n))
  shown_fine k (x ∷ xs) [] (i ∷ is) n f =
      let r = if_opens k (witnesses_reason hash (k + 1) (inputs hash keys s.advert l (k + 1) xs []) is)
      (opens_input hash (input hash keys s.advert l k x []) i.witness) f in
      (opens_fine k x [] i.witness (wallet k) r.0, shown_fine (k + 1) xs [] is (omega (arith, n)) r.1)
  shown_fine k (x ∷ xs) (labels ∷ signers) (i ∷ is) n f =
      let r = if_opens k (witnesses_reason hash (k + 1) (inputs hash keys s.advert l (k + 1) xs signers) is)
      (opens_input hash (input hash keys s.advert l k x labels) i.witness) f in
      (opens_fine k x labels i.witness (wallet k) r.0, shown_fine (k + 1) xs signers is (omega (arith, n)) r.1)

-- ---- checks of inputs

module _ (hash : List ℕ → List ℕ) (size : IsHash hash) (oracle : Oracle) (takes : Consensus) (wallet : ℕ → Option Wallet) (live : List Entry)
    (tx : Tx) where
  abbrev input_check : InputCheck
  input_check = record { oracle = oracle; takes = takes; of_wallet = λ k. is_some (wallet k) }

  -- consensus takes the witness of input k
  abbrev pub Taken : ℕ → List (List ℕ) → Type 0
  Taken k w = takes tx (spent_outputs live tx) k ≡ true

  key_fine : (k : ℕ) (x : Spent) (witness : List (List ℕ)) → LiesBy hash live None x → FineAt hash oracle Taken None k x witness
      → option_and_then (λ p. first_reason (row_by hash input_check live tx false k (record (input_of x) { witness = witness }) p.1))
      (at_place live x.outpoint)
      ≡ None
  key_fine k x witness l h =
      let i = record (input_of x) { witness = witness } in
      let output = pays hash x.script x.value in
      let program : pays_to_script output.script ≡ true = eq-eqb (length (hash x.script)) 32 (size x.script) in
      let filled = open_filled hash (oracle k) x.script witness h.0 h.1 in
      let both : (pays_to_script output.script && is_filled witness) ≡ true = and_from _ _ program filled in
      let match : bytes_eq (hash (script_of witness)) (program_of output.script) ≡ true =
      ap (λ (s : List ℕ). bytes_eq (hash s) (hash x.script)) h.0 ∙ bytes_refl (hash x.script) in
      let true_one : script_meaning hash (oracle k) (script_of witness) (items_of witness) ≡ true =
      ap (λ (s : List ℕ). script_meaning hash (oracle k) s (items_of witness)) h.0 ∙ h.1 in
      ap (option_and_then (λ p. first_reason (row_by hash input_check live tx false k i p.1))) l.entry
      ∙ none_reason (judged_row hash oracle k i output)
      (refl, (ap not both, (ap not match, (no_long (items_of witness) h.2, (ap not true_one, tt)))))

  wallet_fine : (k : ℕ) (x : Spent) (witness : List (List ℕ)) (w : Wallet) → LiesBy hash live (Some w) x → Taken k witness
      → option_and_then (λ p. first_reason (row_by hash input_check live tx true k (record (input_of x) { witness = witness }) p.1))
      (at_place live x.outpoint)
      ≡ None
  wallet_fine k x witness w l taken =
      let i = record (input_of x) { witness = witness } in
      ap (option_and_then (λ p. first_reason (row_by hash input_check live tx true k i p.1))) l.entry
      ∙ none_reason (wallet_row (takes tx (spent_outputs live tx) k) k i) (refl, (ap not taken, tt))

  one_fine : (k : ℕ) (x : Spent) (witness : List (List ℕ)) (o : Option Wallet) → output_at live x.outpoint ≡ Some (spent_output hash o x)
      → FineAt hash oracle Taken o k x witness
      → option_and_then (λ p. first_reason (row_by hash input_check live tx (is_some o) k (record (input_of x) { witness = witness }) p.1))
      (at_place live x.outpoint)
      ≡ None
  one_fine k x witness None lie h = key_fine k x witness (lies_by hash live None x lie) h
  one_fine k x witness (Some w) lie h = wallet_fine k x witness w (lies_by hash live (Some w) x lie) h

  -- they refuse no input that is fine
  pub fine_judged : (k : ℕ) (xs : List Spent) (ws : List (List (List ℕ))) → LieBy hash live wallet k xs → AllFine hash oracle Taken wallet k xs ws
      → inputs_by hash input_check live tx k (witnessed (map input_of xs) ws) ≡ None
  fine_judged k [] [] h f = refl
  fine_judged k [] (w ∷ ws) h f = absurd f
  fine_judged k (x ∷ xs) [] h f = absurd f
  fine_judged k (x ∷ xs) (w ∷ ws) h f =
      (λ j. or_else (one_fine k x w (wallet k) h.0 f.0 j) (inputs_by hash input_check live tx (k + 1) (witnessed (map input_of xs) ws)))
      ∙ fine_judged (k + 1) xs ws h.1 f.1
