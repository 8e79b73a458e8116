-- A chain whose transactions ledgers take is followed to its tip.
use Rattle.std.proofs.Common.{◌≡◌, ℕ, zero, suc, ◌+◌, ◌<◌, List, [], ◌∷◌, ◌++◌, length, map, Bool, true, false, Option, Some, None}
use Rattle.std.proofs.Common.{refl, sym, ap, subst, ◌∙◌, inl, inr, cond, arith}
use Rattle.std.specs.Prelude.{◌⊎◌, not, ◌&&◌, ◌||◌, ◌==◌, nat_lt, is_some, slice_get}
use Rattle.std.specs.List.{list_any, list_all, position_from, flat_map}
use Rattle.std.specs.Option.{option_map, option_and_then}
use Rattle.std.specs.Str.{bytes_eq}
use Rattle.std.proofs.lemmas.Bool.{and_parts, both_ways}
use Rattle.std.proofs.lemmas.Bool.Decides.{nat_tests}
use Rattle.spec_data.specs.Lists.{is_among, first_reason, NoneTrue, or_else}
use Rattle.spec_data.specs.Messages.{noted_all, collision}
use Rattle.spec_data.specs.Ranges.{last_height}
use Rattle.spec_bitcoin.specs.declared.tx.OutPoint.{OutPoint}
use Rattle.spec_bitcoin.specs.declared.tx.TxIn.{TxIn}
use Rattle.spec_bitcoin.specs.declared.tx.TxOut.{TxOut}
use Rattle.spec_bitcoin.specs.declared.tx.Tx.{Tx}
use Rattle.spec_bitcoin.specs.declared.verdict.Refusal.{Refusal}
use Rattle.spec_bitcoin.specs.Digests.{txid_strings}
use Rattle.spec_bitcoin.specs.Live.{Entry, same_outpoint, at_place}
use Rattle.spec_bitcoin.specs.Meaning.{script_meaning}
use Rattle.spec_bitcoin.specs.Spelling.{stripped, is_filled, IsTransaction}
use Rattle.spec_bitcoin.specs.Verdict.{verdict_for, has_repeat, heeds_lock, whole_row, script_of, items_of, is_long}
use Rattle.spec_compiler.specs.declared.unsigned.Spent.{Spent}
use Rattle.spec_compiler.specs.declared.unsigned.Unsigned.{Unsigned}
use Rattle.spec_compiler.specs.Keyed.Instance.{Instance}
use Rattle.spec_compiler.specs.Keyed.Keys.{Keys}
use Rattle.spec_compiler.specs.Keyed.Statements.{is_short}
use Rattle.spec_compiler.specs.Keyed.Transactions.{tx_of, input_of, pays}
use Rattle.spec_run.specs.Firing.{witnessed}
use Rattle.spec_text.specs.Lines.{lines_of}
use Rattle.spec_tool.specs.declared.which.Which.{Which}
use Rattle.spec_tool.specs.Keyed.Listed.{Listed, listed}
use Rattle.spec_deal.specs.declared.transaction.Transaction.{Transaction}
use Rattle.spec_deal.specs.declared.transaction.Wallet.{Wallet}
use Rattle.spec_deal.specs.Hashed.{deal_strings}
use Rattle.spec_deal.specs.Setting.{deal_keys, deal_instance}
use Rattle.spec_deal.specs.SignatureFile.{has_bytes}
use Rattle.spec_deal.specs.Transactions.{inputs, transactions}
use Rattle.spec_deal.specs.Wallets.{input_wallet, spent_output}
use Rattle.spec_chain.specs.declared.fault.ChainReason.{ChainReason}
use Rattle.spec_chain.specs.declared.fault.ChainReason.TheVariants as reasons
use Rattle.spec_chain.specs.declared.output.Output.{Output}
use Rattle.spec_chain.specs.declared.reading.Confirmed.{Confirmed}
use Rattle.spec_chain.specs.Chain.{Course, transaction_strings, gone_on, opening_course}
use Rattle.spec_chain.specs.ChainFile.{read_chain}
use Rattle.spec_chain.specs.Following.{State, own_transaction, which_shown, items_in}
use Rattle.spec_chain.specs.Outputs.{is_there, has_place, without, deposit_outputs, deal_outputs, position_outputs}
use Rattle.spec_chain.specs.Refusals.{refusal, inputs_reason, lock_reason, takes_all, witnesses_reason, branch_reason, own_reason}
use Rattle.theory_bitcoin.specs.Apart.{bare, bare_input}
use Rattle.theory_bitcoin.proofs.Apart.{stripped_once}
use Rattle.theory_calculus.specs.Members.{Is_in}
use Rattle.theory_calculus.proofs.Members.{found}
use Rattle.theory_calculus.proofs.Names.{bytes-true, bytes_refl}
use Rattle.theory_script.proofs.Keyed.Stands.{some_same}
use Rattle.theory_world.specs.KeptApart.{NoCollision}
use Rattle.theory_world.proofs.Hashed.{among_left, among_right}
use Rattle.theory_world.proofs.Same.{place-true, place_refl}
use Rattle.theory_run.proofs.Fewer.{Within, collision_within, again_calm}
use Rattle.theory_deal.specs.Finished.{Oracle}
use Rattle.theory_deal.specs.Accepted.{output_at, judged_row, Consensus, InputCheck, row_by, inputs_by, input_checks, wallets_of, accepted_on}
use Rattle.theory_deal.specs.Circles.{NoneIsCircular}
use Rattle.theory_deal.specs.Used.{KeysAreUsed}
use Rattle.theory_deal.proofs.ByName.{listed_in}
use Rattle.theory_deal.proofs.Ledger.Funded.{funded_at}
use Rattle.theory_deal.proofs.Ledger.InputChecks.{LieBy, they_lie, lies_by}
use Rattle.theory_chain.specs.Files.{AreLines}
use Rattle.theory_chain.specs.Follows.{LeadsTo}
use Rattle.theory_chain.specs.Reasons.{SpendsAt}
use Rattle.theory_chain.proofs.Courses.{followed_exactly}
use Rattle.theory_chain.proofs.Exactly.{there_by_name}
use Rattle.theory_chain.proofs.FileReads.{chains_are_spelled}
use Rattle.theory_chain.proofs.Fine.{AllFine, FineAt, Filled, fine_by, fine_shown}
use Rattle.theory_chain.proofs.GoingOn.{twins}
use Rattle.theory_chain.proofs.Needs.{named_is, listed_name}
use Rattle.theory_chain.proofs.Deals.Outputs.{any_there, any_right}
use Rattle.theory_chain.proofs.Deals.Own.{same_prevs}
use Rattle.theory_chain.proofs.Deals.Taken.{whole_deal}
use Rattle.theory_chain.proofs.Deals.Transactions.{in_listed}
use Rattle.theory_chain.proofs.Deals.Whole.{Whole, stands_at, from_stands, among_in, planned_bare}
use Rattle.theory_chain.proofs.Runs.All.{AllSpelled}
use Rattle.theory_chain.proofs.Runs.Kept.{false_of}
use Rattle.theory_follow.specs.LeftOut.{chain_strings}
use Rattle.theory_follow.specs.LiveMaps.{LiveMap, live_after, ShowsLive}
use Rattle.theory_follow.specs.Taken.{SpendsDeposits, IsTaken, AreTaken, TakenStands}
use Rattle.theory_follow.proofs.KeyScripts.{key_script}
use Rattle.theory_follow.proofs.LeftOut.{all_noted_within}
use Rattle.theory_follow.proofs.LiveMaps.{without_there, spends_what, ours, shows_then}

none_some : {X : Type 0} {x : X} → None ≡ Some x → ⊥
none_some e = cc

-- where no reason is first, none holds
all_false : {R : Type 0} (ps : List (Bool × R)) → first_reason ps ≡ None → NoneTrue ps
all_false [] e = tt
all_false (p ∷ ps) e = by_test (p.0) refl e (all_false ps)
  where
    by_test : (b : Bool) → p.0 ≡ b → cond b (Some (p.1)) (first_reason ps) ≡ None → (first_reason ps ≡ None → NoneTrue ps) → NoneTrue (p ∷ ps)
    by_test true k f later = absurd (none_some (sym f))
    by_test false k f later = (k, later f)

both_none : {R : Type 0} (a b : Option R) → or_else a b ≡ None → (a ≡ None) × (b ≡ None)
both_none None b e = (refl, e)
both_none (Some r) b e = cc

from_not : (b : Bool) → not b ≡ false → b ≡ true
from_not true e = refl
from_not false e = cc

-- what passes no test stands at no place
none_passes : {X : Type 0} (p : X → Bool) (k : ℕ) (xs : List X) (x : X) → is_some (position_from p k xs) ≡ false → Is_in x xs → p x ≡ false
none_passes p k [] x e h = absurd h
none_passes p k (y ∷ xs) x e h = by_test (p y) refl e h (none_passes p (k + 1) xs x)
  where
    by_test : (b : Bool) → p y ≡ b → is_some (cond b (Some k) (position_from p (k + 1) xs)) ≡ false → Is_in x (y ∷ xs)
        → (is_some (position_from p (k + 1) xs) ≡ false → Is_in x xs → p x ≡ false) → p x ≡ false
    by_test true f g i later = cc
    by_test false f g (inl same) later = ap p same ∙ f
    by_test false f g (inr i) later = later g i

-- ---- what is spent once

-- inputs that spend one place are one
abbrev Once : List TxIn → (OutPoint → Type 0) → Type 0
Once is P = (j k : ℕ) (place : OutPoint) → SpendsAt is j place → SpendsAt is k place → P place → j ≡ k

spends_here : (i : TxIn) (is : List TxIn) → SpendsAt (i ∷ is) 0 i.prev
spends_here i is = record { input = i; there = refl; spends = refl }

spends_later : (i : TxIn) (is : List TxIn) (j : ℕ) (p : OutPoint) → SpendsAt is j p → SpendsAt (i ∷ is) (suc j) p
spends_later i is j p h = record { input = h.input; there = h.there; spends = h.spends }

spends_before : (i : TxIn) (is : List TxIn) (j : ℕ) (p : OutPoint) → SpendsAt (i ∷ is) (suc j) p → SpendsAt is j p
spends_before i is j p h = record { input = h.input; there = h.there; spends = h.spends }

spends_first : (i : TxIn) (is : List TxIn) (p : OutPoint) → SpendsAt (i ∷ is) 0 p → i.prev ≡ p
spends_first i is p h = ap (λ (x : TxIn). x.prev) (some_same h.there) ∙ h.spends

input_at : (is : List TxIn) (i : TxIn) → Is_in i is → (k : ℕ) × SpendsAt is k i.prev
input_at is i h =
    let r = stands_at is i h in
    (r.0, record { input = i; there = r.1; spends = refl })

first_false : (a b : Bool) → (a || b) ≡ false → a ≡ false
first_false true b e = cc
first_false false b e = refl

second_false : (a b : Bool) → (a || b) ≡ false → b ≡ false
second_false true b e = cc
second_false false b e = e

-- of inputs without a repeat no later one spends what the first does
first_alone : (i : TxIn) (is : List TxIn) → has_repeat (i ∷ is) ≡ false → (k : ℕ) (place : OutPoint) → SpendsAt (i ∷ is) 0 place
    → SpendsAt is k place → ⊥
first_alone i is e k place h m =
    both_ways _ (first_false (list_any (λ (j : TxIn). same_outpoint j.prev i.prev) is) (has_repeat is) e)
    (any_there (λ (j : TxIn). same_outpoint j.prev i.prev) is m.input (from_stands is m.input k m.there)
    (ap (λ (q : OutPoint). same_outpoint q i.prev) (m.spends ∙ sym (spends_first i is place h)) ∙ place_refl i.prev))

-- and no two spend one place
repeats_none : (is : List TxIn) → has_repeat is ≡ false → (j k : ℕ) (place : OutPoint) → SpendsAt is j place → SpendsAt is k place → j ≡ k
repeats_none [] e j k place h m = let f = h.there in absurd (none_some f)
repeats_none (i ∷ is) e zero zero place h m = refl
repeats_none (i ∷ is) e zero (suc k) place h m = absurd (first_alone i is e k place h (spends_before i is k place m))
repeats_none (i ∷ is) e (suc j) zero place h m = absurd (first_alone i is e j place m (spends_before i is j place h))
repeats_none (i ∷ is) e (suc j) (suc k) place h m =
    ap suc (repeats_none is (second_false (list_any (λ (x : TxIn). same_outpoint x.prev i.prev) is) (has_repeat is) e) j k place
    (spends_before i is j place h) (spends_before i is k place m))

module _ (s : Instance) (ts : List Transaction) (own : Bool) where
  abbrev IsOurs : OutPoint → Type 0
  IsOurs place = has_place (deal_outputs s ts) place ≡ true

  row_none : (x y : ChainReason) (a b p : Bool) → (a ≡ true → b ≡ true) → (own ≡ false → p ≡ false)
      → cond (a && not b) (Some x) (cond (not own && p) (Some y) None) ≡ None
  row_none x y a b p live foreign = by_live a b live
    where
      by_foreign : (o q : Bool) → (o ≡ false → q ≡ false) → cond (not o && q) (Some y) None ≡ None
      by_foreign true q h = refl
      by_foreign false true h = let e = h refl in cc
      by_foreign false false h = refl

      by_live : (c d : Bool) → (c ≡ true → d ≡ true) → cond (c && not d) (Some x) (cond (not own && p) (Some y) None) ≡ None
      by_live true true h = by_foreign own p foreign
      by_live true false h = let e = h refl in cc
      by_live false d h = by_foreign own p foreign

  -- inputs that spend what is live, once, and no position where the transaction isn't the deal's, are no reason
  inputs_none : (live : List Output) (k : ℕ) (is : List TxIn) → ((i : TxIn) → Is_in i is → IsOurs i.prev → has_place live i.prev ≡ true)
      → Once is IsOurs → ((i : TxIn) → Is_in i is → own ≡ false → has_place (position_outputs s.advert ts) i.prev ≡ false)
      → inputs_reason s ts own live k is ≡ None
  inputs_none live k [] there once foreign = refl
  inputs_none live k (i ∷ is) there once foreign =
      ap (λ (r : Option ChainReason). or_else r (inputs_reason s ts own (without live i.prev) (k + 1) is))
      (row_none (reasons.Input k) (reasons.Foreign k) (has_place (deal_outputs s ts) i.prev) (has_place live i.prev)
      (has_place (position_outputs s.advert ts) i.prev) (there i (inl refl)) (foreign i (inl refl)))
      ∙ inputs_none (without live i.prev) (k + 1) is
      (λ j h ours. without_there live i.prev j.prev (elsewhere j h ours) ∙ there j (inr h) ours)
      (λ j m place a b ours. before (once (suc j) (suc m) place (spends_later i is j place a) (spends_later i is m place b) ours))
      (λ j h. foreign j (inr h))
    where
      before : {j m : ℕ} → suc j ≡ suc m → j ≡ m
      before {j} {m} e = omega (arith, e)

      no_first : (n : ℕ) → 0 ≡ suc n → ⊥
      no_first n e = omega (arith, e)

      elsewhere : (j : TxIn) → Is_in j is → IsOurs j.prev → same_outpoint j.prev i.prev ≡ false
      elsewhere j h ours =
          false_of (same_outpoint j.prev i.prev) (λ e.
          let r = input_at is j h in
          no_first r.0 (once 0 (suc r.0) j.prev
          (record { input = i; there = refl; spends = sym (place-true j.prev i.prev e) }) (spends_later i is r.0 j.prev r.1) ours))

-- ---- inputs that are judged

-- the script of a witness is its last item
script_in : (w : List (List ℕ)) → is_filled w ≡ true → Is_in (script_of w) w
script_in [] e = cc
script_in (x ∷ []) e = inl refl
script_in (x ∷ (y ∷ w)) e = inr (script_in (y ∷ w) refl)

filled_by : (w : List (List ℕ)) → (w ≡ [] → ⊥) → is_filled w ≡ true
filled_by [] h = absurd (h refl)
filled_by (x ∷ w) h = refl

all_short : (items : List (List ℕ)) → list_any is_long items ≡ false → list_all is_short items ≡ true
all_short [] e = refl
all_short (x ∷ items) e = by_test (is_long x) refl e (all_short items)
  where
    short : is_long x ≡ false → is_short x ≡ true
    short f = grind (arith, nat_tests, f)

    by_test : (b : Bool) → is_long x ≡ b → (b || list_any is_long items) ≡ false → (list_any is_long items ≡ false → list_all is_short items ≡ true)
        → (is_short x && list_all is_short items) ≡ true
    by_test true f g later = cc
    by_test false f g later = ap (λ (b : Bool). b && list_all is_short items) (short f) ∙ later g

module _ (hash : List ℕ → List ℕ) (oracle : Oracle) (takes : Consensus) (wallet : ℕ → Option Wallet) (live : List Entry) (tx : Tx) where
  abbrev checks : InputCheck
  checks = record { oracle = oracle; takes = takes; of_wallet = λ k. is_some (wallet k) }

  -- a script that an input spends: it is the witness's where that has its digest, and true if every signature is good where it is by some oracle
  record IsSpentScript (script : List ℕ) (witness : List (List ℕ)) : Type 0 where
    same : is_filled witness ≡ true → hash (script_of witness) ≡ hash script → script_of witness ≡ script
    good : (valid : List ℕ → List ℕ → Bool) (items : List (List ℕ)) → list_all is_short items ≡ true
        → script_meaning hash valid script items ≡ true → script_meaning hash takes_all script items ≡ true

  -- the scripts from number k on
  abbrev AllScripts : ℕ → List Spent → List (List (List ℕ)) → Type 0
  AllScripts k [] ws = Unit {0}
  AllScripts k (x ∷ xs) [] = ⊥
  AllScripts k (x ∷ xs) (w ∷ ws) =
      ((wallet k ≡ None → IsSpentScript x.script w) × ((v : Wallet) → wallet k ≡ Some v → w ≡ [] → ⊥)) × AllScripts (k + 1) xs ws

  key_row : (k : ℕ) (x : Spent) (w : List (List ℕ)) → IsSpentScript x.script w
      → first_reason (judged_row hash oracle k (record (input_of x) { witness = w }) (pays hash x.script x.value)) ≡ None
      → FineAt hash (λ j. takes_all) Filled None k x w
  key_row k x w script e =
      let rows = all_false (judged_row hash oracle k (record (input_of x) { witness = w }) (pays hash x.script x.value)) e in
      let filled = (and_parts _ (is_filled w) (from_not _ rows.1.0)).1 in
      let same_hash = bytes-true (hash (script_of w)) (hash x.script) (from_not (bytes_eq (hash (script_of w)) (hash x.script)) rows.1.1.0) in
      let same = script.same filled same_hash in
      let short = all_short (items_of w) rows.1.1.1.0 in
      let meant = from_not (script_meaning hash (oracle k) (script_of w) (items_of w)) rows.1.1.1.1.0 in
      (same, script.good (oracle k) (items_of w) short (ap (λ (t : List ℕ). script_meaning hash (oracle k) t (items_of w)) (sym same) ∙ meant), short)

  judged_fine : (k : ℕ) (xs : List Spent) (ws : List (List (List ℕ))) → length ws ≡ length xs → LieBy hash live wallet k xs → AllScripts k xs ws
      → inputs_by hash checks live tx k (witnessed (map input_of xs) ws) ≡ None → AllFine hash (λ j. takes_all) Filled wallet k xs ws
  judged_fine k [] [] n lie scripts e = tt
  judged_fine k [] (w ∷ ws) n lie scripts e = absurd (omega (arith, n))
  judged_fine k (x ∷ xs) [] n lie scripts e = absurd scripts
  judged_fine k (x ∷ xs) (w ∷ ws) n lie scripts e =
      let both = both_none _ (inputs_by hash checks live tx (k + 1) (witnessed (map input_of xs) ws)) e in
      let entry = (lies_by hash live (wallet k) x lie.0).entry in
      let row = ap (option_and_then (λ (p : ℕ × TxOut). first_reason (row_by hash checks live tx (is_some (wallet k)) k (record (input_of x) { witness = w }) p.1)))
      (sym entry) ∙ both.0 in
      (by_wallet (wallet k) refl row, judged_fine (k + 1) xs ws (omega (arith, n)) lie.1 scripts.1 both.1)
    where
      by_wallet : (o : Option Wallet) → wallet k ≡ o
          → first_reason (row_by hash checks live tx (is_some o) k (record (input_of x) { witness = w }) (spent_output hash o x)) ≡ None
          → FineAt hash (λ j. takes_all) Filled o k x w
      by_wallet None f g = key_row k x w (scripts.0.0 f) g
      by_wallet (Some v) f g = filled_by w (scripts.0.1 v f)

-- ---- the lock

heeds_bare : (is : List TxIn) → heeds_lock (map bare_input is) ≡ heeds_lock is
heeds_bare [] = refl
heeds_bare (i ∷ is) = ap (λ (b : Bool). not (i.sequence == 4294967295) || b) (heeds_bare is)

heeds : (xs : List Spent) → 0 < length xs → heeds_lock (map input_of xs) ≡ true
heeds [] h = absurd (omega (arith, h))
heeds (x ∷ xs) h = refl

low : (tip lock height : ℕ) (heeding : Bool) → heeding ≡ true → (heeding && (not (lock == 0) && (nat_lt tip lock || nat_lt last_height lock))) ≡ false
    → tip + 1 ≡ height → nat_lt lock height ≡ true
low tip lock height heeding e f top = by_tests (lock == 0) (nat_lt tip lock) refl refl (ap (λ (b : Bool). b && (not (lock == 0) && (nat_lt tip lock || nat_lt last_height lock))) (sym e) ∙ f)
  where
    none : (lock == 0) ≡ true → nat_lt lock height ≡ true
    none k = grind (arith, nat_tests, k, top)

    reached : nat_lt tip lock ≡ false → nat_lt lock height ≡ true
    reached k = grind (arith, nat_tests, k, top)

    by_tests : (z l : Bool) → (lock == 0) ≡ z → nat_lt tip lock ≡ l → (true && (not z && (l || nat_lt last_height lock))) ≡ false
        → nat_lt lock height ≡ true
    by_tests true l k m g = none k
    by_tests false true k m g = cc
    by_tests false false k m g = reached m

-- ---- one transaction

abbrev own_witnesses : Tx → List (List (List ℕ))
own_witnesses tx = map (λ (i : TxIn). i.witness) tx.inputs

witnessed_again : (is : List TxIn) → witnessed (map bare_input is) (map (λ (i : TxIn). i.witness) is) ≡ is
witnessed_again [] = refl
witnessed_again (i ∷ is) = ap (λ (xs : List TxIn). i ∷ xs) (witnessed_again is)

counted : {X Y : Type 0} (f : X → Y) (ys : List X) → length (map f ys) ≡ length ys
counted f [] = refl
counted f (y ∷ ys) = ap suc (counted f ys)

in_items : (is : List TxIn) (i : TxIn) (t : List ℕ) → Is_in i is → Is_in t i.witness → is_among t (flat_map (λ (j : TxIn). j.witness) is) ≡ true
in_items [] i t h k = absurd h
in_items (j ∷ is) i t (inl e) k =
    among_left t j.witness (flat_map (λ (x : TxIn). x.witness) is) (among_in t j.witness (subst (λ (x : TxIn). Is_in t x.witness) e k))
in_items (j ∷ is) i t (inr h) k = among_right t j.witness (flat_map (λ (x : TxIn). x.witness) is) (in_items is i t h k)

module _ (circles : NoneIsCircular) (uses : KeysAreUsed) (hash : List ℕ → List ℕ) (keys : Keys) (s : Instance) (whole : Whole hash keys s) where
  -- no strings of these have one hash, and those of the deal are among them
  module _ (all : List (List ℕ)) (clear : NoCollision hash all) (deal_in : Within (noted_all [] (deal_strings hash keys s)) all)
      (state : State) (live : LiveMap) (shown : ShowsLive hash keys s state live) (height : ℕ) (tx : Tx) (fits : IsTransaction tx)
      (strings_in : Within (transaction_strings hash tx) all) where
    foreign_fine : own_transaction (transactions hash keys s) tx ≡ None → SpendsDeposits hash keys s live tx
        → refusal hash s (transactions hash keys s) state height tx ≡ None
    foreign_fine e h =
        ap (λ (o : Option Transaction). or_else (inputs_reason s (transactions hash keys s) (is_some o) state.live 0 tx.inputs)
        (own_reason hash s (transactions hash keys s) height tx o)) e
        ∙ ap (λ (r : Option ChainReason). or_else r None)
        (inputs_none s (transactions hash keys s) false state.live 0 tx.inputs there h.once foreign)
      where
        at_place_of : (i : TxIn) → Is_in i tx.inputs → has_place (deal_outputs s (transactions hash keys s)) i.prev ≡ true
            → (has_place (position_outputs s.advert (transactions hash keys s)) i.prev ≡ false) × (is_some (live i.prev) ≡ true)
        at_place_of i j ours = let r = input_at tx.inputs i j in h.free r.0 i.prev r.1 ours

        there : (i : TxIn) → Is_in i tx.inputs → has_place (deal_outputs s (transactions hash keys s)) i.prev ≡ true
            → has_place state.live i.prev ≡ true
        there i j ours = sym (shown.places i.prev ours) ∙ (at_place_of i j ours).1

        foreign : (i : TxIn) → Is_in i tx.inputs → false ≡ false → has_place (position_outputs s.advert (transactions hash keys s)) i.prev ≡ false
        foreign i j same =
            false_of (has_place (position_outputs s.advert (transactions hash keys s)) i.prev) (λ k.
            both_ways _ (at_place_of i j (right (deposit_outputs s) k)).0 k)
          where
            right : (os : List Output) → has_place (position_outputs s.advert (transactions hash keys s)) i.prev ≡ true
                → has_place (os ++ position_outputs s.advert (transactions hash keys s)) i.prev ≡ true
            right os k = any_right (is_there i.prev) os (position_outputs s.advert (transactions hash keys s)) k

    module _ (t : IsTaken hash keys s live height tx) where
      among : Is_in t.l (listed hash keys s)
      among = listed_in hash keys s t.which t.l t.named

      same : bare tx ≡ tx_of t.l.pending
      same = stripped_once tx (tx_of t.l.pending) fits (whole.spelled t.l among) t.bytes ∙ planned_bare hash keys s t.l.pending

      abbrev spends : List Spent
      spends = t.l.pending.spends

      -- ---- what the verdict says

      abbrev rows_of : List (Bool × Refusal)
      rows_of = whole_row t.ledger.tip t.ledger.live tx

      abbrev inputs_of : Option Refusal
      inputs_of = inputs_by hash (input_checks keys s t.l t.oracle t.takes) t.ledger.live tx 0 tx.inputs

      none_refused : or_else (first_reason rows_of) inputs_of ≡ None
      none_refused = by_refusal (or_else (first_reason rows_of) inputs_of) refl t.accepted
        where
          by_refusal : (o : Option Refusal) → or_else (first_reason rows_of) inputs_of ≡ o → verdict_for t.ledger tx o ≡ accepted_on t.ledger tx
              → o ≡ None
          by_refusal None e f = refl
          by_refusal (Some r) e f = cc

      rows : NoneTrue rows_of
      rows = all_false rows_of (both_none (first_reason rows_of) inputs_of none_refused).0

      inputs_taken : inputs_of ≡ None
      inputs_taken = (both_none (first_reason rows_of) inputs_of none_refused).1

      -- what it spends is live
      there : (i : TxIn) → Is_in i tx.inputs → has_place (deal_outputs s (transactions hash keys s)) i.prev ≡ true
          → has_place state.live i.prev ≡ true
      there i h place_ours =
          let found_there = from_not (is_some (at_place t.ledger.live i.prev))
          (none_passes (λ (j : TxIn). not (is_some (at_place t.ledger.live j.prev))) 0 tx.inputs i rows.1.1.1.0 h) in
          sym (shown.places i.prev place_ours) ∙ ap (λ (o : Option TxOut). is_some o) (sym (t.has i.prev)) ∙ still (at_place t.ledger.live i.prev) found_there
        where
          still : (o : Option (ℕ × TxOut)) → is_some o ≡ true → is_some (option_map (λ (p : ℕ × TxOut). p.1) o) ≡ true
          still None e = cc
          still (Some p) e = refl

      inputs_fine : inputs_reason s (transactions hash keys s) true state.live 0 tx.inputs ≡ None
      inputs_fine =
          inputs_none s (transactions hash keys s) true state.live 0 tx.inputs there
          (λ j k place a b place_ours. repeats_none tx.inputs rows.1.1.0 j k place a b) (λ i h e. absurd (no_own e))
        where
          no_own : true ≡ false → ⊥
          no_own e = cc

      -- ---- its lock

      lock_fine : lock_reason height tx ≡ None
      lock_fine =
          ap (λ (b : Bool). cond b None (Some reasons.Lock))
          (low t.ledger.tip tx.lock height (heeds_lock tx.inputs) heeded rows.1.1.1.1.1.1.0 t.top)
        where
          heeded : heeds_lock tx.inputs ≡ true
          heeded =
              sym (heeds_bare tx.inputs) ∙ ap (λ (y : Tx). heeds_lock y.inputs) same
              ∙ heeds spends (funded_at hash keys s whole.checked t.which t.l t.named).some

      -- ---- its witnesses

      abbrev wallet : ℕ → Option Wallet
      wallet = wallets_of keys s t.l

      as_many : length (own_witnesses tx) ≡ length t.l.pending.spends
      as_many =
          counted (λ (i : TxIn). i.witness) tx.inputs ∙ sym (counted (λ (i : TxIn). i.prev) tx.inputs)
          ∙ ap length (same_prevs hash keys s tx t.l.pending same) ∙ counted (λ (x : Spent). x.outpoint) t.l.pending.spends

      again : (d : Unsigned) → bare tx ≡ tx_of d → witnessed (map input_of d.spends) (own_witnesses tx) ≡ tx.inputs
      again d e = ap (λ (y : Tx). witnessed y.inputs (own_witnesses tx)) (sym e) ∙ witnessed_again tx.inputs

      -- where each spends lies what the plan has
      lie : (k : ℕ) (x : Spent) → slice_get t.l.pending.spends k ≡ Some x
          → output_at t.ledger.live x.outpoint ≡ Some (spent_output hash (wallets_of keys s t.l (0 + k)) x)
      lie k x e =
          let z : k ≡ 0 + k = omega arith in
          let i = spent_by k x e in
          t.has x.outpoint ∙ shown.outputs t.which t.l k x t.named e
          ∙ ap (λ (b : Bool). cond b (Some (spent_output hash (wallets_of keys s t.l k) x)) None)
          (subst (λ (p : OutPoint). has_place state.live p ≡ true) i.2
          (there i.0 i.1 (subst (λ (p : OutPoint). has_place (deal_outputs s (transactions hash keys s)) p ≡ true) (sym i.2)
          (ours circles uses hash keys s whole t.which k x (spends_what circles uses hash keys s whole t.which t.l k x t.named e)))))
          ∙ ap (λ (n : ℕ). Some (spent_output hash (wallets_of keys s t.l n) x)) z
        where
          by_places : (is : List TxIn) (xs : List Spent) → map (λ (i : TxIn). i.prev) is ≡ map (λ (y : Spent). y.outpoint) xs → (n : ℕ) (y : Spent)
              → slice_get xs n ≡ Some y → (i : TxIn) × Is_in i is × (i.prev ≡ y.outpoint)
          by_places is [] f n y g = absurd (none_some g)
          by_places [] (z ∷ xs) f n y g = cc
          by_places (i ∷ is) (z ∷ xs) f zero y g = (i, inl refl, heads f ∙ ap (λ (w : Spent). w.outpoint) (some_same g))
            where
              heads : {X : Type 0} {a b : X} {those others : List X} → a ∷ those ≡ b ∷ others → a ≡ b
              heads q = cc
          by_places (i ∷ is) (z ∷ xs) f (suc n) y g =
              let r = by_places is xs (tails f) n y g in
              (r.0, inr r.1, r.2)
            where
              tails : {X : Type 0} {a b : X} {those others : List X} → a ∷ those ≡ b ∷ others → those ≡ others
              tails q = cc

          spent_by : (n : ℕ) (y : Spent) → slice_get t.l.pending.spends n ≡ Some y → (i : TxIn) × Is_in i tx.inputs × (i.prev ≡ y.outpoint)
          spent_by n y g = by_places tx.inputs t.l.pending.spends (same_prevs hash keys s tx t.l.pending same) n y g

      -- the scripts are those of witnesses with their digests, and wallets bring items
      one_script : (k : ℕ) (x : Spent) (i : TxIn) → slice_get t.l.pending.spends k ≡ Some x → Is_in i tx.inputs → wallets_of keys s t.l k ≡ None
          → IsSpentScript hash t.oracle t.takes (wallets_of keys s t.l) t.ledger.live tx x.script i.witness
      one_script k x i e h bare_of =
          let script = key_script uses hash keys s whole t.which t.l k x t.named e
          (ap (λ (w : Which). input_wallet keys s.advert w k) (sym (listed_name hash keys s t.which t.l t.named)) ∙ bare_of) in
          record {
            same = λ is_full same_hash.
                clear.one (script_of i.witness) x.script
                (strings_in (script_of i.witness) (among_right (script_of i.witness) (txid_strings hash tx) (items_in tx)
                (in_items tx.inputs i (script_of i.witness) h (script_in i.witness is_full))))
                (deal_in x.script script.hashed) same_hash;
            good = script.good;
          }

      all_scripts : (k : ℕ) (xs : List Spent) (is : List TxIn) → length is ≡ length xs
          → ((j : ℕ) (x : Spent) → slice_get xs j ≡ Some x → slice_get t.l.pending.spends (k + j) ≡ Some x)
          → ((j : ℕ) (i : TxIn) → slice_get is j ≡ Some i → slice_get tx.inputs (k + j) ≡ Some i)
          → AllScripts hash t.oracle t.takes (wallets_of keys s t.l) t.ledger.live tx k xs (map (λ (i : TxIn). i.witness) is)
      all_scripts k [] is n at_spent at_input = tt
      all_scripts k (x ∷ xs) [] n at_spent at_input = absurd (omega (arith, n))
      all_scripts k (x ∷ xs) (i ∷ is) n at_spent at_input =
          let z : k + 0 ≡ k = omega arith in
          let spent = subst (λ (m : ℕ). slice_get t.l.pending.spends m ≡ Some x) z (at_spent 0 x refl) in
          let input = subst (λ (m : ℕ). slice_get tx.inputs m ≡ Some i) z (at_input 0 i refl) in (
            (λ bare_of. one_script k x i spent (from_stands tx.inputs i k input) bare_of, λ v e none. t.filled k v i e input none),
            all_scripts (k + 1) xs is (omega (arith, n))
                (λ j y e.
                let m : k + suc j ≡ k + 1 + j = omega arith in
                subst (λ (q : ℕ). slice_get t.l.pending.spends q ≡ Some y) m (at_spent (suc j) y e))
                (λ j y e.
                let m : k + suc j ≡ k + 1 + j = omega arith in
                subst (λ (q : ℕ). slice_get tx.inputs q ≡ Some y) m (at_input (suc j) y e)),
          )

      all_fine : AllFine hash (λ j. takes_all) Filled (wallets_of keys s t.l) 0 t.l.pending.spends (own_witnesses tx)
      all_fine =
          judged_fine hash t.oracle t.takes (wallets_of keys s t.l) t.ledger.live tx 0 t.l.pending.spends (own_witnesses tx) as_many
          (they_lie hash t.ledger.live (wallets_of keys s t.l) 0 t.l.pending.spends lie)
          (all_scripts 0 t.l.pending.spends tx.inputs
          (sym (counted (λ (i : TxIn). i.witness) tx.inputs) ∙ as_many)
          (λ j x e. let z : j ≡ 0 + j = omega arith in subst (λ (m : ℕ). slice_get t.l.pending.spends m ≡ Some x) z e)
          (λ j i e. let z : j ≡ 0 + j = omega arith in subst (λ (m : ℕ). slice_get tx.inputs m ≡ Some i) z e))
          (subst (λ (is : List TxIn). inputs_by hash (input_checks keys s t.l t.oracle t.takes) t.ledger.live tx 0 is ≡ None)
          (sym (again t.l.pending same)) inputs_taken)

      -- those of the first transaction that has its bytes are the same
      witnesses_fine : (m : Listed) → Is_in m (listed hash keys s) → bare tx ≡ tx_of m.pending
          → witnesses_reason hash 0 (inputs hash keys s.advert m 0 m.pending.spends m.signers) tx.inputs ≡ None
      witnesses_fine m h e =
          let named = there_by_name hash keys s m h in
          let twin = twins hash keys s whole t.which m.which t.l m t.named named (sym same ∙ e) in
          let wallets : (k : ℕ) → wallets_of keys s t.l k ≡ input_wallet keys s.advert m.which k =
          λ k. ap (λ (w : Which). input_wallet keys s.advert w k) (listed_name hash keys s t.which t.l t.named) ∙ twin.2 k in
          let fine = fine_by hash (λ j. takes_all) Filled (wallets_of keys s t.l) (λ k. input_wallet keys s.advert m.which k) wallets 0
          t.l.pending.spends (own_witnesses tx) all_fine in
          subst (λ (is : List TxIn). witnesses_reason hash 0 (inputs hash keys s.advert m 0 m.pending.spends m.signers) is ≡ None)
          (again m.pending e)
          (fine_shown hash keys s m 0 m.pending.spends m.signers (own_witnesses tx)
          (subst (λ (xs : List Spent). AllFine hash (λ j. takes_all) Filled (λ k. input_wallet keys s.advert m.which k) 0 xs (own_witnesses tx)) twin.0 fine))

      -- ---- its branch

      branch_fine : branch_reason (transactions hash keys s) tx t.which ≡ None
      branch_fine =
          ap by_found (named_is hash keys s t.which t.l t.named)
          ∙ ap (λ (b : Bool). cond b None (Some reasons.Branch))
          (ap (λ (x : List ℕ). bytes_eq (stripped (tx_of t.l.pending)) x) t.bytes ∙ bytes_refl (stripped (tx_of t.l.pending)))
        where
          by_found : Option Transaction → Option ChainReason
          by_found None = Some reasons.Branch
          by_found (Some x) = cond (has_bytes (stripped tx) x) None (Some reasons.Branch)

      own_fine : refusal hash s (transactions hash keys s) state height tx ≡ None
      own_fine = by_own (own_transaction (transactions hash keys s) tx) refl t.is
        where
          by_own : (o : Option Transaction) → own_transaction (transactions hash keys s) tx ≡ o
              → option_map (λ (x : Transaction). which_shown s tx x.which) o ≡ Some t.which
              → or_else (inputs_reason s (transactions hash keys s) (is_some o) state.live 0 tx.inputs)
              (own_reason hash s (transactions hash keys s) height tx o) ≡ None
          by_own None e f = absurd (none_some f)
          by_own (Some x) e f =
              let r = found (has_bytes (stripped tx)) (transactions hash keys s) x e in
              let m = in_listed hash keys s x r.0 in
              let bytes = bytes-true (stripped (tx_of m.0.pending)) (stripped tx) (subst (λ (y : Transaction). has_bytes (stripped tx) y ≡ true) m.2 r.1) in
              let same_as = stripped_once tx (tx_of m.0.pending) fits (whole.spelled m.0 m.1) (sym bytes) ∙ planned_bare hash keys s m.0.pending in
              let witnesses : witnesses_reason hash 0 x.inputs tx.inputs ≡ None =
              ap (λ (y : Transaction). witnesses_reason hash 0 y.inputs tx.inputs) m.2 ∙ witnesses_fine m.0 m.1 same_as in
              let branch : branch_reason (transactions hash keys s) tx (which_shown s tx x.which) ≡ None =
              ap (branch_reason (transactions hash keys s) tx) (some_same f) ∙ branch_fine in
              (λ i. or_else (inputs_fine i) (or_else (lock_fine i) (or_else (witnesses i) (branch i))))

  -- ---- all of them

  along : (all : List (List ℕ)) (clear : NoCollision hash all) → Within (noted_all [] (deal_strings hash keys s)) all
      → (cs : List Confirmed) (course : Course) (live : LiveMap) → AllSpelled cs → ShowsLive hash keys s course.state live
      → Within course.messages all → Within (flat_map (λ (c : Confirmed). transaction_strings hash c.tx) cs) all
      → AreTaken hash keys s live cs → (last : Course) × LeadsTo hash s (transactions hash keys s) course cs last
  along all clear deal_in [] course live spelled shown messages strings taken = (course, refl)
  along all clear deal_in (c ∷ cs) course live spelled shown messages strings taken =
      let xs = transaction_strings hash c.tx in
      let more = flat_map (λ (d : Confirmed). transaction_strings hash d.tx) cs in
      let here : Within xs all = λ m i. strings m (among_left m xs more i) in
      let calm : collision hash course.messages xs ≡ None =
      collision_within hash course.messages all xs messages (again_calm hash all xs clear here) in
      let fine = by_kind here taken.0 in
      let r = along all clear deal_in cs (gone_on hash s (transactions hash keys s) course c) (live_after hash (transactions hash keys s) live c.tx) spelled.1
      (shows_then circles uses hash keys s whole course.state live shown c.tx c.height spelled.0 fine)
      (all_noted_within course.messages xs all messages here) (λ m i. strings m (among_right m xs more i)) taken.1 in
      (r.0, (calm, fine, r.1))
    where
      by_kind : Within (transaction_strings hash c.tx) all
          → ((own_transaction (transactions hash keys s) c.tx ≡ None) × SpendsDeposits hash keys s live c.tx) ⊎ IsTaken hash keys s live c.height c.tx
          → refusal hash s (transactions hash keys s) course.state c.height c.tx ≡ None
      by_kind here (inl h) = foreign_fine all clear deal_in course.state live shown c.height c.tx spelled.0 here h.0 h.1
      by_kind here (inr t) = own_fine all clear deal_in course.state live shown c.height c.tx spelled.0 here t

-- ---- the whole

-- the transactions that lines spell can be spelled
lines_spelled : (n height : ℕ) (lines : List (List ℕ)) (cs : List Confirmed) (tip : ℕ) → AreLines n height lines cs tip → AllSpelled cs
lines_spelled n height [] cs tip h = subst AllSpelled (sym h.0) tt
lines_spelled n height (line ∷ lines) cs tip (inl h) = lines_spelled (n + 1) height lines cs tip h.1
lines_spelled n height (line ∷ lines) cs tip (inr (inl h)) = lines_spelled (n + 1) h.0 lines cs tip h.2
lines_spelled n height (line ∷ lines) cs tip (inr (inr h)) =
    subst AllSpelled (sym h.3) (h.2.spelled.fits, lines_spelled (n + 1) height lines h.1 tip h.4)

pub taken_stands : NoneIsCircular → KeysAreUsed → TakenStands
taken_stands circles uses v hash advert deal text live d fine clear shown taken =
    let keys = deal_keys deal in
    let s : Instance = deal_instance advert deal in
    let whole = whole_deal v hash advert deal d in
    let cs = (read_chain text).confirmed in
    let xs = deal_strings hash keys s in
    let ys = flat_map (λ (c : Confirmed). transaction_strings hash c.tx) cs in
    let lines = (chains_are_spelled text cs (read_chain text).tip).0
    (λ i. record { confirmed = (read_chain text).confirmed; tip = (read_chain text).tip; fault = fine i }) in
    let deal_in : Within (noted_all [] xs) (xs ++ ys) =
    all_noted_within [] xs (xs ++ ys) (λ m i. absurd (nothing m i)) (λ m i. among_left m xs ys i) in
    let r = along circles uses hash keys s whole (chain_strings hash keys s text) clear deal_in cs (opening_course hash keys s) live
    (lines_spelled 1 0 (lines_of text) cs (read_chain text).tip lines.1) shown deal_in (λ m i. among_right m xs ys i) taken in
    (r.0, (followed_exactly hash keys s text r.0 (read_chain text).tip).1 (fine, refl, r.1))
  where
    nothing : (m : List ℕ) → is_among m [] ≡ true → ⊥
    nothing m i = cc
