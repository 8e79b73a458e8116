-- Behind each transaction of a chain a live map shows what is live where the deal stands.
use Rattle.std.proofs.Common.{◌≡◌, ℕ, zero, suc, ◌+◌, List, [], ◌∷◌, ◌++◌, map, Bool, true, false, Option, Some, None}
use Rattle.std.proofs.Common.{refl, sym, ap, subst, ◌∙◌, inl, inr, cond, arith}
use Rattle.std.specs.Prelude.{◌⊎◌, not, filter, is_some, slice_get, ◌||◌}
use Rattle.std.specs.List.{list_any, flat_map}
use Rattle.std.specs.Option.{option_map, option_or}
use Rattle.std.specs.Str.{bytes_eq}
use Rattle.std.proofs.lemmas.Bool.{both_ways}
use Rattle.spec_data.specs.Lists.{look_up, is_among}
use Rattle.spec_terms.specs.Term as term
use Rattle.spec_terms.specs.Term.{Contract, Parts, no_part, part, auth, after, put_reveal, withdraw, split}
use Rattle.spec_terms.specs.Core.{core, puts_of}
use Rattle.spec_terms.specs.Paths.{at}
use Rattle.spec_terms.specs.Precondition.{Holding, deposits, persistent, volatile}
use Rattle.spec_terms.specs.declared.path.PathStep.{PathStep}
use Rattle.spec_bitcoin.specs.declared.tx.OutPoint.{OutPoint}
use Rattle.spec_bitcoin.specs.declared.tx.TxOut.{TxOut}
use Rattle.spec_bitcoin.specs.declared.tx.Tx.{Tx}
use Rattle.spec_bitcoin.specs.Digests.{txid}
use Rattle.spec_bitcoin.specs.Live.{same_outpoint}
use Rattle.spec_bitcoin.specs.Spelling.{IsTransaction}
use Rattle.spec_compiler.specs.declared.unsigned.Spent.{Spent}
use Rattle.spec_compiler.specs.declared.unsigned.Unsigned.{Unsigned}
use Rattle.spec_compiler.specs.Keyed.Instance.{Instance, branch_path}
use Rattle.spec_compiler.specs.Keyed.Keys.{Keys}
use Rattle.spec_compiler.specs.Keyed.ByPath.{position_at}
use Rattle.spec_compiler.specs.Keyed.Transactions.{Standing, tx_of, pays, output_outpoint, payee_script, part_outputs, core_outputs, initial_unsigned, put_deposits, deposit, holding_or_none, outpoint_or_none}
use Rattle.spec_tool.specs.declared.which.Which.{Which}
use Rattle.spec_tool.specs.declared.which.Which.TheVariants as names
use Rattle.spec_tool.specs.Keyed.Listed.{Listed, initial_listed, path_listed, listed, listed_at}
use Rattle.spec_deal.specs.declared.transaction.Transaction.{Transaction}
use Rattle.spec_deal.specs.declared.transaction.Wallet.{Wallet}
use Rattle.spec_deal.specs.Needed.{needed_deposits}
use Rattle.spec_deal.specs.Setting.{deal_keys, deal_instance}
use Rattle.spec_deal.specs.Transactions.{transaction, transactions}
use Rattle.spec_deal.specs.Wallets.{input_wallet, spent_output}
use Rattle.spec_chain.specs.declared.output.Held.{Held}
use Rattle.spec_chain.specs.declared.output.Held.TheVariants.{Deposit, Position, Payout}
use Rattle.spec_chain.specs.declared.output.Output.{Output}
use Rattle.spec_chain.specs.declared.reading.Confirmed.{Confirmed}
use Rattle.spec_chain.specs.Chain.{Course, gone_on, opening_course}
use Rattle.spec_chain.specs.ChainFile.{read_chain}
use Rattle.spec_chain.specs.Following.{State, own_transaction, which_shown, which_of, outputs_of, outputs_named, outputs_made, places_spent, after_transaction}
use Rattle.spec_chain.specs.Outputs.{is_position, is_there, has_place, without, without_all, deposit_outputs, made_by, held_by, core_held, parts_held, branch_held, position_outputs, deal_outputs}
use Rattle.spec_chain.specs.Refusals.{refusal}
use Rattle.theory_bitcoin.specs.Apart.{bare}
use Rattle.theory_calculus.specs.Members.{Is_in}
use Rattle.theory_calculus.proofs.Members.{in_append, in_filter, filter_has, all_in}
use Rattle.theory_calculus.proofs.Names.{bytes-true, bytes_refl, persistent_deposit, named_looked, looked_in}
use Rattle.theory_script.proofs.Keyed.Stands.{some_same}
use Rattle.theory_world.proofs.Ledger.Bare.{txid-bare}
use Rattle.theory_world.proofs.Same.{place-true, place_refl}
use Rattle.theory_deal.specs.Circles.{NoneIsCircular}
use Rattle.theory_deal.specs.Used.{KeysAreUsed}
use Rattle.theory_deal.proofs.ByName.{listed_in}
use Rattle.theory_deal.proofs.ReadBranches.{puts_needed}
use Rattle.theory_chain.specs.Follows.{LeadsTo}
use Rattle.theory_chain.specs.OwnAccepted.{OwnIsAccepted, StandsBehind}
use Rattle.theory_chain.proofs.ChainRuns.{confirmed_spelled}
use Rattle.theory_chain.proofs.Courses.{followed_exactly}
use Rattle.theory_chain.proofs.Exactly.{there_by_name}
use Rattle.theory_chain.proofs.Needs.{listed_name, named_is}
use Rattle.theory_chain.proofs.Deals.Outputs.{there_of, placed, made_of, made_there as output_there, any_left, deposit_output, deposit_there, position_ours}
use Rattle.theory_chain.proofs.Deals.Own.{Own, begins, takes, is_own}
use Rattle.theory_chain.proofs.Deals.Positions.{branch_at_path, position_made}
use Rattle.theory_chain.proofs.Deals.Taken.{whole_deal}
use Rattle.theory_chain.proofs.Deals.Transactions.{OfBranch, of_branch, named_path, IsHeld, output_is, in_listed}
use Rattle.theory_chain.proofs.Deals.Whole.{Whole, from_map, from_stands, same_txid}
use Rattle.theory_chain.proofs.Runs.All.{AllSpelled}
use Rattle.theory_chain.proofs.Runs.Kept.{deposit_apart, unspent, false_of}
use Rattle.theory_follow.specs.LiveMaps.{LiveMap, made_there, left_there, live_after, live_behind, ShowsLive, LedgersFollow}
use Rattle.theory_follow.proofs.PaidApart.{paid_apart}

-- ---- lists

from_flat : {X Y : Type 0} (f : X → List Y) (xs : List X) (y : Y) → Is_in y (flat_map f xs) → (x : X) × Is_in x xs × Is_in y (f x)
from_flat f [] y h = absurd h
from_flat f (x ∷ xs) y h = by_place (in_append y (f x) (flat_map f xs) h) (from_flat f xs y)
  where
    by_place : Is_in y (f x) ⊎ Is_in y (flat_map f xs) → (Is_in y (flat_map f xs) → (z : _) × Is_in z xs × Is_in y (f z))
        → (z : _) × Is_in z (x ∷ xs) × Is_in y (f z)
    by_place (inl i) later = (x, inl refl, i)
    by_place (inr i) later =
        let r = later i in
        (r.0, inr r.1, r.2)

any_append : {X : Type 0} (p : X → Bool) (xs ys : List X) → list_any p (xs ++ ys) ≡ (list_any p xs || list_any p ys)
any_append p [] ys = refl
any_append p (x ∷ xs) ys = by_test (p x) (any_append p xs ys)
  where
    by_test : (b : Bool) → list_any p (xs ++ ys) ≡ (list_any p xs || list_any p ys)
        → (b || list_any p (xs ++ ys)) ≡ ((b || list_any p xs) || list_any p ys)
    by_test true later = refl
    by_test false later = later

none_some : {X : Type 0} {x : X} → None ≡ Some x → ⊥
none_some e = cc

-- ---- what is left

pub without_there : (live : List Output) (q p : OutPoint) → same_outpoint p q ≡ false → has_place (without live q) p ≡ has_place live p
without_there [] q p e = refl
without_there (o ∷ os) q p e = by_tests (is_there p o) (is_there q o) refl refl (without_there os q p e)
  where
    by_tests : (a b : Bool) → is_there p o ≡ a → is_there q o ≡ b → has_place (without os q) p ≡ has_place os p
        → has_place (cond (not b) (o ∷ without os q) (without os q)) p ≡ (a || has_place os p)
    by_tests true true ea eb later =
        absurd (both_ways _ e (subst (λ (x : OutPoint). same_outpoint x q ≡ true) (place-true o.place p ea) eb))
    by_tests false true ea eb later = later
    by_tests true false ea eb later = ap (λ (b : Bool). b || has_place (without os q) p) ea
    by_tests false false ea eb later = ap (λ (b : Bool). b || has_place (without os q) p) ea ∙ later

without_all_there : (live : List Output) (places : List OutPoint) (p : OutPoint)
    → has_place (without_all live places) p ≡ cond (list_any (same_outpoint p) places) false (has_place live p)
without_all_there live [] p = refl
without_all_there live (q ∷ places) p = by_test (same_outpoint p q) refl (without_all_there (without live q) places p)
  where
    by_test : (b : Bool) → same_outpoint p q ≡ b
        → has_place (without_all (without live q) places) p ≡ cond (list_any (same_outpoint p) places) false (has_place (without live q) p)
        → has_place (without_all (without live q) places) p ≡ cond (b || list_any (same_outpoint p) places) false (has_place live p)
    by_test true e later =
        false_of (has_place (without_all live (q ∷ places)) p) (λ there.
        let r = there_of (is_there p) (without_all live (q ∷ places)) there in
        let gone = (unspent live (q ∷ places) r.0 r.1).1 q (inl refl) in
        let same : (r.0).place ≡ q = place-true (r.0).place p r.2 ∙ place-true p q e in
        both_ways _ gone (ap (λ (x : OutPoint). same_outpoint x q) same ∙ place_refl q))
    by_test false e later =
        later ∙ ap (λ (b : Bool). cond (list_any (same_outpoint p) places) false b) (without_there live q p e)

module _ (live : LiveMap) (outputs : List Output) (places : List OutPoint) (p : OutPoint) where
  left_is : is_some (live p) ≡ has_place outputs p → is_some (left_there live places p) ≡ has_place (without_all outputs places) p
  left_is e = by_test (list_any (same_outpoint p) places) ∙ sym (without_all_there outputs places p)
    where
      by_test : (b : Bool) → is_some (cond b None (live p)) ≡ cond b false (has_place outputs p)
      by_test true = refl
      by_test false = e

  left_output : (o : TxOut) → live p ≡ cond (has_place outputs p) (Some o) None
      → left_there live places p ≡ cond (has_place (without_all outputs places) p) (Some o) None
  left_output o e =
      by_test (list_any (same_outpoint p) places)
      ∙ ap (λ (b : Bool). cond b (Some o) None) (sym (without_all_there outputs places p))
    where
      by_test : (b : Bool) → cond b None (live p) ≡ cond (cond b false (has_place outputs p)) (Some o) None
      by_test true = refl
      by_test false = e

module _ (circles : NoneIsCircular) (uses : KeysAreUsed) (hash : List ℕ → List ℕ) (keys : Keys) (s : Instance) where
  -- ---- what a transaction of the deal makes

  -- an output is a position's, or pays a participant whom a branch pays
  abbrev IsPaid : Held → TxOut → Type 0
  IsPaid (Deposit name) o = ⊥
  IsPaid (Position q) o = Unit {0}
  IsPaid (Payout party) o =
      (path : List PathStep) × (b : term.Guarded) × (at s.advert.root path ≡ Some b) × (core b ≡ withdraw party)
      × (o.script ≡ payee_script hash keys party)

  record HeldAs (which : Which) (k : ℕ) (o : TxOut) : Type 0 where
    held : Held
    there : slice_get (held_by s.advert which) k ≡ Some held
    paid : IsPaid held o

  part_held : (path q : List PathStep) (j i k : ℕ) (ps : Parts) (o : TxOut) → slice_get (part_outputs hash keys s q i ps) k ≡ Some o
      → (h : Held) × (slice_get (parts_held path j ps) k ≡ Some h) × IsPaid h o
  part_held path q j i k no_part o e = absurd (none_some e)
  part_held path q j i zero (part v c ps) o e = (_, refl, tt)
  part_held path q j i (suc k) (part v c ps) o e = part_held path q (j + 1) (i + 1) k ps o e

  core_held_as : (path q : List PathStep) (value k : ℕ) (b c : term.Guarded) (o : TxOut) → at s.advert.root path ≡ Some b → core b ≡ c
      → slice_get (core_outputs hash keys s q value c) k ≡ Some o
      → (h : Held) × (slice_get (core_held path c) k ≡ Some h) × IsPaid h o
  core_held_as path q value zero b (put_reveal puts reveals test next) o stands is e = (Position path, refl, tt)
  core_held_as path q value (suc k) b (put_reveal puts reveals test next) o stands is e = absurd (none_some e)
  core_held_as path q value zero b (withdraw party) o stands is e =
      (Payout party, refl, (path, b, stands, is, ap (λ (x : TxOut). x.script) (sym (some_same e))))
  core_held_as path q value (suc k) b (withdraw party) o stands is e = absurd (none_some e)
  core_held_as path q value k b (split parts) o stands is e = part_held path q 0 0 k parts o e
  core_held_as path q value k b (auth party body) o stands is e = absurd (none_some e)
  core_held_as path q value k b (after height body) o stands is e = absurd (none_some e)

  held_as : (which : Which) (l : Listed) (k : ℕ) (o : TxOut) → listed_at hash keys s which ≡ Some l → slice_get l.pending.outputs k ≡ Some o
      → HeldAs which k o
  held_as names.Init l k o named e =
      by_number k (ap (λ (x : Listed). slice_get x.pending.outputs k) (some_same named) ∙ e)
    where
      by_number : (j : ℕ) → slice_get (initial_unsigned hash keys s).outputs j ≡ Some o → HeldAs names.Init j o
      by_number zero f = record { held = Position []; there = refl; paid = tt }
      by_number (suc j) f = absurd (none_some f)
  held_as (names.At path) l k o named e =
      let n = named_path hash keys s path l named in
      let r = of_branch hash keys s path n.0 n.1 in
      let stands = branch_at_path hash keys s path r.here r.i r.b r.ends in
      let h = core_held_as path (branch_path r.here.position r.i) r.here.output.value k r.b (core r.b) o stands refl
      (ap (λ (d : Unsigned). slice_get d.outputs k) (sym r.is) ∙ ap (λ (x : Listed). slice_get x.pending.outputs k) (sym n.2) ∙ e) in
      record {
        held = h.0;
        there = ap (λ (x : Option term.Guarded). slice_get (branch_held path x) k) stands ∙ h.1;
        paid = h.2;
      }

  -- ---- what a transaction of the deal spends

  pub record Deposited (x : Spent) : Type 0 where
    output : Output
    among : Is_in output (deposit_outputs s)
    lies : output.place ≡ x.outpoint

  pub record Stood (which : Which) (k : ℕ) (x : Spent) : Type 0 where
    q : List PathStep
    here : Standing
    choice : Contract
    stands : position_at hash keys s q ≡ Some (here, choice)
    is : x ≡ here.output
    by_key : input_wallet keys s.advert which k ≡ None

  deposited : (d : List ℕ × Holding) (x : Spent) → Is_in d (deposits s.advert.pre)
      → x.outpoint ≡ outpoint_or_none (look_up (d.0) s.bound) → Deposited x
  deposited d x h e =
      let r = deposit_there s d h in
      record { output = deposit_output s r.0 d; among = r.1; lies = sym e }

  module _ (whole : Whole hash keys s) where
    initial_spends : (ds : List (List ℕ × Holding)) → ((d : List ℕ × Holding) → Is_in d ds → Is_in d (deposits s.advert.pre)) → (k : ℕ) (x : Spent)
        → slice_get (map (λ (d : List ℕ × Holding). deposit hash keys s d.0 d.1) ds) k ≡ Some x → Deposited x
    initial_spends ds all k x e =
        let r = from_map (λ (d : List ℕ × Holding). deposit hash keys s d.0 d.1) ds x (from_stands _ x k e) in
        deposited r.0 x (all r.0 r.1) (ap (λ (y : Spent). y.outpoint) r.2)

    branch_spends : (path : List PathStep) (d : Unsigned) (of : OfBranch hash keys s path d) (k : ℕ) (x : Spent)
        → slice_get (of.here.output ∷ put_deposits hash keys s (puts_of (core of.b))) k ≡ Some x → Deposited x ⊎ Stood (names.At path) k x
    branch_spends path d of zero x e =
        inr (record { q = of.here.position; here = of.here; choice = of.choice; stands = of.stands; is = sym (some_same e); by_key = refl })
    branch_spends path d of (suc k) x e =
        let r = from_map (λ (name : List ℕ). deposit hash keys s name (holding_or_none (look_up name (volatile s.advert.pre)))) (puts_of (core of.b)) x
        (from_stands (put_deposits hash keys s (puts_of (core of.b))) x k e) in
        let needed = all_in (λ (n : List ℕ). is_among n (needed_deposits s.advert)) (puts_of (core of.b)) r.0
        (puts_needed hash keys s whole.checked path of.here of.i of.b of.ends) r.1 in
        let v = named_looked (deposits s.advert.pre) r.0 needed in
        inl (deposited (r.0, v.0) x (looked_in (deposits s.advert.pre) r.0 v.0 v.1) (ap (λ (y : Spent). y.outpoint) r.2))

    -- each output that it spends is a deposit, or a position's, which no wallet brings
    pub spends_what : (which : Which) (l : Listed) (k : ℕ) (x : Spent) → listed_at hash keys s which ≡ Some l → slice_get l.pending.spends k ≡ Some x
        → Deposited x ⊎ Stood which k x
    spends_what names.Init l k x named e =
        inl (initial_spends (persistent s.advert.pre) (persistent_deposit s.advert.pre) k x
        (ap (λ (y : Listed). slice_get y.pending.spends k) (some_same named) ∙ e))
    spends_what (names.At path) l k x named e =
        let n = named_path hash keys s path l named in
        let of = of_branch hash keys s path n.0 n.1 in
        branch_spends path n.0 of k x
        (ap (λ (d : Unsigned). slice_get d.spends k) (sym of.is) ∙ ap (λ (y : Listed). slice_get y.pending.spends k) (sym n.2) ∙ e)

    pub ours : (which : Which) (k : ℕ) (x : Spent) → Deposited x ⊎ Stood which k x → has_place (deal_outputs s (transactions hash keys s)) x.outpoint ≡ true
    ours which k x (inl d) =
        any_left (is_there x.outpoint) (deposit_outputs s) (position_outputs s.advert (transactions hash keys s))
        (subst (λ (p : OutPoint). has_place (deposit_outputs s) p ≡ true) d.lies (placed (deposit_outputs s) d.output d.among))
    ours which k x (inr p) =
        subst (λ (y : Spent). has_place (deal_outputs s (transactions hash keys s)) y.outpoint ≡ true) (sym p.is)
        (position_ours hash keys s p.q p.here p.choice p.stands)

    -- ---- where it makes outputs

    -- a position stands there
    record StandsThere (place : OutPoint) : Type 0 where
      q : List PathStep
      here : Standing
      choice : Contract
      stands : position_at hash keys s q ≡ Some (here, choice)
      lies : here.output.outpoint ≡ place

    module _ (state : State) (tx : Tx) (which : Which) (l : Listed) (named : listed_at hash keys s which ≡ Some l)
        (is : which_of s (transactions hash keys s) tx ≡ Some which) (same : bare tx ≡ tx_of l.pending) where
      among : Is_in l (listed hash keys s)
      among = listed_in hash keys s which l named

      id : txid hash tx ≡ txid hash (tx_of l.pending)
      id = sym (txid-bare hash tx) ∙ ap (txid hash) same

      outputs_same : tx.outputs ≡ l.pending.outputs
      outputs_same = ap (λ (t : Tx). t.outputs) same

      abbrev new : List Output
      new = made_by s.advert state.next (transaction hash keys s.advert l)

      made_is : outputs_made s (transactions hash keys s) state tx ≡ new
      made_is =
          ap (outputs_named s (transactions hash keys s) state.next) is
          ∙ ap (outputs_of s state.next) (named_is hash keys s which l named)

      -- no deposit lies there
      no_deposit_there : (o : Output) (place : OutPoint) → Is_in o (deposit_outputs s) → o.place ≡ place → txid hash tx ≡ place.txid → ⊥
      no_deposit_there o place h e k =
          deposit_apart hash keys s whole o h l among (sym id ∙ k ∙ ap (λ (p : OutPoint). p.txid) (sym e))

      -- where a position stands there its output is the transaction's
      stood_output : (place : OutPoint) (p : StandsThere place) (o : TxOut) → txid hash tx ≡ place.txid → slice_get tx.outputs place.vout ≡ Some o
          → o ≡ pays hash p.here.output.script p.here.output.value
      stood_output place p o k e =
          let m = position_made hash keys s p.q p.here p.choice p.stands in
          let lies : output_outpoint hash m.by_which.pending m.vout ≡ place = sym m.place ∙ p.lies in
          let txs = same_txid hash keys s whole l m.by_which among m.among (sym id ∙ k ∙ ap (λ (q : OutPoint). q.txid) (sym lies)) in
          let vout : m.vout ≡ place.vout = ap (λ (q : OutPoint). q.vout) lies in
          some_same (sym e ∙ (λ i. slice_get (outputs_same i) (sym vout i)) ∙ (λ i. slice_get (txs i).outputs m.vout) ∙ m.there)

      position_there : (place : OutPoint) → has_place (deal_outputs s (transactions hash keys s)) place ≡ true → txid hash tx ≡ place.txid
          → StandsThere place
      position_there place h k =
          let r = there_of (is_there place) (deal_outputs s (transactions hash keys s)) h in
          by_place r.0 (place-true (r.0).place place r.2) (in_append r.0 (deposit_outputs s) (position_outputs s.advert (transactions hash keys s)) r.1)
        where
          by_held : (h : Held) (p : OutPoint) (value number : ℕ) → IsHeld hash keys s h p value
              → is_position (record { number = number; held = h; place = p; value = value }) ≡ true → p ≡ place → StandsThere place
          by_held (Deposit name) p value number f e lies = absurd f
          by_held (Position q) p value number f e lies =
              record { q = q; here = f.here; choice = f.choice; stands = f.stands; lies = f.place_is ∙ lies }
          by_held (Payout party) p value number f e lies = cc

          by_place : (o : Output) → o.place ≡ place → Is_in o (deposit_outputs s) ⊎ Is_in o (position_outputs s.advert (transactions hash keys s))
              → StandsThere place
          by_place o e (inl i) = absurd (no_deposit_there o place i e k)
          by_place o e (inr i) =
              let f = in_filter is_position (flat_map (made_by s.advert 0) (transactions hash keys s)) o i in
              let t = from_flat (made_by s.advert 0) (transactions hash keys s) o f.0 in
              let m = in_listed hash keys s t.0 t.1 in
              let made = made_of (txid hash (tx_of m.0.pending)) 0 0 (held_by s.advert m.0.which) m.0.pending.outputs o
              (subst (λ (x : Transaction). Is_in o (made_by s.advert 0 x)) m.2 t.2) in
              let z : 0 + made.0 ≡ made.0 = omega arith in
              let fine = output_is hash keys s m.0.which m.0 made.0 made.1 made.2 (there_by_name hash keys s m.0 m.1) made.3 made.4 in
              by_held made.1 (output_outpoint hash m.0.pending made.0) made.2.value o.number fine
              (subst (λ (x : Output). is_position x ≡ true) made.5 f.1)
              (sym (ap (λ (x : Output). x.place) made.5 ∙ (λ j. record { txid = txid hash (tx_of m.0.pending); vout = z j })) ∙ e)

      -- what it makes at a place of the deal is a position that is live then
      makes_live : (place : OutPoint) (o : TxOut) → has_place (deal_outputs s (transactions hash keys s)) place ≡ true
          → txid hash tx ≡ place.txid → slice_get tx.outputs place.vout ≡ Some o → has_place (filter is_position new) place ≡ true
      makes_live place o h k e =
          let there = ap (λ (os : List TxOut). slice_get os place.vout) (sym outputs_same) ∙ e in
          by_held (held_as which l place.vout o named there).held (held_as which l place.vout o named there).there
          (held_as which l place.vout o named there).paid there
        where
          by_held : (x : Held) → slice_get (held_by s.advert which) place.vout ≡ Some x → IsPaid x o
              → slice_get l.pending.outputs place.vout ≡ Some o → has_place (filter is_position new) place ≡ true
          by_held (Deposit name) f paid there = absurd paid
          by_held (Position q) f paid there =
              let t = transaction hash keys s.advert l in
              let made = output_there t.txid 0 state.next place.vout (held_by s.advert l.which) l.pending.outputs (Position q) o
              (ap (λ (w : Which). slice_get (held_by s.advert w) place.vout) (listed_name hash keys s which l named) ∙ f) there in
              let x : Output = record { number = state.next + place.vout; held = Position q; place = record { txid = t.txid; vout = 0 + place.vout }; value = o.value } in
              let z : 0 + place.vout ≡ place.vout = omega arith in
              let lies : x.place ≡ place = λ i. record { txid = (sym id ∙ k) i; vout = z i } in
              subst (λ (p : OutPoint). has_place (filter is_position new) p ≡ true) lies
              (placed (filter is_position new) x (filter_has is_position new x made refl))
          by_held (Payout party) f paid there =
              let p = position_there place h k in
              let output = stood_output place p o k e in
              absurd (paid_apart hash keys s whole circles uses p.q p.here p.choice p.stands paid.0 paid.1 party paid.2 paid.3
              (sym paid.4 ∙ ap (λ (y : TxOut). y.script) output))

      -- and nothing else is
      live_is_made : (place : OutPoint) → has_place (filter is_position new) place ≡ true
          → (o : TxOut) × (txid hash tx ≡ place.txid) × (slice_get tx.outputs place.vout ≡ Some o)
      live_is_made place h =
          let r = there_of (is_there place) (filter is_position new) h in
          let f = in_filter is_position new r.0 r.1 in
          let made = made_of (txid hash (tx_of l.pending)) 0 state.next (held_by s.advert l.which) l.pending.outputs r.0 f.0 in
          let lies : record { txid = txid hash (tx_of l.pending); vout = 0 + made.0 } ≡ place =
          ap (λ (x : Output). x.place) (sym made.5) ∙ place-true (r.0).place place r.2 in
          let z : made.0 ≡ 0 + made.0 = omega arith in (
            made.2,
            id ∙ ap (λ (p : OutPoint). p.txid) lies,
            (λ i. slice_get (outputs_same i) (sym (z ∙ ap (λ (p : OutPoint). p.vout) lies) i)) ∙ made.4,
          )

      -- by whether it makes an output there
      abbrev made_at : OutPoint → Option TxOut
      made_at place = made_there hash true tx place

      made_parts : (place : OutPoint) (o : TxOut) → made_at place ≡ Some o → (txid hash tx ≡ place.txid) × (slice_get tx.outputs place.vout ≡ Some o)
      made_parts place o e = by_test (bytes_eq (txid hash tx) place.txid) refl e
        where
          by_test : (b : Bool) → bytes_eq (txid hash tx) place.txid ≡ b → cond b (slice_get tx.outputs place.vout) None ≡ Some o
              → (txid hash tx ≡ place.txid) × (slice_get tx.outputs place.vout ≡ Some o)
          by_test true k f = (bytes-true (txid hash tx) place.txid k, f)
          by_test false k f = absurd (none_some f)

      none_made : (place : OutPoint) → made_at place ≡ None → has_place (filter is_position new) place ≡ false
      none_made place e =
          false_of (has_place (filter is_position new) place) (λ h.
          let r = live_is_made place h in
          none_some (sym e ∙ ap (λ (b : Bool). cond b (slice_get tx.outputs place.vout) None)
          (ap (λ (t : List ℕ). bytes_eq t place.txid) r.1 ∙ bytes_refl place.txid) ∙ r.2))

      -- ---- behind it

      module _ (live : LiveMap) (shown : ShowsLive hash keys s state live) where
        abbrev spent : List OutPoint
        spent = places_spent tx

        abbrev later : List Output
        later = without_all state.live (places_spent tx) ++ filter is_position new

        later_is : (place : OutPoint) → has_place later place
            ≡ (has_place (without_all state.live (places_spent tx)) place || has_place (filter is_position new) place)
        later_is place = any_append (is_there place) (without_all state.live (places_spent tx)) (filter is_position new)

        or_true : (a : Bool) → (a || true) ≡ true
        or_true true = refl
        or_true false = refl

        or_false : (a : Bool) → (a || false) ≡ a
        or_false true = refl
        or_false false = refl

        later_made : (place : OutPoint) (o : TxOut) → has_place (deal_outputs s (transactions hash keys s)) place ≡ true → made_at place ≡ Some o
            → has_place later place ≡ true
        later_made place o h e =
            let m = made_parts place o e in
            later_is place ∙ ap (λ (b : Bool). has_place (without_all state.live (places_spent tx)) place || b) (makes_live place o h m.0 m.1)
            ∙ or_true (has_place (without_all state.live (places_spent tx)) place)

        later_left : (place : OutPoint) → made_at place ≡ None → has_place later place ≡ has_place (without_all state.live (places_spent tx)) place
        later_left place e =
            later_is place ∙ ap (λ (b : Bool). has_place (without_all state.live (places_spent tx)) place || b) (none_made place e)
            ∙ or_false (has_place (without_all state.live (places_spent tx)) place)

        places_then : (place : OutPoint) → has_place (deal_outputs s (transactions hash keys s)) place ≡ true
            → is_some (option_or (made_at place) (left_there live (places_spent tx) place)) ≡ has_place later place
        places_then place h = by_made (made_at place) refl
          where
            by_made : (o : Option TxOut) → made_at place ≡ o → is_some (option_or o (left_there live (places_spent tx) place)) ≡ has_place later place
            by_made (Some o) e = sym (later_made place o h e)
            by_made None e = left_is live state.live (places_spent tx) place (shown.places place h) ∙ sym (later_left place e)

        outputs_then : (other : Which) (m : Listed) (k : ℕ) (x : Spent) → listed_at hash keys s other ≡ Some m → slice_get m.pending.spends k ≡ Some x
            → option_or (made_at x.outpoint) (left_there live (places_spent tx) x.outpoint)
            ≡ cond (has_place later x.outpoint) (Some (spent_output hash (input_wallet keys s.advert m.which k) x)) None
        outputs_then other m k x name e = by_made (made_at x.outpoint) refl
          where
            what : Deposited x ⊎ Stood other k x
            what = spends_what other m k x name e

            output : TxOut
            output = spent_output hash (input_wallet keys s.advert m.which k) x

            right : (o : TxOut) → txid hash tx ≡ x.outpoint.txid → slice_get tx.outputs x.outpoint.vout ≡ Some o → Deposited x ⊎ Stood other k x
                → o ≡ output
            right o id_is f (inl d) = absurd (no_deposit_there d.output x.outpoint d.among d.lies id_is)
            right o id_is f (inr p) =
                let here : StandsThere x.outpoint = record { q = p.q; here = p.here; choice = p.choice; stands = p.stands; lies = ap (λ (y : Spent). y.outpoint) (sym p.is) } in
                stood_output x.outpoint here o id_is f
                ∙ ap (λ (y : Spent). pays hash y.script y.value) (sym p.is)
                ∙ ap (λ (w : Option Wallet). spent_output hash w x) (sym (ap (λ (w : Which). input_wallet keys s.advert w k) (listed_name hash keys s other m name) ∙ p.by_key))

            by_made : (o : Option TxOut) → made_at x.outpoint ≡ o
                → option_or o (left_there live (places_spent tx) x.outpoint) ≡ cond (has_place later x.outpoint) (Some output) None
            by_made (Some o) f =
                let parts = made_parts x.outpoint o f in
                ap Some (right o parts.0 parts.1 what)
                ∙ ap (λ (b : Bool). cond b (Some output) None) (sym (later_made x.outpoint o (ours other k x what) f))
            by_made None f =
                left_output live state.live (places_spent tx) x.outpoint output (shown.outputs other m k x name e)
                ∙ ap (λ (b : Bool). cond b (Some output) None) (sym (later_left x.outpoint f))

        own_then : ShowsLive hash keys s (after_transaction hash s (transactions hash keys s) state tx)
            (λ place. option_or (made_at place) (left_there live (places_spent tx) place))
        own_then =
            let live_is : (after_transaction hash s (transactions hash keys s) state tx).live ≡ later =
            ap (λ (os : List Output). without_all state.live (places_spent tx) ++ filter is_position os) made_is in
            record {
              places = λ place h. places_then place h ∙ ap (λ (os : List Output). has_place os place) (sym live_is);
              outputs = λ other m k x name e.
                  outputs_then other m k x name e
                  ∙ ap (λ (os : List Output). cond (has_place os x.outpoint) (Some (spent_output hash (input_wallet keys s.advert m.which k) x)) None) (sym live_is);
            }

    -- ---- one transaction

    module _ (state : State) (live : LiveMap) (shown : ShowsLive hash keys s state live) (tx : Tx) where
      nothing_more : (os : List Output) → os ++ [] ≡ os
      nothing_more [] = refl
      nothing_more (o ∷ os) = ap (λ (xs : List Output). o ∷ xs) (nothing_more os)

      foreign_then : own_transaction (transactions hash keys s) tx ≡ None
          → ShowsLive hash keys s (after_transaction hash s (transactions hash keys s) state tx) (λ place. left_there live (places_spent tx) place)
      foreign_then e =
          let made : outputs_made s (transactions hash keys s) state tx ≡ [] =
          ap (λ (o : Option Transaction). outputs_named s (transactions hash keys s) state.next (option_map (λ (t : Transaction). which_shown s tx t.which) o)) e in
          let live_is : (after_transaction hash s (transactions hash keys s) state tx).live ≡ without_all state.live (places_spent tx) =
          ap (λ (os : List Output). without_all state.live (places_spent tx) ++ filter is_position os) made
          ∙ nothing_more (without_all state.live (places_spent tx)) in
          record {
            places = λ place h.
                left_is live state.live (places_spent tx) place (shown.places place h) ∙ ap (λ (os : List Output). has_place os place) (sym live_is);
            outputs = λ other m k x name f.
                left_output live state.live (places_spent tx) x.outpoint (spent_output hash (input_wallet keys s.advert m.which k) x) (shown.outputs other m k x name f)
                ∙ ap (λ (os : List Output). cond (has_place os x.outpoint) (Some (spent_output hash (input_wallet keys s.advert m.which k) x)) None) (sym live_is);
          }

      pub shows_then : (height : ℕ) → IsTransaction tx → refusal hash s (transactions hash keys s) state height tx ≡ None
          → ShowsLive hash keys s (after_transaction hash s (transactions hash keys s) state tx) (live_after hash (transactions hash keys s) live tx)
      shows_then height fits fine = by_own (own_transaction (transactions hash keys s) tx) refl
        where
          by_which : Own hash keys s state height tx
              → ShowsLive hash keys s (after_transaction hash s (transactions hash keys s) state tx)
              (λ place. option_or (made_there hash true tx place) (left_there live (places_spent tx) place))
          by_which (begins b) = own_then state tx names.Init (initial_listed hash keys s) refl b.is b.same live shown
          by_which (takes t) = own_then state tx (names.At t.path) (path_listed s t.path t.made) t.named t.is t.same live shown

          by_own : (o : Option Transaction) → own_transaction (transactions hash keys s) tx ≡ o
              → ShowsLive hash keys s (after_transaction hash s (transactions hash keys s) state tx)
              (λ place. option_or (made_there hash (is_some o) tx place) (left_there live (places_spent tx) place))
          by_own None e = foreign_then e
          by_own (Some t) e = by_which (is_own hash keys s whole state height tx fits fine t e)

    -- ---- all of them

    along : (cs : List Confirmed) (course last : Course) (live : LiveMap) → AllSpelled cs
        → LeadsTo hash s (transactions hash keys s) course cs last → ShowsLive hash keys s course.state live
        → ShowsLive hash keys s last.state (live_behind hash (transactions hash keys s) live cs)
    along [] course last live fits leads shown = subst (λ (c : Course). ShowsLive hash keys s c.state live) (sym leads) shown
    along (c ∷ cs) course last live fits leads shown =
        along cs (gone_on hash s (transactions hash keys s) course c) last (live_after hash (transactions hash keys s) live c.tx) fits.1 leads.2
        (shows_then course.state live shown c.tx c.height fits.0 leads.1)

-- ---- the whole

spelled_before : (before behind : List Confirmed) → AllSpelled (before ++ behind) → AllSpelled before
spelled_before [] behind h = tt
spelled_before (c ∷ before) behind h = (h.0, spelled_before before behind h.1)

pub ledgers_follow : OwnIsAccepted → NoneIsCircular → KeysAreUsed → LedgersFollow
ledgers_follow own circles uses v hash advert deal text last tip live d followed shown = record {
  shows = λ course c there. shows_before course c there;
  accepted = λ course c there which l ledger is named has top.
      own v hash advert deal text course last tip c which l ledger d followed there is named
      (λ k x e. has x.outpoint ∙ (shows_before course c there).outputs which l k x named e) top;
  at_end = along circles uses hash keys s whole (read_chain text).confirmed (opening_course hash keys s) last live spelled leads shown;
}
  where
    keys : Keys
    keys = deal_keys deal

    s : Instance
    s = deal_instance advert deal

    whole : Whole hash (deal_keys deal) (deal_instance advert deal)
    whole = whole_deal v hash advert deal d

    spelled : AllSpelled (read_chain text).confirmed
    spelled = confirmed_spelled hash (deal_keys deal) (deal_instance advert deal) text last tip followed

    leads : LeadsTo hash (deal_instance advert deal) (transactions hash (deal_keys deal) (deal_instance advert deal))
        (opening_course hash (deal_keys deal) (deal_instance advert deal)) (read_chain text).confirmed last
    leads = ((followed_exactly hash (deal_keys deal) (deal_instance advert deal) text last tip).0 followed).2

    shows_before : (course : Course) (c : Confirmed) (there : StandsBehind hash (deal_keys deal) (deal_instance advert deal) text course c)
        → ShowsLive hash (deal_keys deal) (deal_instance advert deal) course.state
        (live_behind hash (transactions hash (deal_keys deal) (deal_instance advert deal)) live there.before)
    shows_before course c there =
        along circles uses hash keys s whole there.before (opening_course hash keys s) course live
        (spelled_before there.before (c ∷ there.behind) (subst AllSpelled there.cut spelled)) there.leads shown
