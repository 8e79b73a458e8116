-- A transaction of the deal that isn't bad where it stands is accepted there, by the oracle that takes every signature.
use Rattle.std.proofs.Common.{◌≡◌, ℕ, ◌+◌, ◌<◌, ◌≤◌, List, [], ◌∷◌, ◌++◌, length, map, Bool, true, false, Option, Some, None, suc}
use Rattle.std.proofs.Common.{refl, sym, ap, subst, ◌∙◌, cond, arith}
use Rattle.std.specs.Prelude.{nat_lt}
use Rattle.std.specs.Option.{option_map}
use Rattle.std.proofs.lemmas.Bool.Decides.{nat_tests}
use Rattle.spec_data.specs.Lists.{or_else}
use Rattle.spec_bitcoin.specs.declared.tx.Tx.{Tx}
use Rattle.spec_bitcoin.specs.declared.tx.TxIn.{TxIn}
use Rattle.spec_bitcoin.specs.Live.{Chain as Ledger}
use Rattle.spec_bitcoin.specs.Spelling.{stripped, IsTransaction}
use Rattle.spec_compiler.specs.declared.unsigned.Spent.{Spent}
use Rattle.spec_compiler.specs.declared.unsigned.Unsigned.{Unsigned}
use Rattle.spec_compiler.specs.Keyed.Instance.{Instance}
use Rattle.spec_compiler.specs.Keyed.Keys.{Keys}
use Rattle.spec_compiler.specs.Keyed.Transactions.{initial_unsigned, tx_of}
use Rattle.spec_run.specs.Firing.{witnessed, with_witnesses}
use Rattle.spec_tool.specs.declared.which.Which.{Which}
use Rattle.spec_tool.specs.declared.which.Which.TheVariants as names
use Rattle.spec_tool.specs.Keyed.Listed.{Listed, listed, listed_at}
use Rattle.spec_deal.specs.declared.transaction.Transaction.{Transaction}
use Rattle.spec_deal.specs.declared.transaction.Wallet.{Wallet}
use Rattle.spec_deal.specs.Setting.{deal_keys, deal_instance}
use Rattle.spec_deal.specs.SignatureFile.{has_bytes}
use Rattle.spec_deal.specs.Transactions.{inputs, transaction, transactions}
use Rattle.spec_deal.specs.Wallets.{input_wallet}
use Rattle.theory_bitcoin.specs.Apart.{bare, bare_input}
use Rattle.theory_bitcoin.proofs.Apart.{stripped_once}
use Rattle.theory_calculus.specs.Members.{Is_in}
use Rattle.theory_calculus.proofs.Members.{found}
use Rattle.theory_calculus.proofs.Names.{bytes-true}
use Rattle.theory_script.proofs.Keyed.Stands.{some_same}
use Rattle.theory_deal.specs.Accepted.{Consensus, spent_outputs, judged_verdict, input_checks, verdict_of, wallets_of, AllLive, AllTaken, AreLive, accepted_on}
use Rattle.theory_deal.proofs.OfKeys.{no_wallet}
use Rattle.theory_deal.proofs.Ledger.DifferentOutputs.{apart_at}
use Rattle.theory_deal.proofs.Ledger.Funded.{funded_at}
use Rattle.theory_deal.proofs.Ledger.InputChecks.{all_lie, accepts_fine}
use Rattle.theory_deal.proofs.Ledger.Verdicts.{IsWhole, accepts_open}
use Rattle.spec_chain.specs.declared.fault.ChainReason.TheVariants as reasons
use Rattle.spec_chain.specs.declared.reading.Confirmed.{Confirmed}
use Rattle.spec_chain.specs.Chain.{opening_course}
use Rattle.spec_chain.specs.Following.{State, own_transaction, which_shown, which_of}
use Rattle.spec_chain.specs.Outputs.{has_place}
use Rattle.spec_chain.specs.Refusals.{refusal, inputs_reason, lock_reason, takes_all, witnesses_reason, own_reason}
use Rattle.theory_chain.specs.Follows.{LeadsTo}
use Rattle.theory_chain.specs.Ledgers.{HasLive, IsAcceptedBy}
use Rattle.theory_chain.specs.OwnAccepted.{OwnIsAccepted}
use Rattle.theory_chain.proofs.ChainRuns.{confirmed_spelled}
use Rattle.theory_chain.proofs.Courses.{followed_exactly, leads_on}
use Rattle.theory_chain.proofs.Exactly.{there_by_name}
use Rattle.theory_chain.proofs.Fine.{AllShown, Filled, fine_by, fine_with, fine_judged, keys_open, shown_fine}
use Rattle.theory_chain.proofs.GoingOn.{twins}
use Rattle.theory_chain.proofs.Ledgers.{all_live, live_by_key}
use Rattle.theory_chain.proofs.Needs.{listed_name}
use Rattle.theory_chain.proofs.Deals.Own.{Own, begins, takes, is_own, same_prevs}
use Rattle.theory_chain.proofs.Deals.Taken.{whole_deal}
use Rattle.theory_chain.proofs.Deals.Transactions.{in_listed}
use Rattle.theory_chain.proofs.Deals.Whole.{Whole, planned_bare}
use Rattle.theory_chain.proofs.Runs.All.{AllSpelled}

-- ---- a transaction is the plan's with its own witnesses

abbrev own_witnesses : Tx → List (List (List ℕ))
own_witnesses tx = map (λ (i : TxIn). i.witness) tx.inputs

inputs_again : (is : List TxIn) → witnessed (map bare_input is) (map (λ (i : TxIn). i.witness) is) ≡ is
inputs_again [] = refl
inputs_again (i ∷ is) = ap (λ (xs : List TxIn). i ∷ xs) (inputs_again is)

again : (tx : Tx) (d : Unsigned) → bare tx ≡ tx_of d → with_witnesses (tx_of d) (own_witnesses tx) ≡ tx
again tx d same =
    ap (λ (t : Tx). with_witnesses t (own_witnesses tx)) (sym same)
    ∙ ap (λ (is : List TxIn). record { version = tx.version; inputs = is; outputs = tx.outputs; lock = tx.lock }) (inputs_again tx.inputs)

as_many : (xs : List Spent) (is : List TxIn) → map (λ (i : TxIn). i.prev) is ≡ map (λ (x : Spent). x.outpoint) xs → length is ≡ length xs
as_many xs is e = sym (counted (λ (i : TxIn). i.prev) is) ∙ ap length e ∙ counted (λ (x : Spent). x.outpoint) xs
  where
    counted : {X Y : Type 0} (f : X → Y) (ys : List X) → length (map f ys) ≡ length ys
    counted f [] = refl
    counted f (y ∷ ys) = ap suc (counted f ys)

-- ---- one transaction

both_none : {R : Type 0} (a b : Option R) → or_else a b ≡ None → (a ≡ None) × (b ≡ None)
both_none None b e = (refl, e)
both_none (Some r) b e = cc

module _ (hash : List ℕ → List ℕ) (keys : Keys) (s : Instance) (whole : Whole hash keys s) (state : State) (height : ℕ) (tx : Tx)
    (fits : IsTransaction tx) (fine : refusal hash s (transactions hash keys s) state height tx ≡ None) where
  -- the first that has its bytes, and what isn't bad of it
  record First : Type 0 where
    other : Listed
    among : Is_in other (listed hash keys s)
    same : bare tx ≡ tx_of other.pending
    own : own_transaction (transactions hash keys s) tx ≡ Some (transaction hash keys s.advert other)
    low : tx.lock < height
    shown : AllShown hash keys s other 0 other.pending.spends (own_witnesses tx)

  first : (t : Transaction) → own_transaction (transactions hash keys s) tx ≡ Some t → First
  first t e =
      let r = found (has_bytes (stripped tx)) (transactions hash keys s) t e in
      let m = in_listed hash keys s t r.0 in
      let bytes = subst (λ (x : Transaction). has_bytes (stripped tx) x ≡ true) m.2 r.1 in
      let same = stripped_once tx (tx_of m.0.pending) fits (whole.spelled m.0 m.1) (sym (bytes-true (stripped (tx_of m.0.pending)) (stripped tx) bytes))
      ∙ planned_bare hash keys s m.0.pending in
      let own = (both_none (inputs_reason s (transactions hash keys s) _ state.live 0 tx.inputs) _ fine).1 in
      let told = ap (own_reason hash s (transactions hash keys s) height tx) (sym (e ∙ ap Some m.2)) ∙ own in
      let a = both_none (lock_reason height tx) _ told in
      let b = both_none (witnesses_reason hash 0 (inputs hash keys s.advert m.0 0 m.0.pending.spends m.0.signers) tx.inputs) _ a.1 in
      record {
        other = m.0;
        among = m.1;
        same = same;
        own = e ∙ ap Some m.2;
        low = below a.0;
        shown =
            shown_fine hash keys s m.0 0 m.0.pending.spends m.0.signers tx.inputs
            (as_many m.0.pending.spends tx.inputs (same_prevs hash keys s tx m.0.pending same)) b.0;
      }
    where
      below : lock_reason height tx ≡ None → tx.lock < height
      below f = by_test (nat_lt tx.lock height) refl f
        where
          by_test : (b : Bool) → nat_lt tx.lock height ≡ b → cond b None (Some reasons.Lock) ≡ None → tx.lock < height
          by_test true k g = grind (arith, nat_tests)
          by_test false k g = cc

  -- the one that it shows
  record Second (which : Which) (l : Listed) : Type 0 where
    same : bare tx ≡ tx_of l.pending
    live : (x : Spent) → Is_in x l.pending.spends → has_place state.live x.outpoint ≡ true

  second : (which : Which) (l : Listed) → which_of s (transactions hash keys s) tx ≡ Some which → listed_at hash keys s which ≡ Some l
      → Own hash keys s state height tx → Second which l
  second which l is named (begins b) =
      let name : which ≡ names.Init = some_same (sym is ∙ b.is) in
      let pending : initial_unsigned hash keys s ≡ l.pending =
      ap (λ (x : Listed). x.pending) (some_same (ap (listed_at hash keys s) (sym name) ∙ named)) in
      record {
        same = b.same ∙ ap tx_of pending;
        live = subst (λ (d : Unsigned). (x : Spent) → Is_in x d.spends → has_place state.live x.outpoint ≡ true) pending b.live;
      }
  second which l is named (takes t) =
      let name : which ≡ names.At t.path = some_same (sym is ∙ t.is) in
      let pending : t.made ≡ l.pending =
      ap (λ (x : Listed). x.pending) (some_same (sym t.named ∙ ap (listed_at hash keys s) (sym name) ∙ named)) in
      record {
        same = t.same ∙ ap tx_of pending;
        live = subst (λ (d : Unsigned). (x : Spent) → Is_in x d.spends → has_place state.live x.outpoint ≡ true) pending t.live;
      }

  -- by the checks of keys and of wallets
  judged : (l : Listed) (ledger : Ledger) (one : First) → l.pending.spends ≡ one.other.pending.spends
      → ((k : ℕ) → input_wallet keys s.advert one.other.which k ≡ wallets_of keys s l k) → AllLive hash ledger.live (wallets_of keys s l) l.pending.spends
      → IsWhole one.other.pending → one.other.pending.lock ≤ ledger.tip → IsAcceptedBy hash keys s l (λ k. takes_all) ledger tx
  judged l ledger one spends same_wallets lies plan reached = record {
    by_oracle = λ of_keys.
        let all_open = keys_open hash (λ k. takes_all) Filled (λ k. input_wallet keys s.advert one.other.which k)
        (λ k. no_wallet keys of_keys s.advert one.other.which k) 0 d.spends ws one.shown in
        subst (λ (y : Tx). judged_verdict hash (λ k. takes_all) ledger y ≡ accepted_on ledger y) is_it
        (accepts_open hash (λ k. takes_all) ledger d ws plan
        (subst (AreLive hash ledger.live) spends (live_by_key hash keys of_keys s l ledger.live lies)) whole.size.size reached all_open.0 all_open.1);
    by_input_checks = λ consensus taken.
        subst (λ (y : Tx). verdict_of hash (input_checks keys s l (λ k. takes_all) consensus) ledger y ≡ accepted_on ledger y) is_it
        (by_taken consensus (subst (AllTaken consensus wallet ledger.live) (sym is_it) taken));
  }
    where
      d : Unsigned
      d = one.other.pending

      ws : List (List (List ℕ))
      ws = own_witnesses tx

      is_it : with_witnesses (tx_of one.other.pending) (own_witnesses tx) ≡ tx
      is_it = again tx one.other.pending one.same

      wallet : ℕ → Option Wallet
      wallet = wallets_of keys s l

      lie : AllLive hash ledger.live (wallets_of keys s l) one.other.pending.spends
      lie = subst (AllLive hash ledger.live (wallets_of keys s l)) spends lies

      by_taken : (consensus : Consensus) → AllTaken consensus (wallets_of keys s l) ledger.live (with_witnesses (tx_of one.other.pending) (own_witnesses tx))
          → verdict_of hash (input_checks keys s l (λ k. takes_all) consensus) ledger (with_witnesses (tx_of one.other.pending) (own_witnesses tx))
          ≡ accepted_on ledger (with_witnesses (tx_of one.other.pending) (own_witnesses tx))
      by_taken consensus taken =
          let y = with_witnesses (tx_of one.other.pending) (own_witnesses tx) in
          let here = fine_by hash (λ k. takes_all) Filled (λ k. input_wallet keys s.advert one.other.which k) (wallets_of keys s l) same_wallets 0
          one.other.pending.spends (own_witnesses tx) one.shown in
          let fine = fine_with hash (λ k. takes_all) Filled (λ k w. consensus y (spent_outputs ledger.live y) k ≡ true) (wallets_of keys s l)
          (λ k v w e. taken k v e) 0 one.other.pending.spends (own_witnesses tx) here in
          accepts_fine hash (input_checks keys s l (λ k. takes_all) consensus)
          (wallets_of keys s l) ledger one.other.pending (own_witnesses tx) plan lie reached
          (fine_judged hash whole.size.size (λ k. takes_all) consensus (wallets_of keys s l) ledger.live y 0 one.other.pending.spends (own_witnesses tx)
          (all_lie hash ledger.live (wallets_of keys s l) one.other.pending.spends lie) fine)

  accepted : (which : Which) (l : Listed) (ledger : Ledger) → which_of s (transactions hash keys s) tx ≡ Some which
      → listed_at hash keys s which ≡ Some l → HasLive hash keys s state l ledger.live → ledger.tip + 1 ≡ height
      → IsAcceptedBy hash keys s l (λ k. takes_all) ledger tx
  accepted which l ledger is named has top = by_own (own_transaction (transactions hash keys s) tx) refl is
    where
      by_own : (o : Option Transaction) → own_transaction (transactions hash keys s) tx ≡ o
          → option_map (λ (t : Transaction). which_shown s tx t.which) o ≡ Some which
          → IsAcceptedBy hash keys s l (λ k. takes_all) ledger tx
      by_own None e f = cc
      by_own (Some t) e f =
          let one = first t e in
          let two = second which l is named (is_own hash keys s whole state height tx fits fine t e) in
          let other_named = there_by_name hash keys s one.other one.among in
          let twin = twins hash keys s whole which one.other.which l one.other named other_named (sym two.same ∙ one.same) in
          let low = one.low in
          let lock : tx.lock ≡ one.other.pending.lock = ap (λ (y : Tx). y.lock) one.same in
          judged l ledger one twin.0
          (λ k. sym (ap (λ (w : Which). input_wallet keys s.advert w k) (listed_name hash keys s which l named) ∙ twin.2 k))
          (all_live hash keys s state l ledger.live has two.live)
          (record {
            funded = funded_at hash keys s whole.checked one.other.which one.other other_named;
            apart = apart_at hash keys s whole.checked whole.apart one.other.which one.other other_named;
          })
          (omega (arith, top, low, lock))

-- ---- the whole

spelled_in : (before behind : List Confirmed) (c : Confirmed) → AllSpelled (before ++ c ∷ behind) → IsTransaction c.tx
spelled_in [] behind c h = h.0
spelled_in (b ∷ before) behind c h = spelled_in before behind c h.1

pub own_is_accepted : OwnIsAccepted
own_is_accepted v hash advert deal text course last tip c which l ledger d followed there is named has top =
    let keys = deal_keys deal in
    let s : Instance = deal_instance advert deal in
    let ts = transactions hash keys s in
    let whole = whole_deal v hash advert deal d in
    let leads = (followed_exactly hash keys s text last tip).0 followed in
    let on = leads_on hash s ts there.before (c ∷ there.behind) (opening_course hash keys s) course last there.leads
    (subst (λ (cs : List Confirmed). LeadsTo hash s ts (opening_course hash keys s) cs last) there.cut leads.2) in
    let fits = spelled_in there.before there.behind c (subst AllSpelled there.cut (confirmed_spelled hash keys s text last tip followed)) in
    accepted hash keys s whole course.state c.height c.tx fits on.1 which l ledger is named has top
