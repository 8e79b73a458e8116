-- A transaction of the deal that isn't bad where it stands: which it is, and that it is the plan's but for its witnesses.
use Rattle.std.proofs.Common.{◌≡◌, ℕ, ◌+◌, ◌<◌, List, [], ◌∷◌, ◌++◌, map, Bool, true, false, Option, Some, None}
use Rattle.std.proofs.Common.{refl, sym, ap, subst, ◌∙◌, inl, inr, cond, arith}
use Rattle.std.specs.Prelude.{◌&&◌, not, nat_lt, if◌then◌else◌, is_some}
use Rattle.std.specs.List.{list_any, filter}
use Rattle.std.specs.Option.{option_map}
use Rattle.std.proofs.lemmas.Bool.Decides.{nat_tests}
use Rattle.std.proofs.lemmas.List.{append_cancel_left}
use Rattle.spec_data.specs.Lists.{look_up, is_among, or_else, first_reason}
use Rattle.spec_terms.specs.Term.{Contract}
use Rattle.spec_terms.specs.Core.{core, lock, puts_of}
use Rattle.spec_terms.specs.Precondition.{Holding, deposits, persistent, volatile}
use Rattle.spec_terms.specs.declared.path.PathStep.{PathStep}
use Rattle.spec_terms.specs.declared.path.PathStep.TheVariants.{Branch as To}
use Rattle.spec_bitcoin.specs.declared.label.Label.{Label}
use Rattle.spec_bitcoin.specs.declared.tx.OutPoint.{OutPoint}
use Rattle.spec_bitcoin.specs.declared.tx.Tx.{Tx}
use Rattle.spec_bitcoin.specs.declared.tx.TxIn.{TxIn}
use Rattle.spec_bitcoin.specs.Spelling.{stripped, IsTransaction}
use Rattle.spec_compiler.specs.declared.unsigned.Spent.{Spent}
use Rattle.spec_compiler.specs.declared.unsigned.Unsigned.{Unsigned}
use Rattle.spec_compiler.specs.Keyed.ByPath.{position_at, unsigned_at}
use Rattle.spec_compiler.specs.Keyed.Instance.{Instance, branch_path}
use Rattle.spec_compiler.specs.Keyed.Keys.{Keys}
use Rattle.spec_compiler.specs.Keyed.Transactions.{Standing, tx_of, input_of, initial_unsigned, put_deposits, deposit, holding_or_none}
use Rattle.spec_compiler.specs.Witness.{chosen_by}
use Rattle.spec_run.specs.Ledger.{first_witness}
use Rattle.spec_tool.specs.declared.which.Which.{Which}
use Rattle.spec_tool.specs.declared.which.Which.TheVariants as names
use Rattle.spec_tool.specs.Keyed.Listed.{Listed, initial_listed, path_listed, listed, listed_at, same_which}
use Rattle.spec_deal.specs.declared.transaction.Transaction.{Transaction}
use Rattle.spec_deal.specs.declared.transaction.Wallet.{Wallet}
use Rattle.spec_deal.specs.SignatureFile.{has_bytes}
use Rattle.spec_deal.specs.Finished.{choices_at}
use Rattle.spec_deal.specs.Needed.{needed_deposits}
use Rattle.spec_deal.specs.Transactions.{input, input_with, inputs, transaction, transactions}
use Rattle.spec_deal.specs.Wallets.{input_wallet}
use Rattle.theory_bitcoin.specs.Apart.{bare, bare_input}
use Rattle.theory_bitcoin.proofs.Apart.{stripped_once}
use Rattle.theory_calculus.specs.Members.{Is_in}
use Rattle.theory_calculus.proofs.Members.{found, in_filter, all_in}
use Rattle.theory_calculus.proofs.Names.{bytes-true, persistent_deposit, named_looked, looked_in}
use Rattle.theory_script.proofs.Keyed.Stands.{some_same}
use Rattle.theory_deal.proofs.ReadBranches.{puts_needed}
use Rattle.spec_chain.specs.declared.fault.ChainReason.{ChainReason}
use Rattle.spec_chain.specs.declared.fault.ChainReason.TheVariants as reasons
use Rattle.spec_chain.specs.declared.output.Output.{Output}
use Rattle.spec_chain.specs.Outputs.{has_place, without, is_there, position_outputs, deal_outputs, transaction_named, position_of}
use Rattle.spec_chain.specs.Following.{State, own_transaction, which_of, which_shown, selected}
use Rattle.spec_chain.specs.Refusals.{input_row, inputs_reason, lock_reason, opens, opens_input, witnesses_reason, branch_reason, own_reason, refusal}
use Rattle.theory_chain.proofs.Exactly.{there_by_name}
use Rattle.theory_chain.proofs.Deals.Whole.{Whole, from_map, in_map, planned_bare}
use Rattle.theory_chain.proofs.Deals.Positions.{path_named}
use Rattle.theory_chain.proofs.Deals.Transactions.{OfBranch, of_branch, named_path, same_name, in_listed, position_before}
use Rattle.theory_chain.proofs.Deals.Outputs.{there_of, any_there, position_ours, deposit_ours}

-- ---- reasons

both_none : {R : Type 0} (a b : Option R) → or_else a b ≡ None → (a ≡ None) × (b ≡ None)
both_none None b e = (refl, e)
both_none (Some r) b e = cc

some_there : {X : Type 0} (p : X → Bool) (xs : List X) (q : X → Bool) → list_any p (filter q xs) ≡ true → list_any p xs ≡ true
some_there p xs q e =
    let r = there_of p (filter q xs) e in
    any_there p xs r.0 (in_filter q xs r.0 r.1).0 r.2

-- what the inputs spend of the deal is live
pub spent_live : (s : Instance) (ts : List Transaction) (own : Bool) (live : List Output) (k : ℕ) (is : List TxIn)
    → inputs_reason s ts own live k is ≡ None → (place : OutPoint) → Is_in place (map (λ (i : TxIn). i.prev) is)
    → has_place (deal_outputs s ts) place ≡ true → has_place live place ≡ true
spent_live s ts own live k [] e place h ours = absurd h
spent_live s ts own live k (i ∷ is) e place h ours =
    let r = both_none (first_reason (input_row s ts own live k i.prev)) (inputs_reason s ts own (without live i.prev) (k + 1) is) e in
    by_place h (by_row (has_place (deal_outputs s ts) i.prev) (has_place live i.prev) r.0)
    (λ j. some_there (is_there place) live (λ (o : Output). not (is_there i.prev o)) (spent_live s ts own (without live i.prev) (k + 1) is r.1 place j ours))
  where
    by_row : (a b : Bool) → cond (a && not b) (Some (reasons.Input k))
        (cond (not own && has_place (position_outputs s.advert ts) i.prev) (Some (reasons.Foreign k)) None) ≡ None
        → a ≡ true → b ≡ true
    by_row true true f g = refl
    by_row true false f g = cc
    by_row false b f g = cc

    by_place : Is_in place (i.prev ∷ map (λ (x : TxIn). x.prev) is)
        → (has_place (deal_outputs s ts) i.prev ≡ true → has_place live i.prev ≡ true)
        → (Is_in place (map (λ (x : TxIn). x.prev) is) → has_place live place ≡ true) → has_place live place ≡ true
    by_place (inl same) here later =
        subst (λ (p : OutPoint). has_place live p ≡ true) (sym same) (here (subst (λ (p : OutPoint). has_place (deal_outputs s ts) p ≡ true) same ours))
    by_place (inr j) here later = later j

-- no input of another's transaction spends a position
pub foreign_apart : (s : Instance) (ts : List Transaction) (live : List Output) (k : ℕ) (is : List TxIn)
    → inputs_reason s ts false live k is ≡ None → (place : OutPoint) → Is_in place (map (λ (i : TxIn). i.prev) is)
    → has_place (position_outputs s.advert ts) place ≡ false
foreign_apart s ts live k [] e place h = absurd h
foreign_apart s ts live k (i ∷ is) e place h =
    let r = both_none (first_reason (input_row s ts false live k i.prev)) (inputs_reason s ts false (without live i.prev) (k + 1) is) e in
    by_place h (by_row (has_place (deal_outputs s ts) i.prev && not (has_place live i.prev)) (has_place (position_outputs s.advert ts) i.prev) r.0)
    (λ j. foreign_apart s ts (without live i.prev) (k + 1) is r.1 place j)
  where
    by_row : (a b : Bool) → cond a (Some (reasons.Input k)) (cond b (Some (reasons.Foreign k)) None) ≡ None → b ≡ false
    by_row true b f = cc
    by_row false true f = cc
    by_row false false f = refl

    by_place : Is_in place (i.prev ∷ map (λ (x : TxIn). x.prev) is) → has_place (position_outputs s.advert ts) i.prev ≡ false
        → (Is_in place (map (λ (x : TxIn). x.prev) is) → has_place (position_outputs s.advert ts) place ≡ false)
        → has_place (position_outputs s.advert ts) place ≡ false
    by_place (inl same) here later = subst (λ (p : OutPoint). has_place (position_outputs s.advert ts) p ≡ false) (sym same) here
    by_place (inr j) here later = later j

-- ---- what it is

module _ (hash : List ℕ → List ℕ) (keys : Keys) (s : Instance) where
  abbrev ts : List Transaction
  ts = transactions hash keys s

  -- what it spends is live
  abbrev pub AllLive : State → Unsigned → Type 0
  AllLive state d = (x : Spent) → Is_in x d.spends → has_place state.live x.outpoint ≡ true

  -- the initial transaction
  pub record Begins (state : State) (tx : Tx) : Type 0 where
    pub is : which_of s (transactions hash keys s) tx ≡ Some names.Init
    pub same : bare tx ≡ tx_of (initial_unsigned hash keys s)
    pub live : AllLive state (initial_unsigned hash keys s)

  -- the transaction of a branch, whose witness selects it and opens its position
  pub record Takes (state : State) (height : ℕ) (tx : Tx) : Type 0 where
    pub path : List PathStep
    pub made : Unsigned
    pub named : listed_at hash keys s (names.At path) ≡ Some (path_listed s path made)
    pub of : OfBranch hash keys s path made
    pub is : which_of s (transactions hash keys s) tx ≡ Some (names.At path)
    pub chosen : selected s tx path ≡ of.i
    pub same : bare tx ≡ tx_of made
    pub reached : lock of.b < height
    pub live : AllLive state made
    pub opened : opens hash of.here.output.script (first_witness tx.inputs) ≡ true

  pub data Own (state : State) (height : ℕ) (tx : Tx) : Type 0 where
    begins : Begins state tx → Own state height tx
    takes : Takes state height tx → Own state height tx

  -- the branch that its witness selects of the position at a path
  abbrev selected_at : Tx → List PathStep → ℕ
  selected_at tx q = chosen_by (choices_at s q) (first_witness tx.inputs)

  -- ---- bytes

  bare_prevs : (is : List TxIn) → map (λ (i : TxIn). i.prev) (map bare_input is) ≡ map (λ (i : TxIn). i.prev) is
  bare_prevs [] = refl
  bare_prevs (i ∷ is) = ap (λ (ps : List OutPoint). i.prev ∷ ps) (bare_prevs is)

  spent_prevs : (xs : List Spent) → map (λ (i : TxIn). i.prev) (map input_of xs) ≡ map (λ (x : Spent). x.outpoint) xs
  spent_prevs [] = refl
  spent_prevs (x ∷ xs) = ap (λ (ps : List OutPoint). x.outpoint ∷ ps) (spent_prevs xs)

  -- it spends what the plan's spends
  pub same_prevs : (tx : Tx) (d : Unsigned) → bare tx ≡ tx_of d → map (λ (i : TxIn). i.prev) tx.inputs ≡ map (λ (x : Spent). x.outpoint) d.spends
  same_prevs tx d e =
      sym (bare_prevs tx.inputs) ∙ ap (λ (t : Tx). map (λ (i : TxIn). i.prev) t.inputs) e ∙ spent_prevs d.spends

  module _ (whole : Whole hash keys s) (state : State) (height : ℕ) (tx : Tx) (fits : IsTransaction tx)
      (fine : refusal hash s (transactions hash keys s) state height tx ≡ None) where
    has_its_bytes : (l : Listed) → Is_in l (listed hash keys s) → has_bytes (stripped tx) (transaction hash keys s.advert l) ≡ true
        → bare tx ≡ tx_of l.pending
    has_its_bytes l h e =
        stripped_once tx (tx_of l.pending) fits (whole.spelled l h) (sym (bytes-true (stripped (tx_of l.pending)) (stripped tx) e))
        ∙ planned_bare hash keys s l.pending

    inputs_fine : inputs_reason s ts (is_some (own_transaction ts tx)) state.live 0 tx.inputs ≡ None
    inputs_fine = (both_none _ _ fine).0

    own_fine : own_reason hash s ts height tx (own_transaction ts tx) ≡ None
    own_fine = (both_none (inputs_reason s ts (is_some (own_transaction ts tx)) state.live 0 tx.inputs) _ fine).1

    -- what the plan's transaction spends of the deal is live
    live_of : (d : Unsigned) → bare tx ≡ tx_of d → (x : Spent) → Is_in x d.spends → has_place (deal_outputs s ts) x.outpoint ≡ true
        → has_place state.live x.outpoint ≡ true
    live_of d e x h ours =
        spent_live s ts (is_some (own_transaction ts tx)) state.live 0 tx.inputs inputs_fine x.outpoint
        (subst (Is_in x.outpoint) (sym (same_prevs tx d e)) (in_map (λ (y : Spent). y.outpoint) d.spends x h)) ours

    persistent_live : bare tx ≡ tx_of (initial_unsigned hash keys s) → AllLive state (initial_unsigned hash keys s)
    persistent_live e x h =
        let r = from_map (λ (d : List ℕ × Holding). deposit hash keys s d.0 d.1) (persistent s.advert.pre) x h in
        live_of (initial_unsigned hash keys s) e x h
        (subst (λ (y : Spent). has_place (deal_outputs s ts) y.outpoint ≡ true) (sym r.2)
        (deposit_ours hash keys s r.0 (persistent_deposit s.advert.pre r.0 r.1)))

    branch_live : (path : List PathStep) (d : Unsigned) (o : OfBranch hash keys s path d) → bare tx ≡ tx_of d → AllLive state d
    branch_live path d o e x h = live_of d e x h (by_place (subst (λ (y : Unsigned). Is_in x y.spends) o.is h))
      where
        by_place : Is_in x (o.here.output ∷ put_deposits hash keys s (puts_of (core o.b))) → has_place (deal_outputs s ts) x.outpoint ≡ true
        by_place (inl same) =
            subst (λ (y : Spent). has_place (deal_outputs s ts) y.outpoint ≡ true) (sym same)
            (position_ours hash keys s o.here.position o.here o.choice o.stands)
        by_place (inr i) =
            let r = from_map (λ (name : List ℕ). deposit hash keys s name (holding_or_none (look_up name (volatile s.advert.pre)))) (puts_of (core o.b)) x i in
            let needed = all_in (λ (n : List ℕ). is_among n (needed_deposits s.advert))
            (puts_of (core o.b)) r.0 (puts_needed hash keys s whole.checked path o.here o.i o.b o.ends) r.1 in
            let v = named_looked (deposits s.advert.pre) r.0 needed in
            subst (λ (y : Spent). has_place (deal_outputs s ts) y.outpoint ≡ true) (sym r.2)
            (deposit_ours hash keys s (r.0, v.0) (looked_in (deposits s.advert.pre) r.0 v.0 v.1))

    -- ---- the initial transaction

    initial_own : (l : Listed) → Is_in l (listed hash keys s) → has_bytes (stripped tx) (transaction hash keys s.advert l) ≡ true
        → own_transaction ts tx ≡ Some (transaction hash keys s.advert l) → l.which ≡ names.Init → Begins state tx
    initial_own l h e there named =
        let same : l ≡ initial_listed hash keys s =
        sym (some_same (subst (λ (w : Which). listed_at hash keys s w ≡ Some l) named (there_by_name hash keys s l h))) in
        let bytes : bare tx ≡ tx_of (initial_unsigned hash keys s) = has_its_bytes l h e ∙ ap (λ (x : Listed). tx_of x.pending) same in
        record {
          is =
              ap (option_map (λ (t : Transaction). which_shown s tx t.which)) there
              ∙ ap (λ (w : Which). Some (which_shown s tx w)) named;
          same = bytes;
          live = persistent_live bytes;
        }

    -- ---- the transaction of a branch

    -- what is known of the first transaction that has its bytes, which is that of a path
    module _ (l : Listed) (h : Is_in l (listed hash keys s)) (e : has_bytes (stripped tx) (transaction hash keys s.advert l) ≡ true)
        (there : own_transaction ts tx ≡ Some (transaction hash keys s.advert l)) (path : List PathStep) (named : l.which ≡ names.At path) where
      found_at : (d : Unsigned) × (unsigned_at hash keys s path ≡ Some d) × (l ≡ path_listed s path d)
      found_at = named_path hash keys s path l (subst (λ (w : Which). listed_at hash keys s w ≡ Some l) named (there_by_name hash keys s l h))

      first : OfBranch hash keys s path found_at.0
      first = of_branch hash keys s path found_at.0 found_at.1

      -- the branch that the witness selects
      abbrev shown : List PathStep
      shown = branch_path (position_of path) (selected s tx path)

      position_is : position_of path ≡ first.here.position
      position_is =
          ap position_of (sym (path_named hash keys s path first.here first.i first.b first.ends)) ∙ position_before first.here.position first.i

      reasons_fine : (lock_reason height tx ≡ None)
          × ((witnesses_reason hash 0 (transaction hash keys s.advert l).inputs tx.inputs ≡ None)
          × (branch_reason ts tx (names.At shown) ≡ None))
      reasons_fine =
          let own = ap (own_reason hash s ts height tx) (sym there) ∙ own_fine in
          let a = both_none (lock_reason height tx) _ own in
          let b = both_none (witnesses_reason hash 0 (transaction hash keys s.advert l).inputs tx.inputs) _ a.1 in
          (a.0, (b.0, ap (λ (w : Which). branch_reason ts tx (which_shown s tx w)) (sym named) ∙ b.1))

      -- the transaction of that branch
      record Shown : Type 0 where
        other : Listed
        among : Is_in other (listed hash keys s)
        name : other.which ≡ names.At shown
        bytes : has_bytes (stripped tx) (transaction hash keys s.advert other) ≡ true

      abbrev by_named : Option Transaction → Option ChainReason
      by_named None = Some reasons.Branch
      by_named (Some t) = if has_bytes (stripped tx) t then None else Some reasons.Branch

      shown_there : Shown
      shown_there = by_found (transaction_named ts (names.At shown)) refl reasons_fine.1.1
        where
          by_bytes : (b : Bool) → cond b None (Some reasons.Branch) ≡ None → b ≡ true
          by_bytes true f = refl
          by_bytes false f = cc

          by_found : (o : Option Transaction) → transaction_named ts (names.At shown) ≡ o → by_named o ≡ None → Shown
          by_found None f k = cc
          by_found (Some t) f k =
              let r = found (λ (x : Transaction). same_which x.which (names.At shown)) ts t f in
              let o = in_listed hash keys s t r.0 in
              record {
                other = o.0;
                among = o.1;
                name = ap (λ (x : Transaction). x.which) (sym o.2) ∙ same_name hash keys s t.which (names.At shown) r.1;
                bytes = subst (λ (x : Transaction). has_bytes (stripped tx) x ≡ true) o.2 (by_bytes (has_bytes (stripped tx) t) k);
              }

      shown_at : (d : Unsigned) × (unsigned_at hash keys s shown ≡ Some d) × (shown_there.other ≡ path_listed s shown d)
      shown_at =
          named_path hash keys s shown shown_there.other
          (subst (λ (w : Which). listed_at hash keys s w ≡ Some shown_there.other) shown_there.name
          (there_by_name hash keys s shown_there.other shown_there.among))

      second : OfBranch hash keys s shown shown_at.0
      second = of_branch hash keys s shown shown_at.0 shown_at.1

      same_position : second.here.position ≡ first.here.position
      same_position =
          sym (position_before second.here.position second.i)
          ∙ ap position_of (path_named hash keys s shown second.here second.i second.b second.ends)
          ∙ position_before (position_of path) (selected s tx path) ∙ position_is

      same_here : second.here ≡ first.here
      same_here =
          ap (λ (p : Standing × Contract). p.0)
          (some_same {X = Standing × Contract}
          (sym second.stands ∙ ap (position_at hash keys s) same_position ∙ first.stands))

      same_branch : selected s tx path ≡ second.i
      same_branch =
          let ends : second.here.position ++ To second.i ∷ [] ≡ second.here.position ++ To (selected s tx path) ∷ [] =
          path_named hash keys s shown second.here second.i second.b second.ends
          ∙ ap (λ (q : List PathStep). branch_path q (selected s tx path)) (position_is ∙ sym same_position) in
          let steps = append_cancel_left second.here.position (To second.i ∷ []) (To (selected s tx path) ∷ []) ends in
          last_of steps
        where
          last_of : {a b : ℕ} → To a ∷ [] ≡ To b ∷ [] → b ≡ a
          last_of f = cc

      -- the first witness opens the position
      position_opened : opens hash first.here.output.script (first_witness tx.inputs) ≡ true
      position_opened = by_spends l.pending.spends l.signers tx.inputs first_spent some_input reasons_fine.1.0
        where
          first_spent : l.pending.spends ≡ first.here.output ∷ put_deposits hash keys s (puts_of (core first.b))
          first_spent = ap (λ (x : Listed). x.pending.spends) found_at.2 ∙ ap (λ (d : Unsigned). d.spends) first.is

          some_input : map (λ (i : TxIn). i.prev) tx.inputs ≡ map (λ (x : Spent). x.outpoint) l.pending.spends
          some_input = same_prevs tx l.pending (has_its_bytes l h e)

          by_opened : (k : ℕ) (later : Option ChainReason) (b : Bool) → cond b later (Some (reasons.Witness k)) ≡ None → b ≡ true
          by_opened k later true f = refl
          by_opened k later false f = cc

          none_spent : (p : OutPoint) (ps : List OutPoint) → [] ≡ p ∷ ps → ⊥
          none_spent p ps f = cc

          none_there : {X : Type 0} (y : X) (ys : List X) → [] ≡ y ∷ ys → ⊥
          none_there y ys f = cc

          head_same : {X : Type 0} {a b : X} {as' bs' : List X} → a ∷ as' ≡ b ∷ bs' → a ≡ b
          head_same f = cc

          -- no wallet brings it
          position_input : (x : Spent) (labels : List Label) (witness : List (List ℕ))
              → opens_input hash (input hash keys s.advert l 0 x labels) witness ≡ true → opens hash x.script witness ≡ true
          position_input x labels witness k =
              subst (λ (o : Option Wallet). opens_input hash (input_with hash keys s.advert l o x labels) witness ≡ true)
              (ap (λ (w : Which). input_wallet keys s.advert w 0) named) k

          by_spends : (xs : List Spent) (ls : List (List Label)) (is : List TxIn)
              → xs ≡ first.here.output ∷ put_deposits hash keys s (puts_of (core first.b))
              → map (λ (i : TxIn). i.prev) is ≡ map (λ (x : Spent). x.outpoint) xs
              → witnesses_reason hash 0 (inputs hash keys s.advert l 0 xs ls) is ≡ None
              → opens hash first.here.output.script (first_witness is) ≡ true
          by_spends [] ls is f g k = absurd (none_there _ _ f)
          by_spends (x ∷ xs) ls [] f g k = absurd (none_spent _ _ g)
          by_spends (x ∷ xs) [] (i ∷ is) f g k =
              subst (λ (y : Spent). opens hash y.script i.witness ≡ true) (head_same f)
              (position_input x [] i.witness (by_opened 0 _ (opens_input hash (input hash keys s.advert l 0 x []) i.witness) k))
          by_spends (x ∷ xs) (labels ∷ ls) (i ∷ is) f g k =
              subst (λ (y : Spent). opens hash y.script i.witness ≡ true) (head_same f)
              (position_input x labels i.witness (by_opened 0 _ (opens_input hash (input hash keys s.advert l 0 x labels) i.witness) k))

      path_own : Takes state height tx
      path_own =
          let other = shown_there.other in
          let bytes : bare tx ≡ tx_of shown_at.0 = has_its_bytes other shown_there.among shown_there.bytes ∙ ap (λ (x : Listed). tx_of x.pending) shown_at.2 in
          let before : position_of shown ≡ position_of path = position_before (position_of path) (selected s tx path) in
          record {
            path = shown;
            made = shown_at.0;
            named = ap (option_map (path_listed s shown)) shown_at.1;
            of = second;
            is =
                ap (option_map (λ (t : Transaction). which_shown s tx t.which)) there
                ∙ ap (λ (w : Which). Some (which_shown s tx w)) named;
            chosen = ap (selected_at tx) before ∙ same_branch;
            same = bytes;
            reached =
                subst (λ (n : ℕ). n < height)
                (ap (λ (t : Tx). t.lock) bytes ∙ ap (λ (d : Unsigned). d.lock) second.is)
                (below_height reasons_fine.0);
            live = branch_live shown shown_at.0 second bytes;
            opened = subst (λ (x : Standing). opens hash x.output.script (first_witness tx.inputs) ≡ true) (sym same_here) position_opened;
          }
        where
          below_height : lock_reason height tx ≡ None → tx.lock < height
          below_height f = by_test (nat_lt tx.lock height) refl f
            where
              by_test : (b : Bool) → nat_lt tx.lock height ≡ b → cond b None (Some reasons.Lock) ≡ None → tx.lock < height
              by_test true k g = grind (arith, nat_tests)
              by_test false k g = cc

    -- ---- both

    pub is_own : (t : Transaction) → own_transaction ts tx ≡ Some t → Own state height tx
    is_own t e =
        let r = found (has_bytes (stripped tx)) ts t e in
        let l = in_listed hash keys s t r.0 in
        by_which l.0 l.1 (subst (λ (x : Transaction). has_bytes (stripped tx) x ≡ true) l.2 r.1) (e ∙ ap Some l.2) l.0.which refl
      where
        by_which : (l : Listed) → Is_in l (listed hash keys s) → has_bytes (stripped tx) (transaction hash keys s.advert l) ≡ true
            → own_transaction ts tx ≡ Some (transaction hash keys s.advert l) → (w : Which) → l.which ≡ w → Own state height tx
        by_which l h k there names.Init named = begins (initial_own l h k there named)
        by_which l h k there (names.At path) named = takes (path_own l h k there path named)
