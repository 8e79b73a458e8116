-- What can't come is refused by each ledger that has what is live, and what isn't asked spends what isn't live.
use Rattle.std.proofs.Common.{◌≡◌, ℕ, zero, suc, ◌+◌, ◌<◌, ◌≤◌, List, [], ◌∷◌, ◌++◌, length, map, Bool, true, false, Option, Some, None}
use Rattle.std.proofs.Common.{refl, sym, ap, subst, ◌∙◌, inl, inr, cond, arith, length-append}
use Rattle.std.specs.Prelude.{◌⊎◌, ◌&&◌, ◌==◌, not, is_some, nat_lt, slice_get}
use Rattle.std.specs.List.{list_all, list_any, position_from, flat_map}
use Rattle.std.specs.Option.{option_map, option_map_or}
use Rattle.std.specs.Str.{bytes_eq}
use Rattle.std.proofs.lemmas.Bool.{both_ways, ne_eqb}
use Rattle.std.proofs.lemmas.Bool.Decides.{nat_tests}
use Rattle.spec_data.specs.Lists.{first_reason, or_else, is_among, look_up}
use Rattle.spec_terms.specs.Advert.{Advert}
use Rattle.spec_terms.specs.Core.{core, puts_of}
use Rattle.spec_terms.specs.Paths.{at, contract_under}
use Rattle.spec_terms.specs.Precondition.{Holding, persistent, volatile, deposits, names_of}
use Rattle.spec_terms.specs.Term as term
use Rattle.spec_terms.specs.Term.{Contract, branches, auth, after, put_reveal, withdraw, split, Parts, no_part, part}
use Rattle.spec_terms.specs.declared.path.PathStep.{PathStep}
use Rattle.spec_terms.specs.declared.path.PathStep.TheVariants.{Branch as To, Part as Into}
use Rattle.spec_bitcoin.specs.declared.tx.OutPoint.{OutPoint}
use Rattle.spec_bitcoin.specs.declared.tx.Tx.{Tx}
use Rattle.spec_bitcoin.specs.declared.tx.TxIn.{TxIn}
use Rattle.spec_bitcoin.specs.declared.tx.TxOut.{TxOut}
use Rattle.spec_bitcoin.specs.declared.verdict.Refusal.{Refusal}
use Rattle.spec_bitcoin.specs.declared.verdict.Refusal.TheVariants.{MissingInput, NotFinal}
use Rattle.spec_bitcoin.specs.declared.verdict.Verdict.{Verdict}
use Rattle.spec_bitcoin.specs.declared.verdict.Verdict.TheVariants as verdicts
use Rattle.spec_bitcoin.specs.Digests.{txid}
use Rattle.spec_bitcoin.specs.Live.{Chain, at_place as entry_at, same_outpoint}
use Rattle.spec_bitcoin.specs.Verdict.{first_missing, heeds_lock, is_not_final, number_or_zero, spent_number, numbers_from, whole_row, verdict_for}
use Rattle.spec_compiler.specs.declared.unsigned.Spent.{Spent}
use Rattle.spec_compiler.specs.declared.unsigned.Unsigned.{Unsigned}
use Rattle.spec_compiler.specs.Keyed.ByPath.{position_at}
use Rattle.spec_compiler.specs.Keyed.Instance.{Instance, branch_path}
use Rattle.spec_compiler.specs.Keyed.Keys.{Keys}
use Rattle.spec_compiler.specs.Keyed.Transactions.{Standing, deposit, holding_or_none, initial_unsigned, input_of, outpoint_or_none, tx_of}
use Rattle.spec_run.specs.Firing.{witnessed, with_witnesses}
use Rattle.spec_tool.specs.declared.which.Which.{Which}
use Rattle.spec_tool.specs.declared.which.Which.TheVariants as names
use Rattle.spec_tool.specs.Keyed.Listed.{Listed, listed, listed_at}
use Rattle.spec_deal.specs.Finished.{finished, witnesses}
use Rattle.spec_deal.specs.Needed.{needed_deposits}
use Rattle.spec_deal.specs.Setting.{deal_keys, deal_instance}
use Rattle.spec_deal.specs.Wallets.{input_wallet, spent_output}
use Rattle.theory_calculus.specs.Members.{Is_in}
use Rattle.theory_calculus.proofs.Members.{in_right, in_append, contains_from_in, all_in}
use Rattle.theory_calculus.proofs.Names.{bytes_refl, persistent_deposit, in_named, looked_in, named_looked}
use Rattle.theory_script.proofs.Keyed.Stands.{some_same}
use Rattle.theory_world.proofs.Same.{place_refl}
use Rattle.theory_deal.specs.Accepted.{judged_inputs, judged_verdict, output_at, input_checks, inputs_by, verdict_of}
use Rattle.theory_deal.proofs.ReadBranches.{puts_needed}
use Rattle.theory_deal.proofs.Ledger.Funded.{funded_at}
use Rattle.spec_chain.specs.declared.output.Held.{Held}
use Rattle.spec_chain.specs.declared.output.Held.TheVariants as helds
use Rattle.spec_chain.specs.declared.output.Output.{Output}
use Rattle.spec_chain.specs.declared.requirement.Requirement.{Requirement}
use Rattle.spec_chain.specs.Chain.{Course}
use Rattle.spec_chain.specs.Outputs.{is_position, is_deposit, has_place, deposit_outputs, held_by, branch_held, core_held, parts_held}
use Rattle.spec_chain.specs.Outstanding.{branches_from, branches_at, branches_of, has_begun, asked, known, deposits_needed, puts_by, outstanding}
use Rattle.theory_chain.specs.Ledgers.{HasLive, IsAcceptedBy, CanIsAccepted}
use Rattle.theory_chain.specs.Prospects.{CanExactly}
use Rattle.theory_chain.specs.Refused.{IsRefused, IsRefusedBy, CannotIsRefused, NotAskedIsSpent, AcceptedExactly}
use Rattle.theory_chain.proofs.ChainRuns.{chain_kept}
use Rattle.theory_chain.proofs.Exactly.{there_by_name}
use Rattle.theory_chain.proofs.Needs.{in_flat}
use Rattle.theory_chain.proofs.Deals.Outputs.{any_there, at_place, numbered_in, deposit_output, deposit_of, deposit_there}
use Rattle.theory_chain.proofs.Deals.Positions.{path_named, branch_at_path, position_made, compiled_at, same_outpoint as one_place}
use Rattle.theory_chain.proofs.Deals.Taken.{whole_deal}
use Rattle.theory_chain.proofs.Deals.Transactions.{IsHeld, IsPosition, OfBranch, of_branch, named_path}
use Rattle.theory_chain.proofs.Deals.Whole.{Whole, in_map, same_txid, stands_at}
use Rattle.theory_chain.proofs.Runs.Kept.{Kept, Came, first_place, false_of, deposit_apart}

-- ---- lists

-- a row of tests of which one is true has a first
some_reason : {R : Type 0} (ps : List (Bool × R)) (p : Bool × R) → Is_in p ps → p.0 ≡ true → (r : R) × (first_reason ps ≡ Some r)
some_reason [] p h e = absurd h
some_reason (q ∷ ps) p (inl same) e =
    (q.1, ap (λ (b : Bool). cond b (Some (q.1)) (first_reason ps)) (sym (ap (λ (x : Bool × _). x.0) same) ∙ e))
some_reason (q ∷ ps) p (inr h) e = by_test (q.0) (some_reason ps p h e)
  where
    by_test : (b : Bool) → (r : _) × (first_reason ps ≡ Some r) → (r : _) × (cond b (Some (q.1)) (first_reason ps) ≡ Some r)
    by_test true later = (q.1, refl)
    by_test false later = later

-- where not all pass, one fails
one_fails : {X : Type 0} (p : X → Bool) (xs : List X) → list_all p xs ≡ false → (x : X) × Is_in x xs × (p x ≡ false)
one_fails p [] e = cc
one_fails p (x ∷ xs) e = by_test (p x) refl e (one_fails p xs)
  where
    by_test : (b : Bool) → p x ≡ b → (b && list_all p xs) ≡ false → (list_all p xs ≡ false → (y : _) × Is_in y xs × (p y ≡ false))
        → (y : _) × Is_in y (x ∷ xs) × (p y ≡ false)
    by_test false k f later = (x, inl refl, k)
    by_test true k f later =
        let r = later f in
        (r.0, inr r.1, r.2)

-- a name is that of one of the deposits
of_name : (ds : List (List ℕ × Holding)) (x : List ℕ) → Is_in x (names_of ds) → (d : List ℕ × Holding) × Is_in d ds × (d.0 ≡ x)
of_name [] x h = absurd h
of_name (d ∷ ds) x (inl e) = (d, inl refl, sym e)
of_name (d ∷ ds) x (inr h) =
    let r = of_name ds x h in
    (r.0, inr r.1, r.2)

-- ---- verdicts

some_first : (b : Bool) (k : ℕ) (o : Option ℕ) → b ≡ true → is_some (cond b (Some k) o) ≡ true
some_first true k o e = refl
some_first false k o e = cc

some_later : (b : Bool) (k : ℕ) (o : Option ℕ) → is_some o ≡ true → is_some (cond b (Some k) o) ≡ true
some_later true k o e = refl
some_later false k o e = e

-- without witnesses inputs stay as they are
as_they_are : (is : List TxIn) → witnessed is [] ≡ is
as_they_are [] = refl
as_they_are (i ∷ is) = refl

-- witnesses don't change what is spent
first_spent : (t : OutPoint → Bool) (k : ℕ) (xs : List Spent) (ws : List (List (List ℕ))) (x : Spent) → Is_in x xs → t x.outpoint ≡ true
    → is_some (position_from (λ (i : TxIn). t i.prev) k (witnessed (map input_of xs) ws)) ≡ true
first_spent t k [] ws x h e = absurd h
first_spent t k (y ∷ xs) [] x (inl same) e =
    some_first (t y.outpoint) k (position_from (λ (i : TxIn). t i.prev) (k + 1) (map input_of xs)) (ap (λ (z : Spent). t z.outpoint) (sym same) ∙ e)
first_spent t k (y ∷ xs) [] x (inr h) e =
    some_later (t y.outpoint) k (position_from (λ (i : TxIn). t i.prev) (k + 1) (map input_of xs))
    (subst (λ (is : List TxIn). is_some (position_from (λ (i : TxIn). t i.prev) (k + 1) is) ≡ true) (as_they_are (map input_of xs))
    (first_spent t (k + 1) xs [] x h e))
first_spent t k (y ∷ xs) (w ∷ ws) x (inl same) e =
    some_first (t y.outpoint) k (position_from (λ (i : TxIn). t i.prev) (k + 1) (witnessed (map input_of xs) ws))
    (ap (λ (z : Spent). t z.outpoint) (sym same) ∙ e)
first_spent t k (y ∷ xs) (w ∷ ws) x (inr h) e =
    some_later (t y.outpoint) k (position_from (λ (i : TxIn). t i.prev) (k + 1) (witnessed (map input_of xs) ws))
    (first_spent t (k + 1) xs ws x h e)

no_entry : (o : Option (ℕ × TxOut)) → option_map (λ p. p.1) o ≡ None → not (is_some o) ≡ true
no_entry None e = refl
no_entry (Some p) e = cc

-- a lock binds the inputs of a plan, where there is one
heeds : (xs : List Spent) (ws : List (List (List ℕ))) → 0 < length xs → heeds_lock (witnessed (map input_of xs) ws) ≡ true
heeds [] ws h = absurd (omega (arith, h))
heeds (x ∷ xs) [] h = refl
heeds (x ∷ xs) (w ∷ ws) h = refl

is_less : (m n : ℕ) → m < n → nat_lt m n ≡ true
is_less m n h = grind (arith, nat_tests, h)

not_less : (m n : ℕ) → nat_lt m n ≡ false → n ≤ m
not_less m n h = grind (arith, nat_tests, h)

less : (m n : ℕ) → nat_lt m n ≡ true → m < n
less m n h = grind (arith, nat_tests, h)

-- whatever the inputs are refused for
module _ (inputs_refusal : Option Refusal) (chain : Chain) (d : Unsigned) (ws : List (List (List ℕ))) where
  abbrev tx : Tx
  tx = with_witnesses (tx_of d) ws

  abbrev judged : Verdict
  judged = verdict_for chain tx (or_else (first_reason (whole_row chain.tip chain.live tx)) inputs_refusal)

  -- a test on the whole transaction refuses it
  row_refuses : (p : Bool × Refusal) → Is_in p (whole_row chain.tip chain.live tx) → p.0 ≡ true → IsRefused judged
  row_refuses p h e =
      let r = some_reason (whole_row chain.tip chain.live tx) p h e in
      (r.0, ap (λ (o : Option Refusal). verdict_for chain tx (or_else o inputs_refusal)) r.1)

  -- it spends what isn't there
  missing_refuses : (x : Spent) → Is_in x d.spends → output_at chain.live x.outpoint ≡ None → IsRefused judged
  missing_refuses x h e =
      row_refuses (is_some (first_missing chain.live tx.inputs), MissingInput (number_or_zero (first_missing chain.live tx.inputs)))
      (inr (inr (inr (inl refl))))
      (first_spent (λ (p : OutPoint). not (is_some (entry_at chain.live p))) 0 d.spends ws x h (no_entry (entry_at chain.live x.outpoint) e))

  -- its lock is above the tip
  early_refuses : 0 < length d.spends → chain.tip < d.lock → IsRefused judged
  early_refuses some early =
      let locked : not (d.lock == 0) ≡ true = ap not (ne_eqb d.lock 0 (λ e. omega (arith, early, e))) in
      let low = is_less chain.tip d.lock early in
      let binds = heeds d.spends ws some in
      let bound : is_not_final chain.tip tx ≡ true = rw (binds, locked, low) refl in
      row_refuses (is_not_final chain.tip tx, NotFinal) (inr (inr (inr (inr (inr (inr (inl refl))))))) bound

-- ---- paths

-- how deep in the contract a transaction is
abbrev depth : Which → ℕ
depth names.Init = 0
depth (names.At path) = length path

no_payout : {party : List ℕ} {q : List PathStep} → helds.Payout party ≡ helds.Position q → ⊥
no_payout e = cc

path_of : {p q : List PathStep} → helds.Position p ≡ helds.Position q → p ≡ q
path_of e = cc

only : {X : Type 0} (x y : X) (k : ℕ) → slice_get (x ∷ []) k ≡ Some y → x ≡ y
only x y zero e = some_same e
only x y (suc k) e = cc

part_depth : (path : List PathStep) (j k : ℕ) (ps : Parts) (q : List PathStep) → slice_get (parts_held path j ps) k ≡ Some (helds.Position q)
    → length path ≤ length q
part_depth path j k no_part q e = cc
part_depth path j zero (part v c ps) q e =
    let n : length (path ++ Into j ∷ []) ≡ length q = ap length (path_of (some_same e)) in
    let m = length-append path (Into j ∷ []) in
    omega (arith, n, m)
part_depth path j (suc k) (part v c ps) q e = part_depth path (j + 1) k ps q e

core_depth : (path : List PathStep) (c : term.Guarded) (k : ℕ) (q : List PathStep) → slice_get (core_held path c) k ≡ Some (helds.Position q)
    → length path ≤ length q
core_depth path (put_reveal puts reveals test next) k q e =
    let n : length path ≡ length q = ap length (path_of (only (helds.Position path) (helds.Position q) k e)) in
    omega (arith, n)
core_depth path (withdraw party) k q e = absurd (no_payout (only (helds.Payout party) (helds.Position q) k e))
core_depth path (split parts) k q e = part_depth path 0 k parts q e
core_depth path (auth party body) k q e = cc
core_depth path (after height body) k q e = cc

-- a position is deeper than the transaction that makes it
held_depth : (advert : Advert) (w : Which) (k : ℕ) (q : List PathStep) → slice_get (held_by advert w) k ≡ Some (helds.Position q)
    → depth w ≤ length q
held_depth advert names.Init k q e = omega arith
held_depth advert (names.At path) k q e = by_branch (at advert.root path) e
  where
    by_branch : (o : Option term.Guarded) → slice_get (branch_held path o) k ≡ Some (helds.Position q) → length path ≤ length q
    by_branch None f = cc
    by_branch (Some b) f = core_depth path (core b) k q f

-- a branch of a position is among its branches
branches_in : (q : List PathStep) (j i : ℕ) (bs : List term.Guarded) (b : term.Guarded) → slice_get bs i ≡ Some b
    → Is_in (names.At (branch_path q (j + i))) (branches_from q j bs)
branches_in q j i [] b e = cc
branches_in q j zero (x ∷ bs) b e =
    let n : j + 0 ≡ j = omega arith in
    inl (ap (λ (m : ℕ). names.At (branch_path q m)) n)
branches_in q j (suc i) (x ∷ bs) b e =
    let n : (j + 1) + i ≡ j + suc i = omega arith in
    inr (subst (λ (m : ℕ). Is_in (names.At (branch_path q m)) (branches_from q (j + 1) bs)) n (branches_in q (j + 1) i bs b e))

-- ---- first places

abbrev head_of : List OutPoint → Option OutPoint
head_of [] = None
head_of (p ∷ ps) = Some p

first_of : (xs : List Spent) → first_place xs ≡ head_of (map (λ (y : TxIn). y.prev) (map input_of xs))
first_of [] = refl
first_of (y ∷ xs) = refl

first_same : (d e : Unsigned) → tx_of d ≡ tx_of e → first_place d.spends ≡ first_place e.spends
first_same d e same =
    first_of d.spends ∙ ap (λ (t : Tx). head_of (map (λ (y : TxIn). y.prev) t.inputs)) same ∙ sym (first_of e.spends)

first_in : (xs : List Spent) (place : OutPoint) → first_place xs ≡ Some place → (x : Spent) × Is_in x xs × (x.outpoint ≡ place)
first_in [] place e = cc
first_in (x ∷ xs) place e = (x, inl refl, some_same e)

-- ---- what isn't live

module _ (hash : List ℕ → List ℕ) (keys : Keys) (s : Instance) (whole : Whole hash keys s) (course : Course) (kept : Kept hash keys s course) where
  abbrev place_of : List ℕ → OutPoint
  place_of x = outpoint_or_none (look_up x s.bound)

  -- a transaction spends what isn't live
  record Gone (d : Unsigned) : Type 0 where
    input : Spent
    among : Is_in input d.spends
    gone : has_place course.state.live input.outpoint ≡ false

  -- where a deposit isn't live, nothing live lies at its place
  deposit_gone : (x : List ℕ) → is_among x (needed_deposits s.advert) ≡ true → list_any (is_deposit x) course.state.live ≡ false
      → has_place course.state.live (place_of x) ≡ false
  deposit_gone x among gone =
      false_of (has_place course.state.live (place_of x)) (λ there.
      let o = at_place course.state.live (place_of x) there in
      by_kind (o.0) o.1 o.2 (kept.live (o.0) o.1))
    where
      by_kind : (o : Output) → Is_in o course.state.live → o.place ≡ place_of x
          → Is_in o (deposit_outputs s) ⊎ (Is_in o course.state.made × (is_position o ≡ true)) → ⊥
      by_kind o h e (inl i) =
          let d = deposit_of s o i in
          let q : place_of x ≡ place_of (d.0.0) = sym e ∙ ap (λ (y : Output). y.place) d.2 in
          let name : d.0.0 ≡ x =
          whole.apart.apart (d.0.0) x (in_named (deposits s.advert.pre) d.0 (numbered_in 0 (deposits s.advert.pre) o.number d.0 d.1)) among
          (ap (same_outpoint (place_of (d.0.0))) q ∙ place_refl (place_of (d.0.0))) in
          both_ways _ gone
          (any_there (is_deposit x) course.state.live o h
          (ap (is_deposit x) d.2 ∙ ap (λ (n : List ℕ). bytes_eq n x) name ∙ bytes_refl x))
      by_kind o h e (inr i) =
          let c = kept.made o i.0 in
          let v = named_looked (deposits s.advert.pre) x among in
          let there = deposit_there s (x, v.0) (looked_in (deposits s.advert.pre) x (v.0) v.1) in
          deposit_apart hash keys s whole (deposit_output s there.0 (x, v.0)) there.1 c.by_which c.among
          (c.id ∙ ap (λ (p : OutPoint). p.txid) e)

  -- what lives at a position's place is the position
  position_live : (q : List PathStep) (here : Standing) (choice : Contract) → position_at hash keys s q ≡ Some (here, choice)
      → has_place course.state.live here.output.outpoint ≡ true
      → (o : Output) × Is_in o course.state.live × (o.held ≡ helds.Position q)
  position_live q here choice e there =
      let o = at_place course.state.live here.output.outpoint there in
      by_kind (o.0) o.1 o.2 (kept.live (o.0) o.1)
    where
      no : false ≡ true → ⊥
      no f = cc

      by_held : (o : Output) (k : Held) → o.held ≡ k → Is_in o course.state.live → o.place ≡ here.output.outpoint → is_position o ≡ true
          → IsHeld hash keys s o.held o.place o.value → (x : Output) × Is_in x course.state.live × (x.held ≡ helds.Position q)
      by_held o (helds.Deposit name) k h place is fine =
          absurd (no (subst (λ (y : Held). is_position (record { number = o.number; held = y; place = o.place; value = o.value }) ≡ true) k is))
      by_held o (helds.Payout party) k h place is fine =
          absurd (no (subst (λ (y : Held). is_position (record { number = o.number; held = y; place = o.place; value = o.value }) ≡ true) k is))
      by_held o (helds.Position r) k h place is fine =
          let p : IsPosition hash keys s r o.place o.value = subst (λ (y : Held). IsHeld hash keys s y o.place o.value) k fine in
          let same = one_place hash keys s whole q r here p.here choice p.choice e p.stands (sym place ∙ sym p.place_is) in
          (o, h, k ∙ ap helds.Position (sym same))

      by_kind : (o : Output) → Is_in o course.state.live → o.place ≡ here.output.outpoint
          → Is_in o (deposit_outputs s) ⊎ (Is_in o course.state.made × (is_position o ≡ true))
          → (x : Output) × Is_in x course.state.live × (x.held ≡ helds.Position q)
      by_kind o h place (inl i) =
          let m = position_made hash keys s q here choice e in
          absurd (deposit_apart hash keys s whole o i m.by_which m.among (ap (λ (p : OutPoint). p.txid) (sym m.place ∙ sym place)))
      by_kind o h place (inr i) = by_held o o.held refl h place i.1 (kept.made o i.0).fine

  -- each branch of a live position is asked
  asked_branch : (o : Output) → Is_in o course.state.live → (q : List PathStep) → o.held ≡ helds.Position q → (choice : Contract)
      → contract_under s.advert.root q ≡ Some choice → (i : ℕ) (b : term.Guarded) → slice_get (branches choice) i ≡ Some b
      → Is_in (names.At (branch_path q i)) (asked s course.state)
  asked_branch o h q held choice under i b there =
      let n : 0 + i ≡ i = omega arith in
      let among = subst (λ (m : ℕ). Is_in (names.At (branch_path q m)) (branches_from q 0 (branches choice))) n (branches_in q 0 i (branches choice) b there) in
      let of_place : Is_in (names.At (branch_path q i)) (branches_at s q) =
      subst (λ (x : Option Contract). Is_in (names.At (branch_path q i)) (option_map_or (λ c. branches_from q 0 (branches c)) x [])) (sym under) among in
      let of_output : Is_in (names.At (branch_path q i)) (branches_of s o) =
      subst (λ (y : Held). Is_in (names.At (branch_path q i)) (branches_of s (record { number = o.number; held = y; place = o.place; value = o.value })))
      (sym held) of_place in
      in_right (names.At (branch_path q i)) (cond (has_begun course.state) [] (names.Init ∷ [])) (flat_map (branches_of s) course.state.live)
      (in_flat (branches_of s) course.state.live o (names.At (branch_path q i)) h of_output)

  path_gone : (path : List PathStep) (l : Listed) → listed_at hash keys s (names.At path) ≡ Some l
      → (Is_in (names.At path) (asked s course.state) → ⊥) → Gone l.pending
  path_gone path l named unasked =
      let n = named_path hash keys s path l named in
      let of = of_branch hash keys s path n.0 n.1 in
      record {
        input = of.here.output;
        among =
            subst (λ (y : Listed). Is_in of.here.output y.pending.spends) (sym n.2)
            (subst (λ (d : Unsigned). Is_in of.here.output d.spends) (sym of.is) (inl refl));
        gone =
            false_of (has_place course.state.live of.here.output.outpoint) (λ there.
            let o = position_live of.here.position of.here of.choice of.stands there in
            let under = (compiled_at hash keys s whole of.here.position of.here of.choice of.stands).is_position in
            unasked
            (subst (λ (p : List PathStep). Is_in (names.At p) (asked s course.state)) (path_named hash keys s path of.here of.i of.b of.ends)
            (asked_branch (o.0) o.1 of.here.position o.2 of.choice under of.i of.b of.there)));
      }

  -- ---- what has begun

  -- an output came by a transaction that has the bytes of this one
  record CameBy (m : Listed) : Type 0 where
    output : Output
    came : Came hash keys s course.state output
    among : Is_in m (listed hash keys s)
    same : tx_of came.by_which.pending ≡ tx_of m.pending

  -- it is the initial one, or its position came by one that is less deep
  one_back : (m : Listed) (c : CameBy m) → ((n : Listed) → CameBy n → suc (depth n.which) ≤ depth m.which → Gone (initial_unsigned hash keys s))
      → Gone (initial_unsigned hash keys s)
  one_back m c back = by_name m.which refl
    where
      firsts : first_place m.pending.spends ≡ Some c.came.first
      firsts = sym (first_same c.came.by_which.pending m.pending c.same) ∙ c.came.first_is

      by_place : (path : List PathStep) → m.which ≡ names.At path → (d : Unsigned) (of : OfBranch hash keys s path d) → m.pending ≡ d
          → (x : Output) → Is_in x (deposit_outputs s) ⊎ Is_in x course.state.made → x.place ≡ c.came.first → Gone (initial_unsigned hash keys s)
      by_place path e d of pending x kind place =
          let first : of.here.output.outpoint ≡ c.came.first =
          some_same (sym (ap (λ (y : Unsigned). first_place y.spends) (pending ∙ of.is)) ∙ firsts) in
          let made = position_made hash keys s of.here.position of.here of.choice of.stands in
          let there : txid hash (tx_of made.by_which.pending) ≡ x.place.txid = ap (λ (p : OutPoint). p.txid) (sym made.place ∙ first ∙ sym place) in
          by_kind kind made.by_which made.among there (held_depth s.advert made.by_which.which made.vout of.here.position made.held)
          (ap length (path_named hash keys s path of.here of.i of.b of.ends))
        where
          by_kind : Is_in x (deposit_outputs s) ⊎ Is_in x course.state.made → (n : Listed) → Is_in n (listed hash keys s)
              → txid hash (tx_of n.pending) ≡ x.place.txid → depth n.which ≤ length of.here.position
              → length (branch_path of.here.position of.i) ≡ length path → Gone (initial_unsigned hash keys s)
          by_kind (inl i) n among there low long = absurd (deposit_apart hash keys s whole x i n among there)
          by_kind (inr i) n among there low long =
              let came = kept.made x i in
              let one = length-append of.here.position (To of.i ∷ []) in
              let deep : depth m.which ≡ length path = ap depth e in
              back n
              (record { output = x; came = came; among = among; same = same_txid hash keys s whole came.by_which n came.among among (came.id ∙ sym there) })
              (omega (arith, low, long, one, deep))

      by_name : (w : Which) → m.which ≡ w → Gone (initial_unsigned hash keys s)
      by_name names.Init e =
          let named : listed_at hash keys s names.Init ≡ Some m = ap (listed_at hash keys s) (sym e) ∙ there_by_name hash keys s m c.among in
          let pending : initial_unsigned hash keys s ≡ m.pending = ap (λ (y : Listed). y.pending) (some_same named) in
          let x = first_in (initial_unsigned hash keys s).spends c.came.first (ap (λ (d : Unsigned). first_place d.spends) pending ∙ firsts) in
          record { input = x.0; among = x.1; gone = ap (has_place course.state.live) x.2 ∙ c.came.spent }
      by_name (names.At path) e =
          let named : listed_at hash keys s (names.At path) ≡ Some m = ap (listed_at hash keys s) (sym e) ∙ there_by_name hash keys s m c.among in
          let n = named_path hash keys s path m named in
          let x = c.came.there in
          by_place path e n.0 (of_branch hash keys s path n.0 n.1) (ap (λ (y : Listed). y.pending) n.2) x.0
          (in_append x.0 (deposit_outputs s) course.state.made x.1) x.2

  all_back : (n : ℕ) (m : Listed) → CameBy m → depth m.which ≤ n → Gone (initial_unsigned hash keys s)
  all_back zero m c low = one_back m c (λ k d deep. absurd (omega (arith, low, deep)))
  all_back (suc n) m c low = one_back m c (λ k d deep. all_back n k d (omega (arith, low, deep)))

  -- once anything was made, the initial transaction is spent
  begun_gone : has_begun course.state ≡ true → Gone (initial_unsigned hash keys s)
  begun_gone e = by_made course.state.made refl e
    where
      by_made : (os : List Output) → course.state.made ≡ os → not (length os == 0) ≡ true → Gone (initial_unsigned hash keys s)
      by_made [] f g = cc
      by_made (o ∷ os) f g =
          let c = kept.made o (subst (Is_in o) (sym f) (inl refl)) in
          all_back (depth c.by_which.which) c.by_which (record { output = o; came = c; among = c.among; same = refl }) (omega arith)

  initial_gone : (Is_in names.Init (asked s course.state) → ⊥) → Gone (initial_unsigned hash keys s)
  initial_gone unasked = by_begun (has_begun course.state) refl
    where
      by_begun : (b : Bool) → has_begun course.state ≡ b → Gone (initial_unsigned hash keys s)
      by_begun true e = begun_gone e
      by_begun false e =
          absurd (unasked
          (subst (λ (b : Bool). Is_in names.Init (cond b [] (names.Init ∷ []) ++ flat_map (branches_of s) course.state.live)) (sym e) (inl refl)))

  -- what isn't asked
  unasked_gone : (which : Which) (l : Listed) → listed_at hash keys s which ≡ Some l → (Is_in which (asked s course.state) → ⊥) → Gone l.pending
  unasked_gone names.Init l named unasked = subst (λ (y : Listed). Gone y.pending) (some_same named) (initial_gone unasked)
  unasked_gone (names.At path) l named unasked = path_gone path l named unasked

  -- ---- what isn't funded

  initial_unfunded : (x : List ℕ) → Is_in x (deposits_needed s names.Init) → list_any (is_deposit x) course.state.live ≡ false
      → Gone (initial_unsigned hash keys s)
  initial_unfunded x h e =
      let d = of_name (persistent s.advert.pre) x h in
      let among = in_named (deposits s.advert.pre) (d.0) (persistent_deposit s.advert.pre (d.0) d.1) in
      record {
        input = deposit hash keys s (d.0.0) (d.0.1);
        among = in_map (λ (p : List ℕ × Holding). deposit hash keys s p.0 p.1) (persistent s.advert.pre) d.0 d.1;
        gone = deposit_gone (d.0.0) among (ap (λ (n : List ℕ). list_any (is_deposit n) course.state.live) d.2 ∙ e);
      }

  path_unfunded : (path : List PathStep) (d : Unsigned) (of : OfBranch hash keys s path d) (x : List ℕ) → Is_in x (puts_by (at s.advert.root path))
      → list_any (is_deposit x) course.state.live ≡ false → Gone d
  path_unfunded path d of x h e =
      let put : Is_in x (puts_of (core of.b)) =
      subst (λ (o : Option term.Guarded). Is_in x (puts_by o)) (branch_at_path hash keys s path of.here of.i of.b of.ends) h in
      let all = puts_needed hash keys s whole.checked path of.here of.i of.b of.ends in
      let name : List ℕ → Spent = λ n. deposit hash keys s n (holding_or_none (look_up n (volatile s.advert.pre))) in
      record {
        input = name x;
        among = subst (λ (u : Unsigned). Is_in (name x) u.spends) (sym of.is) (inr (in_map name (puts_of (core of.b)) x put));
        gone = deposit_gone x (all_in (λ n. is_among n (needed_deposits s.advert)) (puts_of (core of.b)) x all put) e;
      }

  unfunded_gone : (which : Which) (l : Listed) → listed_at hash keys s which ≡ Some l → (x : List ℕ) → Is_in x (deposits_needed s which)
      → list_any (is_deposit x) course.state.live ≡ false → Gone l.pending
  unfunded_gone names.Init l named x h e = subst (λ (y : Listed). Gone y.pending) (some_same named) (initial_unfunded x h e)
  unfunded_gone (names.At path) l named x h e =
      let n = named_path hash keys s path l named in
      subst (λ (y : Listed). Gone y.pending) (sym n.2) (path_unfunded path n.0 (of_branch hash keys s path n.0 n.1) x h e)

  -- ---- ledgers

  gone_refuses : (l : Listed) → Gone l.pending → (inputs_refusal : Option Refusal) (chain : Chain) (ws : List (List (List ℕ)))
      → HasLive hash keys s course.state l chain.live → IsRefused (judged inputs_refusal chain l.pending ws)
  gone_refuses l g inputs_refusal chain ws live =
      let n = stands_at l.pending.spends g.input g.among in
      missing_refuses inputs_refusal chain l.pending ws g.input g.among
      (live n.0 g.input n.1
      ∙ ap (λ (b : Bool). cond b (Some (spent_output hash (input_wallet keys s.advert l.which n.0) g.input)) None) g.gone)

-- ---- the whole

-- what is refused whatever its inputs are refused for is refused by each check
by_each : (hash : List ℕ → List ℕ) (chain : Chain) (d : Unsigned) (ws : List (List (List ℕ)))
    → ((inputs_refusal : Option Refusal) → IsRefused (judged inputs_refusal chain d ws))
    → IsRefusedBy hash chain (with_witnesses (tx_of d) ws)
by_each hash chain d ws refused = record {
  by_oracle = λ oracle. refused (judged_inputs hash oracle chain.live 0 (with_witnesses (tx_of d) ws).inputs);
  by_input_checks = λ input_check.
      refused (inputs_by hash input_check chain.live (with_witnesses (tx_of d) ws) 0 (with_witnesses (tx_of d) ws).inputs);
}

pub cannot_is_refused : CanExactly → CannotIsRefused
cannot_is_refused exactly v hash advert deal text course tip given strings which l chain d followed named finishes cannot live top =
    by_each hash chain l.pending ws (λ inputs_refusal. by_lock inputs_refusal (nat_lt tip l.pending.lock) refl)
  where
    keys : Keys
    keys = deal_keys deal

    s : Instance
    s = deal_instance advert deal

    ws : List (List (List ℕ))
    ws = witnesses hash (deal_keys deal) (deal_instance advert deal) given (known course.state strings) l l.which

    by_funded : (inputs_refusal : Option Refusal) → l.pending.lock ≤ tip → (b : Bool)
        → list_all (λ x. list_any (is_deposit x) course.state.live) (deposits_needed s which) ≡ b
        → IsRefused (judged inputs_refusal chain l.pending ws)
    by_funded inputs_refusal final true e =
        absurd (cannot
        ((exactly hash keys s given (known course.state strings) course.state tip which l named).1
        (record { finishes = finishes; final = final; funded = e })))
    by_funded inputs_refusal final false e =
        let whole = whole_deal v hash advert deal d in
        let kept = chain_kept hash keys s text course tip followed whole in
        let x = one_fails (λ y. list_any (is_deposit y) course.state.live) (deposits_needed s which) e in
        gone_refuses hash keys s whole course kept l (unfunded_gone hash keys s whole course kept which l named x.0 x.1 x.2) inputs_refusal chain
        ws live

    by_lock : (inputs_refusal : Option Refusal) (b : Bool) → nat_lt tip l.pending.lock ≡ b → IsRefused (judged inputs_refusal chain l.pending ws)
    by_lock inputs_refusal true e =
        early_refuses inputs_refusal chain l.pending ws (funded_at hash keys s d.checked which l named).some
        (subst (λ (n : ℕ). n < l.pending.lock) (sym top) (less tip l.pending.lock e))
    by_lock inputs_refusal false e =
        by_funded inputs_refusal (not_less tip l.pending.lock e)
        (list_all (λ x. list_any (is_deposit x) course.state.live) (deposits_needed s which)) refl

pub not_asked_is_spent : NotAskedIsSpent
not_asked_is_spent v hash advert deal text course tip which l d followed named unasked =
    let keys = deal_keys deal in
    let s : Instance = deal_instance advert deal in
    let whole = whole_deal v hash advert deal d in
    let kept = chain_kept hash keys s text course tip followed whole in
    let g = unasked_gone hash keys s whole course kept which l named (λ h. unasked (contains_from_in (asked s course.state) which h)) in
    record {
      input = g.input;
      among = contains_from_in l.pending.spends g.input g.among;
      gone = g.gone;
      refused = λ chain ws live.
          by_each hash chain l.pending ws (λ inputs_refusal. gone_refuses hash keys s whole course kept l g inputs_refusal chain ws live);
    }

-- what is accepted isn't refused, so that no line stands below it
none_stands : (lines : List Requirement) (numbers births : List ℕ) (verdict : Verdict) → ((lines ≡ [] → ⊥) → IsRefused verdict)
    → verdict ≡ verdicts.Accepted numbers births → lines ≡ []
none_stands [] numbers births verdict refused ok = refl
none_stands (r ∷ rs) numbers births verdict refused ok =
    let no = refused filled in
    absurd (not_both (sym ok ∙ no.1))
  where
    not_both : {a b : List ℕ} {why : Refusal} → verdicts.Accepted a b ≡ verdicts.Refused why → ⊥
    not_both e = cc

    filled : r ∷ rs ≡ [] → ⊥
    filled e = cc

pub accepted_exactly : CanIsAccepted → CannotIsRefused → AcceptedExactly
accepted_exactly accepted refused v hash
    advert deal text file course tip given strings which l oracle chain d followed read fits named asked_for finishes accepting live top =
    let keys = deal_keys deal in
    let s : Instance = deal_instance advert deal in
    let lines = outstanding hash keys s given (known course.state strings) course.state tip which in
    let tx = finished hash keys s given (known course.state strings) l in
    let can : lines ≡ [] → IsAcceptedBy hash keys s l oracle chain tx =
    λ none. accepted v hash advert deal text
    file course tip given strings which l oracle chain d followed read fits named asked_for none accepting live top in
    let cannot : (lines ≡ [] → ⊥) → IsRefusedBy hash chain tx =
    λ some. refused v hash advert deal text course tip given strings which l chain d followed named finishes some live top in
    record {
      by_oracle = λ of_keys. (
        λ none. (can none).by_oracle of_keys,
        none_stands lines (map (spent_number chain.live) tx.inputs) (numbers_from chain.births tx.outputs) (judged_verdict hash oracle chain tx)
            (λ some. (cannot some).by_oracle oracle),
      );
      by_input_checks = λ takes taken. (
        λ none. (can none).by_input_checks takes taken,
        none_stands lines (map (spent_number chain.live) tx.inputs) (numbers_from chain.births tx.outputs)
            (verdict_of hash (input_checks keys s l oracle takes) chain tx)
            (λ some. (cannot some).by_input_checks (input_checks keys s l oracle takes)),
      );
    }
