-- The steps of a branch's transaction are legal, and the configuration tracks the chain after them.
use Rattle.std.proofs.Common.{◌≡◌, ℕ, suc, ◌+◌, ◌-◌, ◌≤◌, List, [], ◌∷◌, ◌++◌, length, map, Bool, true, false, Option, Some, None}
use Rattle.std.proofs.Common.{refl, sym, ap, subst, ◌∙◌, inl, inr, cond, append-nil}
use Rattle.std.specs.Prelude.{◌⊎◌, ◌||◌, ◌&&◌, ◌==◌, not, is_some, nat_le}
use Rattle.std.specs.List.{filter, flat_map}
use Rattle.std.specs.Option.{option_map_or}
use Rattle.std.specs.Str.{bytes_eq}
use Rattle.std.proofs.lemmas.Bool.{and_from, both_ways, eq-eqb, eqb-true, or_left, or_right}
use Rattle.spec_data.specs.Lists.{AllTrue, look_up, is_among}
use Rattle.spec_data.specs.Ranges.{most_secret_length}
use Rattle.spec_terms.specs.Advert.{Advert}
use Rattle.spec_terms.specs.Term as term
use Rattle.spec_terms.specs.Term.{Contract, branches, Parts, no_part, part, auth, after, put_reveal, withdraw, split}
use Rattle.spec_terms.specs.Core.{core, asks, is_asked, lock, puts_of, reveals_of, test_of}
use Rattle.spec_terms.specs.Paths.{at}
use Rattle.spec_terms.specs.Precondition.{deposits, volatile, value_of_puts}
use Rattle.spec_terms.specs.Value.{holds}
use Rattle.spec_terms.specs.declared.path.PathStep.{PathStep}
use Rattle.spec_terms.specs.declared.path.PathStep.TheVariants.{Branch as To}
use Rattle.spec_calculus.specs.declared.step.Owner.TheVariants as owners
use Rattle.spec_calculus.specs.declared.step.Step.{Step}
use Rattle.spec_calculus.specs.declared.step.Step.TheVariants as steps
use Rattle.spec_calculus.specs.declared.parts.Deposit.{Deposit as LiveDeposit}
use Rattle.spec_calculus.specs.declared.parts.ActiveContract.{ActiveContract}
use Rattle.spec_calculus.specs.declared.parts.Advertised.{Advertised}
use Rattle.spec_calculus.specs.declared.parts.BranchAuthorisation.{BranchAuthorisation}
use Rattle.spec_calculus.specs.Beginning.{contract_at, pre_of, fee_of, bindings_of, are_there, numbers_of}
use Rattle.spec_calculus.specs.Branches.{active_at, contract_number, advert_of, branch_of, branch_in, asks_of, lock_of, has_branch_authorised, have_branch_authorised, is_put_core, is_withdraw, is_withdraw_core, is_split, is_split_core, puts_of_taken, payee_of, payee_in, values_of, values_in, part_values, gone, total_value, others, parts_made, are_revealed, secret_lengths}
use Rattle.spec_calculus.specs.Configuration.{Configuration}
use Rattle.spec_calculus.specs.Moves.{kept}
use Rattle.spec_calculus.specs.Steps.{branch_at, with_branch, continued, withdrawn, divided, effect, after_steps, Legal, auth_branch_premises, put_reveal_premises, withdraw_premises, split_premises}
use Rattle.spec_bitcoin.specs.declared.tx.OutPoint.{OutPoint}
use Rattle.spec_bitcoin.specs.declared.tx.Tx.{Tx}
use Rattle.spec_bitcoin.specs.declared.tx.TxIn.{TxIn}
use Rattle.spec_bitcoin.specs.declared.tx.TxOut.{TxOut}
use Rattle.spec_bitcoin.specs.Digests.{txid}
use Rattle.spec_bitcoin.specs.Live.{same_outpoint as same_place}
use Rattle.spec_compiler.specs.declared.unsigned.Spent.{Spent}
use Rattle.spec_compiler.specs.declared.unsigned.Unsigned.{Unsigned}
use Rattle.spec_compiler.specs.Keyed.ByPath.{position_at}
use Rattle.spec_compiler.specs.Keyed.Instance.{Instance, people, branch_path}
use Rattle.spec_compiler.specs.Keyed.Keys.{Keys}
use Rattle.spec_compiler.specs.Keyed.Transactions.{Standing, tx_of, part_position, part_outputs, core_outputs, put_deposits, deposit, holding_or_none}
use Rattle.spec_run.specs.Steps.{auth_branch, core_step}
use Rattle.spec_deal.specs.Needed.{deal_contract, needed_deposits}
use Rattle.theory_calculus.specs.Members.{Is_in}
use Rattle.theory_calculus.proofs.Funded.{IsFine}
use Rattle.theory_calculus.proofs.Members.{in_filter, all_in, found}
use Rattle.theory_calculus.proofs.Names.{bytes-true, bytes_refl, named_looked, looked_in, all_among}
use Rattle.theory_calculus.proofs.Standing.{taken_by as taken_at, put_value}
use Rattle.theory_script.proofs.Keyed.Stands.{some_same}
use Rattle.theory_world.proofs.Contracts.Mentions.{branch_named, asked_mentioned}
use Rattle.theory_world.proofs.Same.{place-true, place_refl}
use Rattle.theory_world.proofs.Tests.{any-append}
use Rattle.theory_deal.proofs.Listed.{none_found}
use Rattle.theory_deal.proofs.ReadBranches.{puts_needed}
use Rattle.theory_run.proofs.Steps.Awaiting.{asked_all, after-asked, asked_all_more}
use Rattle.theory_run.proofs.Steps.CommitSteps.{every}
use Rattle.theory_run.proofs.Steps.Legal.{passes, after-append, legal_append}
use Rattle.spec_chain.specs.declared.happened.Happened.{Happened}
use Rattle.spec_chain.specs.declared.output.Held.{Held}
use Rattle.spec_chain.specs.declared.output.Held.TheVariants as helds
use Rattle.spec_chain.specs.declared.output.Output.{Output}
use Rattle.spec_chain.specs.Chain.{Course}
use Rattle.spec_chain.specs.Following.{branch_steps, first_spent}
use Rattle.spec_chain.specs.Outputs.{is_position, is_there, has_place, output_there, without_all, made_from, core_held, parts_held, deposit_outputs}
use Rattle.theory_chain.specs.ChainSteps.{deal_bindings, taken_by, paid_deposit, active_contract, revealed_secret}
use Rattle.theory_chain.proofs.Deals.Whole.{Whole, from_map, in_map}
use Rattle.theory_chain.proofs.Deals.Positions.{path_named, branch_at_path, in_flat, among_is, position_made, same_outpoint}
use Rattle.theory_chain.proofs.Deals.Outputs.{at_place, any_there, there_of, deposit_of}
use Rattle.theory_chain.proofs.Deals.Transactions.{OfBranch, IsPosition, IsHeld}
use Rattle.theory_chain.proofs.Runs.Agreed.{fine_along}
use Rattle.theory_chain.proofs.Runs.Kept.{Kept, deposit_apart}
use Rattle.theory_chain.proofs.Runs.Left.{flat_append, lies_at, contracts_left, ascending_found, deposits_after}
use Rattle.theory_chain.proofs.Runs.Tracking.{Tracks, Counts, numbers_are, numbers_later, deposits_left, position_apart}

-- ---- authorisations

asked_there : (xs : List BranchAuthorisation) (n i : ℕ) (p : List ℕ) → has_branch_authorised (with_branch xs p n i) n i p ≡ true
asked_there xs n i p = by_test (has_branch_authorised xs n i p) refl
  where
    by_test : (b : Bool) → has_branch_authorised xs n i p ≡ b
        → has_branch_authorised (cond b xs (xs ++ record { party = p; output = n; branch = i } ∷ [])) n i p ≡ true
    by_test true e = e
    by_test false e =
        any-append (λ (a : BranchAuthorisation). bytes_eq a.party p && (a.output == n) && (a.branch == i)) xs
        (record { party = p; output = n; branch = i } ∷ [])
        ∙ or_right (has_branch_authorised xs n i p) _ (or_left _ _ (and_from _ _ (and_from _ _ (bytes_refl p) (eq-eqb n n refl)) (eq-eqb i i refl)))

-- whom these authorisations are of has authorised
asked_of : (xs : List BranchAuthorisation) (n i : ℕ) (ps : List (List ℕ)) (q : List ℕ) → is_among q ps ≡ true
    → has_branch_authorised (asked_all xs n i ps) n i q ≡ true
asked_of xs n i [] q h = cc
asked_of xs n i (p ∷ ps) q h = by_test (bytes_eq p q) refl h (asked_of (with_branch xs p n i) n i ps q)
  where
    by_test : (b : Bool) → bytes_eq p q ≡ b → (b || is_among q ps) ≡ true
        → (is_among q ps ≡ true → has_branch_authorised (asked_all (with_branch xs p n i) n i ps) n i q ≡ true)
        → has_branch_authorised (asked_all (with_branch xs p n i) n i ps) n i q ≡ true
    by_test true e k later =
        asked_all_more (with_branch xs p n i) n i n i ps q
        (subst (λ (r : List ℕ). has_branch_authorised (with_branch xs p n i) n i r ≡ true) (bytes-true p q e) (asked_there xs n i p))
    by_test false e k later = later k

asked_among : (f : List ℕ → Bool) (a : List ℕ) (ps : List (List ℕ)) → f a ≡ true → is_among a ps ≡ true → is_among a (filter f ps) ≡ true
asked_among f a [] e h = cc
asked_among f a (p ∷ ps) e h = by_test (f p) (bytes_eq p a) refl refl h (asked_among f a ps e)
  where
    by_test : (b c : Bool) → f p ≡ b → bytes_eq p a ≡ c → (c || is_among a ps) ≡ true → (is_among a ps ≡ true → is_among a (filter f ps) ≡ true)
        → is_among a (cond b (p ∷ filter f ps) (filter f ps)) ≡ true
    by_test true true k l m later = or_left _ _ l
    by_test true false k l m later = or_right (bytes_eq p a) _ (later m)
    by_test false true k l m later =
        absurd (both_ways _ k (subst (λ (r : List ℕ). f r ≡ true) (sym (bytes-true p a l)) e))
    by_test false false k l m later = later m

asks_legal : (g : Configuration) (n i : ℕ) (active : ActiveContract) (b : term.Guarded) → active_at g.active n ≡ Some active
    → branch_at g n i ≡ Some b → (ps : List (List ℕ)) (xs : List BranchAuthorisation)
    → ((p : List ℕ) → Is_in p ps → is_among p (asks b) ≡ true) → Legal (record g { branch_authorised = xs }) (map (auth_branch n i) ps)
asks_legal g n i active b ea eb [] xs h = tt
asks_legal g n i active b ea eb (p ∷ ps) xs h =
    let row : AllTrue (auth_branch_premises p (active_at g.active n) (branch_at g n i)) =
    (ap is_some ea, (ap is_some eb, (ap (λ o. is_among p (asks_of o)) eb ∙ h p (inl refl), tt))) in
    (passes (record g { branch_authorised = xs }) (auth_branch n i p) row, asks_legal g n i active b ea eb ps (with_branch xs p n i) (λ q k. h q (inr k)))

-- ---- what is made

-- a continuation is worth what stands there
one_position : (txid : List ℕ) (n : ℕ) (path : List PathStep) (o : TxOut)
    → flat_map active_contract (filter is_position (made_from txid 0 n (helds.Position path ∷ []) (o ∷ [])))
    ≡ record { number = n; contract = deal_contract; position = path; balance = o.value } ∷ []
one_position txid n path o = refl

module _ (hash : List ℕ → List ℕ) (keys : Keys) (s : Instance) where
  parts_active : (txid : List ℕ) (path at' : List PathStep) (j n : ℕ) (ps : Parts)
      → flat_map active_contract (filter is_position (made_from txid j n (parts_held path j ps) (part_outputs hash keys s at' j ps)))
      ≡ parts_made n deal_contract path j (part_values ps)
  parts_active txid path at' j n no_part = refl
  parts_active txid path at' j n (part v c ps) =
      ap (λ (xs : List ActiveContract). record { number = n; contract = deal_contract; position = part_position path j; balance = v } ∷ xs)
      (parts_active txid path at' (j + 1) (n + 1) ps)

  parts_paid : (txid : List ℕ) (path at' : List PathStep) (j n : ℕ) (ps : Parts)
      → flat_map paid_deposit (made_from txid j n (parts_held path j ps) (part_outputs hash keys s at' j ps)) ≡ []
  parts_paid txid path at' j n no_part = refl
  parts_paid txid path at' j n (part v c ps) = parts_paid txid path at' (j + 1) (n + 1) ps

  parts_many : (txid : List ℕ) (path at' : List PathStep) (j n : ℕ) (ps : Parts)
      → length (made_from txid j n (parts_held path j ps) (part_outputs hash keys s at' j ps)) ≡ length (part_values ps)
  parts_many txid path at' j n no_part = refl
  parts_many txid path at' j n (part v c ps) = ap suc (parts_many txid path at' (j + 1) (n + 1) ps)

-- ---- a branch

module _ (hash : List ℕ → List ℕ) (keys : Keys) (s : Instance) (whole : Whole hash keys s) (lengths : List ℕ → ℕ)
    (fair : (name : List ℕ) → lengths name ≤ most_secret_length)
    (course : Course) (kept_so : Kept hash keys s course) (counts : Counts hash keys s lengths fair course)
    (g : Configuration) (tracks : Tracks hash keys s lengths fair g course)
    (path : List PathStep) (made : Unsigned) (of : OfBranch hash keys s path made)
    (live : (x : Spent) → Is_in x made.spends → has_place course.state.live x.outpoint ≡ true) where
  abbrev here : Standing
  here = of.here

  abbrev pub places : List OutPoint
  places = map (λ (x : Spent). x.outpoint) made.spends

  spends_are : made.spends ≡ of.here.output ∷ put_deposits hash keys s (puts_of (core of.b))
  spends_are = ap (λ (d : Unsigned). d.spends) of.is

  -- ---- the output of the position

  pub record Stood : Type 0 where
    pub output : Output
    pub among : Is_in output course.state.live
    pub held : output.held ≡ helds.Position of.here.position
    pub value : output.value ≡ of.here.output.value
    pub place : output.place ≡ of.here.output.outpoint

  -- a live position is told by its place
  position_is : (o : Output) (p : List PathStep) → Is_in o course.state.live → o.held ≡ helds.Position p → IsPosition hash keys s p o.place o.value
  position_is o p h held = by_kind (kept_so.live o h)
    where
      by_kind : Is_in o (deposit_outputs s) ⊎ (Is_in o course.state.made × (is_position o ≡ true)) → IsPosition hash keys s p o.place o.value
      by_kind (inl i) = absurd (other (ap (λ (x : Output). x.held) (deposit_of s o i).2) held)
        where
          other : {x : List ℕ} → o.held ≡ helds.Deposit x → o.held ≡ helds.Position p → ⊥
          other e f = cc
      by_kind (inr i) = subst (λ (x : Held). IsHeld hash keys s x o.place o.value) held (kept_so.made o i.0).fine

  pub stood : Stood
  stood =
      let o = at_place course.state.live of.here.output.outpoint (live of.here.output (subst (Is_in of.here.output) (sym spends_are) (inl refl))) in
      by_kind o.0 o.1 o.2 (kept_so.live o.0 o.1)
    where
      by_held : (o : Output) → Is_in o course.state.live → o.place ≡ of.here.output.outpoint → is_position o ≡ true → (h : Held) → o.held ≡ h → Stood
      by_held o h place is (helds.Deposit name) e = absurd (no (rw e at is))
        where
          no : false ≡ true → ⊥
          no f = cc
      by_held o h place is (helds.Payout party) e = absurd (no (rw e at is))
        where
          no : false ≡ true → ⊥
          no f = cc
      by_held o h place is (helds.Position p) e =
          let f = position_is o p h e in
          let q = same_outpoint hash keys s whole p of.here.position f.here of.here f.choice of.choice f.stands of.stands (f.place_is ∙ place) in
          let same : f.here ≡ of.here =
          ap (λ (x : Standing × Contract). x.0) (some_same {X = Standing × Contract} (sym f.stands ∙ ap (position_at hash keys s) q ∙ of.stands)) in
          record {
            output = o;
            among = h;
            held = e ∙ ap helds.Position q;
            value = sym f.value_is ∙ ap (λ (x : Standing). x.output.value) same;
            place = place;
          }

      by_kind : (o : Output) → Is_in o course.state.live → o.place ≡ of.here.output.outpoint
          → Is_in o (deposit_outputs s) ⊎ (Is_in o course.state.made × (is_position o ≡ true)) → Stood
      by_kind o h place (inl i) =
          let m = position_made hash keys s of.here.position of.here of.choice of.stands in
          absurd (deposit_apart hash keys s whole o i m.by_which m.among
          (ap (λ (p : OutPoint). p.txid) (sym m.place) ∙ ap (λ (p : OutPoint). p.txid) (sym place)))
      by_kind o h place (inr i) = by_held o h place i.1 o.held refl

  abbrev pub n : ℕ
  n = stood.output.number

  abbrev act : ActiveContract
  act = record { number = n; contract = deal_contract; position = of.here.position; balance = of.here.output.value }

  -- the number of what the first input spends
  pub first_number : (tx : Tx) → map (λ (i : TxIn). i.prev) tx.inputs ≡ places → first_spent course.state tx.inputs ≡ n
  first_number tx e = by_inputs tx.inputs (e ∙ ap (map (λ (x : Spent). x.outpoint)) spends_are)
    where
      none : (p : OutPoint) (ps : List OutPoint) → [] ≡ p ∷ ps → ⊥
      none p ps f = cc

      head_same : {a b : OutPoint} {as' bs' : List OutPoint} → a ∷ as' ≡ b ∷ bs' → a ≡ b
      head_same f = cc

      by_found : (i : TxIn) → i.prev ≡ of.here.output.outpoint → (o : Option Output) → output_there course.state.live i.prev ≡ o
          → option_map_or (λ (x : Output). x.number) o 0 ≡ n
      by_found i f None k =
          absurd (both_ways _ (none_found (is_there i.prev) course.state.live stood.output k stood.among)
          (ap (λ (p : OutPoint). same_place p i.prev) stood.place ∙ ap (same_place of.here.output.outpoint) f ∙ place_refl of.here.output.outpoint))
      by_found i f (Some o) k =
          let r = found (is_there i.prev) course.state.live o k in
          ap (λ (x : Output). x.number) (kept_so.once o stood.output r.0 stood.among (place-true o.place i.prev r.1 ∙ f ∙ sym stood.place))

      by_inputs : (is : List TxIn) → map (λ (i : TxIn). i.prev) is ≡ of.here.output.outpoint
          ∷ map (λ (x : Spent). x.outpoint) (put_deposits hash keys s (puts_of (core of.b)))
          → first_spent course.state is ≡ n
      by_inputs [] f = absurd (none _ _ f)
      by_inputs (i ∷ is) f = by_found i (head_same f) (output_there course.state.live i.prev) refl

  -- ---- the active contract

  act_of : (o : Output) (p : List PathStep) (v : ℕ) → o.held ≡ helds.Position p → o.value ≡ v
      → active_contract o ≡ record { number = o.number; contract = deal_contract; position = p; balance = v } ∷ []
  act_of o p v held value = rw held (ap (λ (m : ℕ). record { number = o.number; contract = deal_contract; position = p; balance = m } ∷ []) value)

  among_active : (o : Output) (p : List PathStep) (v : ℕ) → Is_in o course.state.live → o.held ≡ helds.Position p → o.value ≡ v
      → Is_in (record { number = o.number; contract = deal_contract; position = p; balance = v }) g.active
  among_active o p v h held value =
      subst (Is_in (record { number = o.number; contract = deal_contract; position = p; balance = v })) (sym tracks.active)
      (in_flat active_contract course.state.live o (record { number = o.number; contract = deal_contract; position = p; balance = v }) h
      (subst (Is_in (record { number = o.number; contract = deal_contract; position = p; balance = v })) (sym (act_of o p v held value)) (inl refl)))

  found_active : (a : ActiveContract) → Is_in a g.active → active_at g.active a.number ≡ Some a
  found_active a h = ascending_found (λ (x : ActiveContract). x.number) g.active a tracks.fine.numbered.active h

  is_active : active_at g.active n ≡ Some act
  is_active = found_active act (among_active stood.output of.here.position of.here.output.value stood.among stood.held stood.value)

  at_root : at s.advert.root (branch_path of.here.position of.i) ≡ Some of.b
  at_root =
      ap (at s.advert.root) (path_named hash keys s path of.here of.i of.b of.ends)
      ∙ branch_at_path hash keys s path of.here of.i of.b of.ends

  of_advert : advert_of g.contracts (Some act) ≡ Some s.advert
  of_advert = ap (λ (cs : List Advert). contract_at cs deal_contract) tracks.contracts

  is_branch : branch_at g n of.i ≡ Some of.b
  is_branch =
      ap (λ (o : Option ActiveContract). branch_of g.contracts o of.i) is_active
      ∙ ap (λ (o : Option Advert). branch_in o of.here.position of.i) of_advert
      ∙ at_root

  -- ---- whom it asks

  abbrev asked : List (List ℕ)
  asked = filter (is_asked of.b) (people s)

  abbrev mid : Configuration
  mid = record g { branch_authorised = asked_all g.branch_authorised n of.i asked }

  asking : Legal g (map (auth_branch n of.i) asked)
  asking =
      asks_legal g n of.i act of.b is_active is_branch asked g.branch_authorised (λ p h.
      (in_filter (is_asked of.b) (people s) p h).1)

  covered : have_branch_authorised mid.branch_authorised n of.i (asks of.b) ≡ true
  covered =
      every (λ p. has_branch_authorised mid.branch_authorised n of.i p) (asks of.b) (λ a h.
      asked_of g.branch_authorised n of.i asked a (asked_among (is_asked of.b) a (people s) h
      (branch_named s.advert (branch_path of.here.position of.i) of.b a at_root (asked_mentioned of.b a h))))

  mid_fine : IsFine mid
  mid_fine = subst IsFine (after-asked n of.i asked g) (fine_along g (map (auth_branch n of.i) asked) tracks.fine asking)

  -- ---- what is left of the contracts

  none_here : (o : Output) (p : List PathStep) → Is_in o course.state.live → o.held ≡ helds.Position p → lies_at places o ≡ true → o.number ≡ n
  none_here o p h held lies =
      let r = there_of (λ (q : OutPoint). is_there q o) places lies in
      let place = place-true o.place r.0 r.2 in
      by_place r.0 place (subst (Is_in r.0) (ap (map (λ (x : Spent). x.outpoint)) spends_are) r.1)
    where
      by_place : (q : OutPoint) → o.place ≡ q
          → Is_in q (of.here.output.outpoint ∷ map (λ (x : Spent). x.outpoint) (put_deposits hash keys s (puts_of (core of.b)))) → o.number ≡ n
      by_place q place (inl e) = ap (λ (x : Output). x.number) (kept_so.once o stood.output h stood.among (place ∙ e ∙ sym stood.place))
      by_place q place (inr i) =
          let a = from_map (λ (x : Spent). x.outpoint) (put_deposits hash keys s (puts_of (core of.b))) q i in
          let b = from_map (λ (name : List ℕ). deposit hash keys s name (holding_or_none (look_up name (volatile s.advert.pre))))
          (puts_of (core of.b)) a.0 a.1 in
          let needed = all_in (λ (x : List ℕ). is_among x (needed_deposits s.advert))
          (puts_of (core of.b)) b.0 (puts_needed hash keys s whole.checked path of.here of.i of.b of.ends) b.1 in
          let v = named_looked (deposits s.advert.pre) b.0 needed in
          absurd (position_apart hash keys s lengths fair whole course kept_so o p (b.0, v.0) h held (looked_in (deposits s.advert.pre) b.0 v.0 v.1)
          (place ∙ a.2 ∙ ap (λ (x : Spent). x.outpoint) b.2))

  here_alone : (o : Output) (p : List PathStep) → Is_in o course.state.live → o.held ≡ helds.Position p → o.number ≡ n → lies_at places o ≡ true
  here_alone o p h held number =
      let a : ActiveContract = record { number = o.number; contract = deal_contract; position = p; balance = o.value } in
      let same : a ≡ act = some_same (sym (found_active a (among_active o p o.value h held refl)) ∙ ap (active_at g.active) number ∙ is_active) in
      let q : p ≡ of.here.position = ap (λ (x : ActiveContract). x.position) same in
      let f = position_is o p h held in
      let stand : f.here ≡ of.here =
      ap (λ (x : Standing × Contract). x.0) (some_same {X = Standing × Contract} (sym f.stands ∙ ap (position_at hash keys s) q ∙ of.stands)) in
      let place : o.place ≡ of.here.output.outpoint = sym f.place_is ∙ ap (λ (x : Standing). x.output.outpoint) stand in
      any_there (λ (x : OutPoint). is_there x o) places of.here.output.outpoint
      (subst (Is_in of.here.output.outpoint) (sym (ap (map (λ (x : Spent). x.outpoint)) spends_are)) (inl refl))
      (ap (λ (x : OutPoint). same_place x of.here.output.outpoint) place ∙ place_refl of.here.output.outpoint)

  others_left : others g.active n ≡ flat_map active_contract (without_all course.state.live places)
  others_left =
      ap (λ (xs : List ActiveContract). others xs n) tracks.active
      ∙ contracts_left (λ (a : ActiveContract). not (a.number == n)) course.state.live places (λ o h. by_held o h o.held refl)
    where
      same_test : (a b : Bool) → (a ≡ true → b ≡ true) → (b ≡ true → a ≡ true) → a ≡ b
      same_test true b f k = sym (f refl)
      same_test false true f k = k refl
      same_test false false f k = refl

      nothing : (b : Bool) → (let xs : List ActiveContract = [] in xs) ≡ cond b [] []
      nothing true = refl
      nothing false = refl

      by_test : (o : Output) (xs : List ActiveContract) (b : Bool) → (o.number == n) ≡ b → cond (not (o.number == n)) xs [] ≡ cond b [] xs
      by_test o xs true e = rw e refl
      by_test o xs false e = rw e refl

      by_held : (o : Output) → Is_in o course.state.live → (h : Held) → o.held ≡ h
          → filter (λ (a : ActiveContract). not (a.number == n)) (active_contract o) ≡ cond (lies_at places o) [] (active_contract o)
      by_held o h (helds.Deposit name) e = rw e (nothing (lies_at places o))
      by_held o h (helds.Payout party) e = rw e (nothing (lies_at places o))
      by_held o h (helds.Position p) e =
          let a : ActiveContract = record { number = o.number; contract = deal_contract; position = p; balance = o.value } in
          rw e
          (by_test o (a ∷ []) (lies_at places o)
          (same_test (o.number == n) (lies_at places o) (λ k. here_alone o p h e (eqb-true o.number n k)) (λ k. eq-eqb o.number n (none_here o p h e k))))

  -- ---- the step

  no_auth : (b : term.Guarded) (party : List ℕ) (body : term.Guarded) → core b ≡ auth party body → ⊥
  no_auth (auth q d) party body e = no_auth d party body e
  no_auth (after height d) party body e = no_auth d party body e
  no_auth (put_reveal puts reveals test next) party body e = cc
  no_auth (withdraw q) party body e = cc
  no_auth (split parts) party body e = cc

  no_after : (b : term.Guarded) (height : ℕ) (body : term.Guarded) → core b ≡ after height body → ⊥
  no_after (auth q d) height body e = no_after d height body e
  no_after (after m d) height body e = no_after d height body e
  no_after (put_reveal puts reveals test next) height body e = cc
  no_after (withdraw q) height body e = cc
  no_after (split parts) height body e = cc

  kept_none : (ds : List LiveDeposit) → kept ds [] ≡ ds
  kept_none [] = refl
  kept_none (d ∷ ds) = ap (λ (es : List LiveDeposit). d ∷ es) (kept_none ds)

  -- all that it reveals is revealed, and its predicate is true of the lengths
  pub record Tested : Type 0 where
    pub revealed : are_revealed g.revealed deal_contract s.advert.pre (reveals_of (core of.b)) ≡ true
    pub test : holds (secret_lengths g.committed deal_contract s.advert.pre (reveals_of (core of.b))) (test_of (core of.b)) ≡ true

  abbrev xs : List (List ℕ)
  xs = puts_of (core of.b)

  abbrev txid_of : List ℕ
  txid_of = txid hash (tx_of made)

  -- what its transaction makes
  abbrev pub makes : term.Guarded → List Output
  makes c = made_from (txid hash (tx_of made)) 0 course.state.next (core_held path c)
      (core_outputs hash keys s (branch_path of.here.position of.i) of.here.output.value c)

  module _ (later : Course) (h : Happened) (history : later.history ≡ course.history ++ h ∷ []) (which : taken_by s h.which ≡ puts_of (core of.b))
      (live_is : later.state.live ≡ without_all course.state.live places ++ filter is_position (makes (core of.b)))
      (made_is : later.state.made ≡ course.state.made ++ makes (core of.b))
      (next_is : later.state.next ≡ course.state.next + length (makes (core of.b)))
      (shown_is : later.state.shown ≡ course.state.shown)
      (lock_done : nat_le (lock of.b) g.time ≡ true) (tested : Tested) where
    -- the steps are legal and lead to what the chain shows then
    pub record Stepped (ss : List Step) : Type 0 where
      pub legal : Legal g ss
      pub tracked : Tracks hash keys s lengths fair (after_steps g ss) later
      pub timed : (after_steps g ss).time ≡ g.time

    finish : (e : Configuration) → IsFine e → e.contracts ≡ g.contracts → e.advertised ≡ g.advertised → e.committed ≡ g.committed
        → e.revealed ≡ g.revealed → e.active ≡ others g.active n ++ flat_map active_contract (filter is_position (makes (core of.b)))
        → e.deposits ≡ kept g.deposits (numbers_of (deal_bindings s) (puts_of (core of.b))) ++ flat_map paid_deposit (makes (core of.b))
        → e.next ≡ g.next + length (makes (core of.b)) → Tracks hash keys s lengths fair e later
    finish e fine contracts advertised committed revealed active deposits next = record {
      fine = fine;
      contracts = contracts ∙ tracks.contracts;
      advertised = advertised ∙ tracks.advertised;
      committed = committed ∙ tracks.committed;
      active =
          active
          ∙ (λ i. others_left i ++ flat_map active_contract (filter is_position (makes (core of.b))))
          ∙ sym (flat_append active_contract (without_all course.state.live places) (filter is_position (makes (core of.b))))
          ∙ ap (flat_map active_contract) (sym live_is);
      deposits =
          deposits
          ∙ ap (λ (ds : List LiveDeposit). kept ds (numbers_of (deal_bindings s) (puts_of (core of.b)))
          ++ flat_map paid_deposit (makes (core of.b))) tracks.deposits
          ∙ deposits_after s course later h (puts_of (core of.b)) (makes (core of.b)) history which made_is
          (λ m d k. numbers_are hash keys s lengths fair whole (puts_of (core of.b)) m d k)
          (λ o k. numbers_later hash keys s lengths fair whole (puts_of (core of.b)) o.number (counts.made o k));
      revealed = revealed ∙ tracks.revealed ∙ ap (map (revealed_secret s)) (sym shown_is);
      next = next ∙ ap (λ (m : ℕ). m + length (makes (core of.b))) tracks.next ∙ sym next_is;
    }

    -- the authorisations, and then one step
    by_step : (ss : List Step) → Legal mid ss → Tracks hash keys s lengths fair (after_steps mid ss) later → (after_steps mid ss).time ≡ g.time
        → Stepped (map (auth_branch n of.i) asked ++ ss)
    by_step ss legal after' time =
        let e = after-append g (map (auth_branch n of.i) asked) ss ∙ ap (λ (c : Configuration). after_steps c ss) (after-asked n of.i asked g) in
        record {
          legal =
              legal_append g (map (auth_branch n of.i) asked) ss asking
              (subst (λ (c : Configuration). Legal c ss) (sym (after-asked n of.i asked g)) legal);
          tracked = subst (λ (c : Configuration). Tracks hash keys s lengths fair c later) (sym e) after';
          timed = ap (λ (c : Configuration). c.time) e ∙ time;
        }

    fee_is : fee_of (advert_of g.contracts (Some act)) ≡ s.advert.fee
    fee_is = ap fee_of of_advert

    -- ---- a payment

    withdraw_row : (p : List ℕ) → core of.b ≡ withdraw p → AllTrue (withdraw_premises mid n of.i (active_at mid.active n) (branch_at mid n of.i))
    withdraw_row p e = (
      ap is_some is_active,
      (
        ap is_withdraw is_branch ∙ ap is_withdraw_core e,
        (
          ap (λ o. nat_le (lock_of o) g.time) is_branch ∙ lock_done,
          (ap (λ o. have_branch_authorised mid.branch_authorised n of.i (asks_of o)) is_branch ∙ covered, tt),
        ),
      ),
    )

    pays_out : (p : List ℕ) → core of.b ≡ withdraw p → Stepped (map (auth_branch n of.i) asked ++ steps.Withdraw n of.i ∷ [])
    pays_out p e =
        let legal = passes mid (steps.Withdraw n of.i) (withdraw_row p e) in
        let ends : effect mid (steps.Withdraw n of.i) ≡ withdrawn mid n (Some act) p =
        (λ i. withdrawn mid n (is_active i) (payee_of (is_branch i))) ∙ ap (λ (c : term.Guarded). withdrawn mid n (Some act) (payee_in c)) e in
        let none : numbers_of (deal_bindings s) (puts_of (core of.b)) ≡ [] = ap (λ (c : term.Guarded). numbers_of (deal_bindings s) (puts_of c)) e in
        let new = ap makes e in
        let left : kept g.deposits (numbers_of (deal_bindings s) (puts_of (core of.b))) ≡ g.deposits = ap (kept g.deposits) none ∙ kept_none g.deposits in
        let tracked = finish (withdrawn mid n (Some act) p)
        (subst IsFine ends (fine_along mid (steps.Withdraw n of.i ∷ []) mid_fine (legal, tt))) refl refl refl refl
        (sym (append-nil (others g.active n)) ∙ (λ i. others g.active n ++ flat_map active_contract (filter is_position (sym new i))))
        ((λ i. sym left i ++ record { number = tracks.next i; owner = owners.Party p; value = of.here.output.value - fee_is i } ∷ [])
        ∙ (λ i. kept g.deposits (numbers_of (deal_bindings s) (puts_of (core of.b))) ++ flat_map paid_deposit (sym new i)))
        (λ i. g.next + length (sym new i)) in
        by_step (steps.Withdraw n of.i ∷ []) (legal, tt) (subst (λ (c : Configuration). Tracks hash keys s lengths fair c later) (sym ends) tracked)
        (ap (λ (c : Configuration). c.time) ends)

    -- ---- a division

    split_row : (ps : Parts) → core of.b ≡ split ps → AllTrue (split_premises mid n of.i (active_at mid.active n) (branch_at mid n of.i))
    split_row ps e = (
      ap is_some is_active,
      (
        ap is_split is_branch ∙ ap is_split_core e,
        (
          ap (λ o. nat_le (lock_of o) g.time) is_branch ∙ lock_done,
          (ap (λ o. have_branch_authorised mid.branch_authorised n of.i (asks_of o)) is_branch ∙ covered, tt),
        ),
      ),
    )

    same_path : of.here.position ++ To of.i ∷ [] ≡ path
    same_path = path_named hash keys s path of.here of.i of.b of.ends

    divides : (ps : Parts) → core of.b ≡ split ps → Stepped (map (auth_branch n of.i) asked ++ steps.Split n of.i ∷ [])
    divides ps e =
        let legal = passes mid (steps.Split n of.i) (split_row ps e) in
        let ends : effect mid (steps.Split n of.i) ≡ divided mid n of.i (Some act) (part_values ps) =
        (λ i. divided mid n of.i (is_active i) (values_of (is_branch i))) ∙ ap (λ (c : term.Guarded). divided mid n of.i (Some act) (values_in c)) e in
        let none : numbers_of (deal_bindings s) (puts_of (core of.b)) ≡ [] = ap (λ (c : term.Guarded). numbers_of (deal_bindings s) (puts_of c)) e in
        let new = ap makes e in
        let left : kept g.deposits (numbers_of (deal_bindings s) (puts_of (core of.b))) ≡ g.deposits = ap (kept g.deposits) none ∙ kept_none g.deposits in
        let parts = parts_active hash keys s txid_of path (branch_path of.here.position of.i) 0 course.state.next ps in
        let tracked = finish (divided mid n of.i (Some act) (part_values ps))
        (subst IsFine ends (fine_along mid (steps.Split n of.i ∷ []) mid_fine (legal, tt))) refl refl refl refl
        ((λ i. others g.active n ++ parts_made (tracks.next i) deal_contract (same_path i) 0 (part_values ps))
        ∙ (λ i. others g.active n ++ sym parts i)
        ∙ (λ i. others g.active n ++ flat_map active_contract (filter is_position (sym new i))))
        (sym (append-nil g.deposits)
        ∙ (λ i. sym left i ++ sym (parts_paid hash keys s txid_of path (branch_path of.here.position of.i) 0 course.state.next ps) i)
        ∙ (λ i. kept g.deposits (numbers_of (deal_bindings s) (puts_of (core of.b))) ++ flat_map paid_deposit (sym new i)))
        ((λ i. g.next + sym (parts_many hash keys s txid_of path (branch_path of.here.position of.i) 0 course.state.next ps) i)
        ∙ (λ i. g.next + length (sym new i))) in
        by_step (steps.Split n of.i ∷ []) (legal, tt) (subst (λ (c : Configuration). Tracks hash keys s lengths fair c later) (sym ends) tracked)
        (ap (λ (c : Configuration). c.time) ends)

    -- ---- a put or reveal

    bindings_are : bindings_of g.advertised deal_contract ≡ deal_bindings s
    bindings_are = ap (λ (as' : List Advertised). bindings_of as' deal_contract) tracks.advertised

    puts_there : are_there g.deposits (deal_bindings s) (puts_of (core of.b)) ≡ true
    puts_there =
        deposits_left hash keys s lengths fair whole course kept_so g tracks counts (puts_of (core of.b)) (λ x k.
        let needed = all_among (λ (y : List ℕ). is_among y (needed_deposits s.advert))
        (puts_of (core of.b)) x (puts_needed hash keys s whole.checked path of.here of.i of.b of.ends) k in
        let v = named_looked (deposits s.advert.pre) x needed in
        let put = deposit hash keys s x (holding_or_none (look_up x (volatile s.advert.pre))) in (
          v.0,
          looked_in (deposits s.advert.pre) x v.0 v.1,
          live put (subst (Is_in put) (sym spends_are)
              (inr (in_map (λ (name : List ℕ). deposit hash keys s name (holding_or_none (look_up name (volatile s.advert.pre))))
              (puts_of (core of.b)) x (among_is x (puts_of (core of.b)) k)))),
        ))

    put_row : is_put_core (core of.b) ≡ true → AllTrue (put_reveal_premises mid n of.i (active_at mid.active n) (branch_at mid n of.i))
    put_row e =
        subst (λ a. AllTrue (put_reveal_premises mid n of.i a (branch_at mid n of.i))) (sym is_active)
        (subst (λ o. AllTrue (put_reveal_premises mid n of.i (Some act) o)) (sym is_branch) (
          refl,
          (
            e,
            (
              lock_done,
              (
                covered,
                (
                  ap (λ (bs : List (List ℕ × ℕ)). are_there g.deposits bs (puts_of (core of.b))) bindings_are ∙ puts_there,
                  (
                    ap (λ (o : Option Advert). are_revealed g.revealed deal_contract (pre_of o) (reveals_of (core of.b))) of_advert ∙ tested.revealed,
                    (
                      ap (λ (o : Option Advert). holds (secret_lengths g.committed deal_contract (pre_of o) (reveals_of (core of.b)))
                          (test_of (core of.b))) of_advert ∙ tested.test,
                      tt,
                    ),
                  ),
                ),
              ),
            ),
          ),
        ))

    goes_on : (puts reveals : List (List ℕ)) (test : term.Pred) (nx : Contract) → core of.b ≡ put_reveal puts reveals test nx
        → Stepped (map (auth_branch n of.i) asked ++ steps.PutReveal n of.i ∷ [])
    goes_on puts reveals test nx e =
        let legal = passes mid (steps.PutReveal n of.i) (put_row (ap is_put_core e)) in
        let ns = numbers_of (deal_bindings s) (puts_of (core of.b)) in
        let numbers : numbers_of (bindings_of mid.advertised (contract_number (active_at mid.active n))) (puts_of_taken (branch_at mid n of.i)) ≡ ns =
        (λ i. numbers_of (bindings_of mid.advertised (contract_number (is_active i))) (puts_of_taken (is_branch i)))
        ∙ ap (λ (bs : List (List ℕ × ℕ)). numbers_of bs (puts_of (core of.b))) bindings_are in
        let ends : effect mid (steps.PutReveal n of.i) ≡ continued mid n of.i (Some act) ns = λ i. continued mid n of.i (is_active i) (numbers i) in
        let t = taken_at mid mid_fine n of.i (ap is_some is_active) (ap is_some is_branch) in
        let branch : t.branch ≡ of.b = some_same (sym t.taken ∙ is_branch) in
        let advert : t.held.advert ≡ s.advert = some_same (sym t.of_advert ∙ ap (advert_of g.contracts) is_active ∙ of_advert) in
        let there : are_there mid.deposits (bindings_of mid.advertised (contract_number (active_at mid.active n)))
        (puts_of_taken (branch_at mid n of.i)) ≡ true =
        (λ i. are_there g.deposits (bindings_of g.advertised (contract_number (is_active i))) (puts_of_taken (is_branch i)))
        ∙ ap (λ (bs : List (List ℕ × ℕ)). are_there g.deposits bs (puts_of (core of.b))) bindings_are ∙ puts_there in
        let value : total_value (gone g.deposits ns) ≡ value_of_puts (volatile s.advert.pre) puts =
        ap (λ (ms : List ℕ). total_value (gone g.deposits ms)) (sym numbers)
        ∙ put_value mid mid_fine n of.i t puts reveals test nx (ap core branch ∙ e) there
        ∙ ap (λ (a : Advert). value_of_puts (volatile a.pre) puts) advert in
        let new = ap makes e in
        let tracked = finish (continued mid n of.i (Some act) ns)
        (subst IsFine ends (fine_along mid (steps.PutReveal n of.i ∷ []) mid_fine (legal, tt))) refl refl refl refl
        ((λ i. others g.active n ++ record {
          number = tracks.next i;
          contract = deal_contract;
          position = same_path
              i;
          balance = of.here.output.value + value i - fee_is i;
        } ∷ [])
        ∙ (λ i. others g.active n ++ flat_map active_contract (filter is_position (sym new i))))
        (sym (append-nil (kept g.deposits ns)) ∙ (λ i. kept g.deposits ns ++ flat_map paid_deposit (sym new i)))
        (λ i. g.next + length (sym new i)) in
        by_step (steps.PutReveal n of.i ∷ []) (legal, tt) (subst (λ (c : Configuration). Tracks hash keys s lengths fair c later) (sym ends) tracked)
        (ap (λ (c : Configuration). c.time) ends)

    -- ---- all of them

    pub taken : Stepped (branch_steps s n of.i (Some of.b))
    taken = by_core (core of.b) refl
      where
        by_core : (c : term.Guarded) → core of.b ≡ c → Stepped (map (auth_branch n of.i) asked ++ core_step n of.i (core of.b))
        by_core (put_reveal puts reveals test nx) e =
            subst (λ (x : term.Guarded). Stepped (map (auth_branch n of.i) asked ++ core_step n of.i x)) (sym e) (goes_on puts reveals test nx e)
        by_core (withdraw p) e = subst (λ (x : term.Guarded). Stepped (map (auth_branch n of.i) asked ++ core_step n of.i x)) (sym e) (pays_out p e)
        by_core (split ps) e = subst (λ (x : term.Guarded). Stepped (map (auth_branch n of.i) asked ++ core_step n of.i x)) (sym e) (divides ps e)
        by_core (auth party body) e = absurd (no_auth of.b party body e)
        by_core (after height body) e = absurd (no_after of.b height body e)
