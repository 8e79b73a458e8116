-- What can come is accepted by each ledger that has what is live.
use Rattle.std.proofs.Common.{◌≡◌, ℕ, ◌+◌, ◌≤◌, List, [], ◌∷◌, Bool, true, false, Option, Some, None, refl, sym, ap, subst, ◌∙◌, inl, inr, cond}
use Rattle.std.specs.Prelude.{◌⊎◌}
use Rattle.std.specs.List.{list_all, list_any, flat_map}
use Rattle.std.specs.Option.{option_map, option_map_or}
use Rattle.spec_data.specs.Lists.{look_up}
use Rattle.spec_terms.specs.Term as term
use Rattle.spec_terms.specs.Term.{Contract, branches}
use Rattle.spec_terms.specs.Core.{core, puts_of}
use Rattle.spec_terms.specs.Paths.{contract_under}
use Rattle.spec_terms.specs.Precondition.{Holding, persistent, volatile, names_of}
use Rattle.spec_terms.specs.declared.path.PathStep.{PathStep}
use Rattle.spec_bitcoin.specs.declared.tx.OutPoint.{OutPoint}
use Rattle.spec_bitcoin.specs.Live.{Entry}
use Rattle.spec_bitcoin.specs.Spelling.{stripped}
use Rattle.spec_compiler.specs.declared.unsigned.Spent.{Spent}
use Rattle.spec_compiler.specs.declared.unsigned.Unsigned.{Unsigned}
use Rattle.spec_compiler.specs.Keyed.ByPath.{outpoint_at}
use Rattle.spec_compiler.specs.Keyed.Instance.{Instance}
use Rattle.spec_compiler.specs.Keyed.Keys.{Keys}
use Rattle.spec_compiler.specs.Keyed.Statements.{AreKeyDeposits}
use Rattle.spec_compiler.specs.Keyed.Transactions.{Standing, deposit, outpoint_or_none, put_deposits, holding_or_none, tx_of}
use Rattle.spec_tool.specs.declared.which.Which.{Which}
use Rattle.spec_tool.specs.declared.which.Which.TheVariants as names
use Rattle.spec_tool.specs.Keyed.Listed.{Listed, listed_at}
use Rattle.spec_deal.specs.declared.transaction.Wallet.{Wallet}
use Rattle.spec_deal.specs.Finished.{witnesses, finished}
use Rattle.spec_deal.specs.Setting.{deal_keys, deal_instance}
use Rattle.spec_deal.specs.Wallets.{spent_output}
use Rattle.theory_calculus.specs.Members.{Is_in}
use Rattle.theory_calculus.proofs.Members.{in_append, in_from_contains, all_in}
use Rattle.theory_calculus.proofs.Names.{bytes-true}
use Rattle.theory_script.proofs.Keyed.Stands.{some_same}
use Rattle.theory_world.proofs.Same.{place_refl}
use Rattle.theory_deal.specs.Accepted.{spent_outputs, input_checks, wallets_of, AllLive, AreLive}
use Rattle.theory_deal.proofs.OfKeys.{no_wallet}
use Rattle.theory_deal.proofs.ReadSignatures.{signatures_are_shaped}
use Rattle.theory_deal.proofs.Ledger.DifferentOutputs.{apart_at}
use Rattle.theory_deal.proofs.Ledger.Funded.{funded_at}
use Rattle.theory_deal.proofs.Ledger.InputChecks.{all_lie, accepts_fine}
use Rattle.theory_deal.proofs.Ledger.ShortItems.{keys_short, witnesses_short}
use Rattle.theory_deal.proofs.Ledger.Verdicts.{IsWhole, accepts_open}
use Rattle.spec_chain.specs.declared.output.Held.{Held}
use Rattle.spec_chain.specs.declared.output.Held.TheVariants as helds
use Rattle.spec_chain.specs.declared.output.Output.{Output}
use Rattle.spec_chain.specs.Chain.{Course}
use Rattle.spec_chain.specs.Following.{State}
use Rattle.spec_chain.specs.Outputs.{is_position, is_deposit, is_there, has_place, deposit_outputs, position_of}
use Rattle.spec_chain.specs.Outstanding.{branches_from, branches_of, has_begun, asked, known, deposits_needed, puts_by}
use Rattle.theory_chain.specs.Ledgers.{HasLive, CanIsAccepted}
use Rattle.theory_chain.specs.Prospects.{CanExactly, CanOpens}
use Rattle.theory_chain.proofs.ChainRuns.{chain_kept, placed}
use Rattle.theory_chain.proofs.Fine.{opened_fine, known_are, fine_judged}
use Rattle.theory_chain.proofs.Deals.Outputs.{any_there, there_of, deposit_of}
use Rattle.theory_chain.proofs.Deals.Positions.{path_named, branch_at_path}
use Rattle.theory_chain.proofs.Deals.Taken.{whole_deal}
use Rattle.theory_chain.proofs.Deals.Transactions.{OfBranch, of_branch, named_path, position_before}
use Rattle.theory_chain.proofs.Deals.Whole.{from_map, stands_at, from_stands}
use Rattle.theory_chain.proofs.Runs.Kept.{Kept}
use Rattle.theory_chain.proofs.Stays.{known_fit}

-- ---- what is asked

named_in : (ds : List (List ℕ × Holding)) (d : List ℕ × Holding) → Is_in d ds → Is_in (d.0) (names_of ds)
named_in [] d h = absurd h
named_in (e ∷ ds) d (inl same) = inl (ap (λ (x : List ℕ × Holding). x.0) same)
named_in (e ∷ ds) d (inr h) = inr (named_in ds d h)

from_flat : {X Y : Type 0} (f : X → List Y) (xs : List X) (y : Y) → Is_in y (flat_map f xs) → (x : X) × Is_in x xs × Is_in y (f x)
from_flat f [] y h = absurd h
from_flat f (x ∷ xs) y h = by_place (in_append y (f x) (flat_map f xs) h) (from_flat f xs y)
  where
    by_place : Is_in y (f x) ⊎ Is_in y (flat_map f xs) → (Is_in y (flat_map f xs) → (z : _) × Is_in z xs × Is_in y (f z))
        → (z : _) × Is_in z (x ∷ xs) × Is_in y (f z)
    by_place (inl i) later = (x, inl refl, i)
    by_place (inr i) later =
        let r = later i in
        (r.0, inr r.1, r.2)

-- a branch of a position
of_position : (q : List PathStep) (i : ℕ) (bs : List term.Guarded) (path : List PathStep) → Is_in (names.At path) (branches_from q i bs)
    → position_of path ≡ q
of_position q i [] path h = absurd h
of_position q i (b ∷ bs) path (inl same) = ap position_of (path_of same) ∙ position_before q i
  where
    path_of : {a b : List PathStep} → names.At a ≡ names.At b → a ≡ b
    path_of e = cc
of_position q i (b ∷ bs) path (inr h) = of_position q (i + 1) bs path h

asked_position : (s : Instance) (state : State) (path : List PathStep) → Is_in (names.At path) (asked s state)
    → (o : Output) × Is_in o state.live × (o.held ≡ helds.Position (position_of path))
asked_position s state path h =
    by_place (in_append (names.At path) (cond (has_begun state) [] (names.Init ∷ [])) (flat_map (branches_of s) state.live) h)
  where
    not_first : (b : Bool) → Is_in (names.At path) (cond b [] (names.Init ∷ [])) → ⊥
    not_first true i = i
    not_first false (inl e) = cc
    not_first false (inr i) = i

    by_contract : (q : List PathStep) (o : Option Contract) → Is_in (names.At path) (option_map_or (λ contract. branches_from q 0 (branches contract)) o [])
        → position_of path ≡ q
    by_contract q None i = absurd i
    by_contract q (Some c) i = of_position q 0 (branches c) path i

    by_held : (o : Output) (k : Held) → o.held ≡ k
        → Is_in (names.At path) (branches_of s (record { number = o.number; held = k; place = o.place; value = o.value }))
        → o.held ≡ helds.Position (position_of path)
    by_held o (helds.Deposit name) e i = absurd i
    by_held o (helds.Position q) e i = e ∙ sym (ap helds.Position (by_contract q (contract_under s.advert.root q) i))
    by_held o (helds.Payout party) e i = absurd i

    by_place : Is_in (names.At path) (cond (has_begun state) [] (names.Init ∷ [])) ⊎ Is_in (names.At path) (flat_map (branches_of s) state.live)
        → (o : Output) × Is_in o state.live × (o.held ≡ helds.Position (position_of path))
    by_place (inl i) = absurd (not_first (has_begun state) i)
    by_place (inr i) =
        let r = from_flat (branches_of s) state.live (names.At path) i in
        (r.0, r.1, by_held (r.0) (r.0.held) refl r.2)

-- ---- what it spends is live

module _ (hash : List ℕ → List ℕ) (keys : Keys) (s : Instance) (course : Course) (kept : Kept hash keys s course)
    (lie : (o : Output) (path : List PathStep) → Is_in o course.state.live → o.held ≡ helds.Position path → outpoint_at hash keys s path ≡ Some o.place) where
  there_at : (o : Output) (place : OutPoint) → Is_in o course.state.live → o.place ≡ place → has_place course.state.live place ≡ true
  there_at o place h e =
      subst (λ (p : OutPoint). has_place course.state.live p ≡ true) e
      (any_there (is_there o.place) course.state.live o h (place_refl o.place))

  deposit_there : (x : List ℕ) → list_any (is_deposit x) course.state.live ≡ true
      → has_place course.state.live (outpoint_or_none (look_up x s.bound)) ≡ true
  deposit_there x e =
      let r = there_of (is_deposit x) course.state.live e in
      by_kind (r.0) r.1 r.2 (kept.live (r.0) r.1)
    where
      no : false ≡ true → ⊥
      no f = cc

      apart : (h : Held) (o : Output) → o.held ≡ h → is_deposit x o ≡ true → is_position o ≡ true → ⊥
      apart (helds.Deposit name) o k a b =
          no (subst (λ (h : Held). is_position (record { number = o.number; held = h; place = o.place; value = o.value }) ≡ true) k b)
      apart (helds.Position path) o k a b =
          no (subst (λ (h : Held). is_deposit x (record { number = o.number; held = h; place = o.place; value = o.value }) ≡ true) k a)
      apart (helds.Payout party) o k a b =
          no (subst (λ (h : Held). is_deposit x (record { number = o.number; held = h; place = o.place; value = o.value }) ≡ true) k a)

      by_kind : (o : Output) → Is_in o course.state.live → is_deposit x o ≡ true
          → Is_in o (deposit_outputs s) ⊎ (Is_in o course.state.made × (is_position o ≡ true))
          → has_place course.state.live (outpoint_or_none (look_up x s.bound)) ≡ true
      by_kind o h k (inl i) =
          let d = deposit_of s o i in
          let name = bytes-true (d.0.0) x (sym (ap (is_deposit x) d.2) ∙ k) in
          there_at o (outpoint_or_none (look_up x s.bound)) h
          (ap (λ (y : Output). y.place) d.2 ∙ ap (λ (n : List ℕ). outpoint_or_none (look_up n s.bound)) name)
      by_kind o h k (inr i) = absurd (apart o.held o refl k i.1)

  module _ (which : Which) (funded : list_all (λ x. list_any (is_deposit x) course.state.live) (deposits_needed s which) ≡ true) where
    needed_there : (x : List ℕ) → Is_in x (deposits_needed s which) → has_place course.state.live (outpoint_or_none (look_up x s.bound)) ≡ true
    needed_there x h = deposit_there x (all_in (λ y. list_any (is_deposit y) course.state.live) (deposits_needed s which) x funded h)

  pub all_there : (which : Which) (l : Listed) → listed_at hash keys s which ≡ Some l → Is_in which (asked s course.state)
      → list_all (λ x. list_any (is_deposit x) course.state.live) (deposits_needed s which) ≡ true
      → (x : Spent) → Is_in x l.pending.spends → has_place course.state.live x.outpoint ≡ true
  all_there names.Init l named h funded x i =
      let r = from_map (λ (d : List ℕ × Holding). deposit hash keys s d.0 d.1) (persistent s.advert.pre) x
      (subst (λ (y : Listed). Is_in x y.pending.spends) (sym (some_same named)) i) in
      subst (λ (y : Spent). has_place course.state.live y.outpoint ≡ true) (sym r.2)
      (needed_there names.Init funded (r.0.0) (named_in (persistent s.advert.pre) r.0 r.1))
  all_there (names.At path) l named h funded x i =
      let n = named_path hash keys s path l named in
      let of = of_branch hash keys s path n.0 n.1 in
      by_place n.0 of
      (subst (λ (d : Unsigned). Is_in x d.spends) of.is (subst (λ (y : Listed). Is_in x y.pending.spends) n.2 i))
    where
      by_place : (d : Unsigned) (of : OfBranch hash keys s path d) → Is_in x (of.here.output ∷ put_deposits hash keys s (puts_of (core of.b)))
          → has_place course.state.live x.outpoint ≡ true
      by_place d of (inl same) =
          let o = asked_position s course.state path h in
          let q : position_of path ≡ of.here.position =
          ap position_of (sym (path_named hash keys s path of.here of.i of.b of.ends)) ∙ position_before of.here.position of.i in
          let at : outpoint_at hash keys s of.here.position ≡ Some of.here.output.outpoint =
          ap (option_map (λ (p : Standing × Contract). p.0.output.outpoint)) of.stands in
          let place : o.0.place ≡ x.outpoint =
          some_same (sym (lie (o.0) (position_of path) o.1 o.2) ∙ ap (outpoint_at hash keys s) q ∙ at)
          ∙ sym (ap (λ (y : Spent). y.outpoint) same) in
          there_at (o.0) x.outpoint o.1 place
      by_place d of (inr j) =
          let r = from_map (λ (name : List ℕ). deposit hash keys s name (holding_or_none (look_up name (volatile s.advert.pre)))) (puts_of (core of.b)) x j in
          subst (λ (y : Spent). has_place course.state.live y.outpoint ≡ true) (sym r.2)
          (needed_there (names.At path) funded (r.0)
          (subst (Is_in (r.0)) (sym (ap puts_by (branch_at_path hash keys s path of.here of.i of.b of.ends))) r.1))

-- ---- ledgers

-- what is live lies there as the plan has it, with the scripts of wallets
pub all_live : (hash : List ℕ → List ℕ) (keys : Keys) (s : Instance) (state : State) (l : Listed) (live : List Entry)
    → HasLive hash keys s state l live → ((x : Spent) → Is_in x l.pending.spends → has_place state.live x.outpoint ≡ true)
    → AllLive hash live (wallets_of keys s l) l.pending.spends
all_live hash keys s state l live has there k x e =
    has k x e
    ∙ ap (λ (b : Bool). cond b (Some (spent_output hash (wallets_of keys s l k) x)) None) (there x (from_stands l.pending.spends x k e))

-- and where all deposits are of keys, as those have it
pub live_by_key : (hash : List ℕ → List ℕ) (keys : Keys) → AreKeyDeposits keys → (s : Instance) (l : Listed) (live : List Entry)
    → AllLive hash live (wallets_of keys s l) l.pending.spends → AreLive hash live l.pending.spends
live_by_key hash keys of_keys s l live lies x h =
    let n = stands_at l.pending.spends x (in_from_contains l.pending.spends x h) in
    lies n.0 x n.1 ∙ ap (λ (o : Option Wallet). Some (spent_output hash o x)) (no_wallet keys of_keys s.advert l.which n.0)

-- ---- the whole

pub can_is_accepted : CanExactly → CanOpens → CanIsAccepted
can_is_accepted exactly opens v hash advert deal text file course tip given strings which l oracle chain d followed read fits named h none accepted live top =
    let keys = deal_keys deal in
    let s : Instance = deal_instance advert deal in
    let told = known course.state strings in
    let whole = whole_deal v hash advert deal d in
    let kept = chain_kept hash keys s text course tip followed whole in
    let can = (exactly hash keys s given told course.state tip which l named).0 none in
    let ws = witnesses hash keys s given told l l.which in
    let tx = finished hash keys s given told l in
    let short = (signatures_are_shaped v hash keys s file given read).short in
    let fit = known_fit hash keys s text course tip strings followed fits in
    let there = all_there hash keys s course kept (placed hash keys s text course tip followed whole) which l named
    (in_from_contains (asked s course.state) which h) can.funded in
    let lies = all_live hash keys s course.state l chain.live live there in
    let plan : IsWhole l.pending =
    record { funded = funded_at hash keys s d.checked which l named; apart = apart_at hash keys s d.checked whole.apart which l named } in
    let reached : l.pending.lock ≤ chain.tip = subst (λ (n : ℕ). l.pending.lock ≤ n) (sym top) can.final in
    let opened = opens hash keys s text course tip given strings which l oracle whole.are_keys whole.applied short fits followed named none accepted in
    record {
      by_oracle = λ of_keys.
          accepts_open hash oracle chain l.pending ws plan (live_by_key hash keys of_keys s l chain.live lies) d.hashes.size reached
          (opened.of_keys of_keys) (witnesses_short hash keys s given told short fit of_keys l l.which);
      by_input_checks = λ takes taken.
          accepts_fine hash (input_checks keys s l oracle takes) (wallets_of keys s l) chain l.pending ws plan lies reached
          (fine_judged hash d.hashes.size oracle takes (wallets_of keys s l) chain.live tx 0 l.pending.spends ws
          (all_lie hash chain.live (wallets_of keys s l) l.pending.spends lies)
          (opened_fine hash oracle (λ k w. takes tx (spent_outputs chain.live tx) k ≡ true) (wallets_of keys s l) given
          (stripped (tx_of l.pending)) 0 l.pending.spends ws opened.by_input (keys_short hash keys s given told short fit l l.which)
          (known_are hash oracle (λ k w. takes tx (spent_outputs chain.live tx) k ≡ true) (wallets_of keys s l) (λ k v w e. taken k v e) 0 ws)));
    }
