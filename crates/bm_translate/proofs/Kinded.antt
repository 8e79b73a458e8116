-- What a transaction is to the contracts of a run, by the configuration and by what is compiled in the end.
use Rattle.std.proofs.Common.{◌≡◌, ℕ, zero, suc, ◌+◌, List, [], ◌∷◌, ◌++◌, Bool, true, false, Option, Some, None, refl, sym, ap, ◌∙◌, subst, arith}
use Rattle.std.specs.Prelude.{◌&&◌, is_some, if◌then◌else◌, slice_get}
use Rattle.std.specs.Option.{option_map, option_and_then}
use Rattle.spec_terms.specs.Advert.{Advert}
use Rattle.spec_terms.specs.Parties.{participants}
use Rattle.spec_terms.specs.declared.path.PathStep.{PathStep}
use Rattle.spec_terms.specs.declared.path.PathStep.TheVariants.{Branch as To}
use Rattle.spec_bitcoin.specs.declared.tx.Tx.{Tx}
use Rattle.spec_calculus.specs.declared.step.Step.{Step}
use Rattle.spec_calculus.specs.Configuration.{Configuration}
use Rattle.spec_calculus.specs.Beginning.{is_advertised}
use Rattle.spec_calculus.specs.Branches.{active_at}
use Rattle.spec_calculus.specs.Steps.{is_committed}
use Rattle.spec_compiler.specs.Instance.{Instance}
use Rattle.spec_compiler.specs.Transactions.{tx_of, initial_unsigned}
use Rattle.spec_run.specs.Setup.{Setup, contract_at, people_of}
use Rattle.spec_run.specs.World.{ContractPosition, Output, World, output_at, live_position, live_position_at}
use Rattle.spec_run.specs.World as world
use Rattle.spec_run.specs.Compiled.{instance_of, is_complete, instance_if_complete, compiled_instance}
use Rattle.spec_run.specs.Ledger.{is_initial, initial_from, initial_of, same_bare, branch_in, first_number, first_position, first_witness, branch_count, kind_by, kind_of, Takes}
use Rattle.spec_compiler.specs.Witness.{chosen_by}
use Rattle.spec_run.specs.Agreement.{active_by, active_in}
use Rattle.spec_run.specs.Steps.{begin_steps, branch_steps, move_steps, kind_steps}
use Rattle.theory_world.proofs.Later.{IsCompiledAt, compiled_is}
use Rattle.theory_run.specs.KeptBook.{HeldFine}
use Rattle.theory_world.proofs.Ledger.Outputs.{active-at}
use Rattle.theory_run.proofs.Steps.Beginnings.{committed_same}
use Rattle.bm_compile.specs.Numbered.{Numbered, numbered}
use Rattle.bm_match.specs.Matches.{compiled_from, begins, chosen_at}
use Rattle.bm_world_board.specs.declared.board.Board.{Board}
use Rattle.bm_world_board.specs.Compiling.{compiled_at}
use Rattle.bm_calculus.specs.Answers.{parts_of}
use Rattle.bm_translate.specs.declared.running.Running.{Running}
use Rattle.bm_translate.specs.Kinds.{is_complete_now, begins_now, first_begun_now}
use Rattle.bm_translate.specs.Moments.{IsMoment}

-- ---- what is compiled by now

never : (a : Bool) → (a && false) ≡ false
never true = refl
never false = refl

always : (a : Bool) → (a && true) ≡ a
always true = refl
always false = refl

first_not : (k : ℕ) (t : Bool) (o : Option ℕ) → (if t then Some k else o) ≡ None → (t ≡ false) × (o ≡ None)
first_not k true o h = cc
first_not k false o h = (refl, h)

-- what stands for a live contract output
pub record IsThere (w : World) (n : ℕ) (held : ContractPosition) : Type 0 where
  pub output : Output
  pub there : slice_get w.outputs n ≡ Some output
  pub holds : output.holds ≡ Some held

there_live : (w : World) (n : ℕ) (held : ContractPosition) → live_position_at w n ≡ Some held → IsThere w n held
there_live w n held h = by_output (output_at w n) refl h
  where
    by_live : (o : Output) → slice_get w.outputs n ≡ Some o → (t : Bool) → (if t then o.holds else None) ≡ Some held → IsThere w n held
    by_live o e true k = record { output = o; there = e; holds = k }
    by_live o e false k = cc

    by_output : (o : Option Output) → slice_get w.outputs n ≡ o → live_position o ≡ Some held → IsThere w n held
    by_output None e k = cc
    by_output (Some o) e k = by_live o e o.live k

-- the same parts of an active contract
same_parts : (p q : ℕ × List PathStep × ℕ) → Some p ≡ Some q → (p.0 ≡ q.0) × (p.1 ≡ q.1)
same_parts p q h =
    let z : p ≡ q = cc in
    (ap (λ (x : ℕ × List PathStep × ℕ). x.0) z, ap (λ (x : ℕ × List PathStep × ℕ). x.1) z)

module _ (s : Setup) (f w : World) (b : Board) (messages : List (List ℕ)) (r : Running) (at : IsMoment s b messages f w r) where
  abbrev g : Configuration
  g = r.config

  complete_is : (k : ℕ) → is_complete_now r.config k ≡ is_some (compiled_instance s w k)
  complete_is k = rw (at.kept.tracks.constant.contracts) (by_contract (contract_at s k))
    where
      by_test : (a : Advert) (t : Bool) → t ≡ is_some (if t then Some (instance_of w k a) else None)
      by_test a true = refl
      by_test a false = refl

      by_contract : (o : Option Advert) → (is_advertised r.config.advertised k && is_committed r.config k o) ≡ is_some (instance_if_complete w k o)
      by_contract None = never (is_advertised r.config.advertised k)
      by_contract (Some a) =
          let e : is_advertised r.config.advertised k ≡ world.is_advertised w k = ap (λ xs. is_advertised xs k) at.kept.tracks.advertised in
          let c = committed_same s f.posted w r.config at.kept.tracks.secrets.lengths k (participants a) in
          (λ i. e i && c i) ∙ by_test a (is_complete w k a)

  begins_is : (tx : Tx) (k : ℕ) → begins_now r.config tx k (option_map (numbered s.hash) (compiled_instance s f k)) ≡ is_initial s tx (compiled_instance s w k)
  begins_is tx k =
      ap (λ t. begins tx (option_map (numbered s.hash) (compiled_instance s f k)) && t) (complete_is k) ∙ by_instance (compiled_instance s w k) refl
    where
      by_instance : (o : Option Instance) → compiled_instance s w k ≡ o
          → (begins tx (option_map (numbered s.hash) (compiled_instance s f k)) && is_some o) ≡ is_initial s tx o
      by_instance None e = never (begins tx (option_map (numbered s.hash) (compiled_instance s f k)))
      by_instance (Some st) e =
          ap (λ o. begins tx (option_map (numbered s.hash) o) && true) (at.later.compiled k st e)
          ∙ always (same_bare tx (tx_of (initial_unsigned s.hash st)))

  first_is : (tx : Tx) (k : ℕ) (adverts : List Advert) → first_begun_now r.config tx k (compiled_from s f k adverts) ≡ initial_from s w tx k adverts
  first_is tx k [] = refl
  first_is tx k (a ∷ adverts) = rw (begins_is tx k, first_is tx (k + 1) adverts) refl

  -- the contract whose initial transaction it is
  pub begun_is : (tx : Tx) → first_begun_now r.config tx 0 b.compiled ≡ initial_of s w tx
  begun_is tx = ap (first_begun_now r.config tx 0) at.end.compiled ∙ first_is tx 0 s.contracts

  -- ---- what lies at an output

  lies : (n : ℕ) → active_at r.config.active n ≡ option_and_then (active_in n) (output_at w n)
  lies n = ap (λ xs. active_at xs n) at.kept.tracks.money.active ∙ active-at n w.outputs

  -- no contract
  pub none_held : (n : ℕ) → parts_of (active_at r.config.active n) ≡ None → live_position_at w n ≡ None
  none_held n h = by_output (output_at w n) (sym (ap parts_of (lies n)) ∙ h)
    where
      by_held : (v : ℕ) (p : Option ContractPosition) → parts_of (active_by n v p) ≡ None → p ≡ None
      by_held v None e = refl
      by_held v (Some held) e = cc

      by_output : (o : Option Output) → parts_of (option_and_then (active_in n) o) ≡ None → live_position o ≡ None
      by_output None e = refl
      by_output (Some o) e = by_held o.value (live_position (Some o)) e

  -- a contract at a position
  pub some_held : (n contract : ℕ) (position : List PathStep) (balance : ℕ) → parts_of (active_at r.config.active n) ≡ Some (contract, position, balance)
      → live_position_at w n ≡ Some (record { contract = contract; position = position })
  some_held n contract position balance h = by_output (output_at w n) (sym (ap parts_of (lies n)) ∙ h)
    where
      by_held : (v : ℕ) (p : Option ContractPosition) → parts_of (active_by n v p) ≡ Some (contract, position, balance)
          → p ≡ Some (record { contract = contract; position = position })
      by_held v None e = cc
      by_held v (Some held) e =
          let z = same_parts (held.contract, held.position, v) (contract, position, balance) e in
          λ i. Some (record { contract = z.0 i; position = z.1 i })

      by_output : (o : Option Output) → parts_of (option_and_then (active_in n) o) ≡ Some (contract, position, balance)
          → live_position o ≡ Some (record { contract = contract; position = position })
      by_output None e = cc
      by_output (Some o) e = by_held o.value (live_position (Some o)) e

  -- ---- what a contract is compiled to

  from_get : (k i : ℕ) (adverts : List Advert) (advert : Advert) → slice_get adverts i ≡ Some advert
      → slice_get (compiled_from s f k adverts) i ≡ Some (option_map (numbered s.hash) (compiled_instance s f (k + i)))
  from_get k i [] advert e = cc
  from_get k zero (a ∷ adverts) advert e =
      let z : k ≡ k + 0 = omega arith in
      ap (λ j. Some (option_map (numbered s.hash) (compiled_instance s f j))) z
  from_get k (suc i) (a ∷ adverts) advert e =
      let z : k + 1 + i ≡ k + suc i = omega arith in
      from_get (k + 1) i adverts advert e ∙ ap (λ j. Some (option_map (numbered s.hash) (compiled_instance s f j))) z

  compiled_there : (k : ℕ) (st : Instance) → compiled_instance s w k ≡ Some st → compiled_at b.compiled k ≡ Some (numbered s.hash st)
  compiled_there k st h =
      let c = compiled_is s w k st h in
      let z : 0 + k ≡ k = omega arith in
      ap (λ o. option_and_then (λ (x : Option Numbered). x) o)
      (ap (λ cs. slice_get cs k) at.end.compiled ∙ from_get 0 k s.contracts c.advert c.there
      ∙ ap (λ o. Some (option_map (numbered s.hash) o)) (ap (compiled_instance s f) z ∙ at.later.compiled k st h))

  not_initial : (tx : Tx) (k i : ℕ) (adverts : List Advert) (advert : Advert) → slice_get adverts i ≡ Some advert
      → initial_from s w tx k adverts ≡ None → is_initial s tx (compiled_instance s w (k + i)) ≡ false
  not_initial tx k i [] advert e h = cc
  not_initial tx k zero (a ∷ adverts) advert e h =
      let z : k + 0 ≡ k = omega arith in
      rw z (first_not k (is_initial s tx (compiled_instance s w k)) (initial_from s w tx (k + 1) adverts) h).0
  not_initial tx k (suc i) (a ∷ adverts) advert e h =
      let z : k + 1 + i ≡ k + suc i = omega arith in
      rw z at (not_initial tx (k + 1) i adverts advert e (first_not k (is_initial s tx (compiled_instance s w k)) (initial_from s w tx (k + 1) adverts) h).1)

  -- ---- the branch that is taken

  module _ (tx : Tx) (none : initial_of s w tx ≡ None) (n : ℕ) (held : ContractPosition) (is : live_position_at w n ≡ Some held) where
    pub out : IsThere w n held
    out = there_live w n held is

    pub fine : HeldFine s w out.output held
    fine = at.kept.books.book.held n out.output held out.there out.holds

    contract : IsCompiledAt s w held.contract fine.instance
    contract = compiled_is s w held.contract fine.instance fine.compiled

    -- what its contract is compiled to
    pub compiled_held : compiled_at b.compiled held.contract ≡ Some (numbered s.hash fine.instance)
    compiled_held = compiled_there held.contract fine.instance fine.compiled

    -- the transaction isn't its initial one
    pub other_held : same_bare tx (tx_of (initial_unsigned s.hash fine.instance)) ≡ false
    other_held =
        let z : 0 + held.contract ≡ held.contract = omega arith in
        let e = not_initial tx 0 held.contract s.contracts contract.advert contract.there none in
        subst (λ o. is_initial s tx o ≡ false) (ap (compiled_instance s w) z ∙ fine.compiled) e

    -- and the branch that is chosen is that of its contract
    pub chosen_held : chosen_at fine.instance.advert.root held.position tx ≡ chosen_by (branch_count s held) (first_witness tx.inputs)
    chosen_held =
        let text : fine.instance.advert ≡ contract.advert = ap (λ (y : Instance). y.advert) contract.is in
        rw contract.there (ap (λ (y : Advert). chosen_at y.root held.position tx) text)

-- ---- the steps of what a transaction is

-- the first of some numbers
first_is_number : (w : World) (spent : List ℕ) (n : ℕ) → slice_get spent 0 ≡ Some n → (first_number spent ≡ n) × (first_position w spent ≡ live_position_at w n)
first_is_number w [] n h = cc
first_is_number w (m ∷ ms) n h = let z : m ≡ n = cc in (z, ap (live_position_at w) z)

nothing_spent : (w : World) (spent : List ℕ) → slice_get spent 0 ≡ None → first_position w spent ≡ None
nothing_spent w [] h = refl
nothing_spent w (m ∷ ms) h = cc

module _ (s : Setup) (f w : World) (b : Board) (messages : List (List ℕ)) (r : Running) (at : IsMoment s b messages f w r) (tx : Tx)
    (spent : List ℕ) where
  -- an initial transaction
  pub initial_steps : (k : ℕ) → Some k ≡ first_begun_now r.config tx 0 b.compiled
      → begin_steps s r.config k ≡ kind_steps s r.config w tx spent (kind_of s w tx spent)
  initial_steps k h =
      let e : Some k ≡ initial_of s w tx = h ∙ begun_is s f w b messages r at tx in
      ap (λ o. kind_steps s r.config w tx spent (kind_by s tx spent o (first_position w spent))) e

  -- another
  pub other_steps : None ≡ first_begun_now r.config tx 0 b.compiled
      → kind_steps s r.config w tx spent (kind_by s tx spent None (first_position w spent)) ≡ kind_steps s r.config w tx spent (kind_of s w tx spent)
  other_steps h =
      let e : None ≡ initial_of s w tx = h ∙ begun_is s f w b messages r at tx in
      ap (λ o. kind_steps s r.config w tx spent (kind_by s tx spent o (first_position w spent))) e

  pub none_begun : None ≡ first_begun_now r.config tx 0 b.compiled → initial_of s w tx ≡ None
  none_begun h = sym (h ∙ begun_is s f w b messages r at tx)

  -- one that spends nothing of a contract
  pub moving_steps : first_position w spent ≡ None
      → move_steps s w tx spent ≡ kind_steps s r.config w tx spent (kind_by s tx spent None (first_position w spent))
  moving_steps h = sym (ap (λ o. kind_steps s r.config w tx spent (kind_by s tx spent None o)) h)

  pub nothing_first : None ≡ slice_get spent 0 → first_position w spent ≡ None
  nothing_first h = nothing_spent w spent (sym h)

  pub no_contract : (n : ℕ) → slice_get spent 0 ≡ Some n → None ≡ parts_of (active_at r.config.active n) → first_position w spent ≡ None
  no_contract n h e = (first_is_number w spent n h).1 ∙ none_held s f w b messages r at n (sym e)

  -- one that takes a branch
  pub taking_is : initial_of s w tx ≡ None → (n contract : ℕ) (position : List PathStep) (balance : ℕ) (made : List Step)
      → slice_get spent 0 ≡ Some n → Some (contract, position, balance) ≡ parts_of (active_at r.config.active n)
      → ((hash : List ℕ → List ℕ) (st : Instance) (g : Configuration) → compiled_at b.compiled contract ≡ Some (numbered hash st)
      → same_bare tx (tx_of (initial_unsigned hash st)) ≡ false → g.branch_authorised ≡ r.asked
      → made ≡ branch_steps g (people_of (slice_get b.contracts contract)) n (chosen_at st.advert.root position tx)
      (branch_in (slice_get b.contracts contract) (position ++ To (chosen_at st.advert.root position tx) ∷ [])))
      → made ≡ kind_steps s r.config w tx spent (kind_by s tx spent None (first_position w spent))
  taking_is none n contract position balance made h e says =
      let held : ContractPosition = record { contract = contract; position = position } in
      let is : live_position_at w n ≡ Some (record { contract = contract; position = position }) =
      some_held s f w b messages r at n contract position balance (sym e) in
      let first = first_is_number w spent n h in
      let fits = fine s f w b messages r at tx none n (record { contract = contract; position = position }) is in
      let chosen = chosen_held s f w b messages r at tx none n (record { contract = contract; position = position }) is in
      let steps = says s.hash fits.instance r.config
      (compiled_held s f w b messages r at tx none n (record { contract = contract; position = position }) is)
      (other_held s f w b messages r at tx none n (record { contract = contract; position = position }) is) (sym at.asked) in
      steps
      ∙ (λ i. branch_steps r.config (people_of (slice_get (at.end.contracts i) contract)) n (chosen i)
      (branch_in (slice_get (at.end.contracts i) contract) (position ++ To (chosen i) ∷ [])))
      ∙ sym (ap (λ m. kind_steps s r.config w tx spent (Takes held m (chosen_by (branch_count s held) (first_witness tx.inputs)))) first.0)
      ∙ sym (ap (λ o. kind_steps s r.config w tx spent (kind_by s tx spent None o)) (first.1 ∙ is))
