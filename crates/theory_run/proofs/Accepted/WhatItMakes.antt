-- A move, a beginning and a branch that are accepted: what their outputs hold, and what is kept.
use Rattle.std.proofs.Common.{◌≡◌, ℕ, zero, suc, ◌+◌, ◌≤◌, ◌^◌, List, [], ◌∷◌, ◌++◌, length, true, Option, Some, None, refl, sym, ap, ◌∙◌, subst, arith, inl, inr}
use Rattle.std.specs.Prelude.{◌-◌, ◌⊎◌, slice_get}
use Rattle.spec_data.specs.Lists.{is_among}
use Rattle.spec_terms.specs.Term as term
use Rattle.spec_terms.specs.Term.{Contract, branches, Parts, no_part, part, parts_list, auth, after, put_reveal, withdraw, split}
use Rattle.spec_terms.specs.Core.{core}
use Rattle.spec_terms.specs.declared.path.PathStep.{PathStep}
use Rattle.spec_terms.specs.declared.path.PathStep.TheVariants.{Branch as To, Part as Into}
use Rattle.spec_bitcoin.specs.declared.tx.TxOut.{TxOut}
use Rattle.spec_bitcoin.specs.declared.tx.Tx.{Tx}
use Rattle.spec_bitcoin.specs.Digests.{txid}
use Rattle.spec_bitcoin.specs.Keys.{pay_to}
use Rattle.spec_calculus.specs.Configuration.{Configuration}
use Rattle.spec_compiler.specs.Instance.{Instance, branch_path, position_script}
use Rattle.spec_compiler.specs.Hashed.{compiled_strings}
use Rattle.theory_script.proofs.Listing.Stands.{position_stands}
use Rattle.spec_compiler.specs.Transactions.{Standing, tx_of, pays, part_position, part_outputs, core_outputs, continued_value, branch_unsigned, continued, part_standing, initial_unsigned, root_standing, root_value, party_script}
use Rattle.spec_compiler.specs.ByPath.{position_at}
use Rattle.spec_run.specs.Setup.{Setup, is_declared}
use Rattle.spec_run.specs.World.{ContractPosition, Output, World, is_advertised}
use Rattle.spec_run.specs.Compiled.{compiled_instance}
use Rattle.spec_run.specs.Conditions.{HashesBytes}
use Rattle.spec_run.specs.Ledger.{spend_from, made_from, core_holds, initial_of, first_position}
use Rattle.theory_bitcoin.specs.Apart.{bare}
use Rattle.theory_world.specs.Transactions.{IsNumbered}
use Rattle.theory_world.specs.KeptApart.{NoCollision}
use Rattle.theory_world.proofs.Ledger.Accepting.{Accepting, HeardAll}
use Rattle.theory_world.proofs.Later.{compiled_is}
use Rattle.theory_world.proofs.Contracts.Made.{ByBranch}
use Rattle.theory_world.proofs.Contracts.Standing.{put_position, split_position, position_named, root_position}
use Rattle.theory_run.proofs.Facts.OnePosition.{pays_same, position_key, same_position}
use Rattle.theory_world.proofs.Contracts.Keyed.{no_deposit}
use Rattle.theory_run.specs.KeptBook.{KeptBook, HeldFine}
use Rattle.theory_run.proofs.Facts.Kept.{Frame}
use Rattle.theory_run.proofs.Accepted.Spending.{TransactionsFit, Checked, script_heard}
use Rattle.theory_run.proofs.Accepted.Accept.{accepts}
use Rattle.theory_run.proofs.Accepted.WhatItIs.{First, first, initial_first, branch_first, bare_id, IsInitial, not_initial, Making, initial_making, branch_making, making, moves_make_none}

-- an element of a list of one
one_of : {A : Type 0} (x y : A) (m : ℕ) → slice_get (x ∷ []) m ≡ Some y → (m ≡ 0) × (x ≡ y)
one_of x y zero h = (refl, cc)
one_of x y (suc m) h = cc

-- an output of a split
part_of : (hash : List ℕ → List ℕ) (st : Instance) (path : List PathStep) (k m : ℕ) (ps : Parts) (x : TxOut)
    → slice_get (part_outputs hash st path k ps) m ≡ Some x
    → (p : ℕ × Contract) × (slice_get (parts_list ps) m ≡ Some p) × (x ≡ pays hash (position_script hash st (part_position path (m + k)) p.1) p.0)
part_of hash st path k m no_part x h = cc
part_of hash st path k zero (part v c ps) x h =
    let z : 0 + k ≡ k = omega arith in
    ((v, c), refl, rw z (let e : pays hash (position_script hash st (part_position path k) c) v ≡ x = cc in sym e))
part_of hash st path k (suc m) (part v c ps) x h = let z : suc m + k ≡ m + (k + 1) = omega arith in rw z (part_of hash st path (k + 1) m ps x h)

module _ (s : Setup) (size : HashesBytes s.hash) (few_contracts : length s.contracts ≤ 16) (g : Configuration) (w : World)
    (kept : KeptBook s g w) (fit : TransactionsFit s w) (check : Checked s w) (hs : List (List ℕ)) (clear : NoCollision s.hash hs)
    (sub : (t : List ℕ) → is_among t w.hashed ≡ true → is_among t hs ≡ true)
    (tx : Tx) (fits : IsNumbered tx) (spent : List ℕ) (acc : Accepting s w tx spent) (all : HeardAll s w hs tx) where
  heard_of : (k : ℕ) (st : Instance) → compiled_instance s w k ≡ Some st → (t : List ℕ) → is_among t (compiled_strings s.hash st) ≡ true → is_among t hs ≡ true
  heard_of k st c t i = sub t (kept.heard k st c t i)

  -- a position isn't paid as a deposit
  not_deposit : (k : ℕ) (st : Instance) (q : List PathStep) (here : Standing) (c : Contract) (p : List ℕ) → compiled_instance s w k
      ≡ Some st → position_at s.hash st q ≡ Some (here, c) → is_declared s p ≡ true → pay_to (s.hash (position_script s.hash st q c))
      ≡ pay_to (s.hash (party_script s.hash p)) → ⊥
  not_deposit k st q here c p ck eq decl e =
      let a = position_key s size few_contracts w check hs clear heard_of k st q here c ck eq in
      let ha : is_among (position_script s.hash st q c) hs ≡ true =
      subst (λ x. is_among x hs ≡ true) (position_stands s.hash st q here c eq).script (script_heard s.hash st hs (heard_of k st ck) q here c eq) in
      let x = pays_same s.hash hs clear (position_script s.hash st q c) (party_script s.hash p) ha (sub _ (kept.programs p decl)) e in
      no_deposit s.hash size.size hs clear st q (position_script s.hash st q c) p a.0 a.1 a.2 (sub _ (kept.labelled p decl)) x

  -- an output that makes a position is paid to its script
  making_script : (j : ℕ) (su : Instance) (q : List PathStep) (here : Standing) (choice : Contract) (m : ℕ) (x : TxOut)
      → compiled_instance s w j ≡ Some su → position_at s.hash su q ≡ Some (here, choice) → slice_get tx.outputs m ≡ Some x
      → (bb : ByBranch s.hash su q here choice) → bare tx ≡ bare (tx_of (branch_unsigned s.hash su bb.from_here bb.index bb.branch)) → m
      ≡ bb.number → x.script ≡ pay_to (s.hash (position_script s.hash su q choice))
  making_script j su q here choice m x c e hx bb i n = by_shape bb.shape
    where
      p : List PathStep
      p = branch_path bb.from_here.position bb.index

      p_is : branch_path bb.from_here.position bb.index ≡ bb.path
      p_is = ap (λ y. y ++ To bb.index ∷ []) (position_named s.hash su bb.is_branch.position bb.from_here bb.is_branch.choice
          bb.is_branch.stands) ∙ sym bb.is_branch.path_is

      by_shape : ((puts reveals : List (List ℕ)) × (test : term.Pred) × (core bb.branch ≡ put_reveal puts reveals test choice)
          × (bb.number ≡ 0) × (q ≡ bb.path)) ⊎ ((ps : Parts) × (value : ℕ) × (core bb.branch ≡ split ps)
          × (slice_get (parts_list ps) bb.number ≡ Some (value, choice)) × (q ≡ bb.path ++ Into bb.number ∷ []))
          → x.script ≡ pay_to (s.hash (position_script s.hash su q choice))
      by_shape (inl a) =
          let o : tx.outputs
          ≡ core_outputs s.hash su (branch_path bb.from_here.position bb.index) bb.from_here.output.value (put_reveal a.0 a.1 a.2 choice) =
          ap (λ (y : Tx). y.outputs) i ∙ ap (core_outputs s.hash su (branch_path bb.from_here.position bb.index) bb.from_here.output.value) a.3 in
          let r = one_of (pays s.hash (position_script s.hash su (branch_path bb.from_here.position bb.index) choice)
          (continued_value su bb.from_here.output.value a.0)) x m (ap (λ xs. slice_get xs m) (sym o) ∙ hx) in
          ap (λ (y : TxOut). y.script) (sym r.1) ∙ ap (λ y. pay_to (s.hash (position_script s.hash su y choice))) (p_is ∙ sym a.5)
      by_shape (inr a) =
          let o : tx.outputs ≡ part_outputs s.hash su (branch_path bb.from_here.position bb.index) 0 a.0 =
          ap (λ (y : Tx). y.outputs) i ∙ ap (core_outputs s.hash su (branch_path bb.from_here.position bb.index) bb.from_here.output.value) a.2 in
          let r = part_of s.hash su (branch_path bb.from_here.position bb.index) 0 m a.0 x (ap (λ xs. slice_get xs m) (sym o) ∙ hx) in
          let z : m + 0 ≡ m = omega arith in
          let xe : x ≡ pays s.hash (position_script s.hash su (part_position (branch_path bb.from_here.position bb.index) m) r.0.1) r.0.0 = rw z at r.2 in
          let pe : (let y : Option (ℕ × Contract) = Some r.0 in y) ≡ Some (a.1, choice) = sym r.1 ∙ ap (slice_get (parts_list a.0)) n ∙ a.3 in
          let pf : r.0 ≡ (a.1, choice) = cc in
          let ch : r.0.1 ≡ choice = ap (λ (y : ℕ × Contract). y.1) pf in
          let qe : part_position (branch_path bb.from_here.position bb.index) m ≡ q = (λ t. p_is t ++ Into (n t) ∷ []) ∙ sym a.4 in
          ap (λ (y : TxOut). y.script) xe ∙ (λ t. pay_to (s.hash (position_script s.hash su (qe t) (ch t))))

  -- ---- moves

  abbrev nothing : ℕ → Option ContractPosition
  nothing m = None

  pub accept_move : (g' : Configuration) (next : World) → next.outputs ≡ spend_from 0 spent w.outputs
      ++ made_from nothing (txid s.hash tx) 0 tx.outputs → Frame s g g' w next → next.hashed ≡ hs → length tx.outputs ≤ 2 ^ 32
      → ((k : ℕ) (st : Instance) → compiled_instance s next k ≡ Some st → compiled_instance s w k ≡ Some st)
      → ((k : ℕ) → is_advertised next k ≡ true → is_advertised w k ≡ true) → next.book ≡ w.book
      → initial_of s w tx ≡ None → first_position w spent ≡ None → KeptBook s g' next
  accept_move g' next outs f hn few back adv book i h =
      accepts s size g w kept fit check hs clear sub tx fits spent acc all nothing g' next outs f hn few back adv book
      (λ m x k o a b c. cc)
      (λ k st q here choice m x c e a p. absurd (moves_make_none s size g w kept fit check hs clear sub tx fits spent acc all i h k st q here choice m c e p))

  -- ---- beginnings

  abbrev root_of : ℕ → ℕ → Option ContractPosition
  root_of k m = Some (record { contract = k; position = [] })

  pub accept_begin : (k : ℕ) (is : IsInitial s w tx k) (g' : Configuration) (next : World) → next.outputs ≡ spend_from 0 spent w.outputs
      ++ made_from (root_of k) (txid s.hash tx) 0 tx.outputs → Frame s g g' w next → next.hashed ≡ hs → length tx.outputs ≤ 2 ^ 32
      → ((k : ℕ) (st : Instance) → compiled_instance s next k ≡ Some st → compiled_instance s w k ≡ Some st)
      → ((k : ℕ) → is_advertised next k ≡ true → is_advertised w k ≡ true) → next.book ≡ w.book
      → KeptBook s g' next
  accept_begin k is g' next outs f hn few back adv book =
      accepts s size g w kept fit check hs clear sub tx fits spent acc all (root_of k) g' next outs f hn few back adv book held_new placed_new
    where
      st : Instance
      st = is.instance

      outputs_are : tx.outputs ≡ pays s.hash (position_script s.hash is.instance [] is.instance.advert.root) (root_value is.instance) ∷ []
      outputs_are = ap (λ (y : Tx). y.outputs) is.is

      held_new : (m : ℕ) (x : TxOut) (h : ContractPosition) (o : Output) → slice_get tx.outputs m ≡ Some x → root_of k m ≡ Some h → o
          ≡ record {
            outpoint = record { txid = txid s.hash tx; vout = m };
            value = x.value;
            script = x.script;
            live = true;
            holds = root_of
                k m;
          } → HeldFine s next o h
      held_new m x h o hx hh ho =
          let z : record { contract = k; position = [] } ≡ h = cc in
          let r = one_of (pays s.hash (position_script s.hash is.instance [] is.instance.advert.root) (root_value is.instance)) x m
          (ap (λ xs. slice_get xs m) (sym outputs_are) ∙ hx) in
          let id = bare_id s size g w kept fit check hs clear sub tx fits spent acc all (initial_unsigned s.hash is.instance) is.is in
          subst (HeldFine s next o) z (record {
            instance = is.instance;
            compiled = f.compiled k is.instance is.compiled;
            here = root_standing s.hash is.instance;
            choice = is.instance.advert.root;
            stands = root_position s.hash is.instance;
            outpoint = ap (λ (y : Output). y.outpoint) ho ∙ (λ j. record { txid = id j; vout = r.0 j });
            script = ap (λ (y : Output). y.script) ho ∙ ap (λ (y : TxOut). y.script) (sym r.1);
            value = ap (λ (y : Output). y.value) ho ∙ ap (λ (y : TxOut). y.value) (sym r.1);
          })

      placed_new : (j : ℕ) (su : Instance) (q : List PathStep) (here : Standing) (choice : Contract) (m : ℕ) (x : TxOut)
          → compiled_instance s w j ≡ Some su → position_at s.hash su q ≡ Some (here, choice) → slice_get tx.outputs m ≡ Some x
          → record { txid = txid s.hash tx; vout = m } ≡ here.output.outpoint → root_of k m ≡ Some (record { contract = j; position = q })
      placed_new j su q here choice m x c e hx p = by_making (making s size g w kept fit check hs clear sub tx fits spent acc all j su q here choice m c e p)
        where
          by_making : Making s size g w kept fit check hs clear sub tx fits spent acc all j su q here choice m → root_of k m
              ≡ Some (record { contract = j; position = q })
          by_making (initial_making a b h) =
              let o : (pays s.hash (position_script s.hash su [] su.advert.root) (root_value su) ∷ [])
              ≡ pays s.hash (position_script s.hash is.instance [] is.instance.advert.root) (root_value is.instance) ∷ [] =
              sym (ap (λ (y : Tx). y.outputs) h) ∙ outputs_are in
              let v : pays s.hash (position_script s.hash su [] su.advert.root) (root_value su)
              ≡ pays s.hash (position_script s.hash is.instance [] is.instance.advert.root) (root_value is.instance) =
              cc in
              let same = same_position s size few_contracts w check hs clear heard_of j k su is.instance [] [] (root_standing s.hash su)
              (root_standing s.hash is.instance) su.advert.root is.instance.advert.root c is.compiled refl refl (ap (λ (y : TxOut). y.script) v) in
              let cj : su.contract ≡ j = ap (λ (y : Instance). y.contract) (compiled_is s w j su c).is in
              let ck : is.instance.contract ≡ k = ap (λ (y : Instance). y.contract) (compiled_is s w k is.instance is.compiled).is in
              let kj : k ≡ j = sym ck ∙ sym same.0 ∙ cj in
              let qa = sym a in
              λ i. Some (record { contract = kj i; position = qa i })
          by_making (branch_making bb h n) =
              let u = branch_first s size g w kept fit check hs clear sub
              tx fits spent acc all j su bb.is_branch.position bb.from_here bb.is_branch.choice bb.index bb.branch c bb.is_branch.stands h in
              let v = initial_first s size g w kept fit check hs clear sub tx fits spent acc all k is.instance is.compiled is.is in
              cc

  -- ---- branches

  abbrev fst : First s size g w kept fit check hs clear sub tx fits spent acc all
  fst = first s size g w kept fit check hs clear sub tx fits spent acc all

  -- the first input's output holds a position, and the transaction is that of a branch there
  pub record Taking (h : ContractPosition) : Type 0 where
    pub holds : fst.spends.output.holds ≡ Some h
    pub fine : HeldFine s w fst.spends.output h
    pub index : ℕ
    pub branch : term.Guarded
    pub there : slice_get (branches fine.choice) index ≡ Some branch
    pub is : bare tx ≡ bare (tx_of (branch_unsigned s.hash fine.instance fine.here index branch))
    -- whom the branch pays is declared
    pub payee : (p : List ℕ) → core branch ≡ withdraw p → is_declared s p ≡ true

  abbrev branch_of : (h : ContractPosition) → Taking h → ℕ → Option ContractPosition
  branch_of h t m = core_holds h.contract (h.position ++ To t.index ∷ []) (core t.branch) m

  module _ (h : ContractPosition) (t : Taking h) where
    abbrev st : Instance
    st = t.fine.instance

    abbrev path : List PathStep
    path = h.position ++ To t.index ∷ []

    path_is : branch_path t.fine.here.position t.index ≡ path
    path_is = ap (λ p. p ++ To t.index ∷ []) (position_named s.hash st h.position t.fine.here t.fine.choice t.fine.stands)

    outputs_are : (c : term.Guarded) → core t.branch ≡ c → tx.outputs
        ≡ core_outputs s.hash st (branch_path t.fine.here.position t.index) t.fine.here.output.value c
    outputs_are c e = ap (λ (y : Tx). y.outputs) t.is ∙ ap (core_outputs s.hash st (branch_path t.fine.here.position t.index) t.fine.here.output.value) e

    id : txid s.hash tx ≡ txid s.hash (tx_of (branch_unsigned s.hash st t.fine.here t.index t.branch))
    id = bare_id s size g w kept fit check hs clear sub tx fits spent acc all (branch_unsigned s.hash st t.fine.here t.index t.branch) t.is

    -- what new output m is, where it holds something
    pub record NewHeld (m : ℕ) (x : TxOut) (k : ContractPosition) : Type 0 where
      pub here : Standing
      pub choice : Contract
      pub stands : position_at s.hash st k.position ≡ Some (here, choice)
      pub contract : k.contract ≡ h.contract
      pub outpoint : record { txid = txid s.hash tx; vout = m } ≡ here.output.outpoint
      pub script : x.script ≡ pay_to (s.hash here.output.script)
      pub value : x.value ≡ here.output.value

    new_put : (puts reveals : List (List ℕ)) (test : term.Pred) (nx : Contract) → core t.branch ≡ put_reveal puts reveals test nx
        → (m : ℕ) (x : TxOut) → slice_get tx.outputs m ≡ Some x → NewHeld m x (record { contract = h.contract; position = path })
    new_put puts reveals test nx e m x hx =
        let p = branch_path t.fine.here.position t.index in
        let r = one_of (pays s.hash (position_script s.hash st p nx) (continued_value st t.fine.here.output.value puts)) x m
        (ap (λ xs. slice_get xs m) (sym (outputs_are (put_reveal puts reveals test nx) e)) ∙ hx) in
        record {
          here = continued s.hash st p (branch_unsigned s.hash st t.fine.here t.index t.branch) (continued_value st t.fine.here.output.value puts) nx;
          choice = nx;
          stands = put_position s.hash st h.position t.fine.here t.fine.choice t.index t.branch puts reveals test nx t.fine.stands t.there e;
          contract = refl;
          outpoint = λ j. record { txid = id j; vout = r.0 j };
          script = ap (λ (y : TxOut). y.script) (sym r.1);
          value = ap (λ (y : TxOut). y.value) (sym r.1);
        }

    new_part : (ps : Parts) → core t.branch ≡ split ps → (m : ℕ) (x : TxOut) → slice_get tx.outputs m ≡ Some x
        → NewHeld m x (record { contract = h.contract; position = path ++ Into m ∷ [] })
    new_part ps e m x hx =
        let p = branch_path t.fine.here.position t.index in
        let r = part_of s.hash st p 0 m ps x (ap (λ xs. slice_get xs m) (sym (outputs_are (split ps) e)) ∙ hx) in
        let z : m + 0 ≡ m = omega arith in
        let xe : x ≡ pays s.hash (position_script s.hash st (part_position p m) r.0.1) r.0.0 = rw z at r.2 in
        record {
          here = part_standing s.hash st p (branch_unsigned s.hash st t.fine.here t.index t.branch) m r.0.0 r.0.1;
          choice = r.0.1;
          stands = split_position s.hash st h.position t.fine.here t.fine.choice t.index m t.branch ps r.0 t.fine.stands t.there e r.1;
          contract = refl;
          outpoint = λ j. record { txid = id j; vout = m };
          script = ap (λ (y : TxOut). y.script) xe;
          value = ap (λ (y : TxOut). y.value) xe;
        }

    new_held : (c : term.Guarded) → core t.branch ≡ c → (m : ℕ) (x : TxOut) (k : ContractPosition) → slice_get tx.outputs m ≡ Some x
        → core_holds h.contract path c m ≡ Some k → NewHeld m x k
    new_held (put_reveal puts reveals test nx) e m x k hx hk =
        let z : record { contract = h.contract; position = path } ≡ k = cc in subst (NewHeld m x) z (new_put puts reveals test nx e m x hx)
    new_held (split ps) e m x k hx hk =
        let z : record { contract = h.contract; position = path ++ Into m ∷ [] } ≡ k = cc in subst (NewHeld m x) z (new_part ps e m x hx)
    new_held (withdraw p) e m x k hx hk = cc
    new_held (auth party body) e m x k hx hk = cc
    new_held (after height body) e m x k hx hk = cc

    -- a position whose script an output is paid to is what it holds
    holds_position : (c : term.Guarded) → core t.branch ≡ c → (q : List PathStep) (here : Standing) (choice : Contract) (m : ℕ) (x : TxOut)
        → position_at s.hash st q ≡ Some (here, choice) → slice_get tx.outputs m ≡ Some x → x.script ≡ pay_to (s.hash (position_script s.hash st q choice))
        → core_holds h.contract path c m ≡ Some (record { contract = h.contract; position = q })
    holds_position (put_reveal puts reveals test nx) e q here choice m x eq hx hs' =
        let n = new_put puts reveals test nx e m x hx in
        let sc = (position_stands s.hash st path n.here n.choice n.stands).script in
        let same = same_position s size few_contracts w check hs clear heard_of h.contract h.contract st st path
        q n.here here n.choice choice t.fine.compiled t.fine.compiled n.stands eq (ap (λ y. pay_to (s.hash y)) (sym sc) ∙ sym n.script ∙ hs') in
        ap (λ p. Some (record { contract = h.contract; position = p })) same.1
    holds_position (split ps) e q here choice m x eq hx hs' =
        let n = new_part ps e m x hx in
        let sc = (position_stands s.hash st (path ++ Into m ∷ []) n.here n.choice n.stands).script in
        let same = same_position s size few_contracts w check hs clear heard_of h.contract h.contract st st (path ++ Into m ∷ [])
        q n.here here n.choice choice t.fine.compiled t.fine.compiled n.stands eq (ap (λ y. pay_to (s.hash y)) (sym sc) ∙ sym n.script ∙ hs') in
        ap (λ p. Some (record { contract = h.contract; position = p })) same.1
    holds_position (withdraw p) e q here choice m x eq hx hs' =
        let r = one_of (pays s.hash (party_script s.hash p) (t.fine.here.output.value - st.advert.fee)) x m
        (ap (λ xs. slice_get xs m) (sym (outputs_are (withdraw p) e)) ∙ hx) in
        absurd (not_deposit h.contract st q here choice p t.fine.compiled eq (t.payee p e) (sym hs' ∙ ap (λ (y : TxOut). y.script) (sym r.1)))
    holds_position (auth party body) e q here choice m x eq hx hs' = let o = ap (λ xs. slice_get xs m) (sym (outputs_are (auth party body) e)) ∙ hx in cc
    holds_position (after height body) e q here choice m x eq hx hs' = let o = ap (λ xs. slice_get xs m) (sym (outputs_are (after height body) e)) ∙ hx in cc

    pub accept_branch : (g' : Configuration) (next : World) → initial_of s w tx ≡ None → next.outputs ≡ spend_from 0 spent w.outputs
        ++ made_from (branch_of h t) (txid s.hash tx) 0 tx.outputs → Frame s g g' w next → next.hashed ≡ hs → length tx.outputs ≤ 2 ^ 32
        → ((k : ℕ) (st : Instance) → compiled_instance s next k ≡ Some st → compiled_instance s w k ≡ Some st)
        → ((k : ℕ) → is_advertised next k ≡ true → is_advertised w k ≡ true) → next.book ≡ w.book
        → KeptBook s g' next
    accept_branch g' next not_init outs f hn few back adv book =
        accepts s size g w kept fit check hs clear sub tx fits spent acc all (branch_of h t) g' next outs f hn few back adv book held_new placed_new
      where
        held_new : (m : ℕ) (x : TxOut) (k : ContractPosition) (o : Output) → slice_get tx.outputs m ≡ Some x → branch_of h t m ≡ Some k → o
            ≡ record {
              outpoint = record {
                txid = txid s.hash
                    tx;
                vout = m;
              };
              value = x.value;
              script = x.script;
              live = true;
              holds = branch_of h t m;
            } → HeldFine s next o k
        held_new m x k o hx hk ho =
            let n = new_held (core t.branch) refl m x k hx hk in
            record {
              instance = st;
              compiled = subst (λ j. compiled_instance s next j ≡ Some st) (sym n.contract) (f.compiled h.contract st t.fine.compiled);
              here = n.here;
              choice = n.choice;
              stands = n.stands;
              outpoint = ap (λ (y : Output). y.outpoint) ho ∙ n.outpoint;
              script = ap (λ (y : Output). y.script) ho ∙ n.script;
              value = ap (λ (y : Output). y.value) ho ∙ n.value;
            }

        placed_new : (j : ℕ) (su : Instance) (q : List PathStep) (here : Standing) (choice : Contract) (m : ℕ) (x : TxOut)
            → compiled_instance s w j ≡ Some su → position_at s.hash su q ≡ Some (here, choice) → slice_get tx.outputs m ≡ Some x
            → record { txid = txid s.hash tx; vout = m } ≡ here.output.outpoint → branch_of h t m ≡ Some (record { contract = j; position = q })
        placed_new j su q here choice m x c e hx p = by_making (making s size g w kept fit check hs clear sub tx fits spent acc all j su q here choice m c e p)
          where
            by_making : Making s size g w kept fit check hs clear sub tx fits spent acc all j su q here choice m → branch_of h t m
                ≡ Some (record { contract = j; position = q })
            by_making (initial_making a b i) = absurd (not_initial s w tx j su not_init c i)
            by_making (branch_making bb i n) =
                let u = branch_first s size g w kept fit check hs clear sub
                tx fits spent acc all j su bb.is_branch.position bb.from_here bb.is_branch.choice bb.index bb.branch c bb.is_branch.stands i in
                let v : (let o : Option ContractPosition = Some h in o) ≡ Some (record { contract = j; position = bb.is_branch.position }) = sym t.holds ∙ u in
                let hv : h ≡ record { contract = j; position = bb.is_branch.position } = cc in
                let jc : h.contract ≡ j = ap (λ (y : ContractPosition). y.contract) hv in
                let so : (let o : Option Instance = Some st in o) ≡ Some su = sym t.fine.compiled ∙ subst (λ y. compiled_instance s w y ≡ Some su) (sym jc) c in
                let ss : st ≡ su = cc in
                let e' : position_at s.hash st q ≡ Some (here, choice) = subst (λ y. position_at s.hash y q ≡ Some (here, choice)) (sym ss) e in
                let sx : x.script ≡ pay_to (s.hash (position_script s.hash su q choice)) = making_script j su q here choice m x c e hx bb i n in
                holds_position (core t.branch) refl q here choice m x e' hx
                (subst (λ y. x.script ≡ pay_to (s.hash (position_script s.hash y q choice))) (sym ss) sx)
                ∙ ap (λ y. Some (record { contract = y; position = q })) jc
