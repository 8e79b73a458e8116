-- What an accepted transaction is to the contracts, and what its outputs hold.
use Rattle.std.proofs.Common.{◌≡◌, ℕ, zero, suc, ◌+◌, List, [], ◌∷◌, length, map, Bool, true, false, not, Option, Some, None, refl, sym, ap, ◌∙◌, subst, arith, inl}
use Rattle.std.specs.Prelude.{◌==◌, slice_get, if◌then◌else◌}
use Rattle.std.specs.Str.{bytes_eq}
use Rattle.std.proofs.lemmas.Bool.{both_ways}
use Rattle.spec_data.specs.Lists.{is_among, look_up}
use Rattle.spec_terms.specs.Term as term
use Rattle.spec_terms.specs.Term.{Contract}
use Rattle.spec_terms.specs.Advert.{Advert}
use Rattle.spec_terms.specs.Precondition.{Holding, deposits, persistent}
use Rattle.spec_terms.specs.declared.path.PathStep.{PathStep}
use Rattle.spec_bitcoin.specs.declared.tx.OutPoint.{OutPoint}
use Rattle.spec_bitcoin.specs.declared.tx.TxIn.{TxIn}
use Rattle.spec_bitcoin.specs.declared.tx.Tx.{Tx}
use Rattle.spec_bitcoin.specs.Spelling.{stripped, IsPlace}
use Rattle.spec_compiler.specs.Hashed.{compiled_strings}
use Rattle.spec_bitcoin.specs.Digests.{txid}
use Rattle.spec_calculus.specs.Configuration.{Configuration}
use Rattle.spec_compiler.specs.Instance.{Instance}
use Rattle.spec_compiler.specs.declared.unsigned.Spent.{Spent}
use Rattle.spec_compiler.specs.declared.unsigned.Unsigned.{Unsigned}
use Rattle.spec_compiler.specs.Transactions.{Standing, input_of, tx_of, outpoint_or_none, deposit, persistent_deposits, branch_unsigned, initial_unsigned, root_standing}
use Rattle.spec_compiler.specs.ByPath.{position_at}
use Rattle.spec_run.specs.Setup.{Setup}
use Rattle.spec_run.specs.World.{ContractPosition, Output, World, output_at, live_position, bindings_at, is_advertised}
use Rattle.spec_run.specs.Compiled.{outpoint_of, bound_outpoints, compiled_instance}
use Rattle.spec_run.specs.Conditions.{HashesBytes}
use Rattle.spec_run.specs.Ledger.{is_initial, initial_from, initial_of, first_position}
use Rattle.theory_bitcoin.specs.Apart.{bare_input, bare}
use Rattle.theory_calculus.specs.Members.{Is_in}
use Rattle.theory_calculus.proofs.Names.{persistent_deposit}
use Rattle.theory_world.specs.KeptApart.{NoCollision}
use Rattle.theory_world.specs.Transactions.{IsNumbered}
use Rattle.theory_world.proofs.Ledger.Preimages.{double-apart}
use Rattle.theory_world.proofs.Ledger.Bare.{same-true, same_from, stripped-apart, txid-bare}
use Rattle.theory_world.proofs.Ledger.Accepting.{IsSpent, AllSpent, Accepting, HeardAll, heard_bytes, heard_bytes_hash, heard_input}
use Rattle.theory_world.proofs.Later.{compiled_is}
use Rattle.theory_world.proofs.Contracts.Made.{MadeBy, by_initial, by_branch, ByBranch, made_by}
use Rattle.theory_run.specs.KeptBook.{KeptBook, IsBound, AdvertFine}
use Rattle.theory_run.proofs.Accepted.Spending.{TransactionsFit, Checked, HeardUnsigned, initial_heard, branch_heard, unsigned_bytes, unsigned_bytes_hash, taken, unsigned_no_scripts}
use Rattle.theory_run.proofs.Accepted.Accept.{scripts_none, lists, all_strings_of}

-- ---- which contract's initial transaction it is

pub record IsInitial (s : Setup) (w : World) (tx : Tx) (k : ℕ) : Type 0 where
  pub instance : Instance
  pub compiled : compiled_instance s w k ≡ Some instance
  pub is : bare tx ≡ bare (tx_of (initial_unsigned s.hash instance))

initial_one : (s : Setup) (w : World) (tx : Tx) (k : ℕ) (o : Option Instance) → compiled_instance s w k ≡ o → is_initial s tx o ≡ true → IsInitial s w tx k
initial_one s w tx k None e h = cc
initial_one s w tx k (Some st) e h = record { instance = st; compiled = e; is = same-true tx (tx_of (initial_unsigned s.hash st)) h }

initial_some : (s : Setup) (w : World) (tx : Tx) (j k : ℕ) (cs : List Advert) → initial_from s w tx j cs ≡ Some k → IsInitial s w tx k
initial_some s w tx j k [] h = cc
initial_some s w tx j k (c ∷ cs) h = by_test (is_initial s tx (compiled_instance s w j)) refl h (initial_some s w tx (j + 1) k cs)
  where
    by_test : (b : Bool) → is_initial s tx (compiled_instance s w j) ≡ b → (if b then Some j else initial_from s w tx (j + 1) cs) ≡ Some k
        → (initial_from s w tx (j + 1) cs ≡ Some k → IsInitial s w tx k) → IsInitial s w tx k
    by_test true e q ih = let z : j ≡ k = cc in subst (IsInitial s w tx) z (initial_one s w tx j (compiled_instance s w j) refl e)
    by_test false e q ih = ih q

pub initial_is : (s : Setup) (w : World) (tx : Tx) (k : ℕ) → initial_of s w tx ≡ Some k → IsInitial s w tx k
initial_is s w tx k h = initial_some s w tx 0 k s.contracts h

initial_none : (s : Setup) (w : World) (tx : Tx) (j m : ℕ) (cs : List Advert) (c : Advert) → slice_get cs m ≡ Some c
    → initial_from s w tx j cs ≡ None → is_initial s tx (compiled_instance s w (m + j)) ≡ false
initial_none s w tx j m [] c e h = cc
initial_none s w tx j zero (d ∷ cs) c e h = let z : 0 + j ≡ j = omega arith in rw z (by_test (is_initial s tx (compiled_instance s w j)) h)
  where
    by_test : (b : Bool) → (if b then Some j else initial_from s w tx (j + 1) cs) ≡ None → b ≡ false
    by_test true q = cc
    by_test false q = refl
initial_none s w tx j (suc m) (d ∷ cs) c e h =
    let z : suc m + j ≡ m + (j + 1) = omega arith in
    rw z (initial_none s w tx (j + 1) m cs c e (by_test (is_initial s tx (compiled_instance s w j)) h))
  where
    by_test : (b : Bool) → (if b then Some j else initial_from s w tx (j + 1) cs) ≡ None → initial_from s w tx (j + 1) cs ≡ None
    by_test true q = cc
    by_test false q = q

-- where it is none, it is no compiled contract's
pub not_initial : (s : Setup) (w : World) (tx : Tx) (k : ℕ) (st : Instance) → initial_of s w tx ≡ None → compiled_instance s w k ≡ Some st
    → bare tx ≡ bare (tx_of (initial_unsigned s.hash st)) → ⊥
not_initial s w tx k st h c e =
    let ci = compiled_is s w k st c in
    let z : k + 0 ≡ k = omega arith in
    let f : is_initial s tx (compiled_instance s w k) ≡ false = rw z at (initial_none s w tx 0 k s.contracts ci.advert ci.there h) in
    let g : is_initial s tx (Some st) ≡ false = subst (λ o. is_initial s tx o ≡ false) c f in
    both_ways _ g (same_from tx (tx_of (initial_unsigned s.hash st)) e)

-- ---- deposits where they are bound

bound_looked : (w : World) (bs : List (List ℕ × ℕ)) (name : List ℕ) (n : ℕ) → look_up name bs ≡ Some n → look_up name (bound_outpoints w bs)
    ≡ Some (outpoint_of (output_at w n))
bound_looked w [] name n h = cc
bound_looked w (b ∷ bs) name n h = by_test (bytes_eq (b.0) name) h (bound_looked w bs name n)
  where
    by_test : (t : Bool) → (if t then Some (b.1) else look_up name bs) ≡ Some n
        → (look_up name bs ≡ Some n → look_up name (bound_outpoints w bs) ≡ Some (outpoint_of (output_at w n)))
        → (if t then Some (outpoint_of (output_at w (b.1))) else look_up name (bound_outpoints w bs)) ≡ Some (outpoint_of (output_at w n))
    by_test true q ih = let z : b.1 ≡ n = cc in ap (λ k. Some (outpoint_of (output_at w k))) z
    by_test false q ih = ih q

-- a bound deposit lies at its output's place
pub record AtBound (s : Setup) (w : World) (st : Instance) (name : List ℕ) (h : Holding) : Type 0 where
  pub number : ℕ
  pub looked : look_up name (bindings_at w.advertised st.contract) ≡ Some number
  pub bound : IsBound s w h number
  pub outpoint : (deposit s.hash st name h).outpoint ≡ bound.output.outpoint

pub bound_at : (s : Setup) (w : World) → ((k : ℕ) → is_advertised w k ≡ true → AdvertFine s w k) → (k : ℕ) (st : Instance)
    → compiled_instance s w k ≡ Some st → (name : List ℕ) (h : Holding) → Is_in (name, h) (deposits st.advert.pre) → AtBound s w st name h
bound_at s w adverts k st c name h i =
    let ci = compiled_is s w k st c in
    let ad = adverts k ci.advertised in
    let sc : st.contract ≡ k = ap (λ (y : Instance). y.contract) ci.is in
    let sa : st.advert ≡ ci.advert = ap (λ (y : Instance). y.advert) ci.is in
    let sb : st.bound ≡ bound_outpoints w (bindings_at w.advertised k) = ap (λ (y : Instance). y.bound) ci.is in
    let same : (let o : Option Advert = Some ad.advert in o) ≡ Some ci.advert = sym ad.there ∙ ci.there in
    let ae : ad.advert ≡ ci.advert = cc in
    let j : Is_in (name, h) (deposits ad.advert.pre) = subst (λ (y : Advert). Is_in (name, h) (deposits y.pre)) (sa ∙ sym ae) i in
    let b = ad.bound name h j in
    let l = bound_looked w (bindings_at w.advertised k) name b.0 b.1 in
    record {
      number = b.0;
      looked = subst (λ m. look_up name (bindings_at w.advertised m) ≡ Some b.0) (sym sc) b.1;
      bound = b.2;
      outpoint = ap (λ bs. outpoint_or_none (look_up name bs)) sb ∙ ap outpoint_or_none l ∙ ap outpoint_of b.2.there;
    }

pub at_bound : (s : Setup) (g : Configuration) (w : World) → KeptBook s g w → (k : ℕ) (st : Instance) → compiled_instance s w k ≡ Some st
    → (name : List ℕ) (h : Holding) → Is_in (name, h) (deposits st.advert.pre) → AtBound s w st name h
at_bound s g w kept k st c name h i = bound_at s w kept.adverts k st c name h i

-- the first persistent deposit
pub first_persistent : (hash : List ℕ → List ℕ) (st : Instance) (ds : List (List ℕ × Holding)) (x : TxIn) (xs : List TxIn)
    → map bare_input (x ∷ xs) ≡ map bare_input (map input_of (map (λ (d : List ℕ × Holding). deposit hash st d.0 d.1) ds))
    → (d : List ℕ × Holding) × Is_in d ds × (x.prev ≡ (deposit hash st d.0 d.1).outpoint)
first_persistent hash st [] x xs h = cc
first_persistent hash st (d ∷ ds) x xs h =
    let a : bare_input x ≡ bare_input (input_of (deposit hash st d.0 d.1)) = cc in
    (d, inl refl, ap (λ (y : TxIn). y.prev) a)

first_place : (x : TxIn) (xs : List TxIn) (y : Spent) (ys : List Spent) → map bare_input (x ∷ xs) ≡ map bare_input (map input_of (y ∷ ys)) → x.prev ≡ y.outpoint
first_place x xs y ys h = let a : bare_input x ≡ bare_input (input_of y) = cc in ap (λ (z : TxIn). z.prev) a

module _ (s : Setup) (size : HashesBytes s.hash) (g : Configuration) (w : World) (kept : KeptBook s g w) (fit : TransactionsFit s w)
    (check : Checked s w) (hs : List (List ℕ)) (clear : NoCollision s.hash hs) (sub : (t : List ℕ) → is_among t w.hashed ≡ true → is_among t hs ≡ true)
    (tx : Tx) (fits : IsNumbered tx) (spent : List ℕ) (acc : Accepting s w tx spent) (all : HeardAll s w hs tx) where
  -- ---- the first input

  pub record First : Type 0 where
    pub number : ℕ
    pub numbers : List ℕ
    pub input : TxIn
    pub inputs : List TxIn
    pub spent_is : spent ≡ number ∷ numbers
    pub inputs_is : tx.inputs ≡ input ∷ inputs
    pub spends : IsSpent s w tx number input

  pub first : First
  first = by_lists spent tx.inputs refl refl acc.spends acc.some
    where
      by_lists : (ns : List ℕ) (is : List TxIn) → spent ≡ ns → tx.inputs ≡ is → AllSpent s w tx ns is → not (length is == 0) ≡ true → First
      by_lists [] [] a b h n = cc
      by_lists [] (i ∷ is) a b h n = absurd h
      by_lists (m ∷ ns) [] a b h n = absurd h
      by_lists (m ∷ ns) (i ∷ is) a b h n = record { number = m; numbers = ns; input = i; inputs = is; spent_is = a; inputs_is = b; spends = h.0 }

  first_in : Is_in first.input tx.inputs
  first_in = subst (Is_in first.input) (sym first.inputs_is) (inl refl)

  -- what the first input's output holds
  pub first_holds : first_position w spent ≡ first.spends.output.holds
  first_holds = ap (first_position w) first.spent_is ∙ ap live_position first.spends.there ∙ rw first.spends.live refl

  -- where it is an unsigned one but for witnesses, the first inputs lie at one place
  pub unsigned_first : (d : Unsigned) (x : Spent) (xs : List Spent) → d.spends ≡ x ∷ xs → bare tx ≡ bare (tx_of d) → first.spends.output.outpoint ≡ x.outpoint
  unsigned_first d x xs e b =
      let i : map bare_input tx.inputs ≡ map bare_input (map input_of d.spends) = ap (λ (y : Tx). y.inputs) b in
      let j : map bare_input (first.input ∷ first.inputs) ≡ map bare_input (map input_of (x ∷ xs)) =
      ap (map bare_input) (sym first.inputs_is) ∙ i ∙ ap (λ ys. map bare_input (map input_of ys)) e in
      sym first.spends.outpoint ∙ first_place first.input first.inputs x xs j

  -- an initial transaction spends what holds nothing
  pub initial_first : (k : ℕ) (st : Instance) → compiled_instance s w k ≡ Some st → bare tx ≡ bare (tx_of (initial_unsigned s.hash st))
      → first.spends.output.holds ≡ None
  initial_first k st c b =
      let i : map bare_input tx.inputs ≡ map bare_input (map input_of (persistent_deposits s.hash st)) = ap (λ (y : Tx). y.inputs) b in
      let j = ap (map bare_input) (sym first.inputs_is) ∙ i in
      let d = first_persistent s.hash st (persistent st.advert.pre) first.input first.inputs j in
      let a = at_bound s g w kept k st c (d.0.0) (d.0.1) (persistent_deposit st.advert.pre d.0 d.1) in
      let m = kept.apart first.number a.number first.spends.output a.bound.output first.spends.there a.bound.there
      (sym first.spends.outpoint ∙ d.2 ∙ a.outpoint) in
      let e : (let o : Option Output = Some first.spends.output in o) ≡ Some a.bound.output =
      sym first.spends.there ∙ ap (slice_get w.outputs) m ∙ a.bound.there in
      let f : first.spends.output ≡ a.bound.output = cc in
      ap (λ (y : Output). y.holds) f ∙ a.bound.free

  -- a branch's transaction spends what holds its position
  pub branch_first : (k : ℕ) (st : Instance) (q : List PathStep) (here : Standing) (choice : Contract) (i : ℕ) (b : term.Guarded)
      → compiled_instance s w k ≡ Some st → position_at s.hash st q ≡ Some (here, choice) → bare tx ≡ bare (tx_of (branch_unsigned s.hash st here i b))
      → first.spends.output.holds ≡ Some (record { contract = k; position = q })
  branch_first k st q here choice i b c e h =
      kept.placed k st q here choice first.number first.spends.output c e first.spends.there
      (unsigned_first (branch_unsigned s.hash st here i b) here.output _ refl h)

  -- equal ids come from transactions that are the same but for witnesses
  pub id_bare : (d : Unsigned) → IsNumbered (tx_of d) → HeardUnsigned s.hash hs d → txid s.hash tx ≡ txid s.hash (tx_of d) → bare tx ≡ bare (tx_of d)
  id_bare d df dh e = stripped-apart tx (tx_of d) (scripts_none s size g w kept fit check hs clear sub tx fits spent acc all)
      (unsigned_no_scripts d.spends) fits df (double-apart s.hash hs clear (stripped tx) (stripped (tx_of d)) (heard_bytes s w hs tx all)
      (heard_bytes_hash s w hs tx all) (unsigned_bytes s.hash hs d dh) (unsigned_bytes_hash s.hash hs d dh) e)

  pub bare_id : (d : Unsigned) → bare tx ≡ bare (tx_of d) → txid s.hash tx ≡ txid s.hash (tx_of d)
  bare_id d e = sym (txid-bare s.hash tx) ∙ ap (txid s.hash) e ∙ txid-bare s.hash (tx_of d)

  heard_of : (k : ℕ) (st : Instance) → compiled_instance s w k ≡ Some st → (t : List ℕ) → is_among t (compiled_strings s.hash st) ≡ true → is_among t hs ≡ true
  heard_of k st c t i = sub t (kept.heard k st c t i)

  -- how a position's output is one of this transaction's
  pub data Making (k : ℕ) (st : Instance) (q : List PathStep) (here : Standing) (choice : Contract) (m : ℕ) : Type 0 where
    initial_making : q ≡ [] → here ≡ root_standing s.hash st → bare tx ≡ bare (tx_of (initial_unsigned s.hash st)) → Making k st q here choice m
    branch_making : (bb : ByBranch s.hash st q here choice) → bare tx
        ≡ bare (tx_of (branch_unsigned s.hash st bb.from_here bb.index bb.branch)) → m ≡ bb.number → Making k st q here choice m

  pub making : (k : ℕ) (st : Instance) (q : List PathStep) (here : Standing) (choice : Contract) (m : ℕ) → compiled_instance s w k ≡ Some st
      → position_at s.hash st q ≡ Some (here, choice) → record { txid = txid s.hash tx; vout = m } ≡ here.output.outpoint → Making k st q here choice m
  making k st q here choice m c e p = by_made (made_by s.hash st q here choice e)
    where
      by_made : MadeBy s.hash st q here choice → Making k st q here choice m
      by_made (by_initial a b) =
          let i : txid s.hash tx ≡ txid s.hash (tx_of (initial_unsigned s.hash st)) =
          ap (λ (y : OutPoint). y.txid) p ∙ ap (λ (y : Standing). y.output.outpoint.txid) b in
          initial_making a b (id_bare (initial_unsigned s.hash st) (fit.initial k st c) (initial_heard s.hash st hs (heard_of k st c)) i)
      by_made (by_branch bb) =
          let ib = bb.is_branch in
          let i : txid s.hash tx ≡ txid s.hash (tx_of (branch_unsigned s.hash st bb.from_here bb.index bb.branch)) =
          ap (λ (y : OutPoint). y.txid) (p ∙ bb.outpoint) in
          branch_making bb (id_bare (branch_unsigned s.hash st bb.from_here bb.index bb.branch)
          (fit.branch k st ib.position bb.from_here ib.choice bb.index bb.branch c ib.stands ib.there)
          (branch_heard s.hash st hs (heard_of k st c) ib.position bb.from_here ib.choice bb.index bb.branch ib.stands ib.there) i)
          (ap (λ (y : OutPoint). y.vout) (p ∙ bb.outpoint))

  -- where nothing is begun or taken, no position's output is made
  pub moves_make_none : initial_of s w tx ≡ None → first_position w spent ≡ None
      → (k : ℕ) (st : Instance) (q : List PathStep) (here : Standing) (choice : Contract) (m : ℕ) → compiled_instance s w k ≡ Some st
      → position_at s.hash st q ≡ Some (here, choice)
      → record { txid = txid s.hash tx; vout = m } ≡ here.output.outpoint → ⊥
  moves_make_none i f k st q here choice m c e p = by_making (making k st q here choice m c e p)
    where
      by_making : Making k st q here choice m → ⊥
      by_making (initial_making a b h) = not_initial s w tx k st i c h
      by_making (branch_making bb h n) =
          let x = branch_first k st bb.is_branch.position bb.from_here bb.is_branch.choice bb.index bb.branch c bb.is_branch.stands h in
          let y = sym f ∙ first_holds ∙ x in cc

  -- an input whose output holds something spends the first one's
  pub held_is_first : (i : TxIn) (n : ℕ) (sp : IsSpent s w tx n i) (h : ContractPosition) → Is_in i tx.inputs → sp.output.holds ≡ Some h
      → first_position w spent ≡ Some h
  held_is_first i n sp h k e =
      let hf = kept.held n sp.output h sp.there e in
      let hi = heard_input s w hs tx all i n (λ t l. all_strings_of s w tx i t k l) sp in
      let tk = taken s size g w kept fit check hs clear sub tx fits (scripts_none s size g w kept fit check hs clear sub tx fits spent acc all)
      (lists s size g w kept fit check hs clear sub tx fits spent acc all) n i sp hi.script (record { first = hi.signed; second = hi.signed_hash }) h hf
      (subst IsPlace (sym sp.outpoint) (kept.placed_fine n sp.output sp.there)) in
      first_holds ∙ branch_first h.contract hf.instance h.position hf.here hf.choice tk.opened.i tk.opened.b hf.compiled hf.stands tk.is
