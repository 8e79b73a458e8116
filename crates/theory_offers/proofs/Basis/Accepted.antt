-- What the offers rest on stays where a transaction is accepted.
use Rattle.std.proofs.Common.{◌≡◌, ℕ, ◌+◌, ◌<◌, ◌≤◌, List, [], ◌∷◌, length, Bool, true, false, Option, Some, None, refl, sym, ap, ◌∙◌, subst, arith, inl, inr}
use Rattle.std.specs.Prelude.{◌==◌, ◌⊎◌, slice_get, is_some, if◌then◌else◌, option_map}
use Rattle.std.proofs.lemmas.Bool.{or_cases, both_ways, eqb-true}
use Rattle.spec_data.specs.Lists.{has_number}
use Rattle.spec_terms.specs.Term as term
use Rattle.spec_terms.specs.Term.{auth, after, put_reveal, withdraw, split}
use Rattle.spec_terms.specs.Core.{core}
use Rattle.spec_terms.specs.Precondition.{Holding, persistent}
use Rattle.spec_terms.specs.declared.path.PathStep.{PathStep}
use Rattle.spec_bitcoin.specs.declared.tx.TxIn.{TxIn}
use Rattle.spec_bitcoin.specs.declared.tx.Tx.{Tx}
use Rattle.spec_bitcoin.specs.Digests.{txid}
use Rattle.spec_calculus.specs.Configuration.{Configuration}
use Rattle.spec_calculus.specs.Beginning.{is_init_authorised}
use Rattle.spec_calculus.specs.Branches.{has_branch_authorised}
use Rattle.spec_compiler.specs.Instance.{Instance}
use Rattle.spec_compiler.specs.Endorsements.{is_endorsed}
use Rattle.spec_run.specs.Setup.{Setup}
use Rattle.spec_run.specs.World.{ContractPosition, Output, World, live_position_at, live_position}
use Rattle.spec_run.specs.Compiled.{compiled_instance}
use Rattle.spec_run.specs.Pending.{applied}
use Rattle.spec_run.specs.Ledger.{spend_from, made_from, core_holds, branch_holds, position_path, position_branch, initial_of, first_position, kind_by, kind_of, new_position, accepted}
use Rattle.spec_run.specs.Steps.{is_bound_live}
use Rattle.spec_run.specs.Values.{total_live}
use Rattle.theory_calculus.specs.Members.{Is_in}
use Rattle.theory_calculus.proofs.Members.{get_below}
use Rattle.spec_data.specs.Ranges.{max_money}
use Rattle.theory_world.proofs.Ledger.Worth.{IsAccepted, balanced}
use Rattle.theory_world.proofs.Ledger.Spend.{total-append, total-made, spend-all}
use Rattle.theory_world.proofs.Ledger.Accepting.{AllSpent, Accepting, accepting}
use Rattle.theory_world.proofs.Ledger.Outputs.{length-spend_from}
use Rattle.theory_world.proofs.Later.{get-spent, get-split, get-made, lasts_spent}
use Rattle.theory_run.specs.Tracks.{Constant}
use Rattle.theory_run.specs.KeptBook.{KeptBook}
use Rattle.theory_offers.proofs.Basis.Offered.{KeptOffers}

-- what is spent was made
spent_there : (s : Setup) (w : World) (tx : Tx) (ns : List ℕ) (is : List TxIn) (m : ℕ) → AllSpent s w tx ns is → has_number m ns ≡ true
    → (o : Output) × (slice_get w.outputs m ≡ Some o)
spent_there s w tx [] [] m h k = cc
spent_there s w tx [] (i ∷ is) m h k = absurd h
spent_there s w tx (n ∷ ns) [] m h k = absurd h
spent_there s w tx (n ∷ ns) (i ∷ is) m h k = elim (or_cases (n == m) (has_number m ns) k) [
  | inl e ↦ (h.0.output, ap (slice_get w.outputs) (sym (eqb-true n m e)) ∙ h.0.there)
  | inr e ↦ spent_there s w tx ns is m h.1 e
]

-- what is made by a branch is of its contract
core_contract : (k : ℕ) (path : List PathStep) (c : term.Guarded) (m : ℕ) (h : ContractPosition) → core_holds k path c m ≡ Some h → h.contract ≡ k
core_contract k path (put_reveal puts reveals test next) m h e =
    let z : record { contract = k; position = path } ≡ h = cc in ap (λ (y : ContractPosition). y.contract) (sym z)
core_contract k path (split parts) m h e = let z = some_held _ h e in ap (λ (y : ContractPosition). y.contract) (sym z)
  where
    some_held : (x y : ContractPosition) → (let o : Option ContractPosition = Some x in o) ≡ Some y → x ≡ y
    some_held x y q = cc
core_contract k path (withdraw party) m h e = cc
core_contract k path (auth party body) m h e = cc
core_contract k path (after height body) m h e = cc

branch_contract : (k : ℕ) (path : List PathStep) (b : Option term.Guarded) (m : ℕ) (h : ContractPosition) → branch_holds k path b m ≡ Some h → h.contract ≡ k
branch_contract k path None m h e = cc
branch_contract k path (Some b) m h e = core_contract k path (core b) m h e

module _ (s : Setup) (g g' : Configuration) (w : World)
    (kept : KeptBook s g w) (more : KeptOffers s g w) (constant : Constant s g') (tx : Tx) (spent : List ℕ) (is : IsAccepted s w tx spent) where
  abbrev pub next : World
  next = applied w (accepted s w tx spent)

  acc : Accepting s w tx spent
  acc = accepting s w tx spent is

  -- a contract output of the next world is an old one that isn't spent, or a new one
  data Where (n : ℕ) (h : ContractPosition) : Type 0 where
    stays_held : live_position_at w n ≡ Some h → has_number n spent ≡ false → Where n h
    comes : (m : ℕ) → n ≡ length w.outputs + m → new_position s (kind_of s w tx spent) m ≡ Some h → Where n h

  where_held : (n : ℕ) (h : ContractPosition) → live_position_at next n ≡ Some h → Where n h
  where_held n h e = by_output (slice_get next.outputs n) refl e
    where
      by_number : (p : Output) → slice_get w.outputs n ≡ Some p → (t : Bool) → has_number n spent ≡ t → (o : Output)
          → (if t then record p { live = false } else p) ≡ o → live_position (Some o) ≡ Some h → Where n h
      by_number p f true u o q x = let d : false ≡ o.live = ap (λ (y : Output). y.live) q in let y : live_position (Some o) ≡ None = rw (sym d) refl in cc
      by_number p f false u o q x = stays_held (ap live_position f ∙ ap (λ y. live_position (Some y)) q ∙ x) u

      by_old : (r : Option Output) → slice_get w.outputs n ≡ r → (o : Output)
          → option_map (λ (p : Output). if has_number (n + 0) spent then record p { live = false } else p) r ≡ Some o
          → live_position (Some o) ≡ Some h → Where n h
      by_old None f o q x = cc
      by_old (Some p) f o q x =
          let z : n + 0 ≡ n = omega arith in
          by_number p f (has_number n spent) refl o (let y : (if has_number (n + 0) spent then record p { live = false } else p) ≡ o = cc in rw z at y) x

      by_output : (r : Option Output) → slice_get next.outputs n ≡ r → live_position r ≡ Some h → Where n h
      by_output None f x = cc
      by_output (Some o) f x =
          elim (get-split (spend_from 0 spent w.outputs) (made_from (new_position s (kind_of s w tx spent)) (txid s.hash tx) 0 tx.outputs) n o f) [
            | inl a ↦ by_old (slice_get w.outputs n) refl o (sym (get-spent 0 n spent w.outputs) ∙ a) x
            | inr b ↦ (
                let r = get-made (new_position s (kind_of s w tx spent)) (txid s.hash tx) 0 b.0 tx.outputs o b.2 in
                let z : b.0 + 0 ≡ b.0 = omega arith in
                let l : o.live ≡ true = ap (λ (y : Output). y.live) r.2 in
                let k : o.holds ≡ new_position s (kind_of s w tx spent) b.0 = rw z at (ap (λ (y : Output). y.holds) r.2) in
                let y : live_position (Some o) ≡ o.holds = rw l refl in
                comes b.0 (b.1 ∙ ap (λ q. q + b.0) (length-spend_from 0 spent w.outputs)) (sym k ∙ sym y ∙ x)
                )
          ]

  made_stays : (n : ℕ) → is_some (slice_get w.outputs n) ≡ true → is_some (slice_get next.outputs n) ≡ true
  made_stays n h = by_output (slice_get w.outputs n) refl h
    where
      by_output : (r : Option Output) → slice_get w.outputs n ≡ r → is_some r ≡ true → is_some (slice_get next.outputs n) ≡ true
      by_output None e q = cc
      by_output (Some o) e q =
          ap is_some ((lasts_spent spent w.outputs (made_from (new_position s (kind_of s w tx spent)) (txid s.hash tx) 0 tx.outputs)).last n o e).1

  is_below : (n : ℕ) → is_some (slice_get w.outputs n) ≡ true → n < length w.outputs
  is_below n h = by_output (slice_get w.outputs n) refl h
    where
      by_output : (r : Option Output) → slice_get w.outputs n ≡ r → is_some r ≡ true → n < length w.outputs
      by_output None e q = cc
      by_output (Some o) e q = get_below w.outputs n o e

  money : total_live next.outputs ≤ max_money
  money =
      let b = balanced s w tx spent is in
      let a = spend-all w.outputs spent tx.inputs b.stand b.distinct in
      let t = total-append (spend_from 0 spent w.outputs) (made_from (new_position s (kind_of s w tx spent)) (txid s.hash tx) 0 tx.outputs) in
      let m = total-made (new_position s (kind_of s w tx spent)) (txid s.hash tx) 0 tx.outputs in
      let e = b.enough in
      let k = more.money in
      omega (arith, a, t, m, e, k)

  first_number_held : (ns : List ℕ) (h : ContractPosition) → first_position w ns ≡ Some h → (n : ℕ) × (live_position_at w n ≡ Some h)
  first_number_held [] h e = cc
  first_number_held (n ∷ ns) h e = (n, e)

  -- the further authorisations are of the contract that begins, or of outputs that are spent; a contract that begins is endorsed, and its deposits are spent
  pub accepted_offers : ((k : ℕ) (st : Instance) → compiled_instance s w k ≡ Some st → compiled_instance s next k ≡ Some st)
      → ((k : ℕ) (st : Instance) → compiled_instance s next k ≡ Some st → compiled_instance s w k ≡ Some st)
      → ((k : ℕ) (x : List ℕ) → is_init_authorised g'.init_authorised k x ≡ true
      → (is_init_authorised g.init_authorised k x ≡ true) ⊎ (initial_of s w tx ≡ Some k))
      → ((n i : ℕ) (a : List ℕ) → has_branch_authorised g'.branch_authorised n i a ≡ true
      → (has_branch_authorised g.branch_authorised n i a ≡ true) ⊎ (has_number n spent ≡ true))
      → ((k : ℕ) → initial_of s w tx ≡ Some k → (st : Instance) × (compiled_instance s w k ≡ Some st)
      × (is_endorsed s.hash st w.book ≡ true) × ((d : List ℕ × Holding) → Is_in d (persistent st.advert.pre) → is_bound_live next k d ≡ false))
      → ((k : ℕ) (st : Instance) (d : List ℕ × Holding) → compiled_instance s w k ≡ Some st → Is_in d (persistent st.advert.pre)
      → is_bound_live next k d ≡ true → is_bound_live w k d ≡ true)
      → KeptOffers s g' next
  accepted_offers stays back inits asked starts live = record {
    constant = constant;
    height = more.height;
    money = money;
    told = more.told;
    named = more.named;
    compiled_first = λ k x h. elim (inits k x h) [
      | inl y ↦ by_setting k (compiled_instance s w k) refl (more.compiled_first k x y)
      | inr y ↦ (let r = starts k y in ap is_some (stays k r.0 r.1))
    ];
    born = λ n i a h. elim (asked n i a h) [
      | inl y ↦ made_stays n (more.born n i a y)
      | inr y ↦ made_stays n (ap is_some (spent_there s w tx spent tx.inputs n acc.spends y).1)
    ];
    endorsed = λ n h st e c. by_where n h st (back h.contract st c) (where_held n h e);
    inits = λ k st d c i a l. elim (inits k (d.0) a) [
      | inl y ↦ more.inits k st d (back k st c) i y (live k st d (back k st c) i l)
      | inr y ↦ (
          let r = starts k y in
          let q : Some r.0 ≡ Some st = sym r.1 ∙ back k st c in
          let z : r.0 ≡ st = cc in
          absurd (both_ways _ (r.3 d (subst (λ (u : Instance). Is_in d (persistent u.advert.pre)) (sym z) i)) l)
          )
    ];
    asked = λ n i a h st here choice b e c p t q r. elim (where_held n h e) [
      | stays_held x u ↦ elim (asked n i a r) [
        | inl y ↦ more.asked n i a h st here choice b x (back h.contract st c) p t q y
        | inr y ↦ absurd (both_ways _ u y)
      ]
      | comes m x u ↦ elim (asked n i a r) [
        | inl y ↦ (let v = is_below n (more.born n i a y) in absurd (omega (arith, v, x)))
        | inr y ↦ (let v = is_below n (ap is_some (spent_there s w tx spent tx.inputs n acc.spends y).1) in absurd (omega (arith, v, x)))
      ]
    ];
  }
    where
      by_setting : (k : ℕ) (o : Option Instance) → compiled_instance s w k ≡ o → is_some o ≡ true → is_some (compiled_instance s next k) ≡ true
      by_setting k None e h = cc
      by_setting k (Some st) e h = ap is_some (stays k st e)

      one_setting : (k j : ℕ) (st su : Instance) → k ≡ j → compiled_instance s w k ≡ Some st → compiled_instance s w j ≡ Some su → su ≡ st
      one_setting k j st su e a b = let q : Some su ≡ Some st = sym b ∙ ap (compiled_instance s w) (sym e) ∙ a in cc

      by_kind : (st : Instance) (h : ContractPosition) (m : ℕ) → compiled_instance s w h.contract ≡ Some st → (o : Option ℕ)
          → initial_of s w tx ≡ o → (f : Option ContractPosition) → first_position w spent ≡ f → new_position s (kind_by s tx spent o f) m
          ≡ Some h → is_endorsed s.hash st w.book ≡ true
      by_kind st h m c (Some k) i f e q =
          let r = starts k i in
          let z : record { contract = k; position = [] } ≡ h = cc in
          let y = one_setting h.contract k st r.0 (ap (λ (u : ContractPosition). u.contract) (sym z)) c r.1 in
          subst (λ (u : Instance). is_endorsed s.hash u w.book ≡ true) y r.2
      by_kind st h m c None i (Some held) e q =
          let k = branch_contract held.contract (position_path held _) (position_branch s held _) m h q in
          let r = first_number_held spent held e in
          more.endorsed r.0 held st r.1 (subst (λ j. compiled_instance s w j ≡ Some st) k c)
      by_kind st h m c None i None e q = cc

      by_where : (n : ℕ) (h : ContractPosition) (st : Instance) → compiled_instance s w h.contract ≡ Some st → Where n h → is_endorsed s.hash st w.book ≡ true
      by_where n h st c (stays_held x u) = more.endorsed n h st x c
      by_where n h st c (comes m x u) = by_kind st h m c (initial_of s w tx) refl (first_position w spent) refl u
