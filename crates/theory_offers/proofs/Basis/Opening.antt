-- What the offers rest on holds at the opening, and stays where parties sign.
use Rattle.std.proofs.Common.{◌≡◌, ℕ, zero, suc, ◌+◌, ◌≤◌, List, [], ◌∷◌, ◌++◌, Bool, true, false, Option, Some, None, refl, sym, ap, ◌∙◌, subst, arith, inl, inr}
use Rattle.std.specs.Prelude.{◌⊎◌, slice_get, is_some, if◌then◌else◌}
use Rattle.spec_data.specs.Lists.{is_among, look_up}
use Rattle.spec_terms.specs.Term as term
use Rattle.spec_terms.specs.Term.{Contract, branches}
use Rattle.spec_terms.specs.Core.{is_asked}
use Rattle.spec_terms.specs.Precondition.{Holding, persistent}
use Rattle.spec_terms.specs.declared.path.PathStep.TheVariants.{Branch as To}
use Rattle.spec_bitcoin.specs.declared.tx.TxOut.{TxOut}
use Rattle.spec_bitcoin.specs.Digests.{txid, opening_transaction}
use Rattle.spec_bitcoin.specs.Keys.{Pair, key_of, has_signed}
use Rattle.spec_calculus.specs.Configuration.{Configuration}
use Rattle.spec_calculus.specs.Beginning.{is_init_authorised}
use Rattle.spec_calculus.specs.Branches.{has_branch_authorised}
use Rattle.spec_compiler.specs.Instance.{Instance, branch_label, deposit_key}
use Rattle.spec_compiler.specs.Transactions.{Standing, tx_of, digest_of_spent, deposit, branch_unsigned, initial_unsigned}
use Rattle.spec_compiler.specs.Compilation.{compilation}
use Rattle.spec_compiler.specs.ByPath.{position_at}
use Rattle.spec_compiler.specs.Endorsements.{needs, is_met, is_endorsed}
use Rattle.spec_run.specs.Setup.{Setup}
use Rattle.spec_run.specs.World.{ContractPosition, Output, Promise, World, output_at, is_deposit, live_position_at, live_position, bindings_at, is_advertised, has_promised}
use Rattle.spec_run.specs.Committing.{secrets_at}
use Rattle.spec_run.specs.Steps.{names_deposit}
use Rattle.spec_run.specs.Compiled.{compiled_instance}
use Rattle.spec_run.specs.Conditions.{IsSetup}
use Rattle.spec_run.specs.Ledger.{made_from}
use Rattle.spec_run.specs.Values.{total_live}
use Rattle.spec_data.specs.Ranges.{max_money}
use Rattle.spec_run.specs.Steps.{is_bound_live}
use Rattle.spec_run.specs.Event.{opening_outputs, holds_nothing, opening_world}
use Rattle.spec_run.specs.Translation.{opening_configuration}
use Rattle.theory_calculus.specs.Members.{Is_in}
use Rattle.theory_calculus.proofs.Members.{all_then}
use Rattle.theory_run.specs.Tracks.{Constant}
use Rattle.theory_run.specs.KeptBook.{KeptBook}
use Rattle.theory_run.proofs.Worlds.Worth.{opening_worth}
use Rattle.theory_world.proofs.Later.{compiled_is}
use Rattle.theory_offers.proofs.Basis.Offered.{KeptOffers}

-- ---- the opening

none_held : (id : List ℕ) (k n : ℕ) (os : List TxOut) → live_position (slice_get (made_from holds_nothing id k os) n) ≡ None
none_held id k n [] = refl
none_held id k zero (o ∷ os) = refl
none_held id k (suc n) (o ∷ os) = none_held id (k + 1) n os

pub opening_kept : (s : Setup) → IsSetup s → KeptOffers s (opening_configuration s) (opening_world s)
opening_kept s setup =
    let id = txid s.hash (opening_transaction (opening_outputs s)) in
    let none : (n : ℕ) (h : ContractPosition) → live_position_at (opening_world s) n ≡ Some h → ⊥ =
    λ n h e. let e' = none_held id 0 n (opening_outputs s) in cc in
    record {
      constant = record { parties = refl; honest = refl; contracts = refl };
      height = omega arith;
      money = opening_worth s setup;
      told = λ k a h. cc;
      named = λ p name i h. absurd i;
      compiled_first = λ k x h. cc;
      born = λ n i a h. cc;
      endorsed = λ n h st e c. absurd (none n h e);
      inits = λ k st d c i a l. cc;
      asked = λ n i a h st here choice b e c p t q r. absurd (none n h e);
    }

-- ---- signing

-- an endorsed contract stays so
pub endorsed_later : (hash : List ℕ → List ℕ) (st : Instance) (book later : List Pair)
    → ((k d : List ℕ) → has_signed book k d ≡ true → has_signed later k d ≡ true) → is_endorsed hash st book ≡ true → is_endorsed hash st later ≡ true
endorsed_later hash st book later grows h =
    all_then (is_met book) (is_met later) (needs hash st.contract st.advert (compilation hash st).paths) (λ need m. grows need.key need.digest m) h

-- where only the book, the messages and what is posted change, the new authorisations must have their pairs
pub signs_offers : (s : Setup) (g g' : Configuration) (w : World) (book : List Pair) (hashed posted : List (List ℕ)) → KeptOffers s g w → Constant s g'
    → ((k d : List ℕ) → has_signed w.book k d ≡ true → has_signed book k d ≡ true)
    → ((k : ℕ) (x : List ℕ) → is_init_authorised g'.init_authorised k x ≡ true
    → (is_init_authorised g.init_authorised k x ≡ true) ⊎ (is_some (compiled_instance s w k) ≡ true))
    → ((n i : ℕ) (a : List ℕ) → has_branch_authorised g'.branch_authorised n i a ≡ true
    → (has_branch_authorised g.branch_authorised n i a ≡ true) ⊎ (is_some (output_at w n) ≡ true))
    → ((k : ℕ) (st : Instance) (d : List ℕ × Holding) → compiled_instance s w k ≡ Some st → Is_in d (persistent st.advert.pre)
    → is_init_authorised g'.init_authorised k (d.0) ≡ true → is_bound_live w k d ≡ true
    → (is_init_authorised g.init_authorised k (d.0) ≡ true) ⊎
    (has_signed book (deposit_key s.hash (d.1).owner) (digest_of_spent s.hash (tx_of (initial_unsigned s.hash st)) (deposit s.hash st (d.0) (d.1))) ≡ true))
    → ((n i : ℕ) (a : List ℕ) (h : ContractPosition) (st : Instance) (here : Standing) (choice : Contract) (b : term.Guarded)
    → live_position_at w n ≡ Some h → compiled_instance s w h.contract ≡ Some st → position_at s.hash st h.position
    ≡ Some (here, choice) → slice_get (branches choice) i ≡ Some b
    → is_asked b a ≡ true → has_branch_authorised g'.branch_authorised n i a ≡ true
    → (has_branch_authorised g.branch_authorised n i a ≡ true) ⊎
    (has_signed book (key_of s.hash (branch_label h.contract (h.position ++ To i ∷ []) a))
    (digest_of_spent s.hash (tx_of (branch_unsigned s.hash st here i b)) here.output) ≡ true))
    → KeptOffers s g' (record w { book = book; hashed = hashed; posted = posted })
signs_offers s g g' w book hashed posted more constant grows first made inits asked = record {
  constant = constant;
  height = more.height;
  money = more.money;
  told = more.told;
  named = more.named;
  compiled_first = λ k x h. elim (first k x h) [ inl a ↦ more.compiled_first k x a | inr b ↦ b ];
  born = λ n i a h. elim (made n i a h) [ inl x ↦ more.born n i a x | inr y ↦ y ];
  endorsed = λ n h st e c. endorsed_later s.hash st w.book book grows (more.endorsed n h st e c);
  inits = λ k st d c i a l. elim (inits k st d c i a l) [
    | inl x ↦ grows _ _ (more.inits k st d c i x l)
    | inr x ↦ x
  ];
  asked = λ n i a h st here choice b e c p t q r. elim (asked n i a h st here choice b e c p t q r) [
    | inl x ↦ grows _ _ (more.asked n i a h st here choice b e c p t q x)
    | inr x ↦ x
  ];
}

-- where the configuration authorises no more, nothing else is asked
pub quiet_offers : (s : Setup) (g g' : Configuration) (w : World) (book : List Pair) (hashed posted : List (List ℕ)) → KeptOffers s g w → Constant s g'
    → ((k d : List ℕ) → has_signed w.book k d ≡ true → has_signed book k d ≡ true) → g'.init_authorised ≡ g.init_authorised
    → g'.branch_authorised ≡ g.branch_authorised
    → KeptOffers s g' (record w { book = book; hashed = hashed; posted = posted })
quiet_offers s g g' w book hashed posted more constant grows ei eb =
    signs_offers s g g' w book hashed posted more constant grows
    (λ k x h. inl (subst (λ xs. is_init_authorised xs k x ≡ true) ei h))
    (λ n i a h. inl (subst (λ xs. has_branch_authorised xs n i a ≡ true) eb h))
    (λ k st d c i a l. inl (subst (λ xs. is_init_authorised xs k (d.0) ≡ true) ei a))
    (λ n i a h st here choice b e c p t q r. inl (subst (λ xs. has_branch_authorised xs n i a ≡ true) eb r))

-- blocks within the greatest height
pub mined_offers : (s : Setup) (g g' : Configuration) (w : World) (tip : ℕ) (hashed posted : List (List ℕ)) → KeptOffers s g w
    → Constant s g' → tip ≤ 499999999 → g'.init_authorised ≡ g.init_authorised → g'.branch_authorised ≡ g.branch_authorised
    → KeptOffers s g' (record w { tip = tip; hashed = hashed; posted = posted })
mined_offers s g g' w tip hashed posted more constant low ei eb = record {
  constant = constant;
  height = low;
  money = more.money;
  told = more.told;
  named = more.named;
  compiled_first = λ k x h. more.compiled_first k x (subst (λ xs. is_init_authorised xs k x ≡ true) ei h);
  born = λ n i a h. more.born n i a (subst (λ xs. has_branch_authorised xs n i a ≡ true) eb h);
  endorsed = more.endorsed;
  inits = λ k st d c i a l. more.inits k st d c i (subst (λ xs. is_init_authorised xs k (d.0) ≡ true) ei a) l;
  asked = λ n i a h st here choice b e c p t q r. more.asked n i a h st here choice b e c p t q (subst (λ xs. has_branch_authorised xs n i a ≡ true) eb r);
}

-- ---- advertising and committing

-- what a live contract output holds was compiled
held_compiled : (s : Setup) (g : Configuration) (w : World) → KeptBook s g w → (n : ℕ) (h : ContractPosition) → live_position_at w n
    ≡ Some h → (st : Instance) × (compiled_instance s w h.contract ≡ Some st)
held_compiled s g w kept n h e = by_output (slice_get w.outputs n) refl e
  where
    by_live : (o : Output) → slice_get w.outputs n ≡ Some o → (b : Bool) → (if b then o.holds else None) ≡ Some h → (st : Instance)
        × (compiled_instance s w h.contract ≡ Some st)
    by_live o f false q = cc
    by_live o f true q = let k = kept.held n o h f q in (k.instance, k.compiled)

    by_output : (r : Option Output) → slice_get w.outputs n ≡ r → live_position r ≡ Some h → (st : Instance) × (compiled_instance s w h.contract ≡ Some st)
    by_output None f q = cc
    by_output (Some o) f q = by_live o f o.live q

-- where outputs and signatures stay, and compiled contracts stay compiled
pub extends_offers : (s : Setup) (g g' : Configuration) (w next : World) → KeptBook s g w → KeptOffers s g w → Constant s g'
    → next.outputs ≡ w.outputs → next.book ≡ w.book → next.tip ≡ w.tip → g'.init_authorised ≡ g.init_authorised → g'.branch_authorised ≡ g.branch_authorised
    → ((k : ℕ) (st : Instance) → compiled_instance s w k ≡ Some st → compiled_instance s next k ≡ Some st)
    → ((k : ℕ) → is_advertised w k ≡ true → bindings_at next.advertised k ≡ bindings_at w.advertised k)
    → ((k : ℕ) (a : List ℕ) → has_promised next k a ≡ true → is_advertised next k ≡ true)
    → ((p : Promise) (name : List ℕ) → Is_in p next.promises → is_some (look_up name p.digests) ≡ true → is_among name (secrets_at s p.contract p.party) ≡ true)
    → KeptOffers s g' next
extends_offers s g g' w next kept more constant outs book tip ei eb stays bindings told named = record {
  constant = constant;
  height = subst (λ n. n ≤ 499999999) (sym tip) more.height;
  money = subst (λ os. total_live os ≤ max_money) (sym outs) more.money;
  told = told;
  named = named;
  compiled_first = λ k x h. by_setting k (compiled_instance s w k) refl (more.compiled_first k x (old_init k x h));
  born = λ n i a h. subst (λ os. is_some (slice_get os n) ≡ true) (sym outs) (more.born n i a (subst (λ xs. has_branch_authorised xs n i a ≡ true) eb h));
  endorsed = λ n h st e c.
      let f = old_held n h e in
      let r = held_compiled s g w kept n h f in
      let q = same h.contract r.0 st r.1 c in
      subst (λ x. is_endorsed s.hash st x ≡ true) (sym book)
      (more.endorsed n h st f (subst (λ (y : Instance). compiled_instance s w h.contract ≡ Some y) q r.1));
  inits = λ k st d c i a l.
      let o = old_init k (d.0) a in
      let r = some_of (compiled_instance s w k) (more.compiled_first k (d.0) o) in
      let q = same k r.0 st r.1 c in
      let cw : compiled_instance s w k ≡ Some st = subst (λ (y : Instance). compiled_instance s w k ≡ Some y) q r.1 in
      let b = bindings k (compiled_is s w k st cw).advertised in
      let lw : is_bound_live w k d ≡ true =
      by_number (look_up (d.0) (bindings_at w.advertised k)) (subst (λ bs. names_deposit next (look_up (d.0) bs) ≡ true) b l) in
      subst (λ x. has_signed x (deposit_key s.hash (d.1).owner)
      (digest_of_spent s.hash (tx_of (initial_unsigned s.hash st)) (deposit s.hash st (d.0) (d.1))) ≡ true) (sym book) (more.inits k st d cw i o lw);
  asked = λ n i a h st here choice b e c p t q x.
      let f = old_held n h e in
      let r = held_compiled s g w kept n h f in
      let u = same h.contract r.0 st r.1 c in
      subst (λ y. has_signed y (key_of s.hash (branch_label h.contract (h.position ++ To i ∷ []) a))
      (digest_of_spent s.hash (tx_of (branch_unsigned s.hash st here i b)) here.output) ≡ true) (sym book)
      (more.asked n i a h st here choice b f (subst (λ (y : Instance). compiled_instance s w h.contract ≡ Some y) u r.1) p t q
      (subst (λ xs. has_branch_authorised xs n i a ≡ true) eb x));
}
  where
    old_init : (k : ℕ) (x : List ℕ) → is_init_authorised g'.init_authorised k x ≡ true → is_init_authorised g.init_authorised k x ≡ true
    old_init k x h = subst (λ xs. is_init_authorised xs k x ≡ true) ei h

    old_held : (n : ℕ) (h : ContractPosition) → live_position_at next n ≡ Some h → live_position_at w n ≡ Some h
    old_held n h e = subst (λ os. live_position (slice_get os n) ≡ Some h) outs e

    same : (k : ℕ) (st su : Instance) → compiled_instance s w k ≡ Some st → compiled_instance s next k ≡ Some su → st ≡ su
    same k st su a b = let e : Some st ≡ Some su = sym (stays k st a) ∙ b in cc

    some_of : (o : Option Instance) → is_some o ≡ true → (st : Instance) × (o ≡ Some st)
    some_of None h = cc
    some_of (Some st) h = (st, refl)

    by_setting : (k : ℕ) (o : Option Instance) → compiled_instance s w k ≡ o → is_some o ≡ true → is_some (compiled_instance s next k) ≡ true
    by_setting k None e h = cc
    by_setting k (Some st) e h = ap is_some (stays k st e)

    by_number : (o : Option ℕ) → names_deposit next o ≡ true → names_deposit w o ≡ true
    by_number None h = cc
    by_number (Some n) h = subst (λ os. is_deposit (slice_get os n) ≡ true) outs h
