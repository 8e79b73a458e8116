-- An accepted initial transaction is a legal beginning, and money agrees after it.
use Rattle.std.proofs.Common.{◌≡◌, ℕ, List, [], ◌∷◌, ◌++◌, map, Bool, true, false, not, cond, Option, Some, None, refl, sym, ap, ◌∙◌, subst, append-nil, inl, inr}
use Rattle.std.specs.Prelude.{◌-◌, if◌then◌else◌, ◌==◌, ◌&&◌, slice_get}
use Rattle.std.specs.List.{filter, list_all}
use Rattle.std.specs.Str.{bytes_eq}
use Rattle.std.proofs.lemmas.Bool.{and_from, or_left}
use Rattle.spec_data.specs.Lists.{AllTrue, look_up, has_number}
use Rattle.spec_terms.specs.Advert.{Advert}
use Rattle.spec_terms.specs.Parties.{participants}
use Rattle.spec_terms.specs.Precondition.{Holding, persistent, deposits, names_of, total_of}
use Rattle.spec_bitcoin.specs.declared.tx.Tx.{Tx}
use Rattle.spec_bitcoin.specs.Digests.{txid}
use Rattle.spec_calculus.specs.declared.step.Step.TheVariants as steps
use Rattle.spec_calculus.specs.declared.parts.Advertised.{Advertised}
use Rattle.spec_calculus.specs.declared.parts.ActiveContract.{ActiveContract}
use Rattle.spec_calculus.specs.declared.parts.InitAuthorisation.{InitAuthorisation}
use Rattle.spec_calculus.specs.Configuration.{Configuration}
use Rattle.spec_calculus.specs.Branches.{gone, total_value, has_branch_authorised}
use Rattle.spec_calculus.specs.Beginning.{contract_at, pre_of, bindings_of, has_committed, have_committed, is_there, are_there, numbers_of, persistent_names, has_persistent, is_own, is_init_authorised}
use Rattle.spec_calculus.specs.Steps.{auth_init_premises, init_premises, is_committed, with_init, begun, effect, after_steps, Legal}
use Rattle.spec_compiler.specs.Instance.{Instance, position_script}
use Rattle.spec_compiler.specs.Transactions.{pays, root_value}
use Rattle.spec_run.specs.Setup.{Setup, pre_of as setup_pre}
use Rattle.spec_run.specs.World.{ContractPosition, World, bindings_at, has_promised, have_promised}
use Rattle.spec_run.specs.Ledger.{spend_from, made_from}
use Rattle.spec_run.specs.Steps.{auth_inits, unauthorised, begin_steps, names_deposit}
use Rattle.theory_calculus.proofs.Names.{bytes_refl, all_among, different_names, in_looked, persistent_different, persistent_deposit, in_named}
use Rattle.theory_calculus.specs.Members.{Is_in}
use Rattle.theory_world.proofs.Tests.{any-append, any_map, all_alike}
use Rattle.theory_run.proofs.Steps.Legal.{passes, after-append, legal_append}
use Rattle.theory_run.specs.Tracks.{AgreeOnMoney, Constant}
use Rattle.theory_run.proofs.Steps.Moved.{live_there, actives-untouched}
use Rattle.theory_run.specs.KeptSecrets.{committed_by}
use Rattle.theory_world.proofs.Ledger.Accepting.{Accepting}
use Rattle.theory_world.proofs.Later.{compiled_is}
use Rattle.theory_world.proofs.Staying.{init_new}
use Rattle.theory_run.specs.KeptBook.{KeptBook}
use Rattle.theory_run.proofs.Accepted.Spending.{Checked}
use Rattle.theory_run.proofs.Accepted.WhatItIs.{IsInitial}
use Rattle.theory_run.proofs.Steps.Gone.{gone_values, agree_by}
use Rattle.theory_run.proofs.Accepted.Numbers.{all_in, AreBound, are_bound}

-- ---- what contract steps leave

pub record StepFrame (c d : Configuration) : Type 0 where
  pub advertised : d.advertised ≡ c.advertised
  pub committed : d.committed ≡ c.committed
  pub revealed : d.revealed ≡ c.revealed
  pub parties : d.parties ≡ c.parties
  pub honest : d.honest ≡ c.honest
  pub contracts : d.contracts ≡ c.contracts
  -- authorisations stay
  pub inits : (k : ℕ) (x : List ℕ) → is_init_authorised c.init_authorised k x ≡ true → is_init_authorised d.init_authorised k x ≡ true
  pub asked : (n i : ℕ) (a : List ℕ) → has_branch_authorised c.branch_authorised n i a ≡ true → has_branch_authorised d.branch_authorised n i a ≡ true

-- ---- the same words in both places

pub bindings_same : (xs : List Advertised) (k : ℕ) → bindings_of xs k ≡ bindings_at xs k
bindings_same [] k = refl
bindings_same (a ∷ xs) k = ap (λ bs. if a.contract == k then a.bindings else bs) (bindings_same xs k)

pub committed_same : (s : Setup) (z : List (List ℕ)) (w : World) (c : Configuration) → c.committed ≡ map (committed_by s z) w.promises
    → (k : ℕ) (people : List (List ℕ)) → have_committed c.committed k people ≡ have_promised w k people
committed_same s z w c e k people =
    all_alike (λ p. has_committed c.committed k p) (has_promised w k) people
    (λ a. ap (λ cs. has_committed cs k a) e ∙ any_map (λ x. (x.contract == k) && bytes_eq x.party a) (committed_by s z) w.promises)

pub there_same : (s : Setup) (c : Configuration) (w : World) → AgreeOnMoney s c w → (o : Option ℕ) → is_there c.deposits o ≡ names_deposit w o
there_same s c w money None = refl
there_same s c w money (Some n) = live_there s c w money n

-- ---- authorisations of deposits

abbrev pub init_all : List InitAuthorisation → ℕ → List (List ℕ × Holding) → List InitAuthorisation
init_all xs k [] = xs
init_all xs k (d ∷ ds) = init_all (with_init xs k (d.0)) k ds

pub after-inits : (k : ℕ) (ds : List (List ℕ × Holding)) (c : Configuration) → after_steps c (auth_inits k ds)
    ≡ record c { init_authorised = init_all c.init_authorised k ds }
after-inits k [] c = refl
after-inits k (d ∷ ds) c = after-inits k ds (effect c (steps.AuthInit k (d.1).owner (d.0)))

init_more : (xs : List InitAuthorisation) (k j : ℕ) (n m : List ℕ) → is_init_authorised xs j m ≡ true → is_init_authorised (with_init xs k n) j m ≡ true
init_more xs k j n m h = by_test (is_init_authorised xs k n)
  where
    by_test : (b : Bool) → is_init_authorised (cond b xs (xs ++ record { contract = k; deposit = n } ∷ [])) j m ≡ true
    by_test true = h
    by_test false = any-append _ xs (record { contract = k; deposit = n } ∷ []) ∙ or_left _ _ h

pub init_all_more : (xs : List InitAuthorisation) (k j : ℕ) (ds : List (List ℕ × Holding)) (m : List ℕ) → is_init_authorised xs j m ≡ true
    → is_init_authorised (init_all xs k ds) j m ≡ true
init_all_more xs k j [] m h = h
init_all_more xs k j (d ∷ ds) m h = init_all_more (with_init xs k (d.0)) k j ds m (init_more xs k j (d.0) m h)

-- those that aren't authorised yet
abbrev missing : List InitAuthorisation → ℕ → List (List ℕ × Holding) → List (List ℕ × Holding)
missing xs k ds = filter (λ d. not (is_init_authorised xs k (d.0))) ds

-- all are authorised where those that weren't were
pub inits_cover : (xs ys : List InitAuthorisation) (k : ℕ) (ps : List (List ℕ × Holding))
    → ((m : List ℕ) → is_init_authorised xs k m ≡ true → is_init_authorised ys k m ≡ true)
    → list_all (λ n. is_init_authorised (init_all ys k (filter (λ d. not (is_init_authorised xs k (d.0))) ps)) k n) (names_of ps) ≡ true
inits_cover xs ys k [] h = refl
inits_cover xs ys k (p ∷ ps) h =
    by_test (is_init_authorised xs k (p.0)) refl (inits_cover xs ys k ps h)
    (inits_cover xs (with_init ys k (p.0)) k ps (λ m t. init_more ys k k (p.0) m (h m t)))
  where
    by_test : (b : Bool) → is_init_authorised xs k (p.0) ≡ b
        → list_all (λ n. is_init_authorised (init_all ys k (missing xs k ps)) k n) (names_of ps) ≡ true
        → list_all (λ n. is_init_authorised (init_all (with_init ys k (p.0)) k (missing xs k ps)) k n) (names_of ps) ≡ true
        → list_all (λ n. is_init_authorised (init_all ys k (cond (not b) (p ∷ missing xs k ps) (missing xs k ps))) k n) (p.0 ∷ names_of ps) ≡ true
    by_test true e a b = and_from _ _ (init_all_more ys k k (missing xs k ps) (p.0) (h (p.0) e)) a
    by_test false e a b = and_from _ _ (init_all_more (with_init ys k (p.0)) k k (missing xs k ps) (p.0) (init_new ys k (p.0))) b

-- ---- the steps

abbrev pub InitOk : Configuration → ℕ → List (List ℕ × Holding) → Type 0
InitOk c k [] = Unit {0}
InitOk c k (d ∷ ds) = AllTrue (auth_init_premises c k (d.1).owner (d.0) (contract_at c.contracts k)) × InitOk c k ds

pub legal_inits : (c : Configuration) (k : ℕ) (ds : List (List ℕ × Holding)) (xs : List InitAuthorisation) → InitOk c k ds
    → Legal (record c { init_authorised = xs }) (auth_inits k ds)
legal_inits c k [] xs h = tt
legal_inits c k (d ∷ ds) xs h =
    (passes (record c { init_authorised = xs }) (steps.AuthInit k (d.1).owner (d.0)) h.0, legal_inits c k ds (with_init xs k (d.0)) h.1)

in_filter : {A : Type 0} (p : A → Bool) (x : A) (xs : List A) → Is_in x (filter p xs) → Is_in x xs
in_filter p x [] h = absurd h
in_filter {A} p x (y ∷ xs) h = by_test (p y) h (in_filter p x xs)
  where
    by_test : (b : Bool) → Is_in x (cond b (y ∷ filter p xs) (filter p xs)) → (Is_in x (filter p xs) → Is_in x xs) → Is_in x (y ∷ xs)
    by_test true (inl e) ih = inl e
    by_test true (inr i) ih = inr (ih i)
    by_test false i ih = inr (ih i)

module _ (s : Setup) (g : Configuration) (w : World) (kept : KeptBook s g w) (check : Checked s w) (tx : Tx) (spent : List ℕ) (acc : Accepting s w tx spent)
    (z : List (List ℕ)) (c : Configuration) (con : Constant s c) (money : AgreeOnMoney s c w) (advertised : c.advertised ≡ w.advertised)
    (committed : c.committed ≡ map (committed_by s z) w.promises)
    (k : ℕ) (is : IsInitial s w tx k) where
  abbrev st : Instance
  st = is.instance

  abbrev ad : Advert
  ad = is.instance.advert

  advert_is : slice_get s.contracts k ≡ Some ad
  advert_is = let ci = compiled_is s w k st is.compiled in ci.there ∙ ap (λ (y : Instance). Some y.advert) (sym ci.is)

  at : contract_at c.contracts k ≡ Some ad
  at = ap (λ cs. slice_get cs k) con.contracts ∙ advert_is

  promised : have_promised w k (participants ad) ≡ true
  promised =
      let ci = compiled_is s w k st is.compiled in
      subst (λ (a : Advert). have_promised w k (participants a) ≡ true) (ap (λ (y : Instance). y.advert) (sym ci.is)) ci.promised

  all_committed : is_committed c k (Some ad) ≡ true
  all_committed = committed_same s z w c committed k (participants ad) ∙ promised

  bound : AreBound s g w kept k st is.compiled tx spent (persistent ad.pre)
  bound = are_bound s g w kept k st is.compiled tx spent tx.inputs (persistent ad.pre) acc.spends
      (all_in (persistent ad.pre) (deposits ad.pre) (persistent_deposit ad.pre)) (ap (λ (y : Tx). y.inputs) is.is)

  bindings_are : bindings_of c.advertised k ≡ bindings_at w.advertised k
  bindings_are = ap (λ xs. bindings_of xs k) advertised ∙ bindings_same w.advertised k

  there : are_there c.deposits (bindings_of c.advertised k) (persistent_names ad.pre) ≡ true
  there = ap (λ bs. are_there c.deposits bs (persistent_names ad.pre)) bindings_are
      ∙ all_alike _ _ (persistent_names ad.pre) (λ x. there_same s c w money (look_up x (bindings_at w.advertised k))) ∙ bound.there

  owned : (d : List ℕ × Holding) → Is_in d (persistent ad.pre) → has_persistent ad.pre (d.1).owner (d.0) ≡ true
  owned d i = ap (λ o. is_own o (d.1).owner)
      (in_looked (persistent ad.pre) d (persistent_different ad.pre (different_names ad (check.checked k st is.compiled))) i) ∙ bytes_refl (d.1).owner

  init_ok : (ds : List (List ℕ × Holding)) → ((d : List ℕ × Holding) → Is_in d ds → Is_in d (persistent ad.pre)) → InitOk c k ds
  init_ok [] h = tt
  init_ok (d ∷ ds) h =
      let i = h d (inl refl) in
      let t = all_among (λ x. is_there c.deposits (look_up x (bindings_of c.advertised k)))
      (persistent_names ad.pre) (d.0) there (in_named (persistent ad.pre) d i) in
      (subst (λ o. AllTrue (auth_init_premises c k (d.1).owner (d.0) o)) (sym at) (all_committed, (owned d i, (t, tt))), init_ok ds (λ e j. h e (inr j)))

  abbrev awaited : List (List ℕ × Holding)
  awaited = unauthorised c k (persistent ad.pre)

  abbrev mid : Configuration
  mid = record c { init_authorised = init_all c.init_authorised k awaited }

  steps_are : begin_steps s c k ≡ auth_inits k awaited ++ steps.Init k ∷ []
  steps_are = ap (λ o. auth_inits k (unauthorised c k (persistent (setup_pre o))) ++ steps.Init k ∷ []) advert_is

  init_fine : AllTrue (init_premises mid k (contract_at c.contracts k))
  init_fine = subst (λ o. AllTrue (init_premises mid k o)) (sym at)
      (all_committed, (there, (inits_cover c.init_authorised c.init_authorised k (persistent ad.pre) (λ m h. h), tt)))

  pub legal_begin : Legal c (begin_steps s c k)
  legal_begin =
      let first : Legal c (auth_inits k awaited) =
      legal_inits c k awaited c.init_authorised
      (init_ok awaited (λ d i. in_filter (λ e. not (is_init_authorised c.init_authorised k (e.0))) d (persistent ad.pre) i)) in
      let last : Legal mid (steps.Init k ∷ []) = (passes mid (steps.Init k) init_fine, tt) in
      subst (Legal c) (sym steps_are) (legal_append c (auth_inits k awaited) (steps.Init k ∷ []) first
      (subst (λ d. Legal d (steps.Init k ∷ [])) (sym (after-inits k awaited c)) last))

  -- what comes of it
  abbrev end : Configuration
  end = begun mid k (Some ad) spent

  pub ends_begin : after_steps c (begin_steps s c k)
      ≡ begun (record c { init_authorised = init_all c.init_authorised k (unauthorised c k (persistent is.instance.advert.pre)) }) k
      (Some is.instance.advert) spent
  ends_begin =
      let numbers : numbers_of (bindings_of c.advertised k) (persistent_names ad.pre) ≡ spent =
      ap (λ bs. numbers_of bs (persistent_names ad.pre)) bindings_are ∙ bound.numbers in
      ap (after_steps c) steps_are ∙ after-append c (auth_inits k awaited) (steps.Init k ∷ []) ∙ ap (λ d. effect d (steps.Init k)) (after-inits k awaited c)
      ∙ ap (λ o. begun mid k o (numbers_of (bindings_of c.advertised k) (persistent_names (pre_of o)))) at ∙ ap (begun mid k (Some ad)) numbers

  pub frame_begin : StepFrame c (after_steps c (begin_steps s c k))
  frame_begin = subst (StepFrame c) (sym ends_begin) (record {
    advertised = refl;
    committed = refl;
    revealed = refl;
    parties = refl;
    honest = refl;
    contracts = refl;
    inits = λ j x h. init_all_more c.init_authorised k j awaited x h;
    asked = λ n i a h. h;
  })

  abbrev root_of : ℕ → Option ContractPosition
  root_of m = Some (record { contract = k; position = [] })

  outputs_are : tx.outputs ≡ pays s.hash (position_script s.hash st [] ad.root) (root_value st) ∷ []
  outputs_are = ap (λ (y : Tx). y.outputs) is.is

  balance : total_value (gone c.deposits spent) ≡ total_of (persistent ad.pre)
  balance = ap (λ ds. total_value (gone ds spent)) money.deposits ∙ gone_values s w.outputs spent acc.distinct ∙ bound.values

  pub agree_begin : (next : World) → next.tip ≡ w.tip → next.outputs ≡ spend_from 0 spent w.outputs
      ++ made_from (λ m. Some (record { contract = k; position = [] })) (txid s.hash tx) 0 tx.outputs → AgreeOnMoney s (after_steps c (begin_steps s c k)) next
  agree_begin next tips outs =
      let still : filter (λ (x : ActiveContract). not (has_number x.number spent)) c.active ≡ c.active =
      ap (filter (λ (x : ActiveContract). not (has_number x.number spent))) money.active ∙ actives-untouched spent w.outputs bound.live ∙ sym money.active in
      subst (λ d. AgreeOnMoney s d next) (sym ends_begin)
      (agree_by s c w money spent root_of (txid s.hash tx) (pays s.hash (position_script s.hash st [] ad.root) (root_value st) ∷ []) end next tips
      (outs ∙ ap (λ os. spend_from 0 spent w.outputs ++ made_from root_of (txid s.hash tx) 0 os) outputs_are)
      refl refl refl (sym (append-nil _))
      (λ i. sym still i ++ record { number = c.next; contract = k; position = []; balance = balance i - ad.fee } ∷ []))
