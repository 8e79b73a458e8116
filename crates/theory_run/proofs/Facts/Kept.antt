-- What every run keeps of signatures, outputs and contracts.
use Rattle.std.proofs.Common.{◌≡◌, ℕ, List, [], ◌∷◌, ◌++◌, Bool, true, false, Option, Some, None, refl, sym, ap, ◌∙◌, subst, inl, inr}
use Rattle.std.specs.Prelude.{◌&&◌, ◌⊎◌, slice_get, is_some, if◌then◌else◌}
use Rattle.std.specs.Str.{bytes_eq}
use Rattle.std.specs.Option.{is_none}
use Rattle.std.proofs.lemmas.Bool.{and_parts, and_from, both_ways}
use Rattle.spec_data.specs.Lists.{is_among, look_up}
use Rattle.spec_terms.specs.Advert.{Advert}
use Rattle.spec_terms.specs.Core.{core, puts_of, is_asked}
use Rattle.spec_terms.specs.Term as term
use Rattle.spec_terms.specs.Term.{Contract, branches}
use Rattle.spec_terms.specs.Precondition.{Holding, deposits, persistent}
use Rattle.spec_terms.specs.declared.path.PathStep.{PathStep}
use Rattle.spec_terms.specs.declared.path.PathStep.TheVariants.{Branch as To}
use Rattle.spec_bitcoin.specs.declared.label.Label.TheVariants as labels
use Rattle.spec_bitcoin.specs.declared.tx.OutPoint.{OutPoint}
use Rattle.spec_bitcoin.specs.declared.tx.TxIn.{TxIn}
use Rattle.spec_bitcoin.specs.declared.tx.Tx.{Tx}
use Rattle.spec_bitcoin.specs.Spelling.{stripped, IsPlace}
use Rattle.spec_bitcoin.specs.Digests.{txid, preimage, digest, opening_transaction}
use Rattle.spec_bitcoin.specs.Keys.{Pair, key_of, label_text, has_signed, pay_to}
use Rattle.spec_calculus.specs.Configuration.{Configuration}
use Rattle.spec_calculus.specs.Beginning.{is_init_authorised}
use Rattle.spec_calculus.specs.Branches.{has_branch_authorised}
use Rattle.spec_compiler.specs.Instance.{Instance, branch_label, deposit_key, people}
use Rattle.spec_compiler.specs.declared.unsigned.Spent.{Spent}
use Rattle.spec_compiler.specs.Transactions.{Standing, tx_of, digest_of_spent, put_deposits, persistent_deposits, branch_unsigned}
use Rattle.spec_compiler.specs.Transactions.{initial_unsigned, party_script}
use Rattle.spec_compiler.specs.ByPath.{position_at}
use Rattle.spec_compiler.specs.Hashed.{compiled_strings}
use Rattle.spec_run.specs.Setup.{Setup, is_declared, is_honest, contract_at, pre_at, people_at}
use Rattle.spec_run.specs.World.{ContractPosition, Output, World, output_at, is_deposit, live_position_at, live_position, bindings_at}
use Rattle.spec_run.specs.World.{is_advertised}
use Rattle.spec_run.specs.Owners.{paid_to}
use Rattle.spec_run.specs.Compiled.{compiled_instance}
use Rattle.spec_run.specs.Event.{opening_outputs}
use Rattle.spec_run.specs.Steps.{names_deposit, is_bound_live}
use Rattle.theory_calculus.specs.Members.{Is_in}
use Rattle.theory_calculus.proofs.Members.{all_then}
use Rattle.theory_world.specs.Transactions.{HeardLists, IsNumbered, NoScripts}
use Rattle.theory_world.specs.KeptApart.{are_made}
use Rattle.theory_world.proofs.Later.{Lasts, SameOutput, compiled_is}
use Rattle.theory_run.specs.KeptBook.{HeardDigest, SpentFor, AllSpentFor, From, opening_id, Gave, Needed, Started, DepositCause, gave}
use Rattle.theory_run.specs.KeptBook.{needed, started, BranchCause, IsBound, AdvertFine, HeldFine, KeptBook}

-- a test that isn't false is true
true_from_ne_false : (b : Bool) → (b ≡ false → ⊥) → b ≡ true
true_from_ne_false true h = refl
true_from_ne_false false h = absurd (h refl)

-- ---- what was spent

-- an output that was spent lies there
pub record IsDead (w : World) (p : OutPoint) : Type 0 where
  pub number : ℕ
  pub output : Output
  pub there : slice_get w.outputs number ≡ Some output
  pub outpoint : output.outpoint ≡ p
  pub dead : output.live ≡ false

abbrev pub AllDead : World → List TxIn → Type 0
AllDead w [] = Unit {0}
AllDead w (i ∷ is) = IsDead w i.prev × AllDead w is

-- ---- later worlds

-- what a name is bound to was made
pub looked_made : (w : World) (bs : List (List ℕ × ℕ)) (name : List ℕ) (n : ℕ) → are_made w bs ≡ true → look_up name bs ≡ Some n
    → is_some (output_at w n) ≡ true
looked_made w [] name n h e = cc
looked_made w (b ∷ bs) name n h e =
    let p = and_parts (is_some (output_at w (b.1))) (are_made w bs) h in
    by_test (bytes_eq (b.0) name) e p.0 (looked_made w bs name n p.1)
  where
    by_test : (t : Bool) → (if t then Some (b.1) else look_up name bs) ≡ Some n → is_some (output_at w (b.1)) ≡ true
        → (look_up name bs ≡ Some n → is_some (output_at w n) ≡ true) → is_some (output_at w n) ≡ true
    by_test true q m ih = let z : b.1 ≡ n = cc in subst (λ k. is_some (output_at w k) ≡ true) z m
    by_test false q m ih = ih q

pub record Frame (s : Setup) (g g' : Configuration) (w next : World) : Type 0 where
  pub outputs : Lasts w.outputs next.outputs
  pub book : (k d : List ℕ) → has_signed w.book k d ≡ true → has_signed next.book k d ≡ true
  pub hashed : (t : List ℕ) → is_among t w.hashed ≡ true → is_among t next.hashed ≡ true
  pub compiled : (k : ℕ) (st : Instance) → compiled_instance s w k ≡ Some st → compiled_instance s next k ≡ Some st
  pub bindings : (k : ℕ) → is_advertised w k ≡ true → bindings_at next.advertised k ≡ bindings_at w.advertised k
  pub inits : (k : ℕ) (x : List ℕ) → is_init_authorised g.init_authorised k x ≡ true → is_init_authorised g'.init_authorised k x ≡ true
  pub asked : (n i : ℕ) (a : List ℕ) → has_branch_authorised g.branch_authorised n i a ≡ true → has_branch_authorised g'.branch_authorised n i a ≡ true

module _ (s : Setup) (g g' : Configuration) (w next : World) (f : Frame s g g' w next) where
  pub dead_later : (p : OutPoint) → IsDead w p → IsDead next p
  dead_later p d =
      let r = f.outputs.last d.number d.output d.there in
      record { number = d.number; output = r.0; there = r.1; outpoint = r.2.outpoint ∙ d.outpoint; dead = r.2.dead d.dead }

  pub all_dead_later : (is : List TxIn) → AllDead w is → AllDead next is
  all_dead_later [] d = tt
  all_dead_later (i ∷ is) d = (dead_later i.prev d.0, all_dead_later is d.1)

  pub digest_later : (tx : Tx) (i : TxIn) (script : List ℕ) (v : ℕ) → HeardDigest s w.hashed tx i script v → HeardDigest s next.hashed tx i script v
  digest_later tx i script v h = record { first = f.hashed _ h.first; second = f.hashed _ h.second }

  pub lists_later : (tx : Tx) → HeardLists s.hash w.hashed tx → HeardLists s.hash next.hashed tx
  lists_later tx h = record {
    places = f.hashed _ h.places;
    places_hash = f.hashed _ h.places_hash;
    sequences = f.hashed _
        h.sequences;
    sequences_hash = f.hashed _ h.sequences_hash;
    outputs = f.hashed _ h.outputs;
    outputs_hash = f.hashed _ h.outputs_hash;
  }

  spent_later : (tx : Tx) (i : TxIn) → SpentFor s w tx i → SpentFor s next tx i
  spent_later tx i d =
      let r = f.outputs.last d.number d.output d.there in
      let v = r.2.value in
      record {
        number = d.number;
        output = r.0;
        there = r.1;
        outpoint = d.outpoint ∙ sym r.2.outpoint;
        dead = r.2.dead d.dead;
        signed = λ a k e. subst (λ x. has_signed next.book (deposit_key s.hash a) (digest s.hash tx i (party_script s.hash a) x) ≡ true)
            (sym v) (f.book _ _ (d.signed a k (sym r.2.script ∙ e)));
        heard = λ a k e. subst (λ x. HeardDigest s next.hashed tx i (party_script s.hash a) x) (sym v)
            (digest_later tx i (party_script s.hash a) d.output.value (d.heard a k (sym r.2.script ∙ e)));
      }

  all_spent_later : (tx : Tx) (is : List TxIn) → AllSpentFor s w tx is → AllSpentFor s next tx is
  all_spent_later tx [] d = tt
  all_spent_later tx (i ∷ is) d = (spent_later tx i d.0, all_spent_later tx is d.1)

  pub from_later : (id : List ℕ) → From s w id → From s next id
  from_later id h = record {
    tx = h.tx;
    fits = h.fits;
    no_scripts = h.no_scripts;
    is = h.is;
    first = f.hashed _ h.first;
    second = f.hashed _
        h.second;
    lists = lists_later h.tx h.lists;
    spent = all_spent_later h.tx h.tx.inputs h.spent;
  }

  pub origin_later : (id : List ℕ) → (id ≡ opening_id s) ⊎ From s w id → (id ≡ opening_id s) ⊎ From s next id
  origin_later id (inl e) = inl e
  origin_later id (inr h) = inr (from_later id h)

  -- what is a live deposit later was one before
  pub live_before : (n : ℕ) (o : Output) → slice_get w.outputs n ≡ Some o → is_deposit (slice_get next.outputs n) ≡ true
      → is_deposit (slice_get w.outputs n) ≡ true
  live_before n o h d =
      let r = f.outputs.last n o h in
      let x : (r.0.live && is_none r.0.holds) ≡ true = subst (λ y. is_deposit y ≡ true) r.1 d in
      let p = and_parts r.0.live (is_none r.0.holds) x in
      let l : o.live ≡ true = true_from_ne_false o.live (λ e. both_ways _ (r.2.dead e) p.0) in
      subst (λ y. is_deposit y ≡ true) (sym h) (and_from _ _ l (subst (λ y. is_none y ≡ true) r.2.holds p.1))

  unfoldable pub gave_later : (a d : List ℕ) → Gave s w a d → Gave s next a d
  gave_later a d h = record {
    tx = h.tx;
    input = h.input;
    value = h.value;
    fits = h.fits;
    lists = lists_later h.tx
        h.lists;
    prev = h.prev;
    is = h.is;
    heard = digest_later h.tx h.input (party_script s.hash a) h.value h.heard;
    some = h.some;
    final = h.final;
  }

  unfoldable pub needed_later : (a d : List ℕ) → Needed s w a d → Needed s next a d
  needed_later a d h = record {
    contract = h.contract;
    instance = h.instance;
    compiled = f.compiled h.contract h.instance h.compiled;
    position = h.position;
    here = h.here;
    choice = h.choice;
    stands = h.stands;
    index = h.index;
    branch = h.branch;
    there = h.there;
    spent = h.spent;
    put = h.put;
    is = h.is;
  }

  module _ (adverts : (k : ℕ) → is_advertised w k ≡ true → AdvertFine s w k) where
    pub bound_before : (k : ℕ) (e : List ℕ × Holding) → is_advertised w k ≡ true → is_bound_live next k e ≡ true → is_bound_live w k e ≡ true
    bound_before k e adv h =
        by_number (look_up (e.0) (bindings_at w.advertised k)) refl (subst (λ bs. names_deposit next (look_up (e.0) bs) ≡ true) (f.bindings k adv) h)
      where
        by_number : (o : Option ℕ) → look_up (e.0) (bindings_at w.advertised k) ≡ o → names_deposit next o ≡ true → names_deposit w o ≡ true
        by_number None x y = cc
        by_number (Some n) x y = by_output (slice_get w.outputs n) refl y
          where
            made : is_some (slice_get w.outputs n) ≡ true
            made = looked_made w (bindings_at w.advertised k) (e.0) n (adverts k adv).made x

            by_output : (o : Option Output) → slice_get w.outputs n ≡ o → is_deposit (slice_get next.outputs n) ≡ true
                → is_deposit (slice_get w.outputs n) ≡ true
            by_output None u v = let m = rw u at made in cc
            by_output (Some o) u v = live_before n o u v

    unfoldable pub started_later : (a d : List ℕ) → Started s g w a d → Started s g' next a d
    started_later a d h = record {
      contract = h.contract;
      instance = h.instance;
      compiled = f.compiled h.contract h.instance h.compiled;
      spent = h.spent;
      persists = h.persists;
      is = h.is;
      authorised =
          λ e i o l. f.inits h.contract (e.0) (h.authorised e i o (bound_before h.contract e (compiled_is s w h.contract h.instance h.compiled).advertised l));
    }

    pub cause_later : (a d : List ℕ) → DepositCause s g w a d → DepositCause s g' next a d
    cause_later a d (gave h) = gave (gave_later a d h)
    cause_later a d (needed h) = needed (needed_later a d h)
    cause_later a d (started h) = started (started_later a d h)

  bound_later : (h : Holding) (n : ℕ) → IsBound s w h n → IsBound s next h n
  bound_later h n b =
      let r = f.outputs.last n b.output b.there in
      record { output = r.0; there = r.1; script = r.2.script ∙ b.script; value = r.2.value ∙ b.value; free = r.2.holds ∙ b.free; declared = b.declared }

  pub made_later : (bs : List (List ℕ × ℕ)) → are_made w bs ≡ true → are_made next bs ≡ true
  made_later bs h = all_then (λ b. is_some (output_at w (b.1))) (λ b. is_some (output_at next (b.1))) bs (λ b i. by_output b (output_at w (b.1)) refl i) h
    where
      by_output : (b : List ℕ × ℕ) → (o : Option Output) → output_at w (b.1) ≡ o → is_some o ≡ true → is_some (output_at next (b.1)) ≡ true
      by_output b None e q = cc
      by_output b (Some o) e q = ap is_some (f.outputs.last (b.1) o e).1

  pub advert_later : (k : ℕ) → is_advertised w k ≡ true → AdvertFine s w k → AdvertFine s next k
  advert_later k adv h =
      let e = f.bindings k adv in
      record {
        advert = h.advert;
        there = h.there;
        made = subst (λ bs. are_made next bs ≡ true) (sym e) (made_later (bindings_at w.advertised k) h.made);
        bound = λ name x i. let r = h.bound name x i in (r.0, subst (λ bs. look_up name bs ≡ Some r.0) (sym e) r.1, bound_later x r.0 r.2);
        apart = λ x y n p q. h.apart x y n (subst (λ bs. look_up x bs ≡ Some n) e p) (subst (λ bs. look_up y bs ≡ Some n) e q);
        fair = h.fair;
      }

  pub held_later : (o o' : Output) (h : ContractPosition) → SameOutput o o' → HeldFine s w o h → HeldFine s next o' h
  held_later o o' h e k = record {
    instance = k.instance;
    compiled = f.compiled h.contract k.instance
        k.compiled;
    here = k.here;
    choice = k.choice;
    stands = k.stands;
    outpoint = e.outpoint ∙ k.outpoint;
    script = e.script
        ∙ k.script;
    value = e.value ∙ k.value;
  }

  -- where outputs stay, and no further contract is compiled, the new pairs must have their causes
  pub signs : (ps : List Pair) → KeptBook s g w
      → next.outputs ≡ w.outputs
      → ((k : ℕ) (st : Instance) → compiled_instance s next k ≡ Some st → compiled_instance s w k ≡ Some st)
      → ((k : ℕ) → is_advertised next k ≡ true → is_advertised w k ≡ false → AdvertFine s next k)
      → ((k d : List ℕ) → has_signed next.book k d ≡ true → (has_signed w.book k d ≡ true) ⊎ (has_signed ps k d ≡ true))
      → ((a d : List ℕ) → is_declared s a ≡ true → is_honest s a ≡ true → has_signed ps (deposit_key s.hash a) d ≡ true → DepositCause s g' next a d)
      → ((k : ℕ) (st : Instance) (q : List PathStep) (here : Standing) (choice : Contract) (i : ℕ) (b : term.Guarded) (a d : List ℕ)
      → compiled_instance s w k ≡ Some st → position_at s.hash st q ≡ Some (here, choice) → slice_get (branches choice) i ≡ Some b
      → is_among a (people st) ≡ true → is_honest s a ≡ true → has_signed ps (key_of s.hash (branch_label k (q ++ To i ∷ []) a)) d ≡ true
      → BranchCause s g' next k st q here i b a d)
      → KeptBook s g' next
  signs ps kept outs back new_adverts split deposit_new branch_new = record {
    labelled = λ a h. f.hashed _ (kept.labelled a h);
    programs = λ a h. f.hashed _ (kept.programs a h);
    opened = (f.hashed _ kept.opened.0, f.hashed _ kept.opened.1);
    apart = λ m n o p h k e. kept.apart m n o p (subst (λ os. slice_get os m ≡ Some o) outs h) (subst (λ os. slice_get os n ≡ Some p) outs k) e;
    origin = λ n o h. origin_later o.outpoint.txid (kept.origin n o (subst (λ os. slice_get os n ≡ Some o) outs h));
    placed_fine = λ n o h. kept.placed_fine n o (subst (λ os. slice_get os n ≡ Some o) outs h);
    adverts = λ k h. by_old k h (is_advertised w k) refl;
    heard = λ k st h t i. f.hashed t (kept.heard k st (back k st h) t i);
    held = λ n o h e i. held_later o o h (record { outpoint = refl; script = refl; value = refl; holds = refl; dead = λ x. x })
        (kept.held n o h (subst (λ os. slice_get os n ≡ Some o) outs e) i);
    placed = λ k st q here choice n o c e h p. kept.placed k st q here choice n o (back k st c) e (subst (λ os. slice_get os n ≡ Some o) outs h) p;
    deposit_pairs = λ a d k h x. elim (split (deposit_key s.hash a) d x) [
      | inl y ↦ cause_later kept.adverts a d (kept.deposit_pairs a d k h y)
      | inr y ↦ deposit_new a d k h y
    ];
    branch_pairs = λ k st q here choice i b a d c e t p h x. elim (split (key_of s.hash (branch_label k (q ++ To i ∷ []) a)) d x) [
      | inl y ↦ branch_later k st q here choice i b a d (kept.branch_pairs k st q here choice i b a d (back k st c) e t p h y)
      | inr y ↦ branch_new k st q here choice i b a d (back k st c) e t p h y
    ];
  }
    where
      by_old : (k : ℕ) → is_advertised next k ≡ true → (b : Bool) → is_advertised w k ≡ b → AdvertFine s next k
      by_old k h true e = advert_later k e (kept.adverts k e)
      by_old k h false e = new_adverts k h e

      branch_later : (k : ℕ) (st : Instance) (q : List PathStep) (here : Standing) (choice : Contract) (i : ℕ) (b : term.Guarded)
          (a d : List ℕ) → BranchCause s g w k st q here i b a d → BranchCause s g' next k st q here i b a d
      branch_later k st q here choice i b a d h = record {
        is = h.is;
        existed = λ x. let r = h.existed x in (r.0, r.1, subst (λ os. slice_get os r.0 ≡ Some r.1) (sym outs) r.2, r.3);
        authorised =
            λ x n y. f.asked n i a (h.authorised x n (subst (λ os. live_position (slice_get os n) ≡ Some (record { contract = k; position = q })) outs y));
      }
