-- What an accepted transaction leaves of signatures, outputs and contracts.
use Rattle.std.proofs.Common.{◌≡◌, ℕ, zero, suc, ◌+◌, ◌<◌, ◌≤◌, ◌^◌, List, [], ◌∷◌, ◌++◌, length, map, Bool, true, false, not, Option, Some, None, refl, sym, ap, ◌∙◌, subst, arith, inl, inr}
use Rattle.std.specs.Prelude.{◌==◌, ◌⊎◌, slice_get, if◌then◌else◌, option_map}
use Rattle.std.specs.List.{flat_map}
use Rattle.std.proofs.lemmas.Bool.{or_left, or_right, both_ways, eq-eqb}
use Rattle.spec_data.specs.Lists.{has_number, is_among}
use Rattle.spec_terms.specs.Term as term
use Rattle.spec_terms.specs.Term.{Contract, branches}
use Rattle.spec_terms.specs.Core.{is_asked}
use Rattle.spec_terms.specs.declared.path.PathStep.{PathStep}
use Rattle.spec_terms.specs.declared.path.PathStep.TheVariants.{Branch as To}
use Rattle.spec_bitcoin.specs.declared.tx.OutPoint.{OutPoint}
use Rattle.spec_bitcoin.specs.declared.tx.TxIn.{TxIn}
use Rattle.spec_bitcoin.specs.declared.tx.TxOut.{TxOut}
use Rattle.spec_bitcoin.specs.declared.tx.Tx.{Tx}
use Rattle.spec_bitcoin.specs.Spelling.{stripped, IsPlace}
use Rattle.spec_bitcoin.specs.Digests.{txid, preimage, digest, opening_transaction}
use Rattle.spec_bitcoin.specs.Keys.{key_of, has_signed}
use Rattle.spec_bitcoin.specs.Verdict.{script_of, input_strings}
use Rattle.spec_calculus.specs.Configuration.{Configuration}
use Rattle.spec_compiler.specs.Instance.{Instance, branch_label, deposit_key}
use Rattle.spec_compiler.specs.Transactions.{Standing, party_script}
use Rattle.spec_compiler.specs.ByPath.{position_at}
use Rattle.spec_run.specs.Setup.{Setup, is_declared}
use Rattle.spec_run.specs.World.{ContractPosition, Output, World, live_position_at, live_position, is_advertised}
use Rattle.spec_run.specs.Owners.{paid_to}
use Rattle.spec_run.specs.Compiled.{compiled_instance}
use Rattle.spec_run.specs.Conditions.{HashesBytes}
use Rattle.spec_run.specs.Event.{opening_outputs}
use Rattle.spec_run.specs.Ledger.{live_from, spend_from, made_from}
use Rattle.theory_bitcoin.specs.Apart.{bare_input}
use Rattle.theory_calculus.specs.Members.{Is_in}
use Rattle.theory_calculus.proofs.Members.{get_below}
use Rattle.theory_world.specs.KeptApart.{NoCollision}
use Rattle.theory_world.specs.Transactions.{HeardLists, IsNumbered, NoScripts}
use Rattle.theory_world.proofs.Ledger.Preimages.{heard_lists, double-apart}
use Rattle.theory_world.proofs.Ledger.Bare.{stripped-apart, inputless_apart}
use Rattle.theory_world.proofs.Ledger.Accepting.{IsSpent, AllSpent, Accepting, HeardAll, heard_bytes, heard_bytes_hash, heard_shared, heard_input, later_strings, first_strings}
use Rattle.theory_world.proofs.Later.{SameOutput, get-spent, get-prefix, get-split, get-made}
use Rattle.spec_calculus.specs.Branches.{has_branch_authorised}
use Rattle.theory_world.proofs.Ledger.Outputs.{length-spend_from}
use Rattle.theory_run.specs.KeptBook.{KeptBook, HeldFine, BranchCause, SpentFor, AllSpentFor, From, opening_id}
use Rattle.theory_run.proofs.Facts.Kept.{cause_later, Frame, origin_later, held_later, advert_later}
use Rattle.theory_run.proofs.Accepted.Spending.{TransactionsFit, Checked, deposit_signed}

in_strings : (f : TxIn → List (List ℕ)) (is : List TxIn) (i : TxIn) (t : List ℕ) → Is_in i is → is_among t (f i) ≡ true → is_among t (flat_map f is) ≡ true
in_strings f [] i t k l = absurd k
in_strings f (x ∷ is) i t (inl e) l = first_strings f x is t (subst (λ y. is_among t (f y) ≡ true) e l)
in_strings f (x ∷ is) i t (inr k) l = later_strings f x is t (in_strings f is i t k l)

-- the strings of an input are among those of all
pub all_strings_of : (s : Setup) (w : World) (tx : Tx) (i : TxIn) (t : List ℕ) → Is_in i tx.inputs
    → is_among t (input_strings s.hash (live_from 0 w.outputs) tx i) ≡ true
    → is_among t (flat_map (input_strings s.hash (live_from 0 w.outputs) tx) tx.inputs) ≡ true
all_strings_of s w tx i t k l = in_strings (input_strings s.hash (live_from 0 w.outputs) tx) tx.inputs i t k l

-- an input of a list, and its number
pub spent_at : (s : Setup) (w : World) (tx : Tx) (ns : List ℕ) (is : List TxIn) (i : TxIn) → AllSpent s w tx ns is → Is_in i is → (n : ℕ)
    × (has_number n ns ≡ true) × IsSpent s w tx n i
spent_at s w tx [] [] i h k = absurd k
spent_at s w tx [] (x ∷ is) i h k = absurd h
spent_at s w tx (n ∷ ns) [] i h k = absurd h
spent_at s w tx (n ∷ ns) (x ∷ is) i h (inl e) = (n, or_left _ _ (eq-eqb n n refl), subst (IsSpent s w tx n) (sym e) h.0)
spent_at s w tx (n ∷ ns) (x ∷ is) i h (inr k) = let r = spent_at s w tx ns is i h.1 k in (r.0, or_right (n == r.0) _ r.1, r.2)

pub no_scripts : (s : Setup) (w : World) (tx : Tx) (ns : List ℕ) (is : List TxIn) → AllSpent s w tx ns is → NoScripts is
no_scripts s w tx [] [] h = tt
no_scripts s w tx [] (x ∷ is) h = absurd h
no_scripts s w tx (n ∷ ns) [] h = absurd h
no_scripts s w tx (n ∷ ns) (x ∷ is) h = (h.0.no_script, no_scripts s w tx ns is h.1)

pub bare_in : (xs ys : List TxIn) (i : TxIn) → map bare_input xs ≡ map bare_input ys → Is_in i xs → (j : TxIn) × Is_in j ys × (j.prev ≡ i.prev)
bare_in [] ys i e h = absurd h
bare_in (x ∷ xs) [] i e h = cc
bare_in (x ∷ xs) (y ∷ ys) i e (inl k) =
    let a : bare_input x ≡ bare_input y = cc in
    (y, inl refl, ap (λ (z : TxIn). z.prev) (sym a) ∙ ap (λ (z : TxIn). z.prev) (sym k))
bare_in (x ∷ xs) (y ∷ ys) i e (inr k) =
    let b : map bare_input xs ≡ map bare_input ys = cc in
    let r = bare_in xs ys i b k in
    (r.0, inr r.1, r.2)

pub spent_for_in : (s : Setup) (w : World) (tx : Tx) (is : List TxIn) (i : TxIn) → AllSpentFor s w tx is → Is_in i is → SpentFor s w tx i
spent_for_in s w tx [] i h k = absurd k
spent_for_in s w tx (x ∷ is) i h (inl e) = subst (SpentFor s w tx) (sym e) h.0
spent_for_in s w tx (x ∷ is) i h (inr k) = spent_for_in s w tx is i h.1 k

module _ (s : Setup) (size : HashesBytes s.hash) (g : Configuration) (w : World) (kept : KeptBook s g w) (fit : TransactionsFit s w)
    (check : Checked s w) (hs : List (List ℕ)) (clear : NoCollision s.hash hs) (sub : (t : List ℕ) → is_among t w.hashed ≡ true → is_among t hs ≡ true)
    (tx : Tx) (fits : IsNumbered tx) (spent : List ℕ) (acc : Accepting s w tx spent) (all : HeardAll s w hs tx) where
  pub scripts_none : NoScripts tx.inputs
  scripts_none = no_scripts s w tx spent tx.inputs acc.spends

  pub lists : HeardLists s.hash hs tx
  lists = heard_lists s.hash hs tx (heard_shared s w hs tx all)

  first_input : (is : List TxIn) → not (length is == 0) ≡ true → (i : TxIn) × Is_in i is
  first_input [] h = cc
  first_input (i ∷ is) h = (i, inl refl)

  some_inputs : 0 < length tx.inputs
  some_inputs = above (length tx.inputs) acc.some
    where
      above : (n : ℕ) → not (n == 0) ≡ true → 0 < n
      above zero h = cc
      above (suc n) h = omega arith

  -- what spends the same places isn't dead
  pub not_dead : (i : TxIn) (n : ℕ) (o : Output) → Is_in i tx.inputs → slice_get w.outputs n ≡ Some o → o.outpoint ≡ i.prev → o.live ≡ false → ⊥
  not_dead i n o k there place dead =
      let r = spent_at s w tx spent tx.inputs i acc.spends k in
      let sp = r.2 in
      let m = kept.apart n r.0 o sp.output there sp.there (place ∙ sp.outpoint) in
      let e : (let x : Option Output = Some o in x) ≡ Some sp.output = sym there ∙ ap (slice_get w.outputs) m ∙ sp.there in
      let f : o ≡ sp.output = cc in
      both_ways _ dead (ap (λ (x : Output). x.live) f ∙ sp.live)

  -- no output is of a transaction of this id
  pub fresh : (n : ℕ) (o : Output) → slice_get w.outputs n ≡ Some o → o.outpoint.txid ≡ txid s.hash tx → ⊥
  fresh n o there e = by_origin (kept.origin n o there)
    where
      by_origin : (o.outpoint.txid ≡ opening_id s) ⊎ From s w o.outpoint.txid → ⊥
      by_origin (inl f) =
          let op = opening_transaction (opening_outputs s) in
          let m = double-apart s.hash hs clear (stripped op)
          (stripped tx) (sub _ kept.opened.0) (sub _ kept.opened.1) (heard_bytes s w hs tx all) (heard_bytes_hash s w hs tx all) (sym f ∙ e) in
          inputless_apart op tx refl some_inputs m
      by_origin (inr f) =
          let m = double-apart s.hash hs clear (stripped f.tx)
          (stripped tx) (sub _ f.first) (sub _ f.second) (heard_bytes s w hs tx all) (heard_bytes_hash s w hs tx all) (sym f.is ∙ e) in
          let b = stripped-apart f.tx tx f.no_scripts scripts_none f.fits fits m in
          let i = first_input tx.inputs acc.some in
          let j = bare_in tx.inputs f.tx.inputs i.0 (ap (λ (x : Tx). x.inputs) (sym b)) i.1 in
          let d = spent_for_in s w f.tx f.tx.inputs j.0 f.spent j.1 in
          not_dead i.0 d.number d.output i.1 d.there (sym d.outpoint ∙ j.2) d.dead

  -- ---- the next world

  module _ (held : ℕ → Option ContractPosition)
      (g' : Configuration) (next : World) (outs : next.outputs ≡ spend_from 0 spent w.outputs ++ made_from held (txid s.hash tx) 0 tx.outputs)
      (f : Frame s g g' w next) (heard_next : next.hashed ≡ hs) (few : length tx.outputs ≤ 2 ^ 32) where
    -- an output of the next world is an old one or a new one
    pub data Place (n : ℕ) (o : Output) : Type 0 where
      old : (p : Output) → slice_get w.outputs n ≡ Some p → SameOutput p o → (o.live ≡ true → p.live ≡ true) → Place n o
      new : (m : ℕ) (x : TxOut) → slice_get tx.outputs m ≡ Some x → n ≡ length w.outputs + m → o
          ≡ record { outpoint = record { txid = txid s.hash tx; vout = m }; value = x.value; script = x.script; live = true; holds = held m } → Place n o

    pub where_is : (n : ℕ) (o : Output) → slice_get next.outputs n ≡ Some o → Place n o
    where_is n o h =
        elim (get-split (spend_from 0 spent w.outputs) (made_from held (txid s.hash tx) 0 tx.outputs) n o (subst (λ os. slice_get os n ≡ Some o) outs h)) [
          | inl a ↦ by_old (slice_get w.outputs n) refl (sym (get-spent 0 n spent w.outputs) ∙ a)
          | inr b ↦ (let r = get-made held (txid s.hash tx) 0 b.0 tx.outputs o b.2 in
              let z : b.0 + 0 ≡ b.0 = omega arith in new b.0 r.0 r.1 (b.1 ∙ ap (λ k. k + b.0) (length-spend_from 0 spent w.outputs)) (rw z at r.2))
        ]
      where
        by_test : (p : Output) → slice_get w.outputs n ≡ Some p → (t : Bool) → (if t then record p { live = false } else p) ≡ o → Place n o
        by_test p e true q =
            old p e (record {
              outpoint = ap (λ (x : Output). x.outpoint) (sym q);
              script = ap (λ (x : Output). x.script) (sym q);
              value = ap (λ (x : Output). x.value) (sym q);
              holds = ap (λ (x : Output). x.holds) (sym q);
              dead = λ x. ap (λ (x : Output). x.live) (sym q);
            }) (λ l. let d = ap (λ (x : Output). x.live) (sym q) in absurd (both_ways _ d l))
        by_test p e false q = old p e (record {
          outpoint = ap (λ (x : Output). x.outpoint) (sym q);
          script = ap (λ (x : Output). x.script)
              (sym q);
          value = ap (λ (x : Output). x.value) (sym q);
          holds = ap (λ (x : Output). x.holds) (sym q);
          dead = λ x. ap
              (λ (x : Output). x.live) (sym q) ∙ x;
        }) (λ l. ap (λ (x : Output). x.live) q ∙ l)

        by_old : (r : Option Output) → slice_get w.outputs n ≡ r
            → option_map (λ (p : Output). if has_number (n + 0) spent then record p { live = false } else p) r ≡ Some o → Place n o
        by_old None e q = cc
        by_old (Some p) e q = let z : (if has_number (n + 0) spent then record p { live = false } else p) ≡ o = cc in by_test p e (has_number (n + 0) spent) z

    apart_next : (m n : ℕ) (o p : Output) → slice_get next.outputs m ≡ Some o → slice_get next.outputs n ≡ Some p → o.outpoint ≡ p.outpoint → m ≡ n
    apart_next m n o p h k e = by_places (where_is m o h) (where_is n p k)
      where
        by_places : Place m o → Place n p → m ≡ n
        by_places (old a ha sa la) (old b hb sb lb) = kept.apart m n a b ha hb (sym sa.outpoint ∙ e ∙ sb.outpoint)
        by_places (old a ha sa la) (new j x hx nx ox) =
            absurd (fresh m a ha (ap (λ (y : OutPoint). y.txid) (sym sa.outpoint ∙ e) ∙ ap (λ (y : Output). y.outpoint.txid) ox))
        by_places (new i y hy ny oy) (old b hb sb lb) =
            absurd (fresh n b hb (ap (λ (y : OutPoint). y.txid) (sym sb.outpoint ∙ sym e) ∙ ap (λ (y : Output). y.outpoint.txid) oy))
        by_places (new i y hy ny oy) (new j x hx nx ox) =
            let v : i ≡ j = ap (λ (z : Output). z.outpoint.vout) (sym oy) ∙ ap (λ (z : OutPoint). z.vout) e ∙ ap (λ (z : Output). z.outpoint.vout) ox in
            ny ∙ ap (λ k. length w.outputs + k) v ∙ sym nx

    -- each input's output is spent, and signed for
    spent_all : (ns : List ℕ) (is : List TxIn) → AllSpent s w tx ns is → ((n : ℕ) → has_number n ns ≡ true → has_number n spent ≡ true)
        → ((i : TxIn) (t : List ℕ) → Is_in i is → is_among t (input_strings s.hash (live_from 0 w.outputs) tx i) ≡ true
        → is_among t (flat_map (input_strings s.hash (live_from 0 w.outputs) tx) tx.inputs) ≡ true) → AllSpentFor s next tx is
    spent_all [] [] h more str = tt
    spent_all [] (x ∷ is) h more str = absurd h
    spent_all (n ∷ ns) [] h more str = absurd h
    spent_all (n ∷ ns) (i ∷ is) h more str =
        let sp = h.0 in
        let z : n + 0 ≡ n = omega arith in
        let there : slice_get (spend_from 0 spent w.outputs) n ≡ Some (record sp.output { live = false }) =
        get-spent 0 n spent w.outputs ∙ rw (sp.there, z, more n (or_left _ _ (eq-eqb n n refl))) refl in
        let hi = heard_input s w hs tx all i n (λ t k. str i t (inl refl) k) sp in
        let sg : (a : List ℕ) → is_declared s a ≡ true → sp.output.script ≡ paid_to s a → (script_of i.witness ≡ party_script s.hash a)
        × (has_signed w.book (deposit_key s.hash a) (digest s.hash tx i (party_script s.hash a) sp.output.value) ≡ true) =
        λ a k e. deposit_signed s size g w kept fit check hs clear sub tx fits scripts_none lists n i sp hi.script a k e in (
          record {
            number = n;
            output = record sp.output { live = false };
            there = subst (λ os. slice_get os n ≡ Some (record sp.output { live = false })) (sym outs)
                (get-prefix (spend_from 0 spent w.outputs) (made_from held (txid s.hash tx) 0 tx.outputs) n (record sp.output { live = false }) there);
            outpoint = sp.outpoint;
            dead = refl;
            signed = λ a k e. f.book _ _ (sg a k e).1;
            heard = λ a k e. let x = (sg a k e).0 in record {
              first = subst (λ y. is_among (preimage s.hash tx i y sp.output.value) next.hashed ≡ true) x
                  (subst (λ ts. is_among (preimage s.hash tx i (script_of i.witness) sp.output.value) ts ≡ true) (sym heard_next) hi.signed);
              second = subst (λ y. is_among (s.hash (preimage s.hash tx i y sp.output.value)) next.hashed ≡ true) x
                  (subst (λ ts. is_among (s.hash (preimage s.hash tx i (script_of i.witness) sp.output.value)) ts ≡ true) (sym heard_next) hi.signed_hash);
            };
          },
          spent_all ns is h.1 (λ m k. more m (or_right (n == m) _ k)) (λ j t k l. str j t (inr k) l),
        )

    made_from_this : From s next (txid s.hash tx)
    made_from_this = record {
      tx = tx;
      fits = fits;
      no_scripts = scripts_none;
      is = refl;
      first = subst (λ ts. is_among (stripped tx) ts ≡ true) (sym heard_next) (heard_bytes s w hs tx all);
      second = subst (λ ts. is_among (s.hash (stripped tx)) ts ≡ true) (sym heard_next) (heard_bytes_hash s w hs tx all);
      lists = subst (λ ts. HeardLists s.hash ts tx) (sym heard_next) lists;
      spent = spent_all spent tx.inputs acc.spends (λ n k. k) (λ i t k l. all_strings_of s w tx i t k l);
    }

    origin_next : (n : ℕ) (o : Output) → slice_get next.outputs n ≡ Some o → (o.outpoint.txid ≡ opening_id s) ⊎ From s next o.outpoint.txid
    origin_next n o h = by_place (where_is n o h)
      where
        by_place : Place n o → (o.outpoint.txid ≡ opening_id s) ⊎ From s next o.outpoint.txid
        by_place (old p e sp l) = subst (λ (x : OutPoint). (x.txid ≡ opening_id s) ⊎ From s next x.txid) (sym sp.outpoint)
            (origin_later s g g' w next f p.outpoint.txid (kept.origin n p e))
        by_place (new m x hx nx ox) = inr (subst (From s next) (ap (λ (y : Output). y.outpoint.txid) (sym ox)) made_from_this)

    fine_next : (n : ℕ) (o : Output) → slice_get next.outputs n ≡ Some o → IsPlace o.outpoint
    fine_next n o h = by_place (where_is n o h)
      where
        by_place : Place n o → IsPlace o.outpoint
        by_place (old p e sp l) = subst IsPlace (sym sp.outpoint) (kept.placed_fine n p e)
        by_place (new m x hx nx ox) = subst IsPlace (ap (λ (y : Output). y.outpoint) (sym ox)) (record {
          txid = size.bytes (s.hash (stripped tx));
          size = size.size (s.hash (stripped tx));
          vout = (let r = get_below tx.outputs m x hx in omega (arith, r, few));
        })

    -- the rest must be shown of the new outputs
    pub accepts : ((k : ℕ) (st : Instance) → compiled_instance s next k ≡ Some st → compiled_instance s w k ≡ Some st)
        → ((k : ℕ) → is_advertised next k ≡ true → is_advertised w k ≡ true)
        → next.book ≡ w.book
        → ((m : ℕ) (x : TxOut) (h : ContractPosition) (o : Output) → slice_get tx.outputs m ≡ Some x → held m ≡ Some h → o
        ≡ record {
          outpoint = record { txid = txid s.hash tx; vout = m };
          value = x.value;
          script = x.script;
          live = true;
          holds = held
              m;
        } → HeldFine s next o h)
        → ((k : ℕ) (st : Instance) (q : List PathStep) (here : Standing) (choice : Contract) (m : ℕ) (x : TxOut) → compiled_instance s w k
        ≡ Some st → position_at s.hash st q ≡ Some (here, choice) → slice_get tx.outputs m ≡ Some x
        → record { txid = txid s.hash tx; vout = m } ≡ here.output.outpoint → held m ≡ Some (record { contract = k; position = q }))
        → KeptBook s g' next
    accepts back adv book held_new placed_new = record {
      labelled = λ a h. f.hashed _ (kept.labelled a h);
      programs = λ a h. f.hashed _ (kept.programs a h);
      opened = (f.hashed _ kept.opened.0, f.hashed _ kept.opened.1);
      apart = apart_next;
      origin = origin_next;
      placed_fine = fine_next;
      adverts = λ k h. advert_later s g g' w next f k (adv k h) (kept.adverts k (adv k h));
      heard = λ k st h t i. f.hashed t (kept.heard k st (back k st h) t i);
      held = λ n o h e i. by_held n o h (where_is n o e) i;
      placed = λ k st q here choice n o c e h p. by_placed k st q here choice n o (back k st c) e (where_is n o h) p;
      deposit_pairs = λ a d k h x. cause_later s g g' w next f kept.adverts a d
          (kept.deposit_pairs a d k h (subst (λ b. has_signed b (deposit_key s.hash a) d ≡ true) book x));
      branch_pairs = λ k st q here choice i b a d c e t p h x. by_branch k st q here choice i b a d (back k st c) e
          (kept.branch_pairs k st q here choice i b a d (back k st c) e t p h
          (subst (λ y. has_signed y (key_of s.hash (branch_label k (q ++ To i ∷ []) a)) d ≡ true) book x));
    }
      where
        by_held : (n : ℕ) (o : Output) (h : ContractPosition) → Place n o → o.holds ≡ Some h → HeldFine s next o h
        by_held n o h (old p e sp l) i = held_later s g g' w next f p o h sp (kept.held n p h e (sym sp.holds ∙ i))
        by_held n o h (new m x hx nx ox) i = held_new m x h o hx (ap (λ (y : Output). y.holds) (sym ox) ∙ i) ox

        by_placed : (k : ℕ) (st : Instance) (q : List PathStep) (here : Standing) (choice : Contract) (n : ℕ) (o : Output)
            → compiled_instance s w k ≡ Some st → position_at s.hash st q ≡ Some (here, choice) → Place n o → o.outpoint
            ≡ here.output.outpoint → o.holds ≡ Some (record { contract = k; position = q })
        by_placed k st q here choice n o c e (old p h sp l) i = sp.holds ∙ kept.placed k st q here choice n p c e h (sym sp.outpoint ∙ i)
        by_placed k st q here choice n o c e (new m x hx nx ox) i =
            ap (λ (y : Output). y.holds) ox ∙ placed_new k st q here choice m x c e hx (ap (λ (y : Output). y.outpoint) (sym ox) ∙ i)

        by_branch : (k : ℕ) (st : Instance) (q : List PathStep) (here : Standing) (choice : Contract) (i : ℕ) (b : term.Guarded)
            (a d : List ℕ) → compiled_instance s w k ≡ Some st → position_at s.hash st q ≡ Some (here, choice)
            → BranchCause s g w k st q here i b a d → BranchCause s g' next k st q here i b a d
        by_branch k st q here choice i b a d c e h = record {
          is = h.is;
          existed = λ x. let r = h.existed x in let y = f.outputs.last r.0 r.1 r.2 in (r.0, y.0, y.1, y.2.outpoint ∙ r.3);
          authorised = λ x n y. by_number x n (slice_get next.outputs n) refl y;
        }
          where
            by_place : is_asked b a ≡ true → (n : ℕ) (o : Output) → Place n o → o.live ≡ true → o.holds
                ≡ Some (record { contract = k; position = q }) → has_branch_authorised g'.branch_authorised n i a ≡ true
            by_place x n o (old p e' sp l) live hd =
                let there : live_position_at w n ≡ Some (record { contract = k; position = q }) = ap live_position e' ∙ rw (l live) (sym sp.holds ∙ hd) in
                f.asked n i a (h.authorised x n there)
            by_place x n o (new m y hx nx ox) live hd =
                let hf = held_new m y (record { contract = k; position = q }) o hx (ap (λ (z : Output). z.holds) (sym ox) ∙ hd) ox in
                let st_same : (let z : Option Instance = Some hf.instance in z) ≡ Some st = sym (back k hf.instance hf.compiled) ∙ c in
                let st_is : hf.instance ≡ st = cc in
                let pos : (let z : Option (Standing × Contract) = Some (hf.here, hf.choice) in z) ≡ Some (here, choice) =
                sym (subst (λ u. position_at s.hash u q ≡ Some (hf.here, hf.choice)) st_is hf.stands) ∙ e in
                let pr : (let z : Standing × Contract = (hf.here, hf.choice) in z) ≡ (here, choice) = cc in
                let here_is : hf.here ≡ here = ap (λ (z : Standing × Contract). z.0) pr in
                let r = h.existed x in
                let pl : r.1.outpoint ≡ o.outpoint = r.3 ∙ ap (λ (z : Standing). z.output.outpoint) (sym here_is) ∙ sym hf.outpoint in
                absurd (fresh r.0 r.1 r.2 (ap (λ (z : OutPoint). z.txid) pl ∙ ap (λ (z : Output). z.outpoint.txid) ox))

            by_live : is_asked b a ≡ true → (n : ℕ) (o : Output) → slice_get next.outputs n ≡ Some o → (t : Bool) → o.live ≡ t
                → (if t then o.holds else None) ≡ Some (record { contract = k; position = q }) → has_branch_authorised g'.branch_authorised n i a ≡ true
            by_live x n o e' true l hd = by_place x n o (where_is n o e') l hd
            by_live x n o e' false l hd = cc

            by_number : is_asked b a ≡ true → (n : ℕ) (o : Option Output) → slice_get next.outputs n ≡ o → live_position o
                ≡ Some (record { contract = k; position = q }) → has_branch_authorised g'.branch_authorised n i a ≡ true
            by_number x n None e' hd = cc
            by_number x n (Some o) e' hd = by_live x n o e' o.live refl hd
