-- What a chain keeps: its strings don't collide, what was shown fits, live outputs are told by their places, and no transaction of the deal
-- comes twice.
use Rattle.std.proofs.Common.{◌≡◌, ℕ, ◌+◌, ◌<◌, ◌≤◌, List, [], ◌∷◌, ◌++◌, length, map, Bool, true, false, Option, Some, None}
use Rattle.std.proofs.Common.{refl, sym, ap, subst, ◌∙◌, inl, inr, arith}
use Rattle.std.specs.Prelude.{◌⊎◌, ◌||◌, not, slice_get}
use Rattle.std.specs.List.{list_any, filter}
use Rattle.std.proofs.lemmas.Bool.{both_ways}
use Rattle.spec_data.specs.Lists.{look_up, is_among}
use Rattle.spec_data.specs.Messages.{noted_all}
use Rattle.spec_terms.specs.Precondition.{deposits, secrets, names_of}
use Rattle.spec_bitcoin.specs.declared.tx.OutPoint.{OutPoint}
use Rattle.spec_bitcoin.specs.declared.tx.Tx.{Tx}
use Rattle.spec_bitcoin.specs.declared.tx.TxIn.{TxIn}
use Rattle.spec_bitcoin.specs.Digests.{txid}
use Rattle.spec_compiler.specs.declared.unsigned.Spent.{Spent}
use Rattle.spec_compiler.specs.Scripts.{digest_of}
use Rattle.spec_compiler.specs.Keyed.Instance.{Instance}
use Rattle.spec_compiler.specs.Keyed.Keys.{Keys}
use Rattle.spec_compiler.specs.Keyed.Transactions.{tx_of, input_of, outpoint_or_none}
use Rattle.spec_tool.specs.declared.which.Which.{Which}
use Rattle.spec_tool.specs.Keyed.Listed.{Listed, listed, listed_at}
use Rattle.spec_deal.specs.declared.transaction.Transaction.{Transaction}
use Rattle.spec_deal.specs.Hashed.{deal_strings}
use Rattle.spec_deal.specs.SecretFile.{has_length}
use Rattle.spec_deal.specs.Transactions.{transaction, transactions}
use Rattle.theory_bitcoin.specs.Apart.{bare}
use Rattle.theory_calculus.specs.Members.{Is_in}
use Rattle.theory_calculus.proofs.Members.{in_left, in_right, in_append, in_filter}
use Rattle.theory_calculus.proofs.Names.{looked_in, in_named, named_looked}
use Rattle.theory_script.proofs.Keyed.Stands.{some_same}
use Rattle.theory_world.specs.KeptApart.{NoCollision}
use Rattle.theory_world.proofs.Same.{place-true}
use Rattle.theory_deal.proofs.ByName.{listed_in}
use Rattle.theory_deal.proofs.Ledger.Funded.{funded_at}
use Rattle.theory_deal.proofs.Ledger.Made.{no_deposit_made}
use Rattle.spec_chain.specs.declared.output.Output.{Output}
use Rattle.spec_chain.specs.Chain.{Course}
use Rattle.spec_chain.specs.Following.{State, which_of, outputs_made, outputs_named, outputs_of, places_spent}
use Rattle.spec_chain.specs.Outputs.{is_position, is_there, has_place, without, without_all, deposit_outputs, made_by, held_by}
use Rattle.theory_chain.proofs.Needs.{named_is}
use Rattle.theory_chain.proofs.Deals.Whole.{Whole, same_txid}
use Rattle.theory_chain.proofs.Deals.Transactions.{IsHeld, output_is}
use Rattle.theory_chain.proofs.Deals.Outputs.{any_there, at_place, numbered_in, deposit_of, made_output, made_of}
use Rattle.theory_chain.proofs.Deals.Own.{AllLive, same_prevs}

-- ---- lists

pub none_any : {X : Type 0} (p : X → Bool) (xs : List X) → ((x : X) → Is_in x xs → p x ≡ false) → list_any p xs ≡ false
none_any p [] f = refl
none_any p (x ∷ xs) f = by_test (p x) (f x (inl refl)) (none_any p xs (λ y h. f y (inr h)))
  where
    by_test : (b : Bool) → b ≡ false → list_any p xs ≡ false → (b || list_any p xs) ≡ false
    by_test true e k = cc
    by_test false e k = k

pub false_of : (b : Bool) → (b ≡ true → ⊥) → b ≡ false
false_of true f = absurd (f refl)
false_of false f = refl

pub none_both : {X : Type 0} (p : X → Bool) (xs ys : List X) → list_any p xs ≡ false → list_any p ys ≡ false → list_any p (xs ++ ys) ≡ false
none_both p [] ys e f = f
none_both p (x ∷ xs) ys e f = by_test (p x) e (none_both p xs ys)
  where
    by_test : (b : Bool) → (b || list_any p xs) ≡ false
        → (list_any p xs ≡ false → list_any p ys ≡ false → list_any p (xs ++ ys) ≡ false) → (b || list_any p (xs ++ ys)) ≡ false
    by_test true k later = cc
    by_test false k later = later k f

pub none_of : {X : Type 0} (p : X → Bool) (xs : List X) (x : X) → Is_in x xs → list_any p xs ≡ false → p x ≡ false
none_of p xs x h e = false_of (p x) (λ k. both_ways _ e (any_there p xs x h k))

from_none : (b : Bool) → not b ≡ true → b ≡ false
from_none true e = cc
from_none false e = refl

-- what isn't spent was there, and lies at none of the places
pub unspent : (live : List Output) (places : List OutPoint) (o : Output) → Is_in o (without_all live places)
    → Is_in o live × ((p : OutPoint) → Is_in p places → is_there p o ≡ false)
unspent live [] o h = (h, λ p i. absurd i)
unspent live (place ∷ places) o h =
    let r = unspent (without live place) places o h in
    let k = in_filter (λ (x : Output). not (is_there place x)) live o r.0 in
    (k.0, λ p i. by_place p i (from_none (is_there place o) k.1) r.1)
  where
    by_place : (p : OutPoint) → Is_in p (place ∷ places) → is_there place o ≡ false → ((q : OutPoint) → Is_in q places → is_there q o ≡ false)
        → is_there p o ≡ false
    by_place p (inl e) here later = subst (λ (q : OutPoint). is_there q o ≡ false) (sym e) here
    by_place p (inr i) here later = later p i

-- the first place that a transaction spends
abbrev pub first_place : List Spent → Option OutPoint
first_place [] = None
first_place (x ∷ xs) = Some x.outpoint

module _ (hash : List ℕ → List ℕ) (keys : Keys) (s : Instance) where
  -- ---- what is kept

  -- a string that was shown is among what was hashed, and fits its secret
  pub record IsShown (messages : List (List ℕ)) (name bytes : List ℕ) : Type 0 where
    pub among : is_among bytes messages ≡ true
    pub long : has_length bytes ≡ true
    pub fits : hash bytes ≡ digest_of s.hashes name
    pub secret : is_among name (names_of (secrets s.advert.pre)) ≡ true

  -- the outputs that were ever there
  abbrev pub known : State → List Output
  known state = deposit_outputs s ++ state.made

  -- an output that was made: by a transaction whose first input is spent, of an output that was there
  pub record Came (state : State) (o : Output) : Type 0 where
    pub by_which : Listed
    pub among : Is_in by_which (listed hash keys s)
    pub id : txid hash (tx_of by_which.pending) ≡ o.place.txid
    pub fine : IsHeld hash keys s o.held o.place o.value
    pub first : OutPoint
    pub first_is : first_place by_which.pending.spends ≡ Some first
    pub there : (x : Output) × Is_in x (known state) × (x.place ≡ first)
    pub spent : has_place state.live first ≡ false

  pub record Kept (course : Course) : Type 0 where
    pub clear : NoCollision hash course.messages
    pub heard : (t : List ℕ) → is_among t (noted_all [] (deal_strings hash keys s)) ≡ true → is_among t course.messages ≡ true
    pub shown : (name bytes : List ℕ) → look_up name course.state.shown ≡ Some bytes → IsShown course.messages name bytes
    pub made : (o : Output) → Is_in o course.state.made → Came course.state o
    pub live : (o : Output) → Is_in o course.state.live
        → Is_in o (deposit_outputs s) ⊎ (Is_in o course.state.made × (is_position o ≡ true))
    pub once : (o p : Output) → Is_in o course.state.live → Is_in p course.state.live → o.place ≡ p.place → o ≡ p

  -- ---- what a transaction adds

  -- an output that a transaction makes that spends what is live
  pub record Added (state : State) (places : List OutPoint) (o : Output) : Type 0 where
    pub by_which : Listed
    pub among : Is_in by_which (listed hash keys s)
    pub id : txid hash (tx_of by_which.pending) ≡ o.place.txid
    pub fine : IsHeld hash keys s o.held o.place o.value
    pub first : OutPoint
    pub first_is : first_place by_which.pending.spends ≡ Some first
    pub live : has_place state.live first ≡ true
    pub spent : Is_in first places

  pub record Adds (state : State) (places : List OutPoint) (new : List Output) : Type 0 where
    pub made : (o : Output) → Is_in o new → Added state places o
    pub apart : (o p : Output) → Is_in o new → Is_in p new → o.place ≡ p.place → o ≡ p
    pub numbers : (o : Output) → Is_in o new → state.next ≤ o.number

  pub adds_none : (state : State) (places : List OutPoint) → Adds state places []
  adds_none state places = record { made = λ o h. absurd h; apart = λ o p h. absurd h; numbers = λ o h. absurd h }

  module _ (whole : Whole hash keys s) where
    pub is_known : (course : Course) → Kept course → (o : Output) → Is_in o course.state.live → Is_in o (known course.state)
    is_known course kept o h = by_place (kept.live o h)
      where
        by_place : Is_in o (deposit_outputs s) ⊎ (Is_in o course.state.made × (is_position o ≡ true)) → Is_in o (known course.state)
        by_place (inl i) = in_left o (deposit_outputs s) course.state.made i
        by_place (inr i) = in_right o (deposit_outputs s) course.state.made i.0

    -- no deposit lies where a transaction of the deal pays
    pub deposit_apart : (o : Output) → Is_in o (deposit_outputs s) → (l : Listed) → Is_in l (listed hash keys s)
        → txid hash (tx_of l.pending) ≡ o.place.txid → ⊥
    deposit_apart o h l i e =
        let d = deposit_of s o h in
        let place : o.place ≡ outpoint_or_none (look_up (d.0.0) s.bound) = ap (λ (x : Output). x.place) d.2 in
        let name : is_among (d.0.0) (names_of s.bound) ≡ true =
        subst (λ ns. is_among (d.0.0) ns ≡ true)
        (sym whole.apart.bound) (in_named (deposits s.advert.pre) d.0 (numbered_in 0 (deposits s.advert.pre) o.number d.0 d.1)) in
        let v = named_looked s.bound (d.0.0) name in
        let lies : v.0 ≡ o.place = sym (place ∙ ap outpoint_or_none v.1) in
        no_deposit_made hash keys s (d.0.0, v.0) whole.apart.unmade (looked_in s.bound (d.0.0) (v.0) (v.1))
        (record { by_which = l; among = i; id = e ∙ ap (λ (p : OutPoint). p.txid) (sym lies) })

    module _ (course : Course) (kept : Kept course) (places : List OutPoint) where
      -- nothing that was ever there lies where a transaction of the deal pays that spends what is live
      fresh : (o x : Output) → Added course.state places o → Is_in x (known course.state) → x.place.txid ≡ o.place.txid → ⊥
      fresh o x a h e = by_place (in_append x (deposit_outputs s) course.state.made h)
        where
          by_place : Is_in x (deposit_outputs s) ⊎ Is_in x course.state.made → ⊥
          by_place (inl i) = deposit_apart x i a.by_which a.among (a.id ∙ sym e)
          by_place (inr i) =
              let c = kept.made x i in
              let tx = same_txid hash keys s whole c.by_which a.by_which c.among a.among (c.id ∙ e ∙ sym a.id) in
              let firsts : map (λ (y : TxIn). y.prev) (tx_of c.by_which.pending).inputs ≡ map (λ (y : TxIn). y.prev) (tx_of a.by_which.pending).inputs =
              ap (λ (t : Tx). map (λ (y : TxIn). y.prev) t.inputs) tx in
              let same : c.first ≡ a.first =
              some_same (sym c.first_is ∙ first_of c.by_which.pending.spends
              ∙ ap head_of firsts ∙ sym (first_of a.by_which.pending.spends) ∙ a.first_is) in
              both_ways _ c.spent (subst (λ (p : OutPoint). has_place course.state.live p ≡ true) (sym same) a.live)
            where
              head_of : List OutPoint → Option OutPoint
              head_of [] = None
              head_of (p ∷ ps) = Some p

              first_of : (xs : List Spent) → first_place xs ≡ head_of (map (λ (y : TxIn). y.prev) (map input_of xs))
              first_of [] = refl
              first_of (y ∷ xs) = refl

      -- ---- after it

      -- nothing that was there lies there
      none_new : (new : List Output) → Adds course.state places new → (x : Output) → Is_in x (known course.state)
          → has_place (filter is_position new) x.place ≡ false
      none_new new adds x h =
          none_any (is_there x.place) (filter is_position new) (λ o i.
          let k = in_filter is_position new o i in
          false_of (is_there x.place o) (λ e. fresh o x (adds.made o k.0) h (ap (λ (p : OutPoint). p.txid) (sym (place-true o.place x.place e)))))

      -- what isn't live doesn't live again
      stays_dead : (new : List Output) → Adds course.state places new → (x : Output) → Is_in x (known course.state)
          → has_place course.state.live x.place ≡ false
          → has_place (without_all course.state.live places ++ filter is_position new) x.place ≡ false
      stays_dead new adds x h e =
          none_both (is_there x.place) (without_all course.state.live places) (filter is_position new)
          (none_any (is_there x.place) (without_all course.state.live places) (λ o i.
          none_of (is_there x.place) course.state.live o (unspent course.state.live places o i).0 e))
          (none_new new adds x h)

      -- and what is spent isn't live
      dies : (new : List Output) → Adds course.state places new → (x : Output) → Is_in x (known course.state) → Is_in x.place places
          → has_place (without_all course.state.live places ++ filter is_position new) x.place ≡ false
      dies new adds x h i =
          none_both (is_there x.place) (without_all course.state.live places) (filter is_position new)
          (none_any (is_there x.place) (without_all course.state.live places) (λ o j. (unspent course.state.live places o j).1 x.place i))
          (none_new new adds x h)

      module _ (new : List Output) (adds : Adds course.state places new) (later : State)
          (live_is : later.live ≡ without_all course.state.live places ++ filter is_position new)
          (made_is : later.made ≡ course.state.made ++ new) where
        known_more : (x : Output) → Is_in x (known course.state) → Is_in x (known later)
        known_more x h =
            subst (λ (os : List Output). Is_in x (deposit_outputs s ++ os)) (sym made_is)
            (by_place (in_append x (deposit_outputs s) course.state.made h))
          where
            by_place : Is_in x (deposit_outputs s) ⊎ Is_in x course.state.made → Is_in x (deposit_outputs s ++ (course.state.made ++ new))
            by_place (inl i) = in_left x (deposit_outputs s) (course.state.made ++ new) i
            by_place (inr i) = in_right x (deposit_outputs s) (course.state.made ++ new) (in_left x course.state.made new i)

        old_made : (o : Output) → Is_in o course.state.made → Came later o
        old_made o h =
            let c = kept.made o h in
            record {
              by_which = c.by_which;
              among = c.among;
              id = c.id;
              fine = c.fine;
              first = c.first;
              first_is = c.first_is;
              there = (c.there.0, known_more c.there.0 c.there.1, c.there.2);
              spent =
                  ap (λ (os : List Output). has_place os c.first) live_is
                  ∙ subst (λ (p : OutPoint). has_place (without_all course.state.live places ++ filter is_position new) p ≡ false) c.there.2
                  (stays_dead new adds c.there.0 c.there.1
                  (subst (λ (p : OutPoint). has_place course.state.live p ≡ false) (sym c.there.2) c.spent));
            }

        new_made : (o : Output) → Is_in o new → Came later o
        new_made o h =
            let a = adds.made o h in
            let x = at_place course.state.live a.first a.live in
            let k = is_known course kept x.0 x.1 in
            record {
              by_which = a.by_which;
              among = a.among;
              id = a.id;
              fine = a.fine;
              first = a.first;
              first_is = a.first_is;
              there = (x.0, known_more x.0 k, x.2);
              spent =
                  ap (λ (os : List Output). has_place os a.first) live_is
                  ∙ subst (λ (p : OutPoint). has_place (without_all course.state.live places ++ filter is_position new) p ≡ false) x.2
                  (dies new adds x.0 k (subst (λ (p : OutPoint). Is_in p places) (sym x.2) a.spent));
            }

        pub made_later : (o : Output) → Is_in o later.made → Came later o
        made_later o h = by_place (in_append o course.state.made new (subst (Is_in o) made_is h))
          where
            by_place : Is_in o course.state.made ⊎ Is_in o new → Came later o
            by_place (inl i) = old_made o i
            by_place (inr i) = new_made o i

        abbrev AtLater : Output → Type 0
        AtLater o = Is_in o (without_all course.state.live places) ⊎ Is_in o (filter is_position new)

        at_later : (o : Output) → Is_in o later.live → AtLater o
        at_later o h = in_append o (without_all course.state.live places) (filter is_position new) (subst (Is_in o) live_is h)

        pub live_later : (o : Output) → Is_in o later.live → Is_in o (deposit_outputs s) ⊎ (Is_in o later.made × (is_position o ≡ true))
        live_later o h = by_place (at_later o h)
          where
            older : Is_in o (deposit_outputs s) ⊎ (Is_in o course.state.made × (is_position o ≡ true))
                → Is_in o (deposit_outputs s) ⊎ (Is_in o later.made × (is_position o ≡ true))
            older (inl i) = inl i
            older (inr i) = inr (subst (Is_in o) (sym made_is) (in_left o course.state.made new i.0), i.1)

            by_place : AtLater o → Is_in o (deposit_outputs s) ⊎ (Is_in o later.made × (is_position o ≡ true))
            by_place (inl i) = older (kept.live o (unspent course.state.live places o i).0)
            by_place (inr i) =
                let k = in_filter is_position new o i in
                inr (subst (Is_in o) (sym made_is) (in_right o course.state.made new k.0), k.1)

        pub once_later : (o p : Output) → Is_in o later.live → Is_in p later.live → o.place ≡ p.place → o ≡ p
        once_later o p h i e = by_places (at_later o h) (at_later p i)
          where
            old : (x : Output) → Is_in x (without_all course.state.live places) → Is_in x course.state.live
            old x j = (unspent course.state.live places x j).0

            newly : (x : Output) → Is_in x (filter is_position new) → Is_in x new
            newly x j = (in_filter is_position new x j).0

            by_places : AtLater o → AtLater p → o ≡ p
            by_places (inl a) (inl b) = kept.once o p (old o a) (old p b) e
            by_places (inr a) (inr b) = adds.apart o p (newly o a) (newly p b) e
            by_places (inl a) (inr b) =
                absurd (fresh p o (adds.made p (newly p b)) (is_known course kept o (old o a)) (ap (λ (x : OutPoint). x.txid) e))
            by_places (inr a) (inl b) =
                absurd (fresh o p (adds.made o (newly o a)) (is_known course kept p (old p b)) (ap (λ (x : OutPoint). x.txid) (sym e)))

    -- ---- what a transaction of the deal makes

    pub own_adds : (state : State) (tx : Tx) (which : Which) (l : Listed) → listed_at hash keys s which ≡ Some l → l.which ≡ which
        → which_of s (transactions hash keys s) tx ≡ Some which → bare tx ≡ tx_of l.pending → AllLive hash keys s state l.pending
        → Adds state (places_spent tx) (outputs_made s (transactions hash keys s) state tx)
    own_adds state tx which l named name is same live = subst (Adds state (places_spent tx)) (sym made_is) (record {
      made = made_by_it;
      apart = apart_by_it;
      numbers = numbers_by_it;
    })
      where
        t : Transaction
        t = transaction hash keys s.advert l

        made_is : outputs_made s (transactions hash keys s) state tx ≡ made_by s.advert state.next (transaction hash keys s.advert l)
        made_is =
            ap (outputs_named s (transactions hash keys s) state.next) is
            ∙ ap (outputs_of s state.next) (named_is hash keys s which l named)

        spent : places_spent tx ≡ map (λ (x : Spent). x.outpoint) l.pending.spends
        spent = same_prevs hash keys s tx l.pending same

        first : (xs : List Spent) → 0 < length xs → ((x : Spent) → Is_in x xs → has_place state.live x.outpoint ≡ true)
            → (p : OutPoint) × (first_place xs ≡ Some p) × (has_place state.live p ≡ true) × Is_in p (map (λ (x : Spent). x.outpoint) xs)
        first [] some there = absurd (omega (arith, some))
        first (x ∷ xs) some there = (x.outpoint, refl, there x (inl refl), inl refl)

        among : Is_in l (listed hash keys s)
        among = listed_in hash keys s which l named

        made_by_it : (o : Output) → Is_in o (made_by s.advert state.next (transaction hash keys s.advert l)) → Added state (places_spent tx) o
        made_by_it o h =
            let m = made_of (txid hash (tx_of l.pending)) 0 state.next (held_by s.advert l.which) l.pending.outputs o h in
            let f = first l.pending.spends (funded_at hash keys s whole.checked which l named).some live in
            let z : 0 + m.0 ≡ m.0 = omega arith in
            let place : o.place ≡ record { txid = txid hash (tx_of l.pending); vout = m.0 } =
            ap (λ (x : Output). x.place) m.5 ∙ (λ i. record { txid = txid hash (tx_of l.pending); vout = z i }) in
            record {
              by_which = l;
              among = among;
              id = ap (λ (p : OutPoint). p.txid) (sym place);
              fine =
                  subst (λ (x : Output). IsHeld hash keys s x.held x.place x.value) (sym m.5)
                  (subst (λ (n : ℕ). IsHeld hash keys s m.1 (record { txid = txid hash (tx_of l.pending); vout = n }) m.2.value) (sym z)
                  (output_is hash keys s which l m.0 m.1 m.2 named (ap (λ (w : Which). slice_get (held_by s.advert w) m.0) (sym name) ∙ m.3) m.4));
              first = f.0;
              first_is = f.1;
              live = f.2;
              spent = subst (Is_in f.0) (sym spent) f.3;
            }

        numbers_by_it : (o : Output) → Is_in o (made_by s.advert state.next (transaction hash keys s.advert l)) → state.next ≤ o.number
        numbers_by_it o h =
            let m = made_of (txid hash (tx_of l.pending)) 0 state.next (held_by s.advert l.which) l.pending.outputs o h in
            let number : o.number ≡ state.next + m.0 = ap (λ (x : Output). x.number) m.5 in
            omega (arith, number)

        apart_by_it : (o p : Output) → Is_in o (made_by s.advert state.next (transaction hash keys s.advert l))
            → Is_in p (made_by s.advert state.next (transaction hash keys s.advert l)) → o.place ≡ p.place → o ≡ p
        apart_by_it o p h i e =
            let m = made_of (txid hash (tx_of l.pending)) 0 state.next (held_by s.advert l.which) l.pending.outputs o h in
            let n = made_of (txid hash (tx_of l.pending)) 0 state.next (held_by s.advert l.which) l.pending.outputs p i in
            let vouts : 0 + m.0 ≡ 0 + n.0 =
            sym (ap (λ (x : Output). x.place.vout) m.5) ∙ ap (λ (x : OutPoint). x.vout) e ∙ ap (λ (x : Output). x.place.vout) n.5 in
            let number : m.0 ≡ n.0 = omega (arith, vouts) in
            let held = some_same (sym m.3 ∙ ap (slice_get (held_by s.advert l.which)) number ∙ n.3) in
            let output = some_same (sym m.4 ∙ ap (slice_get l.pending.outputs) number ∙ n.4) in
            m.5 ∙ (λ j. made_output (txid hash (tx_of l.pending)) (0 + number j) (state.next + number j) (held j) (output j)) ∙ sym n.5
