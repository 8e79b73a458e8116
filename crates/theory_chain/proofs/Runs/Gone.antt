-- What is gone was live, was never taken, and is never live again.
use Rattle.std.proofs.Common.{◌≡◌, ℕ, ◌+◌, ◌≤◌, List, [], ◌∷◌, ◌++◌, map, Bool, true, false, Option, Some, None}
use Rattle.std.proofs.Common.{refl, sym, ap, subst, ◌∙◌, inl, inr, append-nil}
use Rattle.std.specs.Prelude.{◌⊎◌, ◌||◌, not, is_some}
use Rattle.std.specs.List.{filter, flat_map}
use Rattle.std.proofs.lemmas.Bool.{and_parts, and_from, both_ways, not-true}
use Rattle.spec_data.specs.Lists.{look_up, is_among, are_different, or_else, first_reason}
use Rattle.spec_data.specs.Ranges.{most_secret_length}
use Rattle.spec_terms.specs.Precondition.{Holding, deposits}
use Rattle.spec_bitcoin.specs.declared.tx.OutPoint.{OutPoint}
use Rattle.spec_bitcoin.specs.declared.tx.TxIn.{TxIn}
use Rattle.spec_bitcoin.specs.Live.{same_outpoint}
use Rattle.spec_compiler.specs.Keyed.Instance.{Instance}
use Rattle.spec_compiler.specs.Keyed.Keys.{Keys}
use Rattle.spec_compiler.specs.Keyed.Transactions.{outpoint_or_none}
use Rattle.spec_tool.specs.declared.which.Which.{Which}
use Rattle.spec_deal.specs.Transactions.{transactions}
use Rattle.theory_calculus.specs.Members.{Is_in}
use Rattle.theory_calculus.proofs.Members.{in_append, in_filter, found}
use Rattle.theory_calculus.proofs.Names.{among-append}
use Rattle.theory_world.proofs.Same.{place-true, place_refl}
use Rattle.theory_world.proofs.Tests.{any-append}
use Rattle.spec_chain.specs.declared.happened.Happened.{Happened}
use Rattle.spec_chain.specs.declared.output.Held.{Held}
use Rattle.spec_chain.specs.declared.output.Held.TheVariants as helds
use Rattle.spec_chain.specs.declared.output.Output.{Output}
use Rattle.spec_chain.specs.declared.reading.Confirmed.{Confirmed}
use Rattle.spec_chain.specs.Chain.{Course, if_matters, gone_on}
use Rattle.spec_chain.specs.Following.{own_transaction, which_of, outputs_made, places_spent, deposit_name, deposits_spent, gone_by, happened, matters}
use Rattle.spec_chain.specs.Outputs.{is_position, is_there, has_place, without, without_all, output_there, deposit_outputs, deal_outputs}
use Rattle.spec_chain.specs.Refusals.{input_row, inputs_reason, refusal}
use Rattle.theory_chain.specs.ChainSteps.{taken_by, is_taken}
use Rattle.theory_chain.proofs.Deals.Whole.{Whole}
use Rattle.theory_chain.proofs.Deals.Outputs.{HasNumber, numbered_in, deposit_of, deposit_ours, at_place}
use Rattle.theory_chain.proofs.Deals.Own.{spent_live}
use Rattle.theory_chain.proofs.Deals.Positions.{among_is}
use Rattle.theory_chain.proofs.Runs.Kept.{Kept, unspent, none_any, false_of}
use Rattle.theory_chain.proofs.Runs.Left.{flat_append}
use Rattle.theory_chain.proofs.Runs.Tracking.{Counts, deposit_at_place}

abbrev pub gone_names : List Happened → List (List ℕ)
gone_names hs = flat_map (λ (h : Happened). h.gone) hs

in_flat_of : {X Y : Type 0} (f : X → List Y) (xs : List X) (y : Y) → Is_in y (flat_map f xs) → (x : X) × Is_in x xs × Is_in y (f x)
in_flat_of f [] y h = absurd h
in_flat_of f (x ∷ xs) y h = by_place (in_append y (f x) (flat_map f xs) h) (in_flat_of f xs y)
  where
    by_place : Is_in y (f x) ⊎ Is_in y (flat_map f xs) → (Is_in y (flat_map f xs) → (z : _) × Is_in z xs × Is_in y (f z))
        → (z : _) × Is_in z (x ∷ xs) × Is_in y (f z)
    by_place (inl i) later = (x, inl refl, i)
    by_place (inr i) later =
        let r = later i in
        (r.0, inr r.1, r.2)

different_append : (xs ys : List (List ℕ)) → are_different xs ≡ true → are_different ys ≡ true → ((x : List ℕ) → Is_in x xs → Is_in x ys → ⊥)
    → are_different (xs ++ ys) ≡ true
different_append [] ys a b f = b
different_append (x ∷ xs) ys a b f =
    let p = and_parts (not (is_among x xs)) (are_different xs) a in
    let none : is_among x ys ≡ false = false_of (is_among x ys) (λ e. f x (inl refl) (among_is x ys e)) in
    let both : is_among x (xs ++ ys) ≡ false = among-append x xs ys ∙ (λ i. not-true _ p.0 i || none i) in
    and_from _ _ (ap not both) (different_append xs ys p.1 b (λ y h k. f y (inr h) k))

-- what a deposit that is spent was
record WasSpent (live : List Output) (places : List OutPoint) (x : List ℕ) : Type 0 where
  place : OutPoint
  among : Is_in place places
  output : Output
  there : Is_in output live
  lies : output.place ≡ place
  held : output.held ≡ helds.Deposit x

was_spent : (live : List Output) (places : List OutPoint) (x : List ℕ)
    → Is_in x (flat_map (λ place. deposit_name (output_there live place)) places) → WasSpent live places x
was_spent live places x h =
    let r = in_flat_of (λ place. deposit_name (output_there live place)) places x h in
    by_output r.0 r.1 (output_there live r.0) refl r.2
  where
    by_held : (place : OutPoint) → Is_in place places → (o : Output) → Is_in o live → o.place ≡ place → (k : Held) → o.held ≡ k
        → Is_in x (deposit_name (Some o)) → WasSpent live places x
    by_held place i o j lies (helds.Deposit name) e m = by_name (rw e at m)
      where
        by_name : Is_in x (name ∷ []) → WasSpent live places x
        by_name (inl same) =
            record { place = place; among = i; output = o; there = j; lies = lies; held = e ∙ ap helds.Deposit (sym same) }
        by_name (inr n) = absurd n
    by_held place i o j lies (helds.Position path) e m = absurd (rw e at m)
    by_held place i o j lies (helds.Payout party) e m = absurd (rw e at m)

    by_output : (place : OutPoint) → Is_in place places → (o : Option Output) → output_there live place ≡ o → Is_in x (deposit_name o)
        → WasSpent live places x
    by_output place i None e m = absurd m
    by_output place i (Some o) e m =
        let f = found (is_there place) live o e in
        by_held place i o f.0 (place-true o.place place f.1) o.held refl m

module _ (hash : List ℕ → List ℕ) (keys : Keys) (s : Instance) (whole : Whole hash keys s) (lengths : List ℕ → ℕ)
    (fair : (name : List ℕ) → lengths name ≤ most_secret_length) where
  -- a deposit that is gone
  pub record IsGone (course : Course) (x : List ℕ) : Type 0 where
    pub number : ℕ
    pub deposit : List ℕ × Holding
    pub numbered : HasNumber 0 (deposits s.advert.pre) number deposit
    pub name : deposit.0 ≡ x
    pub untaken : is_taken s course.history x ≡ false
    pub dead : (o : Output) → Is_in o course.state.live → o.held ≡ helds.Deposit x → ⊥

  pub record Gone (course : Course) : Type 0 where
    pub each : (x : List ℕ) → Is_in x (gone_names course.history) → IsGone course x
    pub apart : are_different (gone_names course.history) ≡ true

  module _ (course : Course) (kept : Kept hash keys s course) (counts : Counts hash keys s lengths fair course) where
    -- a live deposit lies at its place
    live_place : (o : Output) (x : List ℕ) → Is_in o course.state.live → o.held ≡ helds.Deposit x
        → (d : List ℕ × Holding) × HasNumber 0 (deposits s.advert.pre) o.number d × (d.0 ≡ x) × (o.place ≡ outpoint_or_none (look_up x s.bound))
    live_place o x h held = by_kind (kept.live o h)
      where
        same_name : {a b : List ℕ} → helds.Deposit a ≡ helds.Deposit b → a ≡ b
        same_name e = cc

        by_kind : Is_in o (deposit_outputs s) ⊎ (Is_in o course.state.made × (is_position o ≡ true))
            → (d : List ℕ × Holding) × HasNumber 0 (deposits s.advert.pre) o.number d × (d.0 ≡ x) × (o.place ≡ outpoint_or_none (look_up x s.bound))
        by_kind (inl i) =
            let d = deposit_of s o i in
            let name = same_name (sym (ap (λ (y : Output). y.held) d.2) ∙ held) in
            (d.0, d.1, name, ap (λ (y : Output). y.place) d.2 ∙ ap (λ (n : List ℕ). outpoint_or_none (look_up n s.bound)) name)
        by_kind (inr i) = absurd (no (rw held at i.1))
          where
            no : false ≡ true → ⊥
            no f = cc

    -- no deposit is spent twice
    spent_once : (own : Bool) (live : List Output) (k : ℕ) (is : List TxIn)
        → inputs_reason s (transactions hash keys s) own live k is ≡ None
        → are_different (flat_map (λ place. deposit_name (output_there course.state.live place)) (map (λ (i : TxIn). i.prev) is)) ≡ true
    spent_once own live k [] e = refl
    spent_once own live k (i ∷ is) e =
        let r = both_none (first_reason (input_row s (transactions hash keys s) own live k i.prev))
        (inputs_reason s (transactions hash keys s) own (without live i.prev) (k + 1) is) e in
        different_append (deposit_name (output_there course.state.live i.prev))
        (flat_map (λ place. deposit_name (output_there course.state.live place)) (map (λ (j : TxIn). j.prev) is))
        (one_name (output_there course.state.live i.prev)) (spent_once own (without live i.prev) (k + 1) is r.1) (λ x a b.
        let u = was_spent course.state.live (i.prev ∷ []) x (subst (Is_in x) (sym (append-nil (deposit_name (output_there course.state.live i.prev)))) a) in
        let w = was_spent course.state.live (map (λ (j : TxIn). j.prev) is) x b in
        let first = live_place u.output x u.there u.held in
        let second = live_place w.output x w.there w.held in
        let place : w.place ≡ i.prev = sym w.lies ∙ second.3 ∙ sym first.3 ∙ u.lies ∙ only u.place i.prev u.among in
        let d = numbered_in 0 (deposits s.advert.pre) u.output.number first.0 first.1 in
        let lies : outpoint_or_none (look_up (first.0.0) s.bound) ≡ i.prev =
        ap (λ (n : List ℕ). outpoint_or_none (look_up n s.bound)) first.2 ∙ sym first.3 ∙ u.lies ∙ only u.place i.prev u.among in
        let ours = subst (λ (p : OutPoint). has_place (deal_outputs s (transactions hash keys s)) p ≡ true) lies (deposit_ours hash keys s first.0 d) in
        both_ways _ (none_left live i.prev)
        (spent_live s (transactions hash keys s) own (without live i.prev) (k + 1) is r.1 i.prev
        (subst (λ (p : OutPoint). Is_in p (map (λ (j : TxIn). j.prev) is)) place w.among) ours))
      where
        both_none : {R : Type 0} (a b : Option R) → or_else a b ≡ None → (a ≡ None) × (b ≡ None)
        both_none None b f = (refl, f)
        both_none (Some q) b f = cc

        only : (a b : OutPoint) → Is_in a (b ∷ []) → a ≡ b
        only a b (inl f) = f
        only a b (inr f) = absurd f

        one_name : (o : Option Output) → are_different (deposit_name o) ≡ true
        one_name None = refl
        one_name (Some o) = by_held o.held refl
          where
            by_held : (h : Held) → o.held ≡ h → are_different (deposit_name (Some o)) ≡ true
            by_held (helds.Deposit name) f = rw f refl
            by_held (helds.Position path) f = rw f refl
            by_held (helds.Payout party) f = rw f refl

        none_left : (os : List Output) (p : OutPoint) → has_place (without os p) p ≡ false
        none_left os p =
            none_any (is_there p) (without os p) (λ o h. from_not (is_there p o) (in_filter (λ (x : Output). not (is_there p x)) os o h).1)
          where
            from_not : (b : Bool) → not b ≡ true → b ≡ false
            from_not true f = cc
            from_not false f = refl

    -- ---- after one more transaction

    module _ (gone : Gone course) (c : Confirmed) (fine : refusal hash s (transactions hash keys s) course.state c.height c.tx ≡ None)
        (takes : (x : List ℕ) → is_among x (taken_by s (which_of s (transactions hash keys s) c.tx)) ≡ true
        → Is_in (outpoint_or_none (look_up x s.bound)) (places_spent c.tx))
        (positions : (o : Output) → Is_in o (outputs_made s (transactions hash keys s) course.state c.tx) → (x : List ℕ) → o.held ≡ helds.Deposit x → ⊥) where
      own : Bool
      own = is_some (own_transaction (transactions hash keys s) c.tx)

      inputs_fine : inputs_reason s (transactions hash keys s)
          (is_some (own_transaction (transactions hash keys s) c.tx)) course.state.live 0 c.tx.inputs ≡ None
      inputs_fine = first_none _ _ fine
        where
          first_none : {R : Type 0} (a b : Option R) → or_else a b ≡ None → a ≡ None
          first_none None b f = refl
          first_none (Some q) b f = cc

      did : Happened
      did = happened hash s (transactions hash keys s) course.state c.height c.tx

      dead_later : (x : List ℕ) → ((o : Output) → Is_in o (without_all course.state.live (places_spent c.tx)) → o.held ≡ helds.Deposit x → ⊥)
          → (o : Output) → Is_in o (gone_on hash s (transactions hash keys s) course c).state.live → o.held ≡ helds.Deposit x → ⊥
      dead_later x old o h held =
          by_place (in_append o (without_all course.state.live (places_spent c.tx))
          (filter is_position (outputs_made s (transactions hash keys s) course.state c.tx)) h)
        where
          by_place : Is_in o (without_all course.state.live (places_spent c.tx))
              ⊎ Is_in o (filter is_position (outputs_made s (transactions hash keys s) course.state c.tx)) → ⊥
          by_place (inl i) = old o i held
          by_place (inr i) = positions o (in_filter is_position (outputs_made s (transactions hash keys s) course.state c.tx) o i).0 x held

      -- nothing that is gone is taken
      untaken_later : (b : Bool) (x : List ℕ) (m : ℕ) (d : List ℕ × Holding) → HasNumber 0 (deposits s.advert.pre) m d → d.0 ≡ x
          → is_taken s course.history x ≡ false
          → (is_among x (taken_by s (which_of s (transactions hash keys s) c.tx)) ≡ true → ⊥)
          → is_taken s (if_matters b course.history (happened hash s (transactions hash keys s) course.state c.height c.tx)) x ≡ false
      untaken_later false x m d n name old new = old
      untaken_later true x m d n name old new =
          any-append (λ (y : Happened). is_among x (taken_by s y.which)) course.history
          (happened hash s (transactions hash keys s) course.state c.height c.tx ∷ [])
          ∙ (λ i. old i || (false_of (is_among x (taken_by s (which_of s (transactions hash keys s) c.tx))) new i || false))

      -- what is taken is live
      taken_live : (x : List ℕ) (m : ℕ) (d : List ℕ × Holding) → HasNumber 0 (deposits s.advert.pre) m d → d.0 ≡ x
          → is_among x (taken_by s (which_of s (transactions hash keys s) c.tx)) ≡ true
          → has_place course.state.live (outpoint_or_none (look_up x s.bound)) ≡ true
      taken_live x m d n name k =
          spent_live s (transactions hash keys s) (is_some (own_transaction (transactions hash keys s) c.tx)) course.state.live 0 c.tx.inputs inputs_fine
          (outpoint_or_none (look_up x s.bound)) (takes x k)
          (subst (λ (y : List ℕ). has_place (deal_outputs s (transactions hash keys s)) (outpoint_or_none (look_up y s.bound)) ≡ true) name
          (deposit_ours hash keys s d (numbered_in 0 (deposits s.advert.pre) m d n)))

      old_gone : (b : Bool) (x : List ℕ) → Is_in x (gone_names course.history)
          → (is_taken s (if_matters b course.history (happened hash s (transactions hash keys s) course.state c.height c.tx)) x ≡ false)
      old_gone b x h =
          let k = gone.each x h in
          untaken_later b x k.number k.deposit k.numbered k.name k.untaken (λ t.
          let o = at_place course.state.live (outpoint_or_none (look_up x s.bound)) (taken_live x k.number k.deposit k.numbered k.name t) in
          let d = numbered_in 0 (deposits s.advert.pre) k.number k.deposit k.numbered in
          let r = deposit_at_place hash keys s lengths fair whole course kept o.0 k.deposit o.1 d
          (o.2 ∙ ap (λ (n : List ℕ). outpoint_or_none (look_up n s.bound)) (sym k.name)) in
          k.dead o.0 o.1 (r.1 ∙ ap helds.Deposit k.name))

      old_later : (b : Bool) (history : List Happened)
          → history ≡ if_matters b course.history (happened hash s (transactions hash keys s) course.state c.height c.tx)
          → (x : List ℕ) → Is_in x (gone_names course.history)
          → (number : ℕ) × (d : List ℕ × Holding) × HasNumber 0 (deposits s.advert.pre) number d × (d.0 ≡ x) × (is_taken s history x ≡ false)
          × ((o : Output) → Is_in o (gone_on hash s (transactions hash keys s) course c).state.live → o.held ≡ helds.Deposit x → ⊥)
      old_later b history e x h =
          let k = gone.each x h in (
            k.number,
            k.deposit,
            k.numbered,
            k.name,
            ap (λ (hs : List Happened). is_taken s hs x) e ∙ old_gone b x h,
            dead_later x (λ o i held. k.dead o (unspent course.state.live (places_spent c.tx) o i).0 held),
          )

      -- what this transaction spends beside the deal
      new_gone : (which_of s (transactions hash keys s) c.tx ≡ None) → (b : Bool) → (x : List ℕ) → Is_in x (deposits_spent course.state c.tx)
          → (number : ℕ) × (d : List ℕ × Holding) × HasNumber 0 (deposits s.advert.pre) number d × (d.0 ≡ x)
          × (is_taken s (if_matters b course.history (happened hash s (transactions hash keys s) course.state c.height c.tx)) x ≡ false)
          × ((o : Output) → Is_in o (gone_on hash s (transactions hash keys s) course c).state.live → o.held ≡ helds.Deposit x → ⊥)
      new_gone none b x h =
          let w = was_spent course.state.live (places_spent c.tx) x h in
          let l = live_place w.output x w.there w.held in (
            w.output.number,
            l.0,
            l.1,
            l.2,
            untaken_later b x w.output.number l.0 l.1 l.2 (counts.untaken w.output x w.there w.held)
                (λ t. no (sym (ap (λ (o : Option Which). is_among x (taken_by s o)) none) ∙ t)),
            dead_later x (λ o i held.
                let u = unspent course.state.live (places_spent c.tx) o i in
                let k = live_place o x u.0 held in
                both_ways _ (u.1 w.place w.among)
                (ap (λ (p : OutPoint). same_outpoint p w.place) (k.3 ∙ sym l.3 ∙ w.lies) ∙ place_refl w.place)),
          )
        where
          no : false ≡ true → ⊥
          no f = cc

      -- what is live isn't gone yet
      new_apart : (x : List ℕ) → Is_in x (gone_names course.history) → Is_in x (deposits_spent course.state c.tx) → ⊥
      new_apart x h i =
          let w = was_spent course.state.live (places_spent c.tx) x i in
          (gone.each x h).dead w.output w.there w.held

      pub gone_later : Gone (gone_on hash s (transactions hash keys s) course c)
      gone_later =
          by_matters (matters (happened hash s (transactions hash keys s) course.state c.height c.tx)) refl (which_of s (transactions hash keys s) c.tx) refl
        where
          made_of_parts : (history : List Happened) (x : List ℕ)
              → ((number : ℕ) × (d : List ℕ × Holding) × HasNumber 0 (deposits s.advert.pre) number d × (d.0 ≡ x) × (is_taken s history x ≡ false)
              × ((o : Output) → Is_in o (gone_on hash s (transactions hash keys s) course c).state.live → o.held ≡ helds.Deposit x → ⊥))
              → history ≡ (gone_on hash s (transactions hash keys s) course c).history
              → IsGone (gone_on hash s (transactions hash keys s) course c) x
          made_of_parts history x p e = record {
            number = p.0;
            deposit = p.1;
            numbered = p.2;
            name = p.3;
            untaken = ap (λ (hs : List Happened). is_taken s hs x) (sym e) ∙ p.4;
            dead = p.5;
          }

          by_matters : (b : Bool) → matters (happened hash s (transactions hash keys s) course.state c.height c.tx) ≡ b
              → (o : Option Which) → which_of s (transactions hash keys s) c.tx ≡ o → Gone (gone_on hash s (transactions hash keys s) course c)
          by_matters b e o w =
              let h : Happened = happened hash s (transactions hash keys s) course.state c.height c.tx in
              let history : (gone_on hash s (transactions hash keys s) course c).history ≡ if_matters b course.history h =
              ap (λ (t : Bool). if_matters t course.history h) e in
              by_kind b o w h.gone (ap (gone_by course.state c.tx) w) history
            where
              by_kind : (t : Bool) (q : Option Which) → which_of s (transactions hash keys s) c.tx ≡ q → (xs : List (List ℕ)) → xs ≡ gone_by course.state c.tx q
                  → (gone_on hash s (transactions hash keys s) course c).history
                  ≡ if_matters t course.history (happened hash s (transactions hash keys s) course.state c.height c.tx)
                  → Gone (gone_on hash s (transactions hash keys s) course c)
              by_kind false q f xs k history = record {
                each = λ x i.
                    made_of_parts course.history x
                    (old_later false course.history refl x (subst (λ (hs : List Happened). Is_in x (gone_names hs)) history i)) (sym history);
                apart = ap (λ (hs : List Happened). are_different (gone_names hs)) history ∙ gone.apart;
              }
              by_kind true None f xs k history =
                  let h : Happened = happened hash s (transactions hash keys s) course.state c.height c.tx in
                  let names : gone_names (gone_on hash s (transactions hash keys s) course c).history
                  ≡ gone_names course.history ++ (deposits_spent course.state c.tx ++ []) =
                  ap gone_names history ∙ flat_append (λ (y : Happened). y.gone) course.history (h ∷ [])
                  ∙ ap (λ (ys : List (List ℕ)). gone_names course.history ++ (ys ++ [])) (ap (gone_by course.state c.tx) f) in
                  let end = append-nil (deposits_spent course.state c.tx) in
                  record {
                    each = λ x i. each_new x (in_append x (gone_names course.history) (deposits_spent course.state c.tx)
                        (subst (λ (ys : List (List ℕ)). Is_in x (gone_names course.history ++ ys)) end (subst (Is_in x) names i)));
                    apart =
                        ap are_different (names ∙ ap (λ (ys : List (List ℕ)). gone_names course.history ++ ys) end)
                        ∙ different_append (gone_names course.history) (deposits_spent course.state c.tx) gone.apart
                        (spent_once (is_some (own_transaction (transactions hash keys s) c.tx)) course.state.live 0 c.tx.inputs inputs_fine) new_apart;
                  }
                where
                  each_new : (x : List ℕ) → Is_in x (gone_names course.history) ⊎ Is_in x (deposits_spent course.state c.tx)
                      → IsGone (gone_on hash s (transactions hash keys s) course c) x
                  each_new x (inl i) =
                      made_of_parts (if_matters true course.history (happened hash s (transactions hash keys s) course.state c.height c.tx)) x
                      (old_later true _ refl x i) (sym history)
                  each_new x (inr i) =
                      made_of_parts (if_matters true course.history (happened hash s (transactions hash keys s) course.state c.height c.tx)) x
                      (new_gone f true x i) (sym history)
              by_kind true (Some w) f xs k history =
                  let h : Happened = happened hash s (transactions hash keys s) course.state c.height c.tx in
                  let names : gone_names (gone_on hash s (transactions hash keys s) course c).history ≡ gone_names course.history =
                  ap gone_names history ∙ flat_append (λ (y : Happened). y.gone) course.history (h ∷ [])
                  ∙ ap (λ (ys : List (List ℕ)). gone_names course.history ++ (ys ++ [])) (ap (gone_by course.state c.tx) f)
                  ∙ append-nil (gone_names course.history) in
                  record {
                    each = λ x i.
                        made_of_parts (if_matters true course.history h) x
                        (old_later true (if_matters true course.history h) refl x (subst (Is_in x) names i)) (sym history);
                    apart = ap are_different names ∙ gone.apart;
                  }
