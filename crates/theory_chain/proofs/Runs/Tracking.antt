-- How a configuration tracks a chain, and what its secrets and its deposits are to the next transaction.
use Rattle.std.proofs.Common.{◌≡◌, ℕ, suc, ◌+◌, ◌≤◌, List, [], ◌∷◌, ◌++◌, length, map, Bool, true, false, Option, Some, None}
use Rattle.std.proofs.Common.{refl, sym, ap, subst, ◌∙◌, inl, inr, cond, arith}
use Rattle.std.specs.Prelude.{◌⊎◌, ◌||◌, ◌&&◌, not, is_some}
use Rattle.std.specs.List.{filter, flat_map}
use Rattle.std.specs.Str.{bytes_eq}
use Rattle.std.proofs.lemmas.Bool.{and_parts, and_from, or_left, not-true}
use Rattle.spec_data.specs.Lists.{look_up, is_among, are_different, has_number}
use Rattle.spec_data.specs.Ranges.{most_secret_length}
use Rattle.spec_terms.specs.Parties.{choice_mentions}
use Rattle.spec_terms.specs.Precondition.{Holding, deposits, secrets, names_of, party_of}
use Rattle.spec_terms.specs.declared.pre.Pre.{Pre}
use Rattle.spec_terms.specs.declared.pre.Pre.TheVariants.{Persistent, Volatile, Secret}
use Rattle.spec_terms.specs.declared.path.PathStep.{PathStep}
use Rattle.spec_calculus.specs.declared.parts.Deposit.{Deposit as LiveDeposit}
use Rattle.spec_calculus.specs.declared.parts.Revealed.{Revealed}
use Rattle.spec_calculus.specs.Beginning.{is_there as is_bound_there, are_there, numbers_of}
use Rattle.spec_calculus.specs.Branches.{is_revealed}
use Rattle.spec_calculus.specs.Configuration.{Configuration}
use Rattle.spec_calculus.specs.Moves.{is_live}
use Rattle.spec_calculus.specs.Steps.{after_steps, Legal}
use Rattle.spec_bitcoin.specs.declared.tx.OutPoint.{OutPoint}
use Rattle.spec_bitcoin.specs.declared.tx.Tx.{Tx}
use Rattle.spec_bitcoin.specs.Live.{same_outpoint}
use Rattle.spec_compiler.specs.Keyed.Instance.{Instance, people}
use Rattle.spec_compiler.specs.Keyed.Keys.{Keys}
use Rattle.spec_compiler.specs.Keyed.Transactions.{outpoint_or_none}
use Rattle.spec_deal.specs.Finished.{bytes_or_none}
use Rattle.spec_deal.specs.Needed.{deal_contract}
use Rattle.theory_calculus.specs.Members.{Is_in}
use Rattle.theory_calculus.proofs.Funded.{IsFine}
use Rattle.theory_calculus.proofs.Members.{in_filter}
use Rattle.theory_calculus.proofs.Names.{bytes-true, bytes_refl, in_looked, in_named, deposits_different, different_names}
use Rattle.theory_world.proofs.Contracts.Mentions.{added}
use Rattle.theory_world.proofs.Hashed.{among_left, among_head, among_tail}
use Rattle.theory_script.proofs.Keyed.Stands.{some_same}
use Rattle.theory_world.proofs.Same.{place_refl}
use Rattle.theory_world.proofs.Tests.{map_append}
use Rattle.theory_run.proofs.Steps.CommitSteps.{every}
use Rattle.spec_chain.specs.declared.output.Held.TheVariants as helds
use Rattle.spec_chain.specs.declared.output.Output.{Output}
use Rattle.spec_chain.specs.Chain.{Course}
use Rattle.spec_chain.specs.Following.{is_newly_shown, newly_shown, string_shown, strings_shown, reveal_steps}
use Rattle.spec_chain.specs.Outputs.{is_position, has_place, deposits_from, deposit_outputs}
use Rattle.theory_chain.specs.ChainSteps.{numbered, deal_bindings, is_taken, deposits_shown, contracts_shown, secrets_revealed, revealed_secret, paid_deposit}
use Rattle.theory_chain.proofs.Deals.Whole.{Whole}
use Rattle.theory_chain.proofs.Deals.Outputs.{HasNumber, numbered_in, bound_number, deposit_output, deposit_of, deposit_there, at_place}
use Rattle.theory_chain.proofs.Runs.Agreed.{advertised_deal, committed_by, revealed_by, reveals_legal}
use Rattle.theory_chain.proofs.Runs.Kept.{Kept, deposit_apart}
use Rattle.theory_chain.proofs.Runs.Left.{number_among, number_apart, numbered_below, left_live}
use Rattle.theory_chain.proofs.Runs.Shown.{secret_names}

module _ (hash : List ℕ → List ℕ) (keys : Keys) (s : Instance) (lengths : List ℕ → ℕ) (fair : (name : List ℕ) → lengths name ≤ most_secret_length) where
  -- the configuration is what the chain shows so far
  pub record Tracks (g : Configuration) (course : Course) : Type 0 where
    pub fine : IsFine g
    pub contracts : g.contracts ≡ s.advert ∷ []
    pub advertised : g.advertised ≡ advertised_deal s lengths fair ∷ []
    pub committed : g.committed ≡ map (committed_by s lengths fair) (people s)
    pub active : g.active ≡ contracts_shown course.state
    pub deposits : g.deposits ≡ deposits_shown s course
    pub revealed : g.revealed ≡ secrets_revealed s course.state
    pub next : g.next ≡ course.state.next

  -- what is kept of numbers, and of what was taken
  pub record Counts (course : Course) : Type 0 where
    pub next : length (deposit_outputs s) ≤ course.state.next
    pub made : (o : Output) → Is_in o course.state.made → length (deposit_outputs s) ≤ o.number
    pub untaken : (o : Output) (x : List ℕ) → Is_in o course.state.live → o.held ≡ helds.Deposit x → is_taken s course.history x ≡ false

  -- ---- whose secrets

  pub secret_party : (p : List ℕ × List ℕ) → Is_in p (secrets s.advert.pre) → is_among (p.1) (people s) ≡ true
  secret_party p h =
      added (map party_of s.advert.pre ++ choice_mentions s.advert.root) [] (p.1)
      (among_left (p.1) (map party_of s.advert.pre) (choice_mentions s.advert.root) (holder s.advert.pre p h))
    where
      holder : (pre : List Pre) (q : List ℕ × List ℕ) → Is_in q (secrets pre) → is_among (q.1) (map party_of pre) ≡ true
      holder [] q i = absurd i
      holder (Persistent party value name ∷ pre) q i = among_tail (q.1) party (map party_of pre) (holder pre q i)
      holder (Volatile party value name ∷ pre) q i = among_tail (q.1) party (map party_of pre) (holder pre q i)
      holder (Secret party name ∷ pre) q (inl e) =
          subst (λ (y : List ℕ). is_among y (party ∷ map party_of pre) ≡ true) (sym (ap (λ (y : List ℕ × List ℕ). y.1) e)) (among_head party (map party_of pre))
      holder (Secret party name ∷ pre) q (inr i) = among_tail (q.1) party (map party_of pre) (holder pre q i)

  module _ (whole : Whole hash keys s) where
    -- ---- what is shown first is revealed

    pub looked_secret : (p : List ℕ × List ℕ) → Is_in p (secrets s.advert.pre) → look_up (p.0) (secrets s.advert.pre) ≡ Some (p.1)
    looked_secret p h = in_looked (secrets s.advert.pre) p (secret_names hash keys s whole) h

    -- a secret that wasn't shown isn't revealed
    unrevealed : (shown : List (List ℕ × List ℕ)) (party name : List ℕ) → look_up name shown ≡ None
        → is_revealed (map (revealed_secret s) shown) deal_contract party name ≡ false
    unrevealed [] party name h = refl
    unrevealed (q ∷ shown) party name h = by_test (bytes_eq (q.0) name) h (unrevealed shown party name)
      where
        last : (a b : Bool) → b ≡ false → ((a && false) || b) ≡ false
        last true b e = e
        last false b e = e

        by_test : (b : Bool) → cond b (Some (q.1)) (look_up name shown) ≡ None
            → (look_up name shown ≡ None → is_revealed (map (revealed_secret s) shown) deal_contract party name ≡ false)
            → ((bytes_eq (bytes_or_none (look_up (q.0) (secrets s.advert.pre))) party && b)
            || is_revealed (map (revealed_secret s) shown) deal_contract party name) ≡ false
        by_test true k later = cc
        by_test false k later = last (bytes_eq (bytes_or_none (look_up (q.0) (secrets s.advert.pre))) party) _ (later k)

    -- and one that was is
    pub revealed_there : (shown : List (List ℕ × List ℕ)) (party name : List ℕ) → look_up name (secrets s.advert.pre) ≡ Some party
        → is_some (look_up name shown) ≡ true → is_revealed (map (revealed_secret s) shown) deal_contract party name ≡ true
    revealed_there [] party name of h = cc
    revealed_there (q ∷ shown) party name of h = by_test (bytes_eq (q.0) name) refl h (revealed_there shown party name of)
      where
        by_test : (b : Bool) → bytes_eq (q.0) name ≡ b → is_some (cond b (Some (q.1)) (look_up name shown)) ≡ true
            → (is_some (look_up name shown) ≡ true → is_revealed (map (revealed_secret s) shown) deal_contract party name ≡ true)
            → ((bytes_eq (bytes_or_none (look_up (q.0) (secrets s.advert.pre))) party && b)
            || is_revealed (map (revealed_secret s) shown) deal_contract party name) ≡ true
        by_test true e k later =
            or_left _ _ (and_from _ _
            (ap (λ (x : List ℕ). bytes_eq (bytes_or_none (look_up x (secrets s.advert.pre))) party) (bytes-true (q.0) name e)
            ∙ ap (λ (o : Option (List ℕ)). bytes_eq (bytes_or_none o) party) of ∙ bytes_refl party) refl)
        by_test false e k later = or_last (bytes_eq (bytes_or_none (look_up (q.0) (secrets s.advert.pre))) party && false) _ (later k)
          where
            or_last : (a b : Bool) → b ≡ true → (a || b) ≡ true
            or_last true b f = refl
            or_last false b f = f

    filtered_different : (p : List ℕ × List ℕ → Bool) (ps : List (List ℕ × List ℕ)) → are_different (names_of ps) ≡ true
        → are_different (names_of (filter p ps)) ≡ true
    filtered_different p [] h = refl
    filtered_different p (x ∷ ps) h =
        let r = and_parts (not (is_among (x.0) (names_of ps))) (are_different (names_of ps)) h in
        by_test (p x) (filtered_different p ps r.1) (ap not (fewer (x.0) ps (not-true _ r.0)))
      where
        parts_false : (c d : Bool) → (c || d) ≡ false → (c ≡ false) × (d ≡ false)
        parts_false true d k = cc
        parts_false false d k = (refl, k)

        fewer : (a : List ℕ) (qs : List (List ℕ × List ℕ)) → is_among a (names_of qs) ≡ false → is_among a (names_of (filter p qs)) ≡ false
        fewer a [] k = refl
        fewer a (q ∷ qs) k = by_kept (p q) (parts_false (bytes_eq (q.0) a) (is_among a (names_of qs)) k) (fewer a qs)
          where
            by_kept : (c : Bool) → (bytes_eq (q.0) a ≡ false) × (is_among a (names_of qs) ≡ false)
                → (is_among a (names_of qs) ≡ false → is_among a (names_of (filter p qs)) ≡ false)
                → is_among a (names_of (cond c (q ∷ filter p qs) (filter p qs))) ≡ false
            by_kept true f later = λ i. f.0 i || later f.1 i
            by_kept false f later = later f.1

        by_test : (b : Bool) → are_different (names_of (filter p ps)) ≡ true → not (is_among (x.0) (names_of (filter p ps))) ≡ true
            → are_different (names_of (cond b (x ∷ filter p ps) (filter p ps))) ≡ true
        by_test true ih new = and_from _ _ new ih
        by_test false ih new = ih

    none_shown : (o : Option (List ℕ)) (b : Bool) → (not (is_some o) && b) ≡ true → o ≡ None
    none_shown None b e = refl
    none_shown (Some x) b e = cc

    -- what a transaction shows first is revealed
    pub first_revealed : (g : Configuration) (course : Course) (tx : Tx) → Tracks g course
        → Legal g (reveal_steps (newly_shown hash s course.state tx))
        × (after_steps g (reveal_steps (newly_shown hash s course.state tx))
        ≡ record g { revealed = map (revealed_secret s) (course.state.shown ++ strings_shown hash s course.state tx) })
    first_revealed g course tx tracks =
        let new = newly_shown hash s course.state tx in
        let r = reveals_legal s lengths fair g new g.revealed tracks.committed
        (filtered_different (λ p. is_newly_shown hash s course.state tx (p.0)) (secrets s.advert.pre) (secret_names hash keys s whole)) (λ p h.
        let k = in_filter (λ (q : List ℕ × List ℕ). is_newly_shown hash s course.state tx (q.0)) (secrets s.advert.pre) p h in
        let none = none_shown (look_up (p.0) course.state.shown) (is_some (string_shown hash s tx (p.0))) k.1 in (
          k.0,
          secret_party p k.0,
          ap (λ (xs : List Revealed). is_revealed xs deal_contract (p.1) (p.0)) tracks.revealed ∙ unrevealed course.state.shown (p.1) (p.0) none,
        )) in
        let same : g.revealed ++ map (revealed_by s lengths fair) new ≡ map (revealed_secret s) (course.state.shown ++ strings_shown hash s course.state tx) =
        (λ i. tracks.revealed i ++ sym (each_is new
        (λ p h. (in_filter (λ (q : List ℕ × List ℕ). is_newly_shown hash s course.state tx (q.0)) (secrets s.advert.pre) p h).0)) i)
        ∙ sym (map_append (revealed_secret s) course.state.shown (strings_shown hash s course.state tx)) in
        (r.0, r.1 ∙ ap (λ (xs : List Revealed). record g { revealed = xs }) same)
      where
        each_is : (ps : List (List ℕ × List ℕ)) → ((p : List ℕ × List ℕ) → Is_in p ps → Is_in p (secrets s.advert.pre))
            → map (revealed_secret s) (map (λ p. (p.0, bytes_or_none (string_shown hash s tx (p.0)))) ps) ≡ map (revealed_by s lengths fair) ps
        each_is [] f = refl
        each_is (p ∷ ps) f =
            let party = looked_secret p (f p (inl refl)) in
            λ i. record { contract = deal_contract; party = bytes_or_none (party i); secret = p.0 } ∷ each_is ps (λ q h. f q (inr h)) i

    -- ---- deposits

    deposits_apart : are_different (names_of (deposits s.advert.pre)) ≡ true
    deposits_apart = deposits_different s.advert.pre (different_names s.advert whole.checked)

    -- the number of a deposit of the deal
    pub deposit_number : (m : ℕ) (d : List ℕ × Holding) → HasNumber 0 (deposits s.advert.pre) m d → look_up (d.0) (deal_bindings s) ≡ Some m
    deposit_number m d h = bound_number 0 (deposits s.advert.pre) m d deposits_apart h

    -- two names have two numbers
    pub bound_once : (x y : List ℕ) (n k : ℕ) (names : List (List ℕ)) → look_up x (numbered n names) ≡ Some k → look_up y (numbered n names) ≡ Some k → x ≡ y
    bound_once x y n k [] h i = cc
    bound_once x y n k (z ∷ names) h i =
        by_tests (bytes_eq z x) (bytes_eq z y) refl refl h i (above_first (n + 1) names) (bound_once x y (n + 1) k names)
      where
        at_first : {a b : ℕ} → Some a ≡ Some b → a ≡ b
        at_first e = cc

        above_first : (m : ℕ) (ns : List (List ℕ)) → (w : List ℕ) (j : ℕ) → look_up w (numbered m ns) ≡ Some j → m ≤ j
        above_first m [] w j e = cc
        above_first m (v ∷ ns) w j e = by_test (bytes_eq v w) e (above_first (m + 1) ns w j)
          where
            by_test : (b : Bool) → cond b (Some m) (look_up w (numbered (m + 1) ns)) ≡ Some j → (look_up w (numbered (m + 1) ns) ≡ Some j → m + 1 ≤ j) → m ≤ j
            by_test true f later = let q : m ≡ j = at_first f in omega (arith, q)
            by_test false f later = let q = later f in omega (arith, q)

        by_tests : (a b : Bool) → bytes_eq z x ≡ a → bytes_eq z y ≡ b → cond a (Some n) (look_up x (numbered (n + 1) names)) ≡ Some k
            → cond b (Some n) (look_up y (numbered (n + 1) names)) ≡ Some k
            → ((w : List ℕ) (j : ℕ) → look_up w (numbered (n + 1) names) ≡ Some j → n + 1 ≤ j)
            → (look_up x (numbered (n + 1) names) ≡ Some k → look_up y (numbered (n + 1) names) ≡ Some k → x ≡ y) → x ≡ y
        by_tests true true e f p q above later = sym (bytes-true z x e) ∙ bytes-true z y f
        by_tests true false e f p q above later = absurd (let a = above y k q in let b : n ≡ k = at_first p in omega (arith, a, b))
        by_tests false true e f p q above later = absurd (let a = above x k p in let b : n ≡ k = at_first q in omega (arith, a, b))
        by_tests false false e f p q above later = later p q

    -- the numbers of these names are those of the deposits among them
    pub numbers_are : (xs : List (List ℕ)) (m : ℕ) (d : List ℕ × Holding) → HasNumber 0 (deposits s.advert.pre) m d
        → has_number m (numbers_of (deal_bindings s) xs) ≡ is_among (d.0) xs
    numbers_are xs m d h =
        number_among (deal_bindings s) xs m (d.0) (deposit_number m d h)
        (λ x e. bound_once x (d.0) 0 m (names_of (deposits s.advert.pre)) e (deposit_number m d h))

    -- and none of a later output
    pub numbers_later : (xs : List (List ℕ)) (m : ℕ) → length (deposit_outputs s) ≤ m → has_number m (numbers_of (deal_bindings s) xs) ≡ false
    numbers_later xs m h =
        number_apart (deal_bindings s) xs m (λ x e.
        let l = numbered_below 0 (names_of (deposits s.advert.pre)) x m e in
        let n = many 0 (deposits s.advert.pre) in
        omega (arith, h, l, n))
      where
        many : (n : ℕ) (ds : List (List ℕ × Holding)) → length (deposits_from s n ds) ≡ length (names_of ds)
        many n [] = refl
        many n (d ∷ ds) = ap suc (many (n + 1) ds)

    module _ (course : Course) (kept : Kept hash keys s course) where
      -- the live output at the place of a deposit is that deposit
      pub deposit_at_place : (o : Output) (d : List ℕ × Holding) → Is_in o course.state.live → Is_in d (deposits s.advert.pre)
          → o.place ≡ outpoint_or_none (look_up (d.0) s.bound)
          → HasNumber 0 (deposits s.advert.pre) o.number d × (o.held ≡ helds.Deposit (d.0))
      deposit_at_place o d h i place = by_kind (kept.live o h)
        where
          by_kind : Is_in o (deposit_outputs s) ⊎ (Is_in o course.state.made × (is_position o ≡ true))
              → HasNumber 0 (deposits s.advert.pre) o.number d × (o.held ≡ helds.Deposit (d.0))
          by_kind (inl j) =
              let e = deposit_of s o j in
              let other = in_named (deposits s.advert.pre) e.0 (numbered_in 0 (deposits s.advert.pre) o.number e.0 e.1) in
              let lies : outpoint_or_none (look_up (e.0.0) s.bound) ≡ outpoint_or_none (look_up (d.0) s.bound) =
              sym (ap (λ (x : Output). x.place) e.2) ∙ place in
              let name : e.0.0 ≡ d.0 =
              whole.apart.apart (e.0.0) (d.0) other (in_named (deposits s.advert.pre) d i)
              (ap (same_outpoint (outpoint_or_none (look_up (e.0.0) s.bound))) (sym lies) ∙ place_refl (outpoint_or_none (look_up (e.0.0) s.bound))) in
              let first = in_looked (deposits s.advert.pre) e.0 deposits_apart (numbered_in 0 (deposits s.advert.pre) o.number e.0 e.1) in
              let second = in_looked (deposits s.advert.pre) d deposits_apart i in
              let holding : e.0.1 ≡ d.1 = some_same (sym first ∙ ap (λ (x : List ℕ). look_up x (deposits s.advert.pre)) name ∙ second) in (
                subst (HasNumber 0 (deposits s.advert.pre) o.number) (λ k. (name k, holding k)) e.1,
                ap (λ (x : Output). x.held) e.2 ∙ ap helds.Deposit name,
              )
          by_kind (inr j) =
              let c = kept.made o j.0 in
              let v = deposit_there s d i in
              absurd (deposit_apart hash keys s whole (deposit_output s v.0 d) v.1 c.by_which c.among (c.id ∙ ap (λ (p : OutPoint). p.txid) place))

      -- a position isn't where a deposit lies
      pub position_apart : (o : Output) (path : List PathStep) (d : List ℕ × Holding) → Is_in o course.state.live → o.held ≡ helds.Position path
          → Is_in d (deposits s.advert.pre) → o.place ≡ outpoint_or_none (look_up (d.0) s.bound) → ⊥
      position_apart o path d h held i place =
          let r = deposit_at_place o d h i place in
          other (sym r.1 ∙ held)
        where
          other : helds.Deposit (d.0) ≡ helds.Position path → ⊥
          other e = cc

      -- a deposit whose place is live is left
      pub deposit_left : (g : Configuration) → Tracks g course → Counts course → (d : List ℕ × Holding) → Is_in d (deposits s.advert.pre)
          → has_place course.state.live (outpoint_or_none (look_up (d.0) s.bound)) ≡ true
          → is_bound_there g.deposits (look_up (d.0) (deal_bindings s)) ≡ true
      deposit_left g tracks counts d i live =
          let o = at_place course.state.live (outpoint_or_none (look_up (d.0) s.bound)) live in
          let r = deposit_at_place o.0 d o.1 i o.2 in
          let none = counts.untaken o.0 (d.0) o.1 r.1 in
          ap (is_bound_there g.deposits) (deposit_number o.0.number d r.0)
          ∙ ap (λ (ds : List LiveDeposit). is_live ds o.0.number) tracks.deposits
          ∙ left_live (is_taken s course.history) (deposits s.advert.pre) (flat_map paid_deposit course.state.made) o.0.number d r.0 none

      -- so are all of these
      pub deposits_left : (g : Configuration) → Tracks g course → Counts course → (xs : List (List ℕ))
          → ((x : List ℕ) → is_among x xs ≡ true → (h : Holding) × Is_in (x, h) (deposits s.advert.pre)
          × (has_place course.state.live (outpoint_or_none (look_up x s.bound)) ≡ true))
          → are_there g.deposits (deal_bindings s) xs ≡ true
      deposits_left g tracks counts xs each =
          every (λ x. is_bound_there g.deposits (look_up x (deal_bindings s))) xs (λ x h.
          let e = each x h in
          deposit_left g tracks counts (x, e.0) e.1 e.2)
