-- The outputs of a deal: its deposits under their numbers, and what its transactions make.
use Rattle.std.proofs.Common.{◌≡◌, ℕ, zero, suc, ◌+◌, List, [], ◌∷◌, ◌++◌, Bool, true, false, Some}
use Rattle.std.proofs.Common.{refl, sym, ap, subst, ◌∙◌, inl, inr, cond, arith}
use Rattle.std.specs.Prelude.{◌⊎◌, ◌||◌, slice_get, not}
use Rattle.std.specs.List.{list_any, flat_map}
use Rattle.std.specs.Str.{bytes_eq}
use Rattle.std.proofs.lemmas.Bool.{and_parts, not-true, both_ways}
use Rattle.spec_data.specs.Lists.{look_up, is_among, are_different}
use Rattle.spec_terms.specs.Precondition.{Holding, deposits, names_of}
use Rattle.spec_terms.specs.Term.{Contract}
use Rattle.spec_terms.specs.declared.path.PathStep.{PathStep}
use Rattle.spec_bitcoin.specs.declared.tx.OutPoint.{OutPoint}
use Rattle.spec_bitcoin.specs.declared.tx.TxOut.{TxOut}
use Rattle.spec_compiler.specs.Keyed.Instance.{Instance}
use Rattle.spec_compiler.specs.Keyed.Keys.{Keys}
use Rattle.spec_compiler.specs.Keyed.Transactions.{Standing, outpoint_or_none, pays}
use Rattle.spec_compiler.specs.Keyed.ByPath.{position_at}
use Rattle.spec_tool.specs.Keyed.Listed.{listed}
use Rattle.spec_deal.specs.declared.transaction.Transaction.{Transaction}
use Rattle.spec_deal.specs.Transactions.{transaction, transactions}
use Rattle.theory_calculus.specs.Members.{Is_in}
use Rattle.theory_calculus.proofs.Members.{filter_has}
use Rattle.theory_calculus.proofs.Names.{in_named, bytes-true, bytes_refl}
use Rattle.theory_script.proofs.Keyed.Stands.{some_same}
use Rattle.theory_world.proofs.Same.{place-true, place_refl}
use Rattle.spec_chain.specs.declared.output.Held.{Held}
use Rattle.spec_chain.specs.declared.output.Held.TheVariants.{Deposit, Position}
use Rattle.spec_chain.specs.declared.output.Output.{Output}
use Rattle.spec_chain.specs.Outputs.{is_position, is_there, has_place, deposits_from, deposit_outputs, made_from, made_by, held_by, position_outputs, deal_outputs}
use Rattle.theory_chain.specs.ChainSteps.{numbered}
use Rattle.theory_chain.proofs.Deals.Whole.{in_map}
use Rattle.theory_chain.proofs.Deals.Positions.{in_flat, position_made}

-- ---- lists

pub any_there : {X : Type 0} (p : X → Bool) (xs : List X) (x : X) → Is_in x xs → p x ≡ true → list_any p xs ≡ true
any_there p [] x h e = absurd h
any_there p (y ∷ xs) x (inl i) e = ap (λ b. b || list_any p xs) (subst (λ z. p z ≡ true) i e)
any_there p (y ∷ xs) x (inr i) e = by_test (p y) (any_there p xs x i e)
  where
    by_test : (b : Bool) → list_any p xs ≡ true → (b || list_any p xs) ≡ true
    by_test true h = refl
    by_test false h = h

pub there_of : {X : Type 0} (p : X → Bool) (xs : List X) → list_any p xs ≡ true → (x : X) × Is_in x xs × (p x ≡ true)
there_of p [] e = cc
there_of p (y ∷ xs) e = by_test (p y) refl e (there_of p xs)
  where
    by_test : (b : Bool) → p y ≡ b → (b || list_any p xs) ≡ true → (list_any p xs ≡ true → (x : _) × Is_in x xs × (p x ≡ true))
        → (x : _) × Is_in x (y ∷ xs) × (p x ≡ true)
    by_test true k h later = (y, inl refl, k)
    by_test false k h later =
        let r = later h in
        (r.0, inr r.1, r.2)

pub placed : (os : List Output) (o : Output) → Is_in o os → has_place os o.place ≡ true
placed os o h = any_there (is_there o.place) os o h (place_refl o.place)

-- one of them lies there
pub at_place : (os : List Output) (place : OutPoint) → has_place os place ≡ true → (o : Output) × Is_in o os × (o.place ≡ place)
at_place os place e =
    let r = there_of (is_there place) os e in
    (r.0, r.1, place-true r.0.place place r.2)

pub any_left : {X : Type 0} (p : X → Bool) (xs ys : List X) → list_any p xs ≡ true → list_any p (xs ++ ys) ≡ true
any_left p [] ys e = cc
any_left p (x ∷ xs) ys e = by_test (p x) e (any_left p xs ys)
  where
    by_test : (b : Bool) → (b || list_any p xs) ≡ true → (list_any p xs ≡ true → list_any p (xs ++ ys) ≡ true) → (b || list_any p (xs ++ ys)) ≡ true
    by_test true h later = refl
    by_test false h later = later h

pub any_right : {X : Type 0} (p : X → Bool) (xs ys : List X) → list_any p ys ≡ true → list_any p (xs ++ ys) ≡ true
any_right p [] ys e = e
any_right p (x ∷ xs) ys e = by_test (p x) (any_right p xs ys e)
  where
    by_test : (b : Bool) → list_any p (xs ++ ys) ≡ true → (b || list_any p (xs ++ ys)) ≡ true
    by_test true h = refl
    by_test false h = h

-- ---- deposits

-- the deposit has this number, where the first of these has number n
abbrev pub HasNumber : ℕ → List (List ℕ × Holding) → ℕ → List ℕ × Holding → Type 0
HasNumber n [] m d = ⊥
HasNumber n (e ∷ ds) m d = ((m ≡ n) × (d ≡ e)) ⊎ HasNumber (n + 1) ds m d

pub numbered_in : (n : ℕ) (ds : List (List ℕ × Holding)) (m : ℕ) (d : List ℕ × Holding) → HasNumber n ds m d → Is_in d ds
numbered_in n [] m d h = absurd h
numbered_in n (e ∷ ds) m d (inl k) = inl k.1
numbered_in n (e ∷ ds) m d (inr h) = inr (numbered_in (n + 1) ds m d h)

module _ (s : Instance) where
  abbrev pub deposit_output : ℕ → List ℕ × Holding → Output
  deposit_output n d =
      record { number = n; held = Deposit (d.0); place = outpoint_or_none (look_up (d.0) s.bound); value = (d.1).value }

  from_deposits : (n : ℕ) (ds : List (List ℕ × Holding)) (o : Output) → Is_in o (deposits_from s n ds)
      → (d : List ℕ × Holding) × HasNumber n ds o.number d × (o ≡ deposit_output o.number d)
  from_deposits n [] o h = absurd h
  from_deposits n (d ∷ ds) o (inl e) =
      let number = ap (λ (x : Output). x.number) e in
      (d, inl (number, refl), e ∙ ap (λ (m : ℕ). deposit_output m d) (sym number))
  from_deposits n (d ∷ ds) o (inr h) =
      let r = from_deposits (n + 1) ds o h in
      (r.0, inr r.1, r.2)

  -- a deposit output is that of a deposit of the precondition, under its number
  pub deposit_of : (o : Output) → Is_in o (deposit_outputs s)
      → (d : List ℕ × Holding) × HasNumber 0 (deposits s.advert.pre) o.number d × (o ≡ deposit_output o.number d)
  deposit_of o h = from_deposits 0 (deposits s.advert.pre) o h

  to_deposits : (n : ℕ) (ds : List (List ℕ × Holding)) (d : List ℕ × Holding) → Is_in d ds → (m : ℕ) × Is_in (deposit_output m d) (deposits_from s n ds)
  to_deposits n [] d h = absurd h
  to_deposits n (e ∷ ds) d (inl k) = (n, inl (ap (deposit_output n) k))
  to_deposits n (e ∷ ds) d (inr h) =
      let r = to_deposits (n + 1) ds d h in
      (r.0, inr r.1)

  pub deposit_there : (d : List ℕ × Holding) → Is_in d (deposits s.advert.pre) → (m : ℕ) × Is_in (deposit_output m d) (deposit_outputs s)
  deposit_there d h = to_deposits 0 (deposits s.advert.pre) d h

-- a deposit's number is the one that its name is bound to
pub bound_number : (n : ℕ) (ds : List (List ℕ × Holding)) (m : ℕ) (d : List ℕ × Holding) → are_different (names_of ds) ≡ true
    → HasNumber n ds m d → look_up (d.0) (numbered n (names_of ds)) ≡ Some m
bound_number n [] m d apart h = absurd h
bound_number n (e ∷ ds) m d apart (inl k) =
    by_test (bytes_eq (e.0) (d.0)) (ap (λ (x : List ℕ × Holding). bytes_eq (e.0) (x.0)) k.1 ∙ bytes_refl (e.0))
  where
    by_test : (b : Bool) → b ≡ true → cond b (Some n) (look_up (d.0) (numbered (n + 1) (names_of ds))) ≡ Some m
    by_test true same = ap Some (sym k.0)
    by_test false same = cc
bound_number n (e ∷ ds) m d apart (inr h) =
    let p = and_parts (not (is_among (e.0) (names_of ds))) (are_different (names_of ds)) apart in
    by_test (bytes_eq (e.0) (d.0)) refl (not-true _ p.0) (in_named ds d (numbered_in (n + 1) ds m d h)) (bound_number (n + 1) ds m d p.1 h)
  where
    by_test : (b : Bool) → bytes_eq (e.0) (d.0) ≡ b → is_among (e.0) (names_of ds) ≡ false → is_among (d.0) (names_of ds) ≡ true
        → look_up (d.0) (numbered (n + 1) (names_of ds)) ≡ Some m
        → cond b (Some n) (look_up (d.0) (numbered (n + 1) (names_of ds))) ≡ Some m
    by_test true k none there later =
        absurd (both_ways _ none (subst (λ (x : List ℕ). is_among x (names_of ds) ≡ true) (sym (bytes-true (e.0) (d.0) k)) there))
    by_test false k none there later = later

-- ---- what is made

abbrev pub made_output : List ℕ → ℕ → ℕ → Held → TxOut → Output
made_output txid k n h o = record { number = n; held = h; place = record { txid = txid; vout = k }; value = o.value }

pub made_there : (txid : List ℕ) (j n k : ℕ) (hs : List Held) (os : List TxOut) (h : Held) (o : TxOut) → slice_get hs k ≡ Some h
    → slice_get os k ≡ Some o → Is_in (made_output txid (j + k) (n + k) h o) (made_from txid j n hs os)
made_there txid j n k [] os h o e f = cc
made_there txid j n k (x ∷ hs) [] h o e f = cc
made_there txid j n zero (x ∷ hs) (y ∷ os) h o e f =
    let a : j + 0 ≡ j = omega arith in
    let b : n + 0 ≡ n = omega arith in
    let held : h ≡ x = sym (some_same e) in
    let output : o ≡ y = sym (some_same f) in
    inl (λ i. made_output txid (a i) (b i) (held i) (output i))
made_there txid j n (suc k) (x ∷ hs) (y ∷ os) h o e f =
    let a : j + 1 + k ≡ j + suc k = omega arith in
    let b : n + 1 + k ≡ n + suc k = omega arith in
    inr (subst (λ (z : Output). Is_in z (made_from txid (j + 1) (n + 1) hs os)) (λ i. made_output txid (a i) (b i) h o)
    (made_there txid (j + 1) (n + 1) k hs os h o e f))

-- what is made is one of the outputs
pub made_of : (txid : List ℕ) (j n : ℕ) (hs : List Held) (os : List TxOut) (x : Output) → Is_in x (made_from txid j n hs os)
    → (k : ℕ) × (h : Held) × (o : TxOut) × (slice_get hs k ≡ Some h) × (slice_get os k ≡ Some o) × (x ≡ made_output txid (j + k) (n + k) h o)
made_of txid j n [] os x i = absurd i
made_of txid j n (h ∷ hs) [] x i = absurd i
made_of txid j n (h ∷ hs) (o ∷ os) x (inl e) =
    let a : j ≡ j + 0 = omega arith in
    let b : n ≡ n + 0 = omega arith in
    (0, h, o, refl, refl, e ∙ (λ i. made_output txid (a i) (b i) h o))
made_of txid j n (h ∷ hs) (o ∷ os) x (inr i) =
    let r = made_of txid (j + 1) (n + 1) hs os x i in
    let a : j + 1 + r.0 ≡ j + suc r.0 = omega arith in
    let b : n + 1 + r.0 ≡ n + suc r.0 = omega arith in
    (suc r.0, r.1, r.2, r.3, r.4, r.5 ∙ (λ m. made_output txid (a m) (b m) r.1 r.2))

-- ---- positions

module _ (hash : List ℕ → List ℕ) (keys : Keys) (s : Instance) where
  abbrev pub deal_transactions : List Transaction
  deal_transactions = transactions hash keys s

  -- where a position stands lies an output of the deal
  pub position_placed : (q : List PathStep) (here : Standing) (choice : Contract) → position_at hash keys s q ≡ Some (here, choice)
      → has_place (position_outputs s.advert (transactions hash keys s)) here.output.outpoint ≡ true
  position_placed q here choice e =
      let m = position_made hash keys s q here choice e in
      let t = transaction hash keys s.advert m.by_which in
      let ts = transactions hash keys s in
      let paid = pays hash here.output.script here.output.value in
      let o = made_output t.txid (0 + m.vout) (0 + m.vout) (Position q) paid in
      let made : Is_in o (made_by s.advert 0 t) = made_there t.txid 0 0 m.vout (held_by s.advert t.which) t.tx.outputs (Position q) paid m.held m.there in
      let among : Is_in o (flat_map (made_by s.advert 0) ts) =
      in_flat (made_by s.advert 0) ts t o (in_map (transaction hash keys s.advert) (listed hash keys s) m.by_which m.among) made in
      let z : 0 + m.vout ≡ m.vout = omega arith in
      subst (λ (place : OutPoint). has_place (position_outputs s.advert ts) place ≡ true)
      ((λ i. record { txid = t.txid; vout = z i }) ∙ sym m.place)
      (placed (position_outputs s.advert ts) o (filter_has is_position (flat_map (made_by s.advert 0) ts) o among refl))

  pub position_ours : (q : List PathStep) (here : Standing) (choice : Contract) → position_at hash keys s q ≡ Some (here, choice)
      → has_place (deal_outputs s (transactions hash keys s)) here.output.outpoint ≡ true
  position_ours q here choice e =
      any_right (is_there here.output.outpoint) (deposit_outputs s) (position_outputs s.advert (transactions hash keys s))
      (position_placed q here choice e)

  -- and so it does where a deposit lies
  pub deposit_ours : (d : List ℕ × Holding) → Is_in d (deposits s.advert.pre)
      → has_place (deal_outputs s (transactions hash keys s)) (outpoint_or_none (look_up (d.0) s.bound)) ≡ true
  deposit_ours d h =
      let r = deposit_there s d h in
      any_left (is_there (outpoint_or_none (look_up (d.0) s.bound))) (deposit_outputs s) (position_outputs s.advert (transactions hash keys s))
      (placed (deposit_outputs s) (deposit_output s r.0 d) r.1)
