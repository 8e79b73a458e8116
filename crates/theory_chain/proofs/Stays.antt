-- What holds of a deal after each transaction of a chain: its strings fit, and what is gone is gone.
use Rattle.std.proofs.Common.{◌≡◌, ℕ, List, [], ◌∷◌, ◌++◌, map, Bool, true, false, Option, Some, None, refl, sym, subst, cond, inl, inr}
use Rattle.std.specs.Prelude.{◌||◌, ◌&&◌, not, filter, is_some}
use Rattle.std.specs.List.{list_all, list_any}
use Rattle.std.proofs.lemmas.Bool.{and_from}
use Rattle.spec_data.specs.Lists.{look_up}
use Rattle.spec_terms.specs.Precondition.{secrets}
use Rattle.spec_bitcoin.specs.declared.tx.OutPoint.{OutPoint}
use Rattle.spec_bitcoin.specs.declared.tx.Tx.{Tx}
use Rattle.spec_compiler.specs.Keyed.Instance.{Instance}
use Rattle.spec_compiler.specs.Keyed.Statements.{is_secret}
use Rattle.spec_compiler.specs.Scripts.{digest_of}
use Rattle.spec_deal.specs.declared.entry.Shown.{Shown}
use Rattle.spec_deal.specs.declared.transaction.Transaction.{Transaction}
use Rattle.spec_deal.specs.Finished.{bytes_or_none}
use Rattle.spec_deal.specs.Transactions.{transactions}
use Rattle.theory_calculus.specs.Members.{Is_in}
use Rattle.theory_calculus.proofs.Members.{in_filter, all_append, found}
use Rattle.theory_deal.specs.Finished.{do_fit}
use Rattle.spec_chain.specs.declared.output.Held.{Held}
use Rattle.spec_chain.specs.declared.output.Held.TheVariants.{Deposit, Position, Payout}
use Rattle.spec_chain.specs.declared.output.Output.{Output}
use Rattle.spec_chain.specs.declared.reading.Confirmed.{Confirmed}
use Rattle.spec_chain.specs.Chain.{Course, gone_on, opening_course}
use Rattle.spec_chain.specs.ChainFile.{read_chain}
use Rattle.spec_chain.specs.Following.{State, items_in, is_string_of, string_shown, is_newly_shown, newly_shown, strings_shown, outputs_made, places_spent}
use Rattle.spec_chain.specs.Outputs.{is_position, is_deposit, is_there, without, without_all}
use Rattle.spec_chain.specs.Outstanding.{deposits_needed}
use Rattle.theory_chain.specs.Follows.{LeadsTo}
use Rattle.theory_chain.specs.Prospects.{KnownFit, GoneNeverComes}
use Rattle.theory_chain.proofs.Courses.{followed_exactly, further}
use Rattle.theory_chain.proofs.Needs.{none_fail, nothing_outstanding}

-- ---- strings

module _ (hash : List ℕ → List ℕ) (s : Instance) where
  abbrev fits : List ℕ × List ℕ → Bool
  fits p = is_secret hash (p.1) (digest_of s.hashes (p.0))

  -- a string that a transaction is the first to show fits
  shown_fits : (tx : Tx) (name : List ℕ) → is_some (string_shown hash s tx name) ≡ true
      → fits (name, bytes_or_none (string_shown hash s tx name)) ≡ true
  shown_fits tx name e = by_string (string_shown hash s tx name) refl e
    where
      by_string : (o : Option (List ℕ)) → string_shown hash s tx name ≡ o → is_some o ≡ true → fits (name, bytes_or_none o) ≡ true
      by_string None h k = cc
      by_string (Some bytes) h k = (found (is_string_of hash (digest_of s.hashes name)) (items_in tx) bytes h).1

  second : (a b : Bool) → (a && b) ≡ true → b ≡ true
  second true b e = e
  second false b e = cc

  all_shown : (state : State) (tx : Tx) (ps : List (List ℕ × List ℕ))
      → ((p : List ℕ × List ℕ) → Is_in p ps → is_newly_shown hash s state tx (p.0) ≡ true)
      → list_all fits (map (λ p. (p.0, bytes_or_none (string_shown hash s tx (p.0)))) ps) ≡ true
  all_shown state tx [] new = refl
  all_shown state tx (p ∷ ps) new =
      and_from (fits (p.0, bytes_or_none (string_shown hash s tx (p.0))))
      (list_all fits (map (λ q. (q.0, bytes_or_none (string_shown hash s tx (q.0)))) ps))
      (shown_fits tx (p.0)
      (second (not (is_some (look_up (p.0) state.shown))) (is_some (string_shown hash s tx (p.0))) (new p (inl refl))))
      (all_shown state tx ps (λ q h. new q (inr h)))

  strings_fit : (state : State) (tx : Tx) → list_all fits (strings_shown hash s state tx) ≡ true
  strings_fit state tx =
      all_shown state tx (newly_shown hash s state tx)
      (λ p h. (in_filter (λ (q : List ℕ × List ℕ). is_newly_shown hash s state tx (q.0)) (secrets s.advert.pre) p h).1)

  stay_fit : (ts : List Transaction) (cs : List Confirmed) (course last : Course) → LeadsTo hash s ts course cs last
      → list_all fits course.state.shown ≡ true → list_all fits last.state.shown ≡ true
  stay_fit ts [] course last h e = subst (λ (c : Course). list_all fits c.state.shown ≡ true) (sym h) e
  stay_fit ts (c ∷ cs) course last h e =
      stay_fit ts cs (gone_on hash s ts course c) last h.2
      (all_append fits course.state.shown (strings_shown hash s course.state c.tx) e (strings_fit course.state c.tx))

  as_given : (shown : List (List ℕ × List ℕ)) → list_all fits shown ≡ true
      → do_fit hash s (map (λ p. record { line = 0; name = p.0; bytes = p.1 }) shown) ≡ true
  as_given [] e = refl
  as_given (p ∷ ps) e =
      let r = both (fits p) (list_all fits ps) e in
      and_from (fits p) (do_fit hash s (map (λ q. record { line = 0; name = q.0; bytes = q.1 }) ps)) r.0 (as_given ps r.1)
    where
      both : (a b : Bool) → (a && b) ≡ true → (a ≡ true) × (b ≡ true)
      both true b k = (refl, k)
      both false b k = cc

pub known_fit : KnownFit
known_fit hash keys s text course tip strings e given =
    let p = (followed_exactly hash keys s text course tip).0 e in
    let shown = stay_fit hash s (transactions hash keys s) (read_chain text).confirmed (opening_course hash keys s) course p.2 refl in
    all_append (λ (x : Shown). is_secret hash x.bytes (digest_of s.hashes x.name))
    (map (λ p. record { line = 0; name = p.0; bytes = p.1 }) course.state.shown) strings (as_given hash s course.state.shown shown) given

-- ---- deposits

any_filter : {X : Type 0} (p q : X → Bool) (xs : List X) → list_any p xs ≡ false → list_any p (filter q xs) ≡ false
any_filter p q [] e = refl
any_filter p q (x ∷ xs) e = by_test (q x) (neither (p x) (list_any p xs) e) (any_filter p q xs)
  where
    neither : (a b : Bool) → (a || b) ≡ false → (a ≡ false) × (b ≡ false)
    neither true b k = cc
    neither false b k = (refl, k)

    by_test : (b : Bool) → (p x ≡ false) × (list_any p xs ≡ false) → (list_any p xs ≡ false → list_any p (filter q xs) ≡ false)
        → list_any p (cond b (x ∷ filter q xs) (filter q xs)) ≡ false
    by_test true k later = rw (k.0) (later k.1)
    by_test false k later = later k.1

any_append : {X : Type 0} (p : X → Bool) (xs ys : List X) → list_any p xs ≡ false → list_any p ys ≡ false → list_any p (xs ++ ys) ≡ false
any_append p [] ys e f = f
any_append p (x ∷ xs) ys e f = by_test (p x) e (any_append p xs ys)
  where
    by_test : (b : Bool) → (b || list_any p xs) ≡ false
        → (list_any p xs ≡ false → list_any p ys ≡ false → list_any p (xs ++ ys) ≡ false) → (b || list_any p (xs ++ ys)) ≡ false
    by_test true k later = cc
    by_test false k later = later k f

module _ (x : List ℕ) where
  none_spent : (live : List Output) (places : List OutPoint) → list_any (is_deposit x) live ≡ false
      → list_any (is_deposit x) (without_all live places) ≡ false
  none_spent live [] e = e
  none_spent live (place ∷ places) e =
      none_spent (without live place) places (any_filter (is_deposit x) (λ o. not (is_there place o)) live e)

  no_position : (os : List Output) → list_any (is_deposit x) (filter is_position os) ≡ false
  no_position [] = refl
  no_position (o ∷ os) = by_held o.held refl (no_position os)
    where
      by_held : (h : Held) → o.held ≡ h → list_any (is_deposit x) (filter is_position os) ≡ false
          → list_any (is_deposit x) (filter is_position (o ∷ os)) ≡ false
      by_held (Deposit name) e later = rw e later
      by_held (Position path) e later = rw e later
      by_held (Payout party) e later = rw e later

  stays_gone : (hash : List ℕ → List ℕ) (s : Instance) (ts : List Transaction) (cs : List Confirmed) (course last : Course)
      → LeadsTo hash s ts course cs last → list_any (is_deposit x) course.state.live ≡ false
      → list_any (is_deposit x) last.state.live ≡ false
  stays_gone hash s ts [] course last h e = subst (λ (c : Course). list_any (is_deposit x) c.state.live ≡ false) (sym h) e
  stays_gone hash s ts (c ∷ cs) course last h e =
      stays_gone hash s ts cs (gone_on hash s ts course c) last h.2
      (any_append (is_deposit x) (without_all course.state.live (places_spent c.tx))
      (filter is_position (outputs_made s ts course.state c.tx))
      (none_spent course.state.live (places_spent c.tx) e)
      (no_position (outputs_made s ts course.state c.tx)))

-- where all that is needed is live now, it was live before
all_before : (needed : List (List ℕ)) (before after : List Output)
    → ((x : List ℕ) → list_any (is_deposit x) before ≡ false → list_any (is_deposit x) after ≡ false)
    → list_all (λ x. list_any (is_deposit x) after) needed ≡ true → filter (λ x. not (list_any (is_deposit x) before)) needed ≡ []
all_before [] before after stays e = refl
all_before (x ∷ xs) before after stays e = by_test (list_any (is_deposit x) before) refl (all_before xs before after stays)
  where
    first : (a b : Bool) → a ≡ false → (a && b) ≡ true → ⊥
    first true b k h = cc
    first false b k h = cc

    second_of : (a b : Bool) → (a && b) ≡ true → b ≡ true
    second_of true b k = k
    second_of false b k = cc

    rest : list_all (λ y. list_any (is_deposit y) after) xs ≡ true
    rest = second_of (list_any (is_deposit x) after) (list_all (λ y. list_any (is_deposit y) after) xs) e

    by_test : (b : Bool) → list_any (is_deposit x) before ≡ b
        → (list_all (λ y. list_any (is_deposit y) after) xs ≡ true → filter (λ y. not (list_any (is_deposit y) before)) xs ≡ [])
        → cond (not b) (x ∷ filter (λ y. not (list_any (is_deposit y) before)) xs) (filter (λ y. not (list_any (is_deposit y) before)) xs) ≡ []
    by_test true k later = later rest
    by_test false k later =
        absurd (first (list_any (is_deposit x) after) (list_all (λ y. list_any (is_deposit y) after) xs) (stays x k) e)

pub gone_never_comes : GoneNeverComes
gone_never_comes hash keys s text longer more course later tip top given strings which cut e k gone none =
    let ts = transactions hash keys s in
    let p = further hash keys s text longer more course later tip top cut e k in
    gone (all_before (deposits_needed s which) course.state.live later.state.live
    (λ x h. stays_gone x hash s ts p.0 course later p.1 h)
    (none_fail (λ x. list_any (is_deposit x) later.state.live) (deposits_needed s which)
    (nothing_outstanding hash keys s given strings later.state top which none)))
