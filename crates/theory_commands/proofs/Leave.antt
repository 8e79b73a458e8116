-- The test of leave is the relation.
use Rattle.std.proofs.Common.{◌≡◌, ℕ, Bool, true, false, List, [], ◌∷◌, Option, Some, None, refl, sym, ap, subst, ◌∙◌, inl, inr, arith}
use Rattle.std.specs.Prelude.{◌⊎◌, ◌&&◌, ◌||◌, ◌==◌}
use Rattle.std.specs.List.{Contains, list_any}
use Rattle.std.specs.Str.{bytes_eq}
use Rattle.std.proofs.lemmas.Bool.{and_parts, and_from, false≢true}
use Rattle.std.proofs.lemmas.Bool.Decides.{nat_tests}
use Rattle.std.proofs.lemmas.Slice.Eq.{bytes_eq-Decides}
use Rattle.spec_data.specs.Lists.{has_number, look_up}
use Rattle.spec_terms.specs.Precondition.{Holding, persistent, volatile}
use Rattle.spec_bitcoin.specs.declared.tx.Tx.{Tx}
use Rattle.spec_run.specs.declared.event.Event.{Event}
use Rattle.spec_run.specs.declared.event.Event.TheVariants as events
use Rattle.spec_run.specs.declared.outcome.Outcome.{Outcome}
use Rattle.spec_run.specs.declared.outcome.Outcome.TheVariants as outcomes
use Rattle.spec_run.specs.declared.outcome.Record.{Record}
use Rattle.spec_run.specs.Setup.{Setup, pre_at}
use Rattle.spec_run.specs.World.{World, bindings_at}
use Rattle.spec_run.specs.Ledger.{Kind, Begins, Takes, Moves, is_initial, kind_of, position_path, position_branch}
use Rattle.spec_run.specs.Compiled.{compiled_instance}
use Rattle.spec_run.specs.HonestDeposits.{is_init, is_endorse, was_done, is_number, is_bound_to, takes_persistent, is_put_of, put_by}
use Rattle.spec_run.specs.HonestDeposits.{gives, is_of_path, by_contract, by_transaction, has_leave}
use Rattle.spec_run.specs.Values.{is_done}
use Rattle.spec_run.specs.Event.{opening_world}
use Rattle.spec_run.specs.Statements.{spends_with_leave}
use Rattle.spec_run.specs.Translation.{record_in, opening_configuration, course}
use Rattle.theory_calculus.specs.Members.{Is_in}
use Rattle.theory_calculus.proofs.Members.{in_from_contains, contains_from_in}
use Rattle.theory_run.proofs.Following.{holds-map}
use Rattle.theory_commands.specs.Leave.{WasDone, TakesPersistent, TakesPut, ByContract, ByTransaction, Gives, HasLeave, goes_by_leave}
use Rattle.theory_commands.specs.Leave.{LeaveIsMeant}

-- ---- tests over lists

module _ {A : Type 0} (f : A → Bool) where
  passing : (xs : List A) → list_any f xs ≡ true → (x : A) × Is_in x xs × (f x ≡ true)
  passing [] h = absurd (false≢true h)
  passing (x ∷ xs) h = by_first (f x) refl h (passing xs)
    where
      by_first : (b : Bool) → f x ≡ b → (b || list_any f xs) ≡ true → (list_any f xs ≡ true → (y : A) × Is_in y xs × (f y ≡ true))
          → (y : A) × Is_in y (x ∷ xs) × (f y ≡ true)
      by_first true e k later = (x, inl refl, e)
      by_first false e k later = let r = later k in (r.0, inr (r.1), r.2)

  -- an element that passes
  any_in : (xs : List A) → list_any f xs ≡ true → (x : A) × Contains xs x × (f x ≡ true)
  any_in xs h = let r = passing xs h in (r.0, contains_from_in xs (r.0) (r.1), r.2)

  any_is : (xs : List A) (x : A) → f x ≡ true → Is_in x xs → list_any f xs ≡ true
  any_is [] x e i = absurd i
  any_is (y ∷ ys) x e (inl same) = ap (λ (b : Bool). b || list_any f ys) (ap f (sym same) ∙ e)
  any_is (y ∷ ys) x e (inr i) = by_first (f y) (any_is ys x e i)
    where
      by_first : (b : Bool) → list_any f ys ≡ true → (b || list_any f ys) ≡ true
      by_first true k = refl
      by_first false k = k

  in_any : (xs : List A) (x : A) → Contains xs x → f x ≡ true → list_any f xs ≡ true
  in_any xs x c e = any_is xs x e (in_from_contains xs x c)

same_number : (a b : ℕ) → (a == b) ≡ true → a ≡ b
same_number a b h = grind (arith, nat_tests)

number_same : (a b : ℕ) → a ≡ b → (a == b) ≡ true
number_same a b h = grind (arith, nat_tests)

-- ---- what was done

init_is : (contract : ℕ) (party : List ℕ) (e : Event) → is_init contract party e ≡ true → e ≡ events.Init contract party
init_is contract party (events.Init k a) h =
    let p = and_parts (k == contract) (bytes_eq a party) h in
    λ i. events.Init (same_number k contract p.0 i) ((bytes_eq-Decides a party).0 p.1 i)
init_is contract party (events.Advertise k bindings) h = absurd (false≢true h)
init_is contract party (events.Commit k a digests) h = absurd (false≢true h)
init_is contract party (events.Endorse k a) h = absurd (false≢true h)
init_is contract party (events.FireInit k) h = absurd (false≢true h)
init_is contract party (events.Reveal k a x) h = absurd (false≢true h)
init_is contract party (events.Authorise a n i) h = absurd (false≢true h)
init_is contract party (events.Fire n i) h = absurd (false≢true h)
init_is contract party (events.Post bytes) h = absurd (false≢true h)
init_is contract party (events.Sign a label digest) h = absurd (false≢true h)
init_is contract party (events.Give a inputs outputs) h = absurd (false≢true h)
init_is contract party (events.Append bytes) h = absurd (false≢true h)
init_is contract party (events.Mine blocks) h = absurd (false≢true h)

endorse_is : (contract : ℕ) (party : List ℕ) (e : Event) → is_endorse contract party e ≡ true → e ≡ events.Endorse contract party
endorse_is contract party (events.Endorse k a) h =
    let p = and_parts (k == contract) (bytes_eq a party) h in
    λ i. events.Endorse (same_number k contract p.0 i) ((bytes_eq-Decides a party).0 p.1 i)
endorse_is contract party (events.Advertise k bindings) h = absurd (false≢true h)
endorse_is contract party (events.Commit k a digests) h = absurd (false≢true h)
endorse_is contract party (events.Init k a) h = absurd (false≢true h)
endorse_is contract party (events.FireInit k) h = absurd (false≢true h)
endorse_is contract party (events.Reveal k a x) h = absurd (false≢true h)
endorse_is contract party (events.Authorise a n i) h = absurd (false≢true h)
endorse_is contract party (events.Fire n i) h = absurd (false≢true h)
endorse_is contract party (events.Post bytes) h = absurd (false≢true h)
endorse_is contract party (events.Sign a label digest) h = absurd (false≢true h)
endorse_is contract party (events.Give a inputs outputs) h = absurd (false≢true h)
endorse_is contract party (events.Append bytes) h = absurd (false≢true h)
endorse_is contract party (events.Mine blocks) h = absurd (false≢true h)

named : (k : ℕ) (a : List ℕ) → ((k == k) && bytes_eq a a) ≡ true
named k a = and_from (k == k) (bytes_eq a a) (number_same k k refl) ((bytes_eq-Decides a a).1 refl)

done_is : (outcome : Outcome) → is_done outcome ≡ true → outcome ≡ outcomes.Done
done_is outcomes.Done h = refl
done_is (outcomes.Accepted spent made lock) h = absurd (false≢true h)
done_is (outcomes.Refused reason) h = absurd (false≢true h)

module _ (test : Event → Bool) (e : Event) (before : List Record) where
  was : ((x : Event) → test x ≡ true → x ≡ e) → was_done test before ≡ true → WasDone e before
  was f h =
      let x = any_in (λ (r : Record). is_done r.outcome && test r.event) before h in
      let p = and_parts (is_done x.0.outcome) (test x.0.event) x.2 in
      record { r = x.0; there = x.1; event = f x.0.event p.1; done = done_is x.0.outcome p.0 }

  was_back : test e ≡ true → WasDone e before → was_done test before ≡ true
  was_back t d =
      in_any (λ (r : Record). is_done r.outcome && test r.event) before d.r d.there
      (and_from (is_done d.r.outcome) (test d.r.event) (ap is_done d.done) (ap test d.event ∙ t))

-- ---- what is taken

number_is : (number : ℕ) (o : Option ℕ) → is_number number o ≡ true → o ≡ Some number
number_is number None h = absurd (false≢true h)
number_is number (Some other) h = ap (λ (n : ℕ). Some n) (same_number other number h)

abbrev some_number : ℕ → Option ℕ
some_number n = Some n

is_that : (number : ℕ) (o : Option ℕ) → o ≡ some_number number → is_number number o ≡ true
is_that number o e = ap (is_number number) e ∙ number_same number number refl

module _ (s : Setup) (w : World) (contract : ℕ) (party : List ℕ) (number : ℕ) where
  abbrev bound_to : List ℕ → Option ℕ
  bound_to name = look_up name (bindings_at w.advertised contract)

  persistent_is : takes_persistent s w contract party number ≡ true → TakesPersistent s w contract party number
  persistent_is h =
      let x = any_in (is_bound_to w contract party number) (persistent (pre_at s contract)) h in
      let p = and_parts (bytes_eq (x.0.1).owner party) (is_number number (bound_to (x.0.0))) x.2 in
      record {
        name = x.0.0;
        holding = x.0.1;
        there = x.1;
        owner = (bytes_eq-Decides (x.0.1).owner party).0 p.0;
        bound = number_is number (bound_to (x.0.0)) p.1;
      }

  persistent_back : TakesPersistent s w contract party number → takes_persistent s w contract party number ≡ true
  persistent_back t =
      in_any (is_bound_to w contract party number) (persistent (pre_at s contract)) (t.name, t.holding) t.there
      (and_from (bytes_eq t.holding.owner party) (is_number number (bound_to t.name)) ((bytes_eq-Decides t.holding.owner party).1 t.owner)
      (is_that number (bound_to t.name) t.bound))

  abbrev put_here : List ℕ → Bool
  put_here name = is_put_of w contract party number name (look_up name (volatile (pre_at s contract)))

  put_is : (names : List (List ℕ)) → list_any put_here names ≡ true → TakesPut s w contract names party number
  put_is names h =
      let x = any_in put_here names h in by_holding (x.0) (x.1) (look_up (x.0) (volatile (pre_at s contract))) refl (x.2)
    where
      by_holding : (name : List ℕ) → Contains names name → (o : Option Holding) → look_up name (volatile (pre_at s contract)) ≡ o
          → is_put_of w contract party number name o ≡ true → TakesPut s w contract names party number
      by_holding name i None e k = absurd (false≢true k)
      by_holding name i (Some d) e k =
          let p = and_parts (bytes_eq d.owner party) (is_number number (bound_to name)) k in
          record {
            name = name;
            holding = d;
            put = i;
            is = e;
            owner = (bytes_eq-Decides d.owner party).0 p.0;
            bound = number_is number (bound_to name) p.1;
          }

  put_back : (names : List (List ℕ)) → TakesPut s w contract names party number → list_any put_here names ≡ true
  put_back names t =
      in_any put_here names t.name t.put
      (ap (is_put_of w contract party number t.name) t.is
      ∙ and_from (bytes_eq t.holding.owner party) (is_number number (bound_to t.name)) ((bytes_eq-Decides t.holding.owner party).1 t.owner)
      (is_that number (bound_to t.name) t.bound))

-- ---- gifts

gives_is : (party : List ℕ) (number : ℕ) (e : Event) → gives party number e ≡ true → Gives party number e
gives_is party number (events.Give a inputs outputs) h =
    let p = and_parts (bytes_eq a party) (has_number number inputs) h in
    let x = any_in (λ (n : ℕ). n == number) inputs p.1 in
    record {
      inputs = inputs;
      outputs = outputs;
      is = λ i. events.Give ((bytes_eq-Decides a party).0 p.0 i) inputs outputs;
      among = subst (Contains inputs) (same_number x.0 number x.2) x.1;
    }
gives_is party number (events.Init k a) h = absurd (false≢true h)
gives_is party number (events.Advertise k bindings) h = absurd (false≢true h)
gives_is party number (events.Commit k a digests) h = absurd (false≢true h)
gives_is party number (events.Endorse k a) h = absurd (false≢true h)
gives_is party number (events.FireInit k) h = absurd (false≢true h)
gives_is party number (events.Reveal k a x) h = absurd (false≢true h)
gives_is party number (events.Authorise a n i) h = absurd (false≢true h)
gives_is party number (events.Fire n i) h = absurd (false≢true h)
gives_is party number (events.Post bytes) h = absurd (false≢true h)
gives_is party number (events.Sign a label digest) h = absurd (false≢true h)
gives_is party number (events.Append bytes) h = absurd (false≢true h)
gives_is party number (events.Mine blocks) h = absurd (false≢true h)

gives_back : (party : List ℕ) (number : ℕ) (e : Event) → Gives party number e → gives party number e ≡ true
gives_back party number e g =
    ap (gives party number) g.is
    ∙ and_from (bytes_eq party party) (has_number number g.inputs) ((bytes_eq-Decides party party).1 refl)
    (in_any (λ (n : ℕ). n == number) g.inputs number g.among (number_same number number refl))

-- ---- leave

module _ (s : Setup) (w : World) (before : List Record) (party : List ℕ) (number : ℕ) where
  contract_is : (tx : Tx) (k : Kind) → by_contract s w before party number tx k ≡ true → ByContract s w before party number tx k
  contract_is tx (Begins contract) h =
      let p = and_parts (is_initial s tx (compiled_instance s w contract) && takes_persistent s w contract party number)
      (was_done (is_init contract party) before) h in
      let q = and_parts (is_initial s tx (compiled_instance s w contract)) (takes_persistent s w contract party number) p.0 in (
        q.0,
        persistent_is s w contract party number q.1,
        was (is_init contract party) (events.Init contract party) before (init_is contract party) p.1,
      )
  contract_is tx (Takes held output branch) h =
      let names = put_by (position_branch s held branch) in
      let of_path = is_of_path s tx (position_path held branch) (compiled_instance s w held.contract) in
      let p = and_parts (of_path && list_any (put_here s w held.contract party number) names) (was_done (is_endorse held.contract party) before) h in
      let q = and_parts of_path (list_any (put_here s w held.contract party number) names) p.0 in (
        q.0,
        put_is s w held.contract party number names q.1,
        was (is_endorse held.contract party) (events.Endorse held.contract party) before (endorse_is held.contract party) p.1,
      )
  contract_is tx Moves h = false≢true h

  contract_back : (tx : Tx) (k : Kind) → ByContract s w before party number tx k → by_contract s w before party number tx k ≡ true
  contract_back tx (Begins contract) (initial, takes, done) =
      and_from (is_initial s tx (compiled_instance s w contract) && takes_persistent s w contract party number)
      (was_done (is_init contract party) before)
      (and_from (is_initial s tx (compiled_instance s w contract)) (takes_persistent s w contract party number) initial
      (persistent_back s w contract party number takes))
      (was_back (is_init contract party) (events.Init contract party) before (named contract party) done)
  contract_back tx (Takes held output branch) (is_path, takes, done) =
      let names = put_by (position_branch s held branch) in
      let of_path = is_of_path s tx (position_path held branch) (compiled_instance s w held.contract) in
      and_from (of_path && list_any (put_here s w held.contract party number) names) (was_done (is_endorse held.contract party) before)
      (and_from of_path (list_any (put_here s w held.contract party number) names) is_path
      (put_back s w held.contract party number names takes))
      (was_back (is_endorse held.contract party) (events.Endorse held.contract party) before (named held.contract party) done)
  contract_back tx Moves f = absurd f

  transaction_is : (spent : List ℕ) (tx : Option Tx) → by_transaction s w before party number spent tx ≡ true
      → ByTransaction s w before party number spent tx
  transaction_is spent None h = false≢true h
  transaction_is spent (Some tx) h = contract_is tx (kind_of s w tx spent) h

  transaction_back : (spent : List ℕ) (tx : Option Tx) → ByTransaction s w before party number spent tx
      → by_transaction s w before party number spent tx ≡ true
  transaction_back spent None f = absurd f
  transaction_back spent (Some tx) f = contract_back tx (kind_of s w tx spent) f

  either : (spent : List ℕ) (e : Event) (tx : Option Tx) (a : Bool) → gives party number e ≡ a
      → (a || by_transaction s w before party number spent tx) ≡ true → Gives party number e ⊎ ByTransaction s w before party number spent tx
  either spent e tx true g h = inl (gives_is party number e g)
  either spent e tx false g h = inr (transaction_is spent tx h)

  or_right : (a b : Bool) → b ≡ true → (a || b) ≡ true
  or_right true b h = refl
  or_right false b h = h

  leave_is : (e : Event) (tx : Option Tx) (outcome : Outcome) → has_leave s w before e tx party number outcome ≡ true
      → HasLeave s w before e tx party number outcome
  leave_is e tx outcomes.Done h = false≢true h
  leave_is e tx (outcomes.Accepted spent made lock) h = either spent e tx (gives party number e) refl h
  leave_is e tx (outcomes.Refused reason) h = false≢true h

  leave_back : (e : Event) (tx : Option Tx) (outcome : Outcome) → HasLeave s w before e tx party number outcome
      → has_leave s w before e tx party number outcome ≡ true
  leave_back e tx outcomes.Done f = absurd f
  leave_back e tx (outcomes.Accepted spent made lock) (inl g) =
      ap (λ (b : Bool). b || by_transaction s w before party number spent tx) (gives_back party number e g)
  leave_back e tx (outcomes.Accepted spent made lock) (inr t) =
      or_right (gives party number e) (by_transaction s w before party number spent tx) (transaction_back spent tx t)
  leave_back e tx (outcomes.Refused reason) f = absurd f

pub leave_meant : LeaveIsMeant
leave_meant = record {
  test = λ s w before e tx party number outcome.
      (leave_is s w before party number e tx outcome, leave_back s w before party number e tx outcome);
  throughout = λ s es h.
      holds-map (spends_with_leave s) (goes_by_leave s)
      (λ before g w t f party number honest owns gone.
      leave_is s w before party number (record_in t).event (record_in t).tx (record_in t).outcome (f party number honest owns gone))
      (course s es).turns [] (opening_configuration s) (opening_world s) h;
}
