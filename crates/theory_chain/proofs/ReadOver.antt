-- A transaction that has nothing to do with a deal changes nothing.
use Rattle.std.proofs.Common.{◌≡◌, ℕ, ◌+◌, List, [], ◌∷◌, ◌++◌, length, map, Bool, true, false, Option, Some, None, refl, sym, ap, subst, ◌∙◌, cond, arith, inl, inr}
use Rattle.std.specs.Prelude.{◌⊎◌, not, ◌||◌, ◌==◌, filter, is_some}
use Rattle.std.specs.List.{find, list_any, flat_map}
use Rattle.std.specs.Option.{option_map}
use Rattle.std.specs.Str.{bytes_eq}
use Rattle.std.proofs.lemmas.Bool.{and_parts, and_from}
use Rattle.std.proofs.lemmas.Bool.Decides.{nat_tests}
use Rattle.std.proofs.lemmas.Slice.Eq.{bytes_eq-Decides}
use Rattle.spec_data.specs.Lists.{or_else}
use Rattle.spec_bitcoin.specs.declared.tx.OutPoint.{OutPoint}
use Rattle.spec_bitcoin.specs.declared.tx.TxIn.{TxIn}
use Rattle.spec_bitcoin.specs.declared.tx.TxOut.{TxOut}
use Rattle.spec_bitcoin.specs.Live.{same_outpoint}
use Rattle.spec_compiler.specs.Keyed.Instance.{Instance}
use Rattle.spec_compiler.specs.Keyed.Keys.{Keys}
use Rattle.spec_tool.specs.declared.which.Which.{Which}
use Rattle.spec_tool.specs.Keyed.Listed.{same_which}
use Rattle.spec_deal.specs.declared.transaction.Transaction.{Transaction}
use Rattle.spec_deal.specs.Finished.{bytes_or_none}
use Rattle.spec_deal.specs.Transactions.{transactions}
use Rattle.theory_calculus.specs.Members.{Is_in}
use Rattle.theory_calculus.proofs.Members.{in_left, in_right, in_append, in_filter, filter_has, found}
use Rattle.spec_chain.specs.declared.fault.ChainReason.{ChainReason}
use Rattle.spec_chain.specs.declared.output.Held.{Held}
use Rattle.spec_chain.specs.declared.output.Held.TheVariants.{Deposit, Position, Payout}
use Rattle.spec_chain.specs.declared.output.Output.{Output}
use Rattle.spec_chain.specs.declared.reading.Confirmed.{Confirmed}
use Rattle.spec_chain.specs.Chain.{Course, if_matters, gone_on, opening_course}
use Rattle.spec_chain.specs.ChainFile.{read_chain}
use Rattle.spec_chain.specs.Following.{which_shown, which_of, string_shown, outputs_of, outputs_named, outputs_made, places_spent, after_transaction, reveal_steps, which_steps, deposit_name, gone_by, happened, matters}
use Rattle.spec_chain.specs.Outputs.{is_position, is_there, has_place, output_there, without, without_all, deposit_outputs, made_from, made_by, held_by, position_outputs, deal_outputs, transaction_named}
use Rattle.spec_chain.specs.Refusals.{inputs_reason, own_reason, refusal}
use Rattle.spec_chain.specs.StateText.{state_text}
use Rattle.theory_chain.specs.Aside.{IsAside, OthersAreReadOver}
use Rattle.theory_chain.specs.Follows.{LeadsTo}
use Rattle.theory_chain.proofs.Courses.{followed_exactly}
use Rattle.theory_chain.proofs.Needs.{in_flat}

-- ---- lists

any_in : {X : Type 0} (p : X → Bool) (xs : List X) (x : X) → Is_in x xs → p x ≡ true → list_any p xs ≡ true
any_in p [] x h e = absurd h
any_in p (y ∷ xs) x (inl i) e = ap (λ b. b || list_any p xs) (subst (λ z. p z ≡ true) i e)
any_in p (y ∷ xs) x (inr i) e = by_test (p y) (any_in p xs x i e)
  where
    by_test : (b : Bool) → list_any p xs ≡ true → (b || list_any p xs) ≡ true
    by_test true h = refl
    by_test false h = h

any_found : {X : Type 0} (p : X → Bool) (xs : List X) → list_any p xs ≡ true → (x : X) × Is_in x xs × (p x ≡ true)
any_found p [] e = cc
any_found p (y ∷ xs) e = by_test (p y) refl e (any_found p xs)
  where
    by_test : (b : Bool) → p y ≡ b → (b || list_any p xs) ≡ true → (list_any p xs ≡ true → (x : _) × Is_in x xs × (p x ≡ true))
        → (x : _) × Is_in x (y ∷ xs) × (p x ≡ true)
    by_test true k h later = (y, inl refl, k)
    by_test false k h later =
        let r = later h in
        (r.0, inr r.1, r.2)

none_found : {X : Type 0} (p : X → Bool) (xs : List X) → list_any p xs ≡ false → find p xs ≡ None
none_found p [] e = refl
none_found p (y ∷ xs) e = by_test (p y) e (none_found p xs)
  where
    by_test : (b : Bool) → (b || list_any p xs) ≡ false → (list_any p xs ≡ false → find p xs ≡ None)
        → cond b (Some y) (find p xs) ≡ None
    by_test true h later = cc
    by_test false h later = later h

all_kept : {X : Type 0} (p : X → Bool) (xs : List X) → list_any p xs ≡ false → filter (λ x. not (p x)) xs ≡ xs
all_kept p [] e = refl
all_kept p (y ∷ xs) e = by_test (p y) e (all_kept p xs)
  where
    by_test : (b : Bool) → (b || list_any p xs) ≡ false → (list_any p xs ≡ false → filter (λ x. not (p x)) xs ≡ xs)
        → cond (not b) (y ∷ filter (λ x. not (p x)) xs) (filter (λ x. not (p x)) xs) ≡ y ∷ xs
    by_test true h later = cc
    by_test false h later = ap (λ (ys : List _). y ∷ ys) (later h)

first_false : (a b : Bool) → (a || b) ≡ false → a ≡ false
first_false true b e = cc
first_false false b e = refl

second_false : (a b : Bool) → (a || b) ≡ false → b ≡ false
second_false true b e = cc
second_false false b e = e

any_right : {X : Type 0} (p : X → Bool) (xs ys : List X) → list_any p (xs ++ ys) ≡ false → list_any p ys ≡ false
any_right p [] ys e = e
any_right p (x ∷ xs) ys e = any_right p xs ys (second_false (p x) (list_any p (xs ++ ys)) e)

nothing_more : {X : Type 0} (xs : List X) → xs ++ [] ≡ xs
nothing_more [] = refl
nothing_more (x ∷ xs) = ap (λ (ys : List _). x ∷ ys) (nothing_more xs)

-- ---- places

same_numbers : (m n : ℕ) → (m == n) ≡ true → m ≡ n
same_numbers m n e = grind (arith, nat_tests)

same_place : (a b : OutPoint) → same_outpoint a b ≡ true → a ≡ b
same_place a b e =
    let r = and_parts (bytes_eq a.txid b.txid) (a.vout == b.vout) e in
    let t = (bytes_eq-Decides a.txid b.txid).0 r.0 in
    let v = same_numbers a.vout b.vout r.1 in
    λ i. record { txid = t i; vout = v i }

own_place : (a : OutPoint) → same_outpoint a a ≡ true
own_place a = and_from (bytes_eq a.txid a.txid) (a.vout == a.vout) ((bytes_eq-Decides a.txid a.txid).1 refl) (equal a.vout)
  where
    equal : (n : ℕ) → (n == n) ≡ true
    equal n = grind (arith, nat_tests)

placed : (os : List Output) (o : Output) → Is_in o os → has_place os o.place ≡ true
placed os o h = any_in (is_there o.place) os o h (own_place o.place)

-- ---- positions, whatever their numbers

abbrev is_position_held : Held → Bool
is_position_held h = elim h [
  | Deposit name ↦ false
  | Position path ↦ true
  | Payout party ↦ false
]

renumbered : (txid : List ℕ) (k n m : ℕ) (hs : List Held) (os : List TxOut) (o : Output) → Is_in o (made_from txid k n hs os)
    → (p : Output) × Is_in p (made_from txid k m hs os) × (p.place ≡ o.place) × (p.held ≡ o.held)
renumbered txid k n m [] os o h = absurd h
renumbered txid k n m (x ∷ hs) [] o h = absurd h
renumbered txid k n m (x ∷ hs) (y ∷ os) o (inl e) = (
  record { number = m; held = x; place = record { txid = txid; vout = k }; value = y.value },
  inl refl,
  ap (λ (z : Output). z.place) (sym e),
  ap (λ (z : Output). z.held) (sym e),
)
renumbered txid k n m (x ∷ hs) (y ∷ os) o (inr h) =
    let r = renumbered txid (k + 1) (n + 1) (m + 1) hs os o h in
    (r.0, inr r.1, r.2, r.3)

module _ (s : Instance) (ts : List Transaction) where
  abbrev AreOurs : List Output → Type 0
  AreOurs live = (o : Output) → Is_in o live → has_place (deal_outputs s ts) o.place ≡ true

  deposits_ours : AreOurs (deposit_outputs s)
  deposits_ours o h = placed (deal_outputs s ts) o (in_left o (deposit_outputs s) (position_outputs s.advert ts) h)

  made_ours : (n : ℕ) (t : Transaction) → Is_in t ts → AreOurs (filter is_position (made_by s.advert n t))
  made_ours n t i o h =
      let r = in_filter is_position (made_by s.advert n t) o h in
      let p = renumbered t.txid 0 n 0 (held_by s.advert t.which) t.tx.outputs o r.0 in
      let is : is_position p.0 ≡ true = ap is_position_held p.3 ∙ r.1 in
      let there = filter_has is_position (flat_map (made_by s.advert 0) ts) p.0 (in_flat (made_by s.advert 0) ts t p.0 i p.1) is in
      ap (has_place (deal_outputs s ts)) (sym p.2)
      ∙ placed (deal_outputs s ts) p.0 (in_right p.0 (deposit_outputs s) (position_outputs s.advert ts) there)

  named_ours : (n : ℕ) (which : Option Which) → AreOurs (filter is_position (outputs_named s ts n which))
  named_ours n None o h = absurd h
  named_ours n (Some which) o h = by_found (transaction_named ts which) refl h
    where
      by_found : (t : Option Transaction) → transaction_named ts which ≡ t → Is_in o (filter is_position (outputs_of s n t))
          → has_place (deal_outputs s ts) o.place ≡ true
      by_found None e k = absurd k
      by_found (Some t) e k = made_ours n t (found (λ (x : Transaction). same_which x.which which) ts t e).0 o k

  spent_ours : (live : List Output) (places : List OutPoint) → AreOurs live → AreOurs (without_all live places)
  spent_ours live [] ours = ours
  spent_ours live (place ∷ places) ours =
      spent_ours (without live place) places (λ o h. ours o (in_filter (λ x. not (is_there place x)) live o h).0)

  stay_ours : (hash : List ℕ → List ℕ) (cs : List Confirmed) (course last : Course) → LeadsTo hash s ts course cs last
      → AreOurs course.state.live → AreOurs last.state.live
  stay_ours hash [] course last h ours = subst (λ (c : Course). AreOurs c.state.live) (sym h) ours
  stay_ours hash (c ∷ cs) course last h ours =
      stay_ours hash cs (gone_on hash s ts course c) last h.2 (λ o k. by o (in_append o
      (without_all course.state.live (places_spent c.tx)) (filter is_position (outputs_made s ts course.state c.tx)) k))
    where
      by : (o : Output) → Is_in o (without_all course.state.live (places_spent c.tx))
          ⊎ Is_in o (filter is_position (outputs_made s ts course.state c.tx)) → has_place (deal_outputs s ts) o.place ≡ true
      by o (inl k) = spent_ours course.state.live (places_spent c.tx) ours o k
      by o (inr k) = named_ours course.state.next (which_of s ts c.tx) o k

  -- what lies at no place of the deal isn't live
  isnt_live : (live : List Output) → AreOurs live → (place : OutPoint) → has_place (deal_outputs s ts) place ≡ false
      → has_place live place ≡ false
  isnt_live live ours place e = by_test (has_place live place) refl
    where
      by_test : (b : Bool) → has_place live place ≡ b → b ≡ false
      by_test false k = refl
      by_test true k =
          let r = any_found (is_there place) live k in
          let same = same_place (r.0).place place r.2 in
          let there : has_place (deal_outputs s ts) place ≡ true = ap (has_place (deal_outputs s ts)) (sym same) ∙ ours r.0 r.1 in
          cc

  -- ---- what such a transaction spends

  inputs_fine : (live : List Output) (k : ℕ) (is : List TxIn) → list_any (has_place (deal_outputs s ts)) (map (λ (i : TxIn). i.prev) is) ≡ false
      → inputs_reason s ts false live k is ≡ None
  inputs_fine live k [] e = refl
  inputs_fine live k (i ∷ is) e =
      by_row (first_false (has_place (deal_outputs s ts) i.prev) rest e)
      (inputs_fine (without live i.prev) (k + 1) is (second_false (has_place (deal_outputs s ts) i.prev) rest e))
    where
      rest : Bool
      rest = list_any (has_place (deal_outputs s ts)) (map (λ (j : TxIn). j.prev) is)

      by_row : has_place (deal_outputs s ts) i.prev ≡ false → inputs_reason s ts false (without live i.prev) (k + 1) is ≡ None
          → inputs_reason s ts false live k (i ∷ is) ≡ None
      by_row apart later =
          rw (apart, any_right (is_there i.prev) (deposit_outputs s) (position_outputs s.advert ts) apart) later

  none_spent : (live : List Output) → AreOurs live → (places : List OutPoint)
      → list_any (has_place (deal_outputs s ts)) places ≡ false → without_all live places ≡ live
  none_spent live ours [] e = refl
  none_spent live ours (place ∷ places) e =
      let here = first_false (has_place (deal_outputs s ts) place) (list_any (has_place (deal_outputs s ts)) places) e in
      let later = second_false (has_place (deal_outputs s ts) place) (list_any (has_place (deal_outputs s ts)) places) e in
      ap (λ (os : List Output). without_all os places) (all_kept (is_there place) live (isnt_live live ours place here))
      ∙ none_spent live ours places later

  none_gone : (live : List Output) → AreOurs live → (places : List OutPoint)
      → list_any (has_place (deal_outputs s ts)) places ≡ false
      → flat_map (λ place. deposit_name (output_there live place)) places ≡ []
  none_gone live ours [] e = refl
  none_gone live ours (place ∷ places) e =
      let here = first_false (has_place (deal_outputs s ts) place) (list_any (has_place (deal_outputs s ts)) places) e in
      let later = second_false (has_place (deal_outputs s ts) place) (list_any (has_place (deal_outputs s ts)) places) e in
      ap (λ (o : Option Output). deposit_name o ++ flat_map (λ p. deposit_name (output_there live p)) places)
      (none_found (is_there place) live (isnt_live live ours place here))
      ∙ none_gone live ours places later

-- it isn't bad, and where the deal stands and what happened stay the same
pub record StaysSame (hash : List ℕ → List ℕ) (s : Instance) (ts : List Transaction) (course : Course) (c : Confirmed) : Type 0 where
  pub isnt_bad : refusal hash s ts course.state c.height c.tx ≡ None
  pub state : (gone_on hash s ts course c).state ≡ course.state
  pub history : (gone_on hash s ts course c).history ≡ course.history

pub stays_same : (hash : List ℕ → List ℕ) (keys : Keys) (s : Instance) (cs : List Confirmed) (course : Course) (c : Confirmed)
    → LeadsTo hash s (transactions hash keys s) (opening_course hash keys s) cs course → IsAside hash s (transactions hash keys s) course.state c.tx
    → StaysSame hash s (transactions hash keys s) course c
stays_same hash keys s cs course c leads a =
    let ts = transactions hash keys s in
    let state = course.state in
    let ours = stay_ours s ts hash cs (opening_course hash keys s) course leads (deposits_ours s ts) in
    let which : which_of s ts c.tx ≡ None
    = ap (λ (o : Option Transaction). option_map (λ (t : Transaction). which_shown s c.tx t.which) o) a.other in
    let made : outputs_made s ts state c.tx ≡ [] = ap (outputs_named s ts state.next) which in
    let live = none_spent s ts state.live ours (places_spent c.tx) a.apart in
    let same : after_transaction hash s ts state c.tx ≡ state
    = λ i. record {
      live = ((λ j. live j ++ filter is_position (made j)) ∙ nothing_more state.live) i;
      next = ((λ j. state.next + length (made j)) ∙ plus_none state.next) i;
      made = ((λ j. state.made ++ made j) ∙ nothing_more state.made) i;
      shown = ((λ j. state.shown ++ map (λ q. (q.0, bytes_or_none (string_shown hash s c.tx (q.0)))) (a.silent j)) ∙ nothing_more state.shown) i;
    } in
    let idle : matters (happened hash s ts state c.height c.tx) ≡ false
    = (λ i. is_some (which i) || (not (length (reveal_steps (a.silent i) ++ which_steps s state c.tx (which i)) == 0)
    || not (length (gone_by state c.tx (which i)) == 0)))
    ∙ ap (λ (xs : List (List ℕ)). not (length xs == 0)) (none_gone s ts state.live ours (places_spent c.tx) a.apart) in
    let history : (gone_on hash s ts course c).history ≡ course.history
    = ap (λ (b : Bool). if_matters b course.history (happened hash s ts state c.height c.tx)) idle in
    record {
      isnt_bad =
          ap (λ (o : Option Transaction). or_else (inputs_reason s ts (is_some o) state.live 0 c.tx.inputs)
          (own_reason hash s ts c.height c.tx o)) a.other
          ∙ ap (λ (r : Option ChainReason). or_else r None) (inputs_fine s ts state.live 0 c.tx.inputs a.apart);
      state = same;
      history = history;
    }
  where
    plus_none : (n : ℕ) → n + 0 ≡ n
    plus_none n = omega arith

pub others_are_read_over : OthersAreReadOver
others_are_read_over hash keys s text course tip c e a =
    let p = (followed_exactly hash keys s text course tip).0 e in
    let r = stays_same hash keys s (read_chain text).confirmed course c p.2 a in
    let same = r.state in
    let history = r.history in
    record {
      isnt_bad = r.isnt_bad;
      state = same;
      text = λ tip given strings. λ i. state_text hash keys s (record { state = same i; history = history i; messages = [] }) tip given strings;
    }
