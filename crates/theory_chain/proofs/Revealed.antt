-- What is known of secrets is what was given and what was shown, and the first transaction that shows one has its step.
use Rattle.std.proofs.Common.{◌≡◌, ℕ, ◌≤◌, List, [], ◌∷◌, ◌++◌, length, map, Bool, true, false, Option, Some, None}
use Rattle.std.proofs.Common.{refl, sym, ap, subst, ◌∙◌, inl, inr, cond, arith}
use Rattle.std.specs.Prelude.{◌⊎◌, ◌&&◌, ◌||◌, not, is_some, nat_le, filter}
use Rattle.std.specs.List.{Contains, list_any, find, flat_map}
use Rattle.std.specs.Option.{option_map}
use Rattle.std.specs.Str.{bytes_eq}
use Rattle.std.proofs.lemmas.Bool.{and_from, and_parts}
use Rattle.std.proofs.lemmas.Bool.Decides.{nat_tests}
use Rattle.spec_data.specs.Lists.{is_among, look_up, or_else}
use Rattle.spec_data.specs.Ranges.{least_secret_bytes, most_item_bytes}
use Rattle.spec_terms.specs.Core.{core, is_asked}
use Rattle.spec_terms.specs.Paths.{at}
use Rattle.spec_terms.specs.Precondition.{Holding, persistent, secrets, names_of}
use Rattle.spec_terms.specs.Term as term
use Rattle.spec_terms.specs.Term.{auth, after, put_reveal, withdraw, split}
use Rattle.spec_bitcoin.specs.declared.tx.Tx.{Tx}
use Rattle.spec_bitcoin.specs.declared.tx.TxIn.{TxIn}
use Rattle.spec_bitcoin.specs.Digests.{txid_strings}
use Rattle.spec_calculus.specs.declared.step.Step.{Step}
use Rattle.spec_calculus.specs.declared.step.Step.TheVariants as steps
use Rattle.spec_compiler.specs.Keyed.Instance.{Instance, people}
use Rattle.spec_compiler.specs.Keyed.Keys.{Keys}
use Rattle.spec_compiler.specs.Keyed.Statements.{is_secret}
use Rattle.spec_compiler.specs.Scripts.{digest_of}
use Rattle.spec_run.specs.Steps.{auth_inits, auth_branch, core_step}
use Rattle.spec_tool.specs.declared.which.Which.{Which}
use Rattle.spec_tool.specs.declared.which.Which.TheVariants as names
use Rattle.spec_deal.specs.declared.entry.Shown.{Shown}
use Rattle.spec_deal.specs.declared.transaction.Transaction.{Transaction}
use Rattle.spec_deal.specs.Finished.{bytes_or_none}
use Rattle.spec_deal.specs.Needed.{deal_contract}
use Rattle.spec_deal.specs.SecretFile.{has_length, string_for}
use Rattle.spec_deal.specs.Setting.{deal_keys, deal_instance}
use Rattle.spec_deal.specs.Transactions.{transactions}
use Rattle.theory_calculus.specs.Members.{Is_in}
use Rattle.theory_calculus.proofs.Members.{in_left, in_right, in_append, in_filter, filter_has, in_from_contains, contains_from_in, all_in, found}
use Rattle.theory_calculus.proofs.Names.{bytes-true, bytes_refl, looked_in, in_named, named_looked, different_names}
use Rattle.theory_script.proofs.Keyed.Stands.{some_same}
use Rattle.theory_world.proofs.Hashed.{all_more, all_new, among_right}
use Rattle.theory_deal.specs.SigningOrder.{IsAscending}
use Rattle.spec_chain.specs.declared.reading.Confirmed.{Confirmed}
use Rattle.spec_chain.specs.Chain.{Course, gone_on, opening_course, transaction_strings}
use Rattle.spec_chain.specs.ChainFile.{read_chain}
use Rattle.spec_chain.specs.Following.{State, items_in, is_string_of, string_shown, is_newly_shown, newly_shown, strings_shown, reveal_steps, begin_steps, branch_steps, first_spent, selected, which_steps, steps_of, which_of}
use Rattle.spec_chain.specs.Outstanding.{known}
use Rattle.theory_chain.specs.Follows.{LeadsTo}
use Rattle.theory_chain.specs.Revealed.{ShowsString, IsShownBy, SecretsExactly, IsFirst, RevealedExactly, RevealedOnce}
use Rattle.theory_run.proofs.Accepted.Tested.{secrets_different}
use Rattle.theory_chain.proofs.Ascending.{ascend_then, ascend_map, AreApart, names_apart}
use Rattle.theory_chain.proofs.ChainRuns.{chain_kept}
use Rattle.theory_chain.proofs.Courses.{followed_exactly}
use Rattle.theory_chain.proofs.GoingOn.{find_there}
use Rattle.theory_chain.proofs.Needs.{in_flat}
use Rattle.theory_chain.proofs.RequirementOrder.{ascend_filter}
use Rattle.theory_chain.proofs.Deals.Outputs.{any_there, there_of}
use Rattle.theory_chain.proofs.Deals.Taken.{whole_deal}
use Rattle.theory_chain.proofs.Deals.Whole.{among_in, from_map, in_map}
use Rattle.theory_chain.proofs.Runs.Kept.{Kept}

-- ---- lists

from_flat : {X Y : Type 0} (f : X → List Y) (xs : List X) (y : Y) → Is_in y (flat_map f xs) → (x : X) × Is_in x xs × Is_in y (f x)
from_flat f [] y h = absurd h
from_flat f (x ∷ xs) y h = by_place (in_append y (f x) (flat_map f xs) h) (from_flat f xs y)
  where
    by_place : Is_in y (f x) ⊎ Is_in y (flat_map f xs) → (Is_in y (flat_map f xs) → (z : _) × Is_in z xs × Is_in y (f z))
        → (z : _) × Is_in z (x ∷ xs) × Is_in y (f z)
    by_place (inl i) later = (x, inl refl, i)
    by_place (inr i) later =
        let r = later i in
        (r.0, inr r.1, r.2)

look_append : {V : Type 0} (name : List ℕ) (ps qs : List (List ℕ × V)) → look_up name (ps ++ qs) ≡ or_else (look_up name ps) (look_up name qs)
look_append name [] qs = refl
look_append name (p ∷ ps) qs = by_test (bytes_eq (p.0) name) (look_append name ps qs)
  where
    by_test : (b : Bool) → look_up name (ps ++ qs) ≡ or_else (look_up name ps) (look_up name qs)
        → cond b (Some (p.1)) (look_up name (ps ++ qs)) ≡ or_else (cond b (Some (p.1)) (look_up name ps)) (look_up name qs)
    by_test true e = refl
    by_test false e = e

from_le : (m n : ℕ) → nat_le m n ≡ true → m ≤ n
from_le m n h = grind (arith, nat_tests, h)

to_le : (m n : ℕ) → m ≤ n → nat_le m n ≡ true
to_le m n h = grind (arith, nat_tests, h)

or_assoc : (a b c : Bool) → ((a || b) || c) ≡ (a || (b || c))
or_assoc true b c = refl
or_assoc false b c = refl

or_false : (b : Bool) → b ≡ (b || false)
or_false true = refl
or_false false = refl

from_not : (b : Bool) → not b ≡ true → b ≡ false
from_not true e = cc
from_not false e = refl

some_none : {A : Type 0} (o : Option A) → o ≡ None → is_some o ≡ true → ⊥
some_none None e f = cc
some_none (Some x) e f = cc

some_of : {A : Type 0} (o : Option A) → is_some o ≡ true → (x : A) × (o ≡ Some x)
some_of None e = cc
some_of (Some x) e = (x, refl)

both_ways : (b : Bool) → b ≡ false → b ≡ true → ⊥
both_ways true e f = cc
both_ways false e f = cc

abbrev as_shown : List ℕ × List ℕ → Shown
as_shown p = record { line = 0; name = p.0; bytes = p.1 }

-- ---- what a transaction shows

module _ (hash : List ℕ → List ℕ) (s : Instance) where
  shows_of : (tx : Tx) (name bytes : List ℕ) → string_shown hash s tx name ≡ Some bytes → ShowsString hash s tx name bytes
  shows_of tx name bytes e =
      let r = found (is_string_of hash (digest_of s.hashes name)) (items_in tx) bytes e in
      let f = from_flat (λ (i : TxIn). i.witness) tx.inputs bytes r.0 in
      let a = and_parts (has_length bytes) (bytes_eq (hash bytes) (digest_of s.hashes name)) r.1 in
      let b = and_parts (nat_le least_secret_bytes (length bytes)) (nat_le (length bytes) most_item_bytes) a.0 in
      record {
        input = f.0;
        among = contains_from_in tx.inputs f.0 f.1;
        item = contains_from_in f.0.witness bytes f.2;
        least = from_le least_secret_bytes (length bytes) b.0;
        most = from_le (length bytes) most_item_bytes b.1;
        fits = bytes-true (hash bytes) (digest_of s.hashes name) a.1;
      }

  item_of : (tx : Tx) (name bytes : List ℕ) → ShowsString hash s tx name bytes → Is_in bytes (items_in tx)
  item_of tx name bytes h =
      in_flat (λ (i : TxIn). i.witness) tx.inputs h.input bytes (in_from_contains tx.inputs h.input h.among)
      (in_from_contains h.input.witness bytes h.item)

  shown_of : (tx : Tx) (name bytes : List ℕ) → ShowsString hash s tx name bytes → is_some (string_shown hash s tx name) ≡ true
  shown_of tx name bytes h =
      let fits : is_string_of hash (digest_of s.hashes name) bytes ≡ true =
      and_from (has_length bytes) _
      (and_from (nat_le least_secret_bytes (length bytes)) _ (to_le least_secret_bytes (length bytes) h.least) (to_le (length bytes) most_item_bytes h.most))
      (ap (λ (x : List ℕ). bytes_eq x (digest_of s.hashes name)) h.fits ∙ bytes_refl (digest_of s.hashes name)) in
      let r = find_there (is_string_of hash (digest_of s.hashes name)) (items_in tx) bytes (item_of tx name bytes h) fits in
      ap is_some r.1

  -- ---- what is shown so far

  module _ (name party : List ℕ) (secret : Is_in (name, party) (secrets s.advert.pre)) where
    one_more : (state : State) (tx : Tx)
        → is_some (look_up name (state.shown ++ strings_shown hash s state tx)) ≡ (is_some (look_up name state.shown) || is_some (string_shown hash s tx name))
    one_more state tx =
        ap is_some (look_append name state.shown (strings_shown hash s state tx)) ∙ by_old (look_up name state.shown) refl
      where
        by_new : look_up name state.shown ≡ None → (o : Option (List ℕ)) → string_shown hash s tx name ≡ o
            → is_some (look_up name (strings_shown hash s state tx)) ≡ is_some o
        by_new e (Some b) f =
            let test : is_newly_shown hash s state tx name ≡ true = λ i. not (is_some (e i)) && is_some (f i) in
            let new = filter_has (λ (p : List ℕ × List ℕ). is_newly_shown hash s state tx (p.0)) (secrets s.advert.pre) (name, party) secret test in
            let there = in_map (λ (p : List ℕ × List ℕ). (p.0, bytes_or_none (string_shown hash s tx (p.0)))) (newly_shown hash s state tx) (name, party) new in
            let v = named_looked (strings_shown hash s state tx) name
            (in_named (strings_shown hash s state tx) (name, bytes_or_none (string_shown hash s tx name)) there) in
            ap is_some v.1
        by_new e None f = by_look (look_up name (strings_shown hash s state tx)) refl
          where
            by_look : (o : Option (List ℕ)) → look_up name (strings_shown hash s state tx) ≡ o → is_some o ≡ false
            by_look None g = refl
            by_look (Some v) g =
                let p = from_map (λ (q : List ℕ × List ℕ). (q.0, bytes_or_none (string_shown hash s tx (q.0)))) (newly_shown hash s state tx) (name, v)
                (looked_in (strings_shown hash s state tx) name v g) in
                let n = in_filter (λ (q : List ℕ × List ℕ). is_newly_shown hash s state tx (q.0)) (secrets s.advert.pre) p.0 p.1 in
                let same : name ≡ p.0.0 = ap (λ (q : List ℕ × List ℕ). q.0) p.2 in
                let some = (and_parts (not (is_some (look_up (p.0.0) state.shown))) (is_some (string_shown hash s tx (p.0.0))) n.1).1 in
                absurd (some_none (string_shown hash s tx name) f (ap (λ (x : List ℕ). is_some (string_shown hash s tx x)) same ∙ some))

        by_old : (o : Option (List ℕ)) → look_up name state.shown ≡ o
            → is_some (or_else o (look_up name (strings_shown hash s state tx))) ≡ (is_some o || is_some (string_shown hash s tx name))
        by_old (Some b) e = refl
        by_old None e = by_new e (string_shown hash s tx name) refl

    abbrev shows_it : Confirmed → Bool
    shows_it c = is_some (string_shown hash s c.tx name)

    shown_along : (ts : List Transaction) (cs : List Confirmed) (course last : Course) → LeadsTo hash s ts course cs last
        → is_some (look_up name last.state.shown) ≡ (is_some (look_up name course.state.shown) || list_any shows_it cs)
    shown_along ts [] course last h =
        ap (λ (c : Course). is_some (look_up name c.state.shown)) h ∙ or_false (is_some (look_up name course.state.shown))
    shown_along ts (c ∷ cs) course last h =
        shown_along ts cs (gone_on hash s ts course c) last h.2
        ∙ ap (λ (b : Bool). b || list_any shows_it cs) (one_more course.state c.tx)
        ∙ or_assoc (is_some (look_up name course.state.shown)) (shows_it c) (list_any shows_it cs)

  -- ---- where a string comes from

  from_shown : (ts : List Transaction) (name bytes : List ℕ) (cs : List Confirmed) (course last : Course) → LeadsTo hash s ts course cs last
      → Is_in (name, bytes) last.state.shown
      → Is_in (name, bytes) course.state.shown ⊎ ((c : Confirmed) × Is_in c cs × (string_shown hash s c.tx name ≡ Some bytes))
  from_shown ts name bytes [] course last h i = inl (subst (λ (c : Course). Is_in (name, bytes) c.state.shown) h i)
  from_shown ts name bytes (c ∷ cs) course last h i = by_place (from_shown ts name bytes cs (gone_on hash s ts course c) last h.2 i)
    where
      by_string : (o : Option (List ℕ)) → is_some o ≡ true → bytes ≡ bytes_or_none o → o ≡ Some bytes
      by_string None e f = cc
      by_string (Some x) e f = ap Some (sym f)

      by_new : Is_in (name, bytes) course.state.shown ⊎ Is_in (name, bytes) (strings_shown hash s course.state c.tx)
          → Is_in (name, bytes) course.state.shown ⊎ ((d : Confirmed) × Is_in d (c ∷ cs) × (string_shown hash s d.tx name ≡ Some bytes))
      by_new (inl j) = inl j
      by_new (inr j) =
          let p = from_map (λ (q : List ℕ × List ℕ). (q.0, bytes_or_none (string_shown hash s c.tx (q.0))))
          (newly_shown hash s course.state c.tx) (name, bytes) j in
          let n = in_filter (λ (q : List ℕ × List ℕ). is_newly_shown hash s course.state c.tx (q.0)) (secrets s.advert.pre) p.0 p.1 in
          let same : name ≡ p.0.0 = ap (λ (q : List ℕ × List ℕ). q.0) p.2 in
          let some = (and_parts (not (is_some (look_up (p.0.0) course.state.shown))) (is_some (string_shown hash s c.tx (p.0.0))) n.1).1 in
          let value : bytes ≡ bytes_or_none (string_shown hash s c.tx (p.0.0)) = ap (λ (q : List ℕ × List ℕ). q.1) p.2 in
          inr (c, inl refl, ap (string_shown hash s c.tx) same ∙ by_string (string_shown hash s c.tx (p.0.0)) some value)

      by_place : Is_in (name, bytes) (gone_on hash s ts course c).state.shown
          ⊎ ((d : Confirmed) × Is_in d cs × (string_shown hash s d.tx name ≡ Some bytes))
          → Is_in (name, bytes) course.state.shown ⊎ ((d : Confirmed) × Is_in d (c ∷ cs) × (string_shown hash s d.tx name ≡ Some bytes))
      by_place (inl j) = by_new (in_append (name, bytes) course.state.shown (strings_shown hash s course.state c.tx) j)
      by_place (inr r) = inr (r.0, inr r.1, r.2)

  -- each item of a witness was hashed
  messages_more : (ts : List Transaction) (t : List ℕ) (cs : List Confirmed) (course last : Course) → LeadsTo hash s ts course cs last
      → is_among t course.messages ≡ true → is_among t last.messages ≡ true
  messages_more ts t [] course last h i = subst (λ (c : Course). is_among t c.messages ≡ true) (sym h) i
  messages_more ts t (c ∷ cs) course last h i =
      messages_more ts t cs (gone_on hash s ts course c) last h.2 (all_more course.messages (transaction_strings hash c.tx) t i)

  item_heard : (ts : List Transaction) (t : List ℕ) (cs : List Confirmed) (course last : Course) → LeadsTo hash s ts course cs last
      → (d : Confirmed) → Is_in d cs → Is_in t (items_in d.tx) → is_among t last.messages ≡ true
  item_heard ts t [] course last h d i j = absurd i
  item_heard ts t (c ∷ cs) course last h d (inl e) j =
      messages_more ts t cs (gone_on hash s ts course c) last h.2
      (all_new course.messages (transaction_strings hash c.tx) t
      (among_right t (txid_strings hash c.tx) (items_in c.tx)
      (among_in t (items_in c.tx) (subst (λ (x : Confirmed). Is_in t (items_in x.tx)) e j))))
  item_heard ts t (c ∷ cs) course last h d (inr i) j = item_heard ts t cs (gone_on hash s ts course c) last h.2 d i j

-- ---- what is known

string_known : (name : List ℕ) (shown : List (List ℕ × List ℕ)) (strings : List Shown)
    → string_for (map (λ (p : List ℕ × List ℕ). as_shown p) shown ++ strings) name ≡ or_else (look_up name shown) (string_for strings name)
string_known name [] strings = refl
string_known name (p ∷ shown) strings = by_test (bytes_eq (p.0) name) (string_known name shown strings)
  where
    by_test : (b : Bool)
        → string_for (map (λ (q : List ℕ × List ℕ). as_shown q) shown ++ strings) name ≡ or_else (look_up name shown) (string_for strings name)
        → option_map (λ (x : Shown). x.bytes)
        (cond b (Some (as_shown p)) (find (λ (x : Shown). bytes_eq x.name name) (map (λ (q : List ℕ × List ℕ). as_shown q) shown ++ strings)))
        ≡ or_else (cond b (Some (p.1)) (look_up name shown)) (string_for strings name)
    by_test true e = refl
    by_test false e = e

-- the entry of a string that is given
record Entry (strings : List Shown) (name bytes : List ℕ) : Type 0 where
  entry : Shown
  among : Is_in entry strings
  called : entry.name ≡ name
  value : entry.bytes ≡ bytes

entry_of : (strings : List Shown) (name bytes : List ℕ) → string_for strings name ≡ Some bytes → Entry strings name bytes
entry_of strings name bytes e = by_entry (find (λ (x : Shown). bytes_eq x.name name) strings) refl e
  where
    by_entry : (o : Option Shown) → find (λ (x : Shown). bytes_eq x.name name) strings ≡ o → option_map (λ (x : Shown). x.bytes) o ≡ Some bytes
        → Entry strings name bytes
    by_entry None f g = cc
    by_entry (Some x) f g =
        let r = found (λ (y : Shown). bytes_eq y.name name) strings x f in
        record { entry = x; among = r.0; called = bytes-true x.name name r.1; value = some_same g }

pub secrets_exactly : SecretsExactly
secrets_exactly v hash advert deal text course tip strings name bytes d followed fits one secret = (λ e. to (look_up name course.state.shown) refl e, from)
  where
    keys : Keys
    keys = deal_keys deal

    s : Instance
    s = deal_instance advert deal

    ts : List Transaction
    ts = transactions hash (deal_keys deal) (deal_instance advert deal)

    kept : Kept hash (deal_keys deal) (deal_instance advert deal) course
    kept = chain_kept hash (deal_keys deal) (deal_instance advert deal) text course tip followed (whole_deal v hash advert deal d)

    leads : LeadsTo hash (deal_instance advert deal) (transactions hash (deal_keys deal) (deal_instance advert deal))
        (opening_course hash (deal_keys deal) (deal_instance advert deal)) (read_chain text).confirmed course
    leads = ((followed_exactly hash (deal_keys deal) (deal_instance advert deal) text course tip).0 followed).2

    known_is : string_for (known course.state strings) name ≡ or_else (look_up name course.state.shown) (string_for strings name)
    known_is = string_known name course.state.shown strings

    to : (o : Option (List ℕ)) → look_up name course.state.shown ≡ o → string_for (known course.state strings) name ≡ Some bytes
        → (string_for strings name ≡ Some bytes) ⊎ IsShownBy hash (deal_instance advert deal) (read_chain text).confirmed name bytes
    to None e h = inl (sym (known_is ∙ ap (λ (x : Option (List ℕ)). or_else x (string_for strings name)) e) ∙ h)
    to (Some b) e h =
        let same : b ≡ bytes = some_same (sym (known_is ∙ ap (λ (x : Option (List ℕ)). or_else x (string_for strings name)) e) ∙ h) in
        by_place (from_shown hash (deal_instance advert deal)
        (transactions hash (deal_keys deal) (deal_instance advert deal)) name bytes (read_chain text).confirmed
        (opening_course hash (deal_keys deal) (deal_instance advert deal)) course leads
        (subst (λ (x : List ℕ). Is_in (name, x) course.state.shown) same (looked_in course.state.shown name b e)))
      where
        by_place : Is_in {A = List ℕ × List ℕ} (name, bytes)
            [] ⊎ ((c : Confirmed) × Is_in c (read_chain text).confirmed × (string_shown hash (deal_instance advert deal) c.tx name ≡ Some bytes))
            → (string_for strings name ≡ Some bytes) ⊎ IsShownBy hash (deal_instance advert deal) (read_chain text).confirmed name bytes
        by_place (inl i) = absurd i
        by_place (inr r) =
            inr (record {
              by_which = r.0;
              listed = contains_from_in (read_chain text).confirmed r.0 r.1;
              shows = shows_of hash (deal_instance advert deal) r.0.tx name bytes r.2;
            })

    -- a string that was shown is the only one
    one_shown : (b : List ℕ) → look_up name course.state.shown ≡ Some b → b ≡ bytes → string_for (known course.state strings) name ≡ Some bytes
    one_shown b e same = known_is ∙ ap (λ (x : Option (List ℕ)). or_else x (string_for strings name)) e ∙ ap Some same

    by_given : string_for strings name ≡ Some bytes → (o : Option (List ℕ)) → look_up name course.state.shown ≡ o
        → string_for (known course.state strings) name ≡ Some bytes
    by_given g None e = known_is ∙ ap (λ (x : Option (List ℕ)). or_else x (string_for strings name)) e ∙ g
    by_given g (Some b) e =
        let x = as_shown (name, b) in
        let y = entry_of strings name bytes g in
        let olds = map (λ (p : List ℕ × List ℕ). as_shown p) course.state.shown in
        let i : Is_in x (known course.state strings) = in_left x olds strings
        (in_map (λ (p : List ℕ × List ℕ). as_shown p) course.state.shown (name, b) (looked_in course.state.shown name b e)) in
        let j : Is_in y.entry (known course.state strings) = in_right y.entry olds strings y.among in
        let there = (kept.shown name b e).fits in
        let good = all_in (λ (z : Shown). is_secret hash z.bytes (digest_of (deal_instance advert deal).hashes z.name)) strings y.entry fits y.among in
        let digest = bytes-true (hash y.entry.bytes) (digest_of (deal_instance advert deal).hashes y.entry.name)
        (and_parts (nat_le least_secret_bytes (length y.entry.bytes) && nat_le (length y.entry.bytes) most_item_bytes)
        (bytes_eq (hash y.entry.bytes) (digest_of (deal_instance advert deal).hashes y.entry.name)) good).1 in
        one_shown b e
        (one x y.entry (contains_from_in (known course.state strings) x i) (contains_from_in (known course.state strings) y.entry j)
        (there ∙ sym (digest ∙ ap (digest_of (deal_instance advert deal).hashes) y.called))
        ∙ y.value)

    by_shown : IsShownBy hash (deal_instance advert deal) (read_chain text).confirmed name bytes → string_for (known course.state strings) name ≡ Some bytes
    by_shown h =
        let p = named_looked (secrets (deal_instance advert deal).advert.pre) name secret in
        let among = looked_in (secrets (deal_instance advert deal).advert.pre) name p.0 p.1 in
        let c = in_from_contains (read_chain text).confirmed h.by_which h.listed in
        let some = shown_along hash (deal_instance advert deal) name p.0 among (transactions hash (deal_keys deal) (deal_instance advert deal))
        (read_chain text).confirmed (opening_course hash (deal_keys deal) (deal_instance advert deal)) course leads
        ∙ any_there (λ (x : Confirmed). is_some (string_shown hash (deal_instance advert deal) x.tx name)) (read_chain text).confirmed h.by_which c
        (shown_of hash (deal_instance advert deal) h.by_which.tx name bytes h.shows) in
        let b = some_of (look_up name course.state.shown) some in
        let is = kept.shown name b.0 b.1 in
        one_shown b.0 b.1
        (kept.clear.one b.0 bytes is.among
        (item_heard hash (deal_instance advert deal) (transactions hash (deal_keys deal) (deal_instance advert deal)) bytes (read_chain text).confirmed
        (opening_course hash (deal_keys deal) (deal_instance advert deal)) course leads h.by_which c
        (item_of hash (deal_instance advert deal) h.by_which.tx name bytes h.shows))
        (is.fits ∙ sym h.shows.fits))

    from : (string_for strings name ≡ Some bytes) ⊎ IsShownBy hash (deal_instance advert deal) (read_chain text).confirmed name bytes
        → string_for (known course.state strings) name ≡ Some bytes
    from (inl g) = by_given g (look_up name course.state.shown) refl
    from (inr h) = by_shown h

-- ---- steps

module _ (s : Instance) (party name : List ℕ) where
  abbrev Reveals : List Step → Type 0
  Reveals ss = Is_in (steps.Reveal deal_contract party name) ss

  not_authorised : (ds : List (List ℕ × Holding)) → Reveals (auth_inits deal_contract ds) → ⊥
  not_authorised [] h = h
  not_authorised (d ∷ ds) (inl e) = cc
  not_authorised (d ∷ ds) (inr h) = not_authorised ds h

  not_agreed : (n i : ℕ) (ps : List (List ℕ)) → Reveals (map (auth_branch n i) ps) → ⊥
  not_agreed n i [] h = h
  not_agreed n i (p ∷ ps) (inl e) = cc
  not_agreed n i (p ∷ ps) (inr h) = not_agreed n i ps h

  not_taken : (n i : ℕ) (c : term.Guarded) → Reveals (core_step n i c) → ⊥
  not_taken n i (put_reveal puts reveals test next) (inl e) = cc
  not_taken n i (put_reveal puts reveals test next) (inr h) = h
  not_taken n i (withdraw p) (inl e) = cc
  not_taken n i (withdraw p) (inr h) = h
  not_taken n i (split parts) (inl e) = cc
  not_taken n i (split parts) (inr h) = h
  not_taken n i (auth p body) h = h
  not_taken n i (after height body) h = h

  not_begun : Reveals (begin_steps s) → ⊥
  not_begun h =
      by_place (in_append (steps.Reveal deal_contract party name) (auth_inits deal_contract (persistent s.advert.pre)) (steps.Init deal_contract ∷ []) h)
    where
      by_place : Reveals (auth_inits deal_contract (persistent s.advert.pre)) ⊎ Reveals (steps.Init deal_contract ∷ []) → ⊥
      by_place (inl i) = not_authorised (persistent s.advert.pre) i
      by_place (inr (inl e)) = cc
      by_place (inr (inr i)) = i

  not_gone : (n i : ℕ) (o : Option term.Guarded) → Reveals (branch_steps s n i o) → ⊥
  not_gone n i None h = h
  not_gone n i (Some b) h =
      by_place (in_append (steps.Reveal deal_contract party name) (map (auth_branch n i) (filter (is_asked b) (people s))) (core_step n i (core b)) h)
    where
      by_place : Reveals (map (auth_branch n i) (filter (is_asked b) (people s))) ⊎ Reveals (core_step n i (core b)) → ⊥
      by_place (inl j) = not_agreed n i (filter (is_asked b) (people s)) j
      by_place (inr j) = not_taken n i (core b) j

  not_which : (state : State) (tx : Tx) (o : Option Which) → Reveals (which_steps s state tx o) → ⊥
  not_which state tx None h = h
  not_which state tx (Some names.Init) h = not_begun h
  not_which state tx (Some (names.At path)) h = not_gone (first_spent state tx.inputs) (selected s tx path) (at s.advert.root path) h

pub revealed_exactly : RevealedExactly
revealed_exactly hash keys s text course c name party there = (to, from)
  where
    ts : List Transaction
    ts = transactions hash keys s

    step : Step
    step = steps.Reveal deal_contract party name

    reveals : List Step
    reveals = reveal_steps (newly_shown hash s course.state c.tx)

    others : List Step
    others = which_steps s course.state c.tx (which_of s (transactions hash keys s) c.tx)

    -- whether it was shown before
    shown_before : Is_in (name, party) (secrets s.advert.pre)
        → is_some (look_up name course.state.shown) ≡ list_any (λ (d : Confirmed). is_some (string_shown hash s d.tx name)) there.before
    shown_before secret =
        shown_along hash s name party secret (transactions hash keys s) there.before (opening_course hash keys s) course there.leads

    new_of : Is_in (steps.Reveal deal_contract party name) (reveal_steps (newly_shown hash s course.state c.tx))
        → Is_in (name, party) (newly_shown hash s course.state c.tx)
    new_of h =
        let p = from_map (λ (q : List ℕ × List ℕ). steps.Reveal deal_contract (q.1) (q.0))
        (newly_shown hash s course.state c.tx) (steps.Reveal deal_contract party name) h in
        let one : name ≡ p.0.0 = name_of p.2 in
        let two : party ≡ p.0.1 = party_of p.2 in
        subst (λ (q : List ℕ × List ℕ). Is_in q (newly_shown hash s course.state c.tx)) (λ i. (sym one i, sym two i)) p.1
      where
        name_of : {a b x y : List ℕ} → steps.Reveal deal_contract a x ≡ steps.Reveal deal_contract b y → x ≡ y
        name_of e = cc

        party_of : {a b x y : List ℕ} → steps.Reveal deal_contract a x ≡ steps.Reveal deal_contract b y → a ≡ b
        party_of e = cc

    first_of : Is_in (name, party) (newly_shown hash s course.state c.tx) → IsFirst hash s there.before c.tx name party
    first_of h =
        let n = in_filter (λ (q : List ℕ × List ℕ). is_newly_shown hash s course.state c.tx (q.0)) (secrets s.advert.pre) (name, party) h in
        let a = and_parts (not (is_some (look_up name course.state.shown))) (is_some (string_shown hash s c.tx name)) n.1 in
        let b = some_of (string_shown hash s c.tx name) a.1 in
        record {
          secret = contains_from_in (secrets s.advert.pre) (name, party) n.0;
          bytes = b.0;
          shows = shows_of hash s c.tx name b.0 b.1;
          none_before = λ other g.
              both_ways (list_any (λ (d : Confirmed). is_some (string_shown hash s d.tx name)) there.before)
              (sym (shown_before n.0) ∙ from_not (is_some (look_up name course.state.shown)) a.0)
              (any_there (λ (d : Confirmed). is_some (string_shown hash s d.tx name)) there.before g.by_which
              (in_from_contains there.before g.by_which g.listed) (shown_of hash s g.by_which.tx name other g.shows));
        }

    to : Contains (steps_of hash s (transactions hash keys s) course.state c.tx) (steps.Reveal deal_contract party name)
        → IsFirst hash s there.before c.tx name party
    to h = by_place (in_append step reveals others (in_from_contains (reveals ++ others) step h))
      where
        by_place : Is_in (steps.Reveal deal_contract party name) (reveal_steps (newly_shown hash s course.state c.tx))
            ⊎ Is_in (steps.Reveal deal_contract party name) (which_steps s course.state c.tx (which_of s (transactions hash keys s) c.tx))
            → IsFirst hash s there.before c.tx name party
        by_place (inl i) = first_of (new_of i)
        by_place (inr i) = absurd (not_which s party name course.state c.tx (which_of s (transactions hash keys s) c.tx) i)

    unshown : (f : IsFirst hash s there.before c.tx name party) → is_some (look_up name course.state.shown) ≡ false
    unshown f =
        shown_before (in_from_contains (secrets s.advert.pre) (name, party) f.secret)
        ∙ by_test (list_any (λ (d : Confirmed). is_some (string_shown hash s d.tx name)) there.before) refl
      where
        by_test : (b : Bool) → list_any (λ (d : Confirmed). is_some (string_shown hash s d.tx name)) there.before ≡ b → b ≡ false
        by_test false e = refl
        by_test true e =
            let d = there_of (λ (x : Confirmed). is_some (string_shown hash s x.tx name)) there.before e in
            let b = some_of (string_shown hash s d.0.tx name) d.2 in
            absurd (f.none_before b.0 (record {
              by_which = d.0;
              listed = contains_from_in there.before d.0 d.1;
              shows = shows_of hash s d.0.tx name b.0 b.1;
            }))

    from : IsFirst hash s there.before c.tx name party
        → Contains (steps_of hash s (transactions hash keys s) course.state c.tx) (steps.Reveal deal_contract party name)
    from f =
        let secret = in_from_contains (secrets s.advert.pre) (name, party) f.secret in
        let test = and_from (not (is_some (look_up name course.state.shown))) _ (ap not (unshown f)) (shown_of hash s c.tx name f.bytes f.shows) in
        let new = filter_has (λ (q : List ℕ × List ℕ). is_newly_shown hash s course.state c.tx (q.0)) (secrets s.advert.pre) (name, party) secret test in
        contains_from_in (reveals ++ others) step
        (in_left step reveals others
        (in_map (λ (q : List ℕ × List ℕ). steps.Reveal deal_contract (q.1) (q.0)) (newly_shown hash s course.state c.tx) (name, party) new))

-- ---- once

name_there : (ps : List (List ℕ × List ℕ)) (p : List ℕ × List ℕ) → Is_in p ps → Is_in (p.0) (names_of ps)
name_there [] p h = absurd h
name_there (q ∷ ps) p (inl e) = inl (ap (λ (x : List ℕ × List ℕ). x.0) e)
name_there (q ∷ ps) p (inr h) = inr (name_there ps p h)

pairs_apart : (ps : List (List ℕ × List ℕ)) → AreApart (names_of ps) → IsAscending (λ (p q : List ℕ × List ℕ). p.0 ≡ q.0 → ⊥) ps
pairs_apart [] h = tt
pairs_apart (p ∷ ps) h = (λ q i e. h.0 (q.0) (name_there ps q i) e, pairs_apart ps h.1)

pub revealed_once : RevealedOnce
revealed_once hash s state tx well =
    let shown = newly_shown hash s state tx in
    let step : List ℕ × List ℕ → Step = λ p. steps.Reveal deal_contract (p.1) (p.0) in
    let different = secrets_different s.advert.pre (different_names s.advert well) in
    ascend_map (λ (a b : Step). a ≡ b → ⊥) step shown
    (ascend_then (λ (p q : List ℕ × List ℕ). p.0 ≡ q.0 → ⊥) (λ p q. step p ≡ step q → ⊥) shown (λ p q f e. f (name_of e))
    (ascend_filter (λ (p q : List ℕ × List ℕ). p.0 ≡ q.0 → ⊥) (λ (p : List ℕ × List ℕ). is_newly_shown hash s state tx (p.0)) (secrets s.advert.pre)
    (pairs_apart (secrets s.advert.pre) (names_apart (names_of (secrets s.advert.pre)) different))))
  where
    name_of : {a b x y : List ℕ} → steps.Reveal deal_contract a x ≡ steps.Reveal deal_contract b y → x ≡ y
    name_of e = cc
