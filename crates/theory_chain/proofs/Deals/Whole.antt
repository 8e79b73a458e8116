-- What proofs use of a deal that isn't refused.
use Rattle.std.proofs.Common.{◌≡◌, ℕ, List, [], ◌∷◌, ◌++◌, map, true, refl, sym, ap, subst, ◌∙◌, inl, inr}
use Rattle.std.specs.Prelude.{Some, zero, suc, filter, slice_get}
use Rattle.std.specs.List.{flat_map}
use Rattle.spec_data.specs.Hashes.{HashesBytes}
use Rattle.spec_data.specs.Lists.{is_among}
use Rattle.spec_data.specs.Messages.{noted_all}
use Rattle.spec_terms.specs.Faults.{IsWellFormed}
use Rattle.spec_terms.specs.declared.path.PathStep.{PathStep}
use Rattle.spec_bitcoin.specs.declared.label.Label.{Label}
use Rattle.spec_bitcoin.specs.declared.tx.TxIn.{TxIn}
use Rattle.spec_bitcoin.specs.Digests.{txid, txid_strings, shared_strings}
use Rattle.spec_bitcoin.specs.Keys.{IsLabel}
use Rattle.spec_bitcoin.specs.Spelling.{stripped, IsTransaction}
use Rattle.spec_compiler.specs.declared.unsigned.Spent.{Spent}
use Rattle.spec_compiler.specs.declared.unsigned.Unsigned.{Unsigned}
use Rattle.spec_compiler.specs.Keyed.Compilation.{path_transactions, scripts}
use Rattle.spec_compiler.specs.Keyed.Hashed.{spent_strings, unsigned_strings}
use Rattle.spec_compiler.specs.Keyed.Instance.{Instance, people}
use Rattle.spec_compiler.specs.Keyed.Keys.{Keys, key_in}
use Rattle.spec_compiler.specs.Keyed.Statements.{AreKeys}
use Rattle.spec_compiler.specs.Keyed.Transactions.{tx_of, input_of, initial_unsigned, party_script}
use Rattle.spec_tool.specs.Keyed.Listed.{Listed, path_listed, listed}
use Rattle.spec_deal.specs.declared.deal.Needed.TheVariants as needs
use Rattle.spec_deal.specs.DealFile.{is_used}
use Rattle.spec_deal.specs.Hashed.{deal_strings}
use Rattle.spec_deal.specs.Needed.{deal_contract, needed_labels}
use Rattle.spec_deal.specs.Used.{uses_key}
use Rattle.theory_bitcoin.specs.Apart.{bare, bare_input}
use Rattle.theory_bitcoin.proofs.Apart.{stripped_once}
use Rattle.theory_calculus.specs.Members.{Is_in}
use Rattle.theory_world.specs.KeptApart.{NoCollision}
use Rattle.theory_world.proofs.Hashed.{among_head, among_tail, among_left, among_right, all_new}
use Rattle.theory_deal.specs.Finished.{IsApplied}
use Rattle.theory_deal.proofs.Ledger.DifferentOutputs.{AreApart}

-- a deal that is compiled, none of whose strings collide
pub record Whole (hash : List ℕ → List ℕ) (keys : Keys) (s : Instance) : Type 0 where
  pub size : HashesBytes hash
  pub checked : IsWellFormed s.advert
  pub number : s.contract ≡ deal_contract
  pub are_keys : AreKeys hash keys
  pub applied : IsApplied s
  -- no two labels that are used have one key
  pub keys_apart : (a b : Label) → IsLabel a → IsLabel b → Is_in a (needed_labels s.advert) → Is_in b (needed_labels s.advert)
      → is_used keys s.advert (needs.Key a) ≡ true → is_used keys s.advert (needs.Key b) ≡ true
      → key_in hash keys a ≡ key_in hash keys b → a ≡ b
  -- the deposits lie apart, and where no transaction of the deal pays
  pub apart : AreApart hash keys s
  pub spelled : (l : Listed) → Is_in l (listed hash keys s) → IsTransaction (tx_of l.pending)
  pub clear : NoCollision hash (noted_all [] (deal_strings hash keys s))

-- ---- lists

pub from_map : {X Y : Type 0} (f : X → Y) (xs : List X) (y : Y) → Is_in y (map f xs) → (x : X) × Is_in x xs × (y ≡ f x)
from_map f [] y h = absurd h
from_map f (x ∷ xs) y (inl e) = (x, inl refl, e)
from_map f (x ∷ xs) y (inr h) =
    let r = from_map f xs y h in
    (r.0, inr r.1, r.2)

pub in_map : {X Y : Type 0} (f : X → Y) (xs : List X) (x : X) → Is_in x xs → Is_in (f x) (map f xs)
in_map f [] x h = absurd h
in_map f (y ∷ xs) x (inl e) = inl (ap f e)
in_map f (y ∷ xs) x (inr h) = inr (in_map f xs x h)

-- what is in a list stands at some number
pub stands_at : {X : Type 0} (xs : List X) (x : X) → Is_in x xs → (k : ℕ) × (slice_get xs k ≡ Some x)
stands_at [] x h = absurd h
stands_at (y ∷ xs) x (inl e) = (zero, ap Some (sym e))
stands_at (y ∷ xs) x (inr h) =
    let r = stands_at xs x h in
    (suc r.0, r.1)

pub from_stands : {X : Type 0} (xs : List X) (x : X) (k : ℕ) → slice_get xs k ≡ Some x → Is_in x xs
from_stands [] x k e = cc
from_stands (y ∷ xs) x zero e =
    let same : x ≡ y = cc in
    inl same
from_stands (y ∷ xs) x (suc k) e = inr (from_stands xs x k e)

pub among_in : (t : List ℕ) (ts : List (List ℕ)) → Is_in t ts → is_among t ts ≡ true
among_in t [] h = absurd h
among_in t (u ∷ ts) (inl e) = subst (λ (v : List ℕ). is_among t (v ∷ ts) ≡ true) e (among_head t ts)
among_in t (u ∷ ts) (inr h) = among_tail t u ts (among_in t ts h)

among_flat : {X : Type 0} (f : X → List (List ℕ)) (xs : List X) (x : X) (t : List ℕ) → Is_in x xs → is_among t (f x) ≡ true
    → is_among t (flat_map f xs) ≡ true
among_flat f [] x t h k = absurd h
among_flat f (y ∷ xs) x t (inl e) k = among_left t (f y) (flat_map f xs) (subst (λ z. is_among t (f z) ≡ true) e k)
among_flat f (y ∷ xs) x t (inr h) k = among_right t (f y) (flat_map f xs) (among_flat f xs x t h k)

-- ---- what is hashed

module _ (hash : List ℕ → List ℕ) (keys : Keys) (s : Instance) where
  -- the strings of a transaction are among those of the deal
  pub listed_heard : (l : Listed) (t : List ℕ) → Is_in l (listed hash keys s) → is_among t (unsigned_strings hash l.pending) ≡ true
      → is_among t (deal_strings hash keys s) ≡ true
  listed_heard l t h k =
      among_right t (map (party_script hash keys) (filter (uses_key keys s.advert) (people s))) _
      (among_right t (map (λ p. p.1) (scripts hash keys s)) _ (by_place h))
    where
      by_place : Is_in l (listed hash keys s)
          → is_among t (unsigned_strings hash (initial_unsigned hash keys s)
          ++ flat_map (λ p. unsigned_strings hash p.1) (path_transactions hash keys s)) ≡ true
      by_place (inl e) =
          among_left t (unsigned_strings hash (initial_unsigned hash keys s)) _
          (subst (λ (x : Listed). is_among t (unsigned_strings hash x.pending) ≡ true) e k)
      by_place (inr i) =
          let r = from_map (λ (p : List PathStep × Unsigned). path_listed s (p.0) (p.1)) (path_transactions hash keys s) l i in
          among_right t (unsigned_strings hash (initial_unsigned hash keys s)) _
          (among_flat (λ (p : List PathStep × Unsigned). unsigned_strings hash p.1) (path_transactions hash keys s) r.0 t r.1
          (subst (λ (x : Listed). is_among t (unsigned_strings hash x.pending) ≡ true) r.2 k))

  pub script_heard : (p : List PathStep × List ℕ) → Is_in p (scripts hash keys s) → is_among (p.1) (deal_strings hash keys s) ≡ true
  script_heard p h =
      among_right (p.1) (map (party_script hash keys) (filter (uses_key keys s.advert) (people s))) _
      (among_left (p.1) (map (λ q. q.1) (scripts hash keys s)) _
      (among_in (p.1) (map (λ (q : List PathStep × List ℕ). q.1) (scripts hash keys s))
      (in_map (λ (q : List PathStep × List ℕ). q.1) (scripts hash keys s) p h)))

  -- ---- one txid, one transaction

  -- a planned transaction has no witnesses
  bare_inputs : (xs : List Spent) → map bare_input (map input_of xs) ≡ map input_of xs
  bare_inputs [] = refl
  bare_inputs (x ∷ xs) = ap (λ (is : List TxIn). input_of x ∷ is) (bare_inputs xs)

  pub planned_bare : (d : Unsigned) → bare (tx_of d) ≡ tx_of d
  planned_bare d = ap (λ (is : List TxIn). record { version = 2; inputs = is; outputs = d.outputs; lock = d.lock }) (bare_inputs d.spends)

  module _ (whole : Whole hash keys s) where
    pub heard : (t : List ℕ) → is_among t (deal_strings hash keys s) ≡ true → is_among t (noted_all [] (deal_strings hash keys s)) ≡ true
    heard t h = all_new [] (deal_strings hash keys s) t h

    pub same_bytes : (l m : Listed) → Is_in l (listed hash keys s) → Is_in m (listed hash keys s)
        → stripped (tx_of l.pending) ≡ stripped (tx_of m.pending) → tx_of l.pending ≡ tx_of m.pending
    same_bytes l m h k e =
        sym (planned_bare l.pending)
        ∙ stripped_once (tx_of l.pending) (tx_of m.pending) (whole.spelled l h) (whole.spelled m k) e
        ∙ planned_bare m.pending

    -- what is hashed of a transaction besides its txid
    abbrev other_strings : Unsigned → List (List ℕ)
    other_strings d = shared_strings hash (tx_of d) ++ flat_map (spent_strings hash (tx_of d)) d.spends

    first_heard : (l : Listed) → Is_in l (listed hash keys s)
        → is_among (stripped (tx_of l.pending)) (noted_all [] (deal_strings hash keys s)) ≡ true
    first_heard l h =
        let a = stripped (tx_of l.pending) in
        heard a (listed_heard l a h (among_left a (txid_strings hash (tx_of l.pending)) (other_strings l.pending) (among_head a (hash a ∷ []))))

    second_heard : (l : Listed) → Is_in l (listed hash keys s)
        → is_among (hash (stripped (tx_of l.pending))) (noted_all [] (deal_strings hash keys s)) ≡ true
    second_heard l h =
        let a = stripped (tx_of l.pending) in
        heard (hash a)
        (listed_heard l (hash a) h
        (among_left (hash a) (txid_strings hash (tx_of l.pending)) (other_strings l.pending) (among_tail (hash a) a (hash a ∷ []) (among_head (hash a) []))))

    pub same_txid : (l m : Listed) → Is_in l (listed hash keys s) → Is_in m (listed hash keys s)
        → txid hash (tx_of l.pending) ≡ txid hash (tx_of m.pending) → tx_of l.pending ≡ tx_of m.pending
    same_txid l m h k e =
        same_bytes l m h k
        (whole.clear.one (stripped (tx_of l.pending)) (stripped (tx_of m.pending)) (first_heard l h) (first_heard m k)
        (whole.clear.one (hash (stripped (tx_of l.pending))) (hash (stripped (tx_of m.pending))) (second_heard l h) (second_heard m k) e))
