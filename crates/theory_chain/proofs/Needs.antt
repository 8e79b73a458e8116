-- A transaction for which nothing is missing is finished, final and funded.
use Rattle.std.proofs.Common.{◌≡◌, ℕ, ◌+◌, ◌≤◌, List, [], ◌∷◌, ◌++◌, length, map, Bool, true, false, Option, Some, None, refl, sym, ap, subst, ◌∙◌, cond, arith, inl, inr}
use Rattle.std.specs.Prelude.{◌⊎◌, if◌then◌else◌, option_map, not, ◌&&◌, ◌||◌, ◌==◌, nat_lt, filter, is_some}
use Rattle.std.specs.List.{list_all, list_any, flat_map}
use Rattle.std.proofs.lemmas.Bool.{and_from}
use Rattle.std.proofs.lemmas.Bool.Decides.{nat_tests}
use Rattle.spec_terms.specs.Advert.{Advert}
use Rattle.spec_terms.specs.Term as term
use Rattle.spec_terms.specs.Paths.{path_eq}
use Rattle.spec_terms.specs.PathSameness.{path_eq-Decides}
use Rattle.spec_terms.specs.declared.path.PathStep.{PathStep}
use Rattle.spec_bitcoin.specs.declared.label.Label.{Label}
use Rattle.spec_compiler.specs.Keyed.Keys.{Keys}
use Rattle.spec_compiler.specs.Keyed.Instance.{Instance}
use Rattle.spec_compiler.specs.declared.unsigned.Spent.{Spent}
use Rattle.spec_compiler.specs.declared.unsigned.Unsigned.{Unsigned}
use Rattle.spec_compiler.specs.Keyed.Compilation.{path_transactions}
use Rattle.spec_compiler.specs.Keyed.ByPath.{unsigned_at}
use Rattle.spec_run.specs.Firing.{revealed_by}
use Rattle.spec_tool.specs.declared.which.Which.{Which}
use Rattle.spec_tool.specs.declared.which.Which.TheVariants as names
use Rattle.spec_tool.specs.Keyed.Listed.{Listed, listed, listed_at, path_listed, same_which}
use Rattle.spec_deal.specs.declared.entry.Shown.{Shown}
use Rattle.spec_deal.specs.declared.finish.FinishRefusal.TheVariants as refusals
use Rattle.spec_deal.specs.declared.signed.Signed.{Signed}
use Rattle.spec_deal.specs.declared.transaction.Transaction.{Transaction}
use Rattle.spec_deal.specs.Finished.{which_branch, predicate_holds, predicate_refusal}
use Rattle.spec_deal.specs.Given.{has, missing, endorsements, may_start}
use Rattle.spec_deal.specs.SecretFile.{string_for}
use Rattle.spec_deal.specs.Slots.{Slot, slots, input_slots, slots_from, listed_slots, is_endorsement}
use Rattle.spec_deal.specs.Transactions.{transaction, transactions}
use Rattle.theory_calculus.specs.Members.{Is_in}
use Rattle.theory_calculus.proofs.Members.{in_left, in_right, in_append, in_filter, filter_has}
use Rattle.theory_script.specs.Keyed.Listed.{at_path}
use Rattle.theory_deal.proofs.ByName.{listed_in, listed_path}
use Rattle.theory_deal.specs.Whole.{FinishesExactly}
use Rattle.spec_chain.specs.declared.requirement.Requirement.TheVariants as requirements
use Rattle.spec_chain.specs.Following.{State}
use Rattle.spec_chain.specs.Outputs.{is_deposit, transaction_named}
use Rattle.spec_chain.specs.Outstanding.{lock_of, height_requirements, is_needed_for, signature_requirement, signature_requirements, deposits_needed, deposits_outstanding, secrets_outstanding, secret_requirement, gone_requirements, is_false, predicate_requirements, outstanding}
use Rattle.theory_chain.specs.Prospects.{CanCome}

-- ---- lists of which nothing is left

left_none : {X : Type 0} (xs ys : List X) → xs ++ ys ≡ [] → xs ≡ []
left_none [] ys e = refl
left_none (x ∷ xs) ys e = cc

right_none : {X : Type 0} (xs ys : List X) → xs ++ ys ≡ [] → ys ≡ []
right_none [] ys e = e
right_none (x ∷ xs) ys e = cc

map_nil : {X Y : Type 0} (f : X → Y) (xs : List X) → map f xs ≡ [] → xs ≡ []
map_nil f [] e = refl
map_nil f (x ∷ xs) e = cc

none_in : {X : Type 0} (x : X) (xs : List X) → xs ≡ [] → Is_in x xs → ⊥
none_in x xs e h = subst (Is_in x) e h

-- where none of a list fails, all pass
pub none_fail : {X : Type 0} (p : X → Bool) (xs : List X) → filter (λ x. not (p x)) xs ≡ [] → list_all p xs ≡ true
none_fail p [] e = refl
none_fail p (x ∷ xs) e = by_test (p x) e (none_fail p xs)
  where
    nonempty : {X : Type 0} (y : X) (ys : List X) → y ∷ ys ≡ [] → ⊥
    nonempty y ys k = cc

    by_test : (b : Bool) → cond (not b) (x ∷ filter (λ y. not (p y)) xs) (filter (λ y. not (p y)) xs) ≡ []
        → (filter (λ y. not (p y)) xs ≡ [] → list_all p xs ≡ true) → (b && list_all p xs) ≡ true
    by_test true k later = later k
    by_test false k later = absurd (nonempty x (filter (λ y. not (p y)) xs) k)

-- what passes for each passes for all
each_all : {X : Type 0} (p : X → Bool) (xs : List X) → ((x : X) → Is_in x xs → p x ≡ true) → list_all p xs ≡ true
each_all p [] f = refl
each_all p (x ∷ xs) f = and_from (p x) (list_all p xs) (f x (inl refl)) (each_all p xs (λ y h. f y (inr h)))

pub in_flat : {X Y : Type 0} (f : X → List Y) (xs : List X) (x : X) (y : Y) → Is_in x xs → Is_in y (f x) → Is_in y (flat_map f xs)
in_flat f [] x y h k = absurd h
in_flat f (z ∷ xs) x y (inl e) k = in_left y (f z) (flat_map f xs) (subst (λ w. Is_in y (f w)) e k)
in_flat f (z ∷ xs) x y (inr i) k = in_right y (f z) (flat_map f xs) (in_flat f xs x y i k)

from_not : (b : Bool) → not b ≡ false → b ≡ true
from_not true e = refl
from_not false e = cc

-- ---- the slots of a transaction

module _ (keys : Keys) (advert : Advert) (l : Listed) where
  of_input : (k : ℕ) (spent : Spent) (labels : List Label) (slot : Slot) → Is_in slot (input_slots keys advert l k spent labels)
      → slot.which ≡ l.which
  of_input k spent [] slot h = absurd h
  of_input k spent (label ∷ labels) slot (inl e) = ap (λ (x : Slot). x.which) e
  of_input k spent (label ∷ labels) slot (inr h) = of_input k spent labels slot h

  of_inputs : (k : ℕ) (spends : List Spent) (signers : List (List Label)) (slot : Slot) → Is_in slot (slots_from keys advert l k spends signers)
      → slot.which ≡ l.which
  of_inputs k [] signers slot h = absurd h
  of_inputs k (spent ∷ spends) [] slot h = absurd h
  of_inputs k (spent ∷ spends) (labels ∷ signers) slot h =
      by (of_inputs (k + 1) spends signers slot)
      (in_append slot (input_slots keys advert l k spent labels) (slots_from keys advert l (k + 1) spends signers) h)
    where
      by : (Is_in slot (slots_from keys advert l (k + 1) spends signers) → slot.which ≡ l.which)
          → Is_in slot (input_slots keys advert l k spent labels) ⊎ Is_in slot (slots_from keys advert l (k + 1) spends signers)
          → slot.which ≡ l.which
      by later (inl i) = of_input k spent labels slot i
      by later (inr i) = later i

  pub of_listed : (slot : Slot) → Is_in slot (listed_slots keys advert l) → slot.which ≡ l.which
  of_listed slot h = of_inputs 0 l.pending.spends l.signers slot h

-- ---- transactions by name

same_self : (which : Which) → same_which which which ≡ true
same_self names.Init = refl
same_self (names.At path) = (path_eq-Decides path path).1 refl

module _ (hash : List ℕ → List ℕ) (keys : Keys) (s : Instance) where
  -- the transaction of a name has this name
  pub listed_name : (which : Which) (l : Listed) → listed_at hash keys s which ≡ Some l → l.which ≡ which
  listed_name names.Init l e = ap (λ (o : Option Listed). name_of o) (sym e)
    where
      name_of : Option Listed → Which
      name_of None = names.Init
      name_of (Some x) = x.which
  listed_name (names.At path) l e = by_entry (unsigned_at hash keys s path) e
    where
      name_of : Option Listed → Which
      name_of None = names.At path
      name_of (Some x) = x.which

      by_entry : (o : Option Unsigned) → option_map (path_listed s path) o ≡ Some l → l.which ≡ names.At path
      by_entry None k = ap name_of (sym k)
      by_entry (Some d) k = ap name_of (sym k)

  named_path : (path : List PathStep) (es : List (List PathStep × Unsigned)) (d : Unsigned) → at_path path es ≡ Some d
      → transaction_named (map (transaction hash keys s.advert) (map (λ p. path_listed s (p.0) (p.1)) es)) (names.At path)
      ≡ Some (transaction hash keys s.advert (path_listed s path d))
  named_path path [] d e = cc
  named_path path (p ∷ es) d e = by_test (path_eq p.0 path) refl e (named_path path es d)
    where
      same : {A : Type 0} {a b : A} → Some a ≡ Some b → a ≡ b
      same k = cc

      by_test : (b : Bool) → path_eq p.0 path ≡ b → cond b (Some (p.1)) (at_path path es) ≡ Some d
          → (at_path path es ≡ Some d
          → transaction_named (map (transaction hash keys s.advert) (map (λ p. path_listed s (p.0) (p.1)) es)) (names.At path)
          ≡ Some (transaction hash keys s.advert (path_listed s path d)))
          → cond b (Some (transaction hash keys s.advert (path_listed s (p.0) (p.1))))
          (transaction_named (map (transaction hash keys s.advert) (map (λ p. path_listed s (p.0) (p.1)) es)) (names.At path))
          ≡ Some (transaction hash keys s.advert (path_listed s path d))
      by_test true t k later =
          λ i. Some (transaction hash keys s.advert (path_listed s ((path_eq-Decides p.0 path).0 t i) (same k i)))
      by_test false t k later = later k

  -- the transaction of a name is the one that is listed under it
  pub named_is : (which : Which) (l : Listed) → listed_at hash keys s which ≡ Some l
      → transaction_named (transactions hash keys s) which ≡ Some (transaction hash keys s.advert l)
  named_is names.Init l e = ap (λ (o : Option Listed). option_map (transaction hash keys s.advert) o) e
  named_is (names.At path) l e = by_entry (unsigned_at hash keys s path) refl e
    where
      same : {A : Type 0} {a b : A} → Some a ≡ Some b → a ≡ b
      same k = cc

      by_entry : (o : Option Unsigned) → unsigned_at hash keys s path ≡ o → option_map (path_listed s path) o ≡ Some l
          → transaction_named (transactions hash keys s) (names.At path) ≡ Some (transaction hash keys s.advert l)
      by_entry None h k = cc
      by_entry (Some d) h k =
          named_path path (path_transactions hash keys s) d (listed_path hash keys s path ∙ h)
          ∙ ap (λ (x : Listed). Some (transaction hash keys s.advert x)) (same k)

-- ---- what is missing

reached : (tip lock : ℕ) → (if nat_lt tip lock then requirements.Height lock ∷ [] else []) ≡ [] → lock ≤ tip
reached tip lock e = by_test (nat_lt tip lock) refl e
  where
    by_test : (b : Bool) → nat_lt tip lock ≡ b → cond b (requirements.Height lock ∷ []) [] ≡ [] → lock ≤ tip
    by_test true k h = cc
    by_test false k h = grind (arith, nat_tests)

module _ (hash : List ℕ → List ℕ) (keys : Keys) (s : Instance) (given : List Signed) where
  -- a signature that is needed and isn't missing is there
  there : (which : Which) → signature_requirements hash keys s given which ≡ [] → (slot : Slot) → Is_in slot (slots hash keys s)
      → is_needed_for which slot ≡ true → has hash keys given slot ≡ true
  there which none slot h needed = by_test (has hash keys given slot) refl
    where
      by_test : (b : Bool) → has hash keys given slot ≡ b → b ≡ true
      by_test true e = refl
      by_test false e =
          absurd (none_in slot (filter (is_needed_for which) (missing hash keys s given))
          (map_nil signature_requirement (filter (is_needed_for which) (missing hash keys s given)) none)
          (filter_has (is_needed_for which) (missing hash keys s given) slot
          (filter_has (λ x. not (has hash keys given x)) (slots hash keys s) slot h (ap not e)) needed))

  endorsed : (which : Which) → signature_requirements hash keys s given which ≡ [] → which ≡ names.Init → may_start hash keys s given ≡ true
  endorsed which none e =
      each_all (has hash keys given) (endorsements hash keys s) (λ slot h.
      let r = in_filter (λ x. is_endorsement x.verb) (slots hash keys s) slot h in
      there which none slot r.0 (needed slot which e r.1))
    where
      needed : (slot : Slot) (w : Which) → w ≡ names.Init → is_endorsement slot.verb ≡ true → is_needed_for w slot ≡ true
      needed slot w same k =
          subst (λ (x : Which). is_needed_for x slot ≡ true) (sym same) (either (same_which slot.which names.Init) (is_endorsement slot.verb) k)
        where
          either : (a b : Bool) → b ≡ true → (a || b) ≡ true
          either true b h = refl
          either false b h = h

  own : (which : Which) (slot : Slot) → slot.which ≡ which → is_needed_for which slot ≡ true
  own names.Init slot e = ap (λ (w : Which). same_which w names.Init || is_endorsement slot.verb) e
  own (names.At path) slot e = ap (λ (w : Which). same_which w (names.At path)) e ∙ same_self (names.At path)

  signed : (which : Which) (l : Listed) → listed_at hash keys s which ≡ Some l → signature_requirements hash keys s given which ≡ []
      → list_all (has hash keys given) (listed_slots keys s.advert l) ≡ true
  signed which l named none =
      each_all (has hash keys given) (listed_slots keys s.advert l) (λ slot h.
      there which none slot
      (in_flat (listed_slots keys s.advert) (listed hash keys s) l slot (listed_in hash keys s which l named) h)
      (own which slot (of_listed keys s.advert l slot h ∙ listed_name hash keys s which l named)))

-- a predicate that isn't missing isn't false
held : (strings : List Shown) (outstanding : List (List ℕ)) (b : Option term.Guarded) → outstanding ≡ []
    → (if is_false strings outstanding b then requirements.PredicateFalse ∷ [] else []) ≡ [] → predicate_refusal strings b ≡ None
held strings outstanding None e h = refl
held strings outstanding (Some b) e h =
    by_test (length (revealed_by (Some b)) == 0) (predicate_holds strings b)
    (subst (λ (xs : List (List ℕ)). (if is_false strings xs (Some b) then requirements.PredicateFalse ∷ [] else []) ≡ []) e h)
  where
    by_test : (c d : Bool) → cond (not c && (true && not d)) (requirements.PredicateFalse ∷ []) [] ≡ []
        → cond (not c && not d) (Some refusals.Predicate) None ≡ None
    by_test true d k = refl
    by_test false true k = refl
    by_test false false k = cc

-- no deposit is missing where nothing is
pub nothing_outstanding : (hash : List ℕ → List ℕ) (keys : Keys) (s : Instance) (given : List Signed) (strings : List Shown) (state : State)
    (tip : ℕ) (which : Which) → outstanding hash keys s given strings state tip which ≡ [] → deposits_outstanding s state which ≡ []
nothing_outstanding hash keys s given strings state tip which none =
    let heights = height_requirements (transactions hash keys s) tip which in
    let signatures = signature_requirements hash keys s given which in
    let deposits = map requirements.Deposit (deposits_outstanding s state which) in
    let secrets = map (secret_requirement s) (secrets_outstanding s strings which) in
    let gone = gone_requirements (deposits_outstanding s state which) in
    let predicate = predicate_requirements s strings which in
    map_nil requirements.Deposit (deposits_outstanding s state which)
    (left_none deposits (secrets ++ (gone ++ predicate))
    (right_none signatures (deposits ++ (secrets ++ (gone ++ predicate)))
    (right_none heights (signatures ++ (deposits ++ (secrets ++ (gone ++ predicate)))) none)))

abbrev CanComes : Type 0
CanComes =
    (hash : List ℕ → List ℕ) (keys : Keys) (s : Instance) (given : List Signed) (strings : List Shown) (state : State) (tip : ℕ)
    (which : Which) (l : Listed)
    → listed_at hash keys s which ≡ Some l → outstanding hash keys s given strings state tip which ≡ []
    → CanCome hash keys s given strings state tip which l

pub can_comes : FinishesExactly → CanComes
can_comes finishes_exactly hash keys s given strings state tip which l named none =
    let name = listed_name hash keys s which l named in
    let heights = height_requirements (transactions hash keys s) tip which in
    let signatures = signature_requirements hash keys s given which in
    let deposits = map requirements.Deposit (deposits_outstanding s state which) in
    let secrets = map (secret_requirement s) (secrets_outstanding s strings which) in
    let gone = gone_requirements (deposits_outstanding s state which) in
    let predicate = predicate_requirements s strings which in
    let after_heights = right_none heights (signatures ++ (deposits ++ (secrets ++ (gone ++ predicate)))) none in
    let after_signatures = right_none signatures (deposits ++ (secrets ++ (gone ++ predicate))) after_heights in
    let after_deposits = right_none deposits (secrets ++ (gone ++ predicate)) after_signatures in
    let after_secrets = right_none secrets (gone ++ predicate) after_deposits in
    let no_signature = left_none signatures (deposits ++ (secrets ++ (gone ++ predicate))) after_heights in
    let no_secret = map_nil (secret_requirement s) (secrets_outstanding s strings which) (left_none secrets (gone ++ predicate) after_deposits) in
    record {
      finishes = (finishes_exactly hash keys s given strings l).1 (record {
        endorsed = λ e. endorsed hash keys s given which no_signature (sym name ∙ e);
        signed = signed hash keys s given which l named no_signature;
        shown = subst (λ (w : Which). list_all (λ a. is_some (string_for strings a)) (revealed_by (which_branch s w)) ≡ true) (sym name)
            (none_fail (λ a. is_some (string_for strings a)) (revealed_by (which_branch s which)) no_secret);
        holds = subst (λ (w : Which). predicate_refusal strings (which_branch s w) ≡ None) (sym name)
            (held strings (secrets_outstanding s strings which) (which_branch s which) no_secret
            (right_none gone predicate after_secrets));
      });
      final = reached tip l.pending.lock
          (subst (λ (o : Option Transaction). (if nat_lt tip (lock_of o) then requirements.Height (lock_of o) ∷ [] else []) ≡ [])
          (named_is hash keys s which l named)
          (left_none heights (signatures ++ (deposits ++ (secrets ++ (gone ++ predicate)))) none));
      funded = none_fail (λ x. list_any (is_deposit x) state.live) (deposits_needed s which)
          (map_nil requirements.Deposit (deposits_outstanding s state which)
          (left_none deposits (secrets ++ (gone ++ predicate)) after_signatures));
    }
