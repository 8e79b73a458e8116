-- Nothing is missing exactly where a transaction can come.
use Rattle.std.proofs.Common.{◌≡◌, ℕ, ◌≤◌, List, [], ◌∷◌, ◌++◌, length, map, Bool, true, false, Option, Some, None, refl, sym, ap, subst, ◌∙◌, cond, arith, inl, inr}
use Rattle.std.specs.Prelude.{◌⊎◌, if◌then◌else◌, not, ◌&&◌, ◌||◌, ◌==◌, nat_lt, filter, is_some}
use Rattle.std.specs.List.{list_all, list_any, flat_map}
use Rattle.std.specs.Option.{option_map}
use Rattle.std.proofs.lemmas.Bool.Decides.{nat_tests}
use Rattle.spec_terms.specs.Term as term
use Rattle.spec_terms.specs.PathSameness.{path_eq-Decides}
use Rattle.spec_terms.specs.declared.path.PathStep.{PathStep}
use Rattle.spec_compiler.specs.Keyed.Keys.{Keys}
use Rattle.spec_compiler.specs.Keyed.Instance.{Instance}
use Rattle.spec_compiler.specs.declared.unsigned.Unsigned.{Unsigned}
use Rattle.spec_compiler.specs.Keyed.Compilation.{path_transactions}
use Rattle.spec_compiler.specs.Keyed.ByPath.{unsigned_at}
use Rattle.spec_run.specs.Firing.{revealed_by}
use Rattle.spec_tool.specs.declared.which.Which.{Which}
use Rattle.spec_tool.specs.declared.which.Which.TheVariants as names
use Rattle.spec_tool.specs.Keyed.Listed.{Listed, listed, listed_at, path_listed, same_which}
use Rattle.spec_deal.specs.declared.entry.Shown.{Shown}
use Rattle.spec_deal.specs.declared.finish.FinishRefusal.TheVariants as refusals
use Rattle.spec_deal.specs.declared.signed.Signed.{Signed}
use Rattle.spec_deal.specs.declared.transaction.Transaction.{Transaction}
use Rattle.spec_deal.specs.Finished.{which_branch, predicate_holds, predicate_refusal}
use Rattle.spec_deal.specs.Given.{has, missing, endorsements}
use Rattle.spec_deal.specs.SecretFile.{string_for}
use Rattle.spec_deal.specs.Slots.{Slot, slots, listed_slots, is_endorsement}
use Rattle.spec_deal.specs.Transactions.{transactions}
use Rattle.theory_calculus.specs.Members.{Is_in}
use Rattle.theory_calculus.proofs.Members.{in_append, in_filter, filter_has, all_in, contains_from_in}
use Rattle.theory_script.proofs.Keyed.Transactions.{AreRight, transactions_right}
use Rattle.theory_deal.specs.Whole.{IsComplete, FinishesExactly}
use Rattle.spec_chain.specs.declared.requirement.Requirement.TheVariants as requirements
use Rattle.spec_chain.specs.Outputs.{is_deposit}
use Rattle.spec_chain.specs.Outstanding.{lock_of, height_requirements, is_needed_for, signature_requirement, signature_requirements, deposits_needed, deposits_outstanding, secrets_outstanding, secret_requirement, gone_requirements, is_false, predicate_requirements, outstanding}
use Rattle.theory_chain.specs.Prospects.{CanCome, CanExactly, SuppliedComes}
use Rattle.theory_chain.proofs.Needs.{of_listed, listed_name, named_is, can_comes}

-- ---- lists

none_failing : {X : Type 0} (p : X → Bool) (xs : List X) → list_all p xs ≡ true → filter (λ x. not (p x)) xs ≡ []
none_failing p [] e = refl
none_failing p (x ∷ xs) e = by_test (p x) e (none_failing p xs)
  where
    by_test : (b : Bool) → (b && list_all p xs) ≡ true → (list_all p xs ≡ true → filter (λ y. not (p y)) xs ≡ [])
        → cond (not b) (x ∷ filter (λ y. not (p y)) xs) (filter (λ y. not (p y)) xs) ≡ []
    by_test true k later = later k
    by_test false k later = cc

none_passing : {X : Type 0} (p : X → Bool) (xs : List X) → ((x : X) → Is_in x xs → p x ≡ true → ⊥) → filter p xs ≡ []
none_passing p [] f = refl
none_passing p (x ∷ xs) f = by_test (p x) refl (none_passing p xs (λ y h. f y (inr h)))
  where
    by_test : (b : Bool) → p x ≡ b → filter p xs ≡ [] → cond b (x ∷ filter p xs) (filter p xs) ≡ []
    by_test true k later = absurd (f x (inl refl) k)
    by_test false k later = later

from_flat : {X Y : Type 0} (f : X → List Y) (xs : List X) (y : Y) → Is_in y (flat_map f xs) → (x : X) × Is_in x xs × Is_in y (f x)
from_flat f [] y h = absurd h
from_flat f (x ∷ xs) y h = by (from_flat f xs y) (in_append y (f x) (flat_map f xs) h)
  where
    by : (Is_in y (flat_map f xs) → (z : _) × Is_in z xs × Is_in y (f z)) → Is_in y (f x) ⊎ Is_in y (flat_map f xs)
        → (z : _) × Is_in z (x ∷ xs) × Is_in y (f z)
    by later (inl i) = (x, inl refl, i)
    by later (inr i) =
        let r = later i in
        (r.0, inr r.1, r.2)

-- ---- transactions by name

same_from : (a b : Which) → same_which a b ≡ true → a ≡ b
same_from names.Init names.Init e = refl
same_from names.Init (names.At path) e = cc
same_from (names.At path) names.Init e = cc
same_from (names.At path) (names.At other) e = ap names.At ((path_eq-Decides path other).0 e)

some_same : {A : Type 0} {a b : A} → Some a ≡ Some b → a ≡ b
some_same e = cc

module _ (hash : List ℕ → List ℕ) (keys : Keys) (s : Instance) where
  path_there : (es : List (List PathStep × Unsigned)) → AreRight (unsigned_at hash keys s) es → (l : Listed)
      → Is_in l (map (λ p. path_listed s (p.0) (p.1)) es) → listed_at hash keys s l.which ≡ Some l
  path_there [] right l h = absurd h
  path_there (p ∷ es) right l (inl e) =
      subst (λ (x : Listed). listed_at hash keys s x.which ≡ Some x) (sym e) (ap (option_map (path_listed s (p.0))) right.0)
  path_there (p ∷ es) right l (inr h) = path_there es right.1 l h

  -- each transaction is the one of its name
  pub there_by_name : (l : Listed) → Is_in l (listed hash keys s) → listed_at hash keys s l.which ≡ Some l
  there_by_name l (inl e) = subst (λ (x : Listed). listed_at hash keys s x.which ≡ Some x) (sym e) refl
  there_by_name l (inr h) = path_there (path_transactions hash keys s) (transactions_right hash keys s) l h

  -- so a signature of the transaction of a name is among those of it
  among_own : (which : Which) (l : Listed) → listed_at hash keys s which ≡ Some l → (slot : Slot) → Is_in slot (slots hash keys s)
      → slot.which ≡ which → Is_in slot (listed_slots keys s.advert l)
  among_own which l named slot h e =
      let r = from_flat (listed_slots keys s.advert) (listed hash keys s) slot h in
      let name : r.0.which ≡ which = sym (of_listed keys s.advert r.0 slot r.2) ∙ e in
      let same : Some r.0 ≡ Some l = sym (there_by_name r.0 r.1) ∙ ap (listed_at hash keys s) name ∙ named in
      subst (λ (x : Listed). Is_in slot (listed_slots keys s.advert x)) (some_same same) r.2

  module _ (given : List Signed) (strings : List Shown) (which : Which) (l : Listed)
      (named : listed_at hash keys s which ≡ Some l) (complete : IsComplete hash keys s given strings l) where
    collision_with : (slot : Slot) → not (has hash keys given slot) ≡ true → has hash keys given slot ≡ true → ⊥
    collision_with slot e k = by (has hash keys given slot) e k
      where
        by : (b : Bool) → not b ≡ true → b ≡ true → ⊥
        by true f g = cc
        by false f g = cc

    own_there : (slot : Slot) → Is_in slot (slots hash keys s) → slot.which ≡ which → has hash keys given slot ≡ true
    own_there slot h e =
        all_in (has hash keys given) (listed_slots keys s.advert l) slot complete.signed (among_own which l named slot h e)

    endorsed_there : (slot : Slot) → Is_in slot (slots hash keys s) → which ≡ names.Init → is_endorsement slot.verb ≡ true
        → has hash keys given slot ≡ true
    endorsed_there slot h e k =
        all_in (has hash keys given) (endorsements hash keys s) slot (complete.endorsed (listed_name hash keys s which l named ∙ e))
        (filter_has (λ x. is_endorsement x.verb) (slots hash keys s) slot h k)

    needed_there : (w : Which) → w ≡ which → (slot : Slot) → Is_in slot (slots hash keys s) → is_needed_for w slot ≡ true
        → has hash keys given slot ≡ true
    needed_there (names.At path) e slot h k = own_there slot h (same_from slot.which (names.At path) k ∙ e)
    needed_there names.Init e slot h k = by_test (same_which slot.which names.Init) refl k
      where
        by_test : (b : Bool) → same_which slot.which names.Init ≡ b → (b || is_endorsement slot.verb) ≡ true
            → has hash keys given slot ≡ true
        by_test true m n = own_there slot h (same_from slot.which names.Init m ∙ e)
        by_test false m n = endorsed_there slot h (sym e) n

    no_signature : signature_requirements hash keys s given which ≡ []
    no_signature =
        ap (map signature_requirement) (none_passing (is_needed_for which) (missing hash keys s given) (λ slot h needed.
        let r = in_filter (λ x. not (has hash keys given x)) (slots hash keys s) slot h in
        collision_with slot r.1 (needed_there which refl slot r.0 needed)))

    no_secret : secrets_outstanding s strings which ≡ []
    no_secret =
        none_failing (λ a. is_some (string_for strings a)) (revealed_by (which_branch s which))
        (subst (λ (w : Which). list_all (λ a. is_some (string_for strings a)) (revealed_by (which_branch s w)) ≡ true)
        (listed_name hash keys s which l named) complete.shown)

    isnt_false : (b : Option term.Guarded) → predicate_refusal strings b ≡ None → is_false strings [] b ≡ false
    isnt_false None e = refl
    isnt_false (Some b) e = by_test (length (revealed_by (Some b)) == 0) (predicate_holds strings b) e
      where
        by_test : (c d : Bool) → cond (not c && not d) (Some refusals.Predicate) None ≡ None → (not c && (true && not d)) ≡ false
        by_test true d k = refl
        by_test false true k = refl
        by_test false false k = cc

    no_predicate : predicate_requirements s strings which ≡ []
    no_predicate =
        ap (λ (xs : List (List ℕ)). if is_false strings xs (which_branch s which) then requirements.PredicateFalse ∷ [] else []) no_secret
        ∙ ap (λ (b : Bool). cond b (requirements.PredicateFalse ∷ []) [])
        (isnt_false (which_branch s which)
        (subst (λ (w : Which). predicate_refusal strings (which_branch s w) ≡ None) (listed_name hash keys s which l named) complete.holds))

not_above : (tip lock : ℕ) → lock ≤ tip → (if nat_lt tip lock then requirements.Height lock ∷ [] else []) ≡ []
not_above tip lock h = ap (λ (b : Bool). cond b (requirements.Height lock ∷ []) []) (isnt tip lock h)
  where
    isnt : (a b : ℕ) → b ≤ a → nat_lt a b ≡ false
    isnt a b k = grind (arith, nat_tests)

pub can_exactly : FinishesExactly → CanExactly
can_exactly finishes_exactly hash keys s given strings state tip which l named =
    (can_comes finishes_exactly hash keys s given strings state tip which l named, λ c. back c)
  where
    back : CanCome hash keys s given strings state tip which l → outstanding hash keys s given strings state tip which ≡ []
    back c =
        let complete = (finishes_exactly hash keys s given strings l).0 c.finishes in
        let heights : height_requirements (transactions hash keys s) tip which ≡ []
        = subst (λ (o : Option Transaction). (if nat_lt tip (lock_of o) then requirements.Height (lock_of o) ∷ [] else []) ≡ [])
        (sym (named_is hash keys s which l named)) (not_above tip l.pending.lock c.final) in
        let deposits : deposits_outstanding s state which ≡ []
        = none_failing (λ x. list_any (is_deposit x) state.live) (deposits_needed s which) c.funded in
        let signatures = no_signature hash keys s given strings which l named complete in
        let secrets = no_secret hash keys s given strings which l named complete in
        let predicate = no_predicate hash keys s given strings which l named complete in
        λ i. heights i ++ (signatures i ++ (map requirements.Deposit (deposits i) ++ (map (secret_requirement s) (secrets i)
        ++ (gone_requirements (deposits i) ++ predicate i))))

-- ---- what is supplied

pub supplied_comes : SuppliedComes
supplied_comes hash keys s given strings state tip which l named c =
    by_false (is_false strings (secrets_outstanding s strings which) (which_branch s which)) refl
  where
    heights : height_requirements (transactions hash keys s) tip which ≡ []
    heights =
        subst (λ (o : Option Transaction). (if nat_lt tip (lock_of o) then requirements.Height (lock_of o) ∷ [] else []) ≡ [])
        (sym (named_is hash keys s which l named)) (not_above tip l.pending.lock c.final)

    isnt : (b : Bool) → not b ≡ true → b ≡ true → ⊥
    isnt true e k = cc
    isnt false e k = cc

    signatures : signature_requirements hash keys s given which ≡ []
    signatures =
        ap (map signature_requirement) (none_passing (is_needed_for which) (missing hash keys s given) (λ slot h needed.
        let r = in_filter (λ x. not (has hash keys given x)) (slots hash keys s) slot h in
        isnt (has hash keys given slot) r.1 (c.signed slot (contains_from_in (slots hash keys s) slot r.0) needed)))

    secrets : secrets_outstanding s strings which ≡ []
    secrets = none_failing (λ a. is_some (string_for strings a)) (revealed_by (which_branch s which)) c.told

    by_false : (b : Bool) → is_false strings (secrets_outstanding s strings which) (which_branch s which) ≡ b
        → (outstanding hash keys s given strings state tip which ≡ [])
        ⊎ (outstanding hash keys s given strings state tip which ≡ requirements.PredicateFalse ∷ [])
    by_false true e =
        inr (λ i. heights i ++ (signatures i ++ (map requirements.Deposit (c.funded i) ++ (map (secret_requirement s) (secrets i)
        ++ (gone_requirements (c.funded i) ++ cond (e i) (requirements.PredicateFalse ∷ []) [])))))
    by_false false e =
        inl (λ i. heights i ++ (signatures i ++ (map requirements.Deposit (c.funded i) ++ (map (secret_requirement s) (secrets i)
        ++ (gone_requirements (c.funded i) ++ cond (e i) (requirements.PredicateFalse ∷ []) [])))))
