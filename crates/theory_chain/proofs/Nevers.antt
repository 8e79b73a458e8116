-- What never can come doesn't, whatever is signed and told.
use Rattle.std.proofs.Common.{◌≡◌, ℕ, List, [], ◌∷◌, ◌++◌, length, Bool, true, false, Option, Some, None, refl, sym, ap, subst, ◌∙◌, inl, inr, cond}
use Rattle.std.specs.Prelude.{◌&&◌, ◌==◌, not, is_some, nat_le, filter}
use Rattle.std.specs.List.{Contains, list_any, find}
use Rattle.std.specs.Option.{option_map}
use Rattle.std.specs.Str.{bytes_eq}
use Rattle.std.proofs.lemmas.Bool.{and_parts}
use Rattle.spec_data.specs.Ranges.{least_secret_bytes, most_item_bytes}
use Rattle.spec_terms.specs.Term as term
use Rattle.spec_terms.specs.Core.{core, reveals_of, test_of}
use Rattle.spec_terms.specs.Value.{holds}
use Rattle.spec_compiler.specs.Keyed.Statements.{secret_lengths}
use Rattle.spec_compiler.specs.Keyed.Instance.{Instance}
use Rattle.spec_compiler.specs.Keyed.Statements.{is_secret}
use Rattle.spec_compiler.specs.Scripts.{digest_of}
use Rattle.spec_run.specs.Firing.{revealed_by}
use Rattle.spec_deal.specs.declared.entry.Shown.{Shown}
use Rattle.spec_deal.specs.declared.finish.FinishRefusal.TheVariants as refusals
use Rattle.spec_deal.specs.Finished.{bytes_or_none, strings_of, which_branch, predicate_refusal}
use Rattle.spec_deal.specs.SecretFile.{string_for}
use Rattle.theory_calculus.specs.Members.{Is_in}
use Rattle.theory_calculus.proofs.Members.{in_left, in_right, in_from_contains, contains_from_in, all_in, found}
use Rattle.theory_calculus.proofs.Names.{bytes-true}
use Rattle.theory_script.proofs.Keyed.Stands.{some_same}
use Rattle.theory_deal.specs.Finished.{do_fit}
use Rattle.spec_chain.specs.declared.requirement.Requirement.{Requirement}
use Rattle.spec_chain.specs.declared.requirement.Requirement.TheVariants as requirements
use Rattle.spec_chain.specs.Outputs.{is_deposit}
use Rattle.spec_chain.specs.Outstanding.{deposits_needed, secrets_outstanding, secret_requirement, known, outstanding, is_never}
use Rattle.theory_chain.specs.Nevers.{HaveOneHash, NeverComes}
use Rattle.theory_chain.specs.Requirements.{IsGone, IsOutstanding}
use Rattle.theory_chain.proofs.RequirementLines.{requirements_exactly}
use Rattle.theory_chain.proofs.Stays.{known_fit, gone_never_comes}

-- ---- lists

-- what passes is left
left : {X : Type 0} (p : X → Bool) (xs : List X) (x : X) → Is_in x xs → p x ≡ true → filter p xs ≡ [] → ⊥
left p [] x h k e = absurd h
left p (y ∷ ys) x (inl same) k e = by_test (p y) (ap p (sym same) ∙ k) e
  where
    by_test : (b : Bool) → b ≡ true → cond b (y ∷ filter p ys) (filter p ys) ≡ [] → ⊥
    by_test true f g = cc
    by_test false f g = cc
left p (y ∷ ys) x (inr h) k e = by_test (p y) e (left p ys x h k)
  where
    by_test : (b : Bool) → cond b (y ∷ filter p ys) (filter p ys) ≡ [] → (filter p ys ≡ [] → ⊥) → ⊥
    by_test true g later = cc
    by_test false g later = later g

none_left : {X : Type 0} (p : X → Bool) (xs : List X) → ((x : X) → Is_in x xs → p x ≡ false) → filter p xs ≡ []
none_left p [] f = refl
none_left p (x ∷ xs) f =
    ap (λ (b : Bool). cond b (x ∷ filter p xs) (filter p xs)) (f x (inl refl)) ∙ none_left p xs (λ y h. f y (inr h))

there_or_not : {X : Type 0} (o : Option X) → (not (is_some o) ≡ true → ⊥) → (x : X) × (o ≡ Some x)
there_or_not None f = absurd (f refl)
there_or_not (Some x) f = (x, refl)

-- ---- strings

module _ (hash : List ℕ → List ℕ) (s : Instance) where
  -- a string that is told has the hash of its secret
  told_fits : (strings : List Shown) (a bytes : List ℕ) → do_fit hash s strings ≡ true → string_for strings a ≡ Some bytes
      → (x : Shown) × Is_in x strings × (x.bytes ≡ bytes) × (hash x.bytes ≡ digest_of s.hashes a)
  told_fits strings a bytes fits e = by_entry (find (λ (x : Shown). bytes_eq x.name a) strings) refl e
    where
      by_entry : (o : Option Shown) → find (λ (x : Shown). bytes_eq x.name a) strings ≡ o
          → option_map (λ (x : Shown). x.bytes) o ≡ Some bytes
          → (x : Shown) × Is_in x strings × (x.bytes ≡ bytes) × (hash x.bytes ≡ digest_of s.hashes a)
      by_entry None f g = cc
      by_entry (Some x) f g =
          let r = found (λ (y : Shown). bytes_eq y.name a) strings x f in
          let one = all_in (λ (y : Shown). is_secret hash y.bytes (digest_of s.hashes y.name)) strings x fits r.0 in
          let size = and_parts (nat_le least_secret_bytes (length x.bytes) && nat_le (length x.bytes) most_item_bytes)
          (bytes_eq (hash x.bytes) (digest_of s.hashes x.name)) one in
          (x, r.0, some_same g, bytes-true (hash x.bytes) (digest_of s.hashes x.name) size.1 ∙ ap (digest_of s.hashes) (bytes-true x.name a r.1))

  module _ (strings told : List Shown) (fits : do_fit hash s strings ≡ true) (fit : do_fit hash s told ≡ true)
      (one : HaveOneHash hash (strings ++ told)) where
    same_string : (a b c : List ℕ) → string_for strings a ≡ Some b → string_for told a ≡ Some c → b ≡ c
    same_string a b c e f =
        let x = told_fits strings a b fits e in
        let y = told_fits told a c fit f in
        sym x.2
        ∙ one (x.0) (y.0) (contains_from_in (strings ++ told) (x.0) (in_left (x.0) strings told x.1))
        (contains_from_in (strings ++ told) (y.0) (in_right (y.0) strings told y.1)) (x.3 ∙ sym y.3)
        ∙ y.2

    same_strings : (names : List (List ℕ)) → ((a : List ℕ) → Is_in a names → (b : List ℕ) × (string_for strings a ≡ Some b))
        → ((a : List ℕ) → Is_in a names → (c : List ℕ) × (string_for told a ≡ Some c)) → strings_of strings names ≡ strings_of told names
    same_strings [] f g = refl
    same_strings (a ∷ names) f g =
        let p = f a (inl refl) in
        let q = g a (inl refl) in
        let first : bytes_or_none (string_for strings a) ≡ bytes_or_none (string_for told a) =
        ap bytes_or_none p.1 ∙ same_string a (p.0) (q.0) p.1 q.1 ∙ sym (ap bytes_or_none q.1) in
        (λ i. first i ∷ same_strings names (λ x h. f x (inr h)) (λ x h. g x (inr h)) i)

    same_refusal : (o : Option term.Guarded) → ((a : List ℕ) → Is_in a (revealed_by o) → (b : List ℕ) × (string_for strings a ≡ Some b))
        → ((a : List ℕ) → Is_in a (revealed_by o) → (c : List ℕ) × (string_for told a ≡ Some c))
        → predicate_refusal strings o ≡ predicate_refusal told o
    same_refusal None f g = refl
    same_refusal (Some b) f g =
        ap (λ (xs : List (List ℕ)). cond (not (length (reveals_of (core b)) == 0)
        && not (holds (secret_lengths (reveals_of (core b)) xs) (test_of (core b)))) (Some refusals.Predicate) None)
        (same_strings (reveals_of (core b)) f g)

-- ---- the whole

pub never_comes : NeverComes
never_comes hash keys s text longer more course later tip top given new strings told which l requirement cut e k fits fit one named there never none =
    by_kind requirement never ((requirements_exactly hash keys s given (known course.state strings) course.state tip which l requirement named).0 there)
  where
    nothing : (r : Requirement) → Contains (outstanding hash keys s new (known later.state told) later.state top which) r → ⊥
    nothing r h = in_from_contains [] r (subst (λ (rs : List Requirement). Contains rs r) none h)

    gone : (x : List ℕ) → IsGone s course.state which x → ⊥
    gone x h =
        gone_never_comes hash keys s text longer more course later tip top new (known later.state told) which cut e k
        (left (λ y. not (list_any (is_deposit y) course.state.live)) (deposits_needed s which) x
        (in_from_contains (deposits_needed s which) x h.0) (ap not h.1)) none

    told_before : secrets_outstanding s (known course.state strings) which ≡ [] → (a : List ℕ) → Is_in a (revealed_by (which_branch s which))
        → (b : List ℕ) × (string_for (known course.state strings) a ≡ Some b)
    told_before all a h =
        there_or_not (string_for (known course.state strings) a) (λ f.
        left (λ y. not (is_some (string_for (known course.state strings) y))) (revealed_by (which_branch s which)) a h f all)

    told_after : (a : List ℕ) → Is_in a (revealed_by (which_branch s which)) → (b : List ℕ) × (string_for (known later.state told) a ≡ Some b)
    told_after a h =
        there_or_not (string_for (known later.state told) a) (λ f.
        nothing (secret_requirement s a)
        ((requirements_exactly hash keys s new (known later.state told) later.state top which l (secret_requirement s a) named).1
        (contains_from_in (revealed_by (which_branch s which)) a h, unsaid (string_for (known later.state told) a) f, refl)))
      where
        unsaid : (o : Option (List ℕ)) → not (is_some o) ≡ true → o ≡ None
        unsaid None f = refl
        unsaid (Some x) f = cc

    all_told : secrets_outstanding s (known later.state told) which ≡ []
    all_told =
        none_left (λ y. not (is_some (string_for (known later.state told) y))) (revealed_by (which_branch s which))
        (λ a h. let r = told_after a h in ap (λ (o : Option (List ℕ)). not (is_some o)) r.1)

    lied : (secrets_outstanding s (known course.state strings) which ≡ [])
        × (predicate_refusal (known course.state strings) (which_branch s which) ≡ Some refusals.Predicate) → ⊥
    lied h =
        nothing requirements.PredicateFalse
        ((requirements_exactly hash keys s new (known later.state told) later.state top which l requirements.PredicateFalse named).1 (
          all_told,
          sym (same_refusal hash s (known course.state strings) (known later.state told)
              (known_fit hash keys s text course tip strings e fits) (known_fit hash keys s longer later top told k fit) one
              (which_branch s which) (told_before h.0) told_after) ∙ h.1,
        ))

    by_kind : (r : Requirement) → is_never r ≡ true → IsOutstanding hash keys s given (known course.state strings) course.state tip which l r → ⊥
    by_kind (requirements.Height height) n h = cc
    by_kind (requirements.Signature w i label verb) n h = cc
    by_kind (requirements.Wallet w i deposit owner verb) n h = cc
    by_kind (requirements.Deposit name) n h = cc
    by_kind (requirements.Secret name party) n h = cc
    by_kind requirements.DepositGone n h = gone (h.0) h.1
    by_kind requirements.PredicateFalse n h = lied h
