-- The lines below a transaction that can't come, kind by kind.
use Rattle.std.proofs.Common.{◌≡◌, ℕ, suc, ◌<◌, List, [], ◌∷◌, ◌++◌, length, map, Bool, true, false, Option, Some, None, refl, sym, ap, subst, ◌∙◌, cond, arith, inl, inr}
use Rattle.std.specs.Prelude.{◌⊎◌, if◌then◌else◌, not, ◌&&◌, ◌==◌, nat_lt, filter, is_some}
use Rattle.std.specs.List.{Contains, list_any}
use Rattle.std.proofs.lemmas.Bool.{and_from, and_parts}
use Rattle.std.proofs.lemmas.Bool.Decides.{nat_tests}
use Rattle.spec_terms.specs.Term as term
use Rattle.spec_compiler.specs.Keyed.Keys.{Keys}
use Rattle.spec_compiler.specs.Keyed.Instance.{Instance}
use Rattle.spec_run.specs.Firing.{revealed_by}
use Rattle.spec_tool.specs.declared.which.Which.{Which}
use Rattle.spec_tool.specs.Keyed.Listed.{Listed}
use Rattle.spec_deal.specs.declared.entry.Shown.{Shown}
use Rattle.spec_deal.specs.declared.finish.FinishRefusal.TheVariants as refusals
use Rattle.spec_deal.specs.declared.signed.Signed.{Signed}
use Rattle.spec_deal.specs.declared.transaction.Transaction.{Transaction}
use Rattle.spec_deal.specs.Finished.{which_branch, predicate_holds, predicate_refusal}
use Rattle.spec_deal.specs.Given.{has, missing, is_unverified}
use Rattle.spec_deal.specs.SecretFile.{string_for}
use Rattle.spec_deal.specs.declared.transaction.Wallet.{Wallet}
use Rattle.spec_deal.specs.Slots.{Slot, slots}
use Rattle.theory_calculus.specs.Members.{Is_in}
use Rattle.theory_calculus.proofs.Members.{in_left, in_right, in_append, in_filter, filter_has, in_from_contains, contains_from_in}
use Rattle.spec_chain.specs.declared.requirement.Requirement.{Requirement}
use Rattle.spec_chain.specs.declared.requirement.Requirement.TheVariants as requirements
use Rattle.spec_chain.specs.Following.{State}
use Rattle.spec_chain.specs.Outputs.{is_deposit}
use Rattle.spec_chain.specs.Outstanding.{lock_of, is_needed_for, signature_requirement, signature_requirements, unverified_for, deposits_needed, deposits_outstanding, secrets_outstanding, secret_requirement, gone_requirements, is_false, predicate_requirements, outstanding}
use Rattle.theory_chain.specs.Requirements.{IsGone, IsOutstanding, RequirementsExactly, IsCountedOn, UnverifiedExactly}
use Rattle.theory_chain.proofs.Needs.{named_is}

-- ---- lists

from_map : {X Y : Type 0} (f : X → Y) (xs : List X) (y : Y) → Is_in y (map f xs) → (x : X) × Is_in x xs × (y ≡ f x)
from_map f [] y h = absurd h
from_map f (x ∷ xs) y (inl e) = (x, inl refl, e)
from_map f (x ∷ xs) y (inr h) =
    let r = from_map f xs y h in
    (r.0, inr r.1, r.2)

in_map : {X Y : Type 0} (f : X → Y) (xs : List X) (x : X) → Is_in x xs → Is_in (f x) (map f xs)
in_map f [] x h = absurd h
in_map f (y ∷ xs) x (inl e) = inl (ap f e)
in_map f (y ∷ xs) x (inr h) = inr (in_map f xs x h)

from_not : (b : Bool) → not b ≡ true → b ≡ false
from_not true e = cc
from_not false e = refl

no_string : (o : Option (List ℕ)) → not (is_some o) ≡ true → o ≡ None
no_string None e = refl
no_string (Some x) e = cc

module _ (hash : List ℕ → List ℕ) (keys : Keys) (s : Instance) (given : List Signed) (strings : List Shown) (state : State)
    (tip : ℕ) (which : Which) (l : Listed) where
  abbrev Outstanding : Requirement → Type 0
  Outstanding requirement = IsOutstanding hash keys s given strings state tip which l requirement

  -- ---- what stands is so

  height_so : (requirement : Requirement) → Is_in requirement
      (if nat_lt tip l.pending.lock then requirements.Height l.pending.lock ∷ [] else []) → Outstanding requirement
  height_so requirement h = by_test (nat_lt tip l.pending.lock) refl h
    where
      by_test : (b : Bool) → nat_lt tip l.pending.lock ≡ b → Is_in requirement (cond b (requirements.Height l.pending.lock ∷ []) []) → Outstanding requirement
      by_test true e (inl k) = subst Outstanding (sym k) (refl, above e)
        where
          above : nat_lt tip l.pending.lock ≡ true → tip < l.pending.lock
          above z = grind (arith, nat_tests)
      by_test true e (inr k) = absurd k
      by_test false e k = absurd k

  abbrev line_with : Slot → Option Wallet → Requirement
  line_with z wallet =
      signature_requirement
      (record { which = z.which; pending = z.pending; input = z.input; spent = z.spent; label = z.label; verb = z.verb; wallet = wallet })

  slot_so : (slot : Slot) (wallet : Option Wallet) → Contains (slots hash keys s) slot → is_needed_for which slot ≡ true
      → has hash keys given slot ≡ false → signature_requirement slot ≡ line_with slot wallet → Outstanding (line_with slot wallet)
  slot_so slot None h n f e = (slot, h, n, f, e)
  slot_so slot (Some w) h n f e = (slot, h, n, f, e)

  signature_so : (requirement : Requirement) → Is_in requirement (signature_requirements hash keys s given which) → Outstanding requirement
  signature_so requirement h =
      let r = from_map signature_requirement (filter (is_needed_for which) (missing hash keys s given)) requirement h in
      let n = in_filter (is_needed_for which) (missing hash keys s given) r.0 r.1 in
      let m = in_filter (λ x. not (has hash keys given x)) (slots hash keys s) r.0 n.0 in
      subst Outstanding (sym r.2)
      (slot_so (r.0) (r.0.wallet) (contains_from_in (slots hash keys s) r.0 m.0) n.1 (from_not (has hash keys given r.0) m.1) refl)

  gone_so : (x : List ℕ) → Is_in x (deposits_outstanding s state which) → IsGone s state which x
  gone_so x h =
      let r = in_filter (λ y. not (list_any (is_deposit y) state.live)) (deposits_needed s which) x h in
      (contains_from_in (deposits_needed s which) x r.0, from_not (list_any (is_deposit x) state.live) r.1)

  deposit_so : (requirement : Requirement) → Is_in requirement (map requirements.Deposit (deposits_outstanding s state which)) → Outstanding requirement
  deposit_so requirement h =
      let r = from_map requirements.Deposit (deposits_outstanding s state which) requirement h in
      subst Outstanding (sym r.2) (gone_so r.0 r.1)

  secret_so : (requirement : Requirement) → Is_in requirement (map (secret_requirement s) (secrets_outstanding s strings which)) → Outstanding requirement
  secret_so requirement h =
      let r = from_map (secret_requirement s) (secrets_outstanding s strings which) requirement h in
      let n = in_filter (λ a. not (is_some (string_for strings a))) (revealed_by (which_branch s which)) r.0 r.1 in
      subst Outstanding (sym r.2)
      (contains_from_in (revealed_by (which_branch s which)) r.0 n.0, no_string (string_for strings r.0) n.1, refl)

  never_so : (requirement : Requirement) (xs : List (List ℕ)) → xs ≡ deposits_outstanding s state which
      → Is_in requirement (gone_requirements xs) → Outstanding requirement
  never_so requirement [] e h = absurd h
  never_so requirement (x ∷ xs) e (inl k) =
      subst Outstanding (sym k) (x, gone_so x (subst (Is_in x) e (inl refl)))
  never_so requirement (x ∷ xs) e (inr k) = absurd k

  false_so : (xs : List (List ℕ)) (b : Option term.Guarded) → is_false strings xs b ≡ true
      → (xs ≡ []) × (predicate_refusal strings b ≡ Some refusals.Predicate)
  false_so xs None e = cc
  false_so [] (Some b) e = (refl, by_test (length (revealed_by (Some b)) == 0) (predicate_holds strings b) e)
    where
      by_test : (c d : Bool) → (not c && (true && not d)) ≡ true → cond (not c && not d) (Some refusals.Predicate) None ≡ Some refusals.Predicate
      by_test true d k = cc
      by_test false true k = cc
      by_test false false k = refl
  false_so (x ∷ xs) (Some b) e =
      absurd (by_test (length (revealed_by (Some b)) == 0) (length (x ∷ xs) == 0) (some (length xs)) e)
    where
      some : (n : ℕ) → (suc n == 0) ≡ false
      some n = grind (arith, nat_tests)

      by_test : (c d : Bool) → d ≡ false → (not c && (d && not (predicate_holds strings b))) ≡ true → ⊥
      by_test true d f k = cc
      by_test false true f k = cc
      by_test false false f k = cc

  predicate_so : (requirement : Requirement) → Is_in requirement (predicate_requirements s strings which) → Outstanding requirement
  predicate_so requirement h = by_test (is_false strings (secrets_outstanding s strings which) (which_branch s which)) refl h
    where
      by_test : (b : Bool) → is_false strings (secrets_outstanding s strings which) (which_branch s which) ≡ b
          → Is_in requirement (cond b (requirements.PredicateFalse ∷ []) []) → Outstanding requirement
      by_test true e (inl k) = subst Outstanding (sym k) (false_so (secrets_outstanding s strings which) (which_branch s which) e)
      by_test true e (inr k) = absurd k
      by_test false e k = absurd k

  -- ---- what is so stands

  abbrev heights : List Requirement
  heights = if nat_lt tip l.pending.lock then requirements.Height l.pending.lock ∷ [] else []

  abbrev signatures : List Requirement
  signatures = signature_requirements hash keys s given which

  abbrev deposits : List Requirement
  deposits = map requirements.Deposit (deposits_outstanding s state which)

  abbrev secrets : List Requirement
  secrets = map (secret_requirement s) (secrets_outstanding s strings which)

  abbrev gone : List Requirement
  gone = gone_requirements (deposits_outstanding s state which)

  abbrev predicate : List Requirement
  predicate = predicate_requirements s strings which

  abbrev all : List Requirement
  all = heights ++ (signatures ++ (deposits ++ (secrets ++ (gone ++ predicate))))

  gone_there : (x : List ℕ) → IsGone s state which x → Is_in x (deposits_outstanding s state which)
  gone_there x g =
      filter_has (λ y. not (list_any (is_deposit y) state.live)) (deposits_needed s which) x
      (in_from_contains (deposits_needed s which) x g.0) (ap not g.1)

  never_there : (x : List ℕ) (xs : List (List ℕ)) → Is_in x xs → Is_in requirements.DepositGone (gone_requirements xs)
  never_there x [] h = absurd h
  never_there x (y ∷ xs) h = inl refl

  is_so : (b : Option term.Guarded) → predicate_refusal strings b ≡ Some refusals.Predicate → is_false strings [] b ≡ true
  is_so None e = cc
  is_so (Some b) e = by_test (length (revealed_by (Some b)) == 0) (predicate_holds strings b) e
    where
      by_test : (c d : Bool) → cond (not c && not d) (Some refusals.Predicate) None ≡ Some refusals.Predicate → (not c && (true && not d)) ≡ true
      by_test true d k = cc
      by_test false true k = cc
      by_test false false k = refl

  there : (requirement : Requirement) → Outstanding requirement → Is_in requirement all
  there (requirements.Height height) w = in_left (requirements.Height height) heights _ (by_lock height w.0 w.1)
    where
      by_lock : (h : ℕ) → h ≡ l.pending.lock → tip < h → Is_in (requirements.Height h) heights
      by_lock h e less =
          subst (λ (b : Bool). Is_in (requirements.Height h) (cond b (requirements.Height l.pending.lock ∷ []) []))
          (sym (ap (nat_lt tip) (sym e) ∙ below h less)) (inl (ap requirements.Height e))
        where
          below : (n : ℕ) → tip < n → nat_lt tip n ≡ true
          below n k = grind (arith, nat_tests)
  there (requirements.Signature which' k label verb) w =
      in_right (requirements.Signature which' k label verb) heights _ (in_left (requirements.Signature which' k label verb) signatures _
      (subst (λ (x : Requirement). Is_in x signatures) w.4
      (in_map signature_requirement (filter (is_needed_for which) (missing hash keys s given)) w.0
      (filter_has (is_needed_for which) (missing hash keys s given) w.0
      (filter_has (λ x. not (has hash keys given x)) (slots hash keys s) w.0 (in_from_contains (slots hash keys s) w.0 w.1) (ap not w.3))
      w.2))))
  there (requirements.Wallet which' k deposit owner verb) w =
      in_right (requirements.Wallet which' k deposit owner verb) heights _ (in_left (requirements.Wallet which' k deposit owner verb) signatures _
      (subst (λ (x : Requirement). Is_in x signatures) w.4
      (in_map signature_requirement (filter (is_needed_for which) (missing hash keys s given)) w.0
      (filter_has (is_needed_for which) (missing hash keys s given) w.0
      (filter_has (λ x. not (has hash keys given x)) (slots hash keys s) w.0 (in_from_contains (slots hash keys s) w.0 w.1) (ap not w.3))
      w.2))))
  there (requirements.Deposit x) w =
      in_right (requirements.Deposit x) heights _ (in_right (requirements.Deposit x) signatures _ (in_left (requirements.Deposit x) deposits _
      (in_map requirements.Deposit (deposits_outstanding s state which) x (gone_there x w))))
  there (requirements.Secret a party) w =
      in_right (requirements.Secret a party) heights _ (in_right (requirements.Secret a party) signatures _
      (in_right (requirements.Secret a party) deposits _ (in_left (requirements.Secret a party) secrets _
      (subst (λ (x : Requirement). Is_in x secrets) w.2 (in_map (secret_requirement s) (secrets_outstanding s strings which) a
      (filter_has (λ b. not (is_some (string_for strings b))) (revealed_by (which_branch s which)) a
      (in_from_contains (revealed_by (which_branch s which)) a w.0) (ap (λ (o : Option (List ℕ)). not (is_some o)) w.1)))))))
  there requirements.DepositGone w =
      in_right requirements.DepositGone heights _ (in_right requirements.DepositGone signatures _ (in_right requirements.DepositGone deposits _
      (in_right requirements.DepositGone secrets _ (in_left requirements.DepositGone gone _
      (never_there w.0 (deposits_outstanding s state which) (gone_there w.0 w.1))))))
  there requirements.PredicateFalse w =
      in_right requirements.PredicateFalse heights _ (in_right requirements.PredicateFalse signatures _ (in_right requirements.PredicateFalse deposits _
      (in_right requirements.PredicateFalse secrets _ (in_right requirements.PredicateFalse gone _
      (subst (λ (b : Bool). Is_in requirements.PredicateFalse (cond b (requirements.PredicateFalse ∷ []) []))
      (sym (ap (λ (xs : List (List ℕ)). is_false strings xs (which_branch s which)) w.0 ∙ is_so (which_branch s which) w.1)) (inl refl))))))

  so : (requirement : Requirement) → Is_in requirement all → Outstanding requirement
  so requirement h = by_heights (in_append requirement heights (signatures ++ (deposits ++ (secrets ++ (gone ++ predicate)))) h)
    where
      by_gone : Is_in requirement gone ⊎ Is_in requirement predicate → Outstanding requirement
      by_gone (inl k) = never_so requirement (deposits_outstanding s state which) refl k
      by_gone (inr k) = predicate_so requirement k

      by_secrets : Is_in requirement secrets ⊎ Is_in requirement (gone ++ predicate) → Outstanding requirement
      by_secrets (inl k) = secret_so requirement k
      by_secrets (inr k) = by_gone (in_append requirement gone predicate k)

      by_deposits : Is_in requirement deposits ⊎ Is_in requirement (secrets ++ (gone ++ predicate)) → Outstanding requirement
      by_deposits (inl k) = deposit_so requirement k
      by_deposits (inr k) = by_secrets (in_append requirement secrets (gone ++ predicate) k)

      by_signatures : Is_in requirement signatures ⊎ Is_in requirement (deposits ++ (secrets ++ (gone ++ predicate))) → Outstanding requirement
      by_signatures (inl k) = signature_so requirement k
      by_signatures (inr k) = by_deposits (in_append requirement deposits (secrets ++ (gone ++ predicate)) k)

      by_heights : Is_in requirement heights ⊎ Is_in requirement (signatures ++ (deposits ++ (secrets ++ (gone ++ predicate)))) → Outstanding requirement
      by_heights (inl k) = height_so requirement k
      by_heights (inr k) = by_signatures (in_append requirement signatures (deposits ++ (secrets ++ (gone ++ predicate))) k)

pub requirements_exactly : RequirementsExactly
requirements_exactly hash keys s given strings state tip which l requirement named =
    let rest = signature_requirements hash keys s given which ++ (map requirements.Deposit (deposits_outstanding s state which)
    ++ (map (secret_requirement s) (secrets_outstanding s strings which)
    ++ (gone_requirements (deposits_outstanding s state which) ++ predicate_requirements s strings which))) in
    let same : outstanding hash keys s given strings state tip which ≡ all hash keys s given strings state tip which l
    = ap (λ (o : Option Transaction). (if nat_lt tip (lock_of o) then requirements.Height (lock_of o) ∷ [] else []) ++ rest)
    (named_is hash keys s which l named) in (
      λ h. so hash keys s given strings state tip which l requirement
          (in_from_contains (all hash keys s given strings state tip which l) requirement (subst (λ (xs : List Requirement). Contains xs requirement) same h)),
      λ w. subst (λ (xs : List Requirement). Contains xs requirement) (sym same)
          (contains_from_in (all hash keys s given strings state tip which l) requirement (there hash keys s given strings state tip which l requirement w)),
    )

-- ---- what it counts on

wallet_there : (o : Option Wallet) → is_some o ≡ true → (w : Wallet) × (o ≡ Some w)
wallet_there None e = cc
wallet_there (Some w) e = (w, refl)

pub unverified_exactly : UnverifiedExactly
unverified_exactly hash keys s given which slot = (to, from)
  where
    is_counted : Slot → Bool
    is_counted x = is_needed_for which x && is_unverified hash keys given x

    to : Contains (unverified_for hash keys s given which) slot → IsCountedOn hash keys s given which slot
    to h =
        let r = in_filter is_counted (slots hash keys s) slot (in_from_contains (unverified_for hash keys s given which) slot h) in
        let a = and_parts (is_needed_for which slot) (is_unverified hash keys given slot) r.1 in
        let b = and_parts (is_some slot.wallet) (has hash keys given slot) a.1 in
        let w = wallet_there slot.wallet b.0 in
        record { among = contains_from_in (slots hash keys s) slot r.0; needed = a.0; wallet = w.0; by_wallet = w.1; there = b.1 }

    from : IsCountedOn hash keys s given which slot → Contains (unverified_for hash keys s given which) slot
    from c =
        contains_from_in (unverified_for hash keys s given which) slot
        (filter_has is_counted (slots hash keys s) slot (in_from_contains (slots hash keys s) slot c.among)
        (and_from (is_needed_for which slot) (is_unverified hash keys given slot) c.needed
        (and_from (is_some slot.wallet) (has hash keys given slot) (ap is_some c.by_wallet) c.there)))
