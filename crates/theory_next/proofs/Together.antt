-- Lines of what is missing.
use Rattle.std.proofs.Common.{◌≡◌, ℕ, List, [], ◌∷◌, ◌++◌, map, Bool, true, false, Option, Some, None, refl, sym, ap, subst, inl, inr, ◌⊎◌, arith}
use Rattle.std.specs.Prelude.{◌==◌, filter, flat_map, if◌then◌else◌}
use Rattle.spec_data.specs.Lists.{is_among}
use Rattle.spec_next.specs.declared.requirement.Requirement.{Requirement}
use Rattle.spec_next.specs.declared.requirement.Requirement.TheVariants as requirements
use Rattle.spec_next.specs.Prospects.{awaited}
use Rattle.spec_next.specs.RequirementText.{requirement_text}
use Rattle.spec_next.specs.Together.{with_line, once_onto, once, is_alike, named, parties_alike, joined_text, joined_line}
use Rattle.theory_calculus.specs.Members.{Is_in}
use Rattle.theory_calculus.proofs.Members.{in_left, in_right, in_append, in_filter, filter_has, in_from_contains, contains_from_in}
use Rattle.theory_world.proofs.Contracts.Endorsed.{in_flat}
use Rattle.theory_next.specs.Together.{LacksAlike, LinesNameAll}
use Rattle.theory_next.proofs.Complete.{in_flat_map}
use Rattle.theory_next.proofs.FirstRun.{from_among}

-- ---- each once

in_with : (seen : List (List ℕ)) (line x : List ℕ) → Is_in x (with_line seen line) → Is_in x seen ⊎ (x ≡ line)
in_with seen line x h = by_test (is_among line seen) h
  where
    by_test : (b : Bool) → Is_in x (if b then seen else seen ++ line ∷ []) → Is_in x seen ⊎ (x ≡ line)
    by_test true i = inl i
    by_test false i = elim (in_append x seen (line ∷ []) i) [ inl a ↦ inl a | inr b ↦ elim b [ inl e ↦ inr e | inr n ↦ absurd n ] ]

kept : (seen : List (List ℕ)) (line x : List ℕ) → Is_in x seen → Is_in x (with_line seen line)
kept seen line x i = by_test (is_among line seen)
  where
    by_test : (b : Bool) → Is_in x (if b then seen else seen ++ line ∷ [])
    by_test true = i
    by_test false = in_left x seen (line ∷ []) i

added : (seen : List (List ℕ)) (line : List ℕ) → Is_in line (with_line seen line)
added seen line = by_test (is_among line seen) refl
  where
    by_test : (b : Bool) → is_among line seen ≡ b → Is_in line (if b then seen else seen ++ line ∷ [])
    by_test true e = from_among line seen e
    by_test false e = in_right line seen (line ∷ []) (inl refl)

once_from : (seen xs : List (List ℕ)) (x : List ℕ) → Is_in x (once_onto seen xs) → Is_in x seen ⊎ Is_in x xs
once_from seen [] x h = inl h
once_from seen (line ∷ more) x h = elim (once_from (with_line seen line) more x h) [
  | inl i ↦ elim (in_with seen line x i) [ inl a ↦ inl a | inr e ↦ inr (inl e) ]
  | inr j ↦ inr (inr j)
]

once_keeps : (seen xs : List (List ℕ)) (x : List ℕ) → Is_in x seen → Is_in x (once_onto seen xs)
once_keeps seen [] x i = i
once_keeps seen (line ∷ more) x i = once_keeps (with_line seen line) more x (kept seen line x i)

once_has : (seen xs : List (List ℕ)) (x : List ℕ) → Is_in x xs → Is_in x (once_onto seen xs)
once_has seen [] x h = absurd h
once_has seen (line ∷ more) x (inl e) =
    once_keeps (with_line seen line) more x (subst (λ z. Is_in z (with_line seen line)) (sym e) (added seen line))
once_has seen (line ∷ more) x (inr i) = once_has (with_line seen line) more x i

in_mapped : {A B : Type 0} (f : A → B) (xs : List A) (x : A) → Is_in x xs → Is_in (f x) (map f xs)
in_mapped f [] x h = absurd h
in_mapped f (y ∷ xs) x (inl e) = inl (ap f e)
in_mapped f (y ∷ xs) x (inr i) = inr (in_mapped f xs x i)

-- ---- parties

from_named : (o : Option (List ℕ)) (party : List ℕ) → Is_in party (named o) → o ≡ Some party
from_named None party h = absurd h
from_named (Some name) party (inl e) = ap Some (sym e)
from_named (Some name) party (inr n) = absurd n

in_named : (o : Option (List ℕ)) (party : List ℕ) → o ≡ Some party → Is_in party (named o)
in_named o party e = subst (λ z. Is_in party (named z)) (sym e) (inl refl)

module _ (all : List Requirement) (requirement : Requirement) (party : List ℕ) where
  abbrev alike : List Requirement
  alike = filter (λ other. is_alike requirement other) all

  abbrev names : Requirement → List (List ℕ)
  names other = named (awaited other)

  lacks : Is_in party (parties_alike all requirement) → LacksAlike all requirement party
  lacks h = elim (once_from [] (flat_map names alike) party h) [
    | inl n ↦ absurd n
    | inr i ↦
        let r = in_flat names alike party i in
        let f = in_filter (λ other. is_alike requirement other) all r.0 r.1 in
        record { other = r.0; there = contains_from_in all r.0 f.0; alike = f.1; its = from_named (awaited r.0) party r.2 }
  ]

  named_of : LacksAlike all requirement party → Is_in party (parties_alike all requirement)
  named_of l =
      let i = filter_has (λ other. is_alike requirement other) all l.other (in_from_contains all l.other l.there) l.alike in
      once_has [] (flat_map names alike) party (in_flat_map names alike l.other party i (in_named (awaited l.other) party l.its))

-- ---- one alone

append_nil : (xs : List ℕ) → xs ++ [] ≡ xs
append_nil [] = refl
append_nil (x ∷ xs) = ap (λ (ys : List ℕ). x ∷ ys) (append_nil xs)

itself : (n : ℕ) → (n == n) ≡ true
itself n = grind arith

alone : (requirement : Requirement) → joined_text (requirement ∷ []) requirement ≡ requirement_text requirement
alone (requirements.Advert k) = refl
alone (requirements.Deposit x) = refl
alone (requirements.Gone x) = refl
alone requirements.NobodyHonest = refl
alone (requirements.Missing secret) = refl
alone (requirements.BadLength secret) = refl
alone (requirements.Repeated secret) = refl
alone (requirements.Digest party k secret) = refl
alone (requirements.Commitment party k) = rw (itself k, append_nil party) refl
alone (requirements.Endorsement party k) = rw (itself k, append_nil party) refl
alone (requirements.Start party k) = rw (itself k, append_nil party) refl
alone (requirements.Beginning k) = refl
alone (requirements.Height height blocks) = refl
alone (requirements.Authorisation party n i) = rw (itself n, itself i, append_nil party) refl
alone (requirements.Put x) = refl
alone (requirements.Secret party k secret) = refl
alone (requirements.Posted party secret) = refl
alone requirements.Predicate = refl

-- ---- all

pub lines_name_all : LinesNameAll
lines_name_all all requirement = record {
  printed = λ h. contains_from_in (once (map (joined_line all) all)) (joined_line all requirement)
      (once_has [] (map (joined_line all) all) (joined_line all requirement)
      (in_mapped (joined_line all) all requirement (in_from_contains all requirement h)));
  parties = λ party. (
    λ h. lacks all requirement party (in_from_contains (parties_alike all requirement) party h),
    λ l. contains_from_in (parties_alike all requirement) party (named_of all requirement party l),
  );
  alone = alone requirement;
}
