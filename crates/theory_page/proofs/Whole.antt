-- All sums of a row together are what there was.
use Rattle.std.proofs.Common.{◌≡◌, ℕ, ◌+◌, ◌-◌, ◌≤◌, List, [], ◌∷◌, map, Bool, true, false, refl, sym, ap, ◌∙◌, subst, arith}
use Rattle.std.specs.Prelude.{cond, filter, sum_by}
use Rattle.std.specs.Str.{bytes_eq}
use Rattle.std.proofs.lemmas.List.Sums.{sum_by-cons}
use Rattle.std.proofs.lemmas.Slice.Eq.{bytes_eq-Decides}
use Rattle.spec_data.specs.Lists.{is_among, are_different}
use Rattle.spec_calculus.specs.declared.parts.Deposit.{Deposit}
use Rattle.spec_calculus.specs.declared.step.Owner.{Owner}
use Rattle.spec_calculus.specs.declared.step.Owner.TheVariants.{Party, Outside}
use Rattle.spec_calculus.specs.Same.{owner_eq}
use Rattle.theory_text.proofs.ListFacts.{and_left, and_right, not_yes, or_left, or_right, bytes_ne-back}
use Rattle.spec_page.specs.Balances.{held_by, all_deposits, all_contracts}
use Rattle.spec_page.specs.Statements.{MoneyIsWhole}

abbrev value_of : Deposit → ℕ
value_of d = d.value

-- ---- one deposit more

-- what a deposit adds to a party's sum, and to those of parties
abbrev share : Deposit → List ℕ → ℕ
share d party = cond (owner_eq d.owner (Party party)) d.value 0

abbrev shares : Deposit → List (List ℕ) → ℕ
shares d [] = 0
shares d (p ∷ ps) = share d p + shares d ps

held-cons : (d : Deposit) (ds : List Deposit) (party : List ℕ) → held_by (d ∷ ds) party ≡ share d party + held_by ds party
held-cons d ds party = by_test (owner_eq d.owner (Party party))
  where
    by_test : (mine : Bool) → sum_by value_of
        (cond mine (d ∷ filter (λ e. owner_eq e.owner (Party party)) ds) (filter (λ e. owner_eq e.owner (Party party)) ds))
        ≡ cond mine d.value 0 + sum_by value_of (filter (λ e. owner_eq e.owner (Party party)) ds)
    by_test true = sum_by-cons value_of d (filter (λ e. owner_eq e.owner (Party party)) ds)
    by_test false = omega arith

held-none : (parties : List (List ℕ)) → sum_by (held_by []) parties ≡ 0
held-none [] = refl
held-none (p ∷ ps) =
    let here : sum_by (held_by []) (p ∷ ps) ≡ held_by [] p + sum_by (held_by []) ps = sum_by-cons (held_by []) p ps in
    let nothing : held_by [] p ≡ 0 = refl in
    let rest = held-none ps in
    omega (arith, here, nothing, rest)

all-cons : (d : Deposit) (ds : List Deposit) (parties : List (List ℕ))
    → sum_by (held_by (d ∷ ds)) parties ≡ shares d parties + sum_by (held_by ds) parties
all-cons d ds [] = refl
all-cons d ds (p ∷ ps) =
    let one = held-cons d ds p in
    let more = all-cons d ds ps in
    let here = sum_by-cons (held_by (d ∷ ds)) p ps in
    let before = sum_by-cons (held_by ds) p ps in
    omega (arith, one, more, here, before)

-- ---- a deposit has one owner

no_sum : (m n : ℕ) → m ≡ 0 → n ≡ 0 → m + n ≡ 0
no_sum m n e f = omega (arith, e, f)

abbrev owned_by : Owner → ℕ → Deposit
owned_by o v = record { number = 0; owner = o; value = v }

-- the owner that is this party is none of those that differ from it
not_shared : (o : Owner) (v : ℕ) (party : List ℕ) (ps : List (List ℕ)) → owner_eq o (Party party) ≡ true → is_among party ps ≡ false
    → shares (owned_by o v) ps ≡ 0
not_shared Outside v party ps e h = cc
not_shared (Party x) v party [] e h = refl
not_shared (Party x) v party (p ∷ ps) e h =
    let same : x ≡ party = (bytes_eq-Decides x party).0 e in
    let other : bytes_eq party p ≡ false = bytes_ne-back p party (or_left _ _ h) in
    let apart : bytes_eq x p ≡ false = subst (λ (y : List ℕ). bytes_eq y p ≡ false) (sym same) other in
    let rest : shares (owned_by (Party x) v) ps ≡ 0 = not_shared (Party x) v party ps e (or_right _ _ h) in
    let none : cond (bytes_eq x p) v 0 ≡ 0 = ap (λ (mine : Bool). cond mine v 0) apart in
    no_sum _ _ none rest

unnumbered : (d : Deposit) (ps : List (List ℕ)) → shares d ps ≡ shares (owned_by d.owner d.value) ps
unnumbered d [] = refl
unnumbered d (p ∷ ps) = ap (λ n. share d p + n) (unnumbered d ps)

one_share : (d : Deposit) (ps : List (List ℕ)) → are_different ps ≡ true → shares d ps ≤ d.value
one_share d [] h = omega arith
one_share d (p ∷ ps) h = by_test (owner_eq d.owner (Party p)) refl (one_share d ps (and_right _ _ h))
  where
    by_test : (mine : Bool) → owner_eq d.owner (Party p) ≡ mine → shares d ps ≤ d.value → cond mine d.value 0 + shares d ps ≤ d.value
    by_test true e k =
        let none : shares d ps ≡ 0 = unnumbered d ps ∙ not_shared d.owner d.value p ps e (not_yes _ (and_left _ _ h)) in omega (arith, none)
    by_test false e k = omega (arith, k)

-- the parties have no more than there is
no_more : (ds : List Deposit) (parties : List (List ℕ)) → are_different parties ≡ true → sum_by (held_by ds) parties ≤ sum_by value_of ds
no_more [] parties h = let none = held-none parties in omega (arith, none)
no_more (d ∷ ds) parties h =
    let less = no_more ds parties h in
    let one = one_share d parties h in
    let more = all-cons d ds parties in
    let here = sum_by-cons value_of d ds in
    omega (arith, less, one, more, here)

-- ---- all sums

sum-map : (f : List ℕ → ℕ) (ps : List (List ℕ)) → sum_by (λ v. v) (map f ps) ≡ sum_by f ps
sum-map f [] = refl
sum-map f (p ∷ ps) =
    let here = sum_by-cons (λ (v : ℕ). v) (f p) (map f ps) in
    let there = sum_by-cons f p ps in
    let more = sum-map f ps in
    omega (arith, here, there, more)

whole : (has mine all held total : ℕ) → mine ≡ has → has ≤ all → all + held ≤ total
    → mine + held + (all - has) + (total - (all + held)) ≡ total
whole has mine all held total e h k = omega (arith, e, h, k)

pub money_is_whole : MoneyIsWhole
money_is_whole parties total g h k =
    whole (sum_by (held_by g.deposits) parties) (sum_by (λ v. v) (map (held_by g.deposits) parties)) (all_deposits g) (all_contracts g) total
    (sum-map (held_by g.deposits) parties) (no_more g.deposits parties h) k
