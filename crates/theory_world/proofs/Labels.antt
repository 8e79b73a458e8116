-- The labels of a contract's keys have numbers of 4 bytes.
use Rattle.std.proofs.Common.{◌≡◌, ℕ, zero, suc, ◌<◌, ◌^◌, List, [], ◌∷◌, length, Bool, true, Option, Some, None, refl, subst, arith}
use Rattle.std.specs.Prelude.{◌&&◌, slice_get, option_map, option_and_then, nat_le}
use Rattle.std.specs.List.{AllByRecursion}
use Rattle.std.proofs.lemmas.Bool.{and_parts}
use Rattle.std.proofs.lemmas.Bool.Decides.{nat_tests}
use Rattle.spec_terms.specs.Term as term
use Rattle.spec_terms.specs.Term.{Contract, no_branch, branch, branches, Parts, no_part, part, parts_list, auth, after, put_reveal, withdraw, split}
use Rattle.spec_terms.specs.Core.{core}
use Rattle.spec_data.specs.Ranges.{max_money}
use Rattle.spec_terms.specs.Readable.{is_readable_contract, is_readable_count, are_readable, is_readable_branch, is_readable_split, is_readable_test, are_readable_parts, most_choices, most_parts}
use Rattle.spec_terms.specs.Faults.{IsWellFormed}
use Rattle.spec_terms.specs.Paths.{Subterm, position, at_branch, below, next_subterm, subterm_from}
use Rattle.spec_terms.specs.declared.path.PathStep.{PathStep}
use Rattle.spec_terms.specs.declared.path.PathStep.TheVariants.{Branch as To, Part as Into}
use Rattle.spec_terms.specs.Advert.{Advert}
use Rattle.spec_bitcoin.specs.Keys.{IsStep}
use Rattle.theory_calculus.proofs.Members.{get_below}

pub branch_readable : (c : Contract) (i : ℕ) (b : term.Guarded) → are_readable c ≡ true → slice_get (branches c) i ≡ Some b → is_readable_branch b ≡ true
branch_readable no_branch i b h e = cc
branch_readable (branch d c) zero b h e =
    let z : d ≡ b = cc in subst (λ y. is_readable_branch y ≡ true) z (and_parts (is_readable_branch d) (are_readable c) h).0
branch_readable (branch d c) (suc i) b h e = branch_readable c i b (and_parts (is_readable_branch d) (are_readable c) h).1 e

abbrev pub is_fine : Contract → Bool
is_fine c = is_readable_count c && are_readable c

pub part_fine : (ps : Parts) (k : ℕ) (p : ℕ × Contract) → are_readable_parts ps ≡ true → slice_get (parts_list ps) k ≡ Some p → is_fine p.1 ≡ true
part_fine no_part k p h e = cc
part_fine (part v c ps) zero p h e =
    let z : (let q : ℕ × Contract = (v, c) in q) ≡ p = cc in
    let a = and_parts (nat_le v max_money && is_fine c) (are_readable_parts ps) h in
    subst (λ (q : ℕ × Contract). is_fine q.1 ≡ true) z (and_parts (nat_le v max_money) (is_fine c) a.0).1
part_fine (part v c ps) (suc k) p h e = part_fine ps k p (and_parts (nat_le v max_money && is_fine c) (are_readable_parts ps) h).1 e

-- a core is as its branch
pub core_readable : (b : term.Guarded) → is_readable_branch b ≡ true → is_readable_branch (core b) ≡ true
core_readable (auth party body) h = core_readable body (and_parts _ (is_readable_branch body) h).1
core_readable (after height body) h = core_readable body (and_parts _ (is_readable_branch body) h).1
core_readable (put_reveal puts reveals test next) h = h
core_readable (withdraw party) h = h
core_readable (split parts) h = h

-- what stands at a place that text may have
abbrev FineSpot : Subterm → Type 0
FineSpot (position c) = is_fine c ≡ true
FineSpot (at_branch b) = is_readable_branch b ≡ true

choice_step : (c : Contract) (i : ℕ) (sp : Subterm) → is_fine c ≡ true → option_map at_branch (slice_get (branches c) i) ≡ Some sp → FineSpot sp × (i < 2 ^ 32)
choice_step c i sp h e = by_branch (slice_get (branches c) i) refl e
  where
    by_branch : (o : Option term.Guarded) → slice_get (branches c) i ≡ o → option_map at_branch o ≡ Some sp → FineSpot sp × (i < 2 ^ 32)
    by_branch None f q = cc
    by_branch (Some b) f q =
        let p = and_parts (is_readable_count c) (are_readable c) h in
        let m = (and_parts _ (nat_le (length (branches c)) most_choices) p.0).1 in
        let r = get_below (branches c) i b f in
        let z : at_branch b ≡ sp = cc in
        (subst FineSpot z (branch_readable c i b p.1 f), grind (arith, nat_tests, m, r))

below_step : (b : term.Guarded) (st : PathStep) (sp : Subterm) → is_readable_branch b ≡ true → below b st ≡ Some sp → FineSpot sp × IsStep st
below_step (put_reveal puts reveals test next) (To i) sp h e =
    let p = and_parts _ (is_readable_test test && is_fine next) h in
    let q = (and_parts (is_readable_test test) (is_fine next) p.1).1 in
    choice_step next i sp q e
below_step (put_reveal puts reveals test next) (Into k) sp h e = cc
below_step (split ps) (Into k) sp h e = by_part (slice_get (parts_list ps) k) refl e
  where
    by_part : (o : Option (ℕ × Contract)) → slice_get (parts_list ps) k ≡ o → option_map (λ p. position p.1) o ≡ Some sp → FineSpot sp × (k < 2 ^ 32)
    by_part None f q = cc
    by_part (Some p) f q =
        let a = and_parts (is_readable_split ps) (are_readable_parts ps) h in
        let m = (and_parts _ (nat_le (length (parts_list ps)) most_parts) a.0).1 in
        let r = get_below (parts_list ps) k p f in
        let z : position p.1 ≡ sp = cc in
        (subst FineSpot z (part_fine ps k p a.1 f), grind (arith, nat_tests, m, r))
below_step (split ps) (To i) sp h e = cc
below_step (withdraw party) st sp h e = cc
below_step (auth party body) st sp h e = cc
below_step (after height body) st sp h e = cc

next_step : (sp : Subterm) (st : PathStep) (next : Subterm) → FineSpot sp → next_subterm sp st ≡ Some next → FineSpot next × IsStep st
next_step (position c) (To i) next h e = choice_step c i next h e
next_step (position c) (Into k) next h e = cc
next_step (at_branch b) st next h e = below_step (core b) st next (core_readable b h) e

steps_fine : (path : List PathStep) (sp end : Subterm) → FineSpot sp → subterm_from sp path ≡ Some end → AllByRecursion IsStep path
steps_fine [] sp end h e = tt
steps_fine (st ∷ path) sp end h e = by_next (next_subterm sp st) refl e (λ next f q. let r = next_step sp st next h f in (r.1, steps_fine path next end r.0 q))
  where
    by_next : (o : Option Subterm) → next_subterm sp st ≡ o → option_and_then (λ q. subterm_from q path) o ≡ Some end
        → ((next : Subterm) → next_subterm sp st ≡ Some next → subterm_from next path ≡ Some end → AllByRecursion IsStep (st ∷ path))
        → AllByRecursion IsStep (st ∷ path)
    by_next None f q go = cc
    by_next (Some next) f q go = go next f q

pub path_fine : (a : Advert) (path : List PathStep) (end : Subterm) → IsWellFormed a → subterm_from (position a.root) path ≡ Some end
    → AllByRecursion IsStep path
path_fine a path end h e =
    let r = and_parts _ (nat_le a.fee max_money && is_readable_contract a.root) h.readable in
    let c = (and_parts (nat_le a.fee max_money) (is_readable_contract a.root) r.1).1 in
    let f = (and_parts (is_fine a.root) _ c).0 in
    steps_fine path (position a.root) end f e
