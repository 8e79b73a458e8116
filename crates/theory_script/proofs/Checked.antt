-- What the check of a contract sees to at each of its positions.
use Rattle.std.proofs.Common.{◌≡◌, ℕ, ◌<◌, List, [], ◌∷◌, ◌++◌, length, map, Bool, true, false, refl, sym, ◌∙◌, subst, arith, length-append, Some, None}
use Rattle.std.specs.Prelude.{◌&&◌, ◌||◌, not, nat_le, if◌then◌else◌, slice_get}
use Rattle.std.specs.Str.{bytes_eq}
use Rattle.std.specs.List.{list_all}
use Rattle.std.proofs.lemmas.Bool.{and_parts, and_from, not-false}
use Rattle.spec_data.specs.Lists.{is_among}
use Rattle.spec_terms.specs.Term as term
use Rattle.spec_terms.specs.Term.{Pred, always, both, negation, equal, less, auth, after, put_reveal, withdraw, split, Contract, no_branch, branch, branches, Parts, no_part, part}
use Rattle.spec_terms.specs.Advert.{Advert}
use Rattle.spec_terms.specs.Core.{core, reveals_of, test_of, puts_of}
use Rattle.spec_terms.specs.Paths.{Subterm, position, at_branch, contract_under}
use Rattle.spec_terms.specs.Parties.{participants, add_new, add_all, choice_mentions}
use Rattle.spec_terms.specs.Precondition.{secrets, names_of, party_of, volatile}
use Rattle.spec_terms.specs.Bound.{is_bounded, lengths_of_test}
use Rattle.spec_terms.specs.Cost.{cost}
use Rattle.spec_data.specs.Ranges.{max_money}
use Rattle.spec_terms.specs.Readable.{is_readable_entry, is_readable_pre, is_readable_contract, is_some_list, is_always, is_whole_prefix, is_readable_count, are_readable, is_readable_branch, are_readable_parts}
use Rattle.spec_terms.specs.Faults.{at_position, are_among, faults, exceeded, fits_a_script, IsWellFormed, first_place, at_core}
use Rattle.spec_terms.specs.declared.pre.Pre.{Pre}
use Rattle.spec_terms.specs.declared.path.PathStep.{PathStep}
use Rattle.spec_terms.specs.Balance.{Funded, all_funded}
use Rattle.spec_compiler.specs.Scripts.{digest_of}
use Rattle.spec_compiler.specs.Instance.{Instance, people}
use Rattle.spec_compiler.specs.Statements.{has_size, IsCompiled}
use Rattle.theory_calculus.proofs.Faultless.{of_core, core_says, none_found, no_fault}
use Rattle.theory_calculus.proofs.Names.{bytes-true}
use Rattle.theory_calculus.proofs.Members.{all_get}
use Rattle.theory_script.proofs.Listing.Subterms.{Each, EachUnder, EachPart, each_at, each_of_branches, each_of_advert}

-- ---- tests of cores and of positions

-- the test is true of a position's choice
abbrev of_choice : (Contract → Bool) → Subterm → Bool
of_choice g (position c) = g c
of_choice g (at_branch b) = true

choice_says : (g : Contract → Bool) (p : Subterm) → at_position (λ c. not (g c)) p ≡ false → of_choice g p ≡ true
choice_says g (position c) h = not-false (g c) h
choice_says g (at_branch b) h = refl

-- ---- no fault and no limit

-- what is known of the core of each branch
pub record IsSound (hashes : List (List ℕ × List ℕ)) (b : term.Guarded) : Type 0 where
  pub known : are_among (lengths_of_test (test_of b)) (reveals_of b) ≡ true
  pub bounded : is_bounded (test_of b) ≡ true
  pub no_test : length (reveals_of b) ≡ 0 → test_of b ≡ always
  pub sizes : list_all (λ name. has_size 32 (digest_of hashes name)) (reveals_of b) ≡ true

abbrev pub AllSound : List (List ℕ × List ℕ) → List term.Guarded → Type 0
AllSound hashes [] = Unit {0}
AllSound hashes (b ∷ bs) = IsSound hashes (core b) × AllSound hashes bs

-- what is known of a position
pub record IsGood (s : Instance) (choice : Contract) : Type 0 where
  pub some_branch : 0 < length (branches choice)
  pub some_people : 0 < length (people s)
  pub sound : AllSound s.hashes (branches choice)
  pub fits : fits_a_script (cost (length (people s)) choice) ≡ true

-- ---- what the check sees of each branch

pub core_fact : (test : term.Guarded → Bool) (a : Advert) (path : List PathStep) (c : Contract) (i : ℕ) (b : term.Guarded)
    → first_place (λ (x : Funded). at_core (λ y. not (test y)) x.subterm) (all_funded a) ≡ None → contract_under a.root path ≡ Some c
    → slice_get (branches c) i ≡ Some b → test (core b) ≡ true
core_fact test a path c i b f e g =
    let all = each_at (of_core test) a.root path c (each_of_advert (of_core test) _ a (λ x h. core_says test x.subterm h) f) e in
    all_get (λ y. test (core y)) (branches c) i b (each_of_branches (of_core test) c all.1) g

module _ (a : Advert) (well : IsWellFormed a) (path : List PathStep) (choice : Contract) (at : contract_under a.root path ≡ Some choice) (i : ℕ)
    (b : term.Guarded) (there : slice_get (branches choice) i ≡ Some b) where
  -- it puts volatile deposits
  pub puts_known : list_all (λ x. is_among x (names_of (volatile a.pre))) (puts_of (core b)) ≡ true
  puts_known = core_fact (λ y. are_among (puts_of y) (names_of (volatile a.pre))) a path choice i b (no_fault a well).1.0 at there

  -- and reveals secrets
  pub reveals_known : list_all (λ x. is_among x (names_of (secrets a.pre))) (reveals_of (core b)) ≡ true
  reveals_known = core_fact (λ y. are_among (reveals_of y) (names_of (secrets a.pre))) a path choice i b (no_fault a well).1.1.0 at there

-- ---- names among names

-- what is true of all is true of one among them
one_of : (g : List ℕ → Bool) (name : List ℕ) (known : List (List ℕ)) → list_all g known ≡ true → is_among name known ≡ true → g name ≡ true
one_of g name [] h k = cc
one_of g name (a ∷ known) h k =
    let p = and_parts (g a) (list_all g known) h in
    by_test (bytes_eq a name) refl k p.0 (λ l. one_of g name known p.1 l)
  where
    by_test : (t : Bool) → bytes_eq a name ≡ t → (t || is_among name known) ≡ true → g a ≡ true → (is_among name known ≡ true → g name ≡ true) → g name ≡ true
    by_test true e l here there = subst (λ x. g x ≡ true) (bytes-true a name e) here
    by_test false e l here there = there l

all_of : (g : List ℕ → Bool) (names known : List (List ℕ)) → list_all g known ≡ true → are_among names known ≡ true → list_all g names ≡ true
all_of g [] known h k = refl
all_of g (a ∷ names) known h k =
    let p = and_parts (is_among a known) (are_among names known) k in
    and_from (g a) (list_all g names) (one_of g a known h p.0) (all_of g names known h p.1)

-- ---- what a text can spell

-- where a core reveals nothing, its test is always true
abbrev is_whole : term.Guarded → Bool
is_whole (put_reveal puts reveals test next) = is_whole_prefix puts reveals test
is_whole (auth party body) = true
is_whole (after height body) = true
is_whole (withdraw party) = true
is_whole (split parts) = true

abbrev reads : Subterm → Bool
reads (position c) = is_readable_count c
reads (at_branch b) = is_whole (core b)

mutual
  each_reads : (c : Contract) → are_readable c ≡ true → Each reads c
  each_reads no_branch h = tt
  each_reads (branch b bs) h =
      let p = and_parts (is_readable_branch b) (are_readable bs) h in
      let q = branch_reads b p.0 in
      (q.0, q.1, each_reads bs p.1)

  branch_reads : (b : term.Guarded) → is_readable_branch b ≡ true → (is_whole (core b) ≡ true) × EachUnder reads b
  branch_reads (auth party body) h = branch_reads body (and_parts _ (is_readable_branch body) h).1
  branch_reads (after height body) h = branch_reads body (and_parts _ (is_readable_branch body) h).1
  branch_reads (put_reveal puts reveals test next) h =
      let p = and_parts _ _ h in
      let q = and_parts (is_whole_prefix puts reveals test) _ p.0 in
      let r = and_parts _ (is_readable_count next && are_readable next) p.1 in
      let u = and_parts (is_readable_count next) (are_readable next) r.1 in
      (q.0, (u.0, each_reads next u.1))
  branch_reads (withdraw party) h = (refl, tt)
  branch_reads (split parts) h = (refl, parts_read parts (and_parts _ (are_readable_parts parts) h).1)

  parts_read : (ps : Parts) → are_readable_parts ps ≡ true → EachPart reads ps
  parts_read no_part h = tt
  parts_read (part v c ps) h =
      let p = and_parts _ (are_readable_parts ps) h in
      let q = and_parts _ (is_readable_count c && are_readable c) p.0 in
      let u = and_parts (is_readable_count c) (are_readable c) q.1 in
      (u.0, each_reads c u.1, parts_read ps p.1)

always_is : (t : Pred) → is_always t ≡ true → t ≡ always
always_is always h = refl
always_is (both p q) h = cc
always_is (negation p) h = cc
always_is (equal e f) h = cc
always_is (less e f) h = cc

or_left : (a b : Bool) → (a || b) ≡ true → b ≡ false → a ≡ true
or_left true b h k = refl
or_left false b h k = sym k ∙ h

whole_test : (puts reveals : List (List ℕ)) (test : Pred) → is_whole_prefix puts reveals test ≡ true → length reveals ≡ 0 → test ≡ always
whole_test puts [] test h e = always_is test (and_parts (is_some_list puts) (is_always test) (or_left _ (is_some_list {X = List ℕ} []) h refl)).1
whole_test puts (a ∷ reveals) test h e = absurd (omega (arith, e))

core_test : (b : term.Guarded) → is_whole b ≡ true → length (reveals_of b) ≡ 0 → test_of b ≡ always
core_test (put_reveal puts reveals test next) h e = whole_test puts reveals test h e
core_test (auth party body) h e = refl
core_test (after height body) h e = refl
core_test (withdraw party) h e = refl
core_test (split parts) h e = refl

some_branches : (c : Contract) → is_readable_count c ≡ true → 0 < length (branches c)
some_branches no_branch h = cc
some_branches (branch b bs) h = omega arith

-- ---- who takes part

new_kept : (names : List (List ℕ)) (name : List ℕ) (b : Bool) → 0 < length names → 0 < length (if b then names else (names ++ name ∷ []))
new_kept names name true h = h
new_kept names name false h = omega (arith, h, length-append names (name ∷ []))

all_kept : (names new : List (List ℕ)) → 0 < length names → 0 < length (add_all names new)
all_kept names [] h = h
all_kept names (name ∷ new) h = all_kept (add_new names name) new (new_kept names name (is_among name names) h)

some_people : (a : Advert) → is_some_list a.pre ≡ true → 0 < length (participants a)
some_people a h = by_pre a.pre h
  where
    by_pre : (pre : List Pre) → is_some_list pre ≡ true → 0 < length (add_all [] (map party_of pre ++ choice_mentions a.root))
    by_pre [] k = cc
    by_pre (p ∷ pre) k = all_kept (party_of p ∷ []) (map party_of pre ++ choice_mentions a.root) (omega arith)

-- ---- all together

-- what each branch of a position keeps, one fact after another
sound_of : (hashes : List (List ℕ × List ℕ)) (secret_names : List (List ℕ)) (bs : List term.Guarded)
    → list_all (λ name. has_size 32 (digest_of hashes name)) secret_names ≡ true
    → list_all (λ b. are_among (reveals_of (core b)) secret_names) bs ≡ true
    → list_all (λ b. are_among (lengths_of_test (test_of (core b))) (reveals_of (core b))) bs ≡ true
    → list_all (λ b. is_bounded (test_of (core b))) bs ≡ true
    → list_all (λ b. is_whole (core b)) bs ≡ true
    → AllSound hashes bs
sound_of hashes secret_names [] c h k l m = tt
sound_of hashes secret_names (b ∷ bs) c h k l m =
    let p = and_parts (are_among (reveals_of (core b)) secret_names) _ h in
    let q = and_parts (are_among (lengths_of_test (test_of (core b))) (reveals_of (core b))) _ k in
    let r = and_parts (is_bounded (test_of (core b))) _ l in
    let u = and_parts (is_whole (core b)) _ m in (
      record {
        known = q.0;
        bounded = r.0;
        no_test = core_test (core b) u.0;
        sizes = all_of (λ name. has_size 32 (digest_of hashes name))
            (reveals_of (core b)) secret_names c p.0;
      },
      sound_of hashes secret_names bs c p.1 q.1 r.1 u.1,
    )

-- a position of a contract that passed the check
pub is_good : (s : Instance) (path : List PathStep) (choice : Contract) → IsCompiled s path choice → IsGood s choice
is_good s path choice c =
    let f = none_found (faults s.advert) c.checked.faultless in
    let l = none_found (exceeded s.advert) c.checked.limited in
    let names = names_of (secrets s.advert.pre) in
    let known : term.Guarded → Bool = λ b. are_among (reveals_of b) names in
    let revealed : term.Guarded → Bool = λ b. are_among (lengths_of_test (test_of b)) (reveals_of b) in
    let bounded : term.Guarded → Bool = λ b. is_bounded (test_of b) in
    let fits : Contract → Bool = λ x. fits_a_script (cost (length (participants s.advert)) x) in
    let r = and_parts (is_readable_pre s.advert.pre) _ c.checked.readable in
    let r2 = and_parts (nat_le s.advert.fee max_money) (is_readable_contract s.advert.root) r.1 in
    let r3 = and_parts (is_readable_count s.advert.root && are_readable s.advert.root) _ r2.1 in
    let r4 = and_parts (is_readable_count s.advert.root) (are_readable s.advert.root) r3.0 in
    let pre = and_parts (is_some_list s.advert.pre && list_all is_readable_entry s.advert.pre) _ r.0 in
    let pre2 = and_parts (is_some_list s.advert.pre) _ pre.0 in
    let a = each_at (of_core known) s.advert.root path choice
    (each_of_advert (of_core known) _ s.advert (λ x h. core_says known x.subterm h) f.1.1.0) c.is_position in
    let b = each_at (of_core revealed) s.advert.root path choice
    (each_of_advert (of_core revealed) _ s.advert (λ x h. core_says revealed x.subterm h) f.1.1.1.1.0) c.is_position in
    let d = each_at (of_core bounded) s.advert.root path choice
    (each_of_advert (of_core bounded) _ s.advert (λ x h. core_says bounded x.subterm h) l.1.1.0) c.is_position in
    let e = each_at (of_choice fits) s.advert.root path choice
    (each_of_advert (of_choice fits) _ s.advert (λ x h. choice_says fits x.subterm h) l.1.1.1.0) c.is_position in
    let w = each_at reads s.advert.root path choice (r4.0, each_reads s.advert.root r4.1) c.is_position in
    record {
      some_branch = some_branches choice w.0;
      some_people = some_people s.advert pre2.0;
      sound = sound_of s.hashes names (branches choice) c.committed (each_of_branches (of_core known) choice a.1)
          (each_of_branches (of_core revealed) choice b.1) (each_of_branches (of_core bounded) choice d.1) (each_of_branches reads choice w.1);
      fits = e.0;
    }
