-- Whom a branch asks and pays takes part, and has a declared name.
use Rattle.std.proofs.Common.{◌≡◌, ℕ, zero, suc, List, [], ◌∷◌, ◌++◌, map, Bool, true, false, Option, Some, None, refl, sym, subst, inl, inr}
use Rattle.std.specs.List.{list_all}
use Rattle.std.specs.Prelude.{◌&&◌, slice_get, option_map, option_and_then, if◌then◌else◌}
use Rattle.std.specs.Str.{bytes_eq}
use Rattle.std.proofs.lemmas.Bool.{and_parts, or_left, or_right, or_cases}
use Rattle.spec_data.specs.Lists.{is_among}
use Rattle.spec_data.proofs.ListLemmas.{or_else-none}
use Rattle.spec_terms.specs.Term as term
use Rattle.spec_terms.specs.Term.{Contract, no_branch, branch, branches, Parts, no_part, part, parts_list, auth, after, put_reveal, withdraw, split}
use Rattle.spec_terms.specs.Core.{core, asks}
use Rattle.spec_terms.specs.Advert.{Advert}
use Rattle.spec_terms.specs.Parties.{mentions, choice_mentions, parts_mentions, add_new, add_all, participants}
use Rattle.spec_terms.specs.Paths.{Subterm, position, at_branch, below, next_subterm, subterm_from, as_branch, at}
use Rattle.spec_terms.specs.Precondition.{Holding, persistent, owners_of, party_of}
use Rattle.spec_terms.specs.Faults.{IsWellFormed, first_without}
use Rattle.spec_terms.specs.Readable.{is_some_list, is_readable_pre, is_readable_entry}
use Rattle.spec_terms.specs.declared.pre.Pre.{Pre}
use Rattle.spec_terms.specs.declared.path.PathStep.{PathStep}
use Rattle.spec_terms.specs.declared.path.PathStep.TheVariants.{Branch as To, Part as Into}
use Rattle.spec_terms.specs.declared.place.Place.{Place}
use Rattle.spec_terms.specs.declared.place.Place.TheVariants as places
use Rattle.theory_world.proofs.Hashed.{among_left, among_right, among_head, among_tail}
use Rattle.theory_calculus.proofs.Faultless.{no_fault}
use Rattle.theory_calculus.proofs.Names.{bytes-true, bytes_refl}
use Rattle.theory_calculus.specs.Members.{Is_in}

-- ---- participants

new_more : (names : List (List ℕ)) (x a : List ℕ) → is_among a names ≡ true → is_among a (add_new names x) ≡ true
new_more names x a h = by_test (is_among x names)
  where
    by_test : (b : Bool) → is_among a (if b then names else (names ++ x ∷ [])) ≡ true
    by_test true = h
    by_test false = among_left a names (x ∷ []) h

new_there : (names : List (List ℕ)) (x : List ℕ) → is_among x (add_new names x) ≡ true
new_there names x = by_test (is_among x names) refl
  where
    by_test : (b : Bool) → is_among x names ≡ b → is_among x (if b then names else (names ++ x ∷ [])) ≡ true
    by_test true e = e
    by_test false e = among_right x names (x ∷ []) (among_head x [])

fold_more : (xs names : List (List ℕ)) (a : List ℕ) → is_among a names ≡ true → is_among a (add_all names xs) ≡ true
fold_more [] names a h = h
fold_more (x ∷ xs) names a h = fold_more xs (add_new names x) a (new_more names x a h)

pub added : (xs names : List (List ℕ)) (a : List ℕ) → is_among a xs ≡ true → is_among a (add_all names xs) ≡ true
added [] names a h = cc
added (x ∷ xs) names a h = elim (or_cases (bytes_eq x a) (is_among a xs) h) [
  | inl q ↦ fold_more xs (add_new names x) a (subst (λ y. is_among y (add_new names x) ≡ true) (bytes-true x a q) (new_there names x))
  | inr q ↦ added xs (add_new names x) a q
]

-- ---- mentions along a path

abbrev named_in : Subterm → List (List ℕ)
named_in (position c) = choice_mentions c
named_in (at_branch b) = mentions b

core_mentions : (b : term.Guarded) (a : List ℕ) → is_among a (mentions (core b)) ≡ true → is_among a (mentions b) ≡ true
core_mentions (auth party body) a h = among_tail a party (mentions body) (core_mentions body a h)
core_mentions (after height body) a h = core_mentions body a h
core_mentions (put_reveal puts reveals test next) a h = h
core_mentions (withdraw party) a h = h
core_mentions (split parts) a h = h

branch_mentions : (c : Contract) (i : ℕ) (b : term.Guarded) (a : List ℕ) → slice_get (branches c) i ≡ Some b → is_among a (mentions b)
    ≡ true → is_among a (choice_mentions c) ≡ true
branch_mentions no_branch i b a e h = cc
branch_mentions (branch d c) zero b a e h =
    let z : d ≡ b = cc in among_left a (mentions d) (choice_mentions c) (subst (λ y. is_among a (mentions y) ≡ true) (sym z) h)
branch_mentions (branch d c) (suc i) b a e h = among_right a (mentions d) (choice_mentions c) (branch_mentions c i b a e h)

part_mentions : (ps : Parts) (k : ℕ) (p : ℕ × Contract) (a : List ℕ) → slice_get (parts_list ps) k ≡ Some p
    → is_among a (choice_mentions p.1) ≡ true → is_among a (parts_mentions ps) ≡ true
part_mentions no_part k p a e h = cc
part_mentions (part v c ps) zero p a e h =
    let z : (let q : ℕ × Contract = (v, c) in q) ≡ p = cc in
    among_left a (choice_mentions c) (parts_mentions ps) (subst (λ (q : ℕ × Contract). is_among a (choice_mentions q.1) ≡ true) (sym z) h)
part_mentions (part v c ps) (suc k) p a e h = among_right a (choice_mentions c) (parts_mentions ps) (part_mentions ps k p a e h)

choice_next : (c : Contract) (i : ℕ) (sp : Subterm) (a : List ℕ) → option_map at_branch (slice_get (branches c) i) ≡ Some sp
    → is_among a (named_in sp) ≡ true → is_among a (choice_mentions c) ≡ true
choice_next c i sp a e h = by_branch (slice_get (branches c) i) refl e
  where
    by_branch : (o : Option term.Guarded) → slice_get (branches c) i ≡ o → option_map at_branch o ≡ Some sp → is_among a (choice_mentions c) ≡ true
    by_branch None f q = cc
    by_branch (Some b) f q = let z : at_branch b ≡ sp = cc in branch_mentions c i b a f (subst (λ y. is_among a (named_in y) ≡ true) (sym z) h)

below_next : (b : term.Guarded) (st : PathStep) (sp : Subterm) (a : List ℕ) → below b st ≡ Some sp → is_among a (named_in sp) ≡ true
    → is_among a (mentions b) ≡ true
below_next (put_reveal puts reveals test next) (To i) sp a e h = choice_next next i sp a e h
below_next (put_reveal puts reveals test next) (Into k) sp a e h = cc
below_next (split ps) (To i) sp a e h = cc
below_next (split ps) (Into k) sp a e h = by_part (slice_get (parts_list ps) k) refl e
  where
    by_part : (o : Option (ℕ × Contract)) → slice_get (parts_list ps) k ≡ o → option_map (λ p. position p.1) o ≡ Some sp → is_among a (parts_mentions ps) ≡ true
    by_part None f q = cc
    by_part (Some p) f q = let z : position p.1 ≡ sp = cc in part_mentions ps k p a f (subst (λ y. is_among a (named_in y) ≡ true) (sym z) h)
below_next (withdraw party) st sp a e h = cc
below_next (auth party body) st sp a e h = cc
below_next (after height body) st sp a e h = cc

next_mentions : (sp : Subterm) (st : PathStep) (next : Subterm) (a : List ℕ) → next_subterm sp st ≡ Some next → is_among a (named_in next)
    ≡ true → is_among a (named_in sp) ≡ true
next_mentions (position c) (To i) next a e h = choice_next c i next a e h
next_mentions (position c) (Into k) next a e h = cc
next_mentions (at_branch b) st next a e h = core_mentions b a (below_next (core b) st next a e h)

path_mentions : (path : List PathStep) (sp end : Subterm) (a : List ℕ) → subterm_from sp path ≡ Some end → is_among a (named_in end) ≡ true
    → is_among a (named_in sp) ≡ true
path_mentions [] sp end a e h = let z : sp ≡ end = cc in subst (λ y. is_among a (named_in y) ≡ true) (sym z) h
path_mentions (st ∷ path) sp end a e h = by_next (next_subterm sp st) refl e (λ next f q. next_mentions sp st next a f (path_mentions path next end a q h))
  where
    by_next : (o : Option Subterm) → next_subterm sp st ≡ o → option_and_then (λ q. subterm_from q path) o ≡ Some end
        → ((next : Subterm) → next_subterm sp st ≡ Some next → subterm_from next path ≡ Some end → is_among a (named_in sp) ≡ true)
        → is_among a (named_in sp) ≡ true
    by_next None f q go = cc
    by_next (Some next) f q go = go next f q

-- whom a branch of a contract mentions takes part
pub branch_named : (ad : Advert) (path : List PathStep) (b : term.Guarded) (a : List ℕ) → at ad.root path ≡ Some b → is_among a (mentions b)
    ≡ true → is_among a (participants ad) ≡ true
branch_named ad path b a e h =
    added (map party_of ad.pre ++ choice_mentions ad.root) [] a
    (among_right a (map party_of ad.pre) (choice_mentions ad.root) (by_spot (subterm_from (position ad.root) path) refl e))
  where
    by_spot : (o : Option Subterm) → subterm_from (position ad.root) path ≡ o → option_and_then as_branch o ≡ Some b
        → is_among a (choice_mentions ad.root) ≡ true
    by_spot None f q = cc
    by_spot (Some (position c)) f q = cc
    by_spot (Some (at_branch d)) f q =
        let z : d ≡ b = cc in path_mentions path (position ad.root) (at_branch d) a f (subst (λ y. is_among a (mentions y) ≡ true) (sym z) h)

pub asked_mentioned : (b : term.Guarded) (a : List ℕ) → is_among a (asks b) ≡ true → is_among a (mentions b) ≡ true
asked_mentioned (auth party body) a h = elim (or_cases (bytes_eq party a) (is_among a (asks body)) h) [
  | inl q ↦ or_left _ _ q
  | inr q ↦ or_right (bytes_eq party a) _ (asked_mentioned body a q)
]
asked_mentioned (after height body) a h = asked_mentioned body a h
asked_mentioned (put_reveal puts reveals test next) a h = cc
asked_mentioned (withdraw party) a h = cc
asked_mentioned (split parts) a h = cc

pub payee_mentioned : (b : term.Guarded) (party : List ℕ) → core b ≡ withdraw party → is_among party (mentions b) ≡ true
payee_mentioned (auth p body) party h = among_tail party p (mentions body) (payee_mentioned body party h)
payee_mentioned (after height body) party h = payee_mentioned body party h
payee_mentioned (put_reveal puts reveals test next) party h = cc
payee_mentioned (withdraw p) party h = let e : p ≡ party = cc in or_left _ _ (subst (λ y. bytes_eq p y ≡ true) e (bytes_refl p))
payee_mentioned (split parts) party h = cc

-- ---- each participant has a persistent deposit

without_none : (owners ps : List (List ℕ)) (a : List ℕ) → first_without owners ps ≡ None → is_among a ps ≡ true → is_among a owners ≡ true
without_none owners [] a h i = cc
without_none owners (p ∷ ps) a h i =
    let q = or_else-none {R = Place} (if is_among p owners then None else Some (places.Party p)) (first_without owners ps) h in
    elim (or_cases (bytes_eq p a) (is_among a ps) i) [
      | inl x ↦ subst (λ y. is_among y owners ≡ true) (bytes-true p a x) (by_test (is_among p owners) q.0)
      | inr x ↦ without_none owners ps a q.1 x
    ]
  where
    by_test : (b : Bool) → (if b then None else Some (places.Party p)) ≡ None → b ≡ true
    by_test true e = refl
    by_test false e = cc

pub record HasDeposit (ad : Advert) (a : List ℕ) : Type 0 where
  pub name : List ℕ
  pub holding : Holding
  pub there : Is_in (name, holding) (persistent ad.pre)
  pub owner : holding.owner ≡ a

owner_found : (ds : List (List ℕ × Holding)) (a : List ℕ) → is_among a (owners_of ds) ≡ true → (d : List ℕ × Holding) × Is_in d ds × ((d.1).owner ≡ a)
owner_found [] a h = cc
owner_found (d ∷ ds) a h = elim (or_cases (bytes_eq (d.1).owner a) (is_among a (owners_of ds)) h) [
  | inl q ↦ (d, inl refl, bytes-true (d.1).owner a q)
  | inr q ↦ (let r = owner_found ds a q in (r.0, inr r.1, r.2))
]

pub has_deposit : (ad : Advert) (a : List ℕ) → IsWellFormed ad → is_among a (participants ad) ≡ true → HasDeposit ad a
has_deposit ad a h i =
    let n = (no_fault ad h).1.1.1.1.1.0 in
    let o = without_none (owners_of (persistent ad.pre)) (participants ad) a n i in
    let r = owner_found (persistent ad.pre) a o in
    record { name = r.0.0; holding = r.0.1; there = r.1; owner = r.2 }

-- ---- a participant

some_pre : (pre : List Pre) → is_some_list pre ≡ true → (p : Pre) × Is_in p pre
some_pre [] h = cc
some_pre (p ∷ pre) h = (p, inl refl)

pub a_person : (a : Advert) → IsWellFormed a → (p : List ℕ) × (is_among p (participants a) ≡ true)
a_person a h =
    let r = and_parts (is_readable_pre a.pre) _ h.readable in
    let q = and_parts (is_some_list a.pre && list_all is_readable_entry a.pre) _ r.0 in
    let u = and_parts (is_some_list a.pre) _ q.0 in
    let p = some_pre a.pre u.0 in (
      party_of p.0,
      added (map party_of a.pre ++ choice_mentions a.root) [] (party_of p.0)
          (among_left (party_of p.0) (map party_of a.pre) (choice_mentions a.root) (mapped p.0 a.pre p.1)),
    )
  where
    mapped : (p : Pre) (pre : List Pre) → Is_in p pre → is_among (party_of p) (map party_of pre) ≡ true
    mapped p [] i = absurd i
    mapped p (x ∷ pre) (inl e) = or_left _ _ (subst (λ (y : Pre). bytes_eq (party_of y) (party_of p) ≡ true) e (bytes_refl (party_of p)))
    mapped p (x ∷ pre) (inr i) = or_right (bytes_eq (party_of x) (party_of p)) _ (mapped p pre i)
