-- What the gate tells of the needs of a contract, path by path and party by party.
use Rattle.std.proofs.Common.{◌≡◌, ℕ, ◌+◌, List, [], ◌∷◌, ◌++◌, Bool, true, false, cond, Option, Some, None, refl, sym, ap, ◌∙◌, map}
use Rattle.std.specs.Prelude.{filter, not, ◌||◌}
use Rattle.std.specs.Option.{option_or, option_and_then, option_map_or, is_none}
use Rattle.std.specs.Str.{bytes_eq}
use Rattle.std.specs.Prelude.{slice_get}
use Rattle.std.proofs.Math.Bool.{or-true, or-false}
use Rattle.std.proofs.lemmas.List.Folds.{find-append, list_any-append}
use Rattle.theory_calculus.proofs.Names.{bytes-true}
use Rattle.spec_data.specs.Lists.{is_among, or_else}
use Rattle.spec_terms.specs.Term.{Guarded, auth, after, put_reveal, withdraw, split}
use Rattle.spec_terms.specs.Advert.{Advert}
use Rattle.spec_terms.specs.Core.{core, asks, puts_of}
use Rattle.spec_terms.specs.Parties.{participants, add_new, add_all}
use Rattle.spec_terms.specs.Paths.{at}
use Rattle.spec_terms.specs.declared.path.PathStep.{PathStep}
use Rattle.spec_bitcoin.specs.Keys.{Pair, has_signed, key_of}
use Rattle.spec_nodes.specs.Nodes.{Node, asks_once, deed_of}
use Rattle.spec_nodes.specs.Numbers.{IsBranchOf}
use Rattle.theory_nodes.specs.Walk.{deed_puts}
use Rattle.spec_compiler.specs.declared.prepared.Prepared.{Prepared}
use Rattle.spec_compiler.specs.Compilation.{compilation}
use Rattle.spec_compiler.specs.Instance.{Instance, branch_label, deposit_key}
use Rattle.spec_compiler.specs.Endorsements.{Need, branch_needs, put_needs, needs_of, path_needs, needs, is_met, first_unmet, put_owner, missing_endorsement}
use Rattle.theory_script.specs.Endorsed.{MissingIsFirst}
use Rattle.bm_compile.specs.Numbered.{Numbered, numbered}
use Rattle.bm_honest.specs.declared.gate.Gate.{Gate}
use Rattle.bm_honest.specs.Gates.{gate_of, gate_at, gate_or, gate_for, gate_of_paths, is_yes, Tells}
use Rattle.bm_honest.specs.Unsigned.{plan_keys, unsigned_person, unsigned_owner, unsigned_for, seen_node, seen_branch, unsigned_seen}

-- ---- several needs

-- the gate of the first needs comes first
pub first_gate : (book : List Pair) (xs ys : List Need)
    → gate_of (first_unmet book (xs ++ ys)) ≡ gate_or (gate_of (first_unmet book xs)) (gate_of (first_unmet book ys))
first_gate book xs ys =
    ap gate_of (find-append (λ need. not (is_met book need)) xs ys) ∙ by_first (first_unmet book xs) (first_unmet book ys)
  where
    by_first : (a b : Option Need) → gate_of (option_or a b) ≡ gate_or (gate_of a) (gate_of b)
    by_first None b = refl
    by_first (Some need) b = refl

gate_at-or : (path : List PathStep) (a b : Option (List ℕ)) → gate_at path (or_else a b) ≡ gate_or (gate_at path a) (gate_at path b)
gate_at-or path None b = refl
gate_at-or path (Some party) b = refl

-- ---- parties that are asked, each once

among-new : (p : List ℕ) (names : List (List ℕ)) (x : List ℕ) → is_among p (add_new names x) ≡ (is_among p names || bytes_eq x p)
among-new p names x = by_tests (is_among x names) (bytes_eq x p) refl refl
  where
    by_tests : (a b : Bool) → is_among x names ≡ a → bytes_eq x p ≡ b
        → is_among p (cond a names (names ++ x ∷ [])) ≡ (is_among p names || b)
    by_tests true true e f = ap (λ y. is_among y names) (sym (bytes-true x p f)) ∙ e ∙ sym (or-true (is_among p names))
    by_tests true false e f = sym (or-false (is_among p names))
    by_tests false b e f = list_any-append (λ t. bytes_eq t p) names (x ∷ []) ∙ rw f (ap (λ y. is_among p names || y) (or-false b))

or-left : (a b c : Bool) → ((a || b) || c) ≡ (a || (b || c))
or-left true b c = refl
or-left false b c = refl

among-all : (p : List ℕ) (names xs : List (List ℕ)) → is_among p (add_all names xs) ≡ (is_among p names || is_among p xs)
among-all p names [] = sym (or-false (is_among p names))
among-all p names (x ∷ xs) =
    among-all p (add_new names x) xs
    ∙ ap (λ b. b || is_among p xs) (among-new p names x)
    ∙ or-left (is_among p names) (bytes_eq x p) (is_among p xs)

pub asked-once : (b : Guarded) (p : List ℕ) → is_among p (asks_once b) ≡ is_among p (asks b)
asked-once b p = among-all p [] (asks b)

-- ---- one branch

module _ (hash : List ℕ → List ℕ) (book : List Pair) (contract : ℕ) (advert : Advert) (path : List PathStep) where
  same_person : (b : Guarded) (digest : List ℕ) (people keys : List (List ℕ))
      → unsigned_person book (asks_once b) digest people keys ≡ unsigned_person book (asks b) digest people keys
  same_person b digest [] keys = refl
  same_person b digest (p ∷ ps) [] = refl
  same_person b digest (p ∷ ps) (k ∷ ks) = rw (asked-once b p, same_person b digest ps ks) refl

  abbrev key : List ℕ → List ℕ
  key party = key_of hash (branch_label contract path party)

  abbrev signed_by : List ℕ → List ℕ → Bool
  signed_by digest party = has_signed book (key party) digest

  abbrev person_need : List ℕ → List ℕ → Need
  person_need digest party = record { path = path; party = party; key = key party; digest = digest }

  person_gate : (asked : List (List ℕ)) (digest : List ℕ) (people : List (List ℕ))
      → gate_of (first_unmet book (map (person_need digest) (filter (λ party. not (is_among party asked)) people)))
      ≡ gate_at path (unsigned_person book asked digest people (map key people))
  person_gate asked digest [] = refl
  person_gate asked digest (p ∷ ps) = by_tests (is_among p asked) (signed_by digest p) refl (person_gate asked digest ps)
    where
      by_tests : (a b : Bool) → signed_by digest p ≡ b
          → gate_of (first_unmet book (map (person_need digest) (filter (λ party. not (is_among party asked)) ps)))
          ≡ gate_at path (unsigned_person book asked digest ps (map key ps))
          → gate_of (first_unmet book (map (person_need digest)
          (cond (not a) (p ∷ filter (λ party. not (is_among party asked)) ps) (filter (λ party. not (is_among party asked)) ps))))
          ≡ gate_at path (cond (a || signed_by digest p) (unsigned_person book asked digest ps (map key ps)) (Some p))
      by_tests true b e ih = ih
      by_tests false true e ih = rw e ih
      by_tests false false e ih = rw e refl

  owner_gate : (puts digests : List (List ℕ))
      → gate_of (first_unmet book (put_needs hash advert path puts digests)) ≡ gate_at path (unsigned_owner hash book advert.pre puts digests)
  owner_gate [] digests = refl
  owner_gate (name ∷ puts) [] = refl
  owner_gate (name ∷ puts) (digest ∷ digests) =
      by_test (has_signed book (deposit_key hash (put_owner advert name)) digest) refl (owner_gate puts digests)
    where
      by_test : (b : Bool) → has_signed book (deposit_key hash (put_owner advert name)) digest ≡ b
          → gate_of (first_unmet book (put_needs hash advert path puts digests)) ≡ gate_at path (unsigned_owner hash book advert.pre puts digests)
          → gate_of (first_unmet book (put_needs hash advert path (name ∷ puts) (digest ∷ digests)))
          ≡ gate_at path (unsigned_owner hash book advert.pre (name ∷ puts) (digest ∷ digests))
      by_test true e ih = rw e ih
      by_test false e ih = rw e refl

  branch_gate : (b : Guarded) (digests : List (List ℕ))
      → gate_of (first_unmet book (needs_of hash contract advert path b digests))
      ≡ gate_at path (unsigned_for hash book advert (map key (participants advert)) (asks_once b) (puts_of (core b)) digests)
  branch_gate b [] = refl
  branch_gate b (digest ∷ digests) =
      first_gate book (branch_needs hash contract advert path b digest) (put_needs hash advert path (puts_of (core b)) digests)
      ∙ rw (same_person b digest (participants advert) (map key (participants advert)))
      (ap (λ g. gate_or g (gate_of (first_unmet book (put_needs hash advert path (puts_of (core b)) digests))))
      (person_gate (asks b) digest (participants advert)))
      ∙ ap (gate_or (gate_at path (unsigned_person book (asks_once b) digest (participants advert) (map key (participants advert)))))
      (owner_gate (puts_of (core b)) digests)
      ∙ sym (gate_at-or path (unsigned_person book (asks_once b) digest (participants advert) (map key (participants advert)))
      (unsigned_owner hash book advert.pre (puts_of (core b)) digests))

  -- the gate of a path, by what is seen of the branch there, and by the plan's keys
  path_gate : (made : Prepared) → gate_of (first_unmet book (path_needs hash contract advert path made))
      ≡ gate_for hash book advert (map key (participants advert)) path made
  path_gate made = by_branch (at advert.root path)
    where
      by_branch : (o : Option Guarded) → gate_of (first_unmet book (option_map_or (λ b. needs_of hash contract advert path b made.digests) o []))
          ≡ gate_at path (unsigned_seen hash book advert (map key (participants advert)) (seen_branch o) made.digests)
      by_branch None = refl
      by_branch (Some b) = branch_gate b made.digests

-- ---- a branch and its node

deed_puts-core : (n : ℕ) (b : Guarded) → deed_puts (deed_of n b) ≡ puts_of b
deed_puts-core n (put_reveal puts reveals test next) = refl
deed_puts-core n (withdraw party) = refl
deed_puts-core n (split parts) = refl
deed_puts-core n (auth party body) = refl
deed_puts-core n (after height body) = refl

-- the node of a number shows the branch that it is of
pub node_shows : (nodes : List Node) (path : List PathStep) (n : Option ℕ) (b : Option Guarded) → IsBranchOf nodes path n b
    → seen_node (option_and_then (λ k. slice_get nodes k) n) ≡ seen_branch b
node_shows nodes path None None h = refl
node_shows nodes path (Some n) (Some b) h =
    ap seen_node h ∙ ap (λ puts. Some (asks_once b, puts)) (deed_puts-core (n + 1) (core b))
node_shows nodes path None (Some b) h = absurd h
node_shows nodes path (Some n) None h = absurd h

-- ---- a contract

module _ (hash : List ℕ → List ℕ) (book : List Pair) (contract : ℕ) (advert : Advert) where
  planned_paths : (paths : List (List PathStep × Prepared))
      → gate_of_paths hash book advert paths (plan_keys hash contract advert paths) ≡ gate_of (first_unmet book (needs hash contract advert paths))
  planned_paths [] = refl
  planned_paths (p ∷ ps) =
      ap (λ g. gate_or g (gate_of_paths hash book advert ps (plan_keys hash contract advert ps))) (sym (path_gate hash book contract advert p.0 p.1))
      ∙ ap (gate_or (gate_of (first_unmet book (path_needs hash contract advert p.0 p.1)))) (planned_paths ps)
      ∙ sym (first_gate book (path_needs hash contract advert p.0 p.1) (needs hash contract advert ps))

  -- by the plan's keys the gates of all paths are the gate of all needs
  pub all_paths : (paths : List (List PathStep × Prepared)) (table : List (List (List ℕ))) → table ≡ plan_keys hash contract advert paths
      → gate_of_paths hash book advert paths table ≡ gate_of (first_unmet book (needs hash contract advert paths))
  all_paths paths table planned = ap (gate_of_paths hash book advert paths) planned ∙ planned_paths paths

-- a contract that is compiled by the plan has the plan's keys
pub keys_planned : (hash : List ℕ → List ℕ) (s : Instance) (contract : ℕ) (advert : Advert) (compiled : Numbered) → compiled ≡ numbered hash s
    → s.contract ≡ contract → s.advert ≡ advert → compiled.keys ≡ plan_keys hash contract advert compiled.paths
keys_planned hash s contract advert compiled e number text =
    let keys : compiled.keys ≡ plan_keys hash s.contract s.advert (compilation hash s).paths = ap (λ (n : Numbered). n.keys) e in
    let paths : compiled.paths ≡ (compilation hash s).paths = ap (λ (n : Numbered). n.paths) e in
    keys ∙ (λ j. plan_keys hash (number j) (text j) (sym paths j))

is_yes-gate_of : (o : Option Need) → is_yes (gate_of o) ≡ is_none o
is_yes-gate_of None = refl
is_yes-gate_of (Some need) = refl

-- the gate of a contract that is compiled so tells of its endorsements
pub tells : (hash : List ℕ → List ℕ) (s : Instance) (book : List Pair) (contract : ℕ) (advert : Advert) (compiled : Numbered) (gate : Gate)
    → MissingIsFirst
    → (compiled.keys ≡ plan_keys hash contract advert compiled.paths → gate ≡ gate_of (first_unmet book (needs hash contract advert compiled.paths)))
    → compiled ≡ numbered hash s → s.contract ≡ contract → s.advert ≡ advert → Tells hash s book gate
tells hash s book contract advert compiled gate theorem by_plan e number text =
    let is = by_plan (keys_planned hash s contract advert compiled e number text) in
    let paths : compiled.paths ≡ (compilation hash s).paths = ap (λ (n : Numbered). n.paths) e in
    let first : gate ≡ gate_of (missing_endorsement hash s book) = rw (is, paths, ← number, ← text) refl in
    record {
      first = first;
      endorsed = ap is_yes first ∙ is_yes-gate_of (missing_endorsement hash s book) ∙ (theorem hash s book).none;
    }
