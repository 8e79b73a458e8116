-- The names that a contract has are such as text may have.
use Rattle.std.proofs.Common.{◌≡◌, ℕ, ◌<◌, ◌^◌, List, [], ◌∷◌, ◌++◌, map, Bool, true, false, Option, Some, None, refl}
use Rattle.std.proofs.Common.{subst}
use Rattle.std.specs.Prelude.{◌&&◌, nat_le, slice_get, option_map, option_and_then, if◌then◌else◌}
use Rattle.std.specs.List.{list_all, AllByRecursion}
use Rattle.std.specs.Str.{bytes_eq}
use Rattle.std.proofs.lemmas.Bool.{and_parts, and_from}
use Rattle.spec_data.specs.Lists.{is_among}
use Rattle.spec_data.specs.Ranges.{max_money}
use Rattle.spec_terms.specs.Advert.{Advert}
use Rattle.spec_terms.specs.Term as term
use Rattle.spec_terms.specs.Term.{Contract, no_branch, branch, branches, Parts, no_part, part, parts_list, auth, after, put_reveal}
use Rattle.spec_terms.specs.Term.{withdraw, split}
use Rattle.spec_terms.specs.Core.{core, continuation, asks, reveals_of}
use Rattle.spec_terms.specs.Parties.{mentions, choice_mentions, parts_mentions, add_new, add_all, participants}
use Rattle.spec_terms.specs.Paths.{Subterm, position, at_branch, below, next_subterm, subterm_from, as_branch, as_contract, at, contract_under}
use Rattle.spec_terms.specs.Precondition.{Holding, party_of, deposits, persistent, secrets, names_of_party, secrets_of}
use Rattle.spec_terms.specs.declared.pre.Pre.{Pre}
use Rattle.spec_terms.specs.declared.pre.Pre.TheVariants.{Persistent, Volatile, Secret}
use Rattle.spec_terms.specs.declared.path.PathStep.{PathStep}
use Rattle.spec_terms.specs.declared.path.PathStep.TheVariants.{Branch as To, Part as Into}
use Rattle.spec_terms.specs.Readable.{is_name, is_readable_entry, is_readable_pre, is_readable_contract, is_readable_branch}
use Rattle.spec_terms.specs.Readable.{is_readable_count, are_readable}
use Rattle.spec_terms.specs.Readable.{are_readable_parts, is_readable_split, is_readable_test, is_whole_prefix, is_some_list}
use Rattle.spec_terms.specs.Faults.{IsWellFormed}
use Rattle.spec_bitcoin.specs.Keys.{IsStep}
use Rattle.theory_calculus.proofs.Members.{all_append}
use Rattle.theory_world.proofs.Labels.{branch_readable, part_fine, core_readable, is_fine, path_fine}
use Rattle.theory_play_text.specs.Printable.{IsNamed}

abbrev pub AllNamed : List (List ℕ) → Type 0
AllNamed names = list_all is_name names ≡ true

-- ---- preconditions

abbrev pub IsReadable : List Pre → Type 0
IsReadable pre = list_all is_readable_entry pre ≡ true

-- a name of somebody
abbrev pub IsHeld : List ℕ × Holding → Type 0
IsHeld d = IsNamed (d.0) × IsNamed (d.1).owner

valued : (party name : List ℕ) (value : ℕ) → (is_name party && (nat_le value max_money && is_name name)) ≡ true
    → IsNamed party × IsNamed name
valued party name value h =
    let p = and_parts (is_name party) _ h in
    (p.0, (and_parts (nat_le value max_money) (is_name name) p.1).1)

pub deposits_named : (pre : List Pre) → IsReadable pre → AllByRecursion IsHeld (deposits pre)
deposits_named [] h = tt
deposits_named (Persistent party value name ∷ es) h =
    let p = and_parts _ (list_all is_readable_entry es) h in
    let n = valued party name value p.0 in ((n.1, n.0), deposits_named es p.1)
deposits_named (Volatile party value name ∷ es) h =
    let p = and_parts _ (list_all is_readable_entry es) h in
    let n = valued party name value p.0 in ((n.1, n.0), deposits_named es p.1)
deposits_named (Secret party name ∷ es) h = deposits_named es (and_parts _ (list_all is_readable_entry es) h).1

pub persistent_named : (pre : List Pre) → IsReadable pre → AllByRecursion IsHeld (persistent pre)
persistent_named [] h = tt
persistent_named (Persistent party value name ∷ es) h =
    let p = and_parts _ (list_all is_readable_entry es) h in
    let n = valued party name value p.0 in ((n.1, n.0), persistent_named es p.1)
persistent_named (Volatile party value name ∷ es) h = persistent_named es (and_parts _ (list_all is_readable_entry es) h).1
persistent_named (Secret party name ∷ es) h = persistent_named es (and_parts _ (list_all is_readable_entry es) h).1

-- a secret's name and its party
abbrev pub IsOwned : List ℕ × List ℕ → Type 0
IsOwned x = IsNamed (x.0) × IsNamed (x.1)

pub secrets_named : (pre : List Pre) → IsReadable pre → AllByRecursion IsOwned (secrets pre)
secrets_named [] h = tt
secrets_named (Persistent party value name ∷ es) h = secrets_named es (and_parts _ (list_all is_readable_entry es) h).1
secrets_named (Volatile party value name ∷ es) h = secrets_named es (and_parts _ (list_all is_readable_entry es) h).1
secrets_named (Secret party name ∷ es) h =
    let p = and_parts _ (list_all is_readable_entry es) h in
    let n = and_parts (is_name party) (is_name name) p.0 in ((n.1, n.0), secrets_named es p.1)

of_party : (party : List ℕ) (xs : List (List ℕ × List ℕ)) → AllByRecursion IsOwned xs → AllNamed (names_of_party party xs)
of_party party [] h = refl
of_party party (x ∷ xs) h = by_test (bytes_eq (x.1) party) (of_party party xs h.1)
  where
    by_test : (t : Bool) → AllNamed (names_of_party party xs)
        → AllNamed (if t then (x.0 ∷ names_of_party party xs) else names_of_party party xs)
    by_test true r = and_from _ _ (h.0).0 r
    by_test false r = r

-- a party's secrets
pub own_named : (party : List ℕ) (pre : List Pre) → IsReadable pre → AllNamed (secrets_of party pre)
own_named party pre h = of_party party (secrets pre) (secrets_named pre h)

parties_named : (pre : List Pre) → IsReadable pre → AllNamed (map party_of pre)
parties_named [] h = refl
parties_named (Persistent party value name ∷ es) h =
    let p = and_parts _ (list_all is_readable_entry es) h in and_from _ _ (valued party name value p.0).0 (parties_named es p.1)
parties_named (Volatile party value name ∷ es) h =
    let p = and_parts _ (list_all is_readable_entry es) h in and_from _ _ (valued party name value p.0).0 (parties_named es p.1)
parties_named (Secret party name ∷ es) h =
    let p = and_parts _ (list_all is_readable_entry es) h in
    and_from _ _ (and_parts (is_name party) (is_name name) p.0).0 (parties_named es p.1)

-- ---- contracts

mutual
  mentioned : (b : term.Guarded) → is_readable_branch b ≡ true → AllNamed (mentions b)
  mentioned (auth party body) h =
      let p = and_parts (is_name party) (is_readable_branch body) h in and_from _ _ p.0 (mentioned body p.1)
  mentioned (after height body) h = mentioned body (and_parts _ (is_readable_branch body) h).1
  mentioned (put_reveal puts reveals test next) h =
      let p = and_parts _ (is_readable_test test && is_fine next) h in
      let q = (and_parts (is_readable_test test) (is_fine next) p.1).1 in
      choice_mentioned next (and_parts (is_readable_count next) (are_readable next) q).1
  mentioned (withdraw party) h = and_from _ _ h refl
  mentioned (split parts) h = parts_mentioned parts (and_parts (is_readable_split parts) (are_readable_parts parts) h).1

  choice_mentioned : (c : Contract) → are_readable c ≡ true → AllNamed (choice_mentions c)
  choice_mentioned no_branch h = refl
  choice_mentioned (branch b bs) h =
      let p = and_parts (is_readable_branch b) (are_readable bs) h in
      all_append is_name (mentions b) (choice_mentions bs) (mentioned b p.0) (choice_mentioned bs p.1)

  parts_mentioned : (ps : Parts) → are_readable_parts ps ≡ true → AllNamed (parts_mentions ps)
  parts_mentioned no_part h = refl
  parts_mentioned (part v c ps) h =
      let p = and_parts (nat_le v max_money && is_fine c) (are_readable_parts ps) h in
      let q = (and_parts (nat_le v max_money) (is_fine c) p.0).1 in
      all_append is_name (choice_mentions c) (parts_mentions ps)
      (choice_mentioned c (and_parts (is_readable_count c) (are_readable c) q).1) (parts_mentioned ps p.1)

one_more : (t : Bool) (names : List (List ℕ)) (name : List ℕ) → AllNamed names → IsNamed name
    → AllNamed (if t then names else (names ++ name ∷ []))
one_more true names name h k = h
one_more false names name h k = all_append is_name names (name ∷ []) h (and_from _ _ k refl)

added : (new names : List (List ℕ)) → AllNamed names → AllNamed new → AllNamed (add_all names new)
added [] names h k = h
added (x ∷ xs) names h k =
    let p = and_parts (is_name x) (list_all is_name xs) k in
    added xs (add_new names x) (one_more (is_among x names) names x h p.0) p.1

-- what the contract's text has passed
pub record HasNames (a : Advert) : Type 0 where
  pub pre : IsReadable a.pre
  pub root : is_fine a.root ≡ true
  pub people : AllNamed (participants a)

pub has_names : (a : Advert) → IsWellFormed a → HasNames a
has_names a h =
    let r = and_parts (is_readable_pre a.pre) (nat_le a.fee max_money && is_readable_contract a.root) h.readable in
    let c = (and_parts (nat_le a.fee max_money) (is_readable_contract a.root) r.1).1 in
    let f = (and_parts (is_fine a.root) _ c).0 in
    let p = (and_parts (is_some_list a.pre && list_all is_readable_entry a.pre) _ r.0).0 in
    let entries = (and_parts (is_some_list a.pre) (list_all is_readable_entry a.pre) p).1 in
    let named = all_append is_name (map party_of a.pre) (choice_mentions a.root) (parties_named a.pre entries)
    (choice_mentioned a.root (and_parts (is_readable_count a.root) (are_readable a.root) f).1) in
    record { pre = entries; root = f; people = added (map party_of a.pre ++ choice_mentions a.root) [] refl named }

-- ---- branches

pub asks_named : (b : term.Guarded) → is_readable_branch b ≡ true → AllNamed (asks b)
asks_named (auth party body) h =
    let p = and_parts (is_name party) (is_readable_branch body) h in and_from _ _ p.0 (asks_named body p.1)
asks_named (after height body) h = asks_named body (and_parts _ (is_readable_branch body) h).1
asks_named (put_reveal puts reveals test next) h = refl
asks_named (withdraw party) h = refl
asks_named (split parts) h = refl

reveals_core : (c : term.Guarded) → is_readable_branch c ≡ true → AllNamed (reveals_of c)
reveals_core (put_reveal puts reveals test next) h =
    let p = and_parts (is_whole_prefix puts reveals test && (list_all is_name puts && list_all is_name reveals)) _ h in
    let q = (and_parts (is_whole_prefix puts reveals test) _ p.0).1 in
    (and_parts (list_all is_name puts) (list_all is_name reveals) q).1
reveals_core (auth party body) h = refl
reveals_core (after height body) h = refl
reveals_core (withdraw party) h = refl
reveals_core (split parts) h = refl

pub reveals_named : (b : term.Guarded) → is_readable_branch b ≡ true → AllNamed (reveals_of (core b))
reveals_named b h = reveals_core (core b) (core_readable b h)

-- what stands there is as text may have it
abbrev FineSpot : Subterm → Type 0
FineSpot (position c) = is_fine c ≡ true
FineSpot (at_branch b) = is_readable_branch b ≡ true

choice_spot : (c : Contract) (i : ℕ) (sp : Subterm) → is_fine c ≡ true → option_map at_branch (slice_get (branches c) i) ≡ Some sp
    → FineSpot sp
choice_spot c i sp h e = by_branch (slice_get (branches c) i) refl e
  where
    by_branch : (o : Option term.Guarded) → slice_get (branches c) i ≡ o → option_map at_branch o ≡ Some sp → FineSpot sp
    by_branch None f q = cc
    by_branch (Some b) f q =
        let z : at_branch b ≡ sp = cc in
        subst FineSpot z (branch_readable c i b (and_parts (is_readable_count c) (are_readable c) h).1 f)

below_spot : (b : term.Guarded) (st : PathStep) (sp : Subterm) → is_readable_branch b ≡ true → below b st ≡ Some sp → FineSpot sp
below_spot (put_reveal puts reveals test next) (To i) sp h e =
    let p = and_parts _ (is_readable_test test && is_fine next) h in
    choice_spot next i sp (and_parts (is_readable_test test) (is_fine next) p.1).1 e
below_spot (put_reveal puts reveals test next) (Into k) sp h e = cc
below_spot (split ps) (Into k) sp h e = by_part (slice_get (parts_list ps) k) refl e
  where
    by_part : (o : Option (ℕ × Contract)) → slice_get (parts_list ps) k ≡ o → option_map (λ p. position p.1) o ≡ Some sp → FineSpot sp
    by_part None f q = cc
    by_part (Some p) f q =
        let z : position p.1 ≡ sp = cc in
        subst FineSpot z (part_fine ps k p (and_parts (is_readable_split ps) (are_readable_parts ps) h).1 f)
below_spot (split ps) (To i) sp h e = cc
below_spot (withdraw party) st sp h e = cc
below_spot (auth party body) st sp h e = cc
below_spot (after height body) st sp h e = cc

next_spot : (sp : Subterm) (st : PathStep) (next : Subterm) → FineSpot sp → next_subterm sp st ≡ Some next → FineSpot next
next_spot (position c) (To i) next h e = choice_spot c i next h e
next_spot (position c) (Into k) next h e = cc
next_spot (at_branch b) st next h e = below_spot (core b) st next (core_readable b h) e

end_spot : (path : List PathStep) (sp end : Subterm) → FineSpot sp → subterm_from sp path ≡ Some end → FineSpot end
end_spot [] sp end h e = let z : sp ≡ end = cc in subst FineSpot z h
end_spot (st ∷ path) sp end h e = by_next (next_subterm sp st) refl e (λ next f q. end_spot path next end (next_spot sp st next h f) q)
  where
    by_next : (o : Option Subterm) → next_subterm sp st ≡ o → option_and_then (λ q. subterm_from q path) o ≡ Some end
        → ((next : Subterm) → next_subterm sp st ≡ Some next → subterm_from next path ≡ Some end → FineSpot end) → FineSpot end
    by_next None f q go = cc
    by_next (Some next) f q go = go next f q

-- a branch of a contract, at its path
pub record FineBranch (path : List PathStep) (b : term.Guarded) : Type 0 where
  pub readable : is_readable_branch b ≡ true
  pub steps : AllByRecursion IsStep path

pub branch_fine : (a : Advert) → IsWellFormed a → (path : List PathStep) (b : term.Guarded) → at a.root path ≡ Some b → FineBranch path b
branch_fine a h path b e = by_end (subterm_from (position a.root) path) refl e
  where
    by_end : (o : Option Subterm) → subterm_from (position a.root) path ≡ o → option_and_then as_branch o ≡ Some b → FineBranch path b
    by_end None f q = cc
    by_end (Some (position c)) f q = cc
    by_end (Some (at_branch d)) f q =
        let same : d ≡ b = cc in
        record {
          readable = subst (λ x. is_readable_branch x ≡ true) same (end_spot path (position a.root) (at_branch d) (has_names a h).root f);
          steps = path_fine a path (at_branch d) h f;
        }

-- the choice with which a core goes on
continued_fine : (b : term.Guarded) (c : Contract) → is_readable_branch b ≡ true → continuation b ≡ Some c → is_fine c ≡ true
continued_fine (put_reveal puts reveals test next) c h q =
    let same : next ≡ c = cc in
    let p = and_parts _ (is_readable_test test && is_fine next) h in
    subst (λ x. is_fine x ≡ true) same (and_parts (is_readable_test test) (is_fine next) p.1).1
continued_fine (withdraw party) c h q = cc
continued_fine (split parts) c h q = cc
continued_fine (auth party body) c h q = cc
continued_fine (after height body) c h q = cc

-- a position of a contract, at its path
pub position_fine : (a : Advert) → IsWellFormed a → (path : List PathStep) (c : Contract) → contract_under a.root path ≡ Some c
    → is_fine c ≡ true
position_fine a h path c e = by_end (subterm_from (position a.root) path) refl e
  where
    by_end : (o : Option Subterm) → subterm_from (position a.root) path ≡ o → option_and_then as_contract o ≡ Some c → is_fine c ≡ true
    by_end None f q = cc
    by_end (Some (at_branch d)) f q =
        continued_fine (core d) c
        (core_readable d (end_spot path (position a.root) (at_branch d) (has_names a h).root f)) q
    by_end (Some (position d)) f q =
        let same : d ≡ c = cc in
        subst (λ x. is_fine x ≡ true) same (end_spot path (position a.root) (position d) (has_names a h).root f)

pub last_step : (path : List PathStep) (i : ℕ) → AllByRecursion IsStep (path ++ To i ∷ []) → i < 2 ^ 32
last_step [] i h = h.0
last_step (st ∷ path) i h = last_step path i h.1
