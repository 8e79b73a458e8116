-- Whoever is needed for the endorsements of a contract takes part in it.
use Rattle.std.proofs.Common.{◌≡◌, ℕ, List, [], ◌∷◌, ◌++◌, map, true, not, Option, Some, None, refl, sym, ap, subst, inl, inr}
use Rattle.std.specs.List.{list_all, filter}
use Rattle.std.specs.Option.{option_map_or, option_and_then}
use Rattle.std.specs.Str.{bytes_eq}
use Rattle.std.proofs.lemmas.Bool.{and_parts, or_left, or_right}
use Rattle.spec_data.specs.Lists.{is_among}
use Rattle.spec_terms.specs.Advert.{Advert}
use Rattle.spec_terms.specs.Core.{core, puts_of, is_asked}
use Rattle.spec_terms.specs.Term as term
use Rattle.spec_terms.specs.Faults.{IsWellFormed}
use Rattle.spec_terms.specs.Parties.{participants, choice_mentions}
use Rattle.spec_terms.specs.Precondition.{Holding, deposits, volatile, names_of, party_of}
use Rattle.spec_terms.specs.declared.pre.Pre.{Pre}
use Rattle.spec_terms.specs.declared.pre.Pre.TheVariants.{Persistent, Volatile, Secret}
use Rattle.spec_terms.specs.declared.path.PathStep.{PathStep}
use Rattle.spec_bitcoin.specs.Keys.{key_of}
use Rattle.spec_compiler.specs.declared.prepared.Prepared.{Prepared}
use Rattle.spec_compiler.specs.declared.unsigned.Unsigned.{Unsigned}
use Rattle.spec_compiler.specs.Instance.{Instance, branch_label}
use Rattle.spec_compiler.specs.Transactions.{prepared, holding_or_none}
use Rattle.spec_compiler.specs.Compilation.{path_transactions, compilation}
use Rattle.spec_compiler.specs.ByPath as by_path
use Rattle.spec_compiler.specs.ByPath.{PathEnd, end_at, as_unsigned, unsigned_at}
use Rattle.spec_compiler.specs.Endorsements.{Need, put_owner, branch_needs, put_needs, needs_of, path_needs, needed}
use Rattle.theory_calculus.specs.Members.{Is_in}
use Rattle.theory_calculus.proofs.Members.{in_filter}
use Rattle.theory_calculus.proofs.Names.{bytes_refl, volatile_named}
use Rattle.theory_script.proofs.Checked.{puts_known}
use Rattle.theory_script.proofs.Listing.Transactions.{AreRight, transactions_right}
use Rattle.theory_world.proofs.Hashed.{among_left}
use Rattle.theory_world.proofs.Contracts.Endorsed.{in_map, in_joined, in_flat, in_among}
use Rattle.theory_world.proofs.Contracts.Made.{IsBranch, known}
use Rattle.theory_world.proofs.Contracts.Mentions.{added}
use Rattle.theory_world.proofs.Contracts.Standing.{term_branch, term_choice}

-- ---- owners

owner_named : (pre : List Pre) (d : List ℕ × Holding) → Is_in d (deposits pre) → is_among (d.1).owner (map party_of pre) ≡ true
owner_named [] d h = absurd h
owner_named (Persistent party value name ∷ pre) d (inl e) =
    or_left _ _ (subst (λ y. bytes_eq party y ≡ true) (ap (λ (y : List ℕ × Holding). (y.1).owner) (sym e)) (bytes_refl party))
owner_named (Persistent party value name ∷ pre) d (inr i) = or_right (bytes_eq party (d.1).owner) _ (owner_named pre d i)
owner_named (Volatile party value name ∷ pre) d (inl e) =
    or_left _ _ (subst (λ y. bytes_eq party y ≡ true) (ap (λ (y : List ℕ × Holding). (y.1).owner) (sym e)) (bytes_refl party))
owner_named (Volatile party value name ∷ pre) d (inr i) = or_right (bytes_eq party (d.1).owner) _ (owner_named pre d i)
owner_named (Secret party name ∷ pre) d h = or_right (bytes_eq party (d.1).owner) _ (owner_named pre d h)

-- the owner of a deposit takes part
pub owner_takes_part : (a : Advert) (d : List ℕ × Holding) → Is_in d (deposits a.pre) → is_among (d.1).owner (participants a) ≡ true
owner_takes_part a d i =
    added (map party_of a.pre ++ choice_mentions a.root) [] (d.1).owner
    (among_left (d.1).owner (map party_of a.pre) (choice_mentions a.root) (owner_named a.pre d i))

-- ---- needs

right_in : (f : List PathStep → Option Unsigned) (es : List (List PathStep × Unsigned)) (e : List PathStep × Unsigned) → AreRight f es
    → Is_in e es → f (e.0) ≡ Some (e.1)
right_in f [] e h k = absurd k
right_in f (x ∷ es) e h (inl q) = subst (λ (y : List PathStep × Unsigned). f (y.0) ≡ Some (y.1)) (sym q) h.0
right_in f (x ∷ es) e h (inr k) = right_in f es e h.1 k

module _ (hash : List ℕ → List ℕ) (st : Instance) (well : IsWellFormed st.advert) where
  abbrev TakesPart : List ℕ → Type 0
  TakesPart party = is_among party (participants st.advert) ≡ true

  put_takes_part : (name : List ℕ) → is_among name (names_of (volatile st.advert.pre)) ≡ true → TakesPart (put_owner st.advert name)
  put_takes_part name h =
      let v = volatile_named st.advert.pre name h in
      subst (λ (o : Option Holding). TakesPart (holding_or_none o).owner) (sym v.1) (owner_takes_part st.advert (name, v.0) v.2)

  puts_take_part : (path : List PathStep) (names digests : List (List ℕ)) (n : Need)
      → list_all (λ x. is_among x (names_of (volatile st.advert.pre))) names ≡ true
      → Is_in n (put_needs hash st.advert path names digests) → TakesPart n.party
  puts_take_part path [] digests n known i = absurd i
  puts_take_part path (x ∷ names) [] n known i = absurd i
  puts_take_part path (x ∷ names) (d ∷ digests) n known (inl e) =
      subst TakesPart (ap (λ (y : Need). y.party) (sym e)) (put_takes_part x (and_parts (is_among x (names_of (volatile st.advert.pre))) _ known).0)
  puts_take_part path (x ∷ names) (d ∷ digests) n known (inr i) =
      puts_take_part path names digests n (and_parts (is_among x (names_of (volatile st.advert.pre))) _ known).1 i

  branch_takes_part : (path : List PathStep) (b : term.Guarded) (digest : List ℕ) (n : Need)
      → Is_in n (branch_needs hash st.contract st.advert path b digest) → TakesPart n.party
  branch_takes_part path b digest n i =
      let r = in_map {B = Need} (λ party. record {
        path = path;
        party = party;
        key = key_of hash (branch_label st.contract path party);
        digest = digest;
      }) (filter (λ party. not (is_asked b party)) (participants st.advert)) n i in
      subst TakesPart (ap (λ (y : Need). y.party) (sym r.2))
      (in_among (participants st.advert) r.0 (in_filter (λ party. not (is_asked b party)) (participants st.advert) r.0 r.1).0)

  -- those of a branch
  needs_take_part : (path : List PathStep) (b : term.Guarded) (digests : List (List ℕ)) (n : Need)
      → list_all (λ x. is_among x (names_of (volatile st.advert.pre))) (puts_of (core b)) ≡ true
      → Is_in n (needs_of hash st.contract st.advert path b digests) → TakesPart n.party
  needs_take_part path b [] n known i = absurd i
  needs_take_part path b (d ∷ digests) n known i =
      elim (in_joined (branch_needs hash st.contract st.advert path b d) (put_needs hash st.advert path (puts_of (core b)) digests) n i) [
        | inl x ↦ branch_takes_part path b d n x
        | inr y ↦ puts_take_part path (puts_of (core b)) digests n known y
      ]

  -- those of a path
  path_takes_part : (path : List PathStep) (made : Prepared) (n : Need) (d : Unsigned) (o : Option PathEnd) → end_at hash st path ≡ o
      → option_and_then (as_unsigned hash st) o ≡ Some d → Is_in n (path_needs hash st.contract st.advert path made) → TakesPart n.party
  path_takes_part path made n d None ends e i = cc
  path_takes_part path made n d (Some (by_path.at_position here choice)) ends e i = cc
  path_takes_part path made n d (Some (by_path.at_branch here index b)) ends e i =
      let there : IsBranch hash st path here index b = known hash st path (by_path.at_branch here index b) ends in
      let choice = term_choice hash st there.position here there.choice there.stands in
      let puts = puts_known st.advert well there.position there.choice choice index b there.there in
      needs_take_part path b made.digests n puts
      (subst (λ (x : Option term.Guarded). Is_in n (option_map_or (λ c. needs_of hash st.contract st.advert path c made.digests) x []))
      (term_branch hash st path here index b ends) i)

  -- everyone whose endorsement is needed takes part
  pub needed_take_part : (n : Need) → Is_in n (needed hash st) → TakesPart n.party
  needed_take_part n i =
      let r = in_flat (λ (p : List PathStep × Prepared). path_needs hash st.contract st.advert p.0 p.1) (compilation hash st).paths n i in
      let q = in_map {B = List PathStep × Prepared} (λ (p : List PathStep × Unsigned). (p.0, prepared hash p.1)) (path_transactions hash st)
      r.0 r.1 in
      let right = right_in (unsigned_at hash st) (path_transactions hash st) q.0 (transactions_right hash st) q.1 in
      path_takes_part (q.0.0) (prepared hash (q.0.1)) n (q.0.1) (end_at hash st (q.0.0)) refl right
      (subst (λ (y : List PathStep × Prepared). Is_in n (path_needs hash st.contract st.advert y.0 y.1)) q.2 r.2)
