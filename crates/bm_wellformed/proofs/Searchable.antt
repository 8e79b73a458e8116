-- An advert that may have come from the reader can be searched, and without a fault it has few participants.
use Rattle.std.proofs.Common.{◌≡◌, ℕ, ◌≤◌, ◌+◌, ◌^◌, List, [], ◌∷◌, length, Bool, true, false, refl, arith, map}
use Rattle.std.specs.Prelude.{nat_le, ◌&&◌, ◌++◌, if◌then◌else◌, Option, Some, None, option_map, All}
use Rattle.std.specs.List.{list_all}
use Rattle.std.proofs.lemmas.Bool.{and_parts, leb-true}
use Rattle.std.proofs.lemmas.List.Elements.{All-nil, All-cons}
use Rattle.spec_data.specs.Lists.{is_among, or_else}
use Rattle.spec_data.proofs.ListLemmas.{or_else-none}
use Rattle.spec_terms.specs.Advert.{Advert}
use Rattle.spec_terms.specs.Precondition.{Holding, party_of, persistent, deposits, secrets, owners_of}
use Rattle.spec_terms.specs.Parties.{choice_mentions, participants}
use Rattle.spec_data.specs.Ranges.{max_money}
use Rattle.spec_terms.specs.Readable.{is_name, most_depth, most_branches, most_deposits, most_secrets, is_some_list, is_readable_count, are_readable, depth_of_choice, count_of, is_readable_contract, is_readable_entry, is_readable_pre, is_readable}
use Rattle.spec_terms.specs.Faults.{first_without, name_repeated, unknown_deposit, unknown_secret, prefix_repeated, predicate_secret, no_persistent, split_sum, fee_short, first_found, first_fault}
use Rattle.spec_terms.specs.declared.place.Place.{Place}
use Rattle.spec_terms.specs.declared.place.Place.TheVariants as places
use Rattle.spec_terms.specs.declared.pre.Pre.{Pre}
use Rattle.spec_terms.specs.declared.pre.Pre.TheVariants.{Persistent, Volatile, Secret}
use Rattle.bm_wellformed.specs.Small.{value_in, IsSearchable}
use Rattle.bm_wellformed.proofs.Smallness.{few_branches, small_branches}
use Rattle.bm_wellformed.proofs.Pigeons.{pigeons, different_all}

small_value : (e : Pre) → is_readable_entry e ≡ true → value_in e ≤ 2 ^ 51
small_value (Persistent party value name) h =
    let p = and_parts (is_name party) (nat_le value max_money && is_name name) h in
    let q = leb-true value max_money (and_parts (nat_le value max_money) (is_name name) p.1).0 in
    omega (arith, q)
small_value (Volatile party value name) h =
    let p = and_parts (is_name party) (nat_le value max_money && is_name name) h in
    let q = leb-true value max_money (and_parts (nat_le value max_money) (is_name name) p.1).0 in
    omega (arith, q)
small_value (Secret party name) h = omega arith

small_values : (pre : List Pre) → list_all is_readable_entry pre ≡ true → All (λ e. value_in e ≤ 2 ^ 51) pre
small_values [] h = All-nil (λ e. value_in e ≤ 2 ^ 51)
small_values (e ∷ es) h =
    let p = and_parts (is_readable_entry e) (list_all is_readable_entry es) h in
    All-cons (λ e. value_in e ≤ 2 ^ 51) e es (small_value e p.0) (small_values es p.1)

length-pre : (pre : List Pre) → length pre ≡ length (deposits pre) + length (secrets pre)
length-pre [] = refl
length-pre (Persistent party value name ∷ es) = omega (arith, length-pre es)
length-pre (Volatile party value name ∷ es) = omega (arith, length-pre es)
length-pre (Secret party name ∷ es) = omega (arith, length-pre es)

few_deposits : (pre : List Pre) → is_readable_pre pre ≡ true → (length (deposits pre) ≤ 32) × (length (secrets pre) ≤ 32)
few_deposits pre h =
    let p = and_parts (is_some_list pre && list_all is_readable_entry pre) (nat_le (length (deposits pre)) most_deposits && nat_le (length (secrets pre)) most_secrets) h in
    let q = and_parts (nat_le (length (deposits pre)) most_deposits) (nat_le (length (secrets pre)) most_secrets) p.1 in
    (leb-true (length (deposits pre)) 32 q.0, leb-true (length (secrets pre)) 32 q.1)

readable_parts : (a : Advert) → is_readable a ≡ true → (is_readable_pre a.pre ≡ true) × (is_readable_contract a.root ≡ true)
readable_parts a h =
    let p = and_parts (is_readable_pre a.pre) (nat_le a.fee max_money && is_readable_contract a.root) h in
    (p.0, (and_parts (nat_le a.fee max_money) (is_readable_contract a.root) p.1).1)

pub searchable : (a : Advert) → is_readable a ≡ true → IsSearchable a
searchable a h =
    let p = readable_parts a h in
    let entries = (and_parts (is_some_list a.pre && list_all is_readable_entry a.pre) (nat_le (length (deposits a.pre)) most_deposits && nat_le (length (secrets a.pre)) most_secrets) p.0).0 in
    let few = few_deposits a.pre p.0 in
    let r = and_parts (is_readable_count a.root && are_readable a.root) (nat_le (depth_of_choice a.root) most_depth && nat_le (count_of a.root) most_branches) p.1 in
    let s = and_parts (is_readable_count a.root) (are_readable a.root) r.0 in
    let t = and_parts (nat_le (depth_of_choice a.root) most_depth) (nat_le (count_of a.root) most_branches) r.1 in
    record {
      values = small_values a.pre (and_parts (is_some_list a.pre) (list_all is_readable_entry a.pre) entries).1;
      short = omega (arith, length-pre a.pre, few);
      few = few_branches a.root s.0;
      small = small_branches a.root s.1;
      low = leb-true (depth_of_choice a.root) 64 t.0;
    }

-- ---- few participants

length-owners : (ds : List (List ℕ × Holding)) → length (owners_of ds) ≡ length ds
length-owners [] = refl
length-owners (d ∷ ds) = omega (arith, length-owners ds)

length-persistent : (pre : List Pre) → length (persistent pre) ≤ length (deposits pre)
length-persistent [] = omega arith
length-persistent (Persistent party value name ∷ es) = omega (arith, length-persistent es)
length-persistent (Volatile party value name ∷ es) = omega (arith, length-persistent es)
length-persistent (Secret party name ∷ es) = length-persistent es

with_owner : (b : Bool) (place : Place) (rest : Option Place) → or_else (if b then None else Some place) rest ≡ None → (b ≡ true) × (rest ≡ None)
with_owner true place rest h = (refl, h)
with_owner false place rest h = cc

all_with : (owners parties : List (List ℕ)) → first_without owners parties ≡ None → list_all (λ n. is_among n owners) parties ≡ true
all_with owners [] h = refl
all_with owners (n ∷ ns) h =
    let p = with_owner (is_among n owners) (places.Party n) (first_without owners ns) h in
    λ i. p.0 i && all_with owners ns p.1 i

none_mapped : (k : ℕ) (o : Option Place) → option_map {T = Place} {U = ℕ × Place} (λ place. (k, place)) o ≡ None → o ≡ None
none_mapped k None h = refl
none_mapped k (Some place) h = cc

-- where the first of several has no place
none_first : (k : ℕ) (o : Option Place) (fs : List (ℕ × Option Place)) → first_found ((k, o) ∷ fs) ≡ None → (o ≡ None) × (first_found fs ≡ None)
none_first k o fs e = let p = or_else-none (option_map {T = Place} {U = ℕ × Place} (λ place. (k, place)) o) (first_found fs) e in (none_mapped k o p.0, p.1)

-- the faults after each number
abbrev after_6 : Advert → List (ℕ × Option Place)
after_6 a = (7, split_sum a) ∷ (8, fee_short a) ∷ []

abbrev after_5 : Advert → List (ℕ × Option Place)
after_5 a = (6, no_persistent a) ∷ after_6 a

abbrev after_4 : Advert → List (ℕ × Option Place)
after_4 a = (5, predicate_secret a) ∷ after_5 a

abbrev after_3 : Advert → List (ℕ × Option Place)
after_3 a = (4, prefix_repeated a) ∷ after_4 a

abbrev after_2 : Advert → List (ℕ × Option Place)
after_2 a = (3, unknown_secret a) ∷ after_3 a

abbrev after_1 : Advert → List (ℕ × Option Place)
after_1 a = (2, unknown_deposit a) ∷ after_2 a

all_persistent : (a : Advert) → first_fault a ≡ None → no_persistent a ≡ None
all_persistent a h =
    let f1 = none_first 1 (name_repeated a) (after_1 a) h in
    let f2 = none_first 2 (unknown_deposit a) (after_2 a) f1.1 in
    let f3 = none_first 3 (unknown_secret a) (after_3 a) f2.1 in
    let f4 = none_first 4 (prefix_repeated a) (after_4 a) f3.1 in
    let f5 = none_first 5 (predicate_secret a) (after_5 a) f4.1 in
    (none_first 6 (no_persistent a) (after_6 a) f5.1).0

pub few_participants : (a : Advert) → is_readable a ≡ true → first_fault a ≡ None → length (participants a) ≤ 32
few_participants a h f =
    let few = (few_deposits a.pre (readable_parts a h).0).0 in
    let fewer = pigeons (participants a) (owners_of (persistent a.pre)) (different_all [] (map party_of a.pre ++ choice_mentions a.root) refl) (all_with (owners_of (persistent a.pre)) (participants a) (all_persistent a f)) in
    omega (arith, few, fewer, length-owners (persistent a.pre), length-persistent a.pre)
