-- The run that begins a contract is a run, whatever its secrets are.
use Rattle.std.proofs.Common.{◌≡◌, ℕ, ◌≤◌, List, [], ◌∷◌, ◌++◌, map, length, Bool, true, false, refl, sym, ap, ◌∙◌, subst, inl, inr, arith}
use Rattle.std.specs.Prelude.{not, ◌&&◌, ◌||◌}
use Rattle.std.specs.List.{list_all, list_any, AllByRecursion}
use Rattle.std.specs.Str.{bytes_eq}
use Rattle.std.proofs.lemmas.Bool.{and_parts, and_from, or_cases, or_left, or_right}
use Rattle.spec_data.specs.Lists.{is_among, are_different}
use Rattle.spec_data.specs.Ranges.{most_header_secrets, most_header_deposits}
use Rattle.spec_terms.specs.Parties.{participants, choice_mentions}
use Rattle.spec_terms.specs.Precondition.{Holding, deposits, secrets, name_in, party_of}
use Rattle.spec_terms.specs.declared.pre.Pre.{Pre}
use Rattle.spec_terms.specs.declared.pre.Pre.TheVariants.{Persistent, Volatile, Secret}
use Rattle.spec_run.specs.declared.event.Event.{Event}
use Rattle.spec_run.specs.declared.event.Event.TheVariants as events
use Rattle.spec_run.specs.declared.header.HeldSecret.{HeldSecret}
use Rattle.spec_run.specs.Setup.{Setup, is_declared}
use Rattle.spec_run.specs.Conditions.{IsEvent, are_held_apart}
use Rattle.spec_next.specs.FirstLines.{held, owned}
use Rattle.theory_calculus.specs.Members.{Is_in}
use Rattle.theory_calculus.proofs.Names.{bytes-true, among-append, different_names}
use Rattle.theory_world.proofs.Contracts.Mentions.{added}
use Rattle.theory_next.specs.FirstRun.{FirstRunIsARun, first_setup}
use Rattle.theory_next.proofs.Apart.{Apart, among_in, apart_added}

-- ---- names

pub from_among : (p : List ℕ) (ps : List (List ℕ)) → is_among p ps ≡ true → Is_in p ps
from_among p [] h = cc
from_among p (q ∷ ps) h = elim (or_cases (bytes_eq q p) (is_among p ps) h) [
  | inl a ↦ inl (sym (bytes-true q p a))
  | inr b ↦ inr
      (from_among p ps b)
]

apart_different : (xs : List (List ℕ)) → Apart xs → are_different xs ≡ true
apart_different [] h = refl
apart_different (x ∷ xs) h = and_from _ _ (by_test (is_among x xs) refl) (apart_different xs h.1)
  where
    by_test : (b : Bool) → is_among x xs ≡ b → not b ≡ true
    by_test true e = absurd (h.0 (from_among x xs e))
    by_test false e = refl

known : (ps xs : List (List ℕ)) → ((p : List ℕ) → Is_in p xs → is_among p ps ≡ true) → list_all (λ name. is_among name ps) xs ≡ true
known ps [] h = refl
known ps (x ∷ xs) h = and_from _ _ (h x (inl refl)) (known ps xs (λ p i. h p (inr i)))

-- ---- the precondition

abbrev people_of : List Pre → List (List ℕ)
people_of pre = map party_of pre

module _ (ps : List (List ℕ)) where
  owners_known : (pre : List Pre) → ((p : List ℕ) → is_among p (people_of pre) ≡ true → is_among p ps ≡ true)
      → list_all (λ (d : List ℕ × ℕ). is_among (d.0) ps) (owned (deposits pre)) ≡ true
  owners_known [] h = refl
  owners_known (Persistent party value name ∷ es) h =
      and_from _ _ (h party (among_in party (party ∷ people_of es) (inl refl))) (owners_known es (λ p k. h p (or_right
      (bytes_eq party p) _ k)))
  owners_known (Volatile party value name ∷ es) h =
      and_from _ _ (h party (among_in party (party ∷ people_of es) (inl refl))) (owners_known es (λ p k. h p (or_right
      (bytes_eq party p) _ k)))
  owners_known (Secret party name ∷ es) h = owners_known es (λ p k. h p (or_right (bytes_eq party p) _ k))

  holders_known : (pre : List Pre) (strings : List (List ℕ)) → ((p : List ℕ) → is_among p (people_of pre) ≡ true → is_among p ps ≡ true)
      → list_all (λ (x : HeldSecret). is_among x.party ps) (held (secrets pre) strings) ≡ true
  holders_known [] strings h = refl
  holders_known (Persistent party value name ∷ es) strings h = holders_known es strings (λ p k. h p (or_right (bytes_eq party p) _ k))
  holders_known (Volatile party value name ∷ es) strings h = holders_known es strings (λ p k. h p (or_right (bytes_eq party p) _ k))
  holders_known (Secret party name ∷ es) [] h = refl
  holders_known (Secret party name ∷ es) (bytes ∷ strings) h =
      and_from _ _ (h party (among_in party (party ∷ people_of es) (inl refl)))
      (holders_known es strings (λ p k. h p (or_right (bytes_eq party p) _ k)))

-- a name that doesn't stand in the precondition is no secret's
unheld : (party name : List ℕ) (pre : List Pre) (strings : List (List ℕ)) → is_among name (map name_in pre) ≡ false
    → list_any (λ (y : HeldSecret). bytes_eq y.party party && bytes_eq y.name name) (held (secrets pre) strings) ≡ false
unheld party name [] strings h = refl
unheld party name (Persistent p v n ∷ es) strings h = unheld party name es strings (other (bytes_eq n name) _ h)
  where
    other : (a b : Bool) → (a || b) ≡ false → b ≡ false
    other true b e = cc
    other false b e = e
unheld party name (Volatile p v n ∷ es) strings h = unheld party name es strings (other (bytes_eq n name) _ h)
  where
    other : (a b : Bool) → (a || b) ≡ false → b ≡ false
    other true b e = cc
    other false b e = e
unheld party name (Secret p n ∷ es) [] h = refl
unheld party name (Secret p n ∷ es) (bytes ∷ strings) h =
    both (bytes_eq p party) (bytes_eq n name) _ _ h (λ k. unheld party name es strings k)
  where
    both : (a b c d : Bool) → (b || c) ≡ false → (c ≡ false → d ≡ false) → ((a && b) || d) ≡ false
    both a true c d e f = cc
    both true false c d e f = f e
    both false false c d e f = f e

held_apart : (pre : List Pre) (strings : List (List ℕ)) → are_different (map name_in pre) ≡ true
    → are_held_apart (held (secrets pre) strings) ≡ true
held_apart [] strings h = refl
held_apart (Persistent p v n ∷ es) strings h = held_apart es strings (and_parts (not (is_among n (map name_in es))) _ h).1
held_apart (Volatile p v n ∷ es) strings h = held_apart es strings (and_parts (not (is_among n (map name_in es))) _ h).1
held_apart (Secret p n ∷ es) [] h = refl
held_apart (Secret p n ∷ es) (bytes ∷ strings) h =
    let q = and_parts (not (is_among n (map name_in es))) (are_different (map name_in es)) h in
    and_from _ _ (ap not (unheld p n es strings (not_true (is_among n (map name_in es)) q.0))) (held_apart es strings q.1)
  where
    not_true : (b : Bool) → not b ≡ true → b ≡ false
    not_true true e = cc
    not_true false e = refl

same_bytes : (xs : List (List ℕ × List ℕ)) (strings : List (List ℕ)) → length strings ≡ length xs
    → map (λ (x : HeldSecret). x.bytes) (held xs strings) ≡ strings
same_bytes [] [] h = refl
same_bytes [] (bytes ∷ strings) h = absurd (omega (arith, h))
same_bytes (x ∷ xs) [] h = absurd (omega (arith, h))
same_bytes (x ∷ xs) (bytes ∷ strings) h = ap (λ t. bytes ∷ t) (same_bytes xs strings (omega (arith, h)))

same_number : (xs : List (List ℕ × List ℕ)) (strings : List (List ℕ)) → length strings ≡ length xs → length (held xs strings) ≡ length xs
same_number [] strings h = refl
same_number (x ∷ xs) [] h = absurd (omega (arith, h))
same_number (x ∷ xs) (bytes ∷ strings) h = let e = same_number xs strings (omega (arith, h)) in omega (arith, e)

owned_number : (ds : List (List ℕ × Holding)) → length (owned ds) ≡ length ds
owned_number [] = refl
owned_number (d ∷ ds) = let e = owned_number ds in omega (arith, e)

-- ---- the events

all_both : (s : Setup) (xs ys : List Event) → AllByRecursion (IsEvent s) xs → AllByRecursion (IsEvent s) ys
    → AllByRecursion (IsEvent s) (xs ++ ys)
all_both s [] ys h k = k
all_both s (x ∷ xs) ys h k = (h.0, all_both s xs ys h.1 k)

each_event : (s : Setup) (f : List ℕ → Event) (ps : List (List ℕ)) → ((p : List ℕ) → is_declared s p ≡ true → IsEvent s (f p))
    → ((p : List ℕ) → Is_in p ps → is_declared s p ≡ true) → AllByRecursion (IsEvent s) (map f ps)
each_event s f [] h k = tt
each_event s f (p ∷ ps) h k = (h p (k p (inl refl)), each_event s f ps h (λ q i. k q (inr i)))

pub first_run_is_a_run : FirstRunIsARun
first_run_is_a_run hash advert strings hashes well room are opens =
    let s = first_setup hash advert strings in
    let ps = participants advert in
    let names = different_names advert well in
    let different = apart_different ps (apart_added [] (map party_of advert.pre ++ choice_mentions advert.root) tt) in
    let takes : (p : List ℕ) → is_among p (people_of advert.pre) ≡ true → is_among p ps ≡ true = λ p h.
    added (map party_of advert.pre ++ choice_mentions advert.root) [] p
    (among-append p (map party_of advert.pre) (choice_mentions advert.root) ∙ or_left _ _ h) in
    let declared : (p : List ℕ) → Is_in p ps → is_declared s p ≡ true = λ p i. among_in p ps i in
    record {
      setup = record {
        hash = hashes;
        header = record {
          parties = different;
          honest = different;
          honest_declared = known ps ps (λ p i. among_in p ps i);
          owners = holders_known ps advert.pre strings takes;
          names = held_apart advert.pre strings names;
          bytes = subst (λ xs. are_different xs ≡ true) (sym (same_bytes (secrets advert.pre) strings are.each)) are.different;
          depositors = owners_known ps advert.pre takes;
          money = room.money;
          few_parties = room.few_parties;
          few_secrets = subst (λ n. n ≤ most_header_secrets) (sym (same_number (secrets advert.pre) strings are.each)) room.few_secrets;
          few_deposits = subst (λ n. n ≤ most_header_deposits) (sym (owned_number (deposits advert.pre))) room.few_deposits;
        };
        few_contracts = omega arith;
        contracts = (well, tt);
      };
      opens = opens;
      events = (
        tt,
        all_both s _ _ (each_event s (λ party. events.Commit 0 party []) ps (λ p h. (h, tt)) declared)
            (all_both s _ _ (each_event s (λ party. events.Endorse 0 party) ps (λ p h. h) declared)
            (all_both s _ _ (each_event s (λ party. events.Init 0 party) ps (λ p h. h) declared) (tt, tt))),
      );
    }
