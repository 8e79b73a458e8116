-- The generated contract has no fault and is within the limits of the check.
use Rattle.std.proofs.Common.{◌≡◌, ℕ, ◌+◌, ◌<◌, ◌≤◌, Bool, true, false, List, [], ◌∷◌, ◌++◌, length, map, None, refl, subst, ◌∙◌, arith}
use Rattle.std.specs.Prelude.{◌||◌}
use Rattle.std.specs.Str.{bytes_eq}
use Rattle.std.proofs.lemmas.List.Folds.{list_any-append}
use Rattle.spec_data.specs.Lists.{is_among}
use Rattle.spec_terms.specs.Precondition.{secrets, names_of, name_in}
use Rattle.spec_terms.specs.Parties.{participants}
use Rattle.spec_terms.specs.Faults.{at_core, at_position, first_repeated, name_repeated, puts_unknown, reveals_unknown}
use Rattle.spec_terms.specs.Faults.{repeats, tests_hidden}
use Rattle.spec_terms.specs.Faults.{no_persistent, is_uneven, is_short, first_fault, IsWellFormed}
use Rattle.spec_terms.specs.Faults.{too_many_participants, is_too_much, is_unbounded, is_too_large, first_limit}
use Rattle.spec_text.specs.Generator.{Generated, secret_name, stages, secret_entries, generated_advert, generated_contract, generated_secrets}
use Rattle.theory_text.proofs.ListFacts.{or_no}
use Rattle.theory_text.proofs.Within.ReadWithin.{le_yes}
use Rattle.theory_generator.proofs.Names.{names_apart, same_name}
use Rattle.theory_generator.proofs.Readable.{advert_readable}
use Rattle.theory_generator.proofs.Participants.{participants-made}
use Rattle.theory_generator.proofs.Secrets.{AreGenerated, secrets_drawn}
use Rattle.theory_generator.proofs.Stages.{ClearsStages, no_place}

-- ---- names

-- no secret from number j on is among the names
abbrev Fresh : ℕ → List (List ℕ) → Type 0
Fresh j names = (k : ℕ) → j ≤ k → k < 1000 → is_among (secret_name k) names ≡ false

fresh_more : (j : ℕ) (names : List (List ℕ)) → j < 1000 → Fresh j names → Fresh (j + 1) (names ++ secret_name j ∷ [])
fresh_more j names small h k more less =
    let apart = names_apart j k small less (λ same. absurd (omega (arith, same))) in
    list_any-append (λ t. bytes_eq t (secret_name k)) names (secret_name j ∷ [])
    ∙ or_no _ _ (h k (omega arith) less) (or_no _ _ apart refl)

none_repeated : (j : ℕ) (ms : List Generated) (n : ℕ) (before : List (List ℕ)) → j + length ms ≤ 1000 → Fresh j before
    → first_repeated n before (map name_in (secret_entries j ms)) ≡ None
none_repeated j [] n before h fresh = refl
none_repeated j (m ∷ ms) n before h fresh =
    let later = none_repeated (j + 1) ms (n + 1) (before ++ secret_name j ∷ []) (omega arith) (fresh_more j before (omega arith) fresh) in
    rw (fresh j (omega arith) (omega arith)) later

names_new : (ms : List Generated) → length ms ≤ 30 → name_repeated (generated_advert ms) ≡ None
names_new ms h = rw (none_repeated 1 ms 2 ((120 ∷ []) ∷ (121 ∷ []) ∷ []) (omega arith) (λ k more less. refl)) refl

known_by : (j k : ℕ) (t later : Bool) → bytes_eq (secret_name j) (secret_name k) ≡ t → ((j ≡ k → ⊥) → later ≡ true) → (t || later) ≡ true
known_by j k true later e f = refl
known_by j k false later e f =
    f (λ same. let yes = subst (λ (i : ℕ). bytes_eq (secret_name j) (secret_name i) ≡ true) same (same_name (secret_name j)) in absurd cc)

-- a secret is among those of the precondition
entry_known : (j k : ℕ) (ms : List Generated) → j ≤ k → k < j + length ms
    → is_among (secret_name k) (names_of (secrets (secret_entries j ms))) ≡ true
entry_known j k [] more less = absurd (omega arith)
entry_known j k (m ∷ ms) more less =
    known_by j k (bytes_eq (secret_name j) (secret_name k)) _ refl (λ other. entry_known (j + 1) k ms (above j k more other) (omega arith))
  where
    above : (j k : ℕ) → j ≤ k → (j ≡ k → ⊥) → j + 1 ≤ k
    above j k h f = omega (arith, f)

-- ---- the tests at each position and branch

no_put : (ms : List Generated) → ClearsStages (length ms) (λ s. at_core (puts_unknown (generated_advert ms).pre) s.subterm)
no_put ms = record {
  positions = λ path j rest made. refl;
  reveals = λ path j n next some few short. refl;
  lates = λ path j. refl;
  lasts = λ path. refl;
}

all_revealed : (ms : List Generated) → ClearsStages (length ms) (λ s. at_core (reveals_unknown (generated_advert ms).pre) s.subterm)
all_revealed ms = record {
  positions = λ path j rest made. refl;
  reveals = λ path j n next some few short. rw (entry_known 1 j ms some (omega arith)) refl;
  lates = λ path j. refl;
  lasts = λ path. refl;
}

none_twice : (ms : List Generated) → ClearsStages (length ms) (λ s. at_core repeats s.subterm)
none_twice ms = record {
  positions = λ path j rest made. refl;
  reveals = λ path j n next some few short. refl;
  lates = λ path j. refl;
  lasts = λ path. refl;
}

none_hidden : (ms : List Generated) → ClearsStages (length ms) (λ s. at_core tests_hidden s.subterm)
none_hidden ms = record {
  positions = λ path j rest made. refl;
  reveals = λ path j n next some few short. rw (same_name (secret_name j)) refl;
  lates = λ path j. refl;
  lasts = λ path. refl;
}

no_split : (ms : List Generated) → ClearsStages (length ms) (λ s. at_core (is_uneven (generated_advert ms).fee s.balance) s.subterm)
no_split ms = record {
  positions = λ path j rest made. refl;
  reveals = λ path j n next some few short. refl;
  lates = λ path j. refl;
  lasts = λ path. refl;
}

none_short : (ms : List Generated) → ClearsStages (length ms) (λ s. is_short (generated_advert ms).fee s.balance s.subterm)
none_short ms = record {
  positions = λ path j rest made. refl;
  reveals = λ path j n next some few short. refl;
  lates = λ path j. refl;
  lasts = λ path. refl;
}

not_too_much : (ms : List Generated) → ClearsStages (length ms) (λ s. at_position (λ c. is_too_much s.balance) s.subterm)
not_too_much ms = record {
  positions = λ path j rest made. refl;
  reveals = λ path j n next some few short. refl;
  lates = λ path j. refl;
  lasts = λ path. refl;
}

all_bounded : (ms : List Generated) → ClearsStages (length ms) (λ s. at_core is_unbounded s.subterm)
all_bounded ms = record {
  positions = λ path j rest made. refl;
  reveals = λ path j n next some few short. rw (le_yes n 2147483647 (omega arith)) refl;
  lates = λ path j. refl;
  lasts = λ path. refl;
}

-- ---- the size of scripts

small_stages : (j : ℕ) (ms : List Generated) → AreGenerated j ms → is_too_large 2 (stages j ms) ≡ false
small_stages j [] made = refl
small_stages j (m ∷ ms) made = rw (le_yes m.0 16 made.0.short, same_name (secret_name j)) refl

all_small : (ms : List Generated)
    → ClearsStages (length ms) (λ s. at_position (is_too_large (length (participants (generated_advert ms)))) s.subterm)
all_small ms = record {
  positions = λ path j rest made. rw (participants-made ms) (small_stages j rest made);
  reveals = λ path j n next some few short. refl;
  lates = λ path j. refl;
  lasts = λ path. refl;
}

-- ---- the rest

all_persistent : (ms : List Generated) → no_persistent (generated_advert ms) ≡ None
all_persistent ms = rw (participants-made ms) refl

two_participants : (ms : List Generated) → too_many_participants (generated_advert ms) ≡ None
two_participants ms = rw (participants-made ms) refl

pub faultless : (ms : List Generated) → AreGenerated 1 ms → length ms ≤ 30 → first_fault (generated_advert ms) ≡ None
faultless ms made h =
    rw (
      names_new ms h,
      no_place ms _ made (no_put ms),
      no_place ms _ made (all_revealed ms),
      no_place ms _ made (none_twice ms),
      no_place ms _ made (none_hidden ms),
      all_persistent ms,
      no_place ms _ made (no_split ms),
      no_place ms _ made (none_short ms),
    ) refl

pub limited : (ms : List Generated) → AreGenerated 1 ms → first_limit (generated_advert ms) ≡ None
limited ms made =
    rw (
      two_participants ms,
      no_place ms _ made (not_too_much ms),
      no_place ms _ made (all_bounded ms),
      no_place ms _ made (all_small ms),
    ) refl

pub well_formed : (ms : List Generated) → AreGenerated 1 ms → length ms ≤ 30 → IsWellFormed (generated_advert ms)
well_formed ms made h = record { readable = advert_readable ms made h; faultless = faultless ms made h; limited = limited ms made }

pub generated_well_formed : (number size : ℕ) → size ≤ 30 → IsWellFormed (generated_contract number size)
generated_well_formed number size h =
    let d = secrets_drawn size 1 number in
    well_formed ((generated_secrets number size).0) d.made (omega (arith, d.count))
