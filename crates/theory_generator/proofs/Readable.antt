-- The generated contract is within the limits of the reader.
use Rattle.std.proofs.Common.{◌≡◌, ℕ, ◌+◌, ◌*◌, ◌≤◌, true, List, [], ◌∷◌, length, refl, arith}
use Rattle.std.specs.Prelude.{nat_le}
use Rattle.std.specs.List.{list_all}
use Rattle.spec_terms.specs.Term.{after, withdraw, equal, constant, length_of}
use Rattle.spec_terms.specs.Precondition.{deposits, secrets}
use Rattle.spec_terms.specs.Readable.{is_name, most_secrets, greatest_constant, is_readable_entry, is_readable_pre, is_readable_test}
use Rattle.spec_terms.specs.Readable.{is_readable_count, are_readable, is_readable_branch, depth_of_choice, count_of}
use Rattle.spec_terms.specs.Readable.{is_readable_contract, is_readable}
use Rattle.spec_text.specs.Generator.{Generated, party_a, party_b, secret_name, stages, secret_entries, generated_advert}
use Rattle.spec_text.specs.Generator.{generated_contract, generated_secrets}
use Rattle.theory_text.proofs.ListFacts.{and_is}
use Rattle.theory_text.proofs.Printed.Adverts.{printed_advert}
use Rattle.theory_text.proofs.Within.ReadWithin.{le_yes}
use Rattle.theory_generator.specs.Generated.{GeneratedContractsRead}
use Rattle.theory_generator.proofs.Names.{secret_named}
use Rattle.theory_generator.proofs.Secrets.{AreGenerated, secrets_drawn}

-- ---- the precondition

pub a_named : is_name party_a ≡ true
unfolding is_name
a_named = refl

pub b_named : is_name party_b ≡ true
unfolding is_name
b_named = refl

x_named : is_name (120 ∷ []) ≡ true
unfolding is_name
x_named = refl

y_named : is_name (121 ∷ []) ≡ true
unfolding is_name
y_named = refl

entries_readable : (j : ℕ) (ms : List Generated) → j + length ms ≤ 1000 → list_all is_readable_entry (secret_entries j ms) ≡ true
entries_readable j [] h = refl
entries_readable j (m ∷ ms) h = and_is _ _ (and_is _ _ a_named (secret_named j (omega arith))) (entries_readable (j + 1) ms (omega arith))

pub no_deposits : (j : ℕ) (ms : List Generated) → deposits (secret_entries j ms) ≡ []
no_deposits j [] = refl
no_deposits j (m ∷ ms) = no_deposits (j + 1) ms

count-secrets : (j : ℕ) (ms : List Generated) → length (secrets (secret_entries j ms)) ≡ length ms
count-secrets j [] = refl
count-secrets j (m ∷ ms) = omega (arith, count-secrets (j + 1) ms)

pre_readable : (ms : List Generated) → length ms ≤ 30 → is_readable_pre (generated_advert ms).pre ≡ true
pre_readable ms h =
    let entries = entries_readable 1 ms (omega arith) in
    let few : nat_le (length (secrets (secret_entries 1 ms))) most_secrets ≡ true =
    le_yes _ most_secrets (omega (arith, count-secrets 1 ms)) in
    rw (a_named, b_named, x_named, y_named, entries, no_deposits 1 ms, few) refl

-- ---- the contract

count_readable : (j : ℕ) (ms : List Generated) → is_readable_count (stages j ms) ≡ true
count_readable j [] = refl
count_readable j (m ∷ ms) = refl

test_readable : (name : List ℕ) (n : ℕ) → is_name name ≡ true → n ≤ 16 → is_readable_test (equal (length_of name) (constant n)) ≡ true
test_readable name n h few = rw (h, le_yes n greatest_constant (omega arith)) refl

late_readable : (height : ℕ) → height ≤ 499999999 → is_readable_branch (after height (withdraw party_b)) ≡ true
late_readable height h = and_is _ _ (le_yes height 499999999 h) b_named

stages_readable : (j : ℕ) (ms : List Generated) → AreGenerated j ms → j + length ms ≤ 1000 → are_readable (stages j ms) ≡ true
stages_readable j [] made h = and_is _ _ a_named refl
stages_readable j (m ∷ ms) made h =
    let named = secret_named j (omega arith) in
    let test = test_readable (secret_name j) m.0 named made.0.short in
    let next = and_is _ _ (count_readable (j + 1) ms) (stages_readable (j + 1) ms made.1 (omega arith)) in
    and_is _ _ (and_is _ _ (and_is _ _ named refl) (and_is _ _ test next)) (and_is _ _ (late_readable (10 * j) (omega arith)) refl)

depth-stages : (j : ℕ) (ms : List Generated) → depth_of_choice (stages j ms) ≡ length ms + 1
depth-stages j [] = refl
depth-stages j (m ∷ ms) = omega (arith, depth-stages (j + 1) ms)

count-stages : (j : ℕ) (ms : List Generated) → count_of (stages j ms) ≡ 2 * length ms + 1
count-stages j [] = refl
count-stages j (m ∷ ms) = omega (arith, count-stages (j + 1) ms)

pub root_readable : (ms : List Generated) → AreGenerated 1 ms → length ms ≤ 30 → is_readable_contract (stages 1 ms) ≡ true
root_readable ms made h =
    let depth = le_yes (depth_of_choice (stages 1 ms)) 64 (omega (arith, depth-stages 1 ms)) in
    let count = le_yes (count_of (stages 1 ms)) 512 (omega (arith, count-stages 1 ms)) in
    and_is _ _ (and_is _ _ (count_readable 1 ms) (stages_readable 1 ms made (omega arith))) (and_is _ _ depth count)

-- ---- the advert

pub advert_readable : (ms : List Generated) → AreGenerated 1 ms → length ms ≤ 30 → is_readable (generated_advert ms) ≡ true
advert_readable ms made h = and_is _ _ (pre_readable ms h) (and_is _ _ refl (root_readable ms made h))

pub generated_readable : (number size : ℕ) → size ≤ 30 → is_readable (generated_contract number size) ≡ true
generated_readable number size h =
    let d = secrets_drawn size 1 number in
    advert_readable ((generated_secrets number size).0) d.made (omega (arith, d.count))

pub contract_reads : GeneratedContractsRead
contract_reads number size few =
    let is = generated_readable number size few in
    record { readable = is; read = printed_advert (generated_contract number size) is }
