-- The canonical text of the generated contract is no longer than a contract text may be, so it is taken.
use Rattle.std.proofs.Common.{◌≡◌, ℕ, ◌+◌, ◌*◌, ◌<◌, ◌≤◌, List, [], ◌∷◌, ◌++◌, length, Ok, refl, arith}
use Rattle.std.specs.Prelude.{codes}
use Rattle.std.specs.Fmt.{decimal}
use Rattle.std.proofs.lemmas.Bool.{le-ltb}
use Rattle.std.proofs.lemmas.Fmt.{length-decimal-le}
use Rattle.std.proofs.lemmas.List.{length-append}
use Rattle.spec_terms.specs.Advert.{Advert}
use Rattle.spec_terms.specs.Faults.{IsWellFormed}
use Rattle.spec_text.specs.Canonical.{choice_text, rest_entries_text, advert_text}
use Rattle.spec_text.specs.Limits.{most_text_bytes}
use Rattle.spec_text.specs.ReadAdvert.{read_answer}
use Rattle.spec_text.specs.Refusals.{contract_of}
use Rattle.spec_text.specs.Generator.{generated_contract, generated_secrets}
use Rattle.spec_text.specs.Generator.{Generated, party_a, party_b, secret_name, stages, secret_entries, generated_advert}
use Rattle.theory_text.proofs.Printed.Adverts.{printed_advert}
use Rattle.theory_generator.specs.Generated.{GeneratedContractsTaken}
use Rattle.theory_generator.proofs.Names.{secret_short}
use Rattle.theory_generator.proofs.Secrets.{AreGenerated, secrets_drawn}
use Rattle.theory_generator.proofs.WellFormed.{generated_well_formed}

-- ---- lengths

-- a number below 1000 has at most three digits
three_digits : (n : ℕ) → n < 1000 → length (decimal n) ≤ 3
three_digits n h = length-decimal-le 3 n (omega arith) h (omega arith)

five_digits : (n : ℕ) → n < 100000 → length (decimal n) ≤ 5
five_digits n h = length-decimal-le 5 n (omega arith) h (omega arith)

-- what a stage reveals, and what it tests
abbrev tested_text : List ℕ → List ℕ → List ℕ
tested_text name digits = codes " if " ++ ((codes "|" ++ (name ++ codes "|")) ++ (codes " = " ++ digits))

abbrev reveal_text : List ℕ → List ℕ → List ℕ → List ℕ
reveal_text name digits next = (codes "reveal " ++ ((name ++ []) ++ tested_text name digits)) ++ (codes " . " ++ next)

abbrev late_text : List ℕ → List ℕ
late_text height = codes " + " ++ ((codes "after " ++ (height ++ (codes " : " ++ (codes "withdraw " ++ party_b)))) ++ [])

tested-length : (name digits : List ℕ) → length (tested_text name digits) ≡ length name + length digits + 9
tested-length name digits =
    omega (arith, length-append (codes "|" ++ (name ++ codes "|")) (codes " = " ++ digits), length-append name (codes "|"))

reveal-length : (name digits next : List ℕ) → length (reveal_text name digits next) ≡ 2 * length name + length digits + length next + 19
reveal-length name digits next =
    omega (
      arith,
      tested-length name digits,
      length-append (codes "reveal " ++ ((name ++ []) ++ tested_text name digits)) (codes " . " ++ next),
      length-append (name ++ []) (tested_text name digits),
      length-append name [],
    )

late-length : (height : List ℕ) → length (late_text height) ≡ length height + 22
late-length height =
    omega (
      arith,
      length-append (codes "after " ++ (height ++ (codes " : " ++ (codes "withdraw " ++ party_b)))) [],
      length-append height (codes " : " ++ (codes "withdraw " ++ party_b)),
    )

stage-length : (name digits next height : List ℕ)
    → length (codes "(" ++ ((reveal_text name digits next ++ late_text height) ++ codes ")"))
    ≡ 2 * length name + length digits + length next + length height + 43
stage-length name digits next height =
    omega (
      arith,
      reveal-length name digits next,
      late-length height,
      length-append (reveal_text name digits next) (late_text height),
      length-append (reveal_text name digits next ++ late_text height) (codes ")"),
    )

stages-length : (j : ℕ) (ms : List Generated) → AreGenerated j ms → j + length ms ≤ 1000 → length (choice_text (stages j ms)) ≤ 100 * length ms + 10
stages-length j [] made h = omega arith
stages-length j (m ∷ ms) made h =
    let name = secret_short j (omega arith) in
    let digits = three_digits m.0 (omega (arith, made.0.short)) in
    let height = five_digits (10 * j) (omega arith) in
    let later = stages-length (j + 1) ms made.1 (omega arith) in
    let whole = stage-length (secret_name j) (decimal m.0) (choice_text (stages (j + 1) ms)) (decimal (10 * j)) in
    omega (arith, whole, name, digits, height, later)

entry-length : (name rest : List ℕ)
    → length (codes " | " ++ ((party_a ++ (codes ": secret " ++ name)) ++ rest)) ≡ length name + length rest + 13
entry-length name rest = omega (arith, length-append (party_a ++ (codes ": secret " ++ name)) rest)

entries-length : (j : ℕ) (ms : List Generated) → j + length ms ≤ 1000 → length (rest_entries_text (secret_entries j ms)) ≤ 20 * length ms
entries-length j [] h = omega arith
entries-length j (m ∷ ms) h =
    omega (
      arith,
      secret_short j (omega arith),
      entries-length (j + 1) ms (omega arith),
      entry-length (secret_name j) (rest_entries_text (secret_entries (j + 1) ms)),
    )

-- a deposit of the precondition
abbrev deposit_text : List ℕ → List ℕ → List ℕ → List ℕ
deposit_text party value name = party ++ (codes ":! " ++ (value ++ (codes " @ " ++ name)))

deposit-length : (party value name : List ℕ) → length (deposit_text party value name) ≡ length party + length value + length name + 6
deposit-length party value name =
    omega (arith, length-append party (codes ":! " ++ (value ++ (codes " @ " ++ name))), length-append value (codes " @ " ++ name))

abbrev whole_text : List ℕ → List ℕ → List ℕ → List ℕ → List ℕ
whole_text first second entries root = codes "{" ++ ((first ++ (codes " | " ++ (second ++ entries))) ++ (codes "} " ++ ([] ++ root)))

whole-length : (first second entries root : List ℕ)
    → length (whole_text first second entries root) ≡ length first + length second + length entries + length root + 6
whole-length first second entries root =
    omega (
      arith,
      length-append (first ++ (codes " | " ++ (second ++ entries))) (codes "} " ++ ([] ++ root)),
      length-append first (codes " | " ++ (second ++ entries)),
      length-append second entries,
    )

text-length : (ms : List Generated) → AreGenerated 1 ms → length ms ≤ 30 → length (advert_text (generated_advert ms)) ≤ 5000
text-length ms made h =
    let all = decimal 1000000 in
    let none = decimal 0 in
    let first = deposit_text party_a all (codes "x") in
    let second = deposit_text party_b none (codes "y") in
    omega (
      arith,
      whole-length first second (rest_entries_text (secret_entries 1 ms)) (choice_text (stages 1 ms)),
      deposit-length party_a all (codes "x"),
      deposit-length party_b none (codes "y"),
      length-decimal-le 7 1000000 (omega arith) (omega arith) (omega arith),
      three_digits 0 (omega arith),
      entries-length 1 ms (omega arith),
      stages-length 1 ms made (omega arith),
    )

-- ---- the text is taken

taken_by : (text : List ℕ) (a : Advert) → length text ≤ 5000 → read_answer text ≡ Ok a → IsWellFormed a → contract_of text ≡ Ok a
taken_by text a short read well = rw (le-ltb most_text_bytes (length text) (omega (arith, short)), read, well.faultless, well.limited) refl

pub contract_taken : GeneratedContractsTaken
contract_taken number size few =
    let contract = generated_contract number size in
    let well = generated_well_formed number size few in
    let d = secrets_drawn size 1 number in
    let short = text-length ((generated_secrets number size).0) d.made (omega (arith, d.count)) in
    record {
      well_formed = well;
      taken = taken_by (advert_text contract) contract short (printed_advert contract well.readable) well;
    }
