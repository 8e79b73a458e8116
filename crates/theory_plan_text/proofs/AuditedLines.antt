-- What an audit finds in the lines of a file can be shown.
use Rattle.std.proofs.Common.{◌≡◌, ℕ, suc, ◌+◌, ◌-◌, ◌*◌, ◌≤◌, ◌^◌, List, [], ◌∷◌, map, length, take, drop, Bool, true, false}
use Rattle.std.proofs.Common.{Option, Some, None, Result, Ok, Err, refl, ap, arith}
use Rattle.std.specs.Prelude.{if◌then◌else◌, reverse}
use Rattle.std.specs.List.{filter, AllByRecursion}
use Rattle.std.specs.Option.{option_map_or}
use Rattle.std.proofs.lemmas.Bool.{and_parts}
use Rattle.std.proofs.lemmas.List.{length-take}
use Rattle.spec_data.specs.Digits.{read_hex}
use Rattle.spec_terms.specs.Term.{Contract}
use Rattle.spec_terms.specs.Advert.{Advert}
use Rattle.spec_terms.specs.Paths.{contract_under}
use Rattle.spec_terms.specs.Readable.{is_readable_count, are_readable}
use Rattle.spec_bitcoin.specs.declared.tx.Tx.{Tx}
use Rattle.spec_bitcoin.specs.declared.verdict.Verdict.{Verdict}
use Rattle.spec_bitcoin.specs.declared.verdict.Verdict.TheVariants as verdicts
use Rattle.spec_bitcoin.specs.Effects.{truth}
use Rattle.spec_bitcoin.specs.Reading.{transaction_of}
use Rattle.spec_compiler.specs.Transactions.{tx_of}
use Rattle.spec_compiler.specs.Witness.{first_true, chosen, chosen_by}
use Rattle.spec_run.specs.Conditions.{IsSetup}
use Rattle.spec_run.specs.Setup.{Setup, contract_at}
use Rattle.spec_run.specs.World.{ContractPosition, World}
use Rattle.spec_run.specs.Ledger.{same_bare, verdict_in, initial_of, first_number, first_position, first_witness, count_of, contract_in}
use Rattle.spec_run.specs.Ledger.{branch_count, kind_by, judged}
use Rattle.spec_text.specs.Lines.{line_byte, LineByte, line_feed, dropped, kept, onto_first, onto_lines, lines_of, words_of}
use Rattle.spec_tool.specs.declared.finding.Finding.{Finding}
use Rattle.spec_tool.specs.declared.finding.Kind.{Kind}
use Rattle.spec_tool.specs.Audit.{given_by, given_bytes, given_words, given_line, names_among, now_by, now_for, now_of, kind_given}
use Rattle.spec_tool.specs.Audit.{finding, findings_from}
use Rattle.spec_tool.specs.Listed.{Listed}
use Rattle.theory_bitcoin.proofs.Top.{fault_is_first, read_is_spelled}
use Rattle.theory_text.proofs.Lines.Hex.{read_hex_is}
use Rattle.theory_text.proofs.Lines.Words.{total, total-words}
use Rattle.theory_world.proofs.Contracts.Checking.{contract_checked}
use Rattle.theory_world.proofs.Ledger.Preimages.{few_outputs}
use Rattle.theory_run.proofs.Sizes.{few_inputs, inputs_short, outputs_short}
use Rattle.theory_play_text.specs.Printable.{IsWide, IsOutcome}
use Rattle.theory_play_text.proofs.LedgerAnswers.{IsHanded, judged_shown}
use Rattle.theory_play_text.proofs.Named.{position_fine}
use Rattle.theory_plan_text.specs.Audit.{IsShownNow, IsShownKind, IsShownFinding}
use Rattle.theory_plan_text.specs.PlanLines.{IsWhich}
use Rattle.theory_plan_text.proofs.SmallPaths.{few_branches}

-- ---- how long lines are, and how many

first_total : (b : ℕ) (ls : List (List ℕ)) → total (onto_first b ls) ≡ suc (total ls)
first_total b [] = omega arith
first_total b (l ∷ ls) = omega arith

first_count : (b : ℕ) (ls : List (List ℕ)) → length (onto_first b ls) ≤ suc (length ls)
first_count b [] = omega arith
first_count b (l ∷ ls) = omega arith

-- lines of a text of so many bytes
record AreOf (n : ℕ) (ls : List (List ℕ)) : Type 0 where
  size : total ls ≤ n
  count : length ls ≤ n

line_more : (t : LineByte) (b n : ℕ) (ls : List (List ℕ)) → AreOf n ls → AreOf (suc n) (onto_lines t b ls)
line_more line_feed b n ls h = record { size = omega (arith, h.size); count = omega (arith, h.count) }
line_more dropped b n ls h = record { size = omega (arith, h.size); count = omega (arith, h.count) }
line_more kept b n ls h =
    let t = first_total b ls in
    let c = first_count b ls in
    record { size = omega (arith, h.size, t); count = omega (arith, h.count, c) }

lines_are : (text : List ℕ) → AreOf (length text) (lines_of text)
lines_are [] = record { size = omega arith; count = omega arith }
lines_are (b ∷ bytes) = line_more (line_byte b bytes) b (length bytes) (lines_of bytes) (lines_are bytes)

abbrev pub AreWithin : ℕ → List (List ℕ) → Type 0
AreWithin n ls = AllByRecursion (λ (l : List ℕ). length l ≤ n) ls

each_within : (n : ℕ) (ls : List (List ℕ)) → total ls ≤ n → AreWithin n ls
each_within n [] h = tt
each_within n (l ∷ ls) h = (omega (arith, h), each_within n ls (omega (arith, h)))

-- there are no more lines than bytes
pub few_lines : (text : List ℕ) → length (lines_of text) ≤ length text
few_lines text = let a = lines_are text in a.count

-- and none is longer than the text
pub short_lines : (text : List ℕ) → AreWithin (length text) (lines_of text)
short_lines text = each_within (length text) (lines_of text) (lines_are text).size

-- ---- transactions in lines

abbrev most : ℕ
most = 2 ^ 40

-- a transaction that few bytes spell has numbers that may be shown
spelled_handed : (bytes word : List ℕ) → length word ≤ most → read_hex word ≡ Some bytes → (tx : Tx) → transaction_of bytes ≡ Ok tx → IsHanded tx
spelled_handed bytes word few e tx is =
    let h = read_hex_is word bytes e in
    let sp = read_is_spelled bytes tx h.bytes is in
    let n = ap length sp.same in
    let i = inputs_short tx in
    let a = few_inputs tx.inputs in
    let o = outputs_short tx in
    let b = few_outputs tx.outputs in
    let size = h.size in
    let lock = sp.fits.lock in
    record { inputs = omega (arith, few, size, n, i, a); outputs = omega (arith, few, size, n, o, b); lock = omega (arith, lock) }

bad_wide : (bytes word : List ℕ) → length word ≤ most → read_hex word ≡ Some bytes → (place : ℕ) → transaction_of bytes ≡ Err place
    → IsWide place
bad_wide bytes word few e place is =
    let h = read_hex_is word bytes e in
    let size = h.size in
    let w = (fault_is_first bytes place h.bytes is).within in
    omega (arith, few, size, w)

-- ---- branches that witnesses choose

first_true_few : (k last : ℕ) (xs : List (List ℕ)) → first_true k last xs ≤ k + length xs + last
first_true_few k last [] = omega arith
first_true_few k last (x ∷ xs) = by_test (truth x) (first_true_few (k + 1) last xs)
  where
    by_test : (t : Bool) → first_true (k + 1) last xs ≤ (k + 1) + length xs + last
        → (if t then k else first_true (k + 1) last xs) ≤ k + suc (length xs) + last
    by_test true h = omega arith
    by_test false h = omega (arith, h)

chosen_few : (n : ℕ) (stack : List (List ℕ)) → chosen n stack ≤ 2 * n
chosen_few n stack =
    let f = first_true_few 0 (n - 1) (take (n - 1) stack) in
    let t = length-take (n - 1) stack in
    omega (arith, f, t)

count_few : (s : Setup) → IsSetup s → (held : ContractPosition) → branch_count s held ≤ 2 ^ 32
count_few s is held = by_contract (contract_at s held.contract) refl
  where
    by_choice : (a : Advert) → contract_at s held.contract ≡ Some a → (o : Option Contract) → contract_under a.root held.position ≡ o
        → count_of o ≤ 2 ^ 32
    by_choice a e None f = omega arith
    by_choice a e (Some c) f =
        let fine = position_fine a (contract_checked s is held.contract a e) held.position c f in
        let few = few_branches c (and_parts (is_readable_count c) (are_readable c) fine).0 in
        omega (arith, few)

    by_contract : (o : Option Advert) → contract_at s held.contract ≡ o → count_of (contract_in o held.position) ≤ 2 ^ 32
    by_contract None e = omega arith
    by_contract (Some a) e = by_choice a e (contract_under a.root held.position) refl

-- ---- what the ledger says

first_wide : (ns : List ℕ) → AllByRecursion IsWide ns → IsWide (first_number ns)
first_wide [] h = omega arith
first_wide (n ∷ ns) h = h.0

module _ {X Y : Type 0} (P : X → Type 0) (Q : Y → Type 0) (f : X → Y) (p : X → Bool) (fine : (x : X) → P x → Q (f x)) where
  pub map_filter : (xs : List X) → AllByRecursion P xs → AllByRecursion Q (map f (filter p xs))
  map_filter [] h = tt
  map_filter (x ∷ xs) h = by_test (p x) (map_filter xs h.1)
    where
      by_test : (t : Bool) → AllByRecursion Q (map f (filter p xs)) → AllByRecursion Q (map f (if t then x ∷ filter p xs else filter p xs))
      by_test true r = (fine x h.0, r)
      by_test false r = r

module _ (s : Setup) (is : IsSetup s) (w : World) (few : length w.outputs ≤ 2 ^ 40) where
  branch_wide : (held : ContractPosition) (witness : List (List ℕ)) → IsWide (chosen_by (branch_count s held) witness)
  branch_wide held witness =
      let c = count_few s is held in
      let f = chosen_few (branch_count s held) (drop 1 (reverse witness)) in
      omega (arith, c, f)

  kind_shown : (tx : Tx) (spent : List ℕ) → AllByRecursion IsWide spent → (o : Option ℕ) (p : Option ContractPosition)
      → IsShownNow (now_by (kind_by s tx spent o p))
  kind_shown tx spent h (Some contract) p = tt
  kind_shown tx spent h None (Some held) = (first_wide spent h, branch_wide held (first_witness tx.inputs))
  kind_shown tx spent h None None = tt

  verdict_shown : (tx : Tx) (v : Verdict) → IsOutcome (judged s w w tx v).outcome → IsShownNow (now_for s w tx v)
  verdict_shown tx (verdicts.Accepted spent made) h = kind_shown tx spent h.0 (initial_of s w tx) (first_position w spent)
  verdict_shown tx (verdicts.Refused r) h = h

  now_shown : (tx : Tx) → IsHanded tx → IsShownNow (now_of s w tx)
  now_shown tx h = verdict_shown tx (verdict_in s w tx) (judged_shown s w w few tx h)

  -- ---- findings

  module _ (all : List Listed) (named : AllByRecursion (λ (l : Listed). IsWhich l.which) all) where
    names_shown : (tx : Tx) → AllByRecursion IsWhich (names_among all tx)
    names_shown tx =
        map_filter (λ (l : Listed). IsWhich l.which) IsWhich (λ l. l.which) (λ l. same_bare tx (tx_of l.pending)) (λ l h. h) all named

    abbrev IsFine : Option Kind → Type 0
    IsFine None = Unit {0}
    IsFine (Some kind) = IsShownKind kind

    bytes_shown : (word : List ℕ) → length word ≤ most → (bytes : List ℕ) → read_hex word ≡ Some bytes → (r : Result Tx ℕ)
        → transaction_of bytes ≡ r → IsFine (kind_given s w all (given_by r))
    bytes_shown word short bytes e (Ok tx) q = (names_shown tx, now_shown tx (spelled_handed bytes word short e tx q))
    bytes_shown word short bytes e (Err place) q = bad_wide bytes word short e place q

    word_shown : (word : List ℕ) → length word ≤ most → (o : Option (List ℕ)) → read_hex word ≡ o
        → IsFine (kind_given s w all (given_bytes o))
    word_shown word short None e = tt
    word_shown word short (Some bytes) e = bytes_shown word short bytes e (transaction_of bytes) refl

    words_shown : (line : List ℕ) → length line ≤ most → (ws : List (List ℕ)) → words_of line ≡ ws
        → IsFine (kind_given s w all (given_words ws))
    words_shown line short [] e = tt
    words_shown line short (word ∷ []) e =
        let t = total-words line in
        let same = ap total e in
        word_shown word (omega (arith, short, t, same)) (read_hex word) refl
    words_shown line short (word ∷ other ∷ ws) e = tt

    onto_shown : (n : ℕ) (o : Option Kind) (later : List Finding) → IsWide n → IsFine o → AllByRecursion IsShownFinding later
        → AllByRecursion IsShownFinding (option_map_or (λ kind. finding n kind ∷ later) o later)
    onto_shown n None later number h k = k
    onto_shown n (Some kind) later number h k = ((number, h), k)

    -- each line has a number, and is short
    pub findings_shown : (n : ℕ) (lines : List (List ℕ)) → n + length lines ≤ 2 ^ 40 → AreWithin most lines
        → AllByRecursion IsShownFinding (findings_from s w all n lines)
    findings_shown n [] room short = tt
    findings_shown n (line ∷ lines) room short =
        onto_shown n (kind_given s w all (given_line line)) (findings_from s w all (n + 1) lines) (omega (arith, room))
        (words_shown line short.0 (words_of line) refl) (findings_shown (n + 1) lines (omega (arith, room)) short.1)
