-- Each line of an audit's text is read as what it says.
use Rattle.std.proofs.Common.{◌≡◌, ℕ, Bool, true, false, List, [], ◌∷◌, ◌++◌, map, Option, Some, None}
use Rattle.std.proofs.Common.{refl, sym, ap, subst, ◌∙◌, append-nil, arith}
use Rattle.std.specs.Prelude.{codes}
use Rattle.std.specs.Fmt.{decimal}
use Rattle.std.specs.List.{AllByRecursion}
use Rattle.spec_data.specs.Digits.{hex_text}
use Rattle.spec_terms.specs.declared.path.PathStep.{PathStep}
use Rattle.spec_bitcoin.specs.declared.label.Label.{Label}
use Rattle.spec_bitcoin.specs.declared.label.Label.TheVariants as labels
use Rattle.spec_bitcoin.specs.declared.verdict.Refusal.{Refusal}
use Rattle.spec_bitcoin.specs.declared.verdict.Refusal.TheVariants as refusal
use Rattle.spec_bitcoin.specs.Keys.{IsStep, label_text, path_text}
use Rattle.spec_bitcoin.proofs.StepLemmas.{branch_is, deposit_is}
use Rattle.spec_run.specs.declared.outcome.Reason.{Reason}
use Rattle.spec_run.specs.declared.outcome.Reason.TheVariants as reason
use Rattle.spec_text.specs.OutcomeText.{refusal_name, faulty_input, input_text, refusal_text}
use Rattle.spec_text.specs.RunText.{output_text}
use Rattle.spec_text.specs.Words.{◌>>=◌, given, a_name, all_of, label}
use Rattle.spec_tool.specs.declared.which.Which.{Which}
use Rattle.spec_tool.specs.declared.which.Which.TheVariants as names
use Rattle.spec_tool.specs.Commands.{which_of}
use Rattle.spec_tool.specs.Listed.{which_text}
use Rattle.theory_text.proofs.Lines.LabelsBack.{label_back}
use Rattle.theory_text.proofs.Lines.LineBytes.{ends_line}
use Rattle.theory_text.proofs.Lines.Separated.{Lacks, lacks_append}
use Rattle.theory_text.proofs.Options.{some}
use Rattle.theory_play_text.specs.Lines.{Words, number, by_digits, reason_of}
use Rattle.theory_play_text.specs.Printable.{IsWide, IsNamed, IsLength}
use Rattle.theory_play_text.proofs.LineWords.{is_blank, IsPlain, ArePlain, known_word, is_plain_word, line_of, plain_append, plain_map}
use Rattle.theory_play_text.proofs.Paths.{path_plain}
use Rattle.theory_play_text.proofs.WordsBack.{number_back, number_plain, number_begins, output_back, output_plain, name_back, name_plain}
use Rattle.theory_play_text.proofs.WordsBack.{all_back, NoneIs, cut_back, bytes_back, bytes_plain}
use Rattle.theory_plan_text.specs.Audit.{IsShownLabel}
use Rattle.theory_plan_text.specs.AuditLines.{ShownNow, ShownKind, AuditLine, refused_by, now_said, begins_path, kind_said, audit_said}
use Rattle.theory_plan_text.specs.AuditLines as line
use Rattle.theory_plan_text.specs.PlanLines.{IsWhich}
use Rattle.theory_plan_text.proofs.AnyLines.{Written}
use Rattle.theory_plan_text.proofs.PlanRead.{which_back, which_plain}

-- ---- refusals

abbrev input_words : Option ℕ → Words
input_words None = []
input_words (Some k) = decimal k ∷ []

abbrev pub refusal_words : Refusal → Words
refusal_words r = refusal_name r ∷ input_words (faulty_input r)

-- a refusal is written by its words
pub refusal_line : (r : Refusal) → refusal_text r ≡ line_of (refusal_words r)
refusal_line r = by_input (refusal_name r) (faulty_input r)
  where
    by_input : (name : List ℕ) (o : Option ℕ) → name ++ input_text o ≡ line_of (name ∷ input_words o)
    by_input name None = append-nil name
    by_input name (Some k) = refl

abbrev says_reason : Reason → Option Reason
says_reason r = some r

refusal_back : (r : Refusal) → IsLength (faulty_input r) → reason_of (refusal_words r) ≡ says_reason (reason.Ledger r)
refusal_back refusal.NoInput h = refl
refusal_back refusal.NoOutput h = refl
refusal_back refusal.InputRepeated h = refl
refusal_back (refusal.MissingInput k) h = rw (number_begins k h, number_back k h) refl
refusal_back refusal.ValueLimit h = refl
refusal_back refusal.InsufficientIn h = refl
refusal_back refusal.NotFinal h = refl
refusal_back (refusal.ScriptSigNotEmpty k) h = rw (number_begins k h, number_back k h) refl
refusal_back (refusal.NotWitnessScript k) h = rw (number_begins k h, number_back k h) refl
refusal_back (refusal.ScriptMismatch k) h = rw (number_begins k h, number_back k h) refl
refusal_back (refusal.ItemTooLong k) h = rw (number_begins k h, number_back k h) refl
refusal_back (refusal.ScriptFalse k) h = rw (number_begins k h, number_back k h) refl

input_plain : (o : Option ℕ) → IsLength o → ArePlain (input_words o)
input_plain None h = tt
input_plain (Some k) h = (number_plain k h, tt)

name_known : (r : Refusal) → is_plain_word (refusal_name r) ≡ true
name_known refusal.NoInput = refl
name_known refusal.NoOutput = refl
name_known refusal.InputRepeated = refl
name_known (refusal.MissingInput k) = refl
name_known refusal.ValueLimit = refl
name_known refusal.InsufficientIn = refl
name_known refusal.NotFinal = refl
name_known (refusal.ScriptSigNotEmpty k) = refl
name_known (refusal.NotWitnessScript k) = refl
name_known (refusal.ScriptMismatch k) = refl
name_known (refusal.ItemTooLong k) = refl
name_known (refusal.ScriptFalse k) = refl

refusal_plain : (r : Refusal) → IsLength (faulty_input r) → ArePlain (refusal_words r)
refusal_plain r h = (known_word (refusal_name r) (name_known r), input_plain (faulty_input r) h)

-- ---- what the ledger says

abbrev pub now_words : ShownNow → Words
now_words line.initial = codes "init" ∷ []
now_words (line.takes output branch) = codes "branch" ∷ output_text output ∷ decimal branch ∷ []
now_words line.moves = codes "move" ∷ []
now_words (line.refused r) = codes "refused" ∷ refusal_words r

-- its numbers are of eight bytes
abbrev pub IsNow : ShownNow → Type 0
IsNow line.initial = Unit {0}
IsNow (line.takes output branch) = IsWide output × IsWide branch
IsNow line.moves = Unit {0}
IsNow (line.refused r) = IsLength (faulty_input r)

abbrev says_now : ShownNow → Option ShownNow
says_now n = some n

now_back : (n : ShownNow) → IsNow n → now_said (now_words n) ≡ says_now n
now_back line.initial h = refl
now_back (line.takes output branch) h =
    ap (λ o. o >>= λ n. number (decimal branch) >>= λ i. says_now (line.takes n i)) (output_back output h.0)
    ∙ ap (λ o. o >>= λ i. says_now (line.takes output i)) (number_back branch h.1)
now_back line.moves h = refl
now_back (line.refused r) h = ap (λ o. o >>= refused_by) (refusal_back r h)

now_plain : (n : ShownNow) → IsNow n → ArePlain (now_words n)
now_plain line.initial h = (known_word (codes "init") refl, tt)
now_plain (line.takes output branch) h =
    (known_word (codes "branch") refl, (output_plain output h.0, (number_plain branch h.1, tt)))
now_plain line.moves h = (known_word (codes "move") refl, tt)
now_plain (line.refused r) h = (known_word (codes "refused") refl, refusal_plain r h)

-- ---- findings

abbrev names_word : List Which → List ℕ
names_word [] = codes "foreign"
names_word (names.Init ∷ others) = codes "init"
names_word (names.At path ∷ others) = codes "path"

abbrev names_rest : List Which → Words
names_rest [] = []
names_rest (names.Init ∷ others) = []
names_rest (names.At path ∷ others) = map which_text (names.At path ∷ others)

abbrev pub kind_word : ShownKind → List ℕ
kind_word line.not_hex = codes "nothex"
kind_word (line.bad place) = codes "bad"
kind_word (line.read which now) = names_word which

abbrev pub kind_rest : ShownKind → Words
kind_rest line.not_hex = []
kind_rest (line.bad place) = decimal place ∷ []
kind_rest (line.read which now) = names_rest which ++ codes "now" ∷ now_words now

-- the initial transaction stands alone
abbrev pub AreShown : List Which → Type 0
AreShown [] = Unit {0}
AreShown (names.Init ∷ others) = others ≡ []
AreShown (names.At path ∷ others) = AllByRecursion IsStep path × AllByRecursion IsWhich others

abbrev pub IsKind : ShownKind → Type 0
IsKind line.not_hex = Unit {0}
IsKind (line.bad place) = IsWide place
IsKind (line.read which now) = AreShown which × IsNow now

abbrev says_kind : ShownKind → Option ShownKind
says_kind k = some k

no_now : (xs : List Which) → NoneIs (codes "now") (map which_text xs)
no_now [] = tt
no_now (names.Init ∷ xs) = (refl, no_now xs)
no_now (names.At path ∷ xs) = (refl, no_now xs)

abbrev some_cut : Words → Words → Option (Words × Words)
some_cut before behind = Some (before, behind)

paths_back : (path : List PathStep) (others : List Which) (n : ShownNow) → AllByRecursion IsStep path → AllByRecursion IsWhich others → IsNow n
    → line.paths_said (map which_text (names.At path ∷ others) ++ codes "now" ∷ now_words n) ≡ says_kind (line.read (names.At path ∷ others) n)
paths_back path others n h k m =
    let all = names.At path ∷ others in
    ap (λ (o : Option (Words × Words)). o >>= λ p. all_of which_of (p.0) >>= λ xs. given (begins_path xs) xs >>= λ which.
    now_said (p.1) >>= λ x. says_kind (line.read which x)) (cut_back (codes "now") (map which_text all) (now_words n) refl (no_now all))
    ∙ ap (λ o. o >>= λ xs. given (begins_path xs) xs >>= λ which. now_said (now_words n) >>= λ x. says_kind (line.read which x))
    (all_back IsWhich which_of which_text which_back all (h, k))
    ∙ ap (λ o. o >>= λ x. says_kind (line.read all x)) (now_back n m)

kind_back : (k : ShownKind) → IsKind k → kind_said (kind_word k ∷ kind_rest k) ≡ says_kind k
kind_back line.not_hex h = refl
kind_back (line.bad place) h = ap (λ o. o >>= λ n. says_kind (line.bad n)) (number_back place h)
kind_back (line.read [] now) h = ap (λ o. o >>= λ x. says_kind (line.read [] x)) (now_back now h.1)
kind_back (line.read (names.Init ∷ others) now) h =
    ap (λ o. o >>= λ x. says_kind (line.read (names.Init ∷ []) x)) (now_back now h.1)
    ∙ ap (λ (xs : List Which). says_kind (line.read (names.Init ∷ xs) now)) (sym h.0)
kind_back (line.read (names.At path ∷ others) now) h = paths_back path others now (h.0).0 (h.0).1 h.1

behind_plain : (ws : Words) (n : ShownNow) → ArePlain ws → IsNow n → ArePlain (ws ++ codes "now" ∷ now_words n)
behind_plain ws n h k = plain_append ws (codes "now" ∷ now_words n) h (known_word (codes "now") refl, now_plain n k)

kind_plain : (k : ShownKind) → IsKind k → ArePlain (kind_word k ∷ kind_rest k)
kind_plain line.not_hex h = (known_word (codes "nothex") refl, tt)
kind_plain (line.bad place) h = (known_word (codes "bad") refl, (number_plain place h, tt))
kind_plain (line.read [] now) h = (known_word (codes "foreign") refl, behind_plain [] now tt h.1)
kind_plain (line.read (names.Init ∷ others) now) h = (known_word (codes "init") refl, behind_plain [] now tt h.1)
kind_plain (line.read (names.At path ∷ others) now) h = (
  known_word (codes "path") refl,
  behind_plain (map which_text (names.At path ∷ others)) now (plain_map IsWhich which_text which_plain (names.At path ∷ others) h.0) h.1,
)

-- ---- labels

pub shown_label : (l : Label) → IsShownLabel l → label (label_text l) ≡ some l
shown_label (labels.Deposit party) h = label_back (labels.Deposit party) tt h
shown_label (labels.Branch contract path party) h = label_back (labels.Branch contract path party) (h.0, h.1) h.2

branch_lacks : (test : ℕ → Bool) (k q p : List ℕ) → test 58 ≡ false → test 66 ≡ false → Lacks test k → Lacks test q → Lacks test p
    → Lacks test (66 ∷ 58 ∷ (k ++ (58 ∷ (q ++ (58 ∷ p)))))
branch_lacks test k q p colon letter a b c =
    (letter, (colon, lacks_append test k (58 ∷ (q ++ (58 ∷ p))) a (colon, lacks_append test q (58 ∷ p) b (colon, c))))

label_plain : (l : Label) → IsShownLabel l → IsPlain (label_text l)
label_plain (labels.Deposit party) h =
    let p = name_plain party h in
    subst IsPlain (sym (deposit_is party)) (record { spaces = (refl, (refl, p.spaces)); ends = (refl, (refl, p.ends)) })
label_plain (labels.Branch contract path party) h =
    let k = number_plain contract (omega (arith, h.0)) in
    let q = path_plain path h.1 in
    let p = name_plain party h.2 in
    subst IsPlain (sym (branch_is contract path party)) (record {
      spaces = branch_lacks is_blank (decimal contract) (path_text path) party refl refl k.spaces q.spaces p.spaces;
      ends = branch_lacks ends_line (decimal contract) (path_text path) party refl refl k.ends q.ends p.ends;
    })

-- ---- lines

abbrev first_word : AuditLine → List ℕ
first_word (line.finding n kind) = codes "line"
first_word (line.absent which) = codes "absent"
first_word (line.missing which k l) = codes "missing"
first_word line.uncompiled = codes "contract"
first_word line.unaudited = codes "audit"
first_word (line.guessed party name) = codes "guessed"
first_word (line.collided earlier later) = codes "collided"

abbrev other_words : AuditLine → Words
other_words (line.finding n kind) = decimal n ∷ kind_word kind ∷ kind_rest kind
other_words (line.absent which) = which_text which ∷ []
other_words (line.missing which k l) = which_text which ∷ decimal k ∷ label_text l ∷ []
other_words line.uncompiled = codes "0" ∷ codes "not" ∷ codes "compiled" ∷ []
other_words line.unaudited = codes "refused" ∷ []
other_words (line.guessed party name) = party ∷ name ∷ []
other_words (line.collided earlier later) = hex_text earlier ∷ hex_text later ∷ []

abbrev pub written : Written AuditLine
written = record { word = first_word; words = other_words }

-- what may be said by a line
abbrev pub IsSaid : AuditLine → Type 0
IsSaid (line.finding n kind) = IsWide n × IsKind kind
IsSaid (line.absent which) = IsWhich which
IsSaid (line.missing which k l) = IsWhich which × IsWide k × IsShownLabel l
IsSaid line.uncompiled = Unit {0}
IsSaid line.unaudited = Unit {0}
IsSaid (line.guessed party name) = IsNamed party × IsNamed name
IsSaid (line.collided earlier later) = Unit {0}

pub words_plain : (l : AuditLine) → IsSaid l → ArePlain (first_word l ∷ other_words l)
words_plain (line.finding n kind) h = (known_word (codes "line") refl, (number_plain n h.0, kind_plain kind h.1))
words_plain (line.absent which) h = (known_word (codes "absent") refl, (which_plain which h, tt))
words_plain (line.missing which k l) h =
    (known_word (codes "missing") refl, (which_plain which h.0, (number_plain k h.1, (label_plain l h.2, tt))))
words_plain line.uncompiled h = (
  known_word (codes "contract") refl,
  (known_word (codes "0") refl, (known_word (codes "not") refl, (known_word (codes "compiled") refl, tt))),
)
words_plain line.unaudited h = (known_word (codes "audit") refl, (known_word (codes "refused") refl, tt))
words_plain (line.guessed party name) h = (known_word (codes "guessed") refl, (name_plain party h.0, (name_plain name h.1, tt)))
words_plain (line.collided earlier later) h = (known_word (codes "collided") refl, (bytes_plain earlier, (bytes_plain later, tt)))

abbrev says : AuditLine → Option AuditLine
says l = some l

pub words_back : (l : AuditLine) → IsSaid l → audit_said (first_word l ∷ other_words l) ≡ says l
words_back (line.finding n kind) h =
    ap (λ o. o >>= λ m. kind_said (kind_word kind ∷ kind_rest kind) >>= λ x. says (line.finding m x)) (number_back n h.0)
    ∙ ap (λ o. o >>= λ x. says (line.finding n x)) (kind_back kind h.1)
words_back (line.absent which) h = ap (λ o. o >>= λ w. says (line.absent w)) (which_back which h)
words_back (line.missing which k l) h =
    ap (λ o. o >>= λ w. number (decimal k) >>= λ j. label (label_text l) >>= λ x. says (line.missing w j x)) (which_back which h.0)
    ∙ ap (λ o. o >>= λ j. label (label_text l) >>= λ x. says (line.missing which j x)) (number_back k h.1)
    ∙ ap (λ o. o >>= λ x. says (line.missing which k x)) (shown_label l h.2)
words_back line.uncompiled h = refl
words_back line.unaudited h = refl
words_back (line.guessed party name) h =
    ap (λ o. o >>= λ a. a_name name >>= λ x. says (line.guessed a x)) (name_back party h.0)
    ∙ ap (λ o. o >>= λ x. says (line.guessed party x)) (name_back name h.1)
words_back (line.collided earlier later) h =
    ap (λ o. o >>= λ x. by_digits (hex_text later) >>= λ y. says (line.collided x y)) (bytes_back earlier)
    ∙ ap (λ o. o >>= λ y. says (line.collided earlier y)) (bytes_back later)
