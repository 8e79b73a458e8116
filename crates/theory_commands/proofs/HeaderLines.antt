-- What is read of the lines of a header: each line says a part of it, and the first that doesn't ends it or is wrong.
use Rattle.std.proofs.Common.{◌≡◌, ℕ, ◌+◌, Bool, true, false, List, [], ◌∷◌, ◌++◌, length, Option, Some}
use Rattle.std.proofs.Common.{None, Ok, Err, refl, sym, ap, subst, ◌∙◌, inl, inr, arith}
use Rattle.std.specs.Prelude.{◌⊎◌, ◌&&◌, not, if◌then◌else◌, nat_lt, nat_le, Result, codes}
use Rattle.std.specs.Str.{bytes_eq}
use Rattle.std.specs.List.{list_any, sum_by}
use Rattle.std.proofs.lemmas.Bool.{ltb-false, ltb-true}
use Rattle.spec_data.specs.Lists.{is_among}
use Rattle.spec_data.specs.Digits.{read_hex}
use Rattle.spec_data.specs.Ranges.{max_money, most_parties, most_header_deposits, most_header_secrets}
use Rattle.spec_terms.specs.Readable.{is_name}
use Rattle.spec_run.specs.declared.header.Header.{Header}
use Rattle.spec_text.specs.declared.run_fault.RunFault.{RunFault}
use Rattle.spec_text.specs.declared.run_fault.RunFault.TheVariants as faults
use Rattle.spec_text.specs.declared.run_fault.RunLimit.{RunLimit}
use Rattle.spec_text.specs.declared.run_fault.RunLimit.TheVariants as limits
use Rattle.spec_text.specs.Lines.{words_of}
use Rattle.spec_text.specs.Limits.{most_line_bytes}
use Rattle.spec_text.specs.Words.{amount}
use Rattle.spec_text.specs.RunFile.{Line, bad, over, empty, rule, says, spelled_within, is_taken, party_line, honest_line}
use Rattle.spec_text.specs.RunFile.{secret_of, secret_line, deposit_of, deposit_line, rule_line, header_words, header_line, kept, Headed}
use Rattle.spec_text.specs.RunFile.{header_step, read_header}
use Rattle.theory_text.proofs.Lines.PrintedWords.{same_bytes}
use Rattle.theory_commands.specs.RunFiles.{IsShort, SpellHeader, IsRule, IsWrongHeader, IsTooLong}
use Rattle.theory_commands.proofs.LineParts.{header_says, header_back}

-- ---- what one line says

-- a line that isn't empty and isn't the rule: it says a part, is bad, or is one too many of parties, deposits or secrets
abbrev IsPart : Line Header → Type 0
IsPart bad = Unit {0}
IsPart (over limits.Line) = ⊥
IsPart (over limits.Events) = ⊥
IsPart (over limits.Parties) = Unit {0}
IsPart (over limits.Deposits) = Unit {0}
IsPart (over limits.Secrets) = Unit {0}
IsPart empty = ⊥
IsPart rule = ⊥
IsPart (says h) = Unit {0}

abbrev IsPartOrRule : List (List ℕ) → Line Header → Type 0
IsPartOrRule ws x = IsPart x ⊎ ((ws ≡ codes "--" ∷ []) × (x ≡ rule))

within_part : (b c : Bool) (limit : RunLimit) (h : Header) → IsPart (over limit) → IsPart (spelled_within b c limit h)
within_part true true limit h o = tt
within_part true false limit h o = o
within_part false true limit h o = tt
within_part false false limit h o = tt

party_part : (h : Header) (ws : List (List ℕ)) → IsPart (party_line h ws)
party_part h [] = tt
party_part h (a ∷ []) = within_part (is_name a && not (is_among a h.parties)) (nat_lt (length h.parties) most_parties) limits.Parties _ tt
party_part h (a ∷ b ∷ ws) = tt

honest_part : (h : Header) (ws : List (List ℕ)) → IsPart (honest_line h ws)
honest_part h [] = tt
honest_part h (a ∷ []) = within_part (is_among a h.parties && not (is_among a h.honest)) true limits.Parties _ tt
honest_part h (a ∷ b ∷ ws) = tt

secret_of_part : (h : Header) (a s : List ℕ) (o : Option (List ℕ)) → IsPart (secret_of h a s o)
secret_of_part h a s None = tt
secret_of_part h a s (Some bytes) =
    within_part ((is_among a h.honest && is_name s) && not (list_any (is_taken a s bytes) h.secrets))
    (nat_lt (length h.secrets) most_header_secrets) limits.Secrets _ tt

secret_part : (h : Header) (ws : List (List ℕ)) → IsPart (secret_line h ws)
secret_part h [] = tt
secret_part h (a ∷ []) = tt
secret_part h (a ∷ s ∷ []) = tt
secret_part h (a ∷ s ∷ word ∷ []) = secret_of_part h a s (read_hex word)
secret_part h (a ∷ s ∷ word ∷ w ∷ ws) = tt

deposit_of_part : (h : Header) (a : List ℕ) (o : Option ℕ) → IsPart (deposit_of h a o)
deposit_of_part h a None = tt
deposit_of_part h a (Some v) =
    within_part (is_among a h.parties && nat_le (sum_by (λ d. d.1) h.deposits + v) max_money)
    (nat_lt (length h.deposits) most_header_deposits) limits.Deposits _ tt

deposit_part : (h : Header) (ws : List (List ℕ)) → IsPart (deposit_line h ws)
deposit_part h [] = tt
deposit_part h (a ∷ []) = tt
deposit_part h (a ∷ word ∷ []) = deposit_of_part h a (amount word)
deposit_part h (a ∷ word ∷ w ∷ ws) = tt

rule_part : (word : List ℕ) (ws : List (List ℕ)) → word ≡ codes "--" → IsPartOrRule (word ∷ ws) (rule_line ws)
rule_part word [] e = inr (ap (λ (w : List ℕ). w ∷ []) e, refl)
rule_part word (w ∷ ws) e = inl tt

-- of the two answers of a test
either : {A : Type 0} (P : A → Type 0) (b : Bool) (x y : A) → (b ≡ true → P x) → (b ≡ false → P y) → P (if b then x else y)
either P true x y f g = f refl
either P false x y f g = g refl

words_part : (h : Header) (word : List ℕ) (ws : List (List ℕ)) → IsPartOrRule (word ∷ ws) (header_words h (word ∷ ws))
words_part h word ws =
    let P : Line Header → Type 0 = IsPartOrRule (word ∷ ws) in
    either P (bytes_eq word (codes "party")) _ _ (λ e. inl (party_part h ws)) (λ n1.
    either P (bytes_eq word (codes "honest")) _ _ (λ e. inl (honest_part h ws)) (λ n2.
    either P (bytes_eq word (codes "secret")) _ _ (λ e. inl (secret_part h ws)) (λ n3.
    either P (bytes_eq word (codes "deposit")) _ _ (λ e. inl (deposit_part h ws)) (λ n4.
    either P (bytes_eq word (codes "--")) _ _ (λ e. rule_part word ws (same_bytes word (codes "--") e)) (λ n5. inl tt)))))

-- what the words of a line are that says this
abbrev WordsFor : List (List ℕ) → Line Header → Type 0
WordsFor ws bad = Unit {0}
WordsFor ws (over limits.Line) = ⊥
WordsFor ws (over limits.Events) = ⊥
WordsFor ws (over limits.Parties) = Unit {0}
WordsFor ws (over limits.Deposits) = Unit {0}
WordsFor ws (over limits.Secrets) = Unit {0}
WordsFor ws empty = ws ≡ []
WordsFor ws rule = ws ≡ codes "--" ∷ []
WordsFor ws (says h) = Unit {0}

part_words : (ws : List (List ℕ)) (x : Line Header) → IsPartOrRule ws x → WordsFor ws x
part_words ws x (inr e) = subst (WordsFor ws) (sym e.1) e.0
part_words ws bad (inl p) = tt
part_words ws (over limits.Line) (inl p) = p
part_words ws (over limits.Events) (inl p) = p
part_words ws (over limits.Parties) (inl p) = tt
part_words ws (over limits.Deposits) (inl p) = tt
part_words ws (over limits.Secrets) (inl p) = tt
part_words ws empty (inl p) = absurd p
part_words ws rule (inl p) = absurd p
part_words ws (says h) (inl p) = tt

words_for : (h : Header) (ws : List (List ℕ)) → WordsFor ws (header_words h ws)
words_for h [] = refl
words_for h (word ∷ ws) = part_words (word ∷ ws) (header_words h (word ∷ ws)) (words_part h word ws)

-- ---- what is found of lines behind a header

pub record Faulty (h : Header) (n : ℕ) (lines : List (List ℕ)) (m : ℕ) (wrong : Header → List ℕ → Type 0) : Type 0 where
  pub before : List (List ℕ)
  pub line : List ℕ
  pub after : List (List ℕ)
  pub in_order : lines ≡ before ++ line ∷ after
  pub number : m ≡ n + length before
  pub header : Header
  pub spelled : SpellHeader h before header
  pub fault : wrong header line

pub record Endless (h : Header) (n : ℕ) (lines : List (List ℕ)) (m : ℕ) : Type 0 where
  pub header : Header
  pub spelled : SpellHeader h lines header
  pub number : m ≡ n + length lines

pub record Ended (h : Header) (n : ℕ) (lines : List (List ℕ)) (headed : Headed) : Type 0 where
  pub above : List (List ℕ)
  pub line : List ℕ
  pub in_order : lines ≡ above ++ line ∷ headed.1
  pub number : headed.2 ≡ n + length above + 1
  pub spelled : SpellHeader h above headed.0
  pub ends : IsRule line

abbrev pub wrong_line : Line Header → Header → List ℕ → Type 0
wrong_line x h line = IsWrongHeader h line x

abbrev pub long_line : Header → List ℕ → Type 0
long_line h line = IsTooLong line

abbrev pub Found : Header → ℕ → List (List ℕ) → Result Headed RunFault → Type 0
Found h n lines (Ok headed) = Ended h n lines headed
Found h n lines (Err (faults.BadLine m)) = Faulty h n lines m (wrong_line bad) ⊎ Endless h n lines m
Found h n lines (Err (faults.Limit limits.Line m)) = Faulty h n lines m long_line
Found h n lines (Err (faults.Limit limits.Events m)) = ⊥
Found h n lines (Err (faults.Limit limits.Parties m)) = Faulty h n lines m (wrong_line (over limits.Parties))
Found h n lines (Err (faults.Limit limits.Deposits m)) = Faulty h n lines m (wrong_line (over limits.Deposits))
Found h n lines (Err (faults.Limit limits.Secrets m)) = Faulty h n lines m (wrong_line (over limits.Secrets))

-- a line that is empty or says a part, behind which the header is this
abbrev GoesOn : Header → List ℕ → Header → Type 0
GoesOn h line next = ((words_of line ≡ []) × (next ≡ h)) ⊎ (header_words h (words_of line) ≡ says next)

spell_on : (h : Header) (line : List ℕ) (next : Header) (lines : List (List ℕ)) (last : Header) → IsShort line → GoesOn h line next
    → SpellHeader next lines last → SpellHeader h (line ∷ lines) last
spell_on h line next lines last short (inl e) s = (short, inl (e.0, subst (λ k. SpellHeader k lines last) e.1 s))
spell_on h line next lines last short (inr e) s = (short, inr (next, header_says h (words_of line) (says next) e, s))

module _ (h : Header) (n : ℕ) (line : List ℕ) (next : Header) (lines : List (List ℕ)) (short : IsShort line) (on : GoesOn h line next) where
  faulty_on : (m : ℕ) (wrong : Header → List ℕ → Type 0) → Faulty next (n + 1) lines m wrong → Faulty h n (line ∷ lines) m wrong
  faulty_on m wrong f = record {
    before = line ∷ f.before;
    line = f.line;
    after = f.after;
    in_order = ap (λ xs. line ∷ xs) f.in_order;
    number = omega (arith, f.number);
    header = f.header;
    spelled = spell_on h line next f.before f.header short on f.spelled;
    fault = f.fault;
  }

  endless_on : (m : ℕ) → Endless next (n + 1) lines m → Endless h n (line ∷ lines) m
  endless_on m f = record {
    header = f.header;
    spelled = spell_on h line next lines f.header short on f.spelled;
    number = omega (arith, f.number);
  }

  found_on : (x : Result Headed RunFault) → Found next (n + 1) lines x → Found h n (line ∷ lines) x
  found_on (Ok headed) f = record {
    above = line ∷ f.above;
    line = f.line;
    in_order = ap (λ xs. line ∷ xs) f.in_order;
    number = omega (arith, f.number);
    spelled = spell_on h line next f.above (headed.0) short on f.spelled;
    ends = f.ends;
  }
  found_on (Err (faults.BadLine m)) (inl f) = inl (faulty_on m (wrong_line bad) f)
  found_on (Err (faults.BadLine m)) (inr f) = inr (endless_on m f)
  found_on (Err (faults.Limit limits.Line m)) f = faulty_on m long_line f
  found_on (Err (faults.Limit limits.Events m)) f = f
  found_on (Err (faults.Limit limits.Parties m)) f = faulty_on m (wrong_line (over limits.Parties)) f
  found_on (Err (faults.Limit limits.Deposits m)) f = faulty_on m (wrong_line (over limits.Deposits)) f
  found_on (Err (faults.Limit limits.Secrets m)) f = faulty_on m (wrong_line (over limits.Secrets)) f

-- the first line is wrong
here : (h : Header) (n : ℕ) (line : List ℕ) (lines : List (List ℕ)) (wrong : Header → List ℕ → Type 0) → wrong h line
    → Faulty h n (line ∷ lines) n wrong
here h n line lines wrong w = record {
  before = [];
  line = line;
  after = lines;
  in_order = refl;
  number = omega arith;
  header = h;
  spelled = refl;
  fault = w;
}

pub found : (lines : List (List ℕ)) (h : Header) (n : ℕ) → Found h n lines (read_header h n lines)
found [] h n = inr (record { header = h; spelled = refl; number = omega arith })
found (line ∷ lines) h n = by_long (nat_lt most_line_bytes (length line)) refl (found lines)
  where
    Later : Type 0
    Later = (k : Header) (m : ℕ) → Found k m lines (read_header k m lines)

    by_said : (x : Line Header) → IsShort line → header_words h (words_of line) ≡ x → WordsFor (words_of line) x → Later
        → Found h n (line ∷ lines) (header_step h n lines x (read_header (kept h x) (n + 1) lines))
    by_said bad short e w later = inl (here h n line lines (wrong_line bad) (short, header_says h (words_of line) bad e))
    by_said (over limits.Line) short e w later = absurd w
    by_said (over limits.Events) short e w later = absurd w
    by_said (over limits.Parties) short e w later =
        here h n line lines (wrong_line (over limits.Parties)) (short, header_says h (words_of line) (over limits.Parties) e)
    by_said (over limits.Deposits) short e w later =
        here h n line lines (wrong_line (over limits.Deposits)) (short, header_says h (words_of line) (over limits.Deposits) e)
    by_said (over limits.Secrets) short e w later =
        here h n line lines (wrong_line (over limits.Secrets)) (short, header_says h (words_of line) (over limits.Secrets) e)
    by_said empty short e w later = found_on h n line h lines short (inl (w, refl)) (read_header h (n + 1) lines) (later h (n + 1))
    by_said rule short e w later = record {
      above = [];
      line = line;
      in_order = refl;
      number = omega arith;
      spelled = refl;
      ends = record { short = short; word = w };
    }
    by_said (says k) short e w later = found_on h n line k lines short (inr e) (read_header k (n + 1) lines) (later k (n + 1))

    by_long : (b : Bool) → nat_lt most_line_bytes (length line) ≡ b → Later
        → Found h n (line ∷ lines)
        (header_step h n lines (if b then over limits.Line else header_words h (words_of line))
        (read_header (kept h (if b then over limits.Line else header_words h (words_of line))) (n + 1) lines))
    by_long true e later = here h n line lines long_line (ltb-true most_line_bytes (length line) e)
    by_long false e later =
        by_said (header_words h (words_of line)) (ltb-false most_line_bytes (length line) e) refl (words_for h (words_of line)) later

-- ---- and what is found is read

-- a line that isn't too long says what its words say
pub short_says : (h : Header) (line : List ℕ) → IsShort line → header_line h line ≡ header_words h (words_of line)
short_says h line short = by_test (nat_lt most_line_bytes (length line)) refl
  where
    by_test : (b : Bool) → nat_lt most_line_bytes (length line) ≡ b
        → (if b then over limits.Line else header_words h (words_of line)) ≡ header_words h (words_of line)
    by_test true e = absurd (let lt = ltb-true most_line_bytes (length line) e in omega (arith, lt, short))
    by_test false e = refl

pub long_says : (h : Header) (line : List ℕ) → IsTooLong line → header_line h line ≡ over limits.Line
long_says h line long = by_test (nat_lt most_line_bytes (length line)) refl
  where
    by_test : (b : Bool) → nat_lt most_line_bytes (length line) ≡ b
        → (if b then over limits.Line else header_words h (words_of line)) ≡ over limits.Line
    by_test true e = refl
    by_test false e = absurd (let le = ltb-false most_line_bytes (length line) e in omega (arith, le, long))

-- what is read behind a line that says this
abbrev step : Header → ℕ → List (List ℕ) → Line Header → Result Headed RunFault
step h n lines x = header_step h n lines x (read_header (kept h x) (n + 1) lines)

-- lines that are spelled are passed over
pub passed : (before : List (List ℕ)) (h last : Header) (n : ℕ) (rest : List (List ℕ)) → SpellHeader h before last
    → read_header h n (before ++ rest) ≡ read_header last (n + length before) rest
passed [] h last n rest e =
    let number : n ≡ n + 0 = omega arith in
    ap (λ (k : Header). read_header k n rest) (sym e) ∙ ap (λ (m : ℕ). read_header last m rest) number
passed (line ∷ lines) h last n rest (short, inl e) =
    let number : n + 1 + length lines ≡ n + length (line ∷ lines) = omega arith in
    ap (step h n (lines ++ rest)) (short_says h line short ∙ ap (λ (ws : List (List ℕ)). header_words h ws) (e.0))
    ∙ (passed lines h last (n + 1) rest (e.1) ∙ ap (λ (m : ℕ). read_header last m rest) number)
passed (line ∷ lines) h last n rest (short, inr e) =
    let number : n + 1 + length lines ≡ n + length (line ∷ lines) = omega arith in
    ap (step h n (lines ++ rest)) (short_says h line short ∙ header_back h (words_of line) (says (e.0)) (e.1))
    ∙ (passed lines (e.0) last (n + 1) rest (e.2) ∙ ap (λ (m : ℕ). read_header last m rest) number)
