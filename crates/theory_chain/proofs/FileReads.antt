-- What a chain file says, line by line.
use Rattle.std.proofs.Common.{◌≡◌, ℕ, ◌+◌, ◌≤◌, List, [], ◌∷◌, ◌++◌, length, Bool, true, false, Option, Some, None, refl, sym, ap, subst, ◌∙◌, cond, arith, inl, inr, append_assoc}
use Rattle.std.specs.Prelude.{nat_lt}
use Rattle.std.proofs.lemmas.Bool.Decides.{nat_tests}
use Rattle.spec_text.specs.Lines.{lines_of, words_of}
use Rattle.spec_chain.specs.declared.fault.ChainReason.{ChainReason}
use Rattle.spec_chain.specs.declared.fault.ChainFault.{ChainFault}
use Rattle.spec_chain.specs.declared.fault.ChainFault.TheVariants as faults
use Rattle.spec_chain.specs.declared.reading.Confirmed.{Confirmed}
use Rattle.spec_chain.specs.declared.reading.Reading.{Reading}
use Rattle.spec_chain.specs.declared.reading.Line.{Line}
use Rattle.spec_chain.specs.declared.reading.Line.TheVariants.{Empty, Bad, Rises, Confirms}
use Rattle.spec_chain.specs.ChainFile.{line_says, read_lines, read_chain}
use Rattle.spec_chain.specs.Sizes.{most_chain_bytes}
use Rattle.theory_chain.specs.Files.{AreLines, IsRefusedAt, ChainsAreSpelled, ChainsAreRefused}
use Rattle.theory_chain.proofs.LineReads.{Says, said, height_said, tx_said, empty_said, bad_said}

-- what is read behind transactions that came before
abbrev pub behind : List Confirmed → Reading → Reading
behind before r = record { confirmed = before ++ r.confirmed; tip = r.tip; fault = r.fault }

abbrev pub spelled : List Confirmed → ℕ → Reading
spelled confirmed tip = record { confirmed = confirmed; tip = tip; fault = None }

-- what comes of a line that says this
abbrev pub goes_on : List Confirmed → ℕ → ℕ → List (List ℕ) → Line → Reading
goes_on before n height lines says = elim says [
  | Empty ↦ read_lines before (n + 1) height lines
  | Bad reason ↦ record { confirmed = before; tip = height; fault = Some (faults.Line n reason) }
  | Rises next ↦ read_lines before (n + 1) next lines
  | Confirms tx ↦ read_lines (before ++ record { line = n; height = height; tx = tx } ∷ []) (n + 1) height lines
]

behind_all : (a b : List Confirmed) (r : Reading) → behind (a ++ b) r ≡ behind a (behind b r)
behind_all a b r = ap (λ cs. record { confirmed = cs; tip = r.tip; fault = r.fault }) (append_assoc a b r.confirmed)

nothing_behind : (before : List Confirmed) → before ++ [] ≡ before
nothing_behind [] = refl
nothing_behind (c ∷ cs) = ap (λ (x : List Confirmed). c ∷ x) (nothing_behind cs)

-- the transactions that came before only stand before
pub read_behind : (before : List Confirmed) (n height : ℕ) (lines : List (List ℕ))
    → read_lines before n height lines ≡ behind before (read_lines [] n height lines)
read_behind before n height [] = ap (λ cs. record { confirmed = cs; tip = height; fault = None }) (sym (nothing_behind before))
read_behind before n height (line ∷ lines) =
    by_line (line_says height (words_of line)) (λ cs h. read_behind cs (n + 1) h lines)
  where
    by_line : (says : Line)
        → ((cs : List Confirmed) (h : ℕ) → read_lines cs (n + 1) h lines ≡ behind cs (read_lines [] (n + 1) h lines))
        → goes_on before n height lines says ≡ behind before (goes_on [] n height lines says)
    by_line Empty same = same before height
    by_line (Bad reason) same =
        ap (λ cs. record { confirmed = cs; tip = height; fault = Some (faults.Line n reason) }) (sym (nothing_behind before))
    by_line (Rises next) same = same before next
    by_line (Confirms tx) same =
        let c : Confirmed = record { line = n; height = height; tx = tx } in
        same (before ++ c ∷ []) height
        ∙ behind_all before (c ∷ []) (read_lines [] (n + 1) height lines)
        ∙ ap (behind before) (sym (same (c ∷ []) height))

-- ---- what is taken

-- what is read behind one transaction
one_first : (c : Confirmed) (r : Reading) (confirmed : List Confirmed) (tip : ℕ) → behind (c ∷ []) r ≡ spelled confirmed tip
    → (confirmed ≡ c ∷ r.confirmed) × (r ≡ spelled r.confirmed tip)
one_first c r confirmed tip e = (
  ap (λ (x : Reading). x.confirmed) (sym e),
  λ i. record { confirmed = r.confirmed; tip = ap (λ (x : Reading). x.tip) e i; fault = ap (λ (x : Reading). x.fault) e i },
)

lines_taken : (n height : ℕ) (lines : List (List ℕ)) (confirmed : List Confirmed) (tip : ℕ)
    → read_lines [] n height lines ≡ spelled confirmed tip → AreLines n height lines confirmed tip
lines_taken n height [] confirmed tip e = (sym (ap (λ (r : Reading). r.confirmed) e), sym (ap (λ (r : Reading). r.tip) e))
lines_taken n height (line ∷ lines) confirmed tip e =
    by_line (line_says height (words_of line)) (said height (words_of line)) e (λ h cs. lines_taken (n + 1) h lines cs tip)
  where
    no_fault : (fault : ChainFault) → Some fault ≡ None → ⊥
    no_fault fault k = cc

    by_line : (says : Line) → Says height (words_of line) says → goes_on [] n height lines says ≡ spelled confirmed tip
        → ((h : ℕ) (cs : List Confirmed) → read_lines [] (n + 1) h lines ≡ spelled cs tip → AreLines (n + 1) h lines cs tip)
        → AreLines n height (line ∷ lines) confirmed tip
    by_line Empty k h later = inl (k, later height confirmed h)
    by_line (Bad reason) k h later = absurd (no_fault (faults.Line n reason) (ap (λ (r : Reading). r.fault) h))
    by_line (Rises next) k h later = inr (inl (next, k, later next confirmed h))
    by_line (Confirms tx) k h later =
        let c : Confirmed = record { line = n; height = height; tx = tx } in
        let r = read_lines [] (n + 1) height lines in
        let p = one_first c r confirmed tip (sym (read_behind (c ∷ []) (n + 1) height lines) ∙ h) in
        inr (inr (tx, r.confirmed, k, p.0, later height r.confirmed p.1))

lines_spelled : (n height : ℕ) (lines : List (List ℕ)) (confirmed : List Confirmed) (tip : ℕ)
    → AreLines n height lines confirmed tip → read_lines [] n height lines ≡ spelled confirmed tip
lines_spelled n height [] confirmed tip h = λ i. spelled (sym (h.0) i) (sym (h.1) i)
lines_spelled n height (line ∷ lines) confirmed tip (inl h) =
    ap (goes_on [] n height lines) (empty_said height (words_of line) h.0) ∙ lines_spelled (n + 1) height lines confirmed tip h.1
lines_spelled n height (line ∷ lines) confirmed tip (inr (inl h)) =
    ap (goes_on [] n height lines) (height_said height (words_of line) h.0 h.1) ∙ lines_spelled (n + 1) h.0 lines confirmed tip h.2
lines_spelled n height (line ∷ lines) confirmed tip (inr (inr h)) =
    let tx = h.0 in
    let more = h.1 in
    let c : Confirmed = record { line = n; height = height; tx = tx } in
    ap (goes_on [] n height lines) (tx_said height (words_of line) tx h.2)
    ∙ read_behind (c ∷ []) (n + 1) height lines
    ∙ ap (behind (c ∷ [])) (lines_spelled (n + 1) height lines more tip h.4)
    ∙ ap (λ cs. spelled cs tip) (sym (h.3))

-- ---- what is refused

lines_refused : (before : List Confirmed) (n height : ℕ) (lines : List (List ℕ)) (m : ℕ) (reason : ChainReason)
    → (read_lines before n height lines).fault ≡ Some (faults.Line m reason) → IsRefusedAt n height lines m reason
lines_refused before n height [] m reason e = absurd (no_none (faults.Line m reason) e)
  where
    no_none : (fault : ChainFault) → None ≡ Some fault → ⊥
    no_none fault k = cc
lines_refused before n height (line ∷ lines) m reason e =
    by_line (line_says height (words_of line)) (said height (words_of line)) e (λ cs h. lines_refused cs (n + 1) h lines m reason)
  where
    here : (other : ChainReason) → Some (faults.Line n other) ≡ Some (faults.Line m reason) → (n ≡ m) × (other ≡ reason)
    here other k = (cc, cc)

    by_line : (says : Line) → Says height (words_of line) says
        → (goes_on before n height lines says).fault ≡ Some (faults.Line m reason)
        → ((cs : List Confirmed) (h : ℕ) → (read_lines cs (n + 1) h lines).fault ≡ Some (faults.Line m reason)
        → IsRefusedAt (n + 1) h lines m reason)
        → IsRefusedAt n height (line ∷ lines) m reason
    by_line Empty k h later = inr (inl (k, later before height h))
    by_line (Bad other) k h later =
        let p = here other h in
        inl (p.0, subst (λ r. Says height (words_of line) (Bad r)) p.1 k)
    by_line (Rises next) k h later = inr (inr (inl (next, k, later before next h)))
    by_line (Confirms tx) k h later =
        inr (inr (inr (tx, k, later (before ++ record { line = n; height = height; tx = tx } ∷ []) height h)))

-- ---- files

not_long : (text : List ℕ) → nat_lt most_chain_bytes (length text) ≡ false → length text ≤ most_chain_bytes
not_long text e = grind (arith, nat_tests)

short : (text : List ℕ) → length text ≤ most_chain_bytes → nat_lt most_chain_bytes (length text) ≡ false
short text h = grind (arith, nat_tests)

abbrev too_long : Reading
too_long = record { confirmed = []; tip = 0; fault = Some faults.Size }

pub chains_are_spelled : ChainsAreSpelled
chains_are_spelled text confirmed tip = (taken (nat_lt most_chain_bytes (length text)) refl, back)
  where
    no_fault : (fault : ChainFault) → Some fault ≡ None → ⊥
    no_fault fault k = cc

    taken : (b : Bool) → nat_lt most_chain_bytes (length text) ≡ b
        → cond b too_long (read_lines [] 1 0 (lines_of text)) ≡ spelled confirmed tip
        → (length text ≤ most_chain_bytes) × AreLines 1 0 (lines_of text) confirmed tip
    taken true k e = absurd (no_fault faults.Size (ap (λ (r : Reading). r.fault) e))
    taken false k e = (not_long text k, lines_taken 1 0 (lines_of text) confirmed tip e)

    back : (length text ≤ most_chain_bytes) × AreLines 1 0 (lines_of text) confirmed tip → read_chain text ≡ spelled confirmed tip
    back h =
        ap (λ (b : Bool). cond b too_long (read_lines [] 1 0 (lines_of text))) (short text h.0)
        ∙ lines_spelled 1 0 (lines_of text) confirmed tip h.1

lines_refuse : (before : List Confirmed) (n height : ℕ) (lines : List (List ℕ)) (m : ℕ) (reason : ChainReason)
    → IsRefusedAt n height lines m reason → (read_lines before n height lines).fault ≡ Some (faults.Line m reason)
lines_refuse before n height [] m reason h = absurd h
lines_refuse before n height (line ∷ lines) m reason (inl h) =
    ap (λ (says : Line). (goes_on before n height lines says).fault) (bad_said height (words_of line) reason h.1)
    ∙ ap (λ k. Some (faults.Line k reason)) h.0
lines_refuse before n height (line ∷ lines) m reason (inr (inl h)) =
    ap (λ (says : Line). (goes_on before n height lines says).fault) (empty_said height (words_of line) h.0)
    ∙ lines_refuse before (n + 1) height lines m reason h.1
lines_refuse before n height (line ∷ lines) m reason (inr (inr (inl h))) =
    ap (λ (says : Line). (goes_on before n height lines says).fault) (height_said height (words_of line) h.0 h.1)
    ∙ lines_refuse before (n + 1) h.0 lines m reason h.2
lines_refuse before n height (line ∷ lines) m reason (inr (inr (inr h))) =
    ap (λ (says : Line). (goes_on before n height lines says).fault) (tx_said height (words_of line) h.0 h.1)
    ∙ lines_refuse (before ++ record { line = n; height = height; tx = h.0 } ∷ []) (n + 1) height lines m reason h.2

pub chains_are_refused : ChainsAreRefused
chains_are_refused text n reason = (refused (nat_lt most_chain_bytes (length text)) refl, back)
  where
    no_size : Some faults.Size ≡ Some (faults.Line n reason) → ⊥
    no_size k = cc

    refused : (b : Bool) → nat_lt most_chain_bytes (length text) ≡ b
        → (cond b too_long (read_lines [] 1 0 (lines_of text))).fault ≡ Some (faults.Line n reason)
        → (length text ≤ most_chain_bytes) × IsRefusedAt 1 0 (lines_of text) n reason
    refused true k e = absurd (no_size e)
    refused false k e = (not_long text k, lines_refused [] 1 0 (lines_of text) n reason e)

    back : (length text ≤ most_chain_bytes) × IsRefusedAt 1 0 (lines_of text) n reason
        → (read_chain text).fault ≡ Some (faults.Line n reason)
    back h =
        ap (λ (b : Bool). (cond b too_long (read_lines [] 1 0 (lines_of text))).fault) (short text h.0)
        ∙ lines_refuse [] 1 0 (lines_of text) n reason h.1

-- ---- longer files

-- whatever stands behind the lines of a chain is read behind its transactions, from its tip on
pub lines_longer : (n height : ℕ) (lines more : List (List ℕ)) (confirmed : List Confirmed) (tip : ℕ)
    → read_lines [] n height lines ≡ spelled confirmed tip
    → read_lines [] n height (lines ++ more) ≡ behind confirmed (read_lines [] (n + length lines) tip more)
lines_longer n height [] more confirmed tip e =
    let cs : [] ≡ confirmed = ap (λ (r : Reading). r.confirmed) e in
    let t : height ≡ tip = ap (λ (r : Reading). r.tip) e in
    let z : n ≡ n + 0 = omega arith in
    λ i. behind (cs i) (read_lines [] (z i) (t i) more)
lines_longer n height (line ∷ lines) more confirmed tip e =
    by_line (line_says height (words_of line)) e (λ h cs. lines_longer (n + 1) h lines more cs tip)
  where
    no_fault : (fault : ChainFault) → Some fault ≡ None → ⊥
    no_fault fault k = cc

    longer : n + 1 + length lines ≡ n + length (line ∷ lines)
    longer = omega arith

    by_line : (says : Line) → goes_on [] n height lines says ≡ spelled confirmed tip
        → ((h : ℕ) (cs : List Confirmed) → read_lines [] (n + 1) h lines ≡ spelled cs tip
        → read_lines [] (n + 1) h (lines ++ more) ≡ behind cs (read_lines [] (n + 1 + length lines) tip more))
        → goes_on [] n height (lines ++ more) says ≡ behind confirmed (read_lines [] (n + length (line ∷ lines)) tip more)
    by_line Empty h later = later height confirmed h ∙ ap (λ k. behind confirmed (read_lines [] k tip more)) longer
    by_line (Bad reason) h later = absurd (no_fault (faults.Line n reason) (ap (λ (r : Reading). r.fault) h))
    by_line (Rises next) h later = later next confirmed h ∙ ap (λ k. behind confirmed (read_lines [] k tip more)) longer
    by_line (Confirms tx) h later =
        let c : Confirmed = record { line = n; height = height; tx = tx } in
        let r = read_lines [] (n + 1) height lines in
        let p = one_first c r confirmed tip (sym (read_behind (c ∷ []) (n + 1) height lines) ∙ h) in
        let rest = read_lines [] (n + length (line ∷ lines)) tip more in
        read_behind (c ∷ []) (n + 1) height (lines ++ more)
        ∙ ap (behind (c ∷ []))
        (later height r.confirmed p.1 ∙ ap (λ k. behind r.confirmed (read_lines [] k tip more)) longer)
        ∙ sym (behind_all (c ∷ []) r.confirmed rest)
        ∙ ap (λ cs. behind cs rest) (sym p.0)

-- what a file says that is taken: its lines alone
pub lines_alone : (text : List ℕ) → (read_chain text).fault ≡ None
    → read_lines [] 1 0 (lines_of text) ≡ spelled (read_chain text).confirmed (read_chain text).tip
lines_alone text e =
    let taken = (chains_are_spelled text (read_chain text).confirmed (read_chain text).tip).0
    (ap (λ (f : Option ChainFault). record {
      confirmed = (read_chain text).confirmed;
      tip = (read_chain text).tip;
      fault = f;
    }) e) in
    lines_spelled 1 0 (lines_of text) (read_chain text).confirmed (read_chain text).tip taken.1
