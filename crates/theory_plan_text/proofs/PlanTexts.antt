-- The text of a plan is that of its lines, and these are gathered to what it shows.
use Rattle.std.proofs.Common.{◌≡◌, ℕ, ◌+◌, ◌≤◌, ◌^◌, List, [], ◌∷◌, ◌++◌, map, length, Option, refl, sym, ap, ◌∙◌}
use Rattle.std.proofs.Common.{append_assoc, append-nil, arith}
use Rattle.std.specs.Prelude.{flat_map, reverse, codes}
use Rattle.std.specs.Fmt.{decimal}
use Rattle.std.specs.List.{AllByRecursion}
use Rattle.spec_data.specs.Digits.{hex_text, onto}
use Rattle.spec_terms.specs.declared.path.PathStep.{PathStep}
use Rattle.spec_bitcoin.specs.Keys.{IsStep, path_text}
use Rattle.spec_bitcoin.specs.Spelling.{stripped}
use Rattle.spec_compiler.specs.declared.prepared.Prepared.{Prepared}
use Rattle.spec_compiler.specs.Compilation.{Compilation}
use Rattle.spec_text.specs.RunText.{newline}
use Rattle.spec_text.specs.Words.{◌>>=◌}
use Rattle.spec_text.specs.PlanText.{script_line, digest_lines, prepared_lines, path_lines, compiled_text}
use Rattle.spec_text.specs.PlayText.{guessed_line, collided_line}
use Rattle.spec_tool.specs.declared.which.Which.{Which}
use Rattle.spec_tool.specs.declared.which.Which.TheVariants as names
use Rattle.spec_tool.specs.Listed.{which_text}
use Rattle.theory_text.proofs.Options.{some}
use Rattle.theory_play_text.specs.Printable.{IsNamed}
use Rattle.theory_plan_text.specs.PlanLines.{IsWhich, PlanLine, plan_line, plan_said}
use Rattle.theory_plan_text.specs.PlanLines as line
use Rattle.theory_plan_text.specs.Plan.{ShownPlan, compiled, uncompiled, guess, collision, IsShownTx, IsPlannable, Gathered, onto_gathered}
use Rattle.theory_plan_text.specs.Plan.{gathered, by_path, compiled_by, plan_in, plan_of}
use Rattle.theory_plan_text.specs.Statements.{CompilationsReadBack}
use Rattle.theory_plan_text.proofs.AnyLines.{line_text, text_of, text_append, text_map, text_flat, text_back, two_words, three_words}
use Rattle.theory_plan_text.proofs.PlanRead.{IsSaid, written, words_plain, words_back}

-- ---- the lines of scripts and transactions

abbrev script_said : List PathStep × List ℕ → PlanLine
script_said x = line.script (x.0) (x.1)

abbrev digests_said : Which → ℕ → List (List ℕ) → List PlanLine
digests_said which k [] = []
digests_said which k (d ∷ ds) = line.digest which k d ∷ digests_said which (k + 1) ds

abbrev prepared_said : Which → Prepared → List PlanLine
prepared_said which p = line.transaction which p.txid p.tx ∷ digests_said which 0 p.digests

abbrev path_said : List PathStep × Prepared → List PlanLine
path_said p = prepared_said (names.At p.0) (p.1)

abbrev compiled_said : Compilation → List PlanLine
compiled_said c =
    line.compiled ∷ (map script_said c.scripts ++ (prepared_said names.Init c.init ++ flat_map path_said c.paths))

abbrev lines_text : List PlanLine → List ℕ
lines_text ls = text_of written ls

-- ---- their text

script_text : (x : List PathStep × List ℕ) → script_line x ≡ line_text written (script_said x) ++ newline
script_text x = ap (λ (r : List ℕ). codes "script " ++ r) (two_words (path_text x.0) (hex_text x.1) newline)

-- three words behind the first, and lines behind these
line_then : (first a b c later : List ℕ)
    → first ++ (a ++ (32 ∷ (b ++ (32 ∷ (c ++ (newline ++ later))))))
    ≡ ((first ++ (a ++ (32 ∷ (b ++ (32 ∷ c))))) ++ newline) ++ later
line_then first a b c later =
    ap (λ (r : List ℕ). first ++ r)
    (three_words a b c (newline ++ later) ∙ sym (append_assoc (a ++ (32 ∷ (b ++ (32 ∷ c)))) newline later))
    ∙ sym (append_assoc first ((a ++ (32 ∷ (b ++ (32 ∷ c)))) ++ newline) later)
    ∙ ap (λ (r : List ℕ). r ++ later) (sym (append_assoc first (a ++ (32 ∷ (b ++ (32 ∷ c)))) newline))

digests_text : (which : Which) (k : ℕ) (ds : List (List ℕ)) → digest_lines (which_text which) k ds ≡ lines_text (digests_said which k ds)
digests_text which k [] = refl
digests_text which k (d ∷ ds) =
    line_then (codes "digest ") (which_text which) (decimal k) (hex_text d) (digest_lines (which_text which) (k + 1) ds)
    ∙ ap (λ (r : List ℕ). (line_text written (line.digest which k d) ++ newline) ++ r) (digests_text which (k + 1) ds)

prepared_text : (which : Which) (p : Prepared) → prepared_lines (which_text which) p ≡ lines_text (prepared_said which p)
prepared_text which p =
    line_then (codes "tx ") (which_text which) (hex_text (reverse p.txid)) (hex_text (stripped p.tx))
    (digest_lines (which_text which) 0 p.digests)
    ∙ ap (λ (r : List ℕ). (line_text written (line.transaction which p.txid p.tx) ++ newline) ++ r) (digests_text which 0 p.digests)

compiled_lined : (c : Compilation) → compiled_text c ≡ lines_text (compiled_said c)
compiled_lined c =
    let scripts = map script_said c.scripts in
    let init = prepared_said names.Init c.init in
    let paths = flat_map path_said c.paths in
    let parts : flat_map script_line c.scripts ++ (prepared_lines (codes "init") c.init ++ flat_map path_lines c.paths)
    ≡ lines_text scripts ++ (lines_text init ++ lines_text paths) =
    (λ i. text_map written script_said script_line script_text c.scripts i
    ++ (prepared_text names.Init c.init i ++ text_flat written path_said path_lines (λ p. prepared_text (names.At p.0) (p.1)) c.paths i)) in
    ap (λ (r : List ℕ). codes "contract 0 compiled" ++ (newline ++ r))
    (parts
    ∙ (ap (λ (r : List ℕ). lines_text scripts ++ r) (sym (text_append written init paths))
    ∙ sym (text_append written scripts (init ++ paths))))

-- ---- they may be said

both : (xs ys : List PlanLine) → AllByRecursion IsSaid xs → AllByRecursion IsSaid ys → AllByRecursion IsSaid (xs ++ ys)
both [] ys h k = k
both (x ∷ xs) ys h k = (h.0, both xs ys h.1 k)

scripts_fine : (xs : List (List PathStep × List ℕ)) → AllByRecursion (λ (x : List PathStep × List ℕ). AllByRecursion IsStep (x.0)) xs
    → AllByRecursion IsSaid (map script_said xs)
scripts_fine [] h = tt
scripts_fine (x ∷ xs) h = (h.0, scripts_fine xs h.1)

digests_fine : (which : Which) (k : ℕ) (ds : List (List ℕ)) → IsWhich which → k + length ds ≤ 2 ^ 64
    → AllByRecursion IsSaid (digests_said which k ds)
digests_fine which k [] h few = tt
digests_fine which k (d ∷ ds) h few = ((h, omega (arith, few)), digests_fine which (k + 1) ds h (omega (arith, few)))

prepared_fine : (which : Which) (p : Prepared) → IsWhich which → IsShownTx p → AllByRecursion IsSaid (prepared_said which p)
prepared_fine which p h x =
    let few = x.few_inputs in
    ((h, x.tx, x.unsigned), digests_fine which 0 p.digests h (omega (arith, few)))

paths_fine : (ps : List (List PathStep × Prepared))
    → AllByRecursion (λ (p : List PathStep × Prepared). AllByRecursion IsStep (p.0) × IsShownTx (p.1)) ps
    → AllByRecursion IsSaid (flat_map path_said ps)
paths_fine [] h = tt
paths_fine (p ∷ ps) h = both (path_said p) (flat_map path_said ps) (prepared_fine (names.At p.0) (p.1) (h.0).0 (h.0).1) (paths_fine ps h.1)

compiled_fine : (c : Compilation) → IsPlannable c → AllByRecursion IsSaid (compiled_said c)
compiled_fine c h = (
  tt,
  both (map script_said c.scripts) _ (scripts_fine c.scripts h.scripts)
      (both (prepared_said names.Init c.init) _ (prepared_fine names.Init c.init tt h.init) (paths_fine c.paths h.paths)),
)

-- ---- they are gathered

abbrev found : List (List PathStep × List ℕ) → List (List ℕ) → List (Which × Prepared) → Gathered
found scripts digests txs = record { scripts = scripts; digests = digests; transactions = txs }

abbrev some_found : List (List PathStep × List ℕ) → List (List ℕ) → List (Which × Prepared) → Option Gathered
some_found scripts digests txs = some (found scripts digests txs)

digests_gathered : (which : Which) (k : ℕ) (ds : List (List ℕ)) (ls : List PlanLine) (txs : List (Which × Prepared))
    → gathered ls ≡ some_found [] [] txs → gathered (digests_said which k ds ++ ls) ≡ some_found [] ds txs
digests_gathered which k [] ls txs h = h
digests_gathered which k (d ∷ ds) ls txs h =
    ap (λ (o : Option Gathered). o >>= onto_gathered (line.digest which k d)) (digests_gathered which (k + 1) ds ls txs h)

abbrev entry : Which → Prepared → Which × Prepared
entry which p = (which, p)

prepared_gathered : (which : Which) (p : Prepared) (ls : List PlanLine) (txs : List (Which × Prepared))
    → gathered ls ≡ some_found [] [] txs → gathered (prepared_said which p ++ ls) ≡ some_found [] [] (entry which p ∷ txs)
prepared_gathered which p ls txs h =
    ap (λ (o : Option Gathered). o >>= onto_gathered (line.transaction which p.txid p.tx)) (digests_gathered which 0 p.digests ls txs h)

abbrev named : List PathStep × Prepared → Which × Prepared
named p = entry (names.At p.0) (p.1)

paths_gathered : (ps : List (List PathStep × Prepared)) → gathered (flat_map path_said ps) ≡ some_found [] [] (map named ps)
paths_gathered [] = refl
paths_gathered (p ∷ ps) = prepared_gathered (names.At p.0) (p.1) (flat_map path_said ps) (map named ps) (paths_gathered ps)

scripts_gathered : (xs : List (List PathStep × List ℕ)) (ls : List PlanLine) (txs : List (Which × Prepared))
    → gathered ls ≡ some_found [] [] txs → gathered (map script_said xs ++ ls) ≡ some_found xs [] txs
scripts_gathered [] ls txs h = h
scripts_gathered (x ∷ xs) ls txs h =
    ap (λ (o : Option Gathered). o >>= onto_gathered (script_said x)) (scripts_gathered xs ls txs h)

paths_back : (ps : List (List PathStep × Prepared)) → by_path (map named ps) ≡ some ps
paths_back [] = refl
paths_back (p ∷ ps) = ap (λ o. onto (some p) o) (paths_back ps)

abbrev some_plan : ShownPlan → Option ShownPlan
some_plan x = some x

compiled_gathered : (c : Compilation) → plan_in (compiled_said c) ≡ some_plan (compiled c)
compiled_gathered c =
    ap (λ (o : Option Gathered). o >>= compiled_by)
    (scripts_gathered c.scripts (prepared_said names.Init c.init ++ flat_map path_said c.paths) (entry names.Init c.init ∷ map named c.paths)
    (prepared_gathered names.Init c.init (flat_map path_said c.paths) (map named c.paths) (paths_gathered c.paths)))
    ∙ ap (λ (o : Option (List (List PathStep × Prepared))). o >>= λ paths.
    some_plan (compiled (record { init = c.init; paths = paths; scripts = c.scripts }))) (paths_back c.paths)

-- ---- the whole text

read_back : (ls : List PlanLine) (shown : ShownPlan) → AllByRecursion IsSaid ls → plan_in ls ≡ some_plan shown
    → plan_of (lines_text ls) ≡ some_plan shown
unfolding plan_of
read_back ls shown h e = ap (λ o. o >>= plan_in) (text_back written plan_said IsSaid words_plain words_back ls h) ∙ e

pub compilations_back : CompilationsReadBack
compilations_back c h =
    ap plan_of (compiled_lined c) ∙ read_back (compiled_said c) (compiled c) (compiled_fine c h) (compiled_gathered c)

pub uncompiled_back : plan_of (codes "contract 0 not compiled" ++ newline) ≡ some_plan uncompiled
uncompiled_back = read_back (line.uncompiled ∷ []) uncompiled (tt, tt) refl

pub guess_back : (party name : List ℕ) → IsNamed party → IsNamed name
    → plan_of (guessed_line party name) ≡ some_plan (guess party name)
guess_back party name h k =
    ap (λ (r : List ℕ). plan_of (codes "guessed " ++ r)) (two_words party name newline ∙ sym (append-nil _))
    ∙ read_back (line.guessed party name ∷ []) (guess party name) ((h, k), tt) refl

pub collision_back : (earlier later : List ℕ) → plan_of (collided_line earlier later) ≡ some_plan (collision earlier later)
collision_back earlier later =
    ap (λ (r : List ℕ). plan_of (codes "collided " ++ r)) (two_words (hex_text earlier) (hex_text later) newline ∙ sym (append-nil _))
    ∙ read_back (line.collided earlier later ∷ []) (collision earlier later) (tt, tt) refl
