-- What `plan` prints of a run and its contract, and `make` of a run.
use Rattle.std.specs.Prelude.{ℕ, ◌+◌, List, [], ◌∷◌, ◌++◌, flat_map, length, sum_by, reverse, Option, Some, None, codes}
use Rattle.std.specs.Fmt.{decimal}
use Rattle.spec_terms.specs.declared.path.PathStep.{PathStep}
use Rattle.spec_bitcoin.specs.Keys.{path_text}
use Rattle.spec_bitcoin.specs.Spelling.{stripped}
use Rattle.spec_compiler.specs.declared.prepared.Prepared.{Prepared}
use Rattle.spec_compiler.specs.Instance.{Instance}
use Rattle.spec_compiler.specs.Compilation.{Compilation, compilation}
use Rattle.spec_calculus.specs.declared.step.Step.{Step}
use Rattle.spec_calculus.specs.Configuration.{Configuration}
use Rattle.spec_run.specs.declared.event.Event.{Event}
use Rattle.spec_run.specs.Setup.{Setup}
use Rattle.spec_run.specs.World.{World}
use Rattle.spec_run.specs.Compiled.{compiled_instance}
use Rattle.spec_run.specs.Translation.{translated, last_configuration, last_world}
use Rattle.spec_data.specs.Digits.{hex_text}
use Rattle.spec_text.specs.RunText.{newline}
use Rattle.spec_text.specs.PlayText.{Ending, whole, guessed, collided, guessed_line, collided_line}
use Rattle.spec_text.specs.Played.{ending, live_outputs}

-- ---- compiled transactions

-- `script POSITION HEX`
abbrev pub script_line : List PathStep × List ℕ → List ℕ
script_line s = codes "script " ++ (path_text s.0 ++ (codes " " ++ (hex_text s.1 ++ newline)))

-- `digest NAME k HEX` for each input, from number k on
abbrev pub digest_lines : List ℕ → ℕ → List (List ℕ) → List ℕ
digest_lines name k [] = []
digest_lines name k (d ∷ ds) =
    codes "digest " ++ (name ++ (codes " " ++ (decimal k ++ (codes " " ++ (hex_text d ++ (newline ++ digest_lines name (k + 1) ds))))))

-- `tx NAME TXID HEX` and the digests of its inputs; a txid is shown with its bytes reversed
abbrev pub prepared_lines : List ℕ → Prepared → List ℕ
prepared_lines name p =
    codes "tx "
    ++ (name ++ (codes " " ++ (hex_text (reverse p.txid)
    ++ (codes " " ++ (hex_text (stripped p.tx) ++ (newline ++ digest_lines name 0 p.digests))))))

abbrev pub path_lines : List PathStep × Prepared → List ℕ
path_lines p = prepared_lines (path_text p.0) (p.1)

-- the scripts of a contract, its initial transaction, and the transaction of each path
abbrev pub compiled_text : Compilation → List ℕ
compiled_text c =
    codes "contract 0 compiled"
    ++ (newline ++ (flat_map script_line c.scripts ++ (prepared_lines (codes "init") c.init ++ flat_map path_lines c.paths)))

abbrev pub setting_text : (List ℕ → List ℕ) → Option Instance → List ℕ
setting_text hash None = codes "contract 0 not compiled" ++ newline
setting_text hash (Some instance) = compiled_text (compilation hash instance)

-- the text of a run that wasn't halted, else its last line alone
abbrev pub unless_halted : Ending → List ℕ → List ℕ
unless_halted (whole tip live g offers) text = text
unless_halted (guessed event party secret) text = guessed_line party secret
unless_halted (collided event earlier later) text = collided_line earlier later

-- what `plan` prints of a run with one contract
unfoldable pub plan_text : Setup → List Event → List ℕ
plan_text s es = unless_halted (ending s es) (setting_text s.hash (compiled_instance s (last_world s es) 0))

-- ---- counts

-- a word and a number
abbrev pub count_line : List ℕ → ℕ → List ℕ
count_line word n = word ++ (codes " " ++ (decimal n ++ newline))

-- how many events and steps there are, and what is there at the end
abbrev pub counts_text : ℕ → ℕ → Configuration → World → List ℕ
counts_text events steps g w =
    count_line (codes "events") events
    ++ (count_line (codes "steps") steps
    ++ (count_line (codes "deposits") (length g.deposits)
    ++ (count_line (codes "contracts") (length g.active)
    ++ count_line (codes "value") (sum_by (λ o. o.1) (live_outputs w)))))

abbrev pub step_count : List (List Step) → ℕ
step_count steps = sum_by length steps

-- what `make` prints of a run
unfoldable pub make_text : Setup → List Event → List ℕ
make_text s es =
    unless_halted (ending s es) (counts_text (length es) (step_count (translated s es)) (last_configuration s es) (last_world s es))
