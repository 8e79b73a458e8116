-- What `weigh` prints: a contract's transactions with their weights as one line of compact JSON (RFC 8259), its keys in alphabetical
-- order.
use Rattle.std.specs.Prelude.{ℕ, List, [], ◌∷◌, ◌++◌, map, reverse, Option, Some, None, codes}
use Rattle.std.specs.Fmt.{decimal}
use Rattle.std.specs.List.{join_by}
use Rattle.spec_compiler.specs.declared.prepared.Prepared.{Prepared}
use Rattle.spec_terms.specs.declared.path.PathStep.{PathStep}
use Rattle.spec_bitcoin.specs.Keys.{path_text}
use Rattle.spec_bitcoin.specs.Spelling.{stripped}
use Rattle.spec_compiler.specs.Instance.{Instance}
use Rattle.spec_compiler.specs.Compilation.{Compilation, compilation}
use Rattle.spec_run.specs.declared.event.Event.{Event}
use Rattle.spec_run.specs.Setup.{Setup}
use Rattle.spec_run.specs.Compiled.{compiled_instance}
use Rattle.spec_run.specs.Translation.{last_world}
use Rattle.spec_data.specs.Digits.{hex_text}
use Rattle.spec_text.specs.RunText.{newline}
use Rattle.spec_tool.specs.declared.weight.Weight.{Weight}
use Rattle.spec_tool.specs.Weights.{weights}

-- ---- JSON

-- a text of letters, digits and marks that need no escape
abbrev pub quoted : List ℕ → List ℕ
quoted text = codes "\"" ++ (text ++ codes "\"")

-- values between brackets
abbrev pub bracketed : List (List ℕ) → List ℕ
bracketed values = codes "[" ++ (join_by (λ value. value) (codes ",") values ++ codes "]")

-- a key and its value
abbrev pub member : List ℕ × List ℕ → List ℕ
member m = quoted (m.0) ++ (codes ":" ++ m.1)

abbrev pub object : List (List ℕ × List ℕ) → List ℕ
object members = codes "{" ++ (join_by member (codes ",") members ++ codes "}")

-- ---- the plan

abbrev pub weight_value : Weight → List ℕ
weight_value w = bracketed (decimal w.least ∷ (decimal w.most ∷ []))

-- a transaction by its name, with its weight and its total; bytes and txid are shown as `plan` shows them
abbrev pub transaction_value : List ℕ → Prepared → Weight × Weight → List ℕ
transaction_value name p w = object
    ((codes "digests", bracketed (map (λ d. quoted (hex_text d)) p.digests))
    ∷ ((codes "hex", quoted (hex_text (stripped p.tx)))
    ∷ ((codes "lock", decimal p.tx.lock)
    ∷ ((codes "name", quoted name)
    ∷ ((codes "total", weight_value (w.1))
    ∷ ((codes "txid", quoted (hex_text (reverse p.txid)))
    ∷ ((codes "weight", weight_value (w.0))
    ∷ [])))))))

-- each transaction with its weights
abbrev pub transaction_values : List (List ℕ × Prepared) → List (Weight × Weight) → List (List ℕ)
transaction_values [] ws = []
transaction_values (p ∷ ps) [] = []
transaction_values (p ∷ ps) (w ∷ ws) = transaction_value (p.0) (p.1) w ∷ transaction_values ps ws

abbrev pub named_path : List PathStep × Prepared → List ℕ × Prepared
named_path p = (path_text (p.0), p.1)

-- the initial transaction, and then the paths in the order of the text
abbrev pub named_all : Compilation → List (List ℕ × Prepared)
named_all c = (codes "init", c.init) ∷ map named_path c.paths

-- none where the contract isn't compiled
abbrev pub setting_values : (List ℕ → List ℕ) → Option Instance → List (List ℕ)
setting_values hash None = []
setting_values hash (Some instance) = transaction_values (named_all (compilation hash instance)) (weights hash instance)

abbrev pub plan_value : (List ℕ → List ℕ) → ℕ → Option Instance → List ℕ
plan_value hash contract instance =
    object ((codes "contract", decimal contract) ∷ ((codes "transactions", bracketed (setting_values hash instance)) ∷ []))

-- what `weigh` prints of a run that isn't halted
unfoldable pub weigh_text : Setup → List Event → List ℕ
weigh_text s es = plan_value s.hash 0 (compiled_instance s (last_world s es) 0) ++ newline
