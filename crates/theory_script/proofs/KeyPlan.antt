-- The keys of the key plan have 33 bytes.
use Rattle.std.proofs.Common.{ℕ, suc, List, ap}
use Rattle.spec_bitcoin.specs.Keys.{label_text}
use Rattle.spec_compiler.specs.Keyed.Keys.{by_plan}
use Rattle.spec_compiler.specs.Statements.{IsHash}
use Rattle.spec_compiler.specs.Keyed.Statements.{AreKeys}

pub plan_keys : (hash : List ℕ → List ℕ) → IsHash hash → AreKeys hash by_plan
plan_keys hash is_hash label = ap suc (is_hash (label_text label))
