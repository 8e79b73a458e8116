-- A compiled contract with its numbered nodes, by the key that each label has.
use Rattle.std.specs.Prelude.{ℕ, List, map}
use Rattle.spec_compiler.specs.Keyed.Keys.{Keys}
use Rattle.spec_compiler.specs.Keyed.Instance.{Instance, branch_keys}
use Rattle.spec_compiler.specs.Keyed.Compilation.{compilation}
use Rattle.spec_nodes.specs.Nodes.{nodes_of}
use Rattle.bm_compile.specs.Numbered.{Numbered}

-- what a contract is compiled to
abbrev pub numbered : (List ℕ → List ℕ) → Keys → Instance → Numbered
numbered hash keys s = record {
  nodes = nodes_of s.advert.root;
  init = (compilation hash keys s).init;
  paths = (compilation hash keys s).paths;
  scripts = (compilation hash keys s).scripts;
  keys = map (λ p. branch_keys hash keys s p.0) (compilation hash keys s).paths;
}
