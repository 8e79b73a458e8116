-- The weights of a contract's transactions, read off the lists of what it is compiled to.
use Rattle.std.specs.Prelude.{ℕ, ◌+◌, ◌-◌, ◌*◌, List, length, map}
use Rattle.std.specs.Option.{option_map_or}
use Rattle.spec_data.specs.Ranges.{least_secret_bytes, most_item_bytes}
use Rattle.spec_terms.specs.Advert.{Advert}
use Rattle.spec_terms.specs.Parties.{participants}
use Rattle.spec_terms.specs.declared.path.PathStep.{PathStep}
use Rattle.spec_terms.specs.declared.path.PathStep.TheVariants.{Branch as To, Part as Into}
use Rattle.spec_bitcoin.specs.declared.tx.Tx.{Tx}
use Rattle.spec_bitcoin.specs.Spelling.{stripped}
use Rattle.spec_compiler.specs.declared.prepared.Prepared.{Prepared}
use Rattle.spec_tool.specs.declared.weight.Weight.{Weight}
use Rattle.bm_plan.specs.declared.sizes.Sizes.{Sizes}
use Rattle.spec_tool.specs.Weights.{last_branch, position_of, choices_at, reveal_count, exactly, all_weights}
use Rattle.theory_script.specs.Listed.{at_path}
use Rattle.theory_weights.specs.Sizes.{marked_weight, branch_bytes, deposit_bytes, initial_sized}
use Rattle.theory_weights.specs.Sizes.{count_size, item_size, selector_count, selector_bytes, signature_bytes}

-- the number of the branch that a step leads to
abbrev pub step_branch : PathStep → ℕ
step_branch (To i) = i
step_branch (Into k) = 0

-- how many bytes the script of a position has, by the list of scripts
abbrev pub listed_script : List (List PathStep × List ℕ) → List PathStep → ℕ
listed_script scripts position = option_map_or (λ script. length script) (at_path position scripts) 0

abbrev pub bare : Tx → ℕ
bare tx = length (stripped tx)

-- the sizes of a path's transaction
abbrev pub sizes : Advert → List (List PathStep × List ℕ) → List PathStep → Tx → Sizes
sizes advert scripts path tx = record {
  people = length (participants advert);
  secrets = reveal_count advert path;
  branch = last_branch path;
  branches = choices_at advert path;
  script = listed_script scripts (position_of path);
  bare = bare tx;
  puts = length tx.inputs - 1;
}

-- the weight of a path's transaction of these sizes, with secrets of so many bytes, each with its length before it
abbrev pub with_secrets : Sizes → ℕ → ℕ
with_secrets s secrets =
    marked_weight s.bare
    (count_size (s.people + s.secrets + selector_count s.branch s.branches + 1) + s.people * signature_bytes + secrets
    + selector_bytes s.branch s.branches + item_size s.script + s.puts * deposit_bytes)

-- the same, with secrets of this size
abbrev pub sized_with : Sizes → ℕ → ℕ
sized_with s size =
    marked_weight s.bare (branch_bytes s.people s.secrets size s.branch s.branches s.script + s.puts * deposit_bytes)

abbrev pub sized_weight : Sizes → Weight
sized_weight s = record { least = sized_with s least_secret_bytes; most = sized_with s most_item_bytes }

abbrev pub listed_weight : Advert → List (List PathStep × List ℕ) → List PathStep × Prepared → List PathStep × Weight
listed_weight advert scripts p = (p.0, sized_weight (sizes advert scripts p.0 p.1.tx))

-- the weight of this initial transaction
abbrev pub listed_initial : Tx → Weight
listed_initial tx = exactly (initial_sized (length (stripped tx)) (length tx.inputs))

-- of the initial transaction and then of each path its weight and its total
abbrev pub listed_weights : Advert → Prepared → List (List PathStep × Prepared) → List (List PathStep × List ℕ) → List (Weight × Weight)
listed_weights advert init paths scripts = all_weights (listed_initial init.tx) (map (listed_weight advert scripts) paths)
