-- How calls of the program for deals are worked out: what words answer where files of these names and contents are there.
use Rattle.std.specs.Prelude.{ℕ, List, [], Option, Some, None}
use Rattle.spec_tool.specs.Commands.{Printed}
use Rattle.spec_tool.specs.Reads.{reads_in}
use Rattle.spec_deal.specs.Commands.{DealCommand, deal_command_of, deal_files}
use Rattle.spec_deal.specs.Answers.{deal_answer}
use Rattle.spec_deal.specs.Verifier.{Verifier}
use Rattle.spec_chain.specs.Answers.{chain_answer}
use Rattle.spec_chain.specs.Commands.{ChainCommand, chain_command_of, chain_files}

abbrev pub deal_replies_to : Verifier → (List ℕ → List ℕ) → List (List ℕ × List ℕ) → Option DealCommand → Printed
deal_replies_to v hash there None = deal_answer v hash None []
deal_replies_to v hash there (Some command) = deal_answer v hash (Some command) (reads_in there None 0 (deal_files command))

-- what these words answer where these files are there
abbrev pub deal_replies : Verifier → (List ℕ → List ℕ) → List (List ℕ) → List (List ℕ × List ℕ) → Printed
deal_replies v hash words there = deal_replies_to v hash there (deal_command_of words)

abbrev pub program_replies_to : Verifier → (List ℕ → List ℕ) → List (List ℕ × List ℕ) → Option ChainCommand → Printed
program_replies_to v hash there None = chain_answer v hash None []
program_replies_to v hash there (Some command) = chain_answer v hash (Some command) (reads_in there None 0 (chain_files command))

-- the same of the whole program
abbrev pub program_replies : Verifier → (List ℕ → List ℕ) → List (List ℕ) → List (List ℕ × List ℕ) → Printed
program_replies v hash words there = program_replies_to v hash there (chain_command_of words)
