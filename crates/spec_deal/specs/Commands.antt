-- The commands of the program for deals, and the files that they read.
use Rattle.std.specs.Prelude.{ℕ, List, [], ◌∷◌, if◌then◌else◌, Option, Some, None, codes}
use Rattle.std.specs.Str.{bytes_eq}
use Rattle.spec_text.specs.Words.{◌>>=◌}
use Rattle.spec_tool.specs.declared.which.Which.{Which}
use Rattle.spec_tool.specs.Commands.{which_of, contract_file}
use Rattle.spec_tool.specs.Reads.{Asked}
use Rattle.spec_deal.specs.Sizes.{most_deal_bytes, most_signature_bytes, most_secrets_bytes}

-- files are named by their bytes
pub data DealCommand : Type 0 where
  -- prints which lines a deal file needs
  keys : (contract : List ℕ) → DealCommand
  -- prints scripts, deposits, transactions and digests, and who signs
  plan : (contract : List ℕ) → (deal : List ℕ) → DealCommand
  -- prints the transactions for signers
  psbts : (contract : List ℕ) → (deal : List ℕ) → DealCommand
  -- prints one of them
  psbt : (contract : List ℕ) → (deal : List ℕ) → (which : Which) → DealCommand
  -- prints the signatures that aren't there, and whether the initial transaction may be signed
  missing : (contract : List ℕ) → (deal : List ℕ) → (signatures : List ℕ) → DealCommand
  -- prints the signatures that are there
  held : (contract : List ℕ) → (deal : List ℕ) → (signatures : List ℕ) → DealCommand
  -- prints a transaction for the network
  finish : (contract : List ℕ) → (deal : List ℕ) → (which : Which) → (signatures : List ℕ) → DealCommand
  -- prints one that may reveal secrets
  finish_with : (contract : List ℕ) → (deal : List ℕ) → (which : Which) → (signatures : List ℕ) → (secrets : List ℕ) → DealCommand
  -- prints where deposits and payouts go, by a deal file that may lack lines
  fund : (contract : List ℕ) → (deal : List ℕ) → DealCommand
  -- prints what nodes wouldn't relay
  warn : (contract : List ℕ) → (deal : List ℕ) → DealCommand
  -- the same, with secrets
  warn_with : (contract : List ℕ) → (deal : List ℕ) → (secrets : List ℕ) → DealCommand
  -- prints it, and whether the initial transaction may be signed
  ready : (contract : List ℕ) → (deal : List ℕ) → (signatures : List ℕ) → DealCommand
  -- the same, with secrets
  ready_with : (contract : List ℕ) → (deal : List ℕ) → (signatures : List ℕ) → (secrets : List ℕ) → DealCommand
  -- prints the transactions that a party endorses, for signers
  endorse : (contract : List ℕ) → (deal : List ℕ) → (party : List ℕ) → DealCommand
  -- prints the hashes of secrets, as lines of a deal file
  hashes : (contract : List ℕ) → (secrets : List ℕ) → DealCommand

-- ---- words

abbrev pub keys_words : List (List ℕ) → Option DealCommand
keys_words (contract ∷ []) = Some (keys contract)
keys_words _ = None

abbrev pub plan_words : List (List ℕ) → Option DealCommand
plan_words (contract ∷ deal ∷ []) = Some (plan contract deal)
plan_words _ = None

abbrev pub psbt_words : List (List ℕ) → Option DealCommand
psbt_words (contract ∷ deal ∷ []) = Some (psbts contract deal)
psbt_words (contract ∷ deal ∷ word ∷ []) = which_of word >>= λ which. Some (psbt contract deal which)
psbt_words _ = None

abbrev pub missing_words : List (List ℕ) → Option DealCommand
missing_words (contract ∷ deal ∷ signatures ∷ []) = Some (missing contract deal signatures)
missing_words _ = None

abbrev pub held_words : List (List ℕ) → Option DealCommand
held_words (contract ∷ deal ∷ signatures ∷ []) = Some (held contract deal signatures)
held_words _ = None

abbrev pub finish_words : List (List ℕ) → Option DealCommand
finish_words (contract ∷ deal ∷ word ∷ signatures ∷ []) = which_of word >>= λ which. Some (finish contract deal which signatures)
finish_words (contract ∷ deal ∷ word ∷ signatures ∷ secrets ∷ []) =
    which_of word >>= λ which. Some (finish_with contract deal which signatures secrets)
finish_words _ = None

abbrev pub fund_words : List (List ℕ) → Option DealCommand
fund_words (contract ∷ deal ∷ []) = Some (fund contract deal)
fund_words _ = None

abbrev pub warn_words : List (List ℕ) → Option DealCommand
warn_words (contract ∷ deal ∷ []) = Some (warn contract deal)
warn_words (contract ∷ deal ∷ secrets ∷ []) = Some (warn_with contract deal secrets)
warn_words _ = None

abbrev pub ready_words : List (List ℕ) → Option DealCommand
ready_words (contract ∷ deal ∷ signatures ∷ []) = Some (ready contract deal signatures)
ready_words (contract ∷ deal ∷ signatures ∷ secrets ∷ []) = Some (ready_with contract deal signatures secrets)
ready_words _ = None

abbrev pub endorse_words : List (List ℕ) → Option DealCommand
endorse_words (contract ∷ deal ∷ party ∷ []) = Some (endorse contract deal party)
endorse_words _ = None

abbrev pub hashes_words : List (List ℕ) → Option DealCommand
hashes_words (contract ∷ secrets ∷ []) = Some (hashes contract secrets)
hashes_words _ = None

-- the command that the words are, if they are one
abbrev pub deal_command_of : List (List ℕ) → Option DealCommand
deal_command_of [] = None
deal_command_of (word ∷ words) =
    if bytes_eq word (codes "keys") then keys_words words
    else if bytes_eq word (codes "plan") then plan_words words
    else if bytes_eq word (codes "psbt") then psbt_words words
    else if bytes_eq word (codes "missing") then missing_words words
    else if bytes_eq word (codes "held") then held_words words
    else if bytes_eq word (codes "finish") then finish_words words
    else if bytes_eq word (codes "fund") then fund_words words
    else if bytes_eq word (codes "warn") then warn_words words
    else if bytes_eq word (codes "ready") then ready_words words
    else if bytes_eq word (codes "endorse") then endorse_words words
    else if bytes_eq word (codes "hashes") then hashes_words words
    else None

-- ---- files

abbrev pub deal_file : List ℕ → Asked
deal_file name = (name, most_deal_bytes)

abbrev pub signature_file : List ℕ → Asked
signature_file name = (name, most_signature_bytes)

abbrev pub secrets_file : List ℕ → Asked
secrets_file name = (name, most_secrets_bytes)

-- The files that a command reads, each with the most bytes that it may have, in the order of the words.
abbrev pub deal_files : DealCommand → List Asked
deal_files (keys contract) = contract_file contract ∷ []
deal_files (plan contract deal) = contract_file contract ∷ deal_file deal ∷ []
deal_files (psbts contract deal) = contract_file contract ∷ deal_file deal ∷ []
deal_files (psbt contract deal which) = contract_file contract ∷ deal_file deal ∷ []
deal_files (missing contract deal signatures) = contract_file contract ∷ deal_file deal ∷ signature_file signatures ∷ []
deal_files (held contract deal signatures) = contract_file contract ∷ deal_file deal ∷ signature_file signatures ∷ []
deal_files (finish contract deal which signatures) = contract_file contract ∷ deal_file deal ∷ signature_file signatures ∷ []
deal_files (finish_with contract deal which signatures secrets) =
    contract_file contract ∷ deal_file deal ∷ signature_file signatures ∷ secrets_file secrets ∷ []
deal_files (fund contract deal) = contract_file contract ∷ deal_file deal ∷ []
deal_files (warn contract deal) = contract_file contract ∷ deal_file deal ∷ []
deal_files (warn_with contract deal secrets) = contract_file contract ∷ deal_file deal ∷ secrets_file secrets ∷ []
deal_files (ready contract deal signatures) = contract_file contract ∷ deal_file deal ∷ signature_file signatures ∷ []
deal_files (ready_with contract deal signatures secrets) =
    contract_file contract ∷ deal_file deal ∷ signature_file signatures ∷ secrets_file secrets ∷ []
deal_files (endorse contract deal party) = contract_file contract ∷ deal_file deal ∷ []
deal_files (hashes contract secrets) = contract_file contract ∷ secrets_file secrets ∷ []
