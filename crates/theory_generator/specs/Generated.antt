-- What is claimed of the contracts that are made from a number.
use Rattle.std.specs.Prelude.{◌≡◌, ℕ, ◌≤◌, true, Ok}
use Rattle.spec_terms.specs.Faults.{IsWellFormed}
use Rattle.spec_terms.specs.Readable.{is_readable}
use Rattle.spec_text.specs.Canonical.{advert_text}
use Rattle.spec_text.specs.Generator.{generated_contract}
use Rattle.spec_text.specs.ReadAdvert.{read_answer}
use Rattle.spec_text.specs.Refusals.{contract_of}
use Rattle.spec_tool.specs.Commands.{most_size}

-- the generated contract is within the limits of the reader, and read again from its canonical text
pub record IsReadAgain (number size : ℕ) : Type 0 where
  pub readable : is_readable (generated_contract number size) ≡ true
  pub read : read_answer (advert_text (generated_contract number size)) ≡ Ok (generated_contract number size)

-- so it is for every number and each size that the command takes
abbrev pub GeneratedContractsRead : Type 0
GeneratedContractsRead = (number size : ℕ) → size ≤ most_size → IsReadAgain number size

-- it is well-formed, and its canonical text is taken as it
pub record IsTaken (number size : ℕ) : Type 0 where
  pub well_formed : IsWellFormed (generated_contract number size)
  pub taken : contract_of (advert_text (generated_contract number size)) ≡ Ok (generated_contract number size)

abbrev pub GeneratedContractsTaken : Type 0
GeneratedContractsTaken = (number size : ℕ) → size ≤ most_size → IsTaken number size
