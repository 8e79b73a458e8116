-- What is claimed of the first lines of a run: filled in, they are the text of the run that begins the contract.
use Rattle.std.specs.Prelude.{◌≡◌, ℕ, List, map}
use Rattle.spec_data.specs.Digits.{hex_text}
use Rattle.spec_terms.specs.Advert.{Advert}
use Rattle.spec_terms.specs.Precondition.{secrets}
use Rattle.spec_text.specs.RunText.{run_text}
use Rattle.spec_next.specs.FirstLines.{placeholder, first_run, first_lines, begin_text}

pub record FirstLinesAreARun : Type 0 where
  -- what is printed has the placeholder for each secret
  pub printed : (advert : Advert) → begin_text advert ≡ first_lines advert (map (λ x. placeholder) (secrets advert.pre))
  -- with the bytes of the secrets in its place it is the text of the run
  pub filled : (advert : Advert) (strings : List (List ℕ)) → first_lines advert (map hex_text strings) ≡ run_text (first_run advert strings)
