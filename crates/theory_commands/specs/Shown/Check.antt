-- What `check` shows.
use Rattle.std.specs.Prelude.{◌≡◌}
use Rattle.spec_terms.specs.Advert.{Advert}
use Rattle.spec_text.specs.Canonical.{advert_text}
use Rattle.spec_text.specs.Statements.{IsSpelledBy}
use Rattle.spec_tool.specs.Commands.{Printed, prints, accepted_text}
use Rattle.spec_tool.specs.Reads.{Text}
use Rattle.theory_commands.specs.Files.{ShowsContract}

-- the contract is accepted, and what is written of it spells it
pub record IsAccepted (advert : Advert) (printed : Printed) : Type 0 where
  pub answer : printed ≡ prints 0 (accepted_text advert)
  pub back : IsSpelledBy (advert_text advert) advert

-- the file holds a contract, and that is accepted; or it is refused, and it is said why and where
abbrev pub ShowsCheck : Text → Printed → Type 0
ShowsCheck text printed = ShowsContract text printed (λ advert. IsAccepted advert printed)
