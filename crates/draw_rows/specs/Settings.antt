-- What stays the same in all rows of a run, as the definitions see it.
use Rattle.std.specs.Prelude.{◌≡◌, ℕ, List, []}
use Rattle.spec_terms.specs.Advert.{Advert}
use Rattle.spec_run.specs.declared.header.Header.{Header}
use Rattle.spec_run.specs.Setup.{Setup}
use Rattle.spec_page.specs.Balances.{columns, all_money}
use Rattle.spec_page.specs.EventWords.{are_several}
use Rattle.draw_rows.specs.declared.setting.Setting.{Setting}

-- rows ask for no digest
abbrev pub no_digest : List ℕ → List ℕ
no_digest bytes = []

abbrev pub setup_with : Header → List Advert → Setup
setup_with header contracts = record { hash = no_digest; header = header; contracts = contracts }

abbrev pub setup_in : Setting → Setup
setup_in x = setup_with x.header.now x.contracts.now

-- what is worked out once is what the definitions say
pub record IsSetting (x : Setting) : Type 0 where
  pub parties : x.parties.now ≡ columns (setup_in x)
  pub total : x.total ≡ all_money (setup_in x)
  pub several : x.several ≡ are_several (setup_in x)
