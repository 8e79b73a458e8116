-- A transaction for signers, if a party endorses it.
use Rattle.std.specs.Prelude.{ℕ, List, [], if◌then◌else◌}
use Rattle.spec_terms.specs.Advert.{Advert}
use Rattle.spec_compiler.specs.Keyed.Keys.{Keys}
use Rattle.spec_tool.specs.Keyed.Listed.{Listed}
use Rattle.spec_tool.specs.PsbtText.{psbt_line}
use Rattle.spec_deal.specs.DealText.{unsigned_psbt}
use Rattle.spec_deal.specs.ReadyText.{is_endorsed_by}

abbrev pub endorsed_part : (List ℕ → List ℕ) → Keys → Advert → List ℕ → Listed → List ℕ
endorsed_part hash keys advert party l =
    if is_endorsed_by keys advert party l then psbt_line (unsigned_psbt hash keys advert l) else []
