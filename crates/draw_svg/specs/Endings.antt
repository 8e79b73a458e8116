-- How a run ends for a contract, and columns, as the definitions see them.
use Rattle.spec_page.specs.SvgContract.{Ending as PlainEnding}
use Rattle.spec_page.specs.SvgLayout.{Widths as PlainWidths, Spot as PlainSpot}
use Rattle.draw_svg.specs.declared.ending.Ending.{Ending}
use Rattle.draw_svg.specs.declared.columns.Widths.{Widths}
use Rattle.draw_svg.specs.declared.flow.Spot.{Spot}

abbrev pub ending_of : Ending → PlainEnding
ending_of e = record { parties = e.parties.now; several = e.several; contract = e.contract; looks = e.looks.now }

abbrev pub widths_of : Widths → PlainWidths
widths_of w = record { path = w.path; what = w.what; sums = w.sums }

abbrev pub spot_of : Spot → PlainSpot
spot_of s = record { line = s.line; at = s.at }
