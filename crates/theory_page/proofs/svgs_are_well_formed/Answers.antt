use Rattle.theory_page.proofs.SvgParts as shown
use Rattle.theory_page.proofs.svgs_are_well_formed.Goals as goal

pub returns : goal.returns
returns c = shown.svgs_are_well_formed
