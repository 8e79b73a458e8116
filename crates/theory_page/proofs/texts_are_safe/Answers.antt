use Rattle.theory_page.proofs.Safe as shown
use Rattle.theory_page.proofs.texts_are_safe.Goals as goal

pub returns : goal.returns
returns c = shown.texts_are_safe
