use Rattle.tests_language.proofs.terms.checked.Goals as goal

pub check-requires : goal.check-requires
check-requires c = c.reader_theorem.ensures.fits _ _ c.in-Ok.ensures
