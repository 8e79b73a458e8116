use Rattle.theory_calculus.proofs.Numbered.{numbers_apart}
use Rattle.theory_calculus.proofs.numbers_stand_apart.Goals as goal

pub returns : goal.returns
returns c = numbers_apart
