use Rattle.theory_curve.proofs.Affine.{affine_first, affine_second}
use Rattle.theory_curve.proofs.Inverts.{field_inverts}
use Rattle.theory_curve.proofs.triples_give_points.Goals as goal

pub returns-clause-first : goal.returns-clause-first
returns-clause-first c = affine_first field_inverts

pub returns-clause-second : goal.returns-clause-second
returns-clause-second c = affine_second field_inverts
