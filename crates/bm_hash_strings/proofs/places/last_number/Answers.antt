use Rattle.std.proofs.Common.{◌∙◌}
use Rattle.bm_hash_strings.proofs.Fingerprints.{last_long, last_short}
use Rattle.bm_hash_strings.proofs.places.last_number.Goals as goal

pub returns-in-Some : goal.returns-in-Some
returns-in-Some c =
    c.from_le_bytes.ensures
    ∙ last_long c.args.string.now c.in-Some.last.now c.in-Some.ensures.cases.0 c.in-Some.ensures.cases.1.same

pub returns-in-None : goal.returns-in-None
returns-in-None c = last_short c.args.string.now c.in-None.ensures.cases
