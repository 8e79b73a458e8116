use Rattle.std.proofs.Common.{length}
use Rattle.bm_make.proofs.contract.+put_stages.Given as goal

abbrev pub decreases-put_stages : goal.decreases-put_stages
decreases-put_stages l = length l.secrets.now
