use Rattle.std.proofs.Common.{◌++◌, ◌∙◌, sym}
use Rattle.bm_world_commit.specs.Committed.{promise_in}
use Rattle.bm_world_commit.proofs.Completed.{digests_last}
use Rattle.bm_world_commit.proofs.compiling.hashes_of.Goals as goal

pub returns : goal.returns
returns c =
    c.in_ok-put_digests.ensures ∙ (λ i. c.in_ok-hashes.ensures i ++ c.as_slice.ensures i)
    ∙ sym (digests_last c.args.exchange.now.promises (promise_in c.args.promising.now))
