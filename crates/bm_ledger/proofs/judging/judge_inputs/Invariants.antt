use Rattle.std.proofs.Common.{◌≡◌, take, drop}
use Rattle.std.specs.List.{flat_map}
use Rattle.spec_data.specs.Lists.{or_else}
use Rattle.bm_hash.specs.Trails.{Hashed}
use Rattle.spec_bitcoin.specs.Verdict.{inputs_refusal, input_strings}
use Rattle.bm_ledger.proofs.judging.judge_inputs.Given as goal

abbrev pub invariant-loop-k : goal.invariant-loop-k
invariant-loop-k g l = record {
  hasher : l.trail.hasher ≡ l.fn.trail.hasher;
  first : or_else l.first (inputs_refusal (g.H.Hash32.digest_of l.fn.trail.hasher) l.book l.live l.tx l.k (drop l.k l.inputs))
      ≡ or_else l.fn.whole (inputs_refusal (g.H.Hash32.digest_of l.fn.trail.hasher) l.book l.live l.tx 0 l.tx.inputs);
  trail : Hashed (g.H.Hash32.digest_of l.fn.trail.hasher) l.fn.trail.messages l.trail.messages
      (flat_map (input_strings (g.H.Hash32.digest_of l.fn.trail.hasher) l.live l.tx) (take l.k l.inputs));
}
