use Rattle.std.proofs.Common.{◌≡◌, drop}
use Rattle.spec_run.specs.Signing.{signed_all}
use Rattle.bm_world_board.specs.Prepares.{IsPrefix}
use Rattle.bm_world_sign.proofs.booking.sign_all.Given as goal

-- what is signed so far and then the rest is all
abbrev pub invariant-loop-key : goal.invariant-loop-key
invariant-loop-key l = record {
  signed : signed_all l.book (drop l.key-index l.pairs) ≡ signed_all l.initial.book l.pairs;
  prefix : IsPrefix l.initial.book l.book;
}
