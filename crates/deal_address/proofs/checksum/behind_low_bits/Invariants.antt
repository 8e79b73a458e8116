use Rattle.std.proofs.Common.{◌≡◌, ◌%◌, drop, map}
use Rattle.spec_address.specs.Checksum.{state_from}
use Rattle.deal_address.proofs.checksum.behind_low_bits.Given as goal

abbrev pub invariant-loop-character : goal.invariant-loop-character
invariant-loop-character l = state_from l.next (map (λ b. b % 32) (drop l.character-index l.hrp)) ≡ state_from l.state (map (λ b. b % 32) l.hrp)
