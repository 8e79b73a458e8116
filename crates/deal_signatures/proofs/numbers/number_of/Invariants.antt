use Rattle.std.proofs.Common.{◌≡◌, ◌<◌, ◌^◌, drop}
use Rattle.spec_deal.specs.Shape.{number_from}
use Rattle.deal_signatures.proofs.numbers.number_of.Given as goal

abbrev pub invariant-loop-byte : goal.invariant-loop-byte
invariant-loop-byte l = record {
  told : number_from l.number (drop l.byte-index l.bytes) ≡ number_from 0 l.bytes;
  below : l.number < 256 ^ l.byte-index;
}
