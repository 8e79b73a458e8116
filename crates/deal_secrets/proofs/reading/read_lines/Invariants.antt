use Rattle.std.proofs.Common.{◌≡◌, ◌≤◌, ◌+◌, [], None, length, option_map}
use Rattle.spec_compiler.specs.Keyed.Instance.{Instance}
use Rattle.spec_text.specs.Lines.{lines_of}
use Rattle.spec_deal.specs.SecretFile.{read_lines}
use Rattle.bm_hash.specs.Messages.{evidence_of}
use Rattle.deal_secrets.specs.Offers.{IsWanted}
use Rattle.deal_secrets.proofs.Offered.{Fresh}
use Rattle.deal_secrets.proofs.reading.read_lines.Given as goal

abbrev pub invariant-loop-rest : goal.invariant-loop-rest
invariant-loop-rest g l =
    let hash = g.H.Hash32.digest_of l.fn.trail.hasher in
    record {
      told : (s : Instance) → s.advert ≡ l.checked → IsWanted hash s (option_map (λ h. h.now) l.hashes) l.text
          → read_lines hash s l.trail.messages l.strings l.line (lines_of l.rest) ≡ read_lines hash s l.fn.trail.messages [] 1 (lines_of l.text);
      fresh : Fresh hash l.strings l.text l.rest;
      hasher : l.trail.hasher ≡ l.fn.trail.hasher;
      clear : evidence_of hash l.trail.messages ≡ None;
      line : l.line + length l.rest ≤ length l.text + 1;
    }

abbrev pub decreases-loop-rest : goal.decreases-loop-rest
decreases-loop-rest g l = length l.rest
