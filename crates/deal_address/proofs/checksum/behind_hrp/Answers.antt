use Rattle.std.proofs.Common.{sym, ap, ◌∙◌, map, ◌∷◌, ◌/◌, ◌%◌}
use Rattle.spec_address.specs.Checksum.{next_state, state_from}
use Rattle.deal_address.proofs.Checksums.{state_append}
use Rattle.deal_address.proofs.checksum.behind_hrp.Goals as goal

pub returns : goal.returns
returns c =
    let high = map (λ b. b / 32) c.args.hrp.now in
    let low = map (λ b. b % 32) c.args.hrp.now in
    c.behind_low_bits.ensures
    ∙ ap (λ state. state_from state low) (c.next_state-between.ensures ∙ ap (λ state. next_state state 0) c.behind_high_bits-high.ensures)
    ∙ sym (state_append 1 high (0 ∷ low))
