use Rattle.std.proofs.Common.{sym, ap, ◌∙◌, ◌++◌}
use Rattle.std.specs.Prelude.{bit_xor, replicate}
use Rattle.spec_address.specs.Checksum.{extended, state_from, six_values, check_values}
use Rattle.deal_address.proofs.Checksums.{state_append}
use Rattle.deal_address.proofs.checksum.check_values.Goals as goal

pub returns : goal.returns
unfolding check_values
returns c =
    let all = c.state_behind-last.ensures
    ∙ ap (λ state. state_from state (replicate 6 0))
    (c.state_behind-behind.ensures ∙ ap (λ state. state_from state c.args.values.now) c.behind_hrp-before.ensures
    ∙ sym (state_append 1 (extended c.args.hrp.now) c.args.values.now))
    ∙ sym (state_append 1 (extended c.args.hrp.now ++ c.args.values.now) (replicate 6 0)) in
    c.six_values.ensures ∙ (λ j. six_values (bit_xor (all j) (c.mark.ensures j)))
