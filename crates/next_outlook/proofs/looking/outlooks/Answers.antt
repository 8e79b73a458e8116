use Rattle.std.proofs.Common.{sym, ap, ◌∙◌}
use Rattle.std.specs.Prelude.{option_map}
use Rattle.bm_world_heard.proofs.Hearing.{halted_before}
use Rattle.next_outlook.proofs.Looked.{looked_if}
use Rattle.next_outlook.proofs.looking.outlooks.Goals as goal

pub returns-in-Some-clause-stopped : goal.returns-in-Some-clause-stopped
returns-in-Some-clause-stopped g c =
    halted_before g.H.Hash32.digest_of c.args.world.now _ _ _ (sym c.halt.ensures ∙ ap (option_map (λ h. h.now)) c.in-Some.is) c.again.ensures

pub returns-clause-looked : goal.returns-clause-looked
returns-clause-looked g c =
    looked_if g.H.Hash32.digest_of c.args.config.now c.args.world.now c.look_contracts.new.world c.contracts.result.now c.look_contracts.result
    (sym c.halt.ensures ∙ ap (option_map (λ h. h.now)) c.in_default.is) c.contracts.ensures c.look_contracts.ensures.sees
