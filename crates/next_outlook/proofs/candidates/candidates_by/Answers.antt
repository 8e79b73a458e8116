use Rattle.std.proofs.Common.{◌∙◌, ap}
use Rattle.spec_run.specs.declared.header.Header.{Header}
use Rattle.bm_world.specs.Playing.{setup_in}
use Rattle.next_outlook.proofs.Listed.{listed}
use Rattle.next_outlook.proofs.candidates.candidates_by.Goals as goal

pub returns : goal.returns
returns g c =
    listed (setup_in g.H.Hash32.digest_of c.args.world.now) c.args.config.now c.args.world.now.world c.args.contract c.args.checked.now
    c.args.people.now c.pre_of-pre.result.now c.as_slice-honest.result.now c.in_ok-advertised.advertised c.new-found.result c.push.new.self
    c.put_committing.new.found c.put_endorsing.new.found c.put_starting.new.found c.push-2.new.self c.put_revealing.new.found
    c.put_actives.new.found c.pre_of-pre.ensures (c.as_slice-honest.ensures ∙ ap (λ (h : Header). h.honest) c.header.ensures)
    c.in_ok-advertised.ensures c.new-found.ensures c.in_ok-push.ensures.ok c.in_ok-put_committing.ensures c.in_ok-put_endorsing.ensures
    c.in_ok-put_starting.ensures c.in_ok-push-2.ensures.ok c.in_ok-put_revealing.ensures c.in_ok-put_actives.ensures
