use Rattle.std.specs.Prelude.{codes}
use Rattle.spec_text.specs.RunText.{newline}
use Rattle.deal_chain.specs.Refusals.{fault_text}
use Rattle.deal_chain.proofs.RefusalLemmas.{three}
use Rattle.deal_chain.proofs.refusals.put_refused.Goals as goal

pub returns : goal.returns
returns c =
    three c.put-2.result c.put-2.new.out.items c.args.out.now.items c.put.new.out.items c.put_fault.new.out.items (codes "chain refused ")
    (fault_text c.args.fault) newline c.put-2.ensures c.in_ok-put_fault.ensures c.in_ok-put.ensures
