use Rattle.std.proofs.Common.{◌≡◌, ◌++◌, ℕ, List, subst}
use Rattle.std.specs.Prelude.{OnOk}
use Rattle.deal_chain.proofs.RefusalLemmas.{line_is}
use Rattle.deal_chain.proofs.refusals.put_chain_refused.Goals as goal

pub returns : goal.returns
returns c =
    subst (λ (text : List ℕ). OnOk c.put_refused.result (c.put_refused.new.out.items ≡ c.args.out.now.items ++ text))
    (line_is c.args.fault) c.put_refused.ensures
