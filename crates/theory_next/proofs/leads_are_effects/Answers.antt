use Rattle.theory_next.proofs.Leads.{leads_are_effects}
use Rattle.theory_next.proofs.leads_are_effects.Goals as goal

pub returns : goal.returns
returns c = leads_are_effects
