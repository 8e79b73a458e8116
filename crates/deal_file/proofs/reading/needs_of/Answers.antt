use Rattle.std.proofs.Common.{◌≡◌, map, subst, ◌∙◌, IfOk}
use Rattle.deal_file.specs.Entries.{needed_in}
use Rattle.deal_file.proofs.reading.needs_of.Goals as goal

pub returns : goal.returns
returns c =
    subst (λ all. IfOk c.indexed.result (λ needs. map needed_in needs ≡ all)) (c.deref.ensures.value ∙ c.in_ok-all.ensures)
    c.indexed.ensures
