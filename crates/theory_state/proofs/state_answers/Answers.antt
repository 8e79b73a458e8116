use Rattle.theory_state.proofs.StateAnswers as proof
use Rattle.theory_state.proofs.state_answers.Goals as goal

pub returns : goal.returns
returns c = proof.state_answers (record {
  runs = c.chains_are_runs.ensures;
  fit = c.known_fit.ensures;
  can = c.can_exactly.ensures;
  exactly = c.requirements_exactly.ensures;
  unverified = c.unverified_exactly.ensures;
  supplied = c.supplied_comes.ensures;
  opens = c.can_opens.ensures;
  accepted = c.can_is_accepted.ensures;
  history = c.history_stays.ensures;
  gone = c.gone_never_comes.ensures;
  never = c.never_comes.ensures;
  aside = c.others_are_read_over.ensures;
})
