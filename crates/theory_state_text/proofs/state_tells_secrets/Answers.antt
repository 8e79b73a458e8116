use Rattle.theory_state_text.proofs.Tells as proof
use Rattle.theory_state_text.proofs.state_tells_secrets.Goals as goal

pub returns : goal.returns
returns c = proof.state_tells_secrets c.state_answers.ensures c.secret_files_are_read.ensures
