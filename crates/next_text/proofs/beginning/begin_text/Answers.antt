use Rattle.spec_next.specs.FirstLines.{begin_text}
use Rattle.next_text.proofs.beginning.begin_text.Goals as goal

pub returns : goal.returns
unfolding begin_text
returns c = c.first_lines.ensures
