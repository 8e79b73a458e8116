-- What is hashed in asking what each candidate would come to, and what is answered where it collides.
use Rattle.std.specs.Prelude.{ℕ, List, flat_map, Option, Some, None}
use Rattle.spec_data.specs.Messages.{collision}
use Rattle.spec_calculus.specs.Configuration.{Configuration}
use Rattle.spec_run.specs.declared.event.Event.{Event}
use Rattle.spec_run.specs.Setup.{Setup}
use Rattle.spec_run.specs.World.{World}
use Rattle.spec_run.specs.Event.{pending}
use Rattle.spec_run.specs.Translation.{last_configuration, last_world}
use Rattle.spec_text.specs.PlayText.{collided_line}
use Rattle.spec_tool.specs.Commands.{Printed, prints}
use Rattle.spec_next.specs.Candidates.{all_candidates}
use Rattle.spec_next.specs.declared.form.Form.{Form}
use Rattle.spec_next.specs.Forms.{next_text}

-- the strings that these events would hash in this world
abbrev pub foreseen_strings : Setup → World → List Event → List (List ℕ)
foreseen_strings s w es = flat_map (λ e. (pending s w e).hashes) es

-- the first two different messages with one digest, of those of the run and those that the candidates would hash in turn
abbrev pub foreseen_collision : Setup → Configuration → World → Option (List ℕ × List ℕ)
foreseen_collision s g w = collision s.hash w.hashed (foreseen_strings s w (all_candidates s g w))

abbrev pub unless_collided : Option (List ℕ × List ℕ) → List ℕ → Printed
unless_collided (Some pair) text = prints 8 (collided_line (pair.0) (pair.1))
unless_collided None text = prints 0 text

-- what comes next after these events, which halt nothing, in this form, for all or for one party
unfoldable pub next_printed : Form → Option (List ℕ) → Setup → List Event → Printed
next_printed form party s es = unless_collided (foreseen_collision s (last_configuration s es) (last_world s es)) (next_text form party s es)
