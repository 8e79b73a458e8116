use Rattle.spec_chain.specs.Outstanding.{known}
use Rattle.theory_chain.proofs.can_opens.Goals as goal

pub returns : goal.returns
returns c = λ hash keys s text course tip given strings which l oracle are_keys applied short fit stands named none accepted.
    let all_fit = c.known_fit.ensures hash keys s text course tip strings stands fit in
    let finishes = ((c.can_exactly.ensures hash keys s given (known course.state strings) course.state tip which l named).0 none).finishes in
    record {
      by_input =
          c.inputs_opened.ensures hash keys s given (known course.state strings) which l oracle are_keys applied short all_fit named finishes
          accepted;
      of_keys = λ of_keys.
          c.finished_opens.ensures hash keys s given (known course.state strings) which l oracle are_keys of_keys applied short all_fit named
          finishes accepted;
    }
