-- The text that is printed of a run is read as what it shows.
use Rattle.std.proofs.Common.{ℕ, List, sym, ap, ◌∙◌}
use Rattle.spec_text.specs.Lines.{lines_of}
use Rattle.spec_text.specs.Words.{◌>>=◌, all_of}
use Rattle.theory_text.proofs.Options.{some_is}
use Rattle.theory_play_text.specs.Lines.{said_by}
use Rattle.theory_play_text.specs.Printable.{report_lines}
use Rattle.theory_play_text.specs.Report.{shown, report_in, report_of}
use Rattle.theory_play_text.specs.Statements.{ReportsReadBack, SameTextsShowTheSame}
use Rattle.theory_play_text.proofs.Gathered.{gathered}
use Rattle.theory_play_text.proofs.LinesRead.{text_back}
use Rattle.theory_play_text.proofs.Texts.{report_lined, text_lined}

pub reports_back : ReportsReadBack
unfolding report_of
reports_back parties deposits entries end h =
    let lines = report_lines deposits entries end in
    ap (λ (t : List ℕ). all_of (said_by parties) (lines_of t) >>= report_in) (report_lined deposits entries end ∙ text_lined lines)
    ∙ (ap (λ o. o >>= report_in) (text_back parties lines h) ∙ gathered deposits entries end)

pub same_texts : SameTextsShowTheSame
same_texts parties deposits others entries later end last h k e =
    some_is (shown deposits entries end) (shown others later last)
    (sym (reports_back parties deposits entries end h) ∙ (ap (report_of parties) e ∙ reports_back parties others later last k))
