-- What is claimed of the text of what may come next: it is read as all that it tells.
use Rattle.std.specs.Prelude.{◌≡◌, ℕ, List, Option, Some}
use Rattle.spec_calculus.specs.Configuration.{Configuration}
use Rattle.spec_run.specs.declared.event.Event.{Event}
use Rattle.spec_run.specs.Setup.{Setup}
use Rattle.spec_run.specs.Translation.{last_configuration, last_world}
use Rattle.spec_next.specs.declared.form.Form.{Form}
use Rattle.spec_next.specs.declared.form.Form.TheVariants as forms
use Rattle.spec_next.specs.declared.outlook.Outlook.{Outlook}
use Rattle.spec_next.specs.Forms.{next_text}
use Rattle.spec_next.specs.OutlookText.{outlooks_text}
use Rattle.spec_next.specs.Prospects.{outlooks}
use Rattle.theory_next_text.specs.Lines.{NextLine, next_of}
use Rattle.theory_next_text.specs.Sayable.{IsSayable}
use Rattle.theory_next_text.specs.Tells.{TellsAll}

-- a text is read as lines that tell this, of all or of one party
pub record IsReadAs (parties : List (List ℕ)) (party : Option (List ℕ)) (g : Configuration) (os : List Outlook) (text : List ℕ) : Type 0 where
  pub lines : List NextLine
  pub read : next_of parties text ≡ Some lines
  pub tells : TellsAll party g os lines

-- what may be said is read from the text that is printed of it, by those who are declared
abbrev pub OutlooksReadBack : Type 0
OutlooksReadBack = (parties : List (List ℕ)) (party : Option (List ℕ)) (g : Configuration) (os : List Outlook) → IsSayable parties g os
    → IsReadAs parties party g os (outlooks_text party g os)

-- the same lines tell both
pub record TellTheSame (party : Option (List ℕ)) (g h : Configuration) (os others : List Outlook) : Type 0 where
  pub lines : List NextLine
  pub one : TellsAll party g os lines
  pub other : TellsAll party h others lines

-- so two of which the same is printed tell the same
abbrev pub SameOutlooksTellTheSame : Type 0
SameOutlooksTellTheSame = (parties : List (List ℕ)) (party : Option (List ℕ)) (g h : Configuration) (os others : List Outlook)
    → IsSayable parties g os → IsSayable parties h others → outlooks_text party g os ≡ outlooks_text party h others
    → TellTheSame party g h os others

-- ---- runs

-- what is told in lines after a run is read so by those whom it declares
abbrev pub NextIsReadBack : Type 0
NextIsReadBack = (form : Form) (party : Option (List ℕ)) (s : Setup) (es : List Event) (text : List ℕ)
    → text ≡ next_text form party s es → form ≡ forms.Lines
    → IsSayable s.header.parties (last_configuration s es) (outlooks s (last_configuration s es) (last_world s es))
    → IsReadAs s.header.parties party (last_configuration s es) (outlooks s (last_configuration s es) (last_world s es)) text
