-- What comes next, in one of its two forms.
use Rattle.std.specs.Prelude.{ℕ, List, Option}
use Rattle.spec_json.specs.Values.{json_line}
use Rattle.spec_calculus.specs.Configuration.{Configuration}
use Rattle.spec_run.specs.declared.event.Event.{Event}
use Rattle.spec_run.specs.Setup.{Setup}
use Rattle.spec_run.specs.Translation.{last_world, last_configuration}
use Rattle.spec_next.specs.declared.form.Form.{Form}
use Rattle.spec_next.specs.declared.form.Form.TheVariants as forms
use Rattle.spec_next.specs.declared.outlook.Outlook.{Outlook}
use Rattle.spec_next.specs.Prospects.{outlooks}
use Rattle.spec_next.specs.OutlookText.{outlooks_text}
use Rattle.spec_next.specs.JsonForm.{outlooks_value}

-- lines, or one line of JSON
abbrev pub told_text : Form → Option (List ℕ) → Configuration → List Outlook → List ℕ
told_text forms.Lines party g os = outlooks_text party g os
told_text forms.Json party g os = json_line (outlooks_value party g os)

-- what comes next after these events, for all or for one party
unfoldable pub next_text : Form → Option (List ℕ) → Setup → List Event → List ℕ
next_text form party s es =
    told_text form party (last_configuration s es) (outlooks s (last_configuration s es) (last_world s es))
