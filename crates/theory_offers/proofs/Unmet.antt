-- A contract of which no endorsement is missing is endorsed.
use Rattle.std.proofs.Common.{◌≡◌, true, None, sym, ap, ◌∙◌}
use Rattle.std.specs.Option.{is_none}
use Rattle.spec_compiler.specs.Instance.{Instance}
use Rattle.spec_compiler.specs.Endorsements.{is_endorsed, missing_endorsement}
use Rattle.spec_run.specs.Setup.{Setup}
use Rattle.spec_run.specs.World.{World}
use Rattle.spec_run.specs.Signing.{needs_at}
use Rattle.theory_script.proofs.Missing.{none_unmet}

-- what an honest party sees before it signs the initial transaction
pub endorsed_from : (s : Setup) (w : World) (st : Instance) → missing_endorsement s.hash st w.book ≡ None → is_endorsed s.hash st w.book ≡ true
endorsed_from s w st h = sym (none_unmet w.book (needs_at s st)) ∙ ap is_none h
