-- Whose an output is, by the script that it pays to.
use Rattle.std.specs.Prelude.{ℕ, List, [], ◌∷◌, Bool, false, ◌&&◌, ◌==◌, if◌then◌else◌, Option, Some, None}
use Rattle.std.specs.Str.{bytes_eq}
use Rattle.spec_terms.specs.Precondition.{Holding}
use Rattle.spec_bitcoin.specs.Keys.{pay_to}
use Rattle.spec_calculus.specs.declared.step.Owner.{Owner}
use Rattle.spec_calculus.specs.declared.step.Owner.TheVariants.{Party, Outside}
use Rattle.spec_calculus.specs.Same.{owner_eq}
use Rattle.spec_compiler.specs.Transactions.{party_script}
use Rattle.spec_run.specs.Setup.{Setup}
use Rattle.spec_run.specs.World.{Output, is_deposit}

-- what an output pays to so that the party can spend it
abbrev pub paid_to : Setup → List ℕ → List ℕ
paid_to s party = pay_to (s.hash (party_script s.hash party))

-- the first of these parties that the script pays to
abbrev pub owner_among : Setup → List (List ℕ) → List ℕ → Owner
owner_among s [] script = Outside
owner_among s (party ∷ rest) script = if bytes_eq (paid_to s party) script then Party party else owner_among s rest script

-- the declared party that the script pays to, else someone outside
abbrev pub owner_by : Setup → List ℕ → Owner
owner_by s script = owner_among s s.header.parties script

-- the owner of a live deposit
abbrev pub owner_of : Setup → Option Output → Owner
owner_of s None = Outside
owner_of s (Some o) = if is_deposit (Some o) then owner_by s o.script else Outside

-- the value of a live deposit
abbrev pub deposit_value : Option Output → ℕ
deposit_value None = 0
deposit_value (Some o) = if is_deposit (Some o) then o.value else 0

-- whether it is a live deposit with the owner and the value that a precondition needs
abbrev pub suits : Setup → Option Holding → Option Output → Bool
suits s None output = false
suits s (Some required) output =
    is_deposit output && owner_eq (owner_of s output) (Party required.owner) && (deposit_value output == required.value)
