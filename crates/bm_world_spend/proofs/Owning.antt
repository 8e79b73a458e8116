-- Whose deposits are, by the accounts of the parties and by the parties; and why a gift is refused, by what its tests give.
use Rattle.std.proofs.Common.{◌≡◌, ℕ, List, [], ◌∷◌, map, Bool, not, Option, Some, None, refl, ap, ◌∙◌}
use Rattle.std.specs.Prelude.{if◌then◌else◌, is_some, slice_get}
use Rattle.std.specs.Str.{bytes_eq}
use Rattle.spec_data.specs.Lists.{first_reason}
use Rattle.spec_bitcoin.specs.declared.verdict.Refusal.TheVariants.{InputRepeated, ValueLimit, InsufficientIn}
use Rattle.spec_bitcoin.specs.Verdict.{number_or_zero}
use Rattle.spec_calculus.specs.declared.step.Owner.TheVariants.{Party, Outside}
use Rattle.spec_calculus.specs.Same.{owner_eq}
use Rattle.spec_run.specs.declared.outcome.Reason.{Reason}
use Rattle.spec_run.specs.declared.outcome.Reason.TheVariants as reason
use Rattle.spec_run.specs.Setup.{Setup}
use Rattle.spec_run.specs.World.{Output, World, is_deposit}
use Rattle.spec_run.specs.Owners.{paid_to, owner_among, owner_of}
use Rattle.spec_run.specs.Giving.{first_foreign}
use Rattle.bm_world_board.specs.declared.accounts.Account.{Account}
use Rattle.bm_world_board.specs.Accounts.{account_of, owner_in}
use Rattle.bm_world_spend.specs.Gifts as by

-- the owner of a script
owner_is : (s : Setup) (parties : List (List ℕ)) (script : List ℕ) → owner_in (map (account_of s.hash) parties) script ≡ owner_among s parties script
owner_is s [] script = refl
owner_is s (p ∷ ps) script = ap (λ o. if bytes_eq (paid_to s p) script then Party p else o) (owner_is s ps script)

module _ (s : Setup) (accounts : List Account) (same : accounts ≡ map (account_of s.hash) s.header.parties) where
  owner_there : (output : Option Output) → by.owner_by accounts output ≡ owner_of s output
  owner_there None = refl
  owner_there (Some o) =
      ap (λ owner. if is_deposit (Some o) then owner else Outside) (ap (λ accs. owner_in accs o.script) same ∙ owner_is s s.header.parties o.script)

  -- the first deposit of another owner
  pub foreign_is : (w : World) (party : List ℕ) (ns : List ℕ) → by.first_foreign_by accounts w.outputs party ns ≡ first_foreign s w party ns
  foreign_is w party [] = refl
  foreign_is w party (n ∷ ns) = λ i. if owner_eq (owner_there (slice_get w.outputs n) i) (Party party) then foreign_is w party ns i else Some n

-- the refusal of a gift by the first dead input, the first foreign one, whether the inputs differ, and whether the outputs are worth too much
abbrev pub refused_by : Option ℕ → Option ℕ → Bool → Bool → Bool → Option Reason
refused_by dead foreign distinct above short = first_reason (
    (is_some dead, reason.NotLiveOutput (number_or_zero dead))
    ∷ (is_some foreign, reason.NotOwnerOutput (number_or_zero foreign))
    ∷ (not distinct, reason.Ledger InputRepeated)
    ∷ (above, reason.Ledger ValueLimit)
    ∷ (short, reason.Ledger InsufficientIn)
    ∷ []
    )
