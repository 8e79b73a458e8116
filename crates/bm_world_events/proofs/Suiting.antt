-- Whose deposits are, by the accounts of the parties and by the parties.
use Rattle.std.proofs.Common.{◌≡◌, ℕ, List, [], ◌∷◌, map, Bool, true, false, Option, Some, None, refl, sym, ap, ◌∙◌, subst}
use Rattle.std.specs.Prelude.{◌&&◌, ◌==◌, if◌then◌else◌, slice_get}
use Rattle.std.specs.Str.{bytes_eq}
use Rattle.spec_data.specs.Lists.{look_up}
use Rattle.spec_terms.specs.Precondition.{Holding, deposits}
use Rattle.spec_terms.specs.declared.pre.Pre.{Pre}
use Rattle.spec_calculus.specs.declared.step.Owner.{Owner}
use Rattle.spec_calculus.specs.declared.step.Owner.TheVariants.{Party, Outside}
use Rattle.spec_calculus.specs.Same.{owner_eq}
use Rattle.spec_run.specs.Setup.{Setup, pre_of}
use Rattle.spec_run.specs.World.{Output, World, is_deposit}
use Rattle.spec_run.specs.Owners.{paid_to, owner_among, owner_by, owner_of, deposit_value, suits}
use Rattle.spec_run.specs.Advertising.{unsuited}
use Rattle.bm_world_board.specs.declared.accounts.Account.{Account}
use Rattle.bm_world_board.specs.Accounts.{account_of, owner_in}
use Rattle.bm_world_events.specs.Advertising.{suits_by, suits_if, unsuited_by}

-- the owner of a script
pub owner_is : (s : Setup) (parties : List (List ℕ)) (script : List ℕ) → owner_in (map (account_of s.hash) parties) script ≡ owner_among s parties script
owner_is s [] script = refl
owner_is s (p ∷ ps) script = ap (λ o. if bytes_eq (paid_to s p) script then Party p else o) (owner_is s ps script)

module _ (s : Setup) (accounts : List Account) (same : accounts ≡ map (account_of s.hash) s.header.parties) where
  owner_there : (script : List ℕ) → owner_in accounts script ≡ owner_by s script
  owner_there script = ap (λ accs. owner_in accs script) same ∙ owner_is s s.header.parties script

  suits_is : (required : Option Holding) (output : Option Output) → suits_if accounts required output ≡ suits s required output
  suits_is None output = refl
  suits_is (Some required) None = refl
  suits_is (Some required) (Some o) = by_deposit (is_deposit (Some o))
    where
      by_deposit : (b : Bool) → (b && owner_eq (owner_in accounts o.script) (Party required.owner) && (o.value == required.value))
          ≡ (b && owner_eq (if b then owner_by s o.script else Outside) (Party required.owner) && ((if b then o.value else 0) == required.value))
      by_deposit true = ap (λ owner. owner_eq owner (Party required.owner) && (o.value == required.value)) (owner_there o.script)
      by_deposit false = refl

  pub unsuited_is : (w : World) (contract : ℕ) (entries : List Pre) (bindings : List (List ℕ × ℕ)) → entries ≡ pre_of (slice_get s.contracts contract)
      → unsuited_by accounts w.outputs entries bindings ≡ unsuited s w contract bindings
  unsuited_is w contract entries [] e = refl
  unsuited_is w contract entries (b ∷ bs) e =
      let one : suits_if accounts (look_up (b.0) (deposits entries)) (slice_get w.outputs (b.1)) ≡ suits s (look_up (b.0) (deposits (pre_of (slice_get s.contracts contract)))) (slice_get w.outputs (b.1)) =
      suits_is (look_up (b.0) (deposits entries)) (slice_get w.outputs (b.1)) ∙ ap (λ es. suits s (look_up (b.0) (deposits es)) (slice_get w.outputs (b.1))) e in
      λ i. if one i then unsuited_is w contract entries bs e i else Some (b.0)
