-- What every run keeps of the keys that have signed: each is of a label that was hashed.
use Rattle.std.specs.Prelude.{◌≡◌, ℕ, List, true, is_some}
use Rattle.spec_data.specs.Lists.{is_among}
use Rattle.spec_bitcoin.specs.declared.label.Label.{Label}
use Rattle.spec_bitcoin.specs.declared.label.Label.TheVariants as labels
use Rattle.spec_bitcoin.specs.Keys.{IsLabel, key_of, label_text, has_signed}
use Rattle.spec_run.specs.Setup.{Setup, is_honest}
use Rattle.spec_run.specs.World.{World}
use Rattle.spec_run.specs.Compiled.{compiled_instance}

-- an honest party's label of a branch is of a compiled contract
abbrev pub IsOwn : Setup → World → Label → Type 0
IsOwn s w (labels.Deposit a) = Unit {0}
IsOwn s w (labels.Branch k path a) = is_honest s a ≡ true → is_some (compiled_instance s w k) ≡ true

-- the label of a key that has signed
pub record HasLabel (s : Setup) (w : World) (key : List ℕ) : Type 0 where
  pub label : Label
  pub fine : IsLabel label
  pub heard : is_among (label_text label) w.hashed ≡ true
  pub is : key_of s.hash label ≡ key
  pub own : IsOwn s w label

-- every key that has signed has one
pub record KeptLabels (s : Setup) (w : World) : Type 0 where
  pub signed : (key digest : List ℕ) → has_signed w.book key digest ≡ true → HasLabel s w key
