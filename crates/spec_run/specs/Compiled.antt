-- The contracts of a run that are compiled: those whose participants have all committed.
use Rattle.std.specs.Prelude.{ℕ, List, [], ◌∷◌, Bool, ◌&&◌, if◌then◌else◌, Option, Some, None}
use Rattle.spec_terms.specs.Advert.{Advert}
use Rattle.spec_terms.specs.Parties.{participants}
use Rattle.spec_bitcoin.specs.declared.tx.OutPoint.{OutPoint}
use Rattle.spec_compiler.specs.Instance.{Instance}
use Rattle.spec_run.specs.Setup.{Setup, contract_at}
use Rattle.spec_run.specs.World.{Output, World, output_at, bindings_at, is_advertised, have_promised, digests_at}

-- where an output lies, nowhere without one
abbrev pub outpoint_of : Option Output → OutPoint
outpoint_of None = record { txid = []; vout = 0 }
outpoint_of (Some o) = o.outpoint

-- where the deposits lie that these names are bound to
abbrev pub bound_outpoints : World → List (List ℕ × ℕ) → List (List ℕ × OutPoint)
bound_outpoints w [] = []
bound_outpoints w (b ∷ bs) = (b.0, outpoint_of (output_at w (b.1))) ∷ bound_outpoints w bs

-- what a contract is compiled with
abbrev pub instance_of : World → ℕ → Advert → Instance
instance_of w contract advert = record {
  contract = contract;
  advert = advert;
  bound = bound_outpoints w (bindings_at w.advertised contract);
  hashes = digests_at w.promises contract;
}

-- whether the contract is advertised, and all its participants have committed
abbrev pub is_complete : World → ℕ → Advert → Bool
is_complete w contract advert = is_advertised w contract && have_promised w contract (participants advert)

abbrev pub instance_if_complete : World → ℕ → Option Advert → Option Instance
instance_if_complete w contract None = None
instance_if_complete w contract (Some advert) = if is_complete w contract advert then Some (instance_of w contract advert) else None

-- what the contract of this number is compiled with, where it is compiled
abbrev pub compiled_instance : Setup → World → ℕ → Option Instance
compiled_instance s w contract = instance_if_complete w contract (contract_at s contract)
