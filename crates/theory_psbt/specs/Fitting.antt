-- Which partially signed transactions can be written: those whose numbers are within their widths, as all numbers of the program are.
use Rattle.std.specs.Prelude.{◌≡◌, ℕ, ◌<◌, ◌^◌, List, length, true, IfSome}
use Rattle.std.specs.List.{AllByRecursion}
use Rattle.spec_bitcoin.specs.Spelling.{IsBytes, IsString, IsOutput, IsTransaction}
use Rattle.spec_tool.specs.declared.psbt.PsbtInput.{PsbtInput}
use Rattle.spec_tool.specs.Psbt.{Psbt, Pairing, is_psbt}

-- a key of 33 bytes and a signature
pub record IsSignature (p : Pairing) : Type 0 where
  pub key : IsBytes (p.0)
  pub size : length (p.0) ≡ 33
  pub value : IsString (p.1)

-- the items of a witness
pub record IsStack (items : List (List ℕ)) : Type 0 where
  pub few : length items < 2 ^ 64
  pub each : AllByRecursion IsString items

-- what is known of an input
pub record IsKnown (input : PsbtInput) : Type 0 where
  pub spent : IfSome input.spent IsOutput
  pub partial : AllByRecursion IsSignature input.partial
  pub script : IfSome input.script IsString
  pub witness : IfSome input.witness IsStack

pub record IsFitting (p : Psbt) : Type 0 where
  pub is : is_psbt p ≡ true
  pub tx : IsTransaction p.tx
  pub inputs : AllByRecursion IsKnown p.inputs
