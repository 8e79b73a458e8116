-- Keys that are found by the texts of their labels, and output scripts of wallets that are found by names.
use Rattle.std.specs.Prelude.{ℕ, List, [], ◌∷◌, if◌then◌else◌}
use Rattle.std.specs.Str.{bytes_eq}
use Rattle.spec_bitcoin.specs.declared.label.Label.{Label}
use Rattle.spec_bitcoin.specs.Keys.{label_text}
use Rattle.spec_compiler.specs.Keyed.OwnScripts.{OwnScripts}
use Rattle.spec_compiler.specs.Keyed.Keys.{Keys, given}
use Rattle.spec_deal.specs.declared.deal.Deal.{Deal}
use Rattle.spec_deal.specs.Setting.{no_key, key_at, own_scripts}
use Rattle.deal_compile.specs.declared.keys.LabelKey.{LabelKey}
use Rattle.deal_compile.specs.declared.keys.OwnScript.{OwnScript}

-- ---- what is held of a deal

-- the keys of labels, and the scripts of wallets
pub record Held : Type 0 where
  pub keys : List (Label × List ℕ)
  pub own : OwnScripts

abbrev pub keys_of : Held → Keys
keys_of held = given (key_at held.keys) held.own

abbrev pub held_of : Deal → Held
held_of deal = record { keys = deal.keys; own = own_scripts deal }

-- ---- how it is found

abbrev pub pair_of : LabelKey → Label × List ℕ
pair_of e = (e.label, e.key)

abbrev pub script_pair : OwnScript → List ℕ × List ℕ
script_pair e = (e.name, e.script)

-- the first key of the label with this text
abbrev pub key_under : List (Label × List ℕ) → List ℕ → List ℕ
key_under [] text = no_key
key_under (p ∷ ps) text = if bytes_eq (label_text (p.0)) text then p.1 else key_under ps text
