-- A key is found by its label where it is found by the label's text; a script is found by its name.
use Rattle.std.proofs.Common.{◌≡◌, ℕ, List, [], ◌∷◌, map, Bool, true, false, Option, Some, None, refl, ap}
use Rattle.std.specs.Prelude.{if◌then◌else◌, is_some}
use Rattle.std.specs.List.{find}
use Rattle.std.specs.Option.{option_map}
use Rattle.std.specs.Str.{bytes_eq}
use Rattle.spec_data.specs.Lists.{look_up}
use Rattle.spec_bitcoin.specs.declared.label.Label.{Label}
use Rattle.spec_bitcoin.specs.Keys.{label_text}
use Rattle.spec_deal.specs.Setting.{key_at, no_key}
use Rattle.deal_compile.specs.declared.keys.LabelKey.{LabelKey}
use Rattle.deal_compile.specs.declared.keys.OwnScript.{OwnScript}
use Rattle.deal_compile.specs.Keyed.{pair_of, script_pair, key_under}

pub key_of_label : (ps : List (Label × List ℕ)) (label : Label) → key_under ps (label_text label) ≡ key_at ps label
key_of_label [] label = refl
key_of_label (p ∷ ps) label = ap (λ rest. if bytes_eq (label_text (p.0)) (label_text label) then p.1 else rest) (key_of_label ps label)

-- what was found, or nothing
abbrev pub key_or : Option LabelKey → List ℕ
key_or None = no_key
key_or (Some e) = e.key

by_test : (t : Bool) (e : LabelKey) (rest : Option LabelKey) (other : List ℕ) → key_or rest ≡ other
    → key_or (if t then Some e else rest) ≡ (if t then e.key else other)
by_test true e rest other h = refl
by_test false e rest other h = h

pub found_under : (es : List LabelKey) (text : List ℕ) → key_or (find (λ e. bytes_eq (label_text e.label) text) es) ≡ key_under (map pair_of es) text
found_under [] text = refl
found_under (e ∷ es) text =
    by_test (bytes_eq (label_text e.label) text) e (find (λ e. bytes_eq (label_text e.label) text) es) (key_under (map pair_of es) text) (found_under es text)

script_by_test : (t : Bool) (e : OwnScript) (rest : Option OwnScript) (other : Option (List ℕ)) → option_map (λ (e : OwnScript). e.script) rest ≡ other
    → option_map (λ (e : OwnScript). e.script) (if t then Some e else rest) ≡ (if t then Some e.script else other)
script_by_test true e rest other h = refl
script_by_test false e rest other h = h

pub found_script : (es : List OwnScript) (name : List ℕ)
    → option_map (λ (e : OwnScript). e.script) (find (λ (e : OwnScript). bytes_eq e.name name) es) ≡ look_up name (map script_pair es)
found_script [] name = refl
found_script (e ∷ es) name =
    script_by_test (bytes_eq e.name name) e (find (λ (e : OwnScript). bytes_eq e.name name) es) (look_up name (map script_pair es)) (found_script es name)

pub some_mapped : {X Y : Type 0} (f : X → Y) (o : Option X) → is_some o ≡ is_some (option_map f o)
some_mapped f None = refl
some_mapped f (Some x) = refl
