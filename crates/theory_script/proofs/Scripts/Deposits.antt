-- A deposit's script is the script of one branch that reveals nothing, with one key.
use Rattle.std.proofs.Common.{◌≡◌, ℕ, List, [], ◌∷◌, ◌++◌, length, Bool, true, refl, sym, ap, ◌∙◌, arith}
use Rattle.std.specs.Prelude.{reverse}
use Rattle.std.specs.List.{list_all}
use Rattle.std.proofs.lemmas.Bool.{and_from}
use Rattle.spec_bitcoin.specs.Effects.{Item}
use Rattle.spec_bitcoin.specs.Meaning.{script_meaning}
use Rattle.spec_terms.specs.Term.{always}
use Rattle.spec_bitcoin.specs.Keys.{deposit_script}
use Rattle.spec_compiler.specs.Scripts.{Demands, output_ops}
use Rattle.spec_bitcoin.specs.Scripts.{encode}
use Rattle.spec_compiler.specs.Statements.{is_short, has_size, are_valid}
use Rattle.theory_script.proofs.Scripts.Demanded.{IsChecked}
use Rattle.theory_script.proofs.Scripts.Readable.{valid_is}
use Rattle.theory_script.proofs.Sizes.ScriptSizes.{short_push}
use Rattle.theory_script.proofs.ScriptTheorem.{meaning_is}

abbrev one_key : Item → Demands
one_key key = record { names = []; digests = []; test = always; keys = key ∷ [] }

deposit_bytes : (key : Item) → length key ≡ 33 → 33 ∷ (key ++ 0xac ∷ []) ≡ encode (output_ops (one_key key ∷ []))
deposit_bytes key h = sym (ap (λ (bytes : List ℕ). bytes ++ 0xac ∷ []) (short_push key (omega (arith, h)) ∙ ap (λ n. n ∷ key) h))

deposit_checked : (key : Item) → length key ≡ 33 → IsChecked (one_key key ∷ [])
deposit_checked key h =
    let size : has_size 33 key ≡ true = grind (arith, h) in
    record {
      some_branch = omega arith;
      well = (
        record {
          same_length = refl;
          known = refl;
          bounded = refl;
          some_key = omega arith;
          digest_sizes = refl;
          key_sizes = and_from
              (has_size 33 key) true size refl;
          no_test = λ e. refl;
        },
        tt,
      );
      bytes = omega arith;
      operations = omega arith;
    }

-- it is true exactly on one signature that is valid
pub deposit_meaning : (hash : Item → Item) (valid : Item → Item → Bool) (key : Item) (stack : List Item) → length key ≡ 33
    → list_all is_short stack ≡ true → script_meaning hash valid (deposit_script key) stack ≡ are_valid valid (reverse stack) (key ∷ [])
deposit_meaning hash valid key stack h short =
    ap (λ (bytes : List ℕ). script_meaning hash valid bytes stack) (deposit_bytes key h)
    ∙ meaning_is hash valid (one_key key ∷ []) stack (deposit_checked key h) short
    ∙ valid_is valid (key ∷ []) (reverse stack)
