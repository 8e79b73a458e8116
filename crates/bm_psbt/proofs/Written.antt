-- The map of an input is its records one part after another.
use Rattle.std.proofs.Common.{◌≡◌, ℕ, List, [], ◌∷◌, ◌++◌, refl, sym, ap, ◌∙◌, append_assoc}
use Rattle.std.proofs.lemmas.Grind.{flat_map-append}
use Rattle.spec_bitcoin.specs.Spelling.{output_bytes, witness_bytes}
use Rattle.spec_tool.specs.declared.psbt.PsbtInput.{PsbtInput}
use Rattle.spec_tool.specs.Psbt.{Pairing, pairing_bytes, map_bytes}
use Rattle.spec_tool.specs.PsbtBytes.{part, as_it_is, all_part, input_records}
use Rattle.bm_psbt.specs.Written.{records_bytes, signature_records}

joined : (xs ys : List Pairing) → records_bytes (xs ++ ys) ≡ records_bytes xs ++ records_bytes ys
joined xs ys = flat_map-append pairing_bytes xs ys

parts : (i : PsbtInput) → records_bytes (input_records i) ≡ records_bytes (part 1 output_bytes i.spent)
    ++ (records_bytes (signature_records i.partial)
    ++ (records_bytes (all_part i.all) ++ (records_bytes (part 5 as_it_is i.script) ++ records_bytes (part 8 witness_bytes i.witness))))
parts i =
    joined (part 1 output_bytes i.spent) _
    ∙ ap (λ (l : List ℕ). records_bytes (part 1 output_bytes i.spent) ++ l) (
    joined (signature_records i.partial) _
    ∙ ap (λ (l : List ℕ). records_bytes (signature_records i.partial) ++ l) (
    joined (all_part i.all) _
    ∙ ap (λ (l : List ℕ). records_bytes (all_part i.all) ++ l) (joined (part 5 as_it_is i.script) (part 8 witness_bytes i.witness))))

regroup : (o a b c d e : List ℕ) → ((((o ++ a) ++ b) ++ c) ++ d) ++ e ≡ o ++ (a ++ (b ++ (c ++ (d ++ e))))
regroup o a b c d e = simp append_assoc

pub records_written : (i : PsbtInput) (o o1 o2 o3 o4 o5 : List ℕ) → o1 ≡ o ++ records_bytes (part 1 output_bytes i.spent) → o2 ≡ o1
    ++ records_bytes (signature_records i.partial)
    → o3 ≡ o2 ++ records_bytes (all_part i.all) → o4 ≡ o3 ++ records_bytes (part 5 as_it_is i.script) → o5 ≡ o4
    ++ records_bytes (part 8 witness_bytes i.witness)
    → o5 ≡ o ++ records_bytes (input_records i)
records_written i o o1 o2 o3 o4 o5 e1 e2 e3 e4 e5 =
    e5 ∙ rw (e4, e3, e2, e1) (regroup o (records_bytes (part 1 output_bytes i.spent)) (records_bytes (signature_records i.partial))
    (records_bytes (all_part i.all)) (records_bytes (part 5 as_it_is i.script)) (records_bytes (part 8 witness_bytes i.witness)))
    ∙ ap (λ (l : List ℕ). o ++ l) (sym (parts i))

pub map_written : (records : List Pairing) (o o5 o6 : List ℕ) → o5 ≡ o ++ records_bytes records → o6 ≡ o5 ++ 0 ∷ [] → o6 ≡ o ++ map_bytes records
map_written records o o5 o6 e5 e6 = e6 ∙ ap (λ (l : List ℕ). l ++ 0 ∷ []) e5 ∙ append_assoc o (records_bytes records) (0 ∷ [])
