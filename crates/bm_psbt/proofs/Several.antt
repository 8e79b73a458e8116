-- Maps that are read one behind another.
use Rattle.std.proofs.Common.{◌≡◌, ℕ, suc, ◌-◌, ◌+◌, ◌≤◌, ◌<◌, List, [], ◌∷◌, ◌++◌, Option, Some, None, refl, sym, ap, ◌∙◌, append_assoc, arith}
use Rattle.std.proofs.lemmas.List.{append-nil}
use Rattle.spec_text.specs.Words.{◌>>=◌}
use Rattle.spec_tool.specs.declared.psbt.PsbtInput.{PsbtInput}
use Rattle.spec_tool.specs.Psbt.{Pairing}
use Rattle.bm_psbt.specs.declared.fault.PsbtError.{PsbtError}
use Rattle.bm_psbt.specs.declared.fault.PsbtError.TheVariants.{Memory, BadPsbt}
use Rattle.bm_psbt.specs.Gathered.{ordered_at}
use Rattle.bm_psbt.specs.Giving.{Fails}
use Rattle.bm_psbt.specs.Ordered.{input_at, inputs_at, behind_maps}

-- ---- inputs

abbrev Inputs : Type 0
Inputs = Option (List PsbtInput × List ℕ)

-- what was read before, and what is still read
abbrev pub with_inputs : List PsbtInput → Inputs → Inputs
with_inputs prefix read = read >>= λ x. Some (prefix ++ x.0, x.1)

abbrev with_first : PsbtInput → Inputs → Inputs
with_first i read = read >>= λ others. Some (i ∷ others.0, others.1)

regroup : (prefix : List PsbtInput) (i : PsbtInput) (read : Inputs) → with_inputs prefix (with_first i read) ≡ with_inputs (prefix ++ i ∷ []) read
regroup prefix i (Some x) = ap (λ (l : List PsbtInput). Some (l, x.1)) (simp append_assoc)
regroup prefix i None = refl

pub inputs_more : (prefix : List PsbtInput) (count k : ℕ) (bytes after : List ℕ) (i : PsbtInput) (total : Inputs) → k < count → input_at bytes ≡ Some (i, after)
    → with_inputs prefix (inputs_at (count - k) bytes) ≡ total → with_inputs (prefix ++ i ∷ []) (inputs_at (count - (k + 1)) after) ≡ total
unfolding inputs_at
inputs_more prefix count k bytes after i total lt h so_far =
    let n : count - k ≡ suc (count - (k + 1)) = omega arith in
    let one : with_inputs prefix (inputs_at (count - k) bytes) ≡ with_inputs (prefix ++ i ∷ []) (inputs_at (count - (k + 1)) after) =
    rw (n, h) (regroup prefix i (inputs_at (count - (k + 1)) after)) in
    sym one ∙ so_far

pub inputs_stop : (e : PsbtError) (prefix : List PsbtInput) (count k : ℕ) (bytes : List ℕ) (total : Inputs) → k < count
    → Fails e (input_at bytes) → with_inputs prefix (inputs_at (count - k) bytes) ≡ total → Fails e total
unfolding inputs_at
inputs_stop Memory prefix count k bytes total lt h so_far = tt
inputs_stop BadPsbt prefix count k bytes total lt h so_far =
    let n : count - k ≡ suc (count - (k + 1)) = omega arith in
    let one : with_inputs prefix (inputs_at (count - k) bytes) ≡ None = rw (n, h) refl in
    sym so_far ∙ one

pub inputs_done : (prefix : List PsbtInput) (count k : ℕ) (bytes : List ℕ) (total : Inputs) → count ≤ k
    → with_inputs prefix (inputs_at (count - k) bytes) ≡ total → total ≡ Some (prefix, bytes)
unfolding inputs_at
inputs_done prefix count k bytes total le so_far =
    let n : count - k ≡ 0 = omega arith in
    let one : with_inputs prefix (inputs_at (count - k) bytes) ≡ Some (prefix, bytes) =
    rw n (ap (λ (l : List PsbtInput). Some (l, bytes)) (append-nil prefix)) in
    sym so_far ∙ one

-- ---- maps of which nothing is kept

pub behind_more : (count k : ℕ) (bytes after : List ℕ) (records : List Pairing) (total : Option (List ℕ)) → k < count → ordered_at bytes
    ≡ Some (records, after) → behind_maps (count - k) bytes ≡ total → behind_maps (count - (k + 1)) after ≡ total
unfolding behind_maps
behind_more count k bytes after records total lt h so_far =
    let n : count - k ≡ suc (count - (k + 1)) = omega arith in
    let one : behind_maps (count - k) bytes ≡ behind_maps (count - (k + 1)) after = rw (n, h) refl in
    sym one ∙ so_far

pub behind_stop : (e : PsbtError) (count k : ℕ) (bytes : List ℕ) (total : Option (List ℕ)) → k < count → Fails e (ordered_at bytes)
    → behind_maps (count - k) bytes ≡ total → Fails e total
unfolding behind_maps
behind_stop Memory count k bytes total lt h so_far = tt
behind_stop BadPsbt count k bytes total lt h so_far =
    let n : count - k ≡ suc (count - (k + 1)) = omega arith in
    let one : behind_maps (count - k) bytes ≡ None = rw (n, h) refl in
    sym so_far ∙ one

pub behind_done : (count k : ℕ) (bytes : List ℕ) (total : Option (List ℕ)) → count ≤ k → behind_maps (count - k) bytes ≡ total → total ≡ Some bytes
unfolding behind_maps
behind_done count k bytes total le so_far =
    let n : count - k ≡ 0 = omega arith in
    let one : behind_maps (count - k) bytes ≡ Some bytes = rw n refl in
    sym so_far ∙ one
