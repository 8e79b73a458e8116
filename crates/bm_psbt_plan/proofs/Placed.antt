-- A signature is put in its place.
use Rattle.std.proofs.Common.{◌≡◌, suc, List, [], ◌∷◌, Bool, true, false, refl, ap}
use Rattle.std.specs.Prelude.{insert, if◌then◌else◌}
use Rattle.spec_tool.specs.Psbt.{Pairing, is_before, insert_signature}
use Rattle.bm_psbt_plan.specs.Parts.{place_of}

insert_by : (t : Bool) (r s : Pairing) (ss : List Pairing) → insert ss (place_of (r.0) ss) r ≡ insert_signature r ss
    → insert (s ∷ ss) (if t then 0 else suc (place_of (r.0) ss)) r ≡ (if t then r ∷ (s ∷ ss) else s ∷ insert_signature r ss)
insert_by true r s ss later = refl
insert_by false r s ss later = ap (λ (rest : List Pairing). s ∷ rest) later

pub insert_at : (r : Pairing) (ss : List Pairing) → insert ss (place_of (r.0) ss) r ≡ insert_signature r ss
insert_at r [] = refl
insert_at r (s ∷ ss) = insert_by (is_before (r.0) (s.0)) r s ss (insert_at r ss)
