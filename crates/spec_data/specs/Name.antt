-- What a name holds in place: 1 to 32 bytes, and zeros after them.
use Rattle.std.specs.Prelude.{◌≡◌, ℕ, ◌-◌, ◌<◌, ◌≤◌, List, ◌++◌, length, take, drop, replicate}
use Rattle.std.proofs.Common.{ap, sym, ◌∙◌, arith}
use Rattle.std.proofs.lemmas.List.{length-take-le, take-append-drop}
use Rattle.spec_data.specs.declared.name.Name.TheInside.{Inside}

-- the bytes of a name, without what fills its room
abbrev pub name_bytes : Inside → List ℕ
name_bytes a = take a.len a.room

-- 1 to 32 bytes stand in the room, and zeros after them
pub record IsName (a : Inside) : Type 0 where
  pub some : 0 < a.len
  pub few : a.len ≤ 32
  pub whole : length a.room ≡ 32
  pub rest : drop a.len a.room ≡ replicate (32 - a.len) 0

-- the fields of the name with these bytes
abbrev pub name_of : List ℕ → Inside
name_of bytes = record { len = length bytes; room = bytes ++ replicate (32 - length bytes) 0 }

pub name_of-name_bytes : (a : Inside) → IsName a → name_of (name_bytes a) ≡ a
name_of-name_bytes a h =
    let n : length (take a.len a.room) ≡ a.len = length-take-le a.len a.room (omega (arith, h.few, h.whole)) in
    let e : take a.len a.room ++ replicate (32 - a.len) 0 ≡ a.room =
    ap (λ r. take a.len a.room ++ r) (sym h.rest) ∙ take-append-drop a.len a.room in
    ap (λ (k : ℕ). let i : Inside = record { len = k; room = take a.len a.room ++ replicate (32 - k) 0 } in i) n
    ∙ ap (λ (r : List ℕ). let i : Inside = record { len = a.len; room = r } in i) e
