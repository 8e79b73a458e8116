-- The signatures that were given, and those that are missing; whether all endorsements are there.
use Rattle.std.specs.Prelude.{ℕ, List, filter, Bool, not, ◌&&◌, ◌||◌, ◌==◌, Option, is_some}
use Rattle.std.specs.List.{find, list_any, list_all}
use Rattle.std.specs.Option.{option_map}
use Rattle.std.specs.Str.{bytes_eq}
use Rattle.spec_compiler.specs.Keyed.Keys.{Keys}
use Rattle.spec_compiler.specs.Keyed.Instance.{Instance}
use Rattle.spec_deal.specs.declared.signed.Signed.{Signed}
use Rattle.spec_deal.specs.Slots.{Slot, slots, slot_bytes, slot_key, is_endorsement}

-- whether it is of the same bytes and input, and by the same key
abbrev pub is_for : (List ℕ → List ℕ) → Keys → Slot → Signed → Bool
is_for hash keys slot given =
    bytes_eq given.tx (slot_bytes slot) && (given.input == slot.input && bytes_eq given.key (slot_key hash keys slot))

-- whether the signature is there
abbrev pub has : (List ℕ → List ℕ) → Keys → List Signed → Slot → Bool
has hash keys given slot = list_any (is_for hash keys slot) given

-- the signature, where it is there
abbrev pub signature_for : (List ℕ → List ℕ) → Keys → List Signed → Slot → Option (List ℕ)
signature_for hash keys given slot = option_map (λ (g : Signed). g.signature) (find (is_for hash keys slot) given)

-- the items of a wallet's witness, where it is there
abbrev pub witness_for : (List ℕ → List ℕ) → Keys → List Signed → Slot → Option (List (List ℕ))
witness_for hash keys given slot = option_map (λ (g : Signed). g.witness) (find (is_for hash keys slot) given)

-- whether it is a wallet's and there, so that it isn't verified whole
abbrev pub is_unverified : (List ℕ → List ℕ) → Keys → List Signed → Slot → Bool
is_unverified hash keys given slot = is_some slot.wallet && has hash keys given slot

-- whether it is one that has to be there before anyone signs the initial transaction
abbrev pub is_unverified_endorsement : (List ℕ → List ℕ) → Keys → List Signed → Slot → Bool
is_unverified_endorsement hash keys given slot = is_endorsement slot.verb && is_unverified hash keys given slot

-- ---- of a contract

-- the signatures that aren't there, in order
abbrev pub missing : (List ℕ → List ℕ) → Keys → Instance → List Signed → List Slot
missing hash keys s given = filter (λ slot. not (has hash keys given slot)) (slots hash keys s)

-- those that aren't there and, among them, the endorsements that aren't verified, in order
abbrev pub unsettled : (List ℕ → List ℕ) → Keys → Instance → List Signed → List Slot
unsettled hash keys s given =
    filter (λ slot. not (has hash keys given slot) || is_unverified_endorsement hash keys given slot) (slots hash keys s)

-- whether some endorsement that is there isn't verified
abbrev pub has_unverified : (List ℕ → List ℕ) → Keys → Instance → List Signed → Bool
has_unverified hash keys s given = list_any (is_unverified_endorsement hash keys given) (slots hash keys s)

-- those that are there, in order
abbrev pub held : (List ℕ → List ℕ) → Keys → Instance → List Signed → List Slot
held hash keys s given = filter (has hash keys given) (slots hash keys s)

-- those that have to be there before anyone signs the initial transaction
abbrev pub endorsements : (List ℕ → List ℕ) → Keys → Instance → List Slot
endorsements hash keys s = filter (λ slot. is_endorsement slot.verb) (slots hash keys s)

-- whether all of these are there, so that the initial transaction may be signed
abbrev pub may_start : (List ℕ → List ℕ) → Keys → Instance → List Signed → Bool
may_start hash keys s given = list_all (has hash keys given) (endorsements hash keys s)

-- the first of them that isn't there
abbrev pub first_unendorsed : (List ℕ → List ℕ) → Keys → Instance → List Signed → Option Slot
first_unendorsed hash keys s given = find (λ slot. not (has hash keys given slot)) (endorsements hash keys s)
