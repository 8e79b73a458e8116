-- What is printed for whoever is about to sign: whether the initial transaction may be signed, and which transactions to endorse.
use Rattle.std.specs.Prelude.{ℕ, List, ◌++◌, filter, Bool, not, ◌&&◌}
use Rattle.std.specs.List.{flat_map, list_any}
use Rattle.std.specs.Str.{bytes_eq}
use Rattle.spec_terms.specs.Advert.{Advert}
use Rattle.spec_compiler.specs.Keyed.Keys.{Keys}
use Rattle.spec_compiler.specs.Keyed.Instance.{Instance}
use Rattle.spec_tool.specs.Keyed.Listed.{Listed, listed}
use Rattle.spec_tool.specs.PsbtText.{psbt_line}
use Rattle.spec_deal.specs.declared.entry.Shown.{Shown}
use Rattle.spec_deal.specs.declared.signed.Signed.{Signed}
use Rattle.spec_deal.specs.DealText.{missing_line, gate_line, unsigned_psbt}
use Rattle.spec_deal.specs.Finished.{label_party}
use Rattle.spec_deal.specs.Given.{is_unverified_endorsement, has_unverified, may_start, first_unendorsed}
use Rattle.spec_deal.specs.Slots.{Slot, slots, listed_slots, is_endorsement}
use Rattle.spec_deal.specs.WarnText.{warn_text}

-- ---- ready

-- whether all endorsements are there, and all of them are verified
abbrev pub is_ready : (List ℕ → List ℕ) → Keys → Instance → List Signed → Bool
is_ready hash keys s given = may_start hash keys s given && not (has_unverified hash keys s given)

-- the endorsements that aren't verified
abbrev pub unverified_text : (List ℕ → List ℕ) → Keys → Instance → List Signed → List ℕ
unverified_text hash keys s given =
    flat_map (missing_line hash keys given) (filter (is_unverified_endorsement hash keys given) (slots hash keys s))

-- the warnings, and then what is to be known of the endorsements
abbrev pub ready_text : (List ℕ → List ℕ) → Keys → Instance → List Signed → List Shown → List ℕ
ready_text hash keys s given strings =
    warn_text hash keys s strings
    ++ (unverified_text hash keys s given ++ gate_line (has_unverified hash keys s given) (first_unendorsed hash keys s given))

-- ---- endorse

-- whether it is an endorsement by this party
abbrev pub is_endorsement_by : List ℕ → Slot → Bool
is_endorsement_by party slot = is_endorsement slot.verb && bytes_eq (label_party slot.label) party

-- whether a transaction needs one
abbrev pub is_endorsed_by : Keys → Advert → List ℕ → Listed → Bool
is_endorsed_by keys advert party l = list_any (is_endorsement_by party) (listed_slots keys advert l)

-- the transactions that a party endorses, a line each; the initial one isn't among them
abbrev pub endorse_text : (List ℕ → List ℕ) → Keys → Instance → List ℕ → List ℕ
endorse_text hash keys s party =
    flat_map (λ l. psbt_line (unsigned_psbt hash keys s.advert l)) (filter (is_endorsed_by keys s.advert party) (listed hash keys s))
