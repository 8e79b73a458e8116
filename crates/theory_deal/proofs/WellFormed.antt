-- A contract that is taken is well-formed.
use Rattle.std.proofs.Common.{◌≡◌, ℕ, Bool, true, false, List, length, Option, Some, None, Result, Ok, Err, refl, subst}
use Rattle.std.specs.Prelude.{if◌then◌else◌, nat_lt}
use Rattle.spec_terms.specs.Advert.{Advert}
use Rattle.spec_terms.specs.Faults.{first_fault, first_limit, IsWellFormed}
use Rattle.spec_terms.specs.declared.limit.Limit.{Limit}
use Rattle.spec_terms.specs.declared.place.Place.{Place}
use Rattle.spec_text.specs.declared.stop.TextFault.{TextFault}
use Rattle.spec_text.specs.Limits.{most_text_bytes}
use Rattle.spec_text.specs.ReadAdvert.{read_answer}
use Rattle.spec_text.specs.Refusals.{Judged, judged_limit, judged_fault, judged_answer, contract_of}
use Rattle.theory_text.proofs.Within.Adverts.{read_is_readable}

-- what is taken was read, and has neither fault nor limit
abbrev IsSound : Result Advert TextFault → Judged Advert → Type 0
IsSound read (Ok a) = (read ≡ Ok a) × (first_fault a ≡ None) × (first_limit a ≡ None)
IsSound read (Err why) = Unit {0}

by_limit : (a : Advert) (q : Option (Limit × Place)) → first_fault a ≡ None → first_limit a ≡ q → IsSound (Ok a) (judged_limit a q)
by_limit a None f l = (refl, f, l)
by_limit a (Some p) f l = tt

by_fault : (a : Advert) (o : Option (ℕ × Place)) → first_fault a ≡ o → IsSound (Ok a) (judged_fault a o)
by_fault a None f = by_limit a (first_limit a) f refl
by_fault a (Some p) f = tt

by_reading : (read : Result Advert TextFault) → IsSound read (judged_answer read)
by_reading (Err fault) = tt
by_reading (Ok a) = by_fault a (first_fault a) refl

unless_long : (long : Bool) (why : List ℕ) (read : Result Advert TextFault) (judged : Judged Advert) → IsSound read judged
    → IsSound read (if long then Err why else judged)
unless_long true why read judged h = tt
unless_long false why read judged h = h

pub well_formed : (text : List ℕ) (a : Advert) → contract_of text ≡ Ok a → IsWellFormed a
well_formed text a e =
    let read = read_answer text in
    let s = subst (IsSound read) e (unless_long (nat_lt most_text_bytes (length text)) _ read (judged_answer read) (by_reading read)) in
    record { readable = read_is_readable text a s.0; faultless = s.1; limited = s.2 }
