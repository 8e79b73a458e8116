-- What a refusal of the check says of the advert.
use Rattle.std.specs.Prelude.{◌≡◌, Some, None}
use Rattle.spec_terms.specs.Advert.{Advert}
use Rattle.spec_terms.specs.Faults.{first_fault, first_limit}
use Rattle.bm_wellformed.specs.declared.checking.CheckError.{CheckError}
use Rattle.bm_wellformed.specs.declared.checking.CheckError.TheVariants.{Fault, Limit, Memory}

-- it shows the first fault, or without one the first limit, with the place; out of memory says nothing
abbrev pub IsRefused : Advert → CheckError → Type 0
IsRefused a (Fault number place) = first_fault a ≡ Some (number, place)
IsRefused a (Limit limit place) = (first_fault a ≡ None) × (first_limit a ≡ Some (limit, place))
IsRefused a Memory = Unit {0}
