use Rattle.std.proofs.Common.{◌≡◌, drop}
use Rattle.bm_honest.specs.Unsigned.{unsigned_person}
use Rattle.bm_honest.proofs.needs.first_person.Given as goal

-- the first of those who are left is the first of all
abbrev pub invariant-loop-person : goal.invariant-loop-person
invariant-loop-person l =
    unsigned_person l.book l.asked l.digest (drop l.person-index l.people) l.rest ≡ unsigned_person l.book l.asked l.digest l.people l.keys
