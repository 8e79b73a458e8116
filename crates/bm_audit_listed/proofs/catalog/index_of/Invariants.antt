use Rattle.std.proofs.Common.{take}
use Rattle.bm_audit_listed.specs.Indexed.{IsIndexed}
use Rattle.bm_audit_listed.proofs.catalog.index_of.Given as goal

abbrev pub invariant-loop-place : goal.invariant-loop-place
invariant-loop-place l = IsIndexed (take l.place l.candidates) l.index
