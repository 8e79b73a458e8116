-- Tests of sameness say what they test.
use Rattle.std.proofs.Common.{◌≡◌, true, refl}
use Rattle.std.specs.Prelude.{◌==◌}
use Rattle.std.specs.Str.{bytes_eq}
use Rattle.std.proofs.lemmas.Bool.{and_parts, and_from, eqb-true, eq-eqb}
use Rattle.spec_bitcoin.specs.declared.tx.OutPoint.{OutPoint}
use Rattle.spec_bitcoin.specs.Live.{same_outpoint}
use Rattle.theory_calculus.proofs.Names.{bytes-true, bytes_refl}

pub place-true : (p q : OutPoint) → same_outpoint p q ≡ true → p ≡ q
place-true p q h =
    let a = and_parts (bytes_eq p.txid q.txid) (p.vout == q.vout) h in
    let e = bytes-true p.txid q.txid a.0 in
    let f = eqb-true p.vout q.vout a.1 in
    λ i. record { txid = e i; vout = f i }

pub place_refl : (p : OutPoint) → same_outpoint p p ≡ true
place_refl p = and_from (bytes_eq p.txid p.txid) (p.vout == p.vout) (bytes_refl p.txid) (eq-eqb p.vout p.vout refl)
