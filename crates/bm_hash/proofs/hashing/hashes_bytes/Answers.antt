use Rattle.bm_hash.proofs.hashing.hashes_bytes.Goals as goal

pub returns : goal.returns
returns g c = record { size = g.met.H.Hash32.sized c.args.hasher.now; bytes = g.met.H.Hash32.bytes c.args.hasher.now }
