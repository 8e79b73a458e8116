use Rattle.bm_compile.proofs.scripting.put_choice_script.Goals as goal

pub returns-clause-trail : goal.returns-clause-trail
returns-clause-trail g c =
    let made = c.in_ok-script.ensures (g.H.Hash32.digest_of c.args.trail.now.hasher) (g.K.KeySource.keys c.args.source.now) c.requires.keys in
    (c.in_ok-hash.ensures.trail.0, rw (c.as_slice.ensures, made) at c.in_ok-hash.ensures.trail.1, tt)
