-- What a party signs to endorse a contract, path by path.
use Rattle.std.specs.Prelude.{ℕ, List, [], ◌∷◌, ◌++◌, not, ◌&&◌, if◌then◌else◌, Option, Some, None}
use Rattle.std.specs.Str.{bytes_eq}
use Rattle.spec_data.specs.Lists.{is_among}
use Rattle.spec_terms.specs.Advert.{Advert}
use Rattle.spec_terms.specs.Parties.{participants}
use Rattle.spec_terms.specs.Paths.{at}
use Rattle.spec_terms.specs.declared.path.PathStep.{PathStep}
use Rattle.spec_terms.specs.declared.pre.Pre.{Pre}
use Rattle.spec_bitcoin.specs.Keys.{Pair}
use Rattle.spec_compiler.specs.declared.prepared.Prepared.{Prepared}
use Rattle.spec_compiler.specs.Instance.{deposit_key}
use Rattle.bm_honest.specs.Unsigned.{owner_in, seen_branch}

-- of these participants, who have these keys of the branch, the party's keys, unless the branch asks it, each with the digest
abbrev pub person_pairs : List (List ℕ) → List ℕ → List ℕ → List (List ℕ) → List (List ℕ) → List Pair
person_pairs asked digest party [] keys = []
person_pairs asked digest party (p ∷ ps) [] = []
person_pairs asked digest party (p ∷ ps) (k ∷ ks) =
    if not (is_among p asked) && bytes_eq p party then (k, digest) ∷ person_pairs asked digest party ps ks
    else person_pairs asked digest party ps ks

-- of these deposits, the key of each that is the party's, with the digest beside its name
abbrev pub owner_pairs : (List ℕ → List ℕ) → List Pre → List ℕ → List (List ℕ) → List (List ℕ) → List Pair
owner_pairs hash pre party [] digests = []
owner_pairs hash pre party (n ∷ ns) [] = []
owner_pairs hash pre party (n ∷ ns) (d ∷ ds) =
    if bytes_eq (owner_in pre n) party then (deposit_key hash (owner_in pre n), d) ∷ owner_pairs hash pre party ns ds
    else owner_pairs hash pre party ns ds

-- what the party signs for a branch which has these keys of the participants, and asks and puts these, by the digests of its
-- transaction's inputs
abbrev pub pairs_for : (List ℕ → List ℕ) → Advert → List (List ℕ) → List ℕ → List (List ℕ) → List (List ℕ) → List (List ℕ) → List Pair
pairs_for hash advert keys party asked puts [] = []
pairs_for hash advert keys party asked puts (d ∷ ds) =
    person_pairs asked d party (participants advert) keys ++ owner_pairs hash advert.pre party puts ds

-- the same for a branch that is seen so, nothing without a branch
abbrev pub pairs_seen : (List ℕ → List ℕ) → Advert → List (List ℕ) → List ℕ → Option (List (List ℕ) × List (List ℕ)) → List (List ℕ)
    → List Pair
pairs_seen hash advert keys party None digests = []
pairs_seen hash advert keys party (Some p) digests = pairs_for hash advert keys party p.0 p.1 digests

-- what the party signs of the path of a branch
abbrev pub pairs_at : (List ℕ → List ℕ) → Advert → List (List ℕ) → List ℕ → List PathStep → Prepared → List Pair
pairs_at hash advert keys party path made = pairs_seen hash advert keys party (seen_branch (at advert.root path)) made.digests

-- and of all these paths, each with the participants' keys of it
abbrev pub pairs_of_paths : (List ℕ → List ℕ) → Advert → List ℕ → List (List PathStep × Prepared) → List (List (List ℕ)) → List Pair
pairs_of_paths hash advert party [] table = []
pairs_of_paths hash advert party (p ∷ ps) [] = []
pairs_of_paths hash advert party (p ∷ ps) (k ∷ ks) =
    pairs_at hash advert k party p.0 p.1 ++ pairs_of_paths hash advert party ps ks
