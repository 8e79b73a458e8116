-- How what is missing is printed.
use Rattle.std.specs.Prelude.{ℕ, List, ◌++◌, codes}
use Rattle.std.specs.Fmt.{decimal}
use Rattle.spec_text.specs.StepText.{branch_text}
use Rattle.spec_next.specs.declared.requirement.Requirement.{Requirement}
use Rattle.spec_next.specs.declared.requirement.Requirement.TheVariants as requirements

-- `needs ..`, by which event where that isn't plain; and `never: ..` of what nothing gives
abbrev pub requirement_text : Requirement → List ℕ
requirement_text (requirements.Advert k) = codes "needs advertise " ++ decimal k
requirement_text (requirements.Deposit x) = codes "needs deposit " ++ x
requirement_text (requirements.Gone x) = codes "never: deposit " ++ (x ++ codes " gone")
requirement_text requirements.NobodyHonest = codes "never: nobody honest"
requirement_text (requirements.Missing secret) = codes "never: secret " ++ (secret ++ codes " missing")
requirement_text (requirements.BadLength secret) = codes "never: secret " ++ (secret ++ codes " not of 16 to 520 bytes")
requirement_text (requirements.Repeated secret) = codes "never: secret " ++ (secret ++ codes " committed before")
requirement_text (requirements.Digest party k secret) =
    codes "needs digest " ++ (secret ++ (codes " of " ++ (party ++ (codes " by commit " ++ (decimal k ++ (codes " " ++ party))))))
requirement_text (requirements.Commitment party k) = codes "needs " ++ (party ++ (codes " commits " ++ decimal k))
requirement_text (requirements.Endorsement party k) = codes "needs " ++ (party ++ (codes " endorses " ++ decimal k))
requirement_text (requirements.Start party k) = codes "needs " ++ (party ++ (codes " inits " ++ decimal k))
requirement_text (requirements.Beginning k) = codes "needs fire init " ++ decimal k
requirement_text (requirements.Height height blocks) = codes "needs height " ++ (decimal height ++ (codes " by mine " ++ decimal blocks))
requirement_text (requirements.Authorisation party n i) = codes "needs " ++ (party ++ (codes " authorises " ++ branch_text n i))
requirement_text (requirements.Put x) = codes "never: put " ++ (x ++ codes " gone")
requirement_text (requirements.Secret party k secret) =
    codes "needs secret "
    ++ (secret ++ (codes " of " ++ (party ++ (codes " by reveal " ++ (decimal k ++ (codes " " ++ (party ++ (codes " " ++ secret))))))))
requirement_text (requirements.Posted party secret) = codes "needs secret " ++ (secret ++ (codes " of " ++ (party ++ codes " by post")))
requirement_text requirements.Predicate = codes "never: predicate false"
