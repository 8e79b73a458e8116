-- What keeps the search through an advert within the numbers of the machine.
use Rattle.std.specs.Prelude.{ℕ, ℤ, pos, neg_ℤ, ◌≤ℤ◌, ◌≤◌, ◌<◌, ◌*◌, ◌^◌, length, All}
use Rattle.spec_terms.specs.Term.{Guarded, auth, after, put_reveal, withdraw, split, Contract, no_branch, branch, branches, Parts, no_part}
use Rattle.spec_terms.specs.Term.{part, parts_list}
use Rattle.spec_terms.specs.Advert.{Advert}
use Rattle.spec_terms.specs.Readable.{depth_of_choice}
use Rattle.spec_terms.specs.declared.pre.Pre.{Pre}
use Rattle.spec_terms.specs.declared.pre.Pre.TheVariants.{Persistent, Volatile, Secret}

-- the value of an entry of the precondition, 0 for a secret
abbrev pub value_in : Pre → ℕ
value_in (Persistent party value name) = value
value_in (Volatile party value name) = value
value_in (Secret party name) = 0

abbrev mutual
  -- below these branches no choice has more than 32 branches and no split more than 64 parts
  pub AreSmall : Contract → Type 0
  AreSmall no_branch = Unit {0}
  AreSmall (branch b bs) = IsSmall b × AreSmall bs

  pub IsSmall : Guarded → Type 0
  IsSmall (auth party body) = IsSmall body
  IsSmall (after height body) = IsSmall body
  IsSmall (put_reveal puts reveals test next) = (length (branches next) ≤ 32) × AreSmall next
  IsSmall (withdraw party) = Unit {0}
  IsSmall (split parts) = (length (parts_list parts) ≤ 64) × AreSmallParts parts

  pub AreSmallParts : Parts → Type 0
  AreSmallParts no_part = Unit {0}
  AreSmallParts (part v c ps) = (length (branches c) ≤ 32) × AreSmall c × AreSmallParts ps

-- a balance after at most n sums with puts and fees
pub record IsBalance (n : ℕ) (balance : ℤ) : Type 0 where
  pub low : neg_ℤ (pos (n * 2 ^ 64)) ≤ℤ balance
  pub high : balance ≤ℤ pos (n * 2 ^ 115)

-- an advert through which the code can search
pub record IsSearchable (a : Advert) : Type 0 where
  pub values : All (λ e. value_in e ≤ 2 ^ 51) a.pre
  pub short : length a.pre < 2 ^ 32
  pub few : length (branches a.root) ≤ 32
  pub small : AreSmall a.root
  pub low : depth_of_choice a.root ≤ 64
