-- What one line says alone to be missing is read from it.
use Rattle.std.proofs.Common.{◌≡◌, ℕ, List, [], ◌∷◌, Option, Some, refl}
use Rattle.std.specs.Prelude.{codes}
use Rattle.std.specs.Fmt.{decimal}
use Rattle.spec_next.specs.declared.requirement.Requirement.{Requirement}
use Rattle.spec_next.specs.declared.requirement.Requirement.TheVariants as requirements
use Rattle.spec_next.specs.RequirementText.{requirement_text}
use Rattle.theory_calculus.proofs.Names.{bytes_refl}
use Rattle.theory_play_text.specs.Lines.{Words}
use Rattle.theory_play_text.specs.Printable.{IsWide, IsNamed}
use Rattle.theory_play_text.proofs.LineWords.{ArePlain, known_word, line_of}
use Rattle.theory_play_text.proofs.WordsBack.{number_back, number_begins, number_plain, name_begins, name_plain}
use Rattle.theory_next_text.specs.Lines.{NextLine, next_said}
use Rattle.theory_next_text.specs.Lines as line
use Rattle.theory_next_text.specs.Missing as lack
use Rattle.theory_next_text.specs.Sayable.{IsRequirement}

abbrev a_line : NextLine → Option NextLine
a_line l = Some l

-- what isn't said of several parties
abbrev pub IsAlone : Requirement → Type 0
IsAlone (requirements.Commitment party k) = ⊥
IsAlone (requirements.Endorsement party k) = ⊥
IsAlone (requirements.Start party k) = ⊥
IsAlone (requirements.Authorisation party n i) = ⊥
IsAlone requirement = IsRequirement requirement

-- the line of it, by its words
pub record Alone (parties : List (List ℕ)) (r : Requirement) : Type 0 where
  pub word : List ℕ
  pub words : Words
  pub are : requirement_text r ≡ line_of (word ∷ words)
  pub plain : ArePlain (word ∷ words)
  pub back : next_said parties (word ∷ words) ≡ a_line (line.lacks (lack.one r))

module _ (parties : List (List ℕ)) where
  digest_read : (party : List ℕ) (k : ℕ) (secret : List ℕ) → IsNamed party → IsWide k → IsNamed secret
      → Alone parties (requirements.Digest party k secret)
  digest_read party k secret h i j = record {
    word = codes "needs";
    words = codes "digest" ∷ secret ∷ codes "of" ∷ party ∷ codes "by" ∷ codes "commit" ∷ decimal k ∷ party ∷ [];
    are = refl;
    plain = (
      known_word (codes "needs") refl,
      (
        known_word (codes "digest") refl,
        (
          name_plain secret j,
          (
            known_word (codes "of") refl,
            (name_plain party h, (known_word (codes "by") refl, (known_word (codes "commit") refl, (number_plain k i, (name_plain party h, tt))))),
          ),
        ),
      ),
    );
    back = rw (name_begins party h, bytes_refl party, j, h, number_back k i) refl;
  }

  secret_read : (party : List ℕ) (k : ℕ) (secret : List ℕ) → IsNamed party → IsWide k → IsNamed secret
      → Alone parties (requirements.Secret party k secret)
  secret_read party k secret h i j = record {
    word = codes "needs";
    words = codes "secret" ∷ secret ∷ codes "of" ∷ party ∷ codes "by" ∷ codes "reveal" ∷ decimal k ∷ party ∷ secret ∷ [];
    are = refl;
    plain = (
      known_word (codes "needs") refl,
      (
        known_word (codes "secret") refl,
        (
          name_plain secret j,
          (
            known_word (codes "of") refl,
            (
              name_plain party h,
              (
                known_word (codes "by") refl,
                (
                  known_word (codes "reveal") refl,
                  (
                    number_plain k i,
                    (
                      name_plain party h,
                      (name_plain secret j, tt),
                    ),
                  ),
                ),
              ),
            ),
          ),
        ),
      ),
    );
    back = rw (name_begins secret j, bytes_refl party, bytes_refl secret, j, h, number_back k i) refl;
  }

  posted_read : (party secret : List ℕ) → IsNamed party → IsNamed secret → Alone parties (requirements.Posted party secret)
  posted_read party secret h j = record {
    word = codes "needs";
    words = codes "secret" ∷ secret ∷ codes "of" ∷ party ∷ codes "by" ∷ codes "post" ∷ [];
    are = refl;
    plain = (
      known_word (codes "needs") refl,
      (
        known_word (codes "secret") refl,
        (
          name_plain secret j,
          (
            known_word (codes "of") refl,
            (name_plain party h, (known_word (codes "by") refl, (known_word (codes "post") refl, tt))),
          ),
        ),
      ),
    );
    back = rw (j, h) refl;
  }

  height_read : (height blocks : ℕ) → IsWide height → IsWide blocks → Alone parties (requirements.Height height blocks)
  height_read height blocks h i = record {
    word = codes "needs";
    words = codes "height" ∷ decimal height ∷ codes "by" ∷ codes "mine" ∷ decimal blocks ∷ [];
    are = refl;
    plain = (
      known_word (codes "needs") refl,
      (
        known_word (codes "height") refl,
        (
          number_plain height h,
          (
            known_word (codes "by") refl,
            (known_word (codes "mine") refl, (number_plain blocks i, tt)),
          ),
        ),
      ),
    );
    back = rw (number_begins blocks i, number_back blocks i, number_back height h) refl;
  }

  -- behind a name
  never_read : (r : Requirement) (kind name : List ℕ) (words : Words) → requirement_text r ≡ line_of (codes "never:" ∷ kind ∷ name ∷ words)
      → ArePlain (codes "never:" ∷ kind ∷ name ∷ words)
      → next_said parties (codes "never:" ∷ kind ∷ name ∷ words) ≡ a_line (line.lacks (lack.one r)) → Alone parties r
  never_read r kind name words are plain back =
      record { word = codes "never:"; words = kind ∷ name ∷ words; are = are; plain = plain; back = back }

  pub alone_read : (r : Requirement) → IsAlone r → Alone parties r
  alone_read (requirements.Advert k) h = record {
    word = codes "needs";
    words = codes "advertise" ∷ decimal k ∷ [];
    are = refl;
    plain = (known_word (codes "needs") refl, (known_word (codes "advertise") refl, (number_plain k h, tt)));
    back = rw (number_begins k h, number_back k h) refl;
  }
  alone_read (requirements.Deposit x) h = record {
    word = codes "needs";
    words = codes "deposit" ∷ x ∷ [];
    are = refl;
    plain = (known_word (codes "needs") refl, (known_word (codes "deposit") refl, (name_plain x h, tt)));
    back = rw (name_begins x h, h) refl;
  }
  alone_read (requirements.Gone x) h =
      never_read _ (codes "deposit") x (codes "gone" ∷ []) refl
      (known_word (codes "never:") refl, (known_word (codes "deposit") refl, (name_plain x h, (known_word (codes "gone") refl, tt))))
      (rw h refl)
  alone_read requirements.NobodyHonest h =
      never_read _ (codes "nobody") (codes "honest") [] refl
      (known_word (codes "never:") refl, (known_word (codes "nobody") refl, (known_word (codes "honest") refl, tt))) refl
  alone_read (requirements.Missing x) h =
      never_read _ (codes "secret") x (codes "missing" ∷ []) refl
      (known_word (codes "never:") refl, (known_word (codes "secret") refl, (name_plain x h, (known_word (codes "missing") refl, tt))))
      (rw h refl)
  alone_read (requirements.BadLength x) h =
      never_read _ (codes "secret") x (codes "not" ∷ codes "of" ∷ codes "16" ∷ codes "to" ∷ codes "520" ∷ codes "bytes" ∷ []) refl (
        known_word (codes "never:") refl,
        (
          known_word (codes "secret") refl,
          (
            name_plain x h,
            (
              known_word (codes "not") refl,
              (
                known_word (codes "of") refl,
                (
                  known_word (codes "16") refl,
                  (
                    known_word (codes "to") refl,
                    (
                      known_word (codes "520") refl,
                      (known_word (codes "bytes") refl, tt),
                    ),
                  ),
                ),
              ),
            ),
          ),
        ),
      )
      (rw h refl)
  alone_read (requirements.Repeated x) h =
      never_read _ (codes "secret") x (codes "committed" ∷ codes "before" ∷ []) refl (
        known_word (codes "never:") refl,
        (
          known_word (codes "secret") refl,
          (
            name_plain x h,
            (
              known_word (codes "committed") refl,
              (known_word (codes "before") refl, tt),
            ),
          ),
        ),
      )
      (rw h refl)
  alone_read (requirements.Digest party k secret) h = digest_read party k secret h.0 h.1 h.2
  alone_read (requirements.Commitment party k) h = absurd h
  alone_read (requirements.Endorsement party k) h = absurd h
  alone_read (requirements.Start party k) h = absurd h
  alone_read (requirements.Beginning k) h = record {
    word = codes "needs";
    words = codes "fire" ∷ codes "init" ∷ decimal k ∷ [];
    are = refl;
    plain = (known_word (codes "needs") refl, (known_word (codes "fire") refl, (known_word (codes "init") refl, (number_plain k h, tt))));
    back = rw (number_begins k h, number_back k h) refl;
  }
  alone_read (requirements.Height height blocks) h = height_read height blocks h.0 h.1
  alone_read (requirements.Authorisation party n i) h = absurd h
  alone_read (requirements.Put x) h =
      never_read _ (codes "put") x (codes "gone" ∷ []) refl
      (known_word (codes "never:") refl, (known_word (codes "put") refl, (name_plain x h, (known_word (codes "gone") refl, tt))))
      (rw h refl)
  alone_read (requirements.Secret party k secret) h = secret_read party k secret h.0 h.1 h.2
  alone_read (requirements.Posted party secret) h = posted_read party secret h.0 h.1
  alone_read requirements.Predicate h =
      never_read _ (codes "predicate") (codes "false") [] refl
      (known_word (codes "never:") refl, (known_word (codes "predicate") refl, (known_word (codes "false") refl, tt))) refl
