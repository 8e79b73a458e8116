-- What is decoded is what the bytes spell.
use Rattle.std.proofs.Common.{◌≡◌, ℕ, List, true, Option, Some, None, Result, Ok, Err, refl, sym, ◌∙◌}
use Rattle.spec_bitcoin.specs.Spelling.{IsBytes}
use Rattle.spec_text.specs.Words.{◌>>=◌}
use Rattle.spec_tool.specs.Psbt.{Psbt, magic, is_psbt}
use Rattle.spec_tool.specs.PsbtBytes.{behind, psbt_of}
use Rattle.theory_psbt.proofs.Kept.{spelled_is_psbt}
use Rattle.theory_psbt.proofs.Reading.{read_is_spelled}
use Rattle.bm_psbt.specs.declared.fault.PsbtError.{PsbtError}
use Rattle.bm_psbt.specs.declared.fault.PsbtError.TheVariants.{Memory, BadPsbt}
use Rattle.bm_psbt.specs.Giving.{Fails}
use Rattle.bm_psbt.specs.Ordered.{behind_magic_in_order, psbt_in_order}
use Rattle.bm_psbt.proofs.OnePass.{one_pass}

pub no_magic : (bytes : List ℕ) → None ≡ behind magic bytes → psbt_of bytes ≡ None
no_magic bytes h = sym (one_pass bytes) ∙ rw (← h) refl

pub of_parts : (bytes maps : List ℕ) (o : Option Psbt) → Some maps ≡ behind magic bytes → behind_magic_in_order maps ≡ o → psbt_of bytes ≡ o
of_parts bytes maps o h e = sym (one_pass bytes) ∙ rw (← h) e

-- an error that is that the bytes are bad
pub is_bad : {A B : Type 0} (e : PsbtError) (r : Result A PsbtError) (read : Option B) → r ≡ Err e → r ≡ Err BadPsbt → Fails e read → read ≡ None
is_bad Memory r read h k f = absurd cc
is_bad BadPsbt r read h k f = f

pub decoded_is_psbt : (bytes maps : List ℕ) (p : Psbt) → IsBytes bytes → Some maps ≡ behind magic bytes → behind_magic_in_order maps ≡ Some p → is_psbt p ≡ true
decoded_is_psbt bytes maps p fits h e = spelled_is_psbt bytes p (read_is_spelled bytes p fits (of_parts bytes maps (Some p) h e))
