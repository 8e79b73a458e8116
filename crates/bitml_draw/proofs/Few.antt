-- A call reads few files.
use Rattle.std.proofs.Common.{Option, Some, None, option_map}
use Rattle.std.specs.Prelude.{IfSome}
use Rattle.bitml_draw.specs.Drawn.{seen, HasFew}
use Rattle.bitml_draw.specs.declared.call.DrawCall.{DrawCall}

-- of the call that words are, if they are one
pub few_call : (call : Option DrawCall) → HasFew (option_map seen call) → IfSome call (λ c. HasFew (Some (seen c)))
few_call None h = tt
few_call (Some call) h = h
