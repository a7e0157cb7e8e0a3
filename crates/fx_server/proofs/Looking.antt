-- A look-up that found a file holds it.
use Rattle.fx_server.proofs.Words.{arith, ℕ, Option, Ok, Identity, LookedUp, Opening, IsHoldOf, PassView, Hold}

pub holds : (o : Opening) (v w : PassView) (slot : ℕ) (hold : Hold) (freed : Option Identity) → LookedUp o v slot (Ok hold) freed w → IsHoldOf w hold
holds o v w slot hold freed it = grind arith
