-- A pass that looks for an empty slot: what its loads leave, one after another.
use Rattle.fx_lasting.proofs.{ℕ, ◌+◌, ◌≤◌, [], Option, Some, None, false, Sat, Start, pass_in, LooksFor, SeesFile, IsInRange, runs_within}
use Rattle.fx_lasting.specs.Ends.{Does}
use Rattle.fx_lasting.proofs.slot_lemmas.ByNode.{stands_then, was_before}

-- some loads, and then a search
pub looks_then : (k : Start) (m m' m'' : Sat) {a : ℕ} (b : ℕ) (found : Option ℕ) → Does m [] m.0.work a m' → LooksFor k b m' found m''
    → LooksFor k (a + b) m found m''
looks_then k m m' m'' b (Some slot) one two = (two.0, was_before (pass_in m).front one.seen two.1, stands_then one two.2)
looks_then k m m' m'' b None one two = stands_then one two

pub looks_within : (k : Start) (m m' : Sat) {a b : ℕ} (found : Option ℕ) → a ≤ b → LooksFor k a m found m' → LooksFor k b m found m'
looks_within k m m' (Some slot) few one = (one.0, one.1, runs_within few one.2)
looks_within k m m' None few one = runs_within few one

-- a slot of the range that was seen without a file
pub looks_at : {k : Start} {m : Sat} (m' : Sat) {slot : ℕ} → IsInRange k slot → SeesFile k slot m false m' → LooksFor k 1 m (Some slot) m'
looks_at m' its saw = (its, saw.0, saw.1)
