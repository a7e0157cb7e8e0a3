-- The steps by which a pass keeps the node of a closed file for its next one. If the node's word
-- has lost few takes, no rest has to store 0, and no birth has to store its first word: the next
-- file's slot word begins with those takes.
use Rattle.std.specs.Prelude.{◌≡◌, ◌+◌, ◌-◌, ◌≤◌, ◌∷◌, None}
use Rattle.fx_lasting.specs.Words.{ℕ, [], rest, Placing, Emptying, Keeping, Nothing as Unlabelled}
use Rattle.fx_lasting.specs.nodes.Labels.{as_written}
use Rattle.fx_lasting.specs.Fields.{birth_word, most_carried, MayCarry}
use Rattle.fx_lasting.specs.Passes.{Sat}
use Rattle.fx_lasting.specs.Effects.{At, Goes, Stepped, pass_in}
use Rattle.fx_lasting.specs.declared.view.Work.TheVariants.{Idle}

-- Park, of the node's word: if it has lost few takes, the place is home, without a file, and the
-- pass keeps the node
pub record Parks (st : At) (m : Sat) (found : ℕ) (m' : Sat) : Type 0 where
  pub keeps : (node : ℕ) → m.0.work ≡ Emptying node → MayCarry found
      → Stepped m [] (Keeping node (birth_word - found)) m.0.glance m.0.change m'
      × (m'.1 ≡ rest m.1)
  pub lost : (MayCarry found → ⊥) → Goes m [] m.0.work m.0.glance m'

-- Resume, of the node's word: the place of the node that the pass keeps is with the pass, and the
-- word says how many takes it has lost
pub record Resumes (st : At) (m : Sat) (found : ℕ) (m' : Sat) : Type 0 where
  pub goes : (node lost : ℕ) → m.0.work ≡ Keeping node lost
      → Stepped m [] (Placing node (as_written lost Unlabelled)) m.0.glance m.0.change m'
      × (m'.1 ≡ (node, None) ∷ m.1) × (found + lost ≡ birth_word) × (lost ≤ most_carried)

-- Settle: the node that the pass kept is free, and the pass has seen what it had seen
pub record SettlesNode (st : At) (m : Sat) (found : ℕ) (m' : Sat) : Type 0 where
  pub goes : Goes m [] Idle m.0.glance m'
  pub front : (pass_in m').front ≡ (pass_in m).front
