-- The kinds of step on the two words of a node's label: their effect on the pass that makes them.
use Rattle.std.specs.Prelude.{◌≡◌}
use Rattle.fx_lasting.specs.Words.{ℕ, [], File, Placing, Written, Nothing, Tag, Label}
use Rattle.fx_lasting.specs.nodes.Labels.{number_of_mark, as_written}
use Rattle.fx_lasting.specs.Passes.{Sat, HoldsOn, node_of_number}
use Rattle.fx_lasting.specs.Effects.{At, Goes, pass_in}

-- Recall, of the tag's word: it has the tag of the file that the node had before, as if the pass
-- had stored that one
pub record RecallsTag (st : At) (m : Sat) (found : ℕ) (m' : Sat) : Type 0 where
  pub goes : (node lost : ℕ) → m.0.work ≡ Placing node (as_written lost Nothing)
      → Goes m [] (Placing node (as_written lost (Tag found))) m.0.glance m'

-- Tag: the pass has stored the tag of the file that it places
pub record Tags (st : At) (m : Sat) (found : ℕ) (m' : Sat) : Type 0 where
  pub goes : (node lost : ℕ) (written : Written) → m.0.work ≡ Placing node (as_written lost written)
      → Goes m [] (Placing node (as_written lost (Tag st.first))) m.0.glance m'

-- Number: the pass has stored the number of the file that it places, and so its label
pub record Numbers (st : At) (m : Sat) (found : ℕ) (m' : Sat) : Type 0 where
  pub goes : (node lost tag : ℕ) → m.0.work ≡ Placing node (as_written lost (Tag tag))
      → Goes m [] (Placing node (as_written lost (Label tag st.first))) m.0.glance m'

-- Read, of the tag's word of a node: it is the tag of the file that the pass holds
pub record ReadsTag (st : At) (m : Sat) (found : ℕ) (m' : Sat) : Type 0 where
  pub goes : Goes m [] m.0.work m.0.glance m'
  pub front : (pass_in m').front ≡ (pass_in m).front
  pub tag : (f : File) (node : ℕ) → HoldsOn m.0.work f node → found ≡ f.identity.tag

-- Read, of the number's word of a node: it is the number of the file that the pass holds, and that
-- file is on the node
pub record ReadsNumber (st : At) (m : Sat) (found : ℕ) (m' : Sat) : Type 0 where
  pub goes : Goes m [] m.0.work m.0.glance m'
  pub front : (pass_in m').front ≡ (pass_in m).front
  pub number : (f : File) (node : ℕ) → HoldsOn m.0.work f node
      → found ≡ number_of_mark f.identity.mark
  pub node : (f : File) (node : ℕ) → HoldsOn m.0.work f node
      → node_of_number m.0.start f.number ≡ node
