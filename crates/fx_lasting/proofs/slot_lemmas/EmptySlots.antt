-- The calls of a caller that looks for an empty slot by itself: what their steps leave.
use Rattle.fx_lasting.proofs.{◌≡◌, ℕ, [], refl, arith, Option, true, File, Start, Sat, At, Sees, Names, slot_of, pass_in, state_after_all}
use Rattle.fx_lasting.proofs.{node_of_number, file_node_in, is_some, FitsSight, SeesFile, ◌≢◌, full_name_in, WasSo, no_name, its_name, runs_goes}

-- a slot's word names a node if the slot has a file
sight : (k : Start) (word : ℕ) (there : Option File) → Names (node_of_number k) word there → (node : Option ℕ) → node ≡ file_node_in word
    → FitsSight (is_some node) there
sight k word there names node is = grind (arith, no_name, its_name)

-- A pass that has seen what is at a slot
module _ {k : Start} {slot : ℕ} {st : At} {m m' : Sat} {found : ℕ} (start : m.0.start ≡ k) (here : slot_of st.word ≡ slot)
    (saw : Sees st m found m') where
  names_there : Names (node_of_number k) found ((state_after_all k (pass_in m').front).at slot)
  names_there = grind arith

  pub sees_so : (node : Option ℕ) → node ≡ file_node_in found → SeesFile k slot m (is_some node) m'
  sees_so node is = (
    record {
      history = (pass_in m').front;
      later = saw.goes.stepped.seen;
      seen = ([], refl);
      there = sight k found ((state_after_all k (pass_in m').front).at slot) names_there node is;
    },
    runs_goes saw.goes,
  )

module _ {k : Start} {slot : ℕ} {st : At} {m m' : Sat} {found : ℕ} (start : m.0.start ≡ k) (here : slot_of st.word ≡ slot)
    (saw : Sees st m found m') where
  pub full_so : full_name_in found ≢ 0 → WasSo k slot (FitsSight true) (pass_in m).front (pass_in m').front
  full_so some_named = grind (arith, names_there)
