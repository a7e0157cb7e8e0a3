-- The end, when one seat has all passes, and all are idle: the state is settled, and the events of
-- all passes are one history.
use Rattle.fx_counted.proofs.{sum_zero_at, numbers_for, ◌≡◌, ℕ, ◌<◌, ◌≤◌, map, sym, ap, ◌∙◌, arith, ◌⊎◌, ⊎_elim, Option, Some, None, some, get_elem?}
use Rattle.fx_counted.proofs.{Closed, State, IsSettled, numbered, File, start_of, Does, OwnerAgrees, Agrees, place_of, Shared, opening_of, slots_of}
use Rattle.fx_counted.proofs.{IsNumber, state_after_all, held_of, holding, Phase, Start, View, Work, Idle, action_of, Between, inside_behind}
use Rattle.fx_counted.proofs.{opens_inside, same_shape, NodeIn, in_phase, seat_in}

is_number : (k : Start) (n : ℕ) → IsNumber k n ⊎ (IsNumber k n → ⊥)
is_number k n = grind arith

-- no pass does anything
module _ {k : Start} {s : Shared} (r : Agrees k s) (all_idle : (i : ℕ) (u : View) → get_elem? s.views i ≡ some u → u.work ≡ Between Idle) where
  abbrev end : State
  end = state_after_all k r.history

  -- no pass works with a number
  nobody : (i : ℕ) {w : Work} → Does s.views i w → w ≡ Between Idle
  nobody i d = sym d.2 ∙ all_idle i d.0 d.1

  unheld : (n : ℕ) → end.holds n ≡ 0
  unheld n = r.holds n ∙ sum_zero_at (held_of n) s.views (λ i u e. ap (holding n) (all_idle i u e))

  abbrev Node : ℕ → Phase → Type 0
  Node = NodeIn k s.words s.homes r.history

  removed_by : (n : ℕ) (ph : Phase) → Node n ph → OwnerAgrees s.views n ph → end.removed n ≡ None
  removed_by n ph a o = grind (arith, nobody, unheld)

  pub settled_end : IsSettled end
  settled_end = record {
    unheld = unheld;
    closed = λ n. ⊎_elim (λ has. removed_by n (r.phase n) (r.each_node n has) (r.each_owner n has)) (λ absent. r.no_other n absent) (is_number k n);
  }

  -- at the end the file that lies in the place of a number is at its slot
  abbrev AtItsSlot : ℕ → Option Closed → Type 0
  AtItsSlot n x = (file : Closed) → x ≡ Some file → (slot : ℕ) × (slot < slots_of k) × (end.at slot ≡ Some (numbered n file))

  home_by : {n : ℕ} (ph : Phase) → Node n ph → OwnerAgrees s.views n ph
      → (x : Option Closed) × (get_elem? s.homes (place_of k n) ≡ some (some x)) × AtItsSlot n x
  home_by ph a o = grind (arith, nobody, same_shape, unheld)

  pub home_file : {n : ℕ} → IsNumber k n → (x : Option Closed) × (get_elem? s.homes (place_of k n) ≡ some (some x)) × AtItsSlot n x
  home_file {n} has = home_by (r.phase n) (r.each_node n has) (r.each_owner n has)

  -- the file at a slot lies in the place of its number
  pub file_home : {slot : ℕ} {f : File} → slot < slots_of k → end.at slot ≡ Some f
      → IsNumber k f.number × (get_elem? s.homes (place_of k f.number) ≡ some (some (Some f.identity)))
  file_home {slot} {f} l there = let sat = seat_in k s r l there in (sat.0, (in_phase k s r sat.0 sat.2).at_home)

  pub none_outside_end : {slot : ℕ} → slots_of k ≤ slot → end.at slot ≡ None
  none_outside_end {slot} past = inside_behind (start_of (opening_of k)) (map action_of r.history) r.life.legal.leads.0
      (opens_inside k.plain.value (numbers_for k.chains)) slot (let size = (same_shape k r.history).0 in omega arith)
