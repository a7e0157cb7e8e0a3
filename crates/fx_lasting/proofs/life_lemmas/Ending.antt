-- The end, when one seat has all passes again, and does nothing: everything is settled, and each
-- file is at its slot.
use Rattle.fx_lasting.proofs.{◌≡◌, ℕ, ◌<◌, ◌≤◌, sym, ap, ◌∙◌, subst, arith, Option, Some, None, sum_by, dite, some, get_elem?, Closed, State}
use Rattle.fx_lasting.proofs.{IsSettled, File, sum_zero_at, ℕ_discrete, Does, OwnerAgrees, Agrees, Shared, slots_of, nodes_of, state_after_all}
use Rattle.fx_lasting.proofs.{held_of, if_file, taken_of, owed, Phase, free, placed, seated, leaving, retired, emptied, kept, removed_in, Start, View}
use Rattle.fx_lasting.proofs.{Work, HasNoFile, IsSeated, refl, inside_behind, opens_inside, find_pass, busy, busy_alone, owed_found, same_shape}
use Rattle.fx_lasting.proofs.{NodeIn, node_in}
use Rattle.fx_lasting.proofs.node_lemmas.Choosing.{no_file, no_take, not_busy, holds_none}

-- no pass does anything
module _ {k : Start} {s : Shared} (r : Agrees k s) (all_idle : (i : ℕ) (u : View) → get_elem? s.views i ≡ some u → HasNoFile u.work) where
  abbrev end : State
  end = state_after_all k r.history

  -- no pass works with a node
  nobody : (i : ℕ) {w : Work} → Does s.views i w → busy w ≡ 0
  nobody i d = sym (ap busy d.2) ∙ (sym (busy_alone d.0.work) ∙ not_busy (all_idle i d.0 d.1))

  unheld : (n : ℕ) → end.holds n ≡ 0
  unheld n = r.holds.files n ∙ sum_zero_at (held_of n) s.views (λ i u e. ap (if_file n) (no_file (all_idle i u e)))

  untaken : (n : ℕ) → sum_by (taken_of n) s.views ≡ 0
  untaken n = sum_zero_at (taken_of n) s.views (λ i u e. no_take (all_idle i u e) n)

  unowed : (n : ℕ) → owed r.debt k.passes n ≡ 0
  unowed n = dite (ℕ_discrete (owed r.debt k.passes n) 0) (λ none. none) (λ some_owed. absurd (
      let z = owed_found r.debt k.passes n (omega (arith, some_owed)) in let y = find_pass r.life z.1 z.2 in
      let e = ap r.debt y.5 in omega (arith, z.3, (holds_none (all_idle y.0 y.1 y.3) ((r.holds.views y.0 y.1 y.3).logs y.2 y.4).hold).1, e)))

  removed_none : (m n : ℕ) (ph : Phase) → NodeIn r n ph → OwnerAgrees s.views n ph → removed_in m ph ≡ None
  removed_none m n (leaving i t nx z f) a o = let bad = nobody i o in absurd (omega arith)
  removed_none m n (retired f) a o = let w = a.somebody in let h = untaken n in let q = unowed n in absurd (omega arith)
  removed_none m n _ a o = refl

  pub settled_end : IsSettled end
  settled_end = grind (arith, unheld, removed_none)

  -- at the end the file that lies in the place of a node is at its slot
  abbrev pub AtItsSlot : ℕ → Option Closed → Type 0
  AtItsSlot n x = (file : Closed) → x ≡ Some file → (slot : ℕ) × (f : File) × (slot < slots_of k) × (end.at slot ≡ Some f) × (f.identity ≡ file)
      × (r.node_of f.number ≡ n)

  home_by : {n : ℕ} (ph : Phase) → NodeIn r n ph → OwnerAgrees s.views n ph
      → (x : Option Closed) × (get_elem? s.homes n ≡ some (some x)) × AtItsSlot n x
  home_by {n} free a o = (None, a.at_home, λ file e. absurd (cc e))
  home_by {n} (placed i l) a o = let bad = nobody i o in absurd (omega arith)
  home_by {n} (seated slot f) a o = (
    Some f.identity,
    a.file.at_home,
    λ other e. (slot, f, a.inside, a.there, cc e, a.file.its_node),
  )
  home_by {n} (leaving i t nx z f) a o = let bad = nobody i o in absurd (omega arith)
  home_by {n} (retired f) a o = let w = a.somebody in let h = untaken n in let q = unowed n in absurd (omega arith)
  home_by {n} (emptied i) a o = let bad = nobody i o in absurd (omega arith)
  home_by {n} (kept i lost) a o = let bad = nobody i o in absurd (omega arith)

  pub home_file : {n : ℕ} → n < nodes_of k → (x : Option Closed) × (get_elem? s.homes n ≡ some (some x)) × AtItsSlot n x
  home_file {n} l = home_by (r.phase n) (r.nodes.each n l) (r.nodes.owners n l)

  pub seat_at : {slot : ℕ} {f : File} → slot < slots_of k → end.at slot ≡ Some f
      → (r.node_of f.number < nodes_of k) × (r.phase (r.node_of f.number) ≡ seated slot f)
  seat_at {slot} l there = subst (IsSeated k r.node_of r.phase slot) there (r.slots slot l).seat

  -- the file at a slot lies in the place of its node
  pub file_home : {slot : ℕ} {f : File} → slot < slots_of k → end.at slot ≡ Some f
      → (r.node_of f.number < nodes_of k) × (get_elem? s.homes (r.node_of f.number) ≡ some (some (Some f.identity)))
  file_home l there = grind (arith, seat_at, node_in)

  -- files at different slots are on different nodes
  pub one_slot : {slot other : ℕ} {f g : File} → slot < slots_of k → other < slots_of k → end.at slot ≡ Some f → end.at other ≡ Some g
      → r.node_of f.number ≡ r.node_of g.number → slot ≡ other
  one_slot l m there here same = grind (arith, seat_at, seated)

  pub none_outside_end : {slot : ℕ} → slots_of k ≤ slot → end.at slot ≡ None
  none_outside_end past = grind (arith, inside_behind, opens_inside, same_shape)
