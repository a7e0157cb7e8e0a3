-- The files at the settled end of a table whose passes are all idle: they are in the places of
-- their nodes.
use Rattle.fx_lasting.proofs.{◌≡◌, ◌≤◌, ℕ, sym, ap, ◌∙◌, arith, Option, Some, None, List, subst, Closed, State, slice_index, some, get_elem?}
use Rattle.fx_lasting.proofs.{file_node_in, slot_place, stands_at, some-injective, File, Names, Agrees, slots_of, state_after_all, LastingTable}
use Rattle.fx_lasting.proofs.{Start, View, HasNoFile, option_map, Final, Seen, number_of, identity_of, files_at_slots, AreAtHome, AreStored, at_home}
use Rattle.fx_lasting.proofs.{file_at, files_are, AllAreIdle, same_shape}
use Rattle.fx_lasting.specs.life.Lives.{Leaves}
use Rattle.fx_lasting.proofs.life_lemmas.Listed.{with_files, has_files, at_rest, same_list}
use Rattle.fx_lasting.proofs.life_lemmas.Ending.{home_file, file_home, one_slot, none_outside_end}

-- the node that a slot's word names, which is its file's place
abbrev pub node_at : List ℕ → ℕ → Option ℕ
node_at words slot = file_node_in (slice_index words (slot_place slot))

-- the contents of the places at the settled end, and their way back: the end of a table whose
-- passes are all idle
module _ (t : LastingTable) {id : ℕ} {v : View} {words : List ℕ} (xs : List (Option Closed))
    (final : Final (Seen (Agrees t.table.shared.key) id v) words xs) (idle : AllAreIdle t.table.shared.key id v) where
  abbrev k : Start
  k = t.table.shared.key

  abbrev r : Agrees k final.0
  r = final.1.0

  abbrev end : State
  end = state_after_all k r.history

  abbrev size : ℕ
  size = slots_of k

  all_idle : (i : ℕ) (u : View) → get_elem? final.0.views i ≡ some u → HasNoFile u.work
  all_idle = idle final.0 r final.1.1

  node_is : (word : ℕ) (file : Option File) → Names r.node_of word file → file_node_in word ≡ option_map r.node_of (number_of file)
  node_is word file e = grind arith

  stored : AreStored size (node_at words) end r.node_of xs
  stored = record {
    named = λ slot l. node_is (slice_index words (slot_place slot)) (end.at slot)
        (subst (λ (ws : List ℕ). Names r.node_of (slice_index ws (slot_place slot)) (end.at slot)) final.2 (r.slots slot l).names);
    there = λ slot f l at. final.4 _ _ (file_home r all_idle l at).1;
    apart = λ slot other f g l m at at' same. one_slot r all_idle l m at at' same;
    others = λ place file there.
        let h = home_file r all_idle {n = place} (omega (arith, (stands_at xs place (Some file) there).0, final.3, r.shape.homes)) in
        let is : h.0 ≡ Some file = some-injective h.0 (Some file) (sym (final.4 place h.0 h.1) ∙ there) in
        let o = h.2 file is in
        (o.0, o.1, o.2, o.3, o.5);
    outside = λ slot g. none_outside_end r all_idle g;
  }

  pub home_at_end : AreAtHome t.size (node_at words) xs
  home_at_end = rw t.same_size (at_home size (node_at words) end r.node_of xs stored)

  none_past : (slot : ℕ) → end.size ≤ slot → end.at slot ≡ None
  none_past slot g = none_outside_end r all_idle (subst (λ (n : ℕ). n ≤ slot) (same_shape k r.history).0 g)

  file_is : (slot : ℕ) → file_at t.size (node_at words) xs slot ≡ identity_of (end.at slot)
  file_is slot = ap (λ (n : ℕ). file_at n (node_at words) xs slot) t.same_size ∙ files_are size (node_at words) end r.node_of xs stored slot

  pub leaves_at_end : {files : List (ℕ × Closed)} → files ≡ files_at_slots (file_at t.size (node_at words) xs) t.size → Leaves k id v files
  leaves_at_end {files} listed = record {
    last = final.0;
    rule = r;
    view = final.1.1;
    left = with_files end none_past;
    same = has_files end none_past;
    settled = at_rest end none_past;
    files_are = listed ∙ ((λ i. files_at_slots (λ slot. file_is slot i) ((t.same_size ∙ sym (same_shape k r.history).0) i)) ∙ same_list end none_past);
  }
