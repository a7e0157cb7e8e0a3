-- The files at the settled end of a table whose passes are all idle: they are in the places of
-- their numbers.
use Rattle.fx_counted.proofs.{◌≡◌, ℕ, ◌+◌, ◌-◌, ◌<◌, suc, sym, refl, ap, ◌∙◌, arith, inl, Option, Some, None, dite, dec_le, List, subst, Closed}
use Rattle.fx_counted.proofs.{State, Contents, state_of, AreBack, slice_index, some, get_elem?, node_in, slot_place, home_place, homes_for, stands_at}
use Rattle.fx_counted.proofs.{number_of, File, Agrees, HasNode, slots_of, chain_numbers, IsNumber, state_after_all, CountedTable, Start, View, Idle}
use Rattle.fx_counted.proofs.{Final, Seen, AllAreIdle, Leaves, Between, option_map, has_node, same_shape, apart, low_home, high_home}
use Rattle.fx_table.proofs.Shells.{AreAtHome, AreStored, at_home, file_at, files_are}
use Rattle.fx_counted.proofs.Ending.{home_file, file_home, none_outside_end}

-- the place of the number that a slot's word names
abbrev pub place_at : ℕ → List ℕ → ℕ → Option ℕ
place_at size words slot = option_map (home_place size) (node_in (slice_index words (slot_place slot)))

-- the contents of the places at the settled end, and their way back: the end of a table whose
-- passes are all idle
module _ (t : CountedTable) {id : ℕ} {v : View} {words : List ℕ} (xs : List (Option Closed))
    (final : Final (Seen (Agrees t.table.shared.key) id v) words xs) (idle : AllAreIdle t.table.shared.key id v) where
  abbrev k : Start
  k = t.table.shared.key

  abbrev r : Agrees k final.0
  r = final.1.0

  abbrev end : State
  end = state_after_all k r.history

  abbrev size : ℕ
  size = slots_of k

  all_idle : (i : ℕ) (u : View) → get_elem? final.0.views i ≡ some u → u.work ≡ Between Idle
  all_idle = idle final.0 r final.1.1

  number_is : {slot : ℕ} → slot < size → node_in (slice_index words (slot_place slot)) ≡ number_of (end.at slot)
  number_is {slot} l = grind arith

  -- the number whose file would lie there
  by_place : {place : ℕ} → place < homes_for size (chain_numbers k) → (n : ℕ) × IsNumber k n × (home_place size n ≡ place)
  by_place {place} l = dite (dec_le (suc place) size) (λ low. (place, inl (omega (arith, low)), low_home size (omega (arith, low))))
      (λ high. let n : ℕ = 256 + (place - size) in let few = r.shape.slots in grind (arith, high_home size n (omega (arith, few))))

  stored : AreStored size (place_at size words) end (home_place size) xs
  stored = record {
    named = λ slot l. ap (option_map (home_place size)) (number_is l);
    there = λ slot f l at. final.4 _ _ (file_home r all_idle l at).1;
    apart = λ slot other f g l m at at' same. grind (arith, all_idle, apart, file_home);
    others = λ place file there.
        let inside = (stands_at xs place (Some file) there).0 in
        let b = by_place {place = place} (omega (arith, inside, final.3, r.shape.homes)) in let h = home_file r all_idle b.1 in
        grind (arith, stands_at, home_file, all_idle);
    outside = λ slot g. none_outside_end r all_idle g;
  }

  pub home_at_end : AreAtHome t.size (place_at t.size words) xs
  home_at_end = rw t.same_size (at_home size (place_at size words) end (home_place size) xs stored)

  pub known_at_end : {slot n : ℕ} → slot < t.size → node_in (slice_index words (slot_place slot)) ≡ Some n → HasNode t.size 65472 n
  known_at_end {slot} {n} l is = let same = t.same_size in let low : slot < size = omega arith in go low (end.at slot) refl (sym (number_is low) ∙ is)
    where
      go : slot < size → (found : Option File) → end.at slot ≡ found → number_of found ≡ Some n → HasNode t.size 65472 n
      go low None at e = absurd (cc e)
      go low (Some f) at e = let same : f.number ≡ n = cc e in has_node t (subst (IsNumber k) same (file_home r all_idle low at).0)

  pub leaves_at_end : {left : Contents} → AreBack (state_of t.shell) (file_at t.size (place_at t.size words) xs) (state_of left) → Leaves k id v left
  leaves_at_end {left} back = let shape = same_shape k r.history in record {
    last = final.0;
    rule = r;
    view = final.1.1;
    files = record {
      size = back.size ∙ (t.emptied.size ∙ sym shape.0);
      range = back.range ∙ (t.emptied.range ∙ sym shape.1);
      files = λ slot. back.files slot ∙ (grind (arith, files_are size (place_at size words) end (home_place size) xs stored slot));
    };
    settled = back.settled;
  }
