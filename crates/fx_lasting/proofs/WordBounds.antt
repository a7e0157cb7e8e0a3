-- The bounds of the words.
use Rattle.fx_lasting.proofs.{◌≡◌, ℕ, ◌+◌, ◌<◌, ◌≤◌, Option, subst, arith, File, Agrees, Names, IsSeated, WorkAgrees, slots_of, state_after_all}
use Rattle.fx_lasting.proofs.{count_in, full_name_in, Shared, Start, range_at_start, group_start, group_len, full_few, cold_takes, has_acted}
use Rattle.fx_lasting.proofs.{has_heated, AreBounded, slot_word_in, node_word_in, tally_few, few_cold, node_in}
use Rattle.table_range.proofs.GroupSlots.{few_slots}
use Rattle.fx_lasting.proofs.range_lemmas.GroupSteps.{owing_most}

module _ (k : Start) (s : Shared) (r : Agrees k s) where
  pub few_takes : (slot : ℕ) → slot < slots_of k → count_in (slot_word_in s slot) ≤ cold_takes k.passes + k.passes
  few_takes slot inside = let a = (r.slots slot inside).takes in let b = tally_few (λ p. has_acted (r.deed slot p)) k.passes in omega arith

  of_slot : (slot node : ℕ) → slot < slots_of k → (file : Option File) → Names r.node_of (slot_word_in s slot) file
      → IsSeated k r.node_of r.phase slot file → full_name_in (slot_word_in s slot) ≡ node + 1 → 2 < node_word_in k s node
  of_slot slot node inside file names seat is = grind (arith, node_in, few_takes, few_cold)

  pub words_are_bounded : AreBounded k s
  words_are_bounded = record {
    takes = few_takes;
    room = omega (arith, few_cold k.passes, r.shape.passes);
    heat = λ slot inside. let a = (r.slots slot inside).heat in let b = tally_few (λ p. has_heated (r.deed slot p)) k.passes in omega arith;
    heat_room = omega (arith, r.shape.passes);
    named = λ slot node inside is. let a = r.slots slot inside in of_slot slot node inside _ a.names a.seat is;
    leaving = λ seat node takes charges round v f there is.
        let work = subst (WorkAgrees k r.phase seat) is (r.holds.views seat v there).work in
        let o = node_in r work.0 work.1 in
        let a = o.counts in let b = o.few_takes in let c = o.few_charges in let d = o.few_visits in omega arith;
    groups = λ g l. let a = (r.range.groups g l).counts in let b = owing_most k s r g in let c = few_slots (range_at_start k).1 g in
        let d = full_few (state_after_all k r.history).at (group_start (range_at_start k) g) (group_len (range_at_start k).1 g) in omega (arith, a, b, c, d);
  }
