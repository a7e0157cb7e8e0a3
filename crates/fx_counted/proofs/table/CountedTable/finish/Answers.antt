use Rattle.fx_counted.proofs.Words.{◌≡◌, ℕ, List, refl, ap, ◌∙◌, arith, Option, Some, some, get_elem?, slots_items, read_at, home_place, node_in}
use Rattle.fx_counted.proofs.Words.{slice_index, slot_place, rules, option_map}
use Rattle.fx_table.proofs.Shells.{file_put, none_came, all_came, none_left, none_named, some_came, none_there}
use Rattle.fx_counted.proofs.HomeComing.{place_at, home_at_end, known_at_end, leaves_at_end}
use Rattle.fx_counted.proofs.table.CountedTable.finish.Goals.{in-Some+in-Some-take_home, in-Some+in_default-take_home, in_default}
use Rattle.fx_counted.proofs.table.CountedTable.finish.Goals as goal

-- the number that a slot's word names, and its place
named_by : (slot : ℕ) {ws now : List ℕ} {place word : ℕ} {n : Option ℕ} → now ≡ ws → place ≡ slot_place slot
    → get_elem? now place ≡ some word → n ≡ node_in word → node_in (slice_index ws (slot_place slot)) ≡ n
named_by slot {ws} {now} {place} same is there named = grind (arith, read_at)

placed_by : (size slot : ℕ) {ws now : List ℕ} {place word n home : ℕ} → now ≡ ws → place ≡ slot_place slot
    → get_elem? now place ≡ some word → Some n ≡ node_in word → home ≡ home_place size n → place_at size ws slot ≡ Some home
placed_by size slot same is there named at = grind (arith, named_by)

pub loop-slot-init : goal.loop-slot-init
loop-slot-init c = record {
  coming = none_came c.args.self.size _ c.args.self.emptied.shell (home_at_end c.args.self _ c.close_with-closed.ensures.values.2 c.requires.idle);
  prepared = c.args.self.room;
  count = refl;
  full = search rules;
  words = refl;
}

pub home_place-requires-clause-number : goal.home_place-requires-clause-number
home_place-requires-clause-number c =
    known_at_end c.args.self _ c.close_with-closed.ensures.values.2 c.requires.idle c.loop-slot-test.true
    (named_by c.loop-slot.slot (ap slots_items c.loop-slot.invariant.words) c.slot_place.ensures c.word.ensures c.in-Some.ensures)

pub take_home-requires-clause-inside : goal.take_home-requires-clause-inside
take_home-requires-clause-inside c =
    let t = c.args.self in let i = c.loop-slot.invariant in
    let l = (home_at_end t _ c.close_with-closed.ensures.values.2 c.requires.idle).inside c.loop-slot.slot _ c.loop-slot-test.true
    (placed_by t.size c.loop-slot.slot (ap slots_items i.words) c.slot_place.ensures c.word.ensures c.in-Some.ensures c.home_place.ensures) in
    omega (arith, i.count, c.close_with-closed.result.slots.ok.0, l)

pub loop-slot-preserved : goal.loop-slot-preserved
loop-slot-preserved c =
    let t = c.args.self in let i = c.loop-slot.invariant in let ws : List ℕ = slots_items c.close_with-closed.result.words in
    let home = home_at_end t (slots_items c.close_with-closed.result.slots) c.close_with-closed.ensures.values.2 c.requires.idle in
    let placed : (n place : ℕ) → Some n ≡ node_in c.word.result → place ≡ home_place t.size n → place_at t.size ws c.loop-slot.slot ≡ Some place =
    λ n place. placed_by t.size c.loop-slot.slot (ap slots_items i.words) c.slot_place.ensures c.word.ensures in
    elim c.match-node_of.branch [
      | in-Some+in-Some-take_home w ↦ let took = w.take_home.ensures in rw (w.shell-is, w.closed-is) (assumption (
        some_came t.size (place_at t.size ws) i.coming home c.loop-slot-test.true (placed _ _ w.in-Some.ensures w.home_place.ensures) took.value
            took.items w.in-Some-take_home.is (file_put i.coming.part.settled w.put_back.ensures.state),
        took.count ∙ i.count,
        took.words ∙ i.words,
      ))
      | in-Some+in_default-take_home w ↦ let took = w.take_home.ensures in rw (w.shell-is, w.closed-is) (assumption (
        none_there t.size (place_at t.size ws) i.coming home c.loop-slot-test.true (placed _ _ w.in-Some.ensures w.home_place.ensures) took.value
            took.items w.in_default-take_home.is,
        took.count ∙ i.count,
        took.words ∙ i.words,
      ))
      | in_default w ↦ rw (w.shell-is, w.closed-is) (assumption (
          none_named t.size (place_at t.size ws) i.coming home c.loop-slot-test.true (ap (option_map (home_place t.size))
          (named_by c.loop-slot.slot (ap slots_items i.words) c.slot_place.ensures c.word.ensures w.in_default.ensures))
          ))
    ]

pub free_empty-requires-clause-empty : goal.free_empty-requires-clause-empty
free_empty-requires-clause-empty c place file there =
    none_left c.args.self.size _ c.loop-slot.invariant.coming (omega (arith, c.loop-slot-test.false)) place there

pub returns : goal.returns
returns c =
    leaves_at_end c.args.self _ c.close_with-closed.ensures.values.2 c.requires.idle
    (all_came c.args.self.size _ c.loop-slot.invariant.coming (omega (arith, c.loop-slot-test.false)))
