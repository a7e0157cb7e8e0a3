use Rattle.fx_lasting.proofs.{vec_len, vec_capacity, length, ◌+◌, ◌≤◌, ◌≡◌, ℕ, List, sym, refl, ap, ◌∙◌, arith, rules, Option, None, some, get_elem?}
use Rattle.fx_lasting.proofs.{slots_items, file_node_in, slot_place, read_at, none_left, files_at_slots}
use Rattle.fx_lasting.proofs.life_lemmas.Listed.{none_listed, one_listed, none_is_there, none_named_here}
use Rattle.fx_lasting.proofs.life_lemmas.HomeComing.{node_at, home_at_end, leaves_at_end}
use Rattle.fx_lasting.proofs.table.LastingTable.finish.Goals.{in-Some+in-Some-take_home, in-Some+in_default-take_home, in_default}
use Rattle.fx_lasting.proofs.table.LastingTable.finish.Goals as goal

-- the node that a slot's word names
named_by : (slot : ℕ) {ws now : List ℕ} {place word : ℕ} {n : Option ℕ} → now ≡ ws → place ≡ slot_place slot
    → get_elem? now place ≡ some word → n ≡ file_node_in word → node_at ws slot ≡ n
named_by slot {ws} {now} {place} same is there named =
    ap file_node_in (read_at ws (slot_place slot) 0 (ap (get_elem? ws) (sym is) ∙ (ap (λ (l : List ℕ). get_elem? l place) (sym same) ∙ there))) ∙ sym named

pub loop-slot-init : goal.loop-slot-init
loop-slot-init c = record {
  listed = none_listed c.args.self.size _ (home_at_end c.args.self _ c.close_with-closed.ensures.values.2 c.requires.idle) c.requires.empty;
  inside = omega arith;
  room = let none = ap length c.requires.empty in omega (arith, none);
  capacity = c.requires.room;
  count = refl;
  full = search rules;
  words = refl;
}

pub take_home-requires-clause-inside : goal.take_home-requires-clause-inside
take_home-requires-clause-inside c =
    let t = c.args.self in let i = c.loop-slot.invariant in
    let l = (home_at_end t _ c.close_with-closed.ensures.values.2 c.requires.idle).inside c.loop-slot.slot _ c.loop-slot-test.true
    (named_by c.loop-slot.slot (ap slots_items i.words) c.slot_place.ensures c.word.ensures c.in-Some.ensures) in
    omega (arith, i.count, c.close_with-closed.result.slots.ok.0, l)

pub loop-slot-preserved : goal.loop-slot-preserved
loop-slot-preserved c =
    let t = c.args.self in let i = c.loop-slot.invariant in let ws : List ℕ = slots_items c.close_with-closed.result.words in
    let home = home_at_end t (slots_items c.close_with-closed.result.slots) c.close_with-closed.ensures.values.2 c.requires.idle in
    let named : (n : Option ℕ) → n ≡ file_node_in c.word.result → node_at ws c.loop-slot.slot ≡ n =
    λ n is. named_by c.loop-slot.slot (ap slots_items i.words) c.slot_place.ensures c.word.ensures is in
    let inside : c.loop-slot.slot + 1 ≤ t.size = omega (arith, c.loop-slot-test.true) in
    let more : vec_len c.loop-slot.files ≤ c.loop-slot.slot + 1 = omega (arith, i.room) in
    let room_left : (n : ℕ) → n ≡ vec_len c.loop-slot.files + 1 → n ≤ c.loop-slot.slot + 1 = λ n is. omega (arith, i.room, is) in
    let same_room : (n : ℕ) → n ≡ vec_capacity c.loop-slot.files → t.size ≤ n = λ n is. omega (arith, i.capacity, is) in
    elim c.match-file_node_of.branch [
      | in-Some+in-Some-take_home w ↦ let took = w.take_home.ensures in rw (w.files-is, w.closed-is) (assumption (
        one_listed t.size (node_at ws) i.listed home c.loop-slot-test.true (named _ w.in-Some.ensures) took.value took.items
            w.in-Some-take_home.is w.push_reserved.ensures.items,
        inside,
        room_left _ w.push_reserved.ensures.len,
        same_room _ w.push_reserved.ensures.capacity,
        took.count ∙ i.count,
        took.words ∙ i.words,
      ))
      | in-Some+in_default-take_home w ↦ let took = w.take_home.ensures in rw (w.files-is, w.closed-is) (assumption (
        none_is_there t.size (node_at ws) i.listed home c.loop-slot-test.true (named _ w.in-Some.ensures) took.value took.items
            w.in_default-take_home.is,
        inside,
        more,
        took.count ∙ i.count,
        took.words ∙ i.words,
      ))
      | in_default w ↦ rw (w.files-is, w.closed-is) (assumption (
        none_named_here t.size (node_at ws) i.listed home c.loop-slot-test.true (named None w.in_default.ensures),
        inside,
        more,
      ))
    ]

pub free_empty-requires-clause-empty : goal.free_empty-requires-clause-empty
free_empty-requires-clause-empty c place file there =
    none_left c.args.self.size _ c.loop-slot.invariant.listed.coming (omega (arith, c.loop-slot-test.false)) place there

pub returns-clause-left : goal.returns-clause-left
returns-clause-left c =
    let whole : c.loop-slot.slot ≡ c.args.self.size = omega (arith, c.loop-slot-test.false, c.loop-slot.invariant.inside) in
    leaves_at_end c.args.self _ c.close_with-closed.ensures.values.2 c.requires.idle
    (c.loop-slot.invariant.listed.listed ∙ ap (files_at_slots _) whole)
