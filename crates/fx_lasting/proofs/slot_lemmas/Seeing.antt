-- A load of a slot's word from which the pass learns what is there keeps the rule.
use Rattle.fx_lasting.proofs.{◌≡◌, ℕ, ◌<◌, List, Option, none, Closed, slots_of, slot_place, Sees, SeesKeep, step, LastingTable, IsAtWork, Seat, View}
use Rattle.fx_lasting.proofs.{Allows, Agrees, slot_inside, slot_low, Turn, turn_of, Made, by_turn}
use Rattle.fx_lasting.proofs.slot_lemmas.Sights.{seen_instead}

module _ (turn : Turn) (s : ℕ) (inside : s < slots_of turn.v.start) (carried : List (ℕ × Option Closed)) where
  open turn use {st, v, r, id, x, here, one}

  see : (slots : ℕ) → Made turn carried (slot_place s) (λ word. word) (Sees (step slots (slot_place s) 0 0 none) (v, carried))
  see slots = seen_instead turn s inside carried Sees slots 0 0 (λ sees. sees)

pub sees_keep : SeesKeep Sees
sees_keep k slots id i s m x has inside place = by_turn slots (λ k. s < slots_of k) (λ _. slot_place s) (λ word. word)
    (λ i. Sees (step slots i 0 0 none) m) has inside place (λ st r here is fits. see (turn_of m x has.1 id st r here) s is m.1 slots)

-- a pass of a table may make such a load
pub may_see : (t : LastingTable) (seat : Seat (Option Closed) View) {p slot i : ℕ} → seat.table_id ≡ t.table.shared.table_id
    → IsAtWork t.table.shared.key p seat.me → slot < t.size → i ≡ slot_place slot
    → (seat.table_id ≡ t.table.shared.table_id) × (i < t.table.shared.table_id.words)
    × Allows (Agrees t.table.shared.key) t.table.shared.table_id.slots seat.id seat.me i (λ word. word) (Sees (step t.table.shared.table_id.slots i 0 0 none) seat.me)
may_see t seat {slot = slot} table at inside place =
    (table, slot_inside t inside place, sees_keep _ _ _ _ slot seat.me _ at.pass (slot_low t inside) place)
