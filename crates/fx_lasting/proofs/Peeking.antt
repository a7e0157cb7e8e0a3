-- A load that leaves the pass as it was keeps the rule.
use Rattle.fx_lasting.proofs.{ℕ, List, [], refl, Option, none, keeps, step, Closed, Peeks, PeeksKeep, Goes, inl, arith, sum_by, lengths, ◌≡◌, ◌<◌}
use Rattle.fx_lasting.proofs.{◌≤◌, LastingTable, IsAtWork, Seat, View, Allows, Agrees, IsGroup, groups_in, group_place, group_len, range_at_start}
use Rattle.fx_lasting.proofs.{group_word, its_group, grows_none, none_added, Turn, turn_of, Made, by_turn, its_log, its_work, tells, w, word_at}
use Rattle.fx_lasting.proofs.{group_back}
use Rattle.fx_lasting.specs.Effects.{IsGroupFull}
use Rattle.table_range.proofs.Owing.{each_full}
use Rattle.fx_lasting.proofs.Calm.{read_after, Reads, read_kept}
use Rattle.fx_lasting.proofs.range_lemmas.GroupSteps.{its_inside, idle}

module _ (turn : Turn) where
  open turn use {st, v, r, id, x, here, one}

  pub still : Reads turn v.work v.glance r.history
  still = let o = its_log turn in record {
    files = none_added turn;
    taken = λ n. refl;
    owners = inl refl;
    held = o.held;
    allowed = o.allowed;
    its = record { hold = o.hold; guarded = o.guarded; sees = o.sees; heats = o.heats; work = its_work turn };
    holds = λ n. omega arith;
  }

  pub goes_still : (carried : List (ℕ × Option Closed)) → Goes (v, carried) [] v.work v.glance (w turn (read_after turn v.work v.glance r.history), carried)
  goes_still carried = record {
    stepped = tells turn (read_after turn v.work v.glance r.history) refl carried carried [] (grows_none x.number r.history) r.life.legal refl (its_inside turn);
    carried = refl;
  }

  -- a group whose slots its word counts all is full
  its_full : (g : ℕ) → IsGroup v.start g → word_at st.words (group_place g) ≡ group_len (range_at_start v.start).1 g → IsGroupFull v.start g r.history
  its_full g its all = let few : sum_by lengths st.views ≤ 1024 = omega (arith, r.life.whole, r.shape.passes) in
      each_full (λ (u : View). u.logs) (λ (u : View). u.change) st.views (idle v.start st r) r.range g its few all

  peek : (slots g : ℕ) → IsGroup v.start g → (carried : List (ℕ × Option Closed))
      → Made turn carried (group_place g) (λ word. word) (Peeks (step slots (group_place g) 0 0 none) (v, carried))
  peek slots g its carried = (
    w turn (read_after turn v.work v.glance r.history),
    keeps,
    tt,
    read_kept turn v.work v.glance (group_place g) still,
    record { goes = goes_still carried; full = rw (group_back g) (its_full g its) },
  )

pub peeks_keep : PeeksKeep Peeks
peeks_keep k slots id i g m x has its place = by_turn slots (λ k. IsGroup k g) (λ _. group_place g) (λ word. word) (λ i. Peeks (step slots i 0 0 none) m)
    has its place (λ st r here its _. peek (turn_of m x has.1 id st r here) slots g its m.1)

-- a pass of a table may so load the word of a group
pub may_peek : (t : LastingTable) (seat : Seat (Option Closed) View) {p g i : ℕ} → seat.table_id ≡ t.table.shared.table_id
    → IsAtWork t.table.shared.key p seat.me → g < groups_in t.range_len → i ≡ group_place g
    → (seat.table_id ≡ t.table.shared.table_id) × (i < t.table.shared.table_id.words)
    × Allows (Agrees t.table.shared.key) t.table.shared.table_id.slots seat.id seat.me i (λ word. word) (Peeks (step t.table.shared.table_id.slots i 0 0 none) seat.me)
may_peek t seat {g = g} table at inside place = (table, group_word t inside place, peeks_keep _ _ _ _ g seat.me _ at.pass (its_group t inside) place)
