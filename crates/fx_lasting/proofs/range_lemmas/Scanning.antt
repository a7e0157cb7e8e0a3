-- A scan that finds no empty slot: each was full at a moment of it, or another pass was there.
use Rattle.fx_lasting.proofs.{◌≡◌, ℕ, ◌+◌, ◌*◌, ◌%◌, ◌<◌, ◌≤◌, List, [], sym, refl, ap, ◌∙◌, subst, arith, ⊎_elim, inl, inr, dite, ℕ_discrete, dec_le}
use Rattle.fx_lasting.proofs.{Action, IsSeenBy, seen_further, Start, pass_in, Sat, Runs, Work, Glance, Change, view_of, LastingPass, MeetsMore}
use Rattle.fx_lasting.proofs.{changes_in, IsInRange, LastingTable, IsAtWork, Peeks, step, none, group_place, group_size, FailsToFill}
use Rattle.fx_lasting.proofs.{FellShort, HadGap, range_at_start, group_of, group_start, group_len, groups_in, runs_goes}
use Rattle.fx_lasting.proofs.{LeadsToAll, EachFrom, EachInGroup, EachInRange, WasFull, group_back, group_short, in_group, is_group, of_group}
use Rattle.table_range.specs.Counts.{CountsAll}
use Rattle.fx_lasting.specs.slots.AtEmpty.{GivesUp, SawEmptying}
use Rattle.fx_lasting.proofs.slot_lemmas.ByNode.{was_before, was_further}
use Rattle.fx_lasting.proofs.slot_lemmas.Overtaking.{overtaken_in, overtaken_by}

-- a pass after some steps
pub record Follows (m m' : Sat) : Type 0 where
  pub number : (pass_in m').number ≡ (pass_in m).number
  pub start : m'.0.start ≡ m.0.start
  pub seen : IsSeenBy (pass_in m).front (pass_in m').front
  pub met : (pass_in m).watch.met ≤ (pass_in m').watch.met
  pub changes : (slot : ℕ) → changes_in slot (pass_in m) ≤ changes_in slot (pass_in m')

pub follows : {m m' : Sat} {xs : List Action} {w : Work} {g : Glance} {c : Change} {n : ℕ} → Runs m xs w g c n m' → Follows m m'
follows run = record { number = run.number; start = run.start; seen = run.seen; met = run.met; changes = run.changes }

pub follows_then : {m m' m'' : Sat} → Follows m m' → Follows m' m'' → Follows m m''
follows_then {m} {m'} {m''} a b = record {
  number = b.number ∙ a.number;
  start = b.start ∙ a.start;
  seen = seen_further (pass_in m).front (pass_in m').front (pass_in m'').front a.seen b.seen;
  met = omega (arith, a.met, b.met);
  changes = λ s. let x = a.changes s in let y = b.changes s in omega arith;
}

-- what holds of a slot in some steps holds in some more
pub record Lasts (is : Sat → Sat → ℕ → Type 0) : Type 0 where
  pub earlier : (m m₁ m₂ : Sat) (slot : ℕ) → Follows m m₁ → is m₁ m₂ slot → is m m₂ slot
  pub later : (m m₁ m₂ : Sat) (slot : ℕ) → is m m₁ slot → Follows m₁ m₂ → is m m₂ slot

pub full_lasts : (k : Start) → Lasts (WasFull k)
full_lasts k = grind (arith, was_before, was_further)

pub fails_last : (k : Start) → Lasts (FailsToFill k)
fails_last k = record {
  earlier = λ m m₁ m₂ slot before fails. ⊎_elim (λ full. inl ((full_lasts k).earlier m m₁ m₂ slot before full))
      (λ other. inr (overtaken_in slot m m₁ m₂ m₂ before.number before.start before.seen before.met (before.changes slot) ([], refl) (omega arith) (omega arith) other)) fails;
  later = λ m m₁ m₂ slot fails since. ⊎_elim (λ full. inl ((full_lasts k).later m m₁ m₂ slot full since))
      (λ other. inr (overtaken_in slot m m m₁ m₂ refl refl ([], refl) (omega arith) (omega arith) since.seen since.met (since.changes slot) other)) fails;
}

module _ {is : Sat → Sat → ℕ → Type 0} (lasts : Lasts is) where
  -- one slot more
  pub one_more : (from to : ℕ) (m m₁ m₂ : Sat) → EachFrom from to (is m m₁) → Follows m m₁ → Follows m₁ m₂ → is m₁ m₂ to → EachFrom from (to + 1) (is m m₂)
  one_more from to m m₁ m₂ each before since here = λ slot low high. dite (ℕ_discrete slot to)
      (λ same. subst (is m m₂) (sym same) (lasts.earlier m m₁ m₂ to before here))
      (λ other. lasts.later m m₁ m₂ slot (each slot low (omega (arith, high, other))) since)

  -- the slots of a group from one on, and then those before it
  pub whole_group : (k : Start) (group begin from end : ℕ) (m m₁ m₂ m₃ : Sat) → begin ≡ group_start (range_at_start k) group
      → end ≡ begin + group_len (range_at_start k).1 group → Follows m m₁ → Follows m₁ m₂ → Follows m₂ m₃ → EachFrom from end (is m₁ m₂)
      → EachFrom begin from (is m₂ m₃) → EachInGroup k group (is m m₃)
  whole_group k group begin from end m m₁ m₂ m₃ begins ends one two three last first = λ slot its same.
      let z = in_group (range_at_start k) slot group its.0 its.1 same in
      dite (dec_le from slot)
      (λ high. lasts.later m m₂ m₃ slot (lasts.earlier m m₁ m₂ slot one (last slot high (omega (arith, z.1, begins, ends)))) three)
      (λ low. lasts.earlier m m₂ m₃ slot (follows_then one two) (first slot (omega (arith, z.0, begins)) (omega (arith, low))))

  -- one group more
  pub next_group : (k : Start) (first count step groups : ℕ) (m m₁ m₂ : Sat) → ((i : ℕ) → i < count → EachInGroup k ((first + i * step) % groups) (is m m₁))
      → Follows m m₁ → Follows m₁ m₂ → EachInGroup k ((first + count * step) % groups) (is m₁ m₂) → (i : ℕ) → i < count + 1
      → EachInGroup k ((first + i * step) % groups) (is m m₂)
  next_group k first count step groups m m₁ m₂ each before since here i l = dite (ℕ_discrete i count)
      (λ same. subst (λ (n : ℕ). EachInGroup k ((first + n * step) % groups) (is m m₂)) (sym same)
      (λ slot its its_group. lasts.earlier m m₁ m₂ slot before (here slot its its_group)))
      (λ other slot its its_group. lasts.later m m₁ m₂ slot (each i (omega (arith, l, other)) slot its its_group) since)

-- all groups
pub all_groups : (k : Start) (first step groups : ℕ) (is : ℕ → Type 0) → LeadsToAll groups step → groups ≡ groups_in (range_at_start k).1
    → ((i : ℕ) → i < groups → EachInGroup k ((first + i * step) % groups) is) → EachInRange k is
all_groups k first step groups is leads all each = λ slot its.
    let range = range_at_start k in
    let z = leads first (group_of range slot) (omega (arith, all, is_group range slot its.0 its.1)) in
    each z.0 z.1 slot its (sym z.2)

-- a pass that loaded the word of a group, which counts all its slots
pub peeked_full : (t : LastingTable) {p slots i found : ℕ} (group : ℕ) {m m' : Sat} → IsAtWork t.table.shared.key p m → i ≡ group_place group
    → CountsAll t.range_len group found → Peeks (step slots i 0 0 none) m found m'
    → EachInGroup t.table.shared.key group (WasFull t.table.shared.key m m')
peeked_full t group h3 place all peeks = grind (arith, group_back, follows, runs_goes)

-- the first slot of a group, and the end of its slots
module _ (t : LastingTable) (group : ℕ) {size len : ℕ} (each : size ≡ group_size t.range_len) (long : len ≡ group_len t.range_len group) where
  abbrev begin : ℕ
  begin = t.range_start + group * size

  pub begins : begin ≡ group_start (range_at_start t.table.shared.key) group
  begins = subst (λ (z : ℕ × ℕ). begin ≡ group_start z group) t.same_range (ap (λ (n : ℕ). t.range_start + group * n) each)

  pub ends : begin + len ≡ begin + group_len (range_at_start t.table.shared.key).1 group
  ends = ap (λ (n : ℕ). begin + n) (long ∙ ap (λ (z : ℕ × ℕ). group_len z.1 group) t.same_range)

  pub slots_inside : (from to : ℕ) → begin ≤ from → to ≤ begin + len → EachFrom from to (IsInRange t.table.shared.key)
  slots_inside from to low high = grind (arith, of_group, begins, ends)

  pub few_inside : len ≤ group_size t.range_len
  few_inside = omega (arith, long, group_short t.range_len group)

-- a slot that was full has none now: another pass emptied it
module _ (k : Start) (u p p₁ p' : LastingPass) (before : IsSeenBy (view_of u).front (view_of p).front) (few : MeetsMore u p)
    (since : Follows p.seat.me p₁.seat.me) where
  saw_emptied : (had : HadGap k (view_of p₁).front (view_of p').front) → WasFull k p.seat.me p₁.seat.me had.gap.slot → SawEmptying k u p'
  saw_emptied had full = inl (
    had.gap.slot,
    (had.gap.low, had.gap.high),
    record {
      between = (view_of p₁).front;
      full = was_before (view_of u).front before full;
      empty = record { history = had.history; later = had.later; seen = had.seen; there = had.gap.empty };
    },
  )

  -- the call that looks for an empty slot
  pub saw_emptying : EachInRange k (WasFull k p.seat.me p₁.seat.me) → FellShort k p₁ p' → SawEmptying k u p'
  saw_emptying full short = ⊎_elim (λ had. saw_emptied had (full had.gap.slot (had.gap.low, had.gap.high)))
      (λ met. inr (omega (arith, met.0, few.0, since.met), met.1)) short

  -- the call that installs a file
  pub gave_up : p.seat.me.0.start ≡ k → (view_of p).number ≡ (view_of u).number → IsSeenBy (view_of p₁).front (view_of p').front → MeetsMore p₁ p'
      → EachInRange k (FailsToFill k p.seat.me p₁.seat.me) → FellShort k p₁ p' → GivesUp k u p'
  gave_up begun number later more fails short = ⊎_elim
      (λ had. ⊎_elim (λ full. inl (saw_emptied had full))
      (λ other. inr (
        had.gap.slot,
        (had.gap.low, had.gap.high),
        record {
          history = had.history;
          later = seen_further (view_of u).front (view_of p₁).front had.history (seen_further (view_of u).front (view_of p).front (view_of p₁).front before since.seen) had.later;
          seen = had.seen;
          there = had.gap.empty;
        },
        overtaken_by k had.gap.slot u p' p.seat.me p₁.seat.me number begun before few.0 (few.1 had.gap.slot) later more.0 (more.1 had.gap.slot) other,
      ))
      (fails had.gap.slot (had.gap.low, had.gap.high)))
      (λ met. inl (inr (omega (arith, met.0, few.0, since.met), met.1))) short
