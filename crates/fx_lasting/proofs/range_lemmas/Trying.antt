-- A pass that looks for an empty slot: what its steps leave, one after another.
use Rattle.fx_lasting.proofs.{◌≡◌, ℕ, ◌+◌, ◌*◌, ◌<◌, ◌≤◌, [], ◌∷◌, sym, ap, ◌∙◌, subst, arith, Some, none, step, rest, Closed, ◌▷◌, numbered}
use Rattle.fx_lasting.proofs.{Allocate, Sat, Work, Glance, Change, Placing, Idle, Outside, Inside, Runs, Goes, Exchanges, slot_of, Stepped}
use Rattle.fx_lasting.proofs.{LastingTable, IsInRange, List, Action, Start, group_of, range_at_start, node_of_number, ◌▷▷◌, ◌-◌, IsAtWork, NamesANode}
use Rattle.fx_lasting.proofs.{as_swapped, pass_in, name_in, nodes_of, get_elem?, some, label_of, as_written, Option, None, IfSome, IsPlacing}
use Rattle.fx_lasting.proofs.{HasAllocated, StillPlaces, group_steps, most_carried, runs_one, runs_goes, runs_within, turns_then, does_then}
use Rattle.fx_lasting.proofs.{swapped_then, at_swapped, still_at_work, by_size}

-- a slot of the range is one of the table
pub in_size : (t : LastingTable) (slot : ℕ) → IsInRange t.table.shared.key slot → slot < t.size
in_size t slot r = omega (arith, t.range_inside, ap (λ (z : ℕ × ℕ). z.0) t.same_range, ap (λ (z : ℕ × ℕ). z.1) t.same_range, r.1)

pub in_range : (t : LastingTable) (slot : ℕ) → t.range_start ≤ slot → slot < t.range_start + t.range_len → IsInRange t.table.shared.key slot
in_range t slot low high = grind arith

-- a load from which the pass learns nothing
pub peeked : {m m' : Sat} {n lost : ℕ} {file : Closed} → IsPlacing n lost file m → Goes m [] m.0.work m.0.glance m'
    → Runs m [] (Placing n (as_written lost (label_of file))) m.0.glance m.0.change 1 m'
peeked {m} {m'} p goes = subst (λ (w : Work). Runs m [] w m.0.glance m.0.change 1 m') p.work (runs_goes goes)

-- a pass that owed nothing owes nothing again
back_outside : {m m' : Sat} {xs : List Action} {w : Work} {n : ℕ} → m.0.change ≡ Outside → Runs m xs w m.0.glance Outside n m'
    → Runs m xs w m.0.glance m.0.change n m'
back_outside {m} {m'} {xs} {w} {n} out r = subst (λ (c : Change). Runs m xs w m.0.glance c n m') (sym out) r

module _ {m m₁ m₂ : Sat} {n lost i slots found old new : ℕ} {file : Closed} (p : IsPlacing n lost file m) (out : m.0.change ≡ Outside)
    (goes : Goes m [] m.0.work m.0.glance m₁) (tries : Exchanges (step slots i old new none) m₁ found m₂) where
  pub still_there : m₁.1 ≡ (n, Some file) ∷ []
  still_there = goes.carried ∙ p.place

  -- the slot has another word now
  pub lost_still : (found ≡ old → ⊥) → StillPlaces n lost file 3 m m₂
  lost_still other = let goes' = (tries.loses other).goes in (
    runs_within (omega arith) (does_then (peeked p goes) (subst (λ (w : Work). Runs m₁ [] w m₁.0.glance m₁.0.change 1 m₂) (peeked p goes).work
        (runs_goes goes'))),
    goes'.carried ∙ goes.carried,
  )

  -- the file is at the slot
  module _ (won : found ≡ old) {slot : ℕ} (here : slot_of i ≡ slot) where
    abbrev Wins : ℕ → Type 0
    Wins e = (number : ℕ) × (node_of_number m₁.0.start number ≡ n) × NamesANode m₁.0.start found
        × Stepped (as_swapped e (name_in found - 1) m₁) ([] ▷ Allocate (slot_of i) (numbered number file)) Idle m₁.0.glance
        (Inside (group_of (range_at_start m₁.0.start) (slot_of i))) m₂ × (m₂.1 ≡ rest m₁.1)

    wins : (e : ℕ) → get_elem? (pass_in m).stock e ≡ some n → Wins e
    wins e at = tries.wins n lost e file (peeked p goes).work still_there (ap (λ (l : List ℕ). get_elem? l e) goes.stepped.stock ∙ at) won

    pub won_run : (e : ℕ) → get_elem? (pass_in m).stock e ≡ some n → (number : ℕ) × (node_of_number m.0.start number ≡ n)
        × Runs (as_swapped e (name_in found - 1) m) ([] ▷ Allocate slot (numbered number file)) Idle m.0.glance (Inside (group_of (range_at_start m.0.start) slot)) 2 m₂
    won_run e at = let z = wins e at in (
      z.0,
      subst (λ (k : Start). node_of_number k z.0 ≡ n) (peeked p goes).start z.1,
      swapped_then e (name_in found - 1) (peeked p goes) (subst (λ (y : ℕ × Glance × Start). Runs (as_swapped e (name_in found - 1) m₁) ([] ▷ Allocate y.0 (numbered z.0 file)) Idle y.1
          (Inside (group_of (range_at_start y.2) y.0)) 1 m₂) (λ j. (here j, (peeked p goes).glance j, (peeked p goes).start j)) (runs_one z.3)),
    )

    -- the pass is at work after its step
    pub won_at_work : {k : Start} {q : ℕ} → IsAtWork k q m → IsAtWork k q m₂
    won_at_work at = let l = (its_named).1 in
        still_at_work (at_swapped at p.stocked.0 (name_in found - 1) (subst (λ (z : Start). name_in found - 1 < nodes_of z) at.pass.0 l)) (won_run p.stocked.0 p.stocked.1).2
      where
        its_named : NamesANode m.0.start found
        its_named = subst (λ (k : Start). NamesANode k found) (peeked p goes).start (wins p.stocked.0 p.stocked.1).2

    pub won_named : NamesANode m.0.start found
    won_named = subst (λ (k : Start). NamesANode k found) (peeked p goes).start (wins p.stocked.0 p.stocked.1).2

    pub won_so : {m₃ : Sat} (named : ℕ) → named ≡ name_in found - 1 → Runs m₂ [] m₂.0.work m₂.0.glance Outside 1 m₃ → m₃.1 ≡ m₂.1
        → HasAllocated n file slot named 3 m m₃
    won_so {m₃} named is ended same = subst (λ (z : ℕ). HasAllocated n file slot z 3 m m₃) (sym is) (
      won_named.1,
      same ∙ ((wins p.stocked.0 p.stocked.1).4 ∙ ap rest still_there),
      λ e at. let z = won_run e at in (z.0, z.1, back_outside out (turns_then z.2 ended)),
    )

-- some slots in a row
pub still_then : {m m' m'' : Sat} {n lost a b : ℕ} (file : Closed) → StillPlaces n lost file a m m' → StillPlaces n lost file b m' m'' → StillPlaces n lost file (a + b) m m''
still_then file one two = (does_then one.0 two.0, two.1 ∙ one.1)

pub allocated_then : {m m' m'' : Sat} {n lost a b slot : ℕ} (named : ℕ) {file : Closed} → StillPlaces n lost file a m m' → HasAllocated n file slot named b m' m''
    → HasAllocated n file slot named (a + b) m m''
allocated_then {m} {m'} {m''} {n} {lost} {a} {b} {slot} named {file} one two = (
  subst (λ (k : Start). named < nodes_of k) one.0.start two.0,
  two.1,
  λ e at. let z = two.2 e (ap (λ (l : List ℕ). get_elem? l e) one.0.stock ∙ at) in (
    z.0,
    subst (λ (k : Start). node_of_number k z.0 ≡ n) one.0.start z.1,
    swapped_then e named one.0 (subst (λ (y : Glance × Change). Runs (as_swapped e named m') ([] ▷ Allocate slot (numbered z.0 file)) Idle y.0 y.1 b m'')
        (λ i. (one.0.glance i, one.0.change i)) z.2),
  ),
)

pub still_within : {m m' : Sat} {n lost a b : ℕ} (file : Closed) → a ≤ b → StillPlaces n lost file a m m' → StillPlaces n lost file b m m'
still_within file few one = (runs_within few one.0, one.1)

pub allocated_within : (m m' : Sat) (n slot named : ℕ) (file : Closed) {a b : ℕ} → a ≤ b → HasAllocated n file slot named a m m'
    → HasAllocated n file slot named b m m'
allocated_within m m' n slot named file few one = (one.0, one.1, λ e at. let z = one.2 e at in (z.0, z.1, runs_within few z.2))

pub found_then : {m m' : Sat} (m'' : Sat) {n lost a : ℕ} (b most : ℕ) (file : Closed) (found : Option (ℕ × ℕ)) → a + b ≤ most → StillPlaces n lost file a m m'
    → IfSome found (λ (slot, named). HasAllocated n file slot named b m' m'') → IfSome found (λ (slot, named). HasAllocated n file slot named most m m'')
found_then {m} m'' {n} b most file (Some (slot, named)) few one two = allocated_within m m'' n slot named file few (allocated_then named one two)
found_then m'' b most file None few one two = tt

-- the pass is still to install the file
pub placing_still : {m m' : Sat} {n lost most : ℕ} {file : Closed} → IsPlacing n lost file m → StillPlaces n lost file most m m' → IsPlacing n lost file m'
placing_still p still = grind arith

-- a pass that goes on with another node in its stock
pub swapped_does : {m m' m'' : Sat} {xs ys : List Action} {w w' : Work} {n n' : ℕ} (entry node : ℕ) → Runs m xs w m.0.glance m.0.change n m'
    → Runs (as_swapped entry node m') ys w' m'.0.glance m'.0.change n' m'' → Runs (as_swapped entry node m) (xs ▷▷ ys) w' m.0.glance m.0.change (n + n') m''
swapped_does {m' = m'} {m'' = m''} {ys = ys} {w' = w'} {n' = n'} entry node a b = swapped_then entry node a
    (subst (λ (z : Glance × Change). Runs (as_swapped entry node m') ys w' z.0 z.1 n' m'') (λ i. (a.glance i, a.change i)) b)

-- the entry of a node, after some steps
pub stocked_at : (stock : List ℕ) (m m' : Sat) (e n : ℕ) → stock ≡ (pass_in m).stock → (pass_in m').stock ≡ (pass_in m).stock → get_elem? stock e ≡ some n
    → get_elem? (pass_in m').stock e ≡ some n
stocked_at stock m m' e n its same at = ap (λ (l : List ℕ). get_elem? l e) (same ∙ sym its) ∙ at

-- a pass that has placed a file is about to install it
pub placing_now : {stock : List ℕ} {m m' : Sat} {n lost most : ℕ} (e : ℕ) (file : Closed) {its : Closed} → stock ≡ (pass_in m).stock
    → Runs m [] (Placing n (as_written lost (label_of file))) m.0.glance m.0.change most m' → lost ≤ most_carried → m'.1 ≡ (n, Some file) ∷ []
    → get_elem? stock e ≡ some n → its ≡ file → IsPlacing n lost its m'
placing_now e file same placed few place h7 is = grind (arith, stocked_at)

-- The steps of a search through some groups
pub group_more : (len count most : ℕ) → most ≤ count * group_steps len → most + group_steps len ≤ (count + 1) * group_steps len
group_more len count most = grind (arith, by_size)

pub groups_most : (len count most groups : ℕ) → count ≤ groups → most ≤ count * group_steps len → most ≤ groups * group_steps len
groups_most len count most groups few = grind (arith, by_size)
