-- A replacement by a pass that holds the file: what its steps leave.
use Rattle.fx_lasting.proofs.{◌≡◌, ◌≢◌, ◌+◌, ◌-◌, ◌<◌, ◌≤◌, [], sym, ap, ◌∙◌, Ok, Err, some, rest, File, Put, ◌▷◌, Sat, Runs, Miss, Bool, Work, ℕ}
use Rattle.fx_lasting.proofs.{List, refl, subst, arith, Some, Start, Glance, Stepped, Names, name_in, pass_in, account, Closed, held_in, WasIn}
use Rattle.fx_lasting.proofs.{Result, get_elem?, NamesANode, full_name_in, node_of_number, retiring_work, range_at_start, HoldsBesides, is_guarding}
use Rattle.fx_lasting.proofs.{leaving_work, Release, numbered, Outside, IsInStock, as_swapped, nodes_of, FailedIf, IsAtWork, as_written, label_of}
use Rattle.fx_lasting.proofs.{HasItsHold, entry_in, does_then, runs_within, swapped_then, IsBeside, TriedReplaceHeld, TriedRenewal}
use Rattle.fx_lasting.proofs.slot_lemmas.ByNode.{at_once, begun_at, its_own, swapped_acts, stands_then, missed_so, was_before}
use Rattle.fx_lasting.proofs.slot_lemmas.Overtaking.{overtaken_in}
use Rattle.fx_lasting.specs.slots.ByNode.{TriedExchange}
use Rattle.fx_lasting.specs.slots.PutSteps.{ReplacesHeld}
use Rattle.fx_lasting.proofs.node_lemmas.Labelling.{held_besides}
use Rattle.fx_lasting.specs.Ends.{Does}
use Rattle.fx_lasting.specs.declared.answers.Miss.TheVariants.{Again}

-- what a step did that put the pass's file there, from this entry of its stock
abbrev pub Renewed : (m₁ m₂ : Sat) (at found own : ℕ) → Closed → File → ℕ → Type 0
Renewed m₁ m₂ at found own file f e = (number : ℕ) × HasItsHold (is_guarding m₁.0.work) found × Names (node_of_number m₁.0.start) found (Some f)
    × (node_of_number m₁.0.start number ≡ own) × NamesANode m₁.0.start found
    × Stepped (as_swapped e (name_in found - 1) m₁) ([] ▷ Release f ▷ Put at (numbered number file) (Some f)) (leaving_work m₁.0.start (is_guarding m₁.0.work) found f)
    m₁.0.glance (account (range_at_start m₁.0.start) at (Some f)) m₂ × (m₂.1 ≡ rest m₁.1)

-- The last of some tries
module _ {k : Start} {slot at : ℕ} (node found : ℕ) {m m₁ : Sat} (m₂ : Sat) {n : ℕ} (f : File) (holds : held_in m.0.work ≡ Some f) (start : m₁.0.start ≡ k)
    (here : at ≡ slot) (still : Does m [] m.0.work n m₁) (few : n + 1 ≤ 4) (is : full_name_in found ≡ node + 1) where
  pub won_renewal : (own : ℕ) (file : Closed) → IsInStock (pass_in m).stock own
      → ((e : ℕ) → get_elem? (pass_in m₁).stock e ≡ some own → Renewed m₁ m₂ at found own file f e) → rest m₁.1 ≡ []
      → TriedReplaceHeld k slot node own file m (Ok found) m₂
  won_renewal own file stocked wins empty = let z = wins stocked.0 (there stocked.0 stocked.1) in (
    subst (λ (w : Work). HasItsHold (is_guarding w) found) still.work z.1,
    (
      f,
      holds,
      is,
      z.6 ∙ empty,
      subst (λ (y : ℕ). y < nodes_of k) (its_own found node is) (subst (λ (y : Start). name_in found - 1 < nodes_of y) start z.4.1),
      subst (λ (y : Start). Names (node_of_number y) found (Some f)) start z.2,
      λ e its. let y = wins e (there e its) in (
        y.0,
        subst (λ (q : Start). node_of_number q y.0 ≡ own) start y.3,
        runs_within few (swapped_then e node still (subst (λ (q : Start × ℕ × Glance × ℕ × Bool). Runs (as_swapped e q.3 m₁) ([] ▷ Release f ▷ Put q.1 (numbered y.0 file) (Some f))
            (leaving_work q.0 q.4 found f) q.2 Outside 1 m₂) (λ i. (start i, here i, still.glance i, its_own found node is i, is_guarding (still.work i))) (at_once (range_at_start m₁.0.start) at f y.5))),
      ),
    ),
  )
    where
      there : (e : ℕ) → get_elem? (pass_in m).stock e ≡ some own → get_elem? (pass_in m₁).stock e ≡ some own
      there e its = ap (λ (l : List ℕ). get_elem? l e) still.stock ∙ its

-- the exchanges that the pass tried
pub renewed_it : {k : Start} {p : ℕ} {m : Sat} (at : IsAtWork k p m) (slot node own lost new : ℕ) (file : Closed) → IsBeside node own lost file m
    → (r : Result ℕ Miss) (m' : Sat) → TriedExchange ReplacesHeld k slot node (Some new) m r m' → TriedReplaceHeld k slot node own file m r m'
renewed_it at slot node own lost new file b (Ok word) m' w =
    won_renewal node word m' b.held (held_besides b.work) (begun_at at w.still) w.here w.still (omega arith) w.named own file b.stocked
    (λ e there. w.last.wins b.held node own lost e file
    (subst (λ (z : Work). HoldsBesides z b.held node own (as_written lost (label_of file))) (sym w.still.work) b.work)
    (w.places ∙ b.place) there w.first) (ap rest (w.places ∙ b.place))
renewed_it at slot node own lost new file b (Err miss) m' it = it

-- the tries after a load of the slot's word
module _ (k : Start) (slot node own : ℕ) (file : Closed) (m m₁ m₂ : Sat) (saw : WasIn k slot node Again m m₁) (one : Does m [] m.0.work 1 m₁) (home : m₁.1 ≡ m.1) where
  failed_then : (miss : Miss) → FailedIf k slot node miss m₁ m₂ → FailedIf k slot node miss m m₂
  failed_then Again failed = overtaken_in slot m m₁ m₂ m₂ one.number one.start one.seen one.met (one.changes slot) ([], refl) (omega arith) (omega arith) failed
  failed_then _ failed = was_before (pass_in m).front one.seen failed

  pub renewal_failed : (miss : Miss) → TriedReplaceHeld k slot node own file m₁ (Err miss) m₂ → TriedRenewal k slot node own file m (Err miss) m₂
  renewal_failed miss (failed, run, places) = (
    missed_so k slot node m m₁ m₁ m₂ m₂ miss saw failed one.seen run.seen ([], refl),
    failed_then miss failed,
    stands_then one run,
    places ∙ home,
  )

-- the exchange after that load, and the end of the hold
module _ (k : Start) (slot node own : ℕ) (file : Closed) (m m₁ m₂ : Sat) (word : ℕ) (one : Does m [] m.0.work 1 m₁)
    (won : TriedReplaceHeld k slot node own file m₁ (Ok word) m₂) (guards : Bool) (guarding : is_guarding m₁.0.work ≡ guards) where
  left_by : (e : ℕ) → get_elem? (pass_in m₁).stock e ≡ some own → m₂.0.work ≡ leaving_work k guards word won.1.0
  left_by e at = (won.1.6 e at).2.work ∙ ap (λ (b : Bool). leaving_work k b word won.1.0) guarding

  -- what the pass has left
  pub its_left : IsInStock (pass_in m₁).stock own → (f : File) × (m₂.0.work ≡ leaving_work k guards word f)
  its_left stocked = (won.1.0, left_by stocked.0 stocked.1)

  pub its_hold : HasItsHold guards word
  its_hold = subst (λ (b : Bool). HasItsHold b word) guarding won.0

  pub renewal_won : (m₃ : Sat) (found : ℕ) → ((f : File) → m₂.0.work ≡ leaving_work k guards word f → Does m₂ [] (retiring_work k found (Some f)) 1 m₃)
      → full_name_in found ≡ full_name_in word → entry_in found ≡ entry_in word → m₃.1 ≡ m₂.1 → TriedRenewal k slot node own file m (Ok found) m₃
  renewal_won m₃ found ends named entry home = (
    won.1.0,
    sym (ap held_in one.work) ∙ won.1.1,
    named ∙ won.1.2,
    home ∙ won.1.3,
    won.1.4,
    (named ∙ won.1.5.0, entry ∙ won.1.5.1),
    λ e its. let at = ap (λ (l : List ℕ). get_elem? l e) one.stock ∙ its in let z = won.1.6 e at in
        (z.0, z.1, swapped_acts e node one (does_then z.2 (ends won.1.0 (left_by e at)))),
  )

-- a pass that saw at once that the slot's file isn't on the node
pub renewal_missed : (k : Start) (slot node own : ℕ) (file : Closed) (m m₁ : Sat) (miss : Miss) → WasIn k slot node miss m m₁ → miss ≢ Again
    → Does m [] m.0.work 1 m₁ → m₁.1 ≡ m.1 → TriedRenewal k slot node own file m (Err miss) m₁
renewal_missed k slot node own file m m₁ miss was not run home = grind (arith, runs_within)
