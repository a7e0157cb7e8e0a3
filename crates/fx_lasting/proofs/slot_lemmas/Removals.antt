-- A pass that emptied a slot: what the step leaves, and the pass with the stock that it has then.
use Rattle.fx_lasting.proofs.{◌≡◌, ◌≤◌, ◌<◌, ℕ, ◌+◌, ◌-◌, List, [], set, refl, sym, ap, ◌∙◌, subst, Bool, get_elem?, some, Action, ◌▷◌, ◌▷▷◌, Sat}
use Rattle.fx_lasting.proofs.{Start, Work, Glance, Change, Runs, IsAtWork, IsStockOf, TableId, At, as_stocked, pass_in, name_in, nodes_of}
use Rattle.fx_lasting.proofs.{empty_word_of, retiring_work, account, range_at_start, slot_of, slot_place, Nothing, Outside, LastingPass, IsSeatOf}
use Rattle.fx_lasting.proofs.{IsPassOf, Knows, opening_of, view_of, pass_of, doing_in, Use, Adds, Removes, SwapsOut, HasEmptied, Take, slot_back}
use Rattle.fx_lasting.proofs.{runs_one, runs_then, runs_stocked, turns_then, number_is, own_stock, stock_is, still_at_work, at_swapped, at_work_as}
use Rattle.fx_lasting.proofs.{adds_run, goes_on, rests_on, same_flags}

-- the seat of a pass with this stock
pub at_stocked : {k : Start} {p : ℕ} {m : Sat} → IsAtWork k p m → (s : List ℕ) → IsStockOf k p s → IsAtWork k p (as_stocked s m)
at_stocked {m = m} at s its = at_work_as at (pass_in m).listed (pass_in m).asked s its

-- a pass that goes on with another stock
pub stocked_then : {m m' m'' : Sat} {xs ys : List Action} {w w' : Work} {g g' : Glance} {c c' : Change} {n n' : ℕ} (s : List ℕ) → Runs m xs w g c n m'
    → Runs (as_stocked s m') ys w' g' c' n' m'' → Runs (as_stocked s m) (xs ▷▷ ys) w' g' c' (n + n') m''
stocked_then s a b = runs_then (runs_stocked s a) b

module _ {k : Start} {p : ℕ} {m : Sat} (at : IsAtWork k p m) (stock : List ℕ) (its : stock ≡ (pass_in m).stock) where
  -- the event of a step on a slot's word, as its table and slot have it
  module _ (slot found : ℕ) where
    -- the name goes into the stock
    pub by_swap : {st : At} {m' : Sat} → SwapsOut st m found m' → st.word ≡ slot_place slot → (n entry named : ℕ) → get_elem? stock entry ≡ some n
        → st.first ≡ empty_word_of n → named ≡ name_in found - 1 → HasEmptied k slot found (set stock entry named) m m'
    by_swap {st} {m'} did here n entry named there makes is =
        let inside : name_in found - 1 < nodes_of k = subst (λ (z : Start). name_in found - 1 < nodes_of z) at.pass.0 did.named.1 in
        let after = at_swapped at entry (name_in found - 1) inside in
        let stepped = did.stepped n entry (ap (λ (l : List ℕ). get_elem? l entry) (sym its) ∙ there) makes in
        let slot_is : slot_of st.word ≡ slot = ap slot_of here ∙ slot_back slot in
        let same : set (pass_in m).stock entry (name_in found - 1) ≡ set stock entry named = λ i. set (sym its i) entry (sym is i) in
        record {
          file = did.file;
          names = did.names;
          its = subst (λ (n : ℕ). IsStockOf k n (set stock entry named)) (sym (number_is at))
              (subst (IsStockOf k p) (sym (stock_is after) ∙ same) after.stock);
          runs = subst (λ (z : Start × ℕ × List ℕ). Runs (as_stocked z.2 m) ([] ▷ Take z.1 did.file) (retiring_work z.0 found did.file) m.0.glance
              (account (range_at_start z.0) z.1 did.file) 1 m') (λ i. (at.pass.0 i, slot_is i, same i)) (runs_one stepped);
        }

    -- the name stays at the slot
    pub by_removal : {st : At} {m' : Sat} → Removes st m found m' → st.word ≡ slot_place slot → HasEmptied k slot found stock m m'
    by_removal {st} {m'} did here =
        let slot_is : slot_of st.word ≡ slot = ap slot_of here ∙ slot_back slot in
        let run : Runs (as_stocked (pass_in m).stock m) ([] ▷ Take (slot_of st.word) did.file) (retiring_work m.0.start found did.file) m.0.glance
        (account (range_at_start m.0.start) (slot_of st.word) did.file) 1 m' = assumption (runs_one did.stepped) in record {
          file = did.file;
          names = did.names;
          its = subst (λ (z : ℕ × List ℕ). IsStockOf k z.0 z.1) (λ i. (sym (number_is at) i, sym its i)) (own_stock at);
          runs = subst (λ (z : Start × ℕ × List ℕ). Runs (as_stocked z.2 m) ([] ▷ Take z.1 did.file) (retiring_work z.0 found did.file) m.0.glance
              (account (range_at_start z.0) z.1 did.file) 1 m') (λ i. (at.pass.0 i, slot_is i, sym its i)) run;
        }

-- the pass goes on
module _ {k : Start} {p : ℕ} {m₁ m₂ : Sat} {slot found : ℕ} {stock : List ℕ} (at : IsAtWork k p m₁)
    (e : HasEmptied k slot found stock m₁ m₂) where
  pub emptied_stock : IsStockOf k p stock
  emptied_stock = subst (λ (n : ℕ). IsStockOf k n stock) (number_is at) e.its

  pub emptied_at_work : IsAtWork k p m₂
  emptied_at_work = still_at_work (at_stocked at stock emptied_stock) e.runs

  -- between the two steps on its group's word, if there are such
  pub emptied_around : {m m₃ : Sat} {w : Work} {g : Glance} {c : Change} → Runs m [] w g c 3 m₁ → Runs m₂ [] m₂.0.work m₂.0.glance Outside 1 m₃
      → Runs (as_stocked stock m) ([] ▷ Take slot e.file) (retiring_work k found e.file) g Outside 5 m₃
  emptied_around began ended = turns_then (stocked_then stock began (subst (λ (z : Glance). Runs (as_stocked stock m₁) ([] ▷ Take slot e.file)
      (retiring_work k found e.file) z (account (range_at_start k) slot e.file) 1 m₂) began.glance e.runs)) ended

-- a pass that has another stock now
module _ {id : TableId} {k : Start} {p : LastingPass} (seated : IsSeatOf id k p) (s : List ℕ) where
  pub adds_stocked : {m' : Sat} {xs : List Action} {w : Work} {g : Glance} {c : Change} {n : ℕ} → Runs (as_stocked s p.seat.me) xs w g c n m' → (used : Use)
      → Adds (opening_of k) (view_of p) xs (doing_in w) used (pass_of m'.0)
  adds_stocked = adds_run (as_stocked s p.seat.me) seated.at.pass.0

  pub stocked_pass : IsStockOf k p.number s → (q : LastingPass) {xs : List Action} {w : Work} {n : ℕ} → Runs (as_stocked s p.seat.me) xs w Nothing Outside n q.seat.me
      → (q.number ≡ p.number) × ◌≡◌ {A = Bool × Bool} (q.listed, q.sure) (p.listed, p.sure) → q.seat.table_id ≡ p.seat.table_id → q.seat.me.1 ≡ []
      → (q.stock.items ≡ s) × (q.number ≤ k.installing → q.next_entry < k.passes)
      → Knows k.passes q w → IsPassOf id k q
  stocked_pass its q r same table places stocked =
      let at = at_stocked seated.at s its in
      rests_on at q r (goes_on at q r refl same.0 (table ∙ seated.table) places stocked (same_flags seated q same.1)) refl
