-- Histories that grow by one event of a pass.
use Rattle.fx_table.proofs.Words.{◌≡◌, ◌≢◌, ℕ, List, ◌∷◌, sym, refl, ap, ◌∙◌, eq-eqb, ne_eqb, cond, IsSeenBy, held_by, part_of_pass, Event}
use Rattle.fx_table.proofs.Words.{changed_at, by_equality, held_after}

pub part_mine : {p : ℕ} {e : Event} (h : List Event) → e.pass ≡ p → part_of_pass p (e ∷ h) ≡ e ∷ part_of_pass p h
part_mine {p} {e} h is = rw (eq-eqb e.pass p is) refl

pub held_mine : {p : ℕ} (e : Event) (h : List Event) → e.pass ≡ p → held_by (e ∷ h) p ≡ held_after (held_by h p) e.action
held_mine {p} e h is = rw (eq-eqb e.pass p is) refl

-- a property of the changed value, and of each other one as it was, holds for each value
pub each_changed : {Y : Type 0} (P : ℕ → Y → Type 0) (f : ℕ → Y) {k : ℕ} {v : Y} {n : ℕ} → (n ≡ k → P n v) → (n ≢ k → P n (f n))
    → P n (changed_at f k v n)
each_changed P f {k} {v} {n} here else = by_equality n k (λ b. P n (cond b v (f n))) here else

-- the history grew by events of p
pub record Grows (p : ℕ) (h h' : List Event) : Type 0 where
  pub seen : (f : List Event) → IsSeenBy f h → IsSeenBy f h'
  pub parts : (q : ℕ) → p ≢ q → part_of_pass q h' ≡ part_of_pass q h
  pub helds : (q : ℕ) → p ≢ q → held_by h' q ≡ held_by h q

pub grows_none : (p : ℕ) (h : List Event) → Grows p h h
grows_none p h = record { seen = λ f s. s; parts = λ q n. refl; helds = λ q n. refl }

pub grows_more : {p : ℕ} {h h' : List Event} {e : Event} → e.pass ≡ p → Grows p h h' → Grows p h (e ∷ h')
grows_more {h'} {e} by g = record {
  seen = λ f s. let t = g.seen f s in (e ∷ t.0, ap (λ (l : List Event). e ∷ l) t.1);
  parts = λ q n. rw (ne_eqb e.pass q (λ is. n (sym by ∙ is))) (g.parts q n);
  helds = λ q n. rw (ne_eqb e.pass q (λ is. n (sym by ∙ is))) (g.helds q n);
}

pub grows_one : (p : ℕ) (h : List Event) (e : Event) → e.pass ≡ p → Grows p h (e ∷ h)
grows_one p h e by = grows_more by (grows_none p h)
