-- A pass that has no file: it does nothing, or it has found a free node.
use Rattle.fx_lasting.proofs.{◌≡◌, ℕ, ap, ⊎_elim, None, Work, Idle, Searching, HasNoFile, HoldAgrees, held_in, taking, busy}

module _ {w : Work} (free_of : HasNoFile w) where
  pub no_file : held_in w ≡ None
  no_file = ⊎_elim (λ i. ap held_in i) (λ s. ap held_in s.1) free_of

  pub no_take : (n : ℕ) → taking n w ≡ 0
  no_take n = ⊎_elim (λ i. ap (taking n) i) (λ s. ap (taking n) s.1) free_of

  pub not_busy : busy w ≡ 0
  not_busy = ⊎_elim (λ i. ap busy i) (λ s. ap busy s.1) free_of

  -- its hold word names no node, and it owes no charge
  pub holds_none : {word debt : ℕ} → HoldAgrees word debt w → (word ≡ 0) × (debt ≡ 0)
  holds_none h = ⊎_elim (λ (i : w ≡ Idle). rw i at h) (λ (s : (n : ℕ) × (w ≡ Searching n)). rw s.1 at h) free_of
