-- The number of full slots when a slot changes, and of a table's files.
use Rattle.fx_table.proofs.Words.{common_steps, ◌≡◌, ◌≢◌, ℕ, zero, suc, ◌+◌, ◌<◌, ◌≤◌, length, arith, dite, ℕ_discrete, changed_at, refl, State, File}
use Rattle.fx_table.proofs.Words.{Option, IsSome, changed_here, changed_else, file_numbered, files_in_order, identities_of, if_full, full_in}
use Rattle.fx_table.proofs.Words.{first_at}

module _ (at : ℕ → Option File) (s : ℕ) (new : Option File) where
  pub full_else : (off len : ℕ) → ((i : ℕ) → i < len → off + i ≢ s) → full_in (changed_at at s new) off len ≡ full_in at off len
  full_else off zero other = refl
  full_else off (suc len) other =
      rw (full_else off len (λ i l. other i (omega arith)), changed_else at s new (off + len) (other len (omega arith))) refl

  pub full_here : (off len : ℕ) → off ≤ s → s < off + len
      → full_in (changed_at at s new) off len + if_full (at s) ≡ full_in at off len + if_full new
  full_here off zero a b = absurd (omega arith)
  full_here off (suc len) a b = dite (ℕ_discrete (off + len) s)
      (grind (arith, full_else, changed_here))
      (λ else. let c = full_here off len a (omega arith) in rw (changed_else at s new (off + len) else) (omega arith))

pub full_one : (found : Option File) → if_full found ≤ 1
full_one found = grind arith

module _ (at : ℕ → Option File) (off : ℕ) where
  pub full_few : (len : ℕ) → full_in at off len ≤ len
  full_few zero = omega arith
  full_few (suc len) = let a = full_few len in let b = full_one (at (off + len)) in omega arith

  -- a range that has as many full slots as slots has no empty one
  pub full_all : (len : ℕ) → full_in at off len ≡ len → (slot : ℕ) → off ≤ slot → slot < off + len → IsSome (at slot)
  full_all zero e slot low high = absurd (omega arith)
  full_all (suc len) e slot low high = let a = full_few len in let b = full_one (at (off + len)) in dite (ℕ_discrete slot (off + len)) (grind arith)
      (λ else. full_all len (omega arith) slot low (omega arith))

as_many : (found : Option File) (slot : ℕ) → length (identities_of found) ≡ if_full (file_numbered found slot)
as_many found slot = grind arith

-- the files of the first slots, and the full ones of these slots
pub all_counted : (st : State) (n : ℕ) → length (files_in_order st.at n) ≡ full_in (first_at st) 0 n
all_counted st zero = refl
all_counted st (suc n) = grind (arith, all_counted st n, common_steps, as_many)
